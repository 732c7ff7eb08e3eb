-- A lowered unit is the unit with slots, where calls pass these, under other names.
use Rattle.std.proofs.Common.{◌≡◌, ℕ, suc, Bool, true, false, List, [], ◌∷◌, ◌++◌, map, refl, sym, ap, ◌∙◌, subst, if◌then◌else◌}
use Rattle.std.specs.Prelude.{length, ◌||◌, ◌==◌}
use Rattle.adj_tree.specs.Code.{Var, plain, shadow, helper, name_eq, var, Terms, none, more, Act, assign, choose, loop, during, call, runtime, Code, stop, step, Extent, fixed, given, Declaration, Procedure}
use Rattle.adj_tree.proofs.Names.{nat_same, name_refl, name_same}
use Rattle.def_meaning.specs.Apart.{has_name, AreApart}
use Rattle.def_meaning.specs.Units.{declared}
use Rattle.def_meaning.specs.Rename.{rename_term, rename_terms, rename_act, rename}
use Rattle.def_meaning.specs.Seen.{Separates}
use Rattle.def_meaning.proofs.Booleans.{or_false}
use Rattle.def_meaning.proofs.Variables.{name_comm}
use Rattle.adj_tree.specs.Common.{Shared}
use Rattle.def_common.specs.Blocks.{used_blocks}
use Rattle.def_common.specs.Members.{Member, member_names, member_slots, block_members, slots_for, names_of_blocks, members, owned, swapped, swap, swapped_extent, swapped_declaration}
use Rattle.def_common.specs.Slots.{slot_declarations, shared_unit}
use Rattle.def_common.specs.Lowering.{behind}
use Rattle.law_common.specs.Passing.{passed_act, passed, passed_unit, EachCall', EachCall}
use Rattle.def_common.specs.Lowering.{item_extents, with_extents, is_declared_so, new_declarations, lowered_act, lowered, lowered_unit}
use Rattle.law_common.specs.Renaming.{AreNewNames, AreNewExtents, IsRenamed}
use Rattle.law_common.specs.Lowers.{Each, EachInAct, EachIn, RenamesUnit}
use Rattle.law_common.proofs.Swapping.{test_agrees, one_agrees, terms_agree, runtime_agrees, mark_agrees, swap_separates, swapped_twice, Apart, name_at, slot_at}
use Rattle.law_common.proofs.Laying.{declared_names, declared_front, declared_behind, laid_names, slots_laid, slot_extents, each_map}

-- ---- dummies

others_apart : (m : Member) (ms : List Member) → Apart (m ∷ ms) → Each (λ l. has_name l.name (member_names ms) ≡ true) ms → Each (λ l. (name_eq m.name l.name ≡ false) × (name_eq m.slot l.name ≡ false)) ms
others_apart m ms h all = go ms all
  where
    no_name : (x : List ℕ) → has_name x (member_names ms) ≡ true → (y : List ℕ) → has_name y (member_names ms) ≡ false → (b : Bool) → name_eq y x ≡ b → b ≡ false
    no_name x k y j true e = absurd (let z : true ≡ false = sym k ∙ ap (λ z. has_name z (member_names ms)) (sym (name_same y x e)) ∙ j in cc)
    no_name x k y j false e = refl

    first_name : has_name m.name (member_names ms) ≡ false
    first_name = front (member_names ms) h.0
      where
        front : (xs : List (List ℕ)) → has_name m.name (xs ++ (m.slot ∷ member_slots ms)) ≡ false → has_name m.name xs ≡ false
        front [] e = refl
        front (x ∷ xs) e = let p = or_false (name_eq m.name x) (has_name m.name (xs ++ (m.slot ∷ member_slots ms))) e in ap (λ b. b || has_name m.name xs) p.0 ∙ front xs p.1

    first_slot : has_name m.slot (member_names ms) ≡ false
    first_slot = cross (member_names ms) h.1
      where
        none : (x : List ℕ) (xs : List (List ℕ)) → has_name x (xs ++ (m.slot ∷ member_slots ms)) ≡ false → name_eq x m.slot ≡ false
        none x [] e = (or_false (name_eq x m.slot) (has_name x (member_slots ms)) e).0
        none x (y ∷ xs) e = none x xs (or_false (name_eq x y) (has_name x (xs ++ (m.slot ∷ member_slots ms))) e).1

        cross : (xs : List (List ℕ)) → AreApart (xs ++ (m.slot ∷ member_slots ms)) → has_name m.slot xs ≡ false
        cross [] e = refl
        cross (x ∷ xs) e = ap (λ b. b || has_name m.slot xs) (name_comm x m.slot (none x xs e.0)) ∙ cross xs e.1

    go : (l : List Member) → Each (λ l. has_name l.name (member_names ms) ≡ true) l → Each (λ l. (name_eq m.name l.name ≡ false) × (name_eq m.slot l.name ≡ false)) l
    go [] k = tt
    go (x ∷ l) k = ((no_name x.name k.0 m.name first_name (name_eq m.name x.name) refl, no_name x.name k.0 m.slot first_slot (name_eq m.slot x.name) refl), go l k.1)

each_there : (ms : List Member) → Each (λ l. has_name l.name (member_names ms) ≡ true) ms
each_there [] = tt
each_there (m ∷ ms) = (ap (λ b. b || has_name m.name (member_names ms)) (name_refl m.name), go ms (each_there ms))
  where
    one : {a : Bool} (b : Bool) → a ≡ true → (b || a) ≡ true
    one true h = refl
    one false h = h

    go : (l : List Member) → Each (λ l. has_name l.name (member_names ms) ≡ true) l → Each (λ l. has_name l.name (m.name ∷ member_names ms) ≡ true) l
    go [] h = tt
    go (x ∷ l) h = (one (name_eq x.name m.name) h.0, go l h.1)

-- each member's name becomes its slot
pub to_slots : (ms : List Member) → AreApart (member_names ms ++ member_slots ms) → Each (λ m. swapped ms m.name ≡ m.slot) ms
to_slots [] h = tt
to_slots (m ∷ ms) h = (ap (λ b. if b then m.slot else (if name_eq m.slot m.name then m.name else swapped ms m.name)) (name_refl m.name), go ms (others_apart m ms h (each_there ms)) (to_slots ms (rest (member_names ms) h.1)))
  where
    rest : (xs : List (List ℕ)) → AreApart (xs ++ (m.slot ∷ member_slots ms)) → AreApart (xs ++ member_slots ms)
    rest [] e = e.1
    rest (x ∷ xs) e = (skip xs e.0, rest xs e.1)
      where
        skip : (xs : List (List ℕ)) → has_name x (xs ++ (m.slot ∷ member_slots ms)) ≡ false → has_name x (xs ++ member_slots ms) ≡ false
        skip [] k = (or_false (name_eq x m.slot) (has_name x (member_slots ms)) k).1
        skip (y ∷ xs) k = let p = or_false (name_eq x y) (has_name x (xs ++ (m.slot ∷ member_slots ms))) k in ap (λ b. b || has_name x (xs ++ member_slots ms)) p.0 ∙ skip xs p.1

    go : (l : List Member) → Each (λ l. (name_eq m.name l.name ≡ false) × (name_eq m.slot l.name ≡ false)) l → Each (λ l. swapped ms l.name ≡ l.slot) l → Each (λ l. swapped (m ∷ ms) l.name ≡ l.slot) l
    go [] a b = tt
    go (x ∷ l) a b = ((λ i. if a.0.0 i then m.slot else (if a.0.1 i then m.name else swapped ms x.name)) ∙ b.0, go l a.1 b.1)

new_members : (r : Var → Var) (ms : List Member) → Each (λ m. r (plain m.name) ≡ plain m.slot) ms → AreNewNames r (member_slots ms) (member_names ms)
new_members r [] h = tt
new_members r (m ∷ ms) h = (h.0, new_members r ms h.1)

new_dummies : (r : Var → Var) (own es ds : List (List ℕ)) → Each (λ d. r (plain d) ≡ plain d) own → AreNewNames r es ds → AreNewNames r (own ++ es) (own ++ ds)
new_dummies r [] es ds h k = k
new_dummies r (d ∷ own) es ds h k = (h.0, new_dummies r own es ds h.1 k)

-- ---- bodies

module _ (ps : List Shared) (ms : List Member) (apart : AreApart (member_names ms ++ member_slots ms)) where
  slots_back : (sl : List (List ℕ)) → behind none sl ≡ rename_terms (swap ms) (behind none (map (swapped ms) sl))
  slots_back [] = refl
  slots_back (x ∷ sl) = λ i. more (var (plain (sym (swapped_twice ms apart x) i))) (slots_back sl i)

  behind_back : (args : Terms) (sl : List (List ℕ)) → behind (rename_terms (swap ms) args) sl ≡ rename_terms (swap ms) (behind args (map (swapped ms) sl))
  behind_back none sl = slots_back sl
  behind_back (more e es) sl = ap (more (rename_term (swap ms) e)) (behind_back es sl)

  abbrev Stays : Var → Type 0
  Stays x = swap (owned ms) x ≡ swap ms x

  -- a call passes the members that stand for slots
  abbrev Handed : List ℕ → Terms → Type 0
  Handed name args = names_of_blocks ms (used_blocks ps name) ≡ map (swapped ms) (slots_for ps name)

  mutual
    act_back : (a : Act) → EachInAct Stays a → EachCall' Handed a → passed_act (slots_for ps) (rename_act (swap (owned ms)) a) ≡ rename_act (swap ms) (lowered_act ps ms a)
    act_back (assign x subs e) h k = λ i. assign (h.0 i) (terms_agree (swap (owned ms)) (swap ms) subs h.1.0 i) (one_agrees (swap (owned ms)) (swap ms) e h.1.1 i)
    act_back (choose c a b) h k = λ i. choose (test_agrees (swap (owned ms)) (swap ms) c h.0 i) (body_back a h.1.0 k.0 i) (body_back b h.1.1 k.1 i)
    act_back (loop x first last by body m) h k =
        λ i. loop (h.0 i) (one_agrees (swap (owned ms)) (swap ms) first h.1.0 i) (one_agrees (swap (owned ms)) (swap ms) last h.1.1.0 i) (one_agrees (swap (owned ms)) (swap ms) by h.1.1.1.0 i) (body_back body h.1.1.1.1.0 k i) (mark_agrees (swap (owned ms)) (swap ms) m h.1.1.1.1.1 i)
    act_back (during c body) h k = λ i. during (test_agrees (swap (owned ms)) (swap ms) c h.0 i) (body_back body h.1 k i)
    act_back (call name args) h k = ap (call name) (ap (λ l. behind l (slots_for ps name)) (terms_agree (swap (owned ms)) (swap ms) args h) ∙ behind_back args (slots_for ps name) ∙ ap (λ l. rename_terms (swap ms) (behind args l)) (sym k))
    act_back (runtime c) h k = ap runtime (runtime_agrees (swap (owned ms)) (swap ms) c h)

    pub body_back : (c : Code) → EachIn Stays c → EachCall Handed c → passed (slots_for ps) (rename (swap (owned ms)) c) ≡ rename (swap ms) (lowered ps ms c)
    body_back stop h k = refl
    body_back (step line a rest) h k = λ i. step line (act_back a h.0 k.0 i) (body_back rest h.1 k.1 i)

-- ---- declarations

-- of renamed declarations
declared_renamed : (ms : List Member) → Separates (swap ms) → (ds : List Declaration) (x : List ℕ) → declared (map (swapped_declaration ms) ds) (plain (swapped ms x)) ≡ map (swapped_extent ms) (declared ds (plain x))
declared_renamed ms sep [] x = refl
declared_renamed ms sep (d ∷ ds) x =
    ap (λ b. if b then map (swapped_extent ms) d.extents else declared (map (swapped_declaration ms) ds) (plain (swapped ms x))) (sep.at (plain x) (plain d.name)) ∙ go (name_eq x d.name) (declared_renamed ms sep ds x)
  where
    go : (b : Bool) → declared (map (swapped_declaration ms) ds) (plain (swapped ms x)) ≡ map (swapped_extent ms) (declared ds (plain x)) → (if b then map (swapped_extent ms) d.extents else declared (map (swapped_declaration ms) ds) (plain (swapped ms x))) ≡ map (swapped_extent ms) (if b then d.extents else declared ds (plain x))
    go true r = refl
    go false r = r

pub no_item : (ms : List Member) (x : List ℕ) → has_name x (member_names ms) ≡ false → item_extents ms x ≡ []
no_item [] x h = refl
no_item (m ∷ ms) x h = let p = or_false (name_eq x m.name) (has_name x (member_names ms)) h in ap (λ b. if b then m.item else item_extents ms x) (name_comm x m.name p.0) ∙ no_item ms x p.1

pub none_new : (u : Procedure) (ms : List Member) (x : List ℕ) → has_name x (member_names ms) ≡ false → declared (new_declarations u ms) (plain x) ≡ []
none_new u [] x h = refl
none_new u (m ∷ ms) x h = go (is_declared_so u m) (or_false (name_eq x m.name) (has_name x (member_names ms)) h).0 (none_new u ms x (or_false (name_eq x m.name) (has_name x (member_names ms)) h).1)
  where
    go : (b : Bool) → name_eq x m.name ≡ false → declared (new_declarations u ms) (plain x) ≡ [] → declared (if b then record { line = m.line; name = m.name; extents = if m.own then m.item else m.extents } ∷ new_declarations u ms else new_declarations u ms) (plain x) ≡ []
    go true e r = ap (λ c. if c then (if m.own then m.item else m.extents) else declared (new_declarations u ms) (plain x)) e ∙ r
    go false e r = r

-- of what is no member nothing changes
as_before : (u : Procedure) (ms : List Member) (ds : List Declaration) (x : List ℕ) → has_name x (member_names ms) ≡ false → declared (map (with_extents ms) ds ++ new_declarations u ms) (plain x) ≡ declared ds (plain x)
as_before u ms [] x h = none_new u ms x h
as_before u ms (d ∷ ds) x h = go (length d.extents == 0) refl (as_before u ms ds x h)
  where
    empty : (es : List Extent) → (length es == 0) ≡ true → es ≡ []
    empty [] e = refl
    empty (y ∷ es) e = absurd (let z : suc (length es) ≡ 0 = nat_same (suc (length es)) 0 e in cc)

    other : (b : Bool) → name_eq x d.name ≡ b → (length d.extents == 0) ≡ true → declared (map (with_extents ms) ds ++ new_declarations u ms) (plain x) ≡ declared ds (plain x) → (if b then item_extents ms d.name else declared (map (with_extents ms) ds ++ new_declarations u ms) (plain x)) ≡ (if b then d.extents else declared ds (plain x))
    other true e k r = ap (item_extents ms) (sym (name_same x d.name e)) ∙ no_item ms x h ∙ sym (empty d.extents k)
    other false e k r = r

    same : (b : Bool) → declared (map (with_extents ms) ds ++ new_declarations u ms) (plain x) ≡ declared ds (plain x) → (if b then d.extents else declared (map (with_extents ms) ds ++ new_declarations u ms) (plain x)) ≡ (if b then d.extents else declared ds (plain x))
    same true r = refl
    same false r = r

    go : (b : Bool) → (length d.extents == 0) ≡ b → declared (map (with_extents ms) ds ++ new_declarations u ms) (plain x) ≡ declared ds (plain x) → declared ((if b then record d { extents = item_extents ms d.name } else d) ∷ (map (with_extents ms) ds ++ new_declarations u ms)) (plain x) ≡ declared (d ∷ ds) (plain x)
    go true e r = other (name_eq x d.name) refl e r
    go false e r = same (name_eq x d.name) r

new_extents : (ms : List Member) (es : List Extent) → AreNewExtents (swap ms) (map (swapped_extent ms) es) es
new_extents ms [] = tt
new_extents ms (fixed z ∷ es) = (refl, new_extents ms es)
new_extents ms (given x ∷ es) = (refl, new_extents ms es)

literal_extents : (r : Var → Var) (zs : List _) → AreNewExtents r (map fixed zs) (map fixed zs)
literal_extents r [] = tt
literal_extents r (z ∷ zs) = (refl, literal_extents r zs)

-- a variable that isn't one of the text has no extents
declared_shadow : (ds : List Declaration) (x : List ℕ) → declared ds (shadow x) ≡ []
declared_shadow [] x = refl
declared_shadow (d ∷ ds) x = declared_shadow ds x

declared_helper : (ds : List Declaration) (o : _) (k : ℕ) → declared ds (helper o k) ≡ []
declared_helper [] o k = refl
declared_helper (d ∷ ds) o k = declared_helper ds o k

module _ (ps : List Shared) (s : Shared) (h : RenamesUnit ps s) where
  abbrev ms : List Member
  ms = members ps s

  abbrev slots_there : List Declaration
  slots_there = slot_declarations ps s.unit.name

  abbrev unit' : Procedure
  unit' = passed_unit (slots_for ps) (shared_unit ps s)

  renamed_alike : (ds : List Declaration) → Each (λ d. swapped_declaration (owned ms) d ≡ swapped_declaration ms d) ds → map (swapped_declaration (owned ms)) ds ≡ map (swapped_declaration ms) ds
  renamed_alike [] e = refl
  renamed_alike (d ∷ ds) e = λ i. e.0 i ∷ renamed_alike ds e.1 i

  -- the same extents are declared
  one_alike : (x : List ℕ) (b : Bool) → has_name x (member_names ms) ≡ b → AreNewExtents (swap ms) (declared unit'.declarations (plain (swapped ms x))) (declared (lowered_unit ps s).declarations (plain x))
  one_alike x true e =
      let m = name_at (λ m. declared (lowered_unit ps s).declarations (plain m.name) ≡ declared slots_there (plain m.slot)) ms h.apart h.placed x e in
      let there : has_name m.member.slot (slots_for ps s.unit.name) ≡ true = ap (has_name m.member.slot) (sym h.slots) ∙ m.among in
      let at = slots_laid ps (used_blocks ps s.unit.name) h.layout m.member.slot there in
      let first : declared unit'.declarations (plain m.member.slot) ≡ declared slots_there (plain m.member.slot) = declared_front slots_there (map (swapped_declaration (owned ms)) s.unit.declarations) m.member.slot (ap (has_name m.member.slot) (laid_names (block_members ps (used_blocks ps s.unit.name))) ∙ there) in
      subst (λ y. AreNewExtents (swap ms) (declared unit'.declarations (plain y)) (declared (lowered_unit ps s).declarations (plain x))) (sym m.slot)
      (subst (λ es. AreNewExtents (swap ms) es (declared (lowered_unit ps s).declarations (plain x))) (sym (first ∙ at.is))
      (subst (λ es. AreNewExtents (swap ms) (map fixed (slot_extents ps m.member.slot)) es) (sym (ap (λ y. declared (lowered_unit ps s).declarations (plain y)) (sym m.name) ∙ m.is ∙ at.is))
      (literal_extents (swap ms) (slot_extents ps m.member.slot))))
  one_alike x false e =
      subst (λ es. AreNewExtents (swap ms) es (declared (lowered_unit ps s).declarations (plain x)))
      (sym (declared_behind slots_there (map (swapped_declaration (owned ms)) s.unit.declarations) (swapped ms x) (no_slot (has_name (swapped ms x) (declared_names slots_there)) refl) ∙ ap (λ l. declared l (plain (swapped ms x))) (renamed_alike s.unit.declarations h.declarations) ∙ declared_renamed ms (swap_separates ms h.apart) s.unit.declarations x))
      (subst (λ es. AreNewExtents (swap ms) (map (swapped_extent ms) (declared s.unit.declarations (plain x))) es) (sym (as_before s.unit ms s.unit.declarations x e)) (new_extents ms (declared s.unit.declarations (plain x))))
    where
      no_slot : (b : Bool) → has_name (swapped ms x) (declared_names slots_there) ≡ b → b ≡ false
      no_slot false k = refl
      no_slot true k =
          let there : has_name (swapped ms x) (member_slots ms) ≡ true = ap (has_name (swapped ms x)) (h.slots ∙ sym (laid_names (block_members ps (used_blocks ps s.unit.name)))) ∙ k in
          let back : has_name x (member_names ms) ≡ true = ap (λ y. has_name y (member_names ms)) (sym (swapped_twice ms h.apart x)) ∙ slot_at ms h.apart (swapped ms x) there in
          sym back ∙ e

  alike : (x : Var) → AreNewExtents (swap ms) (declared unit'.declarations (swap ms x)) (declared (lowered_unit ps s).declarations x)
  alike (plain x) = one_alike x (has_name x (member_names ms)) refl
  alike (shadow x) = subst (λ es. AreNewExtents (swap ms) es (declared (lowered_unit ps s).declarations (shadow x))) (sym (declared_shadow unit'.declarations x)) (subst (AreNewExtents (swap ms) []) (sym (declared_shadow (lowered_unit ps s).declarations x)) tt)
  alike (helper o k) = subst (λ es. AreNewExtents (swap ms) es (declared (lowered_unit ps s).declarations (helper o k))) (sym (declared_helper unit'.declarations o k)) (subst (AreNewExtents (swap ms) []) (sym (declared_helper (lowered_unit ps s).declarations o k)) tt)

  -- so the lowered unit is the unit that passes slots, under other names
  pub unit_renamed : IsRenamed (swap ms) unit' (lowered_unit ps s)
  unit_renamed = record {
    separates = swap_separates ms h.apart;
    line = refl;
    name = refl;
    dummies =
        subst (λ l. AreNewNames (swap ms) (s.unit.dummies ++ l) (s.unit.dummies ++ member_names ms)) h.slots
        (new_dummies (swap ms) s.unit.dummies (member_slots ms) (member_names ms) (each_map _ _ (λ d p. ap plain p.0) s.unit.dummies h.dummies)
        (new_members (swap ms) ms (each_map _ _ (λ m p. ap plain p) ms (to_slots ms h.apart))));
    declares = alike;
    body = body_back ps ms h.apart s.unit.body h.body h.handed;
  }
