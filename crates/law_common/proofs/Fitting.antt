-- Blocks' members have extents that an array may have, and units' members have those of their slots.
use Rattle.std.proofs.Common.{◌≡◌, ℕ, suc, ◌+◌, Bool, true, false, List, [], ◌∷◌, ◌++◌, map, refl, sym, ap, ◌∙◌, subst, arith, if◌then◌else◌}
use Rattle.std.proofs.lemmas.List.{map-append}
use Rattle.std.specs.Prelude.{ℤ, pos, int_lt, int_le, ◌*ℤ◌, length, ◌&&◌, ◌||◌, ◌==◌, Option, Some, None}
use Rattle.std.specs.List.{list_any}
use Rattle.adj_tree.specs.Code.{plain, name_eq, var_eq, Var, Extent, fixed, given, Declaration, Procedure}
use Rattle.adj_tree.proofs.Names.{name_refl, name_same}
use Rattle.def_meaning.specs.Apart.{has_name, AreApart}
use Rattle.def_meaning.specs.Units.{declared, shape_of, are_extents, elements, shape_fits}
use Rattle.def_meaning.proofs.Booleans.{or_false, or_first, or_second}
use Rattle.def_meaning.proofs.Variables.{name_comm}
use Rattle.def_names.specs.Fresh.{fresh}
use Rattle.def_names.specs.NameFaults.{literal_product, is_bad_extent, has_bad_extents}
use Rattle.adj_tree.specs.Common.{Common, Shared}
use Rattle.def_common.specs.Blocks.{items_of, extents_in, declares, layout, blocks, first_declaring, find_shared, calls_some, found_uses, uses_after, uses, chosen, used_blocks}
use Rattle.def_common.specs.Members.{Member, member_names, member_slots, own_items, own_members, found_members, block_members, passed_members, members_from, members, taken_in}
use Rattle.def_common.specs.Refused.{found_layout, first_layout}
use Rattle.law_common.specs.Lowers.{Each, literals}
use Rattle.law_common.proofs.Laying.{each_append, each_front, each_behind, laid}
use Rattle.law_common.proofs.Literal.{IsLiteral}
use Rattle.law_common.proofs.Using.{all_rounds}

-- ---- good extents

-- extents without a fault
abbrev pub Good : Procedure → List Extent → Type 0
Good u es = (list_any (is_bad_extent u) es ≡ false) × (int_lt (pos 1048576) (literal_product es) ≡ false)

-- extents that an array may have
abbrev pub Fits : List Extent → Type 0
Fits es = (length (literals es) == 0 || shape_fits (literals es) (shape_of (literals es))) ≡ true

pub declared_good : (u : Procedure) (ds : List Declaration) → Each (λ d. has_bad_extents u d ≡ false) ds → (x : Var) → Good u (declared ds x)
declared_good u [] h x = (refl, refl)
declared_good u (d ∷ ds) h x = go (var_eq x (plain d.name)) (declared_good u ds h.1 x)
  where
    go : (b : Bool) → Good u (declared ds x) → Good u (if b then d.extents else declared ds x)
    go true r =
        let p = or_false (list_any (is_bad_extent u) d.extents) _ h.0 in
        let q = or_false (int_lt (pos 1048576) (literal_product d.extents)) _ p.1 in
        (p.0, q.0)
    go false r = r

not_less : (a b : ℤ) → int_lt a b ≡ false → int_le b a ≡ true
not_less a b h = grind arith

all_positive : (u : Procedure) (es : List Extent) → IsLiteral es → list_any (is_bad_extent u) es ≡ false → are_extents (literals es) ≡ true
all_positive u [] l h = refl
all_positive u (fixed z ∷ es) l h =
    let p = or_false (int_lt z (pos 1)) (list_any (is_bad_extent u) es) h in
    ap (λ b. b && are_extents (literals es)) (not_less z (pos 1) p.0) ∙ all_positive u es l.1 p.1
all_positive u (given x ∷ es) l h = absurd (let z : false ≡ true = l.0 in cc)

product_same : (es : List Extent) → IsLiteral es → elements (literals es) ≡ literal_product es
product_same [] l = refl
product_same (fixed z ∷ es) l = ap (λ y. z *ℤ y) (product_same es l.1)
product_same (given x ∷ es) l = absurd (let z : false ≡ true = l.0 in cc)

same_number : (n : ℕ) → (n == n) ≡ true
same_number n = grind arith

pub good_fits : (u : Procedure) (es : List Extent) → IsLiteral es → Good u es → Fits es
good_fits u es l g =
    or_second (length (literals es) == 0) (shape_fits (literals es) (shape_of (literals es)))
    ((λ i. all_positive u es l g.0 i && ((ap (λ z. int_le z (pos 1048576)) (product_same es l) ∙ not_less (pos 1048576) (literal_product es) g.1) i && (same_number (shape_of (literals es)).rows i && same_number (shape_of (literals es)).cols i))))

-- ---- a block's first declaring unit uses it

pub uses_own : (ps : List Shared) (t : Shared) (b : List ℕ) → find_shared ps t.unit.name ≡ Some t → declares b t ≡ true → uses ps t.unit.name b ≡ true
uses_own ps t b e d =
    sym (all_rounds ps b t.unit.name) ∙ ap (found_uses (λ s. declares b s || calls_some (uses_after ps b (length ps)) s.unit.body)) e ∙ or_first (declares b t) (calls_some (uses_after ps b (length ps)) t.unit.body) d

chosen_has : (f : List ℕ → Bool) (bs : List (List ℕ)) (b : List ℕ) → has_name b bs ≡ true → f b ≡ true → has_name b (chosen f bs) ≡ true
chosen_has f [] b h k = absurd cc
chosen_has f (c ∷ bs) b h k = go (name_eq b c) refl (f c) refl h (λ j. chosen_has f bs b j k)
  where
    go : (p : Bool) → name_eq b c ≡ p → (q : Bool) → f c ≡ q → (p || has_name b bs) ≡ true → (has_name b bs ≡ true → has_name b (chosen f bs) ≡ true) → has_name b (if q then c ∷ chosen f bs else chosen f bs) ≡ true
    go true e true g j r = or_first (name_eq b c) (has_name b (chosen f bs)) e
    go true e false g j r = absurd (let z : true ≡ false = sym k ∙ ap f (name_same b c e) ∙ g in cc)
    go false e true g j r = or_second (name_eq b c) (has_name b (chosen f bs)) (r j)
    go false e false g j r = r j

-- so its members of the block are among its members
own_within : (ps : List Shared) (t : Shared) (P : Member → Type 0) (b : List ℕ) → declares b t ≡ true → (taken : List (List ℕ)) (bs : List (List ℕ)) → has_name b bs ≡ true → Each P (members_from ps t taken bs) → Each P (own_members t.unit b 1 t.commons)
own_within ps t P b d taken [] h k = absurd cc
own_within ps t P b d taken (c ∷ bs) h k = go (name_eq b c) refl h (λ j. own_within ps t P b d (member_names (those (declares c t)) ++ taken) bs j (each_behind P (those (declares c t)) (members_from ps t (member_names (those (declares c t)) ++ taken) bs) k))
  where
    those : Bool → List Member
    those p = if p then own_members t.unit c 1 t.commons else passed_members t.unit.line taken (found_members c (first_declaring c ps))

    go : (p : Bool) → name_eq b c ≡ p → (p || has_name b bs) ≡ true → (has_name b bs ≡ true → Each P (own_members t.unit b 1 t.commons)) → Each P (own_members t.unit b 1 t.commons)
    go true e j r =
        let same = name_same b c e in
        let here = each_front P (those (declares c t)) (members_from ps t (member_names (those (declares c t)) ++ taken) bs) k in
        subst (λ x. Each P (own_members t.unit x 1 t.commons)) (sym same) (subst (λ p. Each P (those p)) (ap (λ x. declares x t) (sym same) ∙ d) here)
    go false e j r = r j

pub own_among : (ps : List Shared) (t : Shared) (P : Member → Type 0) (b : List ℕ) → find_shared ps t.unit.name ≡ Some t → declares b t ≡ true → has_name b (blocks ps) ≡ true → Each P (members ps t) → Each P (own_members t.unit b 1 t.commons)
own_among ps t P b e d h k = own_within ps t P b d (taken_in ps t) (used_blocks ps t.unit.name) (chosen_has (uses ps t.unit.name) (blocks ps) b h (uses_own ps t b e d)) k

-- what is known of a unit that declares a block first
record First (P : Shared → Type 0) (b : List ℕ) (t : Shared) : Type 0 where
  pub holds : P t
  pub declares_it : declares b t ≡ true

first_known : (P : Shared → Type 0) (b : List ℕ) (l : List Shared) → Each P l → (t : Shared) → first_declaring b l ≡ Some t → First P b t
first_known P b [] h t e = absurd (let z : None ≡ Some t = e in cc)
first_known P b (s ∷ l) h t e = go (declares b s) refl e (first_known P b l h.1 t)
  where
    go : (p : Bool) → declares b s ≡ p → (if p then Some s else first_declaring b l) ≡ Some t → (first_declaring b l ≡ Some t → First P b t) → First P b t
    go true d e r = let same : s ≡ t = cc in subst (First P b) same (record { holds = h.0; declares_it = d })
    go false d e r = r e

-- what holds of all members of units holds of those of blocks
pub of_blocks : (ps : List Shared) (P : Member → Type 0) → Each (λ t. (find_shared ps t.unit.name ≡ Some t) × Each P (members ps t)) ps → (bs : List (List ℕ)) → Each (λ b. has_name b (blocks ps) ≡ true) bs → Each P (block_members ps bs)
of_blocks ps P h [] k = tt
of_blocks ps P h (b ∷ bs) k = each_append P (found_members b (first_declaring b ps)) (block_members ps bs) (go (first_declaring b ps) refl) (of_blocks ps P h bs k.1)
  where
    go : (o : Option Shared) → first_declaring b ps ≡ o → Each P (found_members b o)
    go None e = tt
    go (Some t) e =
        let f = first_known (λ t. (find_shared ps t.unit.name ≡ Some t) × Each P (members ps t)) b ps h t e in
        own_among ps t P b f.holds.0 f.declares_it k.0 f.holds.1

-- ---- extents of members

abbrev pub member_extents : List Member → List (List Extent)
member_extents ms = map (λ m. m.extents) ms

item_extents_are : (u : Procedure) (b : List ℕ) (line i : ℕ) (ds : List Declaration) → member_extents (own_items u b line i ds) ≡ map (extents_in u) ds
item_extents_are u b line i [] = refl
item_extents_are u b line i (d ∷ ds) = ap (λ z. extents_in u d ∷ z) (item_extents_are u b line (suc i) ds)

own_extents : (u : Procedure) (b : List ℕ) (i : ℕ) (cs : List Common) → member_extents (own_members u b i cs) ≡ map (extents_in u) (items_of b cs)
own_extents u b i [] = refl
own_extents u b i (c ∷ cs) = go (name_eq c.block b) (own_extents u b (i + length c.items) cs) (own_extents u b i cs)
  where
    go : (p : Bool) → member_extents (own_members u b (i + length c.items) cs) ≡ map (extents_in u) (items_of b cs) → member_extents (own_members u b i cs) ≡ map (extents_in u) (items_of b cs) →
        member_extents (if p then own_items u b c.line i c.items ++ own_members u b (i + length c.items) cs else own_members u b i cs) ≡ map (extents_in u) (if p then c.items ++ items_of b cs else items_of b cs)
    go true r q = map-append (λ (m : Member). m.extents) (own_items u b c.line i c.items) (own_members u b (i + length c.items) cs) ∙ (λ j. item_extents_are u b c.line i c.items j ++ r j) ∙ sym (map-append (extents_in u) c.items (items_of b cs))
    go false r q = q

first_extents : (b : List ℕ) (o : Option Shared) → member_extents (found_members b o) ≡ found_layout b o
first_extents b None = refl
first_extents b (Some s) = own_extents s.unit b 1 s.commons

passed_extents : (line : ℕ) (taken : List (List ℕ)) (ms : List Member) → member_extents (passed_members line taken ms) ≡ member_extents ms
passed_extents line taken [] = refl
passed_extents line taken (m ∷ ms) = ap (λ z. m.extents ∷ z) (passed_extents line (fresh m.name taken ∷ taken) ms)

-- where layouts are alike, a unit's members have the extents of its blocks' members
module _ (ps : List Shared) (s : Shared) (alike : (b : List ℕ) → has_name b (blocks ps) ≡ true → declares b s ≡ true → layout b s ≡ first_layout ps b) where
  pub from_extents : (bs : List (List ℕ)) → Each (λ b. has_name b (blocks ps) ≡ true) bs → (taken : List (List ℕ)) → member_extents (members_from ps s taken bs) ≡ member_extents (block_members ps bs)
  from_extents [] h taken = refl
  from_extents (b ∷ bs) h taken = go (declares b s) refl (λ t. from_extents bs h.1 t)
    where
      those : Bool → List Member
      those p = if p then own_members s.unit b 1 s.commons else passed_members s.unit.line taken (found_members b (first_declaring b ps))

      join : (l : List Member) (t : List (List ℕ)) → member_extents l ≡ member_extents (found_members b (first_declaring b ps)) → member_extents (members_from ps s t bs) ≡ member_extents (block_members ps bs) → member_extents (l ++ members_from ps s t bs) ≡ member_extents (found_members b (first_declaring b ps) ++ block_members ps bs)
      join l t e f = map-append (λ (m : Member). m.extents) l (members_from ps s t bs) ∙ (λ i. e i ++ f i) ∙ sym (map-append (λ (m : Member). m.extents) (found_members b (first_declaring b ps)) (block_members ps bs))

      go : (p : Bool) → declares b s ≡ p → ((t : List (List ℕ)) → member_extents (members_from ps s t bs) ≡ member_extents (block_members ps bs)) → member_extents (those p ++ members_from ps s (member_names (those p) ++ taken) bs) ≡ member_extents (found_members b (first_declaring b ps) ++ block_members ps bs)
      go true d r =
          join (those true) (member_names (those true) ++ taken) (own_extents s.unit b 1 s.commons ∙ alike b h.0 d ∙ sym (first_extents b (first_declaring b ps))) (r (member_names (those true) ++ taken))
      go false d r = join (those false) (member_names (those false) ++ taken) (passed_extents s.unit.line taken (found_members b (first_declaring b ps))) (r (member_names (those false) ++ taken))

-- ---- what is declared of slots

-- the same of members with the same slots and extents
pub laid_same : (ms ns : List Member) → member_slots ms ≡ member_slots ns → member_extents ms ≡ member_extents ns → (x : Var) → declared (laid ms) x ≡ declared (laid ns) x
laid_same [] [] e f x = refl
laid_same [] (n ∷ ns) e f x = absurd (let z : [] ≡ n.slot ∷ member_slots ns = e in cc)
laid_same (m ∷ ms) [] e f x = absurd (let z : m.slot ∷ member_slots ms ≡ [] = e in cc)
laid_same (m ∷ ms) (n ∷ ns) e f x =
    let slot : m.slot ≡ n.slot = cc in
    let slots : member_slots ms ≡ member_slots ns = cc in
    let es : m.extents ≡ n.extents = cc in
    let rest : member_extents ms ≡ member_extents ns = cc in
    λ i. if var_eq x (plain (slot i)) then es i else laid_same ms ns slots rest x i

-- where slots are apart each has its member's extents
pub laid_each : (ms : List Member) → AreApart (member_slots ms) → Each (λ m. declared (laid ms) (plain m.slot) ≡ m.extents) ms
laid_each [] h = tt
laid_each (m ∷ ms) h = (ap (λ b. if b then m.extents else declared (laid ms) (plain m.slot)) (name_refl m.slot), later ms h.0 (laid_each ms h.1))
  where
    later : (l : List Member) → has_name m.slot (member_slots l) ≡ false → Each (λ k. declared (laid ms) (plain k.slot) ≡ k.extents) l → Each (λ k. declared (laid (m ∷ ms)) (plain k.slot) ≡ k.extents) l
    later [] e r = tt
    later (k ∷ l) e r =
        let p = or_false (name_eq m.slot k.slot) (has_name m.slot (member_slots l)) e in
        (ap (λ b. if b then m.extents else declared (laid ms) (plain k.slot)) (name_comm m.slot k.slot p.0) ∙ r.0, later l p.1 r.1)
