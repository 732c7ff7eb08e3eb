-- The groups of members that are made for a unit are its members by the definition.
use Rattle.std.proofs.Common.{◌≡◌, ℕ, suc, ◌+◌, Bool, true, false, List, [], ◌∷◌, ◌++◌, length, map, Option, Some, None, refl, sym, ap, ◌∙◌, subst, if◌then◌else◌}
use Rattle.std.specs.Prelude.{◌==◌, ◌||◌, ◌&&◌, not}
use Rattle.std.specs.List.{slice_get}
use Rattle.adj_tree.specs.Code.{plain, name_eq, Declaration, Procedure}
use Rattle.def_meaning.specs.Apart.{has_name}
use Rattle.def_meaning.specs.Units.{declared}
use Rattle.def_names.specs.Fresh.{fresh}
use Rattle.def_names.specs.Variables.{is_integer_name}
use Rattle.def_sweep.specs.Declared.{declaration}
use Rattle.adj_tree.specs.Common.{Common, Shared}
use Rattle.def_common.specs.Blocks.{blocks, declares, first_declaring}
use Rattle.def_common.specs.Members.{Member, member_names, own_items, own_members, found_members, passed_members, members_from, item_names}
use Rattle.def_common.specs.Lowering.{item_extents, with_extents, is_declared_so, new_declarations}
use Rattle.adj_sets.proofs.NameSets.{has-behind}
use Rattle.adj_naming.proofs.Added.{SameNames, fresh_alike, or_comm}
use Rattle.adj_common.specs.Entries.{Entry, OwnBlocks, IsOwn, AreOwn}
use Rattle.adj_common.specs.Texts.{text_blocks, at_place, name_of_block, first_unit}
use Rattle.adj_common.specs.Handing.{row_or}
use Rattle.adj_common.specs.Members as made
use Rattle.adj_common.specs.Members.{entry_names, passed_entry, passed_entries, taken_from, group_in, own_group, first_group, groups_from, all_entries, item_of, with_item, has_names, gets_declared, entry_declaration, entry_declarations}
use Rattle.adj_common.proofs.Owned.{extents_declared, own_entries, when, group_own, bare, bare_own, map_append}
use Rattle.adj_common.proofs.Blocked.{block_named, entries_found, first_members}

-- numbers of blocks, and their names
abbrev pub AreNumbers : List (List ℕ) → List ℕ → List (List ℕ) → Type 0
AreNumbers all [] [] = Unit {0}
AreNumbers all [] (b ∷ bs) = ⊥
AreNumbers all (k ∷ ks) [] = ⊥
AreNumbers all (k ∷ ks) (b ∷ bs) = (slice_get all k ≡ Some b) × AreNumbers all ks bs

-- ---- members that are passed through

entry_names_bare : (ms : List Member) → entry_names (map bare ms) ≡ member_names ms
entry_names_bare [] = refl
entry_names_bare (m ∷ ms) = ap (λ l. m.name ∷ l) (entry_names_bare ms)

-- one name more on both sides
one_more : (xs ys : List (List ℕ)) (x y : List ℕ) → SameNames xs ys → x ≡ y → SameNames (xs ++ x ∷ []) (y ∷ ys)
one_more xs ys x y h e = record { at = λ z. has-behind z xs (x ∷ []) ∙ (λ i. h.at z i || nothing (name_eq z (e i)) i) ∙ or_comm (has_name z ys) (name_eq z y) }
  where
    nothing : (b : Bool) → (b || false) ≡ b
    nothing true = refl
    nothing false = refl

passed_alike : (line : ℕ) (xs ys : List (List ℕ)) → SameNames xs ys → (ms : List Member) → passed_entries line xs (map bare ms) ≡ map bare (passed_members line ys ms)
passed_alike line xs ys h [] = refl
passed_alike line xs ys h (m ∷ ms) =
    let f = fresh_alike m.name xs ys h in
    λ i. record { name = f i; extents = m.extents; item = []; line = line; own = false } ∷ passed_alike line (xs ++ fresh m.name xs ∷ []) (fresh m.name ys ∷ ys) (one_more xs ys (fresh m.name xs) (fresh m.name ys) h f) ms i

names_around : (xs ys l : List (List ℕ)) → SameNames xs ys → SameNames (xs ++ l) (l ++ ys)
names_around xs ys l h = record { at = λ z. has-behind z xs l ∙ (λ i. h.at z i || has_name z l) ∙ or_comm (has_name z ys) (has_name z l) ∙ sym (has-behind z l ys) }

-- ---- those that the unit declares

items_named : (z : List ℕ) (u : Procedure) (b : List ℕ) (line i : ℕ) (ds : List Declaration) → member_names (own_items u b line i ds) ≡ map (λ d. d.name) ds
items_named z u b line i [] = refl
items_named z u b line i (d ∷ ds) = ap (λ l. d.name ∷ l) (items_named z u b line (suc i) ds)

names_append : (l k : List Member) → member_names (l ++ k) ≡ member_names l ++ member_names k
names_append [] k = refl
names_append (m ∷ l) k = ap (λ z. m.name ∷ z) (names_append l k)

or_true : (a b : Bool) → (a ≡ true → b ≡ true) → (a || b) ≡ b
or_true true b h = sym (h refl)
or_true false b h = refl

or_either : (a b c d : Bool) → (a ≡ true → c ≡ true) → (b ≡ true → d ≡ true) → (a || b) ≡ true → (c || d) ≡ true
or_either true b c d f g h = ap (λ z. z || d) (f refl)
or_either false b true d f g h = refl
or_either false b false d f g h = g h

own_among : (z : List ℕ) (u : Procedure) (b : List ℕ) (i : ℕ) (cs : List Common) → has_name z (member_names (own_members u b i cs)) ≡ true → has_name z (item_names cs) ≡ true
own_among z u b i [] h = h
own_among z u b i (c ∷ cs) h = go (name_eq c.block b) h (own_among z u b (i + length c.items) cs) (own_among z u b i cs)
  where
    go : (p : Bool) → has_name z (member_names (if p then own_items u b c.line i c.items ++ own_members u b (i + length c.items) cs else own_members u b i cs)) ≡ true →
        (has_name z (member_names (own_members u b (i + length c.items) cs)) ≡ true → has_name z (item_names cs) ≡ true) → (has_name z (member_names (own_members u b i cs)) ≡ true → has_name z (item_names cs) ≡ true) → has_name z (map (λ d. d.name) c.items ++ item_names cs) ≡ true
    go true k f g =
        has-behind z (map (λ d. d.name) c.items) (item_names cs)
        ∙ or_either (has_name z (member_names (own_items u b c.line i c.items))) (has_name z (member_names (own_members u b (i + length c.items) cs))) (has_name z (map (λ d. d.name) c.items)) (has_name z (item_names cs))
        (λ e. ap (has_name z) (sym (items_named z u b c.line i c.items)) ∙ e) f
        (sym (ap (has_name z) (names_append (own_items u b c.line i c.items) (own_members u b (i + length c.items) cs)) ∙ has-behind z (member_names (own_items u b c.line i c.items)) (member_names (own_members u b (i + length c.items) cs))) ∙ k)
    go false k f g = has-behind z (map (λ d. d.name) c.items) (item_names cs) ∙ second (has_name z (map (λ d. d.name) c.items)) (g k)
      where
        second : {b : Bool} (a : Bool) → b ≡ true → (a || b) ≡ true
        second true e = refl
        second false e = e

-- ---- groups

abbrev pub group_of : List Shared → Shared → List (List ℕ) → List ℕ → List Member
group_of ps s taken b = if declares b s then own_members s.unit b 1 s.commons else passed_members s.unit.line taken (found_members b (first_declaring b ps))

abbrev pub groups_of : List Shared → Shared → List (List ℕ) → List (List ℕ) → List (List Member)
groups_of ps s taken [] = []
groups_of ps s taken (b ∷ bs) = group_of ps s taken b ∷ groups_of ps s (member_names (group_of ps s taken b) ++ taken) bs

abbrev pub joined : List (List Member) → List Member
joined [] = []
joined (g ∷ gs) = g ++ joined gs

pub joined_groups : (ps : List Shared) (s : Shared) (taken bs : List (List ℕ)) → joined (groups_of ps s taken bs) ≡ members_from ps s taken bs
joined_groups ps s taken [] = refl
joined_groups ps s taken (b ∷ bs) = ap (λ l. group_of ps s taken b ++ l) (joined_groups ps s (member_names (group_of ps s taken b) ++ taken) bs)

module _ (ps : List Shared) (os : List OwnBlocks) (a : AreOwn ps os) (s : Shared) (o : OwnBlocks) (h : IsOwn s o) where
  -- what is known of the names that are taken
  pub record Taken (xs ys : List (List ℕ)) : Type 0 where
    pub same : SameNames xs ys
    pub items : (z : List ℕ) → has_name z (item_names s.commons) ≡ true → has_name z ys ≡ true

  row_found : (e : Option (List Entry)) (ms : List Member) → entries_found e ms → row_or e ≡ map bare ms
  row_found None ms k = ap (map bare) (sym k)
  row_found (Some es) ms k = k

  -- one group, and what is taken then
  one : (xs ys : List (List ℕ)) → Taken xs ys → (k : ℕ) (b : List ℕ) → slice_get (blocks ps) k ≡ Some b → (p : Bool) → declares b s ≡ p →
      let own = when p (own_entries o.declarations b s.commons) in
      let first = group_in (at_place os (first_unit (text_blocks ps) k)) b in
      (made.members_from s.unit.line xs own first ≡ map bare (if p then own_members s.unit b 1 s.commons else passed_members s.unit.line ys (found_members b (first_declaring b ps))))
      × Taken (taken_from s.unit.line xs own first) (member_names (if p then own_members s.unit b 1 s.commons else passed_members s.unit.line ys (found_members b (first_declaring b ps))) ++ ys)
  one xs ys t k b e true d =
      let ms = own_members s.unit b 1 s.commons in (
        sym (bare_own o.declarations s.unit h.1 b 1 s.commons),
        record {
          same = record { at = λ z. t.same.at z ∙ sym (has-behind z (member_names ms) ys ∙ or_true (has_name z (member_names ms)) (has_name z ys) (λ w. t.items z (own_among z s.unit b 1 s.commons w))) };
          items = λ z w. has-behind z (member_names ms) ys ∙ or_either false (has_name z ys) (has_name z (member_names ms)) (has_name z ys) (λ q. absurd cc) (λ q. q) (t.items z w);
        },
      )
  one xs ys t k b e false d =
      let ms = found_members b (first_declaring b ps) in
      let first = group_in (at_place os (first_unit (text_blocks ps) k)) b in
      let there : row_or first ≡ map bare ms = row_found first ms (first_members ps os a k b e) in
      let es = passed_entries s.unit.line xs (row_or first) in
      let group : es ≡ map bare (passed_members s.unit.line ys ms) = ap (passed_entries s.unit.line xs) there ∙ passed_alike s.unit.line xs ys t.same ms in
      let names : entry_names es ≡ member_names (passed_members s.unit.line ys ms) = ap entry_names group ∙ entry_names_bare (passed_members s.unit.line ys ms) in (
        group,
        record {
          same = subst (λ l. SameNames (xs ++ entry_names es) (l ++ ys)) names (names_around xs ys (entry_names es) t.same);
          items = λ z w. has-behind z (member_names (passed_members s.unit.line ys ms)) ys ∙ or_either false (has_name z ys) (has_name z (member_names (passed_members s.unit.line ys ms))) (has_name z ys) (λ q. absurd cc) (λ q. q) (t.items z w);
        },
      )

  -- all groups
  pub groups_same : (xs ys : List (List ℕ)) → Taken xs ys → (row : List ℕ) (bs : List (List ℕ)) → AreNumbers (blocks ps) row bs → groups_from os (text_blocks ps) o s.unit.line xs row ≡ map (map bare) (groups_of ps s ys bs)
  groups_same xs ys t [] [] n = refl
  groups_same xs ys t [] (b ∷ bs) n = absurd n
  groups_same xs ys t (k ∷ row) [] n = absurd n
  groups_same xs ys t (k ∷ row) (b ∷ bs) n =
      let named : name_of_block (text_blocks ps) k ≡ Some b = block_named ps k ∙ n.0 in
      let first = group_in (at_place os (first_unit (text_blocks ps) k)) b in
      let r = one xs ys t k b n.0 (declares b s) refl in
      (λ i.
      made.members_from s.unit.line xs (own_group o (named i)) (first_group os (text_blocks ps) k (named i))
      ∷ groups_from os (text_blocks ps) o s.unit.line (taken_from s.unit.line xs (own_group o (named i)) (first_group os (text_blocks ps) k (named i))) row)
      ∙ (λ i. made.members_from s.unit.line xs (group_own s o h b i) first ∷ groups_from os (text_blocks ps) o s.unit.line (taken_from s.unit.line xs (group_own s o h b i) first) row)
      ∙ (λ i. r.0 i ∷ groups_same (taken_from s.unit.line xs (when (declares b s) (own_entries o.declarations b s.commons)) first) (member_names (group_of ps s ys b) ++ ys) r.1 row bs n.1 i)

-- ---- declarations

entries_joined : (gs : List (List Member)) → all_entries (map (map bare) gs) ≡ map bare (joined gs)
entries_joined [] = refl
entries_joined (g ∷ gs) = ap (λ l. map bare g ++ l) (entries_joined gs) ∙ sym (map_append bare g (joined gs))

pub all_same : (gs : List (List Member)) → all_entries (map (map bare) gs) ≡ map bare (joined gs)
all_same gs = entries_joined gs

item_same : (ms : List Member) (x : List ℕ) → item_of (map bare ms) x ≡ item_extents ms x
item_same [] x = refl
item_same (m ∷ ms) x = ap (λ z. if name_eq m.name x then m.item else z) (item_same ms x)

pub with_same : (ms : List Member) (ds : List Declaration) → map (with_item (map bare ms)) ds ≡ map (with_extents ms) ds
with_same ms [] = refl
with_same ms (d ∷ ds) = λ i. (if length d.extents == 0 then record d { extents = item_same ms d.name i } else d) ∷ with_same ms ds i

pub names_bare : (ms : List Member) → entry_names (map bare ms) ≡ member_names ms
names_bare ms = entry_names_bare ms

module _ (ds : List Declaration) (u : Procedure) (same : (line : ℕ) (x : List ℕ) → declaration line ds x ≡ declaration line u.declarations x) (has : (x : List ℕ) → has_names ds x ≡ has_names u.declarations x) where
  extents_same : (x : List ℕ) → (declaration 0 ds x).extents ≡ declared u.declarations (plain x)
  extents_same x = ap (λ z. z.extents) (same 0 x) ∙ extents_declared 0 u.declarations x

  gets_same : (m : Member) → gets_declared ds u.is_none (bare m) ≡ is_declared_so u m
  gets_same m =
      λ i. if has m.name i
      then not (length m.item == 0) && not (length (extents_same m.name i) == 0)
      else not m.own || (not (length m.item == 0) && (is_integer_name m.name && not u.is_none))

  pub declared_same : (ms : List Member) → entry_declarations ds u.is_none (map bare ms) ≡ new_declarations u ms
  declared_same [] = refl
  declared_same (m ∷ ms) = (λ i. (if gets_same m i then entry_declaration (bare m) ∷ [] else []) ++ declared_same ms i) ∙ go (is_declared_so u m)
    where
      go : (b : Bool) → (if b then entry_declaration (bare m) ∷ [] else []) ++ new_declarations u ms ≡ (if b then record { line = m.line; name = m.name; extents = if m.own then m.item else m.extents } ∷ new_declarations u ms else new_declarations u ms)
      go true = refl
      go false = refl
