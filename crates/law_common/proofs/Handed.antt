-- What a lowered call passes for blocks: the caller's members that stand for the slots of the called unit.
use Rattle.std.proofs.Common.{◌≡◌, ℕ, suc, ◌+◌, Bool, true, false, List, [], ◌∷◌, ◌++◌, map, refl, sym, ap, ◌∙◌, subst, if◌then◌else◌}
use Rattle.std.proofs.lemmas.List.{map-append}
use Rattle.std.specs.Prelude.{◌||◌, length, Option, Some, None}
use Rattle.adj_tree.specs.Code.{name_eq, Declaration, Procedure}
use Rattle.adj_tree.proofs.Names.{name_refl, name_same}
use Rattle.def_meaning.specs.Apart.{has_name, AreApart}
use Rattle.def_meaning.proofs.Booleans.{or_false}
use Rattle.def_meaning.proofs.Variables.{name_comm}
use Rattle.def_names.specs.Fresh.{fresh}
use Rattle.adj_tree.specs.Common.{Common, Shared}
use Rattle.def_common.specs.Blocks.{find_shared, declares, layout, blocks, all_blocks, first_declaring, uses, chosen, used_blocks}
use Rattle.def_common.specs.Members.{Member, member_names, member_slots, own_items, own_members, found_members, block_members, passed_members, slots_for, members_from, taken_in, members, names_of_block, names_of_blocks, swapped}
use Rattle.def_common.specs.Refused.{first_layout, layout_refusal}
use Rattle.law_common.specs.Passing.{EachCall}
use Rattle.law_common.specs.Lowers.{Each}
use Rattle.law_common.proofs.Laying.{each_append, each_zip}
use Rattle.law_common.proofs.Lowered.{to_slots}
use Rattle.law_common.proofs.Swapping.{swapped_twice}
use Rattle.law_common.proofs.Keeping.{each_found, call_map}
use Rattle.law_common.proofs.Refused.{laid_alike}
use Rattle.law_common.proofs.Slotted.{slots_append, own_slots_same, passed_slots, chosen_among}
use Rattle.law_common.proofs.Separate.{repeats_apart, chosen_apart}
use Rattle.law_common.proofs.Using.{closed}

-- ---- members of one block

abbrev IsIn : List ℕ → Member → Type 0
IsIn b m = m.block ≡ b

items_in : (u : Procedure) (b : List ℕ) (line i : ℕ) (ds : List Declaration) → Each (IsIn b) (own_items u b line i ds)
items_in u b line i [] = tt
items_in u b line i (d ∷ ds) = (refl, items_in u b line (suc i) ds)

own_in : (u : Procedure) (b : List ℕ) (i : ℕ) (cs : List Common) → Each (IsIn b) (own_members u b i cs)
own_in u b i [] = tt
own_in u b i (c ∷ cs) = go (name_eq c.block b) (own_in u b (i + length c.items) cs) (own_in u b i cs)
  where
    go : (p : Bool) → Each (IsIn b) (own_members u b (i + length c.items) cs) → Each (IsIn b) (own_members u b i cs) → Each (IsIn b) (if p then own_items u b c.line i c.items ++ own_members u b (i + length c.items) cs else own_members u b i cs)
    go true h k = each_append (IsIn b) (own_items u b c.line i c.items) (own_members u b (i + length c.items) cs) (items_in u b c.line i c.items) h
    go false h k = k

found_in : (b : List ℕ) (o : Option Shared) → Each (IsIn b) (found_members b o)
found_in b None = tt
found_in b (Some s) = own_in s.unit b 1 s.commons

passed_in : (b : List ℕ) (line : ℕ) (taken : List (List ℕ)) (ms : List Member) → Each (IsIn b) ms → Each (IsIn b) (passed_members line taken ms)
passed_in b line taken [] h = tt
passed_in b line taken (m ∷ ms) h = (h.0, passed_in b line (fresh m.name taken ∷ taken) ms h.1)

-- ---- their names

names_append : (b : List ℕ) (l k : List Member) → names_of_block b (l ++ k) ≡ names_of_block b l ++ names_of_block b k
names_append b [] k = refl
names_append b (m ∷ l) k = go (name_eq m.block b) (names_append b l k)
  where
    go : (p : Bool) → names_of_block b (l ++ k) ≡ names_of_block b l ++ names_of_block b k → (if p then m.name ∷ names_of_block b (l ++ k) else names_of_block b (l ++ k)) ≡ (if p then m.name ∷ names_of_block b l else names_of_block b l) ++ names_of_block b k
    go true h = ap (λ z. m.name ∷ z) h
    go false h = h

names_all : (b : List ℕ) (l : List Member) → Each (IsIn b) l → names_of_block b l ≡ member_names l
names_all b [] h = refl
names_all b (m ∷ l) h = ap (λ p. if p then m.name ∷ names_of_block b l else names_of_block b l) (ap (λ z. name_eq z b) h.0 ∙ name_refl b) ∙ ap (λ z. m.name ∷ z) (names_all b l h.1)

names_other : (b c : List ℕ) → name_eq c b ≡ false → (l : List Member) → Each (IsIn c) l → names_of_block b l ≡ []
names_other b c e [] h = refl
names_other b c e (m ∷ l) h = ap (λ p. if p then m.name ∷ names_of_block b l else names_of_block b l) (ap (λ z. name_eq z b) h.0 ∙ e) ∙ names_other b c e l h.1

-- names that stand for slots
names_for_slots : (ms l : List Member) → Each (λ m. swapped ms m.slot ≡ m.name) l → member_names l ≡ map (swapped ms) (member_slots l)
names_for_slots ms [] h = refl
names_for_slots ms (m ∷ l) h = λ i. sym h.0 i ∷ names_for_slots ms l h.1 i

each_part : (P : Member → Type 0) (l k : List Member) → Each P (l ++ k) → Each P l × Each P k
each_part P [] k h = (tt, h)
each_part P (m ∷ l) k h = let r = each_part P l k h.1 in ((h.0, r.0), r.1)

-- ---- in a unit that lays out its blocks as the first

module _ (ps : List Shared) (s : Shared) (alike : (b : List ℕ) → has_name b (blocks ps) ≡ true → declares b s ≡ true → layout b s ≡ first_layout ps b) where
  abbrev group : List (List ℕ) → List ℕ → Bool → List Member
  group taken b p = if p then own_members s.unit b 1 s.commons else passed_members s.unit.line taken (found_members b (first_declaring b ps))

  group_in : (taken : List (List ℕ)) (b : List ℕ) (p : Bool) → Each (IsIn b) (group taken b p)
  group_in taken b true = own_in s.unit b 1 s.commons
  group_in taken b false = passed_in b s.unit.line taken (found_members b (first_declaring b ps)) (found_in b (first_declaring b ps))

  group_slots : (taken : List (List ℕ)) (b : List ℕ) → has_name b (blocks ps) ≡ true → (p : Bool) → declares b s ≡ p → member_slots (group taken b p) ≡ member_slots (found_members b (first_declaring b ps))
  group_slots taken b h true d = own_slots_same ps s alike b h d
  group_slots taken b h false d = passed_slots s.unit.line taken (found_members b (first_declaring b ps))

  -- of a block that isn't among them it has none
  none_of : (b : List ℕ) (bs : List (List ℕ)) → has_name b bs ≡ false → (taken : List (List ℕ)) → names_of_block b (members_from ps s taken bs) ≡ []
  none_of b [] h taken = refl
  none_of b (c ∷ bs) h taken =
      let p = or_false (name_eq b c) (has_name b bs) h in
      let ms = group taken c (declares c s) in
      names_append b ms (members_from ps s (member_names ms ++ taken) bs)
      ∙ (λ i. names_other b c (name_comm b c p.0) ms (group_in taken c (declares c s)) i ++ none_of b bs p.1 (member_names ms ++ taken) i)

  module _ (all : List Member) where
    -- of one that is, they stand for its slots
    some_of : (b : List ℕ) → has_name b (blocks ps) ≡ true → (bs : List (List ℕ)) → AreApart bs → has_name b bs ≡ true → (taken : List (List ℕ)) → Each (λ m. swapped all m.slot ≡ m.name) (members_from ps s taken bs) →
        names_of_block b (members_from ps s taken bs) ≡ map (swapped all) (member_slots (found_members b (first_declaring b ps)))
    some_of b h [] a k taken e = absurd cc
    some_of b h (c ∷ bs) a k taken e =
        let ms = group taken c (declares c s) in
        let rest = members_from ps s (member_names ms ++ taken) bs in
        names_append b ms rest ∙ go (name_eq b c) refl k (each_part _ ms rest e) (some_of b h bs a.1)
      where
        go : (p : Bool) → name_eq b c ≡ p → (p || has_name b bs) ≡ true →
            (let ms = group taken c (declares c s) in Each (λ m. swapped all m.slot ≡ m.name) ms × Each (λ m. swapped all m.slot ≡ m.name) (members_from ps s (member_names ms ++ taken) bs)) →
            (has_name b bs ≡ true → (t : List (List ℕ)) → Each (λ m. swapped all m.slot ≡ m.name) (members_from ps s t bs) → names_of_block b (members_from ps s t bs) ≡ map (swapped all) (member_slots (found_members b (first_declaring b ps)))) →
            (let ms = group taken c (declares c s) in names_of_block b ms ++ names_of_block b (members_from ps s (member_names ms ++ taken) bs)) ≡ map (swapped all) (member_slots (found_members b (first_declaring b ps)))
        go true q k e r =
            let same : c ≡ b = sym (name_same b c q) in
            let ms = group taken c (declares c s) in
            let there : Each (IsIn b) ms = subst (λ z. Each (IsIn z) ms) same (group_in taken c (declares c s)) in
            let none = none_of b bs (subst (λ z. has_name z bs ≡ false) same a.0) (member_names ms ++ taken) in
            (λ i. names_all b ms there i ++ none i)
            ∙ nothing_after (member_names ms)
            ∙ names_for_slots all ms e.0
            ∙ ap (map (swapped all)) (group_slots taken c (subst (λ z. has_name z (blocks ps) ≡ true) (sym same) h) (declares c s) refl ∙ ap (λ z. member_slots (found_members z (first_declaring z ps))) same)
          where
            nothing_after : (l : List (List ℕ)) → l ++ [] ≡ l
            nothing_after [] = refl
            nothing_after (x ∷ l) = ap (λ z. x ∷ z) (nothing_after l)
        go false q k e r =
            let ms = group taken c (declares c s) in
            (λ i. names_other b c (name_comm b c q) ms (group_in taken c (declares c s)) i ++ r k (member_names ms ++ taken) e.1 i)

    -- so what stands for the slots of some of its blocks are its members of these
    pub stand_for : (bs : List (List ℕ)) → AreApart bs → (taken : List (List ℕ)) → Each (λ m. swapped all m.slot ≡ m.name) (members_from ps s taken bs) →
        (cs : List (List ℕ)) → Each (λ c. (has_name c (blocks ps) ≡ true) × (has_name c bs ≡ true)) cs →
        names_of_blocks (members_from ps s taken bs) cs ≡ map (swapped all) (member_slots (block_members ps cs))
    stand_for bs a taken e [] h = refl
    stand_for bs a taken e (c ∷ cs) h =
        (λ i. some_of c h.0.0 bs a h.0.1 taken e i ++ stand_for bs a taken e cs h.1 i)
        ∙ sym (map-append (swapped all) (member_slots (found_members c (first_declaring c ps))) (member_slots (block_members ps cs)))
        ∙ ap (map (swapped all)) (sym (slots_append (found_members c (first_declaring c ps)) (block_members ps cs)))

-- ---- all calls of a unit

fewer : (f g : List ℕ → Bool) → ((b : List ℕ) → f b ≡ true → g b ≡ true) → (bs : List (List ℕ)) → Each (λ c. has_name c (chosen g bs) ≡ true) (chosen f bs)
fewer f g h [] = tt
fewer f g h (b ∷ bs) = go (f b) refl (g b) refl (fewer f g h bs)
  where
    wider : (l : List (List ℕ)) → Each (λ c. has_name c (chosen g bs) ≡ true) l → Each (λ c. has_name c (b ∷ chosen g bs) ≡ true) l
    wider [] k = tt
    wider (c ∷ l) k = (behind (name_eq c b) k.0, wider l k.1)
      where
        behind : {a : Bool} (p : Bool) → a ≡ true → (p || a) ≡ true
        behind true e = refl
        behind false e = e

    go : (p : Bool) → f b ≡ p → (q : Bool) → g b ≡ q → Each (λ c. has_name c (chosen g bs) ≡ true) (chosen f bs) → Each (λ c. has_name c (if q then b ∷ chosen g bs else chosen g bs) ≡ true) (if p then b ∷ chosen f bs else chosen f bs)
    go true e true d k = (ap (λ c. c || has_name b (chosen g bs)) (name_refl b), wider (chosen f bs) k)
    go true e false d k = absurd (let z : true ≡ false = sym (h b e) ∙ d in cc)
    go false e true d k = wider (chosen f bs) k
    go false e false d k = k

stands : (ms : List Member) → AreApart (member_names ms ++ member_slots ms) → Each (λ m. swapped ms m.slot ≡ m.name) ms
stands ms a = go ms (to_slots ms a)
  where
    go : (l : List Member) → Each (λ m. swapped ms m.name ≡ m.slot) l → Each (λ m. swapped ms m.slot ≡ m.name) l
    go [] h = tt
    go (m ∷ l) h = (ap (swapped ms) (sym h.0) ∙ swapped_twice ms a m.name, go l h.1)

-- each call passes the members that stand for the slots of the unit that it calls
pub handed : (ps : List Shared) → layout_refusal ps ≡ None → (s : Shared) → find_shared ps s.unit.name ≡ Some s → AreApart (member_names (members ps s) ++ member_slots (members ps s)) →
    EachCall (λ name args. names_of_blocks (members ps s) (used_blocks ps name) ≡ map (swapped (members ps s)) (slots_for ps name)) s.unit.body
handed ps h s e a =
    call_map (λ g args. (b : List ℕ) → uses ps g b ≡ true → uses ps s.unit.name b ≡ true) _
    (λ g args u.
    stand_for ps s (λ b k d. ((each_found _ ps (laid_alike ps h b k) s.unit.name s e).is d).0) (members ps s) (used_blocks ps s.unit.name)
    (chosen_apart (uses ps s.unit.name) (blocks ps) (repeats_apart [] (all_blocks ps))) (taken_in ps s) (stands (members ps s) a) (used_blocks ps g)
    (each_zip _ _ (used_blocks ps g) (chosen_among (uses ps g) (blocks ps)) (fewer (uses ps g) (uses ps s.unit.name) u (blocks ps))))
    s.unit.body (closed ps s.unit.name s e)
