-- What holds of the items of COMMON statements holds of the members of units.
use Rattle.std.proofs.Common.{ℕ, suc, ◌+◌, Bool, true, false, List, [], ◌∷◌, ◌++◌, length, if◌then◌else◌}
use Rattle.std.specs.Prelude.{Some}
use Rattle.adj_tree.specs.Code.{name_eq, Declaration, Procedure}
use Rattle.def_names.specs.Fresh.{fresh}
use Rattle.adj_tree.specs.Common.{Common, Shared}
use Rattle.def_common.specs.Blocks.{extents_in, declares, first_declaring, used_blocks}
use Rattle.def_common.specs.Members.{slot_name, Member, member_names, own_items, own_members, found_members, passed_members, members_from, members, taken_in}
use Rattle.law_common.specs.Lowers.{Each}
use Rattle.law_common.proofs.Laying.{each_append, each_front, each_behind}

-- ---- own members

-- the member that an item is
abbrev pub own_member : Procedure → List ℕ → ℕ → ℕ → Declaration → Member
own_member u b line i d = record { name = d.name; block = b; slot = slot_name b i; extents = extents_in u d; item = d.extents; line = line; own = true }

module _ (u : Procedure) (Q : Declaration → Type 0) (P : Member → Type 0) (make : (b : List ℕ) (line i : ℕ) (d : Declaration) → Q d → P (own_member u b line i d)) where
  items_so : (b : List ℕ) (line i : ℕ) (ds : List Declaration) → Each Q ds → Each P (own_items u b line i ds)
  items_so b line i [] h = tt
  items_so b line i (d ∷ ds) h = (make b line i d h.0, items_so b line (suc i) ds h.1)

  pub own_so : (b : List ℕ) (i : ℕ) (cs : List Common) → Each (λ c. Each Q c.items) cs → Each P (own_members u b i cs)
  own_so b i [] h = tt
  own_so b i (c ∷ cs) h = go (name_eq c.block b) (own_so b (i + length c.items) cs h.1) (own_so b i cs h.1)
    where
      go : (p : Bool) → Each P (own_members u b (i + length c.items) cs) → Each P (own_members u b i cs) → Each P (if p then own_items u b c.line i c.items ++ own_members u b (i + length c.items) cs else own_members u b i cs)
      go true f k = each_append P (own_items u b c.line i c.items) (own_members u b (i + length c.items) cs) (items_so b c.line i c.items h.0) f
      go false f k = k

-- those of the first unit that declares a block
pub first_so : (P : Member → Type 0) (b : List ℕ) (l : List Shared) → Each (λ s. Each P (own_members s.unit b 1 s.commons)) l → Each P (found_members b (first_declaring b l))
first_so P b [] h = tt
first_so P b (s ∷ l) h = go (declares b s) (first_so P b l h.1)
  where
    go : (p : Bool) → Each P (found_members b (first_declaring b l)) → Each P (found_members b (if p then Some s else first_declaring b l))
    go true r = h.0
    go false r = r

-- ---- all members, where C holds of the names that are taken as long as G holds of members

-- the member under a fresh name
abbrev pub passed_member : ℕ → List (List ℕ) → Member → Member
passed_member line taken m = record { name = fresh m.name taken; block = m.block; slot = m.slot; extents = m.extents; item = []; line = line; own = false }

module _ (C : List (List ℕ) → Type 0) (G First P : Member → Type 0) (grow : (m : Member) (taken : List (List ℕ)) → C taken → G m → C (m.name ∷ taken)) (pass : (line : ℕ) (taken : List (List ℕ)) (m : Member) → C taken → First m → P (passed_member line taken m)) where
  passed_so : (line : ℕ) (taken : List (List ℕ)) (ms : List Member) → C taken → Each G (passed_members line taken ms) → Each First ms → Each P (passed_members line taken ms)
  passed_so line taken [] c g h = tt
  passed_so line taken (m ∷ ms) c g h = (pass line taken m c h.0, passed_so line (fresh m.name taken ∷ taken) ms (grow (passed_member line taken m) taken c g.0) g.1 h.1)

  all_taken : (taken : List (List ℕ)) (ms : List Member) → C taken → Each G ms → C (member_names ms ++ taken)
  all_taken taken [] c g = c
  all_taken taken (m ∷ ms) c g = grow m (member_names ms ++ taken) (all_taken taken ms c g.1) g.0

  from_so : (ps : List Shared) (s : Shared) → ((b : List ℕ) → Each First (found_members b (first_declaring b ps))) → ((b : List ℕ) → Each P (own_members s.unit b 1 s.commons)) →
      (taken : List (List ℕ)) → C taken → (bs : List (List ℕ)) → Each G (members_from ps s taken bs) → Each P (members_from ps s taken bs)
  from_so ps s first own taken c [] g = tt
  from_so ps s first own taken c (b ∷ bs) g = go (λ t d k. from_so ps s first own t d bs k) (declares b s) g
    where
      go : ((t : List (List ℕ)) → C t → Each G (members_from ps s t bs) → Each P (members_from ps s t bs)) → (p : Bool) →
          (let ms = if p then own_members s.unit b 1 s.commons else passed_members s.unit.line taken (found_members b (first_declaring b ps)) in Each G (ms ++ members_from ps s (member_names ms ++ taken) bs)) →
          (let ms = if p then own_members s.unit b 1 s.commons else passed_members s.unit.line taken (found_members b (first_declaring b ps)) in Each P (ms ++ members_from ps s (member_names ms ++ taken) bs))
      go next true k =
          let ms = own_members s.unit b 1 s.commons in
          let rest = members_from ps s (member_names ms ++ taken) bs in
          each_append P ms rest (own b) (next (member_names ms ++ taken) (all_taken taken ms c (each_front G ms rest k)) (each_behind G ms rest k))
      go next false k =
          let ms = passed_members s.unit.line taken (found_members b (first_declaring b ps)) in
          let rest = members_from ps s (member_names ms ++ taken) bs in
          each_append P ms rest (passed_so s.unit.line taken (found_members b (first_declaring b ps)) c (each_front G ms rest k) (first b))
          (next (member_names ms ++ taken) (all_taken taken ms c (each_front G ms rest k)) (each_behind G ms rest k))

  -- the members of a unit
  pub members_so : (ps : List Shared) (s : Shared) → ((b : List ℕ) → Each First (found_members b (first_declaring b ps))) → ((b : List ℕ) → Each P (own_members s.unit b 1 s.commons)) → C (taken_in ps s) → Each G (members ps s) → Each P (members ps s)
  members_so ps s first own c g = from_so ps s first own (taken_in ps s) c (used_blocks ps s.unit.name) g

-- ---- where nothing is asked

abbrev pub Any : {X : Type 0} → X → Type 0
Any x = Unit {0}

pub any_each : {X : Type 0} (xs : List X) → Each Any xs
any_each [] = tt
any_each (x ∷ xs) = (tt, any_each xs)

pub any_items : (cs : List Common) → Each (λ c. Each Any c.items) cs
any_items [] = tt
any_items (c ∷ cs) = (any_each c.items, any_items cs)
