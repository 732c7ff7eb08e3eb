-- What holds of refusal 26.
use Rattle.std.specs.Prelude.{◌≡◌, ℕ, List, true, Some, None}
use Rattle.adj_tree.specs.declared.fault.Refusal.{Refusal}
use Rattle.def_meaning.specs.Apart.{has_name}
use Rattle.def_names.specs.Laws.{IsIn}
use Rattle.adj_tree.specs.Common.{Shared}
use Rattle.def_common.specs.Blocks.{find_shared, declares, layout, blocks}
use Rattle.def_common.specs.Members.{member_slots, slots_for, members}
use Rattle.def_common.specs.Refused.{is_same_extent, first_layout, IsRefusedAt, layout_faults, layout_refusal}
use Rattle.law_common.specs.Lowers.{Each}

-- they are just those at such places
abbrev pub RefusedAtPlaces : Type 0
RefusedAtPlaces = (ps : List Shared) (r : Refusal) → (IsIn r (layout_faults ps) → IsRefusedAt ps r) × (IsRefusedAt ps r → IsIn r (layout_faults ps))

-- where there is none, each unit that declares a block lays it out as the first, by literals
abbrev pub LaidAlike : Type 0
LaidAlike = (ps : List Shared) → layout_refusal ps ≡ None → (b : List ℕ) → has_name b (blocks ps) ≡ true → Each (λ s. declares b s ≡ true → (layout b s ≡ first_layout ps b) × Each (Each (λ e. is_same_extent e e ≡ true)) (layout b s)) ps

-- and has a member for each slot of the blocks that it uses
abbrev pub AMemberForEach : Type 0
AMemberForEach = (ps : List Shared) → layout_refusal ps ≡ None → (name : List ℕ) (s : Shared) → find_shared ps name ≡ Some s → member_slots (members ps s) ≡ slots_for ps s.unit.name
