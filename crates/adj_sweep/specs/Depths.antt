-- Sets of depths, and those at which loops go back.
use Rattle.std.specs.Prelude.{◌≡◌, ℕ, suc, List, Bool, false, ◌||◌, ◌&&◌, ◌==◌, not, get_or}
use Rattle.adj_tree.specs.Code.{plain, Term, Mark, Act, loop, Code}
use Rattle.def_sweep.specs.Plan.{Plan, Schedules}
use Rattle.def_sweep.specs.Rows.{is_empty}
use Rattle.def_sweep.specs.Emission.{backward_with}
use Rattle.def_sweep.specs.Program.{is_do, is_loop, goes_back_act_with, goes_back_with, any_step, has_slots, reverses_act_by, reverses_by}
use Rattle.adj_sweep.specs.declared.depths.Depths.{Depths}

-- whether the depth is in the set, which has a flag for each depth that it knows
abbrev pub has_depth : List Bool → ℕ → Bool
has_depth flags k = get_or flags k false

-- a depth is added, unless the loop that has it is idle
abbrev pub IsAdded : ℕ → Bool → List Bool → List Bool → Type 0
IsAdded depth idle old new = (k : ℕ) → has_depth new k ≡ (has_depth old k || ((k == depth) && not idle))

-- the same depths
abbrev pub IsSame : List Bool → List Bool → Type 0
IsSame old new = (k : ℕ) → has_depth new k ≡ has_depth old k

-- the depths of a statement's loops that go back are added
pub record AddsAct (r : Schedules) (p : Plan) (d i : ℕ) (a : Act) (old new : Depths) : Type 0 where
  pub dos : (k : ℕ) → has_depth new.dos.items k ≡ (has_depth old.dos.items k || goes_back_act_with r is_do k p i d a)
  pub loops : (k : ℕ) → has_depth new.loops.items k ≡ (has_depth old.loops.items k || goes_back_act_with r is_loop k p i d a)
  pub reversed : (k : ℕ) → has_depth new.reversed.items k ≡ (has_depth old.reversed.items k || reverses_act_by r any_step k p i d a)
  pub slots : (k : ℕ) → has_depth new.slots.items k ≡ (has_depth old.slots.items k || reverses_act_by r has_slots k p i d a)

-- those of a list
pub record AddsList (r : Schedules) (p : Plan) (d i : ℕ) (c : Code) (old new : Depths) : Type 0 where
  pub dos : (k : ℕ) → has_depth new.dos.items k ≡ (has_depth old.dos.items k || goes_back_with r is_do k p i d c)
  pub loops : (k : ℕ) → has_depth new.loops.items k ≡ (has_depth old.loops.items k || goes_back_with r is_loop k p i d c)
  pub reversed : (k : ℕ) → has_depth new.reversed.items k ≡ (has_depth old.reversed.items k || reverses_by r any_step k p i d c)
  pub slots : (k : ℕ) → has_depth new.slots.items k ≡ (has_depth old.slots.items k || reverses_by r has_slots k p i d c)

-- those of a DO of this depth, from what its body adds
abbrev pub AddsLoop : Schedules → Plan → ℕ → ℕ → List ℕ → Code → Mark → Bool → Depths → Depths → Type 0
AddsLoop r p depth i x body m idle mid new =
    (d : ℕ) (a b c : Term) (old : Depths) → depth ≡ suc d → idle ≡ is_empty (backward_with r p (suc i) (suc d) body) → AddsList r p (suc d) (suc i) body old mid → AddsAct r p d i (loop (plain x) a b c body m) old new
