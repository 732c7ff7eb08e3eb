-- What statements use of helpers, as the walk counts it.
use Rattle.std.specs.Prelude.{◌≡◌, ℕ, suc, List, [], ◌∷◌, ◌++◌, Bool, false, ◌&&◌, ◌||◌, Some, None, if◌then◌else◌}
use Rattle.adj_tree.specs.Code.{Var, plain, helper, work, temp, control, first, stride, count, turn, entry, entries, kind, lower, upper, slots, Term, Test, Mark, Act, choose, loop, during, Code}
use Rattle.def_names.specs.Numbers.{Vars, next, behind}
use Rattle.def_sweep.specs.Declared.{helpers_from}
use Rattle.def_sweep.specs.Plan as sweeps
use Rattle.def_sweep.specs.Plan.{Plan, Schedules, Step, reversed_by}
use Rattle.def_sweep.specs.Rows.{is_empty}
use Rattle.def_sweep.specs.Emission.{backward_act_with, backward_with}
use Rattle.def_sweep.specs.Program.{works_act, works_used, temps_act, temps_used, depth_act_with, depth_used_with, tells_act_with, tells_some_with, helpers_among}
use Rattle.adj_sweep_assignment.specs.View.{marks_of}
use Rattle.adj_sweep.specs.declared.callees.Dummy.{Dummy}
use Rattle.adj_sweep.specs.declared.depths.Depths.{Depths}
use Rattle.adj_sweep.specs.declared.uses.Used.{Used}
use Rattle.adj_sweep.specs.declared.uses.Known.{Known}
use Rattle.adj_sweep.specs.Depths.{has_depth}
use Rattle.adj_sweep.specs.HelperSteps.{schedules_for}

-- a plan with the marks that are known, whichever variables are arrays
abbrev pub plan_by : Known → Vars → (List ℕ → sweeps.Callee) → Plan
plan_by k arrays callees = record { marks = marks_of k.marks.now; arrays = arrays; callees = callees }

-- the schedules that are known, where the units read these variables
abbrev pub schedules_by : Known → (List ℕ → Vars) → Schedules
schedules_by k reads = schedules_for k.loops reads

-- whether a call saves an actual: one that it writes and for which the test holds
abbrev pub saves_some : (List ℕ → Bool) → List Dummy → List (List ℕ) → Bool
saves_some saved ds [] = false
saves_some saved [] (a ∷ given) = false
saves_some saved (d ∷ ds) (a ∷ given) = (d.written && saved a) || saves_some saved ds given

-- u is what the i-th statement uses, in loops of depth d
pub record UsesAct (r : Schedules) (p : Plan) (d i : ℕ) (a : Act) (u : Used) : Type 0 where
  pub idle : (line : ℕ) → u.idle ≡ is_empty (backward_act_with r p i d line a)
  pub tells : u.tells ≡ tells_act_with r p i d a
  pub works : u.works ≡ works_act p.marks i a
  pub temps : u.temps ≡ temps_act p.marks i a
  pub depth : u.depth ≡ depth_act_with r p i d a
  pub number : u.number ≡ next i a

-- the same of a list whose first statement has the number i
pub record UsesList (r : Schedules) (p : Plan) (d i : ℕ) (c : Code) (u : Used) : Type 0 where
  pub idle : u.idle ≡ is_empty (backward_with r p i d c)
  pub tells : u.tells ≡ tells_some_with r p i d c
  pub works : u.works ≡ works_used p.marks i c
  pub temps : u.temps ≡ temps_used p.marks i c
  pub depth : u.depth ≡ depth_used_with r p i d c
  pub number : u.number ≡ behind i c

-- u is what an IF uses, where its parts use this
abbrev pub UsesIf : Schedules → Plan → ℕ → Used → Used → Used → Type 0
UsesIf r p i one other u = (d : ℕ) (c : Test) (a b : Code) → UsesList r p d (suc i) a one → UsesList r p d one.number b other → UsesAct r p d i (choose c a b) u

-- u is what a DO of this depth uses, where its body uses this
abbrev pub UsesLoop : Schedules → Plan → ℕ → ℕ → List ℕ → Code → Mark → Used → Used → Type 0
UsesLoop r p depth i x body m inner u =
    (d : ℕ) (a b c : Term) → depth ≡ suc d → UsesList r p (suc d) (suc i) body inner → UsesAct r p d i (loop (plain x) a b c body m) u

-- the same where it isn't reversed by a schedule
abbrev pub UsesDo : Schedules → Plan → ℕ → ℕ → List ℕ → Used → Used → Type 0
UsesDo r p depth i x inner u = (body : Code) (m : Mark) → reversed_by r p.marks.adjointed i body m ≡ None → UsesLoop r p depth i x body m inner u

-- and where it is
abbrev pub UsesReversed : Schedules → Plan → ℕ → ℕ → List ℕ → Used → Used → Type 0
UsesReversed r p depth i x inner u = (body : Code) (m : Mark) (s : Step) → reversed_by r p.marks.adjointed i body m ≡ Some s → UsesLoop r p depth i x body m inner u

-- the same of a DO WHILE
abbrev pub UsesWhile : Schedules → Plan → ℕ → ℕ → Used → Used → Type 0
UsesWhile r p depth i inner u = (d : ℕ) (c : Test) (body : Code) → depth ≡ suc d → UsesList r p (suc d) (suc i) body inner → UsesAct r p d i (during c body) u

-- the helpers of loops that are reversed by a schedule, at the depths of a set, and of those among them whose number of snapshots is the
-- value of a variable
abbrev pub reversal_helpers_of : ℕ → List Bool → List Bool → List Var
reversal_helpers_of depth flags others =
    let f = has_depth flags in
    helpers_among f entry 1 depth ++ (helpers_among f entries 1 depth ++ (helpers_among f kind 1 depth ++ (helpers_among f lower 1 depth
    ++ (helpers_among f upper 1 depth ++ helpers_among (has_depth others) slots 1 depth))))

-- the helpers that are declared, where this is used and loops go back at these depths
abbrev pub helpers_of : Used → Depths → List Var
helpers_of u depths =
    (if u.tells then helper control 0 ∷ [] else [])
    ++ (helpers_among (has_depth depths.loops.items) count 1 u.depth ++ (helpers_among (has_depth depths.dos.items) first 1 u.depth
    ++ (helpers_among (has_depth depths.dos.items) stride 1 u.depth ++ (helpers_among (has_depth depths.loops.items) turn 1 u.depth
    ++ (reversal_helpers_of u.depth depths.reversed.items depths.slots.items ++ (helpers_from work 1 u.works ++ helpers_from temp 1 u.temps))))))

-- those that a forward unit declares
abbrev pub forth_helpers_of : Used → Depths → List Var
forth_helpers_of u depths =
    helpers_among (has_depth depths.loops.items) count 1 u.depth ++ (helpers_among (has_depth depths.dos.items) first 1 u.depth
    ++ (helpers_among (has_depth depths.dos.items) stride 1 u.depth ++ helpers_among (has_depth depths.slots.items) slots 1 u.depth))
