-- What both sweeps have to each unit of weight. (docs/THEOREMS.md, "What both sweeps cost")
use Rattle.std.specs.Prelude.{◌≡◌, ℕ, zero, suc, ◌+◌, ◌*◌, ◌≤◌, pos, length, List}
use Rattle.adj_tree.specs.Code.{plain, lit, none, unmarked, Act, assign, loop, Code, Procedure}
use Rattle.def_meaning.specs.Append.{one}
use Rattle.def_kernel.specs.Weights.{weight, total_weight}
use Rattle.def_sweep.specs.Plan.{Plan}
use Rattle.def_sweep.specs.Emission.{adjoint_body}
use Rattle.def_sweep.specs.Marking.{full_marks, plan_in}
use Rattle.law_cost.specs.Sweeps.{statements_of, act_sweeps, list_sweeps, body_sweeps}

-- the sweeps of a statement have at most four statements to each unit of its weight, besides those of its bodies
abbrev pub StatementsCost : Type 0
StatementsCost = (p : Plan) (i d line : ℕ) (a : Act) → act_sweeps p i d line a ≤ 4 * weight a + body_sweeps p i d a

-- so have those of a list
abbrev pub ListsCost : Type 0
ListsCost = (p : Plan) (i d : ℕ) (c : Code) → list_sweeps p i d c ≤ 4 * total_weight c

-- the body of an adjoint has these, and one for each shadow that it clears
abbrev pub AdjointsCost : Type 0
AdjointsCost = (p : Plan) (i line : ℕ) (c : Code) (at_turn at_end : List (List ℕ)) → statements_of (adjoint_body p i line c at_turn at_end) ≤ 4 * total_weight c + length at_turn + length at_end

-- DO in DO, k times, around an assignment
abbrev pub nest : List ℕ → List ℕ → ℕ → ℕ → Code
nest x y line zero = one line (assign (plain y) none (lit (pos 0)))
nest x y line (suc k) = one line (loop (plain x) (lit (pos 1)) (lit (pos 1)) (lit (pos 1)) (nest x y line k) unmarked)

-- with full marks their sweeps have 16 * k + 4 statements to a weight of 4 * k + 2: so no constant below four would do
abbrev pub LoopsCost : Type 0
LoopsCost = (ps : List Procedure) (u : Procedure) (i d line k : ℕ) (x y : List ℕ) → (total_weight (nest x y line k) ≡ 4 * k + 2) × (list_sweeps (plan_in full_marks ps u) i d (nest x y line k) ≡ 16 * k + 4)
