-- Which calls count by marks, and what is known of the dummies of units in their order.
use Rattle.std.specs.Prelude.{ℕ, suc, List, [], ◌∷◌, Bool, not, ◌&&◌, ◌||◌, drop}
use Rattle.adj_tree.specs.Code.{Procedure}
use Rattle.def_sweep.specs.Marking.{ProgramMarks}
use Rattle.adj_reach.specs.Edges.{flag}
use Rattle.adj_sweep.specs.HelperSteps.{are_reversed}
use Rattle.adj_sweep.specs.declared.callees.Dummy.{Dummy}
use Rattle.adj_sweep.specs.declared.callees.Callee.{Callee}
use Rattle.adj_weave.specs.declared.calls.Counting as counting
use Rattle.adj_weave.specs.declared.calls.Counting.TheVariants as which
use Rattle.adj_weave.specs.declared.marks.Marked.{Marked}
use Rattle.adj_weave.specs.Marked.{program_marks, unit_dummy}

-- the step call of a marked loop that is reversed by a schedule, where a call is all that its turns do
abbrev pub is_step_call : ProgramMarks → Bool → ℕ → Bool → Bool
is_step_call m reversed i turns = reversed && (turns && m.adjointed i)

-- the calls that count, by the numbers of their statements and by whether they are all that the turns of a marked loop do
abbrev pub is_edge : Marked → counting.Counting → ℕ → Bool → Bool
is_edge m (which.Plain loops) i turns = ((program_marks m).kept i && not ((program_marks m).split i)) || is_step_call (program_marks m) (are_reversed loops) i turns
is_edge m (which.Paired loops) i turns = not ((program_marks m).split i) || is_step_call (program_marks m) (are_reversed loops) i turns
is_edge m which.Adjointed i turns = (program_marks m).adjointed i
is_edge m which.Whole i turns = (program_marks m).adjointed i && not ((program_marks m).split i)
is_edge m which.Split i turns = (program_marks m).adjointed i && (program_marks m).split i

-- ---- callees

-- the names of the units that are made of a unit: of its adjoint, of its forward and of its backward unit
pub record Names : Type 0 where
  pub adjoint : List ℕ
  pub forth : List ℕ
  pub back : List ℕ

-- the names and the dummies
abbrev pub said : Callee → Names × List Dummy
said k = (record { adjoint = k.adjoint; forth = k.forth; back = k.back }, k.dummies.items)

-- the names of some units in their order
abbrev pub names_of : List (List ℕ) → List (List ℕ) → List (List ℕ) → List Names
names_of (x ∷ xs) (y ∷ ys) (z ∷ zs) = record { adjoint = x; forth = y; back = z } ∷ names_of xs ys zs
names_of xs ys zs = []

-- a dummy of the k-th unit, which the unit writes, and reads, or not
abbrev pub dummy_said : Marked → ℕ → List ℕ → Bool → Bool → Dummy
dummy_said m k d w r = record (unit_dummy m k d w) { read = r }

-- the dummies of the k-th unit, of which flags say whether it writes and whether it reads them
abbrev pub dummies_said : Marked → ℕ → List (List ℕ) → List Bool → List Bool → List Dummy
dummies_said m k [] ws rs = []
dummies_said m k (d ∷ ds) ws rs = dummy_said m k d (flag ws 0) (flag rs 0) ∷ dummies_said m k ds (drop 1 ws) (drop 1 rs)

-- what is said of units of which the first is the k-th, by the names of what is made of them and by the flags of their dummies
abbrev pub said_of : Marked → ℕ → List Procedure → List Names → List (List Bool) → List (List Bool) → List (Names × List Dummy)
said_of m k [] xs rows others = []
said_of m k (u ∷ us) [] rows others = []
said_of m k (u ∷ us) (x ∷ xs) [] others = []
said_of m k (u ∷ us) (x ∷ xs) (ws ∷ rows) [] = []
said_of m k (u ∷ us) (x ∷ xs) (ws ∷ rows) (rs ∷ others) = (x, dummies_said m k u.dummies ws rs) ∷ said_of m (suc k) us xs rows others
