-- Facts by numbers. At each point and for each statement there is room for w + 2 numbers, where no unit has more than w variables:
-- those below w are its variables, one is that the statement of the number is kept, and one that a dummy is wanted.
use Rattle.std.specs.Prelude.{ℕ, ◌+◌, ◌*◌, List, Option, Some, None}
use Rattle.adj_tree.specs.Code.{Var, plain}
use Rattle.def_flow.specs.Live.{Fact, needed, kept, wanted}
use Rattle.adj_flow.specs.Nodes.{node_in}

-- a variable of a unit is needed at a point
abbrev pub needed_at : ℕ → List Var → ℕ → Var → Option ℕ
needed_at w vs p v = node_in (w + 2) vs (p, v)

-- a statement is kept
abbrev pub kept_at : ℕ → ℕ → ℕ
kept_at w i = i * (w + 2) + w

abbrev pub wanted_number : ℕ → Option ℕ → Option ℕ
wanted_number w None = None
wanted_number w (Some n) = Some (n * (w + 2) + (w + 1))

-- a dummy is in the entry set of the unit of a number
abbrev pub wanted_at : ℕ → List Var → ℕ → List ℕ → Option ℕ
wanted_at w vs u d = wanted_number w (node_in w vs (u, plain d))

-- the number of a fact about a unit that has these variables
abbrev pub fact_at : ℕ → List Var → Fact → Option ℕ
fact_at w vs (needed p v) = needed_at w vs p v
fact_at w vs (kept i) = Some (kept_at w i)
fact_at w vs (wanted u d) = wanted_at w vs u d
