-- How long chains of calls are.
use Rattle.std.specs.Prelude.{ℕ, suc, ◌≤◌, List}
use Rattle.adj_tree.specs.Code.{Procedure}
use Rattle.def_names.specs.Calls.{chain_within}

-- no chain from the unit of a name has more than so many calls, however long one looks; a marked DO counts as one more
abbrev pub CallsAtMost : List Procedure → List ℕ → ℕ → Type 0
CallsAtMost ps name calls = (k : ℕ) → chain_within ps k name ≤ suc calls
