use Rattle.std.proofs.Common.{◌≡◌, ◌++◌, ℕ, List, drop}
use Rattle.def_meaning.specs.Apart.{has_name}
use Rattle.adj_data.specs.Marked.{marked_names}
use Rattle.adj_data.proofs.marks.add_marked.Given as goal

abbrev pub invariant-loop-number : goal.invariant-loop-number
invariant-loop-number l = (x : List ℕ) → has_name x (l.set ++ marked_names l.mark (drop l.number l.names) (drop l.number l.flags)) ≡ has_name x (l.fn.set ++ marked_names l.mark l.fn.names l.fn.flags)
