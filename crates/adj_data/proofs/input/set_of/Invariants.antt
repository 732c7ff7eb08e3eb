use Rattle.std.proofs.Common.{◌≡◌, ℕ, List, take}
use Rattle.def_meaning.specs.Apart.{has_name}
use Rattle.adj_data.proofs.input.set_of.Given as goal

abbrev pub invariant-loop-name : goal.invariant-loop-name
invariant-loop-name l = (x : List ℕ) → has_name x l.set ≡ has_name x (take l.name-index l.name-items)
