-- The candidates before this one are taken.
use Rattle.std.proofs.Common.{◌≡◌, ◌-◌, length}
use Rattle.def_names.specs.Fresh.{first_free}
use Rattle.adj_naming.proofs.taken.Taken.fresh.Given as goal

abbrev pub invariant-loop-number : goal.invariant-loop-number
invariant-loop-number l = first_free (length l.self) 0 l.base l.self ≡ first_free (length l.self - l.number) l.number l.base l.self
