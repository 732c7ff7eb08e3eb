-- The subscripts passed that mention the array are counted.
use Rattle.std.proofs.Common.{◌≡◌, ◌+◌}
use Rattle.adj_tree.specs.Code.{plain}
use Rattle.adj_tree.specs.View.{terms_of}
use Rattle.def_kernel.specs.Lowered.{mentions}
use Rattle.adj_norm_statement.proofs.target.mentions.Given as goal

abbrev pub invariant-loop-current : goal.invariant-loop-current
invariant-loop-current l = record { counted : l.count + mentions (plain l.name) (terms_of l.current) ≡ mentions (plain l.name) (terms_of l.subs) }
