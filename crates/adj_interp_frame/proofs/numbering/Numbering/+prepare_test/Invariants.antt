-- A condition comes between one and its parts.
use Rattle.std.proofs.Common.{◌+◌, ◌*◌, max}
use Rattle.adj_tree.specs.declared.expr.Cond.{size-Cond}
use Rattle.adj_interp_frame.proofs.numbering.Numbering.+prepare_test.Given as goal

abbrev pub decreases-test : goal.decreases-test
decreases-test l = 3 * size-Cond l.cond.now

abbrev pub decreases-part : goal.decreases-part
decreases-part l = 3 * size-Cond l.cond.now + 1

abbrev pub decreases-parts : goal.decreases-parts
decreases-parts l = 3 * max (size-Cond l.c.now) (size-Cond l.d.now) + 2
