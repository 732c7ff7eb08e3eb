-- The measures; what was made is the first part of the list, turned round.
use Rattle.std.proofs.Common.{◌≤◌, ◌+◌, ◌*◌, max}
use Rattle.adj_tree.specs.declared.expr.Expr.{size-Expr}
use Rattle.adj_tree.specs.declared.expr.Exprs.{size-Exprs}
use Rattle.adj_tree.specs.View.{terms_of}
use Rattle.adj_tree.specs.Listed.{terms_turned}
use Rattle.adj_interp_frame.specs.Prepared.{terms_in, AreTermsBelow}
use Rattle.adj_interp_frame.specs.Numbered.{Extends, Resolves}
use Rattle.adj_interp_frame.proofs.numbering.Numbering.+prepare_term.Given as goal

abbrev pub decreases-term : goal.decreases-term
decreases-term l = 3 * size-Expr l.expr.now

abbrev pub decreases-operand : goal.decreases-operand
decreases-operand l = 3 * size-Expr l.expr.now + 1

abbrev pub decreases-operands : goal.decreases-operands
decreases-operands l = 3 * max (size-Expr l.a.now) (size-Expr l.b.now) + 2

abbrev pub decreases-terms : goal.decreases-terms
decreases-terms l = 3 * size-Exprs l.exprs.now

abbrev pub invariant-terms-loop-current : goal.invariant-terms-loop-current
invariant-terms-loop-current l = record {
  no_deeper : size-Exprs l.current ≤ size-Exprs l.initial.current;
  extends : Extends l.initial.self l.self;
  resolves : Resolves (λ names made. terms_turned (terms_in names made) (terms_of l.current)) AreTermsBelow l.self l.made (terms_of l.initial.current);
}
