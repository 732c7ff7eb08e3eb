-- The actuals passed are values.
use Rattle.std.proofs.Common.{◌≡◌, ◌+◌}
use Rattle.adj_tree.specs.Listed.{terms_turned}
use Rattle.adj_tree.specs.View.{terms_of}
use Rattle.def_kernel.specs.Lowered.{locals_in_all, reduced_all, before_all}
use Rattle.adj_norm_statement.specs.Locals.{local_by}
use Rattle.adj_norm_statement.specs.Steps.{Leaves}
use Rattle.adj_norm_statement.proofs.call.reduce_all.Given as goal

abbrev pub invariant-loop-current : goal.invariant-loop-current
invariant-loop-current l = record {
  next : l.values.next + locals_in_all (terms_of l.current) ≡ locals_in_all (terms_of l.actuals);
  actuals : terms_turned (terms_of l.values.turned) (reduced_all (local_by l.fn.locals) l.values.next (terms_of l.current)) ≡ reduced_all (local_by l.fn.locals) 0 (terms_of l.actuals);
  steps : Leaves l.fn.steps.items (before_all (local_by l.fn.locals) l.line 0 (terms_of l.actuals)) l.steps.items (before_all (local_by l.fn.locals) l.line l.values.next (terms_of l.current));
  locals : local_by l.locals ≡ local_by l.fn.locals;
}
