-- The subscripts passed have their locals.
use Rattle.std.proofs.Common.{◌≡◌, ◌+◌}
use Rattle.adj_tree.specs.Listed.{terms_turned}
use Rattle.adj_tree.specs.View.{terms_of}
use Rattle.def_kernel.specs.Lowered.{length_of, locals_in_all, held, before_held}
use Rattle.adj_norm_statement.specs.Locals.{local_by}
use Rattle.adj_norm_statement.specs.Steps.{Leaves}
use Rattle.adj_norm_statement.proofs.passing.hold_all.Given as goal

abbrev pub invariant-loop-current : goal.invariant-loop-current
invariant-loop-current l = record {
  next : l.held.next + (length_of (terms_of l.current) + locals_in_all (terms_of l.current)) ≡ l.first + (length_of (terms_of l.subs) + locals_in_all (terms_of l.subs));
  subs : terms_turned (terms_of l.held.turned) (held (local_by l.fn.locals) l.held.next (terms_of l.current)) ≡ held (local_by l.fn.locals) l.first (terms_of l.subs);
  steps : Leaves l.fn.steps.items (before_held (local_by l.fn.locals) l.line l.first (terms_of l.subs)) l.steps.items (before_held (local_by l.fn.locals) l.line l.held.next (terms_of l.current));
  locals : local_by l.locals ≡ local_by l.fn.locals;
}
