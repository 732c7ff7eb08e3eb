-- The actuals passed are names.
use Rattle.std.proofs.Common.{◌≡◌, ◌+◌, []}
use Rattle.adj_tree.specs.Listed.{terms_turned}
use Rattle.adj_tree.specs.View.{terms_of}
use Rattle.def_kernel.specs.Lowered.{all_passed, before_passing_all, after_passing_all, locals_passing_all}
use Rattle.adj_norm_statement.specs.Locals.{local_by}
use Rattle.adj_norm_statement.specs.Passings.{HasNamesOf, vars_in}
use Rattle.adj_norm_statement.specs.Steps.{Leaves}
use Rattle.adj_norm_statement.proofs.call.pass_all.Given as goal

abbrev pub invariant-loop-current : goal.invariant-loop-current
invariant-loop-current l = record {
  earlier : HasNamesOf l.earlier (vars_in (terms_of l.values.turned));
  next : l.values.next + locals_passing_all (local_by l.fn.locals) l.values.next l.flags (vars_in (terms_of l.values.turned)) (terms_of l.current) ≡ l.first + locals_passing_all (local_by l.fn.locals) l.first l.written [] (terms_of l.actuals);
  names : terms_turned (terms_of l.values.turned) (all_passed (local_by l.fn.locals) l.values.next l.flags (vars_in (terms_of l.values.turned)) (terms_of l.current)) ≡ all_passed (local_by l.fn.locals) l.first l.written [] (terms_of l.actuals);
  steps : Leaves l.fn.steps.items (before_passing_all (local_by l.fn.locals) l.line l.first l.written [] (terms_of l.actuals)) l.steps.items (before_passing_all (local_by l.fn.locals) l.line l.values.next l.flags (vars_in (terms_of l.values.turned)) (terms_of l.current));
  after : Leaves l.fn.after.items (after_passing_all (local_by l.fn.locals) l.line l.first l.written [] (terms_of l.actuals)) l.after.items (after_passing_all (local_by l.fn.locals) l.line l.values.next l.flags (vars_in (terms_of l.values.turned)) (terms_of l.current));
  locals : local_by l.locals ≡ local_by l.fn.locals;
}
