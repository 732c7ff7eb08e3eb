-- The subscripts passed are set apart.
use Rattle.std.proofs.Common.{◌≡◌, ◌+◌}
use Rattle.adj_tree.specs.Code.{plain}
use Rattle.adj_tree.specs.Listed.{terms_turned}
use Rattle.adj_tree.specs.View.{terms_of}
use Rattle.def_kernel.specs.Lowered.{locals_in_target, apart_from, before_target}
use Rattle.adj_norm_statement.specs.Locals.{local_by}
use Rattle.adj_norm_statement.specs.Steps.{Leaves}
use Rattle.adj_norm_statement.proofs.target.separate.Given as goal

abbrev pub invariant-loop-current : goal.invariant-loop-current
invariant-loop-current l = record {
  next : l.passed.next + locals_in_target (plain l.place.name) (terms_of l.current) ≡ l.first + locals_in_target (plain l.place.name) (terms_of l.place.subs);
  subs : terms_turned (terms_of l.passed.turned) (apart_from (local_by l.fn.locals) (plain l.place.name) l.passed.own (terms_of l.current)) ≡ apart_from (local_by l.fn.locals) (plain l.place.name) 0 (terms_of l.place.subs);
  steps : Leaves l.fn.steps.items (before_target (local_by l.fn.locals) l.line (plain l.place.name) 0 l.first (terms_of l.place.subs)) l.steps.items (before_target (local_by l.fn.locals) l.line (plain l.place.name) l.passed.own l.passed.next (terms_of l.current));
  locals : local_by l.locals ≡ local_by l.fn.locals;
}
