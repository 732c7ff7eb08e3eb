use Rattle.std.proofs.Common.{◌∙◌, sym, ap}
use Rattle.adj_tree.specs.Code.{plain}
use Rattle.def_meaning.specs.Apart.{has_name}
use Rattle.def_meaning.specs.Append.{one}
use Rattle.adj_sweep.specs.Plans.{naming_in, plan_of}
use Rattle.adj_sweep.proofs.Cleared.{cleared_array, cleared_scalar}
use Rattle.adj_sweep.proofs.plan.Plan.clear.Goals as goal

pub returns-then-has : goal.returns-then-has
returns-then-has c = record {
  clears = λ callees. cleared_array (naming_in c.args.self.now) (plan_of c.args.self.now callees) c.args.line c.args.x.now c.in_ok-name.name (sym (c.has.ensures.found ∙ ap (λ z. has_name z c.args.self.now.arrays.now) c.bytes.ensures.bytes) ∙ c.if-has.true) (ap plain c.in_ok-name.ensures.name);
}

pub returns : goal.returns
returns c = record {
  clears = λ callees.
      (λ i. one (c.scalar_assignment.ensures.line i) (c.scalar_assignment.ensures.act i))
      ∙ cleared_scalar (naming_in c.args.self.now) (plan_of c.args.self.now callees) c.args.line c.args.x.now c.in_ok-name.name (sym (c.has.ensures.found ∙ ap (λ z. has_name z c.args.self.now.arrays.now) c.bytes.ensures.bytes) ∙ c.if-has.false) (ap plain c.in_ok-name.ensures.name);
}
