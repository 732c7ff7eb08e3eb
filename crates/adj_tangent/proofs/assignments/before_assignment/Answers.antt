use Rattle.std.proofs.Common.{ap}
use Rattle.adj_tree.specs.Code.{plain}
use Rattle.adj_tree.specs.View.{term_of, terms_of}
use Rattle.adj_sweep_assignment.specs.Sites.{naming_of, active_in}
use Rattle.adj_tangent.proofs.Before.{before_some, before_none}
use Rattle.adj_tangent.proofs.Values.{some_value}
use Rattle.adj_tangent.proofs.assignments.before_assignment.Goals as goal

pub returns-in_ok-made-in-Some : goal.returns-in_ok-made-in-Some
returns-in_ok-made-in-Some c =
    let r = naming_of c.args.site.now in
    let on = active_in c.args.site.now in
    let e = term_of c.args.e.now in
    let x = c.args.target.now in
    let given = c.in_ok-value.ensures in
    record {
      steps = before_some r on x.name (terms_of x.subs) e c.args.site.now.line c.in_ok-value.value c.in-Some.value c.args.steps.now.items c.active_tangent.new.steps.items c.set_tangent.new.steps.items c.in-Some.is given.value given.steps (λ t. c.in_ok-made-in-Some.ensures.steps t);
    }

pub returns-in_ok-made-in-None : goal.returns-in_ok-made-in-None
returns-in_ok-made-in-None c =
    let r = naming_of c.args.site.now in
    let on = active_in c.args.site.now in
    let e = term_of c.args.e.now in
    let x = c.args.target.now in
    let given = c.in_ok-value.ensures in
    record {
      steps = before_none r on x.name (terms_of x.subs) e c.args.site.now.line c.in_ok-value.value c.in_ok-zero-in-None.zero c.args.steps.now.items c.active_tangent.new.steps.items c.set_tangent-in-None.new.steps.items c.in-None.is (ap term_of c.in_ok-zero-in-None.ensures.boxed) given.value given.steps (λ t. c.in_ok-made-in-None.ensures.steps t);
    }
