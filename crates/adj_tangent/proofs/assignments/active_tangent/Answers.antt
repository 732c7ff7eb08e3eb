use Rattle.adj_tree.specs.View.{term_of}
use Rattle.def_sweep.specs.AdjointOf.{temps_where}
use Rattle.def_tangent.specs.TangentOf.{parts_where}
use Rattle.adj_sweep_assignment.specs.Sites.{naming_of, active_in}
use Rattle.adj_sweep_assignment.proofs.Behind.{both_behind}
use Rattle.adj_tangent.proofs.assignments.active_tangent.Goals as goal

pub returns : goal.returns
returns c =
    let on = active_in c.args.site.now in
    let e = term_of c.args.e.now in
    let line = c.args.site.now.line in
    record {
      value = c.in_ok-made.ensures.tangent.value;
      steps = both_behind (naming_of c.args.site.now) (temps_where on e 1 line) (parts_where on e 1 1 line) c.args.steps.now.items c.apart.new.steps.items c.term_tangent.new.steps.items c.in_ok-apart.ensures.steps c.in_ok-made.ensures.steps;
    }
