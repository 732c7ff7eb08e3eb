use Rattle.std.proofs.Common.{◌∙◌, sym}
use Rattle.adj_tree.specs.View.{term_of, terms_of, code_of}
use Rattle.def_sweep.specs.Marks.{active_at}
use Rattle.def_sweep.specs.AdjointOf.{adjoint_where}
use Rattle.adj_sweep_assignment.specs.View.{marks_of}
use Rattle.adj_sweep.specs.Plans.{naming_in}
use Rattle.adj_sweep.proofs.Emitted.{before_if, before_not}
use Rattle.adj_sweep.proofs.plan.Plan.adjoint_of.Goals as goal

pub returns-then-not-adjointed : goal.returns-then-not-adjointed
returns-then-not-adjointed c =
    let m = marks_of c.args.self.now.marks.now in
    let x = c.args.place.now in
    record {
      adjoint = before_not (naming_in c.args.self.now) (m.adjointed c.args.number) (adjoint_where (active_at m c.args.number) x.name (terms_of x.subs) (term_of c.args.e.now) c.args.line) (code_of c.args.rest) (sym c.adjointed.ensures.adjointed ∙ c.if-not-adjointed.true);
    }

pub returns : goal.returns
returns c =
    let m = marks_of c.args.self.now.marks.now in
    let x = c.args.place.now in
    record {
      adjoint = before_if (naming_in c.args.self.now) (m.adjointed c.args.number) (adjoint_where (active_at m c.args.number) x.name (terms_of x.subs) (term_of c.args.e.now) c.args.line) (code_of c.args.rest) (code_of c.in_ok-code.code) (sym c.adjointed.ensures.adjointed ∙ c.if-not-adjointed.false)
          c.in_ok-code.ensures.steps;
    }
