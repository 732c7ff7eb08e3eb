use Rattle.std.proofs.Common.{◌≡◌, ◌∙◌, sym, ap}
use Rattle.adj_tree.specs.Code.{call, Code, step}
use Rattle.adj_tree.specs.View.{code_of}
use Rattle.def_meaning.specs.Append.{◌+++◌, one}
use Rattle.def_meaning.specs.Rename.{rename}
use Rattle.def_meaning.proofs.Appends.{append_assoc}
use Rattle.def_sweep.specs.Rows.{pops}
use Rattle.adj_sweep_assignment.specs.View.{marks_of}
use Rattle.adj_sweep.specs.declared.actuals.Group.TheVariants.{Snapshot}
use Rattle.adj_sweep.specs.Actuals.{is_in, chosen, all_with_shadows}
use Rattle.adj_sweep.specs.Plans.{naming_in, plan_of}
use Rattle.adj_sweep.proofs.Emitted.{kept_before_if, kept_before_not}
use Rattle.adj_sweep.proofs.plan.Plan.call_adjoint.Goals as goal

pub returns-then-not-adjointed : goal.returns-then-not-adjointed
returns-then-not-adjointed c =
    let m = marks_of c.args.self.now.marks.now in
    let called = rename (naming_in c.args.self.now) (one c.args.line (call c.args.adjoint.now (all_with_shadows c.args.actuals.now))) in
    record {
      called = λ callees. kept_before_not (m.adjointed c.args.number) (pops (plan_of c.args.self.now callees) c.args.line (chosen (is_in (m.saved c.args.number) Snapshot) c.args.actuals.now) +++ called) (code_of c.args.rest) (sym c.adjointed.ensures.adjointed ∙ c.if-not-adjointed.true);
    }

pub returns : goal.returns
returns c =
    let m = marks_of c.args.self.now.marks.now in
    let rest = code_of c.args.rest in
    let called = rename (naming_in c.args.self.now) (one c.args.line (call c.args.adjoint.now (all_with_shadows c.args.actuals.now))) in
    let written : code_of c.in_ok-called.called ≡ called +++ rest = c.in_ok-called.ensures.step ∙ (λ i. step c.args.line (call c.args.adjoint.now (c.in_ok-given.ensures.actuals i)) rest) in
    record {
      called = λ callees.
          let popped : Code = pops (plan_of c.args.self.now callees) c.args.line (chosen (is_in (m.saved c.args.number) Snapshot) c.args.actuals.now) in
          kept_before_if (m.adjointed c.args.number) (popped +++ called) rest (code_of c.in_ok-code.code) (sym c.adjointed.ensures.adjointed ∙ c.if-not-adjointed.false)
          (c.in_ok-code.ensures.popped callees ∙ ap (λ z. popped +++ z) written ∙ sym (append_assoc popped called rest));
    }
