use Rattle.std.proofs.Common.{◌≡◌, true, sym, ap, subst, ◌∙◌}
use Rattle.adj_tree.specs.Code.{plain}
use Rattle.adj_tree.specs.View.{term_of, terms_of, act_of}
use Rattle.def_meaning.specs.Rename.{rename}
use Rattle.def_sweep.specs.Marked.{code_if}
use Rattle.def_tangent.specs.TangentOf.{before_assignment}
use Rattle.def_tangent.specs.Forward.{before_act}
use Rattle.adj_sweep_assignment.specs.Behind.{AreBehind}
use Rattle.adj_tangent.specs.Plans.{naming_in, plan_of, active_by}
use Rattle.adj_tangent.proofs.plan.Plan.push_before.Goals as goal

pub returns-in_ok-made-in-Assign : goal.returns-in_ok-made-in-Assign
returns-in_ok-made-in-Assign c = record {
  steps = λ callees.
      let self = c.args.self.now in
      let r = naming_in self in
      let on = active_by self.marking.now in
      let line = c.args.stmt.now.line in
      let t = c.in-Assign.target in
      let e = term_of c.in-Assign.e in
      let subs = terms_of t.subs in
      let s0 = c.args.steps.now.items in
      let s1 = c.before_assignment.new.steps.items in
      let made = subst (λ z. AreBehind z s0 s1) (λ i. rename (c.site-site.ensures.naming i) (before_assignment (c.site-site.ensures.active i) t.name subs e (c.site-site.ensures.line i))) c.in_ok-made-in-Assign.ensures.steps in
      let carries : on (plain t.name) ≡ true = sym c.carries.ensures.carries ∙ c.if-not-carries.false in
      let here : AreBehind (rename r (code_if (on (plain t.name)) (before_assignment on t.name subs e line))) s0 s1 = subst (λ b. AreBehind (rename r (code_if b (before_assignment on t.name subs e line))) s0 s1) (sym carries) made in
      subst (λ a. AreBehind (rename r (before_act (plan_of self callees) line a)) s0 s1) (sym (ap act_of c.in-Assign.is)) here;
}
