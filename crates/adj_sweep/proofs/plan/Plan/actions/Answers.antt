use Rattle.std.proofs.Common.{◌∙◌, ap}
use Rattle.adj_tree.specs.Code.{Code, plain, helper, count, entry, kind, lower, upper, var, loop, unmarked, runtime, give_action, step}
use Rattle.adj_tree.specs.View.{term_of, mark_of, code_of}
use Rattle.def_meaning.specs.Rename.{rename_term}
use Rattle.def_sweep.specs.ReversalCode.{slots_of}
use Rattle.adj_naming.specs.Roles.{role_of}
use Rattle.adj_sweep.specs.Plans.{naming_in}
use Rattle.adj_sweep.proofs.plan.Plan.actions.Goals as goal

pub returns : goal.returns
returns c =
    let r = naming_in c.args.self.now in
    let line = c.args.at.line in
    let d = c.args.at.depth in
    let own = c.of_depth.ensures in
    let last = c.in_ok-last.ensures.term ∙ (λ j. var (r (helper (role_of (own.role j)) (own.number j)))) in
    let given = give_action (var (r (helper count d))) (rename_term r (slots_of d (mark_of c.args.step.now.mark.now))) (var (r (helper entry d))) (r (helper kind d)) (r (helper lower d)) (r (helper upper d)) in
    let made = c.in_ok-turns.ensures in
    record {
      actions = λ callees.
          let body = c.in_ok-body.ensures.call ∙ ap (λ (z : Code). step line (runtime given) z) (c.in_ok-arms.ensures.arms callees) in
          c.in_ok-code.ensures.step
          ∙ (λ i. step (made.line i) ((made.act ∙ (λ j. loop (plain (c.in_ok-number.ensures.name j)) (term_of (c.in_ok-first.ensures.boxed j)) (last j) (term_of (c.in_ok-by.ensures.boxed j)) (body j) unmarked)) i) (code_of c.args.rest));
    }
