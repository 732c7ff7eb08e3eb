use Rattle.std.proofs.Common.{◌∙◌, ◌+◌, map, drop, sym, ap}
use Rattle.std.proofs.lemmas.List.{drop_all}
use Rattle.adj_tree.specs.Listed.{terms_onto}
use Rattle.adj_tree.specs.View.{term_of}
use Rattle.def_meaning.specs.Rename.{rename_terms}
use Rattle.adj_sweep.specs.Actuals.{all_with_shadows}
use Rattle.adj_sweep.specs.Plans.{naming_in}
use Rattle.adj_sweep.proofs.Groups.{dropped}
use Rattle.adj_sweep.proofs.plan.Plan.with_shadows.Goals as goal

pub loop-actual-preserved : goal.loop-actual-preserved
loop-actual-preserved c =
    let r = naming_in c.args.self.now in
    let i = c.loop-actual.actual-index in
    let all = c.args.actuals.now in
    let a = c.actual-item.result in
    c.in_ok-push_with_shadow.ensures.pushed (all_with_shadows (drop (i + 1) all))
    ∙ ap (λ z. terms_onto (map term_of c.loop-actual.made.items) (rename_terms r (all_with_shadows z))) (sym (dropped all i a c.loop-actual-test.true c.actual-item.is))
    ∙ c.loop-actual.invariant

pub returns : goal.returns
returns c =
    let r = naming_in c.args.self.now in
    record {
      actuals = c.in_ok-all.ensures.listed
          ∙ ap (λ z. terms_onto (map term_of c.loop-actual.made.items) (rename_terms r (all_with_shadows z))) (sym (drop_all c.loop-actual.actual-index c.args.actuals.now c.loop-actual-test.false)) ∙ c.loop-actual.invariant;
    }
