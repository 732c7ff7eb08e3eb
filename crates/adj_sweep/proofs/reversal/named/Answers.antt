use Rattle.std.proofs.Common.{◌∙◌, ◌+◌, map, drop, sym, ap}
use Rattle.std.proofs.lemmas.List.{drop_all}
use Rattle.adj_tree.specs.Code.{plain, var, more}
use Rattle.adj_tree.specs.Listed.{terms_onto}
use Rattle.adj_tree.specs.View.{term_of}
use Rattle.adj_tree.specs.declared.expr.Expr.TheVariants.{Var}
use Rattle.adj_tree.proofs.Onto.{terms_onto_push}
use Rattle.def_sweep.specs.Plan.{actuals_named}
use Rattle.adj_sweep.proofs.Groups.{dropped}
use Rattle.adj_sweep.proofs.reversal.named.Goals as goal

pub loop-name-preserved : goal.loop-name-preserved
loop-name-preserved c =
    let i = c.loop-name.name-index in
    let all = c.args.given.now in
    let v0 = c.loop-name.made.items in
    let v1 = c.push.new.self.items in
    let rest = actuals_named (drop (i + 1) all) in
    terms_onto_push v1 v0 (Var c.in_ok-copy.field-0) rest c.in_ok-push.ensures.items
    ∙ (λ k. terms_onto (map term_of v0) (more (var (plain (c.in_ok-copy.ensures.same k))) rest))
    ∙ ap (λ z. terms_onto (map term_of v0) (actuals_named z)) (sym (dropped all i c.name-item.result c.loop-name-test.true c.name-item.is))
    ∙ c.loop-name.invariant

pub returns : goal.returns
returns c = record {
  named = c.in_ok-all.ensures.listed
      ∙ ap (λ z. terms_onto (map term_of c.loop-name.made.items) (actuals_named z)) (sym (drop_all c.loop-name.name-index c.args.given.now c.loop-name-test.false)) ∙ c.loop-name.invariant;
}
