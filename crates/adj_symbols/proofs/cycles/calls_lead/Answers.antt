use Rattle.std.proofs.Common.{◌≡◌, ◌<◌, ◌∷◌, [], map, sym, subst, ◌∙◌, IsTrue, ◌↔◌}
use Rattle.adj_tree.specs.View.{procedure_of}
use Rattle.def_names.specs.Calls.{calls_lead}
use Rattle.adj_reach.specs.Edges.{ReachedFrom}
use Rattle.adj_symbols.proofs.Cycling.{number_below, found_leads, lost_leads, if_ok}
use Rattle.adj_symbols.proofs.cycles.calls_lead.Goals as goal

pub leads-requires : goal.leads-requires
leads-requires c =
    let ps = map procedure_of c.args.scope.now in
    subst (λ n. c.in-Some-Some.first < n) (sym c.requires.nodes) (number_below ps c.args.from.now c.in-Some-Some.first (sym c.number.ensures.number ∙ c.in-Some-Some.is-0))

pub returns-in-Some-Some : goal.returns-in-Some-Some
returns-in-Some-Some c =
    let ps = map procedure_of c.args.scope.now in
    let x = c.args.from.now in
    let y = c.args.to.now in
    let i = c.in-Some-Some.first in
    let j = c.in-Some-Some.last in
    if_ok (λ b. IsTrue b ↔ ReachedFrom c.args.graph.now.edges (i ∷ []) j) (λ b. b ≡ calls_lead ps x y) c.leads.result
    (λ b h. found_leads ps x y i j b (sym c.number.ensures.number ∙ c.in-Some-Some.is-0) (sym c.number-2.ensures.number ∙ c.in-Some-Some.is-1) (subst (λ es. IsTrue b ↔ ReachedFrom es (i ∷ []) j) c.requires.edges h))
    c.leads.ensures.leads

pub returns-in-None-default-2 : goal.returns-in-None-default-2
returns-in-None-default-2 c =
    lost_leads (map procedure_of c.args.scope.now) c.args.from.now c.args.to.now (sym c.number.ensures.number ∙ c.in-None-default.is-0) c.requires.unit
