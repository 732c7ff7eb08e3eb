-- The program fits, so that its flow is small enough.
use Rattle.std.proofs.Common.{map, ap, sym, subst, ◌∙◌, List, ℕ}
use Rattle.adj_tree.specs.Code.{Procedure}
use Rattle.adj_tree.specs.View.{procedure_of}
use Rattle.adj_flow.specs.Low.{AreFew}
use Rattle.adj_plan.proofs.Few.{few_fit}
use Rattle.adj_plan.proofs.planning.flow_of.Goals as goal

pub flow-requires-clause-few : goal.flow-requires-clause-few
flow-requires-clause-few c =
    let vss = ap (map (λ b. b.now)) c.as_slice.ensures.value ∙ c.in_ok-variables.ensures.all in
    let ps = ap (map procedure_of) c.as_slice-units.ensures.members ∙ ap (λ p. map procedure_of p.units) c.program.ensures.program in
    subst (λ (z : List (List (List ℕ)) × List Procedure). AreFew z.0 z.1) (λ i. (sym vss i, sym ps i)) (few_fit c.args.checked.now c.requires.fits)
