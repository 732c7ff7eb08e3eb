use Rattle.std.proofs.Common.{ap, ◌∙◌, map, ℕ, List}
use Rattle.std.specs.List.{flat_map}
use Rattle.adj_tree.specs.Code.{Procedure}
use Rattle.adj_tree.specs.View.{procedure_of, code_of}
use Rattle.def_names.specs.Statements.{statements}
use Rattle.def_names.specs.Fault.{first_of, sooner}
use Rattle.def_names.proofs.Order.{sooner_mapped}
use Rattle.adj_symbols.specs.Chain.{length_of, faults_of_chain}
use Rattle.adj_symbols.specs.Rules.{rules_of}
use Rattle.adj_symbols.proofs.Ends.{sooner_end}
use Rattle.adj_symbols.proofs.Lengths.{chains_listed}
use Rattle.adj_symbols.proofs.chains.add_long_chains.Goals as goal

pub loop-outline-preserved : goal.loop-outline-preserved
loop-outline-preserved c =
    let ps = map procedure_of c.args.scope.now in
    let os = c.outlines-outline-items.result.now in
    let f = faults_of_chain c.args.rules.chain (length_of ps c.as_slice-lengths.result.now) in
    sooner_mapped procedure_of (λ u. flat_map f (statements u.body)) os c.loop-outline.outline-index c.outline-item.result c.loop-outline.first c.add_list-length.new.first c.loop-outline-test.true c.outline-item.is
    (c.add_list-length.ensures.faults ∙ ap (λ u. sooner c.loop-outline.first (first_of (flat_map f (statements (code_of u.body))))) c.unit.ensures.unit)
    ∙ c.loop-outline.invariant

pub returns : goal.returns
returns c =
    let ps = map procedure_of c.args.scope.now in
    let m = rules_of c.args.rules in
    let us = c.outlines-outline-items.result.now in
    let f = λ (t : List ℕ) (u : Procedure). flat_map (faults_of_chain c.args.rules.chain (length_of ps t)) (statements u.body) in
    sooner_end procedure_of (f c.as_slice-lengths.result.now) us c.loop-outline.outline-index c.loop-outline.first (sooner c.args.first.now (first_of (flat_map (f c.as_slice-lengths.result.now) (map procedure_of us)))) c.loop-outline-test.false c.loop-outline.invariant
    ∙ ap (λ z. sooner c.args.first.now (first_of (flat_map (f c.as_slice-lengths.result.now) (map procedure_of z)))) c.outlines-outline-items.ensures.outlines
    ∙ ap (λ t. sooner c.args.first.now (first_of (flat_map (f t) ps))) c.as_slice-lengths.ensures.value
    ∙ ap (λ z. sooner c.args.first.now (first_of z)) (chains_listed m ps c.in_ok-found.found.items c.in_ok-found.ensures)
