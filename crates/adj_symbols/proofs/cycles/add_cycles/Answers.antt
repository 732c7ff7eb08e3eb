use Rattle.std.proofs.Common.{◌≡◌, ap, sym, subst, ◌∙◌, map, length}
use Rattle.std.proofs.lemmas.List.{length-map}
use Rattle.def_names.specs.Laws.{IsIn}
use Rattle.adj_reach.specs.Edges.{AreBelow}
use Rattle.adj_symbols.proofs.Cycling.{get_in, edges_below, member_number, in_mapped}
use Rattle.std.specs.List.{flat_map}
use Rattle.adj_tree.specs.Code.{Procedure}
use Rattle.adj_tree.specs.View.{procedure_of}
use Rattle.def_names.specs.Calls.{calls, calls_lead}
use Rattle.def_names.specs.Fault.{fault, faults_if, first_of, sooner}
use Rattle.def_names.proofs.Order.{sooner_mapped}
use Rattle.adj_symbols.proofs.Ends.{sooner_end}
use Rattle.adj_symbols.proofs.cycles.add_cycles.Goals as goal

pub new-requires-clause-below : goal.new-requires-clause-below
new-requires-clause-below c =
    let ps = map procedure_of c.args.scope.now in
    let count : length ps ≡ length c.outlines.result.now = length-map c.args.scope.now procedure_of ∙ ap length (sym c.outlines.ensures.outlines) in
    subst (λ n. AreBelow n c.in_ok-edges.edges.items) count (subst (AreBelow (length ps)) (sym c.in_ok-edges.ensures) (edges_below ps))

pub add_unit_cycles-requires-clause-unit : goal.add_unit_cycles-requires-clause-unit
add_unit_cycles-requires-clause-unit c =
    let ps = map procedure_of c.args.scope.now in
    let os = c.outlines-outline-items.result.now in
    let o = c.outline-item.result in
    let here : IsIn o os = subst (λ z. IsIn z os) (sym c.outline-item.is) (get_in os c.loop-outline.outline-index o c.loop-outline-test.true) in
    member_number ps (procedure_of o) (in_mapped procedure_of o c.args.scope.now (subst (IsIn o) c.outlines-outline-items.ensures.outlines here))

pub loop-outline-preserved : goal.loop-outline-preserved
loop-outline-preserved c =
    let ps = map procedure_of c.args.scope.now in
    sooner_mapped procedure_of (λ u. flat_map (λ b. faults_if (calls_lead ps (b.1).0 u.name) (fault 16 b.0)) (calls u)) c.outlines-outline-items.result.now c.loop-outline.outline-index c.outline-item.result c.loop-outline.first c.add_unit_cycles.new.first c.loop-outline-test.true c.outline-item.is c.in_ok-add_unit_cycles.ensures
    ∙ c.loop-outline.invariant

pub returns : goal.returns
returns c =
    let ps = map procedure_of c.args.scope.now in
    let f = λ (u : Procedure). flat_map (λ b. faults_if (calls_lead ps (b.1).0 u.name) (fault 16 b.0)) (calls u) in
    let us = c.outlines-outline-items.result.now in
    sooner_end procedure_of f us c.loop-outline.outline-index c.loop-outline.first (sooner c.args.first.now (first_of (flat_map f (map procedure_of us)))) c.loop-outline-test.false c.loop-outline.invariant
    ∙ ap (λ z. sooner c.args.first.now (first_of (flat_map f (map procedure_of z)))) c.outlines-outline-items.ensures.outlines
