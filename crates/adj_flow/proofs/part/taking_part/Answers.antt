-- The calls that are listed are the steps, and the head is the beginning.
use Rattle.std.proofs.Common.{◌≡◌, ◌<◌, ◌∷◌, [], length, map, ap, sym, ◌∙◌, subst, arith, refl, false}
use Rattle.std.proofs.lemmas.List.{length-map}
use Rattle.adj_tree.specs.View.{procedure_of}
use Rattle.def_names.specs.StatementsIn.{statements_in}
use Rattle.def_flow.specs.Problem.{Problem}
use Rattle.adj_reach.specs.Edges.{AreBelow, ReachedFrom}
use Rattle.def_flow.proofs.Numbered.{exact_by_number}
use Rattle.adj_symbols_writes.specs.Graph.{number_from}
use Rattle.adj_symbols_writes.specs.Table.{value_of}
use Rattle.adj_flow.specs.Calls.{calls_from, calls_of}
use Rattle.adj_flow.proofs.Calling.{rows_calls, calls_listed, calls_within}
use Rattle.adj_flow.proofs.part.taking_part.Goals as goal

pub reach-requires-clause-edges : goal.reach-requires-clause-edges
reach-requires-clause-edges c =
    let k : Problem = record { units = map procedure_of c.args.units.now; head = c.args.head; vars = []; outvars = []; split = λ n. false } in
    let n : length (map procedure_of c.args.units.now) ≡ length c.args.units.now = length-map c.args.units.now procedure_of in
    let l : c.args.head < length (map procedure_of c.args.units.now) = omega (arith, c.requires.head) in
    subst (λ es. AreBelow (length c.args.units.now) es) (sym (c.as_slice.ensures.value ∙ c.in_ok-edges.ensures.edges ∙ ap (calls_of (λ x. value_of x c.args.numbers.now)) c.requires.rows.1 ∙ rows_calls (λ x. value_of x c.args.numbers.now) c.requires.rows.0 (statements_in 0 (map procedure_of c.args.units.now)) 0 0 (map procedure_of c.args.units.now) ∙ (λ i. calls_from (λ x. c.requires.numbers x i) 0 0 (map procedure_of c.args.units.now))))
    (subst (λ m. AreBelow m (calls_from (number_from 0 (map procedure_of c.args.units.now)) 0 0 (map procedure_of c.args.units.now))) n (calls_within k l))

pub returns-clause-exact : goal.returns-clause-exact
returns-clause-exact c g h =
    let k : Problem = record { units = map procedure_of c.args.units.now; head = c.args.head; vars = []; outvars = []; split = λ n. false } in
    let l : c.args.head < length (map procedure_of c.args.units.now) = omega (arith, length-map c.args.units.now procedure_of, c.requires.head) in
    let e = c.as_slice.ensures.value ∙ c.in_ok-edges.ensures.edges ∙ ap (calls_of (λ x. value_of x c.args.numbers.now)) c.requires.rows.1 ∙ rows_calls (λ x. value_of x c.args.numbers.now) c.requires.rows.0 (statements_in 0 (map procedure_of c.args.units.now)) 0 0 (map procedure_of c.args.units.now) ∙ (λ i. calls_from (λ x. c.requires.numbers x i) 0 0 (map procedure_of c.args.units.now)) in
    let x = exact_by_number (calls_listed k l) g g.number (h, refl) in
    let r = c.in_ok-flags.ensures.exact g.number in
    (λ f. x.1 (subst (λ es. ReachedFrom es (c.args.head ∷ []) g.number) e (r.0 f)), λ f. r.1 (subst (λ es. ReachedFrom es (c.args.head ∷ []) g.number) (sym e) (x.0 f)))
