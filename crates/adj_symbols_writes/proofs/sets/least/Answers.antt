use Rattle.std.proofs.Common.{map, sym, ap, ◌∙◌, subst}
use Rattle.std.specs.Prelude.{All, ◌↔◌, IsTrue, ◌<◌}
use Rattle.adj_tree.specs.View.{procedure_of}
use Rattle.def_meaning.specs.LeastSet.{dummies_in_all}
use Rattle.def_names.specs.Variables.{Name}
use Rattle.adj_reach.specs.Edges.{AreBelow, ReachedFrom, flag}
use Rattle.adj_symbols_writes.specs.Graph.{placed_of, numbered, number_from, found_at, starts, edges, row}
use Rattle.adj_symbols_writes.specs.Names.{direct}
use Rattle.adj_symbols_writes.proofs.Finding.{found_least, starts_within, edges_within}
use Rattle.adj_symbols_writes.proofs.sets.least.Goals as goal

pub reach-requires-clause-edges : goal.reach-requires-clause-edges
reach-requires-clause-edges c =
    let ps = map procedure_of c.args.units.now in
    let units = ap (map placed_of) c.as_slice-nodes.ensures.value ∙ c.in_ok-placed.ensures.units in
    let es = c.as_slice.ensures.value ∙ c.in_ok-edges.ensures.edges ∙ (λ i. edges (λ (x : Name). found_at (units i) (c.in_ok-numbers.ensures.numbers x i)) (units i)) in
    subst (λ n. AreBelow n c.as_slice.result.now) (sym c.in_ok-placed.ensures.count) (subst (λ z. AreBelow (dummies_in_all ps) z) (sym es) (edges_within c.args.side ps))

pub reach-requires-clause-start : goal.reach-requires-clause-start
reach-requires-clause-start c =
    let ps = map procedure_of c.args.units.now in
    let units = ap (map placed_of) c.as_slice-nodes.ensures.value ∙ c.in_ok-placed.ensures.units in
    let ss = c.as_slice-2.ensures.value ∙ c.in_ok-starts.ensures.starts ∙ ap (starts (direct c.args.side)) units in
    subst (λ n. All (λ x. x < n) c.as_slice-2.result.now) (sym c.in_ok-placed.ensures.count) (subst (λ z. All (λ x. x < dummies_in_all ps) z) (sym ss) (starts_within c.args.side ps))

pub returns : goal.returns
returns c =
    let ps = map procedure_of c.args.units.now in
    let side = c.args.side in
    let find = λ (x : Name). found_at (numbered 0 ps) (number_from 0 ps x) in
    let units = ap (map placed_of) c.as_slice-nodes.ensures.value ∙ c.in_ok-placed.ensures.units in
    let es = c.as_slice.ensures.value ∙ c.in_ok-edges.ensures.edges ∙ (λ i. edges (λ (x : Name). found_at (units i) (c.in_ok-numbers.ensures.numbers x i)) (units i)) in
    let ss = c.as_slice-2.ensures.value ∙ c.in_ok-starts.ensures.starts ∙ ap (starts (direct c.args.side)) units in
    record {
      least =
          c.in_ok-rows.ensures.rows
          ∙ (λ i. map (row (flag (c.as_slice-3.ensures.members i))) (units i))
          ∙ found_least side ps c.in_ok-flags.flags (λ n. subst (λ z. IsTrue (flag c.in_ok-flags.flags n) ↔ ReachedFrom z (starts (direct side) (numbered 0 ps)) n) es (subst (λ z. IsTrue (flag c.in_ok-flags.flags n) ↔ ReachedFrom c.as_slice.result.now z n) ss (c.in_ok-flags.ensures.exact n)));
    }
