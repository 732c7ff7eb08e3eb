use Rattle.std.proofs.Common.{◌≡◌, ◌+◌, ◌∷◌, map, length, drop, ap, sym, ◌∙◌, arith}
use Rattle.std.proofs.lemmas.List.{drop_more}
use Rattle.adj_tree.specs.View.{code_of, procedure_of}
use Rattle.def_names.specs.Statements.{statements}
use Rattle.def_names.specs.StatementsIn.{statements_in}
use Rattle.adj_symbols.proofs.Counts.{statements_first}
use Rattle.adj_symbols.proofs.counting.statement_count.Goals as goal

pub loop-unit-preserved : goal.loop-unit-preserved
loop-unit-preserved c =
    let us = c.args.units.now in
    let i = c.loop-unit.unit-index in
    let u = c.unit-item.result in
    let first = drop_more us i u c.loop-unit-test.true ∙ ap (λ z. z ∷ drop (i + 1) us) (sym c.unit-item.is) in
    let rest = map procedure_of (drop (i + 1) us) in
    let parted : statements_in 0 (map procedure_of (drop i us)) ≡ length (statements (code_of u.body)) + statements_in 0 rest =
    ap (λ z. statements_in 0 (map procedure_of z)) first ∙ statements_first (procedure_of u) rest in
    record {
      counted = omega (arith, parted, c.count.ensures.counted, c.saturating_add-total.ensures, c.loop-unit.invariant.counted);
      stands_still = omega (arith, c.saturating_add-total.ensures);
    }
