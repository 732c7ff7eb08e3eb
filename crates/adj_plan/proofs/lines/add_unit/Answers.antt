-- The statements of the unit have numbers below 2^30.
use Rattle.std.proofs.Common.{◌≡◌, length, ap, ◌∙◌, arith}
use Rattle.std.proofs.lemmas.List.{length-map}
use Rattle.adj_tree.specs.Listed.{statement_of}
use Rattle.adj_tree.specs.View.{code_of}
use Rattle.def_names.specs.Statements.{statements}
use Rattle.adj_symbols_writes.specs.View.{seen}
use Rattle.adj_plan.proofs.Counting.{behind_is}
use Rattle.adj_plan.proofs.lines.add_unit.Goals as goal

pub add_lines-requires : goal.add_lines-requires
add_lines-requires c =
    let p = c.args.part.now in
    let body = code_of c.args.part.now.unit.now.body in
    let xs = c.as_slice.result.now in
    let e : length (seen c.as_slice.result.now) ≡ length (statements (code_of c.args.part.now.unit.now.body)) = ap (λ z. length (seen z)) c.as_slice.ensures.value ∙ ap length c.in_ok-statements.ensures in
    record { statements = omega (arith, e, length-map xs (λ b. statement_of b.now), behind_is p.first body, p.room) }
