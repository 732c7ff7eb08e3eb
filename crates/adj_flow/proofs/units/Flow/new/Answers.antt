-- There are as many parts as units.
use Rattle.std.proofs.Common.{◌≡◌, map, length, ap, arith}
use Rattle.std.proofs.lemmas.List.{length-map}
use Rattle.adj_tree.specs.View.{procedure_of}
use Rattle.def_names.specs.StatementsIn.{statements_in}
use Rattle.def_flow.specs.Parts as spec
use Rattle.adj_flow.specs.Rows.{row_of, row_in, rows}
use Rattle.adj_flow.proofs.UnitNumbers.{parts_length}
use Rattle.adj_flow.proofs.units.Flow.new.Goals as goal

pub invariant_of-result : goal.invariant_of-result
invariant_of-result c =
    let ps = map procedure_of c.args.units.now in
    let vss = map (λ b. b.now) c.args.variables.now in
    let e : length (map row_of c.in_ok-parts.parts.items) ≡ length (rows (map (λ b. b.now) c.args.variables.now) (map procedure_of c.args.units.now)) = ap length c.in_ok-parts.ensures.rows in
    record {
      few = omega (arith, e, length-map c.in_ok-parts.parts.items row_of, length-map (spec.parts ps) (row_in vss), parts_length (statements_in 0 ps) 0 0 ps, c.requires.few.units);
      narrow = c.width.ensures.low;
    }
