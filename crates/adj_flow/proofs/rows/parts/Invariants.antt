-- The units passed, and those that are left.
use Rattle.std.proofs.Common.{◌≡◌, ◌++◌, [], drop, map, length}
use Rattle.adj_tree.specs.View.{procedure_of}
use Rattle.def_names.specs.StatementsIn.{statements_in}
use Rattle.def_flow.specs.Parts.{parts_from}
use Rattle.adj_flow.specs.Rows.{row_of, row_in, rows}
use Rattle.adj_flow.proofs.rows.parts.Given as goal

abbrev pub invariant-loop-number : goal.invariant-loop-number
invariant-loop-number l = record {
  none : l.outline.ways.items ≡ [];
  counted : statements_in (length l.outline.statements.items) (drop l.number (map procedure_of l.units)) ≡ statements_in 0 (map procedure_of l.units);
  rows : map row_of l.parts.items ++ map (row_in (map (λ b. b.now) l.variables)) (parts_from l.count l.number (length l.outline.statements.items) (drop l.number (map procedure_of l.units))) ≡ rows (map (λ b. b.now) l.variables) (map procedure_of l.units);
}
