-- The statements of all units are those counted so far and those of the units that are left.
use Rattle.std.proofs.Common.{◌≡◌, ◌+◌, map, drop}
use Rattle.adj_tree.specs.Size.{capped_u64}
use Rattle.adj_tree.specs.View.{procedure_of}
use Rattle.def_names.specs.StatementsIn.{statements_in}
use Rattle.adj_symbols.proofs.counting.statement_count.Given as goal

abbrev pub invariant-loop-unit : goal.invariant-loop-unit
invariant-loop-unit l = record {
  counted : capped_u64 (l.total + statements_in 0 (map procedure_of (drop l.unit-index l.units))) ≡ capped_u64 (statements_in 0 (map procedure_of l.units));
  stands_still : capped_u64 l.total ≡ l.total;
}
