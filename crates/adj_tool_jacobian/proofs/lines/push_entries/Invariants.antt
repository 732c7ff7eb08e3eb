use Rattle.std.proofs.Common.{◌≡◌, ◌++◌, map, drop}
use Rattle.std.specs.Prelude.{flat_map}
use Rattle.adj_jacobian_groups.specs.View.{place_of, rows_of}
use Rattle.adj_jacobian.specs.Products.{entry_of}
use Rattle.adj_tool_jacobian.specs.Written.{at_of, entry_line}
use Rattle.adj_tool_jacobian.proofs.lines.push_entries.Given as goal

abbrev pub invariant-loop-entry : goal.invariant-loop-entry
invariant-loop-entry l =
    l.out.items ++ flat_map (entry_line l.names (map at_of (rows_of l.rows)) (map place_of l.columns)) (map entry_of (drop l.entry-index l.entries))
    ≡ l.fn.out.items ++ flat_map (entry_line l.names (map at_of (rows_of l.rows)) (map place_of l.columns)) (map entry_of l.entries)
