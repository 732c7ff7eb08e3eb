use Rattle.std.proofs.Common.{map, ◌++◌}
use Rattle.adj_tree.specs.View.{procedure_of}
use Rattle.def_meaning.specs.LeastSet.{row_of}
use Rattle.def_names.specs.WriteFaults.{written_variables, written_extents, shared_variables, written_values}
use Rattle.def_names.proofs.Order.{sooner_then}
use Rattle.adj_symbols.proofs.write_faults.add_unit_writes.Goals as goal

pub returns : goal.returns
returns c =
    let h = row_of (map procedure_of c.args.scope.now) c.args.written.now in
    let u = procedure_of c.args.outline.now in
    let f0 = c.args.first.now in
    let f1 = c.add_written_variables.new.first in
    let f2 = c.add_written_extents.new.first in
    let f3 = c.add_shared_variables.new.first in
    let f4 = c.add_written_values.new.first in
    let rs = written_variables h u in
    let ss = written_extents h u in
    let ts = shared_variables h u in
    let vs = written_values h u in
    sooner_then rs (ss ++ (ts ++ vs)) f0 f1 f4 c.in_ok-add_written_variables.ensures
    (sooner_then ss (ts ++ vs) f1 f2 f4 c.in_ok-add_written_extents.ensures
    (sooner_then ts vs f2 f3 f4 c.in_ok-add_shared_variables.ensures c.add_written_values.ensures))
