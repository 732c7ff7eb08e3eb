use Rattle.adj_tree.specs.View.{procedures_of}
use Rattle.adj_tool.proofs.Emitting.{emitted_for_units}
use Rattle.adj_tool.proofs.planned.emitted_for.Goals as goal

pub emitted-requires-clause-split : goal.emitted-requires-clause-split
emitted-requires-clause-split c = (c.args.splits.now, c.in_ok-found.ensures.split)

pub returns : goal.returns
returns c =
    let found = c.in_ok-found.found in
    record {
      emitted = emitted_for_units (procedures_of c.args.kernel.now.program) found.flow c.args.head.now found.marks c.in_ok-found.ensures.units c.in_ok-found.ensures.plan c.args.splits.now c.in_ok-found.ensures.split (procedures_of c.in_ok-program.program) c.in_ok-program.ensures.emitted;
    }
