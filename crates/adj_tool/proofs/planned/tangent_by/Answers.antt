use Rattle.adj_tree.specs.View.{procedures_of}
use Rattle.adj_tool.proofs.Emitting.{tangent_for_units}
use Rattle.adj_tool.proofs.planned.tangent_by.Goals as goal

pub returns : goal.returns
returns c =
    let found = c.args.found.now in
    record {
      emitted = tangent_for_units (procedures_of c.args.kernel.now.program) found.flow c.args.head.now found.carried c.requires.units c.requires.carried c.requires.split c.as_slice-flags.result.now c.as_slice-flags.ensures.members (procedures_of c.in_ok-program.program) c.in_ok-program.ensures.emitted;
    }
