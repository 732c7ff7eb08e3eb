use Rattle.adj_tree.specs.View.{procedures_of}
use Rattle.def_names.specs.Fault.{run_rules}
use Rattle.std.proofs.Common.{true}
use Rattle.adj_tool.proofs.Emitting.{shadows_there, splits_there}
use Rattle.adj_tool.proofs.planned.emitted.Goals as goal

pub adjoint-requires-clause-shadows : goal.adjoint-requires-clause-shadows
adjoint-requires-clause-shadows c =
    let facts = c.checked_law.ensures in
    shadows_there (procedures_of c.args.kernel.now.program) c.args.found.now.flow c.args.head.now c.args.found.now.marks c.requires.units c.requires.plan c.requires.split.0 c.requires.split.1 run_rules
    (record { written = facts.written; sound = facts.sound; kernel = c.requires.kernel })

pub adjoint-requires-clause-splits : goal.adjoint-requires-clause-splits
adjoint-requires-clause-splits c =
    let facts = c.checked_law.ensures in
    splits_there (procedures_of c.args.kernel.now.program) c.args.found.now.flow c.args.head.now c.args.found.now.marks c.requires.units c.requires.plan c.requires.split.0 c.requires.split.1 run_rules
    (record { written = facts.written; sound = facts.sound; kernel = c.requires.kernel }) true

pub returns : goal.returns
returns c = record { emitted = c.adjoint.ensures.emitted }
