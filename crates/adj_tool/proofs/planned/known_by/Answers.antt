use Rattle.adj_tree.specs.View.{procedures_of}
use Rattle.adj_tool.proofs.Emitting.{known_for_units}
use Rattle.adj_tool.proofs.planned.known_by.Goals as goal

pub returns : goal.returns
returns c =
    let found = c.args.found.now in
    let us = procedures_of c.args.kernel.now.program in
    record {
      known = λ lines splits. known_for_units us found.flow c.args.head.now found.marks c.requires.units c.requires.plan lines splits (procedures_of c.in_ok-program.program) c.in_ok-program.ensures.emitted c.in_ok-adjoint.adjoint.name c.in_ok-adjoint.adjoint.shadowed
          (λ u at. c.in_ok-adjoint.ensures.name u at)
          (λ u at. c.in_ok-adjoint.ensures.shadowed u at);
    }
