-- What is emitted for the kernel of an accepted program has its shape.
use Rattle.def_names.specs.Fault.{run_rules}
use Rattle.def_names.specs.HeadFaults.{unit_number}
use Rattle.def_kernel.specs.Stepped.{kernel_of}
use Rattle.law_kernel.proofs.WholeKernels.{whole_units}
use Rattle.law_emitted.proofs.Kernels.{kernel_checked, numbered}
use Rattle.def_flow.specs.Problem.{Problem}
use Rattle.def_planned.specs.ProgramFacts.{program_facts}
use Rattle.law_shape.specs.Accepted.{AcceptedHasShape}
use Rattle.law_shape.proofs.Analysed.{analysed_are_closed}
use Rattle.law_shape.proofs.Program.{emitted_has_shape}

pub accepted_has_shape : AcceptedHasShape
accepted_has_shape schedules ps accepted name u found vars outvars split a l saved held analysed may qs same =
    let k = whole_units ps name u found in
    let at = (numbered (kernel_of ps) name k.becomes k.found).1 in
    let checked = kernel_checked ps accepted in
    let problem : Problem = record { units = kernel_of ps; head = unit_number (kernel_of ps) name; vars = vars; outvars = outvars; split = split } in
    record {
      head = k.becomes;
      is_head = k.found;
      shape =
          emitted_has_shape schedules run_rules (kernel_of ps) checked (program_facts (kernel_of ps) split a l saved held).marks may (unit_number (kernel_of ps) name) vars outvars k.becomes at
          (analysed_are_closed run_rules problem checked a l saved held analysed k.becomes at) qs same;
    }
