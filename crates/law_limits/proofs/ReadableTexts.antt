-- What is emitted for the program of a text in Source mode is no deeper than a run takes.
use Rattle.std.proofs.Common.{◌≤◌, ◌<◌, Bool, true, false, arith}
use Rattle.def_kernel.specs.Stepped.{kernel_of}
use Rattle.def_sweep.specs.Program.{emitted_program_with}
use Rattle.law_emitted.specs.Emitted.{nested_with}
use Rattle.law_emitted.proofs.Nesting.{keeps_nesting}
use Rattle.law_emitted.proofs.Depths.{keeps_depth}
use Rattle.law_limits.specs.Reading.{SourceIsKept}
use Rattle.law_limits.specs.Limits.{EmittedIsShallowWith}
use Rattle.law_limits.proofs.KernelNesting.{kernel_nesting}
use Rattle.law_limits.proofs.KernelDepths.{kernel_depths}
use Rattle.law_limits.proofs.Measures.{nested_up, program_low, program_fine}

nested_most : (sb : Bool) → nested_with sb 31 ≤ 45
nested_most false = omega arith
nested_most true = omega arith

pub emitted_shallow : SourceIsKept → (schedules : Bool) → EmittedIsShallowWith schedules
emitted_shallow source sb bytes ps h m head vars outvars =
    let kept = source bytes ps h in
    let two : 2 ≤ 100 = omega arith in
    let deep : 103 < 120 = omega arith in
    record {
      depths = program_fine 103 120 deep (emitted_program_with sb m (kernel_of ps) head vars outvars) (keeps_depth 100 (kernel_of ps) (kernel_depths 100 two ps (program_low 100 ps kept.depths)) sb m head vars outvars);
      nested = nested_up (nested_with sb 31) 45 (nested_most sb) (emitted_program_with sb m (kernel_of ps) head vars outvars) (keeps_nesting 31 (kernel_of ps) (kernel_nesting 30 ps kept.nested) sb m head vars outvars);
    }
