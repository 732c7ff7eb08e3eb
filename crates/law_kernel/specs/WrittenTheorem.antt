-- That the kernel of a written program is written.
use Rattle.std.specs.Prelude.{◌≡◌, List, None}
use Rattle.adj_tree.specs.Code.{Terms, Procedure}
use Rattle.def_text.specs.Written.{IsWritten}
use Rattle.def_text.specs.Statement.{runtime_call}
use Rattle.law_kernel.specs.Apart.{EachCall}
use Rattle.def_kernel.specs.Kernel.{EachUnit, lowered_program}
use Rattle.def_kernel.specs.Stepped.{kernel_of}

-- CALLs of units that aren't named like runtime calls
abbrev pub CallsUnits : Procedure → Type 0
CallsUnits u = EachCall (λ unit args. (es : Terms) → runtime_call unit es ≡ None) u.body

-- where CALLs aren't named like runtime calls the lowered program of a written program is written
abbrev pub KernelIsWritten : Type 0
KernelIsWritten = (units : List Procedure) → IsWritten units → EachUnit CallsUnits units → IsWritten (lowered_program units)

-- and so is the kernel
abbrev pub WholeKernelIsWritten : Type 0
WholeKernelIsWritten = (units : List Procedure) → IsWritten units → EachUnit CallsUnits units → IsWritten (kernel_of units)
