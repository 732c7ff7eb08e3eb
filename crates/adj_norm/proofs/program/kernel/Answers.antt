use Rattle.std.proofs.Common.{◌≡◌, ◌∙◌, map, ap, sym, subst}
use Rattle.adj_tree.specs.View.{procedure_of, procedures_of}
use Rattle.def_names.specs.Fault.{run_rules}
use Rattle.def_names.specs.Check.{IsSound}
use Rattle.def_kernel.specs.Stepped.{kernel_of}
use Rattle.law_kernel.proofs.SoundKernels.{kernel_is_sound}
use Rattle.adj_norm.proofs.program.kernel.Goals as goal

pub returns : goal.returns
returns c =
    let units = procedures_of c.args.program.now in
    let exact : map procedure_of c.new.result ≡ kernel_of units =
    ap (map procedure_of) c.new.ensures.members ∙ c.in_ok-made.ensures.kernel ∙ ap (λ z. kernel_of (map procedure_of z)) c.as_slice.ensures.members in
    record { kernel = exact; sound = λ a. subst (IsSound run_rules) (sym exact) (kernel_is_sound units a) }
