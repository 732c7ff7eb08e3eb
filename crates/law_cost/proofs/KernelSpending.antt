-- From the statements of the kernel's run to those of the adjoint's, whether marked loops are reversed by schedules or are loops as others.
use Rattle.std.proofs.Common.{◌≡◌, ◌+◌, ◌*◌, [], sym, ap, ◌∙◌, subst, arith}
use Rattle.std.specs.Prelude.{length, Some, None}
use Rattle.def_meaning.specs.Numbers.{words}
use Rattle.def_meaning.specs.Units.{run_unit}
use Rattle.def_names.specs.HeadFaults.{unit_number}
use Rattle.def_sweep.specs.MarkedAdjoint.{shadow_flags, joined_by}
use Rattle.law_sweep.specs.Source.{SourceFitsWith}
use Rattle.def_kernel.specs.Stepped.{kernel_of}
use Rattle.def_adjoint.specs.Calls.{CallsWithin}
use Rattle.law_cost.proofs.Bounded.{bound_is_within}
use Rattle.law_cost.proofs.Spending.{read_back_spends, read_back_split}
use Rattle.law_cost.specs.KernelSpent.{KernelKeepsBound, KernelKeepsSplitBound, RoundBoundIsKept, RoundSplitBoundIsKept}
use Rattle.law_cost.proofs.ProgramSpending.{numbered}

pub kernel_keeps_bound : KernelKeepsBound
kernel_keeps_bound schedules lines w ps weight each name calls chains there becomes good unsplit vars outvars qs same kernel adjoint found is_there input shadows fit alike k used output done reps few j spent end h =
    let ks = kernel_of ps in
    let one : Some there ≡ Some kernel = sym becomes ∙ found in
    let same_kernel : there ≡ kernel = cc in
    let n = numbered ks name kernel found in
    let chains_there : CallsWithin ks kernel.name calls = subst (λ z. CallsWithin ks z calls) (sym n.named) chains in
    read_back_spends schedules lines w ks (unit_number ks name) vars outvars kernel n.at (subst (λ u. SourceFitsWith schedules lines w ks u) same_kernel good) unsplit
    weight each calls reps chains_there qs same adjoint is_there input shadows fit alike k used output done few j spent end
    (ap (λ z. run_unit words qs adjoint (joined_by (shadow_flags (w.marks.shadowed z) kernel.dummies) input shadows) [] None j) n.named ∙ h)

pub round_bound_is_kept : RoundBoundIsKept
round_bound_is_kept lines m ps name weight count calls qs keeps kernel adjoint found is_there input shadows fit alike k used output done reps few j spent end h =
    let least = keeps kernel adjoint found is_there input shadows fit alike k used output done reps few j spent end h in
    let round = bound_is_within weight calls reps used (length kernel.dummies) count in
    omega (arith, least, round)

-- ---- where calls are split

pub kernel_keeps_split_bound : KernelKeepsSplitBound
kernel_keeps_split_bound schedules lines w ps weight each count many name calls chains there becomes good vars outvars qs same kernel adjoint found is_there input shadows fit alike k used output done reps few j spent end h =
    let ks = kernel_of ps in
    let one : Some there ≡ Some kernel = sym becomes ∙ found in
    let same_kernel : there ≡ kernel = cc in
    let n = numbered ks name kernel found in
    let chains_there : CallsWithin ks kernel.name calls = subst (λ z. CallsWithin ks z calls) (sym n.named) chains in
    read_back_split schedules lines w ks (unit_number ks name) vars outvars kernel n.at (subst (λ u. SourceFitsWith schedules lines w ks u) same_kernel good)
    weight each count many calls reps chains_there qs same adjoint is_there input shadows fit alike k used output done few j spent end
    (ap (λ z. run_unit words qs adjoint (joined_by (shadow_flags (w.marks.shadowed z) kernel.dummies) input shadows) [] None j) n.named ∙ h)

pub round_split_bound_is_kept : RoundSplitBoundIsKept
round_split_bound_is_kept lines m ps name weight count calls qs keeps kernel adjoint found is_there input shadows fit alike k used output done reps few j spent end h =
    let least = keeps kernel adjoint found is_there input shadows fit alike k used output done reps few j spent end h in
    let round = bound_is_within (weight + count) calls reps used (length kernel.dummies) 0 in
    let z : weight + count + 0 ≡ weight + count = omega arith in
    let same = ap (λ n. 100 * n * (calls + 2) * (reps + 2) * used + 2 * length kernel.dummies) z in
    omega (arith, least, round, same)
