-- What holds of what is emitted by the marks of exact analyses.
use Rattle.std.specs.Prelude.{None, ◌&&◌}
use Rattle.std.proofs.Common.{arith, ◌≡◌, ℕ, ◌+◌, ◌≤◌, List, [], ◌∷◌, Bool, true, false, refl, ap, sym, subst, ◌∙◌}
use Rattle.adj_tree.specs.Lines.{unlined}
use Rattle.adj_tree.specs.Code.{Act, assign, choose, loop, during, call, runtime, unmarked, with_count, count_from, Code, stop, step, Procedure}
use Rattle.def_names.specs.Numbers.{Vars}
use Rattle.def_names.specs.Fault.{run_rules}
use Rattle.def_names.specs.HeadFaults.{unit_number}
use Rattle.law_names.proofs.Lines.{sound_lines}
use Rattle.law_sweep.proofs.Lines.{other_lines}
use Rattle.def_kernel.specs.Kernel.{EachUnit}
use Rattle.def_kernel.specs.Stepped.{marked_in, marked_in_act, kernel_of}
use Rattle.law_kernel.specs.Sound.{IsAccepted}
use Rattle.law_kernel.proofs.WholeKernels.{whole_units}
use Rattle.law_emitted.specs.Shadowed.{AllHaveShadows}
use Rattle.law_emitted.specs.Splits.{AllMaySplit}
use Rattle.law_emitted.proofs.Programs.{marked_written}
use Rattle.law_emitted.proofs.SoundPrograms.{marked_sound}
use Rattle.def_adjoint.specs.Adjoint.{IsAdjointOf}
use Rattle.law_emitted.proofs.Kernels.{kernel_checked, numbered}
use Rattle.law_emitted.proofs.Through.{kernels_adjoint}
use Rattle.def_flow.specs.Activity.{Activity}
use Rattle.def_flow.specs.Live.{Liveness}
use Rattle.def_flow.specs.Analysed.{Analysed}
use Rattle.def_flow.specs.Splits.{is_line, split_calls}
use Rattle.def_sweep.specs.Marking.{ProgramMarks}
use Rattle.law_analysed.specs.Meets.{StepsUnsplit}
use Rattle.law_analysed.proofs.Meets.{marked_calls_unsplit}
use Rattle.law_analysed.proofs.Adjoint.{analysed_fits, analysed_fits_reversed, analysed_is_adjoint, analysed_reverses}
use Rattle.law_analysed.proofs.Lending.{exact_shadows}
use Rattle.def_planned.specs.Planned.{HasNoMarks, split_problem, reversed_for, marks_by}
use Rattle.law_planned.specs.Planned.{planned_for, PlannedIsAdjoint, PlannedSpends, PlannedIsWritten, PlannedIsSound, ReversedIsAdjoint, ReversedKernelSpends, ReversedKernelSpendsSplit, ReversedIsWritten, ReversedIsSound, ReversedIsPlanned, ReversedSpends}
use Rattle.def_planned.specs.ProgramFacts.{program_facts, IsUnmarkedAct, IsUnmarked}
use Rattle.def_sweep.specs.MarkedLines.{reversed_lines}
use Rattle.def_adjoint.specs.KernelSpends.{KernelSpendsAtMost}
use Rattle.law_cost.proofs.KernelSpending.{kernel_keeps_bound, kernel_keeps_split_bound}
use Rattle.law_cost.proofs.ProgramSpending.{emitted_spends}
use Rattle.law_planned.proofs.Unmarked.{kernel_unmarked}
use Rattle.law_planned.proofs.MarkedLines.{kernel_apart}
use Rattle.law_planned.proofs.ByMarks.{by_marks}
use Rattle.def_flow.proofs.Unmarked.{none_split}
use Rattle.law_planned.proofs.MarkedCalls.{may_split}
use Rattle.law_planned.proofs.Unscheduled.{nothing_added}

-- no step call of a marked loop is to be split
steps : (ps : List Procedure) (lines : List ℕ) (name : List ℕ) (vars outvars : List Bool) → StepsUnsplit (split_problem lines ps name vars outvars)
steps ps lines name vars outvars = marked_calls_unsplit (is_line lines) (kernel_of ps) (unit_number (kernel_of ps) name) vars outvars

-- what is split may be
pub splits : (ps : List Procedure) → IsAccepted ps → (lines : List ℕ) (schedules : Bool) (m : ProgramMarks) → m.split ≡ (λ n. split_calls (is_line lines) (kernel_of ps) n && m.adjointed n) → AllMaySplit schedules m (kernel_of ps) (kernel_of ps)
splits ps y lines schedules m same = may_split run_rules (kernel_of ps) (kernel_checked ps y) schedules (is_line lines) m same

-- nothing is, where no line is marked
splits_none : (ps : List Procedure) (lines : List ℕ) → lines ≡ [] → (a : Activity) (n : ℕ) → (split_calls (is_line lines) (kernel_of ps) n && a.adjointed n) ≡ false
splits_none ps lines e a n = ap (λ b. b && a.adjointed n) (none_split lines e (kernel_of ps) n)

shadows : (ps : List Procedure) → IsAccepted ps → (name : List ℕ) (vars outvars : List Bool) (lines : List ℕ) (a : Activity) (l : Liveness) (saved held : ℕ → Vars) → Analysed (split_problem lines ps name vars outvars) a l saved held →
    AllHaveShadows (marks_by lines ps a l saved held) (kernel_of ps) (kernel_of ps)
shadows ps y name vars outvars lines a l saved held x = exact_shadows run_rules (split_problem lines ps name vars outvars) (kernel_checked ps y) a x.active (marks_by lines ps a l saved held) refl (λ n. refl)

pub is_adjoint : PlannedIsAdjoint
is_adjoint ps y none name u found vars outvars lines a l saved held x qs same =
    let k = whole_units ps name u found in
    let n = unit_number (kernel_of ps) name in
    let m = marks_by lines ps a l saved held in
    kernels_adjoint false (λ line. None) m ps y name u found vars outvars qs
    (other_lines false (λ line. None) m (kernel_of ps) (planned_for ps name vars outvars m) qs n vars outvars same
    (analysed_is_adjoint run_rules (split_problem lines ps name vars outvars) (kernel_checked ps y) (kernel_unmarked ps none) a l saved held x (steps ps lines name vars outvars) k.becomes (numbered (kernel_of ps) name k.becomes k.found).1))

-- none is counted where none is marked
mutual
  none_act : (a : Act) → IsUnmarkedAct a → marked_in_act a ≡ 0
  none_act (assign x subs e) h = refl
  none_act (choose c a b) h = λ i. none_list a h.0 i + none_list b h.1 i
  none_act (loop x first last by body unmarked) h = none_list body h.1
  none_act (loop x first last by body (with_count m)) h = absurd (let e = h.0 in cc)
  none_act (loop x first last by body (count_from y)) h = absurd (let e = h.0 in cc)
  none_act (during c body) h = none_list body h
  none_act (call name args) h = refl
  none_act (runtime r) h = refl

  none_list : (c : Code) → IsUnmarked c → marked_in c ≡ 0
  none_list stop h = refl
  none_list (step line a rest) h = λ i. none_act a h.0 i + none_list rest h.1 i

none_counted : (ps : List Procedure) → HasNoMarks ps → EachUnit (λ u. marked_in u.body ≡ 0) ps
none_counted [] h = tt
none_counted (u ∷ us) h = (none_list u.body h.0, none_counted us h.1)

pub spends : PlannedSpends
spends ps y none weight weighs name u found calls few vars outvars lines unsplit a l saved held x qs same =
    let k = whole_units ps name u found in
    emitted_spends ps y (none_counted ps none) weight weighs name calls few (λ line. None) (program_facts (kernel_of ps) (split_calls (is_line lines) (kernel_of ps)) a l saved held) k.becomes k.found
    (analysed_fits run_rules (split_problem lines ps name vars outvars) (kernel_checked ps y) (kernel_unmarked ps none) a l saved held x (steps ps lines name vars outvars) k.becomes (numbered (kernel_of ps) name k.becomes k.found).1)
    (splits_none ps lines unsplit a) vars outvars qs same

pub is_written : PlannedIsWritten
is_written ps y name vars outvars lines a l saved held x =
    marked_written run_rules (kernel_of ps) (kernel_checked ps y) false (marks_by lines ps a l saved held) (shadows ps y name vars outvars lines a l saved held x) (splits ps y lines false (marks_by lines ps a l saved held) refl) (unit_number (kernel_of ps) name) vars outvars

pub is_sound : PlannedIsSound
is_sound ps y name vars outvars lines a l saved held x qs same =
    let few : run_rules.chain ≤ run_rules.chain = omega arith in
    let m = marks_by lines ps a l saved held in
    sound_lines run_rules (planned_for ps name vars outvars m) qs same
    (marked_sound run_rules (kernel_of ps) (kernel_checked ps y) few false m (shadows ps y name vars outvars lines a l saved held x) (splits ps y lines false m refl) (unit_number (kernel_of ps) name) vars outvars)

-- ---- where marked loops are reversed by schedules

pub is_reversed : ReversedIsAdjoint
is_reversed ps y apart name u found vars outvars lines a l saved held x qs same =
    let k = whole_units ps name u found in
    let n = unit_number (kernel_of ps) name in
    let w = program_facts (kernel_of ps) (split_calls (is_line lines) (kernel_of ps)) a l saved held in
    let tale = reversed_lines w (kernel_of ps) in
    subst (λ z. IsAdjointOf z w.marks ps name vars outvars qs) (by_marks w (kernel_of ps))
    (kernels_adjoint true tale w.marks ps y name u found vars outvars qs
    (other_lines true tale w.marks (kernel_of ps) (reversed_for ps name vars outvars w.marks) qs n vars outvars same
    (analysed_reverses run_rules (split_problem lines ps name vars outvars) (kernel_checked ps y) (kernel_apart ps apart) a l saved held x (steps ps lines name vars outvars) k.becomes (numbered (kernel_of ps) name k.becomes k.found).1)))

pub kernel_spends : ReversedKernelSpends
kernel_spends ps y apart weight each name u found calls few vars outvars lines unsplit a l saved held x qs same =
    let k = whole_units ps name u found in
    let w = program_facts (kernel_of ps) (split_calls (is_line lines) (kernel_of ps)) a l saved held in
    let tale = reversed_lines w (kernel_of ps) in
    subst (λ z. KernelSpendsAtMost z w.marks ps name weight calls qs) (by_marks w (kernel_of ps))
    (kernel_keeps_bound true tale w ps weight each name calls few k.becomes k.found
    (analysed_fits_reversed run_rules (split_problem lines ps name vars outvars) (kernel_checked ps y) (kernel_apart ps apart) a l saved held x (steps ps lines name vars outvars) k.becomes (numbered (kernel_of ps) name k.becomes k.found).1)
    (splits_none ps lines unsplit a) vars outvars qs same)

pub kernel_spends_split : ReversedKernelSpendsSplit
kernel_spends_split ps y apart weight each count have name u found calls few vars outvars lines a l saved held x qs same =
    let k = whole_units ps name u found in
    let w = program_facts (kernel_of ps) (split_calls (is_line lines) (kernel_of ps)) a l saved held in
    let tale = reversed_lines w (kernel_of ps) in
    subst (λ z. KernelSpendsAtMost z w.marks ps name (weight + count) calls qs) (by_marks w (kernel_of ps))
    (kernel_keeps_split_bound true tale w ps weight each count have name calls few k.becomes k.found
    (analysed_fits_reversed run_rules (split_problem lines ps name vars outvars) (kernel_checked ps y) (kernel_apart ps apart) a l saved held x (steps ps lines name vars outvars) k.becomes (numbered (kernel_of ps) name k.becomes k.found).1)
    vars outvars qs same)

pub reversed_written : ReversedIsWritten
reversed_written ps y name vars outvars lines a l saved held x =
    marked_written run_rules (kernel_of ps) (kernel_checked ps y) true (marks_by lines ps a l saved held) (shadows ps y name vars outvars lines a l saved held x) (splits ps y lines true (marks_by lines ps a l saved held) refl) (unit_number (kernel_of ps) name) vars outvars

pub reversed_sound : ReversedIsSound
reversed_sound ps y name vars outvars lines a l saved held x qs same =
    let few : run_rules.chain ≤ run_rules.chain = omega arith in
    let m = marks_by lines ps a l saved held in
    sound_lines run_rules (reversed_for ps name vars outvars m) qs same
    (marked_sound run_rules (kernel_of ps) (kernel_checked ps y) few true m (shadows ps y name vars outvars lines a l saved held x) (splits ps y lines true m refl) (unit_number (kernel_of ps) name) vars outvars)

-- ---- where no loop is marked

pub is_planned : ReversedIsPlanned
is_planned ps none name vars outvars m unsplit = nothing_added (kernel_of ps) (kernel_unmarked ps none) m unsplit (unit_number (kernel_of ps) name) vars outvars

pub reversed_spends : ReversedSpends
reversed_spends ps y none weight weighs name u found calls few vars outvars lines unsplit a l saved held x qs same =
    spends ps y none weight weighs name u found calls few vars outvars lines unsplit a l saved held x qs (ap unlined (sym (is_planned ps none name vars outvars (marks_by lines ps a l saved held) (splits_none ps lines unsplit a))) ∙ same)
