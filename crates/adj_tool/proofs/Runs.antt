-- What is emitted by the marks of exact analyses, up to line numbers, is an adjoint and takes so many statements.
use Rattle.std.proofs.Common.{◌≡◌, ℕ, ◌+◌, List, [], Some, refl}
use Rattle.std.specs.Prelude.{Bool, true}
use Rattle.adj_tree.specs.Code.{Procedure}
use Rattle.adj_tree.specs.Lines.{unlined}
use Rattle.def_meaning.specs.Written.{find_unit}
use Rattle.def_names.specs.Numbers.{Vars}
use Rattle.def_sweep.specs.Marking.{ProgramMarks}
use Rattle.def_kernel.specs.Kernel.{EachUnit}
use Rattle.def_kernel.specs.Weights.{WeighsAtMost}
use Rattle.def_kernel.specs.Stepped.{kernel_of}
use Rattle.law_kernel.specs.Sound.{IsAccepted}
use Rattle.def_flow.specs.Activity.{Activity}
use Rattle.def_flow.specs.Live.{Liveness}
use Rattle.def_flow.specs.Analysed.{Analysed}
use Rattle.def_flow.specs.Splits.{is_line, split_calls}
use Rattle.def_adjoint.specs.Calls.{CallsWithin}
use Rattle.def_adjoint.specs.KernelSpends.{HaveVariables, KernelSpendsAtMost}
use Rattle.def_adjoint.specs.KernelShape.{HasKernelShape}
use Rattle.def_planned.specs.Planned.{split_problem, facts_by, lines_by, reversed_for, marks_by}
use Rattle.law_analysed.specs.MarkedLines.{program_lines, AreLinesApart}
use Rattle.law_analysed.proofs.MarkedLines.{stand_apart}
use Rattle.law_cost.proofs.KernelSpending.{round_split_bound_is_kept}
use Rattle.law_planned.proofs.Planned as planned
use Rattle.law_planned.proofs.OwnNames.{own_names}
use Rattle.law_planned.proofs.MarkedLines.{kernel_apart}
use Rattle.law_shape.proofs.Accepted.{accepted_has_shape}
use Rattle.adj_tool.specs.Headline.{RunsAdjoint}

module _ (ps : List Procedure) (accepted : IsAccepted ps) (apart : AreLinesApart (program_lines ps)) (name : List ℕ) (u : Procedure) (found : find_unit ps name ≡ Some u) (vars outvars : List Bool) (lines : List ℕ)
    (a : Activity) (l : Liveness) (saved held : ℕ → Vars) (x : Analysed (split_problem lines ps name vars outvars) a l saved held) (qs : List Procedure) (same : unlined (reversed_for ps name vars outvars (marks_by lines ps a l saved held)) ≡ unlined qs) where
  abbrev m : ProgramMarks
  m = marks_by lines ps a l saved held

  bound : lines ≡ [] → (weight calls : ℕ) → EachUnit (λ v. WeighsAtMost weight v.body) (kernel_of ps) → CallsWithin (kernel_of ps) name calls → KernelSpendsAtMost (lines_by ps m) m ps name weight calls qs
  bound unsplit weight calls weighs few = planned.kernel_spends ps accepted apart weight weighs name u found calls few vars outvars lines unsplit a l saved held x qs same

  -- where calls are split, too
  split_bound : (weight count calls : ℕ) → EachUnit (λ v. WeighsAtMost weight v.body) (kernel_of ps) → HaveVariables count (kernel_of ps) → CallsWithin (kernel_of ps) name calls → KernelSpendsAtMost (lines_by ps m) m ps name (weight + count) calls qs
  split_bound weight count calls weighs have few = planned.kernel_spends_split ps accepted apart weight weighs count have name u found calls few vars outvars lines a l saved held x qs same

  pub runs_adjoint : RunsAdjoint lines m ps name vars outvars qs
  runs_adjoint = record {
    adjoins = planned.is_reversed ps accepted apart name u found vars outvars lines a l saved held x qs same;
    own_names = own_names ps accepted m;
    lines_apart = stand_apart (facts_by m) (kernel_of ps) (kernel_apart ps apart);
    spends = λ none unsplit weight calls weighs few. planned.reversed_spends ps accepted none weight weighs name u found calls few vars outvars lines unsplit a l saved held x qs same;
    spends_reversed = bound;
    spends_within = λ weight count calls weighs have few. round_split_bound_is_kept (lines_by ps m) m ps name weight count calls qs (split_bound weight count calls weighs have few);
  }

  -- and it has the shape that the marks say
  pub has_shape : HasKernelShape true m ps name vars outvars qs
  has_shape = accepted_has_shape true ps accepted name u found vars outvars (split_calls (is_line lines) (kernel_of ps)) a l saved held x (planned.splits ps accepted lines true m refl) qs same
