-- What the emitted program takes where marked loops are reversed by schedules. The numbers: a statement weighs 1 more than the nodes of its
-- own expressions, and a loop whose body is one call besides as much as the call has nodes (`row_nodes`); no chain from the head has more
-- than `calls` calls, where a marked DO counts for nothing, since its step call does (`CallsWithin`); `reps` repetitions serve each run of a reversed loop
-- that the head's run told of (`AllFew`). Where calls are split, no unit has more than `count` variables (`HaveVariables`).
use Rattle.std.specs.Prelude.{◌≡◌, ℕ, ℤ, suc, ◌+◌, ◌*◌, ◌≤◌, length, List, [], ◌∷◌, Bool, true, Some, None}
use Rattle.adj_tree.specs.Code.{Act, assign, choose, loop, during, call, runtime, Code, stop, step, Procedure}
use Rattle.adj_tree.specs.Lines.{unlined}
use Rattle.adj_tree.specs.Size.{terms_nodes}
use Rattle.def_meaning.specs.Numbers.{words}
use Rattle.def_meaning.specs.Padded.{own_nodes, padded_program, padded_procedure}
use Rattle.def_meaning.specs.Scene.{Done}
use Rattle.def_meaning.specs.Written.{find_unit}
use Rattle.def_meaning.specs.Units.{Slot, Output, fits, run_unit}
use Rattle.def_sweep.specs.Tangents.{AreAlike, Ends}
use Rattle.def_sweep.specs.MarkedAdjoint.{shadow_flags, joined_by}
use Rattle.def_sweep.specs.Declared.{unit_at}
use Rattle.def_kernel.specs.Kernel.{EachUnit}
use Rattle.def_kernel.specs.Weights.{WeighsAtMost}
use Rattle.def_sweep.specs.Marking.{SplitsNothing, ProgramFacts}
use Rattle.def_sweep.specs.Names.{adjoint_name}
use Rattle.def_sweep.specs.Program.{emitted_program_with}
use Rattle.def_sweep.specs.Reversals.{ReversedLines}
use Rattle.law_sweep.specs.Source.{SourceFitsWith}
use Rattle.def_adjoint.specs.Calls.{CallsWithin}
use Rattle.def_adjoint.specs.Few.{AllFew}
use Rattle.def_adjoint.specs.KernelSpends.{HaveVariables}
use Rattle.def_adjoint.specs.Scheduled.{most_scheduled}

-- the nodes of the actuals where a body is one call
abbrev pub step_nodes : Code → ℕ
step_nodes (step line (call name args) stop) = terms_nodes args
step_nodes c = 0

-- the nodes of a statement; those of a loop and of its step call, whose groups are pushed and popped even where the loop has no turn
abbrev pub row_nodes : Act → ℕ
row_nodes (assign x subs e) = own_nodes (assign x subs e)
row_nodes (choose c a b) = own_nodes (choose c a b)
row_nodes (loop x first last by body m) = own_nodes (loop x first last by body m) + step_nodes body
row_nodes (during c body) = own_nodes (during c body)
row_nodes (call name args) = own_nodes (call name args)
row_nodes (runtime r) = own_nodes (runtime r)

-- the same with room for split calls: the variables that a unit leaves on the tape are pushed and popped where it is called
abbrev pub room_nodes : ℕ → Act → ℕ
room_nodes count (assign x subs e) = row_nodes (assign x subs e)
room_nodes count (choose c a b) = row_nodes (choose c a b)
room_nodes count (loop x first last by body m) = row_nodes (loop x first last by body m)
room_nodes count (during c body) = row_nodes (during c body)
room_nodes count (call name args) = row_nodes (call name args) + count
room_nodes count (runtime r) = row_nodes (runtime r)

-- u ends with each statement paid so, and what was spent is at most so much to each unit of what that takes, and two for each dummy
pub record SpendsRowPrice (ps : List Procedure) (u : Procedure) (input : List (Slot ℤ)) (calls reps used spent : ℕ) : Type 0 where
  pub weighed : Ends words (padded_program row_nodes ps) (padded_procedure row_nodes u) input
  pub most : spent ≤ (15 + suc calls * suc reps) * weighed.used + 2 * length u.dummies
  -- that is at most twice the greatest weight for each statement that u used
  pub price_few : (weight : ℕ) → EachUnit (λ v. WeighsAtMost weight v.body) ps → weighed.used ≤ 2 * weight * used

-- So it is with each run that is done of the head's adjoint in the program that is emitted by marks that meet the laws and split no call, on an
-- input on which the head's run is done: whether marked loops are reversed by schedules or are loops as others.
abbrev pub ScheduledCosts : Type 0
ScheduledCosts =
    (schedules : Bool) (lines : ReversedLines) (w : ProgramFacts) (ps : List Procedure) (head : ℕ) (vars outvars : List Bool) (u : Procedure) → unit_at head ps ≡ u ∷ [] → SourceFitsWith schedules lines w ps u → SplitsNothing w.marks → (calls reps : ℕ) → CallsWithin ps u.name calls →
    (a : Procedure) → find_unit (emitted_program_with schedules w.marks ps head vars outvars) (adjoint_name ps u) ≡ Some a →
    (input shadows : List (Slot ℤ)) → fits words u input ≡ true → AreAlike input shadows → (k used : ℕ) (output : Output ℤ) → run_unit words ps u input [] None k ≡ Done output used → AllFew lines reps output.events →
    (j spent : ℕ) (end : Output ℤ) → run_unit words (emitted_program_with schedules w.marks ps head vars outvars) a (joined_by (shadow_flags (w.marks.shadowed u.name) u.dummies) input shadows) [] None j ≡ Done end spent →
    SpendsRowPrice ps u input calls reps used spent

-- so much it is, in the program that is emitted for a program in kernel form
abbrev pub ScheduledSpends : Type 0
ScheduledSpends =
    (schedules : Bool) (lines : ReversedLines) (w : ProgramFacts) (ps : List Procedure) (head : ℕ) (vars outvars : List Bool) (u : Procedure) → unit_at head ps ≡ u ∷ [] → SourceFitsWith schedules lines w ps u → SplitsNothing w.marks → (weight : ℕ) → EachUnit (λ v. WeighsAtMost weight v.body) ps → (calls reps : ℕ) → CallsWithin ps u.name calls →
    (a : Procedure) → find_unit (emitted_program_with schedules w.marks ps head vars outvars) (adjoint_name ps u) ≡ Some a →
    (input shadows : List (Slot ℤ)) → fits words u input ≡ true → AreAlike input shadows → (k used : ℕ) (output : Output ℤ) → run_unit words ps u input [] None k ≡ Done output used → AllFew lines reps output.events →
    (j spent : ℕ) (end : Output ℤ) → run_unit words (emitted_program_with schedules w.marks ps head vars outvars) a (joined_by (shadow_flags (w.marks.shadowed u.name) u.dummies) input shadows) [] None j ≡ Done end spent →
    spent ≤ most_scheduled weight calls reps used (length u.dummies)

-- So much it is by marks that split calls, too, with the greatest number of variables of a unit besides the greatest weight.
abbrev pub SplitSpends : Type 0
SplitSpends =
    (schedules : Bool) (lines : ReversedLines) (w : ProgramFacts) (ps : List Procedure) (head : ℕ) (vars outvars : List Bool) (u : Procedure) → unit_at head ps ≡ u ∷ [] → SourceFitsWith schedules lines w ps u → (weight : ℕ) → EachUnit (λ v. WeighsAtMost weight v.body) ps → (count : ℕ) → HaveVariables count ps → (calls reps : ℕ) → CallsWithin ps u.name calls →
    (a : Procedure) → find_unit (emitted_program_with schedules w.marks ps head vars outvars) (adjoint_name ps u) ≡ Some a →
    (input shadows : List (Slot ℤ)) → fits words u input ≡ true → AreAlike input shadows → (k used : ℕ) (output : Output ℤ) → run_unit words ps u input [] None k ≡ Done output used → AllFew lines reps output.events →
    (j spent : ℕ) (end : Output ℤ) → run_unit words (emitted_program_with schedules w.marks ps head vars outvars) a (joined_by (shadow_flags (w.marks.shadowed u.name) u.dummies) input shadows) [] None j ≡ Done end spent →
    spent ≤ most_scheduled (weight + count) calls reps used (length u.dummies)

-- and in what differs from that in line numbers alone, as a text that is printed and read back does
abbrev pub ReadBackSpends : Type 0
ReadBackSpends =
    (schedules : Bool) (lines : ReversedLines) (w : ProgramFacts) (ps : List Procedure) (head : ℕ) (vars outvars : List Bool) (u : Procedure) → unit_at head ps ≡ u ∷ [] → SourceFitsWith schedules lines w ps u → SplitsNothing w.marks → (weight : ℕ) → EachUnit (λ v. WeighsAtMost weight v.body) ps → (calls reps : ℕ) → CallsWithin ps u.name calls →
    (qs : List Procedure) → unlined (emitted_program_with schedules w.marks ps head vars outvars) ≡ unlined qs → (a : Procedure) → find_unit qs (adjoint_name ps u) ≡ Some a →
    (input shadows : List (Slot ℤ)) → fits words u input ≡ true → AreAlike input shadows → (k used : ℕ) (output : Output ℤ) → run_unit words ps u input [] None k ≡ Done output used → AllFew lines reps output.events →
    (j spent : ℕ) (end : Output ℤ) → run_unit words qs a (joined_by (shadow_flags (w.marks.shadowed u.name) u.dummies) input shadows) [] None j ≡ Done end spent →
    spent ≤ most_scheduled weight calls reps used (length u.dummies)

abbrev pub ReadBackSplitSpends : Type 0
ReadBackSplitSpends =
    (schedules : Bool) (lines : ReversedLines) (w : ProgramFacts) (ps : List Procedure) (head : ℕ) (vars outvars : List Bool) (u : Procedure) → unit_at head ps ≡ u ∷ [] → SourceFitsWith schedules lines w ps u → (weight : ℕ) → EachUnit (λ v. WeighsAtMost weight v.body) ps → (count : ℕ) → HaveVariables count ps → (calls reps : ℕ) → CallsWithin ps u.name calls →
    (qs : List Procedure) → unlined (emitted_program_with schedules w.marks ps head vars outvars) ≡ unlined qs → (a : Procedure) → find_unit qs (adjoint_name ps u) ≡ Some a →
    (input shadows : List (Slot ℤ)) → fits words u input ≡ true → AreAlike input shadows → (k used : ℕ) (output : Output ℤ) → run_unit words ps u input [] None k ≡ Done output used → AllFew lines reps output.events →
    (j spent : ℕ) (end : Output ℤ) → run_unit words qs a (joined_by (shadow_flags (w.marks.shadowed u.name) u.dummies) input shadows) [] None j ≡ Done end spent →
    spent ≤ most_scheduled (weight + count) calls reps used (length u.dummies)

-- a round bound, with the number of variables or any other in it
abbrev pub BoundIsWithin : Type 0
BoundIsWithin = (weight calls reps used dummies variables : ℕ) → most_scheduled weight calls reps used dummies ≤ 100 * (weight + variables) * (calls + 2) * (reps + 2) * used + 2 * dummies
