-- Roomless: no answer says that a tape is full, since no run of a program without runtime calls looks for room.
use Rattle.std.proofs.Common.{◌≡◌, ◌≢◌, ℕ, Bool, true, false, List, [], length, drop, refl, sym, ap, subst, ◌∙◌, Option, Some, None, Result, Ok, Err}
use Rattle.std.specs.Prelude.{ℤ, nat_lt}
use Rattle.std.specs.List.{slice_get}
use Rattle.std.proofs.lemmas.Option.{slice_get_within}
use Rattle.adj_tree.specs.Code.{Procedure}
use Rattle.adj_tree.specs.declared.fault.Refusal.{Refusal}
use Rattle.adj_tree.specs.declared.marks.Head.{Head}
use Rattle.def_text.specs.Data.{data_of}
use Rattle.def_meaning.specs.Numbers.{duals}
use Rattle.def_meaning.specs.Scene.{Outcome, Done, Trapped, More, Full}
use Rattle.def_meaning.specs.Seen.{ending_seen}
use Rattle.def_meaning.specs.Units.{Slot, Output, run_unit}
use Rattle.def_meaning.specs.Written.{find_unit}
use Rattle.def_names.specs.Check.{first_fault}
use Rattle.def_names.specs.Fault.{source_rules}
use Rattle.def_names.specs.HeadFaults.{first_head_fault, head_of, unit_number}
use Rattle.def_jacobian.specs.Columns.{Columns}
use Rattle.def_jacobian.specs.Inputs.{in_direction, one_at}
use Rattle.def_jacobian.specs.Patterns.{Task, pattern_run, dual_run}
use Rattle.law_jacobian.proofs.Runs.{ends_as_dual}
use Rattle.adj_data.specs.Faults.{Fault, data_fault}
use Rattle.adj_data.specs.Given.{input_given}
use Rattle.adj_interp.specs.Dually.{CallsNoRuntime, DualFull}
use Rattle.adj_interp.proofs.Quiet.{dual_never_full, sources_quiet}
use Rattle.adj_jacobian.specs.Ends.{FindsFull}
use Rattle.adj_tool_answer.specs.Answer.{Answer}
use Rattle.adj_tool_answer.specs.Endings.{Asked}
use Rattle.adj_tool_answer.proofs.Heads.{numbered}
use Rattle.adj_tool_jacobian.specs.Jacobian.{most_bytes, task_of, AnswersEnd, AnswersRun, AnswersInput, AnswersData, AnswersHead, AnswersHeaded, AnswersChecked, AnswersText, AnswersSized, AnswersJacobian, NeverFull}

-- ---- runs

-- a dual run that ends as a run that finds the tape full does so too
full_both : (o : Outcome (Output (ℤ × Columns))) (d : Outcome (Output (ℤ × ℤ))) → ending_seen (λ a. a.0) o ≡ ending_seen (λ a. a.0) d → FindsFull o → DualFull d
full_both (Done out used) d e h = absurd h
full_both (Trapped t line w) d e h = absurd h
full_both (More w) d e h = absurd h
full_both (Full w) (Done res more) e h = absurd cc
full_both (Full w) (Trapped t line v) e h = absurd cc
full_both (Full w) (More v) e h = absurd cc
full_both (Full w) (Full v) e h = tt

some_same : {X : Type 0} (a b : X) → Some a ≡ Some b → a ≡ b
some_same a b e = cc

-- the pattern run of a unit of a program that calls no runtime doesn't find it full
pattern_roomy : (r : Asked) (ps : List Procedure) (name : List ℕ) (u : Procedure) (vars : List Bool) (input : List (Slot ℤ)) → CallsNoRuntime ps → find_unit ps name ≡ Some u → FindsFull (pattern_run (task_of r ps u vars input)) → ⊥
pattern_roomy r ps name u vars input quiet found full =
    let p = task_of r ps u vars input in
    let at : slice_get ps (unit_number ps name) ≡ Some u = numbered ps name u found in
    dual_never_full ps ps (unit_number ps name) (in_direction (one_at 0) vars input) r.budget quiet quiet (slice_get_within ps (unit_number ps name) u at)
    (λ v stands. subst (λ w. DualFull (run_unit duals ps w (in_direction (one_at 0) vars input) [] (Some 0) r.budget)) (some_same u v (sym at ∙ stands)) (full_both (pattern_run p) (dual_run p (one_at 0)) (ends_as_dual p (one_at 0)) full))

-- ---- statuses

-- an answer of another status
other_status : (a b : Answer) → a ≡ b → b.status ≢ 6 → a.status ≢ 6
other_status a b e h k = h (ap (λ (c : Answer). c.status) (sym e) ∙ k)

module _ (r : Asked) (a : Answer) where
  end_roomy : (p : Task) (outvars : List Bool) (q : Outcome (Output (ℤ × Columns))) → (FindsFull q → ⊥) → AnswersEnd r p outvars q a → a.status ≢ 6
  end_roomy p outvars (Done out used) roomy h = other_status a _ h.is (λ e. cc)
  end_roomy p outvars (Trapped t line w) roomy h = other_status a _ h (λ e. cc)
  end_roomy p outvars (More w) roomy h = other_status a _ h (λ e. cc)
  end_roomy p outvars (Full w) roomy h = absurd (roomy tt)

  input_roomy : (o : Option Fault) (ps : List Procedure) (u : Procedure) (h : Head) (input : List (Slot ℤ)) → CallsNoRuntime ps → find_unit ps r.head ≡ Some u → AnswersInput o r ps u h input a → a.status ≢ 6
  input_roomy (Some f) ps u h input quiet found k = other_status a _ k (λ e. cc)
  input_roomy None ps u h input quiet found k =
      end_roomy (task_of r ps u h.vars input) h.outvars (pattern_run (task_of r ps u h.vars input)) (pattern_roomy r ps r.head u h.vars input quiet found) k

  head_roomy : (o : Option Procedure) (bytes : List ℕ) (ps : List Procedure) (h : Head) → CallsNoRuntime ps → find_unit ps r.head ≡ o → AnswersHead r bytes ps h o a → a.status ≢ 6
  head_roomy None bytes ps h quiet found k = other_status a _ k (λ e. cc)
  head_roomy (Some u) bytes ps h quiet found k =
      input_roomy (data_fault (data_of bytes).1 (drop (data_of bytes).0 bytes) u) ps u h (input_given (data_of bytes).1 (drop (data_of bytes).0 bytes) u) quiet found k

  module _ (vars outvars : List (List ℕ)) (bytes : List ℕ) where
    headed_roomy : (o : Option Refusal) (ps : List Procedure) → CallsNoRuntime ps → AnswersHeaded o r vars outvars bytes ps a → a.status ≢ 6
    headed_roomy (Some e) ps quiet k = other_status a _ k (λ e. cc)
    headed_roomy None ps quiet k = head_roomy (find_unit ps r.head) bytes ps (head_of ps r.head vars outvars) quiet refl k

    checked_roomy : (o : Option Refusal) (ps : List Procedure) → first_fault source_rules ps ≡ o → AnswersChecked o r vars outvars bytes ps a → a.status ≢ 6
    checked_roomy (Some e) ps is k = other_status a _ k (λ e. cc)
    checked_roomy None ps is k = headed_roomy (first_head_fault ps r.head vars outvars) ps (sources_quiet ps is) k

    text_roomy : (found : Result (List Procedure) Refusal) → AnswersText r vars outvars bytes found a → a.status ≢ 6
    text_roomy (Err e) k = other_status a _ k (λ e. cc)
    text_roomy (Ok ps) k = checked_roomy (first_fault source_rules ps) ps refl k

    sized_roomy : (b : Bool) → AnswersSized b r vars outvars bytes a → a.status ≢ 6
    sized_roomy true k = other_status a _ k (λ e. cc)
    sized_roomy false k = text_roomy k.found k.such

pub never_full : NeverFull
never_full r vars outvars bytes a h = sized_roomy r a vars outvars bytes (nat_lt most_bytes (length bytes)) h
