-- That what is emitted for a checked program can be written as a text, and has no faults. (docs/THEOREMS.md, "Sweeps of every statement")
use Rattle.std.specs.Prelude.{◌≡◌, ◌≤◌, ℕ, ◌+◌, max, List, [], ◌∷◌, ◌++◌, flat_map, Bool, true, false}
use Rattle.adj_tree.specs.Code.{Runtime, push_word, pop_word, push_array, pop_array, push_control, pop_control, zero_array, begin_reversal, count_actions, give_action, end_reversal, Act, assign, choose, loop, during, call, runtime, Code, stop, step, Procedure}
use Rattle.adj_tree.specs.Size.{term_depth, terms_depth, test_depth, IsNested}
use Rattle.def_text.specs.Written.{IsWritten}
use Rattle.def_names.specs.Fault.{Rules, run_rules}
use Rattle.def_names.specs.UnitFaults.{unit_faults}
use Rattle.def_names.specs.NameFaults.{name_faults}
use Rattle.def_names.specs.CallFaults.{call_faults}
use Rattle.def_names.specs.ChainFaults.{chain_faults}
use Rattle.def_names.specs.WriteFaults.{shared_variables, written_values, write_faults}
use Rattle.def_names.specs.Check.{IsSound}
use Rattle.def_meaning.specs.LeastSet.{Dummies}
use Rattle.def_sweep.specs.Marking.{ProgramMarks, full_marks, ProgramFacts}
use Rattle.def_sweep.specs.Program.{emitted_program_with, emitted_program}
use Rattle.law_emitted.specs.Checked.{IsChecked, AreLawful}
use Rattle.law_emitted.specs.Shadowed.{AllHaveShadows}
use Rattle.law_emitted.specs.Splits.{AllMaySplit}

-- What is emitted for a checked program in kernel form is written, whatever the marks, as long as what they use has shadows and they split only calls that may
-- be split, and whether marked loops are reversed by schedules or not.
abbrev pub MarkedIsWritten : Type 0
MarkedIsWritten =
    (rules : Rules) (ps : List Procedure) → IsChecked rules ps → (schedules : Bool) (m : ProgramMarks) → AllHaveShadows m ps ps → AllMaySplit schedules m ps ps → (head : ℕ) (vars outvars : List Bool) →
    IsWritten (emitted_program_with schedules m ps head vars outvars)

-- so it is with full marks
abbrev pub EmittedIsWritten : Type 0
EmittedIsWritten = (rules : Rules) (ps : List Procedure) → IsChecked rules ps → (head : ℕ) (vars outvars : List Bool) → IsWritten (emitted_program full_marks ps head vars outvars)

-- facts that meet the laws have the shadows that their marks use
abbrev pub LawfulHaveShadows : Type 0
LawfulHaveShadows = (rules : Rules) (ps : List Procedure) → IsChecked rules ps → (w : ProgramFacts) → AreLawful w ps → AllHaveShadows w.marks ps ps

-- ---- it has no faults

-- the names of its units are apart, and none is reserved, by any marks
abbrev pub UnitsHaveNone : Type 0
UnitsHaveNone = (rules : Rules) (ps : List Procedure) → IsChecked rules ps → (schedules : Bool) (m : ProgramMarks) (head : ℕ) (vars outvars : List Bool) → unit_faults (emitted_program_with schedules m ps head vars outvars) ≡ []

-- its variables are declared once and stand with as many subscripts as they have extents, and their names are their own
abbrev pub NamesHaveNone : Type 0
NamesHaveNone =
    (rules : Rules) (ps : List Procedure) → IsChecked rules ps → (schedules : Bool) (m : ProgramMarks) → AllHaveShadows m ps ps → AllMaySplit schedules m ps ps → (head : ℕ) (vars outvars : List Bool) →
    name_faults run_rules (emitted_program_with schedules m ps head vars outvars) ≡ []

-- each of its CALLs is of a unit that it has, with an actual for each dummy, of its rank; and calls of the runtime take arrays where they should
abbrev pub CallsHaveNone : Type 0
CallsHaveNone =
    (rules : Rules) (ps : List Procedure) → IsChecked rules ps → (schedules : Bool) (m : ProgramMarks) → AllHaveShadows m ps ps → AllMaySplit schedules m ps ps → (head : ℕ) (vars outvars : List Bool) →
    call_faults (emitted_program_with schedules m ps head vars outvars) ≡ []

-- no CALL of it hands one variable to two dummies, and nothing but a name for a dummy that is written, whichever dummies those are
abbrev pub ActualsHaveNone : Type 0
ActualsHaveNone =
    (rules : Rules) (ps : List Procedure) → IsChecked rules ps → (schedules : Bool) (m : ProgramMarks) → AllHaveShadows m ps ps → AllMaySplit schedules m ps ps → (head : ℕ) (vars outvars : List Bool) (handed : Dummies) →
    flat_map (λ u. shared_variables handed u ++ written_values handed u) (emitted_program_with schedules m ps head vars outvars) ≡ []

-- no calls of it lead back to their unit, and no chain of them is longer than one of the source, which a run takes
abbrev pub ChainsHaveNone : Type 0
ChainsHaveNone =
    (rules : Rules) (ps : List Procedure) → IsChecked rules ps → rules.chain ≤ run_rules.chain → (schedules : Bool) (m : ProgramMarks) → AllMaySplit schedules m ps ps → (head : ℕ) (vars outvars : List Bool) →
    chain_faults run_rules (emitted_program_with schedules m ps head vars outvars) ≡ []

-- no statement of it writes the variable of a DO in whose body it stands, or an extent, and its CALLs have none of those faults
abbrev pub WritesHaveNone : Type 0
WritesHaveNone =
    (rules : Rules) (ps : List Procedure) → IsChecked rules ps → (schedules : Bool) (m : ProgramMarks) → AllHaveShadows m ps ps → AllMaySplit schedules m ps ps → (head : ℕ) (vars outvars : List Bool) →
    write_faults (emitted_program_with schedules m ps head vars outvars) ≡ []

-- so it has no fault as a text that is run, where the source's chains of calls are no longer than a run takes
abbrev pub MarkedIsSound : Type 0
MarkedIsSound =
    (rules : Rules) (ps : List Procedure) → IsChecked rules ps → rules.chain ≤ run_rules.chain → (schedules : Bool) (m : ProgramMarks) → AllHaveShadows m ps ps → AllMaySplit schedules m ps ps → (head : ℕ) (vars outvars : List Bool) →
    IsSound run_rules (emitted_program_with schedules m ps head vars outvars)

-- so it is with full marks
abbrev pub EmittedIsSound : Type 0
EmittedIsSound = (rules : Rules) (ps : List Procedure) → IsChecked rules ps → rules.chain ≤ run_rules.chain → (head : ℕ) (vars outvars : List Bool) → IsSound run_rules (emitted_program full_marks ps head vars outvars)

-- ---- it keeps limits

-- what a reversal by a schedule adds to a loop: one for the loop over the actions, one for their kinds, and one for the steps of an advance, in place of its own
abbrev pub nested_with : Bool → ℕ → ℕ
nested_with false n = n
nested_with true n = n + 2

-- what is emitted is nested no deeper than the source, or by two where marked loops are reversed by schedules
abbrev pub KeepsNesting : Type 0
KeepsNesting = (n : ℕ) (ps : List Procedure) → IsNested n ps → (schedules : Bool) (m : ProgramMarks) (head : ℕ) (vars outvars : List Bool) → IsNested (nested_with schedules n) (emitted_program_with schedules m ps head vars outvars)

-- the depth of the deepest expression or condition in a statement, whose bodies count too
abbrev pub runtime_deepest : Runtime → ℕ
runtime_deepest (push_word x s) = terms_depth s
runtime_deepest (pop_word x s) = terms_depth s
runtime_deepest (push_array x) = 0
runtime_deepest (pop_array x) = 0
runtime_deepest (push_control e) = term_depth e
runtime_deepest (pop_control x) = 0
runtime_deepest (zero_array x) = 0
runtime_deepest (begin_reversal l s) = max (term_depth l) (term_depth s)
runtime_deepest (count_actions l s n) = max (term_depth l) (term_depth s)
runtime_deepest (give_action l s k a f t) = max (term_depth l) (max (term_depth s) (term_depth k))
runtime_deepest end_reversal = 0

abbrev mutual
  pub act_deepest : Act → ℕ
  act_deepest (assign x s e) = max (terms_depth s) (term_depth e)
  act_deepest (choose c a b) = max (test_depth c) (max (deepest a) (deepest b))
  act_deepest (loop x a b c body m) = max (term_depth a) (max (term_depth b) (max (term_depth c) (deepest body)))
  act_deepest (during c body) = max (test_depth c) (deepest body)
  act_deepest (call name es) = terms_depth es
  act_deepest (runtime r) = runtime_deepest r

  -- in a list
  pub deepest : Code → ℕ
  deepest stop = 0
  deepest (step line a rest) = max (act_deepest a) (deepest rest)

-- no expression and no condition of these units is deeper
abbrev pub AreShallow : ℕ → List Procedure → Type 0
AreShallow n [] = Unit {0}
AreShallow n (u ∷ us) = (deepest u.body ≤ n) × AreShallow n us

-- what is emitted has expressions that are at most 3 deeper than those of the source
abbrev pub KeepsDepth : Type 0
KeepsDepth = (n : ℕ) (ps : List Procedure) → AreShallow n ps → (schedules : Bool) (m : ProgramMarks) (head : ℕ) (vars outvars : List Bool) → AreShallow (n + 3) (emitted_program_with schedules m ps head vars outvars)
