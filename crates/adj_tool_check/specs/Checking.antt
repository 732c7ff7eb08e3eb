-- Checking: the answer of the command `check` to data, where a program, its head and the adjoint of the head are known. (docs/COMMANDS.md, "`check`")
use Rattle.std.specs.Prelude.{ℕ, ℤ, List, [], ◌∷◌, ◌++◌, drop, Bool, true, false, Option, Some, None, codes}
use Rattle.std.specs.Fmt.{signed_decimal}
use Rattle.adj_tree.specs.Code.{Procedure}
use Rattle.def_text.specs.Char.{line_feed}
use Rattle.def_text.specs.Data.{data_of}
use Rattle.def_meaning.specs.Numbers.{words, duals}
use Rattle.def_meaning.specs.Scene.{Outcome, Done, Trapped, More, Full}
use Rattle.def_meaning.specs.Log.{log_of}
use Rattle.def_meaning.specs.Units.{Slot, Output, run_unit}
use Rattle.def_sweep.specs.Tangents.{cells_of, with_direction, tangents_of, product}
use Rattle.def_sweep.specs.MarkedAdjoint.{joined_by, shadow_cells}
use Rattle.adj_data.specs.Faults.{Fault}
use Rattle.adj_data.specs.Marked.{check_fault, inputs_given, tangents_given, adjoints_given}
use Rattle.adj_data.specs.Printed.{numbers_text}
use Rattle.adj_tool_answer.specs.Answer.{Answer, line_of_one}
use Rattle.adj_tool_answer.specs.Endings.{Asked, bad_data, trapped, used_up, tape_full}

-- a program and its head, with the flags of its independents and its dependents; and an adjoint of the head in another program, with the flags of
-- the dummies of the head that have a shadow there
pub record Sides : Type 0 where
  pub source : List Procedure
  pub head : Procedure
  pub vars : List Bool
  pub outvars : List Bool
  pub emitted : List Procedure
  pub adjoint : Procedure
  pub shadowed : List Bool

-- a slot for each dummy of the head: inputs, tangents, and adjoints, which are 0 where a dummy isn't dependent
pub record Given : Type 0 where
  pub inputs : List (Slot ℤ)
  pub tangents : List (Slot ℤ)
  pub adjoints : List (Slot ℤ)

-- ---- runs, each with the statements that are asked for

abbrev pub original_run : Asked → Sides → Given → Outcome (Output ℤ)
original_run r p d = run_unit words p.source p.head d.inputs [] (Some r.room) r.budget

-- the dual run, on a tape without room: the program of a user has no runtime calls
abbrev pub dual_run : Asked → Sides → Given → Outcome (Output (ℤ × ℤ))
dual_run r p d = run_unit duals p.source p.head (with_direction d.inputs (cells_of d.tangents)) [] (Some 0) r.budget

-- the adjoint gets each input, followed by its given adjoint where it has a shadow
abbrev pub adjoint_run : Asked → Sides → Given → Outcome (Output ℤ)
adjoint_run r p d = run_unit words p.emitted p.adjoint (joined_by p.shadowed d.inputs d.adjoints) [] (Some r.room) r.budget

-- ---- what is written

-- a line for each name: a keyword, the name and its values
abbrev pub output_lines : List (List ℕ) → List (Slot ℤ) → List ℕ
output_lines (x ∷ xs) (v ∷ vs) = codes "OUT " ++ (x ++ (numbers_text v.cells ++ (line_feed ∷ output_lines xs vs)))
output_lines _ _ = []

-- the same for the names that are flagged
abbrev pub flagged_lines : List ℕ → List Bool → List (List ℕ) → List (List ℤ) → List ℕ
flagged_lines keyword (true ∷ flags) (x ∷ xs) (c ∷ cs) = keyword ++ (x ++ (numbers_text c ++ (line_feed ∷ flagged_lines keyword flags xs cs)))
flagged_lines keyword (false ∷ flags) (x ∷ xs) (c ∷ cs) = flagged_lines keyword flags xs cs
flagged_lines keyword _ _ _ = []

abbrev pub products_line : ℤ → ℤ → List ℕ
products_line a b = codes "PRODUCTS " ++ (signed_decimal a ++ (codes " " ++ (signed_decimal b ++ codes "\n")))

-- the adjoints of the dummies at the end of the adjoint's run, 0 where one has no shadow
abbrev pub adjoints_in : Sides → Output ℤ → List (List ℤ)
adjoints_in p back = shadow_cells p.shadowed back.slots

-- the tangents of the dummies at the end of the dual run
abbrev pub tangents_in : Output (ℤ × ℤ) → List (List ℤ)
tangents_in dual = tangents_of (cells_of dual.slots)

-- the product of the adjoints of the independents at the end with their tangents
abbrev pub input_product : Sides → Given → List (List ℤ) → ℤ
input_product p d adjoints = product p.vars adjoints (cells_of d.tangents)

-- the product of the given adjoints of the dependents with the tangents that they have at the end
abbrev pub output_product : Sides → Given → List (List ℤ) → ℤ
output_product p d tangents = product p.outvars (cells_of d.adjoints) tangents

-- outputs, tangents and adjoints
abbrev pub value_lines : Sides → List (Slot ℤ) → (tangents adjoints : List (List ℤ)) → List ℕ
value_lines p outputs tangents adjoints =
    output_lines p.head.dummies outputs ++ (flagged_lines (codes "TAN ") p.outvars p.head.dummies tangents ++ flagged_lines (codes "ADJ ") p.vars p.head.dummies adjoints)

abbrev pub compared : Sides → Given → List (Slot ℤ) → (tangents adjoints : List (List ℤ)) → ℕ → Answer
compared p d outputs tangents adjoints advances = record {
  status = 0;
  text = value_lines p outputs tangents adjoints ++ (products_line (input_product p d adjoints) (output_product p d tangents) ++ line_of_one (codes "ADVANCES ") advances);
}

-- ---- the answer

-- what goes on from a run that is done; else the answer tells how it ended
abbrev pub after : {C : Type 0} → Asked → Outcome (Output C) → (Output C → Answer) → Answer
after r (Done out used) go = go out
after r (Trapped t line w) go = trapped t line
after r (More w) go = used_up r.budget
after r (Full w) go = tape_full r.room

-- the original runs first, then the dual run, and then the adjoint
abbrev pub runs_answer : Asked → Sides → Given → Answer
runs_answer r p d = after r (original_run r p d) (λ out. after r (dual_run r p d) (λ dual. after r (adjoint_run r p d) (λ back. compared p d out.slots (tangents_in dual) (adjoints_in p back) (log_of back.events).advances)))

-- what the data are, which stand behind the line of a number
abbrev pub given_by : Sides → ℕ → List ℕ → Given
given_by p line bytes = record {
  inputs = inputs_given line bytes p.head;
  tangents = tangents_given line bytes p.head p.vars;
  adjoints = adjoints_given line bytes p.head p.outvars;
}

-- the data have a fault, or none
abbrev pub faulty_or : Option Fault → Answer → Answer
faulty_or (Some f) a = bad_data f
faulty_or None a = a

abbrev pub data_answer : Asked → Sides → ℕ → List ℕ → Answer
data_answer r p line bytes = faulty_or (check_fault line bytes p.head p.vars p.outvars) (runs_answer r p (given_by p line bytes))

-- what the data of a text are
abbrev pub given_of : Sides → List ℕ → Given
given_of p bytes = given_by p (data_of bytes).1 (drop (data_of bytes).0 bytes)

-- the answer to a text with its data
abbrev pub check_answer : Asked → Sides → List ℕ → Answer
check_answer r p bytes = data_answer r p (data_of bytes).1 (drop (data_of bytes).0 bytes)
