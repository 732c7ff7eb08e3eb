-- Emitted: the program that is run as the adjoint of a head, and what is known of it.
use Rattle.std.specs.Prelude.{◌≡◌, ℕ, List, Bool, true, Some, Result, Ok, Err}
use Rattle.adj_tree.specs.Code.{Procedure}
use Rattle.adj_tree.specs.Lines.{unlined}
use Rattle.adj_tree.specs.declared.fault.Refusal.{Refusal}
use Rattle.def_text.specs.Text.{text_of}
use Rattle.def_text.specs.Written.{IsWritten}
use Rattle.def_text.specs.declared.mode.Mode.TheVariants.{Run}
use Rattle.def_meaning.specs.Written.{find_unit}
use Rattle.def_names.specs.Fault.{run_rules}
use Rattle.def_names.specs.Check.{IsSound}
use Rattle.def_sweep.specs.MarkedAdjoint.{shadow_flags}
use Rattle.def_sweep.specs.Names.{adjoint_name}
use Rattle.def_sweep.specs.Marking.{ProgramMarks}
use Rattle.def_sweep.specs.Reversals.{ReversedLines}
use Rattle.def_kernel.specs.Stepped.{kernel_of}
use Rattle.def_adjoint.specs.Adjoint.{HaveOwnNames, IsAdjointOf}
use Rattle.def_text.specs.OrTooMany.{OrTooMany}
use Rattle.def_refused.specs.TextFaults.{program_of}

abbrev pub or_itself : List Procedure → Result (List Procedure) Refusal → List Procedure
or_itself qs (Ok read) = read
or_itself qs (Err e) = qs

-- what a program's text reads as in Run mode; the program itself where the text is refused
abbrev pub read_back : List Procedure → List Procedure
read_back qs = or_itself qs (program_of Run (text_of qs))

-- it can be written as a text, which reads as it but for line numbers, or has too many statements; and with any line numbers it has no fault as a text that is run
pub record IsRunnable (qs : List Procedure) : Type 0 where
  pub written : IsWritten qs
  pub reads : OrTooMany (λ found. unlined found ≡ unlined qs) (program_of Run (text_of qs))
  pub sound : (others : List Procedure) → unlined qs ≡ unlined others → IsSound run_rules others

-- a program that is emitted for the unit of a name in a program, with the name of that unit's adjoint, and flags that tell which of its dummies have a shadow
pub record IsEmittedFor (ps : List Procedure) (name : List ℕ) (vars outvars : List Bool) (qs : List Procedure) (adjoint : List ℕ) (shadowed : List Bool) : Type 0 where
  pub runnable : IsRunnable qs
  -- with any line numbers it is an adjoint, in which the loops at these lines are reversed by schedules
  pub lines : ReversedLines
  pub own_names : HaveOwnNames lines
  pub marks : ProgramMarks
  pub adjoins : (others : List Procedure) → unlined qs ≡ unlined others → IsAdjointOf lines marks ps name vars outvars others
  pub named : (k : Procedure) → find_unit (kernel_of ps) name ≡ Some k → adjoint ≡ adjoint_name (kernel_of ps) k
  pub shadows : (u : Procedure) → find_unit ps name ≡ Some u → shadowed ≡ shadow_flags (marks.shadowed name) u.dummies
