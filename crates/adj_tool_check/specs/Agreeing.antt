-- Agreeing: what holds of the runs of `check`, and where it is done. (docs/THEOREMS.md, "`check`")
use Rattle.std.specs.Prelude.{◌≡◌, ℕ, ℤ, List, [], ◌++◌, Bool, true, Option, None, codes, drop, length}
use Rattle.adj_tree.specs.Code.{Procedure}
use Rattle.def_meaning.specs.Numbers.{words}
use Rattle.def_text.specs.Data.{data_of}
use Rattle.def_meaning.specs.Scene.{Outcome, Done, Trapped, More, Full}
use Rattle.def_meaning.specs.Units.{Output, run_unit}
use Rattle.def_sweep.specs.MarkedAdjoint.{shadow_flags, joined_by}
use Rattle.def_sweep.specs.Marking.{ProgramMarks}
use Rattle.def_sweep.specs.Reversals.{ReversedLines, runs_in}
use Rattle.def_adjoint.specs.Adjoint.{HaveOwnNames, IsAdjointOf}
use Rattle.adj_data.specs.Fitting.{IsSized}
use Rattle.adj_data.specs.Marked.{check_fault}
use Rattle.def_adjoint.specs.Trapped.{IsTrapped}
use Rattle.def_adjoint.specs.LeastCosts.{least_costs}
use Rattle.adj_tool_answer.specs.Answer.{Answer, line_of_one}
use Rattle.adj_tool_answer.specs.Endings.{Asked, trapped}
use Rattle.adj_tool_check.specs.Checking.{Sides, Given, original_run, products_line, check_answer, given_of}

-- the text tells two products, which are equal, and so many advances
pub record TellsEqual (advances : ℕ) (text : List ℕ) : Type 0 where
  -- lines of values
  pub values : List ℕ
  pub both : ℤ
  pub is : text ≡ values ++ (products_line both both ++ line_of_one (codes "ADVANCES ") advances)

-- the run of the adjoint on data never traps, with any number of statements and any room of the tape
abbrev pub NeverTraps : Sides → Given → Type 0
NeverTraps p d = (room : Option ℕ) (k : ℕ) → IsTrapped (run_unit words p.emitted p.adjoint (joined_by p.shadowed d.inputs d.adjoints) [] room k) → ⊥

-- one side is an adjoint of the other, in which the loops at these lines are reversed by schedules
pub record IsAdjointSide (p : Sides) : Type 0 where
  pub lines : ReversedLines
  pub own_names : HaveOwnNames lines
  pub marks : ProgramMarks
  pub name : List ℕ
  pub adjoins : IsAdjointOf lines marks p.source name p.vars p.outvars p.emitted
  pub is_head : p.head ≡ adjoins.unit
  pub is_adjoint : p.adjoint ≡ adjoins.adjoint
  pub shadows : p.shadowed ≡ shadow_flags (marks.shadowed name) p.head.dummies

-- and each extent of the head is a number or a scalar dummy
pub record AreAdjoint (p : Sides) : Type 0 where
  pub sized : IsSized p.head
  pub vars : length p.vars ≡ length p.head.dummies
  pub outvars : length p.outvars ≡ length p.head.dummies
  pub side : IsAdjointSide p

-- ---- traps

-- a run is done
abbrev pub IsDone : {R : Type 0} → Outcome R → Type 0
IsDone (Done out used) = Unit {0}
IsDone (Trapped t line w) = ⊥
IsDone (More w) = ⊥
IsDone (Full w) = ⊥

-- a run traps, and the answer tells of that trap
abbrev pub TellsTrap : {R : Type 0} → Outcome R → Answer → Type 0
TellsTrap (Done out used) a = ⊥
TellsTrap (Trapped t line w) a = a ≡ trapped t line
TellsTrap (More w) a = ⊥
TellsTrap (Full w) a = ⊥

-- the data of a text have no fault
abbrev pub HasData : Sides → List ℕ → Type 0
HasData p bytes = check_fault (data_of bytes).1 (drop (data_of bytes).0 bytes) p.head p.vars p.outvars ≡ None

-- Only the original traps: status 4 tells of its trap, and so it is where its run traps on data without a fault. Where that run is done, which
-- is where the others run, the adjoint's never traps.
pub record TrapsAlone (r : Asked) (p : Sides) (bytes : List ℕ) : Type 0 where
  pub told : (check_answer r p bytes).status ≡ 4 → HasData p bytes × TellsTrap (original_run r p (given_of p bytes)) (check_answer r p bytes)
  pub comes : HasData p bytes → IsTrapped (original_run r p (given_of p bytes)) → (check_answer r p bytes).status ≡ 4
  pub untrapped : HasData p bytes → IsDone (original_run r p (given_of p bytes)) → NeverTraps p (given_of p bytes)

abbrev pub CheckTraps : Type 0
CheckTraps = (r : Asked) (p : Sides) → AreAdjoint p → (bytes : List ℕ) → TrapsAlone r p bytes

-- ---- products

-- what the answer says, and what the runs are, where the loops at these lines are reversed by schedules
pub record Agrees (r : Asked) (lines : ReversedLines) (p : Sides) (bytes text : List ℕ) : Type 0 where
  -- the original's run is done
  pub original : Output ℤ
  pub used : ℕ
  pub done : original_run r p (given_of p bytes) ≡ Done original used
  -- the products are equal, and the advances are the least costs of that run's runs of these loops, together
  pub equal : TellsEqual (least_costs (runs_in lines original.events)) text
  pub untrapped : NeverTraps p (given_of p bytes)

-- so where `check` is done, the products are equal, the advances are the least, and the adjoint never trapped
abbrev pub CheckAgrees : Type 0
CheckAgrees = (r : Asked) (p : Sides) → (x : AreAdjoint p) → (bytes : List ℕ) → (check_answer r p bytes).status ≡ 0 → Agrees r x.side.lines p bytes (check_answer r p bytes).text
