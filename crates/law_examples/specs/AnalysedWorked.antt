-- A program with a checkpointed call, for which all that the law on analysed programs asks is met.
use Rattle.std.specs.Prelude.{[], ◌∷◌, Bool, true, false, codes, None}
use Rattle.adj_tree.specs.Code.{plain}
use Rattle.def_sweep.specs.Marking.{ProgramMarks}
use Rattle.def_sweep.specs.Program.{emitted_program}
use Rattle.def_sweep.specs.Adjoint.{IsAdjoint}
use Rattle.law_examples.specs.Programs.{calling, squaring_itself}
use Rattle.def_flow.specs.Problem.{Problem}
use Rattle.law_flow.specs.Computed.{Row, Table, HasTable}
use Rattle.def_planned.specs.ProgramFacts.{program_facts}

-- P(X,Y), Y=X, CALL SQ(Y), Y=Y*X, and SQ(A), A=A*A: X is independent, and Y dependent
abbrev pub calling_problem : Problem
calling_problem = record { units = calling ∷ squaring_itself ∷ []; head = 0; vars = true ∷ false ∷ []; outvars = false ∷ true ∷ []; split = λ n. false }

-- a statement that is adjointed and saves nothing
abbrev adjointed : Bool → Row
adjointed kept = record { adjointed = true; kept = kept; saved = [] }

-- all is adjointed; the first assignment and the call are kept; the adjoint of P wants X, and that of SQ wants A
abbrev pub calling_table : Table
calling_table = record {
  rows = adjointed true ∷ adjointed true ∷ adjointed false ∷ adjointed false ∷ [];
  shadows = (plain (codes "X") ∷ plain (codes "Y") ∷ []) ∷ (plain (codes "A") ∷ []) ∷ [];
  entries = (codes "X" ∷ []) ∷ (codes "A" ∷ []) ∷ [];
}

-- the marks of analyses that say so
abbrev pub marks_of : HasTable calling_problem calling_table → ProgramMarks
marks_of t = (program_facts calling_problem.units calling_problem.split t.activity t.live t.saved t.held).marks

-- exact analyses say so, and what is emitted by their marks is an adjoint
abbrev pub CallingIsAdjoint : Type 0
CallingIsAdjoint = (t : HasTable calling_problem calling_table) × IsAdjoint (λ line. None) (marks_of t) calling_problem.units 0 calling_problem.vars calling_problem.outvars (emitted_program (marks_of t) calling_problem.units 0 calling_problem.vars calling_problem.outvars)
