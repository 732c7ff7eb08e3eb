-- The marks of exact analyses of the kernel of a program, and what is emitted by them.
use Rattle.std.specs.Prelude.{ℕ, List, Bool, true, false}
use Rattle.adj_tree.specs.Code.{Procedure}
use Rattle.def_names.specs.HeadFaults.{unit_number}
use Rattle.def_names.specs.Numbers.{Vars, everything}
use Rattle.def_sweep.specs.Marking.{ProgramMarks, ProgramFacts}
use Rattle.def_sweep.specs.Reversals.{ReversedLines}
use Rattle.def_sweep.specs.Program.{emitted_program_with}
use Rattle.def_kernel.specs.Kernel.{EachUnit}
use Rattle.def_kernel.specs.Stepped.{kernel_of}
use Rattle.def_flow.specs.Problem.{Problem}
use Rattle.def_flow.specs.Splits.{is_line, split_calls}
use Rattle.def_flow.specs.Activity.{Activity}
use Rattle.def_flow.specs.Live.{Liveness}
use Rattle.def_planned.specs.ProgramFacts.{program_facts, IsUnmarked}
use Rattle.def_sweep.specs.MarkedLines.{reversed_lines}

-- no loop of a program is marked
abbrev pub HasNoMarks : List Procedure → Type 0
HasNoMarks ps = EachUnit (λ u. IsUnmarked u.body) ps

-- what is asked of the analyses: of the kernel, with the unit of a name as the head
abbrev pub kernel_problem : List Procedure → List ℕ → List Bool → List Bool → Problem
kernel_problem ps name vars outvars = record { units = kernel_of ps; head = unit_number (kernel_of ps) name; vars = vars; outvars = outvars; split = λ n. false }

-- the same where the calls of the program at these lines are to be split
abbrev pub split_problem : List ℕ → List Procedure → List ℕ → List Bool → List Bool → Problem
split_problem lines ps name vars outvars = record {
  units = kernel_of ps;
  head = unit_number (kernel_of ps) name;
  vars = vars;
  outvars = outvars;
  split = split_calls (is_line lines) (kernel_of ps);
}

-- what is emitted for the kernel by some marks, where marked loops are reversed by schedules, each whose step call is adjointed
abbrev pub reversed_for : List Procedure → List ℕ → List Bool → List Bool → ProgramMarks → List Procedure
reversed_for ps name vars outvars m = emitted_program_with true m (kernel_of ps) (unit_number (kernel_of ps) name) vars outvars

-- the loops of the kernel that are reversed so, by their lines, with their step units: they hang on the marks alone
abbrev pub facts_by : ProgramMarks → ProgramFacts
facts_by m = record { marks = m; needed = λ point. everything; held = λ point. everything }

abbrev pub lines_by : List Procedure → ProgramMarks → ReversedLines
lines_by ps m = reversed_lines (facts_by m) (kernel_of ps)

-- the marks that analyses of the kernel give, where the calls of the program at these lines are to be split
abbrev pub marks_by : List ℕ → List Procedure → Activity → Liveness → (ℕ → Vars) → (ℕ → Vars) → ProgramMarks
marks_by lines ps a l saved held = (program_facts (kernel_of ps) (split_calls (is_line lines) (kernel_of ps)) a l saved held).marks
