-- Which lines have loops that are reversed by schedules, and by which units.
use Rattle.std.specs.Prelude.{ℕ, suc, ◌==◌, List, [], ◌∷◌, ◌++◌, Bool, true, Option, None, if◌then◌else◌}
use Rattle.adj_tree.specs.Code.{Act, assign, choose, loop, during, call, runtime, Code, stop, step, Procedure}
use Rattle.def_names.specs.Numbers.{next, behind}
use Rattle.def_sweep.specs.Plan.{Schedules, reversed_by}
use Rattle.def_sweep.specs.Reversals.{StepUnits, ReversedLines}
use Rattle.def_sweep.specs.MarkedUnits.{is_marked, units_of}
use Rattle.def_sweep.specs.Callees.{CalleeFacts}
use Rattle.def_sweep.specs.Marking.{ProgramFacts, callee_facts}
use Rattle.def_sweep.specs.Schedules.{schedules_by}

-- a line, and the units by which the marked loop that stands there is reversed, if it is
abbrev pub Tale : Type 0
Tale = ℕ × Option StepUnits

abbrev mutual
  pub told_in : Schedules → (List ℕ → CalleeFacts) → (ℕ → Bool) → ℕ → ℕ → Act → List Tale
  told_in r g adjointed i line (assign x subs e) = []
  told_in r g adjointed i line (choose c a b) = told_code r g adjointed (suc i) a ++ told_code r g adjointed (behind (suc i) a) b
  told_in r g adjointed i line (loop x a b c body n) = (if is_marked n then (line, units_of g (reversed_by r adjointed i body n)) ∷ [] else []) ++ told_code r g adjointed (suc i) body
  told_in r g adjointed i line (during c body) = told_code r g adjointed (suc i) body
  told_in r g adjointed i line (call name args) = []
  told_in r g adjointed i line (runtime o) = []

  pub told_code : Schedules → (List ℕ → CalleeFacts) → (ℕ → Bool) → ℕ → Code → List Tale
  told_code r g adjointed i stop = []
  told_code r g adjointed i (step line a rest) = told_in r g adjointed i line a ++ told_code r g adjointed (next i a) rest

-- of units, where the first statement of the first has the number i
abbrev pub told_units : Schedules → (List ℕ → CalleeFacts) → (ℕ → Bool) → ℕ → List Procedure → List Tale
told_units r g adjointed i [] = []
told_units r g adjointed i (u ∷ us) = told_code r g adjointed i u.body ++ told_units r g adjointed (behind i u.body) us

-- the first that tells of a line
abbrev pub tale_of : List Tale → ReversedLines
tale_of [] line = None
tale_of (t ∷ ts) line = if line == t.0 then t.1 else tale_of ts line

-- what the marked loops of a program tell, in the order of its units
abbrev pub tales_of : ProgramFacts → List Procedure → List Tale
tales_of w ps = let g = callee_facts w ps in told_units (schedules_by true g) g w.marks.adjointed 0 ps

-- the marked loops of a program that are reversed by schedules, by their lines
abbrev pub reversed_lines : ProgramFacts → List Procedure → ReversedLines
reversed_lines w ps = tale_of (tales_of w ps)
