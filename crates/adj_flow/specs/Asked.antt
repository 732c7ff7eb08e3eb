-- What is known of what the analyses go over.
use Rattle.std.specs.Prelude.{◌≡◌, ◌↔◌, ◌<◌, ◌≤◌, ℕ, List, [], map, length, All, Contains, IsTrue, false}
use Rattle.adj_tree.specs.Code.{Procedure}
use Rattle.adj_tree.specs.View.{procedure_of}
use Rattle.adj_tree.specs.declared.marks.Head.{Head}
use Rattle.def_flow.specs.Parts.{Part, parts}
use Rattle.def_flow.specs.Problem.{Problem, TakesPart}
use Rattle.adj_symbols_writes.specs.Graph.{number_from}
use Rattle.adj_symbols_writes.specs.Table.{value_of}
use Rattle.adj_flow.specs.Rows.{row_of, rows}
use Rattle.adj_flow.specs.declared.units.Flow.{Flow}
use Rattle.adj_reach.specs.Edges.{flag}
use Rattle.adj_flow.specs.Scoped.{HoldVariables}

-- the units, and the variables of each
abbrev pub units_of : Flow → List Procedure
units_of f = map (λ p. procedure_of p.unit.now) f.parts.items

abbrev pub variables_of : Flow → List (List (List ℕ))
variables_of f = map (λ p. p.variables.now) f.parts.items

-- the calls that are flagged are to be split
abbrev pub problem_of : Flow → Head → Problem
problem_of f h = record { units = units_of f; head = h.unit; vars = h.vars; outvars = h.outvars; split = flag f.split }

-- it is the flow of a program, of which the unit of a number is the head: each unit has its numbers, statements and ways; names give the numbers of units;
-- the units that take part are flagged; no unit has more variables than the width; and the variables of each hold its dummies and what stands in its statements
pub record IsFlow (f : Flow) (h : ℕ) : Type 0 where
  pub head : h < length (units_of f)
  pub rows : map row_of f.parts.items ≡ rows (variables_of f) (units_of f)
  pub numbers : (x : List ℕ) → value_of x f.numbers ≡ number_from 0 (units_of f) x
  pub taking : (g : Part) → Contains (parts (units_of f)) g → IsTrue (flag f.taking g.number) ↔ TakesPart (record { units = units_of f; head = h; vars = []; outvars = []; split = λ n. false }) g
  pub width : All (λ vs. length vs ≤ f.width) (variables_of f)
  pub variables : HoldVariables (variables_of f) (units_of f)
