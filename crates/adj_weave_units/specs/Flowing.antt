-- The flow of a program.
use Rattle.std.specs.Prelude.{◌≡◌, ℕ, List}
use Rattle.adj_tree.specs.Code.{Procedure}
use Rattle.def_flow.specs.Rules.{Scope}
use Rattle.adj_reach.specs.Edges.{flag}
use Rattle.adj_flow.specs.declared.units.Flow.{Flow}
use Rattle.adj_flow.specs.Asked.{IsFlow, units_of, variables_of}
use Rattle.adj_flow.specs.Scoped.{scope_by}

-- the units that take part, with their variables
abbrev pub scope_in : Flow → Scope
scope_in f = scope_by (variables_of f) (flag f.taking) (units_of f)

-- the flow is that of the program, of which the unit of the number h is the head
pub record IsFlowOf (ps : List Procedure) (h : ℕ) (f : Flow) : Type 0 where
  pub flow : IsFlow f h
  pub units : units_of f ≡ ps
