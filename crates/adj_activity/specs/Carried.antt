-- Which variables carry a tangent, by flags: the variable at place j of the u-th unit has the number u * w + j.
use Rattle.std.specs.Prelude.{ℕ, List, Bool}
use Rattle.adj_tree.specs.declared.marks.Head.{Head}
use Rattle.def_names.specs.Numbers.{Vars}
use Rattle.def_flow.specs.Carried.{IsCarrying}
use Rattle.adj_reach.specs.Edges.{flag}
use Rattle.adj_flow.specs.Told.{told_of}
use Rattle.adj_flow.specs.Scoped.{scope_by}
use Rattle.adj_flow.specs.Asked.{units_of, variables_of, problem_of}
use Rattle.adj_flow.specs.declared.units.Flow.{Flow}

-- the variables of each unit whose flags are set
abbrev pub carried_of : Flow → List Bool → ℕ → Vars
carried_of f flags = told_of flags (scope_by (variables_of f) (flag f.taking) (units_of f)) f.width

-- with some variables at points as those that are varied, the flags tell just what carries a tangent
pub record AreCarried (f : Flow) (h : Head) (flags : List Bool) : Type 0 where
  pub varied : ℕ → Vars
  pub carrying : IsCarrying (problem_of f h) varied (carried_of f flags)
