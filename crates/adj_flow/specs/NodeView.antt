-- What clauses see of variables at points.
use Rattle.std.specs.Prelude.{ℕ, List, map, Bool, Option, Some, None, slice_get}
use Rattle.adj_tree.specs.Code.{Var, plain}
use Rattle.def_names.specs.Numbers.{Vars}
use Rattle.adj_flow.specs.Rows.{Row, row_of}
use Rattle.adj_flow.specs.Nodes.{node_in}
use Rattle.adj_flow.specs.Told.{flag_at}
use Rattle.adj_flow.specs.declared.end.End.{End}

-- the variables of a row
abbrev pub vars_of : Row → List Var
vars_of r = map plain r.variables

-- the number of a variable at a point of a unit
abbrev pub end_node : ℕ → End → Option ℕ
end_node w e = node_in w (vars_of (row_of e.part.now)) (e.point, plain e.name.now)

-- the unit of a number, where there is one
abbrev pub found_at : List Row → Option ℕ → Option Row
found_at rs None = None
found_at rs (Some n) = slice_get rs n

-- the set of a unit at a point, by flags of nodes
abbrev pub told_at : List Bool → ℕ → Row → ℕ → Vars
told_at flags w r p v = flag_at flags (node_in w (vars_of r) (p, v))
