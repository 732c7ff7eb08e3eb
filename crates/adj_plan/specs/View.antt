-- What flags say of statements.
use Rattle.std.specs.Prelude.{ℕ, List, [], map, Bool, slice_index_or}
use Rattle.std.specs.List.{list_any}
use Rattle.adj_tree.specs.Code.{Var, plain}
use Rattle.adj_tree.specs.declared.marks.Marks as flags
use Rattle.def_names.specs.VariableLists.{list_if}
use Rattle.adj_reach.specs.Edges.{flag}
use Rattle.adj_flow.specs.Asked.{variables_of}
use Rattle.adj_flow.specs.Nodes.{node_in}
use Rattle.adj_flow.specs.NodeView.{vars_of}
use Rattle.adj_flow.specs.Rows.{Row}
use Rattle.adj_flow.specs.Told.{flag_at}
use Rattle.adj_flow.specs.declared.units.Flow.{Flow}
use Rattle.adj_plan.specs.Lines.{unit_lines}
use Rattle.adj_plan.specs.declared.lines.Said.{Said}

-- whether one of these variables is saved by the i-th statement
abbrev pub is_saved_in : List Bool → ℕ → List Var → ℕ → Bool
is_saved_in flags w vs i = list_any (λ v. flag_at flags (node_in w vs (i, v))) vs

-- what the marks say of the i-th statement, which stands in a unit with these variables
abbrev pub said_by : flags.Marks → ℕ → List Var → ℕ → Said
said_by t w vs i = record { kept = flag t.kept.kept i; adjointed = flag t.activity.adjointed i; saves = is_saved_in t.saved.saved w vs i }

-- what they say of that of the unit of a number
abbrev pub said_in : Flow → flags.Marks → ℕ → ℕ → Said
said_in f t u = said_by t f.width (map plain (slice_index_or (variables_of f) u []))

-- the lines of a row, if its unit takes part
abbrev pub row_lines : flags.Marks → ℕ → List Bool → Row → List ℕ
row_lines t w taking r = list_if (flag taking r.part.number) (unit_lines (said_by t w (vars_of r)) r.part)
