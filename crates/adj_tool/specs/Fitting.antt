-- Fitting: kernels that are not too large to number their points and nodes.
use Rattle.std.specs.Prelude.{ℕ, nat_lt, Bool, not, ◌&&◌, List, length, map}
use Rattle.adj_tree.specs.Code.{Procedure}
use Rattle.def_names.specs.Variables.{variables}
use Rattle.def_names.specs.StatementsIn.{statements_in}
use Rattle.adj_symbols.specs.Numbers.{widest}

-- the most units, statements and variables of a unit that a kernel may have
abbrev pub most_numbered : ℕ
most_numbered = 1073741823

abbrev pub is_numbered : ℕ → Bool
is_numbered n = not (nat_lt most_numbered n)

-- whether a kernel has no more units, statements at any depth and variables of a unit
abbrev pub kernel_fits : List Procedure → Bool
kernel_fits ps = is_numbered (length ps) && (is_numbered (statements_in 0 ps) && is_numbered (widest (map variables ps)))
