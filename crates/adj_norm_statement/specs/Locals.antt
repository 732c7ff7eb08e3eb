-- The locals of a unit, by number.
use Rattle.std.specs.Prelude.{ℕ}
use Rattle.adj_tree.specs.Code.{Var}
use Rattle.def_kernel.specs.Kernel.{local_of}
use Rattle.adj_norm_statement.specs.Made.{outside}
use Rattle.adj_norm_statement.specs.declared.locals.Locals.{Locals}

-- the variable that is the local of each number
abbrev pub local_by : Locals → ℕ → Var
local_by l = local_of (outside l.taken l.names.items)
