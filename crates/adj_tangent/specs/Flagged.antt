-- What carries a tangent, by flags.
use Rattle.std.specs.Prelude.{ℕ}
use Rattle.def_names.specs.Numbers.{Vars}
use Rattle.adj_flow.specs.Told.{told_of}
use Rattle.adj_weave_units.specs.Flowing.{scope_in}
use Rattle.adj_tangent.specs.declared.carried.Carried.{Carried}

-- the variables of each unit that carry a tangent, by the numbers of units
abbrev pub carried_told : Carried → ℕ → Vars
carried_told c u = told_of c.flags.now (scope_in c.flow.now) c.flow.now.width u
