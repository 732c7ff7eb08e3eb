-- Units with COMMON statements, with no pointers in them.
use Rattle.std.specs.Prelude.{ℕ, List, []}
use Rattle.adj_tree.specs.Code.{Declaration, Procedure}

-- a COMMON statement: its items, with the extents that it gives them
pub record Common : Type 0 where
  pub line : ℕ
  pub block : List ℕ
  pub items : List Declaration

-- a unit as it is read, and its COMMON statements in order
pub record Shared : Type 0 where
  pub unit : Procedure
  pub commons : List Common

-- a unit that has none
abbrev pub without_commons : Procedure → Shared
without_commons u = record { unit = u; commons = [] }
