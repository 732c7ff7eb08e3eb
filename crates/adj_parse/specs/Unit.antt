-- Unit: the unit that is being read, and the units before it.
use Rattle.std.specs.Prelude.{ℕ, Bool, true, false, not, ◌&&◌, ◌||◌, List, [], ◌∷◌, ◌++◌, map, Option, Some, None}
use Rattle.adj_tree.specs.Code.{Declaration, stop}
use Rattle.adj_tree.specs.Listed.{code_listed}
use Rattle.adj_tree.specs.Common.{Common, Shared}
use Rattle.def_text.specs.declared.stated.Kind.{Kind}
use Rattle.def_text.specs.Form.{Form, subroutine, implicit_none, integers, common, leaves, ends}
use Rattle.def_text.specs.Unit.{declaration_of, common_of}
use Rattle.adj_parse.specs.declared.phase.Phase.{Phase}
use Rattle.adj_parse.specs.declared.phase.Phase.TheVariants.{Heading, Declaring, Acting, Leaving}
use Rattle.adj_parse.specs.Blocks.{Block, Nest, no_blocks, acted}
use Rattle.adj_parse.specs.Order.{may_follow, suits, leaves_loop, is_heading}

-- a unit before its END: what it has without its executable statements, its phase, and its blocks
pub record Current : Type 0 where
  pub unit : Shared
  pub phase : Phase
  pub nest : Nest

-- the units before, and the one that is being read where there is one
pub record Units : Type 0 where
  pub done : List Shared
  pub current : Option Current

-- a unit of this line, name and dummies without statements
abbrev pub headed : ℕ → List ℕ → List (List ℕ) → Shared
headed n x dummies = record { unit = record { line = n; name = x; dummies = dummies; is_none = false; declarations = []; body = stop }; commons = [] }

-- behind SUBROUTINE
abbrev pub begun : ℕ → List ℕ → List (List ℕ) → Current
begun n x dummies = record { unit = headed n x dummies; phase = Heading; nest = no_blocks }

-- the unit at its END
abbrev pub finished : Current → Shared
finished c = record { unit = record c.unit.unit { body = code_listed c.nest.acts }; commons = c.unit.commons }

-- with IMPLICIT NONE, with more declarations, with one more COMMON statement
abbrev pub forbidding : Shared → Shared
forbidding s = record { unit = record s.unit { is_none = true }; commons = s.commons }

abbrev pub declaring : Shared → List Declaration → Shared
declaring s ds = record { unit = record s.unit { declarations = s.unit.declarations ++ ds }; commons = s.commons }

abbrev pub sharing : Shared → Common → Shared
sharing s c = record { unit = s.unit; commons = s.commons ++ c ∷ [] }

-- behind another statement of this line and label
abbrev pub continued : Current → ℕ → ℕ → Form → Current
continued c n l implicit_none = record { unit = forbidding c.unit; phase = Declaring; nest = c.nest }
continued c n l (integers is) = record { unit = declaring c.unit (map (declaration_of n) is); phase = Declaring; nest = c.nest }
continued c n l (common b is) = record { unit = sharing c.unit (common_of n b is); phase = Declaring; nest = c.nest }
continued c n l leaves = record { unit = c.unit; phase = Leaving; nest = c.nest }
continued c n l f = record { unit = c.unit; phase = Acting; nest = acted c.nest n l f }

-- the units behind a statement of this line and label, where it may stand there
abbrev pub followed : List Shared → Option Current → ℕ → ℕ → Form → Units
followed done None n l (subroutine x dummies) = record { done = done; current = Some (begun n x dummies) }
followed done None n l f = record { done = done; current = None }
followed done (Some c) n l ends = record { done = done ++ finished c ∷ []; current = None }
followed done (Some c) n l f = record { done = done; current = Some (continued c n l f) }

-- the open blocks
abbrev pub open_blocks : Option Current → List Block
open_blocks None = []
open_blocks (Some c) = c.nest.blocks

-- whether a statement of the class can't stand here, other than by closing a block round a loop with a label
abbrev pub is_misplaced : Kind → Option Current → Bool
is_misplaced kind None = not (is_heading kind)
is_misplaced kind (Some c) = not (may_follow kind c.phase && (suits kind c.nest.blocks || leaves_loop kind c.nest.blocks))
