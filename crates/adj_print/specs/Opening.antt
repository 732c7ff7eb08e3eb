-- The lines of a unit before its statements.
use Rattle.std.specs.Prelude.{codes, ℕ, List, ◌++◌}
use Rattle.std.specs.List.{flat_map}
use Rattle.adj_tree.specs.Code.{Procedure}
use Rattle.def_text.specs.Text.{statement, bracketed, declaration_text, implicit_text}

-- the heading, IMPLICIT NONE and the declarations
abbrev pub opening_text : Procedure → List ℕ
opening_text p = statement (codes "SUBROUTINE " ++ p.name ++ bracketed p.dummies) ++ implicit_text p.is_none ++ flat_map declaration_text p.declarations
