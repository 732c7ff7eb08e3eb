-- Rule: a test of each part of a program.
use Rattle.std.specs.Prelude.{ℕ, Bool, true, ◌&&◌, List}
use Rattle.std.specs.List.{list_all}
use Rattle.adj_tree.specs.Code.{Test, Mark, Act, assign, choose, loop, during, call, runtime, Code, stop, step, Extent, Declaration, Procedure}
use Rattle.def_text.specs.Statement.{Range}

-- of the name of a unit with its dummies, of a declared name with its extents, of an assignment or a CALL, of a condition, and of the range of a DO with its mark
pub record Rule : Type 0 where
  pub heading : List ℕ → List (List ℕ) → Bool
  pub declared : List ℕ → List Extent → Bool
  pub deed : Act → Bool
  pub test : Test → Bool
  pub range : Range → Mark → Bool

abbrev mutual
  -- whether each part of a statement passes
  pub act_keeps : Rule → Act → Bool
  act_keeps r (assign x s e) = r.deed (assign x s e)
  act_keeps r (choose c a b) = r.test c && (code_keeps r a && code_keeps r b)
  act_keeps r (loop x a b c body m) = r.range (record { counter = x; from = a; to = b; by = c }) m && code_keeps r body
  act_keeps r (during c body) = r.test c && code_keeps r body
  act_keeps r (call x es) = r.deed (call x es)
  act_keeps r (runtime c) = r.deed (runtime c)

  pub code_keeps : Rule → Code → Bool
  code_keeps r stop = true
  code_keeps r (step line a rest) = act_keeps r a && code_keeps r rest

abbrev pub declaration_keeps : Rule → Declaration → Bool
declaration_keeps r d = r.declared d.name d.extents

abbrev pub procedure_keeps : Rule → Procedure → Bool
procedure_keeps r p = r.heading p.name p.dummies && (list_all (declaration_keeps r) p.declarations && code_keeps r p.body)

-- of a program
abbrev pub keeps : Rule → List Procedure → Bool
keeps r ps = list_all (procedure_keeps r) ps
