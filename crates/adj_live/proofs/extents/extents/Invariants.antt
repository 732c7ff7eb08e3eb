-- The names of the declarations passed, and those of the others.
use Rattle.std.proofs.Common.{◌≡◌, ℕ, List, map, drop}
use Rattle.std.specs.Prelude.{is_some, ◌||◌}
use Rattle.adj_tree.specs.View.{declaration_of}
use Rattle.def_meaning.specs.Read.{is_extent}
use Rattle.adj_symbols_writes.specs.Table.{value_of}
use Rattle.adj_live.proofs.extents.extents.Given as goal

abbrev pub invariant-loop-decl : goal.invariant-loop-decl
invariant-loop-decl l = (x : List ℕ) → (is_some (value_of x l.names) || is_extent x (map declaration_of (drop l.decl-index l.decls))) ≡ is_extent x (map declaration_of l.decls)
