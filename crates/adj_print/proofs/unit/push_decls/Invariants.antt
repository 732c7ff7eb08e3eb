-- What was added and what is left are the lines of the declarations.
use Rattle.std.proofs.Common.{◌≡◌, ◌++◌, drop, map}
use Rattle.std.specs.List.{flat_map}
use Rattle.adj_tree.specs.View.{declaration_of}
use Rattle.def_text.specs.Text.{declaration_text}
use Rattle.adj_print.proofs.unit.push_decls.Given as goal

abbrev pub invariant-loop-decl : goal.invariant-loop-decl
invariant-loop-decl l = l.out.items ++ flat_map declaration_text (map declaration_of (drop l.decl-index l.decls)) ≡ l.fn.out.items ++ flat_map declaration_text (map declaration_of l.decls)
