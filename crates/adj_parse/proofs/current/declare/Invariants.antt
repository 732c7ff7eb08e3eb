use Rattle.std.proofs.Common.{◌≡◌, ◌++◌, map}
use Rattle.adj_tree.specs.View.{declaration_of}
use Rattle.def_text.specs.Unit as unit
use Rattle.adj_parse_statement.specs.View.{item_of}
use Rattle.adj_parse.proofs.current.declare.Given as goal

abbrev pub invariant-loop-item : goal.invariant-loop-item
invariant-loop-item l = map declaration_of l.decls.items ≡ map declaration_of l.fn.decls.items ++ map (unit.declaration_of l.line) (map item_of l.yielded)
