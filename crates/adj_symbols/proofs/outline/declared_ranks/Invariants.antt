-- The declarations passed, and those that are left.
use Rattle.std.proofs.Common.{◌≡◌, map, drop}
use Rattle.std.specs.Option.{option_or}
use Rattle.adj_tree.specs.View.{declaration_of}
use Rattle.def_names.specs.Variables.{Name}
use Rattle.adj_symbols_writes.specs.Table.{value_of}
use Rattle.adj_symbols.specs.Outline.{declared_rank}
use Rattle.adj_symbols.proofs.outline.declared_ranks.Given as goal

abbrev pub invariant-loop-decl : goal.invariant-loop-decl
invariant-loop-decl l = (x : Name) → option_or (value_of x l.ranks.value) (declared_rank (map declaration_of (drop l.decl-index l.decls)) x) ≡ declared_rank (map declaration_of l.decls) x
