-- The names of the declarations left are still to be added.
use Rattle.std.proofs.Common.{◌≡◌, map, drop}
use Rattle.adj_tree.specs.View.{declaration_of}
use Rattle.def_kernel.specs.Kernel.{declared_names}
use Rattle.adj_sets.specs.Sets.{all_added}
use Rattle.adj_norm.proofs.names.add_declared.Given as goal

abbrev pub invariant-loop-decl : goal.invariant-loop-decl
invariant-loop-decl l = all_added l.names (declared_names (map declaration_of (drop l.decl-index l.decls))) ≡ all_added l.fn.names (declared_names (map declaration_of l.decls))
