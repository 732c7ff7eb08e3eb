use Rattle.std.proofs.Common.{◌≡◌, ◌++◌, ℕ, List, map, drop}
use Rattle.adj_tree.specs.Code.{plain}
use Rattle.adj_tree.specs.View.{declaration_of}
use Rattle.def_meaning.specs.Units.{declared}
use Rattle.adj_data.proofs.declared.first_declarations.Given as goal

abbrev pub invariant-loop-decl : goal.invariant-loop-decl
invariant-loop-decl l = record {
  names : l.names ≡ map (λ d. d.name) l.firsts.items;
  same : (x : List ℕ) → declared (map declaration_of l.firsts.items ++ map declaration_of (drop l.decl-index l.decl-items)) (plain x) ≡ declared (map declaration_of l.unit.decls) (plain x);
}
