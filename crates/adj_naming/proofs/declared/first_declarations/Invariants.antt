-- The declarations kept and those to come give each variable its declaration.
use Rattle.std.proofs.Common.{◌≡◌, ◌++◌, ℕ, List, map, drop}
use Rattle.adj_tree.specs.View.{declaration_of}
use Rattle.def_sweep.specs.Declared.{declaration}
use Rattle.adj_naming.proofs.declared.first_declarations.Given as goal

abbrev pub invariant-loop-decl : goal.invariant-loop-decl
invariant-loop-decl l = record {
  names : l.names ≡ map (λ d. d.name) l.firsts.items;
  same : (line : ℕ) (x : List ℕ) → declaration line (map declaration_of l.firsts.items ++ map declaration_of (drop l.decl-index l.decl-items)) x ≡ declaration line (map declaration_of l.unit.decls) x;
}
