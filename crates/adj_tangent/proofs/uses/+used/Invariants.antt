-- What the statements passed use and what those that are left use is what the list uses.
use Rattle.std.proofs.Common.{◌≡◌, ◌≤◌, max}
use Rattle.adj_tree.specs.declared.stmt.Stmts.{size-Stmts}
use Rattle.adj_tree.specs.View.{code_of}
use Rattle.def_tangent.specs.Program.{parts_used, temps_used}
use Rattle.adj_tangent.specs.Plans.{active_by}
use Rattle.adj_tangent.proofs.uses.+used.Given as goal

abbrev pub invariant-used_in-loop-current : goal.invariant-used_in-loop-current
invariant-used_in-loop-current l = record {
  no_deeper : size-Stmts l.current ≤ size-Stmts l.initial.current;
  parts : max l.used.parts (parts_used (active_by l.marking) (code_of l.current)) ≡ parts_used (active_by l.marking) (code_of l.list);
  temps : max l.used.temps (temps_used (active_by l.marking) (code_of l.current)) ≡ temps_used (active_by l.marking) (code_of l.list);
}
