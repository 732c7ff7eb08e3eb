-- The variables passed have their names, which are taken.
use Rattle.std.proofs.Common.{◌≡◌, ◌++◌, map, length, drop, List}
use Rattle.adj_tree.specs.Code.{Var, shadow}
use Rattle.def_sweep.specs.Naming.{named_for}
use Rattle.adj_naming.specs.Texts.{derived_of}
use Rattle.adj_naming.specs.Table.{paired}
use Rattle.adj_naming.proofs.naming.shadow_names.Given as goal

abbrev pub invariant-loop-x : goal.invariant-loop-x
invariant-loop-x l = record {
  count : length l.made.items ≡ l.x-index;
  names : (rest : List Var) → paired (map shadow l.shadowed) l.made.items ++ named_for (derived_of l.derived) l.taken (drop l.x-index (map shadow l.shadowed) ++ rest) ≡ named_for (derived_of l.derived) l.fn.taken (map shadow l.shadowed ++ rest);
}
