-- The helpers passed have their names, which are taken.
use Rattle.std.proofs.Common.{◌≡◌, ◌++◌, map, length, drop, List}
use Rattle.adj_tree.specs.Code.{Var}
use Rattle.def_sweep.specs.Naming.{named_for}
use Rattle.adj_naming.specs.Roles.{variable_of}
use Rattle.adj_naming.specs.Texts.{derived_of}
use Rattle.adj_naming.specs.Table.{paired}
use Rattle.adj_naming.proofs.naming.helper_names.Given as goal

abbrev pub invariant-loop-helper : goal.invariant-loop-helper
invariant-loop-helper l = record {
  count : length l.made.items ≡ l.helper-index;
  names : (rest : List Var) → paired (map variable_of l.helpers) l.made.items ++ named_for (derived_of l.derived) l.taken (drop l.helper-index (map variable_of l.helpers) ++ rest) ≡ named_for (derived_of l.derived) l.fn.taken (map variable_of l.helpers ++ rest);
}
