-- The dummies passed are declared.
use Rattle.std.proofs.Common.{◌≡◌, ◌++◌, List, map, drop}
use Rattle.adj_tree.specs.Code.{Declaration}
use Rattle.adj_tree.specs.View.{declaration_of}
use Rattle.def_kernel.specs.Stepped.{step_declarations}
use Rattle.adj_norm.specs.Source.{Declares}
use Rattle.adj_norm.proofs.source.step_declarations.Given as goal

abbrev pub invariant-loop-x : goal.invariant-loop-x
invariant-loop-x l = record { passed : (ds : List Declaration) → Declares l.declared ds → map declaration_of l.made.items ++ step_declarations ds l.line (drop l.x-index l.dummies) ≡ step_declarations ds l.line l.dummies }
