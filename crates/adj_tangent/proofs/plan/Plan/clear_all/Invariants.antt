-- The tangents passed are cleared, and then those that are left.
use Rattle.std.proofs.Common.{◌≡◌, drop}
use Rattle.adj_tree.specs.Code.{Code}
use Rattle.adj_tree.specs.Listed.{steps_onto}
use Rattle.def_meaning.specs.Apart.{is_named}
use Rattle.def_meaning.specs.Append.{◌+++◌}
use Rattle.def_meaning.specs.Rename.{rename}
use Rattle.def_tangent.specs.Program.{cleared}
use Rattle.adj_tangent.specs.Plans.{naming_in}
use Rattle.adj_tangent.proofs.plan.Plan.clear_all.Given as goal

abbrev pub invariant-loop-x : goal.invariant-loop-x
invariant-loop-x l =
    (rest : Code) → steps_onto l.steps.items (rename (naming_in l.self) (cleared (is_named l.arrays) l.line (drop l.x-index l.names)) +++ rest) ≡ steps_onto l.fn.steps.items (rename (naming_in l.self) (cleared (is_named l.arrays) l.line l.names) +++ rest)
