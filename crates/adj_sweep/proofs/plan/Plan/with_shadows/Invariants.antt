-- The actuals passed come before those that are left.
use Rattle.std.proofs.Common.{◌≡◌, map, drop}
use Rattle.adj_tree.specs.Listed.{terms_onto}
use Rattle.adj_tree.specs.View.{term_of}
use Rattle.def_meaning.specs.Rename.{rename_terms}
use Rattle.adj_sweep.specs.Actuals.{all_with_shadows}
use Rattle.adj_sweep.specs.Plans.{naming_in}
use Rattle.adj_sweep.proofs.plan.Plan.with_shadows.Given as goal

abbrev pub invariant-loop-actual : goal.invariant-loop-actual
invariant-loop-actual l = terms_onto (map term_of l.made.items) (rename_terms (naming_in l.self) (all_with_shadows (drop l.actual-index l.actuals))) ≡ rename_terms (naming_in l.self) (all_with_shadows l.actuals)
