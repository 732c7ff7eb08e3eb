-- The actuals passed come before those that are left.
use Rattle.std.proofs.Common.{◌≡◌, map, drop}
use Rattle.adj_tree.specs.Listed.{terms_onto}
use Rattle.adj_tree.specs.View.{term_of}
use Rattle.def_meaning.specs.Rename.{rename_terms}
use Rattle.adj_tangent.specs.Plans.{naming_in, all_with_tangents}
use Rattle.adj_tangent.proofs.plan.Plan.with_tangents.Given as goal

abbrev pub invariant-loop-k : goal.invariant-loop-k
invariant-loop-k l = terms_onto (map term_of l.made.items) (rename_terms (naming_in l.self) (all_with_tangents (drop l.k l.carried) (drop l.k l.given))) ≡ rename_terms (naming_in l.self) (all_with_tangents l.carried l.given)
