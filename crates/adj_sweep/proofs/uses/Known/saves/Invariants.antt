-- One of the actuals is saved where one of those passed is, or one of those that are left.
use Rattle.std.proofs.Common.{◌≡◌, drop}
use Rattle.std.specs.Prelude.{◌||◌}
use Rattle.adj_tree.specs.Code.{plain}
use Rattle.adj_tree.specs.View.{terms_of}
use Rattle.def_sweep.specs.Plan.{names_of}
use Rattle.adj_sweep_assignment.specs.View.{marks_of}
use Rattle.adj_sweep.specs.Uses.{saves_some}
use Rattle.adj_sweep.proofs.uses.Known.saves.Given as goal

abbrev pub invariant-loop-current : goal.invariant-loop-current
invariant-loop-current l =
    (l.search.found || saves_some (λ x. (marks_of l.self.marks.now).saved l.number (plain x)) (drop l.search.passed l.dummies) (names_of (terms_of l.current)))
    ≡ saves_some (λ x. (marks_of l.self.marks.now).saved l.number (plain x)) l.dummies (names_of (terms_of l.actuals))
