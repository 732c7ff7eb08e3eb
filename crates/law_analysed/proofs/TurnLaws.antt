-- The laws of the step call of a marked loop that is reversed by a schedule.
use Rattle.std.specs.Prelude.{◌≡◌, ℕ, suc, List, true, false}
use Rattle.adj_tree.specs.Code.{plain, name_eq}
use Rattle.def_names.specs.Numbering.{point_before, point_after}
use Rattle.def_sweep.specs.Facts.{In, joined, Facts}
use Rattle.def_sweep.specs.Plan.{IsActual}
use Rattle.law_sweep.specs.Laws.{point_inside, PassingLaws}
use Rattle.def_sweep.specs.Callees.{CalleeFacts}

-- the laws of the step call of the i-th statement, a marked loop with variable x
pub record TurnLaws (w : Facts) (i : ℕ) (x : List ℕ) (g : CalleeFacts) (given : List (List ℕ)) : Type 0 where
  pub needs_members : (d y : List ℕ) → IsActual g.callee.dummies given d y → In (plain d) (joined g.callee.members g.read) → name_eq y x ≡ false → In (plain y) (w.needed (point_before i))
  pub holds_reads : (d y : List ℕ) → IsActual g.callee.dummies given d y → In (plain d) (joined g.callee.members g.read) → g.callee.written (plain d) ≡ false → name_eq y x ≡ false → In (plain y) (w.held (point_inside i))
  pub saves : (d y : List ℕ) → IsActual g.callee.dummies given d y → In (plain d) g.callee.written → In (plain y) (w.held (point_before i)) → In (plain y) (w.marks.saved i)
  pub keeps : (d y : List ℕ) → IsActual g.callee.dummies given d y → In (plain d) g.callee.written → In (plain y) (w.needed (point_after i)) → w.marks.kept (suc i) ≡ true
  pub unsplit : w.marks.split (suc i) ≡ false
  pub call : PassingLaws w (suc i) g given
