-- Turning what is left onto what was made turns the whole.
use Rattle.std.proofs.Common.{◌≡◌, ℕ, List}
use Rattle.adj_tree.specs.Code.{stop, Procedure}
use Rattle.adj_tree.specs.Listed.{code_turned}
use Rattle.adj_interp_frame.specs.Instructed.{steps_in, AreStepsBelow}
use Rattle.adj_interp_frame.specs.Linked.{AreLinked}
use Rattle.adj_interp_frame.proofs.step.Steps.turned.Given as goal

abbrev pub invariant-loop-self : goal.invariant-loop-self
invariant-loop-self l = record {
  turned : (names : List (List ℕ)) → code_turned (steps_in names l.self) (steps_in names l.made) ≡ code_turned (steps_in names l.fn.self) stop;
  linked : (units : List Procedure) → AreLinked units l.fn.self → AreLinked units l.self × AreLinked units l.made;
  below : (count : ℕ) → AreStepsBelow count l.fn.self → AreStepsBelow count l.self × AreStepsBelow count l.made;
}
