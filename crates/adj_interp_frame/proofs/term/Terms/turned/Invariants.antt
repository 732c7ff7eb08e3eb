-- Turning what is left onto what was made turns the whole.
use Rattle.std.proofs.Common.{◌≡◌, ℕ, List}
use Rattle.adj_tree.specs.Code.{none}
use Rattle.adj_tree.specs.Listed.{terms_turned}
use Rattle.adj_interp_frame.specs.Prepared.{terms_in, AreTermsBelow}
use Rattle.adj_interp_frame.proofs.term.Terms.turned.Given as goal

abbrev pub invariant-loop-self : goal.invariant-loop-self
invariant-loop-self l = record {
  turned : (names : List (List ℕ)) → terms_turned (terms_in names l.self) (terms_in names l.made) ≡ terms_turned (terms_in names l.fn.self) none;
  below : (count : ℕ) → AreTermsBelow count l.fn.self → AreTermsBelow count l.self × AreTermsBelow count l.made;
}
