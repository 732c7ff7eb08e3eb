-- The dummies so far have the first numbers, and no other name has one.
use Rattle.std.proofs.Common.{◌≡◌, ℕ, ◌<◌, [], length, get_or}
use Rattle.def_meaning.specs.Apart.{AreApart}
use Rattle.adj_interp_frame.proofs.preparation.first_names.Given as goal

abbrev pub invariant-loop-dummy : goal.invariant-loop-dummy
invariant-loop-dummy l = record {
  apart : AreApart l.names;
  count : length l.names ≡ l.dummy-index;
  first : (i : ℕ) → i < l.dummy-index → get_or l.names i [] ≡ get_or l.dummies i [];
}
