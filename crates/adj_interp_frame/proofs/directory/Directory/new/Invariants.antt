-- The units so far have the first numbers, and no other name has one.
use Rattle.std.proofs.Common.{◌≡◌, ℕ, ◌<◌, [], length, get_or}
use Rattle.def_meaning.specs.Apart.{AreApart}
use Rattle.adj_interp_frame.specs.Listed.{names_of}
use Rattle.adj_interp_frame.proofs.directory.Directory.new.Given as goal

abbrev pub invariant-loop-unit : goal.invariant-loop-unit
invariant-loop-unit l = record {
  apart : AreApart l.numbers;
  count : length l.numbers ≡ l.unit-index;
  first : (i : ℕ) → i < l.unit-index → get_or l.numbers i [] ≡ get_or (names_of l.units) i [];
}
