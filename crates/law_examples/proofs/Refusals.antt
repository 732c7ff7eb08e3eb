-- The first faults of texts are computed.
use Rattle.std.proofs.Common.{refl}
use Rattle.law_examples.specs.Refusals.{InitialLines, Characters, WrongDirectives, WrongSplits, Unknown, Malformed, Misplaced, Unended, TooLarge, LongNames, WrongExponents}
use Rattle.law_examples.proofs.Computing.{reading}

pub initial_lines : InitialLines
unfolding reading
initial_lines = (refl, refl, refl, refl, refl, refl, refl)

pub characters : Characters
unfolding reading
characters = (refl, refl, refl, refl, refl, refl, refl, refl, refl, refl, refl, refl)

pub wrong_directives : WrongDirectives
unfolding reading
wrong_directives = (refl, refl, refl, refl, refl, refl, refl, refl, refl, refl, refl, refl, refl, refl, refl, refl, refl, refl)

pub wrong_splits : WrongSplits
unfolding reading
wrong_splits = (refl, refl, refl, refl, refl, refl, refl, refl, refl, refl, refl, refl, refl, refl, refl, refl)

pub unknown : Unknown
unfolding reading
unknown = (refl, refl, refl, refl, refl, refl, refl, refl, refl, refl, refl, refl, refl, refl)

pub malformed : Malformed
unfolding reading
malformed = (refl, refl, refl, refl, refl, refl, refl, refl, refl, refl, refl, refl, refl, refl, refl, refl, refl, refl, refl, refl, refl, refl, refl, refl, refl, refl, refl, refl, refl, refl, refl, refl, refl, refl, refl, refl, refl, refl, refl, refl, refl, refl, refl, refl, refl, refl, refl, refl, refl, refl, refl, refl, refl, refl)

pub misplaced : Misplaced
unfolding reading
misplaced = (refl, refl, refl, refl, refl, refl, refl, refl, refl, refl, refl, refl, refl, refl, refl, refl, refl, refl, refl, refl, refl, refl, refl, refl, refl, refl)

pub unended : Unended
unfolding reading
unended = (refl, refl, refl, refl, refl, refl, refl, refl, refl, refl, refl, refl, refl, refl)

pub too_large : TooLarge
unfolding reading
too_large = (refl, refl, refl, refl, refl, refl, refl, refl, refl, refl, refl, refl, refl, refl, refl, refl, refl, refl, refl, refl, refl)

pub long_names : LongNames
unfolding reading
long_names = (refl, refl, refl, refl, refl, refl, refl)

pub wrong_exponents : WrongExponents
unfolding reading
wrong_exponents = (refl, refl, refl, refl, refl, refl, refl, refl, refl, refl, refl, refl, refl, refl, refl)
