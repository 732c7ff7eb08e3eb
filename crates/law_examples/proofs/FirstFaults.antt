-- Which of several faults is told is computed.
use Rattle.std.proofs.Common.{refl}
use Rattle.def_text.specs.Text.{laid}
use Rattle.law_examples.specs.FirstFaults.{Passes, OfLines, OfTexts, OfStatements}
use Rattle.law_examples.proofs.Computing.{reading}

pub passes : Passes
unfolding reading
passes = (refl, refl, refl, refl, refl, refl)

pub of_lines : OfLines
unfolding reading
of_lines = (refl, refl, refl)

pub of_texts : OfTexts
unfolding reading
of_texts = (refl, refl, refl)

pub of_statements : OfStatements
unfolding reading laid
of_statements = (refl, refl, refl, refl, refl, refl, refl, refl, refl, refl, refl, refl, refl, refl)
