-- No line number stands in the characters of a statement or of a unit.
use Rattle.law_text.proofs.TextUnlined.{one_text}
use Rattle.law_text.proofs.texts.texts_name_no_lines.Goals as goal

pub returns : goal.returns
returns c = record { one = one_text }
