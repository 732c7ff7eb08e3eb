-- Each law is a lemma, over words and over words with tangents.
use Rattle.std.specs.Prelude.{ℤ}
use Rattle.def_meaning.proofs.Appends.{run_append}
use Rattle.law_meaning.proofs.Costs.{run_later, leads_where_done, ends_alike, one_end, more_before}
use Rattle.law_meaning.proofs.Depths.{deep_enough}
use Rattle.law_meaning.proofs.laws.run_laws.Goals as goal

pub returns-clause-part_by_part : goal.returns-clause-part_by_part
returns-clause-part_by_part c = (run_append {C = ℤ}, run_append {C = ℤ × ℤ})

pub returns-clause-done_with_more : goal.returns-clause-done_with_more
returns-clause-done_with_more c = (run_later {C = ℤ}, run_later {C = ℤ × ℤ})

pub returns-clause-leads : goal.returns-clause-leads
returns-clause-leads c = (leads_where_done {C = ℤ}, leads_where_done {C = ℤ × ℤ})

pub returns-clause-ends_alike : goal.returns-clause-ends_alike
returns-clause-ends_alike c = (ends_alike {C = ℤ}, ends_alike {C = ℤ × ℤ})

pub returns-clause-one_end : goal.returns-clause-one_end
returns-clause-one_end c = (one_end {C = ℤ}, one_end {C = ℤ × ℤ})

pub returns-clause-more_before : goal.returns-clause-more_before
returns-clause-more_before c = (more_before {C = ℤ}, more_before {C = ℤ × ℤ})

pub returns-clause-deep_enough : goal.returns-clause-deep_enough
returns-clause-deep_enough c = (deep_enough, deep_enough)
