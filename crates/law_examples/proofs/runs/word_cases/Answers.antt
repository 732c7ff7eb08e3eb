use Rattle.law_examples.proofs.Words.{wrapped, quotients, trip_counts, products}
use Rattle.law_examples.proofs.runs.word_cases.Goals as goal

pub returns-clause-wrapped : goal.returns-clause-wrapped
returns-clause-wrapped c = wrapped

pub returns-clause-quotients : goal.returns-clause-quotients
returns-clause-quotients c = quotients

pub returns-clause-trip_counts : goal.returns-clause-trip_counts
returns-clause-trip_counts c = trip_counts

pub returns-clause-products : goal.returns-clause-products
returns-clause-products c = products
