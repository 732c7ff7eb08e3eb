-- What statements read and write is computed.
use Rattle.std.proofs.Common.{refl}
use Rattle.law_examples.specs.Reading.{ReadByTerms, ReadByStatements, ReadByCalls, ReadByRuntime, Written, HandedBack, Within, Renamed, Padded}

pub read_by_terms : ReadByTerms
read_by_terms = (refl, refl, refl, refl, refl, refl, refl, refl, refl, refl, refl, refl, refl, refl, refl, refl, refl, refl, refl)

pub read_by_statements : ReadByStatements
read_by_statements = (refl, refl, refl, refl, refl, refl, refl, refl, refl, refl, refl, refl, refl, refl, refl, refl, refl, refl, refl, refl, refl, refl, refl, refl, refl, refl)

pub read_by_calls : ReadByCalls
read_by_calls = (refl, refl, refl, refl, refl, refl, refl, refl, refl, refl, refl, refl, refl, refl, refl, refl, refl, refl, refl, refl)

pub read_by_runtime : ReadByRuntime
read_by_runtime = (refl, refl, refl, refl, refl, refl, refl, refl, refl, refl, refl, refl, refl, refl, refl, refl, refl, refl, refl, refl, refl, refl, refl)

pub written : Written
written = (refl, refl, refl, refl, refl, refl, refl, refl, refl, refl, refl, refl, refl, refl, refl, refl, refl, refl, refl, refl, refl, refl, refl, refl, refl, refl, refl, refl, refl, refl, refl, refl, refl, refl, refl, refl, refl, refl, refl, refl, refl, refl, refl, refl, refl)

pub handed_back : HandedBack
handed_back = (refl, refl, refl, refl, refl, refl, refl, refl, refl, refl, refl, refl, refl)

pub within : Within
within = (tt, (((λ h. h), ((λ h. refl), tt)), tt))

pub renamed : Renamed
renamed = refl

pub padded : Padded
padded = (refl, refl, refl, refl, refl, refl, refl)
