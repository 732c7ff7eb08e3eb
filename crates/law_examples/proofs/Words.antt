-- The words are computed.
use Rattle.std.proofs.Common.{refl}
use Rattle.std.specs.Int.{int_wrap}
use Rattle.law_examples.specs.Words.{Wrapped, Quotients, TripCounts, Products}

pub wrapped : Wrapped
unfolding int_wrap
wrapped = (refl, refl, refl, refl, refl, refl, refl, refl, refl, refl, refl, refl, refl, refl)

pub quotients : Quotients
unfolding int_wrap
quotients = (refl, refl, refl, refl, refl, refl, refl, refl, refl)

pub trip_counts : TripCounts
unfolding int_wrap
trip_counts = (refl, refl, refl, refl, refl, refl, refl, refl, refl, refl)

pub products : Products
unfolding int_wrap
products = (refl, refl, refl, refl, refl, refl, refl, refl, refl, refl, refl, refl, refl, refl)
