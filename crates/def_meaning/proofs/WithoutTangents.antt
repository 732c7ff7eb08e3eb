-- Words are duals without their tangents.
use Rattle.std.proofs.Common.{refl}
use Rattle.std.specs.Prelude.{ℤ}
use Rattle.def_meaning.specs.Numbers.{words, duals}
use Rattle.def_meaning.specs.Seen.{Projects}

-- words do as words with tangents do, without the tangents
pub without_tangents : Projects {C = ℤ × ℤ} (λ a. a.0) duals words
without_tangents = record { of_word = λ z. refl; shown = λ a. refl; negation = λ a. refl; sum = λ a b. refl; difference = λ a b. refl; product = λ a b. refl; raised_to = λ a k. refl }
