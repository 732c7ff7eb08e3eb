-- The canonical texts are computed.
use Rattle.std.proofs.Common.{◌≡◌, ◌<◌, ◌≤◌, true, false, refl, arith}
use Rattle.std.specs.Prelude.{◌^◌, pos, codes}
use Rattle.std.specs.Fmt.{digits}
use Rattle.adj_tree.specs.Code.{plain, pow, with_count}
use Rattle.def_text.specs.Text.{laid}
use Rattle.def_text.specs.Written.{IsIndexed, IsLiteral, IsWrittenTerm, IsWrittenMark}
use Rattle.law_examples.specs.Printed.{x, Terms, Tests, Programs, Literals, WrittenBounds, WrittenTerms, CutLines}

pub terms : Terms
unfolding laid digits
terms = (refl, refl, refl, refl, refl, refl, refl, refl, refl, refl, refl, refl, refl, refl, refl, refl, refl, refl, refl, refl, refl, refl, refl, refl, refl, refl, refl, refl, refl, refl, refl, refl, refl, refl, refl, refl)

pub tests : Tests
unfolding laid digits
tests = (refl, refl, refl, refl, refl, refl, refl, refl, refl, refl, refl, refl, refl, refl, refl, refl, refl, refl, refl)

pub programs : Programs
unfolding laid digits
programs = (refl, refl)

pub literals : Literals
unfolding laid digits
literals = (refl, refl, refl, refl, refl, refl, refl, refl, refl, refl, refl, refl, refl, refl, refl, refl, refl, refl, refl, refl, refl, refl, refl, refl, refl)

too_large : IsLiteral (pos 9223372036854775808) → ⊥
too_large h = let k : 9223372036854775808 < 2 ^ 63 = h in absurd (omega (arith, k))

too_many : IsWrittenMark (with_count 65) → ⊥
too_many h = let k : 65 ≤ 64 = h.1 in absurd (omega (arith, k))

too_few : IsWrittenMark (with_count 0) → ⊥
too_few h = let k : 0 < 0 = h.0 in absurd (omega (arith, k))

pub written_bounds : WrittenBounds
written_bounds = (omega arith, too_large, (λ h. h), (omega arith, omega arith), too_many, (omega arith, omega arith), too_few)

not_indexed : IsIndexed (plain (codes "MAX")) → ⊥
not_indexed h = let k : true ≡ false = h.1 in absurd cc

too_high : IsWrittenTerm (pow x 64) → ⊥
too_high h = let k : 64 ≤ 63 = h.1 in absurd (omega (arith, k))

pub written_terms : WrittenTerms
written_terms = ((refl, refl), ((refl, refl), refl), not_indexed, tt, tt, (λ h. h), (λ h. h), ((refl, refl), omega arith), too_high)

pub cut_lines : CutLines
unfolding laid
cut_lines = refl
