-- How a list argument is cut at its commas.
use Rattle.std.proofs.Common.{◌≡◌, ◌≢◌, ℕ, zero, suc, ◌+◌, ◌<◌, false, eqb, List, [], ◌∷◌, length, get_or, take, drop, refl, arith, add-one}
use Rattle.std.proofs.lemmas.Bool.{ne_eqb}
use Rattle.adj_tool.specs.Arguments.{pieces}

cut_at : (n : ℕ) (w : List ℕ) → n < length w → get_or w n 0 ≡ 44 → ((k : ℕ) → k < n → get_or w k 0 ≢ 44) → pieces w ≡ take n w ∷ pieces (drop (suc n) w)
unfolding pieces
cut_at n [] within h before = absurd (omega arith)
cut_at zero (c ∷ cs) within h before = rw h refl
cut_at (suc n) (c ∷ cs) within h before =
    let other : eqb c 44 ≡ false = ne_eqb c 44 (before 0 (omega arith)) in
    rw (other, cut_at n cs (omega arith) h (λ k lt. before (suc k) (omega arith))) refl

-- with no comma there is one piece
pub uncut : (w : List ℕ) → ((k : ℕ) → k < length w → get_or w k 0 ≢ 44) → pieces w ≡ w ∷ []
unfolding pieces
uncut [] other = refl
uncut (c ∷ cs) other =
    let e : eqb c 44 ≡ false = ne_eqb c 44 (other 0 (omega arith)) in
    rw (e, uncut cs (λ k lt. other (suc k) (omega arith))) refl

-- what stands before the first comma, and the pieces behind it
pub cut_first : (w : List ℕ) (n : ℕ) → n < length w → get_or w n 0 ≡ 44 → ((k : ℕ) → k < n → get_or w k 0 ≢ 44) → pieces w ≡ take n w ∷ pieces (drop (n + 1) w)
cut_first w n within h before = rw add-one (cut_at n w within h before)
