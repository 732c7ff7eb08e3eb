-- How a text is cut into lines.
use Rattle.std.proofs.Common.{◌≡◌, ◌≢◌, ℕ, zero, suc, ◌+◌, ◌<◌, false, eqb, List, [], ◌∷◌, length, get_or, take, drop, refl, arith, add-one}
use Rattle.std.proofs.lemmas.Bool.{ne_eqb}
use Rattle.def_text.specs.Line.{cut_lines}

cut_at : (n : ℕ) (bs : List ℕ) → n < length bs → get_or bs n 0 ≡ 10 → ((k : ℕ) → k < n → get_or bs k 0 ≢ 10) → cut_lines bs ≡ take n bs ∷ cut_lines (drop (suc n) bs)
unfolding cut_lines
cut_at n [] within h before = absurd (omega arith)
cut_at zero (b ∷ bs) within h before = rw h refl
cut_at (suc n) (b ∷ bs) within h before =
    let other : eqb b 10 ≡ false = ne_eqb b 10 (before 0 (omega arith)) in
    rw (other, cut_at n bs (omega arith) h (λ k lt. before (suc k) (omega arith))) refl

cut_none : (b : ℕ) (bs : List ℕ) → ((k : ℕ) → k < length (b ∷ bs) → get_or (b ∷ bs) k 0 ≢ 10) → cut_lines (b ∷ bs) ≡ (b ∷ bs) ∷ []
unfolding cut_lines
cut_none b [] other = let e : eqb b 10 ≡ false = ne_eqb b 10 (other 0 (omega arith)) in rw e refl
cut_none b (c ∷ bs) other =
    let e : eqb b 10 ≡ false = ne_eqb b 10 (other 0 (omega arith)) in
    rw (e, cut_none c bs (λ k lt. other (suc k) (omega arith))) refl

-- the first line stands before the first line feed, and the others behind it
pub cut_first : (bs : List ℕ) (n : ℕ) → n < length bs → get_or bs n 0 ≡ 10 → ((k : ℕ) → k < n → get_or bs k 0 ≢ 10) → cut_lines bs ≡ take n bs ∷ cut_lines (drop (n + 1) bs)
cut_first bs n within h before = rw add-one (cut_at n bs within h before)

-- without a line feed all is one line
pub cut_last : (bs : List ℕ) → 0 < length bs → ((k : ℕ) → k < length bs → get_or bs k 0 ≢ 10) → cut_lines bs ≡ bs ∷ []
cut_last [] some other = absurd (omega arith)
cut_last (b ∷ bs) some other = cut_none b bs other

-- no text, no line
pub cut_lines-nil : cut_lines [] ≡ []
unfolding cut_lines
cut_lines-nil = refl
