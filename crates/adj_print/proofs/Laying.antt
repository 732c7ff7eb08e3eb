-- Laying: a statement that is laid out line by line.
use Rattle.std.proofs.Common.{◌≡◌, ℕ, zero, suc, ◌+◌, ◌<◌, ◌≤◌, true, false, eqb, List, [], ◌∷◌, ◌++◌, take, drop, length, refl, sym, ap, ◌∙◌, append_assoc, arith}
use Rattle.std.specs.Prelude.{codes}
use Rattle.std.proofs.lemmas.Bool.{ne_eqb, eq-eqb}
use Rattle.def_text.specs.Text.{laid}

-- the end of a statement
laid-nil : (k : ℕ) → laid k [] ≡ 10 ∷ []
unfolding laid
laid-nil k = refl

-- a character that begins the next line
laid-full : (k c : ℕ) (cs : List ℕ) → eqb k 66 ≡ true → laid k (c ∷ cs) ≡ codes "\n     +" ++ c ∷ laid 1 cs
unfolding laid
laid-full k c cs h = rw h refl

-- a character that goes on in its line
laid-more : (k c : ℕ) (cs : List ℕ) → eqb k 66 ≡ false → laid k (c ∷ cs) ≡ c ∷ laid (k + 1) cs
unfolding laid
laid-more k c cs h = rw h refl

-- characters for which there is room in the line are the last ones
laid-last : (n k : ℕ) (cs : List ℕ) → n + k ≡ 66 → length cs ≤ n → laid k cs ≡ cs ++ 10 ∷ []
laid-last n k [] room h = laid-nil k
laid-last zero k (c ∷ cs) room h = absurd (omega (arith, h))
laid-last (suc n) k (c ∷ cs) room h = laid-more k c cs (ne_eqb k 66 (λ e. omega (arith, e, room))) ∙ ap (λ xs. c ∷ xs) (laid-last n (k + 1) cs (omega (arith, room)) (omega (arith, h)))

-- of more characters the first fill the line, and the others are laid out behind it
laid-filled : (n k : ℕ) (cs : List ℕ) → n + k ≡ 66 → n < length cs → laid k cs ≡ take n cs ++ (codes "\n     +" ++ laid 0 (drop n cs))
laid-filled n k [] room h = absurd (omega (arith, h))
laid-filled zero k (c ∷ cs) room h = laid-full k c cs (eq-eqb k 66 (omega (arith, room))) ∙ ap (λ xs. codes "\n     +" ++ xs) (sym (laid-more 0 c cs refl))
laid-filled (suc n) k (c ∷ cs) room h = laid-more k c cs (ne_eqb k 66 (λ e. omega (arith, e, room))) ∙ ap (λ xs. c ∷ xs) (laid-filled n (k + 1) cs (omega (arith, room)) (omega (arith, h)))

-- what was laid out, the characters of the last line, and its end
pub last_line : (out cs : List ℕ) → length cs ≤ 66 → (out ++ cs) ++ 10 ∷ [] ≡ out ++ laid 0 cs
last_line out cs h = append_assoc out cs (10 ∷ []) ∙ ap (λ xs. out ++ xs) (sym (laid-last 66 0 cs refl h))

-- what was laid out, the characters of a full line, and the rest behind it
pub full_line : (out cs : List ℕ) → 66 < length cs → ((out ++ take 66 cs) ++ codes "\n     +") ++ laid 0 (drop 66 cs) ≡ out ++ laid 0 cs
full_line out cs h =
    append_assoc (out ++ take 66 cs) (codes "\n     +") (laid 0 (drop 66 cs)) ∙ append_assoc out (take 66 cs) (codes "\n     +" ++ laid 0 (drop 66 cs))
    ∙ ap (λ xs. out ++ xs) (sym (laid-filled 66 0 cs refl h))
