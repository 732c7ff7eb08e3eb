-- Numbers in six places.
use Rattle.std.proofs.Common.{◌≡◌, ℕ, zero, suc, ◌+◌, ◌<◌, ◌≤◌, List, [], ◌∷◌, ◌++◌, length, take, cond, slice_set, refl, sym, ap, ap₂, ◌∙◌, append_assoc, length-append, arith}
use Rattle.std.specs.Prelude.{Some, None}
use Rattle.std.proofs.lemmas.List.{append-nil, take_more_set, length-take-le}
use Rattle.std.proofs.lemmas.Bool.{le-leb, lt-leb}
use Rattle.adj_jacobian_few.specs.declared.few.Kept.TheVariants.{Listed, Many}
use Rattle.adj_jacobian_few.specs.Merged.{merged, least, behind}
use Rattle.adj_jacobian_few.specs.Few.{padded, sized}
use Rattle.adj_jacobian_few.proofs.Merging.{next_merged, none_merged}

pub padded_length : (n : ℕ) (zs : List ℕ) → length (padded n zs) ≡ n
padded_length zero zs = refl
padded_length (suc n) [] = ap suc (padded_length n [])
padded_length (suc n) (z ∷ zs) = ap suc (padded_length n zs)

pub take_padded : (n : ℕ) (zs : List ℕ) → length zs ≤ n → take (length zs) (padded n zs) ≡ zs
take_padded zero [] h = refl
take_padded zero (z ∷ zs) h = absurd (omega (arith, h))
take_padded (suc n) [] h = refl
take_padded (suc n) (z ∷ zs) h = ap (λ ws. z ∷ ws) (take_padded n zs (omega (arith, h)))

-- one number more
pub set_padded : (n : ℕ) (zs : List ℕ) (z : ℕ) → length zs < n → slice_set (padded n zs) (length zs) z ≡ padded n (zs ++ z ∷ [])
set_padded zero zs z h = absurd (omega (arith, h))
set_padded (suc n) [] z h = refl
set_padded (suc n) (y ∷ ys) z h = ap (λ ws. y ∷ ws) (set_padded n ys z (omega (arith, h)))

-- numbers that are few
pub few_sized : (zs : List ℕ) → length zs ≤ 6 → sized zs ≡ Listed (length zs) (padded 6 zs)
few_sized zs h = ap (λ c. cond c (Listed (length zs) (padded 6 zs)) Many) (le-leb (length zs) 6 h)

pub many_sized : (zs : List ℕ) → 6 < length zs → sized zs ≡ Many
many_sized zs h = ap (λ c. cond c (Listed (length zs) (padded 6 zs)) Many) (lt-leb (length zs) 6 h)

-- ---- number by number

-- what stands in the six places, and what is still to come
pub record Stand (numbers : List ℕ) (count : ℕ) (left right whole : List ℕ) : Type 0 where
  pub stand : numbers ≡ padded 6 (take count numbers)
  pub to_come : take count numbers ++ merged left right ≡ whole

six_places : (numbers left right whole : List ℕ) (count : ℕ) → Stand numbers count left right whole → length numbers ≡ 6
six_places numbers left right whole count h = ap length h.stand ∙ padded_length 6 (take count numbers)

-- the next number takes the next place
pub next_place : (numbers left right whole : List ℕ) (count z : ℕ) → Stand numbers count left right whole → count < 6 → least left right ≡ Some z → Stand (slice_set numbers count z) (count + 1) (behind z left) (behind z right) whole
next_place numbers left right whole count z h lt found =
    let zs = take count numbers in
    let six : length numbers ≡ 6 = six_places numbers left right whole count h in
    let many : length zs ≡ count = length-take-le count numbers (omega (arith, six, lt)) in
    let more : take (count + 1) (slice_set numbers count z) ≡ zs ++ z ∷ [] = take_more_set numbers count z (omega (arith, six, lt)) in
    record {
      stand = ap₂ (λ xs n. slice_set xs n z) h.stand (sym many) ∙ set_padded 6 zs z (omega (arith, many, lt)) ∙ ap (padded 6) (sym more);
      to_come =
          ap (λ ws. ws ++ merged (behind z left) (behind z right)) more
          ∙ append_assoc zs (z ∷ []) (merged (behind z left) (behind z right))
          ∙ ap (λ ws. zs ++ ws) (sym (next_merged left right z found))
          ∙ h.to_come;
    }

-- the numbers that stand are all, where none is to come
pub six_or_fewer : (numbers left right whole : List ℕ) (count : ℕ) → Stand numbers count left right whole → count ≤ 6 → least left right ≡ None → Listed count numbers ≡ sized whole
six_or_fewer numbers left right whole count h le none =
    let zs = take count numbers in
    let six : length numbers ≡ 6 = six_places numbers left right whole count h in
    let many : length zs ≡ count = length-take-le count numbers (omega (arith, six, le)) in
    let all : zs ≡ whole = sym (append-nil zs) ∙ ap (λ ws. zs ++ ws) (sym (none_merged left right none)) ∙ h.to_come in
    ap₂ Listed (sym many) h.stand ∙ sym (few_sized zs (omega (arith, many, le))) ∙ ap sized all

-- one more is too many
pub more_than_six : (numbers left right whole : List ℕ) (count z : ℕ) → Stand numbers count left right whole → count ≡ 6 → least left right ≡ Some z → Many ≡ sized whole
more_than_six numbers left right whole count z h full found =
    let zs = take count numbers in
    let six : length numbers ≡ 6 = six_places numbers left right whole count h in
    let many : length zs ≡ count = length-take-le count numbers (omega (arith, six, full)) in
    let all : length whole ≡ length zs + length (z ∷ merged (behind z left) (behind z right)) = ap length (sym h.to_come ∙ ap (λ ws. zs ++ ws) (next_merged left right z found)) ∙ length-append zs (z ∷ merged (behind z left) (behind z right)) in
    sym (many_sized whole (omega (arith, full, many, all)))
