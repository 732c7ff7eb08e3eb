-- A product goes as far as the shorter list.
use Rattle.std.proofs.Common.{◌≡◌, ℕ, zero, suc, ◌≤◌, min, List, [], ◌∷◌, take, length, refl, sym, ap, ◌∙◌, arith}
use Rattle.std.specs.Prelude.{ℤ, ◌+ℤ◌, ◌*ℤ◌}
use Rattle.adj_word.specs.Word.{wrap}
use Rattle.adj_word.specs.Dot.{sum_of_products, dot}

sums_same : (xs ys : List ℤ) (n : ℕ) → min (length xs) (length ys) ≤ n → sum_of_products (take n xs) (take n ys) ≡ sum_of_products xs ys
sums_same [] ys zero h = refl
sums_same [] ys (suc n) h = refl
sums_same (x ∷ xs) [] zero h = refl
sums_same (x ∷ xs) [] (suc n) h = refl
sums_same (x ∷ xs) (y ∷ ys) zero h = absurd (omega arith)
sums_same (x ∷ xs) (y ∷ ys) (suc n) h = ap (λ z. x *ℤ y +ℤ z) (sums_same xs ys n (omega (arith, h)))

pub dots_same : (xs ys : List ℤ) → dot (take (min (length xs) (length ys)) xs) (take (min (length xs) (length ys)) ys) ≡ dot xs ys
dots_same xs ys = ap wrap (sums_same xs ys (min (length xs) (length ys)) (omega arith))
