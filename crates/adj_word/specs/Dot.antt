-- Dot products of lists of words.
use Rattle.std.specs.Prelude.{ℤ, pos, ◌+ℤ◌, ◌*ℤ◌, List, [], ◌∷◌}
use Rattle.adj_word.specs.Word.{wrap, add, mul}

-- the sum of the products of the members at equal places, as an integer; it ends where either list does
abbrev pub sum_of_products : List ℤ → List ℤ → ℤ
sum_of_products [] ys = pos 0
sum_of_products (x ∷ xs) [] = pos 0
sum_of_products (x ∷ xs) (y ∷ ys) = x *ℤ y +ℤ sum_of_products xs ys

-- the residue of the sum of products
abbrev pub dot : List ℤ → List ℤ → ℤ
dot xs ys = wrap (sum_of_products xs ys)

-- the lists added member by member; the longer one keeps its rest
abbrev pub added : List ℤ → List ℤ → List ℤ
added [] ys = ys
added (x ∷ xs) [] = x ∷ xs
added (x ∷ xs) (y ∷ ys) = add x y ∷ added xs ys

-- every member times c
abbrev pub scaled : ℤ → List ℤ → List ℤ
scaled c [] = []
scaled c (x ∷ xs) = mul c x ∷ scaled c xs
