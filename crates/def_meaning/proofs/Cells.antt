-- The cells that subscripts name are those of their variable.
use Rattle.std.proofs.Common.{◌≡◌, ℕ, zero, suc, ◌+◌, ◌*◌, ◌<◌, ◌≤◌, Bool, true, false, List, [], ◌∷◌, refl, arith}
use Rattle.std.proofs.Math.Nat.{mul-le-mul_left}
use Rattle.std.specs.Prelude.{ℤ, pos, negsuc, Option, Some, None, nat_lt, ◌==◌, if◌then◌else◌}
use Rattle.def_meaning.specs.Store.{Shape, size_of, within, by_column, cell_of}

-- the three cases of a size
size_cases : (rows cols : ℕ) (a b : Bool) → (rows == 0) ≡ a → (cols == 0) ≡ b → (m : ℕ) → (a ≡ true → m < 1) → (a ≡ false → b ≡ true → m < rows) → (a ≡ false → b ≡ false → m < rows * cols) → m < (if a then 1 else (if b then rows else rows * cols))
size_cases rows cols true b e f m x y z = x refl
size_cases rows cols false true e f m x y z = y refl refl
size_cases rows cols false false e f m x y z = z refl refl

-- a variable has at least one cell
pub size_positive : (sh : Shape) → 0 < size_of sh
size_positive sh =
    size_cases sh.rows sh.cols (sh.rows == 0) (sh.cols == 0) refl refl 0 (λ e. omega arith) (λ e f. grind arith) (λ e f. more_than sh.rows sh.cols (grind arith) (grind arith))
  where
    more_than : (a b : ℕ) → 0 < a → 0 < b → 0 < a * b
    more_than a zero h k = absurd (omega arith)
    more_than a (suc b) h k = let e : a * suc b ≡ a + a * b = omega arith in omega arith

-- a subscript within an extent is below it
within_below : (z : ℤ) (m i : ℕ) → within z m ≡ Some i → i < m
within_below (pos zero) m i h = absurd cc
within_below (pos (suc j)) m i h = go (nat_lt j m) refl h
  where
    go : (b : Bool) → nat_lt j m ≡ b → (let o : Option ℕ = if b then Some j else None in o ≡ Some i) → i < m
    go true e h = let s : j ≡ i = cc in let l : j < m = grind arith in omega arith
    go false e h = absurd cc
within_below (negsuc j) m i h = absurd cc

-- a cell of the first column
row_below : (sh : Shape) (i : ℕ) → i < sh.rows → i < size_of sh
row_below sh i h =
    size_cases sh.rows sh.cols (sh.rows == 0) (sh.cols == 0) refl refl i (λ e. let z : sh.rows ≡ 0 = grind arith in absurd (omega arith)) (λ e f. h)
    (λ e f. let one : 1 ≤ sh.cols = grind arith in let l = mul-le-mul_left sh.rows one in omega arith)

-- a cell by row and column
pair_below : (sh : Shape) (i j : ℕ) → i < sh.rows → j < sh.cols → i + j * sh.rows < size_of sh
pair_below sh i j h k =
    size_cases sh.rows sh.cols (sh.rows == 0) (sh.cols == 0) refl refl (i + j * sh.rows) (λ e. let z : sh.rows ≡ 0 = grind arith in absurd (omega arith)) (λ e f. let z : sh.cols ≡ 0 = grind arith in absurd (omega arith))
    (λ e f. let next : suc j ≤ sh.cols = omega arith in let l = mul-le-mul_left sh.rows next in omega arith)

-- subscripts within their extents name one of the variable's cells
pub cell_below : (sh : Shape) (is : List ℤ) (i : ℕ) → cell_of sh is ≡ Some i → i < size_of sh
cell_below sh [] i h = absurd cc
cell_below sh (a ∷ []) i h = row_below sh i (within_below a sh.rows i h)
cell_below sh (a ∷ b ∷ []) i h = go (within a sh.rows) (within b sh.cols) refl refl h
  where
    go : (o p : Option ℕ) → within a sh.rows ≡ o → within b sh.cols ≡ p → by_column sh.rows o p ≡ Some i → i < size_of sh
    go (Some c) (Some d) e f h =
        let s : c + d * sh.rows ≡ i = cc in
        let l = pair_below sh c d (within_below a sh.rows c e) (within_below b sh.cols d f) in
        omega arith
    go (Some c) None e f h = absurd cc
    go None p e f h = absurd cc
cell_below sh (a ∷ b ∷ c ∷ is) i h = absurd cc
