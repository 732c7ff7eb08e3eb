-- The names of dummies, and the cells of rows and of columns, by their numbers.
use Rattle.std.proofs.Common.{◌≡◌, ℕ, zero, suc, ◌<◌, ◌≤◌, List, [], ◌∷◌, length, map, get_or, refl, sym, ap, arith}
use Rattle.def_jacobian.specs.Patterns.{Place}
use Rattle.adj_jacobian_groups.specs.declared.sparsity.Cell.{Cell}
use Rattle.adj_jacobian_groups.specs.declared.sparsity.Row.{Row as CodeRow}
use Rattle.adj_jacobian_groups.specs.View.{place_of, rows_of}
use Rattle.adj_tool_jacobian.specs.Written.{at_of, name_of, place_in}

-- the cell of a number where there is none
abbrev pub first_place : Place
first_place = record { dummy = 0; cell = 0 }

pub name_there : (names : List (List ℕ)) (i : ℕ) (x : List ℕ) → i < length names → x ≡ get_or names i x → name_of names i ≡ x
name_there [] i x h e = absurd (omega (arith, h))
name_there (y ∷ ys) zero x h e = sym e
name_there (y ∷ ys) (suc i) x h e = name_there ys i x (omega (arith, h)) e

pub name_past : (names : List (List ℕ)) (i : ℕ) → length names ≤ i → name_of names i ≡ []
name_past [] i h = refl
name_past (y ∷ ys) zero h = absurd (omega (arith, h))
name_past (y ∷ ys) (suc i) h = name_past ys i (omega (arith, h))

pub column_there : (cells : List Cell) (i : ℕ) (a : Cell) → i < length cells → a ≡ get_or cells i a → place_in (map place_of cells) i ≡ place_of a
column_there [] i a h e = absurd (omega (arith, h))
column_there (b ∷ others) zero a h e = ap place_of (sym e)
column_there (b ∷ others) (suc i) a h e = column_there others i a (omega (arith, h)) e

pub column_past : (cells : List Cell) (i : ℕ) → length cells ≤ i → place_in (map place_of cells) i ≡ first_place
column_past [] i h = refl
column_past (b ∷ others) zero h = absurd (omega (arith, h))
column_past (b ∷ others) (suc i) h = column_past others i (omega (arith, h))

pub row_there : (rows : List CodeRow) (i : ℕ) (r : CodeRow) → i < length rows → r ≡ get_or rows i r → place_in (map at_of (rows_of rows)) i ≡ place_of r.at
row_there [] i r h e = absurd (omega (arith, h))
row_there (q ∷ others) zero r h e = ap (λ (z : CodeRow). place_of z.at) (sym e)
row_there (q ∷ others) (suc i) r h e = row_there others i r (omega (arith, h)) e

pub row_past : (rows : List CodeRow) (i : ℕ) → length rows ≤ i → place_in (map at_of (rows_of rows)) i ≡ first_place
row_past [] i h = refl
row_past (q ∷ others) zero h = absurd (omega (arith, h))
row_past (q ∷ others) (suc i) h = row_past others i (omega (arith, h))
