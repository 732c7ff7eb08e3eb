-- Columns of rows, and the places of nodes.
use Rattle.std.proofs.Common.{◌≡◌, ℕ, ◌+◌, ◌*◌, ◌/◌, ◌%◌, ◌^◌, ◌<◌, ◌⊎◌, inl, inr, List, get_or, sym, ap, ◌∙◌, arith}
use Rattle.std.specs.Int.{bit_at}
use Rattle.std.proofs.lemmas.Bool.{cases_eq}
use Rattle.std.proofs.lemmas.Nat.{div-mul-add, mod-mul-add, div-add-mod', one_shl}
use Rattle.std.proofs.lemmas.Nat.Bits.{bit_at-pow_same, bit_at-pow_other}
use Rattle.std.proofs.Math.Nat.{mod-lt}
use Rattle.adj_reach_rows.specs.Bits.{column}
use Rattle.adj_reach_rows.specs.Searches.{IsMarked, place_of}

-- a column is a bit of a word of its row
pub column_at : (ws : List ℕ) (words row j : ℕ) → column ws words row j ≡ bit_at (get_or ws (row * words + j / 64) 0) (j % 64)
column_at ws words row j =
    let n : ℕ = row * words * 64 + j in
    let p : (row * words * 64 + j) / 64 ≡ row * words + j / 64 = omega arith in
    let q : (row * words * 64 + j) % 64 ≡ j % 64 = omega arith in
    λ i. bit_at (get_or ws (p i) 0) (q i)

-- the row of a place
pub row_of_place : (words row j : ℕ) → j < words * 64 → (row * words * 64 + j) / 64 / words ≡ row
row_of_place words row j l =
    let p : (row * words * 64 + j) / 64 ≡ row * words + j / 64 = omega arith in
    let k : j / 64 < words = omega (arith, l) in
    ap (λ z. z / words) p ∙ div-mul-add row words (j / 64) k

-- the node of a column
module _ (width words : ℕ) (some : 0 < width) (wide : width < 64 * words) where
  pub column_within : (x : ℕ) → x % width < words * 64
  column_within x = let l : x % width < width = mod-lt x some in omega (arith, l, wide)

  pub row_of_node : (x : ℕ) → place_of width words x / 64 / words ≡ x / width
  row_of_node x = row_of_place words (x / width) (x % width) (column_within x)

  pub node_place : (row j : ℕ) → j < width → place_of width words (row * width + j) ≡ row * words * 64 + j
  node_place row j l = λ i. div-mul-add row width j l i * words * 64 + mod-mul-add row width j l i

  -- a place of a row is that of a node where its column is the node's
  pub node_of_place : (x row j : ℕ) → j < words * 64 → place_of width words x ≡ row * words * 64 + j → (x / width ≡ row) × (x % width ≡ j)
  node_of_place x row j l e =
      let p : x / width ≡ row = sym (row_of_node x) ∙ ap (λ n. n / 64 / words) e ∙ row_of_place words row j l in
      let q : x / width * words * 64 ≡ row * words * 64 = ap (λ z. z * words * 64) p in
      (p, omega (arith, q, e))

  pub same_node : (x y : ℕ) → place_of width words x ≡ place_of width words y → x ≡ y
  same_node x y e =
      let h = node_of_place x (y / width) (y % width) (column_within y) e in
      sym (div-add-mod' x width) ∙ (λ i. h.0 i * width + h.1 i) ∙ div-add-mod' y width

-- ---- one bit of a word

module _ (first c : ℕ) where
  pub one_to : (n : ℕ) → IsMarked (first + c / 64) (1 * 2 ^ (c % 64) % 2 ^ 64) n → n ≡ first * 64 + c
  one_to n (p, q) = go (cases_eq (n % 64) (c % 64))
    where
      k : c % 64 < 64
      k = omega arith

      go : (n % 64 ≡ c % 64) ⊎ (n % 64 ≡ c % 64 → ⊥) → n ≡ first * 64 + c
      go (inl r) = omega (arith, p, r)
      go (inr f) =
          let z : bit_at (1 * 2 ^ (c % 64) % 2 ^ 64) (n % 64) ≡ 0 = ap (λ v. bit_at v (n % 64)) (one_shl (c % 64) 64 k) ∙ bit_at-pow_other (c % 64) (n % 64) f in
          absurd (omega (arith, q, z))

  pub one_from : (n : ℕ) → n ≡ first * 64 + c → IsMarked (first + c / 64) (1 * 2 ^ (c % 64) % 2 ^ 64) n
  one_from n e =
      let k : c % 64 < 64 = omega arith in
      let p : n / 64 ≡ first + c / 64 = omega (arith, e) in
      let q : n % 64 ≡ c % 64 = omega (arith, e) in
      (p, (λ i. bit_at (one_shl (c % 64) 64 k i) (q i)) ∙ bit_at-pow_same (c % 64))
