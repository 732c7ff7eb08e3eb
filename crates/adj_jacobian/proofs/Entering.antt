-- Entries, row by row and column by column.
use Rattle.std.proofs.Common.{◌≡◌, ℕ, suc, ◌+◌, ◌<◌, ◌≤◌, List, [], ◌∷◌, ◌++◌, length, drop, get_or, sym, ap, ◌∙◌, append_assoc, arith}
use Rattle.std.specs.Prelude.{ℤ}
use Rattle.std.proofs.lemmas.List.{drop_more, drop_all}
use Rattle.def_jacobian.specs.Patterns.{Place}
use Rattle.def_jacobian.specs.Recovered.{entries_of_row, entries}
use Rattle.adj_jacobian_groups.specs.declared.sparsity.Row.{Row as CodeRow}
use Rattle.adj_jacobian_groups.specs.View.{place_of, rows_of}

module _ (value : Place → ℕ → ℤ) where
  -- the entry at a column
  pub column_turn : (i : ℕ) (a : Place) (cs : List ℕ) (k d : ℕ) → k < length cs →
      entries_of_row value i a (drop k cs) ≡ record { row = i; col = get_or cs k d; value = value a (get_or cs k d) } ∷ entries_of_row value i a (drop (k + 1) cs)
  column_turn i a cs k d h = ap (entries_of_row value i a) (drop_more cs k d h)

  pub no_column : (i : ℕ) (a : Place) (cs : List ℕ) (k : ℕ) → length cs ≤ k → entries_of_row value i a (drop k cs) ≡ []
  no_column i a cs k h = ap (entries_of_row value i a) (drop_all k cs h)

  -- the entries of a row
  pub row_turn : (rs : List CodeRow) (i : ℕ) (r : CodeRow) → i < length rs → r ≡ get_or rs i r →
      entries value (rows_of (drop i rs)) i ≡ entries_of_row value i (place_of r.at) r.columns ++ entries value (rows_of (drop (i + 1) rs)) (i + 1)
  row_turn rs i r h e =
      ap (λ z. entries value (rows_of z) i) (drop_more rs i r h ∙ ap (λ z. z ∷ drop (i + 1) rs) (sym e))
      ∙ ap (λ n. entries_of_row value i (place_of r.at) r.columns ++ entries value (rows_of (drop (i + 1) rs)) n) (let n : suc i ≡ i + 1 = omega arith in n)

  pub no_row : (rs : List CodeRow) (i : ℕ) → length rs ≤ i → entries value (rows_of (drop i rs)) i ≡ []
  no_row rs i h = ap (λ z. entries value (rows_of z) i) (drop_all i rs h)

-- some members more, where they were the first of those that were left
pub some_more : {X : Type 0} (new done more rest turn whole : List X) → new ≡ done ++ more → turn ≡ more ++ rest → done ++ turn ≡ whole → new ++ rest ≡ whole
some_more new done more rest turn whole n e h = ap (λ z. z ++ rest) n ∙ append_assoc done more rest ∙ ap (λ z. done ++ z) (sym e) ∙ h
