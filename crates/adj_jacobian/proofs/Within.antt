-- The columns of a cell at the end of a pattern run are columns of the input.
use Rattle.std.proofs.Common.{◌≡◌, ℕ, suc, ◌+◌, ◌<◌, Bool, true, false, List, [], ◌∷◌, map, length, refl, sym, ap, ◌∙◌, eqb-true, length-append, arith}
use Rattle.std.specs.Prelude.{ℤ, nat_lt, ◌==◌, ◌&&◌}
use Rattle.std.proofs.lemmas.Bool.{ltb-true, lt-ltb}
use Rattle.std.proofs.lemmas.List.{length-map}
use Rattle.def_meaning.specs.Scene.{Done}
use Rattle.def_meaning.specs.Seen.{slot_seen, output_seen, ending_seen}
use Rattle.def_meaning.specs.Units.{Slot, Output, run_unit}
use Rattle.law_meaning.proofs.Projected.{run_projected}
use Rattle.def_jacobian.specs.Columns.{Columns, no_column, one_column, marked}
use Rattle.def_jacobian.specs.Inputs.{as_columns, by_columns, with_columns}
use Rattle.def_jacobian.specs.Laws.{in_part}
use Rattle.def_jacobian.specs.Patterns.{Task, Place, pattern_run, columns_at}
use Rattle.def_jacobian.specs.Recovered.{from, places}
use Rattle.law_jacobian.proofs.Runs.{input_seen, held_seen, part_does}
use Rattle.adj_jacobian.proofs.Ranges.{length_from}

-- ---- inputs whose columns are alike as far as there are any

module _ {C : Type 0} (other : ℤ → C) (own same : ℤ → ℕ → C) where
  alike_cells : (zs : List ℤ) (j : ℕ) → ((z : ℤ) (i : ℕ) → i < j + length zs → own z i ≡ same z i) → as_columns own zs j ≡ as_columns same zs j
  alike_cells [] j h = refl
  alike_cells (z ∷ zs) j h =
      λ k. h z j (let lt : j < j + suc (length zs) = omega arith in lt) k ∷ alike_cells zs (suc j) (λ y i lt. h y i (let le : i < j + suc (length zs) = omega (arith, lt) in le)) k

  alike_none : (vs : List (Slot ℤ)) (j : ℕ) → by_columns other own [] vs j ≡ by_columns other same [] vs j
  alike_none [] j = refl
  alike_none (v ∷ vs) j = λ k. record { shape = v.shape; cells = map other v.cells } ∷ alike_none vs j k

  alike_input : (vars : List Bool) (vs : List (Slot ℤ)) (j i : ℕ) → ((z : ℤ) (c : ℕ) → c < j + length (places vars vs i) → own z c ≡ same z c) → by_columns other own vars vs j ≡ by_columns other same vars vs j
  alike_input vars [] j i h = refl
  alike_input [] (v ∷ vs) j i h = alike_none (v ∷ vs) j
  alike_input (true ∷ vars) (v ∷ vs) j i h =
      λ k. record { shape = v.shape; cells = alike_cells v.cells j (λ z c lt. h z c (let le : c < j + length (places (true ∷ vars) (v ∷ vs) i) = omega (arith, lt, all) in le)) k }
      ∷ alike_input vars vs (j + length v.cells) (suc i) (λ z c lt. h z c (let le : c < j + length (places (true ∷ vars) (v ∷ vs) i) = omega (arith, lt, all) in le)) k
    where
      all : length (places (true ∷ vars) (v ∷ vs) i) ≡ length v.cells + length (places vars vs (suc i))
      all =
          length-append (map (λ c. record { dummy = i; cell = c }) (from 0 (length v.cells))) (places vars vs (suc i))
          ∙ ap (λ n. n + length (places vars vs (suc i))) (length-map (from 0 (length v.cells)) (λ c. record { dummy = i; cell = c }) ∙ length_from 0 (length v.cells))
  alike_input (false ∷ vars) (v ∷ vs) j i h = λ k. record { shape = v.shape; cells = map other v.cells } ∷ alike_input vars vs j (suc i) h k

-- ---- runs

module _ (p : Task) where
  -- a number of a column
  inside : Columns
  inside c = nat_lt c (length (places p.vars p.input 0))

  one_inside : (j : ℕ) → j < length (places p.vars p.input 0) → (c : ℕ) → (one_column j c && inside c) ≡ one_column j c
  unfolding inside
  one_inside j lt c = by (c == j) refl
    where
      by : (b : Bool) → (c == j) ≡ b → (one_column j c && inside c) ≡ one_column j c
      by true e =
          ap (λ b. b && inside c) e
          ∙ ap inside (eqb-true c j e)
          ∙ lt-ltb j (length (places p.vars p.input 0)) lt
          ∙ sym e
      by false e = ap (λ b. b && inside c) e ∙ sym e

  input_inside : map (slot_seen (in_part inside)) (with_columns p.vars p.input) ≡ with_columns p.vars p.input
  input_inside =
      input_seen (in_part inside) (λ z. (z, no_column)) (λ z j. (z, one_column j)) p.vars p.input 0
      ∙ alike_input (λ z. (z, no_column)) (λ z j. in_part inside (z, one_column j)) (λ z j. (z, one_column j)) p.vars p.input 0 0 (λ z j lt. let less : j < length (places p.vars p.input 0) = omega (arith, lt) in λ k. (z, λ c. one_inside j less c k))

  run_inside : ending_seen (in_part inside) (pattern_run p) ≡ pattern_run p
  run_inside =
      run_projected (in_part inside) marked marked (part_does inside) p.units p.unit (with_columns p.vars p.input) [] p.room p.budget
      ∙ ap (λ vs. run_unit marked p.units p.unit vs [] p.room p.budget) input_inside

  same_done : (x y : Output (ℤ × Columns)) (a b : ℕ) → Done x a ≡ Done y b → x ≡ y
  same_done x y a b e = cc

  output_inside : (out : Output (ℤ × Columns)) (used : ℕ) → pattern_run p ≡ Done out used → output_seen (in_part inside) out ≡ out
  output_inside out used e = same_done (output_seen (in_part inside) out) out used used (ap (ending_seen (in_part inside)) (sym e) ∙ run_inside ∙ e)

  and_second : (a b : Bool) → (a && b) ≡ a → a ≡ true → b ≡ true
  and_second true b e h = e
  and_second false b e h = cc

  pub columns_within : (out : Output (ℤ × Columns)) (used : ℕ) → pattern_run p ≡ Done out used → (a : Place) (c : ℕ) → columns_at out a c ≡ true → c < length (places p.vars p.input 0)
  unfolding inside
  columns_within out used e a c h =
      let seen : (columns_at out a c && inside c) ≡ columns_at out a c =
      ap (λ (z : ℤ × Columns). z.1 c) (held_seen (in_part inside) marked marked (part_does inside) out.slots a.dummy a.cell)
      ∙ ap (λ (o : Output (ℤ × Columns)). columns_at o a c) (output_inside out used e) in
      ltb-true c (length (places p.vars p.input 0)) (and_second (columns_at out a c) (inside c) seen h)
