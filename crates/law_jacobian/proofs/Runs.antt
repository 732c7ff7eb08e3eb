-- Pattern runs and dual runs, by the runs that are seen as both.
use Rattle.std.proofs.Common.{◌≡◌, ℕ, zero, suc, ◌+◌, Bool, true, false, List, [], ◌∷◌, map, length, refl, sym, ap, ap₂, ◌∙◌, eqb-true, true≢false}
use Rattle.std.specs.List.{zip}
use Rattle.std.specs.Prelude.{ℤ, pos, ◌==◌, ◌&&◌, ◌||◌, if◌then◌else◌}
use Rattle.adj_word.specs.Word.{negated, add, sub, mul, power}
use Rattle.adj_word.proofs.Residues.{wrap-zero, mul-zero, zero-mul}
use Rattle.def_meaning.specs.Numbers.{Numbers, words, duals, power_tangent}
use Rattle.def_meaning.specs.Scene.{Outcome, Done, Trapped, More, Full}
use Rattle.def_meaning.specs.Units.{Slot, Output, nth_cell, run_unit}
use Rattle.def_meaning.specs.Seen.{Projects, slot_seen, output_seen, ending_seen}
use Rattle.law_meaning.proofs.Projected.{run_projected}
use Rattle.def_meaning.proofs.WithoutTangents.{without_tangents}
use Rattle.def_jacobian.specs.Columns.{Columns, no_column, one_column, columns_of_power, marked}
use Rattle.def_jacobian.specs.Inputs.{as_columns, by_columns, with_columns, in_direction, one_at, paired}
use Rattle.def_jacobian.specs.Patterns.{Task, pattern_run, dual_run, Place, held, columns_at, tangent_of}
use Rattle.def_jacobian.specs.Groups.{in_group, seed}
use Rattle.def_jacobian.specs.Laws.{ColumnsForgotten, EndsAsDual, DirectionPaired, AgreeOver, TangentsByColumns, OutsideIsZero, GroupGivesEntry, in_part, PatternByParts}
use Rattle.law_jacobian.proofs.Grouping.{eqb_same}
use Rattle.law_jacobian.proofs.Traced.{Traced, still, moved, traced, as_first, as_second, as_marked, does_first, does_second, does_marked}

-- ---- without columns

-- words do as words with columns do, without the columns
without_columns : Projects {C = ℤ × Columns} (λ a. a.0) marked words
without_columns = record { of_word = λ z. refl; shown = λ a. refl; negation = λ a. refl; sum = λ a b. refl; difference = λ a b. refl; product = λ a b. refl; raised_to = λ a k. refl }

pub columns_forgotten : ColumnsForgotten
columns_forgotten units u input tape room k = run_projected (λ a. a.0) marked words without_columns units u input tape room k

-- ---- inputs over other numbers

module _ {C D : Type 0} (h : C → D) where
  map_seen : (f : ℤ → C) (zs : List ℤ) → map h (map f zs) ≡ map (λ z. h (f z)) zs
  map_seen f [] = refl
  map_seen f (z ∷ zs) = ap (λ ds. h (f z) ∷ ds) (map_seen f zs)

  columns_seen : (own : ℤ → ℕ → C) (zs : List ℤ) (j : ℕ) → map h (as_columns own zs j) ≡ as_columns (λ z i. h (own z i)) zs j
  columns_seen own [] j = refl
  columns_seen own (z ∷ zs) j = ap (λ ds. h (own z j) ∷ ds) (columns_seen own zs (suc j))

  pub input_seen : (other : ℤ → C) (own : ℤ → ℕ → C) (vars : List Bool) (vs : List (Slot ℤ)) (j : ℕ) → map (slot_seen h) (by_columns other own vars vs j) ≡ by_columns (λ z. h (other z)) (λ z i. h (own z i)) vars vs j
  input_seen other own vars [] j = refl
  input_seen other own [] (v ∷ vs) j = λ i. record { shape = v.shape; cells = map_seen other v.cells i } ∷ input_seen other own [] vs j i
  input_seen other own (true ∷ vars) (v ∷ vs) j = λ i. record { shape = v.shape; cells = columns_seen own v.cells j i } ∷ input_seen other own vars vs (j + length v.cells) i
  input_seen other own (false ∷ vars) (v ∷ vs) j = λ i. record { shape = v.shape; cells = map_seen other v.cells i } ∷ input_seen other own vars vs j i

-- words and their tangents
still_paired : (zs : List ℤ) → zip zs (map (λ z. pos 0) zs) ≡ map (λ z. (z, pos 0)) zs
still_paired [] = refl
still_paired (z ∷ zs) = ap (λ rest. (z, pos 0) ∷ rest) (still_paired zs)

columns_paired : (t : ℕ → ℤ) (zs : List ℤ) (j : ℕ) → zip zs (as_columns (λ z i. t i) zs j) ≡ as_columns (λ z i. (z, t i)) zs j
columns_paired t [] j = refl
columns_paired t (z ∷ zs) j = ap (λ rest. (z, t j) ∷ rest) (columns_paired t zs (suc j))

input_paired : (t : ℕ → ℤ) (vars : List Bool) (vs : List (Slot ℤ)) (j : ℕ) → paired vs (by_columns (λ z. pos 0) (λ z i. t i) vars vs j) ≡ by_columns (λ z. (z, pos 0)) (λ z i. (z, t i)) vars vs j
input_paired t vars [] j = refl
input_paired t [] (v ∷ vs) j = λ i. record { shape = v.shape; cells = still_paired v.cells i } ∷ input_paired t [] vs j i
input_paired t (true ∷ vars) (v ∷ vs) j = λ i. record { shape = v.shape; cells = columns_paired t v.cells j i } ∷ input_paired t vars vs (j + length v.cells) i
input_paired t (false ∷ vars) (v ∷ vs) j = λ i. record { shape = v.shape; cells = still_paired v.cells i } ∷ input_paired t vars vs j i

pub direction_paired : DirectionPaired
direction_paired t vars input = input_paired t vars input 0

-- ---- what a cell holds, over other numbers

module _ {C D : Type 0} (h : C → D) (n : Numbers C) (m : Numbers D) (p : Projects h n m) where
  nth_seen : (cs : List C) (j : ℕ) → h (nth_cell n cs j) ≡ nth_cell m (map h cs) j
  nth_seen [] j = p.of_word (pos 0)
  nth_seen (c ∷ cs) zero = refl
  nth_seen (c ∷ cs) (suc j) = nth_seen cs j

  pub held_seen : (vs : List (Slot C)) (i j : ℕ) → h (held n vs i j) ≡ held m (map (slot_seen h) vs) i j
  held_seen [] i j = p.of_word (pos 0)
  held_seen (v ∷ vs) zero j = nth_seen v.cells j
  held_seen (v ∷ vs) (suc i) j = held_seen vs i j

-- a run that is seen as done is done
record Behind {C D : Type 0} (h : C → D) (o : Outcome (Output C)) (out : Output D) (used : ℕ) : Type 0 where
  output : Output C
  is : o ≡ Done output used
  seen_as : output_seen h output ≡ out

behind : {C D : Type 0} (h : C → D) (o : Outcome (Output C)) (out : Output D) (used : ℕ) → ending_seen h o ≡ Done out used → Behind h o out used
behind h (Done q k) out used e = record { output = q; is = cc; seen_as = cc }
behind h (Trapped t line w) out used e = cc
behind h (More w) out used e = cc
behind h (Full w) out used e = cc

-- ---- runs that carry both tangents and the columns

module _ (p : Task) (t t' : ℕ → ℤ) where
  traced_input : List (Slot (Traced t t'))
  traced_input = by_columns (still t t') (moved t t') p.vars p.input 0

  traced_run : Outcome (Output (Traced t t'))
  traced_run = run_unit (traced t t') p.units p.unit traced_input [] p.room p.budget

  seen_first : ending_seen (as_first t t') traced_run ≡ dual_run p t
  unfolding traced_run traced_input
  seen_first =
      run_projected (as_first t t') (traced t t') duals (does_first t t') p.units p.unit traced_input [] p.room p.budget
      ∙ ap (λ vs. run_unit duals p.units p.unit vs [] p.room p.budget) (input_seen (as_first t t') (still t t') (moved t t') p.vars p.input 0)

  seen_second : ending_seen (as_second t t') traced_run ≡ dual_run p t'
  unfolding traced_run traced_input
  seen_second =
      run_projected (as_second t t') (traced t t') duals (does_second t t') p.units p.unit traced_input [] p.room p.budget
      ∙ ap (λ vs. run_unit duals p.units p.unit vs [] p.room p.budget) (input_seen (as_second t t') (still t t') (moved t t') p.vars p.input 0)

  seen_marked : ending_seen (as_marked t t') traced_run ≡ pattern_run p
  unfolding traced_run traced_input
  seen_marked =
      run_projected (as_marked t t') (traced t t') marked (does_marked t t') p.units p.unit traced_input [] p.room p.budget
      ∙ ap (λ vs. run_unit marked p.units p.unit vs [] p.room p.budget) (input_seen (as_marked t t') (still t t') (moved t t') p.vars p.input 0)

  -- the tangents of a cell at the end, by what the run that carries both holds there
  told_first : (q : Output (Traced t t')) (used : ℕ) → traced_run ≡ Done q used → (a : Place) → tangent_of (dual_run p t) a ≡ (held (traced t t') q.slots a.dummy a.cell).first
  told_first q used e a =
      ap (λ o. tangent_of o a) (sym seen_first ∙ ap (ending_seen (as_first t t')) e)
      ∙ ap (λ (z : ℤ × ℤ). z.1) (sym (held_seen (as_first t t') (traced t t') duals (does_first t t') q.slots a.dummy a.cell))

  told_second : (q : Output (Traced t t')) (used : ℕ) → traced_run ≡ Done q used → (a : Place) → tangent_of (dual_run p t') a ≡ (held (traced t t') q.slots a.dummy a.cell).second
  told_second q used e a =
      ap (λ o. tangent_of o a) (sym seen_second ∙ ap (ending_seen (as_second t t')) e)
      ∙ ap (λ (z : ℤ × ℤ). z.1) (sym (held_seen (as_second t t') (traced t t') duals (does_second t t') q.slots a.dummy a.cell))

  told_columns : (q : Output (Traced t t')) (out : Output (ℤ × Columns)) → output_seen (as_marked t t') q ≡ out → (a : Place) → columns_at out a ≡ (held (traced t t') q.slots a.dummy a.cell).columns
  told_columns q out e a =
      ap (λ o. columns_at o a) (sym e)
      ∙ ap (λ (z : ℤ × Columns). z.1) (sym (held_seen (as_marked t t') (traced t t') marked (does_marked t t') q.slots a.dummy a.cell))

  depends : (out : Output (ℤ × Columns)) (used : ℕ) → pattern_run p ≡ Done out used → (a : Place) → AgreeOver (columns_at out a) t t' → tangent_of (dual_run p t) a ≡ tangent_of (dual_run p t') a
  depends out used e a g = by (behind (as_marked t t') traced_run out used (seen_marked ∙ e))
    where
      by : Behind (as_marked t t') traced_run out used → tangent_of (dual_run p t) a ≡ tangent_of (dual_run p t') a
      by b =
          told_first b.output used b.is a
          ∙ (held (traced t t') b.output.slots a.dummy a.cell).same (λ c h. g c (ap (λ (s : Columns). s c) (told_columns b.output out b.seen_as a) ∙ h))
          ∙ sym (told_second b.output used b.is a)

pub tangents_by_columns : TangentsByColumns
tangents_by_columns p out used e t t' a g = depends p t t' out used e a g

-- ---- how they end

pub ends_as_dual : EndsAsDual
ends_as_dual p t =
    columns_forgotten p.units p.unit (with_columns p.vars p.input) [] p.room p.budget
    ∙ ap (λ vs. run_unit words p.units p.unit vs [] p.room p.budget)
    (input_seen (λ (a : ℤ × Columns). a.0) (λ z. (z, no_column)) (λ z j. (z, one_column j)) p.vars p.input 0
    ∙ sym (input_seen (λ (a : ℤ × ℤ). a.0) (λ z. (z, pos 0)) (λ z j. (z, t j)) p.vars p.input 0))
    ∙ sym (run_projected (λ a. a.0) duals words without_tangents p.units p.unit (in_direction t p.vars p.input) [] p.room p.budget)

-- ---- the direction that is 0

abbrev pub no_tangent : ℤ → ℤ × ℤ
no_tangent z = (z, pos 0)

zero_power : (u : ℤ) (k : ℕ) → pos 0 ≡ power_tangent u (pos 0) k
zero_power u zero = refl
zero_power u (suc k) = sym (mul-zero (mul (pos (suc k)) (power u k)))

zero_product : (a b : ℤ) → pos 0 ≡ add (mul (pos 0) b) (mul a (pos 0))
zero_product a b = sym (ap₂ add (zero-mul b) (mul-zero a) ∙ wrap-zero)

without_direction : Projects no_tangent words duals
without_direction = record {
  of_word = λ z. refl;
  shown = λ a. refl;
  negation = λ a i. (negated a, sym wrap-zero i);
  sum = λ a b i. (add a b, sym wrap-zero i);
  difference = λ a b i. (sub a b, sym wrap-zero i);
  product = λ a b i. (mul a b, zero_product a b i);
  raised_to = λ a k i. (power a k, zero_power a k i);
}

-- a run on words
word_input : Task → List (Slot ℤ)
word_input p = by_columns (λ z. z) (λ z j. z) p.vars p.input 0

word_run : Task → Outcome (Output ℤ)
word_run p = run_unit words p.units p.unit (word_input p) [] p.room p.budget

zero_run : (p : Task) → ending_seen no_tangent (word_run p) ≡ dual_run p (λ c. pos 0)
unfolding word_run word_input
zero_run p =
    run_projected no_tangent words duals without_direction p.units p.unit (word_input p) [] p.room p.budget
    ∙ ap (λ vs. run_unit duals p.units p.unit vs [] p.room p.budget) (input_seen no_tangent (λ z. z) (λ z j. z) p.vars p.input 0)

zero_ending : (o : Outcome (Output ℤ)) (a : Place) → tangent_of (ending_seen no_tangent o) a ≡ pos 0
zero_ending (Done q k) a = ap (λ (z : ℤ × ℤ). z.1) (sym (held_seen no_tangent words duals without_direction q.slots a.dummy a.cell))
zero_ending (Trapped t line w) a = refl
zero_ending (More w) a = refl
zero_ending (Full w) a = refl

-- where no column has a tangent nothing has one at the end
zero_tangent : (p : Task) (a : Place) → tangent_of (dual_run p (λ c. pos 0)) a ≡ pos 0
zero_tangent p a = ap (λ o. tangent_of o a) (sym (zero_run p)) ∙ zero_ending (word_run p) a

-- ---- directions

-- another column has no tangent
one_at_other : (j c : ℕ) → (c == j) ≡ false → one_at j c ≡ pos 0
one_at_other j c e = ap (λ z. if z then pos 1 else pos 0) e

pub outside_is_zero : OutsideIsZero
outside_is_zero p out used e a j f = tangents_by_columns p out used e (one_at j) (λ c. pos 0) a agree ∙ zero_tangent p a
  where
    agree : AgreeOver (columns_at out a) (one_at j) (λ c. pos 0)
    agree c h = one_at_other j c (by (c == j) refl)
      where
        by : (z : Bool) → (c == j) ≡ z → (c == j) ≡ false
        by true k = absurd (true≢false (sym h ∙ ap (columns_at out a) (eqb-true c j k) ∙ f))
        by false k = k

pub group_tells : GroupGivesEntry
group_tells p out used e a groups g j m only = tangents_by_columns p out used e (seed groups g) (one_at j) a agree
  where
    agree : AgreeOver (columns_at out a) (seed groups g) (one_at j)
    agree c h = by (in_group groups g c) refl (c == j) refl
      where
        by : (y : Bool) → in_group groups g c ≡ y → (z : Bool) → (c == j) ≡ z → seed groups g c ≡ one_at j c
        by true k true l = ap (λ z. if z then pos 1 else pos 0) (k ∙ sym l)
        by true k false l = absurd (true≢false (sym (eqb_same c j (only c h k)) ∙ l))
        by false k true l = absurd (true≢false (sym m ∙ ap (in_group groups g) (sym (eqb-true c j l)) ∙ k))
        by false k false l = ap (λ z. if z then pos 1 else pos 0) (k ∙ sym l)

-- ---- part by part

-- columns in part do as columns do
or_and : (a b p : Bool) → ((a || b) && p) ≡ ((a && p) || (b && p))
or_and true b true = refl
or_and true true false = refl
or_and true false false = refl
or_and false b p = refl

module _ (inside : Columns) where
  part_power : (s : Columns) (k c : ℕ) → (columns_of_power s k c && inside c) ≡ columns_of_power (λ d. s d && inside d) k c
  part_power s zero c = refl
  part_power s (suc k) c = refl

  pub part_does : Projects (in_part inside) marked marked
  part_does = record {
    of_word = λ z. refl;
    shown = λ a. refl;
    negation = λ a. refl;
    sum = λ a b i. (add a.0 b.0, λ c. or_and (a.1 c) (b.1 c) (inside c) i);
    difference = λ a b i. (sub a.0 b.0, λ c. or_and (a.1 c) (b.1 c) (inside c) i);
    product = λ a b i. (mul a.0 b.0, λ c. or_and (a.1 c) (b.1 c) (inside c) i);
    raised_to = λ a k i. (power a.0 k, λ c. part_power a.1 k c i);
  }

pub parts_tell : {C : Type 0} → PatternByParts C
parts_tell inside h n q own e p =
    run_projected h n marked q p.units p.unit (by_columns n.of_word own p.vars p.input 0) [] p.room p.budget
    ∙ ap (λ vs. run_unit marked p.units p.unit vs [] p.room p.budget)
    (input_seen h n.of_word own p.vars p.input 0
    ∙ (λ i. by_columns (λ z. q.of_word z i) (λ z j. e z j i) p.vars p.input 0)
    ∙ sym (input_seen (in_part inside) (λ z. (z, no_column)) (λ z j. (z, one_column j)) p.vars p.input 0))
    ∙ sym (run_projected (in_part inside) marked marked (part_does inside) p.units p.unit (with_columns p.vars p.input) [] p.room p.budget)
