-- Words that carry a set of columns and what is kept of it, and the proof that this tells of the set.
-- A run over these is seen as a run over words with few columns and as a pattern run.
use Rattle.std.proofs.Common.{◌≡◌, ℕ, zero, suc, ◌≤◌, ◌^◌, Bool, true, false, List, [], ◌∷◌, length, cond, map, refl, sym, ap, ap₂, subst, ◌∙◌, arith}
use Rattle.std.specs.Prelude.{ℤ, nat_lt, nat_le, ◌==◌, ◌||◌, Option, Some, None}
use Rattle.std.proofs.lemmas.Bool.{leb-true}
use Rattle.adj_word.specs.Word.{add, sub, mul, negated, power}
use Rattle.def_meaning.specs.Numbers.{Numbers}
use Rattle.def_meaning.specs.Scene.{Outcome, Done, Trapped, More, Full}
use Rattle.def_meaning.specs.Units.{Slot, Output, run_unit}
use Rattle.def_meaning.specs.Seen.{Projects, slot_seen, ending_seen}
use Rattle.law_meaning.proofs.Projected.{run_projected}
use Rattle.def_jacobian.specs.Columns.{Columns, no_column, one_column, together, marked}
use Rattle.def_jacobian.specs.Inputs.{by_columns}
use Rattle.def_jacobian.specs.Patterns.{Task, Place, held, pattern_run}
use Rattle.law_jacobian.proofs.Runs.{input_seen, held_seen}
use Rattle.adj_jacobian_few.specs.declared.few.Few.{Few}
use Rattle.adj_jacobian_few.specs.declared.few.Kept.{Kept}
use Rattle.adj_jacobian_few.specs.declared.few.Kept.TheVariants.{Listed, Many}
use Rattle.adj_jacobian_few.specs.Merged.{merged}
use Rattle.adj_jacobian_few.specs.Few.{padded, sized, one_of, list_of, of_lists, either_of, few, own_few, Lists, Tells, FewTells, FewRunIsPattern}
use Rattle.adj_jacobian_few.proofs.Merging.{merged_increases, merged_has}
use Rattle.adj_jacobian_few.proofs.Sizing.{take_padded}

-- ---- what is kept tells of the set

sized_tells : (zs : List ℕ) (s : Columns) → Lists zs s → Tells (list_of (sized zs)) s
sized_tells zs s h = by (nat_le (length zs) 6) refl
  where
    by : (t : Bool) → nat_le (length zs) 6 ≡ t → Tells (list_of (sized zs)) s
    by true e =
        subst (λ c. Tells (list_of (cond c (Listed (length zs) (padded 6 zs)) Many)) s) (sym e)
        (subst (λ ws. Lists ws s) (sym (take_padded 6 zs (leb-true (length zs) 6 e))) h)
    by false e = subst (λ c. Tells (list_of (cond c (Listed (length zs) (padded 6 zs)) Many)) s) (sym e) tt

pub none_tells : Tells (list_of (sized [])) no_column
none_tells = record { increasing = tt; same = λ c. refl }

or_false : (a : Bool) → (a || false) ≡ a
or_false true = refl
or_false false = refl

pub one_tells : (j : ℕ) → Tells (list_of (one_of j)) (one_column j)
one_tells j = by (nat_lt j (2 ^ 32)) refl
  where
    by : (t : Bool) → nat_lt j (2 ^ 32) ≡ t → Tells (list_of (one_of j)) (one_column j)
    by true e =
        subst (λ c. Tells (list_of (cond c (sized (j ∷ [])) Many)) (one_column j)) (sym e)
        (sized_tells (j ∷ []) (one_column j) (record { increasing = (let h : 0 ≤ j = omega arith in h, tt); same = λ c. or_false (c == j) }))
    by false e = subst (λ c. Tells (list_of (cond c (sized (j ∷ [])) Many)) (one_column j)) (sym e) tt

pub lists_tell : (l r : Option (List ℕ)) (s t : Columns) → Tells l s → Tells r t → Tells (list_of (of_lists l r)) (together s t)
lists_tell (Some xs) (Some ys) s t h k = sized_tells (merged xs ys) (together s t) (record {
  increasing = merged_increases xs ys 0 h.increasing k.increasing;
  same = λ c. merged_has xs ys c ∙ ap₂ (λ a b. a || b) (h.same c) (k.same c);
})
lists_tell (Some xs) None s t h k = tt
lists_tell None r s t h k = tt

-- ---- numbers

pub record Told : Type 0 where
  pub word : ℤ
  pub kept : Kept
  pub columns : Columns
  pub tells : Tells (list_of kept) columns

-- a word without columns
abbrev pub bare : ℤ → Told
bare z = record { word = z; kept = sized []; columns = no_column; tells = none_tells }

-- the word of a column
abbrev pub own_told : ℤ → ℕ → Told
own_told z j = record { word = z; kept = one_of j; columns = one_column j; tells = one_tells j }

-- a word with the columns of either
abbrev pub joined : ℤ → Told → Told → Told
joined z a b = record { word = z; kept = either_of a.kept b.kept; columns = together a.columns b.columns; tells = lists_tell (list_of a.kept) (list_of b.kept) a.columns b.columns a.tells b.tells }

abbrev pub told_power : Told → ℕ → Told
told_power a zero = bare (power a.word 0)
told_power a (suc k) = record a { word = power a.word (suc k) }

abbrev pub told : Numbers Told
told = record {
  of_word = bare;
  shown = λ a. a.word;
  negation = λ a. record a { word = negated a.word };
  sum = λ a b. joined (add a.word b.word) a b;
  difference = λ a b. joined (sub a.word b.word) a b;
  product = λ a b. joined (mul a.word b.word) a b;
  raised_to = told_power;
}

-- what is seen of them
abbrev pub as_few : Told → Few
as_few a = record { value = a.word; columns = a.kept }

abbrev pub as_marked : Told → ℤ × Columns
as_marked a = (a.word, a.columns)

power_few : (a : Told) (k : ℕ) → as_few (told_power a k) ≡ few.raised_to (as_few a) k
power_few a zero = refl
power_few a (suc k) = refl

power_marked : (a : Told) (k : ℕ) → as_marked (told_power a k) ≡ marked.raised_to (as_marked a) k
power_marked a zero = refl
power_marked a (suc k) = refl

does_few : Projects as_few told few
does_few = record { of_word = λ z. refl; shown = λ a. refl; negation = λ a. refl; sum = λ a b. refl; difference = λ a b. refl; product = λ a b. refl; raised_to = power_few }

does_marked : Projects as_marked told marked
does_marked = record { of_word = λ z. refl; shown = λ a. refl; negation = λ a. refl; sum = λ a b. refl; difference = λ a b. refl; product = λ a b. refl; raised_to = power_marked }

-- ---- runs

-- what a cell holds at both ends
cell_told : (slots : List (Slot Told)) (a : Place) →
    Tells (list_of (held few (map (slot_seen as_few) slots) a.dummy a.cell).columns) (held marked (map (slot_seen as_marked) slots) a.dummy a.cell).1
cell_told slots a =
    subst (λ z. z)
    (λ i. Tells (list_of (held_seen as_few told few does_few slots a.dummy a.cell i).columns) (held_seen as_marked told marked does_marked slots a.dummy a.cell i).1)
    (held told slots a.dummy a.cell).tells

ending_told : (o : Outcome (Output Told)) → FewTells (ending_seen as_few o) (ending_seen as_marked o)
ending_told (Done out used) = (refl, cell_told out.slots)
ending_told (Trapped t line w) = (refl, refl)
ending_told (More w) = tt
ending_told (Full w) = tt

module _ (p : Task) where
  told_input : List (Slot Told)
  told_input = by_columns bare own_told p.vars p.input 0

  told_run : Outcome (Output Told)
  told_run = run_unit told p.units p.unit told_input [] p.room p.budget

  seen_few : ending_seen as_few told_run ≡ run_unit few p.units p.unit (by_columns few.of_word own_few p.vars p.input 0) [] p.room p.budget
  unfolding told_run told_input
  seen_few =
      run_projected as_few told few does_few p.units p.unit told_input [] p.room p.budget
      ∙ ap (λ vs. run_unit few p.units p.unit vs [] p.room p.budget) (input_seen as_few bare own_told p.vars p.input 0)

  seen_marked : ending_seen as_marked told_run ≡ pattern_run p
  unfolding told_run told_input
  seen_marked =
      run_projected as_marked told marked does_marked p.units p.unit told_input [] p.room p.budget
      ∙ ap (λ vs. run_unit marked p.units p.unit vs [] p.room p.budget) (input_seen as_marked bare own_told p.vars p.input 0)

  few_told : FewTells (run_unit few p.units p.unit (by_columns few.of_word own_few p.vars p.input 0) [] p.room p.budget) (pattern_run p)
  few_told = subst (λ z. z) (λ i. FewTells (seen_few i) (seen_marked i)) (ending_told told_run)

-- a run over words with few columns tells of the pattern run
pub few_tells : FewRunIsPattern
few_tells p = few_told p
