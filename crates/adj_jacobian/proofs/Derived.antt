-- The entries of products are those of the dense derivative.
use Rattle.std.proofs.Common.{◌≡◌, ℕ, zero, suc, ◌+◌, ◌<◌, Bool, true, false, List, [], ◌∷◌, ◌++◌, map, length, get_or, refl, sym, ap, subst, ◌∙◌, arith}
use Rattle.std.proofs.Math.Dec.{ltb}
use Rattle.std.proofs.lemmas.Bool.{ltb-true, ltb-false}
use Rattle.std.specs.Prelude.{ℤ, slice_get, Some}
use Rattle.std.specs.List.{All}
use Rattle.std.proofs.lemmas.List.{length-map, get_or-map}
use Rattle.std.proofs.lemmas.List.Elements.{All-filter}
use Rattle.adj_tree.specs.declared.value.Slot.{Slot as CodeSlot}
use Rattle.def_meaning.specs.Scene.{Outcome, Done, Trapped, More, Full}
use Rattle.def_meaning.specs.Units.{Output}
use Rattle.def_jacobian.specs.Columns.{Columns}
use Rattle.def_jacobian.specs.Patterns.{Task, Place, pattern_run, dual_run, columns_at, tangent_of, dense}
use Rattle.def_jacobian.specs.Groups.{has, group_of, count_of, AreLeastGroups, seed}
use Rattle.def_jacobian.specs.Recovered.{from, Row, places, rows_at, columns_in, entries, found}
use Rattle.law_jacobian.proofs.Grouping.{in_own, groups_counted}
use Rattle.law_jacobian.proofs.Recovering.{Among, listed_in, columns_of_row, entries_alike, recovers_dense}
use Rattle.adj_jacobian_groups.specs.declared.sparsity.Row.{Row as CodeRow}
use Rattle.adj_jacobian_groups.specs.declared.sparsity.Sparsity.{Sparsity}
use Rattle.adj_jacobian_groups.specs.View.{place_of, row_of, rows_of, columns_of_rows, AreNumbered}
use Rattle.adj_jacobian.specs.declared.entry.Derivative.{Derivative}
use Rattle.adj_jacobian.specs.Products.{entry_of, tangent_in}
use Rattle.adj_jacobian.specs.Ends.{PatternOf}
use Rattle.adj_jacobian.specs.Derives.{AreProducts, DerivativeOf}
use Rattle.adj_jacobian.proofs.Ranges.{length_from}

-- ---- the numbers in rows

from_at : (i n k d : ℕ) → k < n → get_or (from i n) k d ≡ i + k
from_at i zero k d h = absurd (omega (arith, h))
from_at i (suc n) zero d h = let e : i ≡ i + 0 = omega arith in e
from_at i (suc n) (suc k) d h = from_at (suc i) n k d (omega (arith, h)) ∙ (let e : suc i + k ≡ i + suc k = omega arith in e)

from_below : (n : ℕ) → All (λ c. c < n) (from 0 n)
from_below n = λ k d h. let many = length_from 0 n in let lt : k < n = omega (arith, h, many) in let e = from_at 0 n k d lt in (let b : get_or (from 0 n) k d < n = omega (arith, e, lt) in b)

-- the columns of each row are numbers of columns
rows_below : (out : Output (ℤ × Columns)) (n : ℕ) (cells : List Place) (k : ℕ) (e : Row) → k < length (rows_at out n cells) → All (λ c. c < n) (get_or (rows_at out n cells) k e).columns
rows_below out n [] k e h = absurd (omega (arith, h))
rows_below out n (a ∷ others) zero e h = All-filter (columns_at out a) (λ c. c < n) (from 0 n) (from_below n)
rows_below out n (a ∷ others) (suc k) e h = rows_below out n others k e (omega (arith, h))

rows_numbered : (out : Output (ℤ × Columns)) (n : ℕ) (cells : List Place) (rs : List CodeRow) → rows_of rs ≡ rows_at out n cells → All (λ (r : CodeRow). All (λ c. c < n) r.columns) rs
rows_numbered out n cells rs e = λ k d h.
    let many = length-map rs row_of in
    let same = ap length e in
    let lt : k < length (rows_at out n cells) = omega (arith, h, many, same) in
    subst (λ (r : Row). All (λ c. c < n) r.columns) (ap (λ zs. get_or zs k (row_of d)) (sym e) ∙ get_or-map row_of rs k d (row_of d) h) (rows_below out n cells k (row_of d) lt)

pub numbered : (p : Task) (outvars : List Bool) (q : Outcome (Output (ℤ × Columns))) (s : Sparsity) → PatternOf p outvars q s → AreNumbered s
numbered p outvars (Done out used) s h =
    let n : length (places p.vars p.input 0) ≡ length s.cols = sym (ap length h.columns) ∙ length-map s.cols place_of in
    rows_numbered out (length s.cols) (places outvars p.input 0) s.rows (h.rows ∙ ap (λ m. rows_at out m (places outvars p.input 0)) n)
numbered p outvars (Trapped t line w) s h = absurd h
numbered p outvars (More w) s h = absurd h
numbered p outvars (Full w) s h = absurd h

-- the columns of a pattern
pub columns_told : (p : Task) (outvars : List Bool) (q : Outcome (Output (ℤ × Columns))) (s : Sparsity) → PatternOf p outvars q s → map place_of s.cols ≡ places p.vars p.input 0
columns_told p outvars (Done out used) s h = h.columns
columns_told p outvars (Trapped t line w) s h = absurd h
columns_told p outvars (More w) s h = absurd h
columns_told p outvars (Full w) s h = absurd h

-- a list has a member at a place within it
pub record Member {X : Type 0} (xs : List X) (i : ℕ) : Type 0 where
  pub member : X
  pub at : slice_get xs i ≡ Some member

pub member_at : {X : Type 0} (xs : List X) (i : ℕ) → i < length xs → Member xs i
member_at [] i h = absurd (omega (arith, h))
member_at (x ∷ xs) zero h = record { member = x; at = refl }
member_at (x ∷ xs) (suc i) h = let m = member_at xs i (omega (arith, h)) in record { member = m.member; at = m.at }

-- ---- entries

module _ (p : Task) (out : Output (ℤ × Columns)) (used : ℕ) (done : pattern_run p ≡ Done out used) (n : ℕ) (cells : List Place) (groups : List ℕ) (count : ℕ) (products : List (List CodeSlot)) where
  -- each entry is found in the product of its column's group
  entry_told : AreLeastGroups (columns_in (rows_at out n cells)) n groups → count ≡ count_of groups → AreProducts p groups count products →
      (r : Row) → Among r (rows_at out n cells) → (c : ℕ) → has r.columns c ≡ true →
      found groups (tangent_in products) r.at c ≡ found groups (λ g. tangent_of (dual_run p (seed groups g))) r.at c
  entry_told least many told r m c h =
      let inside : c < 0 + n = (listed_in (columns_at out r.at) 0 n c (ap (λ cs. has cs c) (sym (columns_of_row out n cells r m)) ∙ h)).1 in
      let each = least.each in
      let own = in_own groups c (omega (arith, inside, each)) in
      let below = (groups_counted groups (group_of groups c)).0 c own in
      told.told (group_of groups c) (omega (arith, below, many)) r.at

  pub entries_told : AreLeastGroups (columns_in (rows_at out n cells)) n groups → count ≡ count_of groups → AreProducts p groups count products →
      entries (found groups (tangent_in products)) (rows_at out n cells) 0 ≡ entries (dense p) (rows_at out n cells) 0
  entries_told least many told =
      entries_alike (found groups (tangent_in products)) (found groups (λ g. tangent_of (dual_run p (seed groups g)))) (rows_at out n cells) 0 (entry_told least many told)
      ∙ recovers_dense p out used done cells n groups least

-- a derivative that is put together from a pattern, its groups and a product for each
pub derived : (p : Task) (outvars : List Bool) (q : Outcome (Output (ℤ × Columns))) → pattern_run p ≡ q → (d : Derivative) (products : List (List CodeSlot)) →
    PatternOf p outvars q d.sparsity → AreLeastGroups (columns_of_rows d.sparsity.rows) (length d.sparsity.cols) d.grouping.group → d.grouping.count ≡ count_of d.grouping.group →
    AreProducts p d.grouping.group d.grouping.count products → map entry_of d.jacobian.entries ≡ entries (found d.grouping.group (tangent_in products)) (rows_of d.sparsity.rows) 0 →
    DerivativeOf p outvars q d
derived p outvars (Done out used) e d products h least many told made =
    let cells = places outvars p.input 0 in
    let n : length d.sparsity.cols ≡ length (places p.vars p.input 0) = sym (length-map d.sparsity.cols place_of) ∙ ap length h.columns in
    let groups : AreLeastGroups (columns_in (rows_at out (length (places p.vars p.input 0)) cells)) (length (places p.vars p.input 0)) d.grouping.group =
    subst (λ z. z) (λ i. AreLeastGroups (columns_in (h.rows i)) (n i) d.grouping.group) least in
    record {
      columns = h.columns;
      rows = h.rows;
      groups = least;
      count = many;
      entries =
          made ∙ ap (λ rs. entries (found d.grouping.group (tangent_in products)) rs 0) h.rows
          ∙ entries_told p out used e (length (places p.vars p.input 0)) cells d.grouping.group d.grouping.count products groups many told
          ∙ ap (λ rs. entries (dense p) rs 0) (sym h.rows);
    }
derived p outvars (Trapped t line w) e d products h least many told made = absurd h
derived p outvars (More w) e d products h least many told made = absurd h
derived p outvars (Full w) e d products h least many told made = absurd h

-- ---- products one after the other

-- a product among those before, and the last
before_last : (ps : List (List CodeSlot)) (x : List CodeSlot) (g : ℕ) (a : Place) → g < length ps → tangent_in (ps ++ x ∷ []) g a ≡ tangent_in ps g a
before_last [] x g a h = absurd (omega (arith, h))
before_last (y ∷ ys) x zero a h = refl
before_last (y ∷ ys) x (suc g) a h = before_last ys x g a (omega (arith, h))

the_last : (ps : List (List CodeSlot)) (x : List CodeSlot) (g : ℕ) (a : Place) → g ≡ length ps → tangent_in (ps ++ x ∷ []) g a ≡ tangent_in (x ∷ []) 0 a
the_last [] x zero a h = refl
the_last [] x (suc g) a h = absurd (omega (arith, h))
the_last (y ∷ ys) x zero a h = absurd (omega (arith, h))
the_last (y ∷ ys) x (suc g) a h = the_last ys x g a (omega (arith, h))

length_more : {X : Type 0} (xs : List X) (y : X) → length (xs ++ y ∷ []) ≡ length xs + 1
length_more [] y = refl
length_more (z ∷ zs) y = ap suc (length_more zs y) ∙ (let e : suc (length zs + 1) ≡ suc (length zs) + 1 = omega arith in e)

-- one product more
pub products_more : (p : Task) (groups : List ℕ) (count : ℕ) (ps : List (List CodeSlot)) (x : List CodeSlot) → AreProducts p groups count ps →
    ((a : Place) → tangent_in (x ∷ []) 0 a ≡ tangent_of (dual_run p (seed groups count)) a) → AreProducts p groups (count + 1) (ps ++ x ∷ [])
products_more p groups count ps x h new = record {
  each = length_more ps x ∙ ap (λ n. n + 1) h.each;
  told = told;
}
  where
    each : length ps ≡ count
    each = h.each

    by : (b : Bool) (g : ℕ) → ltb g count ≡ b → g < count + 1 → (a : Place) → tangent_in (ps ++ x ∷ []) g a ≡ tangent_of (dual_run p (seed groups g)) a
    by true g e lt a = let less : g < count = ltb-true g count e in before_last ps x g a (omega (arith, less, each)) ∙ h.told g less a
    by false g e lt a =
        let at : g ≡ count = (let past = ltb-false g count e in omega (arith, past, lt)) in
        the_last ps x g a (omega (arith, at, each)) ∙ new a ∙ ap (λ m. tangent_of (dual_run p (seed groups m)) a) (sym at)

    told : (g : ℕ) → g < count + 1 → (a : Place) → tangent_in (ps ++ x ∷ []) g a ≡ tangent_of (dual_run p (seed groups g)) a
    told g lt a = by (ltb g count) g refl lt a
