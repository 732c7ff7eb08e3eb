-- Rows with lists of few columns, among those that were found otherwise.
use Rattle.std.proofs.Common.{◌≡◌, ℕ, zero, suc, ◌+◌, ◌<◌, ◌≤◌, Bool, true, false, List, [], ◌∷◌, map, length, filter, cond, refl, sym, ap, ap₂, subst, ◌∙◌, eqb-true, eq-eqb, arith}
use Rattle.std.specs.Prelude.{ℤ, ◌==◌, ◌||◌, is_none, Option, Some, None}
use Rattle.std.proofs.lemmas.List.{length-map}
use Rattle.std.proofs.lemmas.Bool.{ne_eqb, eqb-false}
use Rattle.def_meaning.specs.Scene.{Outcome, Done, Trapped, More, Full}
use Rattle.def_meaning.specs.Units.{Slot, Output}
use Rattle.def_jacobian.specs.Columns.{Columns}
use Rattle.def_jacobian.specs.Groups.{has}
use Rattle.def_jacobian.specs.Patterns.{Task, Place, pattern_run, columns_at}
use Rattle.def_jacobian.specs.Recovered.{from, Row, listed, places, rows_at}
use Rattle.adj_jacobian_few.specs.declared.few.Few.{Few}
use Rattle.adj_jacobian_few.specs.Merged.{IncreasesFrom}
use Rattle.adj_jacobian_few.specs.Few.{Lists, Tells}
use Rattle.adj_jacobian_groups.specs.declared.sparsity.Sparsity.{Sparsity}
use Rattle.adj_jacobian_groups.specs.View.{place_of, rows_of}
use Rattle.adj_jacobian.specs.Lists.{list_in, is_open, row_in, left_in, woven}
use Rattle.adj_jacobian.specs.Ends.{IsFew, WholeRows, PatternOf}
use Rattle.adj_jacobian.proofs.Within.{columns_within}

-- ---- lists

-- a number below an increasing list isn't in it
none_below : (zs : List ℕ) (i c : ℕ) → IncreasesFrom i zs → c < i → has zs c ≡ false
none_below [] i c h lt = refl
none_below (z ∷ zs) i c h lt =
    let least : i ≤ z = h.0 in
    ap₂ (λ a b. a || b) (ne_eqb c z (λ e. let n : ⊥ = omega (arith, e, lt, least) in n)) (none_below zs (suc z) c h.1 (omega (arith, lt, least)))

-- the numbers of a range that a list has are the list, where they increase and none is outside
list_filtered : (s : Columns) (m b : ℕ) (zs : List ℕ) → IncreasesFrom b zs → ((c : ℕ) → b ≤ c → has zs c ≡ s c) → ((c : ℕ) → s c ≡ true → c < b + m) → filter s (from b m) ≡ zs
list_filtered s zero b [] h same inside = refl
list_filtered s zero b (z ∷ zs) h same inside =
    let first : b ≤ z = h.0 in
    let here : s z ≡ true = sym (same z first) ∙ ap (λ a. a || has zs z) (eq-eqb z z refl) in
    let less : z < b + 0 = inside z here in
    absurd (omega (arith, first, less))
list_filtered s (suc m) b [] h same inside =
    ap (λ t. cond t (b ∷ filter s (from (suc b) m)) (filter s (from (suc b) m))) (sym (same b (let le : b ≤ b = omega arith in le)))
    ∙ list_filtered s m (suc b) [] tt (λ c le. same c (let l : b ≤ c = omega (arith, le) in l)) (λ c k. let l = inside c k in let n : c < suc b + m = omega (arith, l) in n)
list_filtered s (suc m) b (z ∷ zs) h same inside = by (λ ws i k l. list_filtered s m (suc b) ws i k l) (b == z) refl
  where
    first : b ≤ z
    first = h.0

    later : (c : ℕ) → s c ≡ true → c < suc b + m
    later c k = let l = inside c k in omega (arith, l)

    by : ((ws : List ℕ) → IncreasesFrom (suc b) ws → ((c : ℕ) → suc b ≤ c → has ws c ≡ s c) → ((c : ℕ) → s c ≡ true → c < suc b + m) → filter s (from (suc b) m) ≡ ws) → (t : Bool) → (b == z) ≡ t → filter s (from b (suc m)) ≡ z ∷ zs
    by more true e =
        let equal : b ≡ z = eqb-true b z e in
        ap (λ t. cond t (b ∷ filter s (from (suc b) m)) (filter s (from (suc b) m))) (sym (same b (let le : b ≤ b = omega arith in le)) ∙ ap (λ t. t || has zs b) e)
        ∙ ap₂ (λ y ys. y ∷ ys) equal
        (more zs (subst (λ n. IncreasesFrom (suc n) zs) (sym equal) h.1)
        (λ c le. ap (λ t. t || has zs c) (sym (ne_eqb c z (λ q. let n : ⊥ = omega (arith, q, equal, le) in n))) ∙ same c (let l : b ≤ c = omega (arith, le) in l)) later)
    by more false e =
        let apart : (b ≡ z) → ⊥ = eqb-false b z e in
        let less : b < z = omega (arith, first, apart) in
        ap (λ t. cond t (b ∷ filter s (from (suc b) m)) (filter s (from (suc b) m)))
        (sym (same b (let le : b ≤ b = omega arith in le)) ∙ ap₂ (λ x y. x || y) e (none_below zs (suc z) b h.1 (omega (arith, less))))
        ∙ more (z ∷ zs) (less, h.1) (λ c le. same c (let l : b ≤ c = omega (arith, le) in l)) later

list_whole : (s : Columns) (n : ℕ) (zs : List ℕ) → Lists zs s → ((c : ℕ) → s c ≡ true → c < n) → zs ≡ listed s n
list_whole s n zs h inside = sym (list_filtered s n 0 zs h.increasing (λ c le. h.same c) (λ c k. let l = inside c k in let m : c < 0 + n = omega (arith, l) in m))

-- ---- rows

module _ (out : Output (ℤ × Columns)) (n : ℕ) (slots : List (Slot Few)) (tells : (a : Place) → Tells (list_in slots a) (columns_at out a)) (inside : (a : Place) (c : ℕ) → columns_at out a c ≡ true → c < n) where
  -- a cell's row and those of the cells behind it, by its list
  abbrev with_list : Place → List Place → Option (List ℕ) → List Row
  with_list a cells l =
      row_in l a (rows_at out n (cond (is_none l) (a ∷ filter (is_open slots) cells) (filter (is_open slots) cells)))
      ∷ woven slots cells (left_in l (rows_at out n (cond (is_none l) (a ∷ filter (is_open slots) cells) (filter (is_open slots) cells))))

  -- rows with lists, and the others in order between them, are all rows
  woven_rows : (cells : List Place) → woven slots cells (rows_at out n (filter (is_open slots) cells)) ≡ rows_at out n cells
  woven_rows [] = refl
  woven_rows (a ∷ cells) = by (list_in slots a) refl (tells a) (woven_rows cells)
    where
      by : (l : Option (List ℕ)) → list_in slots a ≡ l → Tells l (columns_at out a) → woven slots cells (rows_at out n (filter (is_open slots) cells)) ≡ rows_at out n cells → with_list a cells (list_in slots a) ≡ rows_at out n (a ∷ cells)
      by (Some zs) e h rest = ap (with_list a cells) e ∙ ap₂ (λ cs rs. record { at = a; columns = cs } ∷ rs) (list_whole (columns_at out a) n zs h (inside a)) rest
      by None e h rest = ap (with_list a cells) e ∙ ap (λ rs. record { at = a; columns = listed (columns_at out a) n } ∷ rs) rest

-- ---- patterns

pattern_done : (p : Task) (outvars : List Bool) (q : Outcome (Output (ℤ × Columns))) (s : Sparsity) (total : ℕ) (slots : List (Slot Few)) (others : List Row) → pattern_run p ≡ q →
    map place_of s.cols ≡ places p.vars p.input 0 → total ≡ length s.cols → IsFew q slots → WholeRows total (filter (is_open slots) (places outvars p.input 0)) q others →
    rows_of s.rows ≡ woven slots (places outvars p.input 0) others → PatternOf p outvars q s
pattern_done p outvars (Done out used) s total slots others e columns many lists whole rows =
    let cells = places outvars p.input 0 in
    let n = length (places p.vars p.input 0) in
    let same : total ≡ n = many ∙ sym (length-map s.cols place_of) ∙ ap length columns in
    record {
      columns = columns;
      rows =
          rows ∙ ap (woven slots cells) (whole ∙ ap (λ t. rows_at out t (filter (is_open slots) cells)) same)
          ∙ woven_rows out n slots lists (λ a c. columns_within p out used e a c) cells;
    }
pattern_done p outvars (Trapped t line w) s total slots others e columns many lists whole rows = absurd lists
pattern_done p outvars (More w) s total slots others e columns many lists whole rows = absurd lists
pattern_done p outvars (Full w) s total slots others e columns many lists whole rows = absurd lists

-- the pattern, put together from its columns, lists of few columns, and the other rows
pub pattern_whole : (p : Task) (outvars : List Bool) (s : Sparsity) (total : ℕ) (slots : List (Slot Few)) (others : List Row) →
    map place_of s.cols ≡ places p.vars p.input 0 → total ≡ length s.cols → IsFew (pattern_run p) slots → WholeRows total (filter (is_open slots) (places outvars p.input 0)) (pattern_run p) others →
    rows_of s.rows ≡ woven slots (places outvars p.input 0) others → PatternOf p outvars (pattern_run p) s
pattern_whole p outvars s total slots others columns many lists whole rows = pattern_done p outvars (pattern_run p) s total slots others refl columns many lists whole rows
