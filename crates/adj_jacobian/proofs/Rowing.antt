-- Rows of a pattern, block by block.
use Rattle.std.proofs.Common.{◌≡◌, ℕ, ◌+◌, ◌*◌, ◌/◌, ◌<◌, ◌≤◌, min, List, [], ◌∷◌, ◌++◌, map, length, filter, refl, sym, ap, ap₂, ◌∙◌, eq-eqb, arith}
use Rattle.std.specs.Prelude.{ℤ, ◌&&◌}
use Rattle.def_meaning.specs.Scene.{Outcome, Done, Trapped, More, Full}
use Rattle.def_meaning.specs.Units.{Slot, Output}
use Rattle.def_jacobian.specs.Columns.{Columns}
use Rattle.def_jacobian.specs.Patterns.{Place, held, columns_at}
use Rattle.def_jacobian.specs.Recovered.{from, Row, listed, rows_at}
use Rattle.adj_jacobian_block.specs.declared.block.Block.{Block}
use Rattle.adj_jacobian_block.specs.Blocks.{blocks, columns_of, inside_block}
use Rattle.adj_jacobian_groups.specs.declared.sparsity.Cell.{Cell}
use Rattle.adj_jacobian_groups.specs.View.{place_of}
use Rattle.adj_jacobian.specs.Parts.{columns_from, width_of, with_block, bare}
use Rattle.adj_jacobian.specs.Ends.{IsPart, RowsOf, WholeRows}
use Rattle.adj_jacobian.proofs.Ranges.{filter_parts, filter_alike, and_true}

-- a row with the columns of one block more
row_more : (s : Columns) (k w : ℕ) (mask : List ℕ) → w ≤ 256 → ((c : ℕ) → columns_of k mask c ≡ (s c && inside_block k c)) → listed s (256 * k) ++ columns_from k mask (256 * k) w ≡ listed s (256 * k + w)
row_more s k w mask h part =
    ap (λ cs. listed s (256 * k) ++ cs) (filter_alike (columns_of k mask) s (256 * k) w told ∙ ap (λ j. filter s (from j w)) (let e : 256 * k ≡ 0 + 256 * k = omega arith in e))
    ∙ sym (filter_parts s 0 (256 * k) w)
  where
    told : (c : ℕ) → 256 * k ≤ c → c < 256 * k + w → columns_of k mask c ≡ s c
    told c le lt = part c ∙ and_true (s c) (inside_block k c) (eq-eqb (c / 256) k (omega (arith, le, lt, h)))

width_within : (k total : ℕ) → width_of k total ≤ 256
width_within k total = omega arith

pub rows_more : (k total used : ℕ) (out : Output (ℤ × Columns)) (slots : List (Slot Block)) → IsPart k (Done out used) slots → (cells : List Place) →
    map (with_block k total slots) (rows_at out (256 * k) cells) ≡ rows_at out (256 * k + width_of k total) cells
rows_more k total used out slots part [] = refl
rows_more k total used out slots part (a ∷ others) =
    ap₂ (λ cs rs. record { at = a; columns = cs } ∷ rs)
    (row_more (columns_at out a) k (width_of k total) (held blocks slots a.dummy a.cell).columns (width_within k total) (part a))
    (rows_more k total used out slots part others)

-- rows with a block's columns are those of one block more
pub rows_told : (k total : ℕ) (q : Outcome (Output (ℤ × Columns))) (slots : List (Slot Block)) (rows new : List Row) → IsPart k q slots → new ≡ map (with_block k total slots) rows → RowsOf k total rows q new
rows_told k total (Done out used) slots rows new part e = λ cells h. e ∙ ap (map (with_block k total slots)) h ∙ rows_more k total used out slots part cells
rows_told k total (Trapped t line w) slots rows new part e = absurd part
rows_told k total (More w) slots rows new part e = absurd part
rows_told k total (Full w) slots rows new part e = absurd part

-- ---- the rows so far

-- after some blocks the rows have the columns of these; a run that isn't done ended in the first
abbrev pub BuiltSo : ℕ → ℕ → List Place → Outcome (Output (ℤ × Columns)) → List Row → Type 0
BuiltSo k total cells (Done out used) rows = rows ≡ rows_at out (min total (256 * k)) cells
BuiltSo k total cells (Trapped t line w) rows = k ≡ 0
BuiltSo k total cells (More w) rows = k ≡ 0
BuiltSo k total cells (Full w) rows = k ≡ 0

bare_rows : (out : Output (ℤ × Columns)) (cells : List Place) → bare cells ≡ rows_at out 0 cells
bare_rows out [] = refl
bare_rows out (a ∷ others) = ap (λ rs. record { at = a; columns = [] } ∷ rs) (bare_rows out others)

pub built_first : (total : ℕ) (cells : List Place) (q : Outcome (Output (ℤ × Columns))) (rows : List Row) → rows ≡ bare cells → BuiltSo 0 total cells q rows
built_first total cells (Done out used) rows e = e ∙ bare_rows out cells ∙ ap (λ n. rows_at out n cells) (let z : 0 ≡ min total (256 * 0) = omega arith in z)
built_first total cells (Trapped t line w) rows e = refl
built_first total cells (More w) rows e = refl
built_first total cells (Full w) rows e = refl

pub built_next : (k total : ℕ) (cells : List Place) (q : Outcome (Output (ℤ × Columns))) (rows new : List Row) → 256 * k ≤ total → BuiltSo k total cells q rows → RowsOf k total rows q new → BuiltSo (k + 1) total cells q new
built_next k total cells (Done out used) rows new h so_far more =
    more cells (so_far ∙ ap (λ n. rows_at out n cells) (let e : min total (256 * k) ≡ 256 * k = omega (arith, h) in e))
    ∙ ap (λ n. rows_at out n cells) (let e : 256 * k + width_of k total ≡ min total (256 * (k + 1)) = omega (arith, h) in e)
built_next k total cells (Trapped t line w) rows new h so_far more = absurd more
built_next k total cells (More w) rows new h so_far more = absurd more
built_next k total cells (Full w) rows new h so_far more = absurd more

-- after all blocks they are whole
pub built_whole : (k total : ℕ) (cells : List Place) (q : Outcome (Output (ℤ × Columns))) (rows : List Row) → total ≤ 256 * k → BuiltSo k total cells q rows → WholeRows total cells q rows
built_whole k total cells (Done out used) rows all so_far = so_far ∙ ap (λ n. rows_at out n cells) (let e : min total (256 * k) ≡ total = omega (arith, all) in e)
built_whole k total cells (Trapped t line w) rows all so_far = tt
built_whole k total cells (More w) rows all so_far = tt
built_whole k total cells (Full w) rows all so_far = tt

-- where there are no cells there is nothing to find
pub no_rows : (total : ℕ) (cells : List Place) (q : Outcome (Output (ℤ × Columns))) (rows : List Row) → cells ≡ [] → rows ≡ [] → WholeRows total cells q rows
no_rows total cells (Done out used) rows none e = e ∙ sym (ap (rows_at out total) none)
no_rows total cells (Trapped t line w) rows none e = tt
no_rows total cells (More w) rows none e = tt
no_rows total cells (Full w) rows none e = tt

pub no_places : (cells : List Cell) → length cells ≡ 0 → map place_of cells ≡ []
no_places [] e = refl
no_places (a ∷ cells) e = absurd (omega (arith, e))
