-- Blocks that a unit lays out otherwise than the first, found block by block.
use Rattle.std.specs.Prelude.{ℕ, ◌==◌, ◌+◌, ◌-◌, nat_lt, List, [], ◌∷◌, ◌++◌, map, length, Bool, true, false, not, Option, Some, None, if◌then◌else◌}
use Rattle.std.specs.List.{slice_get}
use Rattle.adj_tree.specs.Code.{Extent}
use Rattle.def_common.specs.Refused.{is_same_layout}
use Rattle.adj_common.specs.Tables.{beside}
use Rattle.adj_common.specs.Entries.{Entry, OwnBlocks}
use Rattle.adj_common.specs.Texts.{TextBlocks, at_place, name_of_block}

abbrev pub layout_of : List Entry → List (List Extent)
layout_of es = map (λ e. e.extents) es

abbrev pub are_alike : Option (List Entry) → Option (List Entry) → Bool
are_alike None r = true
are_alike (Some l) None = false
are_alike (Some l) (Some r) = is_same_layout (layout_of l) (layout_of r)

-- both lay out a block alike, where the first has it
abbrev pub alike_in : OwnBlocks → OwnBlocks → List ℕ → Bool
alike_in o first b = are_alike (beside o.names o.groups b) (beside first.names first.groups b)

-- ---- the units of a block

abbrev pub unless : Option ℕ → List ℕ → ℕ → List ℕ
unless None us u = us ++ u ∷ []
unless (Some x) us u = if x == u then us else us ++ u ∷ []

-- one more, unless it is the last
abbrev pub with_unit : List ℕ → Option ℕ → List ℕ
with_unit us None = us
with_unit us (Some u) = unless (slice_get us (length us - 1)) us u

abbrev pub units_from : List ℕ → List ℕ → List ℕ → List ℕ
units_from us owners [] = us
units_from us owners (k ∷ ks) = units_from (with_unit us (slice_get owners k)) owners ks

-- those of the statements at the places of a row
abbrev pub units_of_row : List ℕ → List ℕ → List ℕ
units_of_row owners row = units_from [] owners row

-- ---- the first odd one

abbrev pub is_odd_own : OwnBlocks → List ℕ → Option OwnBlocks → Bool
is_odd_own first b None = false
is_odd_own first b (Some o) = not (alike_in o first b)

abbrev pub odd_among : List OwnBlocks → OwnBlocks → List ℕ → List ℕ → Option ℕ
odd_among os first b [] = None
odd_among os first b (u ∷ us) = if is_odd_own first b (slice_get os u) then Some u else odd_among os first b us

-- the line of its last statement of the block
abbrev pub line_or : Option ℕ → ℕ
line_or None = 0
line_or (Some n) = n

abbrev pub line_in : List ℕ → Option OwnBlocks → ℕ
line_in b None = 0
line_in b (Some o) = line_or (beside o.names o.lines b)

abbrev pub line_at : List OwnBlocks → List ℕ → Option ℕ → Option ℕ
line_at os b None = None
line_at os b (Some u) = Some (line_in b (slice_get os u))

abbrev pub odd_line_from : List OwnBlocks → List ℕ → List ℕ → Option OwnBlocks → Option ℕ
odd_line_from os b us None = None
odd_line_from os b us (Some first) = line_at os b (odd_among os first b us)

-- the line of the refusal of a block, where units declare it
abbrev pub odd_line : List OwnBlocks → List ℕ → List ℕ → Option ℕ
odd_line os b us = odd_line_from os b us (at_place os (slice_get us 0))

abbrev pub odd_line_of : List OwnBlocks → TextBlocks → List ℕ → Option (List ℕ) → Option ℕ
odd_line_of os t row None = None
odd_line_of os t row (Some b) = odd_line os b (units_of_row t.owners row)

-- the lesser of two lines
abbrev pub earlier_line : Option ℕ → Option ℕ → Option ℕ
earlier_line None other = other
earlier_line (Some n) None = Some n
earlier_line (Some n) (Some m) = if nat_lt m n then Some m else Some n

-- that of the blocks from one on
abbrev pub earliest_from : List OwnBlocks → TextBlocks → ℕ → List (List ℕ) → Option ℕ → Option ℕ
earliest_from os t b [] line = line
earliest_from os t b (row ∷ rows) line = earliest_from os t (b + 1) rows (earlier_line line (odd_line_of os t row (name_of_block t b)))

-- the first of all in the text
abbrev pub refused_line : List OwnBlocks → TextBlocks → Option ℕ
refused_line os t = earliest_from os t 0 t.table.rows None
