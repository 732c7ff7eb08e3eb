-- Searches over rows of bits: what a step of one does.
use Rattle.std.specs.Prelude.{◌≡◌, ℕ, ◌+◌, ◌*◌, ◌/◌, ◌%◌, ◌<◌, ◌≤◌, ◌^◌, ◌-◌, ◌⊎◌, List, [], length, All, Contains, true, false, get_or, slice_set, replicate, sum_by}
use Rattle.std.specs.Int.{bit_at}
use Rattle.adj_reach.specs.Edges.{Edges, flag}
use Rattle.adj_tree.specs.Bits.{bit}
use Rattle.adj_reach_rows.specs.Bits.{column}
use Rattle.adj_reach_rows.specs.Arcs.{bit_in, is_left}
use Rattle.adj_reach_rows.specs.declared.arc.Arc.{Arc}
use Rattle.adj_reach_rows.specs.declared.bits.Rows.{Rows}
use Rattle.adj_reach_rows.specs.declared.search.Search.{Search}

-- the place of a node's bit, where a row has so many words
abbrev pub place_of : ℕ → ℕ → ℕ → ℕ
place_of width words x = x / width * words * 64 + x % width

-- the rows of seen and of fresh nodes are as many as there are that may wait, and what waits is among them
pub record Fits (s : Search) : Type 0 where
  pub some : 0 < s.words
  pub seen : length s.seen.items ≡ length s.waits.items * s.words
  pub fresh : length s.fresh.items ≡ length s.waits.items * s.words
  pub waiting : All (λ p. p < length s.waits.items) s.waiting.items

-- no node was seen
pub record IsNew (count size : ℕ) (s : Search) : Type 0 where
  pub words : s.words ≡ size
  pub seen : s.seen.items ≡ replicate (count * size) 0
  pub fresh : s.fresh.items ≡ replicate (count * size) 0
  pub waits : s.waits.items ≡ replicate count false
  pub waiting : s.waiting.items ≡ []

-- the row of each fresh node waits
pub record IsAwake (s : Search) : Type 0 where
  pub fresh : (n : ℕ) → bit s.fresh.items n ≡ 1 → flag s.waits.items (n / 64 / s.words) ≡ true
  pub waits : (p : ℕ) → flag s.waits.items p ≡ true → Contains s.waiting.items p

-- how much is left to be seen, at most
abbrev pub left_in : List ℕ → ℕ
left_in words = sum_by (λ w. 2 ^ 64 - w) words

-- a search went on from another by seeing some places
pub record Grown (Marked : ℕ → Type 0) (a b : Search) : Type 0 where
  pub words : b.words ≡ a.words
  pub rows : length b.waits.items ≡ length a.waits.items
  pub fits : Fits b
  -- what was seen or fresh is so, and the places are seen
  pub seen : (n : ℕ) → bit a.seen.items n ≡ 1 → bit b.seen.items n ≡ 1
  pub fresh : (n : ℕ) → bit a.fresh.items n ≡ 1 → bit b.fresh.items n ≡ 1
  pub marked : (n : ℕ) → Marked n → bit b.seen.items n ≡ 1
  -- what is new is one of the places, and fresh
  pub new : (n : ℕ) → bit b.seen.items n ≡ 1 → (bit a.seen.items n ≡ 1) ⊎ (Marked n × (bit b.fresh.items n ≡ 1))
  -- what is newly fresh was seen
  pub known : (n : ℕ) → bit b.fresh.items n ≡ 1 → (bit a.fresh.items n ≡ 1) ⊎ (bit b.seen.items n ≡ 1)
  pub awake : IsAwake a → IsAwake b
  pub work : left_in b.seen.items + length b.waiting.items ≤ left_in a.seen.items + length a.waiting.items

-- the bits of a word at a place of the words
abbrev pub IsMarked : ℕ → ℕ → ℕ → Type 0
IsMarked word bits n = (n / 64 ≡ word) × (bit_at bits (n % 64) ≡ 1)

-- what an arc carries of some bits, in the first words
pub record IsCarried (words : ℕ) (bits : List ℕ) (rows : Rows) (a : Arc) (top n : ℕ) : Type 0 where
  pub variable : ℕ
  pub within : variable < top * 64
  pub taken : bit bits variable ≡ 1
  pub kept : bit_in rows a.kept variable ≡ 1
  pub stays : is_left a.left variable ≡ false
  pub place : n ≡ a.to * words * 64 + variable

-- what arcs from a row carry of some bits, those from a place of the list on
pub record IsFollowed (words : ℕ) (bits : List ℕ) (rows : Rows) (arcs : List Arc) (from row n : ℕ) : Type 0 where
  pub arc : Arc
  pub place : ℕ
  pub later : from ≤ place
  pub within : place < length arcs
  pub is : (d : Arc) → get_or arcs place d ≡ arc
  pub row_is : arc.from ≡ row
  pub carried : IsCarried words bits rows arc words n

-- the nodes to which edges lead from some bits of a row, those from a place of the list on
pub record IsLed (width words : ℕ) (bits : List ℕ) (edges : Edges) (from row n : ℕ) : Type 0 where
  pub edge : ℕ × ℕ
  pub place : ℕ
  pub later : from ≤ place
  pub within : place < length edges
  pub is : (d : ℕ × ℕ) → get_or edges place d ≡ edge
  pub row_is : edge.0 / width ≡ row
  pub taken : bit bits (edge.0 % width) ≡ 1
  pub to : n ≡ place_of width words edge.1

-- a row is taken: its fresh nodes are the bits, and are fresh no more
pub record Took (row : ℕ) (a b : Search) (bits : List ℕ) : Type 0 where
  pub words : b.words ≡ a.words
  pub seen : b.seen.items ≡ a.seen.items
  pub waiting : b.waiting.items ≡ a.waiting.items
  pub waits : b.waits.items ≡ slice_set a.waits.items row false
  pub size : length b.fresh.items ≡ length a.fresh.items
  pub taken : (j : ℕ) → j < a.words * 64 → bit bits j ≡ column a.fresh.items a.words row j
  pub gone : (n : ℕ) → n / 64 / a.words ≡ row → bit b.fresh.items n ≡ 0
  pub others : (n : ℕ) → ¬ (n / 64 / a.words ≡ row) → bit b.fresh.items n ≡ bit a.fresh.items n
