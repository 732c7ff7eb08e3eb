-- The COMMON statements of a text in one list.
use Rattle.std.specs.Prelude.{ℕ, suc, List, [], ◌∷◌, ◌++◌, map, Option, Some, None}
use Rattle.std.specs.List.{slice_get}
use Rattle.adj_tree.specs.Common.{Shared}
use Rattle.adj_common.specs.Tables.{Table, tabled}
use Rattle.adj_common.specs.Entries.{block_names}

-- the blocks, and the name and the unit of each statement
pub record TextBlocks : Type 0 where
  pub table : Table
  pub names : List (List ℕ)
  pub owners : List ℕ

abbrev pub names_of_text : List Shared → List (List ℕ)
names_of_text [] = []
names_of_text (s ∷ ss) = block_names s.commons ++ names_of_text ss

-- the numbers of the units of all statements, units being numbered from one on
abbrev pub owners_from : ℕ → List Shared → List ℕ
owners_from k [] = []
owners_from k (s ∷ ss) = map (λ c. k) s.commons ++ owners_from (suc k) ss

abbrev pub text_blocks : List Shared → TextBlocks
text_blocks ss = record { table = tabled (names_of_text ss); names = names_of_text ss; owners = owners_from 0 ss }

-- ---- a block by its number

abbrev pub first_of_row : Option (List ℕ) → Option ℕ
first_of_row None = None
first_of_row (Some []) = None
first_of_row (Some (k ∷ ks)) = Some k

abbrev pub at_place : {A : Type 0} → List A → Option ℕ → Option A
at_place l None = None
at_place l (Some k) = slice_get l k

-- the place of its first statement
abbrev pub first_place : TextBlocks → ℕ → Option ℕ
first_place t b = first_of_row (slice_get t.table.rows b)

abbrev pub name_of_block : TextBlocks → ℕ → Option (List ℕ)
name_of_block t b = at_place t.names (first_place t b)

-- the first unit that declares it
abbrev pub first_unit : TextBlocks → ℕ → Option ℕ
first_unit t b = at_place t.owners (first_place t b)
