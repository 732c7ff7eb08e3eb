-- Members of blocks in a unit, without the slots that they stand for.
use Rattle.std.specs.Prelude.{◌≡◌, ◌==◌, ℕ, List, [], ◌∷◌, ◌++◌, map, length, Bool, true, Option, Some, None, if◌then◌else◌}
use Rattle.std.specs.List.{slice_get}
use Rattle.adj_tree.specs.Code.{Extent, Declaration}
use Rattle.adj_tree.specs.Common.{Common, Shared}
use Rattle.def_sweep.specs.Declared.{declaration}
use Rattle.adj_common.specs.Tables.{tabled}

pub record Entry : Type 0 where
  pub name : List ℕ
  pub extents : List Extent
  pub item : List Extent
  pub line : ℕ
  pub own : Bool

-- ---- those that a unit declares

abbrev pub or_else : List Extent → List Extent → List Extent
or_else es other = if length es == 0 then other else es

-- the member that an item declares, beside some declarations
abbrev pub item_entry : List Declaration → ℕ → Declaration → Entry
item_entry ds line d = record { name = d.name; extents = or_else (declaration 0 ds d.name).extents d.extents; item = d.extents; line = line; own = true }

abbrev pub statement_entries : List Declaration → Common → List Entry
statement_entries ds c = map (item_entry ds c.line) c.items

abbrev pub entries_at : List Declaration → Option Common → List Entry
entries_at ds None = []
entries_at ds (Some c) = statement_entries ds c

-- those of the COMMON statements at some places
abbrev pub entries_of_row : List Declaration → List Common → List ℕ → List Entry
entries_of_row ds cs [] = []
entries_of_row ds cs (k ∷ ks) = entries_at ds (slice_get cs k) ++ entries_of_row ds cs ks

abbrev pub line_at : ℕ → Option Common → ℕ
line_at line None = line
line_at line (Some c) = c.line

-- the line of the last of them
abbrev pub line_of_row : ℕ → List Common → List ℕ → ℕ
line_of_row line cs [] = line
line_of_row line cs (k ∷ ks) = line_of_row (line_at line (slice_get cs k)) cs ks

-- ---- the table of a unit

pub record OwnBlocks : Type 0 where
  pub declarations : List Declaration
  pub names : List (List ℕ)
  pub groups : List (List Entry)
  pub lines : List ℕ

abbrev pub block_names : List Common → List (List ℕ)
block_names cs = map (λ c. c.block) cs

-- that of a unit, beside some declarations
abbrev pub own_blocks : List Declaration → Shared → OwnBlocks
own_blocks ds s = record {
  declarations = ds;
  names = (tabled (block_names s.commons)).names;
  groups = map (entries_of_row ds s.commons) (tabled (block_names s.commons)).rows;
  lines = map (line_of_row s.unit.line s.commons) (tabled (block_names s.commons)).rows;
}

-- the declarations give each variable what those of the unit do
abbrev pub Declares : List Declaration → Shared → Type 0
Declares ds s = (line : ℕ) (x : List ℕ) → declaration line ds x ≡ declaration line s.unit.declarations x

abbrev pub IsOwn : Shared → OwnBlocks → Type 0
IsOwn s o = (o ≡ own_blocks o.declarations s) × Declares o.declarations s

abbrev pub AreOwn : List Shared → List OwnBlocks → Type 0
AreOwn [] [] = Unit {0}
AreOwn [] (o ∷ os) = ⊥
AreOwn (s ∷ ss) [] = ⊥
AreOwn (s ∷ ss) (o ∷ os) = IsOwn s o × AreOwn ss os
