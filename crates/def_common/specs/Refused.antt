-- Refusal 26: units that lay out one block differently, or with a name as an extent.
use Rattle.std.specs.Prelude.{◌≡◌, ℕ, List, [], ◌∷◌, ◌++◌, Bool, true, false, not, ◌&&◌, Option, Some, None, if◌then◌else◌}
use Rattle.std.specs.Ordering.{int_eq}
use Rattle.adj_tree.specs.Code.{name_eq, Extent, fixed, given}
use Rattle.adj_tree.specs.declared.fault.Refusal.{Refusal}
use Rattle.def_meaning.specs.Apart.{has_name}
use Rattle.def_names.specs.Fault.{fault, first_of}
use Rattle.adj_tree.specs.Common.{Common, Shared}
use Rattle.def_common.specs.Blocks.{declares, layout, blocks, first_declaring}

-- ---- layouts

-- one literal in both
abbrev pub is_same_extent : Extent → Extent → Bool
is_same_extent (fixed z) (fixed y) = int_eq z y
is_same_extent (fixed z) (given y) = false
is_same_extent (given x) e = false

abbrev pub are_same_extents : List Extent → List Extent → Bool
are_same_extents [] [] = true
are_same_extents [] (e ∷ es) = false
are_same_extents (d ∷ ds) [] = false
are_same_extents (d ∷ ds) (e ∷ es) = is_same_extent d e && are_same_extents ds es

abbrev pub is_same_layout : List (List Extent) → List (List Extent) → Bool
is_same_layout [] [] = true
is_same_layout [] (e ∷ es) = false
is_same_layout (d ∷ ds) [] = false
is_same_layout (d ∷ ds) (e ∷ es) = are_same_extents d e && is_same_layout ds es

abbrev pub found_layout : List ℕ → Option Shared → List (List Extent)
found_layout b None = []
found_layout b (Some s) = layout b s

-- how the first unit that declares the block lays it out
abbrev pub first_layout : List Shared → List ℕ → List (List Extent)
first_layout ps b = found_layout b (first_declaring b ps)

-- ---- where a block is refused

-- the unit declares the block, and has a name as an extent in it or lays it out otherwise than the first
abbrev pub is_odd : List Shared → List ℕ → Shared → Bool
is_odd ps b s = declares b s && not (is_same_layout (layout b s) (first_layout ps b))

abbrev pub find_odd : (Shared → Bool) → List Shared → Option Shared
find_odd f [] = None
find_odd f (s ∷ ps) = if f s then Some s else find_odd f ps

-- the line of the unit's last statement of the block
abbrev pub last_line : List ℕ → ℕ → List Common → ℕ
last_line b line [] = line
last_line b line (c ∷ cs) = if name_eq c.block b then last_line b c.line cs else last_line b line cs

-- a block of the text, the first unit that is odd in it, and the refusal at its last statement there
pub record IsRefusedAt (ps : List Shared) (r : Refusal) : Type 0 where
  pub block : List ℕ
  pub unit : Shared
  pub among : has_name block (blocks ps) ≡ true
  pub first : find_odd (is_odd ps block) ps ≡ Some unit
  pub is : r ≡ fault 26 (last_line block unit.unit.line unit.commons)

-- ---- all of them

abbrev pub odd_fault : List ℕ → Option Shared → List Refusal
odd_fault b None = []
odd_fault b (Some s) = fault 26 (last_line b s.unit.line s.commons) ∷ []

abbrev pub faults_in : List Shared → List (List ℕ) → List Refusal
faults_in ps [] = []
faults_in ps (b ∷ bs) = odd_fault b (find_odd (is_odd ps b) ps) ++ faults_in ps bs

-- for each block at most one
abbrev pub layout_faults : List Shared → List Refusal
layout_faults ps = faults_in ps (blocks ps)

-- what `lower_common` refuses with: the first in the text
abbrev pub layout_refusal : List Shared → Option Refusal
layout_refusal ps = first_of (layout_faults ps)
