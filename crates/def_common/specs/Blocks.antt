-- Units with COMMON blocks, which units use a block, and how a unit lays it out.
use Rattle.std.specs.Prelude.{ℕ, zero, suc, List, [], ◌∷◌, ◌++◌, map, length, Bool, false, ◌||◌, ◌==◌, Option, Some, None, if◌then◌else◌}
use Rattle.adj_tree.specs.Code.{plain, name_eq, Act, assign, choose, loop, during, call, runtime, Code, stop, step, Extent, Declaration, Procedure}
use Rattle.adj_tree.specs.Common.{Common, Shared}
use Rattle.def_meaning.specs.Units.{declared}
use Rattle.def_meaning.specs.Apart.{has_name}

-- ---- members

-- those of a block in a unit, joined over its statements
abbrev pub items_of : List ℕ → List Common → List Declaration
items_of b [] = []
items_of b (c ∷ cs) = if name_eq c.block b then c.items ++ items_of b cs else items_of b cs

abbrev pub declares : List ℕ → Shared → Bool
declares b s = has_name b (map (λ c. c.block) s.commons)

-- the extents of an item: those of the unit's declaration, where it gives any, else its own
abbrev pub extents_in : Procedure → Declaration → List Extent
extents_in u d = if length (declared u.declarations (plain d.name)) == 0 then d.extents else declared u.declarations (plain d.name)

-- how the unit lays the block out
abbrev pub layout : List ℕ → Shared → List (List Extent)
layout b s = map (extents_in s.unit) (items_of b s.commons)

-- ---- the blocks of a text, by their first statements

abbrev pub without_repeats : List (List ℕ) → List (List ℕ) → List (List ℕ)
without_repeats seen [] = []
without_repeats seen (b ∷ bs) = if has_name b seen then without_repeats seen bs else b ∷ without_repeats (b ∷ seen) bs

abbrev pub all_blocks : List Shared → List (List ℕ)
all_blocks [] = []
all_blocks (s ∷ ss) = map (λ c. c.block) s.commons ++ all_blocks ss

abbrev pub blocks : List Shared → List (List ℕ)
blocks ps = without_repeats [] (all_blocks ps)

-- the first unit that declares it
abbrev pub first_declaring : List ℕ → List Shared → Option Shared
first_declaring b [] = None
first_declaring b (s ∷ ss) = if declares b s then Some s else first_declaring b ss

-- ---- which units use a block: they declare it, or call, directly or through others, a unit that does

abbrev pub find_shared : List Shared → List ℕ → Option Shared
find_shared [] name = None
find_shared (s ∷ ss) name = if name_eq s.unit.name name then Some s else find_shared ss name

abbrev mutual
  pub calls_some_act : (List ℕ → Bool) → Act → Bool
  calls_some_act f (assign x subs e) = false
  calls_some_act f (choose c a b) = calls_some f a || calls_some f b
  calls_some_act f (loop x first last by body m) = calls_some f body
  calls_some_act f (during c body) = calls_some f body
  calls_some_act f (call name args) = f name
  calls_some_act f (runtime r) = false

  -- whether a list calls a unit of a set
  pub calls_some : (List ℕ → Bool) → Code → Bool
  calls_some f stop = false
  calls_some f (step line a rest) = calls_some_act f a || calls_some f rest

abbrev pub found_uses : (Shared → Bool) → Option Shared → Bool
found_uses f None = false
found_uses f (Some s) = f s

-- in some rounds
abbrev pub uses_after : List Shared → List ℕ → ℕ → List ℕ → Bool
uses_after ps b zero name = false
uses_after ps b (suc k) name = found_uses (λ s. declares b s || calls_some (uses_after ps b k) s.unit.body) (find_shared ps name)

-- in as many as there are units
abbrev pub uses : List Shared → List ℕ → List ℕ → Bool
uses ps name b = uses_after ps b (length ps) name

-- the blocks that the unit of a name uses, in order
abbrev pub chosen : (List ℕ → Bool) → List (List ℕ) → List (List ℕ)
chosen f [] = []
chosen f (b ∷ bs) = if f b then b ∷ chosen f bs else chosen f bs

abbrev pub used_blocks : List Shared → List ℕ → List (List ℕ)
used_blocks ps name = chosen (uses ps name) (blocks ps)
