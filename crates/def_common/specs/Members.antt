-- Members of blocks: the slots that they stand for, their names in a unit, and which slots a unit has.
use Rattle.std.specs.Prelude.{ℕ, suc, ◌+◌, List, [], ◌∷◌, ◌++◌, map, flat_map, length, Bool, true, false, ◌&&◌, ◌==◌, Option, Some, None, if◌then◌else◌}
use Rattle.adj_tree.specs.Code.{Var, plain, shadow, helper, name_eq, Extent, fixed, given, Declaration, Procedure}
use Rattle.def_names.specs.Fresh.{fresh}
use Rattle.def_names.specs.NameFaults.{extent_names}
use Rattle.def_names.specs.Reserved.{reserved}
use Rattle.def_names.specs.Variables.{variables}
use Rattle.adj_tree.specs.Common.{Common, Shared}
use Rattle.def_common.specs.Blocks.{extents_in, declares, first_declaring, used_blocks}

-- ---- slots

-- that of the i-th member of a block: a variable that no text names
abbrev pub slot_name : List ℕ → ℕ → List ℕ
slot_name b i = 0 ∷ 3 ∷ i ∷ b

abbrev pub is_slot : Var → Bool
is_slot (plain (a ∷ c ∷ x)) = (a == 0) && (c == 3)
is_slot v = false

-- ---- members

-- a member of a block in a unit: its name there, its block, its slot, its extents, its line, and whether the unit declares the block
pub record Member : Type 0 where
  pub name : List ℕ
  pub block : List ℕ
  pub slot : List ℕ
  pub extents : List Extent
  -- those that the COMMON item gives
  pub item : List Extent
  pub line : ℕ
  pub own : Bool

abbrev pub member_names : List Member → List (List ℕ)
member_names ms = map (λ m. m.name) ms

abbrev pub member_slots : List Member → List (List ℕ)
member_slots ms = map (λ m. m.slot) ms

-- those of one COMMON statement, from the i-th on
abbrev pub own_items : Procedure → List ℕ → ℕ → ℕ → List Declaration → List Member
own_items u b line i [] = []
own_items u b line i (d ∷ ds) = record { name = d.name; block = b; slot = slot_name b i; extents = extents_in u d; item = d.extents; line = line; own = true } ∷ own_items u b line (suc i) ds

-- those of a block in a unit that declares it
abbrev pub own_members : Procedure → List ℕ → ℕ → List Common → List Member
own_members u b i [] = []
own_members u b i (c ∷ cs) = if name_eq c.block b then own_items u b c.line i c.items ++ own_members u b (i + length c.items) cs else own_members u b i cs

-- those of a block in its first declaring unit
abbrev pub found_members : List ℕ → Option Shared → List Member
found_members b None = []
found_members b (Some s) = own_members s.unit b 1 s.commons

abbrev pub block_members : List Shared → List (List ℕ) → List Member
block_members ps [] = []
block_members ps (b ∷ bs) = found_members b (first_declaring b ps) ++ block_members ps bs

-- the slots of the blocks that the unit of a name uses
abbrev pub slots_for : List Shared → List ℕ → List (List ℕ)
slots_for ps name = member_slots (block_members ps (used_blocks ps name))

-- those of a block in a unit that only passes it through: fresh names
abbrev pub passed_members : ℕ → List (List ℕ) → List Member → List Member
passed_members line taken [] = []
passed_members line taken (m ∷ ms) =
    let x = fresh m.name taken in
    record { name = x; block = m.block; slot = m.slot; extents = m.extents; item = []; line = line; own = false } ∷ passed_members line (x ∷ taken) ms

abbrev pub members_from : List Shared → Shared → List (List ℕ) → List (List ℕ) → List Member
members_from ps s taken [] = []
members_from ps s taken (b ∷ bs) =
    let ms = if declares b s then own_members s.unit b 1 s.commons else passed_members s.unit.line taken (found_members b (first_declaring b ps)) in
    ms ++ members_from ps s (member_names ms ++ taken) bs

abbrev pub unit_names : List Shared → List (List ℕ)
unit_names ps = map (λ s. s.unit.name) ps

-- the names of a unit's items
abbrev pub item_names : List Common → List (List ℕ)
item_names [] = []
item_names (c ∷ cs) = map (λ d. d.name) c.items ++ item_names cs

-- all names in a unit's text, those of extents and of members too
abbrev pub names_in : Shared → List (List ℕ)
names_in s = variables s.unit ++ (item_names s.commons ++ flat_map (λ d. extent_names d.extents) s.unit.declarations)

-- the names that a fresh one must not have: those in the unit's text, units, and reserved names
abbrev pub taken_in : List Shared → Shared → List (List ℕ)
taken_in ps s = names_in s ++ (unit_names ps ++ reserved)

-- all members of the blocks that a unit uses, in the order of the blocks
abbrev pub members : List Shared → Shared → List Member
members ps s = members_from ps s (taken_in ps s) (used_blocks ps s.unit.name)

-- those of the blocks that it declares
abbrev pub owned : List Member → List Member
owned [] = []
owned (m ∷ ms) = if m.own then m ∷ owned ms else owned ms

-- those of a block by their names
abbrev pub names_of_block : List ℕ → List Member → List (List ℕ)
names_of_block b [] = []
names_of_block b (m ∷ ms) = if name_eq m.block b then m.name ∷ names_of_block b ms else names_of_block b ms

-- those of some blocks, in the order of these
abbrev pub names_of_blocks : List Member → List (List ℕ) → List (List ℕ)
names_of_blocks ms [] = []
names_of_blocks ms (b ∷ bs) = names_of_block b ms ++ names_of_blocks ms bs

-- ---- names for slots

-- a member's name becomes its slot (and a slot its member's name, so that names stay apart)
abbrev pub swapped : List Member → List ℕ → List ℕ
swapped [] x = x
swapped (m ∷ ms) x = if name_eq m.name x then m.slot else (if name_eq m.slot x then m.name else swapped ms x)

abbrev pub swap : List Member → Var → Var
swap ms (plain x) = plain (swapped ms x)
swap ms (shadow x) = shadow x
swap ms (helper r k) = helper r k

abbrev pub swapped_extent : List Member → Extent → Extent
swapped_extent ms (fixed z) = fixed z
swapped_extent ms (given x) = given (swapped ms x)

abbrev pub swapped_declaration : List Member → Declaration → Declaration
swapped_declaration ms d = record d { name = swapped ms d.name; extents = map (swapped_extent ms) d.extents }
