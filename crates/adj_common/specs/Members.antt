-- The members of a unit by the blocks that it uses, and what they add to the unit.
use Rattle.std.specs.Prelude.{ℕ, ◌==◌, List, [], ◌∷◌, ◌++◌, map, flat_map, length, Bool, false, not, ◌&&◌, ◌||◌, Option, Some, None, if◌then◌else◌}
use Rattle.adj_tree.specs.Code.{name_eq, Extent, Declaration}
use Rattle.def_names.specs.Fresh.{fresh}
use Rattle.def_meaning.specs.Apart.{has_name}
use Rattle.def_names.specs.Variables.{is_integer_name}
use Rattle.def_sweep.specs.Declared.{declaration}
use Rattle.adj_symbols_writes.specs.Table.{value_of}
use Rattle.adj_common.specs.Tables.{beside}
use Rattle.adj_common.specs.Entries.{Entry, OwnBlocks}
use Rattle.adj_common.specs.Texts.{TextBlocks, at_place, name_of_block, first_unit}
use Rattle.adj_common.specs.Handing.{row_or}

abbrev pub entry_names : List Entry → List (List ℕ)
entry_names es = map (λ e. e.name) es

-- ---- a block that is passed through

abbrev pub passed_entry : ℕ → List (List ℕ) → Entry → Entry
passed_entry line taken e = record { name = fresh e.name taken; extents = e.extents; item = []; line = line; own = false }

abbrev pub passed_entries : ℕ → List (List ℕ) → List Entry → List Entry
passed_entries line taken [] = []
passed_entries line taken (e ∷ es) = passed_entry line taken e ∷ passed_entries line (taken ++ fresh e.name taken ∷ []) es

abbrev pub members_from : ℕ → List (List ℕ) → Option (List Entry) → Option (List Entry) → List Entry
members_from line taken (Some own) first = own
members_from line taken None first = passed_entries line taken (row_or first)

abbrev pub taken_from : ℕ → List (List ℕ) → Option (List Entry) → Option (List Entry) → List (List ℕ)
taken_from line taken (Some own) first = taken
taken_from line taken None first = taken ++ entry_names (passed_entries line taken (row_or first))

-- ---- all blocks

abbrev pub group_in : Option OwnBlocks → List ℕ → Option (List Entry)
group_in None b = None
group_in (Some o) b = beside o.names o.groups b

abbrev pub own_group : OwnBlocks → Option (List ℕ) → Option (List Entry)
own_group o None = None
own_group o (Some b) = beside o.names o.groups b

abbrev pub first_group : List OwnBlocks → TextBlocks → ℕ → Option (List ℕ) → Option (List Entry)
first_group os t k None = None
first_group os t k (Some b) = group_in (at_place os (first_unit t k)) b

abbrev pub groups_from : List OwnBlocks → TextBlocks → OwnBlocks → ℕ → List (List ℕ) → List ℕ → List (List Entry)
groups_from os t o line taken [] = []
groups_from os t o line taken (k ∷ ks) =
    members_from line taken (own_group o (name_of_block t k)) (first_group os t k (name_of_block t k))
    ∷ groups_from os t o line (taken_from line taken (own_group o (name_of_block t k)) (first_group os t k (name_of_block t k))) ks

abbrev pub all_entries : List (List Entry) → List Entry
all_entries gs = flat_map (λ g. g) gs

-- ---- declarations

abbrev pub item_of : List Entry → List ℕ → List Extent
item_of [] x = []
item_of (e ∷ es) x = if name_eq e.name x then e.item else item_of es x

-- the same by numbers of members
abbrev pub item_at : Option Entry → List Extent
item_at None = []
item_at (Some e) = e.item

abbrev pub item_by : List (List ℕ × ℕ) → List Entry → List ℕ → List Extent
item_by ns es x = item_at (at_place es (value_of x ns))

abbrev pub with_item : List Entry → Declaration → Declaration
with_item es d = if length d.extents == 0 then record d { extents = item_of es d.name } else d

abbrev pub has_names : List Declaration → List ℕ → Bool
has_names ds x = has_name x (map (λ d. d.name) ds)

abbrev pub gets_declared : List Declaration → Bool → Entry → Bool
gets_declared ds is_none e =
    if has_names ds e.name
    then not (length e.item == 0) && not (length (declaration 0 ds e.name).extents == 0)
    else not e.own || (not (length e.item == 0) && (is_integer_name e.name && not is_none))

abbrev pub entry_declaration : Entry → Declaration
entry_declaration e = record { line = e.line; name = e.name; extents = if e.own then e.item else e.extents }

abbrev pub entry_declarations : List Declaration → Bool → List Entry → List Declaration
entry_declarations ds is_none [] = []
entry_declarations ds is_none (e ∷ es) = (if gets_declared ds is_none e then entry_declaration e ∷ [] else []) ++ entry_declarations ds is_none es
