-- Entries: a name and the numbers behind it, up to the next name. (docs/DATA.md, "Entries")
use Rattle.std.specs.Prelude.{ℕ, ℤ, List, [], ◌∷◌, ◌++◌, Option, Some, None, if◌then◌else◌}
use Rattle.adj_tree.specs.Code.{name_eq}
use Rattle.adj_data.specs.Items.{Item, name_of, number_of_item}

pub record Entry : Type 0 where
  pub name : List ℕ
  -- the line of the name
  pub line : ℕ
  pub numbers : List ℤ

-- the numbers before the next name
abbrev pub numbers_before : List Item → List ℤ
numbers_before [] = []
numbers_before (w ∷ ws) = if w.begins then [] else number_of_item w.text ∷ numbers_before ws

-- the entries that items make: each name begins one
abbrev pub entries_of : List Item → List Entry
entries_of [] = []
entries_of (w ∷ ws) = if w.begins then record { name = name_of w.text; line = w.line; numbers = numbers_before ws } ∷ entries_of ws else entries_of ws

-- the entry of a name
abbrev pub entry_named : List ℕ → List Entry → Option Entry
entry_named x [] = None
entry_named x (e ∷ es) = if name_eq x e.name then Some e else entry_named x es

-- ---- what one item more does, which no item before it is looked at for

-- a number goes on with the last entry
abbrev pub with_number : ℤ → List Entry → List Entry
with_number z [] = []
with_number z (e ∷ []) = record e { numbers = e.numbers ++ z ∷ [] } ∷ []
with_number z (e ∷ f ∷ es) = e ∷ with_number z (f ∷ es)

abbrev pub with_item : List Entry → Item → List Entry
with_item es w = if w.begins then es ++ (record { name = name_of w.text; line = w.line; numbers = [] } ∷ []) else with_number (number_of_item w.text) es

abbrev pub with_items : List Entry → List Item → List Entry
with_items es [] = es
with_items es (w ∷ ws) = with_items (with_item es w) ws
