-- Units without blocks, by tables.
use Rattle.std.specs.Prelude.{ℕ, ◌+◌, List, [], ◌∷◌, ◌++◌, map, Option, Some, None}
use Rattle.adj_tree.specs.Code.{Procedure}
use Rattle.adj_tree.specs.Common.{Shared}
use Rattle.adj_sets.specs.Sets.{all_added}
use Rattle.adj_symbols_writes.specs.Names.{names_among}
use Rattle.adj_symbols_writes.specs.Table.{value_of, with_value}
use Rattle.adj_common.specs.Entries.{Entry, OwnBlocks}
use Rattle.adj_common.specs.Texts.{TextBlocks, at_place, name_of_block}
use Rattle.adj_common.specs.Naming.{text_vars}
use Rattle.adj_common.specs.Handing.{Tables, row_or, passed_names, handed_code}
use Rattle.adj_common.specs.Members.{entry_names, groups_from, all_entries, with_item, entry_declarations}

-- what is known of a text
pub record Known : Type 0 where
  pub owns : List OwnBlocks
  pub text : TextBlocks
  pub units : List (List ℕ × ℕ)
  pub used : List (List ℕ)
  pub not_free : List (List ℕ)

-- the numbers of the blocks that a unit uses
abbrev pub used_by : Known → Shared → List ℕ
used_by k s = row_or (at_place k.used (value_of s.unit.name k.units))

-- what no fresh name of a unit may be
abbrev pub taken_by : Known → Shared → List (List ℕ)
taken_by k s = k.not_free ++ all_added [] (names_among (text_vars s))

-- the unit's members for the blocks of a row
abbrev pub groups_by : Known → OwnBlocks → Shared → List ℕ → List (List Entry)
groups_by k o s row = groups_from k.owns k.text o s.unit.line (taken_by k s) row

-- the places of blocks in a row, by their names
abbrev pub with_place : TextBlocks → List (List ℕ × ℕ) → ℕ → ℕ → List (List ℕ × ℕ)
with_place t es b place = named (name_of_block t b)
  where
    named : Option (List ℕ) → List (List ℕ × ℕ)
    named None = es
    named (Some x) = with_value es x place

abbrev pub places_from : TextBlocks → List (List ℕ × ℕ) → ℕ → List ℕ → List (List ℕ × ℕ)
places_from t es place [] = es
places_from t es place (b ∷ bs) = places_from t (with_place t es b place) (place + 1) bs

abbrev pub handing_by : Known → List (List Entry) → List ℕ → Tables
handing_by k gs row = record { groups = places_from k.text [] 0 row; names = map entry_names gs; text = k.text; units = k.units; used = k.used }

-- the unit with these members
abbrev pub unit_with : Known → OwnBlocks → Shared → List ℕ → List (List Entry) → Procedure
unit_with k o s row gs = record s.unit {
  dummies = s.unit.dummies ++ entry_names (all_entries gs);
  declarations = map (with_item (all_entries gs)) s.unit.declarations ++ entry_declarations o.declarations s.unit.is_none (all_entries gs);
  body = handed_code (passed_names (handing_by k gs row)) s.unit.body;
}

abbrev pub lowered_by : Known → OwnBlocks → Shared → Procedure
lowered_by k o s = unit_with k o s (used_by k s) (groups_by k o s (used_by k s))

abbrev pub all_lowered : Known → List OwnBlocks → List Shared → List Procedure
all_lowered k [] ss = []
all_lowered k (o ∷ os) [] = []
all_lowered k (o ∷ os) (s ∷ ss) = lowered_by k o s ∷ all_lowered k os ss
