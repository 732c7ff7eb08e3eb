-- Listed: units with numbers for their names.
use Rattle.std.specs.Prelude.{◌≡◌, ℕ, ◌<◌, ◌≤◌, List, [], map, length, slice_index_or}
use Rattle.adj_tree.specs.declared.unit.Unit.{Unit}
use Rattle.def_meaning.specs.Apart.{AreApart}
use Rattle.adj_interp_frame.specs.declared.directory.Directory.{Directory}

abbrev pub names_of : List Unit → List (List ℕ)
names_of us = map (λ (u : Unit). u.name) us

-- the names are apart, and those of the units come first
pub record IsDirectory (d : Directory) : Type 0 where
  pub apart : AreApart d.numbers
  pub longer : length d.units.now ≤ length d.numbers
  pub first : (i : ℕ) → i < length d.units.now → slice_index_or d.numbers i [] ≡ slice_index_or (names_of d.units.now) i []
