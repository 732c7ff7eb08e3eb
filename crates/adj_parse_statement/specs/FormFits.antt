-- Forms of statements whose literals and extents are words.
use Rattle.std.specs.Prelude.{List, [], ◌∷◌}
use Rattle.std.specs.List.{All}
use Rattle.def_text.specs.Fits.{FitsTerm, FitsTest, FitsAct, FitsExtent}
use Rattle.def_text.specs.Form.{Form, integers, common, simple, logical, opens_do, opens_while, opens_if, otherwise_if}
use Rattle.def_text.specs.Statement.{Item}

-- the extents of items are words
abbrev pub FitsItems : List Item → Type 0
FitsItems [] = Unit {0}
FitsItems (i ∷ is) = All FitsExtent i.extents × FitsItems is

-- the literals and extents of a form are words
abbrev pub FitsForm : Form → Type 0
FitsForm (integers is) = FitsItems is
FitsForm (common b is) = FitsItems is
FitsForm (simple a) = FitsAct a
FitsForm (logical c a) = FitsTest c × FitsAct a
FitsForm (opens_do l r s) = FitsTerm r.from × FitsTerm r.to × FitsTerm r.by
FitsForm (opens_while c) = FitsTest c
FitsForm (opens_if c) = FitsTest c
FitsForm (otherwise_if c) = FitsTest c
FitsForm f = Unit {0}
