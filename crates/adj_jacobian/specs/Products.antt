-- Products of groups, as the tangents that their dual runs leave.
use Rattle.std.specs.Prelude.{ℕ, zero, suc, ℤ, pos, List, [], ◌∷◌, map}
use Rattle.adj_tree.specs.declared.value.Slot.{Slot as CodeSlot}
use Rattle.def_meaning.specs.Numbers.{words}
use Rattle.def_jacobian.specs.Patterns.{Place, held}
use Rattle.def_jacobian.specs.Recovered.{Entry}
use Rattle.adj_interp.specs.Concludes.{slot_seen}
use Rattle.adj_jacobian.specs.declared.entry.Entry.{Entry as CodeEntry}

abbrev pub entry_of : CodeEntry → Entry
entry_of e = record { row = e.row; col = e.col; value = e.value }

-- the tangent of a cell in the product of a group, 0 where there is none
abbrev pub tangent_in : List (List CodeSlot) → ℕ → Place → ℤ
tangent_in [] g a = pos 0
tangent_in (p ∷ ps) zero a = held words (map slot_seen p) a.dummy a.cell
tangent_in (p ∷ ps) (suc g) a = tangent_in ps g a
