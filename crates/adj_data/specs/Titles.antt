-- Titles: which items begin entries.
use Rattle.std.specs.Prelude.{Bool, true, false}
use Rattle.adj_data.specs.declared.items.Titles.{Titles}
use Rattle.adj_data.specs.declared.items.Titles.TheVariants.{Names, NamesAndMarks}

-- whether names with a mark do
abbrev pub takes_marks : Titles → Bool
takes_marks Names = false
takes_marks NamesAndMarks = true
