-- What the code goes over, as clauses see it.
use Rattle.std.specs.Prelude.{ℕ, map}
use Rattle.adj_tree.specs.declared.marks.Activity as flags
use Rattle.def_flow.specs.Activity.{Activity}
use Rattle.adj_reach.specs.Edges.{flag}
use Rattle.adj_symbols_writes.specs.Table.{value_of}
use Rattle.adj_flow.specs.Rows.{Row, row_of}
use Rattle.adj_flow.specs.NodeView.{found_at, told_at}
use Rattle.adj_flow.specs.Sides.{row_by}
use Rattle.adj_live.specs.Listed.{Here}
use Rattle.adj_live.specs.declared.known.Known.{Known}
use Rattle.adj_live.specs.declared.known.Site.{Site}

-- the activity of a unit, by flags
abbrev pub activity_in : flags.Activity → ℕ → Row → Activity
activity_in a w r = record { varied = told_at a.varied w r; useful = told_at a.useful w r; adjointed = flag a.adjointed; shadowed = told_at a.shadowed w r }

-- a unit with what is known of the program
abbrev pub here_in : Known → Row → Here
here_in k r = record {
  width = k.width;
  find = λ x. found_at (map row_of k.units.parts.now) (value_of x k.units.numbers.now);
  read = λ x. row_by (map (λ b. b.now) k.sides.read.now) (value_of x k.units.numbers.now);
  written = λ x. row_by (map (λ b. b.now) k.sides.written.now) (value_of x k.units.numbers.now);
  activity = activity_in k.activity.now k.width r;
  split = flag k.split.now;
  row = r;
}

abbrev pub here_at : Site → Here
here_at s = here_in s.known (row_of s.part.now)
