-- The activity that flags tell.
use Rattle.std.specs.Prelude.{ℕ, List, Bool}
use Rattle.def_flow.specs.Rules.{Scope}
use Rattle.def_flow.specs.Activity.{Activity}
use Rattle.adj_reach.specs.Edges.{flag}
use Rattle.adj_flow.specs.Told.{told, told_of}

-- what flags of nodes, of variables, and of statements say of activity
abbrev pub activity_told : List Bool → List Bool → List Bool → List Bool → Scope → ℕ → Activity
activity_told varied useful shadowed adjointed o w = record { varied = told varied o w; useful = told useful o w; adjointed = flag adjointed; shadowed = told_of shadowed o w }
