-- The activity that a search tells, in which statements have the even numbers.
use Rattle.std.specs.Prelude.{ℕ, ◌*◌, List, Bool}
use Rattle.def_flow.specs.Rules.{Scope}
use Rattle.def_flow.specs.Activity.{Activity}
use Rattle.adj_reach.specs.Edges.{flag}
use Rattle.adj_flow.specs.Told.{told, told_of}

-- what flags of nodes, of variables, and of what has an adjoint say of activity
abbrev pub activity_searched : List Bool → List Bool → List Bool → List Bool → Scope → ℕ → Activity
activity_searched varied useful shadowed reached o w = record { varied = told varied o w; useful = told useful o w; adjointed = λ i. flag reached (2 * i); shadowed = told_of shadowed o w }
