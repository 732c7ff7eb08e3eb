-- What clauses see of statements where they stand.
use Rattle.std.specs.Prelude.{ℕ, ◌+◌, List, ◌∷◌}
use Rattle.adj_tree.specs.Code.{plain, Act, assign, choose, loop, during, call, runtime, Code, stop, step}
use Rattle.adj_tree.specs.View.{act_of}
use Rattle.def_flow.specs.Standing as spec
use Rattle.adj_flow.specs.declared.place.Place.{Place}
use Rattle.adj_flow.specs.declared.place.Place.TheVariants.{Outermost, PartOf, TurnOf}
use Rattle.adj_flow.specs.declared.standing.Standing.{Standing}

abbrev pub place_of : Place → spec.Place
place_of Outermost = spec.outermost
place_of (PartOf i) = spec.part_of i
place_of (TurnOf i x) = spec.turn_of i (plain x.now)

abbrev pub standing_of : Standing → spec.Standing
standing_of s = record { number = s.number; place = place_of s.place; act = act_of s.act.now }

-- a statement and those in it
abbrev pub statement_at : ℕ → spec.Place → Act → List spec.Standing
statement_at i at a = record { number = i; place = at; act = a } ∷ spec.held_in i a

-- how many statements there are in one, and in a list
abbrev mutual
  pub acts_in : Act → ℕ
  acts_in (assign x subs e) = 1
  acts_in (choose c a b) = 1 + (acts_of a + acts_of b)
  acts_in (loop x first last by body m) = 1 + acts_of body
  acts_in (during c body) = 1 + acts_of body
  acts_in (call name args) = 1
  acts_in (runtime r) = 1

  pub acts_of : Code → ℕ
  acts_of stop = 0
  acts_of (step line a rest) = acts_in a + acts_of rest
