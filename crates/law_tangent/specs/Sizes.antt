-- A bound on the statements that the tangent puts before one, by the nodes of assignments.
use Rattle.std.specs.Prelude.{◌≤◌, ◌+◌, ◌*◌, ℕ}
use Rattle.adj_tree.specs.Code.{Act, assign, choose, loop, during, call, runtime, Code, stop, step}
use Rattle.adj_tree.specs.Size.{term_nodes, terms_nodes}
use Rattle.def_tangent.specs.Forward.{Plan}
use Rattle.law_tangent.specs.Counts.{AreFew}

-- no assignment of the list, in bodies either, has m or more nodes; and m is above 0
abbrev mutual
  pub IsLight : ℕ → Act → Type 0
  IsLight m (assign x subs e) = terms_nodes subs + term_nodes e + 1 ≤ m
  IsLight m (choose c a b) = AreLight m a × AreLight m b
  IsLight m (loop x first last by body n) = (1 ≤ m) × AreLight m body
  IsLight m (during c body) = AreLight m body
  IsLight m (call name args) = Unit {0}
  IsLight m (runtime r) = Unit {0}

  pub AreLight : ℕ → Code → Type 0
  AreLight m stop = Unit {0}
  AreLight m (step line a rest) = IsLight m a × AreLight m rest

-- then fewer than 2 * m statements stand before each
abbrev pub TwiceTheWeight : Type 0
TwiceTheWeight = (m : ℕ) (p : Plan) (c : Code) → AreLight m c → AreFew (2 * m) p c
