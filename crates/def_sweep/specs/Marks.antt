-- Marks: what analyses say of statements, and of variables at the points between them. (docs/THEOREMS.md, "Adjoints")
use Rattle.std.specs.Prelude.{ℕ, Bool, true, false, ◌&&◌}
-- the points before, after and inside the i-th statement
pub use Rattle.def_names.specs.Numbering.{point_before, point_after, point_inside}
use Rattle.def_names.specs.Numbers.{Vars, everything}

-- ---- numbers of statements and points

-- ---- marks

pub record Marks : Type 0 where
  -- the statement of this number is part of the forward sweep
  pub kept : ℕ → Bool
  -- its adjoint is part of the backward sweep
  pub adjointed : ℕ → Bool
  -- it is a split call: its unit's forward unit is called in the forward sweep, and its backward unit in the backward sweep
  pub split : ℕ → Bool
  -- the variables that it saves, where it is kept
  pub saved : ℕ → Vars
  -- the variables that depend on the independents at the point of this number
  pub varied : ℕ → Vars
  -- the variables on which the dependents depend
  pub useful : ℕ → Vars
  -- the variables that have a shadow
  pub shadowed : Vars

-- everything is marked
abbrev pub full : Marks
full = record {
  kept = λ i. true;
  adjointed = λ i. true;
  split = λ i. false;
  saved = λ i. everything;
  varied = λ p. everything;
  useful = λ p. everything;
  shadowed = everything;
}

-- the variables whose occurrences are active in the i-th statement: they are varied before it, and have a shadow
abbrev pub active_at : Marks → ℕ → Vars
active_at m i = λ x. m.varied (point_before i) x && m.shadowed x
