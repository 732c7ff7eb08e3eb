-- Which units are emitted: a unit whose tangent is calls units whose tangents are, or units that stay; and these call no others.
use Rattle.std.proofs.Common.{◌≡◌, ℕ, zero, suc, Bool, true, false, List, [], ◌∷◌, refl, ap, ◌∙◌}
use Rattle.std.specs.Prelude.{◌&&◌, length, not}
use Rattle.adj_tree.specs.Code.{name_eq, Procedure}
use Rattle.adj_tree.proofs.Names.{name_refl}
use Rattle.def_names.proofs.Variables.{and_true, or_left, or_right}
use Rattle.def_sweep.specs.Program.{calls_some, reached_after}
use Rattle.law_sweep.specs.Source.{is_unit}
use Rattle.law_sweep.proofs.Rounds.{either, calls_rise, calls_there, IsLast, rounds_last, reached_last}
use Rattle.def_tangent.specs.Program.{Carried, takes, made_after, has_tangent, stays}

-- both are true
conj : (a b : Bool) → a ≡ true → b ≡ true → (a && b) ≡ true
conj a b h g = rw (h, g) refl

-- ---- units whose tangents are emitted

module _ (c : Carried) (ps : List Procedure) (head : List ℕ) where
  abbrev every : ℕ → Bool
  every i = true

  abbrev after : ℕ → List ℕ → Bool
  after k = made_after c ps head k

  -- each round finds what the one before did
  rises : (k : ℕ) (n : List ℕ) → after k n ≡ true → after (suc k) n ≡ true
  rises zero n h = absurd cc
  rises (suc k) n h =
      either (name_eq head n) (takes c ps n && calls_some (after k) every n 0 ps) (after (suc (suc k)) n) h
      (or_left (name_eq head n) (takes c ps n && calls_some (after (suc k)) every n 0 ps))
      (λ e.
      let p = and_true (takes c ps n) (calls_some (after k) every n 0 ps) e in
      or_right (name_eq head n) (takes c ps n && calls_some (after (suc k)) every n 0 ps) (conj (takes c ps n) (calls_some (after (suc k)) every n 0 ps) p.0 (calls_rise (after k) (after (suc k)) (rises k) every n 0 ps p.1)))

  still_last : (k : ℕ) → IsLast ps after k → IsLast ps after (suc k)
  still_last k l n r h =
      either (name_eq head n) (takes c ps n && calls_some (after (suc k)) every n 0 ps) (after (suc k) n) h
      (or_left (name_eq head n) (takes c ps n && calls_some (after k) every n 0 ps))
      (λ e.
      let p = and_true (takes c ps n) (calls_some (after (suc k)) every n 0 ps) e in
      or_right (name_eq head n) (takes c ps n && calls_some (after k) every n 0 ps) (conj (takes c ps n) (calls_some (after k) every n 0 ps) p.0 (calls_there (after (suc k)) (after k) every ps l n 0 p.1)))

  made_last : IsLast ps after (length ps)
  made_last = rounds_last ps after rises still_last

  -- a unit with a carried dummy that such a unit calls has its tangent emitted
  pub taking_has : (n : List ℕ) → is_unit ps n ≡ true → takes c ps n ≡ true → calls_some (has_tangent c ps head) every n 0 ps ≡ true → has_tangent c ps head n ≡ true
  taking_has n there t h = made_last n there (or_right (name_eq head n) (takes c ps n && calls_some (has_tangent c ps head) every n 0 ps) (conj (takes c ps n) (calls_some (has_tangent c ps head) every n 0 ps) t h))

  -- the head's is, where there is a unit
  pub head_has : (us : List Procedure) → ps ≡ us → is_unit us head ≡ true → has_tangent c ps head head ≡ true
  head_has [] e h = absurd cc
  head_has (u ∷ us) e h = ap (λ k. made_after c ps head k head) (ap length e) ∙ or_left (name_eq head head) (takes c ps head && calls_some (after (length us)) every head 0 ps) (name_refl head)

  -- one without that it calls stays
  abbrev roots : List ℕ → Bool
  roots n = not (takes c ps n) && calls_some (has_tangent c ps head) every n 0 ps

  reached_root : (us : List Procedure) → ps ≡ us → (n m : List ℕ) → is_unit us m ≡ true → roots n ≡ true → reached_after roots every ps (length ps) n ≡ true
  reached_root [] e n m i h = absurd cc
  reached_root (u ∷ us) e n m i h = ap (λ k. reached_after roots every ps k n) (ap length e) ∙ or_left (roots n) (calls_some (reached_after roots every ps (length us)) every n 0 ps) h

  pub other_stays : (n : List ℕ) → is_unit ps n ≡ true → takes c ps n ≡ false → calls_some (has_tangent c ps head) every n 0 ps ≡ true → stays c ps head n ≡ true
  other_stays n there t h = reached_root ps refl n n there (conj (not (takes c ps n)) (calls_some (has_tangent c ps head) every n 0 ps) (ap not t) h)

  -- what a unit that stays calls stays
  pub staying_calls : (n : List ℕ) → is_unit ps n ≡ true → calls_some (stays c ps head) every n 0 ps ≡ true → stays c ps head n ≡ true
  staying_calls n there h = reached_last roots every ps n there (or_right (roots n) (calls_some (stays c ps head) every n 0 ps) h)

  -- all of them are reached by calls
  pub made_reached : (k : ℕ) (n : List ℕ) → after k n ≡ true → reached_after (name_eq head) every ps k n ≡ true
  made_reached zero n h = absurd cc
  made_reached (suc k) n h =
      either (name_eq head n) (takes c ps n && calls_some (after k) every n 0 ps) (reached_after (name_eq head) every ps (suc k) n) h
      (or_left (name_eq head n) (calls_some (reached_after (name_eq head) every ps k) every n 0 ps))
      (λ e. or_right (name_eq head n) (calls_some (reached_after (name_eq head) every ps k) every n 0 ps) (calls_rise (after k) (reached_after (name_eq head) every ps k) (made_reached k) every n 0 ps (and_true (takes c ps n) (calls_some (after k) every n 0 ps) e).1))
