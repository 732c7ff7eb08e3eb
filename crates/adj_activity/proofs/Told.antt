-- What flags of the numbers that are reached tell is the activity, and what carries a tangent.
use Rattle.std.proofs.Common.{◌≡◌, ℕ, ◌*◌, List, Bool, true, refl}
use Rattle.std.specs.Prelude.{◌↔◌}
use Rattle.adj_tree.specs.Code.{Var, plain}
use Rattle.def_names.specs.Numbers.{Vars, everything}
use Rattle.def_sweep.specs.Facts.{In}
use Rattle.adj_reach.specs.Reached.{Reached, begins, leads}
use Rattle.adj_reach.proofs.Reaching.{reached_seen}
use Rattle.def_flow.specs.Activity as activity
use Rattle.def_flow.specs.Activity.{Activity, statement, IsActivity, Adjointed, Shadowed, IsPoint}
use Rattle.def_flow.specs.Flow.{Varied, Useful}
use Rattle.def_flow.specs.Problem.{Problem}
use Rattle.def_flow.specs.Rules.{Scope, Covers}
use Rattle.def_flow.specs.Carried as tangents
use Rattle.def_flow.specs.Carried.{CarriesOutright, LendsTangent, CarriesTangent, IsCarrying}
use Rattle.def_flow.proofs.FlowListed as flowing
use Rattle.def_flow.proofs.AsLists.{reached_known}
use Rattle.def_flow.proofs.Numbered.{exact_by_number}
use Rattle.def_flow.proofs.OwnPoints.{entry_point}
use Rattle.adj_flow.specs.Nodes.{IsWide, IsNumbered}
use Rattle.adj_activity.specs.Laws.{AreFlags, AreCarriedFlags}
use Rattle.adj_flow.specs.Told.{unit_at, unit_of, told, told_of}
use Rattle.adj_activity.specs.Searched.{activity_searched}
use Rattle.adj_activity.proofs.FlowNumbered.{varied_listed, useful_listed}
use Rattle.adj_activity.proofs.ShadowNumbered.{shadow_listed}
use Rattle.adj_activity.proofs.AdjointNumbered.{adjoint_listed}
use Rattle.adj_flow.proofs.Telling.{told_exact, point_found, point_finds, number_found, number_finds}

module _ (k : Problem) (o : Scope) (w : ℕ) (varied useful shadowed adjointed : List Bool) (y : Covers k o) (wide : IsWide k o w) (f : AreFlags k o w varied useful shadowed adjointed) where
  is_varied : (p : ℕ) (v : Var) → In v (told varied o w p) ↔ Varied k (p, v)
  is_varied = told_exact k o w IsPoint (unit_at o.parts) (point_found k o y) (point_finds k o y) (varied_listed k o y w wide) varied f.varied_by

  is_useful : (p : ℕ) (v : Var) → In v (told useful o w p) ↔ Useful k (p, v)
  is_useful = told_exact k o w IsPoint (unit_at o.parts) (point_found k o y) (point_finds k o y) (useful_listed k o y w wide) useful f.useful_by

  -- what is varied is a variable of a unit at a point
  within : (p : ℕ) (v : Var) → In v (told varied o w p) → flowing.IsKnown k o y (p, v)
  within p v h = (reached_known (flowing.varied_lists k o y) (p, v) ((is_varied p v).0 h)).0

  is_shadowed : (u : ℕ) (v : Var) → In v (told_of shadowed o w u) ↔ Shadowed k (told varied o w) (told useful o w) (u, v)
  is_shadowed = told_exact k o w IsNumbered (unit_of o.parts) (number_found k o y) (number_finds k o y) (shadow_listed k o y w wide (told varied o w) (told useful o w) within) shadowed f.shadowed_by

  abbrev a : Activity
  a = activity_searched varied useful shadowed adjointed o w

  is_adjointed : (i : ℕ) → a.adjointed i ≡ true ↔ Adjointed k a (statement i)
  is_adjointed i =
      let e = exact_by_number (adjoint_listed k o y a) (statement i) (2 * i) refl in
      let x = f.adjointed_by (2 * i) in
      (λ h. e.1 (x.0 h), λ r. x.1 (e.0 r))

  pub is_activity : IsActivity k (activity_searched varied useful shadowed adjointed o w)
  is_activity = record { varied = is_varied; useful = is_useful; shadowed = is_shadowed; adjointed = is_adjointed }

-- ---- what carries a tangent

module _ (k : Problem) (o : Scope) (w : ℕ) (varied carried : List Bool) (y : Covers k o) (wide : IsWide k o w) (f : AreCarriedFlags k o w varied carried) where
  abbrev at : ℕ → Vars
  at = told varied o w

  is_varied_too : (p : ℕ) (v : Var) → In v (at p) ↔ Varied k (p, v)
  is_varied_too = told_exact k o w IsPoint (unit_at o.parts) (point_found k o y) (point_finds k o y) (varied_listed k o y w wide) varied f.varied_by

  within_too : (p : ℕ) (v : Var) → In v (at p) → flowing.IsKnown k o y (p, v)
  within_too p v h = (reached_known (flowing.varied_lists k o y) (p, v) ((is_varied_too p v).0 h)).0

  -- what carries one has a shadow where everything is useful
  begun : (n : ℕ × Var) → CarriesOutright k n → activity.HasShadow k at (λ p. everything) n
  begun n (tangents.independent h c) = activity.independent h c
  begun n (tangents.dependent h c) = activity.dependent h c
  begun n (tangents.somewhere {p = p} {v = v} t i h) = activity.active t i i ((is_varied_too p v).1 h) refl

  lent : (n m : ℕ × Var) → LendsTangent k n m → activity.LendsShadow k at n m
  lent n m (tangents.handed t u c) = activity.handed t u c

  -- and the other way round: a dummy to which its actual lends is varied at an entry, and carries one by itself
  begun_back : (n : ℕ × Var) → activity.HasShadow k at (λ p. everything) n → CarriesOutright k n
  begun_back n (activity.independent h c) = tangents.independent h c
  begun_back n (activity.dependent h c) = tangents.dependent h c
  begun_back n (activity.active {p = p} {v = v} t i j a b) = tangents.somewhere t i ((is_varied_too p v).0 a)

  lent_back : (n m : ℕ × Var) → CarriesTangent k n → activity.LendsShadow k at n m → CarriesTangent k m
  lent_back n m r (activity.handed t u c) = leads r (tangents.handed t u c)
  lent_back n m r (activity.passed {g = g} {s = s} {args = args} {d = d} t u c e) = begins (tangents.somewhere (leads t (s, args, u)) (entry_point g) ((is_varied_too g.entry (plain d)).0 e))

  carries : (n : ℕ × Var) → Reached (activity.HasShadow k at (λ p. everything)) (activity.LendsShadow k at) n → CarriesTangent k n
  carries n (begins h) = begins (begun_back n h)
  carries n (leads {x = m} r h) = lent_back m n (carries m r) h

  is_shadowed_so : (u : ℕ) (v : Var) → In v (told_of carried o w u) ↔ Reached (activity.HasShadow k at (λ p. everything)) (activity.LendsShadow k at) (u, v)
  is_shadowed_so =
      told_exact k o w IsNumbered (unit_of o.parts) (number_found k o y) (number_finds k o y) (shadow_listed k o y w wide at (λ p. everything) within_too) carried f.carried_by

  is_carried : (u : ℕ) (v : Var) → In v (told_of carried o w u) ↔ CarriesTangent k (u, v)
  is_carried u v =
      let e = is_shadowed_so u v in
      (λ h. carries (u, v) (e.0 h), λ h. e.1 (reached_seen (λ z. z) begun lent (u, v) h))

  pub is_carrying : IsCarrying k (told varied o w) (told_of carried o w)
  is_carrying = record { varied = is_varied_too; carried = is_carried }
