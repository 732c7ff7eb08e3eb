-- Flags of the numbers that are reached tell what is live.
use Rattle.std.proofs.Common.{◌≡◌, ℕ, ◌+◌, ◌*◌, List, Bool, true, refl, sym, ap, ◌∙◌}
use Rattle.std.specs.Prelude.{Contains, ◌↔◌, IsTrue, Option, Some, None}
use Rattle.adj_tree.specs.Code.{Var, plain}
use Rattle.def_flow.specs.Parts.{Part}
use Rattle.def_flow.specs.Problem.{Problem, TakesPart}
use Rattle.def_flow.specs.Activity.{Activity, IsPoint}
use Rattle.def_flow.specs.Live.{Fact, needed, kept, wanted, LiveBegins, LiveLeads, Live, says, IsLive}
use Rattle.def_flow.specs.Rules.{Scope, Covers, live_starts, live_steps}
use Rattle.def_flow.proofs.Numbered.{IsListed, reached_has, exact_by_number}
use Rattle.adj_reach.specs.Edges.{ReachedFrom, flag}
use Rattle.adj_flow.specs.Nodes.{node_in, IsWide}
use Rattle.adj_flow.specs.Told.{unit_at, unit_of, flag_at, told_in, told, told_of}
use Rattle.adj_flow.proofs.Images.{Images, listed_along}
use Rattle.adj_flow.proofs.Telling.{point_found, point_finds, number_found, number_finds}
use Rattle.adj_live.specs.Numbers.{kept_at}
use Rattle.adj_live.proofs.Facts.{HasFact, HasStep, one_fact, own_fact, known_has, has_known}
use Rattle.adj_live.proofs.KnownLists.{known_lists}

module _ (k : Problem) (o : Scope) (y : Covers k o) (w : ℕ) (wide : IsWide k o w) (a : Activity) (ss : List ℕ) (es : List (ℕ × ℕ)) (starts : Images (HasFact k o w) (live_starts k a o) ss) (steps : Images (HasStep k o w) (live_steps k a o) es) (facts kepts entries : List Bool)
    (exact : (m : ℕ) → IsTrue (flag facts m) ↔ ReachedFrom es ss m) (kept_by : (n : ℕ) → flag kepts n ≡ flag facts (n * (w + 2) + w)) (entry_by : (n : ℕ) → flag entries n ≡ flag facts (n * (w + 2) + (w + 1))) where
  listed : IsListed (LiveBegins k a) (LiveLeads k a) (HasFact k o w) (λ n. Contains ss n) (λ m n. Contains es (m, n))
  listed = listed_along (one_fact k o w wide) (own_fact k o w wide) (known_has k o w wide) (has_known k o w wide) starts steps (known_lists k o y a w)

  -- a fact holds if its number is flagged
  holds : (x : Fact) (m : ℕ) → HasFact k o w x m → flag facts m ≡ true → Live k a x
  holds x m h f = (exact_by_number listed x m h).1 ((exact m).0 f)

  -- ---- what is needed

  needed_only : (p : ℕ) (v : Var) (u : Option Part) → unit_at o.parts p ≡ u → told_in facts o (w + 2) p u v ≡ true → Live k a (needed p v)
  needed_only p v None e h = absurd cc
  needed_only p v (Some g) e h = let q = point_finds k o y g p e in go q.0 q.1 (node_in (w + 2) (o.variables g) (p, v)) refl h
    where
      go : TakesPart k g → IsPoint g p → (n : Option ℕ) → node_in (w + 2) (o.variables g) (p, v) ≡ n → flag_at facts n ≡ true → Live k a (needed p v)
      go t i None n f = absurd cc
      go t i (Some m) n f = holds (needed p v) m (record { unit = g; takes = t; at = i; number = n }) f

  needed_has : (p : ℕ) (v : Var) → Live k a (needed p v) → told facts o (w + 2) p v ≡ true
  needed_has p v r =
      let q = reached_has listed (needed p v) r in
      ap (λ u. told_in facts o (w + 2) p u v) (point_found k o y q.1.unit p q.1.takes q.1.at) ∙ ap (flag_at facts) q.1.number ∙ (exact q.0).1 q.2

  -- ---- what is kept

  kept_exact : (i : ℕ) → flag kepts i ≡ true ↔ Live k a (kept i)
  kept_exact i = (
    λ h. holds (kept i) (kept_at w i) refl (sym (kept_by i) ∙ h),
    λ r. kept_by i ∙ (exact (kept_at w i)).1 ((exact_by_number listed (kept i) (kept_at w i) refl).0 r),
  )

  -- ---- what is wanted

  wanted_only : (u : ℕ) (d : List ℕ) (g : Option Part) → unit_of o.parts u ≡ g → told_in entries o w u g (plain d) ≡ true → Live k a (wanted u d)
  wanted_only u d None e h = absurd cc
  wanted_only u d (Some g) e h = let q = number_finds k o y g u e in go q.0 q.1 (node_in w (o.variables g) (u, plain d)) refl h
    where
      go : TakesPart k g → g.number ≡ u → (n : Option ℕ) → node_in w (o.variables g) (u, plain d) ≡ n → flag_at entries n ≡ true → Live k a (wanted u d)
      go t i None n f = absurd cc
      go t i (Some m) n f = holds (wanted u d) (m * (w + 2) + (w + 1)) (m, record { unit = g; takes = t; at = i; number = n }, refl) (sym (entry_by m) ∙ f)

  wanted_has : (u : ℕ) (d : List ℕ) → Live k a (wanted u d) → told_of entries o w u (plain d) ≡ true
  wanted_has u d r =
      let q = reached_has listed (wanted u d) r in
      let h = q.1.1 in
      ap (λ z. told_in entries o w u z (plain d)) (number_found k o y h.unit u h.takes h.at) ∙ ap (flag_at entries) h.number ∙ entry_by q.1.0 ∙ ap (flag facts) q.1.2 ∙ (exact q.0).1 q.2

  -- ---- all of it

  pub is_live : IsLive k a (record { needed = told facts o (w + 2); kept = flag kepts; wanted = λ u d. told_of entries o w u (plain d) })
  is_live = record { exact = by }
    where
      by : (x : Fact) → says (record { needed = told facts o (w + 2); kept = flag kepts; wanted = λ u d. told_of entries o w u (plain d) }) x ≡ true ↔ Live k a x
      by (needed p v) = (λ h. needed_only p v (unit_at o.parts p) refl h, needed_has p v)
      by (kept i) = kept_exact i
      by (wanted u d) = (λ h. wanted_only u d (unit_of o.parts u) refl h, wanted_has u d)
