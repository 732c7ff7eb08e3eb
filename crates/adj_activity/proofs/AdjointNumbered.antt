-- The edges between statements and units are the steps by which they are adjointed, by numbers.
use Rattle.std.proofs.Common.{◌≡◌, ℕ, refl, sym, ap, ◌∙◌, subst, arith}
use Rattle.std.specs.Prelude.{Contains}
use Rattle.def_flow.specs.Problem.{Problem}
use Rattle.def_flow.specs.Activity.{Activity, Adjoint, statement, unit, IsAdjointed, MakesAdjointed}
use Rattle.def_flow.specs.Rules.{Scope, Covers, adjoint_starts, adjoint_steps}
use Rattle.adj_reach.proofs.Members.{map_has, map_only}
use Rattle.def_flow.proofs.Numbered.{IsListed}
use Rattle.def_flow.proofs.AdjointListed as listing
use Rattle.adj_activity.specs.Edges.{adjoint_number, adjoint_nodes, adjoint_edges}
use Rattle.adj_flow.proofs.Images.{Images, listed_along}

-- numbers of statements are even, and those of units odd
adjoint_own : (x z : Adjoint) → adjoint_number x ≡ adjoint_number z → x ≡ z
adjoint_own (statement i) (statement j) e = let h : i ≡ j = omega arith in ap (λ n. statement n) h
adjoint_own (statement i) (unit u) e = absurd (omega arith)
adjoint_own (unit u) (statement i) e = absurd (omega arith)
adjoint_own (unit u) (unit v) e = let h : u ≡ v = omega arith in ap (λ n. unit n) h

module _ (k : Problem) (o : Scope) (y : Covers k o) (a : Activity) where
  abbrev pub IsNumber : Adjoint → ℕ → Type 0
  IsNumber x n = adjoint_number x ≡ n

  start_images : Images IsNumber (adjoint_starts a o) (adjoint_nodes a o)
  start_images = record {
    has = λ x n c e. let P : ℕ → Type 0 = λ z. Contains (adjoint_nodes a o) z in subst P e (map_has adjoint_number (adjoint_starts a o) x c);
    only = λ n c. map_only adjoint_number (adjoint_starts a o) n c;
  }

  step_images : Images (λ (e : Adjoint × Adjoint) (f : ℕ × ℕ). IsNumber e.0 f.0 × IsNumber e.1 f.1) (adjoint_steps k o) (adjoint_edges k o)
  step_images = record { has = has; only = only }
    where
      has : (e : Adjoint × Adjoint) (f : ℕ × ℕ) → Contains (adjoint_steps k o) e → IsNumber e.0 f.0 × IsNumber e.1 f.1 → Contains (adjoint_edges k o) f
      has e f c h =
          let q : (adjoint_number e.0, adjoint_number e.1) ≡ f = (λ i. (h.0 i, h.1 i)) in
          subst (λ z. Contains (adjoint_edges k o) z) q (map_has (λ (d : Adjoint × Adjoint). (adjoint_number d.0, adjoint_number d.1)) (adjoint_steps k o) e c)

      only : (f : ℕ × ℕ) → Contains (adjoint_edges k o) f → (e : Adjoint × Adjoint) × Contains (adjoint_steps k o) e × (IsNumber e.0 f.0 × IsNumber e.1 f.1)
      only f c = let q = map_only (λ (d : Adjoint × Adjoint). (adjoint_number d.0, adjoint_number d.1)) (adjoint_steps k o) f c in (q.0, q.1, (ap (λ z. z.0) q.2, ap (λ z. z.1) q.2))

  pub adjoint_listed : IsListed (IsAdjointed k a) (MakesAdjointed k) IsNumber (λ n. Contains (adjoint_nodes a o) n) (λ m n. Contains (adjoint_edges k o) (m, n))
  adjoint_listed =
      listed_along (λ x m n e h. sym e ∙ h) (λ x z n e h. adjoint_own x z (e ∙ sym h)) (λ x h. (adjoint_number x, refl)) (λ x m h. tt) start_images step_images (listing.adjoint_lists k o y a)
