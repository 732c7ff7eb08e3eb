-- Lists of statements that lead to a scene with a bound on what they cost.
use Rattle.std.proofs.Common.{◌≡◌, ℕ, suc, ◌+◌, ◌≤◌, refl, ap, ◌∙◌, arith, true, false, Bool}
use Rattle.std.specs.Prelude.{Ok, if◌then◌else◌}
use Rattle.adj_tree.specs.Code.{Var, Term, Terms, Test, Act, assign, choose, Code, stop, step}
use Rattle.def_meaning.specs.Append.{◌+++◌}
use Rattle.def_meaning.specs.Store.{set}
use Rattle.def_meaning.specs.Value.{Setting, value, target, holds}
use Rattle.def_meaning.specs.Scene.{Scene, stand, Done, then_do, with_value}
use Rattle.def_meaning.specs.Run.{Calls, run}
use Rattle.law_meaning.specs.Leads.{Leads}
use Rattle.def_meaning.proofs.Appends.{run_append}
use Rattle.def_meaning.specs.Padded.{waiting, padded}
use Rattle.law_meaning.proofs.Leadings.{with_store}
use Rattle.law_meaning.proofs.Padding.{waiting_past}

-- the list leads from the one scene to the other with at most m statements
pub record Goes {C : Type 0} (q : Calls C) (n : Setting C) (c : Code) (s s' : Scene C) (m : ℕ) : Type 0 where
  pub cost : ℕ
  pub bound : cost ≤ m
  pub by : (k : ℕ) → run q n c s (cost + k) ≡ Done s' k

module _ {C : Type 0} (q : Calls C) (n : Setting C) where
  pub leads_of : (c : Code) (s s' : Scene C) (m : ℕ) → Goes q n c s s' m → Leads q n c s s'
  leads_of c s s' m g = record { cost = g.cost; by = g.by }

  pub goes_stop : (s : Scene C) → Goes q n stop s s 0
  goes_stop s = record { cost = 0; bound = omega arith; by = λ k. let e : 0 + k ≡ k = omega arith in ap (Done s) e }

  pub goes_append : (c d : Code) (s s1 s2 : Scene C) (m m1 : ℕ) → Goes q n c s s1 m → Goes q n d s1 s2 m1 → Goes q n (c +++ d) s s2 (m + m1)
  goes_append c d s s1 s2 m m1 a b = record {
    cost = a.cost + b.cost;
    bound = omega (arith, a.bound, b.bound);
    by = λ k.
        let e : a.cost + b.cost + k ≡ a.cost + (b.cost + k) = omega arith in
        ap (run q n (c +++ d) s) e ∙ run_append q n c d s (a.cost + (b.cost + k)) ∙ ap (λ o. then_do o (run q n d)) (a.by (b.cost + k)) ∙ b.by k;
  }

  pub goes_more : (c : Code) (s s1 : Scene C) (m m1 : ℕ) → m ≤ m1 → Goes q n c s s1 m → Goes q n c s s1 m1
  goes_more c s s1 m m1 le a = record { cost = a.cost; bound = omega (arith, a.bound, le); by = a.by }

  pub goes_assign : (line : ℕ) (x : Var) (subs : Terms) (e : Term) (c : Code) (s s2 : Scene C) (u : C) (i m : ℕ) → value n e s.store ≡ Ok u → target n x subs s.store ≡ Ok i → Goes q n c (with_store s (set s.store x i u)) s2 m → Goes q n (step line (assign x subs e) c) s s2 (suc m)
  goes_assign line x subs e c s s2 u i m v t b = record {
    cost = suc b.cost;
    bound = omega (arith, b.bound);
    by = λ k.
        let e1 : suc b.cost + k ≡ suc (b.cost + k) = omega arith in
        ap (run q n (step line (assign x subs e) c) s) e1
        ∙ ap (λ z. then_do (with_value z line (stand n s) (λ u. with_value (target n x subs s.store) line (stand n s) (λ i. Done (with_store s (set s.store x i u)) (b.cost + k)))) (run q n c)) v
        ∙ ap (λ z. then_do (with_value z line (stand n s) (λ i. Done (with_store s (set s.store x i u)) (b.cost + k))) (run q n c)) t
        ∙ b.by k;
  }

  -- an IF whose condition is known
  pub goes_choose : (line : ℕ) (c : Test) (a b d : Code) (s s1 s2 : Scene C) (p : Bool) (m m1 : ℕ) → holds n c s.store ≡ Ok p → Goes q n (if p then a else b) s s1 m → Goes q n d s1 s2 m1 → Goes q n (step line (choose c a b) d) s s2 (suc (m + m1))
  goes_choose line c a b d s s1 s2 p m m1 h g r = record {
    cost = suc (g.cost + r.cost);
    bound = omega (arith, g.bound, r.bound);
    by = λ k.
        let e1 : suc (g.cost + r.cost) + k ≡ suc (g.cost + (r.cost + k)) = omega arith in
        ap (run q n (step line (choose c a b) d) s) e1
        ∙ ap (λ z. then_do (with_value z line (stand n s) (λ p. if p then run q n a s (g.cost + (r.cost + k)) else run q n b s (g.cost + (r.cost + k)))) (run q n d)) h
        ∙ ap (λ z. then_do z (run q n d)) (branch p (g.cost + (r.cost + k)))
        ∙ ap (λ z. then_do z (run q n d)) (g.by (r.cost + k))
        ∙ r.by k;
  }
    where
      branch : (p : Bool) (j : ℕ) → (if p then run q n a s j else run q n b s j) ≡ run q n (if p then a else b) s j
      branch true j = refl
      branch false j = refl

  -- statements that do nothing, and then others
  pub goes_waiting : (e line : ℕ) (c : Code) (s s1 : Scene C) (m : ℕ) → Goes q n c s s1 m → Goes q n (waiting e line c) s s1 (e + m)
  goes_waiting e line c s s1 m g = record {
    cost = e + g.cost;
    bound = omega (arith, g.bound);
    by = λ k. let e1 : e + g.cost + k ≡ e + (g.cost + k) = omega arith in ap (run q n (waiting e line c) s) e1 ∙ waiting_past q n e line c s (g.cost + k) ∙ g.by k;
  }

  -- an assignment of a padded list, by its weight
  pub goes_padded_assign : (extra : Act → ℕ) (line : ℕ) (x : Var) (subs : Terms) (e : Term) (c : Code) (s s2 : Scene C) (u : C) (i m : ℕ) → value n e s.store ≡ Ok u → target n x subs s.store ≡ Ok i → Goes q n (padded extra c) (with_store s (set s.store x i u)) s2 m → Goes q n (padded extra (step line (assign x subs e) c)) s s2 (extra (assign x subs e) + suc m)
  goes_padded_assign extra line x subs e c s s2 u i m v t b =
      goes_waiting (extra (assign x subs e)) line (step line (assign x subs e) (padded extra c)) s s2 (suc m) (goes_assign line x subs e (padded extra c) s s2 u i m v t b)

  -- an IF of a padded list
  pub goes_padded_choose : (extra : Act → ℕ) (line : ℕ) (c : Test) (a b d : Code) (s s1 s2 : Scene C) (p : Bool) (m m1 : ℕ) → holds n c s.store ≡ Ok p → Goes q n (if p then padded extra a else padded extra b) s s1 m → Goes q n (padded extra d) s1 s2 m1 → Goes q n (padded extra (step line (choose c a b) d)) s s2 (extra (choose c a b) + suc (m + m1))
  goes_padded_choose extra line c a b d s s1 s2 p m m1 h g r =
      goes_waiting (extra (choose c a b)) line (step line (choose c (padded extra a) (padded extra b)) (padded extra d)) s s2 (suc (m + m1)) (goes_choose line c (padded extra a) (padded extra b) (padded extra d) s s1 s2 p m m1 h g r)
