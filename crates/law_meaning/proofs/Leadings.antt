-- Runs from a scene to a scene are put together.
use Rattle.std.proofs.Common.{◌≡◌, ℕ, suc, ◌+◌, ap, ◌∙◌, arith, true, false}
use Rattle.std.specs.Prelude.{Ok, if◌then◌else◌}
use Rattle.adj_tree.specs.Code.{Var, Term, Terms, Test, Act, assign, choose, Code, stop, step}
use Rattle.def_meaning.specs.Append.{◌+++◌}
use Rattle.def_meaning.specs.Store.{Store, set}
use Rattle.def_meaning.specs.Value.{Setting, value, target, holds}
use Rattle.def_meaning.specs.Scene.{Scene, stand, Done, then_do, with_value}
use Rattle.def_meaning.specs.Run.{Calls, act, run}
use Rattle.law_meaning.specs.Leads.{Leads, ActLeads}
use Rattle.def_meaning.proofs.Appends.{run_append}

-- the scene with another store
abbrev pub with_store : {C : Type 0} → Scene C → Store C → Scene C
with_store s t = record s { store = t }

module _ {C : Type 0} (q : Calls C) (n : Setting C) where
  -- no statement
  pub leads_stop : (s : Scene C) → Leads q n stop s s
  leads_stop s = record { cost = 0; by = λ k. let e : 0 + k ≡ k = omega arith in ap (Done s) e }

  -- one list after another
  pub leads_append : (c d : Code) (s s1 s2 : Scene C) → Leads q n c s s1 → Leads q n d s1 s2 → Leads q n (c +++ d) s s2
  leads_append c d s s1 s2 a b = record {
    cost = a.cost + b.cost;
    by = λ k.
        let e : a.cost + b.cost + k ≡ a.cost + (b.cost + k) = omega arith in
        ap (run q n (c +++ d) s) e ∙ run_append q n c d s (a.cost + (b.cost + k)) ∙ ap (λ o. then_do o (run q n d)) (a.by (b.cost + k)) ∙ b.by k;
  }

  -- one statement, and those after it
  pub leads_act : (line : ℕ) (a : Act) (c : Code) (s s1 s2 : Scene C) → ActLeads q n a line s s1 → Leads q n c s1 s2 → Leads q n (step line a c) s s2
  leads_act line a c s s1 s2 h b = record {
    cost = suc (h.cost + b.cost);
    by = λ k.
        let e : suc (h.cost + b.cost) + k ≡ suc (h.cost + (b.cost + k)) = omega arith in
        ap (run q n (step line a c) s) e ∙ ap (λ o. then_do o (run q n c)) (h.by (b.cost + k)) ∙ b.by k;
  }

  -- a statement that takes no other, and those after it
  pub act_at_once : (line : ℕ) (a : Act) (s s1 : Scene C) → ((k : ℕ) → act q n a line s k ≡ Done s1 k) → ActLeads q n a line s s1
  act_at_once line a s s1 h = record { cost = 0; by = λ k. let e : 0 + k ≡ k = omega arith in ap (act q n a line s) e ∙ h k }

  pub leads_step : (line : ℕ) (a : Act) (c : Code) (s s1 s2 : Scene C) → ((k : ℕ) → act q n a line s k ≡ Done s1 k) → Leads q n c s1 s2 → Leads q n (step line a c) s s2
  leads_step line a c s s1 s2 h b = leads_act line a c s s1 s2 (act_at_once line a s s1 h) b

  -- an assignment, whose value and target are known
  pub leads_assign : (line : ℕ) (x : Var) (subs : Terms) (e : Term) (c : Code) (s s2 : Scene C) (u : C) (i : ℕ) → value n e s.store ≡ Ok u → target n x subs s.store ≡ Ok i → Leads q n c (with_store s (set s.store x i u)) s2 → Leads q n (step line (assign x subs e) c) s s2
  leads_assign line x subs e c s s2 u i v t b =
      leads_step line (assign x subs e) c s (with_store s (set s.store x i u)) s2
      (λ k. ap (λ z. with_value z line (stand n s) (λ u. with_value (target n x subs s.store) line (stand n s) (λ i. Done (with_store s (set s.store x i u)) k))) v
      ∙ ap (λ z. with_value z line (stand n s) (λ i. Done (with_store s (set s.store x i u)) k)) t)
      b

  -- an IF whose condition holds, and one whose condition doesn't
  pub act_then : (line : ℕ) (c : Test) (a b : Code) (s s1 : Scene C) → holds n c s.store ≡ Ok true → Leads q n a s s1 → ActLeads q n (choose c a b) line s s1
  act_then line c a b s s1 h l = record {
    cost = l.cost;
    by = λ k. ap (λ z. with_value z line (stand n s) (λ p. if p then run q n a s (l.cost + k) else run q n b s (l.cost + k))) h ∙ l.by k;
  }

  pub act_else : (line : ℕ) (c : Test) (a b : Code) (s s1 : Scene C) → holds n c s.store ≡ Ok false → Leads q n b s s1 → ActLeads q n (choose c a b) line s s1
  act_else line c a b s s1 h l = record {
    cost = l.cost;
    by = λ k. ap (λ z. with_value z line (stand n s) (λ p. if p then run q n a s (l.cost + k) else run q n b s (l.cost + k))) h ∙ l.by k;
  }
