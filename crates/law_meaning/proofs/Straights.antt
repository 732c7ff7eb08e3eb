-- Lists of statements that lead to a scene, or trap.
use Rattle.std.proofs.Common.{◌≡◌, ℕ, suc, ◌+◌, ◌-◌, ◌<◌, sym, ap, ◌∙◌, arith}
use Rattle.std.specs.Prelude.{Ok, Err}
use Rattle.adj_tree.specs.Code.{Var, Term, Terms, Act, assign, Code, stop, step}
use Rattle.def_meaning.specs.Append.{◌+++◌}
use Rattle.def_meaning.specs.Trap.{Trap}
use Rattle.def_meaning.specs.Store.{set}
use Rattle.def_meaning.specs.Value.{Setting, value, target}
use Rattle.def_meaning.specs.Scene.{Scene, Stand, stand, IsMore, Outcome, Done, Trapped, Full, then_do, with_value}
use Rattle.def_meaning.specs.Run.{Calls, run}
use Rattle.law_meaning.specs.Leads.{Leads}
use Rattle.def_meaning.proofs.Appends.{run_append}
use Rattle.law_meaning.proofs.Verdicts.{Ending, finished, stopped, filled, with_left, Verdict, goes_on, settled}
use Rattle.law_meaning.proofs.Longer.{CallsAlike, run_verdict}

-- the list traps at a line, after some statements
pub record Stops {C : Type 0} (q : Calls C) (n : Setting C) (c : Code) (s : Scene C) (line : ℕ) : Type 0 where
  pub kind : Trap
  pub cost : ℕ
  pub stands : Stand
  pub by : (k : ℕ) → run q n c s (cost + k) ≡ Trapped kind line stands

module _ {C : Type 0} (q : Calls C) (n : Setting C) where
  pub stops_first : (c d : Code) (s : Scene C) (line : ℕ) → Stops q n c s line → Stops q n (c +++ d) s line
  stops_first c d s line h = record { kind = h.kind; stands = h.stands; cost = h.cost; by = λ k. run_append q n c d s (h.cost + k) ∙ ap (λ o. then_do o (run q n d)) (h.by k) }

  pub stops_after : (c d : Code) (s s1 : Scene C) (line : ℕ) → Leads q n c s s1 → Stops q n d s1 line → Stops q n (c +++ d) s line
  stops_after c d s s1 line l h = record {
    kind = h.kind;
    stands = h.stands;
    cost = l.cost + h.cost;
    by = λ k.
        let e : l.cost + h.cost + k ≡ l.cost + (h.cost + k) = omega arith in
        ap (run q n (c +++ d) s) e ∙ run_append q n c d s (l.cost + (h.cost + k)) ∙ ap (λ o. then_do o (run q n d)) (l.by (h.cost + k)) ∙ h.by k;
  }

  -- an assignment whose right side has no value
  pub stops_value : (line : ℕ) (x : Var) (subs : Terms) (e : Term) (d : Code) (s : Scene C) (t : Trap) → value n e s.store ≡ Err t → Stops q n (step line (assign x subs e) d) s line
  stops_value line x subs e d s t h = record {
    kind = t;
    stands = stand n s;
    cost = 1;
    by = λ k.
        let e1 : 1 + k ≡ suc k = omega arith in
        ap (run q n (step line (assign x subs e) d) s) e1
        ∙ ap (λ z. then_do (with_value z line (stand n s) (λ u. with_value (target n x subs s.store) line (stand n s) (λ i. Done (record s { store = set s.store x i u }) k))) (run q n d)) h;
  }

  -- one whose target has no cell
  pub stops_target : (line : ℕ) (x : Var) (subs : Terms) (e : Term) (d : Code) (s : Scene C) (u : C) (t : Trap) → value n e s.store ≡ Ok u → target n x subs s.store ≡ Err t → Stops q n (step line (assign x subs e) d) s line
  stops_target line x subs e d s u t h g = record {
    kind = t;
    stands = stand n s;
    cost = 1;
    by = λ k.
        let e1 : 1 + k ≡ suc k = omega arith in
        ap (run q n (step line (assign x subs e) d) s) e1
        ∙ ap (λ z. then_do (with_value z line (stand n s) (λ u. with_value (target n x subs s.store) line (stand n s) (λ i. Done (record s { store = set s.store x i u }) k))) (run q n d)) h
        ∙ ap (λ z. then_do (with_value z line (stand n s) (λ i. let o : Outcome (Scene C) = Done (record s { store = set s.store x i u }) k in o)) (run q n d)) g;
  }

  -- a list that isn't empty does nothing where no statement is left
  pub nothing_left : (c : Code) (line : ℕ) (a : Act) (d : Code) (s : Scene C) → IsMore (run q n (c +++ step line a d) s 0)
  nothing_left stop line a d s = tt
  nothing_left (step line1 a1 c) line a d s = tt

  -- with fewer statements than it costs a list has more to do
  pub leads_early : CallsAlike q q → (c : Code) (s s1 : Scene C) (l : Leads q n c s s1) (j : ℕ) → j < l.cost → IsMore (run q n c s j)
  leads_early alike c s s1 l j lt = go (run_verdict q q alike n c s j)
    where
      same_end : (e : Ending (Scene C)) (cost m : ℕ) → l.cost ≡ cost + m → 0 < m → run q n c s (cost + m) ≡ with_left e m → IsMore (run q n c s j)
      same_end (finished b) cost m is pos h =
          let z : l.cost + 0 ≡ cost + m = omega (arith, is) in
          let o : Outcome (Scene C) = Done s1 0 in
          let e : o ≡ Done b m = sym (l.by 0) ∙ ap (run q n c s) z ∙ h in
          let f : 0 ≡ m = cc in absurd (omega arith)
      same_end (stopped t line x) cost m is pos h =
          let z : l.cost + 0 ≡ cost + m = omega (arith, is) in
          let o : Outcome (Scene C) = Done s1 0 in
          let e : o ≡ Trapped t line x = sym (l.by 0) ∙ ap (run q n c s) z ∙ h in absurd cc
      same_end (filled x) cost m is pos h =
          let z : l.cost + 0 ≡ cost + m = omega (arith, is) in
          let o : Outcome (Scene C) = Done s1 0 in
          let e : o ≡ Full x = sym (l.by 0) ∙ ap (run q n c s) z ∙ h in absurd cc

      go : Verdict (run q n c s) (run q n c s) j → IsMore (run q n c s j)
      go (goes_on m) = m j (omega arith)
      go (settled v) = same_end v.ending v.cost (l.cost - v.cost) (omega (arith, v.is)) (omega (arith, v.is)) (v.same (l.cost - v.cost))
