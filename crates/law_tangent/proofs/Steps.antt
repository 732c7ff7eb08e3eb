-- Straight code and a statement after it, as what follows one statement.
use Rattle.std.proofs.Common.{◌≡◌, ◌≤◌, ℕ, zero, suc, ◌+◌, refl, sym, ap, ◌∙◌, subst, arith}
use Rattle.std.specs.Prelude.{Result, Ok, Err}
use Rattle.adj_tree.specs.Code.{Act, Code, step}
use Rattle.def_meaning.specs.Append.{◌+++◌}
use Rattle.def_meaning.specs.Trap.{Trap}
use Rattle.def_meaning.specs.Value.{Setting}
use Rattle.def_meaning.specs.Scene.{Scene, Stand, stand, IsMore, Done, Trapped, then_do, with_value}
use Rattle.def_meaning.specs.Run.{Calls, act, run}
use Rattle.law_meaning.specs.Follows.{Runs, Follows, both_more, both_done, both_trap}
use Rattle.def_meaning.proofs.Appends.{run_append}
use Rattle.law_meaning.proofs.Verdicts.{more_then}
use Rattle.law_meaning.proofs.Straights.{nothing_left}
use Rattle.law_meaning.proofs.Following.{follows_then, follows_statement, follows_trap}
use Rattle.law_meaning.proofs.Leadings.{with_store}
use Rattle.law_tangent.specs.Counts.{size}
use Rattle.law_tangent.proofs.Straight.{Went, Fell}

-- ---- both at once

module _ {A B : Type 0} (w : ℕ) (R : A → B → Type 0) (o : Runs A) (p : Runs B) where
  pub follows_both_done : (a : A) (b : B) → ((j : ℕ) → o j ≡ Done a j) → ((j : ℕ) → p j ≡ Done b j) → R a b → (k : ℕ) → Follows R w 0 o p k
  follows_both_done a b ho hp r k = both_done (record {
    first = a;
    spent = 0;
    left = k;
    is = omega arith;
    done = ho k;
    second = b;
    cost = 0;
    least = omega arith;
    most = omega arith;
    early = λ j lt. absurd (omega arith);
    by = λ j. let e : 0 + j ≡ j = omega arith in ap p e ∙ hp j;
    related = r;
  })

  pub follows_both_trap : (t t' : Trap) (line : ℕ) (u v : Stand) → ((j : ℕ) → o j ≡ Trapped t line u) → ((j : ℕ) → p j ≡ Trapped t' line v) → (k : ℕ) → Follows R w 0 o p k
  follows_both_trap t t' line u v ho hp k = both_trap (record { kind = t; line = line; stands = u; done = ho k; other = t'; stands_there = v; cost = 0; by = λ j. hp (0 + j) })

-- values that are the same, or traps
pub follows_value : {V A B : Type 0} (w : ℕ) (R : A → B → Type 0) (r r' : Result V Trap) (line : ℕ) (x x' : Stand) (f : V → Runs A) (g : V → Runs B) → r' ≡ r → (k : ℕ) → ((v : V) → r ≡ Ok v → Follows R w 0 (f v) (g v) k) → Follows R w 0 (λ j. with_value r line x (λ v. f v j)) (λ j. with_value r' line x' (λ v. g v j)) k
follows_value w R (Ok v) r' line x x' f g e k h = subst (λ z. Follows R w 0 (f v) (λ j. with_value z line x' (λ u. g u j)) k) (sym e) (h v refl)
follows_value w R (Err t) r' line x x' f g e k h = subst (λ z. Follows R w 0 (λ j. with_value (Err t) line x (λ u. f u j)) (λ j. with_value z line x' (λ u. g u j)) k) (sym e) (follows_trap w 0 R t t line x x' k)

module _ {C D : Type 0} (qd : Calls C) (q : Calls D) (nd : Setting C) (nw : Setting D) (w : ℕ) (R Q : Scene C → Scene D → Type 0) (line : ℕ) (a a' : Act) (pre c c' : Code) (d : Scene C) (s : Scene D) where
  abbrev whole : Code
  whole = pre +++ step line a' c'

  -- the code before it is done
  pub went_follows : (x : Went q nw pre s) → size pre + 1 ≤ w → ((k : ℕ) → Follows R w 0 (act qd nd a line d) (act q nw a' line (with_store s x.after)) k) → ((d1 : Scene C) (s1 : Scene D) (k : ℕ) → R d1 s1 → Follows Q w 0 (run qd nd c d1) (run q nw c' s1) k) → (k : ℕ) → Follows Q w 0 (run qd nd (step line a c) d) (run q nw whole s) k
  went_follows x few acts rest k =
      let s1 = with_store s x.after in
      follows_statement w 0 Q (λ j. then_do (act qd nd a line d j) (run qd nd c)) (λ j. then_do (act q nw a' line s1 j) (run q nw c')) (run q nw whole s) (size pre)
      (λ j lt. subst IsMore (sym (run_append q nw pre (step line a' c') s j)) (more_then (run q nw pre s j) (run q nw (step line a' c')) (x.early j lt)))
      (stand nd d) (stand nw s1)
      (λ j. run_append q nw pre (step line a' c') s (size pre + j) ∙ ap (λ o. then_do o (run q nw (step line a' c'))) (x.by j))
      (omega (arith, few)) k
      (λ j e. follows_then w 0 0 R Q (act qd nd a line d) (act q nw a' line s1) (run qd nd c) (run q nw c') j (acts j) (λ d1 s2 i le r. rest d1 s2 i r))

  -- or traps, as the statement does
  pub fell_follows : (x : Fell q nw line pre s) (t : Trap) (u : Stand) → ((j : ℕ) → act qd nd a line d j ≡ Trapped t line u) → (k : ℕ) → Follows Q w 0 (run qd nd (step line a c) d) (run q nw whole s) k
  fell_follows x t u h zero = both_more tt (λ j l. let e : 0 ≡ j = omega arith in subst (λ z. IsMore (run q nw whole s z)) e (nothing_left q nw pre line a' c' s))
  fell_follows x t u h (suc k) = both_trap (record {
    kind = t;
    line = line;
    stands = u;
    done = ap (λ o. then_do o (run qd nd c)) (h k);
    other = x.kind;
    stands_there = x.stands;
    cost = x.cost;
    by = λ j. run_append q nw pre (step line a' c') s (x.cost + j) ∙ ap (λ o. then_do o (run q nw (step line a' c'))) (x.by j);
  })
