-- Straight code beside the text: assignments to variables that aren't of the text. It is done or traps, and leaves the text's variables.
use Rattle.std.proofs.Common.{◌≡◌, ◌<◌, ℕ, zero, suc, ◌+◌, ◌⊎◌, inl, inr, false, List, refl, sym, ap, ◌∙◌, subst, arith}
use Rattle.std.specs.Prelude.{Result, Ok, Err}
use Rattle.adj_tree.specs.Code.{Var, plain, shadow, helper, var_eq, Term, Terms, Act, assign, choose, loop, during, call, runtime, Code, stop, step}
use Rattle.def_meaning.specs.Append.{◌+++◌}
use Rattle.def_meaning.specs.Trap.{Trap}
use Rattle.def_meaning.specs.Store.{Store, set}
use Rattle.def_meaning.specs.Value.{Setting, value, target}
use Rattle.def_meaning.specs.Scene.{Scene, Stand, stand, IsMore, Done, Trapped, then_do, with_value}
use Rattle.def_meaning.specs.Run.{Calls, run}
use Rattle.law_meaning.specs.Leads.{Leads}
use Rattle.law_meaning.proofs.Inversions.{done_same}
use Rattle.law_meaning.proofs.Leadings.{with_store}
pub use Rattle.law_tangent.specs.Counts.{size}

-- the statement is such an assignment
abbrev pub IsAside : Act → Type 0
IsAside (assign (plain x) subs e) = ⊥
IsAside (assign (shadow x) subs e) = Unit {0}
IsAside (assign (helper r k) subs e) = Unit {0}
IsAside (choose c a b) = ⊥
IsAside (loop x a b c body m) = ⊥
IsAside (during c body) = ⊥
IsAside (call name args) = ⊥
IsAside (runtime r) = ⊥

-- each statement is one, and stands at the line
abbrev pub AreAside : ℕ → Code → Type 0
AreAside line stop = Unit {0}
AreAside line (step l a rest) = (l ≡ line) × (IsAside a × AreAside line rest)

-- two lists have as many statements as both together
pub size-append : (c d : Code) → size (c +++ d) ≡ size c + size d
size-append stop d = omega arith
size-append (step line a c) d = let ih = size-append c d in omega (arith, ih)

-- two lists beside the text, one after the other, are beside it
pub aside_append : (line : ℕ) (c d : Code) → AreAside line c → AreAside line d → AreAside line (c +++ d)
aside_append line stop d h g = g
aside_append line (step l a c) d h g = (h.0, (h.1.0, aside_append line c d h.1.1 g))

module _ {C : Type 0} (q : Calls C) (n : Setting C) where
  -- the list is done
  pub record Went (c : Code) (s : Scene C) : Type 0 where
    pub after : Store C
    pub by : (j : ℕ) → run q n c s (size c + j) ≡ Done (with_store s after) j
    pub early : (j : ℕ) → j < size c → IsMore (run q n c s j)
    pub same : (x : List ℕ) (i : ℕ) → after (plain x) i ≡ s.store (plain x) i

  -- the list traps
  pub record Fell (line : ℕ) (c : Code) (s : Scene C) : Type 0 where
    pub kind : Trap
    pub stands : Stand
    pub cost : ℕ
    pub by : (j : ℕ) → run q n c s (cost + j) ≡ Trapped kind line stands

  -- an assignment, and what comes after it
  assigned : (line l : ℕ) (v : Var) (subs : Terms) (e : Term) (c : Code) (s : Scene C) → l ≡ line → ((y : List ℕ) → var_eq (plain y) v ≡ false) → ((s1 : Scene C) → Went c s1 ⊎ Fell line c s1) → Went (step l (assign v subs e) c) s ⊎ Fell line (step l (assign v subs e) c) s
  assigned line l v subs e c s here other ih = go (value n e s.store) refl
    where
      whole : Code
      whole = step l (assign v subs e) c

      later : (m j : ℕ) → suc m + j ≡ suc (m + j)
      later m j = omega arith

      go : (r : Result C Trap) → value n e s.store ≡ r → Went whole s ⊎ Fell line whole s
      go (Err t) is = inr (record {
        kind = t;
        stands = stand n s;
        cost = 1;
        by = λ j. ap (run q n whole s) (later 0 j)
            ∙ ap (λ z. then_do (with_value z l (stand n s) (λ u. with_value (target n v subs s.store) l (stand n s) (λ i. Done (with_store s (set s.store v i u)) (0 + j)))) (run q n c)) is
            ∙ ap (λ z. Trapped t z (stand n s)) here;
      })
      go (Ok u) is = located (target n v subs s.store) refl
        where
          first : (j : ℕ) → run q n whole s (suc j) ≡ then_do (with_value (target n v subs s.store) l (stand n s) (λ i. Done (with_store s (set s.store v i u)) j)) (run q n c)
          first j = ap (λ z. then_do (with_value z l (stand n s) (λ u. with_value (target n v subs s.store) l (stand n s) (λ i. Done (with_store s (set s.store v i u)) j))) (run q n c)) is

          located : (r : Result ℕ Trap) → target n v subs s.store ≡ r → Went whole s ⊎ Fell line whole s
          located (Err t) at = inr (record {
            kind = t;
            stands = stand n s;
            cost = 1;
            by = λ j. ap (run q n whole s) (later 0 j) ∙ first (0 + j)
                ∙ ap (λ z. then_do (with_value z l (stand n s) (λ i. Done (with_store s (set s.store v i u)) (0 + j))) (run q n c)) at
                ∙ ap (λ z. Trapped t z (stand n s)) here;
          })
          located (Ok i) at = rest (ih s1)
            where
              s1 : Scene C
              s1 = with_store s (set s.store v i u)

              past : (j : ℕ) → run q n whole s (suc j) ≡ run q n c s1 j
              past j = first j ∙ ap (λ z. then_do (with_value z l (stand n s) (λ i. Done (with_store s (set s.store v i u)) j)) (run q n c)) at

              rest : Went c s1 ⊎ Fell line c s1 → Went whole s ⊎ Fell line whole s
              rest (inl w) = inl (record {
                after = w.after;
                by = λ j. ap (run q n whole s) (later (size c) j) ∙ past (size c + j) ∙ w.by j;
                early = early;
                same = λ x k. w.same x k ∙ (let o = other x in rw o refl);
              })
                where
                  early : (j : ℕ) → j < suc (size c) → IsMore (run q n whole s j)
                  early zero lt = tt
                  early (suc j) lt = subst IsMore (sym (past j)) (w.early j (omega arith))
              rest (inr f) = inr (record {
                kind = f.kind;
                stands = f.stands;
                cost = suc f.cost;
                by = λ j. ap (run q n whole s) (later f.cost j) ∙ past (f.cost + j) ∙ f.by j;
              })

  -- it is done, or traps at the line
  pub ran : (line : ℕ) (c : Code) → AreAside line c → (s : Scene C) → Went c s ⊎ Fell line c s
  ran line stop h s = inl (record { after = s.store; by = λ j. let e : 0 + j ≡ j = omega arith in ap (Done s) e; early = λ j lt. absurd (omega arith); same = λ x i. refl })
  ran line (step l (assign (plain x) subs e) c) h s = absurd h.1.0
  ran line (step l (assign (shadow x) subs e) c) h s = assigned line l (shadow x) subs e c s h.0 (λ y. refl) (λ s1. ran line c h.1.1 s1)
  ran line (step l (assign (helper r k) subs e) c) h s = assigned line l (helper r k) subs e c s h.0 (λ y. refl) (λ s1. ran line c h.1.1 s1)
  ran line (step l (choose t a b) c) h s = absurd h.1.0
  ran line (step l (loop x f a b body m) c) h s = absurd h.1.0
  ran line (step l (during t body) c) h s = absurd h.1.0
  ran line (step l (call name args) c) h s = absurd h.1.0
  ran line (step l (runtime r) c) h s = absurd h.1.0

  -- what leads somewhere is done there
  pub went_there : (line : ℕ) (c : Code) (s s1 : Scene C) → AreAside line c → Leads q n c s s1 → (w : Went c s) × (with_store s w.after ≡ s1)
  went_there line c s s1 h l = go (ran line c h s)
    where
      go : Went c s ⊎ Fell line c s → (w : Went c s) × (with_store s w.after ≡ s1)
      go (inl w) =
          let e : size c + l.cost ≡ l.cost + size c = omega arith in
          (w, done_same (with_store s w.after) s1 l.cost (size c) (sym (w.by l.cost) ∙ ap (run q n c s) e ∙ l.by (size c)))
      go (inr f) =
          let e : f.cost + l.cost ≡ l.cost + f.cost = omega arith in
          absurd (let b = sym (f.by l.cost) ∙ ap (run q n c s) e ∙ l.by f.cost in cc)
