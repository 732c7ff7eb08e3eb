-- The sorts of actuals, and the subscripts of elements that are put back.
use Rattle.std.proofs.Common.{◌≡◌, ℕ, zero, suc, ◌+◌, ◌*◌, ◌<◌, ◌≤◌, ◌⊎◌, inl, inr, Bool, List, ◌∷◌, refl, sym, ap, ◌∙◌, arith, subst, mul-add}
use Rattle.std.specs.Prelude.{Ok, Err}
use Rattle.adj_tree.specs.Code.{Var, plus, minus, times, quot, modulo, greater, lesser, Term, lit, var, elem, neg, bin, pow, power_of, abs, Terms, none, more}
use Rattle.def_meaning.specs.Trap.{Trap, then_ok}
use Rattle.def_meaning.specs.Store.{Store}
use Rattle.def_meaning.specs.Value.{Setting, value, values}
use Rattle.def_meaning.specs.Scene.{Scene}
use Rattle.def_meaning.specs.Run.{Calls}
use Rattle.def_meaning.specs.Units.{one_word, nowhere, actual_of}
use Rattle.law_meaning.proofs.Leadings.{with_store}
use Rattle.law_meaning.proofs.Agreements.{StoresAgree}
use Rattle.def_kernel.specs.Lowered.{locals_in, locals_in_all, length_of, reduced, set_local, held, before_held, by_value, passing}
use Rattle.law_kernel.specs.Apart.{ShowWords, AreLocals, CellsOf, TermsInside}
use Rattle.law_meaning.proofs.Straights.{Stops, stops_first, stops_after}
use Rattle.law_meaning.proofs.Bounded.{Goes, leads_of, goes_stop, goes_append, goes_more}
use Rattle.law_kernel.proofs.Changing.{SameOrNone, Range, Changes, changes_none, changes_both}
use Rattle.law_kernel.proofs.Targeting.{first_inside, rest_inside, values_of, Local, is_set, is_not, sets_local, OneAnd, agree_after}

-- ---- sorts of actuals

-- what is passed by its value
abbrev pub IsValue : Type 0 → Term → Type 0
IsValue C e = (n : Setting C) (s : Store C) → actual_of n e s ≡ then_ok (value n e s) (λ c. Ok (one_word c nowhere))

module _ (C : Type 0) (local : ℕ → Var) (j : ℕ) where
  -- an actual is a name, an element, a value that became a local, or another value
  pub data Sort (e : Term) : Type 0 where
    name : (x : Var) → e ≡ var x → Sort e
    element : (x : Var) (subs : Terms) → e ≡ elem x subs → Sort e
    chosen : (i : ℕ) → j ≤ i → i < j + locals_in e → reduced local j e ≡ var (local i) → IsValue C e → Sort e
    other : ((w : Bool) (earlier : List Var) → passing w earlier (reduced local j e) ≡ by_value (reduced local j e)) → IsValue C e → Sort e

  -- each actual is of one of these sorts
  pub sort : (e : Term) → Sort e
  sort (lit z) = other (λ w l. refl) (λ n s. refl)
  sort (var x) = name x refl
  sort (elem x subs) = element x subs refl
  sort (neg a) = other (λ w l. refl) (λ n s. refl)
  sort (bin plus a b) = other (λ w l. refl) (λ n s. refl)
  sort (bin minus a b) = other (λ w l. refl) (λ n s. refl)
  sort (bin times a b) = other (λ w l. refl) (λ n s. refl)
  sort (bin quot a b) = other (λ w l. refl) (λ n s. refl)
  sort (bin modulo a b) = other (λ w l. refl) (λ n s. refl)
  sort (bin greater a b) = chosen (j + locals_in a + locals_in b) (omega arith) (omega arith) refl (λ n s. refl)
  sort (bin lesser a b) = chosen (j + locals_in a + locals_in b) (omega arith) (omega arith) refl (λ n s. refl)
  sort (pow a zero) = other (λ w l. refl) (λ n s. refl)
  sort (pow a (suc k)) = other (λ w l. refl) (λ n s. refl)
  sort (power_of a b) = other (λ w l. refl) (λ n s. refl)
  sort (abs a) = chosen (j + locals_in a) (omega arith) (omega arith) refl (λ n s. refl)

-- ---- subscripts that are held by locals

module _ {C : Type 0} (n : Setting C) (local : ℕ → Var) where
  -- they keep their values where the locals do
  pub held_same : (es : Terms) (j : ℕ) (t t' : Store C) → ((k : ℕ) → Range j (length_of es + locals_in_all es) k → t' (local k) 0 ≡ t (local k) 0) → values n (held local j es) t' ≡ values n (held local j es) t
  held_same none j t t' h = refl
  held_same (more e es) j t t' h =
      λ i. then_ok (held_same es (suc (j + locals_in e)) t t' (λ k r. h k (omega (arith, r.0), omega (arith, r.1))) i) (λ us. Ok (n.numbers.shown (h j (omega arith, omega arith) i) ∷ us))

module _ {C : Type 0} (q : Calls C) (n : Setting C) (inside : Var → Bool) (local : ℕ → Var) (apart : AreLocals inside local) (shows : ShowWords n.numbers) (base : Scene C) (line : ℕ) where
  abbrev at : Store C → Scene C
  at t = with_store base t

  abbrev Agree : Store C → Store C → Type 0
  Agree s t = StoresAgree (CellsOf n inside) s t

  abbrev count : Terms → ℕ
  count es = length_of es + locals_in_all es

  -- the subscripts were evaluated into locals, or one of them has no value
  pub data Held (j : ℕ) (es : Terms) (s t : Store C) : Type 0 where
    are_held : (t1 : Store C) → Goes q n (before_held local line j es) (at t) (at t1) (3 * count es) → Changes inside local (Range j (count es)) t t1 → SameOrNone (values n es s) (values n (held local j es) t1) → Held j es s t
    not_held : (k : Trap) → values n es s ≡ Err k → Stops q n (before_held local line j es) (at t) line → Held j es s t

  module _ (e : Term) (es : Terms) (j : ℕ) (s t : Store C) where
    none_first : (k : Trap) → value n e s ≡ Err k → values n (more e es) s ≡ Err k
    none_first k f = ap (λ z. then_ok z (λ u. then_ok (values n es s) (λ us. Ok (n.numbers.shown u ∷ us)))) f

    none_after : (u : C) → value n e s ≡ Ok u → (k : Trap) → values n es s ≡ Err k → values n (more e es) s ≡ Err k
    none_after u f k g = λ i. then_ok (f i) (λ u. then_ok (g i) (λ us. Ok (n.numbers.shown u ∷ us)))

    hold_more : Agree s t → Local q n inside local apart shows base line j (suc j) e s t → ((t1 : Store C) → Agree s t1 → Held (suc (j + locals_in e)) es s t1) → Held j (more e es) s t
    hold_more g (is_not k f y) next = not_held k (none_first k f) (stops_first q n (set_local local line j (suc j) e) _ (at t) line y)
    hold_more g (is_set t1 l c u f h) next = go (next t1 (agree_after q n inside local apart shows base line (OneAnd q n inside local apart shows base line j (suc j) (locals_in e)) s t t1 g c))
      where
        go : Held (suc (j + locals_in e)) es s t1 → Held j (more e es) s t
        go (not_held k f1 y) = not_held k (none_after u f k f1) (stops_after q n (set_local local line j (suc j) e) _ (at t) (at t1) line (leads_of q n (set_local local line j (suc j) e) (at t) (at t1) (3 * locals_in e + 1) l) y)
        go (are_held t2 l2 c2 v) =
            are_held t2
            (goes_more q n _ (at t) (at t2) (3 * locals_in e + 1 + 3 * count es) (3 * (suc (length_of es) + (locals_in e + locals_in_all es))) (omega (arith, mul-add 3 (suc (length_of es)) (locals_in e + locals_in_all es), mul-add 3 (locals_in e) (locals_in_all es), mul-add 3 (length_of es) (locals_in_all es), mul-add 3 (length_of es) 1))
            (goes_append q n (set_local local line j (suc j) e) _ (at t) (at t1) (at t2) (3 * locals_in e + 1) (3 * count es) l l2))
            (changes_both inside local (Range j (suc (length_of es) + (locals_in e + locals_in_all es))) _ (Range (suc (j + locals_in e)) (count es)) t t1 t2 c c2 first_of (λ k r. (omega (arith, r.0), omega (arith, r.1))))
            (values_of n e (var (local j)) es (held local (suc (j + locals_in e)) es) s t2 (subst (λ z. SameOrNone z (Ok (t2 (local j) 0))) (sym f) (sym (c2.others j 0 (λ r. absurd (omega (arith, r.0))) ∙ h))) v)
          where
            first_of : (k : ℕ) → (k ≡ j) ⊎ Range (suc j) (locals_in e) k → Range j (suc (length_of es) + (locals_in e + locals_in_all es)) k
            first_of k (inl r) = (omega (arith, r), omega (arith, r))
            first_of k (inr r) = (omega (arith, r.0), omega (arith, r.1))

  -- subscripts are evaluated into locals, or one has no value
  pub holds_subscripts : (es : Terms) (j : ℕ) (s t : Store C) → TermsInside inside es → Agree s t → Held j es s t
  holds_subscripts none j s t h g = are_held t (goes_stop q n (at t)) (changes_none inside local (Range j 0) t) refl
  holds_subscripts (more e es) j s t h g =
      hold_more e es j s t g (sets_local q n inside local apart shows base line j (suc j) e s t (first_inside inside e es h) g)
      (λ t1 g1. holds_subscripts es (suc (j + locals_in e)) s t1 (rest_inside inside e es h) g1)
