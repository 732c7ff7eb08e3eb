-- What the assignments of the temporaries do.
use Rattle.std.proofs.Common.{◌≡◌, ℕ, zero, suc, ◌+◌, ◌≤◌, Bool, true, false, List, refl, sym, ap, ◌∙◌, arith}
use Rattle.std.specs.Prelude.{ℤ, ◌==◌, Ok}
use Rattle.adj_tree.specs.Code.{Var, shadow, helper, role_code, temp, Op, plus, minus, times, quot, modulo, greater, lesser, Term, lit, var, elem, neg, bin, pow, power_of, abs, Code, stop}
use Rattle.adj_tree.proofs.Names.{nat_refl}
use Rattle.adj_word.specs.Word.{negated, power}
use Rattle.def_meaning.specs.Trap.{then_ok}
use Rattle.def_meaning.specs.Numbers.{words, operation}
use Rattle.def_meaning.specs.Store.{Shape, Store, set}
use Rattle.def_meaning.specs.Value.{exponent_of, value}
use Rattle.def_meaning.specs.Append.{◌+++◌}
use Rattle.def_meaning.specs.Run.{Calls}
use Rattle.law_meaning.specs.Leads.{Leads}
use Rattle.law_meaning.proofs.Leadings.{leads_stop, leads_append}
use Rattle.def_names.specs.Numbers.{Vars}
use Rattle.def_sweep.specs.Marked.{is_compound, count_of, own_or, own_code}
use Rattle.law_sweep.specs.Pairs.{SamePlain, on_words}
use Rattle.law_sweep.specs.Scenes.{Course, scene}
use Rattle.def_names.proofs.Variables.{and_true}
use Rattle.law_sweep.proofs.Steps.{assigns}
pub use Rattle.law_sweep.proofs.Temps.{SameLoops, SameBelow}
use Rattle.def_sweep.specs.Occurrences.{is_active_where}
use Rattle.def_sweep.specs.AdjointOf.{has_own_where, temps_in_where, shrunk_where, temps_where}
use Rattle.law_sweep.proofs.Terms.{num, IsDefined, value_words}
use Rattle.law_sweep.proofs.TermUses.{IsText, IsOver, over_text, IsUsable, num_text, defined_text, num_same, defined_same, usable_same}

-- the operand's temporary holds its value, if it has one
abbrev pub OwnHolds : (Var → Shape) → Bool → ℕ → Term → Store ℤ → Type 0
OwnHolds sh true j e s = s (helper temp j) 0 ≡ num sh e s
OwnHolds sh false j e s = Unit {0}

-- the temporaries of the operands in the term hold their values
abbrev pub HasTemps : (Var → Shape) → Vars → Term → ℕ → Store ℤ → Type 0
HasTemps sh on (neg a) j s = HasTemps sh on a j s
HasTemps sh on (bin plus a b) j s = HasTemps sh on a j s × HasTemps sh on b (j + temps_in_where on a) s
HasTemps sh on (bin minus a b) j s = HasTemps sh on a j s × HasTemps sh on b (j + temps_in_where on a) s
HasTemps sh on (bin times a b) j s =
    HasTemps sh on a j s
    × (OwnHolds sh (has_own_where on a b) (j + temps_in_where on a) a s
    × (HasTemps sh on b (j + temps_in_where on a + count_of (has_own_where on a b)) s
    × OwnHolds sh (has_own_where on b a) (j + temps_in_where on a + count_of (has_own_where on a b) + temps_in_where on b) b s))
HasTemps sh on (pow a (suc zero)) j s = HasTemps sh on a j s
HasTemps sh on (pow a (suc (suc k))) j s = HasTemps sh on a j s × OwnHolds sh (has_own_where on a a) (j + temps_in_where on a) a s
HasTemps sh on (power_of a b) j s =
    HasTemps sh on a j s
    × (OwnHolds sh (has_own_where on a a) (j + temps_in_where on a) a s × OwnHolds sh (has_own_where on b a) (j + temps_in_where on a + count_of (has_own_where on a a)) b s)
HasTemps sh on _ j s = Unit {0}

below_less : (m m' : ℕ) (s s' : Store ℤ) → m' ≤ m → SameBelow m s s' → SameBelow m' s s'
below_less m m' s s' le h = record { plains = h.plains; below = λ i lt. h.below i (omega arith) }

module _ (on : Vars) (sh : Var → Shape) (vars : List (List ℕ)) where
  own_same : (t : Bool) (j : ℕ) (e : Term) (s s' : Store ℤ) → IsText e → SameBelow (j + count_of t) s s' → OwnHolds sh t j e s → OwnHolds sh t j e s'
  own_same true j e s s' o h w = h.below j (omega arith) ∙ w ∙ sym (num_text sh s s' h.plains e o)
  own_same false j e s s' o h w = tt

  pub temps_same : (e : Term) (j : ℕ) (s s' : Store ℤ) → IsOver vars e → SameBelow (j + temps_in_where on e) s s' → HasTemps sh on e j s → HasTemps sh on e j s'
  temps_same (lit z) j s s' o h w = tt
  temps_same (var x) j s s' o h w = tt
  temps_same (elem x subs) j s s' o h w = tt
  temps_same (neg a) j s s' o h w = temps_same a j s s' o h w
  temps_same (bin plus a b) j s s' o h w =
      (temps_same a j s s' o.1.0 (below_less _ _ s s' (omega arith) h) w.0, temps_same b (j + temps_in_where on a) s s' o.1.1 (below_less _ _ s s' (omega arith) h) w.1)
  temps_same (bin minus a b) j s s' o h w =
      (temps_same a j s s' o.1.0 (below_less _ _ s s' (omega arith) h) w.0, temps_same b (j + temps_in_where on a) s s' o.1.1 (below_less _ _ s s' (omega arith) h) w.1)
  temps_same (bin times a b) j s s' o h w = (
    temps_same a j s s' o.1.0 (below_less _ _ s s' (omega arith) h) w.0,
    (
      own_same (has_own_where on a b) (j + temps_in_where on a) a s s' (over_text vars a o.1.0) (below_less _ _ s s' (omega arith) h) w.1.0,
      (
        temps_same b (j + temps_in_where on a + count_of (has_own_where on a b)) s s' o.1.1 (below_less _ _ s s' (omega arith) h) w.1.1.0,
        own_same (has_own_where on b a) (j + temps_in_where on a + count_of (has_own_where on a b) + temps_in_where on b) b s s' (over_text vars b o.1.1) (below_less _ _ s s' (omega arith) h) w.1.1.1,
      ),
    ),
  )
  temps_same (bin quot a b) j s s' o h w = tt
  temps_same (bin modulo a b) j s s' o h w = tt
  temps_same (bin greater a b) j s s' o h w = tt
  temps_same (bin lesser a b) j s s' o h w = tt
  temps_same (pow a zero) j s s' o h w = tt
  temps_same (pow a (suc zero)) j s s' o h w = temps_same a j s s' o h w
  temps_same (pow a (suc (suc k))) j s s' o h w =
      (temps_same a j s s' o (below_less _ _ s s' (omega arith) h) w.0, own_same (has_own_where on a a) (j + temps_in_where on a) a s s' (over_text vars a o) (below_less _ _ s s' (omega arith) h) w.1)
  temps_same (power_of a b) j s s' o h w = (
    temps_same a j s s' o.0 (below_less _ _ s s' (omega arith) h) w.0,
    (
      own_same (has_own_where on a a) (j + temps_in_where on a) a s s' (over_text vars a o.0) (below_less _ _ s s' (omega arith) h) w.1.0,
      own_same (has_own_where on b a) (j + temps_in_where on a + count_of (has_own_where on a a)) b s s' o.1 (below_less _ _ s s' (omega arith) h) w.1.1,
    ),
  )
  temps_same (abs a) j s s' o h w = tt

-- what some assignments of temporaries from the j-th on do
pub record Makes (q : Calls ℤ) (sh : Var → Shape) (level : ℕ) (base : Course) (c : Code) (j : ℕ) (s : Store ℤ) (t : List ℤ) (Q : Store ℤ → Type 0) : Type 0 where
  pub after : Store ℤ
  pub runs : Leads q (on_words sh level) c (scene base s t) (scene base after t)
  pub same : SameBelow j s after
  pub loops : SameLoops s after
  pub shadows : (x : List ℕ) (i : ℕ) → after (shadow x) i ≡ s (shadow x) i
  pub holds : Q after

module _ (on : Vars) (q : Calls ℤ) (sh : Var → Shape) (level : ℕ) (base : Course) (vars : List (List ℕ)) where
  -- the value of an operand, by its temporary or by itself
  pub value_own : (t : Bool) (j : ℕ) (e e' : Term) (s : Store ℤ) → value (on_words sh level) e' s ≡ Ok (num sh e s) → OwnHolds sh t j e s → value (on_words sh level) (own_or t j e') s ≡ Ok (num sh e s)
  value_own true j e e' s v h = ap Ok h
  value_own false j e e' s v h = v

  two_values : (op : Op) (a b : Term) (s : Store ℤ) (u v : ℤ) → value (on_words sh level) a s ≡ Ok u → value (on_words sh level) b s ≡ Ok v → value (on_words sh level) (bin op a b) s ≡ operation words op u v
  two_values op a b s u v p r = λ i. then_ok (p i) (λ x. then_ok (r i) (λ y. operation words op x y))

  pub value_shrunk : (e : Term) (j : ℕ) (s : Store ℤ) → IsOver vars e → IsDefined sh e s → HasTemps sh on e j s → value (on_words sh level) (shrunk_where on e j) s ≡ Ok (num sh e s)
  value_shrunk (lit z) j s o d h = refl
  value_shrunk (var x) j s o d h = refl
  value_shrunk (elem x subs) j s o d h = value_words sh level (elem x subs) s d
  value_shrunk (neg a) j s o d h = ap (λ r. then_ok r (λ u. Ok (negated u))) (value_shrunk a j s o d h)
  value_shrunk (bin plus a b) j s o d h = two_values plus (shrunk_where on a j) (shrunk_where on b (j + temps_in_where on a)) s (num sh a s) (num sh b s) (value_shrunk a j s o.1.0 d.1.0 h.0) (value_shrunk b (j + temps_in_where on a) s o.1.1 d.1.1 h.1)
  value_shrunk (bin minus a b) j s o d h = two_values minus (shrunk_where on a j) (shrunk_where on b (j + temps_in_where on a)) s (num sh a s) (num sh b s) (value_shrunk a j s o.1.0 d.1.0 h.0) (value_shrunk b (j + temps_in_where on a) s o.1.1 d.1.1 h.1)
  value_shrunk (bin times a b) j s o d h =
      let m = j + temps_in_where on a in
      let l = m + count_of (has_own_where on a b) in
      two_values times (own_or (has_own_where on a b) m (shrunk_where on a j)) (own_or (has_own_where on b a) (l + temps_in_where on b) (shrunk_where on b l)) s (num sh a s) (num sh b s)
      (value_own (has_own_where on a b) m a (shrunk_where on a j) s (value_shrunk a j s o.1.0 d.1.0 h.0) h.1.0)
      (value_own (has_own_where on b a) (l + temps_in_where on b) b (shrunk_where on b l) s (value_shrunk b l s o.1.1 d.1.1 h.1.1.0) h.1.1.1)
  value_shrunk (bin quot a b) j s o d h = value_words sh level (bin quot a b) s d
  value_shrunk (bin modulo a b) j s o d h = value_words sh level (bin modulo a b) s d
  value_shrunk (bin greater a b) j s o d h = absurd o
  value_shrunk (bin lesser a b) j s o d h = absurd o
  value_shrunk (pow a zero) j s o d h = value_words sh level (pow a zero) s d
  value_shrunk (pow a (suc zero)) j s o d h = ap (λ r. then_ok r (λ u. Ok (power u 1))) (value_shrunk a j s o d h)
  value_shrunk (pow a (suc (suc k))) j s o d h =
      ap (λ r. then_ok r (λ u. Ok (power u (suc (suc k))))) (value_own (has_own_where on a a) (j + temps_in_where on a) a (shrunk_where on a j) s (value_shrunk a j s o d h.0) h.1)
  value_shrunk (power_of a b) j s o d h =
      let m = j + temps_in_where on a in
      let l = m + count_of (has_own_where on a a) in
      (λ i. then_ok (value_own (has_own_where on a a) m a (shrunk_where on a j) s (value_shrunk a j s o.0 d.1.0 h.0) h.1.0 i) (λ u. then_ok (value_own (has_own_where on b a) l b b s (value_words sh level b s d.1.1) h.1.1 i) (λ v. then_ok (exponent_of v) (λ k. Ok (power u k)))))
      ∙ ap (λ r. then_ok r (λ k. Ok (power (num sh a s) k))) d.0
  value_shrunk (abs a) j s o d h = absurd o

  nothing_made : (j : ℕ) (s : Store ℤ) (t : List ℤ) → Makes q sh level base stop j s t (λ s'. Unit {0})
  nothing_made j s t = record { after = s; runs = leads_stop q (on_words sh level) (scene base s t); same = record { plains = record { at = λ x i. refl }; below = λ i lt. refl }; loops = record { at = λ r i c lt. refl }; shadows = λ x i. refl; holds = tt }

  own_made : (b : Bool) (line j : ℕ) (e e' : Term) (s : Store ℤ) (t : List ℤ) → (b ≡ true → value (on_words sh level) e' s ≡ Ok (num sh e s)) → ((s' : Store ℤ) → SameBelow j s s' → num sh e s' ≡ num sh e s) → Makes q sh level base (own_code b line j e') j s t (OwnHolds sh b j e)
  own_made true line j e e' s t v keeps =
      let s1 = set s (helper temp j) 0 (num sh e s) in
      let same : SameBelow j s s1 = record { plains = record { at = λ x i. refl }; below = λ i lt. let ne : (i == j) ≡ false = grind arith in rw ne refl } in
      let here : s1 (helper temp j) 0 ≡ num sh e s = rw (nat_refl j) refl in
      let loops : SameLoops s s1 = record { at = λ r i c lt. let ne : (role_code r == 1) ≡ false = grind arith in rw ne refl } in
      record { after = s1; runs = assigns q sh level base line (helper temp j) e' stop s t (num sh e s) (scene base s1 t) (v refl) (leads_stop q (on_words sh level) (scene base s1 t)); same = same; loops = loops; shadows = λ x i. refl; holds = here ∙ sym (keeps s1 same) }
  own_made false line j e e' s t v keeps = nothing_made j s t

  makes_append : (c d : Code) (j j' : ℕ) (s : Store ℤ) (t : List ℤ) (Q R : Store ℤ → Type 0) → j ≤ j' → Makes q sh level base c j s t Q → ((s1 : Store ℤ) → SamePlain s s1 → Q s1 → Makes q sh level base d j' s1 t R) → ((s1 s2 : Store ℤ) → SameBelow j' s1 s2 → Q s1 → Q s2) → Makes q sh level base (c +++ d) j s t (λ s'. Q s' × R s')
  makes_append c d j j' s t Q R le a go keeps =
      let b = go a.after a.same.plains a.holds in
      record {
        after = b.after;
        runs = leads_append q (on_words sh level) c d (scene base s t) (scene base a.after t) (scene base b.after t) a.runs b.runs;
        same = record {
          plains = record { at = λ x i. b.same.plains.at x i ∙ a.same.plains.at x i };
          below = λ i lt. b.same.below i (omega arith) ∙ a.same.below i lt;
        };
        loops = record { at = λ r i c lt. b.loops.at r i c lt ∙ a.loops.at r i c lt };
        shadows = λ x i. b.shadows x i ∙ a.shadows x i;
        holds = (keeps a.after b.after b.same a.holds, b.holds);
      }

  -- the temporaries of a term, computed in order
  pub temps_made : (e : Term) (j line : ℕ) (s : Store ℤ) (t : List ℤ) → IsOver vars e → IsUsable sh on e s → Makes q sh level base (temps_where on e j line) j s t (HasTemps sh on e j)
  temps_made (lit z) j line s t o d = nothing_made j s t
  temps_made (var x) j line s t o d = nothing_made j s t
  temps_made (elem x subs) j line s t o d = nothing_made j s t
  temps_made (neg a) j line s t o d = temps_made a j line s t o d
  temps_made (bin plus a b) j line s t o d =
      makes_append (temps_where on a j line) (temps_where on b (j + temps_in_where on a) line) j (j + temps_in_where on a) s t (HasTemps sh on a j) (HasTemps sh on b (j + temps_in_where on a)) (omega arith)
      (temps_made a j line s t o.1.0 d.0)
      (λ s1 p r. temps_made b (j + temps_in_where on a) line s1 t o.1.1 (usable_same on sh vars b s s1 o.1.1 p d.1))
      (λ s1 s2 h w. temps_same on sh vars a j s1 s2 o.1.0 h w)
  temps_made (bin minus a b) j line s t o d =
      makes_append (temps_where on a j line) (temps_where on b (j + temps_in_where on a) line) j (j + temps_in_where on a) s t (HasTemps sh on a j) (HasTemps sh on b (j + temps_in_where on a)) (omega arith)
      (temps_made a j line s t o.1.0 d.0)
      (λ s1 p r. temps_made b (j + temps_in_where on a) line s1 t o.1.1 (usable_same on sh vars b s s1 o.1.1 p d.1))
      (λ s1 s2 h w. temps_same on sh vars a j s1 s2 o.1.0 h w)
  temps_made (bin times a b) j line s t o d =
      let m = j + temps_in_where on a in
      let l = m + count_of (has_own_where on a b) in
      let own_a = own_code (has_own_where on a b) line m (shrunk_where on a j) in
      let own_b = own_code (has_own_where on b a) line (l + temps_in_where on b) (shrunk_where on b l) in
      makes_append (temps_where on a j line) (own_a +++ (temps_where on b l line +++ own_b)) j m s t (HasTemps sh on a j) (λ s'. OwnHolds sh (has_own_where on a b) m a s' × (HasTemps sh on b l s' × OwnHolds sh (has_own_where on b a) (l + temps_in_where on b) b s')) (omega arith)
      (temps_made a j line s t o.1.0 d.1.0)
      (λ s1 p1 q1. makes_append own_a (temps_where on b l line +++ own_b) m l s1 t (OwnHolds sh (has_own_where on a b) m a) (λ s'. HasTemps sh on b l s' × OwnHolds sh (has_own_where on b a) (l + temps_in_where on b) b s') (omega arith)
      (own_made (has_own_where on a b) line m a (shrunk_where on a j) s1 t
      (λ h. value_shrunk a j s1 o.1.0 (defined_same sh vars a s s1 o.1.0 p1 (d.0.1 (and_true (is_compound a) (is_active_where on b) h).1)) q1) (λ s' h. num_same sh vars a s1 s' o.1.0 h.plains))
      (λ s2 p2 q2.
      let p : SamePlain s s2 = record { at = λ x i. p2.at x i ∙ p1.at x i } in
      makes_append (temps_where on b l line) own_b l (l + temps_in_where on b) s2 t (HasTemps sh on b l) (OwnHolds sh (has_own_where on b a) (l + temps_in_where on b) b) (omega arith)
      (temps_made b l line s2 t o.1.1 (usable_same on sh vars b s s2 o.1.1 p d.1.1))
      (λ s3 p3 q3. own_made (has_own_where on b a) line (l + temps_in_where on b) b (shrunk_where on b l) s3 t
      (λ h. value_shrunk b l s3 o.1.1 (defined_same sh vars b s2 s3 o.1.1 p3 (defined_same sh vars b s s2 o.1.1 p (d.0.0 (and_true (is_compound b) (is_active_where on a) h).1))) q3) (λ s' h. num_same sh vars b s3 s' o.1.1 h.plains))
      (λ s3 s4 h w. temps_same on sh vars b l s3 s4 o.1.1 h w))
      (λ s2 s3 h w. own_same on sh vars (has_own_where on a b) m a s2 s3 (over_text vars a o.1.0) h w))
      (λ s1 s2 h w. temps_same on sh vars a j s1 s2 o.1.0 h w)
  temps_made (bin quot a b) j line s t o d = nothing_made j s t
  temps_made (bin modulo a b) j line s t o d = nothing_made j s t
  temps_made (bin greater a b) j line s t o d = nothing_made j s t
  temps_made (bin lesser a b) j line s t o d = nothing_made j s t
  temps_made (pow a zero) j line s t o d = nothing_made j s t
  temps_made (pow a (suc zero)) j line s t o d = temps_made a j line s t o d
  temps_made (pow a (suc (suc k))) j line s t o d =
      let m = j + temps_in_where on a in
      makes_append (temps_where on a j line) (own_code (has_own_where on a a) line m (shrunk_where on a j)) j m s t (HasTemps sh on a j) (OwnHolds sh (has_own_where on a a) m a) (omega arith)
      (temps_made a j line s t o d.1)
      (λ s1 p r. own_made (has_own_where on a a) line m a (shrunk_where on a j) s1 t
      (λ h. value_shrunk a j s1 o (defined_same sh vars a s s1 o p (d.0 (and_true (is_compound a) (is_active_where on a) h).1)) r) (λ s' h. num_same sh vars a s1 s' o h.plains))
      (λ s1 s2 h w. temps_same on sh vars a j s1 s2 o h w)
  temps_made (power_of a b) j line s t o d =
      let m = j + temps_in_where on a in
      let l = m + count_of (has_own_where on a a) in
      let own_a = own_code (has_own_where on a a) line m (shrunk_where on a j) in
      let own_b = own_code (has_own_where on b a) line l b in
      makes_append (temps_where on a j line) (own_a +++ own_b) j m s t (HasTemps sh on a j) (λ s'. OwnHolds sh (has_own_where on a a) m a s' × OwnHolds sh (has_own_where on b a) l b s') (omega arith)
      (temps_made a j line s t o.0 d.1)
      (λ s1 p1 q1. makes_append own_a own_b m l s1 t (OwnHolds sh (has_own_where on a a) m a) (OwnHolds sh (has_own_where on b a) l b) (omega arith)
      (own_made (has_own_where on a a) line m a (shrunk_where on a j) s1 t
      (λ h. value_shrunk a j s1 o.0 (defined_same sh vars a s s1 o.0 p1 (d.0 (and_true (is_compound a) (is_active_where on a) h).1).1.0) q1) (λ s' h. num_same sh vars a s1 s' o.0 h.plains))
      (λ s2 p2 q2. own_made (has_own_where on b a) line l b b s2 t
      (λ h. value_words sh level b s2 (defined_text sh s1 s2 p2 b o.1 (defined_text sh s s1 p1 b o.1 (d.0 (and_true (is_compound b) (is_active_where on a) h).1).1.1))) (λ s' h. num_text sh s2 s' h.plains b o.1))
      (λ s2 s3 h w. own_same on sh vars (has_own_where on a a) m a s2 s3 (over_text vars a o.0) h w))
      (λ s1 s2 h w. temps_same on sh vars a j s1 s2 o.0 h w)
  temps_made (abs a) j line s t o d = nothing_made j s t
