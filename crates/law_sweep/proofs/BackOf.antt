-- What the statements of `back` do: the transposed derivative of an expression.
use Rattle.std.proofs.Common.{◌≡◌, ℕ, zero, suc, ◌+◌, ◌<◌, Bool, true, false, List, refl, sym, ap, ◌∙◌, arith, if◌then◌else◌}
use Rattle.std.specs.Prelude.{ℤ, pos, ◌==◌, Ok}
use Rattle.adj_tree.specs.Code.{Var, plain, shadow, helper, role_code, work, plus, minus, times, quot, modulo, greater, lesser, Term, lit, var, elem, neg, bin, pow, power_of, abs, Terms, none, more, assign, Code, stop, step}
use Rattle.adj_tree.proofs.Names.{nat_refl}
use Rattle.adj_word.specs.Word.{add, sub, mul, negated, power, at_least_zero}
use Rattle.adj_word.specs.Pairing.{pairing, stands_in, IsApart}
use Rattle.adj_word.proofs.Residues.{add_assoc, add-zero, mul-zero, one-mul, one-mul_word, word-wrap, wrap-mul_right}
use Rattle.adj_word.proofs.Powers.{power-zero}
use Rattle.adj_word.proofs.Transposes.{back_plus, back_minus, back_neg, back_times, back_power}
use Rattle.adj_word.proofs.Pairings.{pairing-more, wrap-pairing}
use Rattle.def_meaning.specs.Trap.{index, or_trap, then_ok}
use Rattle.def_meaning.specs.Numbers.{words, power_tangent, operation}
use Rattle.def_meaning.specs.Store.{Shape, size_of, cell_of, Store, set}
use Rattle.def_meaning.specs.Value.{value, values, exponent_of, cell_at, target}
use Rattle.def_meaning.specs.Append.{◌+++◌}
use Rattle.def_meaning.specs.Run.{Calls}
use Rattle.law_meaning.proofs.Leadings.{leads_stop, leads_append, leads_assign}
use Rattle.def_names.specs.Numbers.{Vars}
use Rattle.def_sweep.specs.Marked.{count_of, own_or, code_if, work_var}
use Rattle.law_sweep.specs.Pairs.{Key, key_eq, Words, shadows, SamePlain, on_words}
use Rattle.law_sweep.specs.Scenes.{Course, scene, masked}
use Rattle.law_sweep.proofs.KeyVariables.{key_same}
use Rattle.law_sweep.proofs.Steps.{assigns}
use Rattle.law_sweep.proofs.Back.{SameUpTo, Adds}
use Rattle.def_sweep.specs.Facts.{In}
use Rattle.def_meaning.specs.Apart.{has_name}
use Rattle.def_meaning.proofs.Cells.{size_positive}
use Rattle.def_sweep.specs.Occurrences.{is_active_where}
use Rattle.def_sweep.specs.AdjointOf.{has_own_where, temps_in_where, times_power, back_where}
use Rattle.law_sweep.proofs.Terms.{num, nums, cell_or, tan, HasCell, value_words, values_words}
use Rattle.law_sweep.proofs.TermTangents.{tan_inactive, cell_in_below}
use Rattle.law_sweep.proofs.TermUses.{IsOver, over_treated, IsUsable, num_same, tan_same, defined_same, usable_same}
use Rattle.law_sweep.proofs.Guards.{Guarded, guarded}
use Rattle.law_sweep.proofs.TempsOf.{HasTemps, temps_same, value_own}
use Rattle.law_sweep.proofs.Temps.{SameBelow}

same_all : (k : ℕ) (s : Store ℤ) → SameUpTo k s s
same_all k s = record { plains = record { at = λ x i. refl }; temps = λ i. refl; works = λ i le. refl; loops = record { at = λ r i c lt. refl } }

-- the target of an assignment to an element
pub target_of : (sh : Var → Shape) (level : ℕ) (x : Var) (subs : Terms) (s : Store ℤ) (i : ℕ) (m : Shape) → HasCell m (nums sh subs s) → values (on_words sh level) subs s ≡ Ok (nums sh subs s) → cell_at (on_words sh level) x (nums sh subs s) ≡ Ok i → target (on_words sh level) x subs s ≡ Ok i
target_of sh level x none s i m h v a = cc
target_of sh level x (more e es) s i m h v a = ap (λ r. then_ok r (λ is. cell_at (on_words sh level) x is)) v ∙ a

below_of : (m k : ℕ) (s s' : Store ℤ) → SameUpTo k s s' → SameBelow m s s'
below_of m k s s' h = record { plains = h.plains; below = λ i lt. h.temps i }

same_plain : (s : Store ℤ) → SamePlain s s
same_plain s = record { at = λ x i. refl }

-- a first power has the tangent of its base
first_power : (w u x : ℤ) → mul w (power_tangent u x 1) ≡ mul w x
first_power w u x =
    let one : mul (pos 1) (power u 0) ≡ pos 1 = one-mul_word (power u 0) (word-wrap _) ∙ power-zero u in
    ap (λ z. mul w (mul z x)) one ∙ ap (mul w) (one-mul x) ∙ wrap-mul_right w x

module _ (on : Vars) (q : Calls ℤ) (sh : Var → Shape) (level : ℕ) (base : Course) (xs : List Key) (vars : List (List ℕ)) where
  -- nothing to add
  adds_none : (k : ℕ) (s : Store ℤ) (t : List ℤ) (g : Words → ℤ) → ((d : Words) → g d ≡ pos 0) → Adds q sh level base xs stop k s t g
  adds_none k s t g z = record {
    after = s;
    runs = leads_stop q (on_words sh level) (scene base s t);
    same = same_all k s;
    pairs = λ d. sym (ap (add (pairing xs (shadows s) d)) (z d) ∙ add-zero _ ∙ wrap-pairing xs (shadows s) d);
  }

  -- the same sum, written otherwise
  adds_as : (c : Code) (k : ℕ) (s : Store ℤ) (t : List ℤ) (g h : Words → ℤ) → ((d : Words) (p : ℤ) → add p (g d) ≡ add p (h d)) → Adds q sh level base xs c k s t g → Adds q sh level base xs c k s t h
  adds_as c k s t g h e a = record { after = a.after; runs = a.runs; same = a.same; pairs = λ d. a.pairs d ∙ e d _ }

  adds_then : (c e : Code) (k : ℕ) (s : Store ℤ) (t : List ℤ) (g h : Words → ℤ) → Adds q sh level base xs c k s t g → ((s1 : Store ℤ) → SameUpTo k s s1 → Adds q sh level base xs e k s1 t h) → Adds q sh level base xs (c +++ e) k s t (λ d. add (g d) (h d))
  adds_then c e k s t g h a go =
      let b = go a.after a.same in
      record {
        after = b.after;
        runs = leads_append q (on_words sh level) c e (scene base s t) (scene base a.after t) (scene base b.after t) a.runs b.runs;
        same = record {
          plains = record { at = λ x i. b.same.plains.at x i ∙ a.same.plains.at x i };
          temps = λ i. b.same.temps i ∙ a.same.temps i;
          works = λ i le. b.same.works i le ∙ a.same.works i le;
          loops = record { at = λ r i c lt. b.same.loops.at r i c lt ∙ a.same.loops.at r i c lt };
        };
        pairs = λ d. b.pairs d ∙ ap (λ p. add p (h d)) (a.pairs d) ∙ add_assoc _ (g d) (h d);
      }

  -- the next work variable is set, and then
  adds_scaled : (line : ℕ) (e : Term) (c : Code) (k : ℕ) (s : Store ℤ) (t : List ℤ) (w : ℤ) (g : Words → ℤ) → value (on_words sh level) e s ≡ Ok w → Adds q sh level base xs c (suc k) (set s (helper work (suc k)) 0 w) t g → Adds q sh level base xs (step line (assign (helper work (suc k)) none e) c) k s t g
  adds_scaled line e c k s t w g v a = record {
    after = a.after;
    runs = assigns q sh level base line (helper work (suc k)) e c s t w (scene base a.after t) v a.runs;
    same = record {
      plains = record { at = λ x i. a.same.plains.at x i };
      temps = λ i. a.same.temps i;
      works = λ i le. a.same.works i (omega arith) ∙ (let ne : (i == suc k) ≡ false = grind arith in rw ne refl);
      loops = record { at = λ r i c lt. a.same.loops.at r i c lt ∙ (let ne : (role_code r == 0) ≡ false = grind arith in rw ne refl) };
    };
    pairs = a.pairs;
  }

  -- where the term isn't active there is nothing to add
  adds_if : (c : Code) (e : Term) (k : ℕ) (s s0 : Store ℤ) (t : List ℤ) (w : ℤ) → IsOver vars e → (is_active_where on e ≡ true → Adds q sh level base xs c k s t (λ d. mul w (tan sh e s0 (masked on d)))) → (b : Bool) → is_active_where on e ≡ b → Adds q sh level base xs (code_if b c) k s t (λ d. mul w (tan sh e s0 (masked on d)))
  adds_if c e k s s0 t w o a true h = a h
  adds_if c e k s s0 t w o a false h = adds_none k s t _ (λ d. ap (mul w) (tan_inactive sh on e s0 d (over_treated vars e o) h) ∙ mul-zero w)

  -- an operand whose adjoint is that of the whole
  plainly : (e : Term) (k j line : ℕ) (s0 s : Store ℤ) (t : List ℤ) (w : ℤ) → IsOver vars e → SamePlain s0 s → s (helper work k) 0 ≡ w → (is_active_where on e ≡ true → Adds q sh level base xs (back_where on e k j line) k s t (λ d. mul (s (helper work k) 0) (tan sh e s (masked on d)))) → Adds q sh level base xs (code_if (is_active_where on e) (back_where on e k j line)) k s t (λ d. mul w (tan sh e s0 (masked on d)))
  plainly e k j line s0 s t w o h r a =
      adds_if (back_where on e k j line) e k s s0 t w o
      (λ on_e. adds_as (back_where on e k j line) k s t _ _ (λ d p. λ i. add p (mul (r i) (tan_same sh vars e s0 s (masked on d) o h i))) (a on_e))
      (is_active_where on e) refl

  -- an operand whose adjoint is that of the whole times something
  scaled : (e f : Term) (k j line : ℕ) (s0 s : Store ℤ) (t : List ℤ) (w : ℤ) → IsOver vars e → SamePlain s0 s → (is_active_where on e ≡ true → value (on_words sh level) f s ≡ Ok w) → HasTemps sh on e j s → ((s' : Store ℤ) → SamePlain s s' → HasTemps sh on e j s' → is_active_where on e ≡ true → Adds q sh level base xs (back_where on e (suc k) j line) (suc k) s' t (λ d. mul (s' (helper work (suc k)) 0) (tan sh e s' (masked on d)))) → Adds q sh level base xs (code_if (is_active_where on e) (step line (assign (helper work (suc k)) none f) (back_where on e (suc k) j line))) k s t (λ d. mul w (tan sh e s0 (masked on d)))
  scaled e f k j line s0 s t w o h v has ih =
      let s1 = set s (helper work (suc k)) 0 w in
      let same : SamePlain s s1 = record { at = λ x i. refl } in
      let low : SameBelow (j + temps_in_where on e) s s1 = record { plains = same; below = λ i lt. refl } in
      let here : s1 (helper work (suc k)) 0 ≡ w = rw (nat_refl (suc k)) refl in
      let from0 : SamePlain s0 s1 = record { at = λ x i. h.at x i } in
      adds_if (step line (assign (helper work (suc k)) none f) (back_where on e (suc k) j line)) e k s s0 t w o
      (λ on_e. adds_scaled line f (back_where on e (suc k) j line) k s t w _ (v on_e)
      (adds_as (back_where on e (suc k) j line) (suc k) s1 t _ _ (λ d p. λ i. add p (mul (here i) (tan_same sh vars e s0 s1 (masked on d) o from0 i))) (ih s1 same (temps_same on sh vars e j s s1 o low has) on_e)))
      (is_active_where on e) refl

  -- the derivative of a power whose exponent is an expression, times the work variable
  power_share : (raised exponent : Term) (k : ℕ) (s : Store ℤ) (u z : ℤ) → value (on_words sh level) raised s ≡ Ok u → value (on_words sh level) exponent s ≡ Ok z → (g : Guarded z) → value (on_words sh level) (times_power (work_var k) raised exponent) s ≡ Ok (mul (mul (s (helper work k) 0) z) (power u g.less))
  power_share raised exponent k s u z is_u is_z g =
      let w = s (helper work k) 0 in
      (λ i. then_ok (then_ok (is_z i) (λ v. operation words times w v)) (λ x. then_ok (then_ok (is_u i) (λ b. then_ok (then_ok (then_ok (is_z i) (λ v. operation words minus v (pos 1))) (λ v. operation words greater v (pos 0))) (λ e. then_ok (exponent_of e) (λ n. Ok (power b n))))) (λ y. operation words times x y)))
      ∙ ap (λ r. then_ok (then_ok r (λ n. Ok (power u n))) (λ y. operation words times (mul w z) y)) g.is

  module _ (apart : IsApart key_eq xs) (cells : (x : List ℕ) (j : ℕ) → has_name x vars ≡ true → j < size_of (sh (plain x)) → stands_in key_eq (x, j) xs ≡ true) (shadow_shape : (x : List ℕ) → In (plain x) on → sh (shadow x) ≡ sh (plain x)) where
    -- back(e,k) adds the adjoint in the k-th work variable, times the derivative of e, to the shadows
    pub backs : (e : Term) (k j line : ℕ) (s : Store ℤ) (t : List ℤ) → IsOver vars e → IsUsable sh on e s → HasTemps sh on e j s → is_active_where on e ≡ true → Adds q sh level base xs (back_where on e k j line) k s t (λ d. mul (s (helper work k) 0) (tan sh e s (masked on d)))
    backs (lit z) k j line s t o f h act = adds_none k s t _ (λ d. mul-zero (s (helper work k) 0))
    backs (var (plain x)) k j line s t o f h act =
        let v = add (s (shadow x) 0) (s (helper work k) 0) in
        let s1 = set s (shadow x) 0 v in
        record {
          after = s1;
          runs = assigns q sh level base line (shadow x) (bin plus (var (shadow x)) (work_var k)) stop s t v (scene base s1 t) refl (leads_stop q (on_words sh level) (scene base s1 t));
          same = record { plains = record { at = λ y i. refl }; temps = λ i. refl; works = λ i le. refl; loops = record { at = λ r i c lt. refl } };
          pairs = λ d. pairing-more key_eq key_same xs (shadows s) d (x, 0) (s (helper work k) 0) apart (cells x 0 o (size_positive (sh (plain x)))) ∙ ap (λ b. add (pairing xs (shadows s) d) (mul (s (helper work k) 0) (if b then d (x, 0) else pos 0))) (sym act);
        }
    backs (var (shadow x)) k j line s t o f h act = absurd o
    backs (var (helper r x)) k j line s t o f h act = absurd o
    backs (elem (plain x) subs) k j line s t o f h act =
        let i = cell_or (cell_of (sh (plain x)) (nums sh subs s)) in
        let d = f act in
        let same : sh (shadow x) ≡ sh (plain x) = shadow_shape x act in
        let v = add (s (shadow x) i) (s (helper work k) 0) in
        let s1 = set s (shadow x) i v in
        let at : cell_at (on_words sh level) (shadow x) (nums sh subs s) ≡ Ok i = ap (λ m. or_trap index (cell_of m (nums sh subs s))) same ∙ ap (or_trap index) d.1 in
        let subs_are : values (on_words sh level) subs s ≡ Ok (nums sh subs s) = values_words sh level subs s d.0 in
        let value_is : value (on_words sh level) (bin plus (elem (shadow x) subs) (work_var k)) s ≡ Ok v =
        ap (λ r. then_ok (then_ok r (λ is. then_ok (cell_at (on_words sh level) (shadow x) is) (λ c. Ok (s (shadow x) c)))) (λ a. then_ok (value (on_words sh level) (work_var k) s) (λ b. operation words plus a b))) subs_are
        ∙ ap (λ r. then_ok (then_ok r (λ c. Ok (s (shadow x) c))) (λ a. then_ok (value (on_words sh level) (work_var k) s) (λ b. operation words plus a b))) at in
        record {
          after = s1;
          runs = leads_assign q (on_words sh level) line (shadow x) subs (bin plus (elem (shadow x) subs) (work_var k)) stop (scene base s t) (scene base s1 t) v i value_is (target_of sh level (shadow x) subs s i (sh (plain x)) d.1 subs_are at) (leads_stop q (on_words sh level) (scene base s1 t));
          same = record { plains = record { at = λ y j. refl }; temps = λ j. refl; works = λ j le. refl; loops = record { at = λ r j c lt. refl } };
          pairs = λ d1. pairing-more key_eq key_same xs (shadows s) d1 (x, i) (s (helper work k) 0) apart (cells x i o.0 (cell_in_below (sh (plain x)) (nums sh subs s) d.1)) ∙ ap (λ b. add (pairing xs (shadows s) d1) (mul (s (helper work k) 0) (if b then d1 (x, i) else pos 0))) (sym act);
        }
    backs (elem (shadow x) subs) k j line s t o f h act = absurd o
    backs (elem (helper r x) subs) k j line s t o f h act = absurd o
    backs (neg a) k j line s t o f h act =
        let w = s (helper work k) 0 in
        adds_as (back_where on (neg a) k j line) k s t (λ d. mul (negated w) (tan sh a s (masked on d))) (λ d. mul w (negated (tan sh a s (masked on d)))) (λ d p. back_neg p w (tan sh a s (masked on d)))
        (scaled a (neg (work_var k)) k j line s s t (negated w) o (same_plain s) (λ w. refl) h (λ s' p h'. backs a (suc k) j line s' t o (usable_same on sh vars a s s' o p f) h'))
    backs (bin plus a b) k j line s t o f h act =
        let w = s (helper work k) 0 in
        let l = j + temps_in_where on a in
        adds_as (back_where on (bin plus a b) k j line) k s t (λ d. add (mul w (tan sh a s (masked on d))) (mul w (tan sh b s (masked on d)))) (λ d. mul w (add (tan sh a s (masked on d)) (tan sh b s (masked on d))))
        (λ d p. sym (add_assoc p (mul w (tan sh a s (masked on d))) (mul w (tan sh b s (masked on d)))) ∙ back_plus p w (tan sh a s (masked on d)) (tan sh b s (masked on d)))
        (adds_then (code_if (is_active_where on a) (back_where on a k j line)) (code_if (is_active_where on b) (back_where on b k l line)) k s t (λ d. mul w (tan sh a s (masked on d))) (λ d. mul w (tan sh b s (masked on d)))
        (plainly a k j line s s t w o.1.0 (same_plain s) refl (backs a k j line s t o.1.0 f.0 h.0))
        (λ s1 r. plainly b k l line s s1 t w o.1.1 r.plains (r.works k (omega arith)) (backs b k l line s1 t o.1.1 (usable_same on sh vars b s s1 o.1.1 r.plains f.1) (temps_same on sh vars b l s s1 o.1.1 (below_of _ k s s1 r) h.1))))
    backs (bin minus a b) k j line s t o f h act =
        let w = s (helper work k) 0 in
        let l = j + temps_in_where on a in
        adds_as (back_where on (bin minus a b) k j line) k s t (λ d. add (mul w (tan sh a s (masked on d))) (mul (negated w) (tan sh b s (masked on d)))) (λ d. mul w (sub (tan sh a s (masked on d)) (tan sh b s (masked on d))))
        (λ d p. sym (add_assoc p (mul w (tan sh a s (masked on d))) (mul (negated w) (tan sh b s (masked on d)))) ∙ back_minus p w (tan sh a s (masked on d)) (tan sh b s (masked on d)))
        (adds_then (code_if (is_active_where on a) (back_where on a k j line)) (code_if (is_active_where on b) (step line (assign (helper work (suc k)) none (neg (work_var k))) (back_where on b (suc k) l line))) k s t (λ d. mul w (tan sh a s (masked on d))) (λ d. mul (negated w) (tan sh b s (masked on d)))
        (plainly a k j line s s t w o.1.0 (same_plain s) refl (backs a k j line s t o.1.0 f.0 h.0))
        (λ s1 r. scaled b (neg (work_var k)) k l line s s1 t (negated w) o.1.1 r.plains (λ w. ap (λ z. Ok (negated z)) (r.works k (omega arith))) (temps_same on sh vars b l s s1 o.1.1 (below_of _ k s s1 r) h.1)
        (λ s' p h'. backs b (suc k) l line s' t o.1.1 (usable_same on sh vars b s1 s' o.1.1 p (usable_same on sh vars b s s1 o.1.1 r.plains f.1)) h')))
    backs (bin times a b) k j line s t o f h act =
        let w = s (helper work k) 0 in
        let m = j + temps_in_where on a in
        let l = m + count_of (has_own_where on a b) in
        let va = own_or (has_own_where on a b) m a in
        let vb = own_or (has_own_where on b a) (l + temps_in_where on b) b in
        let ca = code_if (is_active_where on a) (step line (assign (helper work (suc k)) none (bin times (work_var k) vb)) (back_where on a (suc k) j line)) in
        let cb = code_if (is_active_where on b) (step line (assign (helper work (suc k)) none (bin times (work_var k) va)) (back_where on b (suc k) l line)) in
        adds_as (ca +++ cb) k s t (λ d. add (mul (mul w (num sh b s)) (tan sh a s (masked on d))) (mul (mul w (num sh a s)) (tan sh b s (masked on d)))) (λ d. mul w (add (mul (tan sh a s (masked on d)) (num sh b s)) (mul (num sh a s) (tan sh b s (masked on d)))))
        (λ d p. sym (add_assoc p (mul (mul w (num sh b s)) (tan sh a s (masked on d))) (mul (mul w (num sh a s)) (tan sh b s (masked on d)))) ∙ back_times p w (num sh a s) (num sh b s) (tan sh a s (masked on d)) (tan sh b s (masked on d)))
        (adds_then ca cb k s t (λ d. mul (mul w (num sh b s)) (tan sh a s (masked on d))) (λ d. mul (mul w (num sh a s)) (tan sh b s (masked on d)))
        (scaled a (bin times (work_var k) vb) k j line s s t (mul w (num sh b s)) o.1.0 (same_plain s)
        (λ on_a. ap (λ r. then_ok r (λ v. operation words times w v)) (value_own on q sh level base vars (has_own_where on b a) (l + temps_in_where on b) b b s (value_words sh level b s (f.0.0 on_a)) h.1.1.1)) h.0
        (λ s' p h'. backs a (suc k) j line s' t o.1.0 (usable_same on sh vars a s s' o.1.0 p f.1.0) h'))
        (λ s1 r.
        let h1 = temps_same on sh vars (bin times a b) j s s1 o (below_of _ k s s1 r) h in
        let fb = usable_same on sh vars b s s1 o.1.1 r.plains f.1.1 in
        scaled b (bin times (work_var k) va) k l line s s1 t (mul w (num sh a s)) o.1.1 r.plains
        (λ on_b. (λ i. then_ok (value_own on q sh level base vars (has_own_where on a b) m a a s1 (value_words sh level a s1 (defined_same sh vars a s s1 o.1.0 r.plains (f.0.1 on_b))) h1.1.0 i) (λ v. operation words times (r.works k (omega arith) i) v)) ∙ ap (λ z. Ok (mul w z)) (num_same sh vars a s s1 o.1.0 r.plains)) h1.1.1.0
        (λ s' p h'. backs b (suc k) l line s' t o.1.1 (usable_same on sh vars b s1 s' o.1.1 p fb) h')))
    backs (bin quot a b) k j line s t o f h act = adds_none k s t _ (λ d. mul-zero (s (helper work k) 0))
    backs (bin modulo a b) k j line s t o f h act = adds_none k s t _ (λ d. mul-zero (s (helper work k) 0))
    backs (bin greater a b) k j line s t o f h act = absurd o
    backs (bin lesser a b) k j line s t o f h act = absurd o
    backs (pow a zero) k j line s t o f h act = adds_none k s t _ (λ d. mul-zero (s (helper work k) 0))
    backs (pow a (suc zero)) k j line s t o f h act =
        let w = s (helper work k) 0 in
        adds_as (back_where on (pow a (suc zero)) k j line) k s t (λ d. mul w (tan sh a s (masked on d))) (λ d. mul w (power_tangent (num sh a s) (tan sh a s (masked on d)) 1))
        (λ d p. ap (add p) (sym (first_power w (num sh a s) (tan sh a s (masked on d)))))
        (plainly a k j line s s t w o (same_plain s) refl (backs a k j line s t o f h))
    backs (pow a (suc (suc n))) k j line s t o f h act =
        let w = s (helper work k) 0 in
        let m = j + temps_in_where on a in
        let u = num sh a s in
        let share = mul (mul w (pos (suc (suc n)))) (power u (suc n)) in
        let own = own_or (has_own_where on a a) m a in
        adds_as (back_where on (pow a (suc (suc n))) k j line) k s t (λ d. mul share (tan sh a s (masked on d))) (λ d. mul w (mul (mul (pos (suc (suc n))) (power u (suc n))) (tan sh a s (masked on d))))
        (λ d p. back_power p w (pos (suc (suc n))) u (tan sh a s (masked on d)) (suc n))
        (scaled a (bin times (bin times (work_var k) (lit (pos (suc (suc n))))) (pow own (suc n))) k j line s s t share o (same_plain s)
        (λ on_a. ap (λ r. then_ok (then_ok r (λ v. Ok (power v (suc n)))) (λ v. operation words times (mul w (pos (suc (suc n)))) v)) (value_own on q sh level base vars (has_own_where on a a) m a a s (value_words sh level a s (f.0 on_a)) h.1)) h.0
        (λ s' p h'. backs a (suc k) j line s' t o (usable_same on sh vars a s s' o p f.1) h'))
    backs (power_of a b) k j line s t o f h act =
        let w = s (helper work k) 0 in
        let m = j + temps_in_where on a in
        let l = m + count_of (has_own_where on a a) in
        let u = num sh a s in
        let z = num sh b s in
        let raised = own_or (has_own_where on a a) m a in
        let exponent = own_or (has_own_where on b a) l b in
        let d = f.0 act in
        let g = guarded z d.0 in
        let va = value_own on q sh level base vars (has_own_where on a a) m a a s (value_words sh level a s d.1.0) h.1.0 in
        let vb = value_own on q sh level base vars (has_own_where on b a) l b b s (value_words sh level b s d.1.1) h.1.1 in
        adds_as (back_where on (power_of a b) k j line) k s t (λ d. mul (mul (mul w z) (power u g.less)) (tan sh a s (masked on d))) (λ d. mul w (power_tangent u (tan sh a s (masked on d)) (at_least_zero z)))
        (λ d p. g.shares p w u (tan sh a s (masked on d)))
        (scaled a (times_power (work_var k) raised exponent) k j line s s t (mul (mul w z) (power u g.less)) o.0 (same_plain s)
        (λ on_a. power_share raised exponent k s u z va vb g) h.0
        (λ s' p h'. backs a (suc k) j line s' t o.0 (usable_same on sh vars a s s' o.0 p f.1) h'))
    backs (abs a) k j line s t o f h act = absurd o
