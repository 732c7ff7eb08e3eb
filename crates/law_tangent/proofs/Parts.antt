-- What the assignments of the parts' helpers do: each gets the tangent of its part.
use Rattle.std.proofs.Common.{◌≡◌, ◌<◌, ◌≤◌, ℕ, zero, suc, ◌+◌, Bool, true, false, List, refl, sym, ap, ◌∙◌, arith, if◌then◌else◌}
use Rattle.std.specs.Prelude.{ℤ, pos, int_lt, ◌==◌, ◌||◌, Ok}
use Rattle.adj_tree.specs.Code.{Var, plain, shadow, helper, work, temp, plus, minus, times, quot, modulo, greater, lesser, Term, lit, var, elem, neg, bin, pow, power_of, abs, Terms, Code, stop}
use Rattle.adj_tree.proofs.Names.{nat_refl}
use Rattle.adj_word.specs.Word.{wrap, add, sub, mul, negated, power, at_least_zero}
use Rattle.adj_word.proofs.Residues.{wrap-wrap, add-zero, zero-add, sub-zero, zero-sub, zero-mul, mul-zero, one-mul, one-mul_word, wrap-mul_left, word-wrap}
use Rattle.adj_word.proofs.Powers.{power-zero}
use Rattle.def_meaning.specs.Trap.{index, or_trap, then_ok}
use Rattle.def_meaning.specs.Numbers.{words, power_tangent, operation}
use Rattle.def_meaning.specs.Store.{Shape, Store, cell_of, set}
use Rattle.def_meaning.specs.Value.{value, exponent_of, cell_at}
use Rattle.def_meaning.specs.Append.{◌+++◌}
use Rattle.def_meaning.specs.Run.{Calls}
use Rattle.law_meaning.specs.Leads.{Leads}
use Rattle.law_meaning.proofs.Leadings.{leads_stop, leads_append}
use Rattle.def_names.specs.Numbers.{Vars}
use Rattle.def_sweep.specs.Marked.{count_of, own_or, work_var}
use Rattle.law_sweep.specs.Pairs.{Words, SamePlain, on_words}
use Rattle.law_sweep.specs.Scenes.{Course, scene}
use Rattle.law_sweep.proofs.Steps.{assigns}
use Rattle.def_sweep.specs.Occurrences.{is_active_where}
use Rattle.def_sweep.specs.AdjointOf.{has_own_where, temps_in_where}
use Rattle.law_sweep.proofs.Terms.{num, nums, tan, cell_or, IsDefined, value_words, values_words}
use Rattle.law_sweep.proofs.TermUses.{IsText, IsOver, over_text, over_treated, num_text, nums_text, defined_text, all_defined_text}
use Rattle.law_sweep.proofs.TempsOf.{HasTemps, OwnHolds, temps_same, value_own}
use Rattle.law_sweep.proofs.Temps.{SameBelow}
use Rattle.law_sweep.proofs.Guards.{guard, Guarded, guarded}
use Rattle.def_tangent.specs.TangentOf.{parts_in_where, tangent_term, sum_of, difference_of, power_factor, own_part, parts_where}
use Rattle.law_tangent.specs.Bears.{AreWords, OnlyOn, HasTangents}
use Rattle.law_tangent.proofs.Tangents.{power_tangent-word, tan-word, tan-inactive}

-- all but the helpers of parts from k on is as it was
pub record SameParts (k : ℕ) (s s' : Store ℤ) : Type 0 where
  pub plains : SamePlain s s'
  pub shadows : (x : List ℕ) (i : ℕ) → s' (shadow x) i ≡ s (shadow x) i
  pub temps : (i : ℕ) → s' (helper temp i) 0 ≡ s (helper temp i) 0
  pub works : (i : ℕ) → i < k → s' (helper work i) 0 ≡ s (helper work i) 0

-- a store changes no helper of a part to itself; changes one after another; and a helper before them stays
pub parts_self : (k : ℕ) (s : Store ℤ) → SameParts k s s
parts_self k s = record { plains = record { at = λ x i. refl }; shadows = λ x i. refl; temps = λ i. refl; works = λ i lt. refl }

pub parts_then : (k k' : ℕ) (s s1 s2 : Store ℤ) → k ≤ k' → SameParts k s s1 → SameParts k' s1 s2 → SameParts k s s2
parts_then k k' s s1 s2 le a b = record {
  plains = record { at = λ x i. b.plains.at x i ∙ a.plains.at x i };
  shadows = λ x i. b.shadows x i ∙ a.shadows x i;
  temps = λ i. b.temps i ∙ a.temps i;
  works = λ i lt. b.works i (omega arith) ∙ a.works i lt;
}

parts_below : (m k : ℕ) (s s' : Store ℤ) → SameParts k s s' → SameBelow m s s'
parts_below m k s s' h = record { plains = h.plains; below = λ i lt. h.temps i }

-- what some assignments of parts do
pub record Makes (q : Calls ℤ) (sh : Var → Shape) (level : ℕ) (base : Course) (c : Code) (k : ℕ) (s : Store ℤ) (t : List ℤ) (Q : Store ℤ → Type 0) : Type 0 where
  pub after : Store ℤ
  pub runs : Leads q (on_words sh level) c (scene base s t) (scene base after t)
  pub same : SameParts k s after
  pub holds : Q after

-- ---- sums and differences of tangents of which some are 0

module _ (sh : Var → Shape) (level : ℕ) (s : Store ℤ) (X Y : Term) (x y : ℤ) where
  sum_value : (p q : Bool) → (p || q) ≡ true → (p ≡ true → value (on_words sh level) X s ≡ Ok x) → (q ≡ true → value (on_words sh level) Y s ≡ Ok y) → (p ≡ false → x ≡ pos 0) → (q ≡ false → y ≡ pos 0) → wrap x ≡ x → wrap y ≡ y → value (on_words sh level) (sum_of p q X Y) s ≡ Ok (add x y)
  sum_value true true o vx vy zx zy wx wy = λ i. then_ok (vx refl i) (λ u. then_ok (vy refl i) (λ v. operation words plus u v))
  sum_value true false o vx vy zx zy wx wy = vx refl ∙ ap Ok (sym (ap (add x) (zy refl) ∙ add-zero x ∙ wx))
  sum_value false true o vx vy zx zy wx wy = vy refl ∙ ap Ok (sym (ap (λ z. add z y) (zx refl) ∙ zero-add y ∙ wy))
  sum_value false false o vx vy zx zy wx wy = absurd cc

  difference_value : (p q : Bool) → (p || q) ≡ true → (p ≡ true → value (on_words sh level) X s ≡ Ok x) → (q ≡ true → value (on_words sh level) Y s ≡ Ok y) → (p ≡ false → x ≡ pos 0) → (q ≡ false → y ≡ pos 0) → wrap x ≡ x → wrap y ≡ y → value (on_words sh level) (difference_of p q X Y) s ≡ Ok (sub x y)
  difference_value true true o vx vy zx zy wx wy = λ i. then_ok (vx refl i) (λ u. then_ok (vy refl i) (λ v. operation words minus u v))
  difference_value true false o vx vy zx zy wx wy = vx refl ∙ ap Ok (sym (ap (sub x) (zy refl) ∙ sub-zero x ∙ wx))
  difference_value false true o vx vy zx zy wx wy = ap (λ r. then_ok r (λ u. Ok (negated u))) (vy refl) ∙ ap Ok (sym (ap (λ z. sub z y) (zx refl) ∙ zero-sub y))
  difference_value false false o vx vy zx zy wx wy = absurd cc

  product_value : value (on_words sh level) X s ≡ Ok x → value (on_words sh level) Y s ≡ Ok y → value (on_words sh level) (bin times X Y) s ≡ Ok (mul x y)
  product_value vx vy = λ i. then_ok (vx i) (λ u. then_ok (vy i) (λ v. operation words times u v))

-- a first power has the tangent of its base
first_power : (u x : ℤ) → wrap x ≡ x → power_tangent u x 1 ≡ x
first_power u x w =
    let one : mul (pos 1) (power u 0) ≡ pos 1 = one-mul_word (power u 0) (word-wrap _) ∙ power-zero u in
    ap (λ z. mul z x) one ∙ one-mul x ∙ w

-- the factor of a power's tangent by the guard
guard_factor : (u z x : ℤ) (g : Guarded z) → mul (mul z (power u g.less)) x ≡ power_tangent u x (at_least_zero z)
guard_factor u z x g =
    let p = power u g.less in
    let m = mul (mul (mul (pos 1) z) p) x in
    let d = power_tangent u x (at_least_zero z) in
    let plainer : m ≡ mul (mul z p) x = ap (λ v. mul (mul v p) x) (one-mul z) ∙ ap (λ v. mul v x) (wrap-mul_left z p) in
    sym plainer ∙ sym (wrap-wrap _) ∙ sym (zero-add m) ∙ g.shares (pos 0) (pos 1) u x ∙ zero-add (mul (pos 1) d) ∙ wrap-wrap _ ∙ one-mul d ∙ power_tangent-word u x (at_least_zero z)

-- the guarded factor has the value e * b**MAX(e-1,0)
factor_value : (sh : Var → Shape) (level : ℕ) (s : Store ℤ) (B E : Term) (v z : ℤ) (less : ℕ) → value (on_words sh level) B s ≡ Ok v → value (on_words sh level) E s ≡ Ok z → exponent_of (guard z) ≡ Ok less → value (on_words sh level) (power_factor B E) s ≡ Ok (mul z (power v less))
factor_value sh level s B E v z less vb ve h = λ i. then_ok (ve i) (λ a. then_ok (powered i) (λ b. operation words times a b))
  where
    powered : value (on_words sh level) (power_of B (bin greater (bin minus E (lit (pos 1))) (lit (pos 0)))) s ≡ Ok (power v less)
    powered =
        (λ i. then_ok (vb i) (λ a. then_ok (then_ok (then_ok (ve i) (λ c. Ok (sub c (pos 1)))) (λ c. Ok (if int_lt c (pos 0) then pos 0 else c))) (λ b. then_ok (exponent_of b) (λ k. Ok (power a k)))))
        ∙ ap (λ r. then_ok r (λ k. Ok (power v k))) h

module _ (on : Vars) (q : Calls ℤ) (sh : Var → Shape) (level : ℕ) (base : Course) (vars : List (List ℕ)) (u : Store ℤ) (y : Words) (are : AreWords y) (only : OnlyOn sh on y) (shapes : (x : List ℕ) → on (plain x) ≡ true → sh (shadow x) ≡ sh (plain x)) where
  -- a term that isn't active has no tangent
  pub none_inactive : (e : Term) → IsOver vars e → IsDefined sh e u → is_active_where on e ≡ false → tan sh e u y ≡ pos 0
  none_inactive e o d h = tan-inactive sh on u y only e (over_treated vars e o) d h

  word_of_tan : (e : Term) → IsOver vars e → wrap (tan sh e u y) ≡ tan sh e u y
  word_of_tan e o = tan-word sh u y are e (over_treated vars e o)

  -- the tangent of the term is where it is to be, where the term is active
  abbrev pub Holds : Term → ℕ → Store ℤ → Type 0
  Holds e k s = is_active_where on e ≡ true → value (on_words sh level) (tangent_term on e k) s ≡ Ok (tan sh e u y)

  -- of a name or an element
  name_holds : (x : List ℕ) (k : ℕ) (s : Store ℤ) → HasTangents on y s → Holds (var (plain x)) k s
  name_holds x k s h a = ap Ok (h x 0 a)

  element_holds : (x : List ℕ) (subs : Terms) (k : ℕ) (s : Store ℤ) → IsOver vars (elem (plain x) subs) → IsDefined sh (elem (plain x) subs) u → SamePlain u s → HasTangents on y s → Holds (elem (plain x) subs) k s
  element_holds x subs k s o d p h a =
      (λ i. then_ok (values_words sh level subs s (all_defined_text sh u s p subs o.1 d.0) i) (λ is. then_ok (cell_at (on_words sh level) (shadow x) is) (λ j. Ok (s (shadow x) j))))
      ∙ ap (λ is. then_ok (cell_at (on_words sh level) (shadow x) is) (λ j. Ok (s (shadow x) j))) (nums_text sh u s p subs o.1)
      ∙ ap (λ m. then_ok (or_trap index (cell_of m (nums sh subs u))) (λ j. Ok (s (shadow x) j))) (shapes x a)
      ∙ ap (λ r. then_ok (or_trap index r) (λ j. Ok (s (shadow x) j))) d.1
      ∙ ap Ok (h x (cell_or (cell_of (sh (plain x)) (nums sh subs u))) a)

  -- the helper of a part that is active is among those of the term
  own_kept : (b : Bool) (m k : ℕ) (v : ℤ) (s s' : Store ℤ) → m + count_of b ≤ k → SameParts k s s' → (b ≡ true → value (on_words sh level) (var (helper work m)) s ≡ Ok v) → b ≡ true → value (on_words sh level) (var (helper work m)) s' ≡ Ok v
  own_kept true m k v s s' le h a e = ap Ok (h.works m (omega arith)) ∙ a e
  own_kept false m k v s s' le h a e = absurd cc

  -- it stays where it is
  pub holds_kept : (e : Term) (k k' : ℕ) (s s' : Store ℤ) → IsOver vars e → IsDefined sh e u → k + parts_in_where on e ≤ k' → SamePlain u s' → HasTangents on y s' → SameParts k' s s' → Holds e k s → Holds e k s'
  holds_kept (lit z) k k' s s' o d le p t h a = λ e. absurd cc
  holds_kept (var (plain x)) k k' s s' o d le p t h a = name_holds x k s' t
  holds_kept (var (shadow x)) k k' s s' o d le p t h a = absurd o
  holds_kept (var (helper r j)) k k' s s' o d le p t h a = absurd o
  holds_kept (elem (plain x) subs) k k' s s' o d le p t h a = element_holds x subs k s' o d p t
  holds_kept (elem (shadow x) subs) k k' s s' o d le p t h a = absurd o
  holds_kept (elem (helper r j) subs) k k' s s' o d le p t h a = absurd o
  holds_kept (neg b) k k' s s' o d le p t h a = own_kept (is_active_where on b) (k + parts_in_where on b) k' (tan sh (neg b) u y) s s' (omega (arith, le)) h a
  holds_kept (bin plus b c) k k' s s' o d le p t h a = own_kept (is_active_where on b || is_active_where on c) (k + parts_in_where on b + parts_in_where on c) k' (tan sh (bin plus b c) u y) s s' (omega (arith, le)) h a
  holds_kept (bin minus b c) k k' s s' o d le p t h a = own_kept (is_active_where on b || is_active_where on c) (k + parts_in_where on b + parts_in_where on c) k' (tan sh (bin minus b c) u y) s s' (omega (arith, le)) h a
  holds_kept (bin times b c) k k' s s' o d le p t h a = own_kept (is_active_where on b || is_active_where on c) (k + parts_in_where on b + parts_in_where on c) k' (tan sh (bin times b c) u y) s s' (omega (arith, le)) h a
  holds_kept (bin quot b c) k k' s s' o d le p t h a = λ e. absurd cc
  holds_kept (bin modulo b c) k k' s s' o d le p t h a = λ e. absurd cc
  holds_kept (bin greater b c) k k' s s' o d le p t h a = absurd o
  holds_kept (bin lesser b c) k k' s s' o d le p t h a = absurd o
  holds_kept (pow b zero) k k' s s' o d le p t h a = λ e. absurd cc
  holds_kept (pow b (suc n)) k k' s s' o d le p t h a = own_kept (is_active_where on b) (k + parts_in_where on b) k' (tan sh (pow b (suc n)) u y) s s' (omega (arith, le)) h a
  holds_kept (power_of b c) k k' s s' o d le p t h a = own_kept (is_active_where on b) (k + parts_in_where on b) k' (tan sh (power_of b c) u y) s s' (omega (arith, le)) h a
  holds_kept (abs b) k k' s s' o d le p t h a = absurd o

  -- ---- making them

  -- a store with the text's variables and the tangents
  abbrev pub Ready : Store ℤ → Type 0
  Ready s = SamePlain u s × HasTangents on y s

  pub ready_kept : (k : ℕ) (s s' : Store ℤ) → SameParts k s s' → Ready s → Ready s'
  ready_kept k s s' h r = (record { at = λ x i. h.plains.at x i ∙ r.0.at x i }, λ x i a. h.shadows x i ∙ r.1 x i a)

  abbrev pub Kept : Term → ℕ → Store ℤ → Type 0
  Kept e k s = Ready s × Holds e k s

  kept_later : (e : Term) (k k' : ℕ) (s s' : Store ℤ) → IsOver vars e → IsDefined sh e u → k + parts_in_where on e ≤ k' → SameParts k' s s' → Kept e k s → Kept e k s'
  kept_later e k k' s s' o d le h r = let r' = ready_kept k' s s' h r.0 in (r', holds_kept e k k' s s' o d le r'.0 r'.1 h r.1)

  abbrev pub Made : Code → ℕ → Store ℤ → List ℤ → (Store ℤ → Type 0) → Type 0
  Made c k s t Q = Makes q sh level base c k s t Q

  made_as : (c : Code) (k : ℕ) (s : Store ℤ) (t : List ℤ) (Q R : Store ℤ → Type 0) → ((s' : Store ℤ) → Q s' → R s') → Made c k s t Q → Made c k s t R
  made_as c k s t Q R f a = record { after = a.after; runs = a.runs; same = a.same; holds = f a.after a.holds }

  made_none : (k : ℕ) (s : Store ℤ) (t : List ℤ) (Q : Store ℤ → Type 0) → Q s → Made stop k s t Q
  made_none k s t Q h = record { after = s; runs = leads_stop q (on_words sh level) (scene base s t); same = parts_self k s; holds = h }

  made_append : (c d : Code) (k k' : ℕ) (s : Store ℤ) (t : List ℤ) (Q R : Store ℤ → Type 0) → k ≤ k' → Made c k s t Q → ((s1 : Store ℤ) → SameParts k s s1 → Q s1 → Made d k' s1 t R) → ((s1 s2 : Store ℤ) → SameParts k' s1 s2 → Q s1 → Q s2) → Made (c +++ d) k s t (λ s'. Q s' × R s')
  made_append c d k k' s t Q R le a go keeps =
      let b = go a.after a.same a.holds in
      record {
        after = b.after;
        runs = leads_append q (on_words sh level) c d (scene base s t) (scene base a.after t) (scene base b.after t) a.runs b.runs;
        same = parts_then k k' s a.after b.after le a.same b.same;
        holds = (keeps a.after b.after b.same a.holds, b.holds);
      }

  -- the helper of a part, if it has one
  own_made : (b : Bool) (line m : ℕ) (X : Term) (v : ℤ) (s : Store ℤ) (t : List ℤ) → Ready s → (b ≡ true → value (on_words sh level) X s ≡ Ok v) → Made (own_part b line m X) m s t (λ s'. Ready s' × (b ≡ true → value (on_words sh level) (var (helper work m)) s' ≡ Ok v))
  own_made true line m X v s t r h =
      let s1 = set s (helper work m) 0 v in
      let same : SameParts m s s1 = record { plains = record { at = λ x i. refl }; shadows = λ x i. refl; temps = λ i. refl; works = λ i lt. let ne : (i == m) ≡ false = grind arith in rw ne refl } in
      let here : s1 (helper work m) 0 ≡ v = rw (nat_refl m) refl in
      record { after = s1; runs = assigns q sh level base line (helper work m) X stop s t v (scene base s1 t) (h refl) (leads_stop q (on_words sh level) (scene base s1 t)); same = same; holds = (ready_kept m s s1 same r, λ e. ap Ok here) }
  own_made false line m X v s t r h = made_none m s t (λ s'. Ready s' × (false ≡ true → value (on_words sh level) (var (helper work m)) s' ≡ Ok v)) (r, λ e. absurd cc)

  -- a part of one operand
  unary : (a : Term) (k line : ℕ) (c : Code) (X : Term) (v : ℤ) (s : Store ℤ) (t : List ℤ) → IsOver vars a → IsDefined sh a u → Made c k s t (Kept a k) → ((s1 : Store ℤ) → SameParts k s s1 → Kept a k s1 → is_active_where on a ≡ true → value (on_words sh level) X s1 ≡ Ok v) →
      Made (c +++ own_part (is_active_where on a) line (k + parts_in_where on a) X) k s t (λ s'. Ready s' × (is_active_where on a ≡ true → value (on_words sh level) (work_var (k + parts_in_where on a)) s' ≡ Ok v))
  unary a k line c X v s t o d made is =
      let m = k + parts_in_where on a in
      let b = is_active_where on a in
      let Own : Store ℤ → Type 0 = λ s'. Ready s' × (b ≡ true → value (on_words sh level) (work_var m) s' ≡ Ok v) in
      made_as (c +++ own_part b line m X) k s t (λ s'. Kept a k s' × Own s') Own (λ s' h. h.1)
      (made_append c (own_part b line m X) k m s t (Kept a k) Own (omega arith) made
      (λ s1 p h. own_made b line m X v s1 t h.0 (is s1 p h))
      (λ s1 s2 p h. kept_later a k m s1 s2 o d (omega arith) p h))

  -- a part of two
  binary : (a b : Term) (k line : ℕ) (c e : Code) (X : Term) (v : ℤ) (s : Store ℤ) (t : List ℤ) → IsOver vars a → IsDefined sh a u → IsOver vars b → IsDefined sh b u → Made c k s t (Kept a k) → ((s1 : Store ℤ) → SameParts k s s1 → Ready s1 → Made e (k + parts_in_where on a) s1 t (Kept b (k + parts_in_where on a))) →
      ((s2 : Store ℤ) → SameParts k s s2 → Kept a k s2 → Kept b (k + parts_in_where on a) s2 → (is_active_where on a || is_active_where on b) ≡ true → value (on_words sh level) X s2 ≡ Ok v) →
      Made (c +++ (e +++ own_part (is_active_where on a || is_active_where on b) line (k + parts_in_where on a + parts_in_where on b) X)) k s t (λ s'. Ready s' × ((is_active_where on a || is_active_where on b) ≡ true → value (on_words sh level) (work_var (k + parts_in_where on a + parts_in_where on b)) s' ≡ Ok v))
  binary a b k line c e X v s t oa da ob db made more is =
      let k1 = k + parts_in_where on a in
      let m = k1 + parts_in_where on b in
      let p = is_active_where on a || is_active_where on b in
      let own = own_part p line m X in
      let Own : Store ℤ → Type 0 = λ s'. Ready s' × (p ≡ true → value (on_words sh level) (work_var m) s' ≡ Ok v) in
      made_as (c +++ (e +++ own)) k s t (λ s'. Kept a k s' × (Kept b k1 s' × Own s')) Own (λ s' h. h.1.1)
      (made_append c (e +++ own) k k1 s t (Kept a k) (λ s'. Kept b k1 s' × Own s') (omega arith) made
      (λ s1 p1 h1. made_append e own k1 m s1 t (Kept b k1) Own (omega arith) (more s1 p1 h1.0)
      (λ s2 p2 h2. own_made p line m X v s2 t h2.0 (λ e1. is s2 (parts_then k k1 s s1 s2 (omega arith) p1 p2) (kept_later a k k1 s1 s2 oa da (omega arith) p2 h1) h2 e1))
      (λ s2 s3 p3 h2. kept_later b k1 m s2 s3 ob db (omega arith) p3 h2))
      (λ s1 s2 p2 h1. kept_later a k k1 s1 s2 oa da (omega arith) p2 h1))

  -- the value of an operand, by its temporary or by itself
  operand : (b : Bool) (j : ℕ) (e : Term) (s : Store ℤ) → IsText e → IsDefined sh e u → SamePlain u s → OwnHolds sh b j e s → value (on_words sh level) (own_or b j e) s ≡ Ok (num sh e u)
  operand b j e s o d p h = value_own on q sh level base vars b j e e s (value_words sh level e s (defined_text sh u s p e o d)) h ∙ ap Ok (num_text sh u s p e o)

  -- the helpers of a term's parts, in order
  pub parts_made : (e : Term) (k j line : ℕ) (s : Store ℤ) (t : List ℤ) → IsOver vars e → IsDefined sh e u → Ready s → HasTemps sh on e j s → Made (parts_where on e k j line) k s t (Kept e k)
  parts_made (lit z) k j line s t o d r h = made_none k s t (Kept (lit z) k) (r, λ e. absurd cc)
  parts_made (var (plain x)) k j line s t o d r h = made_none k s t (Kept (var (plain x)) k) (r, name_holds x k s r.1)
  parts_made (var (shadow x)) k j line s t o d r h = absurd o
  parts_made (var (helper a b)) k j line s t o d r h = absurd o
  parts_made (elem (plain x) subs) k j line s t o d r h = made_none k s t (Kept (elem (plain x) subs) k) (r, element_holds x subs k s o d r.0 r.1)
  parts_made (elem (shadow x) subs) k j line s t o d r h = absurd o
  parts_made (elem (helper a b) subs) k j line s t o d r h = absurd o
  parts_made (neg a) k j line s t o d r h =
      unary a k line (parts_where on a k j line) (neg (tangent_term on a k)) (negated (tan sh a u y)) s t o d (parts_made a k j line s t o d r h)
      (λ s1 p h1 e. ap (λ z. then_ok z (λ v. Ok (negated v))) (h1.1 e))
  parts_made (bin plus a b) k j line s t o d r h =
      let k1 = k + parts_in_where on a in
      let j1 = j + temps_in_where on a in
      binary a b k line (parts_where on a k j line) (parts_where on b k1 j1 line) (sum_of (is_active_where on a) (is_active_where on b) (tangent_term on a k) (tangent_term on b k1)) (add (tan sh a u y) (tan sh b u y)) s t o.1.0 d.1.0 o.1.1 d.1.1
      (parts_made a k j line s t o.1.0 d.1.0 r h.0)
      (λ s1 p r1. parts_made b k1 j1 line s1 t o.1.1 d.1.1 r1 (temps_same on sh vars b j1 s s1 o.1.1 (parts_below _ k s s1 p) h.1))
      (λ s2 p ha hb e. sum_value sh level s2 (tangent_term on a k) (tangent_term on b k1) (tan sh a u y) (tan sh b u y) (is_active_where on a) (is_active_where on b) e ha.1 hb.1 (none_inactive a o.1.0 d.1.0) (none_inactive b o.1.1 d.1.1) (word_of_tan a o.1.0) (word_of_tan b o.1.1))
  parts_made (bin minus a b) k j line s t o d r h =
      let k1 = k + parts_in_where on a in
      let j1 = j + temps_in_where on a in
      binary a b k line (parts_where on a k j line) (parts_where on b k1 j1 line) (difference_of (is_active_where on a) (is_active_where on b) (tangent_term on a k) (tangent_term on b k1)) (sub (tan sh a u y) (tan sh b u y)) s t o.1.0 d.1.0 o.1.1 d.1.1
      (parts_made a k j line s t o.1.0 d.1.0 r h.0)
      (λ s1 p r1. parts_made b k1 j1 line s1 t o.1.1 d.1.1 r1 (temps_same on sh vars b j1 s s1 o.1.1 (parts_below _ k s s1 p) h.1))
      (λ s2 p ha hb e. difference_value sh level s2 (tangent_term on a k) (tangent_term on b k1) (tan sh a u y) (tan sh b u y) (is_active_where on a) (is_active_where on b) e ha.1 hb.1 (none_inactive a o.1.0 d.1.0) (none_inactive b o.1.1 d.1.1) (word_of_tan a o.1.0) (word_of_tan b o.1.1))
  parts_made (bin times a b) k j line s t o d r h =
      let k1 = k + parts_in_where on a in
      let ja = j + temps_in_where on a in
      let j1 = ja + count_of (has_own_where on a b) in
      let jb = j1 + temps_in_where on b in
      let va = own_or (has_own_where on a b) ja a in
      let vb = own_or (has_own_where on b a) jb b in
      let x = mul (tan sh a u y) (num sh b u) in
      let z = mul (num sh a u) (tan sh b u y) in
      binary a b k line (parts_where on a k j line) (parts_where on b k1 j1 line) (sum_of (is_active_where on a) (is_active_where on b) (bin times (tangent_term on a k) vb) (bin times va (tangent_term on b k1))) (add x z) s t o.1.0 d.1.0 o.1.1 d.1.1
      (parts_made a k j line s t o.1.0 d.1.0 r h.0)
      (λ s1 p r1. parts_made b k1 j1 line s1 t o.1.1 d.1.1 r1 (temps_same on sh vars b j1 s s1 o.1.1 (parts_below _ k s s1 p) h.1.1.0))
      (λ s2 p ha hb e.
      let hs = temps_same on sh vars (bin times a b) j s s2 o (parts_below _ k s s2 p) h in
      sum_value sh level s2 (bin times (tangent_term on a k) vb) (bin times va (tangent_term on b k1)) x z (is_active_where on a) (is_active_where on b) e
      (λ g. product_value sh level s2 (tangent_term on a k) vb (tan sh a u y) (num sh b u) (ha.1 g) (operand (has_own_where on b a) jb b s2 (over_text vars b o.1.1) d.1.1 ha.0.0 hs.1.1.1))
      (λ g. product_value sh level s2 va (tangent_term on b k1) (num sh a u) (tan sh b u y) (operand (has_own_where on a b) ja a s2 (over_text vars a o.1.0) d.1.0 ha.0.0 hs.1.0) (hb.1 g))
      (λ g. ap (λ w. mul w (num sh b u)) (none_inactive a o.1.0 d.1.0 g) ∙ zero-mul (num sh b u))
      (λ g. ap (mul (num sh a u)) (none_inactive b o.1.1 d.1.1 g) ∙ mul-zero (num sh a u))
      (wrap-wrap _) (wrap-wrap _))
  parts_made (bin quot a b) k j line s t o d r h = made_none k s t (Kept (bin quot a b) k) (r, λ e. absurd cc)
  parts_made (bin modulo a b) k j line s t o d r h = made_none k s t (Kept (bin modulo a b) k) (r, λ e. absurd cc)
  parts_made (bin greater a b) k j line s t o d r h = absurd o
  parts_made (bin lesser a b) k j line s t o d r h = absurd o
  parts_made (pow a zero) k j line s t o d r h = made_none k s t (Kept (pow a zero) k) (r, λ e. absurd cc)
  parts_made (pow a (suc zero)) k j line s t o d r h =
      unary a k line (parts_where on a k j line) (tangent_term on a k) (power_tangent (num sh a u) (tan sh a u y) 1) s t o d (parts_made a k j line s t o d r h)
      (λ s1 p h1 e. h1.1 e ∙ ap Ok (sym (first_power (num sh a u) (tan sh a u y) (word_of_tan a o))))
  parts_made (pow a (suc (suc n))) k j line s t o d r h =
      let ja = j + temps_in_where on a in
      let va = own_or (has_own_where on a a) ja a in
      let c = mul (pos (suc (suc n))) (power (num sh a u) (suc n)) in
      unary a k line (parts_where on a k j line) (bin times (bin times (lit (pos (suc (suc n)))) (pow va (suc n))) (tangent_term on a k)) (mul c (tan sh a u y)) s t o d (parts_made a k j line s t o d r h.0)
      (λ s1 p h1 e.
      let hs = temps_same on sh vars (pow a (suc (suc n))) j s s1 o (parts_below _ k s s1 p) h in
      product_value sh level s1 (bin times (lit (pos (suc (suc n)))) (pow va (suc n))) (tangent_term on a k) c (tan sh a u y)
      (product_value sh level s1 (lit (pos (suc (suc n)))) (pow va (suc n)) (pos (suc (suc n))) (power (num sh a u) (suc n)) refl
      (ap (λ z. then_ok z (λ v. Ok (power v (suc n)))) (operand (has_own_where on a a) ja a s1 (over_text vars a o) d h1.0.0 hs.1)))
      (h1.1 e))
  parts_made (power_of a b) k j line s t o d r h =
      let ja = j + temps_in_where on a in
      let jb = ja + count_of (has_own_where on a a) in
      let va = own_or (has_own_where on a a) ja a in
      let vb = own_or (has_own_where on b a) jb b in
      let g = guarded (num sh b u) d.0 in
      let c = mul (num sh b u) (power (num sh a u) g.less) in
      unary a k line (parts_where on a k j line) (bin times (power_factor va vb) (tangent_term on a k)) (power_tangent (num sh a u) (tan sh a u y) (at_least_zero (num sh b u))) s t o.0 d.1.0 (parts_made a k j line s t o.0 d.1.0 r h.0)
      (λ s1 p h1 e.
      let hs = temps_same on sh vars (power_of a b) j s s1 o (parts_below _ k s s1 p) h in
      product_value sh level s1 (power_factor va vb) (tangent_term on a k) c (tan sh a u y)
      (factor_value sh level s1 va vb (num sh a u) (num sh b u) g.less
      (operand (has_own_where on a a) ja a s1 (over_text vars a o.0) d.1.0 h1.0.0 hs.1.0)
      (operand (has_own_where on b a) jb b s1 o.1 d.1.1 h1.0.0 hs.1.1) g.is)
      (h1.1 e)
      ∙ ap Ok (guard_factor (num sh a u) (num sh b u) (tan sh a u y) g))
  parts_made (abs a) k j line s t o d r h = absurd o
