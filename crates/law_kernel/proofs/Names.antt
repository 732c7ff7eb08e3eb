-- The names of a call in the kernel are apart, and from the locals that hold subscripts.
use Rattle.std.proofs.Common.{◌≡◌, ℕ, ◌+◌, ◌<◌, ◌≤◌, ◌⊎◌, inl, inr, Bool, true, false, List, [], ◌∷◌, refl, sym, ap, ◌∙◌, arith}
use Rattle.std.specs.Prelude.{◌||◌}
use Rattle.adj_tree.specs.Code.{Var, var_eq, Term, lit, var, elem, neg, bin, pow, power_of, abs, Terms, none, more}
use Rattle.def_meaning.specs.Read.{reads_term}
use Rattle.def_meaning.proofs.Variables.{var_refl, var_same}
use Rattle.def_kernel.specs.Lowered.{locals_in, locals_in_all, length_of, first_flag, other_flags, reduced, reduced_all, is_among, stays, by_value, passing, passing_name, locals_passing, passed}
use Rattle.law_kernel.specs.Apart.{AreLocals, TermsInside}
use Rattle.law_kernel.proofs.Changing.{Range, not_local, other_local}
use Rattle.law_kernel.proofs.Targeting.{first_inside, rest_inside}
use Rattle.law_kernel.proofs.Sorts.{Sort, name, element, chosen, other, sort}
use Rattle.law_kernel.proofs.Entries.{names_passed}

-- neither
both_false : (a b : Bool) → a ≡ false → b ≡ false → (a || b) ≡ false
both_false a b e f = ap (λ z. z || b) e ∙ f

module _ (inside : Var → Bool) (local : ℕ → Var) (apart : AreLocals inside local) where
  -- what stands behind a name or a value is a variable inside, or a local below a number
  abbrev pub AreBelow : ℕ → Terms → Type 0
  AreBelow m none = Unit {0}
  AreBelow m (more e es) = ((x : Var) → e ≡ var x → (inside x ≡ true) ⊎ ((k : ℕ) → m ≤ k → var_eq x (local k) ≡ false)) × AreBelow m es

  -- a name is the actual's own, or a local from the j-th on
  pub name_is : (y : Var) (w : Bool) (earlier : List Var) (j : ℕ) (e : Term) → ((x : Var) → e ≡ var x → is_among x earlier ≡ false → var_eq y x ≡ false) → ((k : ℕ) → Range j (locals_passing (passing w earlier e)) k → var_eq y (local k) ≡ false) → var_eq y (passed local j (passing w earlier e)) ≡ false
  name_is y w earlier j (lit z) f g = g j (omega arith, omega arith)
  name_is y w earlier j (var x) f g = go (is_among x earlier) refl g
    where
      go : (b : Bool) → is_among x earlier ≡ b → ((k : ℕ) → Range j (locals_passing (passing_name b x)) k → var_eq y (local k) ≡ false) → var_eq y (passed local j (passing_name b x)) ≡ false
      go true a g = g j (omega arith, omega arith)
      go false a g = f x refl a
  name_is y true earlier j (elem x subs) f g = g (j + (length_of subs + locals_in_all subs)) (omega arith, omega arith)
  name_is y false earlier j (elem x subs) f g = g j (omega arith, omega arith)
  name_is y w earlier j (neg a) f g = g j (omega arith, omega arith)
  name_is y w earlier j (bin op a b) f g = g j (omega arith, omega arith)
  name_is y w earlier j (pow a k) f g = g j (omega arith, omega arith)
  name_is y w earlier j (power_of a b) f g = g j (omega arith, omega arith)
  name_is y w earlier j (abs a) f g = g j (omega arith, omega arith)

  -- a name that stands earlier, and is no local from the j-th on, doesn't stand among the names
  pub not_again : (y : Var) (es : Terms) (ws : List Bool) (earlier : List Var) (j : ℕ) → is_among y earlier ≡ true → ((k : ℕ) → j ≤ k → var_eq y (local k) ≡ false) → is_among y (names_passed local j ws earlier es) ≡ false
  not_again y none ws earlier j a g = refl
  not_again y (more e es) ws earlier j a g =
      let p = passing (first_flag ws) earlier e in
      both_false (var_eq y (passed local j p)) (is_among y (names_passed local (j + locals_passing p) (other_flags ws) (passed local j p ∷ earlier) es))
      (name_is y (first_flag ws) earlier j e (λ x h n. differs x (var_eq y x) refl n) (λ k r. g k r.0))
      (not_again y es (other_flags ws) (passed local j p ∷ earlier) (j + locals_passing p) (behind (var_eq y (passed local j p)) a) (λ k l. g k (omega (arith, l))))
    where
      differs : (x : Var) (b : Bool) → var_eq y x ≡ b → is_among x earlier ≡ false → var_eq y x ≡ false
      differs x true h n = absurd (let z : true ≡ false = sym a ∙ ap (λ v. is_among v earlier) (var_same y x h) ∙ n in cc)
      differs x false h n = h

      behind : (b : Bool) → is_among y earlier ≡ true → (b || is_among y earlier) ≡ true
      behind true h = refl
      behind false h = h

  turned : (x y : Var) → var_eq x y ≡ false → var_eq y x ≡ false
  turned x y h = go (var_eq y x) refl
    where
      go : (c : Bool) → var_eq y x ≡ c → var_eq y x ≡ false
      go true f = absurd (let z : true ≡ false = sym (var_refl x) ∙ ap (var_eq x) (sym (var_same y x f)) ∙ h in cc)
      go false f = f

  pub apart_below : (i m : ℕ) (x : Var) → m ≤ i → (inside x ≡ true) ⊎ ((k : ℕ) → m ≤ k → var_eq x (local k) ≡ false) → var_eq (local i) x ≡ false
  apart_below i m x le (inl h) = turned x (local i) (not_local inside local apart x i h)
  apart_below i m x le (inr h) = turned x (local i) (h i le)

  -- a local that is neither below the m-th nor from the j-th on doesn't stand among the names
  pub not_named : (i m : ℕ) (es : Terms) (ws : List Bool) (earlier : List Var) (j : ℕ) → AreBelow m es → m ≤ i → i < j → is_among (local i) (names_passed local j ws earlier es) ≡ false
  not_named i m none ws earlier j b le lt = refl
  not_named i m (more e es) ws earlier j b le lt =
      let p = passing (first_flag ws) earlier e in
      both_false (var_eq (local i) (passed local j p)) (is_among (local i) (names_passed local (j + locals_passing p) (other_flags ws) (passed local j p ∷ earlier) es))
      (name_is (local i) (first_flag ws) earlier j e (λ x h n. apart_below i m x le (b.0 x h)) (λ k r. other_local inside local apart i k (λ z. absurd (omega (arith, r.0, z, lt)))))
      (not_named i m es (other_flags ws) (passed local j p ∷ earlier) (j + locals_passing p) b.1 le (omega (arith, lt)))

  -- reduced actuals are so
  pub reduced_below : (es : Terms) (i m : ℕ) → i + locals_in_all es ≤ m → TermsInside inside es → AreBelow m (reduced_all local i es)
  reduced_below none i m le h = tt
  reduced_below (more e es) i m le h = (λ x f. own x f (sort Bool local i e), reduced_below es (i + locals_in e) m (omega (arith, le)) (rest_inside inside e es h))
    where
      own : (x : Var) → reduced local i e ≡ var x → Sort Bool local i e → (inside x ≡ true) ⊎ ((k : ℕ) → m ≤ k → var_eq x (local k) ≡ false)
      own x f (name y g) =
          let z : var y ≡ var x = ap (reduced local i) (sym g) ∙ f in
          let same : y ≡ x = cc in
          inl (ap inside (sym same) ∙ first_inside inside e es h y (ap (reads_term y) g ∙ var_refl y))
      own x f (element y subs g) = let z : elem y subs ≡ var x = ap (reduced local i) (sym g) ∙ f in absurd cc
      own x f (chosen l l1 l2 g is) =
          let z : var (local l) ≡ var x = sym g ∙ f in
          let same : local l ≡ x = cc in
          inr (λ k le1. ap (λ y. var_eq y (local k)) (sym same) ∙ other_local inside local apart l k (λ e1. absurd (omega (arith, le, l2, le1, e1))))
      own x f (other g is) = absurd (no_name x (ap (passing false []) (sym f) ∙ g false []))
        where
          no_name : (x : Var) → stays x ≡ by_value (reduced local i e) → ⊥
          no_name x z = cc
