-- Two ways of renaming that give the same tangents and helpers, and the same of some code, give the same of the code's tangent.
use Rattle.std.proofs.Common.{◌≡◌, ℕ, zero, suc, ◌+◌, Bool, true, false, List, [], ◌∷◌, refl, sym, ap, ◌∙◌, if◌then◌else◌}
use Rattle.std.specs.Prelude.{pos, ◌||◌}
use Rattle.adj_tree.specs.Code.{Role, Var, plain, shadow, helper, work, temp, plus, minus, times, quot, modulo, greater, lesser, Term, lit, var, elem, neg, bin, pow, power_of, abs, Terms, none, more, Mark, Test, Act, assign, choose, loop, during, call, runtime, zero_array, Code, stop, step}
use Rattle.def_meaning.specs.Append.{◌+++◌, one}
use Rattle.def_meaning.specs.Rename.{rename_term, rename_terms, rename_test, rename_act, rename}
use Rattle.def_meaning.proofs.RenamedLists.{rename-append}
use Rattle.def_names.specs.Numbers.{Vars}
use Rattle.def_sweep.specs.Marked.{code_if, count_of, own_or, own_code, work_var}
use Rattle.def_sweep.specs.Occurrences.{is_active_where}
use Rattle.def_sweep.specs.AdjointOf.{has_own_where, temps_in_where, shrunk_where, temps_where}
use Rattle.def_sweep.specs.Plan.{names_of}
use Rattle.def_sweep.specs.Bindings.{bindings, actuals_in}
use Rattle.law_emitted.proofs.Lists.{Each}
use Rattle.def_tangent.specs.TangentOf.{parts_in_where, tangent_term, sum_of, difference_of, power_factor, own_part, parts_where, before_assignment}
use Rattle.def_tangent.specs.Forward.{Plan, takes_some, before_act, tangent_act, tangents}
use Rattle.def_tangent.specs.Program.{cleared}

module _ (r s : Var → Var) (shadows : (x : List ℕ) → r (shadow x) ≡ s (shadow x)) (helpers : (o : Role) (k : ℕ) → r (helper o k) ≡ s (helper o k)) where
  abbrev Same : Term → Type 0
  Same e = rename_term r e ≡ rename_term s e

  abbrev SameCode : Code → Type 0
  SameCode c = rename r c ≡ rename s c

  both : (a b : Code) → SameCode a → SameCode b → SameCode (a +++ b)
  both a b h g = rename-append r a b ∙ (λ i. h i +++ g i) ∙ sym (rename-append s a b)

  if_same : (b : Bool) (c : Code) → SameCode c → SameCode (code_if b c)
  if_same true c h = h
  if_same false c h = refl

  -- ---- terms

  own_same : (b : Bool) (j : ℕ) (e : Term) → Same e → Same (own_or b j e)
  own_same true j e h = ap var (helpers temp j)
  own_same false j e h = h

  own_code_same : (b : Bool) (line j : ℕ) (e : Term) → Same e → SameCode (own_code b line j e)
  own_code_same true line j e h = λ i. one line (assign (helpers temp j i) none (h i))
  own_code_same false line j e h = refl

  part_same : (b : Bool) (line m : ℕ) (e : Term) → Same e → SameCode (own_part b line m e)
  part_same true line m e h = λ i. one line (assign (helpers work m i) none (h i))
  part_same false line m e h = refl

  sum_same : (b c : Bool) (x y : Term) → Same x → Same y → Same (sum_of b c x y)
  sum_same true true x y h g = λ i. bin plus (h i) (g i)
  sum_same true false x y h g = h
  sum_same false c x y h g = g

  difference_same : (b c : Bool) (x y : Term) → Same x → Same y → Same (difference_of b c x y)
  difference_same true true x y h g = λ i. bin minus (h i) (g i)
  difference_same true false x y h g = h
  difference_same false c x y h g = ap neg g

  module _ (on : Vars) where
    shrunk_same : (e : Term) (j : ℕ) → Same e → Same (shrunk_where on e j)
    shrunk_same (lit z) j h = h
    shrunk_same (var x) j h = h
    shrunk_same (elem x subs) j h = h
    shrunk_same (neg a) j h = let f : Same a = cc in ap neg (shrunk_same a j f)
    shrunk_same (bin plus a b) j h =
        let f : Same a = cc in
        let g : Same b = cc in
        λ i. bin plus (shrunk_same a j f i) (shrunk_same b (j + temps_in_where on a) g i)
    shrunk_same (bin minus a b) j h =
        let f : Same a = cc in
        let g : Same b = cc in
        λ i. bin minus (shrunk_same a j f i) (shrunk_same b (j + temps_in_where on a) g i)
    shrunk_same (bin times a b) j h =
        let f : Same a = cc in
        let g : Same b = cc in
        let x = own_same (has_own_where on a b) (j + temps_in_where on a) (shrunk_where on a j) (shrunk_same a j f) in
        let m = j + temps_in_where on a + count_of (has_own_where on a b) in
        let y = own_same (has_own_where on b a) (m + temps_in_where on b) (shrunk_where on b m) (shrunk_same b m g) in
        λ i. bin times (x i) (y i)
    shrunk_same (bin quot a b) j h = h
    shrunk_same (bin modulo a b) j h = h
    shrunk_same (bin greater a b) j h = h
    shrunk_same (bin lesser a b) j h = h
    shrunk_same (pow a zero) j h = h
    shrunk_same (pow a (suc zero)) j h = let f : Same a = cc in ap (λ e. pow e 1) (shrunk_same a j f)
    shrunk_same (pow a (suc (suc k))) j h =
        let f : Same a = cc in
        ap (λ e. pow e (suc (suc k))) (own_same (has_own_where on a a) (j + temps_in_where on a) (shrunk_where on a j) (shrunk_same a j f))
    shrunk_same (power_of a b) j h =
        let f : Same a = cc in
        let g : Same b = cc in
        let x = own_same (has_own_where on a a) (j + temps_in_where on a) (shrunk_where on a j) (shrunk_same a j f) in
        let y = own_same (has_own_where on b a) (j + temps_in_where on a + count_of (has_own_where on a a)) b g in
        λ i. power_of (x i) (y i)
    shrunk_same (abs a) j h = h

    temps_same : (e : Term) (j line : ℕ) → Same e → SameCode (temps_where on e j line)
    temps_same (lit z) j line h = refl
    temps_same (var x) j line h = refl
    temps_same (elem x subs) j line h = refl
    temps_same (neg a) j line h = let f : Same a = cc in temps_same a j line f
    temps_same (bin plus a b) j line h =
        let f : Same a = cc in
        let g : Same b = cc in
        both (temps_where on a j line) (temps_where on b (j + temps_in_where on a) line) (temps_same a j line f) (temps_same b (j + temps_in_where on a) line g)
    temps_same (bin minus a b) j line h =
        let f : Same a = cc in
        let g : Same b = cc in
        both (temps_where on a j line) (temps_where on b (j + temps_in_where on a) line) (temps_same a j line f) (temps_same b (j + temps_in_where on a) line g)
    temps_same (bin times a b) j line h =
        let f : Same a = cc in
        let g : Same b = cc in
        let m = j + temps_in_where on a + count_of (has_own_where on a b) in
        let own = own_code (has_own_where on a b) line (j + temps_in_where on a) (shrunk_where on a j) in
        let last = own_code (has_own_where on b a) line (m + temps_in_where on b) (shrunk_where on b m) in
        both (temps_where on a j line) (own +++ (temps_where on b m line +++ last)) (temps_same a j line f)
        (both own (temps_where on b m line +++ last) (own_code_same (has_own_where on a b) line (j + temps_in_where on a) (shrunk_where on a j) (shrunk_same a j f))
        (both (temps_where on b m line) last (temps_same b m line g) (own_code_same (has_own_where on b a) line (m + temps_in_where on b) (shrunk_where on b m) (shrunk_same b m g))))
    temps_same (bin quot a b) j line h = refl
    temps_same (bin modulo a b) j line h = refl
    temps_same (bin greater a b) j line h = refl
    temps_same (bin lesser a b) j line h = refl
    temps_same (pow a zero) j line h = refl
    temps_same (pow a (suc zero)) j line h = let f : Same a = cc in temps_same a j line f
    temps_same (pow a (suc (suc k))) j line h =
        let f : Same a = cc in
        both (temps_where on a j line) (own_code (has_own_where on a a) line (j + temps_in_where on a) (shrunk_where on a j)) (temps_same a j line f) (own_code_same (has_own_where on a a) line (j + temps_in_where on a) (shrunk_where on a j) (shrunk_same a j f))
    temps_same (power_of a b) j line h =
        let f : Same a = cc in
        let g : Same b = cc in
        let own = own_code (has_own_where on a a) line (j + temps_in_where on a) (shrunk_where on a j) in
        let last = own_code (has_own_where on b a) line (j + temps_in_where on a + count_of (has_own_where on a a)) b in
        both (temps_where on a j line) (own +++ last) (temps_same a j line f)
        (both own last (own_code_same (has_own_where on a a) line (j + temps_in_where on a) (shrunk_where on a j) (shrunk_same a j f)) (own_code_same (has_own_where on b a) line (j + temps_in_where on a + count_of (has_own_where on a a)) b g))
    temps_same (abs a) j line h = refl

    tangent_same : (e : Term) (k : ℕ) → Same e → Same (tangent_term on e k)
    tangent_same (lit z) k h = refl
    tangent_same (var (plain x)) k h = ap var (shadows x)
    tangent_same (var (shadow x)) k h = refl
    tangent_same (var (helper o n)) k h = refl
    tangent_same (elem (plain x) subs) k h = let f : rename_terms r subs ≡ rename_terms s subs = cc in λ i. elem (shadows x i) (f i)
    tangent_same (elem (shadow x) subs) k h = refl
    tangent_same (elem (helper o n) subs) k h = refl
    tangent_same (neg a) k h = ap var (helpers work (k + parts_in_where on a))
    tangent_same (bin plus a b) k h = ap var (helpers work (k + parts_in_where on a + parts_in_where on b))
    tangent_same (bin minus a b) k h = ap var (helpers work (k + parts_in_where on a + parts_in_where on b))
    tangent_same (bin times a b) k h = ap var (helpers work (k + parts_in_where on a + parts_in_where on b))
    tangent_same (bin quot a b) k h = refl
    tangent_same (bin modulo a b) k h = refl
    tangent_same (bin greater a b) k h = refl
    tangent_same (bin lesser a b) k h = refl
    tangent_same (pow a zero) k h = refl
    tangent_same (pow a (suc n)) k h = ap var (helpers work (k + parts_in_where on a))
    tangent_same (power_of a b) k h = ap var (helpers work (k + parts_in_where on a))
    tangent_same (abs a) k h = refl

    parts_same : (e : Term) (k j line : ℕ) → Same e → SameCode (parts_where on e k j line)
    parts_same (lit z) k j line h = refl
    parts_same (var x) k j line h = refl
    parts_same (elem x subs) k j line h = refl
    parts_same (neg a) k j line h =
        let f : Same a = cc in
        both (parts_where on a k j line) (own_part (is_active_where on a) line (k + parts_in_where on a) (neg (tangent_term on a k))) (parts_same a k j line f) (part_same (is_active_where on a) line (k + parts_in_where on a) (neg (tangent_term on a k)) (ap neg (tangent_same a k f)))
    parts_same (bin plus a b) k j line h =
        let f : Same a = cc in
        let g : Same b = cc in
        let m = k + parts_in_where on a in
        let e = sum_of (is_active_where on a) (is_active_where on b) (tangent_term on a k) (tangent_term on b m) in
        let last = own_part (is_active_where on a || is_active_where on b) line (m + parts_in_where on b) e in
        both (parts_where on a k j line) (parts_where on b m (j + temps_in_where on a) line +++ last) (parts_same a k j line f)
        (both (parts_where on b m (j + temps_in_where on a) line) last (parts_same b m (j + temps_in_where on a) line g)
        (part_same (is_active_where on a || is_active_where on b) line (m + parts_in_where on b) e (sum_same (is_active_where on a) (is_active_where on b) (tangent_term on a k) (tangent_term on b m) (tangent_same a k f) (tangent_same b m g))))
    parts_same (bin minus a b) k j line h =
        let f : Same a = cc in
        let g : Same b = cc in
        let m = k + parts_in_where on a in
        let e = difference_of (is_active_where on a) (is_active_where on b) (tangent_term on a k) (tangent_term on b m) in
        let last = own_part (is_active_where on a || is_active_where on b) line (m + parts_in_where on b) e in
        both (parts_where on a k j line) (parts_where on b m (j + temps_in_where on a) line +++ last) (parts_same a k j line f)
        (both (parts_where on b m (j + temps_in_where on a) line) last (parts_same b m (j + temps_in_where on a) line g)
        (part_same (is_active_where on a || is_active_where on b) line (m + parts_in_where on b) e (difference_same (is_active_where on a) (is_active_where on b) (tangent_term on a k) (tangent_term on b m) (tangent_same a k f) (tangent_same b m g))))
    parts_same (bin times a b) k j line h =
        let f : Same a = cc in
        let g : Same b = cc in
        let m = k + parts_in_where on a in
        let n = j + temps_in_where on a + count_of (has_own_where on a b) in
        let right = own_same (has_own_where on b a) (n + temps_in_where on b) b g in
        let left = own_same (has_own_where on a b) (j + temps_in_where on a) a f in
        let x = bin times (tangent_term on a k) (own_or (has_own_where on b a) (n + temps_in_where on b) b) in
        let y = bin times (own_or (has_own_where on a b) (j + temps_in_where on a) a) (tangent_term on b m) in
        let e = sum_of (is_active_where on a) (is_active_where on b) x y in
        let last = own_part (is_active_where on a || is_active_where on b) line (m + parts_in_where on b) e in
        both (parts_where on a k j line) (parts_where on b m n line +++ last) (parts_same a k j line f)
        (both (parts_where on b m n line) last (parts_same b m n line g)
        (part_same (is_active_where on a || is_active_where on b) line (m + parts_in_where on b) e (sum_same (is_active_where on a) (is_active_where on b) x y (λ i. bin times (tangent_same a k f i) (right i)) (λ i. bin times (left i) (tangent_same b m g i)))))
    parts_same (bin quot a b) k j line h = refl
    parts_same (bin modulo a b) k j line h = refl
    parts_same (bin greater a b) k j line h = refl
    parts_same (bin lesser a b) k j line h = refl
    parts_same (pow a zero) k j line h = refl
    parts_same (pow a (suc zero)) k j line h =
        let f : Same a = cc in
        both (parts_where on a k j line) (own_part (is_active_where on a) line (k + parts_in_where on a) (tangent_term on a k)) (parts_same a k j line f) (part_same (is_active_where on a) line (k + parts_in_where on a) (tangent_term on a k) (tangent_same a k f))
    parts_same (pow a (suc (suc n))) k j line h =
        let f : Same a = cc in
        let base = own_same (has_own_where on a a) (j + temps_in_where on a) a f in
        let e = bin times (bin times (lit (pos (suc (suc n)))) (pow (own_or (has_own_where on a a) (j + temps_in_where on a) a) (suc n))) (tangent_term on a k) in
        both (parts_where on a k j line) (own_part (is_active_where on a) line (k + parts_in_where on a) e) (parts_same a k j line f)
        (part_same (is_active_where on a) line (k + parts_in_where on a) e (λ i. bin times (bin times (lit (pos (suc (suc n)))) (pow (base i) (suc n))) (tangent_same a k f i)))
    parts_same (power_of a b) k j line h =
        let f : Same a = cc in
        let g : Same b = cc in
        let base = own_same (has_own_where on a a) (j + temps_in_where on a) a f in
        let exponent = own_same (has_own_where on b a) (j + temps_in_where on a + count_of (has_own_where on a a)) b g in
        let e = bin times (power_factor (own_or (has_own_where on a a) (j + temps_in_where on a) a) (own_or (has_own_where on b a) (j + temps_in_where on a + count_of (has_own_where on a a)) b)) (tangent_term on a k) in
        both (parts_where on a k j line) (own_part (is_active_where on a) line (k + parts_in_where on a) e) (parts_same a k j line f)
        (part_same (is_active_where on a) line (k + parts_in_where on a) e (λ i. bin times (power_factor (base i) (exponent i)) (tangent_same a k f i)))
    parts_same (abs a) k j line h = refl

    before_same : (t : List ℕ) (subs : Terms) (e : Term) (line : ℕ) → rename_terms r subs ≡ rename_terms s subs → Same e → SameCode (before_assignment on t subs e line)
    before_same t subs e line h g =
        let code = temps_where on e 1 line +++ parts_where on e 1 1 line in
        let active = is_active_where on e in
        both (code_if active code) (one line (assign (shadow t) subs (if active then tangent_term on e 1 else lit (pos 0))))
        (if_same active code (both (temps_where on e 1 line) (parts_where on e 1 1 line) (temps_same e 1 line g) (parts_same e 1 1 line g)))
        (λ i. one line (assign (shadows t i) (h i) (value active i)))
      where
        value : (b : Bool) → Same (if b then tangent_term on e 1 else lit (pos 0))
        value true = tangent_same e 1 g
        value false = refl

  -- ---- statements

  -- the actuals of a call of a tangent
  names_same : (args : Terms) → rename_terms r args ≡ rename_terms s args → Each (λ a. r (plain a) ≡ s (plain a)) (names_of args)
  names_same none h = tt
  names_same (more (lit z) es) h = let f : rename_terms r es ≡ rename_terms s es = cc in names_same es f
  names_same (more (var (plain a)) es) h =
      let f : rename_terms r es ≡ rename_terms s es = cc in
      let g : r (plain a) ≡ s (plain a) = cc in
      (g, names_same es f)
  names_same (more (var (shadow a)) es) h = let f : rename_terms r es ≡ rename_terms s es = cc in names_same es f
  names_same (more (var (helper o k)) es) h = let f : rename_terms r es ≡ rename_terms s es = cc in names_same es f
  names_same (more (elem x subs) es) h = let f : rename_terms r es ≡ rename_terms s es = cc in names_same es f
  names_same (more (neg a) es) h = let f : rename_terms r es ≡ rename_terms s es = cc in names_same es f
  names_same (more (bin o a b) es) h = let f : rename_terms r es ≡ rename_terms s es = cc in names_same es f
  names_same (more (pow a k) es) h = let f : rename_terms r es ≡ rename_terms s es = cc in names_same es f
  names_same (more (power_of a b) es) h = let f : rename_terms r es ≡ rename_terms s es = cc in names_same es f
  names_same (more (abs a) es) h = let f : rename_terms r es ≡ rename_terms s es = cc in names_same es f

  actuals_same : (on : Vars) (ds given : List (List ℕ)) → Each (λ a. r (plain a) ≡ s (plain a)) given → rename_terms r (actuals_in (bindings on ds given)) ≡ rename_terms s (actuals_in (bindings on ds given))
  actuals_same on [] given h = refl
  actuals_same on (d ∷ ds) [] h = refl
  actuals_same on (d ∷ ds) (a ∷ given) h = go (on (plain d)) (actuals_same on ds given h.1)
    where
      go : (b : Bool) → rename_terms r (actuals_in (bindings on ds given)) ≡ rename_terms s (actuals_in (bindings on ds given)) →
          rename_terms r (actuals_in (if b then (plain d, plain a) ∷ (shadow d, shadow a) ∷ bindings on ds given else (plain d, plain a) ∷ bindings on ds given)) ≡ rename_terms s (actuals_in (if b then (plain d, plain a) ∷ (shadow d, shadow a) ∷ bindings on ds given else (plain d, plain a) ∷ bindings on ds given))
      go true ih = λ i. more (var (h.0 i)) (more (var (shadows a i)) (ih i))
      go false ih = λ i. more (var (h.0 i)) (ih i)

  cleared_same : (arrays : Vars) (line : ℕ) (xs : List (List ℕ)) → SameCode (cleared arrays line xs)
  cleared_same arrays line [] = refl
  cleared_same arrays line (x ∷ xs) = go (arrays (plain x)) (cleared_same arrays line xs)
    where
      go : (b : Bool) → SameCode (cleared arrays line xs) → SameCode ((if b then one line (runtime (zero_array (shadow x))) else one line (assign (shadow x) none (lit (pos 0)))) +++ cleared arrays line xs)
      go true ih = λ i. step line (runtime (zero_array (shadows x i))) (ih i)
      go false ih = λ i. step line (assign (shadows x i) none (lit (pos 0))) (ih i)

  module _ (p : Plan) where
    before_act_same : (line : ℕ) (a : Act) → rename_act r a ≡ rename_act s a → SameCode (before_act p line a)
    before_act_same line (assign (plain x) subs e) h =
        let f : rename_terms r subs ≡ rename_terms s subs = cc in
        let g : Same e = cc in
        if_same (p.carried (plain x)) (before_assignment p.carried x subs e line) (before_same p.carried x subs e line f g)
    before_act_same line (assign (shadow x) subs e) h = refl
    before_act_same line (assign (helper o k) subs e) h = refl
    before_act_same line (choose c a b) h = refl
    before_act_same line (loop (plain x) first last by body m) h = if_same (p.carried (plain x)) (one line (assign (shadow x) none (lit (pos 0)))) (λ i. one line (assign (shadows x i) none (lit (pos 0))))
    before_act_same line (loop (shadow x) first last by body m) h = refl
    before_act_same line (loop (helper o k) first last by body m) h = refl
    before_act_same line (during c body) h = refl
    before_act_same line (call name args) h = refl
    before_act_same line (runtime c) h = refl

    mutual
      act_same : (a : Act) → rename_act r a ≡ rename_act s a → rename_act r (tangent_act p a) ≡ rename_act s (tangent_act p a)
      act_same (assign x subs e) h = h
      act_same (choose c a b) h =
          let t : rename_test r c ≡ rename_test s c = cc in
          let f : SameCode a = cc in
          let g : SameCode b = cc in
          λ i. choose (t i) (list_same a f i) (list_same b g i)
      act_same (loop x first last by body m) h =
          let f : SameCode body = cc in
          let inside = list_same body f in
          cc
      act_same (during c body) h =
          let t : rename_test r c ≡ rename_test s c = cc in
          let f : SameCode body = cc in
          λ i. during (t i) (list_same body f i)
      act_same (call name args) h =
          let f : rename_terms r args ≡ rename_terms s args = cc in
          go f (takes_some (p.callees name).carried (p.callees name).dummies)
        where
          go : rename_terms r args ≡ rename_terms s args → (b : Bool) → (let g = p.callees name in rename_act r (if b then call g.tangent (actuals_in (bindings g.carried g.dummies (names_of args))) else call name args) ≡ rename_act s (if b then call g.tangent (actuals_in (bindings g.carried g.dummies (names_of args))) else call name args))
          go f true = let g = p.callees name in ap (call g.tangent) (actuals_same g.carried g.dummies (names_of args) (names_same args f))
          go f false = ap (call name) f
      act_same (runtime c) h = h

      pub list_same : (c : Code) → SameCode c → SameCode (tangents p c)
      list_same stop h = refl
      list_same (step line a rest) h =
          let f : rename_act r a ≡ rename_act s a = cc in
          let g : SameCode rest = cc in
          both (before_act p line a) (step line (tangent_act p a) (tangents p rest)) (before_act_same line a f) (λ i. step line (act_same a f i) (list_same rest g i))

    -- the body of a unit's tangent
    pub body_same : (arrays : Vars) (line : ℕ) (at_first : List (List ℕ)) (c : Code) → SameCode c → SameCode (cleared arrays line at_first +++ tangents p c)
    body_same arrays line at_first c h = both (cleared arrays line at_first) (tangents p c) (cleared_same arrays line at_first) (list_same c h)
