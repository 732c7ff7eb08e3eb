-- The expressions in a tangent are at most 4 deeper than those of what it is of.
use Rattle.std.proofs.Common.{ℕ, zero, suc, ◌+◌, ◌≤◌, Bool, true, false, List, [], ◌∷◌, ◌++◌, map, sym, subst, arith, if◌then◌else◌}
use Rattle.std.specs.Prelude.{pos, ◌||◌}
use Rattle.adj_tree.specs.Code.{plain, shadow, helper, plus, minus, times, quot, modulo, greater, lesser, Term, lit, var, elem, neg, bin, pow, power_of, abs, Terms, none, zero_array, Act, assign, choose, loop, during, call, runtime, Code, stop, step, name_eq, Procedure}
use Rattle.adj_tree.specs.Size.{term_depth, terms_depth}
use Rattle.def_meaning.specs.Append.{◌+++◌, one}
use Rattle.def_names.specs.Numbers.{Vars}
use Rattle.def_sweep.specs.Marked.{code_if, count_of, names_in}
use Rattle.def_sweep.specs.Naming.{naming}
use Rattle.def_sweep.specs.Declared.{unit_name, unmarked, unit_at}
use Rattle.def_sweep.specs.Occurrences.{is_active_where}
use Rattle.def_sweep.specs.AdjointOf.{has_own_where, temps_in_where, temps_where}
use Rattle.def_sweep.specs.Plan.{names_of}
use Rattle.def_sweep.specs.Bindings.{Bindings, bindings, actuals_in}
use Rattle.def_sweep.specs.Marking.{arrays_of}
use Rattle.law_emitted.specs.Emitted.{act_deepest, deepest, AreShallow}
use Rattle.law_emitted.proofs.Depths.{deep_append, deep_own, some_depth, deep_temps, renamed_list}
use Rattle.def_tangent.specs.TangentOf.{parts_in_where, tangent_term, sum_of, difference_of, own_part, parts_where, before_assignment}
use Rattle.def_tangent.specs.Forward.{Plan, takes_some, before_act, tangent_act, tangents}
use Rattle.def_tangent.specs.Program.{Carried, plan_in, cleared, has_tangent, stays, made_names, names_of_unit, tangent_unit, emitted_units, emitted_for}
use Rattle.law_tangent_carried.specs.Emitted.{KeepsDepth}

-- ---- assignments

module _ (on : Vars) where
  -- the tangent of a term is no deeper
  deep_tangent : (n : ℕ) (e : Term) (k : ℕ) → term_depth e ≤ n → term_depth (tangent_term on e k) ≤ n
  deep_tangent n (lit z) k h = h
  deep_tangent n (var (plain x)) k h = h
  deep_tangent n (var (shadow x)) k h = h
  deep_tangent n (var (helper r i)) k h = h
  deep_tangent n (elem (plain x) subs) k h = h
  deep_tangent n (elem (shadow x) subs) k h = omega (arith, h)
  deep_tangent n (elem (helper r i) subs) k h = omega (arith, h)
  deep_tangent n (neg a) k h = omega (arith, h)
  deep_tangent n (bin plus a b) k h = omega (arith, h)
  deep_tangent n (bin minus a b) k h = omega (arith, h)
  deep_tangent n (bin times a b) k h = omega (arith, h)
  deep_tangent n (bin quot a b) k h = omega (arith, h)
  deep_tangent n (bin modulo a b) k h = omega (arith, h)
  deep_tangent n (bin greater a b) k h = omega (arith, h)
  deep_tangent n (bin lesser a b) k h = omega (arith, h)
  deep_tangent n (pow a zero) k h = omega (arith, h)
  deep_tangent n (pow a (suc i)) k h = omega (arith, h)
  deep_tangent n (power_of a b) k h = omega (arith, h)
  deep_tangent n (abs a) k h = omega (arith, h)

-- a sum of two tangents, or one alone
deep_sum : (m : ℕ) (b c : Bool) (x y : Term) → term_depth x + 1 ≤ m → term_depth y + 1 ≤ m → term_depth (sum_of b c x y) ≤ m
deep_sum m true true x y h g = omega (arith, h, g)
deep_sum m true false x y h g = omega (arith, h)
deep_sum m false c x y h g = omega (arith, g)

-- a difference, or one alone
deep_difference : (m : ℕ) (b c : Bool) (x y : Term) → term_depth x + 1 ≤ m → term_depth y + 1 ≤ m → term_depth (difference_of b c x y) ≤ m
deep_difference m true true x y h g = omega (arith, h, g)
deep_difference m true false x y h g = omega (arith, h)
deep_difference m false c x y h g = omega (arith, g)

-- the assignment of a part's helper
deep_part : (m : ℕ) (b : Bool) (line k : ℕ) (e : Term) → term_depth e ≤ m → deepest (own_part b line k e) ≤ m
deep_part m true line k e h = omega (arith, h)
deep_part m false line k e h = omega arith

module _ (on : Vars) where
  deep_parts : (n : ℕ) (e : Term) (k j line : ℕ) → term_depth e ≤ n → deepest (parts_where on e k j line) ≤ n + 4
  deep_parts n (lit z) k j line h = omega arith
  deep_parts n (var x) k j line h = omega arith
  deep_parts n (elem x subs) k j line h = omega arith
  deep_parts zero (neg a) k j line h = absurd (omega (arith, h))
  deep_parts (suc n) (neg a) k j line h =
      let less : term_depth a ≤ n = omega (arith, h) in
      let f = deep_parts n a k j line less in
      let t = deep_tangent on n a k less in
      deep_append (suc n + 4) (parts_where on a k j line) _ (omega (arith, f)) (deep_part (suc n + 4) (is_active_where on a) line _ (neg (tangent_term on a k)) (omega (arith, t)))
  deep_parts zero (bin plus a b) k j line h = absurd (omega (arith, h))
  deep_parts (suc n) (bin plus a b) k j line h =
      let la : term_depth a ≤ n = omega (arith, h) in
      let lb : term_depth b ≤ n = omega (arith, h) in
      let f = deep_parts n a k j line la in
      let g = deep_parts n b (k + parts_in_where on a) (j + temps_in_where on a) line lb in
      let t = deep_tangent on n a k la in
      let s = deep_tangent on n b (k + parts_in_where on a) lb in
      deep_append (suc n + 4) (parts_where on a k j line) _ (omega (arith, f))
      (deep_append (suc n + 4) (parts_where on b (k + parts_in_where on a) (j + temps_in_where on a) line) _ (omega (arith, g))
      (deep_part (suc n + 4) (is_active_where on a || is_active_where on b) line _ _ (deep_sum (suc n + 4) (is_active_where on a) (is_active_where on b) (tangent_term on a k) (tangent_term on b (k + parts_in_where on a)) (omega (arith, t)) (omega (arith, s)))))
  deep_parts zero (bin minus a b) k j line h = absurd (omega (arith, h))
  deep_parts (suc n) (bin minus a b) k j line h =
      let la : term_depth a ≤ n = omega (arith, h) in
      let lb : term_depth b ≤ n = omega (arith, h) in
      let f = deep_parts n a k j line la in
      let g = deep_parts n b (k + parts_in_where on a) (j + temps_in_where on a) line lb in
      let t = deep_tangent on n a k la in
      let s = deep_tangent on n b (k + parts_in_where on a) lb in
      deep_append (suc n + 4) (parts_where on a k j line) _ (omega (arith, f))
      (deep_append (suc n + 4) (parts_where on b (k + parts_in_where on a) (j + temps_in_where on a) line) _ (omega (arith, g))
      (deep_part (suc n + 4) (is_active_where on a || is_active_where on b) line _ _ (deep_difference (suc n + 4) (is_active_where on a) (is_active_where on b) (tangent_term on a k) (tangent_term on b (k + parts_in_where on a)) (omega (arith, t)) (omega (arith, s)))))
  deep_parts zero (bin times a b) k j line h = absurd (omega (arith, h))
  deep_parts (suc n) (bin times a b) k j line h =
      let la : term_depth a ≤ n = omega (arith, h) in
      let lb : term_depth b ≤ n = omega (arith, h) in
      let some : 1 ≤ n = (let z = some_depth a in omega (arith, z, la)) in
      let i = j + temps_in_where on a + count_of (has_own_where on a b) in
      let f = deep_parts n a k j line la in
      let g = deep_parts n b (k + parts_in_where on a) i line lb in
      let t = deep_tangent on n a k la in
      let s = deep_tangent on n b (k + parts_in_where on a) lb in
      let va = deep_own n (has_own_where on a b) (j + temps_in_where on a) a some la in
      let vb = deep_own n (has_own_where on b a) (i + temps_in_where on b) b some lb in
      deep_append (suc n + 4) (parts_where on a k j line) _ (omega (arith, f))
      (deep_append (suc n + 4) (parts_where on b (k + parts_in_where on a) i line) _ (omega (arith, g))
      (deep_part (suc n + 4) (is_active_where on a || is_active_where on b) line _ _ (deep_sum (suc n + 4) (is_active_where on a) (is_active_where on b) _ _ (omega (arith, t, vb)) (omega (arith, s, va)))))
  deep_parts n (bin quot a b) k j line h = omega arith
  deep_parts n (bin modulo a b) k j line h = omega arith
  deep_parts n (bin greater a b) k j line h = omega arith
  deep_parts n (bin lesser a b) k j line h = omega arith
  deep_parts n (pow a zero) k j line h = omega arith
  deep_parts zero (pow a (suc zero)) k j line h = absurd (omega (arith, h))
  deep_parts (suc n) (pow a (suc zero)) k j line h =
      let la : term_depth a ≤ n = omega (arith, h) in
      let f = deep_parts n a k j line la in
      let t = deep_tangent on n a k la in
      deep_append (suc n + 4) (parts_where on a k j line) _ (omega (arith, f)) (deep_part (suc n + 4) (is_active_where on a) line _ (tangent_term on a k) (omega (arith, t)))
  deep_parts zero (pow a (suc (suc i))) k j line h = absurd (omega (arith, h))
  deep_parts (suc n) (pow a (suc (suc i))) k j line h =
      let la : term_depth a ≤ n = omega (arith, h) in
      let some : 1 ≤ n = (let z = some_depth a in omega (arith, z, la)) in
      let f = deep_parts n a k j line la in
      let t = deep_tangent on n a k la in
      let va = deep_own n (has_own_where on a a) (j + temps_in_where on a) a some la in
      deep_append (suc n + 4) (parts_where on a k j line) _ (omega (arith, f)) (deep_part (suc n + 4) (is_active_where on a) line _ _ (omega (arith, t, va)))
  deep_parts zero (power_of a b) k j line h = absurd (omega (arith, h))
  deep_parts (suc n) (power_of a b) k j line h =
      let la : term_depth a ≤ n = omega (arith, h) in
      let lb : term_depth b ≤ n = omega (arith, h) in
      let some : 1 ≤ n = (let z = some_depth a in omega (arith, z, la)) in
      let f = deep_parts n a k j line la in
      let t = deep_tangent on n a k la in
      let va = deep_own n (has_own_where on a a) (j + temps_in_where on a) a some la in
      let vb = deep_own n (has_own_where on b a) (j + temps_in_where on a + count_of (has_own_where on a a)) b some lb in
      deep_append (suc n + 4) (parts_where on a k j line) _ (omega (arith, f)) (deep_part (suc n + 4) (is_active_where on a) line _ _ (omega (arith, t, va, vb)))
  deep_parts n (abs a) k j line h = omega arith

  deep_before : (n : ℕ) (x : List ℕ) (subs : Terms) (e : Term) (line : ℕ) → terms_depth subs ≤ n → term_depth e ≤ n → deepest (before_assignment on x subs e line) ≤ n + 4
  deep_before n x subs e line s h = go (is_active_where on e)
    where
      go : (b : Bool) → deepest (code_if b (temps_where on e 1 line +++ parts_where on e 1 1 line) +++ one line (assign (shadow x) subs (if b then tangent_term on e 1 else lit (pos 0)))) ≤ n + 4
      go true =
          let t = deep_temps on n e 1 line h in
          let d = deep_tangent on n e 1 h in
          deep_append (n + 4) (temps_where on e 1 line +++ parts_where on e 1 1 line) _ (deep_append (n + 4) (temps_where on e 1 line) _ (omega (arith, t)) (deep_parts n e 1 1 line h)) (omega (arith, d, s))
      go false = omega (arith, s)

-- actuals are names
names_shallow : (bs : Bindings) → terms_depth (actuals_in bs) ≤ 1
names_shallow [] = omega arith
names_shallow (b ∷ bs) = let r = names_shallow bs in omega (arith, r)

module _ (p : Plan) where
  before_deep : (n line : ℕ) (a : Act) → act_deepest a ≤ n → deepest (before_act p line a) ≤ n + 4
  before_deep n line (assign (plain x) subs e) h = go (p.carried (plain x))
    where
      go : (b : Bool) → deepest (code_if b (before_assignment p.carried x subs e line)) ≤ n + 4
      go true = deep_before p.carried n x subs e line (omega (arith, h)) (omega (arith, h))
      go false = omega arith
  before_deep n line (assign (shadow x) subs e) h = omega arith
  before_deep n line (assign (helper r k) subs e) h = omega arith
  before_deep n line (choose c a b) h = omega arith
  before_deep n line (loop (plain x) first last by body m) h = go (p.carried (plain x))
    where
      go : (b : Bool) → deepest (code_if b (one line (assign (shadow x) none (lit (pos 0))))) ≤ n + 4
      go true = omega arith
      go false = omega arith
  before_deep n line (loop (shadow x) first last by body m) h = omega arith
  before_deep n line (loop (helper r k) first last by body m) h = omega arith
  before_deep n line (during c body) h = omega arith
  before_deep n line (call name args) h = omega arith
  before_deep n line (runtime r) h = omega arith

  mutual
    act_deep : (n : ℕ) (a : Act) → act_deepest a ≤ n → act_deepest (tangent_act p a) ≤ n + 4
    act_deep n (assign x subs e) h = omega (arith, h)
    act_deep n (choose c a b) h =
        let f = list_deep n a (omega (arith, h)) in
        let g = list_deep n b (omega (arith, h)) in
        omega (arith, f, g, h)
    act_deep n (loop x first last by body m) h = let f = list_deep n body (omega (arith, h)) in omega (arith, f, h)
    act_deep n (during c body) h = let f = list_deep n body (omega (arith, h)) in omega (arith, f, h)
    act_deep n (call name args) h = go (takes_some (p.callees name).carried (p.callees name).dummies)
      where
        go : (b : Bool) → act_deepest (if b then call (p.callees name).tangent (actuals_in (bindings (p.callees name).carried (p.callees name).dummies (names_of args))) else call name args) ≤ n + 4
        go true = let l = names_shallow (bindings (p.callees name).carried (p.callees name).dummies (names_of args)) in omega (arith, l)
        go false = omega (arith, h)
    act_deep n (runtime r) h = omega (arith, h)

    list_deep : (n : ℕ) (c : Code) → deepest c ≤ n → deepest (tangents p c) ≤ n + 4
    list_deep n stop h = omega arith
    list_deep n (step line a rest) h =
        let f = act_deep n a (omega (arith, h)) in
        let g = list_deep n rest (omega (arith, h)) in
        deep_append (n + 4) (before_act p line a) (step line (tangent_act p a) (tangents p rest)) (before_deep n line a (omega (arith, h))) (omega (arith, f, g))

-- tangents that are cleared
cleared_deep : (n : ℕ) (arrays : Vars) (line : ℕ) (xs : List (List ℕ)) → deepest (cleared arrays line xs) ≤ n + 4
cleared_deep n arrays line [] = omega arith
cleared_deep n arrays line (x ∷ xs) = go (arrays (plain x)) (cleared_deep n arrays line xs)
  where
    go : (b : Bool) → deepest (cleared arrays line xs) ≤ n + 4 → deepest ((if b then one line (runtime (zero_array (shadow x))) else one line (assign (shadow x) none (lit (pos 0)))) +++ cleared arrays line xs) ≤ n + 4
    go true ih = omega (arith, ih)
    go false ih = omega (arith, ih)

-- ---- the emitted program

module _ (n : ℕ) (c : Carried) (ps : List Procedure) (head : Procedure) (vars : List Bool) where
  abbrev units : List (List ℕ)
  units = map unit_name ps ++ made_names c ps head.name ps

  unit_deep : (u : Procedure) (at : List (List ℕ)) → deepest u.body ≤ n → deepest (tangent_unit c ps units u at).body ≤ n + 4
  unit_deep u at h =
      subst (λ k. k ≤ n + 4) (sym (renamed_list (naming (names_of_unit (c u.name) units u)) (cleared (arrays_of u) u.line at +++ tangents (plan_in c ps u.name) u.body)))
      (deep_append (n + 4) (cleared (arrays_of u) u.line at) (tangents (plan_in c ps u.name) u.body) (cleared_deep n (arrays_of u) u.line at) (list_deep (plan_in c ps u.name) n u.body h))

  units_shallow : (us : List Procedure) → AreShallow n us → AreShallow (n + 4) (emitted_units c ps head vars us)
  units_shallow [] h = tt
  units_shallow (u ∷ us) h = keep (stays c ps head.name u.name) (make (has_tangent c ps head.name u.name) (units_shallow us h.1))
    where
      at : List (List ℕ)
      at = if name_eq head.name u.name then names_in (c u.name) (unmarked u.dummies vars) else []

      make : (b : Bool) → AreShallow (n + 4) (emitted_units c ps head vars us) → AreShallow (n + 4) ((if b then tangent_unit c ps units u at ∷ [] else []) ++ emitted_units c ps head vars us)
      make true ih = (unit_deep u at h.0, ih)
      make false ih = ih

      keep : (b : Bool) → AreShallow (n + 4) ((if has_tangent c ps head.name u.name then tangent_unit c ps units u at ∷ [] else []) ++ emitted_units c ps head vars us) → AreShallow (n + 4) ((if b then u ∷ [] else []) ++ ((if has_tangent c ps head.name u.name then tangent_unit c ps units u at ∷ [] else []) ++ emitted_units c ps head vars us))
      keep true ih = (let l = h.0 in omega (arith, l), ih)
      keep false ih = ih

-- the law
pub keeps_depth : KeepsDepth
keeps_depth n c ps h head vars = go (unit_at head ps)
  where
    go : (us : List Procedure) → AreShallow (n + 4) (emitted_for c ps vars us)
    go [] = tt
    go (u ∷ us) = units_shallow n c ps u vars ps h
