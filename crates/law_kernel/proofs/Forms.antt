-- The kernel is in kernel form.
use Rattle.std.proofs.Common.{◌≡◌, ℕ, zero, suc, ◌+◌, ◌<◌, ◌≤◌, Bool, true, false, List, [], ◌∷◌, map, refl, sym, ap, ◌∙◌, arith, subst}
use Rattle.std.specs.Prelude.{◌||◌, if◌then◌else◌}
use Rattle.adj_tree.specs.Code.{Var, var_eq, plus, minus, times, quot, modulo, greater, lesser, Term, lit, var, elem, neg, bin, pow, power_of, abs, Terms, none, more, is_less, Test, compare, Mark, unmarked, with_count, count_from, Act, assign, choose, loop, during, call, runtime, Code, stop, step, Procedure}
use Rattle.def_meaning.specs.Append.{◌+++◌}
use Rattle.def_meaning.specs.LeastSet.{Dummies}
use Rattle.def_meaning.specs.Read.{reads_term, reads_terms}
use Rattle.def_meaning.specs.Written.{handed_back}
use Rattle.def_meaning.proofs.Booleans.{or_first, or_second}
use Rattle.def_meaning.proofs.Variables.{var_refl, var_same}
use Rattle.def_kernel.specs.Lowered.{locals_in, locals_in_all, length_of, first_flag, other_flags, picked, turned_up, reduced, before, set_local, mentions, locals_in_target, apart_from, before_target, lowered_assign, reduced_all, before_all, held, before_held, is_among, Passing, stays, put_back, by_value, passing, passing_name, passing_element, locals_passing, passed, before_passing, after_passing, all_passed, before_passing_all, after_passing_all, lowered_call, lowered_act, lowered}
use Rattle.law_kernel.specs.Apart.{AreLocals, TermInside, TermsInside, ActInside, CodeInside, EachCall', EachCall}
use Rattle.def_kernel.specs.Calls.{stands_whole}
use Rattle.law_kernel.specs.Fits.{is_of, PlainCode, IsFitCall, IsFit}
use Rattle.def_kernel.specs.Kernel.{local_in, lowered_unit, lowered_program, EachUnit}
use Rattle.def_kernel.specs.Form.{IsReduced, AreDistinctNames, IsOneCall, WhereMarked, IsKernelCode, IsKernel, IsSteppedAct, IsStepped}
use Rattle.law_kernel.proofs.Changing.{not_local, other_local}
use Rattle.law_kernel.proofs.Targeting.{first_inside, rest_inside}
use Rattle.law_kernel.proofs.Sorts.{Sort, name, element, chosen, other, sort}
use Rattle.law_kernel.proofs.Entries.{names_passed}
use Rattle.law_kernel.proofs.Names.{not_again}
use Rattle.law_kernel.proofs.Locals.{unit_locals, own_body}

-- lists in kernel form, one after another
form_append : (c d : Code) → IsKernelCode c → IsKernelCode d → IsKernelCode (c +++ d)
form_append stop d h g = g
form_append (step line a c) d h g = (h.0, form_append c d h.1 g)

module _ (inside : Var → Bool) (local : ℕ → Var) (apart : AreLocals inside local) where
  -- a reduced expression is reduced
  reduces : (e : Term) (j : ℕ) → IsReduced (reduced local j e)
  reduces (lit z) j = tt
  reduces (var x) j = tt
  reduces (elem x subs) j = tt
  reduces (neg a) j = reduces a j
  reduces (bin plus a b) j = (reduces a j, reduces b (j + locals_in a))
  reduces (bin minus a b) j = (reduces a j, reduces b (j + locals_in a))
  reduces (bin times a b) j = (reduces a j, reduces b (j + locals_in a))
  reduces (bin quot a b) j = tt
  reduces (bin modulo a b) j = tt
  reduces (bin greater a b) j = tt
  reduces (bin lesser a b) j = tt
  reduces (pow a zero) j = tt
  reduces (pow a (suc k)) j = reduces a j
  reduces (power_of a b) j = reduces a j
  reduces (abs a) j = tt

  -- so are the statements before it
  form_picked : (line : ℕ) (t : Test) (i : ℕ) (a b : Term) → IsReduced a → IsReduced b → IsKernelCode (picked local line t i a b)
  form_picked line t i a b h g = ((refl, h), ((refl, g), ((((refl, tt), tt), tt), tt)))

  form_turned : (line i : ℕ) (a : Term) → IsReduced a → IsKernelCode (turned_up local line i a)
  form_turned line i a h = ((refl, h), ((((refl, tt), tt), tt), tt))

  -- what is set before an expression is in kernel form
  form_before : (line j : ℕ) (e : Term) → IsKernelCode (before local line j e)
  form_before line j (lit z) = tt
  form_before line j (var y) = tt
  form_before line j (elem y subs) = tt
  form_before line j (neg a) = form_before line j a
  form_before line j (bin plus a b) = form_append (before local line j a) _ (form_before line j a) (form_before line (j + locals_in a) b)
  form_before line j (bin minus a b) = form_append (before local line j a) _ (form_before line j a) (form_before line (j + locals_in a) b)
  form_before line j (bin times a b) = form_append (before local line j a) _ (form_before line j a) (form_before line (j + locals_in a) b)
  form_before line j (bin quot a b) = tt
  form_before line j (bin modulo a b) = tt
  form_before line j (bin greater a b) =
      form_append (before local line j a) _ (form_before line j a) (form_append (before local line (j + locals_in a) b) _ (form_before line (j + locals_in a) b)
      (form_picked line (compare is_less (var (local (j + locals_in a + locals_in b))) (var (local (suc (j + locals_in a + locals_in b))))) (j + locals_in a + locals_in b) (reduced local j a) (reduced local (j + locals_in a) b) (reduces a j) (reduces b (j + locals_in a))))
  form_before line j (bin lesser a b) =
      form_append (before local line j a) _ (form_before line j a) (form_append (before local line (j + locals_in a) b) _ (form_before line (j + locals_in a) b)
      (form_picked line (compare is_less (var (local (suc (j + locals_in a + locals_in b)))) (var (local (j + locals_in a + locals_in b)))) (j + locals_in a + locals_in b) (reduced local j a) (reduced local (j + locals_in a) b) (reduces a j) (reduces b (j + locals_in a))))
  form_before line j (pow a zero) = tt
  form_before line j (pow a (suc k)) = form_before line j a
  form_before line j (power_of a b) = form_before line j a
  form_before line j (abs a) = form_append (before local line j a) _ (form_before line j a) (form_turned line (j + locals_in a) (reduced local j a) (reduces a j))

  -- a local that is set
  form_set : (line j m : ℕ) (e : Term) → IsKernelCode (set_local local line j m e)
  form_set line j m e = form_append (before local line m e) _ (form_before line m e) ((refl, reduces e m), tt)

  -- ---- an assignment

  -- what is set before a target
  form_target : (line : ℕ) (y : Var) (j m : ℕ) (es : Terms) → IsKernelCode (before_target local line y j m es)
  form_target line y j m none = tt
  form_target line y j m (more e es) = go (reads_term y e) (form_target line y (suc j) (m + locals_in e) es) (form_target line y j m es)
    where
      go : (b : Bool) → IsKernelCode (before_target local line y (suc j) (m + locals_in e) es) → IsKernelCode (before_target local line y j m es) → IsKernelCode (if b then set_local local line j m e +++ before_target local line y (suc j) (m + locals_in e) es else before_target local line y j m es)
      go true h g = form_append (set_local local line j m e) _ (form_set line j m e) h
      go false h g = g

  -- no subscript mentions the array
  not_mentioned : (x : Var) → inside x ≡ true → (j : ℕ) (es : Terms) → reads_terms x (apart_from local x j es) ≡ false
  not_mentioned x h j none = refl
  not_mentioned x h j (more e es) = go (reads_term x e) refl (not_mentioned x h (suc j) es) (not_mentioned x h j es)
    where
      go : (b : Bool) → reads_term x e ≡ b → reads_terms x (apart_from local x (suc j) es) ≡ false → reads_terms x (apart_from local x j es) ≡ false → reads_terms x (if b then more (var (local j)) (apart_from local x (suc j) es) else more e (apart_from local x j es)) ≡ false
      go true f ih ih1 = ap (λ z. z || reads_terms x (apart_from local x (suc j) es)) (not_local inside local apart x j h) ∙ ih
      go false f ih ih1 = ap (λ z. z || reads_terms x (apart_from local x j es)) f ∙ ih1

  -- an assignment
  form_assign : (line : ℕ) (x : Var) (subs : Terms) (e : Term) → inside x ≡ true → IsKernelCode (lowered_assign local line x subs e)
  form_assign line x subs e h =
      let m = mentions x subs in let k = m + locals_in_target x subs in
      form_append (before_target local line x 0 m subs) _ (form_target line x 0 m subs) (form_append (before local line k e) _ (form_before line k e) ((not_mentioned x h 0 subs, reduces e k), tt))

  -- ---- a call

  -- what is set before actuals
  form_all : (line j : ℕ) (es : Terms) → IsKernelCode (before_all local line j es)
  form_all line j none = tt
  form_all line j (more e es) = form_append (before local line j e) _ (form_before line j e) (form_all line (j + locals_in e) es)

  -- subscripts that are held
  form_held : (line j : ℕ) (es : Terms) → IsKernelCode (before_held local line j es)
  form_held line j none = tt
  form_held line j (more e es) = form_append (set_local local line j (suc j) e) _ (form_set line j (suc j) e) (form_held line (suc (j + locals_in e)) es)

  -- what a passing needs: a reduced value, or an element of a variable inside
  abbrev IsGood : Passing → Type 0
  IsGood (stays y) = Unit {0}
  IsGood (put_back y subs) = inside y ≡ true
  IsGood (by_value e) = IsReduced e

  good : (w : Bool) (earlier : List Var) (i : ℕ) (e : Term) → TermInside inside e → IsGood (passing w earlier (reduced local i e))
  good w earlier i e h = go (sort Bool local i e)
    where
      by_name : (b : Bool) (y : Var) → IsGood (passing_name b y)
      by_name true y = tt
      by_name false y = tt

      by_element : (b : Bool) (y : Var) (subs : Terms) → inside y ≡ true → IsGood (passing_element b y subs)
      by_element true y subs g = g
      by_element false y subs g = tt

      go : Sort Bool local i e → IsGood (passing w earlier (reduced local i e))
      go (name y f) = subst (λ z. IsGood (passing w earlier (reduced local i z))) (sym f) (by_name (is_among y earlier) y)
      go (element y subs f) =
          subst (λ z. IsGood (passing w earlier (reduced local i z))) (sym f)
          (by_element w y subs (h y (ap (reads_term y) f ∙ or_first (var_eq y y) (reads_terms y subs) (var_refl y))))
      go (chosen l l1 l2 f is) = subst (λ z. IsGood (passing w earlier z)) (sym f) (by_name (is_among (local l) earlier) (local l))
      go (other f is) = subst IsGood (sym (f w earlier)) (reduces e i)

  -- what is set for one passing
  form_passing : (line j : ℕ) (p : Passing) → IsGood p → IsKernelCode (before_passing local line j p)
  form_passing line j (stays y) g = tt
  form_passing line j (put_back y subs) g = form_append (before_held local line j subs) _ (form_held line j subs) ((refl, tt), tt)
  form_passing line j (by_value e) g = ((refl, g), tt)

  held_apart_from : (x : Var) → inside x ≡ true → (j : ℕ) (es : Terms) → reads_terms x (held local j es) ≡ false
  held_apart_from x h j none = refl
  held_apart_from x h j (more e es) = ap (λ z. z || reads_terms x (held local (suc (j + locals_in e)) es)) (not_local inside local apart x j h) ∙ held_apart_from x h (suc (j + locals_in e)) es

  -- what puts it back
  form_after : (line j : ℕ) (p : Passing) → IsGood p → IsKernelCode (after_passing local line j p)
  form_after line j (stays y) g = tt
  form_after line j (put_back y subs) g = ((held_apart_from y g j subs, tt), tt)
  form_after line j (by_value e) g = tt

  form_passings : (line : ℕ) (es : Terms) (ws : List Bool) (earlier : List Var) (i j : ℕ) → TermsInside inside es → IsKernelCode (before_passing_all local line j ws earlier (reduced_all local i es))
  form_passings line none ws earlier i j h = tt
  form_passings line (more e es) ws earlier i j h =
      let p = passing (first_flag ws) earlier (reduced local i e) in
      form_append (before_passing local line j p) _ (form_passing line j p (good (first_flag ws) earlier i e (first_inside inside e es h)))
      (form_passings line es (other_flags ws) (passed local j p ∷ earlier) (i + locals_in e) (j + locals_passing p) (rest_inside inside e es h))

  form_afters : (line : ℕ) (es : Terms) (ws : List Bool) (earlier : List Var) (i j : ℕ) → TermsInside inside es → IsKernelCode (after_passing_all local line j ws earlier (reduced_all local i es))
  form_afters line none ws earlier i j h = tt
  form_afters line (more e es) ws earlier i j h =
      let p = passing (first_flag ws) earlier (reduced local i e) in
      form_append (after_passing local line j p) _ (form_after line j p (good (first_flag ws) earlier i e (first_inside inside e es h)))
      (form_afters line es (other_flags ws) (passed local j p ∷ earlier) (i + locals_in e) (j + locals_passing p) (rest_inside inside e es h))

  -- the name is no later local
  abbrev Early : ℕ → Passing → Type 0
  Early j p = (k : ℕ) → j + locals_passing p ≤ k → var_eq (passed local j p) (local k) ≡ false

  -- the names are distinct
  known : (w : Bool) (earlier : List Var) (i j : ℕ) (e : Term) → i + locals_in e ≤ j → TermInside inside e → (k : ℕ) → j + locals_passing (passing w earlier (reduced local i e)) ≤ k → var_eq (passed local j (passing w earlier (reduced local i e))) (local k) ≡ false
  known w earlier i j e le h = go (sort Bool local i e)
    where
      here : (l k : ℕ) → l < k → var_eq (local l) (local k) ≡ false
      here l k lt = other_local inside local apart l k (λ z. absurd (omega (arith, z, lt)))

      by_name : (b : Bool) (y : Var) → ((k : ℕ) → j ≤ k → var_eq y (local k) ≡ false) → Early j (passing_name b y)
      by_name true y f k l = here j k (omega (arith, l))
      by_name false y f k l = f k (omega (arith, l))

      by_element : (b : Bool) (y : Var) (subs : Terms) → Early j (passing_element b y subs)
      by_element true y subs k l = here (j + (length_of subs + locals_in_all subs)) k (omega (arith, l))
      by_element false y subs k l = here j k (omega (arith, l))

      go : Sort Bool local i e → Early j (passing w earlier (reduced local i e))
      go (name y f) = subst (λ z. Early j (passing w earlier (reduced local i z))) (sym f) (by_name (is_among y earlier) y (λ k l. not_local inside local apart y k (h y (ap (reads_term y) f ∙ var_refl y))))
      go (element y subs f) = subst (λ z. Early j (passing w earlier (reduced local i z))) (sym f) (by_element w y subs)
      go (chosen l l1 l2 f is) = subst (λ z. Early j (passing w earlier z)) (sym f) (by_name (is_among (local l) earlier) (local l) (λ k m. here l k (omega (arith, l2, le, m))))
      go (other f is) = subst (Early j) (sym (f w earlier)) (λ k l. here j k (omega (arith, l)))

  -- a name stands among the actuals where it stands among the names
  names_are : (x : Var) (es : Terms) (ws : List Bool) (earlier : List Var) (j : ℕ) → stands_whole x (all_passed local j ws earlier es) ≡ is_among x (names_passed local j ws earlier es)
  names_are x none ws earlier j = refl
  names_are x (more e es) ws earlier j =
      let p = passing (first_flag ws) earlier e in
      ap (λ z. var_eq x (passed local j p) || z) (names_are x es (other_flags ws) (passed local j p ∷ earlier) (j + locals_passing p))

  -- the names of a CALL are distinct
  distinct : (es : Terms) (ws : List Bool) (earlier : List Var) (i j : ℕ) → i + locals_in_all es ≤ j → TermsInside inside es → AreDistinctNames (all_passed local j ws earlier (reduced_all local i es))
  distinct none ws earlier i j le h = tt
  distinct (more e es) ws earlier i j le h =
      let p = passing (first_flag ws) earlier (reduced local i e) in
      let y = passed local j p in (
        names_are y (reduced_all local (i + locals_in e) es) (other_flags ws) (y ∷ earlier) (j + locals_passing p)
            ∙ not_again inside local apart y (reduced_all local (i + locals_in e) es) (other_flags ws) (y ∷ earlier) (j + locals_passing p) (or_first (var_eq y y) (is_among y earlier) (var_refl y)) (known (first_flag ws) earlier i j e (omega (arith, le)) (first_inside inside e es h)),
        distinct es (other_flags ws) (y ∷ earlier) (i + locals_in e) (j + locals_passing p) (omega (arith, le)) (rest_inside inside e es h),
      )

  -- a CALL
  form_call : (line : ℕ) (ws : List Bool) (unit : List ℕ) (args : Terms) → TermsInside inside args → IsKernelCode (lowered_call local line ws unit args)
  form_call line ws unit args h =
      let j = locals_in_all args in let es = reduced_all local 0 args in
      form_append (before_all local line 0 args) _ (form_all line 0 args)
      (form_append (before_passing_all local line j ws [] es) _ (form_passings line args ws [] 0 j h)
      (distinct args ws [] 0 j (omega arith) h, form_afters line args ws [] 0 j h))

  -- ---- lists

  -- a CALL of distinct names stays as it is
  no_statements : (line j : ℕ) (es : Terms) → AreDistinctNames es → before_all local line j es ≡ stop
  no_statements line j none h = refl
  no_statements line j (more (var x) es) h = no_statements line (j + 0) es h.1
  no_statements line j (more (lit z) es) h = absurd h
  no_statements line j (more (elem x subs) es) h = absurd h
  no_statements line j (more (neg a) es) h = absurd h
  no_statements line j (more (bin op a b) es) h = absurd h
  no_statements line j (more (pow a k) es) h = absurd h
  no_statements line j (more (power_of a b) es) h = absurd h
  no_statements line j (more (abs a) es) h = absurd h

  abbrev NamesStay : Terms → List Bool → List Var → ℕ → ℕ → ℕ → Type 0
  NamesStay es ws earlier i j line =
      (all_passed local j ws earlier (reduced_all local i es) ≡ es)
      × ((before_passing_all local line j ws earlier (reduced_all local i es) ≡ stop) × (after_passing_all local line j ws earlier (reduced_all local i es) ≡ stop))

  -- names that are distinct stay
  names_stay : (es : Terms) (ws : List Bool) (earlier : List Var) (i j line : ℕ) → AreDistinctNames es → ((x : Var) → stands_whole x es ≡ true → is_among x earlier ≡ false) → NamesStay es ws earlier i j line
  names_stay none ws earlier i j line h f = (refl, (refl, refl))
  names_stay (more (var x) es) ws earlier i j line h f = stays_by (is_among x earlier) (f x (or_first (var_eq x x) (stands_whole x es) (var_refl x))) (names_stay es (other_flags ws) (x ∷ earlier) (i + 0) (j + 0) line h.1 (λ y e. apart_of y e (var_eq y x) refl))
    where
      apart_of : (y : Var) → stands_whole y es ≡ true → (b : Bool) → var_eq y x ≡ b → (var_eq y x || is_among y earlier) ≡ false
      apart_of y e true g = absurd (let z : true ≡ false = sym e ∙ ap (λ v. stands_whole v es) (var_same y x g) ∙ h.0 in cc)
      apart_of y e false g = ap (λ z. z || is_among y earlier) g ∙ f y (or_second (var_eq y x) (stands_whole y es) e)

      stays_by : (b : Bool) → b ≡ false → NamesStay es (other_flags ws) (x ∷ earlier) (i + 0) (j + 0) line →
          (more (var (passed local j (passing_name b x))) (all_passed local (j + locals_passing (passing_name b x)) (other_flags ws) (passed local j (passing_name b x) ∷ earlier) (reduced_all local (i + 0) es)) ≡ more (var x) es)
          × ((before_passing local line j (passing_name b x) +++ before_passing_all local line (j + locals_passing (passing_name b x)) (other_flags ws) (passed local j (passing_name b x) ∷ earlier) (reduced_all local (i + 0) es) ≡ stop)
          × (after_passing local line j (passing_name b x) +++ after_passing_all local line (j + locals_passing (passing_name b x)) (other_flags ws) (passed local j (passing_name b x) ∷ earlier) (reduced_all local (i + 0) es) ≡ stop))
      stays_by true e k = absurd cc
      stays_by false e k = (ap (more (var x)) k.0, k.1)
  names_stay (more (lit z) es) ws earlier i j line h f = absurd h
  names_stay (more (elem x subs) es) ws earlier i j line h f = absurd h
  names_stay (more (neg a) es) ws earlier i j line h f = absurd h
  names_stay (more (bin op a b) es) ws earlier i j line h f = absurd h
  names_stay (more (pow a k) es) ws earlier i j line h f = absurd h
  names_stay (more (power_of a b) es) ws earlier i j line h f = absurd h
  names_stay (more (abs a) es) ws earlier i j line h f = absurd h

  -- a CALL of distinct names stays
  call_stays : (line : ℕ) (ws : List Bool) (unit : List ℕ) (args : Terms) → AreDistinctNames args → lowered_call local line ws unit args ≡ step line (call unit args) stop
  call_stays line ws unit args h =
      let k = names_stay args ws [] 0 (locals_in_all args) line h (λ x e. refl) in
      λ i. no_statements line 0 args h i +++ (k.1.0 i +++ step line (call unit (k.0 i)) (k.1.1 i))

  module _ (handed : Dummies) where
    -- one CALL of distinct names stays one CALL
    one_call_stays : (c : Code) → IsOneCall c → IsKernelCode c → IsOneCall (lowered local handed c)
    one_call_stays stop h k = absurd h
    one_call_stays (step line (call unit args) stop) h k = subst (λ z. IsOneCall (z +++ stop)) (sym (call_stays line (handed unit) unit args k.0)) tt
    one_call_stays (step line (call unit args) (step l a c)) h k = absurd h
    one_call_stays (step line (assign x subs e) c) h k = absurd h
    one_call_stays (step line (choose t a b) c) h k = absurd h
    one_call_stays (step line (loop x first last by body m) c) h k = absurd h
    one_call_stays (step line (during t body) c) h k = absurd h
    one_call_stays (step line (runtime r) c) h k = absurd h

    -- so does the body of a marked loop
    where_marked : (m : Mark) (c : Code) → WhereMarked m (IsOneCall c × IsKernelCode c) → WhereMarked m (IsOneCall (lowered local handed c))
    where_marked unmarked c h = tt
    where_marked (with_count m) c h = one_call_stays c h.0 h.1
    where_marked (count_from x) c h = one_call_stays c h.0 h.1

    mutual
      form_act : (P : List ℕ → Terms → Type 0) (line : ℕ) (a : Act) → ActInside inside a → EachCall' P a → IsSteppedAct a → IsKernelCode (lowered_act local handed line a)
      form_act P line (assign x subs e) h p s = form_assign line x subs e h.0
      form_act P line (choose c a b) h p s = ((form_code P a h.1.0 p.0 s.0, form_code P b h.1.1 p.1 s.1), tt)
      form_act P line (loop x first last by body m) h p s = ((where_marked m body s.0, form_code P body h.1.1 p s.1), tt)
      form_act P line (during c body) h p s = (form_code P body h.1 p s, tt)
      form_act P line (call unit args) h p s = form_call line (handed unit) unit args h
      form_act P line (runtime r) h p s = absurd p

      form_code : (P : List ℕ → Terms → Type 0) (c : Code) → CodeInside inside c → EachCall P c → IsStepped c → IsKernelCode (lowered local handed c)
      form_code P stop h p s = tt
      form_code P (step line a rest) h p s = form_append (lowered_act local handed line a) (lowered local handed rest) (form_act P line a h.0 p.0 s.0) (form_code P rest h.1 p.1 s.1)

-- the kernel of a program that fits, after the first step, is in kernel form
pub is_kernel : (units : List Procedure) → IsFit units → EachUnit (λ u. IsStepped u.body) units → IsKernel (lowered_program units)
is_kernel units fit stepped = each units fit.plains fit.calls stepped
  where
    each : (us : List Procedure) → EachUnit (λ u. PlainCode u.body) us → EachUnit (λ u. EachCall (IsFitCall units u) u.body) us → EachUnit (λ u. IsStepped u.body) us → EachUnit (λ u. IsKernelCode u.body) (map (lowered_unit units) us)
    each [] p c s = tt
    each (u ∷ us) p c s = (form_code (is_of u) (local_in units u) (unit_locals units u) (handed_back units) (IsFitCall units u) u.body (own_body u p.0) c.0 s.0, each us p.1 c.1 s.1)
