-- The marks of exact analyses have the shadows that they use.
use Rattle.std.proofs.Common.{◌≡◌, ◌⊎◌, inl, inr, ℕ, suc, ◌<◌, ◌≤◌, true, List, [], ◌∷◌, ◌++◌, refl, sym, ap, ◌∙◌, subst, arith}
use Rattle.std.specs.Prelude.{Contains, Some}
use Rattle.std.proofs.lemmas.List.Elements.{Contains-append_left, Contains-append_right, Contains-append_cases}
use Rattle.adj_tree.specs.Code.{plain, Terms, Act, assign, choose, loop, during, call, runtime, Code, stop, step, Procedure}
use Rattle.def_meaning.specs.Written.{find_unit}
use Rattle.def_text.specs.Written.{IsWrittenAct, IsWrittenCode}
use Rattle.def_names.specs.Statements.{inner, statements}
use Rattle.def_kernel.specs.Form.{IsKernelAct, IsKernelCode}
use Rattle.def_sweep.specs.Facts.{In}
use Rattle.def_names.specs.Numbers.{Vars, next, behind}
use Rattle.def_names.proofs.Variables.{and_true}
use Rattle.def_sweep.specs.Plan.{names_of, actuals_named}
use Rattle.def_sweep.specs.Marking.{ProgramMarks, first_statement, place_from, callee_of, plan_in}
use Rattle.law_emitted.proofs.Lists.{Each, each_found, each_front, each_behind}
use Rattle.law_emitted.proofs.Callings.{Found}
use Rattle.law_emitted.proofs.Texts.{actuals_given}
use Rattle.law_emitted.proofs.Premises.{found, all_calls, written, kernel}
use Rattle.law_emitted.proofs.Statements.{CallHasNone, call_of_unit}
use Rattle.law_emitted.specs.Shadowed.{AreCarried, HasShadows', HasShadows, AllHaveShadows}
use Rattle.law_emitted.proofs.Actuals.{named_back}
use Rattle.adj_reach.specs.Reached.{begins, leads}
use Rattle.def_flow.specs.Parts.{Part, part, parts_from, parts}
use Rattle.def_names.specs.StatementsIn.{statements_in}
use Rattle.def_flow.specs.Standing.{Place, outermost, part_of, body_of, Standing, held_in, standing}
use Rattle.def_flow.specs.Problem.{Problem, statements_of, CallsUnit, TakesPart, bound}
use Rattle.def_flow.specs.Activity as activity
use Rattle.def_flow.specs.Activity.{Activity, IsActivity}
use Rattle.law_flow.proofs.Active.{adjoints_at}
use Rattle.def_flow.proofs.Holders.{holder_of}
use Rattle.adj_reach.proofs.Members.{is_first, is_later, is_among, is_none}
use Rattle.def_flow.proofs.Numbers.{found_part, part_is_there}
use Rattle.law_analysed.proofs.Meets.{some_same}
use Rattle.law_analysed.proofs.Numbers.{has_part, placed}
use Rattle.law_analysed.specs.Lending.{ExactHaveShadows}

-- ---- numbers of statements

mutual
  next_above : (i : ℕ) (a : Act) → suc i ≤ next i a
  next_above i (assign x subs e) = omega arith
  next_above i (choose c a b) = omega (arith, behind_above (suc i) a, behind_above (behind (suc i) a) b)
  next_above i (loop x first last by body m) = behind_above (suc i) body
  next_above i (during c body) = behind_above (suc i) body
  next_above i (call name args) = omega arith
  next_above i (runtime r) = omega arith

  behind_above : (i : ℕ) (c : Code) → i ≤ behind i c
  behind_above i stop = omega arith
  behind_above i (step line a rest) = omega (arith, next_above i a, behind_above (next i a) rest)

-- the numbers of the statements in one, and in a list
abbrev Between : ℕ → ℕ → ℕ → Type 0
Between i j n = (i ≤ n) × (n < j)

mutual
  held_between : (i : ℕ) (a : Act) (s : Standing) → Contains (held_in i a) s → Between (suc i) (next i a) s.number
  held_between i (assign x subs e) s c = absurd (is_none s c)
  held_between i (choose t a b) s c =
      go (Contains-append_cases (standing (part_of i) (suc i) a) (standing (part_of i) (behind (suc i) a) b) s c) (list_between (part_of i) (suc i) a s) (list_between (part_of i) (behind (suc i) a) b s)
    where
      go : Contains (standing (part_of i) (suc i) a) s ⊎ Contains (standing (part_of i) (behind (suc i) a) b) s → (Contains (standing (part_of i) (suc i) a) s → Between (suc i) (behind (suc i) a) s.number) →
          (Contains (standing (part_of i) (behind (suc i) a) b) s → Between (behind (suc i) a) (behind (behind (suc i) a) b) s.number) → Between (suc i) (behind (behind (suc i) a) b) s.number
      go (inl d) f h = let r = f d in (r.0, omega (arith, r.1, behind_above (behind (suc i) a) b))
      go (inr d) f h = let r = h d in (omega (arith, r.0, behind_above (suc i) a), r.1)
  held_between i (loop x first last by body m) s c = list_between (body_of i x m) (suc i) body s c
  held_between i (during t body) s c = list_between (part_of i) (suc i) body s c
  held_between i (call name args) s c = absurd (is_none s c)
  held_between i (runtime r) s c = absurd (is_none s c)

  list_between : (at : Place) (i : ℕ) (l : Code) (s : Standing) → Contains (standing at i l) s → Between i (behind i l) s.number
  list_between at i stop s c = absurd (is_none s c)
  list_between at i (step line a rest) s c =
      let self : Standing = record { number = i; place = at; act = a } in
      first self refl (is_among s self (held_in i a ++ standing at (next i a) rest) c) (held_between i a s) (list_between at (next i a) rest s)
    where
      others : Contains (held_in i a) s ⊎ Contains (standing at (next i a) rest) s → (Contains (held_in i a) s → Between (suc i) (next i a) s.number) → (Contains (standing at (next i a) rest) s → Between (next i a) (behind (next i a) rest) s.number) →
          Between i (behind (next i a) rest) s.number
      others (inl d) f h = let r = f d in (omega (arith, r.0), omega (arith, r.1, behind_above (next i a) rest))
      others (inr d) f h = let r = h d in (omega (arith, r.0, next_above i a), r.1)

      first : (self : Standing) → self.number ≡ i → (self ≡ s) ⊎ Contains (held_in i a ++ standing at (next i a) rest) s → (Contains (held_in i a) s → Between (suc i) (next i a) s.number) → (Contains (standing at (next i a) rest) s → Between (next i a) (behind (next i a) rest) s.number) →
          Between i (behind (next i a) rest) s.number
      first self is (inl e) f h = let n : i ≡ s.number = sym is ∙ ap (λ (z : Standing). z.number) e in (omega arith, omega (arith, next_above i a, behind_above (next i a) rest))
      first self is (inr d) f h = others (Contains-append_cases (held_in i a) (standing at (next i a) rest) s d) f h

-- ---- a number belongs to one unit

abbrev HasNumber : Part → ℕ → Type 0
HasNumber g n = Between g.first (behind g.first g.unit.body) n

first_above : (t u i : ℕ) (ps : List Procedure) (g : Part) → Contains (parts_from t u i ps) g → i ≤ g.first
first_above t u i [] g c = absurd (is_none g c)
first_above t u i (p ∷ ps) g c = go (is_among g (part t u i p) (parts_from t (suc u) (behind i p.body) ps) c) (first_above t (suc u) (behind i p.body) ps g)
  where
    go : (part t u i p ≡ g) ⊎ Contains (parts_from t (suc u) (behind i p.body) ps) g → (Contains (parts_from t (suc u) (behind i p.body) ps) g → behind i p.body ≤ g.first) → i ≤ g.first
    go (inl e) r = let f : i ≡ g.first = ap (λ (z : Part). z.first) e in omega arith
    go (inr d) r = omega (arith, r d, behind_above i p.body)

one_part : (t u i : ℕ) (ps : List Procedure) (f g : Part) (n : ℕ) → Contains (parts_from t u i ps) f → Contains (parts_from t u i ps) g → HasNumber f n → HasNumber g n → f ≡ g
one_part t u i [] f g n c d h k = absurd (is_none f c)
one_part t u i (p ∷ ps) f g n c d h k = go (is_among f (part t u i p) (parts_from t (suc u) (behind i p.body) ps) c) (is_among g (part t u i p) (parts_from t (suc u) (behind i p.body) ps) d) (λ a b. one_part t (suc u) (behind i p.body) ps f g n a b h k)
  where
    -- the first unit and one behind it
    apart : (v w : Part) → part t u i p ≡ v → Contains (parts_from t (suc u) (behind i p.body) ps) w → HasNumber v n → HasNumber w n → ⊥
    apart v w e c h k =
        let own : HasNumber (part t u i p) n = subst (λ z. HasNumber z n) (sym e) h in
        omega (arith, own.1, k.0, first_above t (suc u) (behind i p.body) ps w c)

    go : (part t u i p ≡ f) ⊎ Contains (parts_from t (suc u) (behind i p.body) ps) f → (part t u i p ≡ g) ⊎ Contains (parts_from t (suc u) (behind i p.body) ps) g → (Contains (parts_from t (suc u) (behind i p.body) ps) f → Contains (parts_from t (suc u) (behind i p.body) ps) g → f ≡ g) → f ≡ g
    go (inl a) (inl b) r = sym a ∙ b
    go (inl a) (inr b) r = absurd (apart f g a b h k)
    go (inr a) (inl b) r = absurd (apart g f b a k h)
    go (inr a) (inr b) r = r a b

-- ---- what the actuals of a call have

carried : (sh own : Vars) (ds given : List (List ℕ)) → ((d b : List ℕ) → Contains (bound ds (actuals_named given)) (d, plain b) → In (plain d) sh → In (plain b) own) → AreCarried sh own ds given
carried sh own [] given f = tt
carried sh own (d ∷ ds) [] f = tt
carried sh own (d ∷ ds) (b ∷ given) f = (
  f d b (is_first (d, plain b) (d, plain b) (bound ds (actuals_named given)) refl),
  carried sh own ds given (λ e c k. f e c (is_later (e, plain c) (d, plain b) (bound ds (actuals_named given)) k)),
)

-- the unit that a call is of, and the names that it gives
record Given (ps : List Procedure) (name : List ℕ) (args : Terms) : Type 0 where
  unit : Procedure
  found : find_unit ps name ≡ Some unit
  given : List (List ℕ)
  named : args ≡ actuals_named given

module _ (k : Problem) (a : Activity) (y : IsActivity k a) where
  -- ---- a unit takes part that has an adjointed statement

  stands : (n : ℕ) → activity.Adjointed k a (activity.statement n) → (g : Part) × TakesPart k g × (s : Standing) × Contains (statements_of g) s × (s.number ≡ n)
  stands n (begins (activity.assignment {g = g} {s = s} p c e h)) = (g, p, s, c, refl)
  stands n (begins (activity.reset {g = g} {s = s} p c e h)) = (g, p, s, c, refl)
  stands n (leads r (activity.held {g = g} {s = s} p c h)) = let b = holder_of g s n c h in (g, p, b.0, b.1, b.2)
  stands n (leads r (activity.called {f = f} {t = t} p c)) = (f, p, t, c.stands, refl)

  takes : (g : Part) → Contains (parts k.units) g → (s : Standing) → Contains (statements_of g) s → a.adjointed s.number ≡ true → TakesPart k g
  takes g there s c h =
      let o = stands s.number ((y.adjointed s.number).0 h) in
      let within : HasNumber o.0 s.number = subst (HasNumber o.0) o.4 (list_between outermost (o.0).first (o.0).unit.body o.2 o.3) in
      let same : o.0 ≡ g = one_part (statements_in 0 k.units) 0 0 k.units o.0 g s.number (part_is_there k o.0 o.1) there within (list_between outermost g.first g.unit.body s c) in
      subst (TakesPart k) same o.1

  -- ---- the statements of a unit

  module _ (m : ProgramMarks) (adjoints : m.adjointed ≡ a.adjointed) (shadows : (name : List ℕ) → m.shadowed name ≡ a.shadowed (place_from 0 k.units name))
      (u : Procedure) (g : Part) (there : Contains (parts k.units) g) (number : g.number ≡ place_from 0 k.units u.name) where
    same : a.shadowed g.number ≡ m.shadowed u.name
    same = ap a.shadowed number ∙ sym (shadows u.name)

    given_shadows : (s : Standing) → Contains (statements_of g) s → a.adjointed s.number ≡ true → (name : List ℕ) (args : Terms) → s.act ≡ call name args → (c : Given k.units name args) → AreCarried (m.shadowed name) (m.shadowed u.name) c.unit.dummies c.given
    given_shadows s stand h name args act c =
        let q = has_part (statements_in 0 k.units) 0 0 k.units name c.unit c.found in
        let p = placed k.units name q.0 q.1 in
        let unit : q.0.unit ≡ c.unit = some_same q.0.unit c.unit (sym p.found ∙ c.found) in
        let calls : CallsUnit k g q.0 s args = record { name = name; stands = stand; act = act; finds = q.1 } in
        let callee : a.shadowed q.0.number ≡ m.shadowed name = ap a.shadowed p.number ∙ sym (shadows name) in
        carried (m.shadowed name) (m.shadowed u.name) c.unit.dummies c.given (λ d b h' sh.
        let pair : Contains (bound q.0.unit.dummies args) (d, plain b) = subst (λ (v : Procedure). Contains (bound v.dummies args) (d, plain b)) (sym unit) (subst (λ es. Contains (bound c.unit.dummies es) (d, plain b)) (sym c.named) h') in
        let lent = leads ((y.shadowed q.0.number (plain d)).0 (subst (In (plain d)) (sym callee) sh)) (activity.handed (takes g there s stand h) calls pair) in
        subst (In (plain b)) same ((y.shadowed g.number (plain b)).1 lent))

    mutual
      act_has : (at : Place) (i line : ℕ) (x : Act) → (let s : Standing = record { number = i; place = at; act = x } in Contains (statements_of g) s) → ((s : Standing) → Contains (held_in i x) s → Contains (statements_of g) s) → IsWrittenAct x → IsKernelAct x → CallHasNone k.units u (line, x) → Each (CallHasNone k.units u) (inner x) → HasShadows' (plan_in m k.units u) i x
      act_has at i line (assign x subs e) c inside w f n ns =
          λ h. let own : a.adjointed i ≡ true = ap (λ f. f i) (sym adjoints) ∙ h in
          let s : Standing = record { number = i; place = at; act = assign x subs e } in
          let test = sym (adjoints_at k a y g (takes g there s c own) i at x subs e c) ∙ own in
          subst (In x) same (and_true (a.shadowed g.number x) _ test).0
      act_has at i line (choose t b d) c inside w f n ns =
          let one = standing (part_of i) (suc i) b in
          let other = standing (part_of i) (behind (suc i) b) d in
          (list_has (part_of i) (suc i) b (λ s e. inside s (Contains-append_left one other s e)) w.1 f.0 (each_front (CallHasNone k.units u) (statements b) (statements d) ns), list_has (part_of i) (behind (suc i) b) d (λ s e. inside s (Contains-append_right one other s e)) w.2 f.1 (each_behind (CallHasNone k.units u) (statements b) (statements d) ns))
      act_has at i line (loop x first last by body mark) c inside w f n ns = list_has (body_of i x mark) (suc i) body inside w.4 f.1 ns
      act_has at i line (during t body) c inside w f n ns = list_has (part_of i) (suc i) body inside w.1 f ns
      act_has at i line (call name args) c inside w f n ns =
          λ h. let own : a.adjointed i ≡ true = ap (λ f. f i) (sym adjoints) ∙ h in
          let s : Standing = record { number = i; place = at; act = call name args } in
          let unit = call_of_unit k.units u line name args n in
          let actuals = actuals_given args f w.1 in
          let p : Given k.units name args = record { unit = unit.unit; found = unit.found; given = actuals.0; named = actuals.1 } in
          let carries = given_shadows s c own name args refl p in
          let names : names_of args ≡ p.given = ap names_of p.named ∙ named_back p.given in
          subst (λ o. let q = callee_of m k.units name o in AreCarried q.shadowed (m.shadowed u.name) q.dummies (names_of args)) (sym p.found)
          (subst (AreCarried (m.shadowed name) (m.shadowed u.name) p.unit.dummies) (sym names) carries)
      act_has at i line (runtime r) c inside w f n ns = tt

      list_has : (at : Place) (i : ℕ) (l : Code) → ((s : Standing) → Contains (standing at i l) s → Contains (statements_of g) s) → IsWrittenCode l → IsKernelCode l → Each (CallHasNone k.units u) (statements l) → HasShadows (plan_in m k.units u) i l
      list_has at i stop inside w f ns = tt
      list_has at i (step line x rest) inside w f ns =
          let self : Standing = record { number = i; place = at; act = x } in
          let held = held_in i x in
          let later = standing at (next i x) rest in (
            act_has at i line x (inside self (is_first self self (held ++ later) refl)) (λ s c. inside s (is_later s self (held ++ later) (Contains-append_left held later s c))) w.0 f.0 ns.0 (each_front (CallHasNone k.units u) (inner x) (statements rest) ns.1),
            list_has at (next i x) rest (λ s c. inside s (is_later s self (held ++ later) (Contains-append_right held later s c))) w.1 f.1 (each_behind (CallHasNone k.units u) (inner x) (statements rest) ns.1),
          )

-- ---- all units

pub exact_shadows : ExactHaveShadows
exact_shadows rules k checked a y m adjoints shadows = go k.units (found rules k.units checked)
  where
    unit_has : (u : Procedure) → find_unit k.units u.name ≡ Some u → HasShadows (plan_in m k.units u) (first_statement k.units u.name) u.body
    unit_has u f =
        let g = has_part (statements_in 0 k.units) 0 0 k.units u.name u f in
        let p = placed k.units u.name g.0 g.1 in
        let unit : g.0.unit ≡ u = some_same g.0.unit u (sym p.found ∙ f) in
        let text = written rules k.units checked u.name u f in
        let calls = each_found (λ u. Each (CallHasNone k.units u) (statements u.body)) k.units (all_calls rules k.units checked) u.name u f in
        let own = list_has k a y m adjoints shadows u g.0 (found_part (parts k.units) u.name g.0 g.1) p.number outermost g.0.first g.0.unit.body (λ s c. c)
        (subst (λ (v : Procedure). IsWrittenCode v.body) (sym unit) text.body) (subst (λ (v : Procedure). IsKernelCode v.body) (sym unit) (kernel rules k.units checked u.name u f)) (subst (λ (v : Procedure). Each (CallHasNone k.units u) (statements v.body)) (sym unit) calls) in
        subst (λ (v : Procedure). HasShadows (plan_in m k.units u) (first_statement k.units u.name) v.body) unit (subst (λ i. HasShadows (plan_in m k.units u) i g.0.unit.body) p.first own)

    go : (us : List Procedure) → Each (Found k.units) us → AllHaveShadows m k.units us
    go [] h = tt
    go (u ∷ us) h = (unit_has u h.0.0, go us h.1)
