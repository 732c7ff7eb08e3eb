-- The variables of each unit of a written program hold its dummies and what stands in its statements.
use Rattle.std.proofs.Common.{◌≡◌, ◌⊎◌, inl, inr, ℕ, suc, ◌+◌, List, [], ◌∷◌, ◌++◌, Bool, true, false, map, refl, sym, ap, ◌∙◌, subst, arith}
use Rattle.std.specs.Prelude.{Contains, Option, Some, None, slice_index_or, ◌||◌}
use Rattle.std.proofs.lemmas.List.{map-append}
use Rattle.std.proofs.lemmas.List.Elements.{All-contains, Contains-append_left, Contains-append_right, Contains-append_cases}
use Rattle.adj_tree.specs.Code.{Var, plain, shadow, helper, name_eq, Term, lit, var, elem, neg, bin, pow, power_of, abs, Terms, none, more, Test, compare, negation, conjunction, disjunction, Mark, unmarked, with_count, count_from, Act, assign, choose, loop, during, call, runtime, Code, stop, step, Procedure}
use Rattle.adj_tree.proofs.Names.{name_same, name_refl}
use Rattle.def_text.specs.Written.{IsVariable, IsIndexed, IsWrittenTerm, AreWrittenTerms, IsWrittenTest, IsPlace, IsWrittenMark, IsWrittenAct, IsWrittenCode, IsWrittenProcedure}
use Rattle.def_meaning.specs.Apart.{has_name}
use Rattle.def_names.specs.Standing as names
use Rattle.def_names.specs.Statements.{At, inner, statements}
use Rattle.def_names.specs.Variables.{places, dummy_places, declared_places, statement_places, variables}
use Rattle.def_names.proofs.Lists.{first_places-stand}
use Rattle.def_names.specs.Numbers.{next, behind}
use Rattle.def_flow.specs.Parts.{Part, part, parts, parts_from}
use Rattle.def_names.specs.StatementsIn.{statements_in}
use Rattle.def_flow.specs.Standing.{Place, part_of, body_of, Standing, outermost, held_in, standing}
use Rattle.def_names.specs.VariableLists.{vars_in, vars_in_terms, vars_in_test, vars_in_mark, standing_in}
use Rattle.adj_reach.proofs.Members.{is_first, is_later, is_among, is_none, is_only, map_has, map_only, flat_has}
use Rattle.adj_flow.specs.Scoped.{HoldVariables}
use Rattle.adj_activity.specs.Laws.{VariablesHold}

-- ---- names in a statement

abbrev named : List names.Standing → List (List ℕ)
named ns = map (λ n. n.name) ns

-- the variable is one of the text, whose name stands at one of the places
abbrev StandsIn : List names.Standing → Var → Type 0
StandsIn ns v = (x : List ℕ) × (v ≡ plain x) × Contains (named ns) x

first_stands : (ns ms : List names.Standing) (v : Var) → StandsIn ns v → StandsIn (ns ++ ms) v
first_stands ns ms v h = (h.0, h.1, subst (λ z. Contains z h.0) (sym (map-append (λ (n : names.Standing). n.name) ns ms)) (Contains-append_left (named ns) (named ms) h.0 h.2))

second_stands : (ns ms : List names.Standing) (v : Var) → StandsIn ms v → StandsIn (ns ++ ms) v
second_stands ns ms v h = (h.0, h.1, subst (λ z. Contains z h.0) (sym (map-append (λ (n : names.Standing). n.name) ns ms)) (Contains-append_right (named ns) (named ms) h.0 h.2))

either_stands : (ns ms : List names.Standing) (xs ys : List Var) (v : Var) → Contains (xs ++ ys) v → (Contains xs v → StandsIn ns v) → (Contains ys v → StandsIn ms v) → StandsIn (ns ++ ms) v
either_stands ns ms xs ys v c f g = go (Contains-append_cases xs ys v c)
  where
    go : Contains xs v ⊎ Contains ys v → StandsIn (ns ++ ms) v
    go (inl d) = first_stands ns ms v (f d)
    go (inr d) = second_stands ns ms v (g d)

own_stands : (n : Option ℕ) (x : Var) → IsVariable x → StandsIn (names.standing n x) x
own_stands n (plain x) h = (x, refl, is_first x x [] refl)
own_stands n (shadow x) h = absurd h
own_stands n (helper r k) h = absurd h

only_stands : (n : Option ℕ) (x v : Var) → IsVariable x → Contains (x ∷ []) v → StandsIn (names.standing n x) v
only_stands n x v h c = subst (λ z. StandsIn (names.standing n x) z) (is_only v x c) (own_stands n x h)

indexed_is : (x : Var) → IsIndexed x → IsVariable x
indexed_is (plain x) h = h.0
indexed_is (shadow x) h = absurd h
indexed_is (helper r k) h = absurd h

mutual
  term_stands : (e : Term) → IsWrittenTerm e → (v : Var) → Contains (vars_in e) v → StandsIn (names.in_term e) v
  term_stands (lit z) w v c = absurd (is_none v c)
  term_stands (var x) w v c = only_stands (Some 0) x v w c
  term_stands (elem x s) w v c = either_stands (names.standing (Some (names.count_of s)) x) (names.in_terms s) (x ∷ []) (vars_in_terms s) v c (only_stands (Some (names.count_of s)) x v (indexed_is x w.0)) (λ d. terms_stand s w.2 v d)
  term_stands (neg a) w v c = term_stands a w v c
  term_stands (bin op a b) w v c = either_stands (names.in_term a) (names.in_term b) (vars_in a) (vars_in b) v c (λ d. term_stands a w.0 v d) (λ d. term_stands b w.1 v d)
  term_stands (pow a k) w v c = term_stands a w.0 v c
  term_stands (power_of a b) w v c = either_stands (names.in_term a) (names.in_term b) (vars_in a) (vars_in b) v c (λ d. term_stands a w.0 v d) (λ d. term_stands b w.1 v d)
  term_stands (abs a) w v c = term_stands a w v c

  terms_stand : (es : Terms) → AreWrittenTerms es → (v : Var) → Contains (vars_in_terms es) v → StandsIn (names.in_terms es) v
  terms_stand none w v c = absurd (is_none v c)
  terms_stand (more e es) w v c = either_stands (names.in_term e) (names.in_terms es) (vars_in e) (vars_in_terms es) v c (λ d. term_stands e w.0 v d) (λ d. terms_stand es w.1 v d)

test_stands : (t : Test) → IsWrittenTest t → (v : Var) → Contains (vars_in_test t) v → StandsIn (names.in_test t) v
test_stands (compare r a b) w v c = either_stands (names.in_term a) (names.in_term b) (vars_in a) (vars_in b) v c (term_stands a w.0 v) (term_stands b w.1 v)
test_stands (negation t) w v c = test_stands t w v c
test_stands (conjunction t u) w v c = either_stands (names.in_test t) (names.in_test u) (vars_in_test t) (vars_in_test u) v c (λ d. test_stands t w.0 v d) (λ d. test_stands u w.1 v d)
test_stands (disjunction t u) w v c = either_stands (names.in_test t) (names.in_test u) (vars_in_test t) (vars_in_test u) v c (λ d. test_stands t w.0 v d) (λ d. test_stands u w.1 v d)

mark_stands : (m : Mark) → IsWrittenMark m → (v : Var) → Contains (vars_in_mark m) v → StandsIn (names.in_mark m) v
mark_stands unmarked w v c = absurd (is_none v c)
mark_stands (with_count n) w v c = absurd (is_none v c)
mark_stands (count_from x) w v c = only_stands (Some 0) x v w c

actual_stands : (e : Term) → IsWrittenTerm e → (v : Var) → Contains (vars_in e) v → StandsIn (names.in_actual e) v
actual_stands (lit z) w v c = term_stands (lit z) w v c
actual_stands (var x) w v c = only_stands None x v w c
actual_stands (elem x s) w v c = term_stands (elem x s) w v c
actual_stands (neg a) w v c = term_stands (neg a) w v c
actual_stands (bin op a b) w v c = term_stands (bin op a b) w v c
actual_stands (pow a k) w v c = term_stands (pow a k) w v c
actual_stands (power_of a b) w v c = term_stands (power_of a b) w v c
actual_stands (abs a) w v c = term_stands (abs a) w v c

actuals_stand : (es : Terms) → AreWrittenTerms es → (v : Var) → Contains (vars_in_terms es) v → StandsIn (names.in_actuals es) v
actuals_stand none w v c = absurd (is_none v c)
actuals_stand (more e es) w v c = either_stands (names.in_actual e) (names.in_actuals es) (vars_in e) (vars_in_terms es) v c (actual_stands e w.0 v) (λ d. actuals_stand es w.1 v d)

place_stands : (x : Var) (s : Terms) → IsPlace x s → (v : Var) → Contains (x ∷ vars_in_terms s) v → StandsIn (names.in_place x s) v
place_stands x none w v c = either_stands (names.standing (Some 0) x) [] (x ∷ []) [] v c (only_stands (Some 0) x v w) (λ d. absurd (is_none v d))
place_stands x (more e es) w v c =
    either_stands (names.standing (Some (names.count_of (more e es))) x) (names.in_terms (more e es)) (x ∷ []) (vars_in_terms (more e es)) v c (only_stands (Some (names.count_of (more e es))) x v w.0) (terms_stand (more e es) w.2 v)

act_stands : (a : Act) → IsWrittenAct a → (v : Var) → Contains (standing_in a) v → StandsIn (names.in_act a) v
act_stands (assign x s e) w v c = either_stands (names.in_place x s) (names.in_term e) (x ∷ vars_in_terms s) (vars_in e) v c (place_stands x s w.0 v) (term_stands e w.1 v)
act_stands (choose t a b) w v c = test_stands t w.0 v c
act_stands (loop x p q r body m) w v c = go (is_among v x (vars_in p ++ (vars_in q ++ (vars_in r ++ vars_in_mark m))) c)
  where
    inside : List names.Standing
    inside = names.in_term p ++ (names.in_term q ++ names.in_term r)

    bounds : StandsIn inside v → StandsIn (names.in_act (loop x p q r body m)) v
    bounds h = second_stands (names.in_mark m) (names.scalar x ++ inside) v (second_stands (names.scalar x) inside v h)

    last : Contains (vars_in r) v ⊎ Contains (vars_in_mark m) v → StandsIn (names.in_act (loop x p q r body m)) v
    last (inl d) = bounds (second_stands (names.in_term p) (names.in_term q ++ names.in_term r) v (second_stands (names.in_term q) (names.in_term r) v (term_stands r w.3 v d)))
    last (inr d) = first_stands (names.in_mark m) (names.scalar x ++ inside) v (mark_stands m w.5 v d)

    middle : Contains (vars_in q) v ⊎ Contains (vars_in r ++ vars_in_mark m) v → StandsIn (names.in_act (loop x p q r body m)) v
    middle (inl d) = bounds (second_stands (names.in_term p) (names.in_term q ++ names.in_term r) v (first_stands (names.in_term q) (names.in_term r) v (term_stands q w.2 v d)))
    middle (inr d) = last (Contains-append_cases (vars_in r) (vars_in_mark m) v d)

    start : Contains (vars_in p) v ⊎ Contains (vars_in q ++ (vars_in r ++ vars_in_mark m)) v → StandsIn (names.in_act (loop x p q r body m)) v
    start (inl d) = bounds (first_stands (names.in_term p) (names.in_term q ++ names.in_term r) v (term_stands p w.1 v d))
    start (inr d) = middle (Contains-append_cases (vars_in q) (vars_in r ++ vars_in_mark m) v d)

    go : (x ≡ v) ⊎ Contains (vars_in p ++ (vars_in q ++ (vars_in r ++ vars_in_mark m))) v → StandsIn (names.in_act (loop x p q r body m)) v
    go (inl e) = second_stands (names.in_mark m) (names.scalar x ++ inside) v (first_stands (names.scalar x) inside v (subst (λ z. StandsIn (names.scalar x) z) e (own_stands (Some 0) x w.0)))
    go (inr d) = start (Contains-append_cases (vars_in p) (vars_in q ++ (vars_in r ++ vars_in_mark m)) v d)
act_stands (during t body) w v c = test_stands t w.0 v c
act_stands (call name args) w v c = actuals_stand args w.1 v c
act_stands (runtime r) w v c = absurd (is_none v c)

-- ---- statements

abbrev acts : List (At Act) → List Act
acts ns = map (λ p. p.1) ns

-- a statement that stands is in the list, and written
abbrev IsIn : List (At Act) → Act → Type 0
IsIn ns a = Contains (acts ns) a × IsWrittenAct a

either_in : (xs ys : List Standing) (ns ms : List (At Act)) (s : Standing) → Contains (xs ++ ys) s → (Contains xs s → IsIn ns s.act) → (Contains ys s → IsIn ms s.act) → IsIn (ns ++ ms) s.act
either_in xs ys ns ms s c f g = go (Contains-append_cases xs ys s c)
  where
    joined : acts (ns ++ ms) ≡ acts ns ++ acts ms
    joined = map-append (λ (p : At Act). p.1) ns ms

    go : Contains xs s ⊎ Contains ys s → IsIn (ns ++ ms) s.act
    go (inl d) = (subst (λ z. Contains z s.act) (sym joined) (Contains-append_left (acts ns) (acts ms) s.act (f d).0), (f d).1)
    go (inr d) = (subst (λ z. Contains z s.act) (sym joined) (Contains-append_right (acts ns) (acts ms) s.act (g d).0), (g d).1)

own_in : (i : ℕ) (at : Place) (line : ℕ) (a : Act) (s : Standing) → IsWrittenAct a → Contains (record { number = i; place = at; act = a } ∷ []) s → IsIn ((line, a) ∷ []) s.act
own_in i at line a s w c = let e : a ≡ s.act = ap (λ (z : Standing). z.act) (is_only s (record { number = i; place = at; act = a }) c) in subst (λ z. IsIn ((line, a) ∷ []) z) e (is_first a a [] refl, w)

mutual
  held_listed : (i : ℕ) (a : Act) (s : Standing) → IsWrittenAct a → Contains (held_in i a) s → IsIn (inner a) s.act
  held_listed i (assign x subs e) s w c = absurd (is_none s c)
  held_listed i (choose q a b) s w c =
      either_in (standing (part_of i) (suc i) a) (standing (part_of i) (behind (suc i) a) b) (statements a) (statements b) s c (λ d. list_listed (part_of i) (suc i) a s w.1 d) (λ d. list_listed (part_of i) (behind (suc i) a) b s w.2 d)
  held_listed i (loop x first last by body m) s w c = list_listed (body_of i x m) (suc i) body s w.4 c
  held_listed i (during q body) s w c = list_listed (part_of i) (suc i) body s w.1 c
  held_listed i (call name args) s w c = absurd (is_none s c)
  held_listed i (runtime r) s w c = absurd (is_none s c)

  list_listed : (at : Place) (i : ℕ) (c : Code) (s : Standing) → IsWrittenCode c → Contains (standing at i c) s → IsIn (statements c) s.act
  list_listed at i stop s w m = absurd (is_none s m)
  list_listed at i (step line a rest) s w m =
      either_in (record { number = i; place = at; act = a } ∷ []) (held_in i a ++ standing at (next i a) rest) ((line, a) ∷ []) (inner a ++ statements rest) s m (own_in i at line a s w.0)
      (λ d. either_in (held_in i a) (standing at (next i a) rest) (inner a) (statements rest) s d (λ e. held_listed i a s w.0 e) (λ e. list_listed at (next i a) rest s w.1 e))

-- ---- the variables of a unit

has_it : (x : List ℕ) (xs : List (List ℕ)) → Contains xs x → has_name x xs ≡ true
has_it x [] c = absurd (is_none x c)
has_it x (y ∷ ys) c = go (is_among x y ys c) (has_it x ys)
  where
    or_true : (b : Bool) → (b || true) ≡ true
    or_true true = refl
    or_true false = refl

    go : (y ≡ x) ⊎ Contains ys x → (Contains ys x → has_name x ys ≡ true) → (name_eq x y || has_name x ys) ≡ true
    go (inl e) r = ap (λ z. name_eq x z || has_name x ys) e ∙ ap (λ b. b || has_name x ys) (name_refl x)
    go (inr d) r = ap (λ b. name_eq x y || b) (r d) ∙ or_true (name_eq x y)

it_is : (x : List ℕ) (xs : List (List ℕ)) → has_name x xs ≡ true → Contains xs x
it_is x [] h = absurd (let e : false ≡ true = h in cc)
it_is x (y ∷ ys) h = go (name_eq x y) refl h (it_is x ys)
  where
    go : (b : Bool) → name_eq x y ≡ b → (b || has_name x ys) ≡ true → (has_name x ys ≡ true → Contains ys x) → Contains (y ∷ ys) x
    go true e k r = is_first x y ys (sym (name_same x y e))
    go false e k r = is_later x y ys (r k)

-- a name at a place is a variable
place_known : (u : Procedure) (p : At (List ℕ)) → Contains (places u) p → Contains (variables u) p.1
place_known u p c = it_is p.1 (variables u) (first_places-stand p.1 (places u) ∙ has_it p.1 (map (λ (q : At (List ℕ)). q.1) (places u)) (map_has (λ (q : At (List ℕ)). q.1) (places u) p c))

dummy_known : (u : Procedure) (d : List ℕ) → Contains u.dummies d → Contains (variables u) d
dummy_known u d c = place_known u (u.line, d) (Contains-append_left (dummy_places u) (declared_places u ++ statement_places u) (u.line, d) (map_has (λ (x : List ℕ). (u.line, x)) u.dummies d c))

act_known : (u : Procedure) (a : Act) (x : List ℕ) → Contains (acts (statements u.body)) a → Contains (named (names.in_act a)) x → Contains (variables u) x
act_known u a x c n =
    let q = map_only (λ (p : At Act). p.1) (statements u.body) a c in
    let m = map_only (λ (z : names.Standing). z.name) (names.in_act a) x n in
    let k : Contains (names.in_act q.0.1) m.0 = subst (λ z. Contains (names.in_act z) m.0) (sym q.2) m.1 in
    let s : Contains (statement_places u) (q.0.0, m.0.name) = flat_has (λ (z : At Act). map (λ (w : names.Standing). (z.0, w.name)) (names.in_act z.1)) (statements u.body) q.0 (q.0.0, m.0.name) q.1 (map_has (λ (w : names.Standing). (q.0.0, w.name)) (names.in_act q.0.1) m.0 k) in
    subst (λ z. Contains (variables u) z) m.2
    (place_known u (q.0.0, m.0.name) (Contains-append_right (dummy_places u) (declared_places u ++ statement_places u) (q.0.0, m.0.name) (Contains-append_right (declared_places u) (statement_places u) (q.0.0, m.0.name) s)))

-- ---- all units

-- what stands at the number of a unit
at_number : (f : Procedure → List (List ℕ)) (t u i : ℕ) (ps : List Procedure) (g : Part) → Contains (parts_from t u i ps) g → (j : ℕ) × (g.number ≡ u + j) × (slice_index_or (map f ps) j [] ≡ f g.unit) × Contains ps g.unit
at_number f t u i [] g c = absurd (is_none g c)
at_number f t u i (p ∷ ps) g c = go (is_among g (part t u i p) (parts_from t (suc u) (behind i p.body) ps) c) (at_number f t (suc u) (behind i p.body) ps g)
  where
    go : (part t u i p ≡ g) ⊎ Contains (parts_from t (suc u) (behind i p.body) ps) g →
        (Contains (parts_from t (suc u) (behind i p.body) ps) g → (j : ℕ) × (g.number ≡ suc u + j) × (slice_index_or (map f ps) j [] ≡ f g.unit) × Contains ps g.unit) →
        (j : ℕ) × (g.number ≡ u + j) × (slice_index_or (map f (p ∷ ps)) j [] ≡ f g.unit) × Contains (p ∷ ps) g.unit
    go (inl e) r =
        let n : u ≡ g.number = ap (λ (z : Part). z.number) e in
        let q : p ≡ g.unit = ap (λ (z : Part). z.unit) e in
        (0, omega arith, ap f q, is_first g.unit p ps q)
    go (inr d) r = let o = r d in let h = o.1 in (suc o.0, omega arith, o.2, is_later g.unit p ps o.3)

pub numbered_variables : (ps : List Procedure) (g : Part) → Contains (parts ps) g → slice_index_or (map variables ps) g.number [] ≡ variables g.unit
numbered_variables ps g c =
    let o = at_number variables (statements_in 0 ps) 0 0 ps g c in
    let h = o.1 in
    let e : g.number ≡ o.0 = omega arith in
    ap (λ j. slice_index_or (map variables ps) j []) e ∙ o.2

hold_each : (ps : List Procedure) → ((u : Procedure) → Contains ps u → IsWrittenProcedure u) → HoldVariables (map variables ps) ps
hold_each ps w = record {
  dummies = λ g c d m. subst (λ z. Contains z d) (sym (numbered_variables ps g c)) (dummy_known g.unit d m);
  standing = λ g c s m v k.
      let u = (at_number variables (statements_in 0 ps) 0 0 ps g c).3 in
      let l = list_listed outermost g.first g.unit.body s (w g.unit u).body m in
      let x = act_stands s.act l.1 v k in
      subst (λ z. Contains (map plain (slice_index_or (map variables ps) g.number [])) z) (sym x.1)
      (map_has plain (slice_index_or (map variables ps) g.number []) x.0 (subst (λ z. Contains z x.0) (sym (numbered_variables ps g c)) (act_known g.unit s.act x.0 l.0 x.2)));
}

pub written_hold : VariablesHold
written_hold ps w = hold_each ps (λ u c. All-contains IsWrittenProcedure ps u w c)
