-- The variables of a unit are the same list by both notions: each name once, where it first stands.
use Rattle.std.proofs.Common.{◌≡◌, ℕ, Bool, true, false, List, [], ◌∷◌, ◌++◌, map, refl, sym, ap, ◌∙◌}
use Rattle.std.proofs.lemmas.List.{append_assoc, append-nil, map-append}
use Rattle.std.specs.Prelude.{◌||◌, not, filter, flat_map, Option, Some, if◌then◌else◌}
use Rattle.adj_tree.specs.Code.{Var, plain, shadow, helper, name_eq, Term, lit, var, elem, neg, bin, pow, power_of, abs, Terms, none, more, Test, compare, negation, conjunction, disjunction, Runtime, push_word, pop_word, push_array, pop_array, push_control, pop_control, zero_array, begin_reversal, count_actions, give_action, end_reversal, Mark, unmarked, with_count, count_from, Act, assign, choose, loop, during, call, runtime, Code, stop, step, Declaration, Procedure}
use Rattle.adj_tree.proofs.Names.{name_refl, name_same}
use Rattle.def_names.specs.Statements.{At, inner, statements}
use Rattle.def_names.specs.Standing.{Standing, standing, in_term, in_terms, in_place, in_test, in_actual, in_actuals, in_runtime, in_mark, in_act}
use Rattle.def_names.specs.Variables.{Name, dummy_places, declared_places, statement_places, places, first_places, variables}
use Rattle.def_meaning.specs.Apart.{has_name}
use Rattle.def_kernel.specs.Kernel.{named, names_in, names_in_all, names_in_test, names_in_runtime, names_in_mark, names_in_act, names_in_code, declared_names, names_of}
use Rattle.def_kernel.specs.Stepped.{once_each, variables_of}

-- ---- names where they stand

-- the names of standings
abbrev pub names_standing : List Standing → List Name
names_standing ns = map (λ n. n.name) ns

-- of one variable
standing_one : (n : Option ℕ) (x : Var) → names_standing (standing n x) ≡ named x
standing_one n (plain x) = refl
standing_one n (shadow x) = refl
standing_one n (helper r k) = refl

-- of two parts
two : (ms ns : List Standing) (xs ys : List Name) → names_standing ms ≡ xs → names_standing ns ≡ ys → names_standing (ms ++ ns) ≡ xs ++ ys
two ms ns xs ys e f = map-append (λ n. n.name) ms ns ∙ ap (λ z. z ++ names_standing ns) e ∙ ap (λ z. xs ++ z) f

mutual
  standing_term : (e : Term) → names_standing (in_term e) ≡ names_in e
  standing_term (lit z) = refl
  standing_term (var x) = standing_one _ x
  standing_term (elem x subs) = two (standing _ x) (in_terms subs) (named x) (names_in_all subs) (standing_one _ x) (standing_terms subs)
  standing_term (neg a) = standing_term a
  standing_term (bin op a b) = two (in_term a) (in_term b) (names_in a) (names_in b) (standing_term a) (standing_term b)
  standing_term (pow a k) = standing_term a
  standing_term (power_of a b) = two (in_term a) (in_term b) (names_in a) (names_in b) (standing_term a) (standing_term b)
  standing_term (abs a) = standing_term a

  -- in several expressions
  standing_terms : (es : Terms) → names_standing (in_terms es) ≡ names_in_all es
  standing_terms none = refl
  standing_terms (more e es) = two (in_term e) (in_terms es) (names_in e) (names_in_all es) (standing_term e) (standing_terms es)

-- in a condition
standing_test : (c : Test) → names_standing (in_test c) ≡ names_in_test c
standing_test (compare r a b) = two (in_term a) (in_term b) (names_in a) (names_in b) (standing_term a) (standing_term b)
standing_test (negation c) = standing_test c
standing_test (conjunction c d) = two (in_test c) (in_test d) (names_in_test c) (names_in_test d) (standing_test c) (standing_test d)
standing_test (disjunction c d) = two (in_test c) (in_test d) (names_in_test c) (names_in_test d) (standing_test c) (standing_test d)

-- in an actual
standing_actual : (e : Term) → names_standing (in_actual e) ≡ names_in e
standing_actual (var x) = standing_one _ x
standing_actual (lit z) = refl
standing_actual (elem x subs) = standing_term (elem x subs)
standing_actual (neg a) = standing_term (neg a)
standing_actual (bin op a b) = standing_term (bin op a b)
standing_actual (pow a k) = standing_term (pow a k)
standing_actual (power_of a b) = standing_term (power_of a b)
standing_actual (abs a) = standing_term (abs a)

-- in all actuals
standing_actuals : (es : Terms) → names_standing (in_actuals es) ≡ names_in_all es
standing_actuals none = refl
standing_actuals (more e es) = two (in_actual e) (in_actuals es) (names_in e) (names_in_all es) (standing_actual e) (standing_actuals es)

-- in a place
standing_place : (x : Var) (subs : Terms) → names_standing (in_place x subs) ≡ named x ++ names_in_all subs
standing_place x subs = two (standing _ x) (in_terms subs) (named x) (names_in_all subs) (standing_one _ x) (standing_terms subs)

-- in a runtime call
standing_runtime : (r : Runtime) → names_standing (in_runtime r) ≡ names_in_runtime r
standing_runtime (push_word x subs) = standing_place x subs
standing_runtime (pop_word x subs) = standing_place x subs
standing_runtime (push_array x) = standing_one _ x
standing_runtime (pop_array x) = standing_one _ x
standing_runtime (push_control e) = standing_term e
standing_runtime (pop_control x) = standing_one _ x
standing_runtime (zero_array x) = standing_one _ x
standing_runtime (begin_reversal l s) = two (in_term l) (in_term s) (names_in l) (names_in s) (standing_term l) (standing_term s)
standing_runtime (count_actions l s n) = two (in_term l) (in_term s ++ standing _ n) (names_in l) (names_in s ++ named n) (standing_term l) (two (in_term s) (standing _ n) (names_in s) (named n) (standing_term s) (standing_one _ n))
standing_runtime (give_action l s k a f t) =
    two (in_term l) (in_term s ++ (in_term k ++ (standing _ a ++ (standing _ f ++ standing _ t)))) (names_in l) (names_in s ++ (names_in k ++ (named a ++ (named f ++ named t)))) (standing_term l)
    (two (in_term s) (in_term k ++ (standing _ a ++ (standing _ f ++ standing _ t))) (names_in s) (names_in k ++ (named a ++ (named f ++ named t))) (standing_term s)
    (two (in_term k) (standing _ a ++ (standing _ f ++ standing _ t)) (names_in k) (named a ++ (named f ++ named t)) (standing_term k)
    (two (standing _ a) (standing _ f ++ standing _ t) (named a) (named f ++ named t) (standing_one _ a) (two (standing _ f) (standing _ t) (named f) (named t) (standing_one _ f) (standing_one _ t)))))
standing_runtime end_reversal = refl

-- in a mark
standing_mark : (m : Mark) → names_standing (in_mark m) ≡ names_in_mark m
standing_mark unmarked = refl
standing_mark (with_count n) = refl
standing_mark (count_from x) = standing_one _ x

-- in the head of a DO
in_loop : (m : Mark) (x : Var) (first last by : Term) → names_standing (in_mark m ++ (standing (Some 0) x ++ (in_term first ++ (in_term last ++ in_term by)))) ≡ names_in_mark m ++ (named x ++ (names_in first ++ (names_in last ++ names_in by)))
in_loop m x first last by =
    two (in_mark m) (standing (Some 0) x ++ (in_term first ++ (in_term last ++ in_term by))) (names_in_mark m) (named x ++ (names_in first ++ (names_in last ++ names_in by))) (standing_mark m)
    (two (standing (Some 0) x) (in_term first ++ (in_term last ++ in_term by)) (named x) (names_in first ++ (names_in last ++ names_in by)) (standing_one _ x)
    (two (in_term first) (in_term last ++ in_term by) (names_in first) (names_in last ++ names_in by) (standing_term first) (two (in_term last) (in_term by) (names_in last) (names_in by) (standing_term last) (standing_term by))))

-- ---- names in statements

-- the names in some statements, those in them left aside
abbrev pub stated : List (At Act) → List Name
stated [] = []
stated (s ∷ ss) = names_standing (in_act s.1) ++ stated ss

-- in two lists of statements
stated-append : (ss ts : List (At Act)) → stated (ss ++ ts) ≡ stated ss ++ stated ts
stated-append [] ts = refl
stated-append (s ∷ ss) ts = ap (λ z. names_standing (in_act s.1) ++ z) (stated-append ss ts) ∙ sym (append_assoc (names_standing (in_act s.1)) (stated ss) (stated ts))

mutual
  stated_act : (a : Act) → names_standing (in_act a) ++ stated (inner a) ≡ names_in_act a
  stated_act (assign x subs e) = append-nil (names_standing (in_place x subs ++ in_term e)) ∙ two (in_place x subs) (in_term e) (named x ++ names_in_all subs) (names_in e) (standing_place x subs) (standing_term e) ∙ append_assoc (named x) (names_in_all subs) (names_in e)
  stated_act (choose c a b) = ap (λ z. z ++ stated (statements a ++ statements b)) (standing_test c) ∙ ap (λ z. names_in_test c ++ z) (stated-append (statements a) (statements b) ∙ ap (λ z. z ++ stated (statements b)) (stated_code a) ∙ ap (λ z. names_in_code a ++ z) (stated_code b))
  stated_act (loop x first last by body m) =
      ap (λ z. z ++ stated (statements body)) (in_loop m x first last by)
      ∙ ap (λ z. (names_in_mark m ++ (named x ++ (names_in first ++ (names_in last ++ names_in by)))) ++ z) (stated_code body)
      ∙ append_assoc (names_in_mark m) (named x ++ (names_in first ++ (names_in last ++ names_in by))) (names_in_code body)
      ∙ ap (λ z. names_in_mark m ++ z) (append_assoc (named x) (names_in first ++ (names_in last ++ names_in by)) (names_in_code body))
      ∙ ap (λ z. names_in_mark m ++ (named x ++ z)) (append_assoc (names_in first) (names_in last ++ names_in by) (names_in_code body))
      ∙ ap (λ z. names_in_mark m ++ (named x ++ (names_in first ++ z))) (append_assoc (names_in last) (names_in by) (names_in_code body))
  stated_act (during c body) = ap (λ z. z ++ stated (statements body)) (standing_test c) ∙ ap (λ z. names_in_test c ++ z) (stated_code body)
  stated_act (call name args) = append-nil (names_standing (in_actuals args)) ∙ standing_actuals args
  stated_act (runtime r) = append-nil (names_standing (in_runtime r)) ∙ standing_runtime r

  -- in a list
  pub stated_code : (c : Code) → stated (statements c) ≡ names_in_code c
  stated_code stop = refl
  stated_code (step line a rest) =
      ap (λ z. names_standing (in_act a) ++ z) (stated-append (inner a) (statements rest))
      ∙ sym (append_assoc (names_standing (in_act a)) (stated (inner a)) (stated (statements rest)))
      ∙ ap (λ z. z ++ stated (statements rest)) (stated_act a)
      ∙ ap (λ z. names_in_act a ++ z) (stated_code rest)

-- ---- names at places

-- of two lists of places
names_at-append : (ps qs : List (At Name)) → map (λ p. p.1) (ps ++ qs) ≡ map (λ p. p.1) ps ++ map (λ p. p.1) qs
names_at-append ps qs = map-append (λ p. p.1) ps qs

-- at one line
at_line : (line : ℕ) (ns : List Standing) → map (λ (p : At Name). p.1) (map (λ n. (line, n.name)) ns) ≡ names_standing ns
at_line line [] = refl
at_line line (n ∷ ns) = ap (λ z. n.name ∷ z) (at_line line ns)

-- of dummies
pub at_dummies : (line : ℕ) (ds : List Name) → map (λ (p : At Name). p.1) (map (λ d. (line, d)) ds) ≡ ds
at_dummies line [] = refl
at_dummies line (d ∷ ds) = ap (λ z. d ∷ z) (at_dummies line ds)

-- of declarations
at_declared : (ds : List Declaration) → map (λ (p : At Name). p.1) (map (λ d. (d.line, d.name)) ds) ≡ declared_names ds
at_declared [] = refl
at_declared (d ∷ ds) = ap (λ z. d.name ∷ z) (at_declared ds)

-- of statements
at_statements : (ss : List (At Act)) → map (λ (p : At Name). p.1) (flat_map (λ s. map (λ n. (s.0, n.name)) (in_act s.1)) ss) ≡ stated ss
at_statements [] = refl
at_statements (s ∷ ss) =
    names_at-append (map (λ n. (s.0, n.name)) (in_act s.1)) (flat_map (λ s. map (λ n. (s.0, n.name)) (in_act s.1)) ss)
    ∙ ap (λ z. z ++ map (λ (p : At Name). p.1) (flat_map (λ s. map (λ n. (s.0, n.name)) (in_act s.1)) ss)) (at_line s.0 (in_act s.1))
    ∙ ap (λ z. names_standing (in_act s.1) ++ z) (at_statements ss)

-- the names of a unit at their places
pub names_placed : (u : Procedure) → map (λ p. p.1) (places u) ≡ names_of u
names_placed u =
    names_at-append (dummy_places u) (declared_places u ++ statement_places u)
    ∙ ap (λ z. z ++ map (λ p. p.1) (declared_places u ++ statement_places u)) (at_dummies u.line u.dummies)
    ∙ ap (λ z. u.dummies ++ z)
    (names_at-append (declared_places u) (statement_places u)
    ∙ ap (λ z. z ++ map (λ p. p.1) (statement_places u)) (at_declared u.declarations)
    ∙ ap (λ z. declared_names u.declarations ++ z) (at_statements (statements u.body) ∙ stated_code u.body))

-- ---- each name once

-- those that aren't among some
abbrev others : List Name → List (At Name) → List (At Name)
others before ps = filter (λ q. not (has_name q.1 before)) ps

-- those of other names
abbrev but : Name → List (At Name) → List (At Name)
but x ps = filter (λ q. not (name_eq x q.1)) ps

-- names are the same both ways
turned : (x y : Name) → name_eq x y ≡ name_eq y x
turned x y = go (name_eq x y) (name_eq y x) refl refl
  where
    go : (a b : Bool) → name_eq x y ≡ a → name_eq y x ≡ b → name_eq x y ≡ name_eq y x
    go true b e f = ap (λ z. name_eq z y) (name_same x y e) ∙ name_refl y ∙ sym (ap (λ z. name_eq y z) (name_same x y e) ∙ name_refl y)
    go false true e f = ap (λ z. name_eq x z) (name_same y x f) ∙ name_refl x ∙ sym (ap (λ z. name_eq z x) (name_same y x f) ∙ name_refl x)
    go false false e f = e ∙ sym f

-- a name that stood before is left out with those that stood
but_before : (x : Name) (before : List Name) (ps : List (At Name)) → has_name x before ≡ true → others before (but x ps) ≡ others before ps
but_before x before [] h = refl
but_before x before (q ∷ ps) h = go (name_eq x q.1) refl (but_before x before ps h)
  where
    go : (b : Bool) → name_eq x q.1 ≡ b → others before (but x ps) ≡ others before ps → others before (if not b then q ∷ but x ps else but x ps) ≡ others before (q ∷ ps)
    go true e ih = ih ∙ sym (ap (λ c. if not c then q ∷ others before ps else others before ps) (ap (λ z. has_name z before) (sym (name_same x q.1 e)) ∙ h))
    go false e ih = ap (λ z. if not (has_name q.1 before) then q ∷ z else z) ih

-- those that aren't among some and one more
but_more : (x : Name) (before : List Name) (ps : List (At Name)) → others before (but x ps) ≡ others (x ∷ before) ps
but_more x before [] = refl
but_more x before (q ∷ ps) = go (name_eq x q.1) refl (but_more x before ps)
  where
    go : (b : Bool) → name_eq x q.1 ≡ b → others before (but x ps) ≡ others (x ∷ before) ps → others before (if not b then q ∷ but x ps else but x ps) ≡ others (x ∷ before) (q ∷ ps)
    go true e ih = ih ∙ sym (ap (λ c. if not (c || has_name q.1 before) then q ∷ others (x ∷ before) ps else others (x ∷ before) ps) (turned q.1 x ∙ e))
    go false e ih =
        ap (λ z. if not (has_name q.1 before) then q ∷ z else z) ih
        ∙ sym (ap (λ c. if not (c || has_name q.1 before) then q ∷ others (x ∷ before) ps else others (x ∷ before) ps) (turned q.1 x ∙ e))

-- each name that isn't among some is listed once
once_others : (before : List Name) (ps : List (At Name)) → once_each before (map (λ p. p.1) ps) ≡ map (λ p. p.1) (others before (first_places ps))
once_others before [] = refl
once_others before (p ∷ ps) = go (has_name p.1 before) refl (once_others before ps) (once_others (p.1 ∷ before) ps)
  where
    go : (b : Bool) → has_name p.1 before ≡ b → once_each before (map (λ q. q.1) ps) ≡ map (λ q. q.1) (others before (first_places ps)) → once_each (p.1 ∷ before) (map (λ q. q.1) ps) ≡ map (λ q. q.1) (others (p.1 ∷ before) (first_places ps)) →
        (if b then once_each before (map (λ q. q.1) ps) else p.1 ∷ once_each (p.1 ∷ before) (map (λ q. q.1) ps)) ≡ map (λ q. q.1) (if not b then p ∷ others before (but p.1 (first_places ps)) else others before (but p.1 (first_places ps)))
    go true e ih more_ih = ih ∙ ap (map (λ q. q.1)) (sym (but_before p.1 before (first_places ps) e))
    go false e ih more_ih = ap (λ z. p.1 ∷ z) (more_ih ∙ ap (map (λ q. q.1)) (sym (but_more p.1 before (first_places ps))))

-- all names are none of no names
all_others : (ps : List (At Name)) → others [] ps ≡ ps
all_others [] = refl
all_others (p ∷ ps) = ap (λ z. p ∷ z) (all_others ps)

pub one_notion : (u : Procedure) → variables_of u ≡ variables u
one_notion u = ap (once_each []) (sym (names_placed u)) ∙ once_others [] (places u) ∙ ap (map (λ p. p.1)) (all_others (first_places (places u)))
