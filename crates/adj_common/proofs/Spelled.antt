-- The names that are gone through in a unit's text are its names by the definition.
use Rattle.std.proofs.Common.{◌≡◌, ℕ, List, [], ◌∷◌, ◌++◌, map, refl, sym, ap, ◌∙◌, append_assoc, Option, Some, None}
use Rattle.std.specs.Prelude.{◌||◌, flat_map}
use Rattle.adj_tree.specs.Code.{Var, plain, shadow, helper, Term, lit, var, elem, neg, bin, pow, power_of, abs, Terms, none, more, Test, compare, negation, conjunction, disjunction, Runtime, push_word, pop_word, push_array, pop_array, push_control, pop_control, zero_array, begin_reversal, count_actions, give_action, end_reversal, Mark, unmarked, with_count, count_from, Act, assign, choose, loop, during, call, runtime, Declaration}
use Rattle.def_meaning.specs.Apart.{has_name}
use Rattle.def_names.specs.Standing.{Standing, standing, scalar, count_of, in_place, in_term, in_terms, in_test, in_actual, in_actuals, in_runtime, in_mark, in_act}
use Rattle.def_names.specs.Statements.{At, statements}
use Rattle.def_names.specs.NameFaults.{extent_names}
use Rattle.def_names.specs.Variables.{Name, dummy_places, declared_places, statement_places, places, variables}
use Rattle.def_names.specs.VariableLists.{vars_in, vars_in_terms, vars_in_test, vars_in_mark}
use Rattle.def_names.proofs.Lists.{names_at, first_places-stand}
use Rattle.adj_tree.specs.Common.{Common, Shared}
use Rattle.def_common.specs.Members.{item_names, names_in}
use Rattle.adj_sets.proofs.NameSets.{has-behind}
use Rattle.adj_symbols_writes.specs.Names.{names_among}
use Rattle.adj_common.specs.Naming.{vars_in_runtime, vars_in_act, vars_of_names, vars_declared, vars_in_extents, vars_of_items, text_vars}

-- ---- names of variables

among_append : (xs ys : List Var) → names_among (xs ++ ys) ≡ names_among xs ++ names_among ys
among_append [] ys = refl
among_append (plain x ∷ xs) ys = ap (λ l. x ∷ l) (among_append xs ys)
among_append (shadow x ∷ xs) ys = among_append xs ys
among_append (helper r k ∷ xs) ys = among_append xs ys

among_plain : (xs : List (List ℕ)) → names_among (map plain xs) ≡ xs
among_plain [] = refl
among_plain (x ∷ xs) = ap (λ l. x ∷ l) (among_plain xs)

abbrev named : List Standing → List (List ℕ)
named l = map (λ n. n.name) l

named_append : (l k : List Standing) → named (l ++ k) ≡ named l ++ named k
named_append [] k = refl
named_append (n ∷ l) k = ap (λ z. n.name ∷ z) (named_append l k)

both : (xs ys : List Var) (l k : List Standing) → names_among xs ≡ named l → names_among ys ≡ named k → names_among (xs ++ ys) ≡ named (l ++ k)
both xs ys l k e f = among_append xs ys ∙ (λ i. e i ++ f i) ∙ sym (named_append l k)

one : (o : Option ℕ) (x : Var) → names_among (x ∷ []) ≡ named (standing o x)
one o (plain x) = refl
one o (shadow x) = refl
one o (helper r k) = refl

mutual
  in_one : (e : Term) → names_among (vars_in e) ≡ named (in_term e)
  in_one (lit z) = refl
  in_one (var x) = one (Some 0) x
  in_one (elem x subs) = both (x ∷ []) (vars_in_terms subs) (standing (Some (count_of subs)) x) (in_terms subs) (one (Some (count_of subs)) x) (in_some subs)
  in_one (neg a) = in_one a
  in_one (bin op a b) = both (vars_in a) (vars_in b) (in_term a) (in_term b) (in_one a) (in_one b)
  in_one (pow a k) = in_one a
  in_one (power_of a b) = both (vars_in a) (vars_in b) (in_term a) (in_term b) (in_one a) (in_one b)
  in_one (abs a) = in_one a

  in_some : (es : Terms) → names_among (vars_in_terms es) ≡ named (in_terms es)
  in_some none = refl
  in_some (more e es) = both (vars_in e) (vars_in_terms es) (in_term e) (in_terms es) (in_one e) (in_some es)

in_tests : (c : Test) → names_among (vars_in_test c) ≡ named (in_test c)
in_tests (compare r a b) = both (vars_in a) (vars_in b) (in_term a) (in_term b) (in_one a) (in_one b)
in_tests (negation c) = in_tests c
in_tests (conjunction c d) = both (vars_in_test c) (vars_in_test d) (in_test c) (in_test d) (in_tests c) (in_tests d)
in_tests (disjunction c d) = both (vars_in_test c) (vars_in_test d) (in_test c) (in_test d) (in_tests c) (in_tests d)

in_whole : (e : Term) → names_among (vars_in e) ≡ named (in_actual e)
in_whole (lit z) = refl
in_whole (var x) = one None x
in_whole (elem x subs) = in_one (elem x subs)
in_whole (neg a) = in_one (neg a)
in_whole (bin op a b) = in_one (bin op a b)
in_whole (pow a k) = in_one (pow a k)
in_whole (power_of a b) = in_one (power_of a b)
in_whole (abs a) = in_one (abs a)

in_all_actuals : (es : Terms) → names_among (vars_in_terms es) ≡ named (in_actuals es)
in_all_actuals none = refl
in_all_actuals (more e es) = both (vars_in e) (vars_in_terms es) (in_actual e) (in_actuals es) (in_whole e) (in_all_actuals es)

in_places : (x : Var) (subs : Terms) → names_among (x ∷ vars_in_terms subs) ≡ named (in_place x subs)
in_places x subs = both (x ∷ []) (vars_in_terms subs) (standing (Some (count_of subs)) x) (in_terms subs) (one (Some (count_of subs)) x) (in_some subs)

in_runtimes : (r : Runtime) → names_among (vars_in_runtime r) ≡ named (in_runtime r)
in_runtimes (push_word x subs) = in_places x subs
in_runtimes (pop_word x subs) = in_places x subs
in_runtimes (push_array x) = one None x
in_runtimes (pop_array x) = one None x
in_runtimes (push_control e) = in_one e
in_runtimes (pop_control x) = one (Some 0) x
in_runtimes (zero_array x) = one None x
in_runtimes (begin_reversal l s) = both (vars_in l) (vars_in s) (in_term l) (in_term s) (in_one l) (in_one s)
in_runtimes (count_actions l s n) = both (vars_in l) (vars_in s ++ n ∷ []) (in_term l) (in_term s ++ scalar n) (in_one l) (both (vars_in s) (n ∷ []) (in_term s) (scalar n) (in_one s) (one (Some 0) n))
in_runtimes (give_action l s k a f t) =
    both (vars_in l) (vars_in s ++ (vars_in k ++ (a ∷ f ∷ t ∷ []))) (in_term l) (in_term s ++ (in_term k ++ (scalar a ++ (scalar f ++ scalar t)))) (in_one l)
    (both (vars_in s) (vars_in k ++ (a ∷ f ∷ t ∷ [])) (in_term s) (in_term k ++ (scalar a ++ (scalar f ++ scalar t))) (in_one s)
    (both (vars_in k) (a ∷ f ∷ t ∷ []) (in_term k) (scalar a ++ (scalar f ++ scalar t)) (in_one k)
    (both (a ∷ []) (f ∷ t ∷ []) (scalar a) (scalar f ++ scalar t) (one (Some 0) a) (both (f ∷ []) (t ∷ []) (scalar f) (scalar t) (one (Some 0) f) (one (Some 0) t)))))
in_runtimes end_reversal = refl

in_marks : (m : Mark) → names_among (vars_in_mark m) ≡ named (in_mark m)
in_marks unmarked = refl
in_marks (with_count n) = refl
in_marks (count_from x) = one (Some 0) x

in_acts : (a : Act) → names_among (vars_in_act a) ≡ named (in_act a)
in_acts (assign x subs e) =
    ap names_among (sym (append_assoc (x ∷ []) (vars_in_terms subs) (vars_in e)))
    ∙ both (x ∷ vars_in_terms subs) (vars_in e) (in_place x subs) (in_term e) (in_places x subs) (in_one e)
in_acts (choose c a b) = in_tests c
in_acts (loop x first last by body m) =
    both (vars_in_mark m) (x ∷ (vars_in first ++ (vars_in last ++ vars_in by))) (in_mark m) (scalar x ++ (in_term first ++ (in_term last ++ in_term by))) (in_marks m)
    (both (x ∷ []) (vars_in first ++ (vars_in last ++ vars_in by)) (scalar x) (in_term first ++ (in_term last ++ in_term by)) (one (Some 0) x)
    (both (vars_in first) (vars_in last ++ vars_in by) (in_term first) (in_term last ++ in_term by) (in_one first)
    (both (vars_in last) (vars_in by) (in_term last) (in_term by) (in_one last) (in_one by))))
in_acts (during c body) = in_tests c
in_acts (call name args) = in_all_actuals args
in_acts (runtime r) = in_runtimes r

-- ---- a text

at_append : (l k : List (At Name)) → names_at (l ++ k) ≡ names_at l ++ names_at k
at_append [] k = refl
at_append (p ∷ l) k = ap (λ z. p.1 ∷ z) (at_append l k)

dummies_at : (line : ℕ) (ds : List (List ℕ)) → names_among (vars_of_names ds) ≡ names_at (map (λ d. (line, d)) ds)
dummies_at line [] = refl
dummies_at line (d ∷ ds) = ap (λ z. d ∷ z) (dummies_at line ds)

declared_at : (ds : List Declaration) → names_among (vars_declared ds) ≡ names_at (map (λ (d : Declaration). (d.line, d.name)) ds)
declared_at [] = refl
declared_at (d ∷ ds) = ap (λ z. d.name ∷ z) (declared_at ds)

declared_names : (ds : List Declaration) → names_among (vars_declared ds) ≡ map (λ (d : Declaration). d.name) ds
declared_names [] = refl
declared_names (d ∷ ds) = ap (λ z. d.name ∷ z) (declared_names ds)

standing_at : (line : ℕ) (l : List Standing) → named l ≡ names_at (map (λ (n : Standing). (line, n.name)) l)
standing_at line [] = refl
standing_at line (n ∷ l) = ap (λ z. n.name ∷ z) (standing_at line l)

statements_at : (ss : List (At Act)) → names_among (flat_map (λ (t : At Act). vars_in_act t.1) ss) ≡ names_at (flat_map (λ (s : At Act). map (λ (n : Standing). (s.0, n.name)) (in_act s.1)) ss)
statements_at [] = refl
statements_at (s ∷ ss) =
    among_append (vars_in_act s.1) (flat_map (λ (t : At Act). vars_in_act t.1) ss)
    ∙ (λ i. (in_acts s.1 ∙ standing_at s.0 (in_act s.1)) i ++ statements_at ss i)
    ∙ sym (at_append (map (λ (n : Standing). (s.0, n.name)) (in_act s.1)) (flat_map (λ (s : At Act). map (λ (n : Standing). (s.0, n.name)) (in_act s.1)) ss))

items_are : (cs : List Common) → names_among (vars_of_items cs) ≡ item_names cs
items_are [] = refl
items_are (c ∷ cs) = among_append (vars_declared c.items) (vars_of_items cs) ∙ (λ i. declared_names c.items i ++ items_are cs i)

extents_are : (ds : List Declaration) → names_among (vars_in_extents ds) ≡ flat_map (λ (d : Declaration). extent_names d.extents) ds
extents_are [] = refl
extents_are (d ∷ ds) = among_append (map plain (extent_names d.extents)) (vars_in_extents ds) ∙ (λ i. among_plain (extent_names d.extents) i ++ extents_are ds i)

module _ (s : Shared) where
  all_at : names_among (text_vars s) ≡ names_at (places s.unit) ++ (item_names s.commons ++ flat_map (λ (d : Declaration). extent_names d.extents) s.unit.declarations)
  all_at =
      let u = s.unit in
      let rest = vars_of_items s.commons ++ vars_in_extents u.declarations in
      let stmts = flat_map (λ (t : At Act). vars_in_act t.1) (statements u.body) in
      let ends = item_names s.commons ++ flat_map (λ (d : Declaration). extent_names d.extents) u.declarations in
      among_append (vars_of_names u.dummies) (vars_declared u.declarations ++ (stmts ++ rest))
      ∙ ap (λ l. names_among (vars_of_names u.dummies) ++ l) (among_append (vars_declared u.declarations) (stmts ++ rest) ∙ ap (λ l. names_among (vars_declared u.declarations) ++ l) (among_append stmts rest ∙ ap (λ l. names_among stmts ++ l) (among_append (vars_of_items s.commons) (vars_in_extents u.declarations) ∙ (λ i. items_are s.commons i ++ extents_are u.declarations i))))
      ∙ (λ i. dummies_at u.line u.dummies i ++ (declared_at u.declarations i ++ (statements_at (statements u.body) i ++ ends)))
      ∙ ap (λ l. names_at (dummy_places u) ++ l) (sym (append_assoc (names_at (declared_places u)) (names_at (statement_places u)) ends) ∙ ap (λ l. l ++ ends) (sym (at_append (declared_places u) (statement_places u))))
      ∙ sym (append_assoc (names_at (dummy_places u)) (names_at (declared_places u ++ statement_places u)) ends)
      ∙ ap (λ l. l ++ ends) (sym (at_append (dummy_places u) (declared_places u ++ statement_places u)))

  -- they are the names in the unit
  pub spelled : (z : List ℕ) → has_name z (names_among (text_vars s)) ≡ has_name z (names_in s)
  spelled z =
      let ends = item_names s.commons ++ flat_map (λ (d : Declaration). extent_names d.extents) s.unit.declarations in
      ap (has_name z) all_at ∙ has-behind z (names_at (places s.unit)) ends
      ∙ ap (λ b. b || has_name z ends) (sym (first_places-stand z (places s.unit)))
      ∙ sym (has-behind z (variables s.unit) ends)
