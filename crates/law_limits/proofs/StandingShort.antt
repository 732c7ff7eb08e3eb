-- A unit passes the test on names where its name and those of its dummies, its variables, its extents and the units that it calls are short; and then they are.
use Rattle.std.proofs.Common.{◌≡◌, ◌≤◌, ℕ, Bool, true, List, [], ◌∷◌, ◌++◌, length, refl}
use Rattle.std.specs.Prelude.{◌&&◌, Option, Some, None}
use Rattle.std.specs.List.{list_all}
use Rattle.std.proofs.lemmas.Bool.{le-leb, leb-true, and_from, and_parts}
use Rattle.adj_tree.specs.Code.{Var, plain, shadow, helper, Term, lit, var, elem, neg, bin, pow, power_of, abs, Terms, none, more, Test, compare, negation, conjunction, disjunction, Runtime, push_word, pop_word, push_array, pop_array, push_control, pop_control, zero_array, begin_reversal, count_actions, give_action, end_reversal, Mark, unmarked, with_count, count_from, Act, assign, choose, loop, during, call, runtime, Code, stop, step, Extent, fixed, given, Declaration, Procedure}
use Rattle.def_names.specs.Standing.{Standing, standing, scalar, count_of, in_term, in_terms, in_test, in_place, in_actual, in_actuals, in_runtime, in_mark, in_act}
use Rattle.def_names.specs.Statements.{At, inner, statements}
use Rattle.law_kernel.proofs.Faultless.{Each, each_front, each_behind, each_join}
use Rattle.law_limits.specs.Rule.{act_keeps, code_keeps, declaration_keeps, procedure_keeps}
use Rattle.law_limits.specs.Kept.{actuals_of, is_short, var_short, term_short, terms_short, test_short, mark_short, extent_short, short_names}

module _ (n : ℕ) where
  abbrev pub S : Standing → Type 0
  S s = length s.name ≤ n

  of_var : (k : Option ℕ) (x : Var) → Each S (standing k x) → var_short n x ≡ true
  of_var k (plain x) h = le-leb (length x) n h.0
  of_var k (shadow x) h = refl
  of_var k (helper r j) h = refl

  two : (a b : Bool) → a ≡ true → b ≡ true → (a && b) ≡ true
  two a b h g = and_from a b h g

  mutual
    of_term : (e : Term) → Each S (in_term e) → term_short n e ≡ true
    of_term (lit z) h = refl
    of_term (var x) h = of_var (Some 0) x h
    of_term (elem x s) h = two (var_short n x) (terms_short n s) (of_var (Some (count_of s)) x (each_front S (standing (Some (count_of s)) x) (in_terms s) h)) (of_terms s (each_behind S (standing (Some (count_of s)) x) (in_terms s) h))
    of_term (neg a) h = of_term a h
    of_term (bin op a b) h = two (term_short n a) (term_short n b) (of_term a (each_front S (in_term a) (in_term b) h)) (of_term b (each_behind S (in_term a) (in_term b) h))
    of_term (pow a k) h = of_term a h
    of_term (power_of a b) h = two (term_short n a) (term_short n b) (of_term a (each_front S (in_term a) (in_term b) h)) (of_term b (each_behind S (in_term a) (in_term b) h))
    of_term (abs a) h = of_term a h

    of_terms : (es : Terms) → Each S (in_terms es) → terms_short n es ≡ true
    of_terms none h = refl
    of_terms (more e es) h = two (term_short n e) (terms_short n es) (of_term e (each_front S (in_term e) (in_terms es) h)) (of_terms es (each_behind S (in_term e) (in_terms es) h))

  of_test : (c : Test) → Each S (in_test c) → test_short n c ≡ true
  of_test (compare r a b) h = two (term_short n a) (term_short n b) (of_term a (each_front S (in_term a) (in_term b) h)) (of_term b (each_behind S (in_term a) (in_term b) h))
  of_test (negation c) h = of_test c h
  of_test (conjunction c d) h = two (test_short n c) (test_short n d) (of_test c (each_front S (in_test c) (in_test d) h)) (of_test d (each_behind S (in_test c) (in_test d) h))
  of_test (disjunction c d) h = two (test_short n c) (test_short n d) (of_test c (each_front S (in_test c) (in_test d) h)) (of_test d (each_behind S (in_test c) (in_test d) h))

  of_place : (x : Var) (s : Terms) → Each S (in_place x s) → (var_short n x && terms_short n s) ≡ true
  of_place x s h = two (var_short n x) (terms_short n s) (of_var (Some (count_of s)) x (each_front S (standing (Some (count_of s)) x) (in_terms s) h)) (of_terms s (each_behind S (standing (Some (count_of s)) x) (in_terms s) h))

  of_actual : (e : Term) → Each S (in_actual e) → term_short n e ≡ true
  of_actual (var x) h = of_var None x h
  of_actual (lit z) h = refl
  of_actual (elem x s) h = of_term (elem x s) h
  of_actual (neg a) h = of_term (neg a) h
  of_actual (bin op a b) h = of_term (bin op a b) h
  of_actual (pow a k) h = of_term (pow a k) h
  of_actual (power_of a b) h = of_term (power_of a b) h
  of_actual (abs a) h = of_term (abs a) h

  of_actuals : (es : Terms) → Each S (in_actuals es) → terms_short n es ≡ true
  of_actuals none h = refl
  of_actuals (more e es) h = two (term_short n e) (terms_short n es) (of_actual e (each_front S (in_actual e) (in_actuals es) h)) (of_actuals es (each_behind S (in_actual e) (in_actuals es) h))

  of_runtime : (r : Runtime) → Each S (in_runtime r) → terms_short n (actuals_of r) ≡ true
  of_runtime (push_word x s) h = two _ true (of_place x s h) refl
  of_runtime (pop_word x s) h = two _ true (of_place x s h) refl
  of_runtime (push_array x) h = two (var_short n x) true (of_var None x h) refl
  of_runtime (pop_array x) h = two (var_short n x) true (of_var None x h) refl
  of_runtime (push_control e) h = two (term_short n e) true (of_term e h) refl
  of_runtime (pop_control x) h = two (var_short n x) true (of_var (Some 0) x h) refl
  of_runtime (zero_array x) h = two (var_short n x) true (of_var None x h) refl
  of_runtime (begin_reversal l s) h = two (term_short n l) _ (of_term l (each_front S (in_term l) (in_term s) h)) (two (term_short n s) true (of_term s (each_behind S (in_term l) (in_term s) h)) refl)
  of_runtime (count_actions l s x) h =
      let g = each_behind S (in_term l) (in_term s ++ scalar x) h in
      two (term_short n l) _ (of_term l (each_front S (in_term l) (in_term s ++ scalar x) h)) (two (term_short n s) _ (of_term s (each_front S (in_term s) (scalar x) g)) (two (var_short n x) true (of_var (Some 0) x (each_behind S (in_term s) (scalar x) g)) refl))
  of_runtime (give_action l s k a f t) h =
      let places = scalar a ++ (scalar f ++ scalar t) in
      let g = each_behind S (in_term l) (in_term s ++ (in_term k ++ places)) h in
      let j = each_behind S (in_term s) (in_term k ++ places) g in
      let p = each_behind S (in_term k) places j in
      let q = each_behind S (scalar a) (scalar f ++ scalar t) p in
      two (term_short n l) _ (of_term l (each_front S (in_term l) (in_term s ++ (in_term k ++ places)) h))
      (two (term_short n s) _ (of_term s (each_front S (in_term s) (in_term k ++ places) g))
      (two (term_short n k) _ (of_term k (each_front S (in_term k) places j))
      (two (var_short n a) _ (of_var (Some 0) a (each_front S (scalar a) (scalar f ++ scalar t) p))
      (two (var_short n f) _ (of_var (Some 0) f (each_front S (scalar f) (scalar t) q)) (two (var_short n t) true (of_var (Some 0) t (each_behind S (scalar f) (scalar t) q)) refl)))))
  of_runtime end_reversal h = refl

  of_mark : (m : Mark) → Each S (in_mark m) → mark_short n m ≡ true
  of_mark unmarked h = refl
  of_mark (with_count k) h = refl
  of_mark (count_from x) h = of_var (Some 0) x h

  -- the name of the unit that a statement calls
  abbrev pub IsCalledShort : Act → Type 0
  IsCalledShort (assign x s e) = Unit {0}
  IsCalledShort (choose c a b) = Unit {0}
  IsCalledShort (loop x a b c body m) = Unit {0}
  IsCalledShort (during c body) = Unit {0}
  IsCalledShort (call name args) = length name ≤ n
  IsCalledShort (runtime r) = Unit {0}

  -- a statement with short names
  abbrev pub Fine : At Act → Type 0
  Fine s = Each S (in_act s.1) × IsCalledShort s.1

  mutual
    of_act : (line : ℕ) (a : Act) → Fine (line, a) → Each Fine (inner a) → act_keeps (short_names n) a ≡ true
    of_act line (assign x s e) f h =
        let parts = each_front S (in_place x s) (in_term e) f.0 in
        two (var_short n x) _ (of_var (Some (count_of s)) x (each_front S (standing (Some (count_of s)) x) (in_terms s) parts)) (two (terms_short n s) (term_short n e) (of_terms s (each_behind S (standing (Some (count_of s)) x) (in_terms s) parts)) (of_term e (each_behind S (in_place x s) (in_term e) f.0)))
    of_act line (choose c a b) f h = two (test_short n c) _ (of_test c f.0) (two (code_keeps (short_names n) a) (code_keeps (short_names n) b) (of_code a (each_front Fine (statements a) (statements b) h)) (of_code b (each_behind Fine (statements a) (statements b) h)))
    of_act line (loop x a b c body m) f h =
        let g = each_behind S (in_mark m) (scalar x ++ (in_term a ++ (in_term b ++ in_term c))) f.0 in
        let j = each_behind S (scalar x) (in_term a ++ (in_term b ++ in_term c)) g in
        let k = each_behind S (in_term a) (in_term b ++ in_term c) j in
        two _ (code_keeps (short_names n) body)
        (two _ (mark_short n m)
        (two (var_short n x) _ (of_var (Some 0) x (each_front S (scalar x) (in_term a ++ (in_term b ++ in_term c)) g))
        (two (term_short n a) _ (of_term a (each_front S (in_term a) (in_term b ++ in_term c) j)) (two (term_short n b) (term_short n c) (of_term b (each_front S (in_term b) (in_term c) k)) (of_term c (each_behind S (in_term b) (in_term c) k)))))
        (of_mark m (each_front S (in_mark m) (scalar x ++ (in_term a ++ (in_term b ++ in_term c))) f.0)))
        (of_code body h)
    of_act line (during c body) f h = two (test_short n c) (code_keeps (short_names n) body) (of_test c f.0) (of_code body h)
    of_act line (call name args) f h = two (is_short n name) (terms_short n args) (le-leb (length name) n f.1) (of_actuals args f.0)
    of_act line (runtime r) f h = of_runtime r f.0

    of_code : (c : Code) → Each Fine (statements c) → code_keeps (short_names n) c ≡ true
    of_code stop h = refl
    of_code (step line a rest) h = two (act_keeps (short_names n) a) (code_keeps (short_names n) rest) (of_act line a h.0 (each_front Fine (inner a) (statements rest) h.1)) (of_code rest (each_behind Fine (inner a) (statements rest) h.1))

  of_names : (xs : List (List ℕ)) → Each (λ x. length x ≤ n) xs → list_all (is_short n) xs ≡ true
  of_names [] h = refl
  of_names (x ∷ xs) h = two (is_short n x) (list_all (is_short n) xs) (le-leb (length x) n h.0) (of_names xs h.1)

  -- an extent that is a name is short
  abbrev pub ExtentFine : Extent → Type 0
  ExtentFine (fixed z) = Unit {0}
  ExtentFine (given x) = length x ≤ n

  of_extents : (es : List Extent) → Each ExtentFine es → list_all (extent_short n) es ≡ true
  of_extents [] h = refl
  of_extents (fixed z ∷ es) h = of_extents es h.1
  of_extents (given x ∷ es) h = two (is_short n x) (list_all (extent_short n) es) (le-leb (length x) n h.0) (of_extents es h.1)

  of_declarations : (ds : List Declaration) → Each (λ d. (length d.name ≤ n) × Each ExtentFine d.extents) ds → list_all (declaration_keeps (short_names n)) ds ≡ true
  of_declarations [] h = refl
  of_declarations (d ∷ ds) h =
      two (declaration_keeps (short_names n) d) (list_all (declaration_keeps (short_names n)) ds)
      (two (is_short n d.name) (list_all (extent_short n) d.extents) (le-leb (length d.name) n h.0.0) (of_extents d.extents h.0.1)) (of_declarations ds h.1)

  pub of_unit : (u : Procedure) → length u.name ≤ n → Each (λ x. length x ≤ n) u.dummies → Each (λ d. (length d.name ≤ n) × Each ExtentFine d.extents) u.declarations → Each Fine (statements u.body) → procedure_keeps (short_names n) u ≡ true
  of_unit u name dummies declarations body =
      two _ _ (two (is_short n u.name) (list_all (is_short n) u.dummies) (le-leb (length u.name) n name) (of_names u.dummies dummies))
      (two (list_all (declaration_keeps (short_names n)) u.declarations) (code_keeps (short_names n) u.body) (of_declarations u.declarations declarations) (of_code u.body body))

  -- ---- and the other way

  to_var : (k : Option ℕ) (x : Var) → var_short n x ≡ true → Each S (standing k x)
  to_var k (plain x) h = (leb-true (length x) n h, tt)
  to_var k (shadow x) h = tt
  to_var k (helper r j) h = tt

  mutual
    to_term : (e : Term) → term_short n e ≡ true → Each S (in_term e)
    to_term (lit z) h = tt
    to_term (var x) h = to_var (Some 0) x h
    to_term (elem x s) h = let p = and_parts (var_short n x) (terms_short n s) h in each_join S (standing (Some (count_of s)) x) (in_terms s) (to_var (Some (count_of s)) x p.0) (to_terms s p.1)
    to_term (neg a) h = to_term a h
    to_term (bin op a b) h = let p = and_parts (term_short n a) (term_short n b) h in each_join S (in_term a) (in_term b) (to_term a p.0) (to_term b p.1)
    to_term (pow a k) h = to_term a h
    to_term (power_of a b) h = let p = and_parts (term_short n a) (term_short n b) h in each_join S (in_term a) (in_term b) (to_term a p.0) (to_term b p.1)
    to_term (abs a) h = to_term a h

    to_terms : (es : Terms) → terms_short n es ≡ true → Each S (in_terms es)
    to_terms none h = tt
    to_terms (more e es) h = let p = and_parts (term_short n e) (terms_short n es) h in each_join S (in_term e) (in_terms es) (to_term e p.0) (to_terms es p.1)

  to_test : (c : Test) → test_short n c ≡ true → Each S (in_test c)
  to_test (compare r a b) h = let p = and_parts (term_short n a) (term_short n b) h in each_join S (in_term a) (in_term b) (to_term a p.0) (to_term b p.1)
  to_test (negation c) h = to_test c h
  to_test (conjunction c d) h = let p = and_parts (test_short n c) (test_short n d) h in each_join S (in_test c) (in_test d) (to_test c p.0) (to_test d p.1)
  to_test (disjunction c d) h = let p = and_parts (test_short n c) (test_short n d) h in each_join S (in_test c) (in_test d) (to_test c p.0) (to_test d p.1)

  to_place : (x : Var) (s : Terms) → (var_short n x && terms_short n s) ≡ true → Each S (in_place x s)
  to_place x s h = let p = and_parts (var_short n x) (terms_short n s) h in each_join S (standing (Some (count_of s)) x) (in_terms s) (to_var (Some (count_of s)) x p.0) (to_terms s p.1)

  to_actual : (e : Term) → term_short n e ≡ true → Each S (in_actual e)
  to_actual (var x) h = to_var None x h
  to_actual (lit z) h = tt
  to_actual (elem x s) h = to_term (elem x s) h
  to_actual (neg a) h = to_term (neg a) h
  to_actual (bin op a b) h = to_term (bin op a b) h
  to_actual (pow a k) h = to_term (pow a k) h
  to_actual (power_of a b) h = to_term (power_of a b) h
  to_actual (abs a) h = to_term (abs a) h

  to_actuals : (es : Terms) → terms_short n es ≡ true → Each S (in_actuals es)
  to_actuals none h = tt
  to_actuals (more e es) h = let p = and_parts (term_short n e) (terms_short n es) h in each_join S (in_actual e) (in_actuals es) (to_actual e p.0) (to_actuals es p.1)

  to_runtime : (r : Runtime) → terms_short n (actuals_of r) ≡ true → Each S (in_runtime r)
  to_runtime (push_word x s) h = to_place x s (and_parts (var_short n x && terms_short n s) true h).0
  to_runtime (pop_word x s) h = to_place x s (and_parts (var_short n x && terms_short n s) true h).0
  to_runtime (push_array x) h = to_var None x (and_parts (var_short n x) true h).0
  to_runtime (pop_array x) h = to_var None x (and_parts (var_short n x) true h).0
  to_runtime (push_control e) h = to_term e (and_parts (term_short n e) true h).0
  to_runtime (pop_control x) h = to_var (Some 0) x (and_parts (var_short n x) true h).0
  to_runtime (zero_array x) h = to_var None x (and_parts (var_short n x) true h).0
  to_runtime (begin_reversal l s) h =
      let p = and_parts (term_short n l) (term_short n s && true) h in
      each_join S (in_term l) (in_term s) (to_term l p.0) (to_term s (and_parts (term_short n s) true p.1).0)
  to_runtime (count_actions l s x) h =
      let p = and_parts (term_short n l) (term_short n s && (var_short n x && true)) h in
      let q = and_parts (term_short n s) (var_short n x && true) p.1 in
      each_join S (in_term l) (in_term s ++ scalar x) (to_term l p.0) (each_join S (in_term s) (scalar x) (to_term s q.0) (to_var (Some 0) x (and_parts (var_short n x) true q.1).0))
  to_runtime (give_action l s k a f t) h =
      let p = and_parts (term_short n l) (term_short n s && (term_short n k && (var_short n a && (var_short n f && (var_short n t && true))))) h in
      let q = and_parts (term_short n s) (term_short n k && (var_short n a && (var_short n f && (var_short n t && true)))) p.1 in
      let r = and_parts (term_short n k) (var_short n a && (var_short n f && (var_short n t && true))) q.1 in
      let u = and_parts (var_short n a) (var_short n f && (var_short n t && true)) r.1 in
      let v = and_parts (var_short n f) (var_short n t && true) u.1 in
      each_join S (in_term l) _ (to_term l p.0) (each_join S (in_term s) _ (to_term s q.0) (each_join S (in_term k) _ (to_term k r.0)
      (each_join S (scalar a) _ (to_var (Some 0) a u.0) (each_join S (scalar f) (scalar t) (to_var (Some 0) f v.0) (to_var (Some 0) t (and_parts (var_short n t) true v.1).0)))))
  to_runtime end_reversal h = tt

  to_mark : (m : Mark) → mark_short n m ≡ true → Each S (in_mark m)
  to_mark unmarked h = tt
  to_mark (with_count k) h = tt
  to_mark (count_from x) h = to_var (Some 0) x h

  abbrev pub Stand : At Act → Type 0
  Stand s = Each S (in_act s.1)

  mutual
    to_act : (line : ℕ) (a : Act) → act_keeps (short_names n) a ≡ true → Each S (in_act a) × Each Stand (inner a)
    to_act line (assign x s e) h =
        let p = and_parts (var_short n x) (terms_short n s && term_short n e) h in
        let q = and_parts (terms_short n s) (term_short n e) p.1 in
        (each_join S (in_place x s) (in_term e) (each_join S (standing (Some (count_of s)) x) (in_terms s) (to_var (Some (count_of s)) x p.0) (to_terms s q.0)) (to_term e q.1), tt)
    to_act line (choose c a b) h =
        let p = and_parts (test_short n c) (code_keeps (short_names n) a && code_keeps (short_names n) b) h in
        let q = and_parts (code_keeps (short_names n) a) (code_keeps (short_names n) b) p.1 in
        (to_test c p.0, each_join Stand (statements a) (statements b) (to_code a q.0) (to_code b q.1))
    to_act line (loop x a b c body m) h =
        let p = and_parts ((var_short n x && (term_short n a && (term_short n b && term_short n c))) && mark_short n m) (code_keeps (short_names n) body) h in
        let q = and_parts (var_short n x && (term_short n a && (term_short n b && term_short n c))) (mark_short n m) p.0 in
        let r = and_parts (var_short n x) (term_short n a && (term_short n b && term_short n c)) q.0 in
        let u = and_parts (term_short n a) (term_short n b && term_short n c) r.1 in
        let v = and_parts (term_short n b) (term_short n c) u.1 in
        (each_join S (in_mark m) _ (to_mark m q.1) (each_join S (scalar x) _ (to_var (Some 0) x r.0) (each_join S (in_term a) _ (to_term a u.0) (each_join S (in_term b) (in_term c) (to_term b v.0) (to_term c v.1)))), to_code body p.1)
    to_act line (during c body) h = let p = and_parts (test_short n c) (code_keeps (short_names n) body) h in (to_test c p.0, to_code body p.1)
    to_act line (call name args) h = (to_actuals args (and_parts (is_short n name) (terms_short n args) h).1, tt)
    to_act line (runtime r) h = (to_runtime r h, tt)

    to_code : (c : Code) → code_keeps (short_names n) c ≡ true → Each Stand (statements c)
    to_code stop h = tt
    to_code (step line a rest) h =
        let p = and_parts (act_keeps (short_names n) a) (code_keeps (short_names n) rest) h in
        let q = to_act line a p.0 in
        (q.0, each_join Stand (inner a) (statements rest) q.1 (to_code rest p.1))

  to_names : (xs : List (List ℕ)) → list_all (is_short n) xs ≡ true → Each (λ x. length x ≤ n) xs
  to_names [] h = tt
  to_names (x ∷ xs) h = let p = and_parts (is_short n x) (list_all (is_short n) xs) h in (leb-true (length x) n p.0, to_names xs p.1)

  to_declarations : (ds : List Declaration) → list_all (declaration_keeps (short_names n)) ds ≡ true → Each (λ d. length d.name ≤ n) ds
  to_declarations [] h = tt
  to_declarations (d ∷ ds) h =
      let p = and_parts (declaration_keeps (short_names n) d) (list_all (declaration_keeps (short_names n)) ds) h in
      (leb-true (length d.name) n (and_parts (is_short n d.name) (list_all (extent_short n) d.extents) p.0).0, to_declarations ds p.1)

  -- what a unit has that passes
  pub record HasShort (u : Procedure) : Type 0 where
    pub name : length u.name ≤ n
    pub dummies : Each (λ x. length x ≤ n) u.dummies
    pub declared : Each (λ d. length d.name ≤ n) u.declarations
    pub body : Each Stand (statements u.body)

  pub unit_short : (u : Procedure) → procedure_keeps (short_names n) u ≡ true → HasShort u
  unit_short u h =
      let heading = is_short n u.name && list_all (is_short n) u.dummies in
      let p = and_parts heading (list_all (declaration_keeps (short_names n)) u.declarations && code_keeps (short_names n) u.body) h in
      let q = and_parts (is_short n u.name) (list_all (is_short n) u.dummies) p.0 in
      let r = and_parts (list_all (declaration_keeps (short_names n)) u.declarations) (code_keeps (short_names n) u.body) p.1 in
      record { name = leb-true (length u.name) n q.0; dummies = to_names u.dummies q.1; declared = to_declarations u.declarations r.0; body = to_code u.body r.1 }
