-- The variables of a unit that can be written as a text are names of a text.
use Rattle.std.proofs.Common.{◌≡◌, ℕ, Bool, true, false, List, [], ◌∷◌, ◌++◌, map, refl, sym, ap, ◌∙◌, subst}
use Rattle.std.specs.Prelude.{◌||◌, ◌==◌, flat_map, Option, Some, None}
use Rattle.adj_tree.specs.Code.{Var, plain, shadow, helper, name_eq, Term, lit, var, elem, neg, bin, pow, power_of, abs, Terms, none, more, Test, compare, negation, conjunction, disjunction, Runtime, push_word, pop_word, push_array, pop_array, push_control, pop_control, zero_array, begin_reversal, count_actions, give_action, end_reversal, Mark, unmarked, with_count, count_from, Act, assign, choose, loop, during, call, runtime, Code, stop, step, Procedure}
use Rattle.adj_tree.proofs.Names.{name_refl, name_same, nat_same}
use Rattle.def_text.specs.Char.{is_capital}
use Rattle.def_text.specs.Written.{IsName, IsVariable, IsPlace, IsActualPlace, IsWrittenTerm, AreWrittenTerms, IsWrittenTest, IsWrittenRuntime, IsWrittenMark, IsWrittenAct, IsWrittenCode, IsWrittenDeclaration, IsWrittenProcedure}
use Rattle.def_names.specs.Statements.{At, inner, statements}
use Rattle.def_names.specs.Standing.{Standing, standing, count_of, in_term, in_terms, in_place, in_test, in_actual, in_actuals, in_runtime, in_mark, in_act}
use Rattle.def_names.specs.Variables.{dummy_places, declared_places, statement_places, places, variables}
use Rattle.def_names.proofs.Lists.{names_at}
use Rattle.def_meaning.specs.Apart.{has_name}
use Rattle.def_sweep.specs.Naming.{AreInside, begins_outside}
use Rattle.def_names.proofs.Variables.{or_left, or_right, not_true}
use Rattle.law_sweep.proofs.Variables.{variables_stand}
use Rattle.law_emitted.proofs.Lists.{Each, each_append, each_more, each_all}
use Rattle.law_emitted.proofs.Texts.{indexed_variable, place_variable, place_terms}

-- ---- names that stand in what is written

abbrev IsNamed : Standing → Type 0
IsNamed n = IsName n.name

named_variable : (n : Option ℕ) (x : Var) → IsVariable x → Each IsNamed (standing n x)
named_variable n (plain x) w = (w, tt)
named_variable n (shadow x) w = absurd w
named_variable n (helper r k) w = absurd w

mutual
  named_term : (e : Term) → IsWrittenTerm e → Each IsNamed (in_term e)
  named_term (lit z) w = tt
  named_term (var x) w = named_variable (Some 0) x w
  named_term (elem x subs) w = each_append IsNamed (standing (Some (count_of subs)) x) (in_terms subs) (named_variable (Some (count_of subs)) x (indexed_variable x w.0)) (named_terms subs w.2)
  named_term (neg a) w = named_term a w
  named_term (bin op a b) w = each_append IsNamed (in_term a) (in_term b) (named_term a w.0) (named_term b w.1)
  named_term (pow a k) w = named_term a w.0
  named_term (power_of a b) w = each_append IsNamed (in_term a) (in_term b) (named_term a w.0) (named_term b w.1)
  named_term (abs a) w = named_term a w

  named_terms : (es : Terms) → AreWrittenTerms es → Each IsNamed (in_terms es)
  named_terms none w = tt
  named_terms (more e es) w = each_append IsNamed (in_term e) (in_terms es) (named_term e w.0) (named_terms es w.1)

named_place : (x : Var) (subs : Terms) → IsPlace x subs → Each IsNamed (in_place x subs)
named_place x subs w = each_append IsNamed (standing (Some (count_of subs)) x) (in_terms subs) (named_variable (Some (count_of subs)) x (place_variable x subs w)) (named_terms subs (place_terms x subs w))

named_actual_place : (x : Var) (subs : Terms) → IsActualPlace x subs → Each IsNamed (in_place x subs)
named_actual_place x none w = each_append IsNamed (standing (Some 0) x) [] (named_variable (Some 0) x w) tt
named_actual_place x (more e es) w = named_term (elem x (more e es)) w

named_test : (c : Test) → IsWrittenTest c → Each IsNamed (in_test c)
named_test (compare r a b) w = each_append IsNamed (in_term a) (in_term b) (named_term a w.0) (named_term b w.1)
named_test (negation c) w = named_test c w
named_test (conjunction c d) w = each_append IsNamed (in_test c) (in_test d) (named_test c w.0) (named_test d w.1)
named_test (disjunction c d) w = each_append IsNamed (in_test c) (in_test d) (named_test c w.0) (named_test d w.1)

named_actual : (e : Term) → IsWrittenTerm e → Each IsNamed (in_actual e)
named_actual (var x) w = named_variable None x w
named_actual (lit z) w = tt
named_actual (elem x subs) w = named_term (elem x subs) w
named_actual (neg a) w = named_term (neg a) w
named_actual (bin op a b) w = named_term (bin op a b) w
named_actual (pow a k) w = named_term (pow a k) w
named_actual (power_of a b) w = named_term (power_of a b) w
named_actual (abs a) w = named_term (abs a) w

named_actuals : (es : Terms) → AreWrittenTerms es → Each IsNamed (in_actuals es)
named_actuals none w = tt
named_actuals (more e es) w = each_append IsNamed (in_actual e) (in_actuals es) (named_actual e w.0) (named_actuals es w.1)

named_runtime : (r : Runtime) → IsWrittenRuntime r → Each IsNamed (in_runtime r)
named_runtime (push_word x subs) w = named_actual_place x subs w
named_runtime (pop_word x subs) w = named_actual_place x subs w
named_runtime (push_array x) w = named_variable None x w
named_runtime (pop_array x) w = named_variable None x w
named_runtime (push_control e) w = named_term e w
named_runtime (pop_control x) w = named_variable (Some 0) x w
named_runtime (zero_array x) w = named_variable None x w
named_runtime (begin_reversal l s) w = each_append IsNamed (in_term l) (in_term s) (named_term l w.0) (named_term s w.1)
named_runtime (count_actions l s n) w =
    each_append IsNamed (in_term l) (in_term s ++ standing (Some 0) n) (named_term l w.0)
    (each_append IsNamed (in_term s) (standing (Some 0) n) (named_term s w.1) (named_variable (Some 0) n w.2))
named_runtime (give_action l s k a f t) w =
    each_append IsNamed (in_term l) (in_term s ++ (in_term k ++ (standing (Some 0) a ++ (standing (Some 0) f ++ standing (Some 0) t)))) (named_term l w.0)
    (each_append IsNamed (in_term s) (in_term k ++ (standing (Some 0) a ++ (standing (Some 0) f ++ standing (Some 0) t))) (named_term s w.1)
    (each_append IsNamed (in_term k) (standing (Some 0) a ++ (standing (Some 0) f ++ standing (Some 0) t)) (named_term k w.2)
    (each_append IsNamed (standing (Some 0) a) (standing (Some 0) f ++ standing (Some 0) t) (named_variable (Some 0) a w.3)
    (each_append IsNamed (standing (Some 0) f) (standing (Some 0) t) (named_variable (Some 0) f w.4) (named_variable (Some 0) t w.5)))))
named_runtime end_reversal w = tt

named_mark : (m : Mark) → IsWrittenMark m → Each IsNamed (in_mark m)
named_mark unmarked w = tt
named_mark (with_count n) w = tt
named_mark (count_from x) w = named_variable (Some 0) x w

named_act : (a : Act) → IsWrittenAct a → Each IsNamed (in_act a)
named_act (assign x subs e) w = each_append IsNamed (in_place x subs) (in_term e) (named_place x subs w.0) (named_term e w.1)
named_act (choose c a b) w = named_test c w.0
named_act (loop x first last by body m) w =
    each_append IsNamed (in_mark m) (standing (Some 0) x ++ (in_term first ++ (in_term last ++ in_term by))) (named_mark m w.5)
    (each_append IsNamed (standing (Some 0) x) (in_term first ++ (in_term last ++ in_term by)) (named_variable (Some 0) x w.0)
    (each_append IsNamed (in_term first) (in_term last ++ in_term by) (named_term first w.1)
    (each_append IsNamed (in_term last) (in_term by) (named_term last w.2) (named_term by w.3))))
named_act (during c body) w = named_test c w.0
named_act (call name args) w = named_actuals args w.1
named_act (runtime r) w = named_runtime r w

-- ---- so do those at all places of a unit

abbrev IsNamedAct : At Act → Type 0
IsNamedAct s = Each IsNamed (in_act s.1)

mutual
  named_inner : (a : Act) → IsWrittenAct a → Each IsNamedAct (inner a)
  named_inner (assign x subs e) w = tt
  named_inner (choose c a b) w = each_append IsNamedAct (statements a) (statements b) (named_statements a w.1) (named_statements b w.2)
  named_inner (loop x first last by body m) w = named_statements body w.4
  named_inner (during c body) w = named_statements body w.1
  named_inner (call name args) w = tt
  named_inner (runtime r) w = tt

  named_statements : (c : Code) → IsWrittenCode c → Each IsNamedAct (statements c)
  named_statements stop w = tt
  named_statements (step line a rest) w = (named_act a w.0, each_append IsNamedAct (inner a) (statements rest) (named_inner a w.0) (named_statements rest w.1))

abbrev IsNamedAt : At (List ℕ) → Type 0
IsNamedAt p = IsName p.1

-- a list at whose members names stand
each_at : {A : Type 0} (place : A → At (List ℕ)) (xs : List A) → Each (λ x. IsNamedAt (place x)) xs → Each IsNamedAt (map place xs)
each_at place [] h = tt
each_at place (x ∷ xs) h = (h.0, each_at place xs h.1)

each_statement : (ss : List (At Act)) → Each IsNamedAct ss → Each IsNamedAt (flat_map (λ s. map (λ n. (s.0, n.name)) (in_act s.1)) ss)
each_statement [] h = tt
each_statement (s ∷ ss) h =
    each_append IsNamedAt (map (λ n. (s.0, n.name)) (in_act s.1)) (flat_map (λ s. map (λ n. (s.0, n.name)) (in_act s.1)) ss)
    (each_at (λ n. (s.0, n.name)) (in_act s.1) h.0) (each_statement ss h.1)

named_places : (u : Procedure) → IsWrittenProcedure u → Each IsNamedAt (places u)
named_places u w =
    each_append IsNamedAt (dummy_places u) (declared_places u ++ statement_places u) (each_at (λ d. (u.line, d)) u.dummies (each_all IsName u.dummies w.dummies))
    (each_append IsNamedAt (declared_places u) (statement_places u)
    (each_at (λ d. (d.line, d.name)) u.declarations (each_more IsWrittenDeclaration (λ d. IsName d.name) (λ d h. h.named) u.declarations (each_all IsWrittenDeclaration u.declarations w.declarations)))
    (each_statement (statements u.body) (named_statements u.body w.body)))

stands_named : (x : List ℕ) (ps : List (At (List ℕ))) → Each IsNamedAt ps → has_name x (names_at ps) ≡ true → IsName x
stands_named x [] h k = absurd cc
stands_named x (p ∷ ps) h k = go (name_eq x p.1) refl k (stands_named x ps h.1)
  where
    go : (b : Bool) → name_eq x p.1 ≡ b → (b || has_name x (names_at ps)) ≡ true → (has_name x (names_at ps) ≡ true → IsName x) → IsName x
    go true e k ih = subst IsName (sym (name_same x p.1 e)) h.0
    go false e k ih = ih k

-- each variable has a name of a text
pub variable_named : (u : Procedure) → IsWrittenProcedure u → (x : List ℕ) → has_name x (variables u) ≡ true → IsName x
variable_named u w x h = stands_named x (places u) (named_places u w) (sym (variables_stand u x) ∙ h)

-- ---- names of a text begin with a capital letter

name_inside : (x : List ℕ) → IsName x → begins_outside x ≡ false
name_inside [] w = absurd w
name_inside (c ∷ cs) w = not_true (c == 0) (λ e. let p : true ≡ false = sym w.0 ∙ ap is_capital (nat_same c 0 e) in cc)

all_inside : (xs : List (List ℕ)) → ((x : List ℕ) → has_name x xs ≡ true → IsName x) → AreInside xs
all_inside [] f = tt
all_inside (x ∷ xs) f = (
  name_inside x (f x (or_left (name_eq x x) (has_name x xs) (name_refl x))),
  all_inside xs (λ y h. f y (or_right (name_eq y x) (has_name y xs) h)),
)

pub variables_inside : (u : Procedure) → IsWrittenProcedure u → AreInside (variables u)
variables_inside u w = all_inside (variables u) (variable_named u w)
