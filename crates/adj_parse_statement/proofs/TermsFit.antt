-- Trees whose expressions have no literal above the greatest word fit.
use Rattle.std.proofs.Common.{◌≡◌, ℕ, ◌<◌, ◌^◌, pos, Bool, true, false, List, Option, Some, None, subst}
use Rattle.std.proofs.lemmas.Bool.{leb-false, or_parts}
use Rattle.std.specs.Prelude.{codes, if◌then◌else◌}
use Rattle.adj_tree.specs.Code.{Var, plain, Op, Term, Terms, lit, var, elem, neg, bin, pow, power_of, abs, none, more, name_eq, Test, compare, negation, conjunction, disjunction, Runtime, push_word, pop_word, push_array, pop_array, pop_control, zero_array}
use Rattle.def_text.specs.Char.{number_of}
use Rattle.def_text.specs.Condition.{Condition, compared, denied, both, either, test}
use Rattle.def_text.specs.Fits.{FitsTerm, FitsTerms, FitsTest, FitsRuntime, FitsAct}
use Rattle.def_text.specs.Grammar.{Syntax, number, variable, negated, joined, raised, applied, Arguments, only, beside, is_literal, exponent, with_both, tree, trees_before, operation_of, is_absolute, application_of, two_arguments}
use Rattle.def_text.specs.Statement.{as_place, as_name, as_value, as_beginning, as_count, as_action, as_nothing, runtime_call, called, called_as}
use Rattle.def_text.proofs.Parts.{map_some, then_some, both_some}
use Rattle.adj_parse_expression.specs.Judged.{has_large, any_large, test_large}

-- an intrinsic with its arguments, or an element
absolute_fits : (b : Bool) (x : List ℕ) (a : Term) → FitsTerm a → FitsTerm (if b then abs a else elem (plain x) (more a none))
absolute_fits true x a h = h
absolute_fits false x a h = (h, tt)

two_fit : (o : Option Op) (x : List ℕ) (a b : Term) → FitsTerm a → FitsTerm b → FitsTerm (two_arguments x o a b)
two_fit (Some op) x a b h g = (h, g)
two_fit None x a b h g = (h, (g, tt))

application_fits : (x : List ℕ) (es : Terms) → FitsTerms es → FitsTerm (application_of x es)
application_fits x none h = h
application_fits x (more a none) h = absolute_fits (is_absolute x) x a h.0
application_fits x (more a (more b none)) h = two_fit (operation_of x) x a b h.0 h.1.0
application_fits x (more a (more b (more c es))) h = h

mutual
  pub tree_fits : (s : Syntax) (t : Term) → has_large s ≡ false → tree s ≡ Some t → FitsTerm t
  tree_fits (number digits) t h e = let small : number_of digits < 2 ^ 63 = leb-false (2 ^ 63) (number_of digits) h in let same : lit (pos (number_of digits)) ≡ t = cc in subst FitsTerm same small
  tree_fits (variable x) t h e = let same : var (plain x) ≡ t = cc in subst FitsTerm same tt
  tree_fits (negated s) t h e = let r = map_some neg (tree s) t e in subst FitsTerm r.2 (tree_fits s r.0 h r.1)
  tree_fits (joined op a b) t h e = let n = or_parts (has_large a) (has_large b) h in let r = both_some (bin op) (tree a) (tree b) t e in subst FitsTerm r.4 (tree_fits a r.0 n.0 r.2, tree_fits b r.1 n.1 r.3)
  tree_fits (raised a b) t h e =
      let n = or_parts (has_large a) (has_large b) h in
      elim (is_literal b) as (λ l. (if l then with_both (λ t k. Some (pow t k)) (tree a) (exponent b) else with_both (λ t u. Some (power_of t u)) (tree a) (tree b)) ≡ Some t → FitsTerm t) [
        | true ↦ λ g. let r = both_some pow (tree a) (exponent b) t g in subst FitsTerm r.4 (tree_fits a r.0 n.0 r.2)
        | false ↦ λ g. let r = both_some power_of (tree a) (tree b) t g in subst FitsTerm r.4 (tree_fits a r.0 n.0 r.2, tree_fits b r.1 n.1 r.3)
      ] e
  tree_fits (applied x all) t h e = let r = map_some (application_of x) (trees_before all none) t e in subst FitsTerm r.2 (application_fits x r.0 (trees_fit all none r.0 h tt r.1))

  pub trees_fit : (all : Arguments) (rest ts : Terms) → any_large all ≡ false → FitsTerms rest → trees_before all rest ≡ Some ts → FitsTerms ts
  trees_fit (only s) rest ts h f e = let r = map_some (λ t. more t rest) (tree s) ts e in subst FitsTerms r.2 (tree_fits s r.0 h r.1, f)
  trees_fit (beside front s) rest ts h f e =
      let n = or_parts (any_large front) (has_large s) h in
      let r = then_some (λ t. trees_before front (more t rest)) (tree s) ts e in
      trees_fit front (more r.0 rest) ts n.0 (tree_fits s r.0 n.1 r.1, f) r.2

pub test_fits : (c : Condition) (t : Test) → test_large c ≡ false → test c ≡ Some t → FitsTest t
test_fits (compared r a b) t h e = let n = or_parts (has_large a) (has_large b) h in let q = both_some (compare r) (tree a) (tree b) t e in subst FitsTest q.4 (tree_fits a q.0 n.0 q.2, tree_fits b q.1 n.1 q.3)
test_fits (denied c) t h e = let q = map_some negation (test c) t e in subst FitsTest q.2 (test_fits c q.0 h q.1)
test_fits (both c d) t h e = let n = or_parts (test_large c) (test_large d) h in let q = both_some conjunction (test c) (test d) t e in subst FitsTest q.4 (test_fits c q.0 n.0 q.2, test_fits d q.1 n.1 q.3)
test_fits (either c d) t h e = let n = or_parts (test_large c) (test_large d) h in let q = both_some disjunction (test c) (test d) t e in subst FitsTest q.4 (test_fits c q.0 n.0 q.2, test_fits d q.1 n.1 q.3)

-- a runtime call, if there is one
abbrev CallFits : Option Runtime → Type 0
CallFits None = Unit {0}
CallFits (Some r) = FitsRuntime r

fits_if : (b : Bool) (o p : Option Runtime) → CallFits o → CallFits p → CallFits (if b then o else p)
fits_if true o p h g = h
fits_if false o p h g = g

place_fits : (make : Var → Terms → Runtime) → ((x : Var) (s : Terms) → FitsTerms s → FitsRuntime (make x s)) → (es : Terms) → FitsTerms es → CallFits (as_place make es)
place_fits make h (more (var x) none) f = h x none tt
place_fits make h (more (elem x s) none) f = h x s f.0
place_fits make h es f = tt

name_fits : (make : Var → Runtime) → ((x : Var) → FitsRuntime (make x)) → (es : Terms) → CallFits (as_name make es)
name_fits make h (more (var x) none) = h x
name_fits make h es = tt

value_fits : (es : Terms) → FitsTerms es → CallFits (as_value es)
value_fits (more e none) f = f.0
value_fits es f = tt

beginning_fits : (es : Terms) → FitsTerms es → CallFits (as_beginning es)
beginning_fits (more l (more s none)) f = (f.0, f.1.0)
beginning_fits es f = tt

count_fits : (es : Terms) → FitsTerms es → CallFits (as_count es)
count_fits (more l (more s (more (var n) none))) f = (f.0, f.1.0)
count_fits es f = tt

action_fits : (es : Terms) → FitsTerms es → CallFits (as_action es)
action_fits (more l (more s (more k (more (var a) (more (var b) (more (var t) none)))))) f = (f.0, f.1.0, f.1.1.0)
action_fits es f = tt

nothing_fits : (es : Terms) → CallFits (as_nothing es)
nothing_fits none = tt
nothing_fits es = tt

runtime_fits : (x : List ℕ) (es : Terms) → FitsTerms es → CallFits (runtime_call x es)
runtime_fits x es f =
    fits_if (name_eq x (codes "PUSHINTEGER8")) _ _ (place_fits push_word (λ y s h. h) es f)
    (fits_if (name_eq x (codes "POPINTEGER8")) _ _ (place_fits pop_word (λ y s h. h) es f)
    (fits_if (name_eq x (codes "PUSHINTEGER8ARRAY")) _ _ (name_fits push_array (λ y. tt) es)
    (fits_if (name_eq x (codes "POPINTEGER8ARRAY")) _ _ (name_fits pop_array (λ y. tt) es)
    (fits_if (name_eq x (codes "PUSHCONTROL1B")) _ _ (value_fits es f)
    (fits_if (name_eq x (codes "POPCONTROL1B")) _ _ (name_fits pop_control (λ y. tt) es)
    (fits_if (name_eq x (codes "ADZERO8")) _ _ (name_fits zero_array (λ y. tt) es)
    (fits_if (name_eq x (codes "ADBEG")) _ _ (beginning_fits es f)
    (fits_if (name_eq x (codes "ADACTN")) _ _ (count_fits es f)
    (fits_if (name_eq x (codes "ADACT")) _ _ (action_fits es f)
    (fits_if (name_eq x (codes "ADEND")) _ _ (nothing_fits es) tt))))))))))

as_fits : (x : List ℕ) (es : Terms) (o : Option Runtime) → FitsTerms es → CallFits o → FitsAct (called_as x es o)
as_fits x es (Some r) f g = g
as_fits x es None f g = f

-- a CALL fits where its actuals do
pub called_fits : (x : List ℕ) (es : Terms) → FitsTerms es → FitsAct (called x es)
called_fits x es f = as_fits x es (runtime_call x es) f (runtime_fits x es f)
