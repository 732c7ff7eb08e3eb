-- What stands in terms that are written and reduced: variables of the text, all of them known.
use Rattle.std.proofs.Common.{◌≡◌, ℕ, zero, suc, Bool, true, false, List, [], ◌∷◌, refl, sym, ap, ◌∙◌, subst}
use Rattle.std.specs.Prelude.{◌||◌, ◌==◌, Some, if◌then◌else◌}
use Rattle.adj_tree.specs.Code.{Var, plain, shadow, helper, name_eq, var_eq, plus, minus, times, quot, modulo, greater, lesser, Term, lit, var, elem, neg, bin, pow, power_of, abs, Terms, none, more, Test, compare, negation, conjunction, disjunction, Procedure}
use Rattle.adj_tree.proofs.Names.{name_same, nat_same}
use Rattle.def_meaning.specs.Read.{reads_term, reads_terms, reads_test}
use Rattle.def_text.specs.Written.{IsVariable, IsIndexed, IsPlace, IsWrittenTerm, AreWrittenTerms, IsWrittenTest}
use Rattle.def_names.specs.Standing.{Standing, in_term, in_terms, in_actuals}
use Rattle.def_names.specs.Variables.{rank}
use Rattle.def_names.specs.CallFaults.{is_actual_for, are_actuals_for}
use Rattle.def_kernel.specs.Calls.{stands_whole}
use Rattle.def_kernel.specs.Form.{IsReduced, AreDistinctNames}
use Rattle.def_meaning.specs.Apart.{has_name, AreApart}
use Rattle.def_names.proofs.Variables.{and_true}
use Rattle.def_sweep.specs.Plan.{beside, actuals_named}
use Rattle.law_sweep.specs.Kernel.{is_text, AsMany, AreTreated}
use Rattle.law_sweep.proofs.Rounds.{either}
use Rattle.law_emitted.proofs.Lists.{Each, each_front, each_behind}

-- ---- variables of the text

text_variable : (v x : Var) → IsVariable x → var_eq v x ≡ true → is_text v ≡ true
text_variable (plain z) x w h = refl
text_variable (shadow z) (plain x) w h = absurd cc
text_variable (shadow z) (shadow x) w h = absurd w
text_variable (shadow z) (helper r k) w h = absurd w
text_variable (helper r k) (plain x) w h = absurd cc
text_variable (helper r k) (shadow x) w h = absurd w
text_variable (helper r k) (helper q j) w h = absurd w

pub indexed_variable : (x : Var) → IsIndexed x → IsVariable x
indexed_variable (plain x) w = w.0
indexed_variable (shadow x) w = absurd w
indexed_variable (helper r k) w = absurd w

mutual
  pub text_term : (v : Var) (e : Term) → IsWrittenTerm e → reads_term v e ≡ true → is_text v ≡ true
  text_term v (lit z) w h = absurd cc
  text_term v (var x) w h = text_variable v x w h
  text_term v (elem x subs) w h = either (var_eq v x) (reads_terms v subs) (is_text v) h (text_variable v x (indexed_variable x w.0)) (text_terms v subs w.2)
  text_term v (neg a) w h = text_term v a w h
  text_term v (bin op a b) w h = either (reads_term v a) (reads_term v b) (is_text v) h (text_term v a w.0) (text_term v b w.1)
  text_term v (pow a k) w h = text_term v a w.0 h
  text_term v (power_of a b) w h = either (reads_term v a) (reads_term v b) (is_text v) h (text_term v a w.0) (text_term v b w.1)
  text_term v (abs a) w h = text_term v a w h

  pub text_terms : (v : Var) (es : Terms) → AreWrittenTerms es → reads_terms v es ≡ true → is_text v ≡ true
  text_terms v none w h = absurd cc
  text_terms v (more e es) w h = either (reads_term v e) (reads_terms v es) (is_text v) h (text_term v e w.0) (text_terms v es w.1)

pub text_test : (v : Var) (c : Test) → IsWrittenTest c → reads_test v c ≡ true → is_text v ≡ true
text_test v (compare r a b) w h = either (reads_term v a) (reads_term v b) (is_text v) h (text_term v a w.0) (text_term v b w.1)
text_test v (negation c) w h = text_test v c w h
text_test v (conjunction c d) w h = either (reads_test v c) (reads_test v d) (is_text v) h (text_test v c w.0) (text_test v d w.1)
text_test v (disjunction c d) w h = either (reads_test v c) (reads_test v d) (is_text v) h (text_test v c w.0) (text_test v d w.1)

-- the variable of a place is of the text, and its subscripts are written
pub place_variable : (x : Var) (subs : Terms) → IsPlace x subs → IsVariable x
place_variable x none w = w
place_variable x (more e es) w = w.0

pub place_terms : (x : Var) (subs : Terms) → IsPlace x subs → AreWrittenTerms subs
place_terms x none w = tt
place_terms x (more e es) w = w.2

-- ---- names that are known

-- the name is among those of a list
abbrev pub Known : List (List ℕ) → Standing → Type 0
Known vars n = has_name n.name vars ≡ true

pub known_variable : (vars : List (List ℕ)) (y x : List ℕ) → has_name x vars ≡ true → name_eq y x ≡ true → has_name y vars ≡ true
known_variable vars y x k h = subst (λ z. has_name z vars ≡ true) (sym (name_same y x h)) k

mutual
  pub known_term : (vars : List (List ℕ)) (y : List ℕ) (e : Term) → Each (Known vars) (in_term e) → reads_term (plain y) e ≡ true → has_name y vars ≡ true
  known_term vars y (lit z) k h = absurd cc
  known_term vars y (var (plain x)) k h = known_variable vars y x k.0 h
  known_term vars y (var (shadow x)) k h = absurd cc
  known_term vars y (var (helper r j)) k h = absurd cc
  known_term vars y (elem (plain x) subs) k h = either (name_eq y x) (reads_terms (plain y) subs) (has_name y vars) h (known_variable vars y x k.0) (known_terms vars y subs k.1)
  known_term vars y (elem (shadow x) subs) k h = known_terms vars y subs k h
  known_term vars y (elem (helper r j) subs) k h = known_terms vars y subs k h
  known_term vars y (neg a) k h = known_term vars y a k h
  known_term vars y (bin op a b) k h =
      either (reads_term (plain y) a) (reads_term (plain y) b) (has_name y vars) h
      (known_term vars y a (each_front (Known vars) (in_term a) (in_term b) k)) (known_term vars y b (each_behind (Known vars) (in_term a) (in_term b) k))
  known_term vars y (pow a j) k h = known_term vars y a k h
  known_term vars y (power_of a b) k h =
      either (reads_term (plain y) a) (reads_term (plain y) b) (has_name y vars) h
      (known_term vars y a (each_front (Known vars) (in_term a) (in_term b) k)) (known_term vars y b (each_behind (Known vars) (in_term a) (in_term b) k))
  known_term vars y (abs a) k h = known_term vars y a k h

  pub known_terms : (vars : List (List ℕ)) (y : List ℕ) (es : Terms) → Each (Known vars) (in_terms es) → reads_terms (plain y) es ≡ true → has_name y vars ≡ true
  known_terms vars y none k h = absurd cc
  known_terms vars y (more e es) k h =
      either (reads_term (plain y) e) (reads_terms (plain y) es) (has_name y vars) h
      (known_term vars y e (each_front (Known vars) (in_term e) (in_terms es) k)) (known_terms vars y es (each_behind (Known vars) (in_term e) (in_terms es) k))

-- ---- terms that are reduced

pub treated : (e : Term) → IsReduced e → AreTreated e
treated (lit z) h = tt
treated (var x) h = tt
treated (elem x subs) h = tt
treated (neg a) h = treated a h
treated (bin plus a b) h = (treated a h.0, treated b h.1)
treated (bin minus a b) h = (treated a h.0, treated b h.1)
treated (bin times a b) h = (treated a h.0, treated b h.1)
treated (bin quot a b) h = tt
treated (bin modulo a b) h = tt
treated (bin greater a b) h = absurd h
treated (bin lesser a b) h = absurd h
treated (pow a zero) h = tt
treated (pow a (suc k)) h = treated a h
treated (power_of a b) h = treated a h
treated (abs a) h = absurd h

-- ---- actuals that are distinct names

-- they are the names of variables of the text
pub actuals_given : (args : Terms) → AreDistinctNames args → AreWrittenTerms args → (given : List (List ℕ)) × (args ≡ actuals_named given)
actuals_given none d w = ([], refl)
actuals_given (more (var (plain x)) es) d w = let later = actuals_given es d.1 w.1 in (x ∷ later.0, ap (λ l. more (var (plain x)) l) later.1)
actuals_given (more (var (shadow x)) es) d w = absurd w.0
actuals_given (more (var (helper r k)) es) d w = absurd w.0
actuals_given (more (lit z) es) d w = absurd d
actuals_given (more (elem x subs) es) d w = absurd d
actuals_given (more (neg a) es) d w = absurd d
actuals_given (more (bin op a b) es) d w = absurd d
actuals_given (more (pow a k) es) d w = absurd d
actuals_given (more (power_of a b) es) d w = absurd d
actuals_given (more (abs a) es) d w = absurd d

stands_named : (a : List ℕ) (given : List (List ℕ)) → stands_whole (plain a) (actuals_named given) ≡ has_name a given
stands_named a [] = refl
stands_named a (b ∷ given) = ap (λ t. name_eq a b || t) (stands_named a given)

pub actuals_apart : (given : List (List ℕ)) → AreDistinctNames (actuals_named given) → AreApart given
actuals_apart [] d = tt
actuals_apart (a ∷ given) d = (sym (stands_named a given) ∙ d.0, actuals_apart given d.1)

pub actuals_known : (vars given : List (List ℕ)) → Each (Known vars) (in_actuals (actuals_named given)) → (a : List ℕ) → has_name a given ≡ true → has_name a vars ≡ true
actuals_known vars [] k a h = absurd cc
actuals_known vars (b ∷ given) k a h = either (name_eq a b) (has_name a given) (has_name a vars) h (known_variable vars a b k.0) (actuals_known vars given k.1 a)

-- as many of them as there are dummies
pub actuals_many : (caller called : Procedure) (ds given : List (List ℕ)) → are_actuals_for caller called ds (actuals_named given) ≡ true → AsMany ds given
actuals_many caller called [] [] h = tt
actuals_many caller called [] (a ∷ given) h = absurd cc
actuals_many caller called (d ∷ ds) [] h = absurd cc
actuals_many caller called (d ∷ ds) (a ∷ given) h =
    actuals_many caller called ds given (and_true (is_actual_for caller (rank called d) (var (plain a))) (are_actuals_for caller called ds (actuals_named given)) h).1

-- each of the rank of its dummy
pub actuals_rank : (caller called : Procedure) (ds given : List (List ℕ)) → are_actuals_for caller called ds (actuals_named given) ≡ true → (d a : List ℕ) → beside ds given d ≡ Some a → rank caller a ≡ rank called d
actuals_rank caller called [] given h d a b = absurd cc
actuals_rank caller called (x ∷ ds) [] h d a b = absurd cc
actuals_rank caller called (x ∷ ds) (y ∷ given) h d a b = go (name_eq d x) refl b (actuals_rank caller called ds given both.1 d a)
  where
    both : ((rank caller y == rank called x) ≡ true) × (are_actuals_for caller called ds (actuals_named given) ≡ true)
    both = and_true (rank caller y == rank called x) (are_actuals_for caller called ds (actuals_named given)) h

    go : (t : Bool) → name_eq d x ≡ t → (if t then Some y else beside ds given d) ≡ Some a → (beside ds given d ≡ Some a → rank caller a ≡ rank called d) → rank caller a ≡ rank called d
    go true e b ih = let same : y ≡ a = cc in ap (rank caller) (sym same) ∙ nat_same (rank caller y) (rank called x) both.0 ∙ ap (rank called) (sym (name_same d x e))
    go false e b ih = ih b
