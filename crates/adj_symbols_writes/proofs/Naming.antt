-- What statements write and read themselves, as lists of variables.
use Rattle.std.proofs.Common.{◌≡◌, Bool, true, false, List, [], ◌∷◌, ◌++◌, refl, sym, ap, ap₂, ◌∙◌, map}
use Rattle.std.specs.Prelude.{◌||◌, ◌&&◌}
use Rattle.std.specs.Borrow.{Bor}
use Rattle.std.specs.List.{flat_map, list_any}
use Rattle.adj_tree.specs.Code.{Var, plain, shadow, helper, name_eq, var_eq, Term, lit, var, elem, neg, bin, pow, power_of, abs, Terms, none, more, Runtime, push_word, pop_word, push_array, pop_array, push_control, pop_control, zero_array, begin_reversal, count_actions, give_action, end_reversal, Extent, fixed, given, Declaration}
use Rattle.def_meaning.specs.Read.{reads_term, reads_terms, reads_actual, reads_actuals, reads_runtime, names_extent, is_extent}
use Rattle.def_meaning.specs.Written.{is_place_of, is_handed_back, runtime_writes}
use Rattle.def_meaning.specs.Apart.{has_name}
use Rattle.def_names.specs.NameFaults.{extent_names}
use Rattle.def_names.specs.Variables.{Name}
use Rattle.def_names.specs.VariableLists.{has, vars_in, vars_in_terms}
use Rattle.def_names.proofs.VariableLists.{has_append, has_vars, has_vars_terms}
use Rattle.adj_symbols_writes.specs.Names.{names_among, changed_by, looked_in, extents_read}
use Rattle.adj_symbols_writes.specs.View.{names_seen, vars_seen}

-- ---- truth values

pub or_none : (b : Bool) → b ≡ (b || false)
or_none true = refl
or_none false = refl

pub or_assoc : (a b c : Bool) → ((a || b) || c) ≡ (a || (b || c))
or_assoc true b c = refl
or_assoc false b c = refl

-- the second parts behind the first
pub or_sorted : (a p b q : Bool) → ((a || p) || (b || q)) ≡ ((a || b) || (p || q))
or_sorted true p b q = refl
or_sorted false true true q = refl
or_sorted false true false q = refl
or_sorted false false b q = refl

-- ---- names

-- the names that are borrowed are those of the variables
pub seen_among : (bs : List (Bor Name)) → names_seen bs ≡ names_among (vars_seen bs)
seen_among [] = refl
seen_among (b ∷ bs) = ap (λ ns. b.now ∷ ns) (seen_among bs)

-- a name is among those of variables where its variable is one of them
pub has_among : (x : Name) (vs : List Var) → has_name x (names_among vs) ≡ has vs (plain x)
has_among x [] = refl
has_among x (plain y ∷ vs) = ap (λ b. name_eq x y || b) (has_among x vs)
has_among x (shadow y ∷ vs) = has_among x vs
has_among x (helper r k ∷ vs) = has_among x vs

-- ---- lists

-- some member has the variable where the list of all variables has it
pub any_has : {X : Type 0} (v : Var) (f : X → List Var) (xs : List X) → list_any (λ y. has (f y) v) xs ≡ has (flat_map f xs) v
any_has v f [] = refl
any_has v f (y ∷ ys) = ap (λ b. has (f y) v || b) (any_has v f ys) ∙ sym (has_append (f y) (flat_map f ys) v)

-- one of two tests
pub any_or : {X : Type 0} (f g : X → Bool) (xs : List X) → list_any (λ y. f y || g y) xs ≡ (list_any f xs || list_any g xs)
any_or f g [] = refl
any_or f g (x ∷ xs) = ap (λ b. (f x || g x) || b) (any_or f g xs) ∙ or_sorted (f x) (g x) (list_any f xs) (list_any g xs)

pub any_append : {X : Type 0} (f : X → Bool) (xs ys : List X) → list_any f (xs ++ ys) ≡ (list_any f xs || list_any f ys)
any_append f [] ys = refl
any_append f (x ∷ xs) ys = ap (λ b. f x || b) (any_append f xs ys) ∙ sym (or_assoc (f x) (list_any f xs) (list_any f ys))

module _ (v : Var) where
  pub has_one : (y : Var) → var_eq v y ≡ has (y ∷ []) v
  has_one y = or_none (var_eq v y)

  -- two tests by variables are one by both lists
  pub both : (a b : Bool) (ys zs : List Var) → a ≡ has ys v → b ≡ has zs v → (a || b) ≡ has (ys ++ zs) v
  both a b ys zs e f = ap₂ (λ p q. p || q) e f ∙ sym (has_append ys zs v)

  -- ---- what is written

  pub changed_has : (r : Runtime) → runtime_writes v r ≡ has (changed_by r) v
  changed_has (push_word y subs) = refl
  changed_has (pop_word y subs) = has_one y
  changed_has (push_array y) = refl
  changed_has (pop_array y) = has_one y
  changed_has (push_control e) = refl
  changed_has (pop_control y) = has_one y
  changed_has (zero_array y) = has_one y
  changed_has (begin_reversal l s) = refl
  changed_has (count_actions l s n) = has_one n
  changed_has (give_action l s k a f t) = ap (λ b. var_eq v a || (var_eq v f || b)) (has_one t)
  changed_has end_reversal = refl

  -- ---- what is read

  reads_has : (e : Term) → reads_term v e ≡ has (vars_in e) v
  reads_has e = sym (has_vars v e)

  all_has : (es : Terms) → reads_terms v es ≡ has (vars_in_terms es) v
  all_has es = sym (has_vars_terms v es)

  pub looked_has : (r : Runtime) → reads_runtime v r ≡ has (looked_in r) v
  looked_has (push_word y subs) = ap (λ b. var_eq v y || b) (all_has subs)
  looked_has (pop_word y subs) = all_has subs
  looked_has (push_array y) = has_one y
  looked_has (pop_array y) = refl
  looked_has (push_control e) = reads_has e
  looked_has (pop_control y) = refl
  looked_has (zero_array y) = refl
  looked_has (begin_reversal l s) = both _ _ (vars_in l) (vars_in s) (reads_has l) (reads_has s)
  looked_has (count_actions l s n) = both _ _ (vars_in l) (vars_in s) (reads_has l) (reads_has s)
  looked_has (give_action l s k a f t) = both _ _ (vars_in l) (vars_in s ++ vars_in k) (reads_has l) (both _ _ (vars_in s) (vars_in k) (reads_has s) (reads_has k))
  looked_has end_reversal = refl

  own : (w c : Bool) → c ≡ (c || (w && false))
  own true c = or_none c
  own false c = or_none c

  -- what is read of an actual whatever its dummy is, and the actual of a dummy that is read
  actual_apart : (w : Bool) (e : Term) → reads_actual v w e ≡ (reads_actual v false e || (w && is_place_of v e))
  actual_apart w (var y) = refl
  actual_apart w (elem y subs) = turned (w && var_eq v y) (reads_terms v subs)
    where
      turned : (a b : Bool) → (a || b) ≡ (b || a)
      turned true true = refl
      turned true false = refl
      turned false b = or_none b
  actual_apart w (lit z) = none_of w
    where
      none_of : (b : Bool) → false ≡ (b && false)
      none_of true = refl
      none_of false = refl
  actual_apart w (neg a) = own w (reads_term v a)
  actual_apart w (bin op a b) = own w (reads_term v (bin op a b))
  actual_apart w (pow a k) = own w (reads_term v a)
  actual_apart w (power_of a b) = own w (reads_term v (power_of a b))
  actual_apart w (abs a) = own w (reads_term v a)

  -- the same of all actuals
  pub actuals_apart : (ws : List Bool) (es : Terms) → reads_actuals v ws es ≡ (reads_actuals v [] es || is_handed_back v ws es)
  actuals_apart [] none = refl
  actuals_apart (w ∷ ws) none = refl
  actuals_apart [] (more e es) = or_none (reads_actuals v [] (more e es))
  actuals_apart (w ∷ ws) (more e es) =
      ap₂ (λ p q. p || q) (actual_apart w e) (actuals_apart ws es)
      ∙ or_sorted (reads_actual v false e) (w && is_place_of v e) (reads_actuals v [] es) (is_handed_back v ws es)

-- ---- extents

module _ (x : Name) where
  among_has : (es : List Extent) → names_extent x es ≡ has (map plain (extent_names es)) (plain x)
  among_has [] = refl
  among_has (fixed z ∷ es) = among_has es
  among_has (given y ∷ es) = ap (λ b. name_eq x y || b) (among_has es)

  pub extent_has : (ds : List Declaration) → is_extent x ds ≡ has (extents_read ds) (plain x)
  extent_has [] = refl
  extent_has (d ∷ ds) = both (plain x) _ _ (map plain (extent_names d.extents)) (extents_read ds) (among_has d.extents) (extent_has ds)
