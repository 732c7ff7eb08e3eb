-- What it means that a variable is in a list of those of a term or of a statement.
use Rattle.std.proofs.Common.{◌≡◌, ◌⊎◌, inl, inr, zero, suc, List, ◌∷◌, ◌++◌, Bool, true, false, refl, sym, ap, ◌∙◌}
use Rattle.std.specs.Prelude.{Contains, ◌||◌, ◌&&◌, []}
use Rattle.std.proofs.lemmas.Bool.{or_cases}
use Rattle.std.proofs.lemmas.List.Elements.{Contains-append_left, Contains-append_right, Contains-append_cases}
use Rattle.adj_tree.specs.Code.{Var, var_eq, plus, minus, times, quot, modulo, greater, lesser, Term, lit, var, elem, neg, bin, pow, power_of, abs, Terms, none, more, Test, compare, negation, conjunction, disjunction, Mark, unmarked, with_count, count_from, Act, assign, choose, loop, during, call, runtime, Procedure}
use Rattle.def_meaning.specs.Read.{reads_term, reads_terms, reads_test, reads_mark, reads_actual, reads_actuals, looked_at}
use Rattle.def_meaning.specs.Written.{is_place_of, is_handed_back}
use Rattle.def_meaning.proofs.Booleans.{or_first, or_second}
use Rattle.def_meaning.proofs.Variables.{var_refl, var_same}
use Rattle.def_names.specs.Uses.{uses}
use Rattle.def_names.specs.VariableLists.{has, list_if, whole_or, vars_in, vars_in_terms, vars_in_test, vars_in_mark, occurring_in, read_in_actual, read_in_actuals, place_of_actual, handed_in_actuals, used_in, standing_in}
use Rattle.adj_reach.proofs.Members.{is_first, is_later, is_among, is_none}
use Rattle.def_names.proofs.Conditioned.{if_only}

-- a member is told by a test
pub has_only : (xs : List Var) (v : Var) → has xs v ≡ true → Contains xs v
has_only [] v h = absurd cc
has_only (x ∷ xs) v h = go (or_cases (var_eq v x) (has xs v) h) (has_only xs v)
  where
    go : (var_eq v x ≡ true) ⊎ (has xs v ≡ true) → (has xs v ≡ true → Contains xs v) → Contains (x ∷ xs) v
    go (inl e) r = is_first v x xs (sym (var_same v x e))
    go (inr e) r = is_later v x xs (r e)

pub has_it : (xs : List Var) (v : Var) → Contains xs v → has xs v ≡ true
has_it [] v c = absurd (is_none v c)
has_it (x ∷ xs) v c = go (is_among v x xs c) (has_it xs v)
  where
    go : (x ≡ v) ⊎ Contains xs v → (Contains xs v → has xs v ≡ true) → (var_eq v x || has xs v) ≡ true
    go (inl e) r = or_first (var_eq v x) (has xs v) (ap (λ z. var_eq v z) e ∙ var_refl v)
    go (inr d) r = or_second (var_eq v x) (has xs v) (r d)

or_false : (b : Bool) → (b || false) ≡ b
or_false true = refl
or_false false = refl

or_assoc : (a b c : Bool) → ((a || b) || c) ≡ (a || (b || c))
or_assoc true b c = refl
or_assoc false b c = refl

pub has_append : (xs ys : List Var) (v : Var) → has (xs ++ ys) v ≡ (has xs v || has ys v)
has_append [] ys v = refl
has_append (x ∷ xs) ys v = ap (λ z. var_eq v x || z) (has_append xs ys v) ∙ sym (or_assoc (var_eq v x) (has xs v) (has ys v))

-- two lists that hold two sets hold both together
pub joint : (xs ys : List Var) (v : Var) {a b : Bool} → has xs v ≡ a → has ys v ≡ b → has (xs ++ ys) v ≡ (a || b)
joint xs ys v e f = has_append xs ys v ∙ (λ i. e i || f i)

pub has_if : (b : Bool) (xs : List Var) (v : Var) {a : Bool} → has xs v ≡ a → has (list_if b xs) v ≡ (b && a)
has_if true xs v e = e
has_if false xs v e = refl

pub single : (v x : Var) → has (x ∷ []) v ≡ var_eq v x
single v x = or_false (var_eq v x)

-- members of two lists are members of two wider ones
pub within : (ps qs xs ys : List Var) (v : Var) → (Contains ps v → Contains xs v) → (Contains qs v → Contains ys v) → Contains (ps ++ qs) v → Contains (xs ++ ys) v
within ps qs xs ys v f g c = go (Contains-append_cases ps qs v c)
  where
    go : Contains ps v ⊎ Contains qs v → Contains (xs ++ ys) v
    go (inl d) = Contains-append_left xs ys v (f d)
    go (inr d) = Contains-append_right xs ys v (g d)

mutual
  pub has_vars : (v : Var) (e : Term) → has (vars_in e) v ≡ reads_term v e
  has_vars v (lit z) = refl
  has_vars v (var x) = single v x
  has_vars v (elem x subs) = ap (λ z. var_eq v x || z) (has_vars_terms v subs)
  has_vars v (neg a) = has_vars v a
  has_vars v (bin op a b) = joint (vars_in a) (vars_in b) v (has_vars v a) (has_vars v b)
  has_vars v (pow a k) = has_vars v a
  has_vars v (power_of a b) = joint (vars_in a) (vars_in b) v (has_vars v a) (has_vars v b)
  has_vars v (abs a) = has_vars v a

  pub has_vars_terms : (v : Var) (es : Terms) → has (vars_in_terms es) v ≡ reads_terms v es
  has_vars_terms v none = refl
  has_vars_terms v (more e es) = joint (vars_in e) (vars_in_terms es) v (has_vars v e) (has_vars_terms v es)

has_vars_test : (v : Var) (c : Test) → has (vars_in_test c) v ≡ reads_test v c
has_vars_test v (compare r a b) = joint (vars_in a) (vars_in b) v (has_vars v a) (has_vars v b)
has_vars_test v (negation c) = has_vars_test v c
has_vars_test v (conjunction c d) = joint (vars_in_test c) (vars_in_test d) v (has_vars_test v c) (has_vars_test v d)
has_vars_test v (disjunction c d) = joint (vars_in_test c) (vars_in_test d) v (has_vars_test v c) (has_vars_test v d)

has_vars_mark : (v : Var) (m : Mark) → has (vars_in_mark m) v ≡ reads_mark v m
has_vars_mark v unmarked = refl
has_vars_mark v (with_count m) = refl
has_vars_mark v (count_from x) = single v x

-- what the adjoint of a term reads stands there
pub whole_stands : (b : Bool) (whole part : List Var) (v : Var) → (Contains part v → Contains whole v) → Contains (whole_or b whole part) v → Contains whole v
whole_stands true whole part v f c = c
whole_stands false whole part v f c = f c

-- a list that holds a set, or else a part of it that holds another
pub has_whole : (b : Bool) (whole part : List Var) (v : Var) {p q : Bool} → has whole v ≡ p → has part v ≡ q → (Contains part v → Contains whole v) → has (whole_or b whole part) v ≡ ((b && p) || q)
has_whole false whole part v e f within = f
has_whole true whole part v {p} {q} e f within = e ∙ go p q (λ h. sym e ∙ has_it whole v (within (has_only part v (f ∙ h))))
  where
    go : (p q : Bool) → (q ≡ true → p ≡ true) → p ≡ (p || q)
    go true q h = refl
    go false true h = h refl
    go false false h = refl

pub turned_or : (p q x y : Bool) → ((p || q) || (x || y)) ≡ (x || (p || (q || y)))
turned_or true q true y = refl
turned_or true q false y = refl
turned_or false true true y = refl
turned_or false true false y = refl
turned_or false false x y = refl

and_single : (w : Bool) (v x : Var) → has (list_if w (x ∷ [])) v ≡ (w && var_eq v x)
and_single w v x = has_if w (x ∷ []) v (single v x)

has_actual : (v : Var) (w : Bool) (e : Term) → has (read_in_actual w e) v ≡ reads_actual v w e
has_actual v w (lit z) = refl
has_actual v w (var x) = and_single w v x
has_actual v w (elem x subs) = joint (list_if w (x ∷ [])) (vars_in_terms subs) v (and_single w v x) (has_vars_terms v subs)
has_actual v w (neg a) = has_vars v a
has_actual v w (bin op a b) = joint (vars_in a) (vars_in b) v (has_vars v a) (has_vars v b)
has_actual v w (pow a k) = has_vars v a
has_actual v w (power_of a b) = joint (vars_in a) (vars_in b) v (has_vars v a) (has_vars v b)
has_actual v w (abs a) = has_vars v a

has_actuals : (v : Var) (ws : List Bool) (es : Terms) → has (read_in_actuals ws es) v ≡ reads_actuals v ws es
has_actuals v ws none = refl
has_actuals v [] (more e es) = joint (read_in_actual false e) (read_in_actuals [] es) v (has_actual v false e) (has_actuals v [] es)
has_actuals v (w ∷ ws) (more e es) = joint (read_in_actual w e) (read_in_actuals ws es) v (has_actual v w e) (has_actuals v ws es)

has_place : (v : Var) (e : Term) → has (place_of_actual e) v ≡ is_place_of v e
has_place v (lit z) = refl
has_place v (var x) = single v x
has_place v (elem x subs) = single v x
has_place v (neg a) = refl
has_place v (bin op a b) = refl
has_place v (pow a k) = refl
has_place v (power_of a b) = refl
has_place v (abs a) = refl

pub has_handed : (v : Var) (ws : List Bool) (es : Terms) → has (handed_in_actuals ws es) v ≡ is_handed_back v ws es
has_handed v [] es = refl
has_handed v (w ∷ ws) none = refl
has_handed v (w ∷ ws) (more e es) = joint (list_if w (place_of_actual e)) (handed_in_actuals ws es) v (has_if w (place_of_actual e) v (has_place v e)) (has_handed v ws es)

pub has_used : (units : List Procedure) (v : Var) (a : Act) → has (used_in units a) v ≡ uses units a v
has_used units v (assign x subs e) = joint (vars_in e) (vars_in_terms subs) v (has_vars v e) (has_vars_terms v subs)
has_used units v (choose c a b) = has_vars_test v c
has_used units v (loop x first last by body m) =
    joint (vars_in first) (vars_in last ++ (vars_in by ++ vars_in_mark m)) v (has_vars v first)
    (joint (vars_in last) (vars_in by ++ vars_in_mark m) v (has_vars v last) (joint (vars_in by) (vars_in_mark m) v (has_vars v by) (has_vars_mark v m)))
has_used units v (during c body) = has_vars_test v c
has_used units v (call name args) = has_actuals v (looked_at units name) args
has_used units v (runtime r) = refl

-- what occurs stands there
pub occurs_stands : (v : Var) (e : Term) → Contains (occurring_in e) v → Contains (vars_in e) v
occurs_stands v (lit z) c = c
occurs_stands v (var x) c = c
occurs_stands v (elem x subs) c = Contains-append_left (x ∷ []) (vars_in_terms subs) v c
occurs_stands v (neg a) c = occurs_stands v a c
occurs_stands v (bin plus a b) c = within (occurring_in a) (occurring_in b) (vars_in a) (vars_in b) v (occurs_stands v a) (occurs_stands v b) c
occurs_stands v (bin minus a b) c = within (occurring_in a) (occurring_in b) (vars_in a) (vars_in b) v (occurs_stands v a) (occurs_stands v b) c
occurs_stands v (bin times a b) c = within (occurring_in a) (occurring_in b) (vars_in a) (vars_in b) v (occurs_stands v a) (occurs_stands v b) c
occurs_stands v (bin quot a b) c = absurd (is_none v c)
occurs_stands v (bin modulo a b) c = absurd (is_none v c)
occurs_stands v (bin greater a b) c = absurd (is_none v c)
occurs_stands v (bin lesser a b) c = absurd (is_none v c)
occurs_stands v (pow a zero) c = absurd (is_none v c)
occurs_stands v (pow a (suc k)) c = occurs_stands v a c
occurs_stands v (power_of a b) c = Contains-append_left (vars_in a) (vars_in b) v (occurs_stands v a c)
occurs_stands v (abs a) c = absurd (is_none v c)

-- what is read of an actual stands in it
read_stands : (w : Bool) (e : Term) (v : Var) → Contains (read_in_actual w e) v → Contains (vars_in e) v
read_stands w (lit z) v c = c
read_stands w (var x) v c = (if_only w (x ∷ []) v c).1
read_stands w (elem x subs) v c = within (list_if w (x ∷ [])) (vars_in_terms subs) (x ∷ []) (vars_in_terms subs) v (λ d. (if_only w (x ∷ []) v d).1) (λ d. d) c
read_stands w (neg a) v c = c
read_stands w (bin op a b) v c = c
read_stands w (pow a k) v c = c
read_stands w (power_of a b) v c = c
read_stands w (abs a) v c = c

reads_stand : (ws : List Bool) (es : Terms) (v : Var) → Contains (read_in_actuals ws es) v → Contains (vars_in_terms es) v
reads_stand ws none v c = c
reads_stand [] (more e es) v c = within (read_in_actual false e) (read_in_actuals [] es) (vars_in e) (vars_in_terms es) v (read_stands false e v) (reads_stand [] es v) c
reads_stand (w ∷ ws) (more e es) v c = within (read_in_actual w e) (read_in_actuals ws es) (vars_in e) (vars_in_terms es) v (read_stands w e v) (reads_stand ws es v) c

-- what a statement uses stands in it
pub used_stands : (units : List Procedure) (v : Var) (a : Act) → Contains (used_in units a) v → Contains (standing_in a) v
used_stands units v (assign x subs e) c = is_later v x (vars_in_terms subs ++ vars_in e) (go (Contains-append_cases (vars_in e) (vars_in_terms subs) v c))
  where
    go : Contains (vars_in e) v ⊎ Contains (vars_in_terms subs) v → Contains (vars_in_terms subs ++ vars_in e) v
    go (inl d) = Contains-append_right (vars_in_terms subs) (vars_in e) v d
    go (inr d) = Contains-append_left (vars_in_terms subs) (vars_in e) v d
used_stands units v (choose c1 a b) c = c
used_stands units v (loop x first last by body m) c = is_later v x (vars_in first ++ (vars_in last ++ (vars_in by ++ vars_in_mark m))) c
used_stands units v (during c1 body) c = c
used_stands units v (call name args) c = reads_stand (looked_at units name) args v c
used_stands units v (runtime r) c = c
