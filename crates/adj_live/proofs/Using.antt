-- What statements use, hand back and pass, by which dummies units read and write.
use Rattle.std.proofs.Common.{◌≡◌, ◌⊎◌, inl, inr, ℕ, suc, List, ◌∷◌, ◌++◌, Bool, true, false, map, refl, sym, ap, ◌∙◌}
use Rattle.std.specs.Prelude.{Contains, Option, Some, None, ◌&&◌, flat_map, if◌then◌else◌, []}
use Rattle.std.proofs.lemmas.List.Concat.{flat_map-cons}
use Rattle.std.proofs.lemmas.List.Elements.{Contains-append_left, Contains-append_right, Contains-append_cases}
use Rattle.adj_tree.specs.Code.{Var, name_eq, Terms, Term, lit, var, elem, neg, bin, pow, power_of, abs, none, more, Act, assign, choose, loop, during, call, runtime, Procedure}
use Rattle.def_meaning.specs.LeastSet.{row_of, least_rows, Rule, in_least}
use Rattle.def_meaning.specs.Read.{looked_at, is_read, read_rule}
use Rattle.def_meaning.specs.Written.{handed_back}
use Rattle.def_meaning.proofs.LeastSets.{least_row}
use Rattle.def_meaning.proofs.ReadsMore.{read_rises}
use Rattle.def_names.specs.Numbers.{behind}
use Rattle.def_flow.specs.Parts.{Part, part, parts_from, parts, find_part}
use Rattle.def_names.specs.StatementsIn.{statements_in}
use Rattle.def_names.specs.VariableLists.{list_if, vars_in, vars_in_terms, used_in, handed_in, read_in_actuals, place_of_actual, handed_in_actuals, standing_in}
use Rattle.def_flow.specs.Problem.{bound, name_of, with_actual}
use Rattle.def_flow.specs.Rules.{list_of}
use Rattle.adj_reach.proofs.Members.{is_first, is_none, is_only}
use Rattle.def_names.proofs.Conditioned.{if_only}
use Rattle.adj_flow.specs.Passed.{passed_in}
use Rattle.adj_live.specs.Passed.{used_by, handed_by}
use Rattle.adj_flow.proofs.UnitFound.{unit_found}

-- ---- by the rows of the least sets

pub used_same : (units : List Procedure) (read : List ℕ → List Bool) → ((x : List ℕ) → read x ≡ looked_at units x) → (a : Act) → used_by read a ≡ used_in units a
used_same units read h (assign x subs e) = refl
used_same units read h (choose c a b) = refl
used_same units read h (loop x first last by body m) = refl
used_same units read h (during c body) = refl
used_same units read h (call name args) = ap (λ ws. read_in_actuals ws args) (h name)
used_same units read h (runtime r) = refl

pub handed_same : (units : List Procedure) (written : List ℕ → List Bool) → ((x : List ℕ) → written x ≡ handed_back units x) → (a : Act) → handed_by written a ≡ handed_in units a
handed_same units written h (assign x subs e) = refl
handed_same units written h (choose c a b) = refl
handed_same units written h (loop x first last by body m) = refl
handed_same units written h (during c body) = refl
handed_same units written h (call name args) = ap (λ ws. handed_in_actuals ws args) (h name)
handed_same units written h (runtime r) = refl

-- ---- the unit of a name, and its row

-- a name that no unit has has no row
no_row : (t u i : ℕ) (ps : List Procedure) (rows : List (List Bool)) (name : List ℕ) → find_part (parts_from t u i ps) name ≡ None → row_of ps rows name ≡ []
no_row t u i [] rows name e = refl
no_row t u i (p ∷ ps) [] name e = refl
no_row t u i (p ∷ ps) (ws ∷ rows) name e = go (name_eq p.name name) e (no_row t (suc u) (behind i p.body) ps rows name)
  where
    go : (b : Bool) → (if b then Some (part t u i p) else find_part (parts_from t (suc u) (behind i p.body) ps) name) ≡ None → (find_part (parts_from t (suc u) (behind i p.body) ps) name ≡ None → row_of ps rows name ≡ []) → (if b then ws else row_of ps rows name) ≡ []
    go true h r = absurd cc
    go false h r = r h

pub no_dummies : (rule : Rule) (units : List Procedure) (name : List ℕ) → find_part (parts units) name ≡ None → in_least rule units name ≡ []
no_dummies rule units name e = no_row (statements_in 0 units) 0 0 units (least_rows rule units) name e

-- its row says of each dummy whether it is read
pub read_row : (units : List Procedure) (name : List ℕ) (g : Part) → find_part (parts units) name ≡ Some g → looked_at units name ≡ map (is_read units g.unit) g.unit.dummies
read_row units name g e = least_row read_rule read_rises units name g.unit (unit_found (statements_in 0 units) 0 0 units name g e)

-- ---- what is passed to flagged dummies

-- what is made of the actuals of flagged dummies is made of the dummies with their actuals
pub passed_bound : {X : Type 0} (b : List ℕ → Bool) (t : Var → Bool) (f : Var → List X) (ds : List (List ℕ)) (args : Terms) →
    flat_map (λ v. list_if (t v) (f v)) (passed_in (map b ds) args) ≡ flat_map (λ c. list_if (b c.0 && t c.1) (f c.1)) (bound ds args)
passed_bound b t f [] args = refl
passed_bound b t f (d ∷ ds) none = refl
passed_bound b t f (d ∷ ds) (more e es) = go (name_of e) (b d) refl (passed_bound b t f ds es)
  where
    go : (o : Option Var) (c : Bool) → b d ≡ c → flat_map (λ v. list_if (t v) (f v)) (passed_in (map b ds) es) ≡ flat_map (λ q. list_if (b q.0 && t q.1) (f q.1)) (bound ds es) →
        flat_map (λ v. list_if (t v) (f v)) (list_if c (list_of o) ++ passed_in (map b ds) es) ≡ flat_map (λ q. list_if (b q.0 && t q.1) (f q.1)) (with_actual d o (bound ds es))
    go None true h r = r
    go None false h r = r
    go (Some v) true h r =
        flat_map-cons (λ u. list_if (t u) (f u)) v (passed_in (map b ds) es) ∙ (λ i. list_if (sym h i && t v) (f v) ++ r i) ∙ sym (flat_map-cons (λ (q : List ℕ × Var). list_if (b q.0 && t q.1) (f q.1)) (d, v) (bound ds es))
    go (Some v) false h r =
        r ∙ (λ i. list_if (sym h i && t v) (f v) ++ flat_map (λ (q : List ℕ × Var). list_if (b q.0 && t q.1) (f q.1)) (bound ds es)) ∙ sym (flat_map-cons (λ (q : List ℕ × Var). list_if (b q.0 && t q.1) (f q.1)) (d, v) (bound ds es))

-- ---- what a call may write stands in it

place_stands : (v : Var) (e : Term) → Contains (place_of_actual e) v → Contains (vars_in e) v
place_stands v (lit z) c = absurd (is_none v c)
place_stands v (var x) c = c
place_stands v (elem x subs) c = is_first v x (vars_in_terms subs) (is_only v x c)
place_stands v (neg a) c = absurd (is_none v c)
place_stands v (bin op a b) c = absurd (is_none v c)
place_stands v (pow a n) c = absurd (is_none v c)
place_stands v (power_of a b) c = absurd (is_none v c)
place_stands v (abs a) c = absurd (is_none v c)

handed_in_call : (v : Var) (ws : List Bool) (args : Terms) → Contains (handed_in_actuals ws args) v → Contains (vars_in_terms args) v
handed_in_call v [] args c = absurd (is_none v c)
handed_in_call v (w ∷ ws) none c = absurd (is_none v c)
handed_in_call v (w ∷ ws) (more e es) c = go (Contains-append_cases (list_if w (place_of_actual e)) (handed_in_actuals ws es) v c) (handed_in_call v ws es)
  where
    go : Contains (list_if w (place_of_actual e)) v ⊎ Contains (handed_in_actuals ws es) v → (Contains (handed_in_actuals ws es) v → Contains (vars_in_terms es) v) → Contains (vars_in e ++ vars_in_terms es) v
    go (inl d) r = Contains-append_left (vars_in e) (vars_in_terms es) v (place_stands v e (if_only w (place_of_actual e) v d).1)
    go (inr d) r = Contains-append_right (vars_in e) (vars_in_terms es) v (r d)

pub handed_stands : (units : List Procedure) (v : Var) (a : Act) → Contains (handed_in units a) v → Contains (standing_in a) v
handed_stands units v (assign x subs e) c = absurd (is_none v c)
handed_stands units v (choose q a b) c = absurd (is_none v c)
handed_stands units v (loop x first last by body m) c = absurd (is_none v c)
handed_stands units v (during q body) c = absurd (is_none v c)
handed_stands units v (call name args) c = handed_in_call v (handed_back units name) args c
handed_stands units v (runtime r) c = absurd (is_none v c)
