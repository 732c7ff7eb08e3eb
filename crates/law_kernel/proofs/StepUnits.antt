-- Units, and what they become where the bodies of marked loops are called.
use Rattle.std.proofs.Common.{◌≡◌, ℕ, suc, ◌+◌, ◌⊎◌, inl, inr, Bool, true, false, List, [], ◌∷◌, ◌++◌, map, refl, sym, ap, ◌∙◌}
use Rattle.std.proofs.lemmas.Bool.{or_cases}
use Rattle.std.specs.Prelude.{◌||◌, ◌&&◌, ◌==◌, length, Some, pos, int_le, Ok}
use Rattle.adj_tree.specs.Code.{Role, Var, plain, shadow, helper, var_eq, name_eq, Terms, none, more, unmarked, with_count, count_from, Act, assign, choose, loop, during, call, runtime, Code, stop, step, Declaration, Procedure}
use Rattle.adj_tree.proofs.Names.{name_same}
use Rattle.def_meaning.specs.Trap.{then_ok}
use Rattle.def_meaning.specs.Numbers.{Numbers}
use Rattle.def_meaning.specs.Store.{Shape, Store}
use Rattle.def_meaning.specs.Value.{Setting}
use Rattle.def_meaning.specs.LeastSet.{Dummies, IsWithin}
use Rattle.def_meaning.specs.Written.{find_unit, is_handed_back, act_writes, writes, handed_back, is_written}
use Rattle.def_meaning.specs.Units.{Actual, actual_of, actuals, declared, extent_in, extents_of, shape_of, are_extents, elements, shape_fits, dummies_fit}
use Rattle.def_meaning.proofs.Booleans.{or_first, or_second, or_more, and_true}
use Rattle.law_meaning.proofs.Dependence.{shape_same}
use Rattle.law_meaning.proofs.Inversions.{then_ok_is}
use Rattle.law_meaning.proofs.WriteSets.{handed_written}
use Rattle.def_meaning.proofs.WritesMore.{handed_more}
use Rattle.def_meaning.specs.Apart.{has_name, is_named}
use Rattle.law_kernel.specs.Apart.{ActInside, CodeInside, EachCall', EachCall}
use Rattle.def_kernel.specs.Kernel.{named, names_in_code, names_of}
use Rattle.law_kernel.specs.Fits.{is_of, PlainAct, PlainCode}
use Rattle.def_kernel.specs.Stepped.{marked_in, marked_in_act, variables_of, is_extent_of, step_dummies, as_actuals, step_name, cut_act, cut, step_unit}
use Rattle.law_kernel.specs.StepTheorem.{StepsThereAct, StepsThere, fits_itself, OneFor, IsMatched, HasExtents}
use Rattle.law_kernel.proofs.Locals.{has_second, own_code}
use Rattle.law_kernel.proofs.StepNames.{loop_named, writes_inside, listed_once, used_has}

-- ---- arrays that fit themselves

-- one that fits a shape fits itself
pub fits_by : {C : Type 0} (n : Numbers C) (u : Procedure) (s : Store C) (x : Var) (sh : Shape) → (length (declared u.declarations x) == 0 || shape_fits (extents_of n u s x) sh) ≡ true → fits_itself n u s x ≡ true
fits_by n u s x sh h = go (length (declared u.declarations x) == 0) h
  where
    go : (b : Bool) → (b || shape_fits (extents_of n u s x) sh) ≡ true → (b || shape_fits (extents_of n u s x) (shape_of (extents_of n u s x))) ≡ true
    go true h = refl
    go false h =
        let p = and_true (are_extents (extents_of n u s x)) _ h in
        let q = and_true (int_le (elements (extents_of n u s x)) (pos 1048576)) _ p.1 in
        ap (shape_fits (extents_of n u s x)) (shape_same (shape_of (extents_of n u s x)) sh q.1) ∙ h

-- what isn't of the text isn't declared
undeclared_shadow : (ds : List Declaration) (x : List ℕ) → declared ds (shadow x) ≡ []
undeclared_shadow [] x = refl
undeclared_shadow (d ∷ ds) x = undeclared_shadow ds x

undeclared_helper : (ds : List Declaration) (r : Role) (k : ℕ) → declared ds (helper r k) ≡ []
undeclared_helper [] r k = refl
undeclared_helper (d ∷ ds) r k = undeclared_helper ds r k

-- as many of one as of the other
abbrev SameCount : {C : Type 0} → List (List ℕ) → List (Actual C) → Type 0
SameCount [] [] = Unit {0}
SameCount [] (a ∷ got) = ⊥
SameCount (d ∷ ds) [] = ⊥
SameCount (d ∷ ds) (a ∷ got) = SameCount ds got

pub same_count : {C : Type 0} (n : Setting C) (ds : List (List ℕ)) (es : Terms) (s : Store C) (got : List (Actual C)) → OneFor ds es → actuals n es s ≡ Ok got → SameCount ds got
same_count n [] none s [] o h = tt
same_count n [] none s (a ∷ got) o h = absurd (let e : Ok [] ≡ Ok (a ∷ got) = h in cc)
same_count n [] (more e es) s got o h = absurd o
same_count n (d ∷ ds) none s got o h = absurd o
same_count n (d ∷ ds) (more e es) s [] o h =
    let v = then_ok_is (actual_of n e s) (λ a. then_ok (actuals n es s) (λ got. Ok (a ∷ got))) [] h in
    let vs = then_ok_is (actuals n es s) (λ got. Ok (v.value ∷ got)) [] v.goes in
    absurd (let e : Ok (v.value ∷ vs.value) ≡ Ok [] = vs.goes in cc)
same_count n (d ∷ ds) (more e es) s (a ∷ got) o h =
    let v = then_ok_is (actual_of n e s) (λ a. then_ok (actuals n es s) (λ got. Ok (a ∷ got))) (a ∷ got) h in
    let vs = then_ok_is (actuals n es s) (λ got. Ok (v.value ∷ got)) (a ∷ got) v.goes in
    let others : vs.value ≡ got = cc in
    same_count n ds es s got o (vs.is ∙ ap Ok others)

-- each dummy of a unit whose dummies fit
pub dummy_fits : {C : Type 0} (n : Numbers C) (u : Procedure) (s : Store C) (ds : List (List ℕ)) (got : List (Actual C)) (y : List ℕ) → SameCount ds got → dummies_fit n u s ds got ≡ true → has_name y ds ≡ true → fits_itself n u s (plain y) ≡ true
dummy_fits n u s [] got y c f h = absurd cc
dummy_fits n u s (d ∷ ds) [] y c f h = absurd c
dummy_fits n u s (d ∷ ds) (a ∷ got) y c f h = go (or_cases (name_eq y d) (has_name y ds) h) (λ k. dummy_fits n u s ds got y c p.1 k)
  where
    p : ((length (declared u.declarations (plain d)) == 0 || shape_fits (extents_of n u s (plain d)) a.shape) ≡ true) × (dummies_fit n u s ds got ≡ true)
    p = and_true (length (declared u.declarations (plain d)) == 0 || shape_fits (extents_of n u s (plain d)) a.shape) (dummies_fit n u s ds got) f

    go : (name_eq y d ≡ true) ⊎ (has_name y ds ≡ true) → (has_name y ds ≡ true → fits_itself n u s (plain y) ≡ true) → fits_itself n u s (plain y) ≡ true
    go (inl e) ih = ap (λ z. fits_itself n u s (plain z)) (name_same y d e) ∙ fits_by n u s (plain d) a.shape p.0
    go (inr e) ih = ih e

-- so each variable of a unit
pub all_fit : {C : Type 0} (n : Numbers C) (units : List Procedure) (u : Procedure) (s : Store C) → HasExtents C units u → ((y : List ℕ) → has_name y u.dummies ≡ true → fits_itself n u s (plain y) ≡ true) → (x : Var) → fits_itself n u s x ≡ true
all_fit n units u s e h (plain y) = go (has_name y u.dummies) refl
  where
    go : (b : Bool) → has_name y u.dummies ≡ b → fits_itself n u s (plain y) ≡ true
    go true f = h y f
    go false f = e.locals_fit n s y f
all_fit n units u s e h (shadow y) = ap (λ l. length l == 0 || shape_fits (map (extent_in n s) l) (shape_of (map (extent_in n s) l))) (undeclared_shadow u.declarations y)
all_fit n units u s e h (helper r k) = ap (λ l. length l == 0 || shape_fits (map (extent_in n s) l) (shape_of (map (extent_in n s) l))) (undeclared_helper u.declarations r k)

-- ---- what is written stays so

handed_names : (y : List ℕ) (f : List ℕ → Bool) (vs : List (List ℕ)) → has_name y vs ≡ true → f y ≡ true → is_handed_back (plain y) (map f vs) (as_actuals vs) ≡ true
handed_names y f [] h g = absurd cc
handed_names y f (v ∷ vs) h g = go (or_cases (name_eq y v) (has_name y vs) h) (λ k. handed_names y f vs k g)
  where
    go : (name_eq y v ≡ true) ⊎ (has_name y vs ≡ true) → (has_name y vs ≡ true → is_handed_back (plain y) (map f vs) (as_actuals vs) ≡ true) → ((f v && name_eq y v) || is_handed_back (plain y) (map f vs) (as_actuals vs)) ≡ true
    go (inl e) ih = or_first (f v && name_eq y v) (is_handed_back (plain y) (map f vs) (as_actuals vs)) ((λ i. f (sym (name_same y v e) i) && e i) ∙ ap (λ z. z && true) g)
    go (inr e) ih = or_second (f v && name_eq y v) (is_handed_back (plain y) (map f vs) (as_actuals vs)) (ih e)

-- the variables of a marked loop are among its step unit's dummies
pub step_body_inside : (u : Procedure) (P : List ℕ → Terms → Type 0) (x : Var) (body : Code) → PlainCode body → EachCall P body → is_of u x ≡ true → CodeInside (is_of u) body → CodeInside (is_named (step_dummies u x body)) body
step_body_inside u P x body pl p ox o =
    own_code (step_dummies u x body) body pl (λ y h.
    let g = has_second y (named x) (names_in_code body) h in
    used_has u.declarations (named x ++ names_in_code body) (variables_of u) y (listed_once y (names_of u) (loop_named y (is_of u) P x body ox o p g)) (or_first (has_name y (named x ++ names_in_code body)) (is_extent_of u.declarations y (named x ++ names_in_code body)) g))

module _ (units units' : List Procedure) (fewer : Dummies) (within : (name : List ℕ) (v : Procedure) → find_unit units name ≡ Some v → IsWithin (fewer name) (handed_back units' name)) (taken : List (List ℕ)) (u : Procedure) where
  -- what the body writes its step unit writes
  by_step : (k line : ℕ) (x : Var) (body : Code) (y : List ℕ) → PlainCode body → EachCall (IsMatched units) body → find_unit units' (step_name taken u.name k) ≡ Some (step_unit taken u k line x body) → is_of u x ≡ true → CodeInside (is_of u) body →
      writes fewer (plain y) body ≡ true → writes (handed_back units') (plain y) (cut taken u (suc k) body) ≡ true → (is_handed_back (plain y) (handed_back units' (step_name taken u.name k)) (as_actuals (step_dummies u x body)) || false) ≡ true
  by_step k line x body y pl p found ox o h ih =
      let vs = step_dummies u x body in
      let there = writes_inside (is_named vs) fewer (IsMatched units) (plain y) body (step_body_inside u (IsMatched units) x body pl p ox o) p h in
      or_first (is_handed_back (plain y) (handed_back units' (step_name taken u.name k)) (as_actuals vs)) false
      (ap (λ z. is_handed_back (plain y) z (as_actuals vs)) (handed_written units' (step_name taken u.name k) (step_unit taken u k line x body) found)
      ∙ handed_names y (is_written units' (step_unit taken u k line x body)) vs there ih)

  mutual
    -- what a statement writes its cut statement writes
    covered_act : (k line : ℕ) (a : Act) (y : List ℕ) → PlainAct a → EachCall' (IsMatched units) a → StepsThereAct units' taken u k line a → ActInside (is_of u) a → act_writes fewer (plain y) a ≡ true → act_writes (handed_back units') (plain y) (cut_act taken u k line a) ≡ true
    covered_act k line (assign x subs e) y pl p st o h = h
    covered_act k line (choose c a b) y pl p st o h =
        or_more (writes fewer (plain y) a) (writes fewer (plain y) b) (writes (handed_back units') (plain y) (cut taken u k a)) (writes (handed_back units') (plain y) (cut taken u (k + marked_in a) b))
        (covered k a y pl.1.0 p.0 st.0 o.1.0) (covered (k + marked_in a) b y pl.1.1 p.1 st.1 o.1.1) h
    covered_act k line (loop x first last by body unmarked) y pl p st o h =
        or_more (var_eq (plain y) x) (writes fewer (plain y) body) (var_eq (plain y) x) (writes (handed_back units') (plain y) (cut taken u k body)) (λ z. z) (covered k body y pl.1.1 p st o.1.1) h
    covered_act k line (loop x first last by body (with_count m)) y pl p st o h =
        or_more (var_eq (plain y) x) (writes fewer (plain y) body) (var_eq (plain y) x) (is_handed_back (plain y) (handed_back units' (step_name taken u.name k)) (as_actuals (step_dummies u x body)) || false) (λ z. z)
        (λ z. by_step k line x body y pl.1.1 p st.0 o.0 o.1.1 z (covered (suc k) body y pl.1.1 p st.1 o.1.1 z)) h
    covered_act k line (loop x first last by body (count_from counter)) y pl p st o h =
        or_more (var_eq (plain y) x) (writes fewer (plain y) body) (var_eq (plain y) x) (is_handed_back (plain y) (handed_back units' (step_name taken u.name k)) (as_actuals (step_dummies u x body)) || false) (λ z. z)
        (λ z. by_step k line x body y pl.1.1 p st.0 o.0 o.1.1 z (covered (suc k) body y pl.1.1 p st.1 o.1.1 z)) h
    covered_act k line (during c body) y pl p st o h = covered k body y pl.1 p st o.1 h
    covered_act k line (call name args) y pl p st o h = handed_more (plain y) (fewer name) (handed_back units' name) args (within name p.called p.found) h
    covered_act k line (runtime r) y pl p st o h = absurd p

    -- and of a list
    pub covered : (k : ℕ) (c : Code) (y : List ℕ) → PlainCode c → EachCall (IsMatched units) c → StepsThere units' taken u k c → CodeInside (is_of u) c → writes fewer (plain y) c ≡ true → writes (handed_back units') (plain y) (cut taken u k c) ≡ true
    covered k stop y pl p st o h = h
    covered k (step line a rest) y pl p st o h =
        or_more (act_writes fewer (plain y) a) (writes fewer (plain y) rest) (act_writes (handed_back units') (plain y) (cut_act taken u k line a)) (writes (handed_back units') (plain y) (cut taken u (k + marked_in_act a) rest))
        (covered_act k line a y pl.0 p.0 st.0 o.0) (covered (k + marked_in_act a) rest y pl.1 p.1 st.1 o.1) h
