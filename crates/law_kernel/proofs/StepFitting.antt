-- The stepped program fits where the source fits, and the bodies of its marked loops are one CALL of distinct names.
use Rattle.std.proofs.Common.{◌≡◌, ℕ, suc, ◌+◌, Bool, true, false, List, [], ◌∷◌, ◌++◌, refl, sym, ap, ◌∙◌, subst}
use Rattle.std.specs.Prelude.{◌||◌, ◌&&◌, ◌==◌, length, Some, if◌then◌else◌}
use Rattle.adj_tree.specs.Code.{Var, plain, name_eq, Term, lit, var, elem, neg, bin, pow, power_of, abs, Terms, none, more, unmarked, with_count, count_from, Act, assign, choose, loop, during, call, runtime, Code, stop, step, Declaration, Procedure}
use Rattle.adj_tree.proofs.Names.{name_refl, name_same}
use Rattle.def_meaning.specs.Read.{reads_term, reads_terms, names_extent}
use Rattle.def_meaning.specs.Written.{find_unit, is_handed_back, handed_back}
use Rattle.def_meaning.specs.Units.{declared}
use Rattle.def_meaning.proofs.Booleans.{or_false, or_first, or_second}
use Rattle.def_meaning.proofs.Variables.{var_same}
use Rattle.def_meaning.specs.Apart.{has_name, AreApart, is_named}
use Rattle.def_kernel.specs.Lowered.{other_flags}
use Rattle.law_kernel.specs.Apart.{TermsInside, ActInside, CodeInside, EachCall', EachCall}
use Rattle.def_kernel.specs.Calls.{is_name_of, stands_whole, AreHandedApart, is_scalar, ArraysStandOnce, ScalarsToScalars}
use Rattle.def_kernel.specs.Kernel.{named, names_in_code, names_of, EachUnit}
use Rattle.law_kernel.specs.Fits.{is_of, PlainTerms, PlainAct, PlainCode, IsFitCall}
use Rattle.def_kernel.specs.Form.{AreDistinctNames, IsSteppedAct, IsStepped}
use Rattle.def_kernel.specs.Stepped.{marked_in, marked_in_act, once_each, variables_of, used_among, step_dummies, as_actuals, step_declarations, step_name, cut_act, cut, step_unit, step_units_in_act, step_units_in, stepped_unit}
use Rattle.law_kernel.specs.StepTheorem.{StepsThereAct, StepsThere, IsStepFor}
use Rattle.law_kernel.proofs.Faultless.{join_units, and_none}
use Rattle.law_kernel.proofs.Locals.{own_body}
use Rattle.law_kernel.proofs.StepNames.{is_used, declared_step}
use Rattle.law_kernel.proofs.StepCalls.{Declares, declares_read, calls_step, calls_own}

-- ---- distinct names

either_false : (a b : Bool) → a ≡ false → b ≡ false → (a || b) ≡ false
either_false a b e f = ap (λ z. z || b) e ∙ f

once_new : (y : List ℕ) (before xs : List (List ℕ)) → has_name y before ≡ true → has_name y (once_each before xs) ≡ false
once_new y before [] h = refl
once_new y before (x ∷ xs) h = go (has_name x before) refl (once_new y before xs h) (once_new y (x ∷ before) xs (or_second (name_eq y x) (has_name y before) h))
  where
    go : (b : Bool) → has_name x before ≡ b → has_name y (once_each before xs) ≡ false → has_name y (once_each (x ∷ before) xs) ≡ false → has_name y (if b then once_each before xs else x ∷ once_each (x ∷ before) xs) ≡ false
    go true e ih ih1 = ih
    go false e ih ih1 = either_false (name_eq y x) (has_name y (once_each (x ∷ before) xs)) (differs (name_eq y x) refl) ih1
      where
        differs : (c : Bool) → name_eq y x ≡ c → name_eq y x ≡ false
        differs true f = absurd (let z : true ≡ false = sym h ∙ ap (λ v. has_name v before) (name_same y x f) ∙ e in cc)
        differs false f = f

once_distinct : (before xs : List (List ℕ)) → AreApart (once_each before xs)
once_distinct before [] = tt
once_distinct before (x ∷ xs) = go (has_name x before) (once_distinct before xs) (once_distinct (x ∷ before) xs)
  where
    go : (b : Bool) → AreApart (once_each before xs) → AreApart (once_each (x ∷ before) xs) → AreApart (if b then once_each before xs else x ∷ once_each (x ∷ before) xs)
    go true ih ih1 = ih
    go false ih ih1 = (once_new x (x ∷ before) xs (or_first (name_eq x x) (has_name x before) (name_refl x)), ih1)

used_new : (ds : List Declaration) (names vs : List (List ℕ)) (y : List ℕ) → has_name y vs ≡ false → has_name y (used_among ds names vs) ≡ false
used_new ds names [] y h = refl
used_new ds names (v ∷ vs) y h = let p = or_false (name_eq y v) (has_name y vs) h in go (is_used ds names v) p.0 (used_new ds names vs y p.1)
  where
    go : (b : Bool) → name_eq y v ≡ false → has_name y (used_among ds names vs) ≡ false → has_name y (if b then v ∷ used_among ds names vs else used_among ds names vs) ≡ false
    go true e ih = either_false (name_eq y v) (has_name y (used_among ds names vs)) e ih
    go false e ih = ih

used_distinct : (ds : List Declaration) (names vs : List (List ℕ)) → AreApart vs → AreApart (used_among ds names vs)
used_distinct ds names [] h = tt
used_distinct ds names (v ∷ vs) h = go (is_used ds names v) (used_distinct ds names vs h.1)
  where
    go : (b : Bool) → AreApart (used_among ds names vs) → AreApart (if b then v ∷ used_among ds names vs else used_among ds names vs)
    go true ih = (used_new ds names vs v h.0, ih)
    go false ih = ih

-- the dummies of a step unit are distinct
pub dummies_distinct : (u : Procedure) (x : Var) (body : Code) → AreApart (step_dummies u x body)
dummies_distinct u x body = used_distinct u.declarations (named x ++ names_in_code body) (variables_of u) (once_distinct [] (names_of u))

-- ---- names as actuals

whole_named : (y : List ℕ) (vs : List (List ℕ)) → stands_whole (plain y) (as_actuals vs) ≡ has_name y vs
whole_named y [] = refl
whole_named y (v ∷ vs) = ap (λ z. name_eq y v || z) (whole_named y vs)

handed_named : (y : List ℕ) (ws : List Bool) (vs : List (List ℕ)) → has_name y vs ≡ false → is_handed_back (plain y) ws (as_actuals vs) ≡ false
handed_named y [] vs h = refl
handed_named y (w ∷ ws) [] h = refl
handed_named y (w ∷ ws) (v ∷ vs) h =
    let p = or_false (name_eq y v) (has_name y vs) h in either_false (w && name_eq y v) (is_handed_back (plain y) ws (as_actuals vs)) (ap (λ z. w && z) p.0 ∙ and_none w) (handed_named y ws vs p.1)

-- so are the actuals of its call
distinct_names : (vs : List (List ℕ)) → AreApart vs → AreDistinctNames (as_actuals vs)
distinct_names [] h = tt
distinct_names (v ∷ vs) h = (whole_named v vs ∙ h.0, distinct_names vs h.1)

plain_names : (vs : List (List ℕ)) → PlainTerms (as_actuals vs)
plain_names [] = tt
plain_names (v ∷ vs) = (tt, plain_names vs)

-- which are handed back apart
names_apart : (ws : List Bool) (vs : List (List ℕ)) → AreApart vs → AreHandedApart ws (as_actuals vs)
names_apart ws [] h = tt
names_apart ws (v ∷ vs) h = (
  (λ x e. ap (λ z. is_handed_back z (other_flags ws) (as_actuals vs)) (var_same x (plain v) e) ∙ handed_named v (other_flags ws) vs h.0),
  names_apart (other_flags ws) vs h.1,
)

-- and stand once
names_once : (ds : List Declaration) (vs : List (List ℕ)) → AreApart vs → ArraysStandOnce ds (as_actuals vs)
names_once ds [] h = tt
names_once ds (v ∷ vs) h = (
  (λ x e s. absurd (let z : true ≡ false = sym s ∙ ap (λ y. stands_whole y (as_actuals vs)) (var_same x (plain v) e) ∙ whole_named v vs ∙ h.0 in cc)),
  names_once ds vs h.1,
)

-- each with the rank of its dummy
names_ranks : (called calling : List Declaration) (ws : List Bool) (vs : List (List ℕ)) → ((y : List ℕ) → has_name y vs ≡ true → declared called (plain y) ≡ declared calling (plain y)) → ScalarsToScalars called calling vs ws (as_actuals vs)
names_ranks called calling ws [] h = tt
names_ranks called calling [] (v ∷ vs) h = tt
names_ranks called calling (w ∷ ws) (v ∷ vs) h = (
  (λ x wt e s. ap (is_scalar calling) (var_same x (plain v) e) ∙ ap (λ l. length l == 0) (sym (h v (or_first (name_eq v v) (has_name v vs) (name_refl v)))) ∙ s),
  names_ranks called calling ws vs (λ y k. h y (or_second (name_eq y v) (has_name y vs) k)),
)

-- ---- other declarations of the caller

name_read : (x : Var) (e : Term) → is_name_of x e ≡ true → reads_term x e ≡ true
name_read x (var y) h = h
name_read x (lit z) h = absurd cc
name_read x (elem y s) h = absurd cc
name_read x (neg a) h = absurd cc
name_read x (bin op a b) h = absurd cc
name_read x (pow a k) h = absurd cc
name_read x (power_of a b) h = absurd cc
name_read x (abs a) h = absurd cc

arrays_same : (ds es : List Declaration) (args : Terms) → ((x : Var) → reads_terms x args ≡ true → declared es x ≡ declared ds x) → ArraysStandOnce ds args → ArraysStandOnce es args
arrays_same ds es none h a = tt
arrays_same ds es (more e args) h a = (
  (λ x n s. ap (λ l. length l == 0) (h x (or_first (reads_term x e) (reads_terms x args) (name_read x e n))) ∙ a.0 x n s),
  arrays_same ds es args (λ x r. h x (or_second (reads_term x e) (reads_terms x args) r)) a.1,
)

ranks_same : (called ds es : List Declaration) (names : List (List ℕ)) (ws : List Bool) (args : Terms) → ((x : Var) → reads_terms x args ≡ true → declared es x ≡ declared ds x) → ScalarsToScalars called ds names ws args → ScalarsToScalars called es names ws args
ranks_same called ds es [] ws args h a = tt
ranks_same called ds es (d ∷ names) [] args h a = tt
ranks_same called ds es (d ∷ names) (w ∷ ws) none h a = tt
ranks_same called ds es (d ∷ names) (w ∷ ws) (more e args) h a = (
  (λ x wt n s. ap (λ l. length l == 0) (h x (or_first (reads_term x e) (reads_terms x args) (name_read x e n))) ∙ a.0 x wt n s),
  ranks_same called ds es names ws args (λ x r. h x (or_second (reads_term x e) (reads_terms x args) r)) a.1,
)

-- ---- statements

module _ (units units' : List Procedure) (stepped : (name : List ℕ) (v : Procedure) → find_unit units name ≡ Some v → IsStepFor units' name v) (same_written : (name : List ℕ) (v : Procedure) → find_unit units name ≡ Some v → handed_back units' name ≡ handed_back units name)
    (taken : List (List ℕ)) (u : Procedure)
    (own_extents : (x : Var) (d : List ℕ) → names_extent d (declared u.declarations x) ≡ true → has_name d (names_of u) ≡ true)
    (flat_extents : (x : Var) (d : List ℕ) → names_extent d (declared u.declarations x) ≡ true → declared u.declarations (plain d) ≡ []) where
  -- a call of a unit of the source
  fit_source_call : (caller : Procedure) (ns : List (List ℕ)) (name : List ℕ) (args : Terms) → Declares u caller ns → TermsInside (is_named ns) args → IsFitCall units u name args → IsFitCall units' caller name args
  fit_source_call caller ns name args d h f =
      let s = stepped name f.called f.found in
      let flags = sym (same_written name f.called f.found) in
      let same = declares_read u caller ns args d h in
      record {
        called = record (f.called) { body = cut s.taken f.called 0 f.called.body };
        found = s.found;
        once = subst (λ z. AreHandedApart z args) flags f.once;
        arrays = arrays_same u.declarations caller.declarations args same f.arrays;
        ranks = subst (λ z. ScalarsToScalars f.called.declarations caller.declarations f.called.dummies z args) flags (ranks_same f.called.declarations u.declarations caller.declarations f.called.dummies (handed_back units name) args same f.ranks);
      }

  -- the call of a step unit
  fit_step_call : (k line : ℕ) (x : Var) (body : Code) → find_unit units' (step_name taken u.name k) ≡ Some (step_unit taken u k line x body) → (caller : Procedure) (ns : List (List ℕ)) → Declares u caller ns → ((y : List ℕ) → has_name y (step_dummies u x body) ≡ true → has_name y ns ≡ true) → IsFitCall units' caller (step_name taken u.name k) (as_actuals (step_dummies u x body))
  fit_step_call k line x body found caller ns d inside =
      let vs = step_dummies u x body in
      record {
        called = step_unit taken u k line x body;
        found = found;
        once = names_apart (handed_back units' (step_name taken u.name k)) vs (dummies_distinct u x body);
        arrays = names_once caller.declarations vs (dummies_distinct u x body);
        ranks = names_ranks (step_declarations u.declarations line vs) caller.declarations (handed_back units' (step_name taken u.name k)) vs (λ y h. declared_step u.declarations line vs y h ∙ sym (d y (inside y h)));
      }

  mutual
    -- variables are of the text
    plain_act : (k line : ℕ) (a : Act) → PlainAct a → PlainAct (cut_act taken u k line a)
    plain_act k line (assign x subs e) pl = pl
    plain_act k line (choose c a b) pl = (pl.0, (plain_code k a pl.1.0, plain_code (k + marked_in a) b pl.1.1))
    plain_act k line (loop x first last by body unmarked) pl = (pl.0, (pl.1.0, plain_code k body pl.1.1))
    plain_act k line (loop x first last by body (with_count m)) pl = (pl.0, (pl.1.0, (plain_names (step_dummies u x body), tt)))
    plain_act k line (loop x first last by body (count_from counter)) pl = (pl.0, (pl.1.0, (plain_names (step_dummies u x body), tt)))
    plain_act k line (during c body) pl = (pl.0, plain_code k body pl.1)
    plain_act k line (call name args) pl = pl
    plain_act k line (runtime r) pl = tt

    plain_code : (k : ℕ) (c : Code) → PlainCode c → PlainCode (cut taken u k c)
    plain_code k stop pl = tt
    plain_code k (step line a rest) pl = (plain_act k line a pl.0, plain_code (k + marked_in_act a) rest pl.1)

  mutual
    -- the bodies of marked loops are one CALL of distinct names
    stepped_act : (k line : ℕ) (a : Act) → IsSteppedAct (cut_act taken u k line a)
    stepped_act k line (assign x subs e) = tt
    stepped_act k line (choose c a b) = (stepped_code k a, stepped_code (k + marked_in a) b)
    stepped_act k line (loop x first last by body unmarked) = (tt, stepped_code k body)
    stepped_act k line (loop x first last by body (with_count m)) = ((tt, (distinct_names (step_dummies u x body) (dummies_distinct u x body), tt)), (tt, tt))
    stepped_act k line (loop x first last by body (count_from counter)) = ((tt, (distinct_names (step_dummies u x body) (dummies_distinct u x body), tt)), (tt, tt))
    stepped_act k line (during c body) = stepped_code k body
    stepped_act k line (call name args) = tt
    stepped_act k line (runtime r) = tt

    stepped_code : (k : ℕ) (c : Code) → IsStepped (cut taken u k c)
    stepped_code k stop = tt
    stepped_code k (step line a rest) = (stepped_act k line a, stepped_code (k + marked_in_act a) rest)

  -- what is known of a unit of the stepped program
  abbrev pub Good : Procedure → Type 0
  Good p = PlainCode p.body × (EachCall (IsFitCall units' p) p.body × IsStepped p.body)

  mutual
    -- the step units of a statement fit
    good_act : (k line : ℕ) (a : Act) → ActInside (is_of u) a → PlainAct a → EachCall' (IsFitCall units u) a → StepsThereAct units' taken u k line a → EachUnit Good (step_units_in_act taken u k line a)
    good_act k line (assign x subs e) o pl p st = tt
    good_act k line (choose c a b) o pl p st = join_units Good (step_units_in taken u k a) (step_units_in taken u (k + marked_in a) b) (good_code k a o.1.0 pl.1.0 p.0 st.0) (good_code (k + marked_in a) b o.1.1 pl.1.1 p.1 st.1)
    good_act k line (loop x first last by body unmarked) o pl p st = good_code k body o.1.1 pl.1.1 p st
    good_act k line (loop x first last by body (with_count m)) o pl p st = (
      (
        plain_code (suc k) body pl.1.1,
        (
          calls_step u (IsFitCall units u) own_extents flat_extents units' taken (IsFitCall units') fit_source_call fit_step_call k line x body pl.1.1 o.0 o.1.1 p st.1,
          stepped_code (suc k) body,
        ),
      ),
      good_code (suc k) body o.1.1 pl.1.1 p st.1,
    )
    good_act k line (loop x first last by body (count_from counter)) o pl p st = (
      (
        plain_code (suc k) body pl.1.1,
        (
          calls_step u (IsFitCall units u) own_extents flat_extents units' taken (IsFitCall units') fit_source_call fit_step_call k line x body pl.1.1 o.0 o.1.1 p st.1,
          stepped_code (suc k) body,
        ),
      ),
      good_code (suc k) body o.1.1 pl.1.1 p st.1,
    )
    good_act k line (during c body) o pl p st = good_code k body o.1 pl.1 p st
    good_act k line (call name args) o pl p st = tt
    good_act k line (runtime r) o pl p st = tt

    -- and those of a list
    good_code : (k : ℕ) (c : Code) → CodeInside (is_of u) c → PlainCode c → EachCall (IsFitCall units u) c → StepsThere units' taken u k c → EachUnit Good (step_units_in taken u k c)
    good_code k stop o pl p st = tt
    good_code k (step line a rest) o pl p st = join_units Good (step_units_in_act taken u k line a) (step_units_in taken u (k + marked_in_act a) rest) (good_act k line a o.0 pl.0 p.0 st.0) (good_code (k + marked_in_act a) rest o.1 pl.1 p.1 st.1)

  -- the unit and its step units
  pub good_unit : PlainCode u.body → EachCall (IsFitCall units u) u.body → StepsThere units' taken u 0 u.body → EachUnit Good (stepped_unit taken u)
  good_unit pl p st = (
    (plain_code 0 u.body pl, (calls_own u (IsFitCall units u) own_extents flat_extents units' taken (IsFitCall units') fit_source_call fit_step_call pl p st, stepped_code 0 u.body)),
    good_code 0 u.body (own_body u pl) pl p st,
  )
