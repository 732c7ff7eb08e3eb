-- The stepped program of a written program is written.
use Rattle.std.proofs.Common.{◌≡◌, ℕ, zero, suc, ◌+◌, ◌≤◌, ◌⊎◌, inl, inr, Bool, true, false, List, [], ◌∷◌, ◌++◌, All, refl, sym, ap, ◌∙◌, arith, subst}
use Rattle.std.proofs.lemmas.Bool.{or_cases}
use Rattle.std.proofs.lemmas.List.{append_assoc}
use Rattle.std.proofs.lemmas.List.Elements.{All-nil, All-cons, All-head, All-tail}
use Rattle.std.specs.Prelude.{◌||◌, ◌==◌, length, None, if◌then◌else◌, codes}
use Rattle.adj_tree.specs.Code.{Var, plain, shadow, helper, var_eq, name_eq, Term, lit, var, elem, neg, bin, pow, power_of, abs, Terms, none, more, Test, compare, negation, conjunction, disjunction, Mark, unmarked, with_count, count_from, Act, assign, choose, loop, during, call, runtime, Code, stop, step, Extent, Declaration, Procedure}
use Rattle.adj_tree.proofs.Names.{name_refl, name_same}
use Rattle.def_text.specs.Written.{IsName, IsVariable, IsIndexed, IsWrittenTerm, AreWrittenTerms, IsWrittenTest, IsPlace, IsWrittenMark, IsWrittenAct, IsWrittenCode, IsWrittenExtent, IsWrittenDeclaration, IsWrittenProcedure, IsWritten}
use Rattle.def_text.specs.Statement.{runtime_call}
use Rattle.def_meaning.specs.Append.{one}
use Rattle.def_meaning.specs.Units.{declared}
use Rattle.def_meaning.proofs.Booleans.{or_false, or_first, or_second}
use Rattle.def_names.specs.Reserved.{runtime_names, is_runtime, reserved}
use Rattle.def_meaning.specs.Apart.{has_name}
use Rattle.def_names.specs.Fresh.{digits, candidate, first_free}
use Rattle.def_names.proofs.NameLists.{has-append}
use Rattle.law_kernel.specs.Apart.{EachCall', EachCall}
use Rattle.def_kernel.specs.Kernel.{named, names_in, names_in_all, names_in_test, names_in_mark, names_in_act, names_in_code, declared_names, names_of, EachUnit}
use Rattle.law_kernel.specs.WrittenTheorem.{CallsUnits}
use Rattle.def_kernel.specs.Stepped.{marked_in, marked_in_act, once_each, variables_of, used_among, step_dummies, as_actuals, step_declarations, wanted_step, step_names, step_name, cut_act, cut, step_units_in_act, step_units_in, stepped_unit, stepped_from, names_of_source, stepped_program, kernel_of}
use Rattle.law_kernel.proofs.FreshWritten.{name-append, fresh-name, digits_chars}
use Rattle.law_kernel.proofs.WrittenKernels.{kernel_written}
use Rattle.law_kernel.proofs.StepNames.{is_used}

-- ---- names with an underscore

has_underscore : List ℕ → Bool
has_underscore [] = false
has_underscore (c ∷ cs) = (c == 95) || has_underscore cs

-- a name with an underscore behind
underscore_behind : (x y : List ℕ) → has_underscore y ≡ true → has_underscore (x ++ y) ≡ true
unfolding has_underscore
underscore_behind [] y h = h
underscore_behind (c ∷ x) y h = or_second (c == 95) (has_underscore (x ++ y)) (underscore_behind x y h)

-- or before
underscore_before : (x y : List ℕ) → has_underscore x ≡ true → has_underscore (x ++ y) ≡ true
unfolding has_underscore
underscore_before [] y h = absurd cc
underscore_before (c ∷ x) y h = go (or_cases (c == 95) (has_underscore x) h) (λ g. underscore_before x y g)
  where
    go : ((c == 95) ≡ true) ⊎ (has_underscore x ≡ true) → (has_underscore x ≡ true → has_underscore (x ++ y) ≡ true) → ((c == 95) || has_underscore (x ++ y)) ≡ true
    go (inl e) ih = or_first (c == 95) (has_underscore (x ++ y)) e
    go (inr e) ih = or_second (c == 95) (has_underscore (x ++ y)) (ih e)

candidate_underscore : (b : List ℕ) (i : ℕ) → has_underscore b ≡ true → has_underscore (candidate b i) ≡ true
candidate_underscore b zero h = h
candidate_underscore b (suc i) h = underscore_before b (codes "_" ++ digits (suc i)) h

first_free_underscore : (tries i : ℕ) (b : List ℕ) (taken : List (List ℕ)) → has_underscore b ≡ true → has_underscore (first_free tries i b taken) ≡ true
first_free_underscore zero i b taken h = candidate_underscore b i h
first_free_underscore (suc tries) i b taken h = go (has_name (candidate b i) taken) (first_free_underscore tries (suc i) b taken h)
  where
    go : (t : Bool) → has_underscore (first_free tries (suc i) b taken) ≡ true → has_underscore (if t then first_free tries (suc i) b taken else candidate b i) ≡ true
    go true ih = ih
    go false ih = candidate_underscore b i h

-- the name of a step unit has one
step_underscore : (taken : List (List ℕ)) (base : List ℕ) (k : ℕ) → has_underscore (step_name taken base k) ≡ true
unfolding has_underscore
step_underscore taken base k = first_free_underscore (length (taken ++ step_names taken base k)) 0 (wanted_step base k) (taken ++ step_names taken base k) (underscore_behind base (codes "_S" ++ digits (suc k)) refl)

-- such a name is none of those of the runtime
other_name : (x y : List ℕ) → has_underscore x ≡ true → has_underscore y ≡ false → name_eq x y ≡ false
other_name x y h g = go (name_eq x y) refl
  where
    go : (b : Bool) → name_eq x y ≡ b → name_eq x y ≡ false
    go true e = absurd (let z : true ≡ false = sym h ∙ ap has_underscore (name_same x y e) ∙ g in cc)
    go false e = e

skip_name : {A : Type 0} (x y : List ℕ) (a b : A) → has_underscore x ≡ true → has_underscore y ≡ false → (if name_eq x y then a else b) ≡ b
skip_name x y a b h g = ap (λ z. if z then a else b) (other_name x y h g)

-- so it is no runtime call
no_runtime : (x : List ℕ) (es : Terms) → has_underscore x ≡ true → runtime_call x es ≡ None
unfolding has_underscore
no_runtime x es h =
    skip_name x (codes "PUSHINTEGER8") _ _ h refl ∙ skip_name x (codes "POPINTEGER8") _ _ h refl ∙ skip_name x (codes "PUSHINTEGER8ARRAY") _ _ h refl ∙ skip_name x (codes "POPINTEGER8ARRAY") _ _ h refl ∙ skip_name x (codes "PUSHCONTROL1B") _ _ h refl
    ∙ skip_name x (codes "POPCONTROL1B") _ _ h refl ∙ skip_name x (codes "ADZERO8") _ _ h refl ∙ skip_name x (codes "ADBEG") _ _ h refl ∙ skip_name x (codes "ADACTN") _ _ h refl ∙ skip_name x (codes "ADACT") _ _ h refl ∙ skip_name x (codes "ADEND") _ _ h refl

-- nor is it any other name without one
any_underscore : List (List ℕ) → Bool
any_underscore [] = false
any_underscore (y ∷ ys) = has_underscore y || any_underscore ys

none_of : (x : List ℕ) (ys : List (List ℕ)) → has_underscore x ≡ true → any_underscore ys ≡ false → has_name x ys ≡ false
unfolding any_underscore
none_of x [] h g = refl
none_of x (y ∷ ys) h g = let p = or_false (has_underscore y) (any_underscore ys) g in ap (λ b. b || has_name x ys) (other_name x y h p.0) ∙ none_of x ys h p.1

-- so it isn't reserved
pub step_unreserved : (taken : List (List ℕ)) (base : List ℕ) (k : ℕ) → has_name (step_name taken base k) reserved ≡ false
unfolding has_underscore any_underscore
step_unreserved taken base k = none_of (step_name taken base k) reserved (step_underscore taken base k) refl

-- nor one of the runtime
pub step_not_runtime : (taken : List (List ℕ)) (base : List ℕ) (k : ℕ) → is_runtime (step_name taken base k) ≡ false
unfolding has_underscore any_underscore
step_not_runtime taken base k = none_of (step_name taken base k) runtime_names (step_underscore taken base k) refl

-- and is a name
step_named : (taken : List (List ℕ)) (base : List ℕ) (k : ℕ) → IsName base → IsName (step_name taken base k)
step_named taken base k h = fresh-name (wanted_step base k) (taken ++ step_names taken base k) (name-append base (codes "_S" ++ digits (suc k)) h (digits_chars (suc k)))

-- ---- the names in written statements

-- each name is written
abbrev AllNamed : List (List ℕ) → Type 0
AllNamed xs = (y : List ℕ) → has_name y xs ≡ true → IsName y

none_named : AllNamed []
none_named y h = absurd cc

-- names of both lists
both_named : (xs ys : List (List ℕ)) → AllNamed xs → AllNamed ys → AllNamed (xs ++ ys)
both_named xs ys h g y k = go (or_cases (has_name y xs) (has_name y ys) (sym (has-append y xs ys) ∙ k))
  where
    go : (has_name y xs ≡ true) ⊎ (has_name y ys ≡ true) → IsName y
    go (inl e) = h y e
    go (inr e) = g y e

var_named : (x : Var) → IsVariable x → AllNamed (named x)
var_named (plain x) h y k = go (or_cases (name_eq y x) false k)
  where
    go : (name_eq y x ≡ true) ⊎ (false ≡ true) → IsName y
    go (inl e) = subst IsName (sym (name_same y x e)) h
    go (inr e) = absurd cc
var_named (shadow x) h y k = absurd h
var_named (helper r i) h y k = absurd h

indexed_named : (x : Var) → IsIndexed x → AllNamed (named x)
indexed_named (plain x) h = var_named (plain x) h.0
indexed_named (shadow x) h = absurd h
indexed_named (helper r k) h = absurd h

mutual
  -- the names in a written expression are names
  term_named : (e : Term) → IsWrittenTerm e → AllNamed (names_in e)
  term_named (lit z) h = none_named
  term_named (var x) h = var_named x h
  term_named (elem x s) h = both_named (named x) (names_in_all s) (indexed_named x h.0) (terms_named s h.2)
  term_named (neg a) h = term_named a h
  term_named (bin op a b) h = both_named (names_in a) (names_in b) (term_named a h.0) (term_named b h.1)
  term_named (pow a k) h = term_named a h.0
  term_named (power_of a b) h = both_named (names_in a) (names_in b) (term_named a h.0) (term_named b h.1)
  term_named (abs a) h = term_named a h

  terms_named : (es : Terms) → AreWrittenTerms es → AllNamed (names_in_all es)
  terms_named none h = none_named
  terms_named (more e es) h = both_named (names_in e) (names_in_all es) (term_named e h.0) (terms_named es h.1)

-- in a condition
test_named : (c : Test) → IsWrittenTest c → AllNamed (names_in_test c)
test_named (compare r a b) h = both_named (names_in a) (names_in b) (term_named a h.0) (term_named b h.1)
test_named (negation c) h = test_named c h
test_named (conjunction c d) h = both_named (names_in_test c) (names_in_test d) (test_named c h.0) (test_named d h.1)
test_named (disjunction c d) h = both_named (names_in_test c) (names_in_test d) (test_named c h.0) (test_named d h.1)

place_named : (x : Var) (s : Terms) → IsPlace x s → AllNamed (named x ++ names_in_all s)
place_named x none h = both_named (named x) [] (var_named x h) none_named
place_named x (more e es) h = both_named (named x) (names_in_all (more e es)) (var_named x h.0) (terms_named (more e es) h.2)

mark_named : (m : Mark) → IsWrittenMark m → AllNamed (names_in_mark m)
mark_named unmarked h = none_named
mark_named (with_count n) h = none_named
mark_named (count_from x) h = var_named x h

mutual
  -- in a statement
  act_named : (a : Act) → IsWrittenAct a → EachCall' (λ unit args. (es : Terms) → runtime_call unit es ≡ None) a → AllNamed (names_in_act a)
  act_named (assign x s e) h p = subst AllNamed (regroup (named x) (names_in_all s) (names_in e)) (both_named (named x ++ names_in_all s) (names_in e) (place_named x s h.0) (term_named e h.1))
    where
      regroup : (a b c : List (List ℕ)) → (a ++ b) ++ c ≡ a ++ (b ++ c)
      regroup a b c = append_assoc a b c
  act_named (choose c a b) h p = both_named (names_in_test c) (names_in_code a ++ names_in_code b) (test_named c h.0) (both_named (names_in_code a) (names_in_code b) (code_named a h.1 p.0) (code_named b h.2 p.1))
  act_named (loop x first last by body m) h p =
      both_named (names_in_mark m) (named x ++ (names_in first ++ (names_in last ++ (names_in by ++ names_in_code body)))) (mark_named m h.5)
      (both_named (named x) (names_in first ++ (names_in last ++ (names_in by ++ names_in_code body))) (var_named x h.0)
      (both_named (names_in first) (names_in last ++ (names_in by ++ names_in_code body)) (term_named first h.1)
      (both_named (names_in last) (names_in by ++ names_in_code body) (term_named last h.2) (both_named (names_in by) (names_in_code body) (term_named by h.3) (code_named body h.4 p)))))
  act_named (during c body) h p = both_named (names_in_test c) (names_in_code body) (test_named c h.0) (code_named body h.1 p)
  act_named (call name args) h p = terms_named args h.1
  act_named (runtime r) h p = absurd p

  -- in a list
  code_named : (c : Code) → IsWrittenCode c → EachCall (λ unit args. (es : Terms) → runtime_call unit es ≡ None) c → AllNamed (names_in_code c)
  code_named stop h p = none_named
  code_named (step line a rest) h p = both_named (names_in_act a) (names_in_code rest) (act_named a h.0 p.0) (code_named rest h.1 p.1)

list_named : (xs : List (List ℕ)) → All IsName xs → AllNamed xs
list_named [] h y k = none_named y k
list_named (x ∷ xs) h y k = go (or_cases (name_eq y x) (has_name y xs) k) (λ e. list_named xs (All-tail IsName x xs h) y e)
  where
    go : (name_eq y x ≡ true) ⊎ (has_name y xs ≡ true) → (has_name y xs ≡ true → IsName y) → IsName y
    go (inl e) ih = subst IsName (sym (name_same y x e)) (All-head IsName x xs h)
    go (inr e) ih = ih e

declared_named : (ds : List Declaration) → All IsWrittenDeclaration ds → AllNamed (declared_names ds)
declared_named [] h y k = none_named y k
declared_named (d ∷ ds) h y k = go (or_cases (name_eq y d.name) (has_name y (declared_names ds)) k) (λ e. declared_named ds (All-tail IsWrittenDeclaration d ds h) y e)
  where
    go : (name_eq y d.name ≡ true) ⊎ (has_name y (declared_names ds) ≡ true) → (has_name y (declared_names ds) ≡ true → IsName y) → IsName y
    go (inl e) ih = subst IsName (sym (name_same y d.name e)) (let w = All-head IsWrittenDeclaration d ds h in w.named)
    go (inr e) ih = ih e

-- in a unit
unit_named : (u : Procedure) → IsWrittenProcedure u → CallsUnits u → AllNamed (names_of u)
unit_named u h p = both_named u.dummies (declared_names u.declarations ++ names_in_code u.body) (list_named u.dummies h.dummies) (both_named (declared_names u.declarations) (names_in_code u.body) (declared_named u.declarations h.declarations) (code_named u.body h.body p))

-- ---- dummies of step units

pub once_from : (y : List ℕ) (before xs : List (List ℕ)) → has_name y (once_each before xs) ≡ true → has_name y xs ≡ true
once_from y before [] h = h
once_from y before (x ∷ xs) h = go (has_name x before) h (λ g. once_from y before xs g) (λ g. once_from y (x ∷ before) xs g)
  where
    go : (b : Bool) → has_name y (if b then once_each before xs else x ∷ once_each (x ∷ before) xs) ≡ true → (has_name y (once_each before xs) ≡ true → has_name y xs ≡ true) → (has_name y (once_each (x ∷ before) xs) ≡ true → has_name y xs ≡ true) → (name_eq y x || has_name y xs) ≡ true
    go true g ih ih1 = or_second (name_eq y x) (has_name y xs) (ih g)
    go false g ih ih1 = one_way (or_cases (name_eq y x) (has_name y (once_each (x ∷ before) xs)) g)
      where
        one_way : (name_eq y x ≡ true) ⊎ (has_name y (once_each (x ∷ before) xs) ≡ true) → (name_eq y x || has_name y xs) ≡ true
        one_way (inl e) = or_first (name_eq y x) (has_name y xs) e
        one_way (inr e) = or_second (name_eq y x) (has_name y xs) (ih1 e)

pub used_from : (ds : List Declaration) (names vs : List (List ℕ)) (y : List ℕ) → has_name y (used_among ds names vs) ≡ true → has_name y vs ≡ true
used_from ds names [] y h = h
used_from ds names (v ∷ vs) y h = go (is_used ds names v) h (λ g. used_from ds names vs y g)
  where
    go : (b : Bool) → has_name y (if b then v ∷ used_among ds names vs else used_among ds names vs) ≡ true → (has_name y (used_among ds names vs) ≡ true → has_name y vs ≡ true) → (name_eq y v || has_name y vs) ≡ true
    go true g ih = one_way (or_cases (name_eq y v) (has_name y (used_among ds names vs)) g)
      where
        one_way : (name_eq y v ≡ true) ⊎ (has_name y (used_among ds names vs) ≡ true) → (name_eq y v || has_name y vs) ≡ true
        one_way (inl e) = or_first (name_eq y v) (has_name y vs) e
        one_way (inr e) = or_second (name_eq y v) (has_name y vs) (ih e)
    go false g ih = or_second (name_eq y v) (has_name y vs) (ih g)

all_of : (vs : List (List ℕ)) → AllNamed vs → All IsName vs
all_of [] h = All-nil IsName
all_of (v ∷ vs) h = All-cons IsName v vs (h v (or_first (name_eq v v) (has_name v vs) (name_refl v))) (all_of vs (λ y k. h y (or_second (name_eq y v) (has_name y vs) k)))

-- the actuals of the call are written
actuals_written : (vs : List (List ℕ)) → AllNamed vs → AreWrittenTerms (as_actuals vs)
actuals_written [] h = tt
actuals_written (v ∷ vs) h = (h v (or_first (name_eq v v) (has_name v vs) (name_refl v)), actuals_written vs (λ y k. h y (or_second (name_eq y v) (has_name y vs) k)))

-- the extents of a variable are written
pub record FewExtents (es : List Extent) : Type 0 where
  pub few : length es ≤ 2
  pub each : All IsWrittenExtent es

extents_written : (ds : List Declaration) (x : Var) → All IsWrittenDeclaration ds → FewExtents (declared ds x)
extents_written [] x h = record { few = omega arith; each = All-nil IsWrittenExtent }
extents_written (d ∷ ds) x h = go (var_eq x (plain d.name)) (extents_written ds x (All-tail IsWrittenDeclaration d ds h))
  where
    go : (b : Bool) → FewExtents (declared ds x) → FewExtents (if b then d.extents else declared ds x)
    go true ih = let w = All-head IsWrittenDeclaration d ds h in record { few = w.few_extents; each = w.extents }
    go false ih = ih

-- so are the declarations of a step unit
declarations_written : (ds : List Declaration) (line : ℕ) (vs : List (List ℕ)) → All IsWrittenDeclaration ds → AllNamed vs → All IsWrittenDeclaration (step_declarations ds line vs)
declarations_written ds line [] h g = All-nil IsWrittenDeclaration
declarations_written ds line (v ∷ vs) h g =
    let e = extents_written ds (plain v) h in
    All-cons IsWrittenDeclaration (record { line = line; name = v; extents = declared ds (plain v) }) (step_declarations ds line vs)
    (record { named = g v (or_first (name_eq v v) (has_name v vs) (name_refl v)); few_extents = e.few; extents = e.each })
    (declarations_written ds line vs h (λ y k. g y (or_second (name_eq y v) (has_name y vs) k)))

-- ---- units

-- a unit that is written, and whose CALLs are of units
abbrev pub WellWritten : Procedure → Type 0
WellWritten v = IsWrittenProcedure v × CallsUnits v

append_well : (ps qs : List Procedure) → EachUnit WellWritten ps → EachUnit WellWritten qs → EachUnit WellWritten (ps ++ qs)
append_well [] qs a b = b
append_well (v ∷ ps) qs a b = (a.0, append_well ps qs a.1 b)

module _ (taken : List (List ℕ)) (u : Procedure) (h : IsWrittenProcedure u) (p : CallsUnits u) where
  dummies_named : (x : Var) (body : Code) → AllNamed (step_dummies u x body)
  dummies_named x body y k = unit_named u h p y (once_from y [] (names_of u) (used_from u.declarations (named x ++ names_in_code body) (variables_of u) y k))

  step_call_written : (k : ℕ) (x : Var) (body : Code) (line : ℕ) → IsWrittenCode (one line (call (step_name taken u.name k) (as_actuals (step_dummies u x body))))
  step_call_written k x body line = ((step_named taken u.name k h.named, actuals_written (step_dummies u x body) (dummies_named x body), no_runtime (step_name taken u.name k) (as_actuals (step_dummies u x body)) (step_underscore taken u.name k)), tt)

  mutual
    cut_written_act : (k line : ℕ) (a : Act) → IsWrittenAct a → IsWrittenAct (cut_act taken u k line a)
    cut_written_act k line (assign x s e) w = w
    cut_written_act k line (choose c a b) w = (w.0, cut_written k a w.1, cut_written (k + marked_in a) b w.2)
    cut_written_act k line (loop x first last by body unmarked) w = (w.0, w.1, w.2, w.3, cut_written k body w.4, w.5)
    cut_written_act k line (loop x first last by body (with_count m)) w = (w.0, w.1, w.2, w.3, step_call_written k x body line, w.5)
    cut_written_act k line (loop x first last by body (count_from counter)) w = (w.0, w.1, w.2, w.3, step_call_written k x body line, w.5)
    cut_written_act k line (during c body) w = (w.0, cut_written k body w.1)
    cut_written_act k line (call name args) w = w
    cut_written_act k line (runtime r) w = w

    -- a cut list is written
    cut_written : (k : ℕ) (c : Code) → IsWrittenCode c → IsWrittenCode (cut taken u k c)
    cut_written k stop w = tt
    cut_written k (step line a rest) w = (cut_written_act k line a w.0, cut_written (k + marked_in_act a) rest w.1)

  mutual
    cut_calls_act : (k line : ℕ) (a : Act) → EachCall' (λ unit args. (es : Terms) → runtime_call unit es ≡ None) a → EachCall' (λ unit args. (es : Terms) → runtime_call unit es ≡ None) (cut_act taken u k line a)
    cut_calls_act k line (assign x s e) w = w
    cut_calls_act k line (choose c a b) w = (cut_calls k a w.0, cut_calls (k + marked_in a) b w.1)
    cut_calls_act k line (loop x first last by body unmarked) w = cut_calls k body w
    cut_calls_act k line (loop x first last by body (with_count m)) w = ((λ es. no_runtime (step_name taken u.name k) es (step_underscore taken u.name k)), tt)
    cut_calls_act k line (loop x first last by body (count_from counter)) w = ((λ es. no_runtime (step_name taken u.name k) es (step_underscore taken u.name k)), tt)
    cut_calls_act k line (during c body) w = cut_calls k body w
    cut_calls_act k line (call name args) w = w
    cut_calls_act k line (runtime r) w = w

    cut_calls : (k : ℕ) (c : Code) → EachCall (λ unit args. (es : Terms) → runtime_call unit es ≡ None) c → EachCall (λ unit args. (es : Terms) → runtime_call unit es ≡ None) (cut taken u k c)
    cut_calls k stop w = tt
    cut_calls k (step line a rest) w = (cut_calls_act k line a w.0, cut_calls (k + marked_in_act a) rest w.1)

  mutual
    steps_well_act : (k line : ℕ) (a : Act) → IsWrittenAct a → EachCall' (λ unit args. (es : Terms) → runtime_call unit es ≡ None) a → EachUnit WellWritten (step_units_in_act taken u k line a)
    steps_well_act k line (assign x s e) w c = tt
    steps_well_act k line (choose t a b) w c = append_well (step_units_in taken u k a) (step_units_in taken u (k + marked_in a) b) (steps_well k a w.1 c.0) (steps_well (k + marked_in a) b w.2 c.1)
    steps_well_act k line (loop x first last by body unmarked) w c = steps_well k body w.4 c
    steps_well_act k line (loop x first last by body (with_count m)) w c =
        let vs = step_dummies u x body in (
          (
            record {
              named = step_named taken u.name k h.named;
              dummies = all_of vs (dummies_named x body);
              declarations = declarations_written u.declarations line vs h.declarations (dummies_named x body);
              body = cut_written (suc k) body w.4;
            },
            cut_calls (suc k) body c,
          ),
          steps_well (suc k) body w.4 c,
        )
    steps_well_act k line (loop x first last by body (count_from counter)) w c =
        let vs = step_dummies u x body in (
          (
            record {
              named = step_named taken u.name k h.named;
              dummies = all_of vs (dummies_named x body);
              declarations = declarations_written u.declarations line vs h.declarations (dummies_named x body);
              body = cut_written (suc k) body w.4;
            },
            cut_calls (suc k) body c,
          ),
          steps_well (suc k) body w.4 c,
        )
    steps_well_act k line (during t body) w c = steps_well k body w.1 c
    steps_well_act k line (call name args) w c = tt
    steps_well_act k line (runtime r) w c = tt

    -- each step unit of a list is written, and its CALLs are of units
    steps_well : (k : ℕ) (c : Code) → IsWrittenCode c → EachCall (λ unit args. (es : Terms) → runtime_call unit es ≡ None) c → EachUnit WellWritten (step_units_in taken u k c)
    steps_well k stop w c = tt
    steps_well k (step line a rest) w c = append_well (step_units_in_act taken u k line a) (step_units_in taken u (k + marked_in_act a) rest) (steps_well_act k line a w.0 c.0) (steps_well (k + marked_in_act a) rest w.1 c.1)

  -- so are a unit and its step units
  unit_well : EachUnit WellWritten (stepped_unit taken u)
  unit_well = ((record { named = h.named; dummies = h.dummies; declarations = h.declarations; body = cut_written 0 u.body h.body }, cut_calls 0 u.body p), steps_well 0 u.body h.body p)

from_well : (us : List Procedure) (taken : List (List ℕ)) → All IsWrittenProcedure us → EachUnit CallsUnits us → EachUnit WellWritten (stepped_from taken us)
from_well [] taken h p = tt
from_well (u ∷ us) taken h p = append_well (stepped_unit taken u) (stepped_from (taken ++ step_names taken u.name (marked_in u.body)) us) (unit_well taken u (All-head IsWrittenProcedure u us h) p.0) (from_well us (taken ++ step_names taken u.name (marked_in u.body)) (All-tail IsWrittenProcedure u us h) p.1)

all_written : (ps : List Procedure) → EachUnit WellWritten ps → IsWritten ps
all_written [] h = All-nil IsWrittenProcedure
all_written (v ∷ ps) h = All-cons IsWrittenProcedure v ps h.0.0 (all_written ps h.1)

all_calls : (ps : List Procedure) → EachUnit WellWritten ps → EachUnit CallsUnits ps
all_calls [] h = tt
all_calls (v ∷ ps) h = (h.0.1, all_calls ps h.1)

-- so the whole kernel of a written program is written
pub whole_kernel_written : (units : List Procedure) → IsWritten units → EachUnit CallsUnits units → IsWritten (kernel_of units)
whole_kernel_written units h p =
    let well = from_well units (names_of_source units) h p in
    kernel_written (stepped_program units) (all_written (stepped_program units) well) (all_calls (stepped_program units) well)
