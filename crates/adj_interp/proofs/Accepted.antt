-- What holds of the units of a checked program.
use Rattle.std.proofs.Common.{◌≡◌, ℕ, zero, suc, ◌+◌, ◌<◌, ◌≤◌, Bool, true, false, List, [], ◌∷◌, ◌++◌, map, length, get_or, refl, sym, ap, subst, ◌∙◌, arith, if◌then◌else◌}
use Rattle.std.specs.Prelude.{not, flat_map, nat_lt, Some}
use Rattle.std.specs.List.{All}
use Rattle.std.proofs.lemmas.List.{length-map, get_or_append_left, get_or_push}
use Rattle.std.proofs.lemmas.Grind.{flat_map-append}
use Rattle.std.proofs.lemmas.List.Elements.{All-head, All-tail}
use Rattle.adj_tree.specs.Code.{Var, plain, shadow, helper, name_eq, Term, lit, var, elem, neg, bin, pow, power_of, abs, Terms, none, more, Act, assign, choose, loop, during, call, runtime, Code, stop, step, Procedure}
use Rattle.adj_tree.specs.View.{code_of, declaration_of, procedure_of, extent_of}
use Rattle.adj_tree.specs.declared.fault.Refusal.{Refusal}
use Rattle.adj_tree.specs.declared.unit.Decl.{Decl}
use Rattle.adj_tree.specs.declared.unit.Unit.{Unit}
use Rattle.adj_tree.proofs.Names.{name_refl, nat_same}
use Rattle.def_text.specs.Written.{IsWritten, IsWrittenProcedure, IsWrittenDeclaration}
use Rattle.def_meaning.specs.Apart.{has_name, AreApart}
use Rattle.def_meaning.specs.LeastSet.{Rule, row_of, rounds, least_rows, dummies_in_all}
use Rattle.def_meaning.specs.Units.{declared}
use Rattle.def_meaning.specs.Written.{find_unit, write_rule}
use Rattle.def_meaning.proofs.Booleans.{and_true, or_false}
use Rattle.def_names.specs.CallFaults.{variable_rank, is_actual_for, are_actuals_for, faults_of_unit_call, faults_of_call}
use Rattle.def_names.specs.Check.{IsSound}
use Rattle.def_names.specs.Fault.{run_rules, fault, again}
use Rattle.def_names.specs.NameFaults.{faults_of_names, undeclared, declared_twice}
use Rattle.def_names.specs.Reserved.{is_runtime}
use Rattle.def_names.specs.Statements.{At, inner, statements}
use Rattle.def_names.specs.UnitFaults.{reserved_units, repeated_units, unit_places}
use Rattle.def_names.specs.Variables.{dummy_places, declared_places, rank}
use Rattle.def_names.proofs.Sound.{sound_has_none}
use Rattle.def_names.proofs.Faultless.{none_front, none_behind, none_if, apart_places}
use Rattle.adj_interp_frame.proofs.Entering.{undeclared as declared_nowhere}
use Rattle.adj_interp_frame.specs.Suited.{IsScalarIn, HoldsIfWhole, AreTermsSuited, IsSuited, AreSuited}

-- ---- lists without faults

none_at : {A B : Type 0} (f : A → List B) (xs : List A) (i : ℕ) (d : A) → flat_map f xs ≡ [] → i < length xs → f (get_or xs i d) ≡ []
none_at f [] i d h l = absurd (omega arith)
none_at f (x ∷ xs) zero d h l = none_front (f x) (flat_map f xs) h
none_at f (x ∷ xs) (suc i) d h l = none_at f xs i d (none_behind (f x) (flat_map f xs) h) (omega arith)

-- ---- names that are apart

unit_names : (us : List Unit) → map (λ p. p.1) (unit_places (map procedure_of us)) ≡ map (λ (u : Unit). u.name) us
unit_names [] = refl
unit_names (u ∷ us) = ap (λ z. u.name ∷ z) (unit_names us)

dummy_names : (line : ℕ) (ds : List (List ℕ)) → map (λ (p : At (List ℕ)). p.1) (map (λ d. (line, d)) ds) ≡ ds
dummy_names line [] = refl
dummy_names line (d ∷ ds) = ap (λ z. d ∷ z) (dummy_names line ds)

-- the units of a program without a fault have names that are apart
pub units_apart : (us : List Unit) → IsSound run_rules (map procedure_of us) → AreApart (map (λ (u : Unit). u.name) us)
units_apart us h =
    let faultless = sound_has_none run_rules (map procedure_of us) h in
    subst AreApart (unit_names us) (apart_places 19 [] (unit_places (map procedure_of us)) (none_behind (reserved_units (map procedure_of us)) (repeated_units (map procedure_of us)) faultless.units))

get_mapped : (us : List Unit) (i : ℕ) (d : Unit) → i < length us → get_or (map procedure_of us) i (procedure_of d) ≡ procedure_of (get_or us i d)
get_mapped [] i d l = absurd (omega arith)
get_mapped (u ∷ us) zero d l = refl
get_mapped (u ∷ us) (suc i) d l = get_mapped us i d (omega arith)

-- and so have the dummies of each unit
pub dummies_apart : (us : List Unit) (i : ℕ) (d : Unit) → IsSound run_rules (map procedure_of us) → i < length us → AreApart (get_or us i d).dummies
dummies_apart us i d h l =
    let ps = map procedure_of us in
    let faultless = sound_has_none run_rules ps h in
    let n = length-map us procedure_of in
    let v = get_or us i d in
    let u = procedure_of v in
    let at : faults_of_names run_rules ps u ≡ [] = ap (faults_of_names run_rules ps) (sym (get_mapped us i d l)) ∙ none_at (faults_of_names run_rules ps) ps i (procedure_of d) faultless.names (omega (arith, n, l)) in
    let once : declared_twice u ≡ [] = none_front (declared_twice u) _ (none_behind (undeclared u) _ at) in
    subst AreApart (dummy_names u.line u.dummies) (apart_places 8 [] (dummy_places u) (none_front (again 8 [] (dummy_places u)) (again 8 [] (declared_places u)) once))

-- ---- extents

all_at : {A : Type 0} (P : A → Type 0) (xs : List A) (i : ℕ) (d : A) → All P xs → i < length xs → P (get_or xs i d)
all_at P [] i d h l = absurd (omega arith)
all_at P (x ∷ xs) zero d h l = All-head P x xs h
all_at P (x ∷ xs) (suc i) d h l = all_at P xs i d (All-tail P x xs h) (omega arith)

get_declared : (ds : List Decl) (i : ℕ) (d : Decl) → i < length ds → get_or (map declaration_of ds) i (declaration_of d) ≡ declaration_of (get_or ds i d)
get_declared [] i d l = absurd (omega arith)
get_declared (x ∷ ds) zero d l = refl
get_declared (x ∷ ds) (suc i) d l = get_declared ds i d (omega arith)

-- a written unit declares at most two extents for a variable
pub extents_few : (us : List Unit) (i : ℕ) (v : Unit) → IsWritten (map procedure_of us) → i < length us → (j : ℕ) (d : Decl) → j < length (get_or us i v).decls → length (get_or (get_or us i v).decls j d).extents ≤ 2
extents_few us i v h l j d m =
    let n = length-map us procedure_of in
    let unit = get_or us i v in
    let w : IsWrittenProcedure (procedure_of unit) = subst IsWrittenProcedure (get_mapped us i v l) (all_at IsWrittenProcedure (map procedure_of us) i (procedure_of v) h (omega (arith, n, l))) in
    let k = length-map unit.decls declaration_of in
    let e : IsWrittenDeclaration (declaration_of (get_or unit.decls j d)) = subst IsWrittenDeclaration (get_declared unit.decls j d m) (all_at IsWrittenDeclaration (map declaration_of unit.decls) j (declaration_of d) w.declarations (omega (arith, k, m))) in
    let few = e.few_extents in
    let same = length-map (get_or unit.decls j d).extents extent_of in
    omega (arith, few, same)

-- ---- calls

none_long : {A : Type 0} (xs : List A) → length xs ≡ 0 → xs ≡ []
none_long [] h = refl
none_long (x ∷ xs) h = absurd (omega (arith, h))

-- a variable without a rank is a scalar
rankless : (u : Procedure) (x : Var) → variable_rank u x ≡ 0 → IsScalarIn u x
rankless u (plain x) h = none_long (declared u.declarations (plain x)) h
rankless u (shadow x) h = declared_nowhere u.declarations (shadow x) (λ y. refl)
rankless u (helper r k) h = declared_nowhere u.declarations (helper r k) (λ y. refl)

actual_suits : (caller called : Procedure) (d : List ℕ) (e : Term) → is_actual_for caller (rank called d) e ≡ true → IsScalarIn called (plain d) → HoldsIfWhole (IsScalarIn caller) e
actual_suits caller called d (var x) h s = rankless caller x (nat_same (variable_rank caller x) (rank called d) h ∙ ap length s)
actual_suits caller called d (elem x subs) h s = tt
actual_suits caller called d (lit z) h s = tt
actual_suits caller called d (neg a) h s = tt
actual_suits caller called d (bin op a b) h s = tt
actual_suits caller called d (pow a k) h s = tt
actual_suits caller called d (power_of a b) h s = tt
actual_suits caller called d (abs a) h s = tt

actuals_suit : (caller called : Procedure) (ds : List (List ℕ)) (es : Terms) → are_actuals_for caller called ds es ≡ true → AreTermsSuited (IsScalarIn caller) called ds es
actuals_suit caller called [] es h = tt
actuals_suit caller called (d ∷ ds) none h = tt
actuals_suit caller called (d ∷ ds) (more e es) h =
    let p = and_true (is_actual_for caller (rank called d) e) (are_actuals_for caller called ds es) h in
    (actual_suits caller called d e p.0, actuals_suit caller called ds es p.1)

isn't_not : (b : Bool) → not b ≡ false → b ≡ true
isn't_not true h = refl
isn't_not false h = absurd cc

module _ (ps : List Procedure) (u : Procedure) where
  abbrev faults_at : At Act → List Refusal
  faults_at s = faults_of_call ps u s.0 s.1

  call_suits : (line : ℕ) (name : List ℕ) (args : Terms) (v : Procedure) → faults_of_call ps u line (call name args) ≡ [] → find_unit ps name ≡ Some v → AreTermsSuited (IsScalarIn u) v v.dummies args
  call_suits line name args v h e = go (is_runtime name) h
    where
      go : (b : Bool) → (if b then fault 15 line ∷ [] else faults_of_unit_call u (find_unit ps name) line args) ≡ [] → AreTermsSuited (IsScalarIn u) v v.dummies args
      go true g = absurd cc
      go false g = actuals_suit u v v.dummies args (isn't_not (are_actuals_for u v v.dummies args) (none_if (not (are_actuals_for u v v.dummies args)) (fault 15 line) (subst (λ o. faults_of_unit_call u o line args ≡ []) e g)))

  mutual
    act_suits : (line : ℕ) (a : Act) → faults_of_call ps u line a ≡ [] → flat_map faults_at (inner a) ≡ [] → IsSuited ps (IsScalarIn u) a
    act_suits line (assign x subs e) h k = tt
    act_suits line (choose c a b) h k =
        let g = sym (flat_map-append faults_at (statements a) (statements b)) ∙ k in
        (code_suits a (none_front (flat_map faults_at (statements a)) (flat_map faults_at (statements b)) g), code_suits b (none_behind (flat_map faults_at (statements a)) (flat_map faults_at (statements b)) g))
    act_suits line (loop x first last by body m) h k = code_suits body k
    act_suits line (during c body) h k = code_suits body k
    act_suits line (call name args) h k = λ v e. call_suits line name args v h e
    act_suits line (runtime r) h k = tt

    code_suits : (c : Code) → flat_map faults_at (statements c) ≡ [] → AreSuited ps (IsScalarIn u) c
    code_suits stop h = tt
    code_suits (step line a rest) h =
        let here = faults_of_call ps u line a in
        let g = sym (flat_map-append faults_at (inner a) (statements rest)) ∙ none_behind here (flat_map faults_at (inner a ++ statements rest)) h in (
          act_suits line a (none_front here (flat_map faults_at (inner a ++ statements rest)) h) (none_front (flat_map faults_at (inner a)) (flat_map faults_at (statements rest)) g),
          code_suits rest (none_behind (flat_map faults_at (inner a)) (flat_map faults_at (statements rest)) g),
        )

-- the calls of a unit hand scalars alone to scalars
pub calls_suit : (us : List Unit) (i : ℕ) (d : Unit) → IsSound run_rules (map procedure_of us) → i < length us → AreSuited (map procedure_of us) (IsScalarIn (procedure_of (get_or us i d))) (code_of (get_or us i d).body)
calls_suit us i d h l =
    let ps = map procedure_of us in
    let u = procedure_of (get_or us i d) in
    let n = length-map us procedure_of in
    let faultless = sound_has_none run_rules ps h in
    let each : Procedure → List Refusal = λ v. flat_map (λ s. faults_of_call ps v s.0 s.1) (statements v.body) in
    code_suits ps u u.body (ap each (sym (get_mapped us i d l)) ∙ none_at each ps i (procedure_of d) faultless.calls (omega (arith, n, l)))

-- ---- what units write

rows_counted : (rule : Rule) (ps : List Procedure) (k : ℕ) → length (rounds rule ps k) ≡ length ps
rows_counted rule ps zero = length-map ps _
rows_counted rule ps (suc k) = length-map ps _

-- each unit has a row
pub rows_each : (ps : List Procedure) → length (least_rows write_rule ps) ≡ length ps
rows_each ps = rows_counted write_rule ps (dummies_in_all ps)

differs : (x : List ℕ) (us : List Unit) (i : ℕ) (d : Unit) → has_name x (map (λ (u : Unit). u.name) us) ≡ false → i < length us → name_eq x (get_or us i d).name ≡ false
differs x [] i d h l = absurd (omega arith)
differs x (u ∷ us) zero d h l = (or_false (name_eq x u.name) (has_name x (map (λ (u : Unit). u.name) us)) h).0
differs x (u ∷ us) (suc i) d h l = differs x us i d (or_false (name_eq x u.name) (has_name x (map (λ (u : Unit). u.name) us)) h).1 (omega arith)

-- the row of a unit's place is that of its name, where names are apart
pub row_at : (us : List Unit) (rows : List (List Bool)) (i : ℕ) (d : Unit) → AreApart (map (λ (u : Unit). u.name) us) → i < length us → get_or rows i [] ≡ row_of (map procedure_of us) rows (get_or us i d).name
row_at [] rows i d a l = absurd (omega arith)
row_at (u ∷ us) [] i d a l = refl
row_at (u ∷ us) (ws ∷ rows) zero d a l = ap (λ b. if b then ws else row_of (map procedure_of us) rows u.name) (sym (name_refl u.name))
row_at (u ∷ us) (ws ∷ rows) (suc i) d a l = row_at us rows i d a.1 (omega arith) ∙ ap (λ b. if b then ws else row_of (map procedure_of us) rows (get_or us i d).name) (sym (differs u.name us i d a.0 (omega arith)))

-- what holds of each so far and of the next holds of each with the next behind
pub pushed_each : {A : Type 0} (P : A → Type 0) (xs : List A) (x : A) (i : ℕ) → length xs ≡ i → ((k : ℕ) (d : A) → k < i → P (get_or xs k d)) → P x → (k : ℕ) (d : A) → k < i + 1 → P (get_or (xs ++ x ∷ []) k d)
pushed_each P xs x i n h here k d lt = go (nat_lt k i) refl
  where
    go : (b : Bool) → nat_lt k i ≡ b → P (get_or (xs ++ x ∷ []) k d)
    go true e = let m : k < i = grind arith in subst P (sym (get_or_append_left xs (x ∷ []) d k (omega (arith, m, n)))) (h k d m)
    go false e =
        let ge : i ≤ k = grind arith in
        let s : i ≡ k = omega (arith, ge, lt) in
        subst (λ z. P (get_or (xs ++ x ∷ []) z d)) s (subst P (sym (get_or_push xs x d i n)) here)
