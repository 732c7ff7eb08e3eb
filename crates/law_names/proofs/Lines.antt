-- Whether a program has a fault of units, names, calls, chains or writes doesn't depend on its line numbers.
use Rattle.std.proofs.Common.{subst, ◌≡◌, ℕ, zero, suc, Bool, true, false, List, [], ◌∷◌, ◌++◌, refl, sym, ap, ◌∙◌}
use Rattle.std.proofs.lemmas.List.{map-append}
use Rattle.std.specs.Prelude.{Option, Some, None, is_some, map, flat_map, filter, length, drop, max, not, ◌==◌, nat_lt, ◌&&◌, ◌||◌, int_lt, pos, if◌then◌else◌}
use Rattle.std.specs.List.{list_any}
use Rattle.adj_tree.specs.Code.{Var, plain, shadow, helper, var_eq, name_eq, Term, lit, var, elem, neg, bin, pow, power_of, abs, Terms, none, more, Act, assign, choose, loop, during, call, runtime, Code, stop, step, Extent, fixed, given, Declaration, Procedure}
use Rattle.adj_tree.specs.Lines.{unlined_act, unlined_code, unlined_declaration, unlined_procedure, unlined}
use Rattle.adj_tree.specs.declared.fault.Refusal.{Refusal}
use Rattle.def_meaning.specs.LeastSet.{Dummies}
use Rattle.def_meaning.specs.Read.{is_extent, names_extent}
use Rattle.def_meaning.specs.Units.{declared}
use Rattle.def_meaning.specs.Written.{find_unit, handed_back}
use Rattle.law_meaning.proofs.UnlinedUnits.{unlined_found, find_unlined, handed_unlined}
use Rattle.def_meaning.specs.Apart.{has_name}
use Rattle.def_names.specs.Reserved.{is_runtime, is_reserved}
use Rattle.def_names.specs.Statements.{At, inner, statements}
use Rattle.def_names.specs.Standing.{in_act}
use Rattle.def_names.specs.Variables.{Name, dummy_places, declared_places, statement_places, places, first_places, is_integer_name, is_integer, rank, is_dummy}
use Rattle.def_names.specs.Calls.{Call, call_in, calls, calls_found, calls_from, leads, calls_lead, with_mark, act_chain, chain, chain_found, chain_within, chain_from}
use Rattle.def_names.specs.Fault.{Rules, fault, passed, faults_if, again, first_in_passes}
use Rattle.def_names.specs.UnitFaults.{unit_places, unit_faults}
use Rattle.def_names.specs.NameFaults.{extent_names, extent_places, undeclared, declared_twice, has_rank, is_rank_for, taken_in, misused, literal_product, is_bad_extent, has_bad_extents, bad_extents, reserved_variables, calls_runtime, runtime_calls, passed_by, passed_in, too_many_variables, faults_of_names, name_faults}
use Rattle.def_names.specs.CallFaults.{variable_rank, is_actual_for, are_actuals_for, array_arguments, faults_of_unit_call, faults_of_call, call_faults}
use Rattle.def_names.specs.ChainFaults.{cycles, begins_chain, long_chains, or_else, chain_faults}
use Rattle.def_names.specs.WriteFaults.{may_write, writes_of_variable, written_variables, written_extents, name_one, is_whole_array, clashes, have_clash, shared_variables, hands_back_values, written_values, faults_of_writes, write_faults}
use Rattle.def_names.specs.Check.{IsSound}
use Rattle.def_names.specs.Laws.{HasNone}
use Rattle.def_names.proofs.Sound.{sound_has_none}

-- ---- lists

module _ {A B : Type 0} (k : A → B) where
  -- two lists that others become, joined
  join : (xs ys : List A) {others more : List B} → others ≡ map k xs → more ≡ map k ys → others ++ more ≡ map k (xs ++ ys)
  join xs ys e f = (λ i. e i ++ f i) ∙ sym (map-append k xs ys)

  -- one list for each thing
  flat_same : {X : Type 0} (f : X → List A) (g : X → List B) → ((x : X) → g x ≡ map k (f x)) → (xs : List X) → flat_map g xs ≡ map k (flat_map f xs)
  flat_same f g e [] = refl
  flat_same f g e (x ∷ xs) = join (f x) (flat_map f xs) (e x) (flat_same f g e xs)

  -- where the things become others too
  flat_alike : {X Y : Type 0} (f : X → List A) (g : Y → List B) (h : X → Y) → ((x : X) → g (h x) ≡ map k (f x)) → (xs : List X) → flat_map g (map h xs) ≡ map k (flat_map f xs)
  flat_alike f g h e [] = refl
  flat_alike f g h e (x ∷ xs) = join (f x) (flat_map f xs) (e x) (flat_alike f g h e xs)

  -- one for each thing
  one_alike : {X : Type 0} (f : X → B) (g : X → A) → ((x : X) → f x ≡ k (g x)) → (xs : List X) → map f xs ≡ map k (map g xs)
  one_alike f g e [] = refl
  one_alike f g e (x ∷ xs) = λ i. e x i ∷ one_alike f g e xs i

  each_alike : {X Y : Type 0} (f : Y → B) (h : X → Y) (g : X → A) → ((x : X) → f (h x) ≡ k (g x)) → (xs : List X) → map f (map h xs) ≡ map k (map g xs)
  each_alike f h g e [] = refl
  each_alike f h g e (x ∷ xs) = λ i. e x i ∷ each_alike f h g e xs i

  -- the same is left out of both
  drop_alike : (n : ℕ) (xs : List A) → drop n (map k xs) ≡ map k (drop n xs)
  drop_alike zero xs = refl
  drop_alike (suc n) [] = refl
  drop_alike (suc n) (x ∷ xs) = drop_alike n xs

  long_alike : (xs : List A) → length (map k xs) ≡ length xs
  long_alike [] = refl
  long_alike (x ∷ xs) = ap suc (long_alike xs)

  any_alike : (f : B → Bool) (g : A → Bool) → ((x : A) → f (k x) ≡ g x) → (xs : List A) → list_any f (map k xs) ≡ list_any g xs
  any_alike f g e [] = refl
  any_alike f g e (x ∷ xs) = λ i. e x i || any_alike f g e xs i

-- ---- at line 0

-- a fault, and something with its line
abbrev zeroed : Refusal → Refusal
zeroed r = record { code = r.code; line = 0; number = r.number }

abbrev at_zero : {A : Type 0} → At A → At A
at_zero p = (0, p.1)

abbrev bare : At Act → At Act
bare s = (0, unlined_act s.1)

-- the faults of the program without lines are those of the program, without lines
abbrev erased : List Refusal → List Refusal
erased rs = map zeroed rs

faults_erased : (b : Bool) (r : Refusal) → faults_if b (zeroed r) ≡ erased (faults_if b r)
faults_erased true r = refl
faults_erased false r = refl

again_erased : (code : ℕ) (before : List Name) (ps : List (At Name)) → again code before (map at_zero ps) ≡ erased (again code before ps)
again_erased code before [] = refl
again_erased code before (p ∷ ps) = join zeroed (faults_if (has_name p.1 before) (fault code p.0)) (again code (p.1 ∷ before) ps) (faults_erased (has_name p.1 before) (fault code p.0)) (again_erased code (p.1 ∷ before) ps)

mutual
  inner_bare : (a : Act) → inner (unlined_act a) ≡ map bare (inner a)
  inner_bare (assign x subs e) = refl
  inner_bare (choose c a b) = join bare (statements a) (statements b) (statements_bare a) (statements_bare b)
  inner_bare (loop x first last by body m) = statements_bare body
  inner_bare (during c body) = statements_bare body
  inner_bare (call name args) = refl
  inner_bare (runtime r) = refl

  statements_bare : (c : Code) → statements (unlined_code c) ≡ map bare (statements c)
  statements_bare stop = refl
  statements_bare (step line a rest) = ap (λ z. (0, unlined_act a) ∷ z) (join bare (inner a) (statements rest) (inner_bare a) (statements_bare rest))

-- what is said of each statement of a unit
module _ {B : Type 0} (k : B → B) (f g : At Act → List B) (e : (s : At Act) → g (bare s) ≡ map k (f s)) where
  each_statement : (c : Code) → flat_map g (statements (unlined_code c)) ≡ map k (flat_map f (statements c))
  each_statement c = ap (flat_map g) (statements_bare c) ∙ flat_alike k f g bare e (statements c)

-- ---- units

units_erased : (ps : List Procedure) → unit_faults (unlined ps) ≡ erased (unit_faults ps)
units_erased ps =
    let same : unit_places (unlined ps) ≡ map at_zero (unit_places ps) = each_alike at_zero (λ u. (u.line, u.name)) unlined_procedure (λ u. (u.line, u.name)) (λ u. refl) ps in
    let reserved : At Name → List Refusal = λ p. faults_if (is_reserved p.1) (fault 18 p.0) in
    join zeroed (flat_map reserved (unit_places ps)) (again 19 [] (unit_places ps))
    (ap (flat_map reserved) same ∙ flat_alike zeroed reserved reserved at_zero (λ p. faults_erased (is_reserved p.1) (fault 18 p.0)) (unit_places ps))
    (ap (again 19 []) same ∙ again_erased 19 [] (unit_places ps))

-- ---- what units say of names

in_act_unlined : (a : Act) → in_act (unlined_act a) ≡ in_act a
in_act_unlined (assign x subs e) = refl
in_act_unlined (choose c a b) = refl
in_act_unlined (loop x first last by body m) = refl
in_act_unlined (during c body) = refl
in_act_unlined (call name args) = refl
in_act_unlined (runtime r) = refl

declared_alike : (ds : List Declaration) (x : Var) → declared (map unlined_declaration ds) x ≡ declared ds x
declared_alike [] x = refl
declared_alike (d ∷ ds) x = ap (λ z. if var_eq x (plain d.name) then d.extents else z) (declared_alike ds x)

names_alike : (ds : List Declaration) → map (λ d. d.name) (map unlined_declaration ds) ≡ map (λ d. d.name) ds
names_alike [] = refl
names_alike (d ∷ ds) = ap (λ z. d.name ∷ z) (names_alike ds)

extent_alike : (x : Name) (ds : List Declaration) → is_extent x (map unlined_declaration ds) ≡ is_extent x ds
extent_alike x [] = refl
extent_alike x (d ∷ ds) = ap (λ z. names_extent x d.extents || z) (extent_alike x ds)

module _ (u : Procedure) where
  rank_alike : (x : Name) → rank (unlined_procedure u) x ≡ rank u x
  rank_alike x = ap length (declared_alike u.declarations (plain x))

  integer_alike : (x : Name) → is_integer (unlined_procedure u) x ≡ is_integer u x
  integer_alike x = ap (λ z. has_name x z || (not u.is_none && is_integer_name x)) (names_alike u.declarations)

  variable_rank_alike : (x : Var) → variable_rank (unlined_procedure u) x ≡ variable_rank u x
  variable_rank_alike (plain x) = rank_alike x
  variable_rank_alike (shadow x) = refl
  variable_rank_alike (helper r k) = refl

  dummy_places_zero : dummy_places (unlined_procedure u) ≡ map at_zero (dummy_places u)
  dummy_places_zero = one_alike at_zero (λ d. (0, d)) (λ d. (u.line, d)) (λ d. refl) u.dummies

  declared_places_zero : declared_places (unlined_procedure u) ≡ map at_zero (declared_places u)
  declared_places_zero = each_alike at_zero (λ d. (d.line, d.name)) unlined_declaration (λ d. (d.line, d.name)) (λ d. refl) u.declarations

  statement_places_zero : statement_places (unlined_procedure u) ≡ map at_zero (statement_places u)
  statement_places_zero =
      each_statement at_zero (λ s. map (λ n. (s.0, n.name)) (in_act s.1)) (λ s. map (λ n. (s.0, n.name)) (in_act s.1))
      (λ s. ap (map (λ n. (0, n.name))) (in_act_unlined s.1) ∙ one_alike at_zero (λ n. (0, n.name)) (λ n. (s.0, n.name)) (λ n. refl) (in_act s.1)) u.body

  places_zero : places (unlined_procedure u) ≡ map at_zero (places u)
  places_zero = join at_zero (dummy_places u) (declared_places u ++ statement_places u) dummy_places_zero (join at_zero (declared_places u) (statement_places u) declared_places_zero statement_places_zero)

  extent_places_zero : extent_places (unlined_procedure u) ≡ map at_zero (extent_places u)
  extent_places_zero = flat_alike at_zero (λ d. map (λ x. (d.line, x)) (extent_names d.extents)) (λ d. map (λ x. (d.line, x)) (extent_names d.extents)) unlined_declaration (λ d. one_alike at_zero (λ x. (0, x)) (λ x. (d.line, x)) (λ x. refl) (extent_names d.extents)) u.declarations

-- ---- names

taken_unlined : (t : Bool) (a : Act) → taken_in t (unlined_act a) ≡ taken_in t a
taken_unlined t (assign x subs e) = refl
taken_unlined t (choose c a b) = refl
taken_unlined t (loop x first last by body m) = refl
taken_unlined t (during c body) = refl
taken_unlined t (call name args) = refl
taken_unlined t (runtime r) = refl

runtime_unlined : (a : Act) → calls_runtime (unlined_act a) ≡ calls_runtime a
runtime_unlined (assign x subs e) = refl
runtime_unlined (choose c a b) = refl
runtime_unlined (loop x first last by body m) = refl
runtime_unlined (during c body) = refl
runtime_unlined (call name args) = refl
runtime_unlined (runtime r) = refl

-- names left out, and each name once
others_zero : (x : Name) (ps : List (At Name)) → filter (λ q. not (name_eq x q.1)) (map at_zero ps) ≡ map at_zero (filter (λ q. not (name_eq x q.1)) ps)
others_zero x [] = refl
others_zero x (p ∷ ps) = go (not (name_eq x p.1)) _ _ (others_zero x ps)
  where
    go : (b : Bool) (l m : List (At Name)) → l ≡ map at_zero m → (if b then (0, p.1) ∷ l else l) ≡ map at_zero (if b then p ∷ m else m)
    go true l m e = ap (λ z. (0, p.1) ∷ z) e
    go false l m e = e

first_zero : (ps : List (At Name)) → first_places (map at_zero ps) ≡ map at_zero (first_places ps)
first_zero [] = refl
first_zero (p ∷ ps) = ap (λ z. (0, p.1) ∷ z) (ap (filter (λ q. not (name_eq p.1 q.1))) (first_zero ps) ∙ others_zero p.1 (first_places ps))

passed_by_erased : (limit : ℕ) (ps : List (At Name)) → passed_by limit (map at_zero ps) ≡ erased (passed_by limit ps)
passed_by_erased limit [] = refl
passed_by_erased limit (p ∷ ps) = refl

passed_erased : (limit : Option ℕ) (ps : List (At Name)) → passed_in limit (map at_zero ps) ≡ erased (passed_in limit ps)
passed_erased None ps = refl
passed_erased (Some limit) ps = ap (passed_by limit) (drop_alike at_zero limit ps) ∙ passed_by_erased limit (drop limit ps)

some_found : (o : Option Procedure) → is_some (unlined_found o) ≡ is_some o
some_found None = refl
some_found (Some u) = refl

module _ (m : Rules) (ps : List Procedure) (u : Procedure) where
  undeclared_erased : undeclared (unlined_procedure u) ≡ erased (undeclared u)
  undeclared_erased =
      ap (flat_map (λ p. faults_if (not (is_integer (unlined_procedure u) p.1)) (fault 7 p.0))) (join at_zero (places u) (extent_places u) (places_zero u) (extent_places_zero u))
      ∙ flat_alike zeroed (λ p. faults_if (not (is_integer u p.1)) (fault 7 p.0)) (λ p. faults_if (not (is_integer (unlined_procedure u) p.1)) (fault 7 p.0)) at_zero
      (λ p. ap (λ z. faults_if (not z) (fault 7 0)) (integer_alike u p.1) ∙ faults_erased (not (is_integer u p.1)) (fault 7 p.0)) (places u ++ extent_places u)

  twice_erased : declared_twice (unlined_procedure u) ≡ erased (declared_twice u)
  twice_erased =
      join zeroed (again 8 [] (dummy_places u)) (again 8 [] (declared_places u))
      (ap (again 8 []) (dummy_places_zero u) ∙ again_erased 8 [] (dummy_places u))
      (ap (again 8 []) (declared_places_zero u) ∙ again_erased 8 [] (declared_places u))

  misused_erased : misused m (unlined_procedure u) ≡ erased (misused m u)
  misused_erased =
      each_statement zeroed (λ s. flat_map (λ n. faults_if (not (has_rank u n)) (fault 9 s.0)) (taken_in m.takes_runtime s.1)) (λ s. flat_map (λ n. faults_if (not (has_rank (unlined_procedure u) n)) (fault 9 s.0)) (taken_in m.takes_runtime s.1))
      (λ s. ap (flat_map (λ n. faults_if (not (has_rank (unlined_procedure u) n)) (fault 9 0))) (taken_unlined m.takes_runtime s.1)
      ∙ flat_same zeroed (λ n. faults_if (not (has_rank u n)) (fault 9 s.0)) (λ n. faults_if (not (has_rank (unlined_procedure u) n)) (fault 9 0))
      (λ n. ap (λ z. faults_if (not (is_rank_for n.subscripts z)) (fault 9 0)) (rank_alike u n.name) ∙ faults_erased (not (has_rank u n)) (fault 9 s.0)) (taken_in m.takes_runtime s.1)) u.body

  bad_extent_alike : (e : Extent) → is_bad_extent (unlined_procedure u) e ≡ is_bad_extent u e
  bad_extent_alike (fixed z) = refl
  bad_extent_alike (given x) = ap (λ z. not (is_dummy u x && z == 0)) (rank_alike u x)

  bad_extents_alike : (d : Declaration) → has_bad_extents (unlined_procedure u) (unlined_declaration d) ≡ has_bad_extents u d
  bad_extents_alike d = λ i. list_any (λ e. bad_extent_alike e i) d.extents || (int_lt (pos 1048576) (literal_product d.extents) || (not (is_dummy u d.name) && not (length (extent_names d.extents) == 0)))

  extents_erased : bad_extents (unlined_procedure u) ≡ erased (bad_extents u)
  extents_erased =
      flat_alike zeroed (λ d. faults_if (has_bad_extents u d) (fault 12 d.line)) (λ d. faults_if (has_bad_extents (unlined_procedure u) d) (fault 12 d.line)) unlined_declaration
      (λ d. ap (λ z. faults_if z (fault 12 0)) (bad_extents_alike d) ∙ faults_erased (has_bad_extents u d) (fault 12 d.line)) u.declarations

  reserved_erased : reserved_variables (unlined ps) (unlined_procedure u) ≡ erased (reserved_variables ps u)
  reserved_erased =
      ap (flat_map (λ p. faults_if (is_reserved p.1 || is_some (find_unit (unlined ps) p.1)) (fault 18 p.0))) (places_zero u)
      ∙ flat_alike zeroed (λ p. faults_if (is_reserved p.1 || is_some (find_unit ps p.1)) (fault 18 p.0)) (λ p. faults_if (is_reserved p.1 || is_some (find_unit (unlined ps) p.1)) (fault 18 p.0)) at_zero
      (λ p. ap (λ z. faults_if (is_reserved p.1 || z) (fault 18 0)) (ap is_some (find_unlined ps p.1) ∙ some_found (find_unit ps p.1)) ∙ faults_erased (is_reserved p.1 || is_some (find_unit ps p.1)) (fault 18 p.0)) (places u)

  runtime_erased : runtime_calls m (unlined_procedure u) ≡ erased (runtime_calls m u)
  runtime_erased =
      each_statement zeroed (λ s. faults_if (not m.takes_runtime && calls_runtime s.1) (fault 18 s.0)) (λ s. faults_if (not m.takes_runtime && calls_runtime s.1) (fault 18 s.0))
      (λ s. ap (λ z. faults_if (not m.takes_runtime && z) (fault 18 0)) (runtime_unlined s.1) ∙ faults_erased (not m.takes_runtime && calls_runtime s.1) (fault 18 s.0)) u.body

  too_many_erased : too_many_variables m (unlined_procedure u) ≡ erased (too_many_variables m u)
  too_many_erased = ap (passed_in m.variables) (ap first_places (places_zero u) ∙ first_zero (places u)) ∙ passed_erased m.variables (first_places (places u))

  names_of_erased : faults_of_names m (unlined ps) (unlined_procedure u) ≡ erased (faults_of_names m ps u)
  names_of_erased =
      join zeroed (undeclared u) (declared_twice u ++ (misused m u ++ (bad_extents u ++ (reserved_variables ps u ++ (runtime_calls m u ++ too_many_variables m u))))) undeclared_erased
      (join zeroed (declared_twice u) (misused m u ++ (bad_extents u ++ (reserved_variables ps u ++ (runtime_calls m u ++ too_many_variables m u)))) twice_erased
      (join zeroed (misused m u) (bad_extents u ++ (reserved_variables ps u ++ (runtime_calls m u ++ too_many_variables m u))) misused_erased
      (join zeroed (bad_extents u) (reserved_variables ps u ++ (runtime_calls m u ++ too_many_variables m u)) extents_erased
      (join zeroed (reserved_variables ps u) (runtime_calls m u ++ too_many_variables m u) reserved_erased
      (join zeroed (runtime_calls m u) (too_many_variables m u) runtime_erased too_many_erased)))))

names_erased : (m : Rules) (ps : List Procedure) → name_faults m (unlined ps) ≡ erased (name_faults m ps)
names_erased m ps = flat_alike zeroed (faults_of_names m ps) (faults_of_names m (unlined ps)) unlined_procedure (names_of_erased m ps) ps

-- ---- calls

actual_alike : (caller : Procedure) (n : ℕ) (e : Term) → is_actual_for (unlined_procedure caller) n e ≡ is_actual_for caller n e
actual_alike caller n (var x) = ap (λ z. z == n) (variable_rank_alike caller x)
actual_alike caller n (elem x subs) = refl
actual_alike caller n (lit z) = refl
actual_alike caller n (neg a) = refl
actual_alike caller n (bin op a b) = refl
actual_alike caller n (pow a k) = refl
actual_alike caller n (power_of a b) = refl
actual_alike caller n (abs a) = refl

actuals_alike : (caller called : Procedure) (ds : List Name) (es : Terms) → are_actuals_for (unlined_procedure caller) (unlined_procedure called) ds es ≡ are_actuals_for caller called ds es
actuals_alike caller called [] none = refl
actuals_alike caller called [] (more e es) = refl
actuals_alike caller called (d ∷ ds) none = refl
actuals_alike caller called (d ∷ ds) (more e es) = λ i. actual_alike caller (rank_alike called d i) e i && actuals_alike caller called ds es i

unit_call_erased : (caller : Procedure) (o : Option Procedure) (line : ℕ) (args : Terms) → faults_of_unit_call (unlined_procedure caller) (unlined_found o) 0 args ≡ erased (faults_of_unit_call caller o line args)
unit_call_erased caller None line args = refl
unit_call_erased caller (Some u) line args = ap (λ z. faults_if (not z) (fault 15 0)) (actuals_alike caller u u.dummies args) ∙ faults_erased (not (are_actuals_for caller u u.dummies args)) (fault 15 line)

call_erased : (ps : List Procedure) (u : Procedure) (line : ℕ) (a : Act) → faults_of_call (unlined ps) (unlined_procedure u) 0 (unlined_act a) ≡ erased (faults_of_call ps u line a)
call_erased ps u line (assign x subs e) = refl
call_erased ps u line (choose c a b) = refl
call_erased ps u line (loop x first last by body m) = refl
call_erased ps u line (during c body) = refl
call_erased ps u line (call name args) = go (is_runtime name)
  where
    go : (b : Bool) → (if b then fault 15 0 ∷ [] else faults_of_unit_call (unlined_procedure u) (find_unit (unlined ps) name) 0 args) ≡ erased (if b then fault 15 line ∷ [] else faults_of_unit_call u (find_unit ps name) line args)
    go true = refl
    go false = ap (λ z. faults_of_unit_call (unlined_procedure u) z 0 args) (find_unlined ps name) ∙ unit_call_erased u (find_unit ps name) line args
call_erased ps u line (runtime r) =
    flat_same zeroed (λ x. faults_if (variable_rank u x == 0) (fault 15 line)) (λ x. faults_if (variable_rank (unlined_procedure u) x == 0) (fault 15 0))
    (λ x. ap (λ z. faults_if (z == 0) (fault 15 0)) (variable_rank_alike u x) ∙ faults_erased (variable_rank u x == 0) (fault 15 line)) (array_arguments r)

calls_erased : (ps : List Procedure) → call_faults (unlined ps) ≡ erased (call_faults ps)
calls_erased ps =
    flat_alike zeroed (λ u. flat_map (λ s. faults_of_call ps u s.0 s.1) (statements u.body)) (λ u. flat_map (λ s. faults_of_call (unlined ps) u s.0 s.1) (statements u.body)) unlined_procedure
    (λ u. each_statement zeroed (λ s. faults_of_call ps u s.0 s.1) (λ s. faults_of_call (unlined ps) (unlined_procedure u) s.0 s.1) (λ s. call_erased ps u s.0 s.1) u.body) ps

-- ---- chains

call_in_unlined : (a : Act) → call_in (unlined_act a) ≡ call_in a
call_in_unlined (assign x subs e) = refl
call_in_unlined (choose c a b) = refl
call_in_unlined (loop x first last by body m) = refl
call_in_unlined (during c body) = refl
call_in_unlined (call name args) = refl
call_in_unlined (runtime r) = refl

calls_zero : (u : Procedure) → calls (unlined_procedure u) ≡ map at_zero (calls u)
calls_zero u =
    each_statement at_zero (λ s. map (λ c. (s.0, c)) (call_in s.1)) (λ s. map (λ c. (s.0, c)) (call_in s.1))
    (λ s. ap (map (λ c. (0, c))) (call_in_unlined s.1) ∙ one_alike at_zero (λ c. (0, c)) (λ c. (s.0, c)) (λ c. refl) (call_in s.1)) u.body

calls_found_zero : (o : Option Procedure) → calls_found (unlined_found o) ≡ map at_zero (calls_found o)
calls_found_zero None = refl
calls_found_zero (Some u) = calls_zero u

-- what is said of each call of a unit
each_call : (f g : At Call → List Refusal) → ((c : At Call) → g (at_zero c) ≡ erased (f c)) → (u : Procedure) → flat_map g (calls (unlined_procedure u)) ≡ erased (flat_map f (calls u))
each_call f g e u = ap (flat_map g) (calls_zero u) ∙ flat_alike zeroed f g at_zero e (calls u)

mutual
  act_chain_alike : (below : Name → ℕ) (a : Act) → act_chain below (unlined_act a) ≡ act_chain below a
  act_chain_alike below (assign x subs e) = refl
  act_chain_alike below (choose c a b) = λ i. max (chain_alike below a i) (chain_alike below b i)
  act_chain_alike below (loop x first last by body m) = ap (with_mark m) (chain_alike below body)
  act_chain_alike below (during c body) = chain_alike below body
  act_chain_alike below (call name args) = refl
  act_chain_alike below (runtime r) = refl

  chain_alike : (below : Name → ℕ) (c : Code) → chain below (unlined_code c) ≡ chain below c
  chain_alike below stop = refl
  chain_alike below (step line a rest) = λ i. max (act_chain_alike below a i) (chain_alike below rest i)

begins_unlined : (a : Act) → begins_chain (unlined_act a) ≡ begins_chain a
begins_unlined (assign x subs e) = refl
begins_unlined (choose c a b) = refl
begins_unlined (loop x first last by body m) = refl
begins_unlined (during c body) = refl
begins_unlined (call name args) = refl
begins_unlined (runtime r) = refl

found_chain : (below : Name → ℕ) (o : Option Procedure) → chain_found below (unlined_found o) ≡ chain_found below o
found_chain below None = refl
found_chain below (Some u) = ap suc (chain_alike below u.body)

or_else_erased : (xs ys : List Refusal) → or_else (erased xs) (erased ys) ≡ erased (or_else xs ys)
or_else_erased [] ys = refl
or_else_erased (x ∷ xs) ys = refl

module _ (m : Rules) (ps : List Procedure) where
  leads_alike : (k : ℕ) (from to : Name) → leads (unlined ps) k from to ≡ leads ps k from to
  leads_alike zero from to = refl
  leads_alike (suc k) from to =
      ap (λ z. name_eq from to || z)
      (ap (list_any (λ c. leads (unlined ps) k (c.1).0 to)) (ap calls_found (find_unlined ps from) ∙ calls_found_zero (find_unit ps from))
      ∙ any_alike at_zero (λ c. leads (unlined ps) k (c.1).0 to) (λ c. leads ps k (c.1).0 to) (λ c. leads_alike k (c.1).0 to) (calls_from ps from))

  lead_alike : (from to : Name) → calls_lead (unlined ps) from to ≡ calls_lead ps from to
  lead_alike from to = ap (λ k. leads (unlined ps) k from to) (long_alike unlined_procedure ps) ∙ leads_alike (length ps) from to

  within_alike : (k : ℕ) (name : Name) → chain_within (unlined ps) k name ≡ chain_within ps k name
  within_alike zero name = refl
  within_alike (suc k) name = (λ i. chain_found (λ x. within_alike k x i) (find_unlined ps name i)) ∙ found_chain (chain_within ps k) (find_unit ps name)

  from_alike : (name : Name) → chain_from (unlined ps) name ≡ chain_from ps name
  from_alike name = ap (λ k. chain_within (unlined ps) k name) (long_alike unlined_procedure ps) ∙ within_alike (length ps) name

  cycles_erased : cycles (unlined ps) ≡ erased (cycles ps)
  cycles_erased =
      flat_alike zeroed (λ u. flat_map (λ c. faults_if (calls_lead ps (c.1).0 u.name) (fault 16 c.0)) (calls u)) (λ u. flat_map (λ c. faults_if (calls_lead (unlined ps) (c.1).0 u.name) (fault 16 c.0)) (calls u)) unlined_procedure
      (λ u. each_call (λ c. faults_if (calls_lead ps (c.1).0 u.name) (fault 16 c.0)) (λ c. faults_if (calls_lead (unlined ps) (c.1).0 u.name) (fault 16 c.0))
      (λ c. ap (λ z. faults_if z (fault 16 0)) (lead_alike (c.1).0 u.name) ∙ faults_erased (calls_lead ps (c.1).0 u.name) (fault 16 c.0)) u) ps

  is_long : (a : Act) → (begins_chain (unlined_act a) && nat_lt m.chain (suc (act_chain (chain_from (unlined ps)) (unlined_act a)))) ≡ (begins_chain a && nat_lt m.chain (suc (act_chain (chain_from ps) a)))
  is_long a = (λ i. begins_unlined a i && nat_lt m.chain (suc (act_chain (λ x. from_alike x i) (unlined_act a)))) ∙ ap (λ z. begins_chain a && nat_lt m.chain (suc z)) (act_chain_alike (chain_from ps) a)

  long_erased : long_chains m (unlined ps) ≡ erased (long_chains m ps)
  long_erased =
      flat_alike zeroed (λ u. flat_map (λ s. faults_if (begins_chain s.1 && nat_lt m.chain (suc (act_chain (chain_from ps) s.1))) (passed m.chain s.0)) (statements u.body))
      (λ u. flat_map (λ s. faults_if (begins_chain s.1 && nat_lt m.chain (suc (act_chain (chain_from (unlined ps)) s.1))) (passed m.chain s.0)) (statements u.body)) unlined_procedure
      (λ u. each_statement zeroed (λ s. faults_if (begins_chain s.1 && nat_lt m.chain (suc (act_chain (chain_from ps) s.1))) (passed m.chain s.0)) (λ s. faults_if (begins_chain s.1 && nat_lt m.chain (suc (act_chain (chain_from (unlined ps)) s.1))) (passed m.chain s.0))
      (λ s. ap (λ z. faults_if z (passed m.chain 0)) (is_long s.1) ∙ faults_erased (begins_chain s.1 && nat_lt m.chain (suc (act_chain (chain_from ps) s.1))) (passed m.chain s.0)) u.body) ps

  chains_erased : chain_faults m (unlined ps) ≡ erased (chain_faults m ps)
  chains_erased = (λ i. or_else (cycles_erased i) (long_erased i)) ∙ or_else_erased (cycles ps) (long_chains m ps)

-- ---- writes

may_write_unlined : (handed : Dummies) (x : Var) (a : Act) → may_write handed x (unlined_act a) ≡ may_write handed x a
may_write_unlined handed x (assign y subs e) = refl
may_write_unlined handed x (choose c a b) = refl
may_write_unlined handed x (loop y first last by body m) = refl
may_write_unlined handed x (during c body) = refl
may_write_unlined handed x (call name args) = refl
may_write_unlined handed x (runtime r) = refl

module _ (handed : Dummies) (u : Procedure) where
  of_variable_erased : (s : At Act) → writes_of_variable handed (unlined_act s.1) ≡ erased (writes_of_variable handed s.1)
  of_variable_erased s = go s.1
    where
      go : (a : Act) → writes_of_variable handed (unlined_act a) ≡ erased (writes_of_variable handed a)
      go (assign x subs e) = refl
      go (choose c a b) = refl
      go (loop x first last by body m) =
          each_statement zeroed (λ s. faults_if (may_write handed x s.1) (fault 11 s.0)) (λ s. faults_if (may_write handed x s.1) (fault 11 s.0))
          (λ s. ap (λ z. faults_if z (fault 11 0)) (may_write_unlined handed x s.1) ∙ faults_erased (may_write handed x s.1) (fault 11 s.0)) body
      go (during c body) = refl
      go (call name args) = refl
      go (runtime r) = refl

  variables_erased : written_variables handed (unlined_procedure u) ≡ erased (written_variables handed u)
  variables_erased = each_statement zeroed (λ s. writes_of_variable handed s.1) (λ s. writes_of_variable handed s.1) of_variable_erased u.body

  written_extents_erased : written_extents handed (unlined_procedure u) ≡ erased (written_extents handed u)
  written_extents_erased =
      each_statement zeroed (λ s. faults_if (list_any (λ d. is_extent d u.declarations && may_write handed (plain d) s.1) u.dummies) (fault 13 s.0))
      (λ s. faults_if (list_any (λ d. is_extent d (map unlined_declaration u.declarations) && may_write handed (plain d) s.1) u.dummies) (fault 13 s.0))
      (λ s. (λ i. faults_if (list_any (λ d. extent_alike d u.declarations i && may_write_unlined handed (plain d) s.1 i) u.dummies) (fault 13 0))
      ∙ faults_erased (list_any (λ d. is_extent d u.declarations && may_write handed (plain d) s.1) u.dummies) (fault 13 s.0)) u.body

  whole_alike : (e : Term) → is_whole_array (unlined_procedure u) e ≡ is_whole_array u e
  whole_alike (var x) = ap (λ z. not (z == 0)) (variable_rank_alike u x)
  whole_alike (elem x subs) = refl
  whole_alike (lit z) = refl
  whole_alike (neg a) = refl
  whole_alike (bin op a b) = refl
  whole_alike (pow a k) = refl
  whole_alike (power_of a b) = refl
  whole_alike (abs a) = refl

  clashes_alike : (v : Bool) (e : Term) (ws : List Bool) (es : Terms) → clashes (unlined_procedure u) v e ws es ≡ clashes u v e ws es
  clashes_alike v e [] es = refl
  clashes_alike v e (w ∷ ws) none = refl
  clashes_alike v e (w ∷ ws) (more f fs) = λ i. (name_one e f && ((v || w) || (whole_alike e i && whole_alike f i))) || clashes_alike v e ws fs i

  have_clash_alike : (ws : List Bool) (es : Terms) → have_clash (unlined_procedure u) ws es ≡ have_clash u ws es
  have_clash_alike [] es = refl
  have_clash_alike (w ∷ ws) none = refl
  have_clash_alike (w ∷ ws) (more e es) = λ i. clashes_alike w e ws es i || have_clash_alike ws es i

  shared_erased : shared_variables handed (unlined_procedure u) ≡ erased (shared_variables handed u)
  shared_erased =
      each_call (λ c. faults_if (have_clash u (handed (c.1).0) (c.1).1) (fault 17 c.0)) (λ c. faults_if (have_clash (unlined_procedure u) (handed (c.1).0) (c.1).1) (fault 17 c.0))
      (λ c. ap (λ z. faults_if z (fault 17 0)) (have_clash_alike (handed (c.1).0) (c.1).1) ∙ faults_erased (have_clash u (handed (c.1).0) (c.1).1) (fault 17 c.0)) u

  values_erased : written_values handed (unlined_procedure u) ≡ erased (written_values handed u)
  values_erased =
      each_call (λ c. faults_if (hands_back_values (handed (c.1).0) (c.1).1) (fault 24 c.0)) (λ c. faults_if (hands_back_values (handed (c.1).0) (c.1).1) (fault 24 c.0))
      (λ c. faults_erased (hands_back_values (handed (c.1).0) (c.1).1) (fault 24 c.0)) u

  writes_of_erased : faults_of_writes handed (unlined_procedure u) ≡ erased (faults_of_writes handed u)
  writes_of_erased =
      join zeroed (written_variables handed u) (written_extents handed u ++ (shared_variables handed u ++ written_values handed u)) variables_erased
      (join zeroed (written_extents handed u) (shared_variables handed u ++ written_values handed u) written_extents_erased
      (join zeroed (shared_variables handed u) (written_values handed u) shared_erased values_erased))

writes_erased : (ps : List Procedure) → write_faults (unlined ps) ≡ erased (write_faults ps)
writes_erased ps =
    ap (λ h. flat_map (faults_of_writes h) (unlined ps)) (λ i name. handed_unlined ps name i)
    ∙ flat_alike zeroed (faults_of_writes (handed_back ps)) (faults_of_writes (handed_back ps)) unlined_procedure (writes_of_erased (handed_back ps)) ps

-- ---- all

-- where nothing is left without lines, there was nothing
nothing_erased : (rs : List Refusal) → erased rs ≡ [] → rs ≡ []
nothing_erased [] h = refl
nothing_erased (r ∷ rs) h = absurd cc

none_is_sound : (m : Rules) (ps : List Procedure) → HasNone m ps → IsSound m ps
none_is_sound m ps h = λ i. first_in_passes (h.units i ∷ h.names i ∷ h.calls i ∷ h.chains i ∷ h.writes i ∷ [])

unlined_sound : (m : Rules) (ps : List Procedure) → IsSound m ps → IsSound m (unlined ps)
unlined_sound m ps h =
    let free : HasNone m ps = sound_has_none m ps h in
    none_is_sound m (unlined ps) (record {
      units = units_erased ps ∙ ap erased free.units;
      names = names_erased m ps ∙ ap erased free.names;
      calls = calls_erased ps ∙ ap erased free.calls;
      chains = chains_erased m ps ∙ ap erased free.chains;
      writes = writes_erased ps ∙ ap erased free.writes;
    })

sound_unlined : (m : Rules) (ps : List Procedure) → IsSound m (unlined ps) → IsSound m ps
sound_unlined m ps h =
    let free : HasNone m (unlined ps) = sound_has_none m (unlined ps) h in
    none_is_sound m ps (record {
      units = nothing_erased (unit_faults ps) (sym (units_erased ps) ∙ free.units);
      names = nothing_erased (name_faults m ps) (sym (names_erased m ps) ∙ free.names);
      calls = nothing_erased (call_faults ps) (sym (calls_erased ps) ∙ free.calls);
      chains = nothing_erased (chain_faults m ps) (sym (chains_erased m ps) ∙ free.chains);
      writes = nothing_erased (write_faults ps) (sym (writes_erased ps) ∙ free.writes);
    })

-- programs that are the same up to line numbers have faults both or neither
pub sound_lines : (m : Rules) (ps qs : List Procedure) → unlined ps ≡ unlined qs → IsSound m ps → IsSound m qs
sound_lines m ps qs same h = sound_unlined m qs (subst (IsSound m) same (unlined_sound m ps h))
