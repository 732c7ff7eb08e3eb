-- The names of the kernel of a program without faults stand as they should.
use Rattle.std.proofs.Common.{◌≡◌, ℕ, suc, ◌+◌, ◌⊎◌, inl, inr, Bool, true, false, List, [], ◌∷◌, ◌++◌, map, refl, sym, ap, ◌∙◌, subst, if◌then◌else◌}
use Rattle.std.specs.Prelude.{ℤ, pos, int_lt, ◌&&◌, ◌||◌, ◌==◌, not, length, flat_map, Option, Some, None, is_some}
use Rattle.std.specs.List.{list_any}
use Rattle.adj_tree.specs.Code.{Var, plain, var_eq, name_eq, unmarked, with_count, count_from, Act, assign, choose, loop, during, call, runtime, Code, stop, step, Terms, Extent, fixed, given, Declaration, Procedure}
use Rattle.adj_tree.proofs.Names.{name_refl}
use Rattle.def_text.specs.Written.{IsWritten}
use Rattle.def_meaning.specs.Written.{find_unit}
use Rattle.def_meaning.specs.Units.{declared}
use Rattle.def_meaning.specs.Read.{names_extent}
use Rattle.def_meaning.proofs.Booleans.{and_true, or_false, or_first, or_second}
use Rattle.def_names.specs.Statements.{At, statements}
use Rattle.def_names.specs.Standing.{Standing, in_actuals, in_act}
use Rattle.def_names.specs.Reserved.{is_reserved}
use Rattle.def_names.specs.Variables.{Name, dummy_places, declared_places, places, is_integer_name, is_integer, rank, is_dummy, is_scalar}
use Rattle.def_names.specs.Fault.{source_rules, run_rules, fault, faults_if, again}
use Rattle.def_names.specs.NameFaults.{extent_names, literal_product, extent_places, undeclared, declared_twice, has_rank, taken_in, misused, is_bad_extent, has_bad_extents, bad_extents, reserved_variables, calls_runtime, runtime_calls, too_many_variables, faults_of_names, name_faults}
use Rattle.def_names.specs.Check.{IsSound}
use Rattle.def_names.proofs.Sound.{sound_has_none}
use Rattle.def_names.proofs.Faultless.{apart_places, none_front, none_behind, none_if}
use Rattle.def_meaning.specs.Apart.{has_name, AreApart, is_named}
use Rattle.def_meaning.proofs.Variables.{name_comm}
use Rattle.def_names.proofs.Variables.{not_true}
use Rattle.law_kernel.specs.Apart.{CodeInside, ActInside, EachCall', EachCall}
use Rattle.def_kernel.specs.Kernel.{named, names_in_code, names_of, unit_name, EachUnit, lowered_unit}
use Rattle.law_kernel.specs.Fits.{is_of, PlainAct, PlainCode, IsFitCall}
use Rattle.def_kernel.specs.Kernel as kernel
use Rattle.def_kernel.specs.Stepped.{marked_in, marked_in_act, variables_of, step_dummies, as_actuals, step_declarations, step_names, cut_act, cut, step_unit, step_units_in_act, step_units_in, stepped_unit, stepped_from, names_of_source, stepped_program, kernel_of}
use Rattle.law_kernel.specs.StepTheorem.{HasExtents, IsSource}
use Rattle.law_kernel.proofs.Faultless.{Each, each_front, each_behind, each_more, each_both, of_each, unit_each, none_each, none_flat, isn't_not, join_units}
use Rattle.law_kernel.proofs.Holding.{HoldsIn, Holds, holding, holds_more, holds_both, cut_holds}
use Rattle.law_kernel.proofs.Locals.{has_first, has_second, own_body}
use Rattle.law_kernel.proofs.OneNotion.{names_standing, stated, stated_code, names_placed, at_dummies}
use Rattle.law_kernel.proofs.StepNames.{code_named, declared_step}
use Rattle.law_kernel.proofs.StepUnits.{step_body_inside}
use Rattle.law_kernel.proofs.StepCalls.{ExtentsIn, in_hand, extents_in}
use Rattle.law_kernel.proofs.StepFitting.{dummies_distinct}
use Rattle.law_kernel.proofs.StepsWritten.{once_from, used_from}
use Rattle.law_kernel.proofs.StandingNames.{IsFree, IsGood, Stands, each_member, no_name_faults, at_declared, same_declared}
use Rattle.law_kernel.proofs.LoweredStands.{lowered_stands}
use Rattle.law_kernel.proofs.SoundUnits.{of_source}
use Rattle.law_kernel.proofs.WholeKernels.{good}
use Rattle.law_kernel.proofs.WholeKernels as whole
use Rattle.law_kernel.proofs.SoundPrograms.{sound_is_source}

-- ---- lists of names

-- what holds of all names of a list
each_from : (Q : Name → Type 0) (xs : List Name) → ((x : Name) → has_name x xs ≡ true → Q x) → Each Q xs
each_from Q [] h = tt
each_from Q (x ∷ xs) h = (h x (or_first (name_eq x x) (has_name x xs) (name_refl x)), each_from Q xs (λ y k. h y (or_second (name_eq y x) (has_name y xs) k)))

-- the names at places
each_unmap : (Q : Name → Type 0) (ps : List (At Name)) → Each (λ (p : At Name). Q p.1) ps → Each Q (map (λ p. p.1) ps)
each_unmap Q [] h = tt
each_unmap Q (p ∷ ps) h = (h.0, each_unmap Q ps h.1)

-- and of all names where they stand in statements
standing_from : (Q : Name → Type 0) (ns : List Standing) → Each Q (names_standing ns) → Each (λ n. Q n.name) ns
standing_from Q [] h = tt
standing_from Q (n ∷ ns) h = (h.0, standing_from Q ns h.1)

-- in some statements
statements_from : (Q : Name → Type 0) (ss : List (At Act)) → Each Q (stated ss) → Each (λ (s : At Act). Each (λ n. Q n.name) (in_act s.1)) ss
statements_from Q [] h = tt
statements_from Q (s ∷ ss) h = (standing_from Q (in_act s.1) (each_front Q (names_standing (in_act s.1)) (stated ss) h), statements_from Q ss (each_behind Q (names_standing (in_act s.1)) (stated ss) h))

-- so what holds of the names in a list holds of each where it stands
named_holds : (Q : Name → Type 0) (c : Code) → ((x : Name) → has_name x (names_in_code c) ≡ true → Q x) → Holds (λ line a. Each (λ n. Q n.name) (in_act a)) c
named_holds Q c h = holding (λ line a. Each (λ n. Q n.name) (in_act a)) c (statements_from Q (statements c) (subst (Each Q) (sym (stated_code c)) (each_from Q (names_in_code c) h)))

-- ---- what is known of the names of a unit without faults

-- a unit of these names isn't found where none has the name
unfound : (us : List Procedure) (x : Name) → is_some (find_unit us x) ≡ false → has_name x (map unit_name us) ≡ false
unfound [] x h = refl
unfound (u ∷ us) x h = go (name_eq u.name x) refl h (unfound us x)
  where
    go : (b : Bool) → name_eq u.name x ≡ b → is_some (if b then Some u else find_unit us x) ≡ false → (is_some (find_unit us x) ≡ false → has_name x (map unit_name us) ≡ false) → (name_eq x u.name || has_name x (map unit_name us)) ≡ false
    go true e k ih = absurd cc
    go false e k ih = ap (λ b. b || has_name x (map unit_name us)) (name_comm u.name x e) ∙ ih k

-- its names are integers and free, stand with their ranks, and are declared once
record OwnNames (names : List Name) (u : Procedure) : Type 0 where
  own : (x : Name) → has_name x (names_of u) ≡ true → (is_integer u x ≡ true) × IsFree names x
  ranks : Holds (λ line a. Each (λ n. has_rank u n ≡ true) (in_act a)) u.body
  dummies_once : AreApart u.dummies
  declared_once : AreApart (map (λ d. d.name) u.declarations)
  extents : Each (λ d. has_bad_extents u d ≡ false) u.declarations

-- a statement that is no runtime call
not_runtime : (a : Act) → calls_runtime a ≡ false → taken_in false a ≡ in_act a
not_runtime (assign x subs e) h = refl
not_runtime (choose c a b) h = refl
not_runtime (loop x first last by body m) h = refl
not_runtime (during c body) h = refl
not_runtime (call name args) h = refl
not_runtime (runtime r) h = absurd cc

-- that is known of a unit without faults of names
own_names : (ps : List Procedure) (u : Procedure) → faults_of_names source_rules ps u ≡ [] → OwnNames (map unit_name ps) u
own_names ps u h = record {
  own = λ x k.
      each_member (λ y. (is_integer u y ≡ true) × IsFree (map unit_name ps) y) (map (λ p. p.1) (places u)) (each_unmap (λ y. (is_integer u y ≡ true) × IsFree (map unit_name ps) y) (places u) each_place) x
      (ap (has_name x) (names_placed u) ∙ k);
  ranks = holding (λ line a. Each (λ n. has_rank u n ≡ true) (in_act a)) u.body
      (each_more (λ (s : At Act). (flat_map (λ n. faults_if (not (has_rank u n)) (fault 9 s.0)) (taken_in false s.1) ≡ []) × (calls_runtime s.1 ≡ false)) (λ s. Each (λ n. has_rank u n ≡ true) (in_act s.1))
      (λ s k.
      each_more (λ n. faults_if (not (has_rank u n)) (fault 9 s.0) ≡ []) (λ n. has_rank u n ≡ true) (λ n g. isn't_not (has_rank u n) (none_if (not (has_rank u n)) (fault 9 s.0) g)) (in_act s.1)
      (none_each (λ n. faults_if (not (has_rank u n)) (fault 9 s.0)) (in_act s.1) (ap (flat_map (λ n. faults_if (not (has_rank u n)) (fault 9 s.0))) (sym (not_runtime s.1 k.1)) ∙ k.0))) (statements u.body)
      (each_both (λ (s : At Act). flat_map (λ n. faults_if (not (has_rank u n)) (fault 9 s.0)) (taken_in false s.1) ≡ []) (λ (s : At Act). calls_runtime s.1 ≡ false) (statements u.body)
      (none_each (λ s. flat_map (λ n. faults_if (not (has_rank u n)) (fault 9 s.0)) (taken_in false s.1)) (statements u.body) (none_front (misused source_rules u) _ n2))
      (each_more (λ s. faults_if (true && calls_runtime s.1) (fault 18 s.0) ≡ []) (λ s. calls_runtime s.1 ≡ false) (λ s k. none_if (calls_runtime s.1) (fault 18 s.0) k) (statements u.body)
      (none_each (λ s. faults_if (true && calls_runtime s.1) (fault 18 s.0)) (statements u.body) (none_front (runtime_calls source_rules u) (too_many_variables source_rules u) n5)))));
  dummies_once = subst AreApart (at_dummies u.line u.dummies) (apart_places 8 [] (dummy_places u) (none_front (again 8 [] (dummy_places u)) (again 8 [] (declared_places u)) (none_front (declared_twice u) _ n1)));
  declared_once = subst AreApart (at_declared u.declarations) (apart_places 8 [] (declared_places u) (none_behind (again 8 [] (dummy_places u)) (again 8 [] (declared_places u)) (none_front (declared_twice u) _ n1)));
  extents = each_more (λ d. faults_if (has_bad_extents u d) (fault 12 d.line) ≡ []) (λ d. has_bad_extents u d ≡ false) (λ d k. none_if (has_bad_extents u d) (fault 12 d.line) k) u.declarations (none_each (λ d. faults_if (has_bad_extents u d) (fault 12 d.line)) u.declarations (none_front (bad_extents u) _ n3));
}
  where
    n1 : declared_twice u ++ (misused source_rules u ++ (bad_extents u ++ (reserved_variables ps u ++ (runtime_calls source_rules u ++ too_many_variables source_rules u)))) ≡ []
    n1 = none_behind (undeclared u) _ h

    n2 : misused source_rules u ++ (bad_extents u ++ (reserved_variables ps u ++ (runtime_calls source_rules u ++ too_many_variables source_rules u))) ≡ []
    n2 = none_behind (declared_twice u) _ n1

    n3 : bad_extents u ++ (reserved_variables ps u ++ (runtime_calls source_rules u ++ too_many_variables source_rules u)) ≡ []
    n3 = none_behind (misused source_rules u) _ n2

    n4 : reserved_variables ps u ++ (runtime_calls source_rules u ++ too_many_variables source_rules u) ≡ []
    n4 = none_behind (bad_extents u) _ n3

    n5 : runtime_calls source_rules u ++ too_many_variables source_rules u ≡ []
    n5 = none_behind (reserved_variables ps u) _ n4

    each_place : Each (λ (p : At Name). (is_integer u p.1 ≡ true) × IsFree (map unit_name ps) p.1) (places u)
    each_place =
        each_both (λ (p : At Name). is_integer u p.1 ≡ true) (λ (p : At Name). IsFree (map unit_name ps) p.1) (places u)
        (each_more (λ (p : At Name). faults_if (not (is_integer u p.1)) (fault 7 p.0) ≡ []) (λ p. is_integer u p.1 ≡ true) (λ p k. isn't_not (is_integer u p.1) (none_if (not (is_integer u p.1)) (fault 7 p.0) k)) (places u)
        (each_front (λ (p : At Name). faults_if (not (is_integer u p.1)) (fault 7 p.0) ≡ []) (places u) (extent_places u) (none_each (λ p. faults_if (not (is_integer u p.1)) (fault 7 p.0)) (places u ++ extent_places u) (none_front (undeclared u) _ h))))
        (each_more (λ (p : At Name). faults_if (is_reserved p.1 || is_some (find_unit ps p.1)) (fault 18 p.0) ≡ []) (λ p. IsFree (map unit_name ps) p.1)
        (λ p k. let q = or_false (is_reserved p.1) (is_some (find_unit ps p.1)) (none_if (is_reserved p.1 || is_some (find_unit ps p.1)) (fault 18 p.0) k) in (q.0, unfound ps p.1 q.1)) (places u)
        (none_each (λ p. faults_if (is_reserved p.1 || is_some (find_unit ps p.1)) (fault 18 p.0)) (places u) (none_front (reserved_variables ps u) _ n4)))

-- ---- a unit with its marked loops cut, and its step units

-- the dummies of the step unit of a marked loop are among some
abbrev StepsWithin : Procedure → List Name → Act → Type 0
StepsWithin u ns (assign x subs e) = Unit {0}
StepsWithin u ns (choose c a b) = Unit {0}
StepsWithin u ns (loop x first last by body m) = (y : Name) → has_name y (step_dummies u x body) ≡ true → has_name y ns ≡ true
StepsWithin u ns (during c body) = Unit {0}
StepsWithin u ns (call name args) = Unit {0}
StepsWithin u ns (runtime r) = Unit {0}

-- each name of a call of a step unit is as it should be
each_actual : (Q : Standing → Type 0) (vs : List Name) → ((y : Name) → has_name y vs ≡ true → Q (record { name = y; subscripts = None })) → Each Q (in_actuals (as_actuals vs))
each_actual Q [] h = tt
each_actual Q (v ∷ vs) h = (h v (or_first (name_eq v v) (has_name v vs) (name_refl v)), each_actual Q vs (λ y k. h y (or_second (name_eq y v) (has_name y vs) k)))

module _ (names : List Name) (u : Procedure) (known : OwnNames names u) (P : List ℕ → Terms → Type 0)
    (own_extents : (x : Var) (d : List ℕ) → names_extent d (declared u.declarations x) ≡ true → has_name d (names_of u) ≡ true)
    (flat_extents : (x : Var) (d : List ℕ) → names_extent d (declared u.declarations x) ≡ true → declared u.declarations (plain d) ≡ []) where
  mutual
    within_in : (ns : List Name) → ExtentsIn u ns → (line : ℕ) (a : Act) → ActInside (is_named ns) a → EachCall' P a → HoldsIn (λ line a. StepsWithin u ns a) a
    within_in ns ext line (assign x subs e) i p = tt
    within_in ns ext line (choose c a b) i p = (steps_within ns ext a i.1.0 p.0, steps_within ns ext b i.1.1 p.1)
    within_in ns ext line (loop x first last by body m) i p = steps_within ns ext body i.1.1 p
    within_in ns ext line (during c body) i p = steps_within ns ext body i.1 p
    within_in ns ext line (call name args) i p = tt
    within_in ns ext line (runtime r) i p = tt

    -- step units of loops within some names have dummies within them
    steps_within : (ns : List Name) → ExtentsIn u ns → (c : Code) → CodeInside (is_named ns) c → EachCall P c → Holds (λ line a. StepsWithin u ns a) c
    steps_within ns ext stop i p = tt
    steps_within ns ext (step line a rest) i p = (head a i.0 p.0, (within_in ns ext line a i.0 p.0, steps_within ns ext rest i.1 p.1))
      where
        head : (a : Act) → ActInside (is_named ns) a → EachCall' P a → StepsWithin u ns a
        head (assign x subs e) i p = tt
        head (choose c a b) i p = tt
        head (loop x first last by body m) i p = in_hand u P own_extents flat_extents x body p ns i.0 i.1.1 ext
        head (during c body) i p = tt
        head (call name args) i p = tt
        head (runtime r) i p = tt

  -- a list within some names, as it should be for a unit that has them
  module _ (taken : List Name) (v : Procedure) (ns : List Name) (good_name : (n : Standing) → has_rank u n ≡ true → has_name n.name ns ≡ true → IsGood names v n) (good_whole : (y : Name) → has_name y ns ≡ true → IsGood names v (record { name = y; subscripts = None })) where
    -- as the names in a list are given
    abbrev Given : ℕ → Act → Type 0
    Given line a = Each (λ n. (has_rank u n ≡ true) × (has_name n.name ns ≡ true)) (in_act a) × StepsWithin u ns a

    -- each of some names
    good_each : (xs : List Standing) → Each (λ n. (has_rank u n ≡ true) × (has_name n.name ns ≡ true)) xs → Each (IsGood names v) xs
    good_each xs h = each_more (λ n. (has_rank u n ≡ true) × (has_name n.name ns ≡ true)) (IsGood names v) (λ n k. good_name n k.0 k.1) xs h

    -- those in a statement
    good_head : (k line : ℕ) (a : Act) → Given line a → Each (IsGood names v) (in_act (cut_act taken u k line a))
    good_head k line (assign x subs e) h = good_each (in_act (assign x subs e)) h.0
    good_head k line (choose c a b) h = good_each (in_act (choose c a b)) h.0
    good_head k line (loop x first last by body unmarked) h = good_each (in_act (loop x first last by body unmarked)) h.0
    good_head k line (loop x first last by body (with_count m)) h = good_each (in_act (loop x first last by body (with_count m))) h.0
    good_head k line (loop x first last by body (count_from y)) h = good_each (in_act (loop x first last by body (count_from y))) h.0
    good_head k line (during c body) h = good_each (in_act (during c body)) h.0
    good_head k line (call name args) h = good_each (in_act (call name args)) h.0
    good_head k line (runtime r) h = good_each (in_act (runtime r)) h.0

    -- in a list with its marked loops cut
    cut_good : (k : ℕ) (c : Code) → Holds (λ line a. Each (λ n. has_rank u n ≡ true) (in_act a)) c → Holds (λ line a. Each (λ n. has_name n.name ns ≡ true) (in_act a)) c → Holds (λ line a. StepsWithin u ns a) c → Holds (λ line a. Each (IsGood names v) (in_act a)) (cut taken u k c)
    cut_good k c r n w =
        cut_holds taken u Given (λ line a. Each (IsGood names v) (in_act a)) good_head (λ j line x first last by body m h. each_actual (IsGood names v) (step_dummies u x body) (λ y g. good_whole y (h.1 y g))) k c
        (holds_both (λ line a. Each (λ n. (has_rank u n ≡ true) × (has_name n.name ns ≡ true)) (in_act a)) (λ line a. StepsWithin u ns a) c
        (holds_more (λ line a. Each (λ n. has_rank u n ≡ true) (in_act a) × Each (λ n. has_name n.name ns ≡ true) (in_act a)) (λ line a. Each (λ n. (has_rank u n ≡ true) × (has_name n.name ns ≡ true)) (in_act a)) (λ line a h. each_both (λ n. has_rank u n ≡ true) (λ n. has_name n.name ns ≡ true) (in_act a) h.0 h.1) c
        (holds_both (λ line a. Each (λ n. has_rank u n ≡ true) (in_act a)) (λ line a. Each (λ n. has_name n.name ns ≡ true) (in_act a)) c r n)) w)

  -- what holds of declared names holds of each declaration
  each_declaration : (ds : List Declaration) → ((x : Name) → has_name x (kernel.declared_names ds) ≡ true → IsFree names x) → Each (λ (d : Declaration). IsFree names d.name) ds
  each_declaration [] h = tt
  each_declaration (d ∷ ds) h = (h d.name (or_first (name_eq d.name d.name) (has_name d.name (kernel.declared_names ds)) (name_refl d.name)), each_declaration ds (λ x k. h x (or_second (name_eq x d.name) (has_name x (kernel.declared_names ds)) k)))

  -- the unit itself
  cut_stands : (taken : List Name) → PlainCode u.body → EachCall P u.body → Stands names (record u { body = cut taken u 0 u.body })
  cut_stands taken pl p = record {
    dummies = each_from (λ d. (is_integer u d ≡ true) × IsFree names d) u.dummies (λ x h. known.own x (has_first x u.dummies _ h));
    declared = each_declaration u.declarations (λ x h. (known.own x (has_second x u.dummies _ (has_first x (kernel.declared_names u.declarations) (names_in_code u.body) h))).1);
    dummies_once = known.dummies_once;
    declared_once = known.declared_once;
    extents = known.extents;
    statements = cut_good taken (record u { body = cut taken u 0 u.body }) (names_of u) (λ n r h. let k = known.own n.name h in (k.0, (r, k.1))) (λ y h. let k = known.own y h in (k.0, (refl, k.1))) 0 u.body known.ranks
        (named_holds (λ x. has_name x (names_of u) ≡ true) u.body (λ x h. has_second x u.dummies _ (has_second x (kernel.declared_names u.declarations) (names_in_code u.body) h)))
        (steps_within (names_of u) (λ y d h g. own_extents (plain y) d g) u.body (own_body u pl) p);
  }

  -- ---- a step unit

  module _ (taken : List Name) (k line : ℕ) (x : Var) (body : Code) where
    -- its dummies
    abbrev vs : List Name
    vs = step_dummies u x body

    -- the step unit
    abbrev unit : Procedure
    unit = step_unit taken u k line x body

    -- its names are the unit's
    of_unit : (y : Name) → has_name y vs ≡ true → has_name y (names_of u) ≡ true
    of_unit y h = once_from y [] (names_of u) (used_from u.declarations (named x ++ names_in_code body) (variables_of u) y h)

    -- its declarations are of its dummies
    declared_all : (ds : List Declaration) (ys : List Name) → map (λ (d : Declaration). d.name) (step_declarations ds line ys) ≡ ys
    declared_all ds [] = refl
    declared_all ds (y ∷ ys) = ap (λ z. y ∷ z) (declared_all ds ys)

    -- its names are integers
    step_integer : (y : Name) → has_name y vs ≡ true → is_integer unit y ≡ true
    step_integer y h = or_first (has_name y (map (λ (d : Declaration). d.name) (step_declarations u.declarations line vs))) (not false && is_integer_name y) (ap (has_name y) (declared_all u.declarations vs) ∙ h)

    -- with the ranks of the unit's
    step_rank : (y : Name) → has_name y vs ≡ true → rank unit y ≡ rank u y
    step_rank y h = ap length (declared_step u.declarations line vs y h)

    -- so a name of the unit stands in it as it should
    good_of : (n : Standing) → has_rank u n ≡ true → has_name n.name vs ≡ true → IsGood names unit n
    good_of n r h = (step_integer n.name h, (ranked n.subscripts r, (known.own n.name (of_unit n.name h)).1))
      where
        ranked : (s : Option ℕ) → has_rank u (record { name = n.name; subscripts = s }) ≡ true → has_rank unit (record { name = n.name; subscripts = s }) ≡ true
        ranked None r = refl
        ranked (Some m) r = ap (λ z. m == z) (step_rank n.name h) ∙ r

    -- and as an actual
    good_whole_of : (y : Name) → has_name y vs ≡ true → IsGood names unit (record { name = y; subscripts = None })
    good_whole_of y h = (step_integer y h, (refl, (known.own y (of_unit y h)).1))

    -- what holds of the extents of each declaration, and of none, holds of those that are declared for a variable
    abbrev GoodExtents : List Extent → Type 0
    GoodExtents es = (list_any (is_bad_extent u) es ≡ false) × (int_lt (pos 1048576) (literal_product es) ≡ false)

    -- those of the unit's variables
    declared_extents : (ds : List Declaration) (v : Var) → Each (λ d. has_bad_extents u d ≡ false) ds → GoodExtents (declared ds v)
    declared_extents [] v h = (refl, refl)
    declared_extents (d ∷ ds) v h = go (var_eq v (plain d.name)) (declared_extents ds v h.1)
      where
        go : (b : Bool) → GoodExtents (declared ds v) → GoodExtents (if b then d.extents else declared ds v)
        go true ih = let p = or_false (list_any (is_bad_extent u) d.extents) (int_lt (pos 1048576) (literal_product d.extents) || (not (is_dummy u d.name) && not (length (extent_names d.extents) == 0))) h.0 in (p.0, (or_false (int_lt (pos 1048576) (literal_product d.extents)) _ p.1).0)
        go false ih = ih

    -- are as good in the step unit
    step_bad : (es : List Extent) → ((d : Name) → names_extent d es ≡ true → has_name d vs ≡ true) → list_any (is_bad_extent u) es ≡ false → list_any (is_bad_extent unit) es ≡ false
    step_bad [] w h = refl
    step_bad (fixed z ∷ es) w h = let p = or_false (is_bad_extent u (fixed z)) (list_any (is_bad_extent u) es) h in ap (λ b. b || list_any (is_bad_extent unit) es) p.0 ∙ step_bad es w p.1
    step_bad (given d ∷ es) w h =
        let p = or_false (is_bad_extent u (given d)) (list_any (is_bad_extent u) es) h in
        let there = w d (or_first (name_eq d d) (names_extent d es) (name_refl d)) in
        let scalar = (and_true (is_dummy u d) (is_scalar u d) (isn't_not (is_dummy u d && is_scalar u d) p.0)).1 in
        ap (λ b. not (b && is_scalar unit d) || list_any (is_bad_extent unit) es) there ∙ ap (λ n. not (n == 0) || list_any (is_bad_extent unit) es) (step_rank d there) ∙ ap (λ b. not b || list_any (is_bad_extent unit) es) scalar ∙ step_bad es (λ e g. w e (or_second (name_eq e d) (names_extent e es) g)) p.1

    -- so its declarations have good extents
    step_extents : (ext : ExtentsIn u vs) (ys : List Name) → ((y : Name) → has_name y ys ≡ true → has_name y vs ≡ true) → Each (λ d. has_bad_extents unit d ≡ false) (step_declarations u.declarations line ys)
    step_extents ext [] w = tt
    step_extents ext (y ∷ ys) w =
        let there = w y (or_first (name_eq y y) (has_name y ys) (name_refl y)) in
        let g = declared_extents u.declarations (plain y) known.extents in
        let es = declared u.declarations (plain y) in (
          ap (λ b. b || (int_lt (pos 1048576) (literal_product es) || (not (is_dummy unit y) && not (length (extent_names es) == 0)))) (step_bad es (λ d h. ext y d there h) g.0)
              ∙ ap (λ b. b || (not (is_dummy unit y) && not (length (extent_names es) == 0))) g.1
              ∙ ap (λ b. not b && not (length (extent_names es) == 0)) there,
          step_extents ext ys (λ z h. w z (or_second (name_eq z y) (has_name z ys) h)),
        )

    -- so the step unit stands
    step_stands : PlainCode body → EachCall P body → is_of u x ≡ true → CodeInside (is_of u) body → Holds (λ line a. Each (λ n. has_rank u n ≡ true) (in_act a)) body → Stands names unit
    step_stands pl p ox o r =
        let inside = step_body_inside u P x body pl p ox o in
        let ext = extents_in u P own_extents flat_extents x body p in
        record {
          dummies = each_from (λ d. (is_integer unit d ≡ true) × IsFree names d) vs (λ y h. (step_integer y h, (known.own y (of_unit y h)).1));
          declared = each_declaration (step_declarations u.declarations line vs) (λ y h. (known.own y (of_unit y (sym (ap (has_name y) (same_declared (step_declarations u.declarations line vs) ∙ declared_all u.declarations vs)) ∙ h))).1);
          dummies_once = dummies_distinct u x body;
          declared_once = subst AreApart (sym (declared_all u.declarations vs)) (dummies_distinct u x body);
          extents = step_extents ext vs (λ y h. h);
          statements = cut_good taken unit vs good_of good_whole_of (suc k) body r (named_holds (λ y. has_name y vs ≡ true) body (λ y h. code_named y (is_named vs) P body inside p h)) (steps_within vs ext body inside p);
        }

  -- ---- all step units

  module _ (taken : List Name) where
    mutual
      steps_stand_act : (k line : ℕ) (a : Act) → ActInside (is_of u) a → PlainAct a → EachCall' P a → HoldsIn (λ line a. Each (λ n. has_rank u n ≡ true) (in_act a)) a → EachUnit (Stands names) (step_units_in_act taken u k line a)
      steps_stand_act k line (assign x subs e) o pl p r = tt
      steps_stand_act k line (choose c a b) o pl p r = join_units (Stands names) (step_units_in taken u k a) (step_units_in taken u (k + marked_in a) b) (steps_stand k a o.1.0 pl.1.0 p.0 r.0) (steps_stand (k + marked_in a) b o.1.1 pl.1.1 p.1 r.1)
      steps_stand_act k line (loop x first last by body unmarked) o pl p r = steps_stand k body o.1.1 pl.1.1 p r
      steps_stand_act k line (loop x first last by body (with_count m)) o pl p r = (step_stands taken k line x body pl.1.1 p o.0 o.1.1 r, steps_stand (suc k) body o.1.1 pl.1.1 p r)
      steps_stand_act k line (loop x first last by body (count_from y)) o pl p r = (step_stands taken k line x body pl.1.1 p o.0 o.1.1 r, steps_stand (suc k) body o.1.1 pl.1.1 p r)
      steps_stand_act k line (during c body) o pl p r = steps_stand k body o.1 pl.1 p r
      steps_stand_act k line (call name args) o pl p r = tt
      steps_stand_act k line (runtime rr) o pl p r = tt

      -- in a list
      steps_stand : (k : ℕ) (c : Code) → CodeInside (is_of u) c → PlainCode c → EachCall P c → Holds (λ line a. Each (λ n. has_rank u n ≡ true) (in_act a)) c → EachUnit (Stands names) (step_units_in taken u k c)
      steps_stand k stop o pl p r = tt
      steps_stand k (step line a rest) o pl p r = join_units (Stands names) (step_units_in_act taken u k line a) (step_units_in taken u (k + marked_in_act a) rest) (steps_stand_act k line a o.0 pl.0 p.0 r.1.0) (steps_stand (k + marked_in_act a) rest o.1 pl.1 p.1 r.1.1)

    -- the unit and its step units stand
    unit_stands : PlainCode u.body → EachCall P u.body → EachUnit (Stands names) (stepped_unit taken u)
    unit_stands pl p = (cut_stands taken pl p, steps_stand 0 u.body (own_body u pl) pl p known.ranks)

-- ---- the program

-- the names of units are among those of all
names_within : (us : List Procedure) → EachUnit (λ u. (x : Name) → has_name x (names_of u) ≡ true → has_name x (flat_map names_of us) ≡ true) us
names_within [] = tt
names_within (u ∷ us) = ((λ x h. has_first x (names_of u) (flat_map names_of us) h), of_each (λ u1. (x : Name) → has_name x (names_of u1) ≡ true → has_name x (names_of u ++ flat_map names_of us) ≡ true) us (each_more (λ u1. (x : Name) → has_name x (names_of u1) ≡ true → has_name x (flat_map names_of us) ≡ true) (λ u1. (x : Name) → has_name x (names_of u1) ≡ true → has_name x (names_of u ++ flat_map names_of us) ≡ true) (λ u1 f x h. has_second x (names_of u) (flat_map names_of us) (f x h)) us (unit_each (λ u1. (x : Name) → has_name x (names_of u1) ≡ true → has_name x (flat_map names_of us) ≡ true) us (names_within us))))

module _ (units : List Procedure) (written : IsWritten units) (sound : IsSound source_rules units) where
  -- no unit of the stepped program has the name of a variable
  free_there : (x : Name) → IsFree (map unit_name units) x → has_name x (flat_map names_of units) ≡ true → IsFree (map unit_name (stepped_program units)) x
  free_there x f h = (f.0, not_true (has_name x (map unit_name (stepped_program units))) (λ k. go (of_source units (names_of_source units) x k)))
    where
      go : (has_name x (map unit_name units) ≡ true) ⊎ (has_name x (names_of_source units) ≡ false) → ⊥
      go (inl k) = let z : true ≡ false = sym k ∙ f.1 in cc
      go (inr k) = let z : true ≡ false = sym (has_second x (map unit_name units) (flat_map names_of units) h) ∙ k in cc

  -- so the names of a unit are free there
  names_there : (u : Procedure) → OwnNames (map unit_name units) u → ((x : Name) → has_name x (names_of u) ≡ true → has_name x (flat_map names_of units) ≡ true) → OwnNames (map unit_name (stepped_program units)) u
  names_there u n w = record { own = λ x h. let k = n.own x h in (k.0, free_there x k.1 (w x h)); ranks = n.ranks; dummies_once = n.dummies_once; declared_once = n.declared_once; extents = n.extents }

  -- units of the program
  all_stand : (us : List Procedure) (taken : List Name) → Each (OwnNames (map unit_name units)) us → EachUnit (λ u. (x : Name) → has_name x (names_of u) ≡ true → has_name x (flat_map names_of units) ≡ true) us → EachUnit (λ u. PlainCode u.body) us → EachUnit (λ u. EachCall (IsFitCall units u) u.body) us → EachUnit (HasExtents ℤ units) us → EachUnit (Stands (map unit_name (stepped_program units))) (stepped_from taken us)
  all_stand [] taken n w pl c x = tt
  all_stand (u ∷ us) taken n w pl c x =
      join_units (Stands (map unit_name (stepped_program units))) (stepped_unit taken u) (stepped_from (taken ++ step_names taken u.name (marked_in u.body)) us) (unit_stands (map unit_name (stepped_program units)) u (names_there u n.0 w.0) (IsFitCall units u) x.0.own x.0.flat taken pl.0 c.0)
      (all_stand us (taken ++ step_names taken u.name (marked_in u.body)) n.1 w.1 pl.1 c.1 x.1)

  -- the program is a source
  source : IsSource ℤ units
  source = sound_is_source units written sound ℤ

  -- the units of the stepped program stand
  stepped_stand : EachUnit (Stands (map unit_name (stepped_program units))) (stepped_program units)
  stepped_stand =
      all_stand units (names_of_source units) (each_more (λ u. faults_of_names source_rules units u ≡ []) (OwnNames (map unit_name units)) (own_names units) units (none_each (faults_of_names source_rules units) units (sound_has_none source_rules units sound).names))
      (names_within units) source.fit.plains source.fit.calls source.extents

  -- lowered units have the names of the units
  lowered_made : (all us : List Procedure) → map unit_name (map (lowered_unit all) us) ≡ map unit_name us
  lowered_made all [] = refl
  lowered_made all (u ∷ us) = ap (λ z. u.name ∷ z) (lowered_made all us)

  -- lowered units have no fault of names
  kernel_stand : (vs : List Procedure) → EachUnit (Stands (map unit_name (stepped_program units))) vs → EachUnit (whole.IsGood ℤ units (sound_is_source units written sound ℤ)) vs → Each (λ v. faults_of_names run_rules (kernel_of units) v ≡ []) (map (lowered_unit (stepped_program units)) vs)
  kernel_stand [] s g = tt
  kernel_stand (v ∷ vs) s g = (
    no_name_faults (kernel_of units) (lowered_unit (stepped_program units) v) (subst (λ ns. Stands ns (lowered_unit (stepped_program units) v)) (sym (lowered_made (stepped_program units) (stepped_program units))) (lowered_stands (stepped_program units) v s.0 g.0.1.0)),
    kernel_stand vs s.1 g.1,
  )

  -- no name of the kernel has a fault
  pub kernel_names : name_faults run_rules (kernel_of units) ≡ []
  kernel_names = none_flat (faults_of_names run_rules (kernel_of units)) (kernel_of units) (kernel_stand (stepped_program units) stepped_stand (good ℤ units (sound_is_source units written sound ℤ)))
