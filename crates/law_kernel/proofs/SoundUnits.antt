-- The units of the kernel have names that are apart and free.
use Rattle.std.proofs.Common.{◌≡◌, ℕ, suc, ◌+◌, ◌≤◌, ◌⊎◌, inl, inr, Bool, true, false, List, [], ◌∷◌, ◌++◌, map, refl, sym, ap, ◌∙◌, arith, subst}
use Rattle.std.proofs.lemmas.Bool.{or_cases}
use Rattle.std.proofs.lemmas.List.{map-append}
use Rattle.std.specs.Prelude.{◌||◌, flat_map}
use Rattle.adj_tree.specs.Code.{name_eq, Var, unmarked, with_count, count_from, Act, assign, choose, loop, during, call, runtime, Code, stop, step, Procedure}
use Rattle.adj_tree.proofs.Names.{name_refl, name_same}
use Rattle.def_meaning.proofs.Booleans.{or_false, or_first, or_second}
use Rattle.def_names.specs.Statements.{At}
use Rattle.def_names.specs.Reserved.{is_reserved}
use Rattle.def_names.specs.Fault.{source_rules, fault, faults_if, again}
use Rattle.def_names.specs.UnitFaults.{unit_places, reserved_units, repeated_units, unit_faults}
use Rattle.def_names.specs.Check.{IsSound}
use Rattle.def_names.proofs.Sound.{sound_has_none}
use Rattle.def_names.proofs.Faultless.{apart_places, none_front, none_behind, none_if}
use Rattle.def_meaning.specs.Apart.{has_name, AreApart}
use Rattle.def_names.proofs.NameLists.{has-append, apart-append}
use Rattle.def_names.proofs.Variables.{not_true}
use Rattle.def_kernel.specs.Kernel.{unit_name, names_of, lowered_unit}
use Rattle.def_kernel.specs.Stepped.{marked_in, marked_in_act, step_names, step_name, step_unit, step_units_in_act, step_units_in, stepped_from, names_of_source, stepped_program, kernel_of}
use Rattle.law_kernel.proofs.Faultless.{Each, each_join, none_each, none_flat, if_none, none_both, either_way}
use Rattle.law_kernel.proofs.Locals.{has_first, has_second}
use Rattle.law_kernel.proofs.StepLookups.{not_taken, later_apart, later_act, later_code, listed_code}
use Rattle.law_kernel.proofs.StepsWritten.{step_unreserved}

-- ---- names that stand once

-- places whose names are apart, and apart from those before, have no fault
of_distinct : (code : ℕ) (before : List (List ℕ)) (ps : List (At (List ℕ))) → AreApart (map (λ p. p.1) ps) → ((x : List ℕ) → has_name x (map (λ p. p.1) ps) ≡ true → has_name x before ≡ false) → again code before ps ≡ []
of_distinct code before [] d h = refl
of_distinct code before (p ∷ ps) d h =
    none_both (faults_if (has_name p.1 before) (fault code p.0)) (again code (p.1 ∷ before) ps) (if_none (has_name p.1 before) (fault code p.0) (h p.1 (or_first (name_eq p.1 p.1) (has_name p.1 (map (λ q. q.1) ps)) (name_refl p.1))))
    (of_distinct code (p.1 ∷ before) ps d.1 (λ x k. ap (λ b. b || has_name x before) (differs x (name_eq x p.1) refl k) ∙ h x (or_second (name_eq x p.1) (has_name x (map (λ q. q.1) ps)) k)))
  where
    differs : (x : List ℕ) (b : Bool) → name_eq x p.1 ≡ b → has_name x (map (λ q. q.1) ps) ≡ true → name_eq x p.1 ≡ false
    differs x true e k = absurd (let z : true ≡ false = sym k ∙ ap (λ y. has_name y (map (λ q. q.1) ps)) (name_same x p.1 e) ∙ d.0 in cc)
    differs x false e k = e

pub once : (code : ℕ) (ps : List (At (List ℕ))) → AreApart (map (λ p. p.1) ps) → again code [] ps ≡ []
once code ps d = of_distinct code [] ps d (λ x k. refl)

-- names of two lists that have none in common
pub distinct_join : (xs ys : List (List ℕ)) → AreApart xs → AreApart ys → ((x : List ℕ) → has_name x xs ≡ true → has_name x ys ≡ true → ⊥) → AreApart (xs ++ ys)
distinct_join xs ys d e f = apart-append xs ys d e (λ x h. not_true (has_name x ys) (f x h))

-- ---- names of step units

-- the number of a step unit, from some number on
record Numbered (taken : List (List ℕ)) (base : List ℕ) (k : ℕ) (x : List ℕ) : Type 0 where
  number : ℕ
  from : k ≤ number
  is : x ≡ step_name taken base number

-- a name of two lists of units is one of the first or of the second
split_names : (x : List ℕ) (ps qs : List Procedure) → has_name x (map unit_name (ps ++ qs)) ≡ true → (has_name x (map unit_name ps) ≡ true) ⊎ (has_name x (map unit_name qs) ≡ true)
split_names x ps qs h = or_cases (has_name x (map unit_name ps)) (has_name x (map unit_name qs)) (sym (ap (has_name x) (map-append unit_name ps qs) ∙ has-append x (map unit_name ps) (map unit_name qs)) ∙ h)

module _ (taken : List (List ℕ)) (u : Procedure) where
  -- a name of a step unit of this unit
  abbrev IsNumbered : ℕ → List ℕ → Type 0
  IsNumbered k x = Numbered taken u.name k x

  -- a number from later on is one from earlier on
  later : (j k : ℕ) (x : List ℕ) → j ≤ k → IsNumbered k x → IsNumbered j x
  later j k x le n = record { number = n.number; from = let f = n.from in omega (arith, f, le); is = n.is }

  own : (k : ℕ) (x : List ℕ) (line : ℕ) (y : Var) (body : Code) → (has_name x (map unit_name (step_units_in taken u (suc k) body)) ≡ true → IsNumbered (suc k) x) → has_name x (map unit_name (step_unit taken u k line y body ∷ step_units_in taken u (suc k) body)) ≡ true → IsNumbered k x
  own k x line y body ih h =
      either_way (λ e. record { number = k; from = omega arith; is = name_same x (step_name taken u.name k) e }) (λ e. later k (suc k) x (omega arith) (ih e))
      (or_cases (name_eq x (step_name taken u.name k)) (has_name x (map unit_name (step_units_in taken u (suc k) body))) h)

  mutual
    numbered_act : (k line : ℕ) (a : Act) (x : List ℕ) → has_name x (map unit_name (step_units_in_act taken u k line a)) ≡ true → IsNumbered k x
    numbered_act k line (assign y subs e) x h = absurd cc
    numbered_act k line (choose c a b) x h = either_way (numbered k a x) (λ e. later k (k + marked_in a) x (omega arith) (numbered (k + marked_in a) b x e)) (split_names x (step_units_in taken u k a) (step_units_in taken u (k + marked_in a) b) h)
    numbered_act k line (loop y first last by body unmarked) x h = numbered k body x h
    numbered_act k line (loop y first last by body (with_count m)) x h = own k x line y body (numbered (suc k) body x) h
    numbered_act k line (loop y first last by body (count_from z)) x h = own k x line y body (numbered (suc k) body x) h
    numbered_act k line (during c body) x h = numbered k body x h
    numbered_act k line (call name args) x h = absurd cc
    numbered_act k line (runtime r) x h = absurd cc

    -- each step unit of a list has its number
    numbered : (k : ℕ) (c : Code) (x : List ℕ) → has_name x (map unit_name (step_units_in taken u k c)) ≡ true → IsNumbered k x
    numbered k stop x h = absurd cc
    numbered k (step line a rest) x h = either_way (numbered_act k line a x) (λ e. later k (k + marked_in_act a) x (omega arith) (numbered (k + marked_in_act a) rest x e)) (split_names x (step_units_in_act taken u k line a) (step_units_in taken u (k + marked_in_act a) rest) h)

  -- two lists have no step unit in common where the numbers of the second come later
  apart_numbers : (ps qs : List Procedure) (j : ℕ) → ((i : ℕ) → j ≤ i → has_name (step_name taken u.name i) (map unit_name ps) ≡ false) → ((x : List ℕ) → has_name x (map unit_name qs) ≡ true → IsNumbered j x) → (x : List ℕ) → has_name x (map unit_name ps) ≡ true → has_name x (map unit_name qs) ≡ true → ⊥
  apart_numbers ps qs j f g x h k = let n = g x k in let z : true ≡ false = sym h ∙ ap (λ y. has_name y (map unit_name ps)) n.is ∙ f n.number n.from in cc

  -- units of two lists that have no name in common
  join_names : (ps qs : List Procedure) → AreApart (map unit_name ps) → AreApart (map unit_name qs) → ((x : List ℕ) → has_name x (map unit_name ps) ≡ true → has_name x (map unit_name qs) ≡ true → ⊥) → AreApart (map unit_name (ps ++ qs))
  join_names ps qs d e f = subst AreApart (sym (map-append unit_name ps qs)) (distinct_join (map unit_name ps) (map unit_name qs) d e f)

  -- a step unit isn't among those in its body
  first_step : (k line : ℕ) (y : Var) (body : Code) → has_name (step_name taken u.name k) (map unit_name (step_units_in taken u (suc k) body)) ≡ false
  first_step k line y body = not_true (has_name (step_name taken u.name k) (map unit_name (step_units_in taken u (suc k) body))) (λ h. let n = numbered (suc k) body (step_name taken u.name k) h in let f = n.from in let z : true ≡ false = sym (name_refl (step_name taken u.name k)) ∙ ap (λ y. name_eq y (step_name taken u.name k)) n.is ∙ later_apart taken u.name k n.number (omega (arith, f)) in cc)

  mutual
    distinct_act : (k line : ℕ) (a : Act) → AreApart (map unit_name (step_units_in_act taken u k line a))
    distinct_act k line (assign y subs e) = tt
    distinct_act k line (choose c a b) = join_names (step_units_in taken u k a) (step_units_in taken u (k + marked_in a) b) (distinct_steps k a) (distinct_steps (k + marked_in a) b) (apart_numbers (step_units_in taken u k a) (step_units_in taken u (k + marked_in a) b) (k + marked_in a) (λ i le. later_code taken u k a i le) (numbered (k + marked_in a) b))
    distinct_act k line (loop y first last by body unmarked) = distinct_steps k body
    distinct_act k line (loop y first last by body (with_count m)) = (first_step k line y body, distinct_steps (suc k) body)
    distinct_act k line (loop y first last by body (count_from z)) = (first_step k line y body, distinct_steps (suc k) body)
    distinct_act k line (during c body) = distinct_steps k body
    distinct_act k line (call name args) = tt
    distinct_act k line (runtime r) = tt

    -- the step units of a list have names that are apart
    distinct_steps : (k : ℕ) (c : Code) → AreApart (map unit_name (step_units_in taken u k c))
    distinct_steps k stop = tt
    distinct_steps k (step line a rest) =
        join_names (step_units_in_act taken u k line a) (step_units_in taken u (k + marked_in_act a) rest) (distinct_act k line a) (distinct_steps (k + marked_in_act a) rest)
        (apart_numbers (step_units_in_act taken u k line a) (step_units_in taken u (k + marked_in_act a) rest) (k + marked_in_act a) (λ i le. later_act taken u k line a i le) (numbered (k + marked_in_act a) rest))

  -- none of them is taken
  steps_free : (k : ℕ) (c : Code) (x : List ℕ) → has_name x (map unit_name (step_units_in taken u k c)) ≡ true → has_name x taken ≡ false
  steps_free k c x h = let n = numbered k c x h in ap (λ y. has_name y taken) n.is ∙ not_taken taken u.name n.number

-- ---- units of the stepped program

-- each is of the source, or has a name that isn't taken
pub of_source : (us : List Procedure) (taken : List (List ℕ)) (x : List ℕ) → has_name x (map unit_name (stepped_from taken us)) ≡ true → (has_name x (map unit_name us) ≡ true) ⊎ (has_name x taken ≡ false)
of_source [] taken x h = absurd cc
of_source (u ∷ us) taken x h = go (or_cases (name_eq x u.name) (has_name x (map unit_name (step_units_in taken u 0 u.body ++ stepped_from (taken ++ step_names taken u.name (marked_in u.body)) us))) h) (of_source us (taken ++ step_names taken u.name (marked_in u.body)) x)
  where
    rest : List Procedure
    rest = stepped_from (taken ++ step_names taken u.name (marked_in u.body)) us

    go : (name_eq x u.name ≡ true) ⊎ (has_name x (map unit_name (step_units_in taken u 0 u.body ++ stepped_from (taken ++ step_names taken u.name (marked_in u.body)) us)) ≡ true) →
        (has_name x (map unit_name (stepped_from (taken ++ step_names taken u.name (marked_in u.body)) us)) ≡ true → (has_name x (map unit_name us) ≡ true) ⊎ (has_name x (taken ++ step_names taken u.name (marked_in u.body)) ≡ false)) →
        ((name_eq x u.name || has_name x (map unit_name us)) ≡ true) ⊎ (has_name x taken ≡ false)
    go (inl e) ih = inl (or_first (name_eq x u.name) (has_name x (map unit_name us)) e)
    go (inr e) ih = further (split_names x (step_units_in taken u 0 u.body) (stepped_from (taken ++ step_names taken u.name (marked_in u.body)) us) e)
      where
        further : (has_name x (map unit_name (step_units_in taken u 0 u.body)) ≡ true) ⊎ (has_name x (map unit_name (stepped_from (taken ++ step_names taken u.name (marked_in u.body)) us)) ≡ true) → ((name_eq x u.name || has_name x (map unit_name us)) ≡ true) ⊎ (has_name x taken ≡ false)
        further (inl f) = inr (steps_free taken u 0 u.body x f)
        further (inr f) = last (ih f)
          where
            last : (has_name x (map unit_name us) ≡ true) ⊎ (has_name x (taken ++ step_names taken u.name (marked_in u.body)) ≡ false) → ((name_eq x u.name || has_name x (map unit_name us)) ≡ true) ⊎ (has_name x taken ≡ false)
            last (inl g) = inl (or_second (name_eq x u.name) (has_name x (map unit_name us)) g)
            last (inr g) = inr (or_false (has_name x taken) (has_name x (step_names taken u.name (marked_in u.body))) (sym (has-append x taken (step_names taken u.name (marked_in u.body))) ∙ g)).0

-- the units of the stepped program have names that are apart
distinct_stepped : (us : List Procedure) (taken : List (List ℕ)) → AreApart (map unit_name us) → ((x : List ℕ) → has_name x (map unit_name us) ≡ true → has_name x taken ≡ true) → AreApart (map unit_name (stepped_from taken us))
distinct_stepped [] taken d h = tt
distinct_stepped (u ∷ us) taken d h = (
  not_true (has_name u.name (map unit_name (steps ++ rest))) (λ k. first_apart (split_names u.name steps rest k)),
  join_names taken u steps rest (distinct_steps taken u 0 u.body) (distinct_stepped us later_names d.1 (λ x k. has_first x taken _ (h x (or_second (name_eq x u.name) (has_name x (map unit_name us)) k)))) (λ x a b. none_common x a (of_source us later_names x b)),
)
  where
    later_names : List (List ℕ)
    later_names = taken ++ step_names taken u.name (marked_in u.body)

    steps : List Procedure
    steps = step_units_in taken u 0 u.body

    rest : List Procedure
    rest = stepped_from (taken ++ step_names taken u.name (marked_in u.body)) us

    own_taken : has_name u.name taken ≡ true
    own_taken = h u.name (or_first (name_eq u.name u.name) (has_name u.name (map unit_name us)) (name_refl u.name))

    first_apart : (has_name u.name (map unit_name steps) ≡ true) ⊎ (has_name u.name (map unit_name rest) ≡ true) → ⊥
    first_apart (inl k) = let z : true ≡ false = sym own_taken ∙ steps_free taken u 0 u.body u.name k in cc
    first_apart (inr k) = further (of_source us later_names u.name k)
      where
        further : (has_name u.name (map unit_name us) ≡ true) ⊎ (has_name u.name later_names ≡ false) → ⊥
        further (inl g) = let z : true ≡ false = sym g ∙ d.0 in cc
        further (inr g) = let z : true ≡ false = sym (has_first u.name taken (step_names taken u.name (marked_in u.body)) own_taken) ∙ g in cc

    none_common : (x : List ℕ) → has_name x (map unit_name steps) ≡ true → (has_name x (map unit_name us) ≡ true) ⊎ (has_name x later_names ≡ false) → ⊥
    none_common x a (inl g) = let z : true ≡ false = sym (h x (or_second (name_eq x u.name) (has_name x (map unit_name us)) g)) ∙ steps_free taken u 0 u.body x a in cc
    none_common x a (inr g) = let z : true ≡ false = sym (has_second x taken (step_names taken u.name (marked_in u.body)) (listed_code taken u (marked_in u.body) 0 u.body x (omega arith) a)) ∙ g in cc

-- ---- names that are free

-- a unit that isn't named like an intrinsic or a runtime call
abbrev IsFreeUnit : Procedure → Type 0
IsFreeUnit u = is_reserved u.name ≡ false

module _ (taken : List (List ℕ)) (u : Procedure) where
  -- a step unit's name isn't reserved
  step_free : (k : ℕ) → is_reserved (step_name taken u.name k) ≡ false
  step_free k = step_unreserved taken u.name k

  mutual
    free_act : (k line : ℕ) (a : Act) → Each IsFreeUnit (step_units_in_act taken u k line a)
    free_act k line (assign y subs e) = tt
    free_act k line (choose c a b) = each_join IsFreeUnit (step_units_in taken u k a) _ (free_steps k a) (free_steps (k + marked_in a) b)
    free_act k line (loop y first last by body unmarked) = free_steps k body
    free_act k line (loop y first last by body (with_count m)) = (step_free k, free_steps (suc k) body)
    free_act k line (loop y first last by body (count_from z)) = (step_free k, free_steps (suc k) body)
    free_act k line (during c body) = free_steps k body
    free_act k line (call name args) = tt
    free_act k line (runtime r) = tt

    -- those of a list aren't
    free_steps : (k : ℕ) (c : Code) → Each IsFreeUnit (step_units_in taken u k c)
    free_steps k stop = tt
    free_steps k (step line a rest) = each_join IsFreeUnit (step_units_in_act taken u k line a) _ (free_act k line a) (free_steps (k + marked_in_act a) rest)

-- and those of a program
free_stepped : (us : List Procedure) (taken : List (List ℕ)) → Each IsFreeUnit us → Each IsFreeUnit (stepped_from taken us)
free_stepped [] taken h = tt
free_stepped (u ∷ us) taken h = (h.0, each_join IsFreeUnit (step_units_in taken u 0 u.body) _ (free_steps taken u 0 u.body) (free_stepped us (taken ++ step_names taken u.name (marked_in u.body)) h.1))

-- ---- the kernel

-- lowered units have the names and lines of the units
lowered_places : (all us : List Procedure) → unit_places (map (lowered_unit all) us) ≡ unit_places us
lowered_places all [] = refl
lowered_places all (u ∷ us) = ap (λ z. (u.line, u.name) ∷ z) (lowered_places all us)

-- the names at the places of units
placed_names : (us : List Procedure) → map (λ (p : At (List ℕ)). p.1) (unit_places us) ≡ map unit_name us
placed_names [] = refl
placed_names (u ∷ us) = ap (λ z. u.name ∷ z) (placed_names us)

-- what holds of each name
each_place : (us : List Procedure) → Each (λ (p : At (List ℕ)). faults_if (is_reserved p.1) (fault 18 p.0) ≡ []) (unit_places us) → Each IsFreeUnit us
each_place [] h = tt
each_place (u ∷ us) h = (none_if (is_reserved u.name) (fault 18 u.line) h.0, each_place us h.1)

-- and the other way
of_place : (us : List Procedure) → Each IsFreeUnit us → Each (λ (p : At (List ℕ)). faults_if (is_reserved p.1) (fault 18 p.0) ≡ []) (unit_places us)
of_place [] h = tt
of_place (u ∷ us) h = (if_none (is_reserved u.name) (fault 18 u.line) h.0, of_place us h.1)

module _ (units : List Procedure) (sound : IsSound source_rules units) where
  -- units of the program have names that are apart
  pub source_distinct : AreApart (map unit_name units)
  source_distinct = subst AreApart (placed_names units) (apart_places 19 [] (unit_places units) (none_behind (reserved_units units) (repeated_units units) (sound_has_none source_rules units sound).units))

  -- so have those of the stepped program
  pub stepped_distinct : AreApart (map unit_name (stepped_program units))
  stepped_distinct =
      distinct_stepped units (names_of_source units) source_distinct
      (λ x h. has_first x (map unit_name units) (flat_map names_of units) h)

  -- none of which is reserved
  pub stepped_free : Each IsFreeUnit (stepped_program units)
  stepped_free =
      free_stepped units (names_of_source units)
      (each_place units (none_each (λ (p : At (List ℕ)). faults_if (is_reserved p.1) (fault 18 p.0)) (unit_places units) (none_front (reserved_units units) (repeated_units units) (sound_has_none source_rules units sound).units)))

  -- no unit of the kernel has a fault
  pub kernel_units : unit_faults (kernel_of units) ≡ []
  kernel_units =
      ap (λ ps. flat_map (λ (p : At (List ℕ)). faults_if (is_reserved p.1) (fault 18 p.0)) ps ++ again 19 [] ps) (lowered_places (stepped_program units) (stepped_program units))
      ∙ none_both (reserved_units (stepped_program units)) (repeated_units (stepped_program units))
      (none_flat (λ (p : At (List ℕ)). faults_if (is_reserved p.1) (fault 18 p.0)) (unit_places (stepped_program units)) (of_place (stepped_program units) stepped_free))
      (once 19 (unit_places (stepped_program units)) (subst AreApart (sym (placed_names (stepped_program units))) stepped_distinct))
