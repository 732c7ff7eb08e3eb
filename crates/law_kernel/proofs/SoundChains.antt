-- No CALL of the kernel lies on a cycle, and its chains have at most 80 units.
use Rattle.std.proofs.Common.{◌≡◌, ℕ, zero, suc, ◌+◌, ◌*◌, ◌≤◌, ◌⊎◌, inl, inr, Bool, true, false, List, [], ◌∷◌, ◌++◌, map, length, refl, sym, ap, ◌∙◌, arith, subst, if◌then◌else◌}
use Rattle.std.proofs.lemmas.Bool.{or_cases}
use Rattle.std.proofs.lemmas.Bool.Decides.{nat_tests}
use Rattle.std.specs.Prelude.{ℤ, ◌&&◌, max, nat_lt, flat_map, Some}
use Rattle.std.specs.List.{list_any}
use Rattle.adj_tree.specs.Code.{name_eq, Var, Term, Terms, Test, unmarked, with_count, count_from, Act, assign, choose, loop, during, call, runtime, Code, stop, step, Procedure}
use Rattle.adj_tree.specs.declared.fault.Refusal.{Refusal}
use Rattle.adj_tree.proofs.Names.{name_refl, name_same}
use Rattle.def_text.specs.Written.{IsWritten}
use Rattle.def_meaning.specs.Append.{◌+++◌}
use Rattle.def_meaning.specs.LeastSet.{Dummies}
use Rattle.def_meaning.specs.Written.{find_unit, handed_back}
use Rattle.def_meaning.proofs.Booleans.{or_first, or_second}
use Rattle.def_names.specs.Statements.{At, statements}
use Rattle.def_names.specs.Variables.{Name}
use Rattle.def_names.specs.Calls.{Call, calls, leads, calls_lead, is_marked, with_mark, act_chain, chain, chain_found, chain_within, chain_from}
use Rattle.def_names.specs.Fault.{source_rules, run_rules, fault, passed, faults_if}
use Rattle.def_names.specs.ChainFaults.{cycles, begins_chain, long_chains, or_else, chain_faults}
use Rattle.def_names.specs.Check.{IsSound}
use Rattle.def_names.proofs.Sound.{sound_has_none}
use Rattle.def_meaning.specs.Apart.{has_name, AreApart}
use Rattle.def_meaning.proofs.Variables.{name_comm}
use Rattle.def_names.proofs.Variables.{has_apart}
use Rattle.def_kernel.specs.Lowered.{locals_in_all, before, before_target, reduced_all, before_all, all_passed, before_passing_all, after_passing_all, lowered_call, lowered_act, lowered}
use Rattle.law_kernel.specs.Apart.{EachCall', EachCall}
use Rattle.def_kernel.specs.Kernel.{unit_name, local_in, lowered_unit, lowered_program, EachUnit}
use Rattle.def_kernel.specs.Stepped.{marked_in, marked_in_act, step_name, step_names, step_call, cut_act, cut, step_unit, step_units_in_act, step_units_in, stepped_unit, stepped_from, names_of_source, stepped_program, kernel_of}
use Rattle.law_kernel.specs.StepTheorem.{IsStepThere, StepsThereAct, StepsThere, IsMatched, IsSource}
use Rattle.law_kernel.proofs.Faultless.{Each, each_more, each_found, each_join, none_each, none_flat, if_none}
use Rattle.def_names.proofs.Faultless.{none_if}
use Rattle.law_kernel.proofs.Holding.{HoldsIn, Holds, listed, holding, hold_before, hold_target, hold_all, hold_passings, hold_afters, lowered_holds}
use Rattle.law_kernel.proofs.Programs.{found_lowered, found_in}
use Rattle.law_kernel.proofs.StepLookups.{AllThere, program_there, is_step_for}
use Rattle.law_kernel.proofs.SoundUnits.{stepped_distinct, source_distinct}
use Rattle.law_kernel.proofs.Shortening.{names_called, shorter}
use Rattle.law_kernel.proofs.ChainBounds.{NoWayBack, longest, no_way_bounded}
use Rattle.law_kernel.proofs.SoundPrograms.{sound_is_source}

-- ---- what the source's faults say

-- where there is none of either
second_none : (xs ys : List Refusal) → or_else xs ys ≡ [] → (xs ≡ []) × (ys ≡ [])
second_none [] ys h = (refl, h)
second_none (x ∷ xs) ys h = absurd cc

-- a unit that is found has the name
found_is : (us : List Procedure) (x : Name) (u : Procedure) → find_unit us x ≡ Some u → u.name ≡ x
found_is [] x u h = absurd cc
found_is (v ∷ us) x u h = go (name_eq v.name x) refl h (found_is us x u)
  where
    go : (b : Bool) → name_eq v.name x ≡ b → (if b then Some v else find_unit us x) ≡ Some u → (find_unit us x ≡ Some u → u.name ≡ x) → u.name ≡ x
    go true e h ih = let same : v ≡ u = cc in subst (λ w. w.name ≡ x) same (name_same v.name x e)
    go false e h ih = ih h

-- and each unit is found by its name, where names are apart
own_found : (us : List Procedure) → AreApart (map unit_name us) → Each (λ u. find_unit us u.name ≡ Some u) us
own_found [] d = tt
own_found (u ∷ us) d = (ap (λ b. if b then Some u else find_unit us u.name) (name_refl u.name), further us (own_found us d.1) (λ x h. h))
  where
    further : (vs : List Procedure) → Each (λ v. find_unit us v.name ≡ Some v) vs → ((x : Name) → has_name x (map unit_name vs) ≡ true → has_name x (map unit_name us) ≡ true) → Each (λ v. find_unit (u ∷ us) v.name ≡ Some v) vs
    further [] h w = tt
    further (v ∷ vs) h w = (
      ap (λ b. if b then Some u else find_unit us v.name) (name_comm v.name u.name (has_apart v.name u.name (map unit_name us) (w v.name (or_first (name_eq v.name v.name) (has_name v.name (map unit_name vs)) (name_refl v.name))) d.0)) ∙ h.0,
      further vs h.1 (λ x k. w x (or_second (name_eq x v.name) (has_name x (map unit_name vs)) k)),
    )

-- what holds of the names of calls
each_callee : (P : Name → Type 0) (cs : List (At Call)) → Each (λ (c : At Call). P (c.1).0) cs → (x : Name) → list_any (name_eq x) (map (λ (c : At Call). (c.1).0) cs) ≡ true → P x
each_callee P [] h x k = absurd cc
each_callee P (c ∷ cs) h x k = go (or_cases (name_eq x (c.1).0) (list_any (name_eq x) (map (λ (c : At Call). (c.1).0) cs)) k) (each_callee P cs h.1 x)
  where
    go : (name_eq x (c.1).0 ≡ true) ⊎ (list_any (name_eq x) (map (λ (c : At Call). (c.1).0) cs) ≡ true) → (list_any (name_eq x) (map (λ (c : At Call). (c.1).0) cs) ≡ true → P x) → P x
    go (inl e) ih = subst P (sym (name_same x (c.1).0 e)) h.0
    go (inr e) ih = ih e

-- and the other way
callee_each : (P : Name → Type 0) (cs : List (At Call)) → ((x : Name) → list_any (name_eq x) (map (λ (c : At Call). (c.1).0) cs) ≡ true → P x) → Each (λ (c : At Call). P (c.1).0) cs
callee_each P [] h = tt
callee_each P (c ∷ cs) h = (h (c.1).0 (or_first (name_eq (c.1).0 (c.1).0) (list_any (name_eq (c.1).0) (map (λ (c : At Call). (c.1).0) cs)) (name_refl (c.1).0)), callee_each P cs (λ x k. h x (or_second (name_eq x (c.1).0) (list_any (name_eq x) (map (λ (c : At Call). (c.1).0) cs)) k)))

-- ---- a statement that begins no chain that is too long

-- where `below` says how long chains are from called units on
abbrev IsShort : (Name → ℕ) → ℕ → Act → Type 0
IsShort below most a = (begins_chain a && nat_lt most (suc (act_chain below a))) ≡ false

-- it is at most so long
short_is : (most n : ℕ) → nat_lt most (suc n) ≡ false → suc n ≤ most
short_is most n h = grind (arith, nat_tests)

-- and the other way
is_short : (most n : ℕ) → suc n ≤ most → nat_lt most (suc n) ≡ false
is_short most n l = grind (arith, nat_tests)

-- ---- the program

module _ (units : List Procedure) (written : IsWritten units) (sound : IsSound source_rules units) where
  -- the program is a source
  source : IsSource ℤ units
  source = sound_is_source units written sound ℤ

  -- the longest chain from a unit of the source
  abbrev top : Name → ℕ
  top = chain_from units

  -- no call lies on a cycle, and no chain is too long
  no_faults : (cycles units ≡ []) × (long_chains source_rules units ≡ [])
  no_faults = second_none (cycles units) (long_chains source_rules units) (sound_has_none source_rules units sound).chains

  -- so no calls lead back
  no_way : NoWayBack units
  no_way x u f c m k = back (leads units k c x) refl
    where
      each_call : Each (λ (c : At Call). calls_lead units (c.1).0 u.name ≡ false) (calls u)
      each_call =
          each_more (λ (c : At Call). faults_if (calls_lead units (c.1).0 u.name) (fault 16 c.0) ≡ []) (λ c. calls_lead units (c.1).0 u.name ≡ false) (λ c h. none_if (calls_lead units (c.1).0 u.name) (fault 16 c.0) h) (calls u)
          (none_each (λ (c : At Call). faults_if (calls_lead units (c.1).0 u.name) (fault 16 c.0)) (calls u)
          (each_found (λ u. flat_map (λ (c : At Call). faults_if (calls_lead units (c.1).0 u.name) (fault 16 c.0)) (calls u) ≡ []) units (none_each (λ u. flat_map (λ (c : At Call). faults_if (calls_lead units (c.1).0 u.name) (fault 16 c.0)) (calls u)) units no_faults.0) x u f))

      never : calls_lead units c x ≡ false
      never = ap (calls_lead units c) (sym (found_is units x u f)) ∙ each_callee (λ c. calls_lead units c u.name ≡ false) (calls u) each_call c (ap (list_any (name_eq c)) (names_called u) ∙ m)

      back : (b : Bool) → leads units k c x ≡ b → leads units k c x ≡ false
      back true e = absurd (let z : true ≡ false = sym (shorter (length units) units (omega arith) k c x e) ∙ never in cc)
      back false e = e

  -- ---- chains of the stepped program are at most twice as long

  module _ (below : Name → ℕ) (of_units : (name : Name) (v : Procedure) → find_unit units name ≡ Some v → below name ≤ 2 * top name) (taken : List Name) (u : Procedure)
      (of_steps : (k line : ℕ) (x : Var) (body : Code) → EachCall (IsMatched units) body → IsStepThere (stepped_program units) taken u k line x body → StepsThere (stepped_program units) taken u (suc k) body → below (step_name taken u.name k) ≤ suc (2 * chain (chain_from units) body)) where
    mutual
      twice_act : (k line : ℕ) (a : Act) → EachCall' (IsMatched units) a → StepsThereAct (stepped_program units) taken u k line a → act_chain below (cut_act taken u k line a) ≤ 2 * act_chain (chain_from units) a
      twice_act k line (assign x subs e) p st = omega arith
      twice_act k line (choose c a b) p st = let l = twice k a p.0 st.0 in let m = twice (k + marked_in a) b p.1 st.1 in omega (arith, l, m)
      twice_act k line (loop x first last by body unmarked) p st = twice k body p st
      twice_act k line (loop x first last by body (with_count m)) p st = let l = of_steps k line x body p st.0 st.1 in omega (arith, l)
      twice_act k line (loop x first last by body (count_from y)) p st = let l = of_steps k line x body p st.0 st.1 in omega (arith, l)
      twice_act k line (during c body) p st = twice k body p st
      twice_act k line (call name args) p st = of_units name p.called p.found
      twice_act k line (runtime r) p st = absurd p

      -- of a list
      twice : (k : ℕ) (c : Code) → EachCall (IsMatched units) c → StepsThere (stepped_program units) taken u k c → chain below (cut taken u k c) ≤ 2 * chain (chain_from units) c
      twice k stop p st = omega arith
      twice k (step line a rest) p st = let l = twice_act k line a p.0 st.0 in let m = twice (k + marked_in_act a) rest p.1 st.1 in omega (arith, l, m)

  -- calls are of units that are there
  matched : (name : Name) (v : Procedure) → find_unit units name ≡ Some v → EachCall (IsMatched units) v.body
  matched name v f = found_in (λ u. EachCall (IsMatched units) u.body) units name v f source.matched

  -- with so many units called within one another: units of the source, and step units
  abbrev UnitsTwice : ℕ → Type 0
  UnitsTwice j = (name : Name) (v : Procedure) → find_unit units name ≡ Some v → chain_within (stepped_program units) j name ≤ 2 * chain_from units name

  -- and step units
  abbrev StepsTwice : ℕ → Type 0
  StepsTwice j = (taken : List Name) (u : Procedure) (k line : ℕ) (x : Var) (body : Code) → EachCall (IsMatched units) body → IsStepThere (stepped_program units) taken u k line x body → StepsThere (stepped_program units) taken u (suc k) body → chain_within (stepped_program units) j (step_name taken u.name k) ≤ suc (2 * chain (chain_from units) body)

  -- so it is, with any number of units called within one another
  both_twice : (j : ℕ) → UnitsTwice j × StepsTwice j
  both_twice zero = ((λ name v f. omega arith), (λ taken u k line x body p here st. omega arith))
  both_twice (suc j) =
      let ih = both_twice j in (
        (λ name v f.
            let s = is_step_for units name v f in
            let l = twice (chain_within (stepped_program units) j) ih.0 s.taken v (ih.1 s.taken v) 0 v.body (matched name v f) s.steps in
            let m = longest units no_way name v f in
            let is : chain_within (stepped_program units) (suc j) name ≡ suc (chain (chain_within (stepped_program units) j) (cut s.taken v 0 v.body)) = ap (chain_found (chain_within (stepped_program units) j)) s.found in
            omega (arith, l, m, is)),
        (λ taken u k line x body p here st.
            let l = twice (chain_within (stepped_program units) j) ih.0 taken u (ih.1 taken u) (suc k) body p st in
            let is : chain_within (stepped_program units) (suc j) (step_name taken u.name k) ≡ suc (chain (chain_within (stepped_program units) j) (cut taken u (suc k) body)) = ap (chain_found (chain_within (stepped_program units) j)) here in
            omega (arith, l, is)),
      )

  -- ---- no chain of the stepped program is too long

  -- the longest chain from a unit of the stepped program
  abbrev below : Name → ℕ
  below = chain_from (stepped_program units)

  module _ (taken : List Name) (u : Procedure) where
    -- of a statement
    of_act : (k line : ℕ) (a : Act) → EachCall' (IsMatched units) a → StepsThereAct (stepped_program units) taken u k line a → act_chain below (cut_act taken u k line a) ≤ 2 * act_chain top a
    of_act k line a p st = let b = both_twice (length (stepped_program units)) in twice_act below b.0 taken u (b.1 taken u) k line a p st

    -- a statement's own chain isn't too long
    short_head : (k line : ℕ) (a : Act) → EachCall' (IsMatched units) a → StepsThereAct (stepped_program units) taken u k line a → IsShort top 40 a → IsShort below 80 (cut_act taken u k line a)
    short_head k line (assign x subs e) p st h = refl
    short_head k line (choose c a b) p st h = refl
    short_head k line (loop x first last by body unmarked) p st h = refl
    short_head k line (loop x first last by body (with_count m)) p st h =
        let l = short_is 40 (act_chain top (loop x first last by body (with_count m))) h in
        let t = of_act k line (loop x first last by body (with_count m)) p st in
        is_short 80 (act_chain below (cut_act taken u k line (loop x first last by body (with_count m)))) (omega (arith, l, t))
    short_head k line (loop x first last by body (count_from y)) p st h =
        let l = short_is 40 (act_chain top (loop x first last by body (count_from y))) h in
        let t = of_act k line (loop x first last by body (count_from y)) p st in
        is_short 80 (act_chain below (cut_act taken u k line (loop x first last by body (count_from y)))) (omega (arith, l, t))
    short_head k line (during c body) p st h = refl
    short_head k line (call name args) p st h =
        let l = short_is 40 (top name) h in
        let t = of_act k line (call name args) p st in
        is_short 80 (below name) (omega (arith, l, t))
    short_head k line (runtime r) p st h = refl

    -- the call of a step unit
    short_step : (k line : ℕ) (x : Var) (body : Code) → EachCall (IsMatched units) body → IsStepThere (stepped_program units) taken u k line x body → StepsThere (stepped_program units) taken u (suc k) body → suc (suc (chain top body)) ≤ 40 → IsShort below 80 (step_call taken u k x body)
    short_step k line x body p here st l = let t = (both_twice (length (stepped_program units))).1 taken u k line x body p here st in is_short 80 (below (step_name taken u.name k)) (omega (arith, l, t))

    mutual
      short_in : (k line : ℕ) (a : Act) → EachCall' (IsMatched units) a → StepsThereAct (stepped_program units) taken u k line a → IsShort top 40 a → HoldsIn (λ l c. IsShort top 40 c) a → HoldsIn (λ l c. IsShort below 80 c) (cut_act taken u k line a)
      short_in k line (assign x subs e) p st s h = tt
      short_in k line (choose c a b) p st s h = (short_cut k a p.0 st.0 h.0, short_cut (k + marked_in a) b p.1 st.1 h.1)
      short_in k line (loop x first last by body unmarked) p st s h = short_cut k body p st h
      short_in k line (loop x first last by body (with_count m)) p st s h = (short_step k line x body p st.0 st.1 (short_is 40 (act_chain top (loop x first last by body (with_count m))) s), (tt, tt))
      short_in k line (loop x first last by body (count_from y)) p st s h = (short_step k line x body p st.0 st.1 (short_is 40 (act_chain top (loop x first last by body (count_from y))) s), (tt, tt))
      short_in k line (during c body) p st s h = short_cut k body p st h
      short_in k line (call name args) p st s h = tt
      short_in k line (runtime r) p st s h = tt

      -- nor those in a list
      short_cut : (k : ℕ) (c : Code) → EachCall (IsMatched units) c → StepsThere (stepped_program units) taken u k c → Holds (λ l c. IsShort top 40 c) c → Holds (λ l c. IsShort below 80 c) (cut taken u k c)
      short_cut k stop p st h = tt
      short_cut k (step line a rest) p st h = (short_head k line a p.0 st.0 h.0, (short_in k line a p.0 st.0 h.0 h.1.0, short_cut (k + marked_in_act a) rest p.1 st.1 h.1.1))

  -- what is known of each unit: its chains have a bound, and none that begins in it is too long
  abbrev IsTame : Procedure → Type 0
  IsTame v = ((most : ℕ) × ((k : ℕ) → chain_within (stepped_program units) k v.name ≤ most)) × Holds (λ l c. IsShort (chain_from (stepped_program units)) 80 c) v.body

  module _ (taken : List Name) (u : Procedure) where
    -- a step unit is so
    step_tame : (k line : ℕ) (x : Var) (body : Code) → EachCall (IsMatched units) body → IsStepThere (stepped_program units) taken u k line x body → StepsThere (stepped_program units) taken u (suc k) body → Holds (λ l c. IsShort top 40 c) body → IsTame (step_unit taken u k line x body)
    step_tame k line x body p here st h = ((suc (2 * chain (chain_from units) body), (λ j. (both_twice j).1 taken u k line x body p here st)), short_cut taken u (suc k) body p st h)

    mutual
      steps_tame_act : (k line : ℕ) (a : Act) → EachCall' (IsMatched units) a → StepsThereAct (stepped_program units) taken u k line a → HoldsIn (λ l c. IsShort top 40 c) a → Each IsTame (step_units_in_act taken u k line a)
      steps_tame_act k line (assign x subs e) p st h = tt
      steps_tame_act k line (choose c a b) p st h = each_join IsTame (step_units_in taken u k a) (step_units_in taken u (k + marked_in a) b) (steps_tame k a p.0 st.0 h.0) (steps_tame (k + marked_in a) b p.1 st.1 h.1)
      steps_tame_act k line (loop x first last by body unmarked) p st h = steps_tame k body p st h
      steps_tame_act k line (loop x first last by body (with_count m)) p st h = (step_tame k line x body p st.0 st.1 h, steps_tame (suc k) body p st.1 h)
      steps_tame_act k line (loop x first last by body (count_from y)) p st h = (step_tame k line x body p st.0 st.1 h, steps_tame (suc k) body p st.1 h)
      steps_tame_act k line (during c body) p st h = steps_tame k body p st h
      steps_tame_act k line (call name args) p st h = tt
      steps_tame_act k line (runtime r) p st h = tt

      -- all those of a list are
      steps_tame : (k : ℕ) (c : Code) → EachCall (IsMatched units) c → StepsThere (stepped_program units) taken u k c → Holds (λ l c. IsShort top 40 c) c → Each IsTame (step_units_in taken u k c)
      steps_tame k stop p st h = tt
      steps_tame k (step line a rest) p st h = each_join IsTame (step_units_in_act taken u k line a) (step_units_in taken u (k + marked_in_act a) rest) (steps_tame_act k line a p.0 st.0 h.1.0) (steps_tame (k + marked_in_act a) rest p.1 st.1 h.1.1)

  -- and all units of a program
  all_tame : (us : List Procedure) (taken : List Name) → Each (λ u. find_unit units u.name ≡ Some u) us → EachUnit (λ u. EachCall (IsMatched units) u.body) us → Each (λ u. Holds (λ l c. IsShort top 40 c) u.body) us → AllThere (stepped_program units) taken us → Each IsTame (stepped_from taken us)
  all_tame [] taken f p h st = tt
  all_tame (u ∷ us) taken f p h st =
      each_join IsTame (stepped_unit taken u) (stepped_from (taken ++ step_names taken u.name (marked_in u.body)) us)
      (((2 * chain_from units u.name, (λ j. (both_twice j).0 u.name u f.0)), short_cut taken u 0 u.body p.0 st.0 h.0), steps_tame taken u 0 u.body p.0 st.0 h.0) (all_tame us (taken ++ step_names taken u.name (marked_in u.body)) f.1 p.1 h.1 st.1)

  -- the source's chains aren't too long
  source_short : Each (λ u. Holds (λ l c. IsShort top 40 c) u.body) units
  source_short =
      each_more (λ u. flat_map (λ s. faults_if (begins_chain s.1 && nat_lt 40 (suc (act_chain (chain_from units) s.1))) (passed 40 s.0)) (statements u.body) ≡ []) (λ u. Holds (λ l c. IsShort top 40 c) u.body)
      (λ u h.
      holding (λ l c. IsShort top 40 c) u.body
      (each_more (λ (s : At Act). faults_if (begins_chain s.1 && nat_lt 40 (suc (act_chain (chain_from units) s.1))) (passed 40 s.0) ≡ []) (λ s. IsShort top 40 s.1) (λ s k. none_if (begins_chain s.1 && nat_lt 40 (suc (act_chain (chain_from units) s.1))) (passed 40 s.0) k) (statements u.body)
      (none_each (λ s. faults_if (begins_chain s.1 && nat_lt 40 (suc (act_chain (chain_from units) s.1))) (passed 40 s.0)) (statements u.body) h))) units
      (none_each (λ u. flat_map (λ s. faults_if (begins_chain s.1 && nat_lt 40 (suc (act_chain (chain_from units) s.1))) (passed 40 s.0)) (statements u.body)) units no_faults.1)

  -- so it is in the stepped program
  pub stepped_tame : Each IsTame (stepped_program units)
  stepped_tame = all_tame units (names_of_source units) (own_found units (source_distinct units sound)) source.matched source_short (program_there units)

-- ---- lowered lists have the chains of the lists

-- assignments and IFs alone
abbrev IsQuiet : ℕ → Act → Type 0
IsQuiet line (assign x subs e) = Unit {0}
IsQuiet line (choose c a b) = Unit {0}
IsQuiet line (loop x first last by body m) = ⊥
IsQuiet line (during c body) = ⊥
IsQuiet line (call name args) = ⊥
IsQuiet line (runtime r) = ⊥

module _ (f : Name → ℕ) where
  mutual
    quiet_act : (line : ℕ) (a : Act) → IsQuiet line a → HoldsIn IsQuiet a → act_chain f a ≡ 0
    quiet_act line (assign x subs e) q h = refl
    quiet_act line (choose c a b) q h = let p = quiet a h.0 in let r = quiet b h.1 in omega (arith, p, r)
    quiet_act line (loop x first last by body m) q h = absurd q
    quiet_act line (during c body) q h = absurd q
    quiet_act line (call name args) q h = absurd q
    quiet_act line (runtime r) q h = absurd q

    -- such a list begins no chain
    quiet : (c : Code) → Holds IsQuiet c → chain f c ≡ 0
    quiet stop h = refl
    quiet (step line a rest) h = let p = quiet_act line a h.0 h.1.0 in let r = quiet rest h.1.1 in omega (arith, p, r)

  -- two lists one after the other
  chain_join : (c d : Code) → chain f (c +++ d) ≡ max (chain f c) (chain f d)
  chain_join stop d = omega arith
  chain_join (step line a c) d = let p = chain_join c d in omega (arith, p)

  -- of which the first begins none
  quiet_front : (c d : Code) → Holds IsQuiet c → chain f (c +++ d) ≡ chain f d
  quiet_front c d h = let p = chain_join c d in let q = quiet c h in omega (arith, p, q)

  module _ (local : ℕ → Var) (handed : Dummies) where
    -- assignments begin none
    abbrev sets : (line : ℕ) (x : Var) (subs : Terms) (e : Term) → IsQuiet line (assign x subs e)
    sets line x subs e = tt

    -- nor do IFs
    abbrev picks : (line : ℕ) (c : Test) (a b : Code) → IsQuiet line (choose c a b)
    picks line c a b = tt

    -- a lowered call begins the chain of the call
    call_chain : (line : ℕ) (name : Name) (args : Terms) → chain f (lowered_call local line (handed name) name args) ≡ f name
    call_chain line name args =
        let es = reduced_all local 0 args in
        let j = locals_in_all args in
        let names = all_passed local (locals_in_all args) (handed name) [] (reduced_all local 0 args) in
        let after = after_passing_all local line (locals_in_all args) (handed name) [] (reduced_all local 0 args) in
        let q = quiet (after_passing_all local line (locals_in_all args) (handed name) [] (reduced_all local 0 args)) (hold_afters local IsQuiet IsQuiet sets picks line (locals_in_all args) (handed name) [] (reduced_all local 0 args)) in
        let last : max (f name) (chain f (after_passing_all local line (locals_in_all args) (handed name) [] (reduced_all local 0 args))) ≡ f name = omega (arith, q) in
        quiet_front (before_all local line 0 args) (before_passing_all local line j (handed name) [] es +++ step line (call name names) after) (hold_all local IsQuiet IsQuiet sets picks line 0 args)
        ∙ quiet_front (before_passing_all local line j (handed name) [] es) (step line (call name names) after) (hold_passings local IsQuiet IsQuiet sets picks line j (handed name) [] es) ∙ last

    mutual
      lowered_chain_act : (line : ℕ) (a : Act) → chain f (lowered_act local handed line a) ≡ act_chain f a
      lowered_chain_act line (assign x subs e) =
          quiet_front (before_target local line x 0 _ subs) _ (hold_target local IsQuiet IsQuiet sets picks line x 0 _ subs) ∙ quiet_front (before local line _ e) _ (hold_before local IsQuiet IsQuiet sets picks line _ e)
      lowered_chain_act line (choose c a b) = let p = lowered_chain a in let q = lowered_chain b in omega (arith, p, q)
      lowered_chain_act line (loop x first last by body m) = let is = ap (with_mark m) (lowered_chain body) in omega (arith, is)
      lowered_chain_act line (during c body) = let p = lowered_chain body in omega (arith, p)
      lowered_chain_act line (call name args) = call_chain line name args
      lowered_chain_act line (runtime r) = refl

      -- so a lowered list has the chain of the list
      pub lowered_chain : (c : Code) → chain f (lowered local handed c) ≡ chain f c
      lowered_chain stop = refl
      lowered_chain (step line a rest) = let p = chain_join (lowered_act local handed line a) (lowered local handed rest) in let q = lowered_chain_act line a in let r = lowered_chain rest in omega (arith, p, q, r)

-- ---- the kernel

module _ (all : List Procedure) where
  -- the program with all units lowered
  abbrev kernel : List Procedure
  kernel = lowered_program all

  -- and a lowered unit that of the unit
  lowered_found : (us : List Procedure) (f : Name → ℕ) (x : Name) → chain_found f (find_unit (map (lowered_unit all) us) x) ≡ chain_found f (find_unit us x)
  lowered_found [] f x = refl
  lowered_found (u ∷ us) f x = go (name_eq u.name x) (lowered_found us f x)
    where
      go : (b : Bool) → chain_found f (find_unit (map (lowered_unit all) us) x) ≡ chain_found f (find_unit us x) → chain_found f (if b then Some (lowered_unit all u) else find_unit (map (lowered_unit all) us) x) ≡ chain_found f (if b then Some u else find_unit us x)
      go true ih = ap suc (lowered_chain f (local_in all u) (handed_back all) u.body)
      go false ih = ih

  -- units have the chains that they had
  within_same : (k : ℕ) (x : Name) → chain_within (lowered_program all) k x ≡ chain_within all k x
  within_same zero x = refl
  within_same (suc k) x = lowered_found all (chain_within (lowered_program all) k) x ∙ ap (λ (f : Name → ℕ). chain_found f (find_unit all x)) (λ i y. within_same k y i)

  -- there are as many units
  as_many : (us : List Procedure) → length (map (lowered_unit all) us) ≡ length us
  as_many [] = refl
  as_many (u ∷ us) = ap suc (as_many us)

  -- so has each name
  from_same : (x : Name) → chain_from (lowered_program all) x ≡ chain_from all x
  from_same x = ap (λ n. chain_within (lowered_program all) n x) (as_many all) ∙ within_same (length all) x

  -- no statement of a lowered list begins a chain that is too long
  short_lowered : (v : Procedure) → Holds (λ l c. IsShort (chain_from all) 80 c) v.body → Holds (λ l c. IsShort (chain_from (lowered_program all)) 80 c) (lowered_unit all v).body
  short_lowered v h =
      lowered_holds (local_in all v) (λ l c. IsShort (chain_from all) 80 c) (λ l c. IsShort (chain_from (lowered_program all)) 80 c) (λ line x subs e. refl) (λ line c a b. refl) (handed_back all) (λ line c body. refl)
      (λ line x first last by body m s. ap (λ (f : Name → ℕ). is_marked m && nat_lt 80 (suc (with_mark m (chain f (lowered (local_in all v) (handed_back all) body))))) (λ i y. from_same y i) ∙ ap (λ n. is_marked m && nat_lt 80 (suc (with_mark m n))) (lowered_chain (chain_from all) (local_in all v) (handed_back all) body) ∙ s)
      (λ line name args s. ap (λ n. nat_lt 80 (suc n)) (from_same name) ∙ s) (λ line r s. refl) v.body h

module _ (units : List Procedure) (written : IsWritten units) (sound : IsSound source_rules units) where
  -- no call of a lowered unit leads back
  no_cycle : (v : Procedure) → find_unit (stepped_program units) v.name ≡ Some v → IsTame units written sound v → flat_map (λ (c : At Call). faults_if (calls_lead (kernel_of units) (c.1).0 v.name) (fault 16 c.0)) (calls (lowered_unit (stepped_program units) v)) ≡ []
  no_cycle v f t =
      none_flat (λ (c : At Call). faults_if (calls_lead (kernel_of units) (c.1).0 v.name) (fault 16 c.0)) (calls (lowered_unit (stepped_program units) v))
      (each_more (λ (c : At Call). calls_lead (kernel_of units) (c.1).0 v.name ≡ false) (λ c. faults_if (calls_lead (kernel_of units) (c.1).0 v.name) (fault 16 c.0) ≡ []) (λ c h. if_none (calls_lead (kernel_of units) (c.1).0 v.name) (fault 16 c.0) h) (calls (lowered_unit (stepped_program units) v))
      (callee_each (λ x. calls_lead (kernel_of units) x v.name ≡ false) (calls (lowered_unit (stepped_program units) v)) (λ x h.
      no_way_bounded (kernel_of units) v.name (lowered_unit (stepped_program units) v) (found_lowered (stepped_program units) (stepped_program units) v.name v f) t.0.0 (λ k. subst (λ n. n ≤ t.0.0) (sym (within_same (stepped_program units) k v.name)) (t.0.1 k)) x
      (sym (ap (list_any (name_eq x)) (names_called (lowered_unit (stepped_program units) v))) ∙ h) (length (kernel_of units)))))

  -- nor is any chain in it too long
  no_long : (v : Procedure) → IsTame units written sound v → flat_map (λ (s : At Act). faults_if (begins_chain s.1 && nat_lt 80 (suc (act_chain (chain_from (kernel_of units)) s.1))) (passed 80 s.0)) (statements (lowered_unit (stepped_program units) v).body) ≡ []
  no_long v t =
      none_flat (λ (s : At Act). faults_if (begins_chain s.1 && nat_lt 80 (suc (act_chain (chain_from (kernel_of units)) s.1))) (passed 80 s.0)) (statements (lowered_unit (stepped_program units) v).body)
      (each_more (λ (s : At Act). IsShort (chain_from (kernel_of units)) 80 s.1) (λ s. faults_if (begins_chain s.1 && nat_lt 80 (suc (act_chain (chain_from (kernel_of units)) s.1))) (passed 80 s.0) ≡ []) (λ s h. if_none (begins_chain s.1 && nat_lt 80 (suc (act_chain (chain_from (kernel_of units)) s.1))) (passed 80 s.0) h) (statements (lowered_unit (stepped_program units) v).body)
      (listed (λ l c. IsShort (chain_from (kernel_of units)) 80 c) (lowered_unit (stepped_program units) v).body (short_lowered (stepped_program units) v t.1)))

  -- no call of the kernel lies on a cycle
  no_cycles : (vs : List Procedure) → Each (λ v. find_unit (stepped_program units) v.name ≡ Some v) vs → Each (IsTame units written sound) vs → Each (λ v. flat_map (λ (c : At Call). faults_if (calls_lead (kernel_of units) (c.1).0 v.name) (fault 16 c.0)) (calls v) ≡ []) (map (lowered_unit (stepped_program units)) vs)
  no_cycles [] f t = tt
  no_cycles (v ∷ vs) f t = (no_cycle v f.0 t.0, no_cycles vs f.1 t.1)

  -- and none of its chains is too long
  none_long : (vs : List Procedure) → Each (IsTame units written sound) vs → Each (λ v. flat_map (λ (s : At Act). faults_if (begins_chain s.1 && nat_lt 80 (suc (act_chain (chain_from (kernel_of units)) s.1))) (passed 80 s.0)) (statements v.body) ≡ []) (map (lowered_unit (stepped_program units)) vs)
  none_long [] t = tt
  none_long (v ∷ vs) t = (no_long v t.0, none_long vs t.1)

  -- no chain of the kernel has a fault
  pub kernel_chains : chain_faults run_rules (kernel_of units) ≡ []
  kernel_chains =
      ap (λ cs. or_else cs (long_chains run_rules (kernel_of units)))
      (none_flat (λ v. flat_map (λ (c : At Call). faults_if (calls_lead (kernel_of units) (c.1).0 v.name) (fault 16 c.0)) (calls v)) (kernel_of units) (no_cycles (stepped_program units) (own_found (stepped_program units) (stepped_distinct units sound)) (stepped_tame units written sound)))
      ∙ none_flat (λ v. flat_map (λ (s : At Act). faults_if (begins_chain s.1 && nat_lt 80 (suc (act_chain (chain_from (kernel_of units)) s.1))) (passed 80 s.0)) (statements v.body)) (kernel_of units) (none_long (stepped_program units) (stepped_tame units written sound))
