-- What is emitted has no faults of calls.
use Rattle.std.proofs.Common.{◌≡◌, ℕ, Bool, true, false, List, [], ◌∷◌, map, refl, sym, ap, ◌∙◌, subst, if◌then◌else◌}
use Rattle.std.specs.Prelude.{◌==◌, not, flat_map, Some}
use Rattle.adj_tree.specs.Code.{Var, var_eq, plain, shadow, name_eq, Terms, Runtime, Act, assign, choose, loop, during, call, runtime, Code, stop, step, Procedure}
use Rattle.def_text.specs.Written.{IsName, IsWrittenProcedure}
use Rattle.def_meaning.specs.Written.{find_unit}
use Rattle.law_meaning.specs.Common.{CallsInside', CallsInside}
use Rattle.def_meaning.specs.Rename.{rename_terms}
use Rattle.def_names.specs.Reserved.{is_runtime}
use Rattle.def_names.specs.Statements.{At, inner, statements}
use Rattle.def_names.specs.Variables.{variables, rank}
use Rattle.def_names.specs.Fault.{Rules, fault, faults_if}
use Rattle.def_names.specs.CallFaults.{variable_rank, are_actuals_for, array_arguments, faults_of_unit_call, faults_of_call, call_faults}
use Rattle.def_meaning.specs.Apart.{has_name}
use Rattle.def_names.specs.Numbers.{Vars}
use Rattle.def_sweep.specs.Naming.{Named, name_in, naming}
use Rattle.def_sweep.specs.Callees.{nothing}
use Rattle.def_sweep.specs.Declared.{unit_at}
use Rattle.def_sweep.specs.Names.{adjoint_name, forth_name, back_name}
use Rattle.def_sweep.specs.Plan.{names_of, Schedules}
use Rattle.def_sweep.specs.Rows.{with_shadows}
use Rattle.def_sweep.specs.Marking.{ProgramMarks, first_statement, plan_in}
use Rattle.def_sweep.specs.Program.{is_carried_with, all_units, emitted_units_with, emitted_for_with, schedules_in}
use Rattle.law_sweep.specs.Source.{CallUnits}
use Rattle.law_sweep.proofs.UnitLists.{found_there}
use Rattle.law_sweep.proofs.EmittedUnits.{carried_found, adjoint_found, forth_found, back_found, carried_common}
use Rattle.law_sweep.proofs.Variables.{dummy_among}
use Rattle.law_emitted.specs.Checked.{IsChecked}
use Rattle.law_emitted.proofs.Lists.{Each, each_append, each_front, each_behind, each_more, each_found, each_both}
use Rattle.law_emitted.proofs.Statements.{CallHasNone, call_of_unit, calls_inside}
use Rattle.law_emitted.proofs.Callings.{Found, all_found}
use Rattle.law_emitted.specs.Shadowed.{AreCarried, HasShadows, AllHaveShadows}
use Rattle.law_emitted.specs.Splits.{MaySplit, AllMaySplit}
use Rattle.law_emitted.specs.Emitted.{CallsHaveNone}
use Rattle.law_emitted.proofs.Follows.{FollowsBy}
use Rattle.law_emitted.proofs.Following.{KnownCall, code_follows}
use Rattle.law_emitted.proofs.Makings.{Making, as_adjoint, as_forth, as_back, its_shadows, its_kept, its_saved, its_plan, its_turns, made, is_made, ClearsOwn, emitted_making, emitted_is_made, emitted_shadows}
use Rattle.law_emitted.proofs.MakingFaults.{its_table}
use Rattle.law_emitted.proofs.MakingFaults as of_making
use Rattle.law_emitted.proofs.Carried.{AreCarriedWith, HaveAdjoint, HavePair, its_calls}
use Rattle.law_emitted.proofs.Called.{IsOwn}
use Rattle.law_emitted.proofs.Actuals.{plain_terms, plain_apart, given_vars, given_terms, given_apart, named_back, plainly_given, Fits, plain_fit, shadow_fit}
use Rattle.law_emitted.proofs.Sources.{UnitSound, all_named, all_calls}
use Rattle.law_emitted.proofs.UnitFaults.{flat_none, if_none, OfMade, each_emitted, units_apart}
use Rattle.law_emitted.proofs.NameFaults.{NamesSound, all_names_sound}

-- each unit of a checked program calls units that there are
calls_known : (ps us : List Procedure) → Each (λ u. Each (CallHasNone ps u) (statements u.body)) us → CallUnits ps us
calls_known ps [] h = tt
calls_known ps (u ∷ us) h = (calls_inside ps u u.body h.0, calls_known ps us h.1)

shadows_each : (m : ProgramMarks) (ps us : List Procedure) → AllHaveShadows m ps us → Each (λ u. HasShadows (plan_in m ps u) (first_statement ps u.name) u.body) us
shadows_each m ps [] h = tt
shadows_each m ps (u ∷ us) h = (h.0, shadows_each m ps us h.1)

pub splits_each : (sb : Bool) (m : ProgramMarks) (ps us : List Procedure) → AllMaySplit sb m ps us → Each (λ u. MaySplit (schedules_in sb ps) m.adjointed m.split (first_statement ps u.name) u.body) us
splits_each sb m ps [] h = tt
splits_each sb m ps (u ∷ us) h = (h.0, splits_each sb m ps us h.1)

-- what is asked of a unit, and of the marks
pub record IsSound (sb : Bool) (m : ProgramMarks) (ps : List Procedure) (u : Procedure) : Type 0 where
  pub sound : UnitSound ps u
  pub names : NamesSound ps u
  pub shadows : HasShadows (plan_in m ps u) (first_statement ps u.name) u.body
  pub splits : MaySplit (schedules_in sb ps) m.adjointed m.split (first_statement ps u.name) u.body

module _ (sb : Bool) (m : ProgramMarks) (ps : List Procedure) (head : Procedure) (vars outvars : List Bool) (named : Each (λ u. IsName u.name) ps) (known : CallUnits ps ps) (sound : Each (IsSound sb m ps) ps) where
  abbrev qs : List Procedure
  qs = emitted_units_with sb m ps head vars outvars ps

  abbrev units : List (List ℕ)
  units = all_units m ps head

  -- the names in what is made of a unit
  abbrev pub names_for : (w : Procedure) → IsSound sb m ps w → Making → List Named
  names_for w s k = its_table sb m ps units w s.sound s.names k

  pub keeps : (u : Procedure) (s : IsSound sb m ps u) (k : Making) (x : List ℕ) → has_name x (variables u) ≡ true → name_in (names_for u s k) (plain x) ≡ x
  keeps u s k x h = of_making.keeps sb m ps units u s.sound s.names k x h

  pub name_apart : (u : Procedure) (s : IsSound sb m ps u) (k : Making) (v w : Var) → name_eq (name_in (names_for u s k) v) (name_in (names_for u s k) w) ≡ var_eq v w
  name_apart u s k v w = of_making.apart sb m ps units u s.sound s.names k v w

  plain_rank : (u : Procedure) (s : IsSound sb m ps u) (k : Making) (x : List ℕ) → rank (made sb m ps units u k) (name_in (names_for u s k) (plain x)) ≡ rank u x
  plain_rank u s k x = of_making.plain_rank sb m ps units u s.sound s.names k x

  shadow_rank : (u : Procedure) (s : IsSound sb m ps u) (k : Making) (x : List ℕ) → its_shadows m u k (plain x) ≡ true → rank (made sb m ps units u k) (name_in (names_for u s k) (shadow x)) ≡ rank u x
  shadow_rank u s k x marked = of_making.shadow_rank sb m ps units u s.sound s.names k x marked

  -- ---- the CALLs in what is made of a unit fit

  module _ (u : Procedure) (s : IsSound sb m ps u) (k : Making) where
    abbrev v : Procedure
    v = made sb m ps units u k

    abbrev sc : Schedules
    sc = schedules_in sb ps

    abbrev C : List ℕ → Terms → Type 0
    C = Fits qs v (naming (names_for u s k))

    -- a CALL that is kept is of a unit that is carried
    kept_fits : (name : List ℕ) (args : Terms) (c : KnownCall ps u name args) → is_carried_with sb m ps head name ≡ true → C name args
    kept_fits name args c carried = record {
      unit = c.unit;
      found = carried_found sb m ps head vars outvars name carried (found_there ps name c.unit c.found).0 ∙ c.found;
      fit = subst (λ l. are_actuals_for v c.unit c.unit.dummies (rename_terms (naming (names_for u s k)) l) ≡ true) (sym c.are)
          (plain_fit u v (name_in (names_for u s k)) (its_shadows m u k) (plain_rank u s k) (shadow_rank u s k) c.unit c.unit.dummies c.given (subst (λ l. are_actuals_for u c.unit c.unit.dummies l ≡ true) c.are c.fit));
      variables = map plain c.given;
      are = c.are ∙ plain_terms c.given;
      apart = plain_apart c.given c.distinct;
    }

    -- what another becomes is of a unit that is made and emitted
    made_fits : (name : List ℕ) (args : Terms) (c : KnownCall ps u name args) (l : Making) (w : Procedure) → w ≡ made sb m ps units c.unit l → (other : List ℕ) → find_unit qs other ≡ Some w → AreCarried (its_shadows m c.unit l) (its_shadows m u k) c.unit.dummies c.given → C other (with_shadows (its_shadows m c.unit l) c.unit.dummies c.given)
    made_fits name args c l w is other found carried = record {
      unit = made sb m ps units c.unit l;
      found = found ∙ ap Some is;
      fit = shadow_fit u v (name_in (names_for u s k)) (its_shadows m u k) (plain_rank u s k) (shadow_rank u s k) c.unit (made sb m ps units c.unit l) (its_shadows m c.unit l) (names_for c.unit t l)
          (λ d h. ap (rank (made sb m ps units c.unit l)) (sym (keeps c.unit t l d (dummy_among c.unit d h))) ∙ plain_rank c.unit t l d) (shadow_rank c.unit t l) c.unit.dummies c.given (λ d h. h) (subst (λ l. are_actuals_for u c.unit c.unit.dummies l ≡ true) c.are c.fit) carried;
      variables = given_vars (its_shadows m c.unit l) c.unit.dummies c.given;
      are = given_terms (its_shadows m c.unit l) c.unit.dummies c.given;
      apart = given_apart (its_shadows m c.unit l) c.unit.dummies c.given c.distinct;
    }
      where
        t : IsSound sb m ps c.unit
        t = each_found (IsSound sb m ps) ps sound name c.unit c.found

    -- with the shadows that the unit has
    turned_fits : its_shadows m u k ≡ m.shadowed u.name → (name : List ℕ) (args : Terms) (c : KnownCall ps u name args) (l : Making) (w : Procedure) → w ≡ made sb m ps units c.unit l → (other : List ℕ) → find_unit qs other ≡ Some w → its_shadows m c.unit l ≡ m.shadowed name →
        AreCarried (m.shadowed name) (m.shadowed u.name) c.unit.dummies (names_of args) → C other (with_shadows (m.shadowed name) c.unit.dummies (names_of args))
    turned_fits own name args c l w is other found sh carried =
        subst (λ z. C other (with_shadows z c.unit.dummies (names_of args))) sh
        (subst (λ given. C other (with_shadows (its_shadows m c.unit l) c.unit.dummies given)) (sym back)
        (made_fits name args c l w is other found
        (subst (λ given. AreCarried (its_shadows m c.unit l) (its_shadows m u k) c.unit.dummies given) back
        (subst (λ z. AreCarried z (its_shadows m u k) c.unit.dummies (names_of args)) (sym sh) (subst (λ z. AreCarried (m.shadowed name) z c.unit.dummies (names_of args)) (sym own) carried)))))
      where
        back : names_of args ≡ c.given
        back = ap names_of c.are ∙ named_back c.given

    adjoint_fits : its_shadows m u k ≡ m.shadowed u.name → (name : List ℕ) (args : Terms) (c : KnownCall ps u name args) → HaveAdjoint m ps head name → AreCarried (m.shadowed name) (m.shadowed u.name) c.unit.dummies (names_of args) → C (adjoint_name ps c.unit) (with_shadows (m.shadowed name) c.unit.dummies (names_of args))
    adjoint_fits own name args c there carried =
        turned_fits own name args c (emitted_making m head vars outvars c.unit) _ (emitted_is_made sb m ps head vars outvars c.unit) (adjoint_name ps c.unit) (adjoint_found sb m ps head vars outvars name c.unit c.found there.0)
        (emitted_shadows m head vars outvars c.unit ∙ ap m.shadowed (found_there ps name c.unit c.found).1) carried

    back_fits : its_shadows m u k ≡ m.shadowed u.name → (name : List ℕ) (args : Terms) (c : KnownCall ps u name args) → HavePair m ps head name → AreCarried (m.shadowed name) (m.shadowed u.name) c.unit.dummies (names_of args) → C (back_name ps c.unit) (with_shadows (m.shadowed name) c.unit.dummies (names_of args))
    back_fits own name args c there carried =
        turned_fits own name args c as_back (made sb m ps units c.unit as_back) refl (back_name ps c.unit) (back_found sb m ps head vars outvars name c.unit c.found there.0) (ap m.shadowed (found_there ps name c.unit c.found).1) carried

    -- a forward unit has no shadows
    none_carried : (a : Vars) (ds given : List (List ℕ)) → AreCarried nothing a ds given
    none_carried a [] given = tt
    none_carried a (d ∷ ds) [] = tt
    none_carried a (d ∷ ds) (x ∷ given) = (λ h. absurd cc, none_carried a ds given)

    forth_fits : (name : List ℕ) (args : Terms) (c : KnownCall ps u name args) → HavePair m ps head name → C (forth_name ps c.unit) args
    forth_fits name args c there =
        subst (C (forth_name ps c.unit)) (plainly_given u c.unit c.unit.dummies c.given (subst (λ l. are_actuals_for u c.unit c.unit.dummies l ≡ true) c.are c.fit) ∙ sym c.are)
        (made_fits name args c as_forth (made sb m ps units c.unit as_forth) refl (forth_name ps c.unit) (forth_found sb m ps head vars outvars name c.unit c.found there.0) (none_carried (its_shadows m u k) c.unit.dummies c.given))

  -- CALLs with shadows stand in an adjoint and in a backward unit
  module _ (u : Procedure) (s : IsSound sb m ps u) where
    abbrev Fitting : Making → List ℕ → Terms → Type 0
    Fitting k = Fits qs (made sb m ps units u k) (naming (names_for u s k))

    adjoint_turns : (k : Making) (name : List ℕ) (args : Terms) (c : KnownCall ps u name args) → HaveAdjoint m ps head name → AreCarried (m.shadowed name) (m.shadowed u.name) c.unit.dummies (names_of args) → its_turns k (Fitting k) (adjoint_name ps c.unit) (with_shadows (m.shadowed name) c.unit.dummies (names_of args))
    adjoint_turns (as_adjoint at_turn at_end) name args c there carried = adjoint_fits u s (as_adjoint at_turn at_end) refl name args c there carried
    adjoint_turns as_forth name args c there carried = tt
    adjoint_turns as_back name args c there carried = adjoint_fits u s as_back refl name args c there carried

    back_turns : (k : Making) (name : List ℕ) (args : Terms) (c : KnownCall ps u name args) → HavePair m ps head name → AreCarried (m.shadowed name) (m.shadowed u.name) c.unit.dummies (names_of args) → its_turns k (Fitting k) (back_name ps c.unit) (with_shadows (m.shadowed name) c.unit.dummies (names_of args))
    back_turns (as_adjoint at_turn at_end) name args c there carried = back_fits u s (as_adjoint at_turn at_end) refl name args c there carried
    back_turns as_forth name args c there carried = tt
    back_turns as_back name args c there carried = back_fits u s as_back refl name args c there carried

    -- so it is in each unit that is made and emitted
    unit_follows : (k : Making) → find_unit ps u.name ≡ Some u → is_made m ps head u k ≡ true → FollowsBy (schedules_in sb ps) (Fitting k) (its_turns k (Fitting k)) (its_plan m ps u k) (first_statement ps u.name) u.body
    unit_follows k found there =
        code_follows (schedules_in sb ps) m ps named u (its_kept m k) (its_saved m k) (AreCarriedWith sb m ps head) (HaveAdjoint m ps head) (HavePair m ps head) (Fitting k) (its_turns k (Fitting k)) (kept_fits u s k) (adjoint_turns k) (forth_fits u s k) (back_turns k)
        (first_statement ps u.name) u.body source.calls written.body source.kernel s.shadows (its_calls sb m ps head u found source.calls s.splits k there)
      where
        source : UnitSound ps u
        source = s.sound

        written : IsWrittenProcedure u
        written = source.written

    module _ (k : Making) (clears : ClearsOwn m u k) (found : find_unit ps u.name ≡ Some u) (there : is_made m ps head u k ≡ true) where
      pub statements_have : (G : At Act → Type 0) → ((line : ℕ) (act : Act) → IsOwn act → G (line, act)) → ((line : ℕ) (other : List ℕ) (args : Terms) → is_runtime other ≡ false → Fitting k other args → G (line, call other (rename_terms (naming (names_for u s k)) args))) →
          ((line : ℕ) (c : Runtime) → Each (λ x. (variable_rank (made sb m ps units u k) x == 0) ≡ false) (array_arguments c) → G (line, runtime c)) → Each G (statements (made sb m ps units u k).body)
      statements_have G own called ran = of_making.statements_have sb m ps units u s.sound s.names k clears (Fitting k) (unit_follows k found there) G own called ran

      -- ---- no faults of calls

      calls_none : flat_map (λ s. faults_of_call qs (made sb m ps units u k) s.0 s.1) (statements (made sb m ps units u k).body) ≡ []
      calls_none = flat_none (λ s. faults_of_call qs v s.0 s.1) (statements v.body) (statements_have (λ s. faults_of_call qs v s.0 s.1 ≡ []) own called ran)
        where
          v : Procedure
          v = made sb m ps units u k

          own : (line : ℕ) (act : Act) → IsOwn act → faults_of_call qs (made sb m ps units u k) line act ≡ []
          own line (assign x l e) o = refl
          own line (choose c a b) o = refl
          own line (loop x a b c body mark) o = refl
          own line (during c body) o = refl
          own line (call name args) o = absurd o
          own line (runtime r) o = absurd o

          called : (line : ℕ) (other : List ℕ) (args : Terms) → is_runtime other ≡ false → Fitting k other args → faults_of_call qs (made sb m ps units u k) line (call other (rename_terms (naming (names_for u s k)) args)) ≡ []
          called line other args r f =
              ap (λ b. if b then fault 15 line ∷ [] else faults_of_unit_call v (find_unit qs other) line (rename_terms (naming (names_for u s k)) args)) r
              ∙ ap (λ o. faults_of_unit_call v o line (rename_terms (naming (names_for u s k)) args)) f.found
              ∙ if_none (not (are_actuals_for v f.unit f.unit.dummies (rename_terms (naming (names_for u s k)) args))) (fault 15 line) (ap not f.fit)

          ran : (line : ℕ) (c : Runtime) → Each (λ x. (variable_rank (made sb m ps units u k) x == 0) ≡ false) (array_arguments c) → faults_of_call qs (made sb m ps units u k) line (runtime c) ≡ []
          ran line c h = flat_none (λ x. faults_if (variable_rank v x == 0) (fault 15 line)) (array_arguments c) (each_more (λ x. (variable_rank v x == 0) ≡ false) (λ x. faults_if (variable_rank v x == 0) (fault 15 line) ≡ []) (λ x k. if_none (variable_rank v x == 0) (fault 15 line) k) (array_arguments c) h)

  -- ---- units that are emitted as they are

  -- what they call is there as it was
  mutual
    carried_act : (u : Procedure) (line : ℕ) (a : Act) → CallsInside' (is_carried_with sb m ps head) a → Each (CallHasNone ps u) ((line, a) ∷ inner a) → Each (CallHasNone qs u) ((line, a) ∷ inner a)
    carried_act u line (assign x subs e) k h = (refl, tt)
    carried_act u line (choose c a b) k h = (refl, each_append (CallHasNone qs u) (statements a) (statements b) (carried_code u a k.0 (each_front (CallHasNone ps u) (statements a) (statements b) h.1)) (carried_code u b k.1 (each_behind (CallHasNone ps u) (statements a) (statements b) h.1)))
    carried_act u line (loop x a b c body mark) k h = (refl, carried_code u body k h.1)
    carried_act u line (during c body) k h = (refl, carried_code u body k h.1)
    carried_act u line (call name args) k h =
        let unit = call_of_unit ps u line name args h.0 in
        let same : find_unit qs name ≡ find_unit ps name = carried_found sb m ps head vars outvars name k (found_there ps name unit.unit unit.found).0 in
        (ap (λ o. if is_runtime name then fault 15 line ∷ [] else faults_of_unit_call u o line args) same ∙ h.0, tt)
    carried_act u line (runtime r) k h = h

    carried_code : (u : Procedure) (c : Code) → CallsInside (is_carried_with sb m ps head) c → Each (CallHasNone ps u) (statements c) → Each (CallHasNone qs u) (statements c)
    carried_code u stop k h = tt
    carried_code u (step line a rest) k h =
        let here = carried_act u line a k.0 (h.0, each_front (CallHasNone ps u) (inner a) (statements rest) h.1) in
        (here.0, each_append (CallHasNone qs u) (inner a) (statements rest) here.1 (carried_code u rest k.1 (each_behind (CallHasNone ps u) (inner a) (statements rest) h.1)))

  carried_none : (u : Procedure) → find_unit ps u.name ≡ Some u → UnitSound ps u → is_carried_with sb m ps head u.name ≡ true → flat_map (λ s. faults_of_call qs u s.0 s.1) (statements u.body) ≡ []
  carried_none u found s h =
      let common = carried_common sb m ps head vars outvars known in
      flat_none (λ s. faults_of_call qs u s.0 s.1) (statements u.body) (carried_code u u.body (common.closed u.name u h found) s.calls)

  -- what holds of the units that are carried, and of what is made of units that are found
  pub each_known : (P : Procedure → Type 0) → Each (Found ps) ps → ((u : Procedure) → find_unit ps u.name ≡ Some u → IsSound sb m ps u → is_carried_with sb m ps head u.name ≡ true → P u) →
      ((u : Procedure) (s : IsSound sb m ps u) (k : Making) → ClearsOwn m u k → find_unit ps u.name ≡ Some u → is_made m ps head u k ≡ true → P (made sb m ps units u k)) → Each P qs
  each_known P found c f =
      each_emitted sb m ps head vars outvars P ps
      (each_more (λ u. Found ps u × IsSound sb m ps u) (λ u. is_carried_with sb m ps head u.name ≡ true → P u) (λ u o h. c u o.0.0 o.1 h) ps both)
      (each_more (λ u. Found ps u × IsSound sb m ps u) (OfMade sb m ps head vars outvars P) (λ u o k clears there. f u o.1 k clears o.0.0 there) ps both)
    where
      both : Each (λ u. Found ps u × IsSound sb m ps u) ps
      both = each_both (Found ps) (IsSound sb m ps) ps found sound

  emitted_none : Each (Found ps) ps → call_faults qs ≡ []
  emitted_none found =
      flat_none (λ u. flat_map (λ s. faults_of_call qs u s.0 s.1) (statements u.body)) qs
      (each_known (λ u. flat_map (λ s. faults_of_call qs u s.0 s.1) (statements u.body) ≡ []) found (λ u f s h. carried_none u f s.sound h) (λ u s k clears f there. calls_none u s k clears f there))

-- ---- the program

module _ (rules : Rules) (ps : List Procedure) (checked : IsChecked rules ps) where
  pub all_known : CallUnits ps ps
  all_known = calls_known ps ps (all_calls rules ps checked)

  pub all_there : Each (Found ps) ps
  all_there = all_found ps (units_apart rules ps checked)

  pub each_sound : (sb : Bool) (m : ProgramMarks) → AllHaveShadows m ps ps → AllMaySplit sb m ps ps → Each (IsSound sb m ps) ps
  each_sound sb m shadowed may = go ps (all_names_sound rules ps checked) (shadows_each m ps ps shadowed) (splits_each sb m ps ps may)
    where
      go : (us : List Procedure) → Each (λ u. UnitSound ps u × NamesSound ps u) us → Each (λ u. HasShadows (plan_in m ps u) (first_statement ps u.name) u.body) us → Each (λ u. MaySplit (schedules_in sb ps) m.adjointed m.split (first_statement ps u.name) u.body) us → Each (IsSound sb m ps) us
      go [] a b c = tt
      go (u ∷ us) a b c = (record { sound = a.0.0; names = a.0.1; shadows = b.0; splits = c.0 }, go us a.1 b.1 c.1)

pub calls_have_none : CallsHaveNone
calls_have_none rules ps checked sb m shadowed may head vars outvars = go (unit_at head ps)
  where
    go : (us : List Procedure) → call_faults (emitted_for_with sb m ps vars outvars us) ≡ []
    go [] = refl
    go (u ∷ us) = emitted_none sb m ps u vars outvars (all_named rules ps checked) (all_known rules ps checked) (each_sound rules ps checked sb m shadowed may) (all_there rules ps checked)
