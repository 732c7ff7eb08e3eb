-- What is emitted has no faults of calls.
use Rattle.std.proofs.Common.{◌≡◌, ℕ, Bool, true, false, List, [], ◌∷◌, map, refl, sym, ap, ◌∙◌, subst, if◌then◌else◌}
use Rattle.std.specs.Prelude.{◌==◌, not, flat_map, Some}
use Rattle.adj_tree.specs.Code.{Terms, plain, Runtime, Act, assign, choose, loop, during, call, runtime, Code, stop, step, Procedure}
use Rattle.def_meaning.specs.Apart.{has_name}
use Rattle.def_meaning.specs.Rename.{rename_terms}
use Rattle.def_meaning.specs.Written.{find_unit}
use Rattle.law_meaning.specs.Common.{CallsInside', CallsInside}
use Rattle.def_text.specs.Written.{IsWrittenAct, IsWrittenCode}
use Rattle.def_names.specs.Numbers.{Vars}
use Rattle.def_names.specs.Reserved.{is_runtime}
use Rattle.def_names.specs.Statements.{At, inner, statements}
use Rattle.def_names.specs.Variables.{rank}
use Rattle.def_names.specs.Fault.{Rules, fault, faults_if}
use Rattle.def_names.specs.CallFaults.{variable_rank, are_actuals_for, array_arguments, faults_of_unit_call, faults_of_call, call_faults}
use Rattle.def_kernel.specs.Form.{IsKernelAct, IsKernelCode, AreDistinctNames}
use Rattle.def_flow.specs.Problem.{Problem}
use Rattle.def_sweep.specs.Naming.{name_in, naming}
use Rattle.def_sweep.specs.Declared.{unit_at}
use Rattle.def_sweep.specs.Plan.{names_of, actuals_named}
use Rattle.def_sweep.specs.Rows.{with_shadows}
use Rattle.def_sweep.specs.Bindings.{bindings, actuals_in}
use Rattle.law_sweep.specs.Source.{CallUnits}
use Rattle.law_sweep.proofs.CallDuals.{shadows_bound}
use Rattle.law_sweep.proofs.UnitLists.{found_there}
use Rattle.law_sweep.proofs.Variables.{dummy_among}
use Rattle.def_tangent.specs.Program.{Carried, dummies_of, tangent_name, plan_in, has_tangent, stays, emitted_units}
use Rattle.def_flow.specs.Carried.{IsCarrying, carried_by}
use Rattle.law_emitted.specs.Checked.{IsChecked}
use Rattle.law_emitted.specs.Shadowed.{AreCarried}
use Rattle.law_emitted.proofs.Lists.{Each, each_append, each_front, each_behind, each_more, each_found, each_both}
use Rattle.law_emitted.proofs.Texts.{actuals_given, actuals_apart}
use Rattle.law_emitted.proofs.Statements.{CallHasNone, call_of_unit}
use Rattle.law_emitted.proofs.Callings.{Found}
use Rattle.law_emitted.proofs.Over.{Any}
use Rattle.law_emitted.proofs.Called.{IsOwn}
use Rattle.law_emitted.proofs.Actuals.{plain_terms, plain_apart, given_vars, given_terms, given_apart, named_back, Fits, plain_fit, shadow_fit}
use Rattle.law_emitted.proofs.Sources.{UnitSound}
use Rattle.law_emitted.proofs.UnitFaults.{flat_none, if_none}
use Rattle.law_emitted.proofs.NameFaults.{NamesSound, all_names_sound}
use Rattle.law_emitted.proofs.CallFaults.{all_known, all_there}
use Rattle.law_tangent.proofs.Fitting.{dummies_in, dummies_are}
use Rattle.law_tangent.proofs.FoundUnits.{tangent_found, still_found}
use Rattle.law_tangent_carried.specs.Emitted.{CallsHaveNone}
use Rattle.law_tangent_carried.proofs.Forming.{TakesAct, Takes}
use Rattle.law_tangent_carried.proofs.Written.{takes_any}
use Rattle.law_tangent_carried.proofs.EmittedUnits.{for_head, tangent_of, each_emitted}
use Rattle.law_tangent_carried.proofs.EmittedCalls.{still_common, goes, tangent_calls}
use Rattle.law_tangent_carried.proofs.MadeTangents as made

-- what is asked of a unit of the source
abbrev pub IsSound : List Procedure → Procedure → Type 0
IsSound ps u = UnitSound ps u × NamesSound ps u

module _ (c : Carried) (ps : List Procedure) (head : Procedure) (vars : List Bool) (known : CallUnits ps ps) (sound : Each (IsSound ps) ps) where
  abbrev qs : List Procedure
  qs = emitted_units c ps head vars ps

  -- what a tangent may call, as it is or by its tangent
  abbrev may_call : List ℕ → Bool
  may_call = goes c ps head vars known

  -- ---- the CALLs in the tangent of a unit fit

  module _ (u : Procedure) (s : IsSound ps u) where
    abbrev v : Procedure
    v = tangent_of c ps head vars u

    abbrev C : List ℕ → Terms → Type 0
    C = Fits qs v (naming (made.names c ps head vars u s.0 s.1))

    -- a CALL that is as it was is of a unit that stays
    kept_fits : (name : List ℕ) (args : Terms) (w : Procedure) (given : List (List ℕ)) → find_unit ps name ≡ Some w → are_actuals_for u w w.dummies args ≡ true → args ≡ actuals_named given → AreDistinctNames args → stays c ps head.name name ≡ true → C name args
    kept_fits name args w given found fit is distinct still = record {
      unit = w;
      found = still_found c ps head vars name still (found_there ps name w found).0 ∙ found;
      fit = subst (λ l. are_actuals_for v w w.dummies (rename_terms (naming (made.names c ps head vars u s.0 s.1)) l) ≡ true) (sym is)
          (plain_fit u v (name_in (made.names c ps head vars u s.0 s.1)) (c u.name) (made.plain_rank c ps head vars u s.0 s.1) (made.shadow_rank c ps head vars u s.0 s.1) w w.dummies given (subst (λ l. are_actuals_for u w w.dummies l ≡ true) is fit));
      variables = map plain given;
      are = is ∙ plain_terms given;
      apart = plain_apart given (actuals_apart given (subst AreDistinctNames is distinct));
    }

    -- and any other is of a tangent that is emitted
    tangent_fits : (name : List ℕ) (args : Terms) (w : Procedure) (given : List (List ℕ)) → find_unit ps name ≡ Some w → are_actuals_for u w w.dummies args ≡ true → args ≡ actuals_named given → AreDistinctNames args → has_tangent c ps head.name name ≡ true → AreCarried (c name) (c u.name) (dummies_of ps name) (names_of args) → C (tangent_name ps name) (actuals_in (bindings (c name) (dummies_of ps name) (names_of args)))
    tangent_fits name args w given found fit is distinct has carried =
        subst (C (tangent_name ps name)) ((λ i. with_shadows (c (same i)) (sym dummies i) (sym back i)) ∙ shadows_bound (c name) (dummies_of ps name) (names_of args))
        (subst (λ n. C (tangent_name ps n) (with_shadows (c w.name) w.dummies given)) same its)
      where
        same : w.name ≡ name
        same = (found_there ps name w found).1

        dummies : dummies_of ps name ≡ w.dummies
        dummies = dummies_are ps name ∙ ap dummies_in found

        back : names_of args ≡ given
        back = ap names_of is ∙ named_back given

        carried_given : AreCarried (c w.name) (c u.name) w.dummies given
        carried_given = subst (λ n. AreCarried (c n) (c u.name) w.dummies given) (sym same) (subst (λ ds. AreCarried (c name) (c u.name) ds given) dummies (subst (AreCarried (c name) (c u.name) (dummies_of ps name)) back carried))

        sound_there : IsSound ps w
        sound_there = each_found (IsSound ps) ps sound name w found

        plains : (d : List ℕ) → has_name d w.dummies ≡ true → rank (tangent_of c ps head vars w) d ≡ rank w d
        plains d h = let t = sound_there in ap (rank (tangent_of c ps head vars w)) (sym (made.keeps c ps head vars w t.0 t.1 d (dummy_among w d h))) ∙ made.plain_rank c ps head vars w t.0 t.1 d

        its : C (tangent_name ps w.name) (with_shadows (c w.name) w.dummies given)
        its = record {
          unit = tangent_of c ps head vars w;
          found = tangent_found c ps head vars name w found has;
          fit = let t = sound_there in
              shadow_fit u v (name_in (made.names c ps head vars u s.0 s.1)) (c u.name) (made.plain_rank c ps head vars u s.0 s.1) (made.shadow_rank c ps head vars u s.0 s.1) w (tangent_of c ps head vars w) (c w.name) (made.names c ps head vars w t.0 t.1) plains (made.shadow_rank c ps head vars w t.0 t.1) w.dummies given (λ d h. h) (subst (λ l. are_actuals_for u w w.dummies l ≡ true) is fit) carried_given;
          variables = given_vars (c w.name) w.dummies given;
          are = given_terms (c w.name) w.dummies given;
          apart = given_apart (c w.name) w.dummies given (actuals_apart given (subst AreDistinctNames is distinct));
        }

    mutual
      fits_act : (line : ℕ) (a : Act) → CallHasNone ps u (line, a) → Each (CallHasNone ps u) (inner a) → IsWrittenAct a → IsKernelAct a → CallsInside' may_call a → TakesAct Any (plan_in c ps u.name) a → TakesAct C (plan_in c ps u.name) a
      fits_act line (assign x subs e) h inside w k i t = tt
      fits_act line (choose q a b) h inside w k i t = (fits_list a (each_front (CallHasNone ps u) (statements a) (statements b) inside) w.1 k.0 i.0 t.0, fits_list b (each_behind (CallHasNone ps u) (statements a) (statements b) inside) w.2 k.1 i.1 t.1)
      fits_act line (loop x first last by body m) h inside w k i t = fits_list body inside w.4 k.1 i t
      fits_act line (during q body) h inside w k i t = fits_list body inside w.1 k i t
      fits_act line (call name args) h inside w k i t =
          let o = call_of_unit ps u line name args h in
          let given = actuals_given args k w.1 in
          let by = λ (b : Bool). if b then has_tangent c ps head.name name else stays c ps head.name name in (
            λ e. let its = t.0 e in (its.0, (its.1.0, (its.1.1.0, tangent_fits name args o.unit given.0 o.found o.fit given.1 k (sym (ap by e) ∙ i) its.1.1.0))),
            λ e. kept_fits name args o.unit given.0 o.found o.fit given.1 k (sym (ap by e) ∙ i),
          )
      fits_act line (runtime r) h inside w k i t = absurd k

      fits_list : (l : Code) → Each (CallHasNone ps u) (statements l) → IsWrittenCode l → IsKernelCode l → CallsInside may_call l → Takes Any (plan_in c ps u.name) l → Takes C (plan_in c ps u.name) l
      fits_list stop h w k i t = tt
      fits_list (step line a rest) h w k i t = (fits_act line a h.0 (each_front (CallHasNone ps u) (inner a) (statements rest) h.1) w.0 k.0 i.0 t.0, fits_list rest (each_behind (CallHasNone ps u) (inner a) (statements rest) h.1) w.1 k.1 i.1 t.1)

    module _ (found : find_unit ps u.name ≡ Some u) (has : has_tangent c ps head.name u.name ≡ true) (any : Takes Any (plan_in c ps u.name) u.body) where
      all_fit : Takes C (plan_in c ps u.name) u.body
      all_fit = let sound_here = s.0 in let written = sound_here.written in fits_list u.body sound_here.calls written.body sound_here.kernel (tangent_calls c ps head vars known u.name u found has) any

      -- each statement of it has what CALLs that fit, and calls of the runtime with arrays, have
      statements_have : (G : At Act → Type 0) → ((line : ℕ) (act : Act) → IsOwn act → G (line, act)) → ((line : ℕ) (other : List ℕ) (args : Terms) → is_runtime other ≡ false → C other args → G (line, call other (rename_terms (naming (made.names c ps head vars u s.0 s.1)) args))) →
          ((line : ℕ) (r : Runtime) → Each (λ x. (variable_rank (tangent_of c ps head vars u) x == 0) ≡ false) (array_arguments r) → G (line, runtime r)) → Each G (statements (tangent_of c ps head vars u).body)
      statements_have G own of_call ran = made.statements_have c ps head vars u s.0 s.1 C all_fit G own of_call ran

      -- ---- no faults of calls

      tangent_none : flat_map (λ t. faults_of_call qs v t.0 t.1) (statements (tangent_of c ps head vars u).body) ≡ []
      tangent_none = flat_none (λ t. faults_of_call qs v t.0 t.1) (statements (tangent_of c ps head vars u).body) (statements_have (λ t. faults_of_call qs v t.0 t.1 ≡ []) own of_call ran)
        where
          own : (line : ℕ) (act : Act) → IsOwn act → faults_of_call qs v line act ≡ []
          own line (assign x l e) o = refl
          own line (choose q a b) o = refl
          own line (loop x a b q body m) o = refl
          own line (during q body) o = refl
          own line (call name args) o = absurd o
          own line (runtime r) o = absurd o

          of_call : (line : ℕ) (other : List ℕ) (args : Terms) → is_runtime other ≡ false → C other args → faults_of_call qs v line (call other (rename_terms (naming (made.names c ps head vars u s.0 s.1)) args)) ≡ []
          of_call line other args r f =
              ap (λ b. if b then fault 15 line ∷ [] else faults_of_unit_call v (find_unit qs other) line (rename_terms (naming (made.names c ps head vars u s.0 s.1)) args)) r
              ∙ ap (λ o. faults_of_unit_call v o line (rename_terms (naming (made.names c ps head vars u s.0 s.1)) args)) f.found
              ∙ if_none (not (are_actuals_for v f.unit f.unit.dummies (rename_terms (naming (made.names c ps head vars u s.0 s.1)) args))) (fault 15 line) (ap not f.fit)

          ran : (line : ℕ) (r : Runtime) → Each (λ x. (variable_rank v x == 0) ≡ false) (array_arguments r) → faults_of_call qs v line (runtime r) ≡ []
          ran line r h = flat_none (λ x. faults_if (variable_rank v x == 0) (fault 15 line)) (array_arguments r) (each_more (λ x. (variable_rank v x == 0) ≡ false) (λ x. faults_if (variable_rank v x == 0) (fault 15 line) ≡ []) (λ x k. if_none (variable_rank v x == 0) (fault 15 line) k) (array_arguments r) h)

  -- ---- units that stay

  -- what they call is there as it was
  mutual
    still_act : (u : Procedure) (line : ℕ) (a : Act) → CallsInside' (stays c ps head.name) a → Each (CallHasNone ps u) ((line, a) ∷ inner a) → Each (CallHasNone qs u) ((line, a) ∷ inner a)
    still_act u line (assign x subs e) k h = (refl, tt)
    still_act u line (choose q a b) k h = (refl, each_append (CallHasNone qs u) (statements a) (statements b) (still_code u a k.0 (each_front (CallHasNone ps u) (statements a) (statements b) h.1)) (still_code u b k.1 (each_behind (CallHasNone ps u) (statements a) (statements b) h.1)))
    still_act u line (loop x a b q body m) k h = (refl, still_code u body k h.1)
    still_act u line (during q body) k h = (refl, still_code u body k h.1)
    still_act u line (call name args) k h =
        let o = call_of_unit ps u line name args h.0 in
        let same : find_unit qs name ≡ find_unit ps name = still_found c ps head vars name k (found_there ps name o.unit o.found).0 in
        (ap (λ f. if is_runtime name then fault 15 line ∷ [] else faults_of_unit_call u f line args) same ∙ h.0, tt)
    still_act u line (runtime r) k h = h

    still_code : (u : Procedure) (l : Code) → CallsInside (stays c ps head.name) l → Each (CallHasNone ps u) (statements l) → Each (CallHasNone qs u) (statements l)
    still_code u stop k h = tt
    still_code u (step line a rest) k h =
        let here = still_act u line a k.0 (h.0, each_front (CallHasNone ps u) (inner a) (statements rest) h.1) in
        (here.0, each_append (CallHasNone qs u) (inner a) (statements rest) here.1 (still_code u rest k.1 (each_behind (CallHasNone ps u) (inner a) (statements rest) h.1)))

  still_none : (u : Procedure) → find_unit ps u.name ≡ Some u → IsSound ps u → stays c ps head.name u.name ≡ true → flat_map (λ t. faults_of_call qs u t.0 t.1) (statements u.body) ≡ []
  still_none u found s h = let sound_here = s.0 in let common = still_common c ps head vars known in flat_none (λ t. faults_of_call qs u t.0 t.1) (statements u.body) (still_code u u.body (common.closed u.name u h found) sound_here.calls)

-- ---- the law

module _ (rules : Rules) (k : Problem) (checked : IsChecked rules k.units) (f on : ℕ → Vars) (is : IsCarrying k f on) (top : Procedure) (at : unit_at k.head k.units ≡ top ∷ []) where
  abbrev its : Carried
  its = carried_by k.units on

  abbrev IsKnown : Procedure → Type 0
  IsKnown u = Found k.units u × IsSound k.units u

  both : Each (λ u. Found k.units u × IsSound k.units u) k.units
  both = each_both (Found k.units) (IsSound k.units) k.units (all_there rules k.units checked) (all_names_sound rules k.units checked)

  emitted_none : call_faults (emitted_units its k.units top k.vars k.units) ≡ []
  emitted_none =
      let qs = emitted_units its k.units top k.vars k.units in
      flat_none (λ u. flat_map (λ t. faults_of_call qs u t.0 t.1) (statements u.body)) qs
      (each_emitted its k.units top k.vars (λ u. flat_map (λ t. faults_of_call qs u t.0 t.1) (statements u.body) ≡ []) k.units
      (each_more IsKnown (λ u. stays its k.units top.name u.name ≡ true → flat_map (λ t. faults_of_call qs u t.0 t.1) (statements u.body) ≡ [])
      (λ u i h. still_none its k.units top k.vars (all_known rules k.units checked) (all_names_sound rules k.units checked) u i.0.0 i.1 h) k.units both)
      (each_more IsKnown (λ u. has_tangent its k.units top.name u.name ≡ true → flat_map (λ t. faults_of_call qs (tangent_of its k.units top k.vars u) t.0 t.1) (statements (tangent_of its k.units top k.vars u).body) ≡ [])
      (λ u i h. tangent_none its k.units top k.vars (all_known rules k.units checked) (all_names_sound rules k.units checked) u i.1 i.0.0 h (takes_any rules k checked f on is top at u i.0 i.1.0 h)) k.units both))

pub calls_have_none : CallsHaveNone
calls_have_none rules k checked f on is = for_head (λ qs. call_faults qs ≡ []) (carried_by k.units on) k.units k.head k.vars refl (λ u at. emitted_none rules k checked f on is u at)
