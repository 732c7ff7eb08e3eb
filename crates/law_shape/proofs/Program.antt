-- A program that is emitted by closed marks has its shape.
use Rattle.std.proofs.Common.{◌≡◌, ℕ, zero, suc, Bool, true, false, List, [], ◌∷◌, ◌++◌, map, refl, sym, ap, ◌∙◌, subst, if◌then◌else◌}
use Rattle.std.specs.Prelude.{◌||◌, ◌&&◌, not, length, flat_map, Some}
use Rattle.adj_tree.specs.Code.{name_eq, Procedure}
use Rattle.adj_tree.specs.Lines.{unlined_procedure, unlined}
use Rattle.def_meaning.specs.Written.{find_unit}
use Rattle.def_names.specs.Fault.{Rules}
use Rattle.def_meaning.specs.Apart.{has_name}
use Rattle.def_names.proofs.Variables.{or_left, or_right}
use Rattle.def_sweep.specs.Names.{adjoint_name, forth_name, back_name}
use Rattle.def_sweep.specs.Marking.{ProgramMarks, first_statement}
use Rattle.def_sweep.specs.Plan.{Schedules}
use Rattle.def_sweep.specs.Program.{calls_in, calls_some, turns_in, turns_some, reached_after, has_adjoint, has_pair, kept_calls, is_kept_with, is_carried_with, all_units, forth_unit, back_unit, emitted_adjoint_with, emitted_units_with, emitted_for_with, schedules_in}
use Rattle.law_sweep.specs.Source.{is_unit, CallUnits}
use Rattle.law_sweep.proofs.UnitLists.{found_there}
use Rattle.law_sweep.proofs.EmittedUnits.{carried_found, adjoint_found, forth_found, back_found, carried_common, some_there}
use Rattle.law_sweep.proofs.Names.{has-append}
use Rattle.law_sweep.proofs.Rounds.{either}
use Rattle.law_emitted.specs.Checked.{IsChecked}
use Rattle.law_emitted.proofs.Callings.{Found}
use Rattle.law_emitted.proofs.Lists.{Each, each_more}
use Rattle.law_emitted.proofs.Premises.{units_apart, found, all_calls, calls_known}
use Rattle.law_emitted.specs.Splits.{AllMaySplit}
use Rattle.law_emitted.proofs.Carried.{kept_carried, all_carried, turned_carried}
use Rattle.law_emitted.proofs.Makings.{Making, as_adjoint, as_forth, as_back, is_made, its_plan, made}
use Rattle.law_emitted.proofs.UnitFaults.{OfMade, each_emitted}
use Rattle.def_adjoint.specs.Shape.{gathered, called, cleared_dummies, IsAdjointUnit, is_called, IsShaped}
use Rattle.law_shape.specs.Closed.{IsClosed, AreClosed}
use Rattle.law_shape.specs.Laws.{EmittedHasShape}
use Rattle.law_shape.proofs.Calls.{all_code, within_code, some_calls, some_turns, turned_there, caller, reached_in}
use Rattle.law_shape.proofs.Analysed.{throughout}
use Rattle.law_shape.proofs.Swept.{named_there}
use Rattle.law_shape.proofs.Adjoint.{its_called, its_calls_are, adjoint_same, made_shaped, forth_shaped, back_shaped}

-- truth values that imply each other
same_truth : (a b : Bool) → (a ≡ true → b ≡ true) → (b ≡ true → a ≡ true) → a ≡ b
same_truth true b f g = sym (f refl)
same_truth false true f g = g refl
same_truth false false f g = refl

-- the calls of a unit
abbrev calls_of : Procedure → List (List ℕ)
calls_of v = gathered called v.body

-- what is called by a unit of a list is called
called_found : (x : List ℕ) (us : List Procedure) (name : List ℕ) (v : Procedure) → find_unit us name ≡ Some v → has_name x (calls_of (unlined_procedure v)) ≡ true → is_called (map unlined_procedure us) x ≡ true
called_found x [] name v f h = absurd cc
called_found x (w ∷ us) name v f h = has-append x (calls_of (unlined_procedure w)) (flat_map (λ v. gathered called v.body) (map unlined_procedure us)) ∙ go (name_eq w.name name) f (λ g. called_found x us name v g h)
  where
    later : Bool
    later = is_called (map unlined_procedure us) x

    go : (b : Bool) → (if b then Some w else find_unit us name) ≡ Some v → (find_unit us name ≡ Some v → later ≡ true) → (has_name x (calls_of (unlined_procedure w)) || later) ≡ true
    go true f ih = let same : w ≡ v = cc in or_left (has_name x (calls_of (unlined_procedure w))) later (ap (λ z. has_name x (calls_of (unlined_procedure z))) same ∙ h)
    go false f ih = or_right (has_name x (calls_of (unlined_procedure w))) later (ih f)

-- and only that
called_each : (x : List ℕ) (good : Bool) (us : List Procedure) → Each (λ v. has_name x (calls_of (unlined_procedure v)) ≡ true → good ≡ true) us → is_called (map unlined_procedure us) x ≡ true → good ≡ true
called_each x good [] e h = absurd cc
called_each x good (v ∷ us) e h =
    either (has_name x (calls_of (unlined_procedure v))) (is_called (map unlined_procedure us) x) good (sym (has-append x (calls_of (unlined_procedure v)) (flat_map (λ v. gathered called v.body) (map unlined_procedure us))) ∙ h) e.0 (called_each x good us e.1)

module _ (sb : Bool) (rules : Rules) (ps : List Procedure) (checked : IsChecked rules ps) (m : ProgramMarks) (may : AllMaySplit sb m ps ps) (head : Procedure) (vars outvars : List Bool) (closed : AreClosed m ps head) where
  abbrev made_units : List Procedure
  made_units = emitted_units_with sb m ps head vars outvars ps

  known : CallUnits ps ps
  known = calls_known ps ps (all_calls rules ps checked)

  abbrev sc : Schedules
  sc = schedules_in sb ps

  -- the marks of what is made are closed: a forward and a backward unit keep everything
  made_closed : (u : Procedure) → find_unit ps u.name ≡ Some u → (k : Making) → is_made m ps head u k ≡ true → IsClosed (its_plan m ps u k).marks (first_statement ps u.name) u.body
  made_closed u f (as_adjoint at_turn at_end) there = closed u f there
  made_closed u f as_forth there = throughout (its_plan m ps u as_forth).marks (λ i. refl) (first_statement ps u.name) u.body
  made_closed u f as_back there = throughout (its_plan m ps u as_back).marks (λ i. refl) (first_statement ps u.name) u.body

  -- the units of the kernel that what is made of a unit calls
  calls_are : (u : Procedure) (f : find_unit ps u.name ≡ Some u) (k : Making) → is_made m ps head u k ≡ true → (x : List ℕ) → is_unit ps x ≡ true → has_name x (calls_of (unlined_procedure (made sb m ps (all_units m ps head) u k))) ≡ its_called sb rules ps checked m may head u f k x
  calls_are u f k there x t = its_calls_are sb rules ps checked m may head u f k (made_closed u f k there) x (named_there ps x t)

  -- ---- what is called is carried

  carried_by_carried : (x : List ℕ) (u : Procedure) → Found ps u → is_carried_with sb m ps head u.name ≡ true → has_name x (calls_of (unlined_procedure u)) ≡ true → is_carried_with sb m ps head x ≡ true
  carried_by_carried x u f c h =
      let common = carried_common sb m ps head vars outvars known in
      within_code x (is_carried_with sb m ps head) 0 u.body (common.closed u.name u c f.0) (sym (all_code x 0 u.body) ∙ h)

  its_carried : (x : List ℕ) (u : Procedure) (f : find_unit ps u.name ≡ Some u) (k : Making) → is_made m ps head u k ≡ true → its_called sb rules ps checked m may head u f k x ≡ true → is_carried_with sb m ps head x ≡ true
  its_carried x u f (as_adjoint at_turn at_end) there h =
      either (calls_in (λ j. m.kept j && not (m.split j)) x (first_statement ps u.name) u.body) (turns_in sc m.adjointed x (first_statement ps u.name) u.body) (is_carried_with sb m ps head x) h
      (kept_carried sb m ps head u f there x) (turned_carried sb m ps head u f (or_left (has_adjoint m ps head u.name) (has_pair m ps head u.name) there) x)
  its_carried x u f as_forth there h = all_carried sb m ps head u f there x h
  its_carried x u f as_back there h = turned_carried sb m ps head u f (or_right (has_adjoint m ps head u.name) (has_pair m ps head u.name) there) x h

  carried_by_made : (x : List ℕ) → is_unit ps x ≡ true → (u : Procedure) → Found ps u → OfMade sb m ps head vars outvars (λ v. has_name x (calls_of (unlined_procedure v)) ≡ true → is_carried_with sb m ps head x ≡ true) u
  carried_by_made x t u f k clears there h = its_carried x u f.0 k there (sym (calls_are u f.0 k there x t) ∙ h)

  is_called_carried : (x : List ℕ) → is_unit ps x ≡ true → is_called (map unlined_procedure made_units) x ≡ true → is_carried_with sb m ps head x ≡ true
  is_called_carried x there =
      called_each x (is_carried_with sb m ps head x) made_units
      (each_emitted sb m ps head vars outvars (λ v. has_name x (calls_of (unlined_procedure v)) ≡ true → is_carried_with sb m ps head x ≡ true) ps
      (each_more (Found ps) (λ u. is_carried_with sb m ps head u.name ≡ true → has_name x (calls_of (unlined_procedure u)) ≡ true → is_carried_with sb m ps head x ≡ true) (carried_by_carried x) ps (found rules ps checked))
      (each_more (Found ps) (OfMade sb m ps head vars outvars (λ v. has_name x (calls_of (unlined_procedure v)) ≡ true → is_carried_with sb m ps head x ≡ true)) (carried_by_made x there) ps (found rules ps checked)))

  -- ---- what is carried is called

  -- what is made of a unit is there, and calls what it calls
  by_made : (x : List ℕ) → is_unit ps x ≡ true → (u : Procedure) (f : find_unit ps u.name ≡ Some u) (k : Making) → is_made m ps head u k ≡ true → (name : List ℕ) → find_unit made_units name ≡ Some (made sb m ps (all_units m ps head) u k) → its_called sb rules ps checked m may head u f k x ≡ true → is_called (map unlined_procedure made_units) x ≡ true
  by_made x t u f k there name stands h = called_found x made_units name (made sb m ps (all_units m ps head) u k) stands (calls_are u f k there x t ∙ h)

  abbrev adjoint_of : Procedure → Making
  adjoint_of u = as_adjoint (cleared_dummies m head u outvars) (cleared_dummies m head u vars)

  by_adjoint : (x : List ℕ) → is_unit ps x ≡ true → (u : Procedure) (f : find_unit ps u.name ≡ Some u) → has_adjoint m ps head u.name ≡ true → its_called sb rules ps checked m may head u f (as_adjoint (cleared_dummies m head u outvars) (cleared_dummies m head u vars)) x ≡ true → is_called (map unlined_procedure made_units) x ≡ true
  by_adjoint x t u f a h =
      by_made x t u f (adjoint_of u) a (adjoint_name ps u) (adjoint_found sb m ps head vars outvars u.name u f a ∙ ap Some (adjoint_same sb rules ps checked m may head u f vars outvars)) h

  by_forth : (x : List ℕ) → is_unit ps x ≡ true → (u : Procedure) (f : find_unit ps u.name ≡ Some u) → has_pair m ps head u.name ≡ true → its_called sb rules ps checked m may head u f as_forth x ≡ true → is_called (map unlined_procedure made_units) x ≡ true
  by_forth x t u f a h = by_made x t u f as_forth a (forth_name ps u) (forth_found sb m ps head vars outvars u.name u f a) h

  by_back : (x : List ℕ) → is_unit ps x ≡ true → (u : Procedure) (f : find_unit ps u.name ≡ Some u) → has_pair m ps head u.name ≡ true → its_called sb rules ps checked m may head u f as_back x ≡ true → is_called (map unlined_procedure made_units) x ≡ true
  by_back x t u f a h = by_made x t u f as_back a (back_name ps u) (back_found sb m ps head vars outvars u.name u f a) h

  -- a kept call of an adjoint that isn't split
  abbrev plainly : ℕ → Bool
  plainly j = m.kept j && not (m.split j)

  abbrev unsplit : ℕ → Bool
  unsplit j = not (m.split j)

  abbrev have_sweeps : List ℕ → Bool
  have_sweeps n = has_adjoint m ps head n || has_pair m ps head n

  kept_known : (x : List ℕ) → calls_some (has_adjoint m ps head) plainly x 0 ps ≡ true → is_called (map unlined_procedure made_units) x ≡ true
  kept_known x h =
      let c = caller (has_adjoint m ps head) (calls_in plainly x) 0 ps (units_apart rules ps checked) (sym (some_calls (has_adjoint m ps head) plainly x 0 ps) ∙ h) in
      by_adjoint x (some_there ps ps known (has_adjoint m ps head) plainly x 0 h) c.unit c.found c.inside (or_left (calls_in plainly x (first_statement ps c.unit.name) c.unit.body) (turns_in sc m.adjointed x (first_statement ps c.unit.name) c.unit.body) c.calling)

  -- a call of a forward unit that isn't split
  all_known : (x : List ℕ) → calls_some (has_pair m ps head) unsplit x 0 ps ≡ true → is_called (map unlined_procedure made_units) x ≡ true
  all_known x h =
      let c = caller (has_pair m ps head) (calls_in unsplit x) 0 ps (units_apart rules ps checked) (sym (some_calls (has_pair m ps head) unsplit x 0 ps) ∙ h) in
      by_forth x (some_there ps ps known (has_pair m ps head) unsplit x 0 h) c.unit c.found c.inside c.calling

  -- a unit that a reversal turns
  turned_known : (x : List ℕ) → turns_some sc have_sweeps m.adjointed x 0 ps ≡ true → is_called (map unlined_procedure made_units) x ≡ true
  turned_known x h =
      let t = turned_there x ps ps known sc have_sweeps m.adjointed 0 h in
      let c = caller have_sweeps (turns_in sc m.adjointed x) 0 ps (units_apart rules ps checked) (sym (some_turns sc have_sweeps m.adjointed x 0 ps) ∙ h) in
      either (has_adjoint m ps head c.unit.name) (has_pair m ps head c.unit.name) (is_called (map unlined_procedure made_units) x) c.inside
      (λ a. by_adjoint x t c.unit c.found a (or_right (calls_in plainly x (first_statement ps c.unit.name) c.unit.body) (turns_in sc m.adjointed x (first_statement ps c.unit.name) c.unit.body) c.calling)) (λ a. by_back x t c.unit c.found a c.calling)

  plain_known : (x : List ℕ) → kept_calls m ps head x ≡ true → is_called (map unlined_procedure made_units) x ≡ true
  plain_known x h = either (calls_some (has_adjoint m ps head) plainly x 0 ps) (calls_some (has_pair m ps head) unsplit x 0 ps) (is_called (map unlined_procedure made_units) x) h (kept_known x) (all_known x)

  by_sweeps : (x : List ℕ) → is_kept_with sb m ps head x ≡ true → is_called (map unlined_procedure made_units) x ≡ true
  by_sweeps x h = go sb (turned_known x) h
    where
      called_so : Bool
      called_so = is_called (map unlined_procedure made_units) x

      go : (b : Bool) → (turns_some (schedules_in b ps) have_sweeps m.adjointed x 0 ps ≡ true → called_so ≡ true) → is_kept_with b m ps head x ≡ true → called_so ≡ true
      go false g h = plain_known x h
      go true g h = either (kept_calls m ps head x) (turns_some (schedules_in true ps) have_sweeps m.adjointed x 0 ps) called_so h (plain_known x) g

  kept_there : (x : List ℕ) → is_kept_with sb m ps head x ≡ true → is_unit ps x ≡ true
  kept_there x h = go sb h
    where
      plain_there : kept_calls m ps head x ≡ true → is_unit ps x ≡ true
      plain_there h =
          either (calls_some (has_adjoint m ps head) plainly x 0 ps) (calls_some (has_pair m ps head) unsplit x 0 ps) (is_unit ps x) h (some_there ps ps known (has_adjoint m ps head) plainly x 0) (some_there ps ps known (has_pair m ps head) unsplit x 0)

      go : (b : Bool) → is_kept_with b m ps head x ≡ true → is_unit ps x ≡ true
      go false h = plain_there h
      go true h = either (kept_calls m ps head x) (turns_some (schedules_in true ps) have_sweeps m.adjointed x 0 ps) (is_unit ps x) h plain_there (turned_there x ps ps known (schedules_in true ps) have_sweeps m.adjointed 0)

  by_carried : (k : ℕ) (x : List ℕ) → calls_some (reached_after (is_kept_with sb m ps head) (λ i. true) ps k) (λ i. true) x 0 ps ≡ true → is_called (map unlined_procedure made_units) x ≡ true
  by_carried k x h =
      let among = reached_after (is_kept_with sb m ps head) (λ i. true) ps k in
      let c = caller among (calls_in (λ i. true) x) 0 ps (units_apart rules ps checked) (sym (some_calls among (λ i. true) x 0 ps) ∙ h) in
      let carried : is_carried_with sb m ps head c.unit.name ≡ true = reached_in (is_kept_with sb m ps head) (λ i. true) ps kept_there known k c.unit.name c.inside in
      called_found x made_units c.unit.name c.unit (carried_found sb m ps head vars outvars c.unit.name carried (found_there ps c.unit.name c.unit c.found).0 ∙ c.found)
      (all_code x (first_statement ps c.unit.name) c.unit.body ∙ c.calling)

  carried_is_called : (k : ℕ) (x : List ℕ) → reached_after (is_kept_with sb m ps head) (λ i. true) ps k x ≡ true → is_called (map unlined_procedure made_units) x ≡ true
  carried_is_called zero x h = absurd cc
  carried_is_called (suc k) x h = either (is_kept_with sb m ps head x) (calls_some (reached_after (is_kept_with sb m ps head) (λ i. true) ps k) (λ i. true) x 0 ps) (is_called (map unlined_procedure made_units) x) h (by_sweeps x) (by_carried k x)

  called_same : (u : Procedure) → Found ps u → is_called (unlined made_units) u.name ≡ is_carried_with sb m ps head u.name
  called_same u f = same_truth (is_called (unlined made_units) u.name) (is_carried_with sb m ps head u.name) (is_called_carried u.name (found_there ps u.name u f.0).0) (carried_is_called (length ps) u.name)

  -- ---- the units

  units_are : (us : List Procedure) → Each (Found ps) us → unlined (emitted_units_with sb m ps head vars outvars us) ≡
      flat_map
      (λ u. (if is_called (unlined made_units) u.name then unlined_procedure u ∷ [] else [])
      ++ ((if has_adjoint m ps head u.name then unlined_procedure (emitted_adjoint_with sb m ps head vars outvars u) ∷ [] else [])
      ++ (if has_pair m ps head u.name then unlined_procedure (forth_unit sb m ps (all_units m ps head) u) ∷ unlined_procedure (back_unit sb m ps (all_units m ps head) u) ∷ [] else []))) us
  units_are [] f = refl
  units_are (u ∷ us) f = go (is_carried_with sb m ps head u.name) (has_adjoint m ps head u.name) (has_pair m ps head u.name) ∙ (λ j. ((if sym (called_same u f.0) j then unlined_procedure u ∷ [] else []) ++ others) ++ units_are us f.1 j)
    where
      rest : List Procedure
      rest = emitted_units_with sb m ps head vars outvars us

      adjoint : Procedure
      adjoint = emitted_adjoint_with sb m ps head vars outvars u

      forth : Procedure
      forth = forth_unit sb m ps (all_units m ps head) u

      back : Procedure
      back = back_unit sb m ps (all_units m ps head) u

      others : List Procedure
      others = (if has_adjoint m ps head u.name then unlined_procedure adjoint ∷ [] else []) ++ (if has_pair m ps head u.name then unlined_procedure forth ∷ unlined_procedure back ∷ [] else [])

      go : (b c d : Bool) → map unlined_procedure (((if b then u ∷ [] else []) ++ ((if c then adjoint ∷ [] else []) ++ (if d then forth ∷ back ∷ [] else []))) ++ rest) ≡
          ((if b then unlined_procedure u ∷ [] else []) ++ ((if c then unlined_procedure adjoint ∷ [] else []) ++ (if d then unlined_procedure forth ∷ unlined_procedure back ∷ [] else []))) ++ map unlined_procedure rest
      go true true true = refl
      go true true false = refl
      go true false true = refl
      go true false false = refl
      go false true true = refl
      go false true false = refl
      go false false true = refl
      go false false false = refl

  adjoint_shaped : (u : Procedure) → find_unit ps u.name ≡ Some u → has_adjoint m ps head u.name ≡ true → IsAdjointUnit sb m ps head vars outvars u (unlined_procedure (emitted_adjoint_with sb m ps head vars outvars u))
  adjoint_shaped u f a =
      subst (λ v. IsAdjointUnit sb m ps head vars outvars u (unlined_procedure v)) (sym (adjoint_same sb rules ps checked m may head u f vars outvars))
      (made_shaped sb rules ps checked m may head u f (cleared_dummies m head u outvars) (cleared_dummies m head u vars) (closed u f a) vars outvars refl refl)

  emitted_shaped : IsShaped sb m ps head vars outvars (unlined made_units)
  emitted_shaped = record {
    made = λ u. unlined_procedure (emitted_adjoint_with sb m ps head vars outvars u);
    forth = λ u. unlined_procedure (forth_unit sb m ps (all_units m ps head) u);
    back = λ u. unlined_procedure (back_unit sb m ps (all_units m ps head) u);
    units = units_are ps (found rules ps checked);
    adjoints = adjoint_shaped;
    pairs = λ u f a. (forth_shaped sb rules ps checked m may head u f (made_closed u f as_forth a), back_shaped sb rules ps checked m may head u f (made_closed u f as_back a));
  }

pub emitted_has_shape : EmittedHasShape
emitted_has_shape sb rules ps checked m may head vars outvars u at closed qs same =
    subst (IsShaped sb m ps u vars outvars) (ap (λ us. unlined (emitted_for_with sb m ps vars outvars us)) (sym at) ∙ same) (emitted_shaped sb rules ps checked m may u vars outvars closed)
