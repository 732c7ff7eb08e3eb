-- The sweeps of a unit that is made look as they should, whichever unit it is.
use Rattle.std.proofs.Common.{◌≡◌, ℕ, suc, Bool, true, false, List, [], ◌∷◌, map, refl, sym, ap, ◌∙◌, subst, if◌then◌else◌}
use Rattle.std.specs.Prelude.{◌||◌, ◌&&◌, not, flat_map, Some, None}
use Rattle.std.specs.List.{list_any}
use Rattle.adj_tree.specs.Code.{Role, Var, plain, helper, name_eq, var_eq, call, Procedure}
use Rattle.adj_tree.proofs.Names.{name_refl, name_same}
use Rattle.def_text.specs.Written.{IsWrittenProcedure}
use Rattle.law_meaning.specs.Common.{CallsInside}
use Rattle.def_meaning.specs.Written.{find_unit}
use Rattle.def_meaning.specs.Apart.{has_name}
use Rattle.def_names.specs.Fault.{Rules}
use Rattle.def_names.specs.Numbers.{Vars}
use Rattle.def_names.specs.Variables.{variables}
use Rattle.def_names.proofs.Variables.{or_false, or_left, or_right, has_apart}
use Rattle.def_sweep.specs.Declared.{unit_name}
use Rattle.def_sweep.specs.Emission.{forward_with, backward_with}
use Rattle.def_sweep.specs.Marking.{ProgramMarks, first_statement, callee_of, callee_in}
use Rattle.def_sweep.specs.Naming.{adjoint_text, Named, name_in, naming}
use Rattle.def_sweep.specs.Plan.{Callee, Plan, Schedules}
use Rattle.def_sweep.specs.Program.{calls_in, turns_in, all_units, schedules_in}
use Rattle.law_sweep.specs.Source.{is_unit}
use Rattle.law_sweep.proofs.UnitLists.{found_there}
use Rattle.law_sweep.proofs.Names.{has-append}
use Rattle.law_emitted.specs.Checked.{IsChecked}
use Rattle.law_emitted.specs.Splits.{MaySplit, AllMaySplit}
use Rattle.law_emitted.proofs.CallFaults.{splits_each}
use Rattle.law_emitted.proofs.CheckedUnits.{names_known}
use Rattle.law_emitted.proofs.Lists.{each_found}
use Rattle.law_emitted.proofs.MakingFaults as of_making
use Rattle.law_emitted.proofs.MakingNames.{its_free}
use Rattle.law_emitted.proofs.Makings.{Making, as_adjoint, as_forth, as_back, its_name, its_shadows, its_plan, its_helpers}
use Rattle.law_emitted.proofs.NameFaults.{NamesSound, all_names_sound}
use Rattle.law_emitted.proofs.Over.{OverCode, Any}
use Rattle.law_emitted.proofs.Source.{source_code}
use Rattle.law_emitted.proofs.Sources.{UnitSound}
use Rattle.law_emitted.proofs.Statements.{calls_inside}
use Rattle.law_emitted.proofs.Tables.{table_for}
use Rattle.law_emitted.proofs.Texts.{Known}
use Rattle.def_adjoint.specs.Shape.{gathered, is_own, own_call, primal, kept_of, pushed, due, due_turns, turned, called, deeds, deeds_back, done_list, IsForward, IsBackward, is_among}
use Rattle.law_shape.specs.Closed.{IsClosed}
use Rattle.law_shape.proofs.Gathered.{seen, due_code, from_statements}
use Rattle.law_shape.proofs.Forward.{OwnVar, NoArray, code_taken}
use Rattle.law_shape.proofs.Calls.{chosen_code}
use Rattle.law_shape.proofs.Naming as naming_facts
use Rattle.law_shape.proofs.Rows.{kept_turns, kept_rows, due_rows, called_rows, numbered_code, named_again}
use Rattle.law_shape.proofs.Sparing.{forward_sparing}
use Rattle.law_shape.proofs.Sweeps.{forward_clean, forward_pushes, loops_in, backward_assigns}
use Rattle.law_shape.proofs.Deeds.{calls_unit, code_done, called_code, turned_code}

-- a unit that is there has its name in the list
pub named_there : (us : List Procedure) (x : List ℕ) → is_unit us x ≡ true → has_name x (map unit_name us) ≡ true
named_there [] x h = absurd cc
named_there (u ∷ us) x h = go (name_eq u.name x) refl h (named_there us x)
  where
    go : (b : Bool) → name_eq u.name x ≡ b → (b || is_unit us x) ≡ true → (is_unit us x ≡ true → has_name x (map unit_name us) ≡ true) → (name_eq x u.name || has_name x (map unit_name us)) ≡ true
    go true e h ih = or_left (name_eq x u.name) (has_name x (map unit_name us)) (ap (λ y. name_eq x y) (name_same u.name x e) ∙ name_refl x)
    go false e h ih = or_right (name_eq x u.name) (has_name x (map unit_name us)) (ih h)

-- the names of what is made of a unit that is called are no unit's
abbrev pub MadeApart : List Procedure → Callee → Type 0
MadeApart ps g = (is_among ps g.adjoint ≡ false) × ((is_among ps g.forth ≡ false) × (is_among ps g.back ≡ false))

pub made_apart : (m : ProgramMarks) (ps : List Procedure) (name : List ℕ) → is_unit ps name ≡ true → MadeApart ps (callee_in m ps name)
made_apart m ps name h =
    let t = there ps name h in
    let f = found_there ps name t.0 t.1 in
    let self : is_unit ps t.0.name ≡ true = ap (is_unit ps) f.1 ∙ h in
    subst (λ o. MadeApart ps (callee_of m ps name o)) (sym t.1) (free t.0 (as_adjoint [] []) self, (free t.0 as_forth self, free t.0 as_back self))
  where
    free : (u : Procedure) (k : Making) → is_unit ps u.name ≡ true → is_among ps (its_name ps u k) ≡ false
    free u k self = (or_false (has_name (its_name ps u k) (map unit_name ps)) (has_name (its_name ps u k) (flat_map variables ps)) (sym (has-append (its_name ps u k) (map unit_name ps) (flat_map variables ps)) ∙ its_free ps u k self)).0

    there : (us : List Procedure) (z : List ℕ) → is_unit us z ≡ true → (v : Procedure) × (find_unit us z ≡ Some v)
    there [] z h = absurd cc
    there (u ∷ us) z h = go (name_eq u.name z) h (there us z)
      where
        go : (b : Bool) → (b || is_unit us z) ≡ true → (is_unit us z ≡ true → (v : Procedure) × (find_unit us z ≡ Some v)) → (v : Procedure) × ((if b then Some u else find_unit us z) ≡ Some v)
        go true h ih = (u, refl)
        go false h ih = ih h

module _ (sb : Bool) (rules : Rules) (ps : List Procedure) (checked : IsChecked rules ps) (m : ProgramMarks) (all_may : AllMaySplit sb m ps ps) (head u : Procedure) (found : find_unit ps u.name ≡ Some u) (k : Making) (closed : IsClosed (its_plan m ps u k).marks (first_statement ps u.name) u.body) where
  abbrev p : Plan
  p = its_plan m ps u k

  abbrev i : ℕ
  i = first_statement ps u.name

  abbrev sc : Schedules
  sc = schedules_in sb ps

  -- the names of its variables
  abbrev pub ns : List Named
  ns = table_for adjoint_text (variables u) (all_units m ps head) (its_shadows m u k) (its_helpers sb m ps u k)

  abbrev pub r : Var → Var
  r = naming (table_for adjoint_text (variables u) (all_units m ps head) (its_shadows m u k) (its_helpers sb m ps u k))

  sound : UnitSound ps u × NamesSound ps u
  sound = each_found (λ u. UnitSound ps u × NamesSound ps u) ps (all_names_sound rules ps checked) u.name u found

  may : MaySplit sc m.adjointed m.split i u.body
  may = each_found (λ u. MaySplit (schedules_in sb ps) m.adjointed m.split (first_statement ps u.name) u.body) ps (splits_each sb m ps ps all_may) u.name u found

  pub sep : (v w : Var) → name_eq (name_in ns v) (name_in ns w) ≡ var_eq v w
  sep = of_making.apart sb m ps (all_units m ps head) u sound.0 sound.1 k

  pub keeps : (x : List ℕ) → has_name x (variables u) ≡ true → name_in ns (plain x) ≡ x
  keeps = of_making.keeps sb m ps (all_units m ps head) u sound.0 sound.1 k

  pub own_kept : (v : Var) → is_own u v ≡ true → r v ≡ v
  own_kept v h = naming_facts.own_kept u ns sep keeps v h

  own_same : (v : Var) → is_own u (r v) ≡ is_own u v
  own_same v = naming_facts.own_same u ns sep keeps v

  code : OverCode (OwnVar u) NoArray Any u.body
  code =
      let text : IsWrittenProcedure u = sound.0.written in
      source_code (OwnVar u) NoArray (Known (variables u)) (λ x n k. k) ps u u.body text.body sound.0.kernel (names_known u) sound.0.calls

  inside : CallsInside (is_unit ps) u.body
  inside = calls_inside ps u u.body sound.0.calls

  abbrev counts : Var → Bool
  counts v = list_any (var_eq v) (gathered turned u.body)

  -- ---- forward

  -- the calls of the forward sweep are those that are kept
  forward_calls : gathered called (seen r (forward_with sc p i 0 u.body)) ≡ due_code (λ i a. if p.marks.kept i then called (own_call p i a) else []) i u.body
  forward_calls =
      code_taken called (λ i a. if p.marks.kept i then called (own_call p i a) else []) (λ i s. if p.marks.kept (suc i) then s.name ∷ [] else []) r sc p u (called_rows u r own_kept own_same p) i 0 u.body code closed
      ∙ numbered_code u sc p.marks.adjointed p.marks.split (λ i a. if p.marks.kept i then called (own_call p i a) else []) (λ i s. if p.marks.kept (suc i) then s.name ∷ [] else [])
      (λ i name args read n h d o. sym (ap (λ b. if p.marks.kept (suc i) then called (if b then call (p.callees name).forth args else call name args) else []) h)) i u.body code sound.0.kernel may

  -- of the units of the kernel it calls those that kept calls name that aren't split
  pub forward_called : (x : List ℕ) → is_among ps x ≡ true → has_name x (gathered called (seen r (forward_with sc p i 0 u.body))) ≡ calls_in (λ j. p.marks.kept j && not (p.marks.split j)) x i u.body
  forward_called x h =
      ap (has_name x) forward_calls
      ∙ chosen_code p x (is_unit ps) (λ name t. has_apart x (callee_in m ps name).forth (map unit_name ps) h (made_apart m ps name t).1.0) i u.body inside

  -- its statements are those that stay
  forward_keeps : gathered (primal (is_own u)) (seen r (forward_with sc p i 0 u.body)) ≡ due_code (kept_of p (is_own u)) i u.body
  forward_keeps =
      code_taken (primal (is_own u)) (kept_of p (is_own u)) (kept_turns u r own_kept own_same p) r sc p u (kept_rows u r own_kept own_same p) i 0 u.body code closed
      ∙ numbered_code u sc p.marks.adjointed p.marks.split (kept_of p (is_own u)) (kept_turns u r own_kept own_same p)
      (λ i name args read n h d o. ap (λ es. if p.marks.kept (suc i) then call name es ∷ [] else []) (named_again u args d o) ∙ sym (ap (λ b. if p.marks.kept (suc i) then primal (is_own u) (if b then call (p.callees name).forth args else call name args) else []) h)) i u.body code sound.0.kernel may

  pub forward_shaped : (shadows : Vars) → ((x : List ℕ) → shadows (r (plain x)) ≡ false) → ((o : Role) (n : ℕ) → shadows (r (helper o n)) ≡ false) → IsForward (schedules_in sb ps) (its_plan m ps u k) (first_statement ps u.name) u shadows (seen r (forward_with sc p i 0 u.body))
  forward_shaped shadows plain_unmade helper_unmade =
      record {
        keeps = forward_keeps ∙ sym (from_statements (kept_of p (is_own u)) i u.body);
        spares = forward_clean r shadows plain_unmade helper_unmade sc p i 0 u.body;
        pushes_alone = forward_pushes r shadows plain_unmade helper_unmade sc p i 0 u.body;
        saves = code_taken (pushed (is_own u)) (due p) (due_turns p) r sc p u (due_rows u r own_kept own_same p) i 0 u.body code closed;
        sparing = forward_sparing u r own_same shadows helper_unmade sc p i 0 u.body code;
      }

  -- ---- backward

  -- what the backward sweep does is what the loops do that are reversed
  backward_does : done_list (deeds (is_own u) (is_among ps)) None 0 (seen r (backward_with sc p i 0 u.body)) ≡ deeds_back sc p i u.body
  backward_does = code_done u r own_kept own_same (is_among ps) (is_unit ps) sc p (λ name h. let free = made_apart m ps name h in (free.0, free.1.1)) (named_there ps) i 0 u.body code inside closed

  -- so it calls the units of the kernel that these turn
  pub backward_called : (x : List ℕ) → is_among ps x ≡ true → has_name x (gathered called (seen r (backward_with sc p i 0 u.body))) ≡ turns_in (schedules_in sb ps) m.adjointed x (first_statement ps u.name) u.body
  backward_called x h = called_code (is_own u) (is_among ps) x h None 0 (seen r (backward_with sc p i 0 u.body)) ∙ ap (list_any (calls_unit x)) backward_does ∙ turned_code sc p x i u.body

  pub backward_shaped : IsBackward (schedules_in sb ps) (its_plan m ps u k) (first_statement ps u.name) (is_among ps) u (seen r (backward_with sc p i 0 u.body))
  backward_shaped = record { reverses = backward_does; assigns = backward_assigns u r own_kept own_same counts sc p i 0 u.body code (loops_in counts u.body (λ v h. h)) }
