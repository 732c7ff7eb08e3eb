-- The units that are made of a unit look as they should: its adjoint, and its forward and its backward unit.
use Rattle.std.proofs.Common.{◌≡◌, ℕ, Bool, true, false, List, [], ◌∷◌, ◌++◌, map, refl, sym, ap, ◌∙◌, append-nil, if◌then◌else◌}
use Rattle.std.specs.Prelude.{◌||◌, ◌&&◌, not, pos, Some}
use Rattle.adj_tree.specs.Code.{Var, plain, shadow, name_eq, var_eq, lit, none, push_word, pop_word, push_array, pop_array, zero_array, assign, runtime, Code, step, Declaration, Procedure}
use Rattle.adj_tree.specs.Lines.{unlined_declaration, unlined_procedure}
use Rattle.def_meaning.specs.Append.{◌+++◌, one}
use Rattle.def_meaning.specs.Rename.{rename_runtime}
use Rattle.def_meaning.specs.Units.{declared}
use Rattle.def_meaning.specs.Written.{find_unit}
use Rattle.def_meaning.specs.Apart.{has_name}
use Rattle.def_names.specs.Fault.{Rules}
use Rattle.def_names.specs.Variables.{variables}
use Rattle.def_sweep.specs.Callees.{nothing}
use Rattle.def_sweep.specs.Declared.{unmarked}
use Rattle.def_sweep.specs.Emission as emission
use Rattle.def_sweep.specs.Emission.{forward_with, backward_with, adjoint_body_with}
use Rattle.def_sweep.specs.Marked.{names_in}
use Rattle.def_sweep.specs.Marking.{ProgramMarks, first_statement, arrays_of}
use Rattle.def_sweep.specs.Naming.{adjoint_text, Named, name_in, naming}
use Rattle.def_sweep.specs.Plan.{Plan, Schedules}
use Rattle.def_sweep.specs.Program.{calls_in, turns_in, all_units, adjoint_unit_with, emitted_adjoint_with, schedules_in, left_by, forth_unit, back_unit}
use Rattle.def_sweep.specs.Rows.{pushes, pop, pops}
use Rattle.law_sweep.proofs.Names.{has-append}
use Rattle.law_emitted.specs.Checked.{IsChecked}
use Rattle.law_emitted.specs.Splits.{AllMaySplit}
use Rattle.law_emitted.proofs.Lists.{Each}
use Rattle.law_emitted.proofs.MakingCode.{its_are_helpers, left_known}
use Rattle.law_emitted.proofs.Makings.{Making, as_adjoint, as_forth, as_back, its_plan, its_helpers, made}
use Rattle.law_emitted.proofs.ShadowNames.{same_shadow_for, same_dummies_for}
use Rattle.law_emitted.proofs.Tables.{table_for}
use Rattle.def_adjoint.specs.Shape.{gathered, shadow_table, is_own, is_shadow, called, cleared, cleared_dummies, IsAdjointUnit, pop_whole, left_pushed, left_popped, IsForthUnit, IsBackUnit, is_among}
use Rattle.law_shape.specs.Closed.{IsClosed}
use Rattle.law_shape.proofs.Gathered.{gathered_append, seen, seen_append}
use Rattle.law_shape.proofs.Naming as naming_facts
use Rattle.law_shape.proofs.Swept as swept

declared_unlined : (ds : List Declaration) (v : Var) → declared (map unlined_declaration ds) v ≡ declared ds v
declared_unlined [] v = refl
declared_unlined (d ∷ ds) v = ap (λ z. if var_eq v (plain d.name) then d.extents else z) (declared_unlined ds v)

-- ---- what a forward unit leaves on the tape, and a backward unit takes

module _ (u : Procedure) (r : Var → Var) (own_kept : (v : Var) → is_own u v ≡ true → r v ≡ v) (p : Plan) where
  pushes_same : (line : ℕ) (xs : List (List ℕ)) → Each (λ x. has_name x (variables u) ≡ true) xs → seen r (pushes p line xs) ≡ left_pushed p.arrays xs
  pushes_same line [] h = refl
  pushes_same line (x ∷ xs) h = λ j. step 0 (runtime (go (p.arrays (plain x)) j)) (pushes_same line xs h.1 j)
    where
      go : (b : Bool) → rename_runtime r (if b then push_array (plain x) else push_word (plain x) none) ≡ (if b then push_array (plain x) else push_word (plain x) none)
      go true = ap push_array (own_kept (plain x) h.0)
      go false = ap (λ v. push_word v none) (own_kept (plain x) h.0)

  pops_same : (line : ℕ) (xs : List (List ℕ)) → Each (λ x. has_name x (variables u) ≡ true) xs → seen r (pops p line xs) ≡ left_popped p.arrays xs
  pops_same line [] h = refl
  pops_same line (x ∷ xs) h = seen_append r (pops p line xs) (pop p line x) ∙ (λ j. pops_same line xs h.1 j +++ one 0 (runtime (go (p.arrays (plain x)) j)))
    where
      go : (b : Bool) → rename_runtime r (if b then pop_array (plain x) else pop_word (plain x) none) ≡ (if b then pop_array (plain x) else pop_word (plain x) none)
      go true = ap pop_array (own_kept (plain x) h.0)
      go false = ap (λ v. pop_word v none) (own_kept (plain x) h.0)

-- they call no unit
none_pushed : (arrays : Var → Bool) (xs : List (List ℕ)) → gathered called (left_pushed arrays xs) ≡ []
none_pushed arrays [] = refl
none_pushed arrays (x ∷ xs) = none_pushed arrays xs

none_popped : (arrays : Var → Bool) (xs : List (List ℕ)) → gathered called (left_popped arrays xs) ≡ []
none_popped arrays [] = refl
none_popped arrays (x ∷ xs) = gathered_append called (left_popped arrays xs) (one 0 (runtime (pop_whole arrays x))) ∙ ap (λ l. l ++ []) (none_popped arrays xs)

-- nor do shadows that are cleared
none_cleared : (arrays : Var → Bool) (table : List Named) (xs : List (List ℕ)) → gathered called (cleared arrays table xs) ≡ []
none_cleared arrays table [] = refl
none_cleared arrays table (y ∷ xs) = go (arrays (plain y)) (none_cleared arrays table xs)
  where
    rest : Code
    rest = cleared arrays table xs

    go : (b : Bool) → gathered called rest ≡ [] → gathered called (step 0 (if b then runtime (zero_array (plain (name_in table (shadow y)))) else assign (plain (name_in table (shadow y))) none (lit (pos 0))) rest) ≡ []
    go true ih = ih
    go false ih = ih

module _ (sb : Bool) (rules : Rules) (ps : List Procedure) (checked : IsChecked rules ps) (m : ProgramMarks) (may : AllMaySplit sb m ps ps) (head u : Procedure) (found : find_unit ps u.name ≡ Some u) where
  abbrev i : ℕ
  i = first_statement ps u.name

  abbrev sc : Schedules
  sc = schedules_in sb ps

  -- the units of the kernel that the sweeps of what is made of u call
  abbrev pub its_called : Making → List ℕ → Bool
  its_called (as_adjoint at_turn at_end) x = calls_in (λ j. m.kept j && not (m.split j)) x (first_statement ps u.name) u.body || turns_in (schedules_in sb ps) m.adjointed x (first_statement ps u.name) u.body
  its_called as_forth x = calls_in (λ j. not (m.split j)) x (first_statement ps u.name) u.body
  its_called as_back x = turns_in (schedules_in sb ps) m.adjointed x (first_statement ps u.name) u.body

  -- ---- the adjoint unit, which clears these shadows at the turn and these at the end

  module _ (at_turn at_end : List (List ℕ)) (closed : IsClosed (its_plan m ps u (as_adjoint at_turn at_end)).marks (first_statement ps u.name) u.body) where
    abbrev k : Making
    k = as_adjoint at_turn at_end

    abbrev p : Plan
    p = its_plan m ps u (as_adjoint at_turn at_end)

    abbrev hs : List Var
    hs = its_helpers sb m ps u (as_adjoint at_turn at_end)

    abbrev ns : List Named
    ns = table_for adjoint_text (variables u) (all_units m ps head) (m.shadowed u.name) (its_helpers sb m ps u (as_adjoint at_turn at_end))

    abbrev r : Var → Var
    r = naming (table_for adjoint_text (variables u) (all_units m ps head) (m.shadowed u.name) (its_helpers sb m ps u (as_adjoint at_turn at_end)))

    sep : (v w : Var) → name_eq (name_in ns v) (name_in ns w) ≡ var_eq v w
    sep = swept.sep sb rules ps checked m may head u found (as_adjoint at_turn at_end) closed

    keeps : (x : List ℕ) → has_name x (variables u) ≡ true → name_in ns (plain x) ≡ x
    keeps = swept.keeps sb rules ps checked m may head u found (as_adjoint at_turn at_end) closed

    same : (x : List ℕ) → name_in (shadow_table m ps head u) (shadow x) ≡ name_in ns (shadow x)
    same = same_shadow_for m ps head u hs (its_are_helpers sb m ps u (as_adjoint at_turn at_end))

    cleared_same : (line : ℕ) (xs : List (List ℕ)) → seen r (emission.cleared p line xs) ≡ cleared p.arrays (shadow_table m ps head u) xs
    cleared_same line [] = refl
    cleared_same line (x ∷ xs) = go (p.arrays (plain x)) (cleared_same line xs)
      where
        go : (b : Bool) → seen r (emission.cleared p line xs) ≡ cleared p.arrays (shadow_table m ps head u) xs → seen r ((if b then one line (runtime (zero_array (shadow x))) else one line (assign (shadow x) none (lit (pos 0)))) +++ emission.cleared p line xs) ≡
            step 0 (if b then runtime (zero_array (plain (name_in (shadow_table m ps head u) (shadow x)))) else assign (plain (name_in (shadow_table m ps head u) (shadow x))) none (lit (pos 0))) (cleared p.arrays (shadow_table m ps head u) xs)
        go true ih = λ j. step 0 (runtime (zero_array (plain (sym (same x) j)))) (ih j)
        go false ih = λ j. step 0 (assign (plain (sym (same x) j)) none (lit (pos 0))) (ih j)

    body_same : seen r (adjoint_body_with sc p i u.line u.body at_turn at_end) ≡
        seen r (forward_with sc p i 0 u.body) +++ (cleared p.arrays (shadow_table m ps head u) at_turn +++ (seen r (backward_with sc p i 0 u.body) +++ cleared p.arrays (shadow_table m ps head u) at_end))
    body_same =
        seen_append r (forward_with sc p i 0 u.body) (emission.cleared p u.line at_turn +++ (backward_with sc p i 0 u.body +++ emission.cleared p u.line at_end))
        ∙ ap (λ c. seen r (forward_with sc p i 0 u.body) +++ c)
        (seen_append r (emission.cleared p u.line at_turn) (backward_with sc p i 0 u.body +++ emission.cleared p u.line at_end)
        ∙ (λ j. cleared_same u.line at_turn j +++ (seen_append r (backward_with sc p i 0 u.body) (emission.cleared p u.line at_end) ∙ ap (λ c. seen r (backward_with sc p i 0 u.body) +++ c) (cleared_same u.line at_end)) j))

    -- the calls of units of the kernel in its body are those that are kept and not split, and those in the turns of loops that are reversed
    pub adjoint_calls : (x : List ℕ) → is_among ps x ≡ true → has_name x (gathered called (unlined_procedure (made sb m ps (all_units m ps head) u (as_adjoint at_turn at_end))).body) ≡ its_called (as_adjoint at_turn at_end) x
    adjoint_calls x h =
        let forth = seen r (forward_with sc p i 0 u.body) in
        let back = seen r (backward_with sc p i 0 u.body) in
        let turn = cleared p.arrays (shadow_table m ps head u) at_turn in
        let end = cleared p.arrays (shadow_table m ps head u) at_end in
        ap (λ c. has_name x (gathered called c)) body_same
        ∙ ap (has_name x)
        (gathered_append called forth (turn +++ (back +++ end))
        ∙ ap (λ l. gathered called forth ++ l)
        (gathered_append called turn (back +++ end) ∙ ap (λ l. l ++ gathered called (back +++ end)) (none_cleared p.arrays (shadow_table m ps head u) at_turn) ∙ gathered_append called back end ∙ ap (λ l. gathered called back ++ l) (none_cleared p.arrays (shadow_table m ps head u) at_end)
        ∙ append-nil (gathered called back)))
        ∙ has-append x (gathered called forth) (gathered called back)
        ∙ (λ j. swept.forward_called sb rules ps checked m may head u found (as_adjoint at_turn at_end) closed x h j || swept.backward_called sb rules ps checked m may head u found (as_adjoint at_turn at_end) closed x h j)

    -- it looks as it should, where it clears what the shape says
    pub made_shaped : (vars outvars : List Bool) → at_turn ≡ cleared_dummies m head u outvars → at_end ≡ cleared_dummies m head u vars → IsAdjointUnit sb m ps head vars outvars u (unlined_procedure (made sb m ps (all_units m ps head) u (as_adjoint at_turn at_end)))
    made_shaped vars outvars turn end =
        let unit = made sb m ps (all_units m ps head) u (as_adjoint at_turn at_end) in
        record {
          name = refl;
          dummies = same_dummies_for m ps head u hs (its_are_helpers sb m ps u (as_adjoint at_turn at_end)) (m.shadowed u.name) u.dummies;
          scalars = λ v a b. declared_unlined unit.declarations v ∙ naming_facts.scalars_with u ns sep keeps m ps head same hs v a b;
          forth = seen r (forward_with sc p i 0 u.body);
          back = seen r (backward_with sc p i 0 u.body);
          body = body_same ∙ (λ j. seen r (forward_with sc p i 0 u.body) +++ (cleared p.arrays (shadow_table m ps head u) (turn j) +++ (seen r (backward_with sc p i 0 u.body) +++ cleared p.arrays (shadow_table m ps head u) (end j))));
          forward = swept.forward_shaped sb rules ps checked m may head u found (as_adjoint at_turn at_end) closed (is_shadow m ps head u) (naming_facts.plain_unshadowed u ns sep keeps m ps head same) (naming_facts.helper_unshadowed u ns sep keeps m ps head same);
          backward = swept.backward_shaped sb rules ps checked m may head u found (as_adjoint at_turn at_end) closed;
        }

  -- the one that is emitted clears what the shape says
  pub adjoint_same : (vars outvars : List Bool) → emitted_adjoint_with sb m ps head vars outvars u ≡ made sb m ps (all_units m ps head) u (as_adjoint (cleared_dummies m head u outvars) (cleared_dummies m head u vars))
  adjoint_same vars outvars = go (name_eq head.name u.name)
    where
      go : (b : Bool) → (if b then adjoint_unit_with sb m ps (all_units m ps head) u (names_in (m.shadowed u.name) (unmarked u.dummies outvars)) (names_in (m.shadowed u.name) (unmarked u.dummies vars)) else adjoint_unit_with sb m ps (all_units m ps head) u [] []) ≡
          made sb m ps (all_units m ps head) u (as_adjoint (if b then names_in (m.shadowed u.name) (unmarked u.dummies outvars) else []) (if b then names_in (m.shadowed u.name) (unmarked u.dummies vars) else []))
      go true = refl
      go false = refl

  -- ---- the forward unit

  module _ (closed : IsClosed (its_plan m ps u as_forth).marks (first_statement ps u.name) u.body) where
    abbrev forth_p : Plan
    forth_p = its_plan m ps u as_forth

    abbrev forth_hs : List Var
    forth_hs = its_helpers sb m ps u as_forth

    abbrev forth_ns : List Named
    forth_ns = table_for adjoint_text (variables u) (all_units m ps head) nothing (its_helpers sb m ps u as_forth)

    abbrev forth_r : Var → Var
    forth_r = naming (table_for adjoint_text (variables u) (all_units m ps head) nothing (its_helpers sb m ps u as_forth))

    forth_sep : (v w : Var) → name_eq (name_in forth_ns v) (name_in forth_ns w) ≡ var_eq v w
    forth_sep = swept.sep sb rules ps checked m may head u found as_forth closed

    forth_keeps : (x : List ℕ) → has_name x (variables u) ≡ true → name_in forth_ns (plain x) ≡ x
    forth_keeps = swept.keeps sb rules ps checked m may head u found as_forth closed

    forth_same : seen forth_r (forward_with sc forth_p i 0 u.body +++ pushes forth_p u.line (left_by ps u)) ≡ seen forth_r (forward_with sc forth_p i 0 u.body) +++ left_pushed (arrays_of u) (left_by ps u)
    forth_same =
        seen_append forth_r (forward_with sc forth_p i 0 u.body) (pushes forth_p u.line (left_by ps u))
        ∙ ap (λ c. seen forth_r (forward_with sc forth_p i 0 u.body) +++ c) (pushes_same u forth_r (swept.own_kept sb rules ps checked m may head u found as_forth closed) forth_p u.line (left_by ps u) (left_known sb m ps u))

    pub forth_calls : (x : List ℕ) → is_among ps x ≡ true → has_name x (gathered called (unlined_procedure (made sb m ps (all_units m ps head) u as_forth)).body) ≡ its_called as_forth x
    forth_calls x h =
        let forth = seen forth_r (forward_with sc forth_p i 0 u.body) in
        ap (λ c. has_name x (gathered called c)) forth_same
        ∙ ap (has_name x) (gathered_append called forth (left_pushed (arrays_of u) (left_by ps u)) ∙ ap (λ l. gathered called forth ++ l) (none_pushed (arrays_of u) (left_by ps u)) ∙ append-nil (gathered called forth))
        ∙ swept.forward_called sb rules ps checked m may head u found as_forth closed x h

    pub forth_shaped : IsForthUnit sb m ps u (unlined_procedure (forth_unit sb m ps (all_units m ps head) u))
    forth_shaped =
        let unit = made sb m ps (all_units m ps head) u as_forth in
        record {
          name = refl;
          dummies = naming_facts.dummies_without u forth_ns forth_sep forth_keeps u.dummies;
          scalars = λ v own. declared_unlined unit.declarations v ∙ naming_facts.scalars_without u forth_ns forth_sep forth_keeps forth_hs v own;
          forth = seen forth_r (forward_with sc forth_p i 0 u.body);
          body = forth_same;
          forward = swept.forward_shaped sb rules ps checked m may head u found as_forth closed nothing (λ x. refl) (λ o n. refl);
        }

  -- ---- the backward unit

  module _ (closed : IsClosed (its_plan m ps u as_back).marks (first_statement ps u.name) u.body) where
    abbrev back_p : Plan
    back_p = its_plan m ps u as_back

    abbrev back_hs : List Var
    back_hs = its_helpers sb m ps u as_back

    abbrev back_ns : List Named
    back_ns = table_for adjoint_text (variables u) (all_units m ps head) (m.shadowed u.name) (its_helpers sb m ps u as_back)

    abbrev back_r : Var → Var
    back_r = naming (table_for adjoint_text (variables u) (all_units m ps head) (m.shadowed u.name) (its_helpers sb m ps u as_back))

    back_sep : (v w : Var) → name_eq (name_in back_ns v) (name_in back_ns w) ≡ var_eq v w
    back_sep = swept.sep sb rules ps checked m may head u found as_back closed

    back_keeps : (x : List ℕ) → has_name x (variables u) ≡ true → name_in back_ns (plain x) ≡ x
    back_keeps = swept.keeps sb rules ps checked m may head u found as_back closed

    back_shadows : (x : List ℕ) → name_in (shadow_table m ps head u) (shadow x) ≡ name_in back_ns (shadow x)
    back_shadows = same_shadow_for m ps head u back_hs (its_are_helpers sb m ps u as_back)

    back_same : seen back_r (pops back_p u.line (left_by ps u) +++ backward_with sc back_p i 0 u.body) ≡ left_popped (arrays_of u) (left_by ps u) +++ seen back_r (backward_with sc back_p i 0 u.body)
    back_same =
        seen_append back_r (pops back_p u.line (left_by ps u)) (backward_with sc back_p i 0 u.body)
        ∙ ap (λ c. c +++ seen back_r (backward_with sc back_p i 0 u.body)) (pops_same u back_r (swept.own_kept sb rules ps checked m may head u found as_back closed) back_p u.line (left_by ps u) (left_known sb m ps u))

    pub back_calls : (x : List ℕ) → is_among ps x ≡ true → has_name x (gathered called (unlined_procedure (made sb m ps (all_units m ps head) u as_back)).body) ≡ its_called as_back x
    back_calls x h =
        let back = seen back_r (backward_with sc back_p i 0 u.body) in
        ap (λ c. has_name x (gathered called c)) back_same
        ∙ ap (has_name x) (gathered_append called (left_popped (arrays_of u) (left_by ps u)) back ∙ ap (λ l. l ++ gathered called back) (none_popped (arrays_of u) (left_by ps u)))
        ∙ swept.backward_called sb rules ps checked m may head u found as_back closed x h

    pub back_shaped : IsBackUnit sb m ps head u (unlined_procedure (back_unit sb m ps (all_units m ps head) u))
    back_shaped =
        let unit = made sb m ps (all_units m ps head) u as_back in
        record {
          name = refl;
          dummies = same_dummies_for m ps head u back_hs (its_are_helpers sb m ps u as_back) (m.shadowed u.name) u.dummies;
          scalars = λ v a b. declared_unlined unit.declarations v ∙ naming_facts.scalars_with u back_ns back_sep back_keeps m ps head back_shadows back_hs v a b;
          back = seen back_r (backward_with sc back_p i 0 u.body);
          body = back_same;
          backward = swept.backward_shaped sb rules ps checked m may head u found as_back closed;
        }

  -- ---- whichever it is

  pub its_calls_are : (k : Making) → IsClosed (its_plan m ps u k).marks (first_statement ps u.name) u.body → (x : List ℕ) → is_among ps x ≡ true → has_name x (gathered called (unlined_procedure (made sb m ps (all_units m ps head) u k)).body) ≡ its_called k x
  its_calls_are (as_adjoint at_turn at_end) closed x h = adjoint_calls at_turn at_end closed x h
  its_calls_are as_forth closed x h = forth_calls closed x h
  its_calls_are as_back closed x h = back_calls closed x h
