-- The program that is emitted for a source that was checked is as the theorem on sweeps asks.
use Rattle.std.proofs.Common.{◌≡◌, ℕ, Bool, true, false, List, [], refl, sym, ap, ◌∙◌, subst, if◌then◌else◌}
use Rattle.std.specs.Prelude.{Option, Some, IsTrue}
use Rattle.adj_tree.specs.Code.{name_eq, Procedure}
use Rattle.adj_tree.proofs.Names.{name_same}
use Rattle.def_meaning.specs.Written.{find_unit}
use Rattle.def_names.specs.Numbers.{Vars}
use Rattle.def_sweep.specs.Marked.{names_in}
use Rattle.def_sweep.specs.Declared.{unmarked}
use Rattle.def_names.proofs.Variables.{not_true}
use Rattle.def_sweep.specs.Callees.{nothing, CalleeFacts}
use Rattle.def_sweep.specs.Names.{forth_name, back_name}
use Rattle.def_sweep.specs.SplitMarks.{split_facts}
use Rattle.def_sweep.specs.SplitRows.{left_of, forth_body, back_body}
use Rattle.def_sweep.specs.Emission.{forward_with, backward_with}
use Rattle.law_sweep.specs.Emitted.{HasAdjoint, HasUnit}
use Rattle.law_sweep.specs.Environment.{UnitFitsBy}
use Rattle.def_sweep.specs.Marking.{ProgramFacts, callee_facts, callee_of, first_statement}
use Rattle.def_sweep.specs.Program.{has_adjoint, has_pair, split_plan, left_by, helpers_forth, helpers_used_with, schedules_in, answers, is_carried_with, all_units, adjoint_unit_with, emitted_adjoint_with, emitted_units_with}
use Rattle.law_sweep.specs.Source.{variables_of, arrays_in, SourceFitsWith}
use Rattle.law_sweep.specs.Theorem.{ProgramFits, plan_of}
use Rattle.def_sweep.specs.Schedules.{schedules_by}
use Rattle.law_sweep.proofs.UnitLists.{found_there}
use Rattle.law_sweep.proofs.EmittedUnits.{answers_there, adjoint_found, forth_found, back_found, carried_common}
use Rattle.law_sweep.proofs.Variables.{variables_apart}
use Rattle.law_sweep.proofs.Made.{has_adjoint_unit}
use Rattle.law_sweep.proofs.MadeParts.{helpers_made, forth_made}
use Rattle.def_sweep.specs.Naming.{adjoint_text}
use Rattle.law_sweep.proofs.MadeUnits.{has_unit}
use Rattle.def_sweep.specs.Reversals.{ReversedLines}

module _ (sc : Bool) (lines : ReversedLines) (w : ProgramFacts) (ps : List Procedure) (head : Procedure) (vars outvars : List Bool) (good : SourceFitsWith sc lines w ps head) where
  abbrev pub g : List ℕ → CalleeFacts
  g = callee_facts w ps

  abbrev pub qs : List Procedure
  qs = emitted_units_with sc w.marks ps head vars outvars ps

  abbrev pub vars_of : List ℕ → List (List ℕ)
  vars_of name = variables_of (find_unit ps name)

  abbrev pub arrays : List ℕ → Vars
  arrays name = arrays_in (find_unit ps name)

  abbrev HasIt : List ℕ → Procedure → Option Procedure → Type 0
  HasIt name u o = HasAdjoint qs u (callee_of w.marks ps name o) (forward_with (schedules_by sc g) (plan_of g (g name).facts (arrays_in o)) (first_statement ps name) 0 u.body) (backward_with (schedules_by sc g) (plan_of g (g name).facts (arrays_in o)) (first_statement ps name) 0 u.body)

  not_head : (u : Procedure) → answers w.marks ps head u.name ≡ true → name_eq head.name u.name ≡ false
  not_head u h = not_true (name_eq head.name u.name) (λ e. let p : true ≡ false = sym h ∙ ap (answers w.marks ps head) (sym (name_same head.name u.name e)) ∙ good.uncalled in cc)

  has_it : (u : Procedure) → find_unit ps u.name ≡ Some u → answers w.marks ps head u.name ≡ true → HasIt u.name u (Some u)
  has_it u f h =
      let it : emitted_adjoint_with sc w.marks ps head vars outvars u ≡ adjoint_unit_with sc w.marks ps (all_units w.marks ps head) u [] [] =
      ap (λ b. if b then adjoint_unit_with sc w.marks ps (all_units w.marks ps head) u (names_in (w.marks.shadowed u.name) (unmarked u.dummies outvars)) (names_in (w.marks.shadowed u.name) (unmarked u.dummies vars)) else adjoint_unit_with sc w.marks ps (all_units w.marks ps head) u [] []) (not_head u h) in
      has_adjoint_unit sc w.marks ps (all_units w.marks ps head) u (variables_apart u) (good.inside u.name u f) (good.extents u.name u f) qs
      (adjoint_found sc w.marks ps head vars outvars u.name u f (answers_there sc w.marks ps head vars outvars good.known u.name h) ∙ ap Some it)

  -- both units of a unit that has them
  abbrev HasThem : List ℕ → Procedure → Option Procedure → Type 0
  HasThem name u o =
      let k = callee_of w.marks ps name o in
      let p = plan_of g (split_facts (g name) nothing) (arrays_in o) in
      let left = left_of k.written k.dummies (variables_of o) in
      HasUnit qs u k.forth k nothing (forth_body (schedules_by sc g) p (first_statement ps name) u.line left u.body)
      × HasUnit qs u k.back k k.shadowed (back_body (schedules_by sc g) p (first_statement ps name) u.line left u.body)

  has_them : (u : Procedure) → find_unit ps u.name ≡ Some u → has_pair w.marks ps head u.name ≡ true → HasThem u.name u (Some u)
  has_them u f h =
      let k = callee_of w.marks ps u.name (Some u) in
      let p = split_plan w.marks ps u in
      let i = first_statement ps u.name in
      let r = schedules_in sc ps in
      let units = all_units w.marks ps head in (
        has_unit adjoint_text (forth_name ps u) nothing k units u refl (helpers_forth r p i u.body) (forth_made r p i u.body) (forth_body r p i u.line (left_by ps u) u.body) (variables_apart u) (good.inside u.name u f) (good.extents u.name u f) qs (forth_found sc w.marks ps head vars outvars u.name u f h),
        has_unit adjoint_text (back_name ps u) (w.marks.shadowed u.name) k units u refl (helpers_used_with r p i u.body) (helpers_made r p i u.body) (back_body r p i u.line (left_by ps u) u.body) (variables_apart u) (good.inside u.name u f) (good.extents u.name u f) qs (back_found sc w.marks ps head vars outvars u.name u f h),
      )

  pub emitted_fits : ProgramFits sc lines ps qs g (has_adjoint w.marks ps head) (answers w.marks ps head) (has_pair w.marks ps head) (is_carried_with sc w.marks ps head) (first_statement ps) vars_of arrays
  emitted_fits = record {
    inside = good.reached;
    closed = good.closed;
    units = λ name u f c. subst (λ o. UnitFitsBy (schedules_by sc g) lines ps g (has_adjoint w.marks ps head) (answers w.marks ps head) (has_pair w.marks ps head) (is_carried_with sc w.marks ps head) name u (first_statement ps name) (variables_of o) (arrays_in o)) (sym f) (good.units name u f c);
    apart = good.apart;
    common = carried_common sc w.marks ps head vars outvars good.known;
    emitted = answers_there sc w.marks ps head vars outvars good.known;
    adjoints = λ name u f h.
        let same = (found_there ps name u f).1 in
        subst (HasIt name u) (sym f)
        (subst (λ n. HasIt n u (Some u)) same (has_it u (ap (find_unit ps) same ∙ f) (ap (answers w.marks ps head) same ∙ h)));
    pairs = λ name u f h.
        let same = (found_there ps name u f).1 in
        subst (HasThem name u) (sym f)
        (subst (λ n. HasThem n u (Some u)) same (has_them u (ap (find_unit ps) same ∙ f) (ap (has_pair w.marks ps head) same ∙ h)));
  }

  -- the head is one of the units that are asked about
  pub head_within : IsTrue (emitted_fits.inside head.name)
  unfolding emitted_fits
  head_within = good.head_reached
