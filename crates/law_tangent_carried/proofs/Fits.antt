-- A checked program in kernel form is all that the law on tangents asks, with exact analyses.
use Rattle.std.proofs.Common.{◌≡◌, ◌≤◌, ℕ, List, [], ◌∷◌, true, false, refl, sym, ap, ◌∙◌, subst}
use Rattle.std.specs.Prelude.{Contains, length, None, Some}
use Rattle.adj_tree.specs.Code.{plain, name_eq, Procedure}
use Rattle.def_meaning.specs.Written.{find_unit, handed_back}
use Rattle.def_names.specs.Fault.{Rules}
use Rattle.def_names.specs.HeadFaults.{unit_number}
use Rattle.def_names.specs.Statements.{statements}
use Rattle.def_names.specs.Variables.{variables}
use Rattle.def_kernel.specs.Kernel.{EachUnit}
use Rattle.def_names.specs.Numbers.{Vars}
use Rattle.def_sweep.specs.Facts.{In, Within}
use Rattle.def_meaning.specs.Apart.{AreApart}
use Rattle.def_sweep.specs.Declared.{unit_at}
use Rattle.def_sweep.specs.Callees.{CalleeFacts, nothing}
use Rattle.law_sweep.specs.Laws.{last_point}
use Rattle.def_sweep.specs.Marking.{full_marks, full_facts, callee_facts, first_statement, entry_point, end_point, arrays_of}
use Rattle.def_sweep.specs.Program.{reached_after, has_adjoint, answers, has_pair, is_carried_with}
use Rattle.law_sweep.specs.Source.{is_unit, SourceFits}
use Rattle.law_emitted.specs.Checked.{IsChecked}
use Rattle.law_emitted.proofs.Lists.{Each, each_found, each_unit}
use Rattle.law_emitted.proofs.Callings.{Found, each_at}
use Rattle.law_emitted.proofs.Statements.{CallHasNone, calls_inside}
use Rattle.law_emitted.proofs.Premises.{units_apart, found, all_calls, checked_fits}
use Rattle.law_emitted.proofs.Kernels.{numbered}
use Rattle.adj_reach.specs.Reached.{begins}
use Rattle.def_flow.specs.Parts.{Part, parts, find_part}
use Rattle.def_names.specs.StatementsIn.{statements_in}
use Rattle.def_flow.specs.Ways.{passing}
use Rattle.def_flow.specs.Standing.{outermost}
use Rattle.def_flow.specs.Problem.{Problem, IsHead, TakesPart, flagged}
use Rattle.def_flow.specs.Flow as flow
use Rattle.law_flow.proofs.Heads.{flagged_has, head_part}
use Rattle.def_flow.proofs.OwnPoints as points
use Rattle.law_analysed.proofs.Numbers.{Placed, placed}
use Rattle.law_analysed.proofs.Lists.{ends}
use Rattle.law_analysed.proofs.Meets.{some_same}
use Rattle.law_analysed.proofs.Checked.{part_found}
use Rattle.law_analysed.proofs.Reaching.{taking}
use Rattle.law_tangent.specs.Laws.{CalleeFlow, WayFlows, ListFlows, ListTexts}
use Rattle.law_tangent.specs.Units.{CallTexts}
use Rattle.law_tangent.specs.Sizes.{AreLight}
use Rattle.def_tangent.specs.Program.{Carried, dummies_of, has_tangent}
use Rattle.law_tangent.specs.Source.{flow_in, UnitFlows, TangentFits}
use Rattle.law_tangent.proofs.Fitting.{dummies_are, dummies_in}
use Rattle.law_tangent.proofs.Taking.{made_reached}
use Rattle.law_tangent.proofs.Texts.{text_list}
use Rattle.law_tangent.proofs.Emitting.{emitted_is_tangent}
use Rattle.def_flow.specs.Carried.{IsCarrying, carried_by}
use Rattle.law_tangent_carried.specs.Carried.{CarryingFits, CarryingIsTangent}
use Rattle.law_tangent_carried.proofs.Flows.{covers, passes, list_flows}

module _ (rules : Rules) (k : Problem) (checked : IsChecked rules k.units) (f : ℕ → Vars) (on : ℕ → Vars) (is : IsCarrying k f on) (top : Procedure) (at : unit_at k.head k.units ≡ top ∷ []) where
  abbrev ps : List Procedure
  ps = k.units

  abbrev c : Carried
  c = carried_by ps on

  abbrev gf : List ℕ → CalleeFlow
  gf = flow_in c f ps

  -- the text is as the law on adjoints asks, with each unit as the head
  source : (name : List ℕ) (u : Procedure) → find_unit ps name ≡ Some u → SourceFits (λ line. None) full_facts ps u
  source name u e = checked_fits rules ps checked (unit_number ps name) u (numbered ps name u e).1

  abbrev facts : List ℕ → CalleeFacts
  facts = callee_facts full_facts ps

  facts_dummies : (n : List ℕ) → (facts n).callee.dummies ≡ dummies_of ps n
  facts_dummies n = Rattle.law_tangent.proofs.Fitting.adjoint_dummies ps n (find_unit ps n) ∙ sym (dummies_are ps n)

  texts : (name : List ℕ) (u : Procedure) → find_unit ps name ≡ Some u → ListTexts (CallTexts ps (λ n. true) (λ n. true) (arrays_of u) (dummies_of ps)) (variables u) (arrays_of u) (handed_back ps) u.body
  texts name u e =
      let s = source name u e in
      let fit = s.units u.name u s.there s.head_reached in
      let laws = fit.laws in
      text_list (λ line. None) ps facts (answers full_marks ps u) (has_pair full_marks ps u) (is_carried_with false full_marks ps u) (has_adjoint full_marks ps u u.name) (facts u.name).facts.marks (facts u.name).facts (variables u) (arrays_of u) (handed_back ps) (dummies_of ps) facts_dummies
      (is_unit ps) (λ n. true) (λ n. true) (λ n h. (refl, refl)) (facts u.name).entry (first_statement ps u.name) u.body fit.code laws.laws
      (calls_inside ps u u.body (each_found (λ u. Each (CallHasNone ps u) (statements u.body)) ps (all_calls rules ps checked) name u e))

  pub apart : (name : List ℕ) (u : Procedure) → find_unit ps name ≡ Some u → AreApart (dummies_of ps name)
  apart name u e = subst AreApart (sym (dummies_are ps name ∙ ap dummies_in e)) (let s = source name u e in s.apart name u e)

  -- ---- the head

  record Head : Type 0 where
    part : Part
    is_it : IsHead k part
    unit : part.unit ≡ top
    finds : find_part (parts ps) part.unit.name ≡ Some part
    there : Placed ps top.name part

  head : Head
  head =
      let h = head_part (statements_in 0 ps) 0 0 ps k.head top at in
      let finds = part_found (statements_in 0 ps) 0 0 ps (units_apart rules ps checked) k.head h.0 h.1 in
      record { part = h.0; is_it = record { is = h.1 }; unit = h.2; finds = finds; there = subst (λ v. Placed ps v.name h.0) h.2 (placed ps h.0.unit.name h.0 finds) }

  -- ---- the units whose tangents are emitted take part

  record PartOf (name : List ℕ) (u : Procedure) : Type 0 where
    part : Part
    unit : part.unit ≡ u
    there : Placed ps name part
    takes : TakesPart k part

  part_of : (name : List ℕ) (u : Procedure) → find_unit ps name ≡ Some u → has_tangent c ps top.name name ≡ true → PartOf name u
  part_of name u e r =
      let h = head in
      let t = taking k (found rules ps checked) h.part h.is_it h.finds (length ps) name u e (subst (λ n. reached_after (name_eq n) (λ i. true) ps (length ps) name ≡ true) (ap (λ v. v.name) (sym h.unit)) (made_reached c ps top.name (length ps) name r)) in
      let there = placed ps name t.part t.finds in
      record { part = t.part; unit = some_same t.part.unit u (sym there.found ∙ e); there = there; takes = t.takes }

  pub unit_flows : (name : List ℕ) (u : Procedure) → find_unit ps name ≡ Some u → has_tangent c ps top.name name ≡ true → UnitFlows c f ps name u
  unit_flows name u e r =
      let p = part_of name u e r in
      let g = p.part in
      let t = p.there in
      let flows : ListFlows gf f (on g.number) g.entry g.first g.unit.body =
      list_flows k f on is g p.takes (variables u) (arrays_of u) (handed_back ps) (λ n v e. apart n v e) g.first g.entry g.end passing outermost g.unit.body
      (subst (λ v. ListTexts (CallTexts ps (λ n. true) (λ n. true) (arrays_of u) (dummies_of ps)) (variables u) (arrays_of u) (handed_back ps) v.body) (sym p.unit) (texts name u e)) (λ x o. o) (λ s o. o) in
      let over : WayFlows f nothing (last_point g.entry g.first g.unit.body) g.end = passes k f on is g p.takes (last_point g.entry g.first g.unit.body) g.end (ends g.first g.entry g.end passing g.unit.body) in
      let named : UnitFlows c f ps name g.unit = record {
        flows = subst (λ n. ListFlows gf f (on n) (entry_point ps name) (first_statement ps name) g.unit.body) t.number (subst (λ q. ListFlows gf f (on g.number) q (first_statement ps name) g.unit.body) t.entry (subst (λ n. ListFlows gf f (on g.number) g.entry n g.unit.body) t.first flows));
        ends = subst (λ q. WayFlows f nothing (last_point (entry_point ps name) (first_statement ps name) g.unit.body) q) t.end (subst (λ q. WayFlows f nothing (last_point q (first_statement ps name) g.unit.body) g.end) t.entry (subst (λ n. WayFlows f nothing (last_point g.entry n g.unit.body) g.end) t.first over));
        enters = subst (λ n. Within (f (entry_point ps name)) (on n)) t.number (subst (λ q. Within (f q) (on g.number)) t.entry (covers k f on is g p.takes g.entry (points.entry_point g)));
        leaves = subst (λ n. Within (f (end_point ps name)) (on n)) t.number (subst (λ q. Within (f q) (on g.number)) t.end (covers k f on is g p.takes g.end (points.end_point g)));
      } in
      subst (UnitFlows c f ps name) p.unit named

  -- ---- all of it

  pub fits : (m : ℕ) → 1 ≤ m → EachUnit (λ u. AreLight m u.body) ps → TangentFits m c f ps top k.vars
  fits m some light = record {
    there = (each_at (Found ps) k.head ps top (found rules ps checked) at).0;
    source = source;
    some = some;
    light = λ name u e. each_found (λ u. AreLight m u.body) ps (each_unit (λ u. AreLight m u.body) ps light) name u e;
    units = unit_flows;
    begins = λ x mk.
        let h = head in
        let t = h.there in
        subst (λ q. In (plain x) (f q)) t.entry ((is.varied h.part.entry (plain x)).1 (begins (flow.independent h.is_it (subst (λ v. Contains (flagged k.vars v.dummies) x) (sym h.unit) (flagged_has top.dummies k.vars x mk)))));
  }

-- the laws
pub carrying_fits : CarryingFits
carrying_fits rules k checked f on is m some light u at = fits rules k checked f on is u at m some light

pub carrying_is_tangent : CarryingIsTangent
carrying_is_tangent rules k checked f on is m some light u at = emitted_is_tangent m (carried_by k.units on) f k.units k.head k.vars u at (carrying_fits rules k checked f on is m some light u at)
