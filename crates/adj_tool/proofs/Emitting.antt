-- What is emitted for a kernel by the marks of its plan, and by what carries a tangent in it.
use Rattle.std.proofs.Common.{◌≡◌, ℕ, Bool, true, false, List, Some, refl, sym, ap, ◌∙◌, subst}
use Rattle.std.specs.Prelude.{◌&&◌}
use Rattle.std.specs.List.{slice_get}
use Rattle.adj_tree.specs.Code.{Procedure}
use Rattle.adj_tree.specs.declared.marks.Head.{Head}
use Rattle.adj_tree.specs.declared.marks.Marks as flags
use Rattle.def_names.specs.Fault.{Rules}
use Rattle.def_sweep.specs.MarkedAdjoint.{shadow_flags}
use Rattle.def_sweep.specs.Names.{adjoint_name}
use Rattle.def_sweep.specs.Program.{emitted_program_with}
use Rattle.def_flow.specs.Carried.{IsCarrying, carried_by}
use Rattle.def_tangent.specs.Program.{tangent_program}
use Rattle.law_emitted.specs.Checked.{IsChecked}
use Rattle.law_emitted.specs.Shadowed.{AllHaveShadows}
use Rattle.law_emitted.specs.Splits.{AllMaySplit}
use Rattle.law_planned.proofs.MarkedCalls.{may_split}
use Rattle.def_flow.specs.Analysed.{Analysed}
use Rattle.def_flow.specs.Splits.{is_line, split_calls}
use Rattle.def_planned.specs.ProgramFacts.{program_facts}
use Rattle.adj_reach.specs.Edges.{flag}
use Rattle.adj_flow.specs.Asked.{problem_of, units_of}
use Rattle.adj_flow.specs.declared.units.Flow.{Flow}
use Rattle.adj_flow.specs.Marked.{activity_of, liveness_of, saved_of}
use Rattle.adj_activity.specs.Carried.{carried_of, AreCarried}
use Rattle.adj_plan.specs.Asked.{IsPlan}
use Rattle.adj_weave.specs.Marked.{marks_told}
use Rattle.law_analysed.proofs.Lending.{exact_shadows}
use Rattle.adj_tool.specs.Planned.{problem_for, splits_for, IsEmittedFor, IsKnownFor, IsTangentEmitted}

module _ (us : List Procedure) (f : Flow) (h : Head) (t : flags.Marks) (same : units_of f ≡ us) (x : IsPlan f (problem_of f h) t) (lines : List ℕ) (splits : (n : ℕ) → flag f.split n ≡ split_calls (is_line lines) us n) where
  -- the calls that are flagged are those that the lines mark
  marked : flag f.split ≡ split_calls (is_line lines) us
  marked = λ i n. splits n i

  -- the shadows that the marks use are there
  pub shadows_there : (rules : Rules) → IsChecked rules us → AllHaveShadows (marks_told f t) us us
  shadows_there rules checked =
      subst (λ vs. AllHaveShadows (marks_told f t) vs vs) same
      (exact_shadows rules (problem_of f h) (subst (IsChecked rules) (sym same) checked) (activity_of f t.activity) x.analysed.active (marks_told f t) refl (λ n. refl))

  -- and what they split may be split
  pub splits_there : (rules : Rules) → IsChecked rules us → (schedules : Bool) → AllMaySplit schedules (marks_told f t) us us
  splits_there rules checked schedules = may_split rules us checked schedules (is_line lines) (marks_told f t) (λ i n. marked i n && (marks_told f t).adjointed n)

  abbrev told : (qs : List Procedure) → qs ≡ emitted_program_with true (marks_told f t) us h.unit h.vars h.outvars → IsEmittedFor lines us h qs
  told qs e = record {
    activity = activity_of f t.activity;
    liveness = liveness_of x.needed f t.kept;
    saved = saved_of f t.saved;
    held = x.held;
    analysed =
        let same_problem : problem_of f h ≡ splits_for lines us h = λ i. record { units = same i; head = h.unit; vars = h.vars; outvars = h.outvars; split = marked i } in
        subst (λ k. Analysed k (activity_of f t.activity) (liveness_of x.needed f t.kept) (saved_of f t.saved) x.held) same_problem x.analysed;
    emitted = e ∙ (λ i. emitted_program_with true (program_facts (same i) (marked i) (activity_of f t.activity) (liveness_of x.needed f t.kept) (saved_of f t.saved) x.held).marks us h.unit h.vars h.outvars);
  }

  -- it is what exact analyses have emitted
  pub emitted_for_units : (qs : List Procedure) → qs ≡ emitted_program_with true (marks_told f t) us h.unit h.vars h.outvars → IsEmittedFor lines us h qs
  emitted_for_units qs e = told qs e

  -- with what is known of the adjoint of its head
  pub known_for_units : (qs : List Procedure) → qs ≡ emitted_program_with true (marks_told f t) us h.unit h.vars h.outvars → (adjoint : List ℕ) (shadowed : List Bool) →
      ((u : Procedure) → slice_get us h.unit ≡ Some u → adjoint ≡ adjoint_name us u) → ((u : Procedure) → slice_get us h.unit ≡ Some u → shadowed ≡ shadow_flags ((marks_told f t).shadowed u.name) u.dummies) → IsKnownFor lines us h qs adjoint shadowed
  known_for_units qs e adjoint shadowed named shadows = record {
    emitted = told qs e;
    named = named;
    shadows = λ u at. shadows u at ∙ (λ i. shadow_flags ((program_facts (same i) (marked i) (activity_of f t.activity) (liveness_of x.needed f t.kept) (saved_of f t.saved) x.held).marks.shadowed u.name) u.dummies);
  }

-- where flags tell what carries a tangent, what is emitted by them is what exact analyses have emitted
pub tangent_for_units : (us : List Procedure) (f : Flow) (h : Head) (flags : List Bool) → units_of f ≡ us → AreCarried f h flags → (splits : (n : ℕ) → flag f.split n ≡ false) → (given : List Bool) → given ≡ flags → (qs : List Procedure) →
    qs ≡ tangent_program (carried_by us (carried_of f given)) us h.unit h.vars → IsTangentEmitted us h qs
tangent_for_units us f h flags same x splits given is qs e = record {
  varied = x.varied;
  carried = carried_of f flags;
  exact =
      let same_problem : problem_of f h ≡ problem_for us h = λ i. record { units = same i; head = h.unit; vars = h.vars; outvars = h.outvars; split = λ n. splits n i } in
      subst (λ k. IsCarrying k x.varied (carried_of f flags)) same_problem x.carrying;
  emitted = e ∙ ap (λ fs. tangent_program (carried_by us (carried_of f fs)) us h.unit h.vars) is;
}
