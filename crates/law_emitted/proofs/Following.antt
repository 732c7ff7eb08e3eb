-- What sweeps take from marks and callees is there, by what is known of the units that they call.
use Rattle.std.proofs.Common.{◌≡◌, ℕ, suc, Bool, true, List, [], refl, sym, ap, ◌∙◌, subst}
use Rattle.std.specs.Prelude.{Option, Some, None}
use Rattle.adj_tree.specs.Code.{Terms, Mark, Act, assign, choose, loop, during, call, runtime, Code, stop, step, Procedure}
use Rattle.def_text.specs.Written.{IsName, IsWrittenAct, IsWrittenCode, IsWrittenProcedure}
use Rattle.def_meaning.specs.Apart.{AreApart}
use Rattle.def_meaning.specs.Written.{find_unit}
use Rattle.def_names.specs.CallFaults.{are_actuals_for}
use Rattle.def_names.specs.Numbers.{Vars, next, behind}
use Rattle.def_names.specs.Statements.{inner, statements}
use Rattle.def_kernel.specs.Form.{IsKernelAct, IsKernelCode, AreDistinctNames}
use Rattle.def_sweep.specs.Marking.{ProgramMarks, first_statement, callee_of, callee_in, plan_in}
use Rattle.def_sweep.specs.Names.{adjoint_name, forth_name, back_name}
use Rattle.def_sweep.specs.Plan.{names_of, actuals_named, Schedules, Step, reversed_by, ByStep}
use Rattle.def_sweep.specs.Program.{schedules_in}
use Rattle.def_sweep.specs.Rows.{with_shadows}
use Rattle.law_sweep.specs.Source.{is_unit}
use Rattle.law_sweep.proofs.UnitLists.{found_there}
use Rattle.law_emitted.specs.Shadowed.{AreCarried, HasShadows', HasShadows}
use Rattle.law_emitted.specs.Splits.{MaySplit}
use Rattle.law_emitted.proofs.Lists.{Each, each_front, each_behind}
use Rattle.law_emitted.proofs.Texts.{actuals_given, actuals_apart}
use Rattle.law_emitted.proofs.Statements.{CallHasNone, call_of_unit}
use Rattle.law_emitted.proofs.StepCalls.{step_body, step_mark}
use Rattle.law_emitted.proofs.Actuals.{named_back}
use Rattle.law_emitted.proofs.Over.{Any}
use Rattle.law_emitted.proofs.Follows.{IsCallable, TurnsBack, FollowsActBy, FollowsBy}
use Rattle.law_emitted.proofs.Calling.{MayCall', MayCall, Nothing, calls_any}
use Rattle.law_emitted.proofs.MadeNames.{made_no_runtime}
use Rattle.law_emitted.proofs.Makings.{Making, as_adjoint, as_forth, as_back, its_name, plan_with, its_kept, its_saved, its_plan, its_turns}
use Rattle.law_emitted.proofs.MakingNames.{its_named}
use Rattle.law_emitted.proofs.Sources.{UnitSound}

-- what is known of a CALL in a unit of the source: its unit is there, and its actuals are distinct names, which fit
pub record KnownCall (ps : List Procedure) (u : Procedure) (name : List ℕ) (args : Terms) : Type 0 where
  pub unit : Procedure
  pub found : find_unit ps name ≡ Some unit
  pub fit : are_actuals_for u unit unit.dummies args ≡ true
  pub given : List (List ℕ)
  pub are : args ≡ actuals_named given
  pub distinct : AreApart given

pub known_call : (ps : List Procedure) (u : Procedure) (line : ℕ) (name : List ℕ) (args : Terms) → CallHasNone ps u (line, call name args) → IsWrittenAct (call name args) → IsKernelAct (call name args) → KnownCall ps u name args
known_call ps u line name args c w k =
    let unit = call_of_unit ps u line name args c in
    let given = actuals_given args k w.1 in
    record { unit = unit.unit; found = unit.found; fit = unit.fit; given = given.0; are = given.1; distinct = actuals_apart given.0 (subst AreDistinctNames given.1 k) }

-- its actuals are the names in them
pub names_again : (ps : List Procedure) (u : Procedure) (name : List ℕ) (args : Terms) → KnownCall ps u name args → actuals_named (names_of args) ≡ args
names_again ps u name args c = ap actuals_named (ap names_of c.are ∙ named_back c.given) ∙ sym c.are

module _ (sc : Schedules) (m : ProgramMarks) (ps : List Procedure) (named : Each (λ u. IsName u.name) ps) (u : Procedure) (kept : ℕ → Bool) (saved : ℕ → Vars) (K A S : List ℕ → Type 0) (C B : List ℕ → Terms → Type 0)
    (kept_is : (name : List ℕ) (args : Terms) → KnownCall ps u name args → K name → C name args)
    (adjoint_is : (name : List ℕ) (args : Terms) (c : KnownCall ps u name args) → A name → AreCarried (m.shadowed name) (m.shadowed u.name) c.unit.dummies (names_of args) → B (adjoint_name ps c.unit) (with_shadows (m.shadowed name) c.unit.dummies (names_of args)))
    (forth_is : (name : List ℕ) (args : Terms) (c : KnownCall ps u name args) → S name → C (forth_name ps c.unit) args)
    (back_is : (name : List ℕ) (args : Terms) (c : KnownCall ps u name args) → S name → AreCarried (m.shadowed name) (m.shadowed u.name) c.unit.dummies (names_of args) → B (back_name ps c.unit) (with_shadows (m.shadowed name) c.unit.dummies (names_of args))) where
  -- what is made of a unit that is called may be called
  callable : (name : List ℕ) (args : Terms) (c : KnownCall ps u name args) (k : Making) → IsCallable (its_name ps c.unit k)
  callable name args c k =
      let t = found_there ps name c.unit c.found in
      let its = its_named ps c.unit k named (ap (is_unit ps) t.1 ∙ t.0) in
      (its.0, made_no_runtime (its_name ps c.unit k) its)

  -- what an adjointed call knows of its shadows
  abbrev Shadowing : List ℕ → Terms → Type 0
  Shadowing name args = AreCarried (callee_in m ps name).shadowed (m.shadowed u.name) (callee_in m ps name).dummies (names_of args)

  carried_by : (name : List ℕ) (args : Terms) (c : KnownCall ps u name args) → Shadowing name args → AreCarried (m.shadowed name) (m.shadowed u.name) c.unit.dummies (names_of args)
  carried_by name args c h = subst (λ o. AreCarried (callee_of m ps name o).shadowed (m.shadowed u.name) (callee_of m ps name o).dummies (names_of args)) c.found h

  adjoint_turns : (name : List ℕ) (args : Terms) → KnownCall ps u name args → A name → Shadowing name args → TurnsBack B (plan_with m ps u kept saved) (callee_in m ps name) (callee_in m ps name).adjoint (names_of args)
  adjoint_turns name args c a h =
      subst (λ o. TurnsBack B (plan_with m ps u kept saved) (callee_of m ps name o) (callee_of m ps name o).adjoint (names_of args)) (sym c.found)
      (let carried = carried_by name args c h in (callable name args c (as_adjoint [] []), (carried, adjoint_is name args c a carried)))

  back_turns : (name : List ℕ) (args : Terms) → KnownCall ps u name args → S name → Shadowing name args → TurnsBack B (plan_with m ps u kept saved) (callee_in m ps name) (callee_in m ps name).back (names_of args)
  back_turns name args c s h =
      subst (λ o. TurnsBack B (plan_with m ps u kept saved) (callee_of m ps name o) (callee_of m ps name o).back (names_of args)) (sym c.found)
      (let carried = carried_by name args c h in (callable name args c as_back, (carried, back_is name args c s carried)))

  forth_called : (name : List ℕ) (args : Terms) → KnownCall ps u name args → S name → IsCallable (callee_in m ps name).forth × C (callee_in m ps name).forth args
  forth_called name args c s = subst (λ o. IsCallable (callee_of m ps name o).forth × C (callee_of m ps name o).forth args) (sym c.found) (callable name args c as_forth, forth_is name args c s)

  call_follows : (i : ℕ) (name : List ℕ) (args : Terms) → KnownCall ps u name args → HasShadows' (plan_in m ps u) i (call name args) → MayCall' K A S sc kept m.adjointed m.split i (call name args) → FollowsActBy sc C B (plan_with m ps u kept saved) i (call name args)
  call_follows i name args c h may = (
    λ t s. kept_is name args c (may.0 t s),
    (
      λ t s. adjoint_turns name args c (may.1.0 t s) (h t),
      λ e s. let split = may.1.1 s in (forth_called name args c split.1, back_turns name args c split.1 (h split.0)),
    ),
  )

  -- the step call of a loop that is reversed by a schedule
  step_follows : (i : ℕ) (body : Code) (mark : Mark) (s : Step) → reversed_by sc m.adjointed i body mark ≡ Some s → Each (CallHasNone ps u) (statements body) → IsWrittenCode body → IsKernelCode body → HasShadows (plan_in m ps u) (suc i) body → K s.name → A s.name →
      C s.name (actuals_named s.given) × TurnsBack B (plan_with m ps u kept saved) (callee_in m ps s.name) (callee_in m ps s.name).adjoint s.given
  step_follows i body mark s e =
      step_body (λ c s. Each (CallHasNone ps u) (statements c) → IsWrittenCode c → IsKernelCode c → HasShadows (plan_in m ps u) (suc i) c → K s.name → A s.name → C s.name (actuals_named s.given) × TurnsBack B (plan_with m ps u kept saved) (callee_in m ps s.name) (callee_in m ps s.name).adjoint s.given) there sc m.adjointed i body mark s e
    where
      there : (line : ℕ) (name : List ℕ) (args : Terms) (read : Vars) (n : Mark) → Each (CallHasNone ps u) (statements (step line (call name args) stop)) → IsWrittenCode (step line (call name args) stop) → IsKernelCode (step line (call name args) stop) → HasShadows (plan_in m ps u) (suc i) (step line (call name args) stop) → K name → A name →
          C name (actuals_named (names_of args)) × TurnsBack B (plan_with m ps u kept saved) (callee_in m ps name) (callee_in m ps name).adjoint (names_of args)
      there line name args read n c w k h plain adj =
          let known = known_call ps u line name args c.0 w.0 k.0 in
          (subst (C name) (sym (names_again ps u name args known)) (kept_is name args known plain), adjoint_turns name args known adj (h.0 (step_mark sc m.adjointed i body mark s e).1))

  loop_follows : (i : ℕ) (body : Code) (mark : Mark) → Each (CallHasNone ps u) (statements body) → IsWrittenCode body → IsKernelCode body → HasShadows (plan_in m ps u) (suc i) body → (o : Option Step) → reversed_by sc m.adjointed i body mark ≡ o → ByStep o (Unit {0}) (λ s. K s.name × A s.name) →
      ByStep o (Unit {0}) (λ s. C s.name (actuals_named s.given) × TurnsBack B (plan_with m ps u kept saved) (callee_in m ps s.name) (callee_in m ps s.name).adjoint s.given)
  loop_follows i body mark inside w k h None e may = tt
  loop_follows i body mark inside w k h (Some s) e may = step_follows i body mark s e inside w k h may.0 may.1

  mutual
    act_follows : (i line : ℕ) (a : Act) → CallHasNone ps u (line, a) → Each (CallHasNone ps u) (inner a) → IsWrittenAct a → IsKernelAct a → HasShadows' (plan_in m ps u) i a → MayCall' K A S sc kept m.adjointed m.split i a → FollowsActBy sc C B (plan_with m ps u kept saved) i a
    act_follows i line (assign x subs e) c inside w k h may = h
    act_follows i line (choose t a b) c inside w k h may = (
      code_follows (suc i) a (each_front (CallHasNone ps u) (statements a) (statements b) inside) w.1 k.0 h.0 may.0,
      code_follows (behind (suc i) a) b (each_behind (CallHasNone ps u) (statements a) (statements b) inside) w.2 k.1 h.1 may.1,
    )
    act_follows i line (loop x a b c body mark) d inside w k h may = (loop_follows i body mark inside w.4 k.1 h (reversed_by sc m.adjointed i body mark) refl may.0, code_follows (suc i) body inside w.4 k.1 h may.1)
    act_follows i line (during t body) c inside w k h may = code_follows (suc i) body inside w.1 k h may
    act_follows i line (call name args) c inside w k h may = call_follows i name args (known_call ps u line name args c w k) h may
    act_follows i line (runtime r) c inside w k h may = tt

    pub code_follows : (i : ℕ) (c : Code) → Each (CallHasNone ps u) (statements c) → IsWrittenCode c → IsKernelCode c → HasShadows (plan_in m ps u) i c → MayCall K A S sc kept m.adjointed m.split i c → FollowsBy sc C B (plan_with m ps u kept saved) i c
    code_follows i stop c w k h may = tt
    code_follows i (step line a rest) c w k h may = (
      act_follows i line a c.0 (each_front (CallHasNone ps u) (inner a) (statements rest) c.1) w.0 k.0 h.0 may.0,
      code_follows (next i a) rest (each_behind (CallHasNone ps u) (inner a) (statements rest) c.1) w.1 k.1 h.1 may.1,
    )

-- where nothing is asked of CALLs
any_turns : (k : Making) (name : List ℕ) (args : Terms) → its_turns k Any name args
any_turns (as_adjoint at_turn at_end) name args = tt
any_turns as_forth name args = tt
any_turns as_back name args = tt

pub follows_any : (sb : Bool) (m : ProgramMarks) (ps : List Procedure) → Each (λ u. IsName u.name) ps → (u : Procedure) → UnitSound ps u → HasShadows (plan_in m ps u) (first_statement ps u.name) u.body → MaySplit (schedules_in sb ps) m.adjointed m.split (first_statement ps u.name) u.body → (k : Making) → FollowsBy (schedules_in sb ps) Any (its_turns k Any) (its_plan m ps u k) (first_statement ps u.name) u.body
follows_any sb m ps named u s h may k =
    let written : IsWrittenProcedure u = s.written in
    code_follows (schedules_in sb ps) m ps named u (its_kept m k) (its_saved m k) Nothing Nothing Nothing Any (its_turns k Any) (λ name args c t. tt) (λ name args c t carried. any_turns k _ _) (λ name args c t. tt) (λ name args c t carried. any_turns k _ _) (first_statement ps u.name) u.body s.calls written.body s.kernel h
    (calls_any (schedules_in sb ps) (its_kept m k) m.adjointed m.split (first_statement ps u.name) u.body may)
