-- The laws of the sweeps give the flow of tangents.
use Rattle.std.proofs.Common.{◌≡◌, ℕ, suc, Bool, true, false, List, refl, sym, ap, ◌∙◌, subst}
use Rattle.std.specs.Prelude.{◌&&◌, not, Option, Some, None}
use Rattle.adj_tree.specs.Code.{Var, plain, shadow, helper, Term, Terms, Act, assign, choose, loop, during, call, runtime, Code, stop, step}
use Rattle.def_names.specs.Numbers.{Vars, next, behind}
use Rattle.def_names.specs.Numbering.{point_before, point_after}
use Rattle.def_sweep.specs.Facts.{In, Within, without, Facts, whole}
use Rattle.def_names.proofs.Variables.{and_true}
use Rattle.def_sweep.specs.Plan.{beside, IsActual, Schedules, Step, reversed_by, ByStep}
use Rattle.def_sweep.specs.Callees.{nothing, CalleeFacts}
use Rattle.law_sweep.specs.Laws.{just, point_inside, last_point, WayLaws, AssignmentLaws, LoopLaws, PassingLaws, StepLaws, among, is_found, CallLawsBy, ActLawsBy, ListLawsBy}
use Rattle.law_sweep.proofs.Passing.{beside_back}
use Rattle.law_sweep.proofs.CallTangents.{passing_of}
use Rattle.def_tangent.specs.Forward.{Callee}
use Rattle.law_tangent.specs.Laws.{CalleeFlow, WayFlows, AssignmentFlows, LoopFlows, CallFlows, ActFlows, ListFlows}
use Rattle.law_tangent.specs.Carries.{flow_of, callee_flow, CallCarries, ActCarries, ListCarries, LawsFlow}

-- both are true
conj : (a b : Bool) → a ≡ true → b ≡ true → (a && b) ≡ true
conj a b h g = rw (h, g) refl

-- the laws of each call, split or not
passing_by : (b : Bool) (w : Facts) (i : ℕ) (g : CalleeFacts) (given : List (List ℕ)) → CallLawsBy b w i g given → PassingLaws w i g given
passing_by true w i g given l = l.call
passing_by false w i g given l = passing_of l

module _ (r : Schedules) (a : List ℕ → CalleeFacts) (g : List ℕ → Callee) (w : Facts) (on : Vars) where
  abbrev f : ℕ → Vars
  f = flow_of w on

  abbrev gf : List ℕ → CalleeFlow
  gf n = callee_flow (a n) (g n)

  -- a way
  way : (cut : Vars) (p q : ℕ) → Within (without (w.marks.varied p) cut) (w.marks.varied q) → WayFlows f cut p q
  way cut p q h = record {
    varies = λ v e.
        let s = and_true (w.marks.varied p v && on v) (not (cut v)) e in
        let t = and_true (w.marks.varied p v) (on v) s.0 in
        conj (w.marks.varied q v) (on v) (h v (conj (w.marks.varied p v) (not (cut v)) t.0 s.1)) t.1;
  }

  plain_way : (p q : ℕ) → WayLaws w p q → WayFlows f nothing p q
  plain_way p q l = way nothing p q l.tangents.varies

  assigned : (i : ℕ) (x : Var) (subs : Terms) (e : Term) → AssignmentLaws w i x subs e → (In x (w.marks.varied (point_after i)) → In x on) → AssignmentFlows f on i x subs e
  assigned i x subs e l c = record {
    covers = λ v h. (and_true (w.marks.varied (point_before i) v) (on v) h).1;
    carries = λ h. (and_true (w.marks.varied (point_after i) x) (on x) h).1;
    stays = (way (whole x subs) (point_before i) (point_after i) l.tangents.varies).varies;
    goes = λ v o h.
        let t = and_true (w.marks.varied (point_before i) v) (on v) h in
        let after = l.varies_target v o t.0 in
        conj (w.marks.varied (point_after i) x) (on x) after (c after);
  }

  called : (i : ℕ) (name : List ℕ) (given : List (List ℕ)) → PassingLaws w i (a name) given → CallCarries on (a name) (g name) given → CallFlows f on i (gf name) given
  called i name given l c = record {
    covers = λ v h. (and_true (w.marks.varied (point_before i) v) (on v) h).1;
    enters = λ d x is h.
        let t = and_true (w.marks.varied (point_before i) (plain x)) (on (plain x)) h in
        let e = l.varies_in d x (here d x is) t.0 in
        conj (an.facts.marks.varied an.entry (plain d)) ((g name).carried (plain d)) e (c.entry d e);
    leaves = λ d x is h.
        let t = and_true (an.facts.marks.varied an.end (plain d)) ((g name).carried (plain d)) h in
        conj (w.marks.varied (point_after i) (plain x)) (on (plain x)) (l.varies_out d x (here d x is) t.0) (c.lends d x is t.1);
    stays = λ x none h.
        let t = and_true (w.marks.varied (point_before i) (plain x)) (on (plain x)) h in
        conj (w.marks.varied (point_after i) (plain x)) (on (plain x)) (l.tangents.varies (plain x) (conj (w.marks.varied (point_before i) (plain x)) (not (among an.callee.dummies given (plain x))) t.0 (ap not (apart_from x none)))) t.1;
    carries = λ d x is h. c.lends d x is h;
    entered = λ d h. (and_true (an.facts.marks.varied an.entry (plain d)) ((g name).carried (plain d)) h).1;
    left = λ d h. (and_true (an.facts.marks.varied an.end (plain d)) ((g name).carried (plain d)) h).1;
  }
    where
      an : CalleeFacts
      an = a name

      here : (d x : List ℕ) → IsActual (g name).dummies given d x → IsActual an.callee.dummies given d x
      here d x is = subst (λ ds. IsActual ds given d x) (sym c.same) is

      apart_from : (x : List ℕ) → ((d : List ℕ) → IsActual (g name).dummies given d x → ⊥) → among an.callee.dummies given (plain x) ≡ false
      apart_from x none = ap (λ ds. among ds given (plain x)) c.same ∙ go (beside given (g name).dummies x) refl
        where
          go : (o : Option (List ℕ)) → beside given (g name).dummies x ≡ o → is_found o ≡ false
          go None e = refl
          go (Some d) e = absurd (none d (beside_back given (g name).dummies c.given_apart c.apart x d e))

  -- a marked loop that is reversed by a schedule: its step call has laws of its own
  turned : (i : ℕ) (x : Var) (first last by : Term) (body : Code) (s : Step) → StepLaws a w i x first last by body s → ListCarries a g w on (suc i) body → LoopFlows f i x body × ListFlows gf f on (point_inside i) (suc i) body
  turned i (plain x) first last by body s l c =
      let laws = l.1.1 in
      subst (λ z. ListCarries a g w on (suc i) z → LoopFlows f i (plain x) z × ListFlows gf f on (point_inside i) (suc i) z) (sym l.1.0)
      (λ c1. (
        record {
          entry = way (just (plain x)) (point_before i) (point_inside i) laws.entry_tangents.varies;
          again = way (just (plain x)) (point_after (suc i)) (point_inside i) laws.step_tangents.varies;
          exit = plain_way (point_inside i) (point_after i) laws.exit;
        },
        (plain_way (point_inside i) (point_before (suc i)) laws.inside, ((s.given, (refl, called (suc i) s.name s.given laws.call (c1.0 s.given refl))), tt)),
      )) c
  turned i (shadow x) first last by body s l c = absurd l
  turned i (helper o x) first last by body s l c = absurd l

  by_step : (i : ℕ) (x : Var) (first last by : Term) (body : Code) (o : Option Step) → ByStep o (LoopLaws w i x first last by body × ListLawsBy r a w (point_inside i) (suc i) body) (StepLaws a w i x first last by body) → ListCarries a g w on (suc i) body →
      (ListLawsBy r a w (point_inside i) (suc i) body → ListFlows gf f on (point_inside i) (suc i) body) → LoopFlows f i x body × ListFlows gf f on (point_inside i) (suc i) body
  by_step i x first last by body None l c go = (
    record {
      entry = way (just x) (point_before i) (point_inside i) l.0.entry_tangents.varies;
      again = way (just x) (last_point (point_inside i) (suc i) body) (point_inside i) l.0.step_tangents.varies;
      exit = plain_way (point_inside i) (point_after i) l.0.exit;
    },
    go l.1,
  )
  by_step i x first last by body (Some s) l c go = turned i x first last by body s l c

  mutual
    act_flows : (i : ℕ) (s : Act) → ActLawsBy r a w i s → ActCarries a g w on i s → ActFlows gf f on i s
    act_flows i (assign x subs e) l c = assigned i x subs e l c
    act_flows i (choose t s1 s2) l c = (
      (list_flows (point_before i) (suc i) s1 l.1.0 c.0, plain_way (last_point (point_before i) (suc i) s1) (point_after i) l.0.first_end),
      (list_flows (point_before i) (behind (suc i) s1) s2 l.1.1 c.1, plain_way (last_point (point_before i) (behind (suc i) s1) s2) (point_after i) l.0.other_end),
    )
    act_flows i (loop x first last by body m) l c =
        by_step i x first last by body (reversed_by r w.marks.adjointed i body m) l c (λ z. list_flows (point_inside i) (suc i) body z c)
    act_flows i (during t body) l c = (
      (plain_way (point_before i) (point_inside i) l.0.entry, (plain_way (last_point (point_inside i) (suc i) body) (point_inside i) l.0.again, plain_way (point_inside i) (point_after i) l.0.exit)),
      list_flows (point_inside i) (suc i) body l.1 c,
    )
    act_flows i (call name args) l c = (l.0, (l.1.0, called i name l.0 (passing_by (w.marks.split i) w i (a name) l.0 l.1.1) (c l.0 l.1.0)))
    act_flows i (runtime o) l c = absurd l

    list_flows : (p i : ℕ) (c : Code) → ListLawsBy r a w p i c → ListCarries a g w on i c → ListFlows gf f on p i c
    list_flows p i stop l c = tt
    list_flows p i (step line s rest) l c = (plain_way p (point_before i) l.0, (act_flows i s l.1.0 c.0, list_flows (point_after i) (next i s) rest l.1.1 c.1))

-- the law
pub laws_flow : LawsFlow
laws_flow r a g w on p i c l h = list_flows r a g w on p i c l h
