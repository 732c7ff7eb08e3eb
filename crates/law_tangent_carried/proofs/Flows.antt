-- Through a unit that takes part tangents flow as its tangent asks, where exact analyses say what is varied and what carries a tangent.
use Rattle.std.proofs.Common.{◌≡◌, ℕ, suc, List, [], ◌∷◌, ◌++◌, Bool, true, false, refl, sym, ap, ◌∙◌, subst}
use Rattle.std.specs.Prelude.{Contains, Option, Some, None}
use Rattle.std.proofs.lemmas.List.Elements.{Contains-append_left, Contains-append_right}
use Rattle.adj_tree.specs.Code.{Var, plain, shadow, helper, Term, Terms, none, more, Mark, Act, assign, choose, loop, during, call, runtime, Code, stop, step, Procedure}
use Rattle.def_meaning.specs.Written.{find_unit}
use Rattle.def_meaning.specs.LeastSet.{Dummies}
use Rattle.def_names.specs.Numbers.{Vars, next, behind}
use Rattle.def_names.specs.Numbering.{point_before, point_after}
use Rattle.def_sweep.specs.Facts.{In, Within, without, whole}
use Rattle.def_meaning.specs.Apart.{AreApart}
use Rattle.def_names.proofs.Variables.{not_true}
use Rattle.def_sweep.specs.Plan.{beside, IsActual, actuals_named}
use Rattle.def_sweep.specs.Callees.{nothing}
use Rattle.law_sweep.specs.Laws.{just, point_inside, last_point, is_found}
use Rattle.law_sweep.proofs.Passing.{beside_back}
use Rattle.adj_reach.specs.Reached.{begins, leads}
use Rattle.def_flow.specs.Parts.{Part, parts, find_part}
use Rattle.def_names.specs.StatementsIn.{statements_in}
use Rattle.def_flow.specs.Ways.{Deed, passing, assigning, calling, Way, way, act_ways, ways, assigned_on, passed_on, is_actual}
use Rattle.def_flow.specs.Standing.{Place, part_of, body_of, Standing, held_in, standing}
use Rattle.def_flow.specs.Problem.{Problem, statements_of, ways_of, CallsUnit, TakesPart}
use Rattle.def_flow.specs.Activity.{IsPoint}
use Rattle.def_flow.specs.Flow as flow
use Rattle.adj_reach.proofs.Members.{is_first, is_later}
use Rattle.def_flow.proofs.OwnPoints as points
use Rattle.def_flow.proofs.Placed.{way_of_statement}
use Rattle.def_flow.proofs.Sets.{left_in, left_out, left_make}
use Rattle.law_analysed.proofs.Lists.{ends}
use Rattle.law_analysed.proofs.Numbers.{Placed, placed, has_part}
use Rattle.law_analysed.proofs.Given.{bound_has, passed_among}
use Rattle.law_tangent.specs.Laws.{CalleeFlow, WayFlows, AssignmentFlows, LoopFlows, CallFlows, ActFlows, ListFlows, ActTexts, ListTexts}
use Rattle.law_tangent.specs.Units.{CallText, CallTexts}
use Rattle.def_tangent.specs.Program.{dummies_of}
use Rattle.law_tangent.specs.Source.{flow_in}
use Rattle.law_tangent.proofs.Fitting.{dummies_are}
use Rattle.def_flow.specs.Carried.{IsCarrying, carried_by}
use Rattle.def_flow.specs.Carried.{somewhere, handed}

abbrev all : List ℕ → Bool
all n = true

module _ (k : Problem) (f : ℕ → Vars) (on : ℕ → Vars) (is : IsCarrying k f on) where
  abbrev gf : List ℕ → CalleeFlow
  gf = flow_in (carried_by k.units on) f k.units

  -- what is varied at a point of a unit that takes part carries a tangent
  pub covers : (g : Part) → TakesPart k g → (p : ℕ) → IsPoint g p → Within (f p) (on g.number)
  covers g part p at v h = (is.carried g.number v).1 (begins (somewhere part at ((is.varied p v).0 h)))

  module _ (g : Part) (part : TakesPart k g) where
    abbrev own : Vars
    own = on g.number

    abbrev OwnWay : ℕ → ℕ → Deed → Type 0
    OwnWay p q d = Contains (ways_of g) (way p q d)

    abbrev OwnAct : ℕ → Place → Act → Type 0
    OwnAct i at a = Contains (statements_of g) (record { number = i; place = at; act = a })

    abbrev AllOwn : List Standing → Type 0
    AllOwn ss = (s : Standing) → Contains ss s → Contains (statements_of g) s

    abbrev AllOwnWays : List Way → Type 0
    AllOwnWays xs = (x : Way) → Contains xs x → Contains (ways_of g) x

    -- ---- ways

    varies_on : (x : Way) → Contains (ways_of g) x → Within (without (without (f x.from) (assigned_on x.deed)) (passed_on x.deed)) (f x.to)
    varies_on x c v h =
        let l = left_in (without (f x.from) (assigned_on x.deed)) (passed_on x.deed) v h in
        (is.varied x.to v).1 (leads ((is.varied x.from v).0 (left_in (f x.from) (assigned_on x.deed) v l)) (flow.stays part c (left_out (f x.from) (assigned_on x.deed) v l) (left_out (without (f x.from) (assigned_on x.deed)) (passed_on x.deed) v h)))

    pub passes : (p q : ℕ) → OwnWay p q passing → WayFlows f nothing p q
    passes p q c = record { varies = λ v h. varies_on (way p q passing) c v (left_make (without (f p) (assigned_on passing)) (passed_on passing) v h refl) }

    assigns : (p q i : ℕ) (x : Var) → OwnWay p q (assigning i x) → WayFlows f (just x) p q
    assigns p q i x c = record { varies = λ v h. varies_on (way p q (assigning i x)) c v (left_make (without (f p) (assigned_on (assigning i x))) (passed_on (assigning i x)) v h refl) }

    -- ---- assignments

    assignment : (i : ℕ) (at : Place) (x : Var) (subs : Terms) (e : Term) → OwnAct i at (assign x subs e) → WayFlows f (whole x subs) (point_before i) (point_after i) → AssignmentFlows f own i x subs e
    assignment i at x subs e c w =
        let s : Standing = record { number = i; place = at; act = assign x subs e } in
        record {
          covers = covers g part (point_before i) (points.own_before g s c);
          carries = λ h. covers g part (point_after i) (points.own_after g s c) x h;
          stays = w.varies;
          goes = λ v o h. (is.varied (point_after i) x).1 (leads ((is.varied (point_before i) v).0 h) (flow.assigned part c refl o));
        }

    assigned : (i : ℕ) (at : Place) (x : Var) (subs : Terms) (e : Term) → AllOwnWays (act_ways i (assign x subs e)) → OwnAct i at (assign x subs e) → AssignmentFlows f own i x subs e
    assigned i at x none e w c = assignment i at x none e c (assigns (point_before i) (point_after i) i x (w (way (point_before i) (point_after i) (assigning i x)) (is_first _ _ [] refl)))
    assigned i at x (more j js) e w c = assignment i at x (more j js) e c (passes (point_before i) (point_after i) (w (way (point_before i) (point_after i) passing) (is_first _ _ [] refl)))

    -- ---- calls

    module _ (i : ℕ) (at : Place) (name : List ℕ) (given : List (List ℕ)) (c : OwnAct i at (call name (actuals_named given))) (arrays : Vars) (t : CallText k.units all all arrays (dummies_of k.units name) name given) (apart : AreApart (dummies_of k.units name)) where
      abbrev s : Standing
      s = record { number = i; place = at; act = call name (actuals_named given) }

      found_part : (h : Part) × (find_part (parts k.units) name ≡ Some h)
      found_part = has_part (statements_in 0 k.units) 0 0 k.units name t.unit t.found

      abbrev h : Part
      h = found_part.0

      there : Placed k.units name h
      there = placed k.units name h found_part.1

      calls : CallsUnit k g h s (actuals_named given)
      calls = record { name = name; stands = c; act = refl; finds = found_part.1 }

      takes : TakesPart k h
      takes = leads part (s, actuals_named given, calls)

      same_dummies : dummies_of k.units name ≡ h.unit.dummies
      same_dummies = dummies_are k.units name ∙ ap (Rattle.law_tangent.proofs.Fitting.dummies_in) (let p = there in p.found)

      bound_to : (d x : List ℕ) → IsActual (dummies_of k.units name) given d x → Contains (Rattle.def_flow.specs.Problem.bound h.unit.dummies (actuals_named given)) (d, plain x)
      bound_to d x o = bound_has h.unit.dummies given d x (subst (λ ds. IsActual ds given d x) same_dummies o)

      over : OwnWay (point_before i) (point_after i) (calling (actuals_named given))
      over = way_of_statement g s (way (point_before i) (point_after i) (calling (actuals_named given))) c (is_first _ _ [] refl)

      -- what is no actual isn't passed
      not_passed : (x : List ℕ) → ((d : List ℕ) → IsActual (dummies_of k.units name) given d x → ⊥) → is_actual (plain x) (actuals_named given) ≡ false
      not_passed x none_is = not_true (is_actual (plain x) (actuals_named given)) (λ e. go (beside given (dummies_of k.units name) x) refl (passed_among (dummies_of k.units name) given t.many (plain x) e))
        where
          go : (o : Option (List ℕ)) → beside given (dummies_of k.units name) x ≡ o → is_found o ≡ true → ⊥
          go None e r = cc
          go (Some d) e r = none_is d (beside_back given (dummies_of k.units name) t.apart apart x d e)

      pub called : CallFlows f own i (gf name) given
      called = record {
        covers = covers g part (point_before i) (points.own_before g s c);
        enters = λ d x o e. (let p = there in subst (λ q. In (plain d) (f q)) p.entry ((is.varied h.entry (plain d)).1 (leads ((is.varied (point_before i) (plain x)).0 e) (flow.passed part calls (bound_to d x o)))));
        leaves = λ d x o e. (let p = there in (is.varied (point_after i) (plain x)).1 (leads ((is.varied h.end (plain d)).0 (subst (λ q. In (plain d) (f q)) (sym p.end) e)) (flow.handed part calls (bound_to d x o))));
        stays = λ x n e. varies_on (way (point_before i) (point_after i) (calling (actuals_named given))) over (plain x) (left_make (without (f (point_before i)) (assigned_on (calling (actuals_named given)))) (passed_on (calling (actuals_named given))) (plain x) (left_make (f (point_before i)) (assigned_on (calling (actuals_named given))) (plain x) e refl) (not_passed x n));
        carries = λ d x o e. (let p = there in (is.carried g.number (plain x)).1 (leads ((is.carried h.number (plain d)).0 (subst (λ n. In (plain d) (on n)) (sym p.number) e)) (handed part calls (bound_to d x o))));
        entered = λ d e. (let p = there in subst (λ n. In (plain d) (on n)) p.number (covers h takes h.entry (points.entry_point h) (plain d) (subst (λ q. In (plain d) (f q)) (sym p.entry) e)));
        left = λ d e. (let p = there in subst (λ n. In (plain d) (on n)) p.number (covers h takes h.end (points.end_point h) (plain d) (subst (λ q. In (plain d) (f q)) (sym p.end) e)));
      }

    -- ---- every kind of statement

    module _ (vars : List (List ℕ)) (arrays : Vars) (given_back : Dummies) (apart : (name : List ℕ) (u : Procedure) → find_unit k.units name ≡ Some u → AreApart (dummies_of k.units name)) where
      abbrev Texts : List ℕ → Terms → Type 0
      Texts = CallTexts k.units all all arrays (dummies_of k.units)

      loop_flows : (i : ℕ) (x : Var) (first last by : Term) (body : Code) (m : Mark) → AllOwnWays (act_ways i (loop x first last by body m)) → LoopFlows f i x body
      loop_flows i x first last by body m w =
          let in_body = ways (suc i) (point_inside i) (point_inside i) (assigning i x) body in
          let enters = way (point_before i) (point_inside i) (assigning i x) in
          let leaves = way (point_inside i) (point_after i) passing in
          let turns = way (last_point (point_inside i) (suc i) body) (point_inside i) (assigning i x) in
          record {
            entry = assigns (point_before i) (point_inside i) i x (w enters (is_first enters enters (leaves ∷ in_body) refl));
            again = assigns (last_point (point_inside i) (suc i) body) (point_inside i) i x (w turns (is_later turns enters (leaves ∷ in_body) (is_later turns leaves in_body (ends (suc i) (point_inside i) (point_inside i) (assigning i x) body))));
            exit = passes (point_inside i) (point_after i) (w leaves (is_later leaves enters (leaves ∷ in_body) (is_first leaves leaves in_body refl)));
          }

      mutual
        act_flows : (i : ℕ) (at : Place) (a : Act) → ActTexts Texts vars arrays given_back a → AllOwnWays (act_ways i a) → OwnAct i at a → AllOwn (held_in i a) → ActFlows gf f own i a
        act_flows i at (assign (plain x) subs e) t w c h = assigned i at (plain x) subs e w c
        act_flows i at (assign (shadow x) subs e) t w c h = absurd t
        act_flows i at (assign (helper r n) subs e) t w c h = absurd t
        act_flows i at (choose q a b) t w c h =
            let first = ways (suc i) (point_before i) (point_after i) passing a in
            let other = ways (behind (suc i) a) (point_before i) (point_after i) passing b in
            let in_first = standing (part_of i) (suc i) a in
            let in_other = standing (part_of i) (behind (suc i) a) b in
            let on_first : AllOwnWays first = λ x m. w x (Contains-append_left first other x m) in
            let on_other : AllOwnWays other = λ x m. w x (Contains-append_right first other x m) in (
              (list_flows (suc i) (point_before i) (point_after i) passing (part_of i) a t.1.0 on_first (λ s m. h s (Contains-append_left in_first in_other s m)), passes (last_point (point_before i) (suc i) a) (point_after i) (on_first (way (last_point (point_before i) (suc i) a) (point_after i) passing) (ends (suc i) (point_before i) (point_after i) passing a))),
              (list_flows (behind (suc i) a) (point_before i) (point_after i) passing (part_of i) b t.1.1 on_other (λ s m. h s (Contains-append_right in_first in_other s m)), passes (last_point (point_before i) (behind (suc i) a) b) (point_after i) (on_other (way (last_point (point_before i) (behind (suc i) a) b) (point_after i) passing) (ends (behind (suc i) a) (point_before i) (point_after i) passing b))),
            )
        act_flows i at (loop (plain x) first last by body m) t w c h =
            let in_body = ways (suc i) (point_inside i) (point_inside i) (assigning i (plain x)) body in
            let enters = way (point_before i) (point_inside i) (assigning i (plain x)) in
            let leaves = way (point_inside i) (point_after i) passing in
            (loop_flows i (plain x) first last by body m w, list_flows (suc i) (point_inside i) (point_inside i) (assigning i (plain x)) (body_of i (plain x) m) body t.1 (λ y o. w y (is_later y enters (leaves ∷ in_body) (is_later y leaves in_body o))) h)
        act_flows i at (loop (shadow x) first last by body m) t w c h = absurd t
        act_flows i at (loop (helper r n) first last by body m) t w c h = absurd t
        act_flows i at (during q body) t w c h =
            let in_body = ways (suc i) (point_inside i) (point_inside i) passing body in
            let enters = way (point_before i) (point_inside i) passing in
            let leaves = way (point_inside i) (point_after i) passing in
            let on_body : AllOwnWays in_body = λ y o. w y (is_later y enters (leaves ∷ in_body) (is_later y leaves in_body o)) in (
              (passes (point_before i) (point_inside i) (w enters (is_first enters enters (leaves ∷ in_body) refl)), (passes (last_point (point_inside i) (suc i) body) (point_inside i) (on_body (way (last_point (point_inside i) (suc i) body) (point_inside i) passing) (ends (suc i) (point_inside i) (point_inside i) passing body)), passes (point_inside i) (point_after i) (w leaves (is_later leaves enters (leaves ∷ in_body) (is_first leaves leaves in_body refl))))),
              list_flows (suc i) (point_inside i) (point_inside i) passing (part_of i) body t.1 on_body h,
            )
        act_flows i at (call name args) t w c h =
            let o = t.1.1 in
            (t.0, (t.1.0, called i at name t.0 (subst (λ es. OwnAct i at (call name es)) t.1.0 c) arrays o (apart name o.unit o.found)))
        act_flows i at (runtime r) t w c h = absurd t

        pub list_flows : (i p q : ℕ) (last : Deed) (at : Place) (c : Code) → ListTexts Texts vars arrays given_back c → AllOwnWays (ways i p q last c) → AllOwn (standing at i c) → ListFlows gf f own p i c
        list_flows i p q last at stop t w h = tt
        list_flows i p q last at (step line a rest) t w h =
            let self : Standing = record { number = i; place = at; act = a } in
            let first : Way = way p (point_before i) passing in
            let here = act_ways i a in
            let others = ways (next i a) (point_after i) q last rest in
            let inside = held_in i a in
            let behind_it = standing at (next i a) rest in (
              passes p (point_before i) (w first (is_first first first (here ++ others) refl)),
              (
                act_flows i at a t.0 (λ y o. w y (is_later y first (here ++ others) (Contains-append_left here others y o))) (h self (is_first self self (inside ++ behind_it) refl)) (λ s o. h s (is_later s self (inside ++ behind_it) (Contains-append_left inside behind_it s o))),
                list_flows (next i a) (point_after i) q last at rest t.1 (λ y o. w y (is_later y first (here ++ others) (Contains-append_right here others y o))) (λ s o. h s (is_later s self (inside ++ behind_it) (Contains-append_right inside behind_it s o))),
              ),
            )
