-- What meets the laws way by way and statement by statement meets those of lists, of every kind of statement.
use Rattle.std.proofs.Common.{◌≡◌, inl, inr, ℕ, suc, List, [], ◌∷◌, ◌++◌, Bool, true, false, refl, sym, ap, ◌∙◌, subst, if◌then◌else◌}
use Rattle.std.specs.Prelude.{Contains, ◌||◌, ◌&&◌, not, None}
use Rattle.std.proofs.lemmas.List.Elements.{Contains-append_left, Contains-append_right}
use Rattle.adj_tree.specs.Code.{Var, plain, var_eq, Term, Terms, none, more, Mark, unmarked, with_count, count_from, Act, assign, choose, loop, during, call, runtime, Code, stop, step, Procedure}
use Rattle.def_meaning.specs.Read.{reads_term, reads_mark}
use Rattle.def_names.specs.Numbers.{next, behind}
use Rattle.def_names.specs.Numbering.{point_before, point_after}
use Rattle.def_sweep.specs.Facts.{In, without, vars_if, whole, Facts}
use Rattle.def_names.proofs.Variables.{and_true, not_true, or_right}
use Rattle.law_sweep.specs.Laws.{point_inside, just, ValueLaws, TangentLaws, WayLaws, AssignmentLaws, LoopLaws, IsIdle', IsIdle, last_point, CallLawsBy, StepLaws, ActLawsBy, ListLawsBy}
use Rattle.def_sweep.specs.Callees.{nothing, CalleeFacts}
use Rattle.def_flow.specs.Parts.{Part}
use Rattle.def_flow.specs.Ways.{Deed, passing, assigning, Way, way, act_ways, ways, assigned_on, passed_on}
use Rattle.def_flow.specs.Standing.{Place, part_of, turn_of, body_of, Standing, held_in, standing}
use Rattle.def_flow.specs.Problem.{statements_of, ways_of}
use Rattle.def_flow.specs.Activity.{Holds}
use Rattle.def_flow.specs.Held.{replaced_on}
use Rattle.def_flow.specs.Uses.{is_turn}
use Rattle.law_flow.specs.Laws.{AtAssignment, AtBranch, AtLoop, AtStatement, InUnit}
use Rattle.adj_reach.proofs.Members.{is_first, is_later}
use Rattle.def_flow.proofs.OwnPoints.{own_before}
use Rattle.def_flow.proofs.Sets.{left_in, left_make}
use Rattle.law_analysed.specs.Meets.{IsPlainAct, IsPlainCode, MarkFits, GivesNames}
use Rattle.def_kernel.specs.Form.{IsOneCall}
use Rattle.law_analysed.proofs.TurnLaws.{TurnLaws}
use Rattle.def_sweep.specs.Plan.{actuals_named, Schedules, Step, step_in, reversed_by, ByStep}
use Rattle.def_sweep.specs.Schedules.{schedules_by}
use Rattle.law_sweep.proofs.CallSweeps.{names_are}

-- the last way of a list leads from its last point
pub ends : (i p q : ℕ) (last : Deed) (c : Code) → Contains (ways i p q last c) (way (last_point p i c) q last)
ends i p q last stop = is_first (way p q last) (way p q last) [] refl
ends i p q last (step line a rest) =
    let w = way (last_point (point_after i) (next i a) rest) q last in
    is_later w (way p (point_before i) passing) (act_ways i a ++ ways (next i a) (point_after i) q last rest)
    (Contains-append_right (act_ways i a) (ways (next i a) (point_after i) q last rest) w (ends (next i a) (point_after i) q last rest))

-- what stands in the body of a loop is held by it
holds_body : (i : ℕ) (x : Var) (m : Mark) → Holds i (body_of i x m)
holds_body i x unmarked = refl
holds_body i x (with_count n) = refl
holds_body i x (count_from y) = refl

-- a DO uses its bounds, and its mark
bounds : (a b c d : Bool) → (a || (b || c)) ≡ true → (a || (b || (c || d))) ≡ true
bounds true b c d h = refl
bounds false true c d h = refl
bounds false false true d h = refl
bounds false false false d h = absurd cc

marks : (a b c d : Bool) → d ≡ true → (a || (b || (c || d))) ≡ true
marks a b c d h = or_right a (b || (c || d)) (or_right b (c || d) (or_right c d h))

module _ (units : List Procedure) (gf : List ℕ → CalleeFacts) (w : Facts) (g : Part) (unit : InUnit w g) (stated : (s : Standing) → Contains (statements_of g) s → AtStatement units w s) where
  abbrev Own : ℕ → Place → Act → Type 0
  Own i at a = Contains (statements_of g) (record { number = i; place = at; act = a })

  abbrev OwnWay : ℕ → ℕ → Deed → Type 0
  OwnWay p q d = Contains (ways_of g) (way p q d)

  abbrev AllOwn : List Standing → Type 0
  AllOwn ss = (s : Standing) → Contains ss s → Contains (statements_of g) s

  abbrev AllOwnWays : List Way → Type 0
  AllOwnWays xs = (x : Way) → Contains xs x → Contains (ways_of g) x

  own_first : (s : Standing) (ss : List Standing) → AllOwn (s ∷ ss) → Contains (statements_of g) s
  own_first s ss h = h s (is_first s s ss refl)

  -- ---- ways

  shadows_at : (p q : ℕ) (d : Deed) → OwnWay p q d → (v : Var) → In v (w.marks.varied q) → In v (w.marks.useful q) → In v w.marks.shadowed
  shadows_at p q d c v = unit.shadows q q v (way p q d, c, inr refl) (way p q d, c, inr refl)

  pub values : (p q : ℕ) (d : Deed) → OwnWay p q d → ValueLaws w (assigned_on d) (replaced_on w.marks.kept d) p q
  values p q d c = let o = unit.ways (way p q d) c in record { needs = o.needs; holds = o.holds }

  pub tangents_passing : (p q : ℕ) → OwnWay p q passing → TangentLaws w.marks nothing p q
  tangents_passing p q c =
      let o = unit.ways (way p q passing) c in
      record {
        varies = λ v h. o.varies v (left_make (without (w.marks.varied p) (assigned_on passing)) (passed_on passing) v h refl);
        serves = λ v h. o.serves v (left_make (without (w.marks.useful q) (assigned_on passing)) (passed_on passing) v h refl);
        shadows = shadows_at p q passing c;
      }

  pub tangents_assigning : (p q i : ℕ) (x : Var) → OwnWay p q (assigning i x) → TangentLaws w.marks (just x) p q
  tangents_assigning p q i x c =
      let o = unit.ways (way p q (assigning i x)) c in
      record {
        varies = λ v h. o.varies v (left_make (without (w.marks.varied p) (assigned_on (assigning i x))) (passed_on (assigning i x)) v h refl);
        serves = λ v h. o.serves v (left_make (without (w.marks.useful q) (assigned_on (assigning i x))) (passed_on (assigning i x)) v h refl);
        shadows = shadows_at p q (assigning i x) c;
      }

  pub passes : (p q : ℕ) → OwnWay p q passing → WayLaws w p q
  passes p q c = record { values = values p q passing c; tangents = tangents_passing p q c }

  -- ---- what isn't kept holds nothing that is kept or adjointed

  spare : (n : ℕ) (s : Standing) → Contains (statements_of g) s → Holds n s.place → w.marks.kept n ≡ false → (w.marks.kept s.number ≡ false) × (w.marks.adjointed s.number ≡ false)
  spare n s c h k =
      let o = unit.holders s c in (
        not_true (w.marks.kept s.number) (λ e. let p : true ≡ false = sym (o.keeps n h (inl e)) ∙ k in cc),
        not_true (w.marks.adjointed s.number) (λ e. let p : true ≡ false = sym (o.keeps n h (inr e)) ∙ k in cc),
      )

  mutual
    idle_act : (i : ℕ) (a : Act) → w.marks.kept i ≡ false → w.marks.adjointed i ≡ false → AllOwn (held_in i a) → IsIdle' w.marks i a
    idle_act i (assign x subs e) k d h = (k, d)
    idle_act i (choose c a b) k d h = (
      (k, d),
      (
        idle i (part_of i) (suc i) a k refl (λ s m. h s (Contains-append_left (standing (part_of i) (suc i) a) (standing (part_of i) (behind (suc i) a) b) s m)),
        idle i (part_of i) (behind (suc i) a) b k refl (λ s m. h s (Contains-append_right (standing (part_of i) (suc i) a) (standing (part_of i) (behind (suc i) a) b) s m)),
      ),
    )
    idle_act i (loop x first last by body m) k d h = ((k, d), idle i (body_of i x m) (suc i) body k (holds_body i x m) h)
    idle_act i (during c body) k d h = ((k, d), idle i (part_of i) (suc i) body k refl h)
    idle_act i (call name args) k d h = (k, d)
    idle_act i (runtime r) k d h = (k, d)

    idle : (n : ℕ) (at : Place) (i : ℕ) (c : Code) → w.marks.kept n ≡ false → Holds n at → AllOwn (standing at i c) → IsIdle w.marks i c
    idle n at i stop k o h = tt
    idle n at i (step line a rest) k o h =
        let self : Standing = record { number = i; place = at; act = a } in
        let none = spare n self (own_first self (held_in i a ++ standing at (next i a) rest) h) o k in (
          idle_act i a none.0 none.1 (λ s m. h s (is_later s self (held_in i a ++ standing at (next i a) rest) (Contains-append_left (held_in i a) (standing at (next i a) rest) s m))),
          idle n at (next i a) rest k o (λ s m. h s (is_later s self (held_in i a ++ standing at (next i a) rest) (Contains-append_right (held_in i a) (standing at (next i a) rest) s m))),
        )

  -- ---- assignments

  module _ (i : ℕ) (at : Place) (x : Var) (subs : Terms) (e : Term) (own : Own i at (assign x subs e)) where
    abbrev here : AtStatement units w (record { number = i; place = at; act = assign x subs e })
    here = stated (record { number = i; place = at; act = assign x subs e }) own

    abbrev said : AtAssignment w i x subs e
    said = here.act

    assignment : ValueLaws w (whole x subs) (vars_if (w.marks.kept i) (whole x subs)) (point_before i) (point_after i) → TangentLaws w.marks (whole x subs) (point_before i) (point_after i) → AssignmentLaws w i x subs e
    assignment v t =
        let o : AtAssignment w i x subs e = here.act in
        record {
          values = v;
          tangents = t;
          needs_reads = o.needs;
          needs_uses = here.kept;
          keeps = o.keeps;
          holds_reads = o.holds;
          saves = o.saves;
          varies_target = o.varies;
          serves_target = o.serves;
          adjoints = o.adjoints;
          shadows = λ y. let p = own_before g (record { number = i; place = at; act = assign x subs e }) own in unit.shadows (point_before i) (point_before i) y p p;
        }

  assign_meets : (i : ℕ) (at : Place) (x : Var) (subs : Terms) (e : Term) → AllOwnWays (act_ways i (assign x subs e)) → Own i at (assign x subs e) → AssignmentLaws w i x subs e
  assign_meets i at x none e f own =
      let c : OwnWay (point_before i) (point_after i) (assigning i x) = f (way (point_before i) (point_after i) (assigning i x)) (is_first _ _ [] refl) in
      assignment i at x none e own (values (point_before i) (point_after i) (assigning i x) c) (tangents_assigning (point_before i) (point_after i) i x c)
  assign_meets i at x (more j js) e f own =
      let c : OwnWay (point_before i) (point_after i) passing = f (way (point_before i) (point_after i) passing) (is_first _ _ [] refl) in
      let o = values (point_before i) (point_after i) passing c in
      assignment i at x (more j js) e own
      (record {
        needs = o.needs;
        holds = λ v h. o.holds v (left_make (w.held (point_before i)) (replaced_on w.marks.kept passing) v (left_in (w.held (point_before i)) (vars_if (w.marks.kept i) (whole x (more j js))) v h) refl);
      })
      (tangents_passing (point_before i) (point_after i) c)

  -- ---- every kind of statement, where calls meet theirs

  module _ (sb : Bool) (calls : (i : ℕ) (at : Place) (name : List ℕ) (args : Terms) → (is_turn at ≡ true → w.marks.adjointed i ≡ false) → Own i at (call name args) → GivesNames units name args → (given : List (List ℕ)) × ((args ≡ actuals_named given) × CallLawsBy (w.marks.split i) w i (gf name) given))
      (steps : (i : ℕ) (x name : List ℕ) (given : List (List ℕ)) → w.marks.adjointed (suc i) ≡ true → Own (suc i) (turn_of i (plain x)) (call name (actuals_named given)) → GivesNames units name (actuals_named given) → OwnWay (point_before i) (point_inside i) (assigning i (plain x)) → TurnLaws w i x (gf name) given) where
    abbrev sc : Schedules
    sc = schedules_by sb gf

    -- the laws of a DO, beside those of its body
    loop_laws : (i : ℕ) (at : Place) (x : Var) (first last by : Term) (body : Code) (m : Mark) → AllOwnWays (act_ways i (loop x first last by body m)) → Own i at (loop x first last by body m) → AllOwn (standing (body_of i x m) (suc i) body) → LoopLaws w i x first last by body
    loop_laws i at x first last by body m f own h =
        let here = stated (record { number = i; place = at; act = loop x first last by body m }) own in
        let o : AtLoop w i x = here.act in
        let in_body = ways (suc i) (point_inside i) (point_inside i) (assigning i x) body in
        let enters = way (point_before i) (point_inside i) (assigning i x) in
        let leaves = way (point_inside i) (point_after i) passing in
        let on_body : AllOwnWays in_body = λ y m. f y (is_later y enters (leaves ∷ in_body) (is_later y leaves in_body m)) in
        let entry : OwnWay (point_before i) (point_inside i) (assigning i x) = f enters (is_first enters enters (leaves ∷ in_body) refl) in
        let turn : OwnWay (last_point (point_inside i) (suc i) body) (point_inside i) (assigning i x) = on_body (way (last_point (point_inside i) (suc i) body) (point_inside i) (assigning i x)) (ends (suc i) (point_inside i) (point_inside i) (assigning i x) body) in
        record {
          keeps_adjointed = (let b = o.branch in b.keeps);
          keeps = λ e. idle i (body_of i x m) (suc i) body e (holds_body i x m) h;
          keeps_reset = λ r. let p = and_true (w.marks.shadowed x) (w.marks.varied (point_before i) x) r in (o.resets p.0 p.1).1;
          keeps_variable = o.keeps;
          needs_uses = λ e v r. here.kept e v (bounds (reads_term v first) (reads_term v last) (reads_term v by) (reads_mark v m) r);
          saves = o.saves;
          entry_values = values (point_before i) (point_inside i) (assigning i x) entry;
          entry_tangents = tangents_assigning (point_before i) (point_inside i) i x entry;
          step_values = values (last_point (point_inside i) (suc i) body) (point_inside i) (assigning i x) turn;
          step_tangents = tangents_assigning (last_point (point_inside i) (suc i) body) (point_inside i) i x turn;
          exit = passes (point_inside i) (point_after i) (f leaves (is_later leaves enters (leaves ∷ in_body) (is_first leaves leaves in_body refl)));
          adjoints_reset = λ r. let p = and_true (w.marks.shadowed x) (w.marks.varied (point_before i) x) r in (o.resets p.0 p.1).0;
        }

    -- a marked loop whose body is the call of names: reversed where that is adjointed, else a loop as others
    marked_meets : (i : ℕ) (at : Place) (x : List ℕ) (first last by : Term) (m : Mark) → body_of i (plain x) m ≡ turn_of i (plain x) → (line : ℕ) (name : List ℕ) (given : List (List ℕ)) →
        let body = step line (call name (actuals_named given)) stop in
        AllOwnWays (act_ways i (loop (plain x) first last by body m)) → Own i at (loop (plain x) first last by body m) → AllOwn (standing (body_of i (plain x) m) (suc i) body) → GivesNames units name (actuals_named given) →
        (z : Bool) → w.marks.adjointed (suc i) ≡ z → ByStep (if z then step_in (λ name. (gf name).read) m body else None) (LoopLaws w i (plain x) first last by body × ListLawsBy sc gf w (point_inside i) (suc i) body) (StepLaws gf w i (plain x) first last by body)
    marked_meets i at x first last by m turn line name given f own h k z e = go z e
      where
        the_call : Own (suc i) (turn_of i (plain x)) (call name (actuals_named given))
        the_call = own_first (record { number = suc i; place = turn_of i (plain x); act = call name (actuals_named given) }) [] (subst (λ p. AllOwn (standing p (suc i) (step line (call name (actuals_named given)) stop))) turn h)

        enters_in : OwnWay (point_before i) (point_inside i) (assigning i (plain x))
        enters_in = f (way (point_before i) (point_inside i) (assigning i (plain x))) (is_first (way (point_before i) (point_inside i) (assigning i (plain x))) (way (point_before i) (point_inside i) (assigning i (plain x))) (way (point_inside i) (point_after i) passing ∷ ways (suc i) (point_inside i) (point_inside i) (assigning i (plain x)) (step line (call name (actuals_named given)) stop)) refl)

        inside_in : OwnWay (point_inside i) (point_before (suc i)) passing
        inside_in = f (way (point_inside i) (point_before (suc i)) passing) (is_later (way (point_inside i) (point_before (suc i)) passing) (way (point_before i) (point_inside i) (assigning i (plain x))) (way (point_inside i) (point_after i) passing ∷ ways (suc i) (point_inside i) (point_inside i) (assigning i (plain x)) (step line (call name (actuals_named given)) stop)) (is_later (way (point_inside i) (point_before (suc i)) passing) (way (point_inside i) (point_after i) passing) (ways (suc i) (point_inside i) (point_inside i) (assigning i (plain x)) (step line (call name (actuals_named given)) stop)) (is_first (way (point_inside i) (point_before (suc i)) passing) (way (point_inside i) (point_before (suc i)) passing) (act_ways (suc i) (call name (actuals_named given)) ++ ways (next (suc i) (call name (actuals_named given))) (point_after (suc i)) (point_inside i) (assigning i (plain x)) stop) refl)))

        loop_is : LoopLaws w i (plain x) first last by (step line (call name (actuals_named given)) stop)
        loop_is = loop_laws i at (plain x) first last by (step line (call name (actuals_named given)) stop) m f own h

        go : (z : Bool) → w.marks.adjointed (suc i) ≡ z → ByStep (if z then step_in (λ name. (gf name).read) m (step line (call name (actuals_named given)) stop) else None) (LoopLaws w i (plain x) first last by (step line (call name (actuals_named given)) stop) × ListLawsBy sc gf w (point_inside i) (suc i) (step line (call name (actuals_named given)) stop)) (StepLaws gf w i (plain x) first last by (step line (call name (actuals_named given)) stop))
        go false e = (loop_is, (passes (point_inside i) (point_before (suc i)) inside_in, (calls (suc i) (turn_of i (plain x)) name (actuals_named given) (λ t. e) the_call k, tt)))
        go true e =
            let t = steps i x name given e the_call k enters_in in
            let o = unit.holders (record { number = suc i; place = turn_of i (plain x); act = call name (actuals_named given) }) the_call in
            let l = loop_is in
            let here = stated (record { number = i; place = at; act = loop (plain x) first last by (step line (call name (actuals_named given)) stop) m }) own in
            let kept = o.keeps i refl (inr e) in
            let same = names_are given in
            subst (λ ys. let s : Step = record { name = name; given = ys; read = (gf name).read; mark = m } in StepLaws gf w i (plain x) first last by (step line (call name (actuals_named given)) stop) s) (sym same) (
              line,
              (
                refl,
                record {
                  kept = kept;
                  adjointed = o.adjoints i refl e;
                  unsplit = t.unsplit;
                  needs_uses = l.needs_uses kept;
                  needs_slots = λ v r. here.kept kept v (marks (reads_term v first) (reads_term v last) (reads_term v by) (reads_mark v m) r);
                  needs_members = t.needs_members;
                  holds_reads = λ d y act m v n. l.exit.values.holds (plain y) (left_make (w.held (point_inside i)) nothing (plain y) (t.holds_reads d y act m v n) refl);
                  saves = t.saves;
                  saves_variable = l.saves kept;
                  keeps = t.keeps;
                  entry_values = record { needs = l.entry_values.needs; holds = λ v h. l.entry_values.holds v (kept_so kept (point_before i) v h) };
                  entry_tangents = l.entry_tangents;
                  step_values = record { needs = l.step_values.needs; holds = λ v h. l.step_values.holds v (kept_so kept (point_after (suc i)) v h) };
                  step_tangents = l.step_tangents;
                  exit = l.exit;
                  inside = passes (point_inside i) (point_before (suc i)) inside_in;
                  call = t.call;
                },
              ),
            )
          where
            kept_so : w.marks.kept i ≡ true → (p : ℕ) (v : Var) → In v (without (w.held p) (just (plain x))) → In v (without (w.held p) (vars_if (w.marks.kept i) (just (plain x))))
            kept_so e p v h = ap (λ b. w.held p v && not (b && var_eq v (plain x))) e ∙ h

    -- by its body, which is one call
    turned_meets : (i : ℕ) (at : Place) (x : Var) (first last by : Term) (body : Code) (m : Mark) → ((v : Var) → body_of i v m ≡ turn_of i v) → (y : List ℕ) × (x ≡ plain y) → IsOneCall body → IsPlainCode sb units body →
        AllOwnWays (act_ways i (loop x first last by body m)) → Own i at (loop x first last by body m) → AllOwn (standing (body_of i x m) (suc i) body) →
        ByStep (if w.marks.adjointed (suc i) then step_in (λ name. (gf name).read) m body else None) (LoopLaws w i x first last by body × ListLawsBy sc gf w (point_inside i) (suc i) body) (StepLaws gf w i x first last by body)
    turned_meets i at x first last by stop m turn n k p f own h = absurd k
    turned_meets i at x first last by (step line (assign y subs e) rest) m turn n k p f own h = absurd k
    turned_meets i at x first last by (step line (choose c a b) rest) m turn n k p f own h = absurd k
    turned_meets i at x first last by (step line (loop y a b c d o) rest) m turn n k p f own h = absurd k
    turned_meets i at x first last by (step line (during c a) rest) m turn n k p f own h = absurd k
    turned_meets i at x first last by (step line (runtime r) rest) m turn n k p f own h = absurd k
    turned_meets i at x first last by (step line (call name args) (step l a rest)) m turn n k p f own h = absurd k
    turned_meets i at x first last by (step line (call name args) stop) m turn n k p f own h =
        let g = p.0 in
        subst (λ (v : Var). AllOwnWays (act_ways i (loop v first last by (step line (call name args) stop) m)) → Own i at (loop v first last by (step line (call name args) stop) m) → AllOwn (standing (body_of i v m) (suc i) (step line (call name args) stop)) →
        ByStep (if w.marks.adjointed (suc i) then step_in (λ name. (gf name).read) m (step line (call name args) stop) else None) (LoopLaws w i v first last by (step line (call name args) stop) × ListLawsBy sc gf w (point_inside i) (suc i) (step line (call name args) stop)) (StepLaws gf w i v first last by (step line (call name args) stop))) (sym n.1)
        (subst (λ (es : Terms). GivesNames units name es → AllOwnWays (act_ways i (loop (plain n.0) first last by (step line (call name es) stop) m)) → Own i at (loop (plain n.0) first last by (step line (call name es) stop) m) → AllOwn (standing (body_of i (plain n.0) m) (suc i) (step line (call name es) stop)) →
        ByStep (if w.marks.adjointed (suc i) then step_in (λ name. (gf name).read) m (step line (call name es) stop) else None) (LoopLaws w i (plain n.0) first last by (step line (call name es) stop) × ListLawsBy sc gf w (point_inside i) (suc i) (step line (call name es) stop)) (StepLaws gf w i (plain n.0) first last by (step line (call name es) stop))) (sym g.named)
        (λ gn f own h. marked_meets i at n.0 first last by m (turn (plain n.0)) line name g.given f own h gn (w.marks.adjointed (suc i)) refl) g)
        f own h

    -- a loop with a literal number of snapshots
    counted_meets : (b : Bool) (i : ℕ) (at : Place) (x : Var) (first last by : Term) (body : Code) (n : ℕ) → MarkFits b x body (with_count n) → IsPlainCode sb units body →
        AllOwnWays (act_ways i (loop x first last by body (with_count n))) → Own i at (loop x first last by body (with_count n)) → AllOwn (standing (turn_of i x) (suc i) body) →
        ByStep (reversed_by (schedules_by b gf) w.marks.adjointed i body (with_count n)) (LoopLaws w i x first last by body × ListLawsBy sc gf w (point_inside i) (suc i) body) (StepLaws gf w i x first last by body)
    counted_meets false i at x first last by body n k p f own h = absurd k
    counted_meets true i at x first last by body n k p f own h = turned_meets i at x first last by body (with_count n) (λ v. refl) k.0 k.1 p f own h

    -- and with that of a variable
    valued_meets : (b : Bool) (i : ℕ) (at : Place) (x : Var) (first last by : Term) (body : Code) (y : Var) → MarkFits b x body (count_from y) → IsPlainCode sb units body →
        AllOwnWays (act_ways i (loop x first last by body (count_from y))) → Own i at (loop x first last by body (count_from y)) → AllOwn (standing (turn_of i x) (suc i) body) →
        ByStep (reversed_by (schedules_by b gf) w.marks.adjointed i body (count_from y)) (LoopLaws w i x first last by body × ListLawsBy sc gf w (point_inside i) (suc i) body) (StepLaws gf w i x first last by body)
    valued_meets false i at x first last by body y k p f own h = absurd k
    valued_meets true i at x first last by body y k p f own h = turned_meets i at x first last by body (count_from y) (λ v. refl) k.0 k.1 p f own h

    none_unmarked : (b : Bool) (i : ℕ) (body : Code) → reversed_by (schedules_by b gf) w.marks.adjointed i body unmarked ≡ None
    none_unmarked true i body = refl
    none_unmarked false i body = refl

    mutual
      act_meets : (i : ℕ) (at : Place) (a : Act) → is_turn at ≡ false → IsPlainAct sb units a → AllOwnWays (act_ways i a) → Own i at a → AllOwn (held_in i a) → ActLawsBy sc gf w i a
      act_meets i at (assign x subs e) ord k f own h = assign_meets i at x subs e f own
      act_meets i at (choose c a b) ord k f own h =
          let here = stated (record { number = i; place = at; act = choose c a b }) own in
          let o : AtBranch w i = here.act in
          let first = ways (suc i) (point_before i) (point_after i) passing a in
          let other = ways (behind (suc i) a) (point_before i) (point_after i) passing b in
          let in_first = standing (part_of i) (suc i) a in
          let in_other = standing (part_of i) (behind (suc i) a) b in
          let of_first : AllOwn in_first = λ s m. h s (Contains-append_left in_first in_other s m) in
          let of_other : AllOwn in_other = λ s m. h s (Contains-append_right in_first in_other s m) in
          let on_first : AllOwnWays first = λ x m. f x (Contains-append_left first other x m) in
          let on_other : AllOwnWays other = λ x m. f x (Contains-append_right first other x m) in (
            record {
              keeps_adjointed = o.keeps;
              keeps = λ e. (idle i (part_of i) (suc i) a e refl of_first, idle i (part_of i) (behind (suc i) a) b e refl of_other);
              needs_uses = here.kept;
              first_end = passes (last_point (point_before i) (suc i) a) (point_after i) (on_first (way (last_point (point_before i) (suc i) a) (point_after i) passing) (ends (suc i) (point_before i) (point_after i) passing a));
              other_end =
                  passes (last_point (point_before i) (behind (suc i) a) b) (point_after i)
                  (on_other (way (last_point (point_before i) (behind (suc i) a) b) (point_after i) passing) (ends (behind (suc i) a) (point_before i) (point_after i) passing b));
            },
            (
              list_meets (suc i) (point_before i) (point_after i) passing (part_of i) a refl k.0 on_first of_first,
              list_meets (behind (suc i) a) (point_before i) (point_after i) passing (part_of i) b refl k.1 on_other of_other,
            ),
          )
      act_meets i at (loop x first last by body (with_count n)) ord k f own h = counted_meets sb i at x first last by body n k.0 k.1 f own h
      act_meets i at (loop x first last by body (count_from y)) ord k f own h = valued_meets sb i at x first last by body y k.0 k.1 f own h
      act_meets i at (loop x first last by body unmarked) ord k f own h =
          let in_body = ways (suc i) (point_inside i) (point_inside i) (assigning i x) body in
          let enters = way (point_before i) (point_inside i) (assigning i x) in
          let leaves = way (point_inside i) (point_after i) passing in
          let on_body : AllOwnWays in_body = λ y m. f y (is_later y enters (leaves ∷ in_body) (is_later y leaves in_body m)) in
          subst (λ o. ByStep o (LoopLaws w i x first last by body × ListLawsBy sc gf w (point_inside i) (suc i) body) (StepLaws gf w i x first last by body)) (sym (none_unmarked sb i body))
          (loop_laws i at x first last by body unmarked f own h, list_meets (suc i) (point_inside i) (point_inside i) (assigning i x) (part_of i) body refl k.1 on_body h)
      act_meets i at (during c body) ord k f own h =
          let here = stated (record { number = i; place = at; act = during c body }) own in
          let o : AtBranch w i = here.act in
          let in_body = ways (suc i) (point_inside i) (point_inside i) passing body in
          let enters = way (point_before i) (point_inside i) passing in
          let leaves = way (point_inside i) (point_after i) passing in
          let on_body : AllOwnWays in_body = λ y m. f y (is_later y enters (leaves ∷ in_body) (is_later y leaves in_body m)) in (
            record {
              keeps_adjointed = o.keeps;
              keeps = λ e. idle i (part_of i) (suc i) body e refl h;
              needs_uses = here.kept;
              entry = passes (point_before i) (point_inside i) (f enters (is_first enters enters (leaves ∷ in_body) refl));
              again = passes (last_point (point_inside i) (suc i) body) (point_inside i) (on_body (way (last_point (point_inside i) (suc i) body) (point_inside i) passing) (ends (suc i) (point_inside i) (point_inside i) passing body));
              exit = passes (point_inside i) (point_after i) (f leaves (is_later leaves enters (leaves ∷ in_body) (is_first leaves leaves in_body refl)));
            },
            list_meets (suc i) (point_inside i) (point_inside i) passing (part_of i) body refl k on_body h,
          )
      act_meets i at (call name args) ord k f own h = calls i at name args (λ t. absurd (let c : true ≡ false = sym t ∙ ord in cc)) own k
      act_meets i at (runtime r) ord k f own h = absurd k

      pub list_meets : (i p q : ℕ) (last : Deed) (at : Place) (c : Code) → is_turn at ≡ false → IsPlainCode sb units c → AllOwnWays (ways i p q last c) → AllOwn (standing at i c) → ListLawsBy sc gf w p i c
      list_meets i p q last at stop ord k f h = tt
      list_meets i p q last at (step line a rest) ord k f h =
          let self : Standing = record { number = i; place = at; act = a } in
          let first : Way = way p (point_before i) passing in
          let own = act_ways i a in
          let others = ways (next i a) (point_after i) q last rest in
          let inside = held_in i a in
          let behind_it = standing at (next i a) rest in (
            passes p (point_before i) (f first (is_first first first (own ++ others) refl)),
            (
              act_meets i at a ord k.0 (λ y m. f y (is_later y first (own ++ others) (Contains-append_left own others y m))) (own_first self (inside ++ behind_it) h) (λ s m. h s (is_later s self (inside ++ behind_it) (Contains-append_left inside behind_it s m))),
              list_meets (next i a) (point_after i) q last at rest ord k.1 (λ y m. f y (is_later y first (own ++ others) (Contains-append_right own others y m))) (λ s m. h s (is_later s self (inside ++ behind_it) (Contains-append_right inside behind_it s m))),
            ),
          )
