-- What both sweeps of a reversed loop take, along a run that is done and at its price.
use Rattle.std.proofs.Common.{◌≡◌, ◌<◌, ◌≤◌, ℕ, zero, suc, ◌+◌, ◌-◌, ◌*◌, Bool, true, false, List, map, refl, sym, ap, ◌∙◌, subst, arith}
use Rattle.std.specs.Prelude.{ℤ, ◌&&◌, ◌||◌, Some, IsTrue, Ok, length}
use Rattle.adj_tree.specs.Code.{Var, plain, Term, Mark, Act, loop, call, runtime, push_word, pop_word, Code, stop, none, Procedure}
use Rattle.adj_word.specs.Word.{wrap, add}
use Rattle.adj_revolve.specs.Binomial.{beta}
use Rattle.def_meaning.specs.Append.{◌+++◌, one}
use Rattle.def_meaning.specs.LeastSet.{Dummies}
use Rattle.def_meaning.specs.Padded.{own_nodes, padded_program}
use Rattle.def_meaning.specs.Store.{Shape, Store, set}
use Rattle.def_meaning.specs.Value.{Setting, value}
use Rattle.def_meaning.specs.Scene.{Scene, Done, stand, then_do}
use Rattle.def_meaning.specs.Run.{Calls, act, run, turns, stepped, with_turn, trips, in_force, after_loop}
use Rattle.def_meaning.specs.Units.{calls_of}
use Rattle.def_meaning.specs.Written.{find_unit, writes, is_handed_back}
use Rattle.law_meaning.proofs.Inversions.{then_done, value_done, count_done, done_same}
use Rattle.def_names.specs.Numbers.{Vars}
use Rattle.def_sweep.specs.Marks.{Marks}
use Rattle.def_names.specs.Numbering.{point_before, point_after}
use Rattle.def_sweep.specs.Marked.{code_if}
use Rattle.def_sweep.specs.Facts.{In, Facts}
use Rattle.def_meaning.specs.Apart.{AreApart}
use Rattle.law_sweep.specs.Pairs.{Key, on_words}
use Rattle.law_sweep.specs.Scenes.{Course, scene}
use Rattle.def_names.proofs.Variables.{or_false}
use Rattle.def_sweep.specs.Plan.{Plan, IsActual, actuals_named, Schedules, Step, reversed_by, writes_actual}
use Rattle.def_sweep.specs.Rows.{adjoint_call, reset}
use Rattle.def_sweep.specs.ReversalCode.{row_forward, row_backward}
use Rattle.def_sweep.specs.Callees.{CalleeFacts}
use Rattle.law_sweep.specs.Laws.{ReversedLaws, StepLaws}
use Rattle.law_sweep.specs.Kernel.{CallFits, LoopFits, ReversalFits, IsThere, FitsListBy}
use Rattle.def_sweep.specs.MarkedUnits.{units_of}
use Rattle.law_sweep.specs.Passing.{plainly}
use Rattle.def_sweep.specs.Reversals.{ReversedLines}
use Rattle.law_sweep.specs.Steps.{ActualsAgree, StepFits}
use Rattle.def_sweep.specs.StepUnits.{step_units}
use Rattle.law_sweep.specs.Theorem.{plan_of}
use Rattle.def_sweep.specs.Schedules.{schedules_by}
use Rattle.law_sweep.proofs.ByStep.{step_known}
use Rattle.law_sweep.proofs.CallSweeps.{CallTransposed}
use Rattle.law_sweep.proofs.Snapshots.{KnowsArrays}
use Rattle.law_sweep.proofs.Loops.{turning}
use Rattle.law_sweep.proofs.PlainCalls.{at_any_line}
use Rattle.law_sweep.proofs.Slots.{slots_found, slots_marked}
use Rattle.law_sweep.proofs.StepRuns.{StepsRun, steps_run, Chosen, choose_each, turns_few}
use Rattle.law_sweep.proofs.StepCalls as made
use Rattle.law_sweep.proofs.Lists.{unwritten_actual, unsplit_there}
use Rattle.law_cost.specs.Along.{BothCost}
use Rattle.law_cost.specs.Sweeps.{statements_of}
use Rattle.law_cost.proofs.Along.{cost_more, cost_around}
use Rattle.law_cost.proofs.Counting.{some_nodes}
use Rattle.law_cost.proofs.EachCall.{EachCall}
use Rattle.law_cost.proofs.Runs.{left_same}
use Rattle.law_cost.specs.Rows.{StepsTake, row_takes}
use Rattle.law_cost.specs.Sums.{sum_of}
use Rattle.law_cost.proofs.Fair.{named_nodes, turn_price, loop_fair}
use Rattle.law_cost.proofs.Few.{FewIn, CallsTell, same_few, run_tells}
use Rattle.law_cost.proofs.AlongLists.{around_few, pushes_before, straight_behind, LoopCostsBy, forth_by, back_by}
use Rattle.law_cost.proofs.Prices.{ActPays, TurnsPay, pays_stop, pays_step, turns_pay_none, turns_pay_more, pays_loop}
use Rattle.law_cost.proofs.Rows.{reversed_rows_cost}
use Rattle.law_cost.proofs.StepRuns.{steps_spent}

-- what the call of a step costs besides its own statement, and what its adjoint takes
pub record StepPrice : Type 0 where
  pub price : ℕ
  pub most : ℕ

-- no loop is reversed by a schedule where none is
only_schedules : (sb : Bool) (g : List ℕ → CalleeFacts) (adjointed : ℕ → Bool) (i : ℕ) (body : Code) (mark : Mark) (t : Step) → reversed_by (schedules_by sb g) adjointed i body mark ≡ Some t → sb ≡ true
only_schedules true g adjointed i body mark t is = refl
only_schedules false g adjointed i body mark t is = absurd cc

module _ (sb : Bool) (extra : Act → ℕ) (more : (a : Act) → own_nodes a ≤ extra a) (reps : ℕ) (inside : List ℕ → Bool) (ps qs : List Procedure) (depth : ℕ) (lines : ReversedLines) (handed : Dummies) (callees : List ℕ → CalleeFacts) (answers paired carried : List ℕ → Bool) (w : Facts) (present : Bool) (vars : List (List ℕ)) (arrays : Vars) (sh : Var → Shape) (level : ℕ) (xs : List Key) (known : KnowsArrays (plan_of callees w arrays) sh) (rate : ℕ) (four : 4 ≤ rate) where
  abbrev sc : Schedules
  sc = schedules_by sb callees

  abbrev p : Calls ℤ
  p = calls_of ps depth

  abbrev q : Calls ℤ
  q = calls_of qs depth

  abbrev dual : Calls (ℤ × ℤ)
  dual = calls_of ps depth

  abbrev weighed : Calls ℤ
  weighed = calls_of (padded_program extra ps) depth

  abbrev plan : Plan
  plan = plan_of callees w arrays

  abbrev np : Setting ℤ
  np = on_words (plainly sh) level

  abbrev nw : Setting ℤ
  nw = on_words sh level

  abbrev m : Marks
  m = w.marks

  -- a step call that was done: its price, and what it and its adjoint take in the reversal
  pub record StepCosts (name : List ℕ) (given : List (List ℕ)) (at : ℕ) (s e : Scene ℤ) (k left : ℕ) (c : StepPrice) : Type 0 where
    pub least : k ≤ left + c.price
    pub pays : ActPays extra weighed np at (call name (actuals_named given)) s e c.price
    pub fair : sb ≡ true → c.most + suc reps * c.price ≤ rate * c.price
    pub again : present ≡ true → (base : Course) (f : Store ℤ) (t : List ℤ) → ActualsAgree sh (callees name).callee given (callees name).read s.store f → (e1 : Scene ℤ) (k1 left1 : ℕ) → act q nw (call name (actuals_named given)) at (scene base f t) k1 ≡ Done e1 left1 → k1 ≤ left1 + c.price
    pub adjoint : present ≡ true → (base : Course) (f : Store ℤ) (t : List ℤ) → ActualsAgree sh (callees name).callee given (callees name).callee.members s.store f → (e1 : Scene ℤ) (k1 left1 : ℕ) → act q nw (adjoint_call (callees name).callee given) at (scene base f t) k1 ≡ Done e1 left1 → k1 ≤ left1 + c.most

  module _
      (more_steps : sb ≡ true → (x : List ℕ) (a b c : Term) (at : ℕ) (name : List ℕ) (given : List (List ℕ)) (mark : Mark) → own_nodes (loop (plain x) a b c (one at (call name (actuals_named given))) mark) + length given ≤ extra (loop (plain x) a b c (one at (call name (actuals_named given))) mark))
      (called : List ℕ → Type 0) (within : (name : List ℕ) → called name → IsTrue (inside name)) (calls_told : CallsTell sb lines reps (λ n. IsTrue (inside n)) p) (high : sb ≡ true → (name : List ℕ) → called name → (u : Procedure) → find_unit ps name ≡ Some u → 17 + 2 * reps ≤ rate)
      (dummies_apart : (name : List ℕ) (u : Procedure) → find_unit ps name ≡ Some u → IsTrue (inside name) → AreApart (callees name).callee.dummies)
      (flags : (name : List ℕ) (u : Procedure) → find_unit ps name ≡ Some u → IsTrue (inside name) → handed name ≡ map (λ d. (callees name).callee.written (plain d)) (callees name).callee.dummies)
      (swept : (name given : _) (line : ℕ) (s e : Scene ℤ) (k left : ℕ) (kept adjointed : Bool) → IsTrue (inside name) → ((d a : List ℕ) → IsActual (callees name).callee.dummies given d a → In (plain d) (callees name).callee.shadowed → In (plain a) m.shadowed) → CallFits ps vars arrays (callees name) name given → (present ≡ true → adjointed ≡ true → answers name ≡ true) → (present ≡ true → kept ≡ true → carried name ≡ true) → p np name (actuals_named given) line s k ≡ Done e left → CallTransposed q lines dual sh level xs (callees name) given name line kept adjointed present s.store e.store)
      (step_calls : (name given : _) (at : ℕ) (s e : Scene ℤ) (k left : ℕ) → called name → ((d a : List ℕ) → IsActual (callees name).callee.dummies given d a → In (plain d) (callees name).callee.shadowed → In (plain a) m.shadowed) → CallFits ps vars arrays (callees name) name given → (present ≡ true → answers name ≡ true) → (present ≡ true → carried name ≡ true) → p np name (actuals_named given) at s k ≡ Done e left → FewIn sb lines reps e → (c : StepPrice) × StepCosts name given at s e k left c) where
    abbrev Inside : List ℕ → Type 0
    Inside n = IsTrue (inside n)

    -- the turns of such a loop
    module _ (on : sb ≡ true) (x : List ℕ) (a b c : Term) (at : ℕ) (t : Step) (i d line : ℕ) (s e : Scene ℤ) (k left : ℕ) (read_is : t.read ≡ (callees t.name).read) (lf : LoopFits lines line t.mark (units_of callees (Some t)) vars arrays handed x a b c (one at (call t.name (actuals_named t.given)))) (rf : ReversalFits (callees t.name) present (carried t.name) t)
        (fl : FitsListBy sc lines ps callees answers paired carried present m vars arrays handed (suc i) (one at (call t.name (actuals_named t.given)))) (rl : ReversedLaws w i x a b c t.mark (callees t.name) t.given) (reached : m.adjointed (suc i) ≡ true) (n : EachCall called (one at (call t.name (actuals_named t.given))))
        (a0 b0 c0 : ℤ) (l : ℕ) (o : Scene ℤ) (is_a : value np a s.store ≡ Ok a0) (is_b : value np b s.store ≡ Ok b0) (is_c : value np c s.store ≡ Ok c0) (is_l : trips t.mark a0 b0 c0 ≡ Ok l)
        (ran : turns np l (run p np (one at (call t.name (actuals_named t.given)))) (stepped np (plain x) c0) (with_turn np (plain x) (wrap a0) s) k ≡ Done o left) (m0 : ℕ) (force_is : in_force np t.mark s.store ≡ Some m0) (few : FewIn sb lines reps (after_loop line l (in_force np t.mark s.store) o)) where
      abbrev body : Code
      body = one at (call t.name (actuals_named t.given))

      abbrev g : CalleeFacts
      g = callees t.name

      abbrev step_call : Act
      step_call = call t.name (actuals_named t.given)

      abbrev the_loop : Act
      the_loop = loop (plain x) a b c body t.mark

      abbrev after : Scene ℤ → Scene ℤ
      after = stepped np (plain x) c0

      fc : CallFits ps vars arrays g t.name t.given
      fc = fl.0.0 t.given refl

      ins : IsTrue (inside t.name)
      ins = within t.name n.0

      -- its step call isn't split
      emitted_there : IsThere false (answers t.name) (paired t.name) (carried t.name) present (m.adjointed (suc i)) (m.kept (suc i))
      emitted_there = unsplit_there (m.split (suc i)) (answers t.name) (paired t.name) (carried t.name) present (m.adjointed (suc i)) (m.kept (suc i)) rl.unsplit fl.0.1

      free_of : (y : List ℕ) → writes handed (plain y) body ≡ false → writes_actual g.callee t.given (plain y) ≡ false
      free_of y z = unwritten_actual (λ v. g.callee.written (plain v)) y g.callee.dummies t.given fc.many (ap (λ ws. is_handed_back (plain y) ws (actuals_named t.given)) (sym (flags t.name fc.unit fc.found ins)) ∙ (or_false (is_handed_back (plain y) (handed t.name) (actuals_named t.given)) false z).0)

      few_all : FewIn sb lines reps (after_loop line l (Some m0) o)
      few_all = subst (λ z. FewIn sb lines reps (after_loop line l z o)) force_is few

      enough : l ≤ beta m0 reps
      enough = (few_all on).0 (step_units t.name g.callee t.read) (lf.told (slots_marked t.mark rf.slots))

      r : StepsRun np l (run p np body) after (with_turn np (plain x) (wrap a0) s) o k left
      r = steps_run np l (run p np body) after (with_turn np (plain x) (wrap a0) s) o k left ran

      few_before : (h j : ℕ) → j + h ≡ l → FewIn sb lines reps (r.before j)
      few_before zero j is = let here : j ≡ l = omega (arith, is) in same_few sb lines reps (r.before j) o (ap r.before here ∙ r.ends) (λ on. (few_all on).1)
      few_before (suc h) j is =
          let less : j < l = omega (arith, is) in
          let later = few_before h (suc j) (omega (arith, is)) in
          let behind : FewIn sb lines reps (after (r.behind j)) = same_few sb lines reps (after (r.behind j)) (r.before (suc j)) (sym (r.next j less)) later in
          run_tells sb lines reps Inside p calls_told np body (ins, tt) (r.before j) (r.behind j) (r.given j) (r.left j) (r.done j less) behind

      few_behind : (j : ℕ) → j < l → FewIn sb lines reps (r.behind j)
      few_behind j less = same_few sb lines reps (after (r.behind j)) (r.before (suc j)) (sym (r.next j less)) (few_before (l - suc j) (suc j) (omega (arith, less)))

      -- the call of a turn
      record TurnDone (j : ℕ) : Type 0 where
        before : ℕ
        is : r.given j ≡ suc before
        done : p np t.name (actuals_named t.given) at (r.before j) before ≡ Done (r.behind j) (r.left j)

      turn_done : (j : ℕ) → j < l → TurnDone j
      turn_done j less =
          let v = count_done (stand np (r.before j)) (r.given j) (λ z. then_do (p np t.name (actuals_named t.given) at (r.before j) z) (run p np stop)) (r.behind j) (r.left j) (r.done j less) in
          let u = then_done (p np t.name (actuals_named t.given) at (r.before j) v.left) (run p np stop) (r.behind j) (r.left j) v.goes in
          let same = done_same u.scene (r.behind j) u.left (r.left j) u.second in
          let ls = left_same u.scene (r.behind j) u.left (r.left j) u.second in
          record { before = v.left; is = v.is; done = u.first ∙ (λ z. Done (same z) (ls z)) }

      -- and what it costs
      record TurnIs (j : ℕ) (v : StepPrice) : Type 0 where
        turn : TurnDone j
        costs : StepCosts t.name t.given at (r.before j) (r.behind j) turn.before (r.left j) v

      made_turns : Chosen TurnIs l
      made_turns = choose_each TurnIs (record { price = 0; most = 0 }) l (λ j less.
          let v = turn_done j less in
          let z = step_calls t.name t.given at (r.before j) (r.behind j) v.before (r.left j) n.0 rl.call.shadows_actual fc (λ pr. emitted_there.0 pr reached) rf.emitted v.done (few_behind j less) in
          (z.0, record { turn = v; costs = z.1 }))

      abbrev P : ℕ → ℕ
      P j = (made_turns.at j).price

      abbrev A : ℕ → ℕ
      A j = (made_turns.at j).most

      many : length t.given ≤ extra step_call
      many = let a = named_nodes t.given in let h = more step_call in omega (arith, a, h)

      abbrev each_price : ℕ → ℕ
      each_price = turn_price rate reps (length t.given) (extra step_call) P A (high on t.name n.0 fc.unit fc.found) many

      -- the turns from the j-th on
      turns_pay : (h j : ℕ) → j + h ≡ l → TurnsPay extra weighed np h body after (r.before j) o (sum_of each_price j h)
      turns_pay zero j is =
          let here : j ≡ l = omega (arith, is) in
          subst (λ (z : Scene ℤ). TurnsPay extra weighed np 0 body after (r.before j) z 0) (ap r.before here ∙ r.ends) (turns_pay_none extra weighed np body after (r.before j))
      turns_pay (suc h) j is =
          let less : j < l = omega (arith, is) in
          let v = (made_turns.is j less).costs in
          let one_pays = pays_step extra weighed np at step_call stop (r.before j) (r.behind j) (r.behind j) (P j) 0 v.pays (pays_stop extra weighed np (r.behind j)) in
          let others = subst (λ (z : Scene ℤ). TurnsPay extra weighed np h body after z o (sum_of each_price (suc j) h)) (r.next j less) (turns_pay h (suc j) (omega (arith, is))) in
          let z = turns_pay_more extra weighed np h body after (r.before j) (r.behind j) o (extra step_call + 1 + P j + 0) (sum_of each_price (suc j) h) one_pays others in
          let same : extra step_call + 1 + P j + 0 + sum_of each_price (suc j) h + 1 ≡ each_price j + sum_of each_price (suc j) h = omega arith in
          subst (λ v. TurnsPay extra weighed np (suc h) body after (r.before j) o v) same z

      all_pay : TurnsPay extra weighed np l body after (with_turn np (plain x) (wrap a0) s) o (sum_of each_price 0 l)
      all_pay = subst (λ (z : Scene ℤ). TurnsPay extra weighed np l body after z o (sum_of each_price 0 l)) r.starts (turns_pay l 0 (omega arith))

      few_prices : (h j : ℕ) → sum_of (λ i. P i + 1 + 1) j h ≤ sum_of each_price j h
      few_prices zero j = omega arith
      few_prices (suc h) j = let v = few_prices h (suc j) in omega (arith, v)

      all_least : k ≤ left + sum_of each_price 0 l
      all_least =
          let v = steps_spent l k left r.given r.left (λ i. P i + 1) (λ i less. r.counted i less) r.counted_all (λ j less. let u = made_turns.is j less in let a = u.turn.is in let h = u.costs.least in omega (arith, a, h)) in
          let u = few_prices l 0 in
          omega (arith, v, u)

      big : 4 + length t.given ≤ extra the_loop + 1
      big =
          let h = more_steps on x a b c at t.name t.given t.mark in
          let n1 = some_nodes a in let n2 = some_nodes b in let n3 = some_nodes c in
          omega (arith, h, n1, n2, n3)

      abbrev most : ℕ
      most = 3 + row_takes (length t.given) P A l reps

      all_fair : most ≤ rate * (extra the_loop + 1 + sum_of each_price 0 l)
      all_fair = loop_fair rate reps (length t.given) (extra step_call) P A (high on t.name n.0 fc.unit fc.found) many l (extra the_loop + 1) big (λ j less. (made_turns.is j less).costs.fair on)

      -- the sweeps
      module _ (pr : present ≡ true) where
        abbrev U : ℕ → Store ℤ
        U j = (r.before j).store

        abbrev U' : ℕ → Store ℤ
        U' j = (r.behind j).store

        each : (j : ℕ) → j < l → CallTransposed q lines dual sh level xs g t.given t.name at true true true (U j) (U' j)
        each j less =
            let v = turn_done j less in
            subst (λ z. CallTransposed q lines dual sh level xs g t.given t.name at true true z (U j) (U' j)) pr
            (swept t.name t.given at (r.before j) (r.behind j) v.before (r.left j) true true ins rl.call.shadows_actual fc (λ pr z. emitted_there.0 pr reached) (λ pr z. rf.emitted pr) v.done)

        starts : U 0 ≡ set s.store (plain x) 0 (wrap a0)
        starts = ap (λ (z : Scene ℤ). z.store) r.starts

        nexts : (j : ℕ) → j < l → U (suc j) ≡ set (U' j) (plain x) 0 (add (U' j (plain x) 0) c0)
        nexts j less = ap (λ (z : Scene ℤ). z.store) (r.next j less)

        x_free : writes_actual g.callee t.given (plain x) ≡ false
        x_free = free_of x lf.spares

        takes : StepsTake q sh level line g t.given t.name l U P A
        takes = record {
          plain_calls = λ j base f t1 less agree e1 k1 left1 h. (made_turns.is j less).costs.again pr base f t1 agree e1 k1 left1 (at_any_line qs depth nw t.name (actuals_named t.given) line at (scene base f t1) e1 k1 left1 h);
          adjoint_calls = λ j base f t1 less agree e1 k1 left1 h. (made_turns.is j less).costs.adjoint pr base f t1 agree e1 k1 left1 (adjoint_at base f t1 e1 k1 left1 h);
        }
          where
            adjoint_at : (base : Course) (f : Store ℤ) (t1 : List ℤ) (e1 : Scene ℤ) (k1 left1 : ℕ) → act q nw (adjoint_call g.callee t.given) line (scene base f t1) k1 ≡ Done e1 left1 → act q nw (adjoint_call g.callee t.given) at (scene base f t1) k1 ≡ Done e1 left1
            adjoint_at base f t1 e1 k1 left1 h = at_any_line qs depth nw g.callee.adjoint _ line at (scene base f t1) e1 k1 left1 h

        fits : StepFits q sh level xs line x g t.given t.name plan
        fits = record {
          scalars = known;
          one_cell = known x lf.scalar;
          dummies_apart = dummies_apart t.name fc.unit fc.found ins;
          given_apart = fc.apart;
          keeps_variable = x_free;
          other_name = rf.other_name;
          other_adjoint = rf.other_adjoint;
        }

        abbrev needed : Vars
        needed = w.needed (point_before i)

        abbrev held : Vars
        held = w.held (point_after i)

        row : BothCost q sh level (row_forward plan i (suc d) line x a b c t) (row_backward plan i (suc d) line x t) needed held s.store (row_takes (length t.given) P A l reps)
        row = subst (λ (z : Vars). let v : Step = record { name = t.name; given = t.given; read = z; mark = t.mark } in BothCost q sh level (row_forward plan i (suc d) line x a b c v) (row_backward plan i (suc d) line x v) needed held s.store (row_takes (length t.given) P A l reps)) (sym read_is)
            (reversed_rows_cost qs depth sh level xs line x callees t.given t.name w arrays fits i d a b c t.mark rf.slots rl lf.text_first lf.text_last lf.text_step l m0 (turns_few t.mark a0 b0 c0 l (slots_marked t.mark rf.slots) is_l)
            s.store a0 b0 c0 is_a is_b is_c (turning t.mark a0 b0 c0 l is_l).plainly force_is
            (made.change_at q (at_any_line qs depth) lines dual sh level xs g t.given t.name true line at x x_free l a0 c0 s.store U U' starts nexts each)
            (made.loops_at q (at_any_line qs depth) lines dual sh level xs g t.given t.name true line at x x_free l a0 c0 s.store U U' starts nexts each)
            U U' starts nexts
            (made.steps q (at_any_line qs depth) lines dual sh level xs g t.given t.name true line at x x_free l a0 c0 s.store U U' starts nexts each refl)
            P A takes reps enough)

        abbrev pushing : Code
        pushing = code_if (m.saved i (plain x)) (one line (runtime (push_word (plain x) none)))

        abbrev behind_it : Code
        behind_it = code_if (m.saved i (plain x)) (one line (runtime (pop_word (plain x) none))) +++ reset m i line x

        around : BothCost q sh level (pushing +++ row_forward plan i (suc d) line x a b c t) (row_backward plan i (suc d) line x t +++ behind_it) needed held s.store most
        around =
            let v = m.shadowed (plain x) && m.varied (point_before i) (plain x) in
            let few_around = around_few x line (m.saved i (plain x)) v in
            cost_more qs depth sh level (pushing +++ row_forward plan i (suc d) line x a b c t) (row_backward plan i (suc d) line x t +++ behind_it) needed needed held held s.store (row_takes (length t.given) P A l reps + (statements_of pushing + statements_of behind_it)) most (λ v z. z) (λ v z. z) (omega (arith, few_around))
            (cost_around qs depth sh level pushing behind_it (row_forward plan i (suc d) line x a b c t) (row_backward plan i (suc d) line x t) needed held s.store (row_takes (length t.given) P A l reps) (pushes_before x line (m.saved i (plain x))) (straight_behind x line (m.saved i (plain x)) v) row)

        sweeps : BothCost q sh level (forth_by sb extra more reps inside ps qs depth lines handed callees answers paired carried w present vars arrays sh level xs known rate four x a b c body i d line (Some t)) (back_by sb extra more reps inside ps qs depth lines handed callees answers paired carried w present vars arrays sh level xs known rate four x a b c body i d line (Some t)) needed held s.store most
        sweeps = subst (λ v. BothCost q sh level (code_if (v || m.adjointed i) (pushing +++ row_forward plan i (suc d) line x a b c t)) (code_if (v || m.adjointed i) (row_backward plan i (suc d) line x t +++ behind_it)) needed held s.store most) (sym rl.kept) around

      turns_cost : LoopCostsBy sb extra more reps inside ps qs depth lines handed callees answers paired carried w present vars arrays sh level xs known rate four x a b c body t.mark i d line s (after_loop line l (in_force np t.mark s.store) o) k left (Some t)
      turns_cost = record {
        price = sum_of each_price 0 l;
        least = all_least;
        pays = pays_loop extra weighed np line (plain x) a b c body t.mark s o a0 b0 c0 l (sum_of each_price 0 l) is_a is_b is_c is_l all_pay;
        most = most;
        fair = all_fair;
        cost = sweeps;
      }

    -- a DO that is reversed by a schedule: its body is its step call
    step_costs : sb ≡ true → (x : List ℕ) (a b c : Term) (at : ℕ) (t : Step) (i d line : ℕ) (s e : Scene ℤ) (k left : ℕ) →
        let body = one at (call t.name (actuals_named t.given)) in
        t.read ≡ (callees t.name).read → LoopFits lines line t.mark (units_of callees (Some t)) vars arrays handed x a b c body → ReversalFits (callees t.name) present (carried t.name) t → FitsListBy sc lines ps callees answers paired carried present m vars arrays handed (suc i) body → ReversedLaws w i x a b c t.mark (callees t.name) t.given → m.adjointed (suc i) ≡ true → EachCall called body → act p np (loop (plain x) a b c body t.mark) line s k ≡ Done e left → FewIn sb lines reps e → LoopCostsBy sb extra more reps inside ps qs depth lines handed callees answers paired carried w present vars arrays sh level xs known rate four x a b c body t.mark i d line s e k left (Some t)
    step_costs on x a b c at t i d line s e k left read_is lf rf fl rl reached n h few =
        let body = one at (call t.name (actuals_named t.given)) in
        let va = value_done (value np a s.store) line _ _ e left h in
        let vb = value_done (value np b s.store) line _ _ e left va.goes in
        let vc = value_done (value np c s.store) line _ _ e left vb.goes in
        let l = value_done (trips t.mark va.value vb.value vc.value) line _ _ e left vc.goes in
        let o = then_done (turns np l.value (run p np body) (stepped np (plain x) vc.value) (with_turn np (plain x) (wrap va.value) s) k) (λ s1 j. Done (after_loop line l.value (in_force np t.mark s.store) s1) j) e left l.goes in
        let force = slots_found np t.mark s.store rf.slots in
        let ended = done_same (after_loop line l.value (in_force np t.mark s.store) o.scene) e o.left left o.second in
        let ls = left_same (after_loop line l.value (in_force np t.mark s.store) o.scene) e o.left left o.second in
        subst (λ (z : Scene ℤ). LoopCostsBy sb extra more reps inside ps qs depth lines handed callees answers paired carried w present vars arrays sh level xs known rate four x a b c body t.mark i d line s z k left (Some t)) ended
        (turns_cost on x a b c at t i d line s e k left read_is lf rf fl rl reached n va.value vb.value vc.value l.value o.scene va.is vb.is vc.is l.is (o.first ∙ ap (Done o.scene) ls) force.0 force.1 (same_few sb lines reps (after_loop line l.value (in_force np t.mark s.store) o.scene) e ended few))

    pub reversed : (x : List ℕ) (a b c : Term) (body : Code) (mark : Mark) (t : Step) (i d line : ℕ) (s e : Scene ℤ) (k left : ℕ) → reversed_by sc m.adjointed i body mark ≡ Some t → LoopFits lines line mark (units_of callees (Some t)) vars arrays handed x a b c body → ReversalFits (callees t.name) present (carried t.name) t → FitsListBy sc lines ps callees answers paired carried present m vars arrays handed (suc i) body → StepLaws callees w i (plain x) a b c body t → EachCall called body → act p np (loop (plain x) a b c body mark) line s k ≡ Done e left → FewIn sb lines reps e → LoopCostsBy sb extra more reps inside ps qs depth lines handed callees answers paired carried w present vars arrays sh level xs known rate four x a b c body mark i d line s e k left (Some t)
    reversed x a b c body mark t i d line s e k left is lf rf fl laws n h few =
        let on = only_schedules sb callees m.adjointed i body mark t is in
        let known_by = step_known sb callees m.adjointed i body mark t is in
        subst (λ z. LoopFits lines line z (units_of callees (Some t)) vars arrays handed x a b c body → act p np (loop (plain x) a b c body z) line s k ≡ Done e left → LoopCostsBy sb extra more reps inside ps qs depth lines handed callees answers paired carried w present vars arrays sh level xs known rate four x a b c body z i d line s e k left (Some t)) (sym known_by.marked)
        (subst (λ z. FitsListBy sc lines ps callees answers paired carried present m vars arrays handed (suc i) z → EachCall called z → LoopFits lines line t.mark (units_of callees (Some t)) vars arrays handed x a b c z → act p np (loop (plain x) a b c z t.mark) line s k ≡ Done e left → LoopCostsBy sb extra more reps inside ps qs depth lines handed callees answers paired carried w present vars arrays sh level xs known rate four x a b c z t.mark i d line s e k left (Some t)) (sym laws.1.0)
        (λ fl n lf h. step_costs on x a b c laws.0 t i d line s e k left known_by.read lf rf fl laws.1.1 known_by.reached n h few) fl n)
        lf h
