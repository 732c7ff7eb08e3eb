-- What both sweeps take of lists of statements, along a run that is done and at its price.
use Rattle.std.proofs.Common.{◌≡◌, ◌<◌, ◌≤◌, ◌^◌, ℕ, zero, suc, ◌+◌, ◌*◌, Bool, true, false, List, [], ◌++◌, refl, sym, ap, ◌∙◌, subst, arith}
use Rattle.std.specs.Prelude.{ℤ, pos, ◌&&◌, ◌||◌, Option, Some, None, IsTrue, Result, Ok, Err, if◌then◌else◌}
use Rattle.adj_tree.specs.Code.{Var, plain, shadow, helper, name_eq, Term, Terms, Test, Mark, Act, assign, choose, loop, during, call, runtime, push_word, pop_word, Code, stop, step, none, Procedure}
use Rattle.adj_tree.proofs.Names.{name_refl}
use Rattle.adj_word.specs.Word.{wrap, add, mul}
use Rattle.adj_word.proofs.Counting.{start_step, one_step}
use Rattle.def_meaning.specs.Append.{◌+++◌, one}
use Rattle.def_meaning.specs.LeastSet.{Dummies}
use Rattle.def_meaning.specs.Padded.{own_nodes, padded_program}
use Rattle.def_meaning.specs.Trap.{Trap}
use Rattle.def_meaning.specs.Store.{Shape, size_of, Store, set}
use Rattle.def_meaning.specs.Value.{Setting, value, target, holds}
use Rattle.def_meaning.specs.Scene.{Scene, Outcome, Done, Trapped, stand, then_do}
use Rattle.def_meaning.specs.Run.{Calls, act, run, turns, stepped, with_turn, trips, in_force, after_loop, most_tests}
use Rattle.def_meaning.specs.Units.{calls_of}
use Rattle.def_meaning.specs.Read.{reads_term, reads_test}
use Rattle.def_meaning.specs.Written.{writes}
use Rattle.def_meaning.proofs.Appends.{append-stop}
use Rattle.law_meaning.proofs.Inversions.{then_done, value_done, count_done, done_same}
use Rattle.def_names.specs.Numbers.{Vars, next, behind}
use Rattle.def_sweep.specs.Marks.{Marks}
use Rattle.def_names.specs.Numbering.{point_before, point_after}
use Rattle.def_sweep.specs.Marked.{code_if}
use Rattle.def_sweep.specs.Facts.{In, without, Facts}
use Rattle.law_sweep.specs.Pairs.{Key, Words, on_words}
use Rattle.def_names.proofs.Variables.{or_left, or_right, and_true}
use Rattle.def_kernel.specs.Weights.{weight}
use Rattle.def_sweep.specs.Plan.{Plan, actuals_named, is_emitted, found_or, Schedules, Step, reversed_by, ByStep}
use Rattle.def_sweep.specs.Rows.{is_empty, told_forward, told_backward, loop_forward, loop_backward, while_forward, while_backward, reset, literal}
use Rattle.def_sweep.specs.Emission.{forward_act_with, forward_with, backward_act_with, backward_with}
use Rattle.def_sweep.specs.ReversalCode.{row_forward, row_backward}
use Rattle.def_sweep.specs.Callees.{nothing, is_plain, CalleeFacts}
use Rattle.law_sweep.specs.Laws.{WayLaws, point_inside, last_point, ChoiceLaws, LoopLaws, WhileLaws, CallLaws, SplitLaws, CallLawsBy, StepLaws, ActLawsBy, ListLawsBy}
use Rattle.law_sweep.specs.Passing.{plainly}
use Rattle.law_sweep.specs.Kernel.{CallFits, LoopFits, ReversalFits, IsThere, FitsBy, FitsListBy, AllText}
use Rattle.def_sweep.specs.MarkedUnits.{units_of}
use Rattle.def_sweep.specs.Reversals.{ReversedLines, LoopRun}
use Rattle.law_sweep.specs.Runs.{SameOn}
use Rattle.law_sweep.specs.Theorem.{plan_of}
use Rattle.def_sweep.specs.Schedules.{schedules_by}
use Rattle.law_sweep.proofs.Choices.{part}
use Rattle.law_sweep.proofs.Evaluations.{value_again, holds_again}
use Rattle.law_sweep.proofs.Snapshots.{KnowsArrays}
use Rattle.law_sweep.proofs.Idle.{empty_is}
use Rattle.law_sweep.proofs.LoopStatements as turned
use Rattle.law_sweep.proofs.LoopStatements.{Looped, looped_none, looped_more}
use Rattle.law_sweep.proofs.Loops.{turning}
use Rattle.law_sweep.proofs.Sweeps.{Sweeps}
use Rattle.law_sweep.proofs.Tests.{most_small}
use Rattle.law_sweep.proofs.Transposed.{Transposed, transposed_to}
use Rattle.law_sweep.proofs.WhileSweeps as whiles
use Rattle.law_sweep.proofs.WhileSweeps.{TestsSwept}
use Rattle.law_cost.specs.Sweeps.{statements_of}
use Rattle.law_cost.specs.Along.{BothCost}
use Rattle.law_cost.proofs.Counting.{some_nodes, three_nodes}
use Rattle.law_cost.proofs.Bare as bare
use Rattle.law_cost.proofs.EachCall.{EachCall', EachCall, each_inside}
use Rattle.law_cost.proofs.Moved.{IsBare}
use Rattle.law_cost.proofs.Runs.{tested, test_failed, test_held, no_test_held, left_same, IsPushing, IsStraight}
use Rattle.law_cost.proofs.Along.{cost_stop, cost_more, cost_append, cost_silent, cost_told, cost_around}
use Rattle.law_cost.proofs.AlongAssignments.{cost_assign}
use Rattle.law_cost.proofs.AlongTurns.{ToldTurns, told_none, told_more, SilentTurns, silent_none, silent_more}
use Rattle.law_cost.proofs.AlongLoops as loops
use Rattle.law_cost.proofs.AlongWhiles as tests
use Rattle.law_cost.proofs.AlongWhiles.{ToldTests, SilentTests}
use Rattle.law_cost.proofs.Few.{FewIn, GoTells, CallsTell, same_few, turns_tell, loop_told, tests_tell, run_tells}
use Rattle.law_cost.proofs.Sums.{times_sum, times_more}
use Rattle.law_cost.proofs.Prices.{Pays, ActPays, TurnsPay, TestsPay, pays_stop, pays_step, pays_choose, turns_pay_none, turns_pay_more, pays_loop, tests_pay_none, tests_pay_more, pays_assign}

-- what stands around the loop in both sweeps
pub around_few : (x : List ℕ) (line : ℕ) (v r : Bool) → statements_of (code_if v (one line (runtime (push_word (plain x) none)))) + statements_of (code_if v (one line (runtime (pop_word (plain x) none))) +++ code_if r (one line (assign (shadow x) none (literal 0)))) ≤ 3
around_few x line true true = omega arith
around_few x line true false = omega arith
around_few x line false true = omega arith
around_few x line false false = omega arith

pub pushes_before : (x : List ℕ) (line : ℕ) (v : Bool) → IsPushing (code_if v (one line (runtime (push_word (plain x) none))))
pushes_before x line true = tt
pushes_before x line false = tt

pub straight_behind : (x : List ℕ) (line : ℕ) (v r : Bool) → IsStraight (code_if v (one line (runtime (pop_word (plain x) none))) +++ code_if r (one line (assign (shadow x) none (literal 0))))
straight_behind x line true true = (tt, tt)
straight_behind x line true false = (tt, tt)
straight_behind x line false true = tt
straight_behind x line false false = tt

module _ (sb : Bool) (extra : Act → ℕ) (more : (a : Act) → own_nodes a ≤ extra a) (reps : ℕ) (inside : List ℕ → Bool) (ps qs : List Procedure) (depth : ℕ) (lines : ReversedLines) (handed : Dummies) (callees : List ℕ → CalleeFacts) (answers paired carried : List ℕ → Bool) (w : Facts) (present : Bool) (vars : List (List ℕ)) (arrays : Vars) (sh : Var → Shape) (level : ℕ) (xs : List Key) (known : KnowsArrays (plan_of callees w arrays) sh) (rate : ℕ) (four : 4 ≤ rate) where
  abbrev sc : Schedules
  sc = schedules_by sb callees

  abbrev p : Calls ℤ
  p = calls_of ps depth

  abbrev q : Calls ℤ
  q = calls_of qs depth

  abbrev dual : Calls (ℤ × ℤ)
  dual = calls_of ps depth

  abbrev weighed : Calls ℤ
  weighed = calls_of (padded_program extra ps) depth

  abbrev plan : Plan
  plan = plan_of callees w arrays

  abbrev np : Setting ℤ
  np = on_words (plainly sh) level

  abbrev nw : Setting ℤ
  nw = on_words sh level

  abbrev m : Marks
  m = w.marks

  -- a statement that was done: its price, and what its sweeps take
  pub record ActCosts (i d line : ℕ) (a : Act) (s e : Scene ℤ) (k left : ℕ) : Type 0 where
    pub price : ℕ
    pub least : k ≤ left + price
    pub pays : ActPays extra weighed np line a s e price
    pub most : ℕ
    pub fair : most ≤ rate * (extra a + 1 + price)
    pub cost : present ≡ true → BothCost q sh level (forward_act_with sc plan i d line a) (backward_act_with sc plan i d line a) (w.needed (point_before i)) (w.held (point_after i)) s.store most

  -- a list
  pub record ListCosts (from i d : ℕ) (c : Code) (s e : Scene ℤ) (k left : ℕ) : Type 0 where
    pub price : ℕ
    pub least : k ≤ left + price
    pub pays : Pays extra weighed np c s e price
    pub most : ℕ
    pub fair : most ≤ rate * price
    pub cost : present ≡ true → BothCost q sh level (forward_with sc plan i d c) (backward_with sc plan i d c) (w.needed from) (w.held (last_point from i c)) s.store most

  -- the sweeps of a DO, by how it is reversed
  abbrev pub forth_by : (x : List ℕ) (a b c : Term) (body : Code) (i d line : ℕ) → Option Step → Code
  forth_by x a b c body i d line o =
      code_if (is_emitted m i)
      (code_if (m.saved i (plain x)) (one line (runtime (push_word (plain x) none)))
      +++ found_or o (loop_forward (is_empty (backward_with sc plan (suc i) (suc d) body)) (suc d) line (plain x) a b c (forward_with sc plan (suc i) (suc d) body)) (λ s. row_forward plan i (suc d) line x a b c s))

  abbrev pub back_by : (x : List ℕ) (a b c : Term) (body : Code) (i d line : ℕ) → Option Step → Code
  back_by x a b c body i d line o =
      code_if (is_emitted m i)
      (found_or o (loop_backward (is_empty (backward_with sc plan (suc i) (suc d) body)) (suc d) line (plain x) (backward_with sc plan (suc i) (suc d) body)) (λ s. row_backward plan i (suc d) line x s)
      +++ (code_if (m.saved i (plain x)) (one line (runtime (pop_word (plain x) none)))
      +++ reset m i line x))

  -- a DO that was done, where it is reversed so
  pub record LoopCostsBy (x : List ℕ) (a b c : Term) (body : Code) (mark : Mark) (i d line : ℕ) (s e : Scene ℤ) (k left : ℕ) (o : Option Step) : Type 0 where
    pub price : ℕ
    pub least : k ≤ left + price
    pub pays : ActPays extra weighed np line (loop (plain x) a b c body mark) s e price
    pub most : ℕ
    pub fair : most ≤ rate * (extra (loop (plain x) a b c body mark) + 1 + price)
    pub cost : present ≡ true → BothCost q sh level (forth_by x a b c body i d line o) (back_by x a b c body i d line o) (w.needed (point_before i)) (w.held (point_after i)) s.store most

  -- what fits has no runtime calls
  bare_list : (called : List ℕ → Type 0) (within : (name : List ℕ) → called name → IsTrue (inside name)) (i : ℕ) (c : Code) → FitsListBy sc lines ps callees answers paired carried present m vars arrays handed i c → EachCall called c → IsBare (λ n. IsTrue (inside n)) c
  bare_list called within i c f h = bare.bare_list sc lines ps callees answers paired carried present m vars arrays handed inside i c f (each_inside called inside within c h)

  without_none : (a : Vars) (v : Var) → In v a → In v (without a nothing)
  without_none a v h = rw h refl

  -- what the bounds come to
  fair_act : (x pr extra most : ℕ) → extra ≤ 4 * x → most ≤ rate * pr → most + extra ≤ rate * (x + pr)
  fair_act x pr extra most le h = let l = times_more 4 rate x four in let e = times_sum rate x pr in omega (arith, le, h, l, e)

  -- an IF
  choice_costs : (c : Test) (a b : Code) (i d line : ℕ) (s e : Scene ℤ) (k left : ℕ) (ran : Bool) → AllText (λ v. reads_test v c) → ChoiceLaws w i c a b → holds np c s.store ≡ Ok ran → (price : ℕ) → k ≤ left + price → Pays extra weighed np (part ran a b) s e price → (most : ℕ) → most ≤ rate * price →
      (present ≡ true → BothCost q sh level (part ran (forward_with sc plan (suc i) d a) (forward_with sc plan (behind (suc i) a) d b)) (part ran (backward_with sc plan (suc i) d a) (backward_with sc plan (behind (suc i) a) d b)) (w.needed (point_before i)) (w.held (point_after i)) s.store most) → ActCosts i d line (choose c a b) s e k left
  choice_costs c a b i d line s e k left ran text laws is price least pays most fair cost =
      let nodes = three_nodes c in
      record {
        price = price;
        least = least;
        pays = pays_choose extra weighed np line c a b s e ran price is pays;
        most = most + 4;
        fair = let least_is = more (choose c a b) in fair_act (extra (choose c a b) + 1) price 4 most (omega (arith, nodes, least_is)) fair;
        cost = λ pr. emitted (cost pr) (m.kept i) refl (m.adjointed i) refl;
      }
    where
      fa : Code
      fa = forward_with sc plan (suc i) d a

      fb : Code
      fb = forward_with sc plan (behind (suc i) a) d b

      ba : Code
      ba = backward_with sc plan (suc i) d a

      bb : Code
      bb = backward_with sc plan (behind (suc i) a) d b

      n : Vars
      n = w.needed (point_before i)

      h : Vars
      h = w.held (point_after i)

      rows : BothCost q sh level (part ran fa fb) (part ran ba bb) n h s.store most → m.kept i ≡ true → (idle : Bool) → (is_empty ba && is_empty bb) ≡ idle → BothCost q sh level (one line (choose c (told_forward idle line fa 1) (told_forward idle line fb 0))) (told_backward idle line ba bb) n h s.store (most + 4)
      rows x k true o =
          let o2 = and_true (is_empty ba) (is_empty bb) o in
          cost_more qs depth sh level (one line (choose c fa fb)) stop n n h h s.store (most + 1) (most + 4) (λ v z. z) (λ v z. z) (omega arith)
          (cost_silent qs depth sh level line c ran fa fb ba bb n h s.store most (λ f g. holds_again sh level n s.store f g c text (laws.needs_uses k) ∙ is) x (empty_is ba o2.0) (empty_is bb o2.1))
      rows x k false o = cost_told qs depth sh level line c ran fa fb ba bb n h s.store most (λ f g. holds_again sh level n s.store f g c text (laws.needs_uses k) ∙ is) x

      emitted : BothCost q sh level (part ran fa fb) (part ran ba bb) n h s.store most → (k : Bool) → m.kept i ≡ k → (t : Bool) → m.adjointed i ≡ t → BothCost q sh level (code_if (k || t) (one line (choose c (told_forward (is_empty ba && is_empty bb) line fa 1) (told_forward (is_empty ba && is_empty bb) line fb 0)))) (code_if (k || t) (told_backward (is_empty ba && is_empty bb) line ba bb)) n h s.store (most + 4)
      emitted x true ek t et = rows x ek (is_empty ba && is_empty bb) refl
      emitted x false ek true et = absurd (let r : true ≡ false = sym (laws.keeps_adjointed et) ∙ ek in cc)
      emitted x false ek false et = cost_more qs depth sh level stop stop n n h h s.store 0 (most + 4) (λ v z. z) (λ v z. z) (omega arith) (cost_stop qs depth sh level n h s.store)

  -- ---- a DO

  module _ (i d line : ℕ) (x : List ℕ) (one_cell : size_of (sh (plain x)) ≡ 1) (ea eb ec : Term) (body : Code) (laws : LoopLaws w i (plain x) ea eb ec body) (spares : writes handed (plain x) body ≡ false) (a0 c0 : ℤ) where
    abbrev Fb : Code
    Fb = forward_with sc plan (suc i) (suc d) body

    abbrev Bb : Code
    Bb = backward_with sc plan (suc i) (suc d) body

    abbrev n_in : ℕ
    n_in = point_inside i

    abbrev n_last : ℕ
    n_last = last_point n_in (suc i) body

    abbrev wr : Vars
    wr = λ v. writes handed v body

    abbrev inert : Bool
    inert = is_plain m (suc i) body

    abbrev IsLooped : ℕ → ℕ → Store ℤ → Store ℤ → Type 0
    IsLooped t j u u' = Looped p q lines dual sh level xs w d present i line x one_cell ea eb ec body Fb Bb laws wr spares inert a0 c0 t j u u'

    abbrev IsTold : ℕ → ℕ → Store ℤ → ℕ → Type 0
    IsTold t j u most = ToldTurns qs depth sh level xs d line x one_cell a0 c0 (w.needed n_in) (w.needed n_last) (w.held n_in) (w.held n_last) (turned.needs p q lines dual sh level xs w d present i line x one_cell ea eb ec body Fb Bb laws wr spares inert a0 c0) (turned.holds p q lines dual sh level xs w d present i line x one_cell ea eb ec body Fb Bb laws wr spares inert a0 c0) Fb Bb wr spares t j u most

    abbrev IsSilent : ℕ → Store ℤ → ℕ → Type 0
    IsSilent t u most = SilentTurns qs depth sh level xs d line x one_cell a0 c0 (w.needed n_in) (w.needed n_last) (w.held n_in) (w.held n_last) (turned.needs p q lines dual sh level xs w d present i line x one_cell ea eb ec body Fb Bb laws wr spares inert a0 c0) (turned.holds p q lines dual sh level xs w d present i line x one_cell ea eb ec body Fb Bb laws wr spares inert a0 c0) Fb Bb wr spares t u most

    -- t turns from the j-th on
    pub record LoopCosts (t j : ℕ) (s e : Scene ℤ) (k left : ℕ) : Type 0 where
      pub looped : IsLooped t j s.store e.store
      pub price : ℕ
      pub least : k ≤ left + price
      pub pays : TurnsPay extra weighed np t body (stepped np (plain x) c0) s e price
      pub most : ℕ
      pub fair : most ≤ rate * price
      pub told : present ≡ true → IsTold t j s.store most
      pub silent : present ≡ true → Bb ≡ stop → IsSilent t s.store most

    costs_none : (j : ℕ) (s : Scene ℤ) (k left : ℕ) → k ≡ left → LoopCosts 0 j s s k left
    costs_none j s k left all_left = record {
      looped = looped_none p q lines dual sh level xs w d present i line x one_cell ea eb ec body Fb Bb laws wr spares inert a0 c0 j s.store;
      price = 0;
      least = omega (arith, all_left);
      pays = turns_pay_none extra weighed np body (stepped np (plain x) c0) s;
      most = 0;
      fair = omega arith;
      told = λ pr. told_none qs depth sh level xs d line x one_cell a0 c0 (w.needed n_in) (w.needed n_last) (w.held n_in) (w.held n_last) (turned.needs p q lines dual sh level xs w d present i line x one_cell ea eb ec body Fb Bb laws wr spares inert a0 c0) (turned.holds p q lines dual sh level xs w d present i line x one_cell ea eb ec body Fb Bb laws wr spares inert a0 c0) Fb Bb wr spares j s.store;
      silent = λ pr n. silent_none qs depth sh level xs d line x one_cell a0 c0 (w.needed n_in) (w.needed n_last) (w.held n_in) (w.held n_last) (turned.needs p q lines dual sh level xs w d present i line x one_cell ea eb ec body Fb Bb laws wr spares inert a0 c0) (turned.holds p q lines dual sh level xs w d present i line x one_cell ea eb ec body Fb Bb laws wr spares inert a0 c0) Fb Bb wr spares s.store;
    }

    -- what a turn does and takes
    pub record TurnCosts (s e : Scene ℤ) (k left : ℕ) : Type 0 where
      pub transposed : Transposed q lines dual sh level xs w (suc d) present wr inert n_in n_last body Fb Bb s.store e.store
      pub keeps : e.store (plain x) 0 ≡ s.store (plain x) 0
      pub costs : ListCosts n_in (suc i) (suc d) body s e k left

    fair_turn : (pb pr mb mr : ℕ) → mb ≤ rate * pb → mr ≤ rate * pr → mb + mr + 4 ≤ rate * (pb + pr + 1)
    fair_turn pb pr mb mr hb hr = let l = times_more 4 rate 1 four in let e = times_sum rate (pb + pr) 1 in let f = times_sum rate pb pr in omega (arith, hb, hr, l, e, f)

    costs_more : (t j : ℕ) (s s1 e : Scene ℤ) (k before middle left : ℕ) → k ≡ suc before → suc j < 2 ^ 63 → s.store (plain x) 0 ≡ add a0 (mul (pos j) c0) → TurnCosts s s1 before middle → LoopCosts t (suc j) (stepped np (plain x) c0 s1) e middle left → LoopCosts (suc t) j s e k left
    costs_more t j s s1 e k before middle left is_k small value_is turn rest =
        let c = turn.costs in
        let least1 = c.least in let least2 = rest.least in
        record {
          looped = looped_more p q lines dual sh level xs w d present i line x one_cell ea eb ec body Fb Bb laws wr spares inert a0 c0 t j s.store s1.store e.store small value_is turn.keeps turn.transposed rest.looped;
          price = c.price + rest.price + 1;
          least = omega (arith, is_k, least1, least2);
          pays = turns_pay_more extra weighed np t body (stepped np (plain x) c0) s s1 e c.price rest.price c.pays rest.pays;
          most = c.most + rest.most + 4;
          fair = fair_turn c.price rest.price c.most rest.most c.fair rest.fair;
          told = λ pr.
              told_more qs depth sh level xs d line x one_cell a0 c0 (w.needed n_in) (w.needed n_last) (w.held n_in) (w.held n_last) (turned.needs p q lines dual sh level xs w d present i line x one_cell ea eb ec body Fb Bb laws wr spares inert a0 c0) (turned.holds p q lines dual sh level xs w d present i line x one_cell ea eb ec body Fb Bb laws wr spares inert a0 c0) Fb Bb wr spares
              t j s.store s1.store e.store turn.transposed.change rest.looped.tangents.change turn.transposed.loops rest.looped.tangents.loops c.most rest.most small value_is turn.keeps (turn.transposed.sweeps pr) (rest.looped.told pr) (c.cost pr) (rest.told pr);
          silent = λ pr n. higher (suc t) s.store (c.most + rest.most + 1) (c.most + rest.most + 4) (omega arith)
              (silent_more qs depth sh level xs d line x one_cell a0 c0 (w.needed n_in) (w.needed n_last) (w.held n_in) (w.held n_last) (turned.needs p q lines dual sh level xs w d present i line x one_cell ea eb ec body Fb Bb laws wr spares inert a0 c0) (turned.holds p q lines dual sh level xs w d present i line x one_cell ea eb ec body Fb Bb laws wr spares inert a0 c0) Fb Bb wr spares
              t s.store s1.store turn.transposed.change turn.transposed.loops c.most rest.most turn.keeps n (turn.transposed.sweeps pr) (c.cost pr) (rest.silent pr n));
        }
      where
        higher : (t : ℕ) (u : Store ℤ) (a b : ℕ) → a ≤ b → IsSilent t u a → IsSilent t u b
        higher t u a b le h = record { at = λ base f l same v s k left r. let z = h.at base f l same v s k left r in omega (arith, le, z) }

    -- all turns of a run
    pub loop_costs : GoTells sb lines reps (run p np body) → ((s e : Scene ℤ) (k left : ℕ) → run p np body s k ≡ Done e left → FewIn sb lines reps e → TurnCosts s e k left) → (t j : ℕ) (s e : Scene ℤ) (k left : ℕ) → j + t < 2 ^ 63 → s.store (plain x) 0 ≡ add a0 (mul (pos j) c0) → turns np t (run p np body) (stepped np (plain x) c0) s k ≡ Done e left → FewIn sb lines reps e → LoopCosts t j s e k left
    loop_costs tells each zero j s e k left small is h few = subst (λ (z : Scene ℤ). LoopCosts 0 j s z k left) (done_same s e k left h) (costs_none j s k left (left_same s e k left h))
    loop_costs tells each (suc t) j s e k left small is h few =
        let r = count_done _ k (λ l. then_do (run p np body s l) (λ s1 o. turns np t (run p np body) (stepped np (plain x) c0) (stepped np (plain x) c0 s1) o)) e left h in
        let o = then_done (run p np body s r.left) (λ s1 o. turns np t (run p np body) (stepped np (plain x) c0) (stepped np (plain x) c0 s1) o) e left r.goes in
        let turn = each s o.scene r.left o.left o.first (turns_tell sb lines reps np (run p np body) tells (plain x) c0 t (stepped np (plain x) c0 o.scene) e o.left left o.second few) in
        let next_is : set o.scene.store (plain x) 0 (add (o.scene.store (plain x) 0) c0) (plain x) 0 ≡ add a0 (mul (pos (suc j)) c0) = rw (name_refl x) (ap (λ v. add v c0) (turn.keeps ∙ is) ∙ one_step a0 c0 j) in
        costs_more t j s o.scene e k r.left o.left left r.is (omega arith) is turn (loop_costs tells each t (suc j) (stepped np (plain x) c0 o.scene) e o.left left (omega arith) next_is o.second few)

    module _ (b0 : ℤ) (mark : Mark) (t : ℕ) (s e : Scene ℤ) (is_a : value np ea s.store ≡ Ok a0) (is_b : value np eb s.store ≡ Ok b0) (is_c : value np ec s.store ≡ Ok c0) (turns_is : trips mark a0 b0 c0 ≡ Ok t) (text_a : AllText (λ v. reads_term v ea)) (text_b : AllText (λ v. reads_term v eb)) (text_c : AllText (λ v. reads_term v ec)) (before after : ℕ) (l : LoopCosts t 0 (with_turn np (plain x) (wrap a0) s) e before after) where
      abbrev n : Vars
      n = w.needed (point_before i)

      needs_in : (y : List ℕ) → name_eq y x ≡ false → In (plain y) (w.needed n_in) → In (plain y) n
      needs_in y f h = laws.entry_values.needs (plain y) (rw (h, f) refl)

      first_again : m.kept i ≡ true → (f : Store ℤ) → SameOn sh n s.store f → value nw ea f ≡ Ok a0
      first_again k f g = value_again sh level n s.store f g ea text_a (λ v h. laws.needs_uses k v (or_left (reads_term v ea) (reads_term v eb || reads_term v ec) h)) ∙ is_a

      last_again : m.kept i ≡ true → (f : Store ℤ) → SameOn sh n s.store f → value nw eb f ≡ Ok b0
      last_again k f g = value_again sh level n s.store f g eb text_b (λ v h. laws.needs_uses k v (or_right (reads_term v ea) (reads_term v eb || reads_term v ec) (or_left (reads_term v eb) (reads_term v ec) h))) ∙ is_b

      step_again : m.kept i ≡ true → (f : Store ℤ) → SameOn sh n s.store f → value nw ec f ≡ Ok c0
      step_again k f g = value_again sh level n s.store f g ec text_c (λ v h. laws.needs_uses k v (or_right (reads_term v ea) (reads_term v eb || reads_term v ec) (or_right (reads_term v eb) (reads_term v ec) h))) ∙ is_c

      -- the loop itself in both sweeps
      row : present ≡ true → m.kept i ≡ true → (idle : Bool) → is_empty Bb ≡ idle → BothCost q sh level (loop_forward idle (suc d) line (plain x) ea eb ec Fb) (loop_backward idle (suc d) line (plain x) Bb) n (w.held n_in) s.store (l.most + 11)
      row pr k true o =
          cost_more qs depth sh level (loop_forward true (suc d) line (plain x) ea eb ec Fb) (loop_backward true (suc d) line (plain x) Bb) n n (w.held n_in) (w.held n_in) s.store (l.most + 1) (l.most + 11) (λ v z. z) (λ v z. z) (omega arith)
          (loops.cost_silent qs depth sh level xs d line x one_cell a0 b0 c0 n (w.needed n_in) (w.needed n_last) (w.held n_in) (w.held n_last) (turned.needs p q lines dual sh level xs w d present i line x one_cell ea eb ec body Fb Bb laws wr spares inert a0 c0) (turned.holds p q lines dual sh level xs w d present i line x one_cell ea eb ec body Fb Bb laws wr spares inert a0 c0) needs_in ea eb ec Fb Bb wr spares t
          (turning mark a0 b0 c0 t turns_is).small (turning mark a0 b0 c0 t turns_is).plainly s.store e.store (first_again k) (last_again k) (step_again k) l.most (l.silent pr (empty_is Bb o)))
      row pr k false o =
          loops.cost_told qs depth sh level xs d line x one_cell a0 b0 c0 n (w.needed n_in) (w.needed n_last) (w.held n_in) (w.held n_last) (turned.needs p q lines dual sh level xs w d present i line x one_cell ea eb ec body Fb Bb laws wr spares inert a0 c0) (turned.holds p q lines dual sh level xs w d present i line x one_cell ea eb ec body Fb Bb laws wr spares inert a0 c0) needs_in ea eb ec Fb Bb wr spares t
          (turning mark a0 b0 c0 t turns_is).small (turning mark a0 b0 c0 t turns_is).plainly s.store e.store (first_again k) (last_again k) (step_again k) l.looped.tangents.change l.looped.tangents.loops l.most (l.looped.told pr) (l.told pr)

      abbrev pushing : Code
      pushing = code_if (m.saved i (plain x)) (one line (runtime (push_word (plain x) none)))

      abbrev behind_it : Code
      behind_it = code_if (m.saved i (plain x)) (one line (runtime (pop_word (plain x) none))) +++ reset m i line x

      pub kept_cost : present ≡ true → m.kept i ≡ true → BothCost q sh level (pushing +++ loop_forward (is_empty Bb) (suc d) line (plain x) ea eb ec Fb) (loop_backward (is_empty Bb) (suc d) line (plain x) Bb +++ behind_it) n (w.held (point_after i)) s.store (l.most + 14)
      kept_cost pr k =
          let r = m.shadowed (plain x) && m.varied (point_before i) (plain x) in
          let few = around_few x line (m.saved i (plain x)) r in
          cost_more qs depth sh level (pushing +++ loop_forward (is_empty Bb) (suc d) line (plain x) ea eb ec Fb) (loop_backward (is_empty Bb) (suc d) line (plain x) Bb +++ behind_it) n n (w.held (point_after i)) (w.held n_in) s.store (l.most + 11 + (statements_of pushing + statements_of behind_it)) (l.most + 14) (λ v z. z) (λ v h. laws.exit.values.holds v (without_none (w.held n_in) v h)) (omega (arith, few))
          (cost_around qs depth sh level pushing behind_it (loop_forward (is_empty Bb) (suc d) line (plain x) ea eb ec Fb) (loop_backward (is_empty Bb) (suc d) line (plain x) Bb) n (w.held n_in) s.store (l.most + 11) (pushes_before x line (m.saved i (plain x))) (straight_behind x line (m.saved i (plain x)) r) (row pr k (is_empty Bb) refl))

      pub emitted_cost : present ≡ true → (k : Bool) → m.kept i ≡ k → (a : Bool) → m.adjointed i ≡ a → BothCost q sh level (code_if (k || a) (pushing +++ loop_forward (is_empty Bb) (suc d) line (plain x) ea eb ec Fb)) (code_if (k || a) (loop_backward (is_empty Bb) (suc d) line (plain x) Bb +++ behind_it)) n (w.held (point_after i)) s.store (l.most + 14)
      emitted_cost pr true ek a ea' = kept_cost pr ek
      emitted_cost pr false ek true ea' = absurd (let c : true ≡ false = sym (laws.keeps_adjointed ea') ∙ ek in cc)
      emitted_cost pr false ek false ea' = cost_more qs depth sh level stop stop n n (w.held (point_after i)) (w.held (point_after i)) s.store 0 (l.most + 14) (λ v z. z) (λ v z. z) (omega arith) (cost_stop qs depth sh level n (w.held (point_after i)) s.store)

  zero_more : (n : ℕ) → n < 2 ^ 63 → 0 + n < 2 ^ 63
  zero_more n h = omega arith

  -- a DO that was done
  do_costs : (x : List ℕ) (a b c : Term) (body : Code) (mark : Mark) (i d line : ℕ) (s e : Scene ℤ) (k left : ℕ) → (fits : LoopFits lines line mark None vars arrays handed x a b c body) → (laws : LoopLaws w i (plain x) a b c body) → act p np (loop (plain x) a b c body mark) line s k ≡ Done e left → FewIn sb lines reps e → GoTells sb lines reps (run p np body) →
      ((a0 c0 : ℤ) (s0 e0 : Scene ℤ) (k0 l0 : ℕ) → run p np body s0 k0 ≡ Done e0 l0 → FewIn sb lines reps e0 → TurnCosts i d line x (known x fits.scalar) a b c body laws fits.spares a0 c0 s0 e0 k0 l0) → LoopCostsBy x a b c body mark i d line s e k left None
  do_costs x a b c body mark i d line s e k left fits laws h few tells each =
      let va = value_done (value np a s.store) line _ _ e left h in
      let vb = value_done (value np b s.store) line _ _ e left va.goes in
      let vc = value_done (value np c s.store) line _ _ e left vb.goes in
      let t = value_done (trips mark va.value vb.value vc.value) line _ _ e left vc.goes in
      let o = then_done (turns np t.value (run p np body) (stepped np (plain x) vc.value) (with_turn np (plain x) (wrap va.value) s) k) (λ s1 j. Done (after_loop line t.value (in_force np mark s.store) s1) j) e left t.goes in
      let ended = done_same (after_loop line t.value (in_force np mark s.store) o.scene) e o.left left o.second in
      let few_then = loop_told sb lines reps line t.value (in_force np mark s.store) o.scene (same_few sb lines reps (after_loop line t.value (in_force np mark s.store) o.scene) e ended few) in
      subst (λ (z : Scene ℤ). LoopCostsBy x a b c body mark i d line s z k left None) ended
      (of_turns va.value vb.value vc.value t.value o.scene va.is vb.is vc.is t.is few_then (o.first ∙ ap (Done o.scene) (left_same (after_loop line t.value (in_force np mark s.store) o.scene) e o.left left o.second)))
    where
      of_turns : (a0 b0 c0 : ℤ) (t : ℕ) (o : Scene ℤ) → value np a s.store ≡ Ok a0 → value np b s.store ≡ Ok b0 → value np c s.store ≡ Ok c0 → trips mark a0 b0 c0 ≡ Ok t → FewIn sb lines reps o → turns np t (run p np body) (stepped np (plain x) c0) (with_turn np (plain x) (wrap a0) s) k ≡ Done o left →
          LoopCostsBy x a b c body mark i d line s (after_loop line t (in_force np mark s.store) o) k left None
      of_turns a0 b0 c0 t o is_a is_b is_c is_t few_o g =
          let start = with_turn np (plain x) (wrap a0) s in
          let at_first : start.store (plain x) 0 ≡ add a0 (mul (pos 0) c0) = rw (name_refl x) (start_step a0 c0) in
          let costs = loop_costs i d line x (known x fits.scalar) a b c body laws fits.spares a0 c0 tells (λ s0 e0 k0 l0 r fw. each a0 c0 s0 e0 k0 l0 r fw) t 0 start o k left (zero_more t (turning mark a0 b0 c0 t is_t).small) at_first g few_o in
          let n1 = some_nodes a in let n2 = some_nodes b in let n3 = some_nodes c in
          record {
            price = costs.price;
            least = costs.least;
            pays = pays_loop extra weighed np line (plain x) a b c body mark s o a0 b0 c0 t costs.price is_a is_b is_c is_t costs.pays;
            most = costs.most + 14;
            fair = let least_is = more (loop (plain x) a b c body mark) in fair_act (extra (loop (plain x) a b c body mark) + 1) costs.price 14 costs.most (omega (arith, n1, n2, n3, least_is)) costs.fair;
            cost = λ pr. emitted_cost i d line x (known x fits.scalar) a b c body laws fits.spares a0 c0 b0 mark t s o is_a is_b is_c is_t fits.text_first fits.text_last fits.text_step k left costs pr (m.kept i) refl (m.adjointed i) refl;
          }

  -- ---- a DO WHILE

  module _ (i d line : ℕ) (c : Test) (body : Code) (laws : WhileLaws w i c body) (text : AllText (λ v. reads_test v c)) where
    abbrev Fw : Code
    Fw = forward_with sc plan (suc i) (suc d) body

    abbrev Bw : Code
    Bw = backward_with sc plan (suc i) (suc d) body

    abbrev n_test : ℕ
    n_test = point_inside i

    abbrev ww : Vars
    ww = λ v. writes handed v body

    -- the tests that are left, and their turns from the j-th on
    pub record TestsCosts (left j : ℕ) (s e : Scene ℤ) (k k1 : ℕ) : Type 0 where
      pub change : Words → Words
      pub reversed : List LoopRun
      pub swept : present ≡ true → m.kept i ≡ true → TestsSwept q sh level xs d line c (w.needed n_test) (w.held n_test) Fw Bw ww left j s.store e.store change reversed
      pub price : ℕ
      pub least : k ≤ k1 + price
      pub pays : TestsPay extra weighed np c line left body s e price
      pub most : ℕ
      pub fair : most ≤ rate * price
      pub told : (pr : present ≡ true) (k : m.kept i ≡ true) → ToldTests qs depth sh level xs d line c (w.needed n_test) (w.held n_test) Fw Bw ww text (laws.needs_uses k) left j s.store e.store change reversed (swept pr k) most
      pub silent : (pr : present ≡ true) (k : m.kept i ≡ true) → Bw ≡ stop → SilentTests qs depth sh level xs d line c (w.needed n_test) (w.held n_test) Fw Bw ww text (laws.needs_uses k) left s.store most

    costs_failed : (left j : ℕ) (s : Scene ℤ) (k k1 : ℕ) → k ≡ k1 → j < 2 ^ 63 → holds np c s.store ≡ Ok false → TestsCosts left j s s k k1
    costs_failed left j s k k1 all_left small fails = record {
      change = λ z. z;
      reversed = [];
      swept = λ pr k. whiles.swept_none q sh level xs d line c (w.needed n_test) (w.held n_test) Fw Bw ww text (laws.needs_uses k) left j s.store small fails;
      price = 0;
      least = omega (arith, all_left);
      pays = tests_pay_none extra weighed np c line left body s fails;
      most = 0;
      fair = omega arith;
      told = λ pr k. tests.told_none qs depth sh level xs d line c (w.needed n_test) (w.held n_test) Fw Bw ww text (laws.needs_uses k) left j s.store s.store (λ z. z) [] (whiles.swept_none q sh level xs d line c (w.needed n_test) (w.held n_test) Fw Bw ww text (laws.needs_uses k) left j s.store small fails) fails;
      silent = λ pr k n. tests.silent_none qs depth sh level xs d line c (w.needed n_test) (w.held n_test) Fw Bw ww text (laws.needs_uses k) left s.store fails;
    }

    -- what a turn does and takes, from test to test
    pub record WhileTurn (s e : Scene ℤ) (k left : ℕ) : Type 0 where
      pub transposed : Transposed q lines dual sh level xs w (suc d) present ww (is_plain m (suc i) body) n_test n_test body Fw Bw s.store e.store
      pub price : ℕ
      pub least : k ≤ left + price
      pub pays : Pays extra weighed np body s e price
      pub most : ℕ
      pub fair : most ≤ rate * price
      pub cost : present ≡ true → BothCost q sh level Fw Bw (w.needed n_test) (w.held n_test) s.store most

    fair_test : (pb pr mb mr : ℕ) → mb ≤ rate * pb → mr ≤ rate * pr → mb + mr + 3 ≤ rate * (pb + pr + 1)
    fair_test pb pr mb mr hb hr = let l = times_more 4 rate 1 four in let e = times_sum rate (pb + pr) 1 in let f = times_sum rate pb pr in omega (arith, hb, hr, l, e, f)

    costs_held : (left j : ℕ) (s s1 e : Scene ℤ) (k middle before k1 : ℕ) → middle ≡ suc before → suc j < 2 ^ 63 → holds np c s.store ≡ Ok true → WhileTurn s s1 k middle → TestsCosts left (suc j) s1 e before k1 → TestsCosts (suc left) j s e k k1
    costs_held left j s s1 e k middle before k1 is_middle small held_there turn rest =
        let t = turn.transposed in
        let least1 = turn.least in let least2 = rest.least in
        record {
          change = λ z. rest.change (t.change z);
          reversed = rest.reversed ++ t.loops;
          swept = λ pr k. whiles.swept_more q sh level xs d line c (w.needed n_test) (w.held n_test) Fw Bw ww text (laws.needs_uses k) left j s.store s1.store e.store t.change rest.change t.loops rest.reversed small held_there (t.sweeps pr) (rest.swept pr k);
          price = turn.price + rest.price + 1;
          least = omega (arith, is_middle, least1, least2);
          pays = tests_pay_more extra weighed np c line left body s s1 e turn.price rest.price held_there turn.pays rest.pays;
          most = turn.most + rest.most + 3;
          fair = fair_test turn.price rest.price turn.most rest.most turn.fair rest.fair;
          told = λ pr k.
              tests.told_more qs depth sh level xs d line c (w.needed n_test) (w.held n_test) Fw Bw ww text (laws.needs_uses k) left j s.store s1.store e.store t.change rest.change (λ z. rest.change (t.change z)) t.loops rest.reversed (rest.reversed ++ t.loops) turn.most rest.most small held_there (t.sweeps pr) (rest.swept pr k)
              (whiles.swept_more q sh level xs d line c (w.needed n_test) (w.held n_test) Fw Bw ww text (laws.needs_uses k) left j s.store s1.store e.store t.change rest.change t.loops rest.reversed small held_there (t.sweeps pr) (rest.swept pr k)) (turn.cost pr) (rest.told pr k);
          silent = λ pr k n.
              let x = tests.silent_more qs depth sh level xs d line c (w.needed n_test) (w.held n_test) Fw Bw ww text (laws.needs_uses k) left s.store s1.store t.change t.loops turn.most rest.most n held_there (t.sweeps pr) (turn.cost pr) (rest.silent pr k n) in
              record { at = λ base f l same z k1 left1 r. let y = x.at base f l same z k1 left1 r in omega (arith, y) };
        }

    -- all tests of a run
    tests_costs : ((m : ℕ) → GoTells sb lines reps (tested p np c line m body)) → ((s e : Scene ℤ) (k left : ℕ) → run p np body s k ≡ Done e left → FewIn sb lines reps e → WhileTurn s e k left) → (left j : ℕ) (s e : Scene ℤ) (k k1 : ℕ) → j + left < 2 ^ 63 → tested p np c line left body s k ≡ Done e k1 → FewIn sb lines reps e → TestsCosts left j s e k k1
    tests_costs tells each zero j s e k k1 small h few = go (holds np c s.store) refl
      where
        go : (r : Result Bool Trap) → holds np c s.store ≡ r → TestsCosts 0 j s e k k1
        go (Err t) is = let g : (let o : Outcome (Scene ℤ) = Trapped t line (stand np s) in o ≡ Done e k1) = sym (rw is refl) ∙ h in absurd (cc)
        go (Ok true) is = absurd (no_test_held p np c line body s e k k1 is h)
        go (Ok false) is = let g = test_failed p np c line 0 body s e k k1 is h in subst (λ (z : Scene ℤ). TestsCosts 0 j s z k k1) (done_same s e k k1 g) (costs_failed 0 j s k k1 (left_same s e k k1 g) (omega arith) is)
    tests_costs tells each (suc left) j s e k k1 small h few = go (holds np c s.store) refl (λ s1 l g. tests_costs tells each left (suc j) s1 e l k1 (omega arith) g few)
      where
        go : (r : Result Bool Trap) → holds np c s.store ≡ r → ((s1 : Scene ℤ) (l : ℕ) → tested p np c line left body s1 l ≡ Done e k1 → TestsCosts left (suc j) s1 e l k1) → TestsCosts (suc left) j s e k k1
        go (Err t) is later = let g : (let o : Outcome (Scene ℤ) = Trapped t line (stand np s) in o ≡ Done e k1) = sym (rw is refl) ∙ h in absurd (cc)
        go (Ok true) is later =
            let r = test_held p np c line left body s e k k1 is h in
            costs_held left j s r.end e k r.rest r.before k1 r.is (omega arith) is (each s r.end k r.rest r.turn (tells left r.end e r.before k1 r.others few)) (later r.end r.before r.others)
        go (Ok false) is later = let g = test_failed p np c line (suc left) body s e k k1 is h in subst (λ (z : Scene ℤ). TestsCosts (suc left) j s z k k1) (done_same s e k k1 g) (costs_failed (suc left) j s k k1 (left_same s e k k1 g) (omega arith) is)

    -- a DO WHILE that was done
    while_costs : ((m : ℕ) → GoTells sb lines reps (tested p np c line m body)) → ((s e : Scene ℤ) (k left : ℕ) → run p np body s k ≡ Done e left → FewIn sb lines reps e → WhileTurn s e k left) → (s e : Scene ℤ) (k left : ℕ) → act p np (during c body) line s k ≡ Done e left → FewIn sb lines reps e → ActCosts i d line (during c body) s e k left
    while_costs tells each s e k left h few =
        let t = tests_costs tells each most_tests 0 s e k left (zero_more most_tests most_small) h few in
        let nodes = three_nodes c in
        record {
          price = t.price;
          least = t.least;
          pays = t.pays;
          most = t.most + 5;
          fair = let least_is = more (during c body) in fair_act (extra (during c body) + 1) t.price 5 t.most (omega (arith, nodes, least_is)) t.fair;
          cost = λ pr.
              cost_more qs depth sh level (forward_act_with sc plan i d line (during c body)) (backward_act_with sc plan i d line (during c body)) (w.needed (point_before i)) (w.needed n_test) (w.held (point_after i)) (w.held n_test) s.store (t.most + 5) (t.most + 5)
              (λ v o. laws.entry.values.needs v (without_none (w.needed n_test) v o)) (λ v o. laws.exit.values.holds v (without_none (w.held n_test) v o)) (omega arith) (emitted pr t (m.kept i) refl (m.adjointed i) refl);
        }
      where
        row : present ≡ true → {k0 left0 : ℕ} → (t : TestsCosts most_tests 0 s e k0 left0) → m.kept i ≡ true → (idle : Bool) → is_empty Bw ≡ idle → BothCost q sh level (while_forward idle (suc d) line c Fw) (while_backward idle (suc d) line Bw) (w.needed n_test) (w.held n_test) s.store (t.most + 5)
        row pr t k true o =
            cost_more qs depth sh level (while_forward true (suc d) line c Fw) (while_backward true (suc d) line Bw) (w.needed n_test) (w.needed n_test) (w.held n_test) (w.held n_test) s.store (t.most + 1) (t.most + 5) (λ v z. z) (λ v z. z) (omega arith)
            (tests.cost_silent qs depth sh level xs d line c (w.needed n_test) (w.held n_test) Fw Bw ww text (laws.needs_uses k) s.store t.most (t.silent pr k (empty_is Bw o)))
        row pr t k false o = tests.cost_told qs depth sh level xs d line c (w.needed n_test) (w.held n_test) Fw Bw ww text (laws.needs_uses k) s.store e.store t.change t.reversed (t.swept pr k) t.most (t.told pr k)

        emitted : present ≡ true → {k0 left0 : ℕ} → (t : TestsCosts most_tests 0 s e k0 left0) → (k : Bool) → m.kept i ≡ k → (a : Bool) → m.adjointed i ≡ a → BothCost q sh level (code_if (k || a) (while_forward (is_empty Bw) (suc d) line c Fw)) (code_if (k || a) (while_backward (is_empty Bw) (suc d) line Bw)) (w.needed n_test) (w.held n_test) s.store (t.most + 5)
        emitted pr t true ek a ea = row pr t ek (is_empty Bw) refl
        emitted pr t false ek true ea = absurd (let f : true ≡ false = sym (laws.keeps_adjointed ea) ∙ ek in cc)
        emitted pr t false ek false ea = cost_more qs depth sh level stop stop (w.needed n_test) (w.needed n_test) (w.held n_test) (w.held n_test) s.store 0 (t.most + 5) (λ v z. z) (λ v z. z) (omega arith) (cost_stop qs depth sh level (w.needed n_test) (w.held n_test) s.store)

  -- ---- lists

  -- an IF, by the part that ran
  part_costs : (c : Test) (a b : Code) (i d line : ℕ) (s e : Scene ℤ) (k left : ℕ) (ran : Bool) → AllText (λ v. reads_test v c) → ChoiceLaws w i c a b → holds np c s.store ≡ Ok ran → (if ran then run p np a s k else run p np b s k) ≡ Done e left →
      (run p np a s k ≡ Done e left → ListCosts (point_before i) (suc i) d a s e k left) → (run p np b s k ≡ Done e left → ListCosts (point_before i) (behind (suc i) a) d b s e k left) → ActCosts i d line (choose c a b) s e k left
  part_costs c a b i d line s e k left true text laws is h first other =
      let x = first h in
      choice_costs c a b i d line s e k left true text laws is x.price x.least x.pays x.most x.fair
      (λ pr. cost_more qs depth sh level (forward_with sc plan (suc i) d a) (backward_with sc plan (suc i) d a) (w.needed (point_before i)) (w.needed (point_before i)) (w.held (point_after i)) (w.held (last_point (point_before i) (suc i) a)) s.store x.most x.most (λ v z. z) (λ v o. laws.first_end.values.holds v (without_none (w.held (last_point (point_before i) (suc i) a)) v o)) (omega arith) (x.cost pr))
  part_costs c a b i d line s e k left false text laws is h first other =
      let x = other h in
      choice_costs c a b i d line s e k left false text laws is x.price x.least x.pays x.most x.fair
      (λ pr. cost_more qs depth sh level (forward_with sc plan (behind (suc i) a) d b) (backward_with sc plan (behind (suc i) a) d b) (w.needed (point_before i)) (w.needed (point_before i)) (w.held (point_after i)) (w.held (last_point (point_before i) (behind (suc i) a) b)) s.store x.most x.most (λ v z. z) (λ v o. laws.other_end.values.holds v (without_none (w.held (last_point (point_before i) (behind (suc i) a) b)) v o)) (omega arith) (x.cost pr))

  -- a turn of a DO WHILE, from test to test
  while_turn : (c : Test) (body : Code) (i d : ℕ) (s e : Scene ℤ) (k left : ℕ) (laws : WhileLaws w i c body) → Transposed q lines dual sh level xs w (suc d) present (λ v. writes handed v body) (is_plain m (suc i) body) (point_inside i) (last_point (point_inside i) (suc i) body) body (forward_with sc plan (suc i) (suc d) body) (backward_with sc plan (suc i) (suc d) body) s.store e.store →
      ListCosts (point_inside i) (suc i) (suc d) body s e k left → (line : ℕ) (text : AllText (λ v. reads_test v c)) → WhileTurn i d line c body laws text s e k left
  while_turn c body i d s e k left laws t x line text = record {
    transposed = transposed_to q lines dual sh level xs w (suc d) present (λ v. writes handed v body) (is_plain m (suc i) body) (point_inside i) (last_point (point_inside i) (suc i) body) (point_inside i) body (forward_with sc plan (suc i) (suc d) body) (backward_with sc plan (suc i) (suc d) body) s.store e.store laws.again t;
    price = x.price;
    least = x.least;
    pays = x.pays;
    most = x.most;
    fair = x.fair;
    cost = λ pr. cost_more qs depth sh level (forward_with sc plan (suc i) (suc d) body) (backward_with sc plan (suc i) (suc d) body) (w.needed (point_inside i)) (w.needed (point_inside i)) (w.held (point_inside i)) (w.held (last_point (point_inside i) (suc i) body)) s.store x.most x.most (λ v z. z) (λ v o. laws.again.values.holds v (without_none (w.held (last_point (point_inside i) (suc i) body)) v o)) (omega arith) (x.cost pr);
  }

  -- an assignment takes no statements but itself
  assign_least : (x : List ℕ) (subs : Terms) (a : Term) (line : ℕ) (s e : Scene ℤ) (k left : ℕ) → act p np (assign (plain x) subs a) line s k ≡ Done e left → k ≤ left + 0
  assign_least x subs a line s e k left h =
      let v = value_done (value np a s.store) line (stand np s) _ e left h in
      let t = value_done (target np (plain x) subs s.store) line (stand np s) _ e left v.goes in
      omega (arith, left_same _ e k left t.goes)

  -- a statement, and those after it
  joined_costs : (line : ℕ) (a : Act) (rest : Code) (i d from : ℕ) (s s1 e : Scene ℤ) (k before middle left : ℕ) → k ≡ suc before → WayLaws w from (point_before i) → ActCosts i d line a s s1 before middle → ListCosts (point_after i) (next i a) d rest s1 e middle left →
      Transposed q lines dual sh level xs w d present (λ x. writes handed x (one line a)) (is_plain m i (one line a)) from (point_after i) (one line a) (forward_with sc plan i d (one line a)) (backward_with sc plan i d (one line a)) s.store s1.store →
      Transposed q lines dual sh level xs w d present (λ x. writes handed x rest) (is_plain m (next i a) rest) (point_after i) (last_point (point_after i) (next i a) rest) rest (forward_with sc plan (next i a) d rest) (backward_with sc plan (next i a) d rest) s1.store e.store → ListCosts from i d (step line a rest) s e k left
  joined_costs line a rest i d from s s1 e k before middle left is_k way x y t1 t2 =
      let sum = times_sum rate (extra a + 1 + x.price) y.price in
      let fx = x.fair in let fy = y.fair in
      let least1 = x.least in let least2 = y.least in
      record {
        price = extra a + 1 + x.price + y.price;
        least = omega (arith, is_k, least1, least2);
        pays = pays_step extra weighed np line a rest s s1 e x.price y.price x.pays y.pays;
        most = x.most + y.most;
        fair = omega (arith, sum, fx, fy);
        cost = λ pr.
            cost_append qs depth sh level xs d (forward_act_with sc plan i d line a) (forward_with sc plan (next i a) d rest) (backward_act_with sc plan i d line a) (backward_with sc plan (next i a) d rest) (w.needed from) (w.needed (point_after i)) (w.needed (last_point (point_after i) (next i a) rest)) (w.held from) (w.held (point_after i)) (w.held (last_point (point_after i) (next i a) rest)) (λ v. writes handed v (one line a)) (λ v. writes handed v rest)
            s.store s1.store e.store t1.change t2.change t1.loops t2.loops x.most y.most
            (subst (λ f. Sweeps q sh level xs d f (backward_act_with sc plan i d line a) (w.needed from) (w.needed (point_after i)) (w.held from) (w.held (point_after i)) (λ v. writes handed v (one line a)) s.store s1.store t1.change t1.loops) (append-stop (forward_act_with sc plan i d line a)) (t1.sweeps pr)) (t2.sweeps pr)
            (cost_more qs depth sh level (forward_act_with sc plan i d line a) (backward_act_with sc plan i d line a) (w.needed from) (w.needed (point_before i)) (w.held (point_after i)) (w.held (point_after i)) s.store x.most x.most (λ v o. way.values.needs v (without_none (w.needed (point_before i)) v o)) (λ v z. z) (omega arith) (x.cost pr)) (y.cost pr);
      }

  -- what lists transpose, and calls that were done
  module _
      (called : List ℕ → Type 0) (within : (name : List ℕ) → called name → IsTrue (inside name)) (calls_told : CallsTell sb lines reps (λ n. IsTrue (inside n)) p)
      (lists : (c : Code) (i d from : ℕ) (s e : Scene ℤ) (k left : ℕ) → EachCall called c → FitsListBy sc lines ps callees answers paired carried present m vars arrays handed i c → ListLawsBy sc callees w from i c → run p np c s k ≡ Done e left → Transposed q lines dual sh level xs w d present (λ x. writes handed x c) (is_plain m i c) from (last_point from i c) c (forward_with sc plan i d c) (backward_with sc plan i d c) s.store e.store)
      (keeps : (c : Code) (s e : Scene ℤ) (k left : ℕ) → run p np c s k ≡ Done e left → (x : Var) → writes handed x c ≡ false → (j : ℕ) → e.store x j ≡ s.store x j)
      (splits : (name given : _) (i d line : ℕ) (s e : Scene ℤ) (k left : ℕ) → called name → m.split i ≡ true → SplitLaws w i (callees name) given → CallFits ps vars arrays (callees name) name given → (present ≡ true → paired name ≡ true) → p np name (actuals_named given) line s k ≡ Done e left → FewIn sb lines reps e → ActCosts i d line (call name (actuals_named given)) s e k left)
      (calls : (name given : _) (i d line : ℕ) (s e : Scene ℤ) (k left : ℕ) → called name → m.split i ≡ false → CallLaws w i (callees name) given → CallFits ps vars arrays (callees name) name given → (present ≡ true → m.adjointed i ≡ true → answers name ≡ true) → (present ≡ true → m.kept i ≡ true → carried name ≡ true) → p np name (actuals_named given) line s k ≡ Done e left → FewIn sb lines reps e → ActCosts i d line (call name (actuals_named given)) s e k left)
      (reversed : (x : List ℕ) (a b c : Term) (body : Code) (mark : Mark) (t : Step) (i d line : ℕ) (s e : Scene ℤ) (k left : ℕ) → reversed_by sc m.adjointed i body mark ≡ Some t → LoopFits lines line mark (units_of callees (Some t)) vars arrays handed x a b c body → ReversalFits (callees t.name) present (carried t.name) t → FitsListBy sc lines ps callees answers paired carried present m vars arrays handed (suc i) body → StepLaws callees w i (plain x) a b c body t → EachCall called body → act p np (loop (plain x) a b c body mark) line s k ≡ Done e left → FewIn sb lines reps e → LoopCostsBy x a b c body mark i d line s e k left (Some t)) where
    abbrev Inside : List ℕ → Type 0
    Inside n = IsTrue (inside n)

    -- a DO, by how it is reversed
    do_costs_by : (x : List ℕ) (a b c : Term) (body : Code) (mark : Mark) (i d line : ℕ) (s e : Scene ℤ) (k left : ℕ) → EachCall called body → FitsBy sc lines ps callees answers paired carried present m vars arrays handed i line (loop (plain x) a b c body mark) → ActLawsBy sc callees w i (loop (plain x) a b c body mark) → act p np (loop (plain x) a b c body mark) line s k ≡ Done e left → FewIn sb lines reps e → (FitsListBy sc lines ps callees answers paired carried present m vars arrays handed (suc i) body → ListLawsBy sc callees w (point_inside i) (suc i) body → (s0 e0 : Scene ℤ) (k0 l0 : ℕ) → run p np body s0 k0 ≡ Done e0 l0 → FewIn sb lines reps e0 → ListCosts (point_inside i) (suc i) (suc d) body s0 e0 k0 l0) → LoopCostsBy x a b c body mark i d line s e k left (reversed_by sc m.adjointed i body mark)
    do_costs_by x a b c body mark i d line s e k left n f laws h fw inner = go (reversed_by sc m.adjointed i body mark) refl f.0 f.1 laws
      where
        go : (o : Option Step) → reversed_by sc m.adjointed i body mark ≡ o → LoopFits lines line mark (units_of callees o) vars arrays handed x a b c body → ByStep o (FitsListBy sc lines ps callees answers paired carried present m vars arrays handed (suc i) body) (λ t. ReversalFits (callees t.name) present (carried t.name) t × FitsListBy sc lines ps callees answers paired carried present m vars arrays handed (suc i) body) → ByStep o (LoopLaws w i (plain x) a b c body × ListLawsBy sc callees w (point_inside i) (suc i) body) (StepLaws callees w i (plain x) a b c body) → LoopCostsBy x a b c body mark i d line s e k left o
        go None is lf fb laws =
            do_costs x a b c body mark i d line s e k left lf laws.0 h fw (run_tells sb lines reps Inside p calls_told np body (bare_list called within (suc i) body fb n))
            (λ a0 c0 s0 e0 k0 l0 g fw0. record {
              transposed = lists body (suc i) (suc d) (point_inside i) s0 e0 k0 l0 n fb laws.1 g;
              keeps = keeps body s0 e0 k0 l0 g (plain x) lf.spares 0;
              costs = inner fb laws.1 s0 e0 k0 l0 g fw0;
            })
        go (Some t) is lf fb laws = reversed x a b c body mark t i d line s e k left is lf fb.0 fb.1 laws n h fw

    -- a call, by whether it is split
    call_costs : (name given : _) (i d line : ℕ) (s e : Scene ℤ) (k left : ℕ) → called name → (b : Bool) → m.split i ≡ b → CallLawsBy b w i (callees name) given → CallFits ps vars arrays (callees name) name given → IsThere b (answers name) (paired name) (carried name) present (m.adjointed i) (m.kept i) → p np name (actuals_named given) line s k ≡ Done e left → FewIn sb lines reps e → ActCosts i d line (call name (actuals_named given)) s e k left
    call_costs name given i d line s e k left n true is laws fits there h fw = splits name given i d line s e k left n is laws fits (λ pr. there pr laws.adjointed) h fw
    call_costs name given i d line s e k left n false is laws fits there h fw = calls name given i d line s e k left n is laws fits there.0 there.1 h fw

    mutual
      act_costs : (a : Act) (i d line : ℕ) (s e : Scene ℤ) (k left : ℕ) → EachCall' called a → FitsBy sc lines ps callees answers paired carried present m vars arrays handed i line a → ActLawsBy sc callees w i a → act p np a line s k ≡ Done e left → FewIn sb lines reps e → ActCosts i d line a s e k left
      act_costs (assign (plain x) subs a) i d line s e k left n f laws h fw =
          let l = times_more 4 rate (extra (assign (plain x) subs a) + 1) four in
          let z : extra (assign (plain x) subs a) + 1 + 0 ≡ extra (assign (plain x) subs a) + 1 = omega arith in
          let least_is = more (assign (plain x) subs a) in
          record {
            price = 0;
            least = assign_least x subs a line s e k left h;
            pays = pays_assign extra weighed np p line (plain x) subs a s e k left h;
            most = 4 * weight (assign (plain x) subs a);
            fair = subst (λ y. 4 * weight (assign (plain x) subs a) ≤ rate * y) (sym z) (omega (arith, l, least_is));
            cost = λ pr. cost_assign plan i d line x subs a qs depth sh level (w.needed (point_before i)) (w.held (point_after i)) s.store;
          }
      act_costs (assign (shadow x) subs a) i d line s e k left n f laws h fw = absurd f
      act_costs (assign (helper r x) subs a) i d line s e k left n f laws h fw = absurd f
      act_costs (choose c a b) i d line s e k left n f laws h fw =
          let v = value_done (holds np c s.store) line _ (λ t. if t then run p np a s k else run p np b s k) e left h in
          part_costs c a b i d line s e k left v.value f.0 laws.0 v.is v.goes
          (λ g. list_costs a (suc i) d (point_before i) s e k left n.0 f.1.0 laws.1.0 g fw)
          (λ g. list_costs b (behind (suc i) a) d (point_before i) s e k left n.1 f.1.1 laws.1.1 g fw)
      act_costs (loop (plain x) a b c body mark) i d line s e k left n f laws h fw =
          let by = do_costs_by x a b c body mark i d line s e k left n f laws h fw (λ fl ll s0 e0 k0 l0 g fw0. list_costs body (suc i) (suc d) (point_inside i) s0 e0 k0 l0 n fl ll g fw0) in
          record { price = by.price; least = by.least; pays = by.pays; most = by.most; fair = by.fair; cost = by.cost }
      act_costs (loop (shadow x) a b c body mark) i d line s e k left n f laws h fw = absurd f
      act_costs (loop (helper r x) a b c body mark) i d line s e k left n f laws h fw = absurd f
      act_costs (during c body) i d line s e k left n f laws h fw =
          while_costs i d line c body laws.0 f.0
          (λ m. tests_tell sb lines reps Inside p calls_told np c line body (run_tells sb lines reps Inside p calls_told np body (bare_list called within (suc i) body f.1 n)) m)
          (λ s0 e0 k0 l0 g fw0. while_turn c body i d s0 e0 k0 l0 (laws.0) (lists body (suc i) (suc d) (point_inside i) s0 e0 k0 l0 n f.1 laws.1 g) (list_costs body (suc i) (suc d) (point_inside i) s0 e0 k0 l0 n f.1 laws.1 g fw0) line f.0) s e k left h fw
      act_costs (call name args) i d line s e k left n f laws h fw =
          let given = laws.0 in
          let is : args ≡ actuals_named given = laws.1.0 in
          subst (λ es. ActCosts i d line (call name es) s e k left) (sym is) (call_costs name given i d line s e k left n (m.split i) refl laws.1.1 (f.0 given is) f.1 (ap (λ es. p np name es line s k) (sym is) ∙ h) fw)
      act_costs (runtime r) i d line s e k left n f laws h fw = absurd f

      pub list_costs : (c : Code) (i d from : ℕ) (s e : Scene ℤ) (k left : ℕ) → EachCall called c → FitsListBy sc lines ps callees answers paired carried present m vars arrays handed i c → ListLawsBy sc callees w from i c → run p np c s k ≡ Done e left → FewIn sb lines reps e → ListCosts from i d c s e k left
      list_costs stop i d from s e k left n f laws h fw =
          let z = left_same s e k left h in
          subst (λ (z : Scene ℤ). ListCosts from i d stop s z k left) (done_same s e k left h) (record { price = 0; least = omega (arith, z); pays = pays_stop extra weighed np s; most = 0; fair = omega arith; cost = λ pr. cost_stop qs depth sh level (w.needed from) (w.held from) s.store })
      list_costs (step line a rest) i d from s e k left n f laws h fw =
          let r = count_done _ k (λ j. then_do (act p np a line s j) (run p np rest)) e left h in
          let o = then_done (act p np a line s r.left) (run p np rest) e left r.goes in
          joined_costs line a rest i d from s o.scene e k r.left o.left left r.is laws.0
          (act_costs a i d line s o.scene r.left o.left n.0 f.0 laws.1.0 o.first (run_tells sb lines reps Inside p calls_told np rest (bare_list called within (next i a) rest f.1 n.1) o.scene e o.left left o.second fw)) (list_costs rest (next i a) d (point_after i) o.scene e o.left left n.1 f.1 laws.1.1 o.second fw)
          (lists (one line a) i d from s o.scene (suc r.left) o.left (n.0, tt) (f.0, tt) (laws.0, (laws.1.0, tt)) (ap (λ z. then_do z (run p np stop)) o.first))
          (lists rest (next i a) d (point_after i) o.scene e o.left left n.1 f.1 laws.1.1 o.second)
