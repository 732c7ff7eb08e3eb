-- What both sweeps of a unit take along a run that is done, called units first, whether marked loops are reversed by schedules or are loops as others:
-- those of its adjoint, and those of its forward and its backward unit.
use Rattle.std.proofs.Common.{◌≡◌, ◌<◌, ◌≤◌, ℕ, zero, suc, ◌+◌, ◌*◌, Bool, true, false, List, ◌∷◌, map, refl, sym, ap, ◌∙◌, subst, arith, if◌then◌else◌}
use Rattle.std.specs.Prelude.{ℤ, pos, not, ◌&&◌, ◌||◌, IsTrue, Ok, Option, Some, None, length}
use Rattle.adj_tree.specs.Code.{Var, plain, shadow, helper, Term, Mark, Act, loop, call, Code, Procedure}
use Rattle.def_meaning.specs.Append.{◌+++◌, one}
use Rattle.def_meaning.specs.Padded.{own_nodes, padded, padded_program}
use Rattle.def_meaning.specs.Numbers.{words}
use Rattle.def_meaning.specs.Store.{Shape, size_of, scalar, Store}
use Rattle.def_meaning.specs.Value.{Setting}
use Rattle.def_meaning.specs.Scene.{Scene, Done}
use Rattle.def_meaning.specs.Run.{act, run}
use Rattle.law_meaning.specs.Common.{CallsInside}
use Rattle.def_meaning.specs.Written.{find_unit, handed_back, writes}
use Rattle.def_meaning.specs.Read.{reads_actuals, reads, is_extent, looked_at, read_rule}
use Rattle.def_meaning.specs.Seen.{pulled_setting}
use Rattle.def_meaning.specs.Units.{Actual, extent_in, extents_of, shape_of, actuals, entry_store, dummies_fit, setting_in, calls_of}
use Rattle.law_meaning.proofs.Dependence.{calls_depend}
use Rattle.law_meaning.proofs.Frames.{keeps_others}
use Rattle.def_meaning.proofs.LeastSets.{least_row}
use Rattle.def_meaning.proofs.ReadsMore.{read_rises}
use Rattle.law_meaning.proofs.WriteSets.{handed_written}
use Rattle.def_names.specs.Numbers.{Vars}
use Rattle.def_names.specs.Numbering.{point_before, point_after}
use Rattle.def_sweep.specs.Facts.{In, joined, Facts}
use Rattle.law_sweep.specs.Scenes.{Course, scene}
use Rattle.def_sweep.specs.Marked.{code_if}
use Rattle.def_meaning.specs.Apart.{AreApart}
use Rattle.law_sweep.specs.Pairs.{Key, on_words}
use Rattle.def_kernel.specs.Weights.{weight}
use Rattle.law_sweep.specs.Cells.{cells_of}
use Rattle.def_sweep.specs.Plan.{Plan, Schedules, beside, IsActual, is_emitted, names_of, actuals_named, save_group, snapshot_group, found_or}
use Rattle.def_sweep.specs.Rows.{pushes, pops, adjoint_call, with_shadows}
use Rattle.def_sweep.specs.Emission.{forward_with, backward_with, forward_act_with, backward_act_with}
use Rattle.law_sweep.specs.Environment.{PairFits, UnitFitsBy}
use Rattle.law_sweep.specs.Kernel.{FitsListBy, CallFits}
use Rattle.def_sweep.specs.Callees.{nothing, CalleeFacts, is_plain}
use Rattle.law_sweep.specs.Laws.{WayLaws, CallLaws, SplitLaws, ListLawsBy, last_point}
use Rattle.def_sweep.specs.Bindings.{Bindings, bindings}
use Rattle.law_sweep.specs.Passing.{passed_in, plainly}
use Rattle.law_sweep.specs.Runs.{SameOn}
use Rattle.law_sweep.specs.Steps.{ActualsAgree}
use Rattle.law_sweep.specs.Theorem.{plan_of, ProgramFits, ShapesFit}
use Rattle.def_sweep.specs.Schedules.{schedules_by}
use Rattle.law_sweep.proofs.Calls.{own_named, with_shadow_shapes, inside_words}
use Rattle.law_sweep.proofs.CallDuals.{actuals_bound}
use Rattle.law_sweep.proofs.CallSweeps.{CallTransposed, names_are}
use Rattle.law_sweep.proofs.Cells.{cells_apart}
use Rattle.law_sweep.proofs.CallTangents.{shadows_out}
use Rattle.law_sweep.proofs.Aside.{aside, Stays, append_stays, pushes_stay, list_stays}
use Rattle.law_sweep.proofs.Entered.{UnitEnters, unit_enters}
use Rattle.law_sweep.proofs.SplitFacts.{unit_again}
use Rattle.law_sweep.proofs.SplitRow.{dummies_in, SplitTransposed}
use Rattle.law_sweep.specs.SplitCalled.{KeepsRead}
use Rattle.def_sweep.specs.SplitMarks.{split_marks, split_facts}
use Rattle.def_sweep.specs.SplitRows.{left_of, back_call}
use Rattle.def_names.proofs.Variables.{or_left, or_right}
use Rattle.law_sweep.proofs.Declared as alike
use Rattle.law_sweep.specs.Emitted.{AreNamed}
use Rattle.law_sweep.proofs.Entering.{actuals_at, actuals_are, entry_pulled}
use Rattle.law_sweep.proofs.Lists.{list_swept}
use Rattle.law_sweep.proofs.Passing.{beside_back, beside_key, in_plain}
use Rattle.law_sweep.proofs.PlainCalls.{at_any_line}
use Rattle.law_sweep.proofs.Transposed.{Transposed}
use Rattle.law_sweep.proofs.Units.{AssignmentsDone, AllDone, assignments_done, units_swept, call_swept, split_swept}
use Rattle.def_meaning.proofs.EntriesSeen.{own_names}
use Rattle.law_cost.specs.Sweeps.{statements_of}
use Rattle.law_cost.specs.Along.{BothCost}
use Rattle.law_cost.proofs.Along.{cost_more}
use Rattle.law_cost.proofs.AlongCalls.{cost_call}
use Rattle.law_cost.proofs.AlongSplits.{cost_split}
use Rattle.law_cost.proofs.SplitCosts.{left_few, split_cost}
use Rattle.law_cost.proofs.CallCosts.{plain_cost, adjoint_cost}
use Rattle.law_sweep.proofs.CallFacts.{read_actual, fit_of, fit_size}
use Rattle.law_cost.proofs.Counting.{act_few}
use Rattle.law_cost.proofs.Bare.{bare_list}
use Rattle.law_cost.proofs.Moved.{CallsMove, calls_move}
use Rattle.def_adjoint.specs.Calls.{units_within}
use Rattle.law_cost.proofs.CallPrices.{begun, handed, CallBody, call_body, pays_call}
use Rattle.law_cost.proofs.EachCall.{IsWithin, each_inside, unit_within, some_chain}
use Rattle.law_cost.proofs.Few.{FewIn, CallsTell, same_few, calls_tell}
use Rattle.law_cost.proofs.AlongLists.{ActCosts, list_costs}
use Rattle.law_cost.proofs.Prices.{Pays, ActPays}
use Rattle.law_cost.proofs.Sums.{times_sum, times_more}
use Rattle.law_cost.proofs.Reversed.{StepPrice, StepCosts, reversed}
use Rattle.def_sweep.specs.Reversals.{ReversedLines}

-- What both sweeps take to each unit of a run's price: so much where no chain has a call, and so much more for each call that a chain has. Where
-- marked loops are reversed by schedules, it is enough for so many repetitions of each step.
pub record Rate (sb : Bool) (reps : ℕ) : Type 0 where
  pub base : ℕ
  pub more : ℕ
  pub four : 4 ≤ base
  pub once : 1 ≤ more
  pub high : sb ≡ true → 17 + 2 * reps ≤ base + more
  pub again : sb ≡ true → suc reps ≤ more

-- where no chain has more than so many calls
abbrev pub rate_of : ℕ → ℕ → ℕ → ℕ
rate_of base more zero = base
rate_of base more (suc r) = more + rate_of base more r

base_at_least : (base more r : ℕ) → base ≤ rate_of base more r
base_at_least base more zero = omega arith
base_at_least base more (suc r) = omega (arith, base_at_least base more r)

-- the two bounds of a call are one
fair_call : (rise rate w x p : ℕ) → 1 ≤ rise → 4 ≤ rate → w ≤ x → 4 * w + (p + rate * p) ≤ (rise + rate) * (x + p)
fair_call rise rate w x p once h le =
    let l = times_more 4 (rise + rate) x (omega (arith, h)) in
    let e = times_sum (rise + rate) x p in
    let s : (rise + rate) * p ≡ rise * p + rate * p = omega arith in
    let o : 1 * p ≤ rise * p = times_more 1 rise p once in
    omega (arith, l, e, s, o, le)

-- those of a split call are, too: each variable that is left is pushed and popped
fair_split : (rise rate x p many : ℕ) → 4 ≤ rate → many ≤ x → 2 + (rate * p + 2 * many) ≤ (rise + rate) * (x + 1 + p)
fair_split rise rate x p many h le =
    let l = times_more 4 (rise + rate) (x + 1) (omega (arith, h)) in
    let e = times_sum (rise + rate) (x + 1) p in
    let o : rate * p ≤ (rise + rate) * p = times_more rate (rise + rate) p (omega arith) in
    omega (arith, l, e, o, le)

-- and what a step of a reversed loop takes
fair_step : (reps rise rate p : ℕ) → suc reps ≤ rise → rate * p + suc reps * p ≤ (rise + rate) * p
fair_step reps rise rate p h =
    let s : (rise + rate) * p ≡ rise * p + rate * p = omega arith in
    let o : suc reps * p ≤ rise * p = times_more (suc reps) rise p h in
    omega (arith, s, o)

module _ (sb : Bool) (extra : Act → ℕ) (more : (a : Act) → own_nodes a ≤ extra a)
    (more_steps : sb ≡ true → (x : List ℕ) (a b c : Term) (at : ℕ) (name : List ℕ) (given : List (List ℕ)) (mark : Mark) → own_nodes (loop (plain x) a b c (one at (call name (actuals_named given))) mark) + length given ≤ extra (loop (plain x) a b c (one at (call name (actuals_named given))) mark)) (reps : ℕ) (rt : Rate sb reps)
    (lines : ReversedLines) (ps qs : List Procedure) (g : List ℕ → CalleeFacts) (there answers paired carried : List ℕ → Bool) (first : List ℕ → ℕ) (vars : List ℕ → List (List ℕ)) (arrays : List ℕ → Vars) (h : ProgramFits sb lines ps qs g there answers paired carried first vars arrays)
    -- a call that is split costs at least as much as its unit has variables
    (room : (own : List ℕ) (i : ℕ) → (g own).facts.marks.split i ≡ true → (name : List ℕ) (u : Procedure) → find_unit ps name ≡ Some u → IsTrue (h.inside name) → (given : List (List ℕ)) → length (vars name) ≤ extra (call name (actuals_named given))) where
  abbrev sc : Schedules
  sc = schedules_by sb g

  abbrev inside : List ℕ → Bool
  inside = h.inside

  abbrev plan : List ℕ → Plan
  plan name = plan_of g (g name).facts (arrays name)

  abbrev IsInside : List ℕ → Type 0
  IsInside n = IsTrue (inside n)

  abbrev pub rate_at : ℕ → ℕ
  rate_at r = rate_of rt.base rt.more r

  four_at_least : (r : ℕ) → 4 ≤ rate_at r
  four_at_least r = let l = base_at_least rt.base rt.more r in let f = rt.four in omega (arith, l, f)

  -- a run of a unit that is done: its price, and what its sweeps take by some facts
  pub record UnitCosts (w : Facts) (present : Bool) (rate depth : ℕ) (name : List ℕ) (u : Procedure) (sh : Var → Shape) (level : ℕ) (s e : Scene ℤ) (k left : ℕ) : Type 0 where
    pub price : ℕ
    pub least : k ≤ left + price
    pub pays : Pays extra (calls_of (padded_program extra ps) depth) (on_words (plainly sh) level) u.body s e price
    pub cost : present ≡ true → BothCost (calls_of qs depth) sh level (forward_with sc (plan_of g w (arrays name)) (first name) 0 u.body) (backward_with sc (plan_of g w (arrays name)) (first name) 0 u.body) (w.needed (g name).entry) (w.held (g name).end) s.store (rate * price)

  -- so it is with the sweeps of a unit's adjoint, and with those of its forward and its backward unit, where no chain from it has more than r calls
  abbrev pub CostsBy : Facts → Bool → ℕ → ℕ → List ℕ → Procedure → Type 0
  CostsBy w present depth r name u =
      ((k : ℕ) → units_within ps k name ≤ suc r) → (sh : Var → Shape) (level : ℕ) → ShapesFit (plan name) sh → (s e : Scene ℤ) (k left : ℕ) → run (calls_of ps depth) (on_words (plainly sh) level) u.body s k ≡ Done e left → FewIn sb lines reps e → UnitCosts w present (rate_at r) depth name u sh level s e k left

  pub record AllCosts (depth r : ℕ) : Type 0 where
    pub adjoint : (name : List ℕ) (u : Procedure) → find_unit ps name ≡ Some u → IsTrue (inside name) → CostsBy (g name).facts (there name) depth r name u
    pub pair : (also : Vars) (name : List ℕ) (u : Procedure) → find_unit ps name ≡ Some u → IsTrue (inside name) → paired name ≡ true → CostsBy (split_facts (g name) also) true depth r name u

  flags : (name : List ℕ) (u : Procedure) → find_unit ps name ≡ Some u → IsTrue (inside name) → handed_back ps name ≡ map (λ d. (g name).callee.written (plain d)) (g name).callee.dummies
  flags name u found ins =
      let f = h.units name u found ins in
      handed_written ps name u found ∙ (λ i. map (λ d. sym (f.wrote d) i) (f.dummies i))

  read_flags : (name : List ℕ) (u : Procedure) → find_unit ps name ≡ Some u → IsTrue (inside name) → looked_at ps name ≡ map (λ d. (g name).read (plain d)) (g name).callee.dummies
  read_flags name u found ins =
      let f = h.units name u found ins in
      least_row read_rule read_rises ps name u found ∙ (λ i. map (λ d. sym (f.reads d) i) (f.dummies i))

  moves : (depth : ℕ) → CallsMove {C = ℤ} IsInside (calls_of ps depth)
  moves depth = calls_move ps IsInside (λ name u ins found. let f = h.units name u found ins in bare_list sc lines ps g answers paired carried (there name) (g name).facts.marks (vars name) (arrays name) (handed_back ps) inside (first name) u.body f.code (h.closed name u found ins)) depth

  -- the theorem on sweeps
  assigned : AssignmentsDone sb lines ps qs g there answers paired carried first vars arrays h.inside h.closed h.units h.apart h.common h.emitted h.adjoints h.pairs
  assigned = assignments_done sb lines ps qs g there answers paired carried first vars arrays h.inside h.closed h.units h.apart h.common h.emitted h.adjoints h.pairs

  all_done : (depth : ℕ) → AllDone sb lines ps qs g there answers paired carried first vars arrays h.inside h.closed h.units h.apart h.common h.emitted h.adjoints h.pairs depth
  all_done = units_swept sb lines ps qs g there answers paired carried first vars arrays h.inside h.closed h.units h.apart h.common h.emitted h.adjoints h.pairs assigned

  -- calls are transposed
  swept_call : (depth : ℕ) (own : List ℕ) (present : Bool) (sh : Var → Shape) (level : ℕ) → ShapesFit (plan own) sh → AreApart (vars own) → (n : List ℕ) (given : List (List ℕ)) (line : ℕ) (s e : Scene ℤ) (k left : ℕ) (kept adjointed : Bool) → IsTrue (inside n) → ((d a : List ℕ) → IsActual (g n).callee.dummies given d a → In (plain d) (g n).callee.shadowed → In (plain a) (g own).facts.marks.shadowed) → CallFits ps (vars own) (arrays own) (g n) n given → (present ≡ true → adjointed ≡ true → answers n ≡ true) → (present ≡ true → kept ≡ true → carried n ≡ true) →
      calls_of ps depth (on_words (plainly sh) level) n (actuals_named given) line s k ≡ Done e left → CallTransposed (calls_of qs depth) lines (calls_of ps depth) sh level (cells_of sh (vars own)) (g n) given n line kept adjointed present s.store e.store
  swept_call zero own present sh level shapes apart_vars n given line s e k left kept adjointed ins shadows_actual cf adj kept_in done = absurd cc
  swept_call (suc depth) own present sh level shapes apart_vars n given line s e k left kept adjointed ins shadows_actual cf adj kept_in done =
      call_swept sb lines ps qs g there answers paired carried first vars arrays h.inside h.closed h.units h.apart h.common h.emitted h.adjoints h.pairs assigned depth (all_done depth)
      own present sh level (shapes.scalars, shapes.shadows) apart_vars n given line s e k left kept adjointed ins shadows_actual cf adj kept_in done

  none_there : false ≡ true → ⊥
  none_there h = cc

  -- and so are split calls
  swept_split : (depth : ℕ) (own : List ℕ) (present : Bool) (sh : Var → Shape) (level : ℕ) → ShapesFit (plan own) sh → AreApart (vars own) → (n : List ℕ) (given : List (List ℕ)) (line : ℕ) (s e : Scene ℤ) (k left : ℕ) (also : Vars) → IsTrue (inside n) → ((d a : List ℕ) → IsActual (g n).callee.dummies given d a → In (plain d) (g n).callee.shadowed → In (plain a) (g own).facts.marks.shadowed) → CallFits ps (vars own) (arrays own) (g n) n given → (present ≡ true → paired n ≡ true) →
      calls_of ps depth (on_words (plainly sh) level) n (actuals_named given) line s k ≡ Done e left → SplitTransposed (calls_of qs depth) lines (calls_of ps depth) sh level (cells_of sh (vars own)) (g n) given n line also present s.store e.store
  swept_split zero own present sh level shapes apart_vars n given line s e k left also ins shadows_actual cf asked done = absurd cc
  swept_split (suc depth) own present sh level shapes apart_vars n given line s e k left also ins shadows_actual cf asked done =
      split_swept sb lines ps qs g there answers paired carried first vars arrays h.inside h.closed h.units h.apart h.common h.emitted h.adjoints h.pairs assigned depth (all_done depth)
      own present sh level (shapes.scalars, shapes.shadows) apart_vars n given line s e k left false false ins shadows_actual cf (λ pr a. absurd (none_there a)) (λ pr a. absurd (none_there a)) done also asked

  -- ---- a call

  -- of a unit of the name own, where units cost so much whose calls are of less depth
  module _ (depth r : ℕ) (inner : AllCosts depth r)
      (own : List ℕ) (present : Bool) (sh : Var → Shape) (level : ℕ) (shapes : ShapesFit (plan own) sh) (apart_vars : AreApart (vars own))
      (name : List ℕ) (given : List (List ℕ)) (line : ℕ) (s e : Scene ℤ) (k left : ℕ) (called : IsWithin inside ps (suc r) name) (shadows_actual : (d a : List ℕ) → IsActual (g name).callee.dummies given d a → In (plain d) (g name).callee.shadowed → In (plain a) (g own).facts.marks.shadowed) (cf : CallFits ps (vars own) (arrays own) (g name) name given) (kept adjointed : Bool)
      (adj : present ≡ true → adjointed ≡ true → answers name ≡ true) (kept_in : present ≡ true → kept ≡ true → carried name ≡ true)
      (done : calls_of ps (suc depth) (on_words (plainly sh) level) name (actuals_named given) line s k ≡ Done e left) (few_there : FewIn sb lines reps e) where
    abbrev v : Procedure
    v = cf.unit

    abbrev ins : IsTrue (inside name)
    ins = called.0

    abbrev f : UnitFitsBy sc lines ps g there answers paired carried name v (first name) (vars name) (arrays name)
    f = h.units name v cf.found ins

    abbrev ds : List (List ℕ)
    ds = (g name).callee.dummies

    abbrev xs : List Key
    xs = cells_of sh (vars own)

    abbrev F : Code
    F = forward_with sc (plan name) (first name) 0 v.body

    abbrev B : Code
    B = backward_with sc (plan name) (first name) 0 v.body

    abbrev np : Setting ℤ
    np = on_words (plainly sh) level

    abbrev bs0 : Bindings
    bs0 = bindings nothing ds given

    abbrev got : List (Actual ℤ)
    got = actuals_at np s.store bs0

    got_is : actuals np (actuals_named given) s.store ≡ Ok got
    got_is = ap (λ es. actuals np es s.store) (sym (actuals_bound ds given cf.many)) ∙ actuals_are np s.store bs0

    abbrev start : Store ℤ
    start = entry_store words v.dummies got

    abbrev shG : Var → Shape
    shG = with_shadow_shapes (g name).callee.shadowed (λ x. shape_of (extents_of words v start x))

    b : CallBody ps depth np name v cf.found (actuals_named given) line s e got got_is k left
    b = call_body ps depth np name v cf.found (actuals_named given) line s e got got_is k left done

    members : (d a : List ℕ) → IsActual ds given d a → In (plain d) ((g name).facts.needed (g name).entry) → In (plain d) (g name).callee.members
    members d a b n = f.laws.members d (beside_key ds given d a b) n

    shadow_shapes : (d a : List ℕ) → IsActual ds given d a → In (plain d) (g name).callee.shadowed → sh (shadow a) ≡ sh (plain a)
    shadow_shapes d a b n = shapes.shadows a (shadows_actual d a b n)

    within : setting_in np v start ≡ on_words (plainly shG) (suc level)
    within = inside_words ps qs depth sh level xs (cells_apart sh (vars own) apart_vars) present (there name) name v cf.found (g name) f.dummies f.wrote given members cf.many f.dummies_apart cf.apart shadow_shapes F B kept adjointed line k left s e done

    unit_shapes : ShapesFit (plan name) shG
    unit_shapes = record {
      scalars = λ x e. ap (λ es. size_of (shape_of (map (extent_in words start) es))) (f.scalars x e);
      shadows = λ x e. ap (λ b. if b then shape_of (extents_of words v start (plain x)) else scalar) (f.shadowed (plain x) ∙ e);
    }

    sizes : (d a : List ℕ) → IsActual ds given d a → size_of (sh (plain a)) ≡ size_of (shG (plain d))
    sizes d a o =
        fit_size v start (plain d) (sh (plain a)) (λ none. shapes.scalars a (cf.ranks d a o none))
        (fit_of v (plainly sh) level start s.store ds given (ap (λ l. dummies_fit words v start l got) (sym f.dummies) ∙ b.fit) d a o)

    few_body : FewIn sb lines reps b.end
    few_body = same_few sb lines reps (handed ps depth np name v cf.found (actuals_named given) line s e got got_is b.end) e b.ends few_there

    -- what the unit's body costs
    unit_cost : UnitCosts (g name).facts (there name) (rate_at r) depth name v shG (suc level) (begun ps depth np name v cf.found (actuals_named given) line s e got got_is) b.end k left
    unit_cost =
        inner.adjoint name v cf.found ins called.1 shG (suc level) unit_shapes (begun ps depth np name v cf.found (actuals_named given) line s e got got_is) b.end k left
        (ap (λ n. run (calls_of ps depth) n v.body (begun ps depth np name v cf.found (actuals_named given) line s e got got_is) k) (sym within) ∙ b.body) few_body

    -- from a store that agrees on what the unit reads
    agrees_on : (fs : Store ℤ) → ActualsAgree sh (g name).callee given (g name).read s.store fs → (x : Var) → reads_actuals x (looked_at ps name) (actuals_named given) ≡ true → (j : ℕ) → j < size_of (sh x) → fs x j ≡ s.store x j
    agrees_on fs a x r j l =
        let o = read_actual (λ d. (g name).read (plain d)) ds given cf.apart cf.many x (ap (λ ws. reads_actuals x ws (actuals_named given)) (sym (read_flags name v cf.found ins)) ∙ r) in
        let d_of = beside_back given ds cf.apart f.dummies_apart o.name o.dummy o.found in
        ap (λ z. fs z j) o.is ∙ a.at o.dummy o.name d_of o.read j (subst (λ z. j < size_of (sh z)) o.is l) ∙ ap (λ z. s.store z j) (sym o.is)

    named0 : AreNamed (λ x. x) v.dummies bs0
    named0 = subst (λ l. AreNamed (λ x. x) l bs0) (sym f.dummies) (own_named ds given cf.many)

    -- the adjoint unit begins with the values that it needs
    begins : (fs : Store ℤ) → ActualsAgree sh (g name).callee given (g name).callee.members s.store fs → SameOn shG ((g name).facts.needed (g name).entry) start (passed_in (pos 0) (bindings (g name).callee.shadowed ds given) fs)
    begins fs a = record {
      at = λ x j l n.
          in_plain (pos 0) (g name).callee.shadowed fs ds given x j ∙ go x j l n (beside ds given x) refl
          ∙ sym (ap (λ (z : Store ℤ). z (plain x) j) (entry_pulled np (λ x. x) own_names v.dummies bs0 s.store named0) ∙ in_plain (pos 0) nothing s.store ds given x j);
    }
      where
        go : (x : List ℕ) (j : ℕ) → j < size_of (shG (plain x)) → In (plain x) ((g name).facts.needed (g name).entry) → (o : Option (List ℕ)) → beside ds given x ≡ o → found_or o (pos 0) (λ a. fs (plain a) j) ≡ found_or o (pos 0) (λ a. s.store (plain a) j)
        go x j l n None o = refl
        go x j l n (Some y) o = a.at x y o (members x y o n) j (subst (λ n. j < n) (sym (sizes x y o)) l)

    one_call : CallTransposed (calls_of qs (suc depth)) lines (calls_of ps (suc depth)) sh level xs (g name) given name line kept adjointed present s.store e.store
    one_call = swept_call (suc depth) own present sh level shapes apart_vars name given line s e k left kept adjointed ins shadows_actual cf adj kept_in done

    -- the call again
    plain_takes : present ≡ true → kept ≡ true → (base : Course) (fs : Store ℤ) (t : List ℤ) → ActualsAgree sh (g name).callee given (g name).read s.store fs → (s1 : Scene ℤ) (k1 left1 : ℕ) → act (calls_of qs (suc depth)) (on_words sh level) (call name (actuals_named given)) line (scene base fs t) k1 ≡ Done s1 left1 → k1 ≤ left1 + unit_cost.price
    plain_takes pr kp base fs t a s1 k1 left1 ran =
        let same = plain_cost ps qs carried h.common depth (calls_depend ps h.apart (suc depth)) IsInside (moves (suc depth)) sh level name (kept_in pr kp) ins given line s e k left done base fs t (agrees_on fs a) s1 k1 left1 ran in
        let l = unit_cost.least in
        omega (arith, same, l)

    -- and that of the adjoint
    adjoint_takes : present ≡ true → adjointed ≡ true → (base : Course) (fs : Store ℤ) (t : List ℤ) → ActualsAgree sh (g name).callee given (g name).callee.members s.store fs → (s1 : Scene ℤ) (k1 left1 : ℕ) → act (calls_of qs (suc depth)) (on_words sh level) (adjoint_call (g name).callee given) line (scene base fs t) k1 ≡ Done s1 left1 → k1 ≤ left1 + (rate_at r) * unit_cost.price
    adjoint_takes pr ea base fs t a s1 k1 left1 ran =
        let o = h.adjoints name v cf.found (adj pr ea) in
        adjoint_cost qs depth sh level (g name).callee given o.unit o.found o.naming o.separates (o.named given cf.many) F B o.body shG ((g name).facts.needed (g name).entry) ((g name).facts.held (g name).end) start ((rate_at r) * unit_cost.price) (unit_cost.cost (h.emitted name (adj pr ea))) fs
        (alike.shapes v o.unit o.naming o.separates o.plainly_named (g name).callee f.dummies o.declared f.extents sh level given cf.many (o.named given cf.many) s.store fs shadow_shapes a)
        (begins fs a) base t line s1 k1 left1 ran

    call_pays : ActPays extra (calls_of (padded_program extra ps) (suc depth)) np line (call name (actuals_named given)) s e unit_cost.price
    call_pays = pays_call ps depth np name v cf.found (actuals_named given) line s e got got_is extra k left unit_cost.price b (λ j. ap (λ n. run (calls_of (padded_program extra ps) depth) n (padded extra v.body) (begun ps depth np name v cf.found (actuals_named given) line s e got got_is) (unit_cost.price + j)) within ∙ unit_cost.pays j)

    -- ---- where it is split

    module _ (also : Vars) (is_paired : paired name ≡ true) where
      abbrev pf : PairFits sc lines ps g answers paired carried name v (first name) (vars name) (arrays name)
      pf = f.pair is_paired

      abbrev p1 : Plan
      p1 = plan_of g (split_facts (g name) also) (arrays name)

      abbrev left_there : List (List ℕ)
      left_there = left_of (g name).callee.written ds (vars name)

      abbrev F1 : Code
      F1 = forward_with sc p1 (first name) 0 v.body

      abbrev B1 : Code
      B1 = backward_with sc p1 (first name) 0 v.body

      abbrev pushed_there : Code
      pushed_there = pushes p1 v.line left_there

      -- the forward unit has no shadows
      abbrev shF : Var → Shape
      shF = with_shadow_shapes nothing (λ x. shape_of (extents_of words v start x))

      abbrev body_start : Scene ℤ
      body_start = begun ps depth np name v cf.found (actuals_named given) line s e got got_is

      body_run : run (calls_of ps depth) (on_words (plainly shG) (suc level)) v.body body_start k ≡ Done b.end left
      body_run = ap (λ n. run (calls_of ps depth) n v.body body_start k) (sym within) ∙ b.body

      -- what both sweeps of its pair cost
      pair_cost : UnitCosts (split_facts (g name) also) true (rate_at r) depth name v shG (suc level) body_start b.end k left
      pair_cost = inner.pair also name v cf.found ins is_paired called.1 shG (suc level) unit_shapes body_start b.end k left body_run few_body

      pair_done : Transposed (calls_of qs depth) lines (calls_of ps depth) shG (suc level) (cells_of shG (vars name)) (split_facts (g name) also) 0 true (λ x. writes (handed_back ps) x v.body) (is_plain (split_marks (g name).facts.marks) (first name) v.body) (g name).entry (g name).end v.body F1 B1 start b.end.store
      pair_done = (all_done depth).pair also name v cf.found ins is_paired shG (suc level) (unit_shapes.scalars, unit_shapes.shadows) body_start b.end k left body_run

      start_is : start ≡ passed_in (pos 0) bs0 s.store
      start_is = entry_pulled np (λ x. x) own_names v.dummies bs0 s.store named0

      forth_in : UnitEnters qs depth sh level (g name).callee.forth (g name).callee nothing (g name).read given (F1 +++ pushed_there) s.store shF
      forth_in =
          unit_enters qs v (g name).callee.forth (g name).callee nothing (g name).read (F1 +++ pushed_there) (h.pairs name v cf.found is_paired).0 f.dummies
          (λ d x. f.reads d ∙ or_right (reads (looked_at ps) (plain d) v.body) (is_extent d v.declarations) x) f.dummies_apart depth sh level given cf.many s.store (λ d a o n. absurd (let z : false ≡ true = n in cc)) b.fit

      back_in : UnitEnters qs depth sh level (g name).callee.back (g name).callee (g name).callee.shadowed (λ v. (g name).read v && not ((g name).callee.written v)) given (pops p1 v.line left_there +++ B1) s.store shG
      back_in =
          unit_enters qs v (g name).callee.back (g name).callee (g name).callee.shadowed (λ v. (g name).read v && not ((g name).callee.written v)) (pops p1 v.line left_there +++ B1) (h.pairs name v cf.found is_paired).1 f.dummies
          (λ d x.
          let rd : (g name).read (plain d) ≡ true = f.reads d ∙ or_right (reads (looked_at ps) (plain d) v.body) (is_extent d v.declarations) x in
          let wr : (g name).callee.written (plain d) ≡ false = f.wrote d ∙ pf.extents d x in
          rw (rd, wr) refl) f.dummies_apart depth sh level given cf.many s.store shadow_shapes b.fit

      stays : Stays (F1 +++ pushed_there)
      stays = append_stays F1 pushed_there (list_stays sc lines ps g answers paired carried (there name) (g name).facts (vars name) (arrays name) (handed_back ps) (first name) 0 (g name).entry v.body f.code f.laws.laws) (pushes_stay p1 v.line left_there)

      beside_shapes : pulled_setting aside (on_words shG (suc level)) ≡ on_words shF (suc level)
      beside_shapes = λ i. on_words (λ x. shape_at x i) (suc level)
        where
          outside : (x : List ℕ) (b : Bool) → (if b then shape_of (extents_of words v start (plain (0 ∷ x))) else scalar) ≡ scalar
          outside x true = ap (λ es. shape_of (map (extent_in words start) es)) (pf.inside x)
          outside x false = refl

          shape_at : (x : Var) → shG (aside x) ≡ shF x
          shape_at (plain x) = refl
          shape_at (shadow x) = outside x ((g name).callee.shadowed (plain (0 ∷ x)))
          shape_at (helper o l) = refl

      split_call : SplitTransposed (calls_of qs (suc depth)) lines (calls_of ps (suc depth)) sh level xs (g name) given name line also true s.store e.store
      split_call = swept_split (suc depth) own true sh level shapes apart_vars name given line s e k left also ins shadows_actual cf (λ pr. is_paired) done

      -- the call of the forward unit and that of the backward unit
      split_takes : (base : Course) (fs : Store ℤ) (t : List ℤ) (agree : ActualsAgree sh (g name).callee given (joined (g name).read also) s.store fs) → (s1 : Scene ℤ) (k1 left1 : ℕ) → act (calls_of qs (suc depth)) (on_words sh level) (call (g name).callee.forth (actuals_named given)) line (scene base fs t) k1 ≡ Done s1 left1 →
          (later : Course) (g0 : Store ℤ) → KeepsRead (calls_of qs (suc depth)) sh level xs (g name) given (g name).callee.forth (g name).callee.back line (split_call.pair refl base fs t agree).after g0 → (e2 : Scene ℤ) (k2 left2 : ℕ) → act (calls_of qs (suc depth)) (on_words sh level) (back_call (g name).callee.back (g name).callee given) line (scene later g0 s1.tape) k2 ≡ Done e2 left2 → k1 + k2 ≤ left1 + left2 + ((rate_at r) * pair_cost.price + 2 * length left_there)
      split_takes =
          split_cost qs depth sh level xs (cells_of shG (vars name)) (g name) given cf.many f.dummies_apart cf.apart shG shF sizes p1 unit_shapes.scalars v.line (vars name) (λ x. writes (handed_back ps) x v.body) (λ d. sym (f.wrote d)) pf.written F1 B1
          s.store e.store start b.end.store start_is pair_done.change (shadows_out (g name).callee.shadowed ds given split_call.call.change) pair_done.loops split_call.call.loops forth_in back_in stays beside_shapes line also (split_call.pair refl) (pair_done.sweeps refl)
          ((rate_at r) * pair_cost.price) (pair_cost.cost refl)

      split_pays : ActPays extra (calls_of (padded_program extra ps) (suc depth)) np line (call name (actuals_named given)) s e pair_cost.price
      split_pays = pays_call ps depth np name v cf.found (actuals_named given) line s e got got_is extra k left pair_cost.price b (λ j. ap (λ n. run (calls_of (padded_program extra ps) depth) n (padded extra v.body) body_start (pair_cost.price + j)) within ∙ pair_cost.pays j)

  -- of a unit of the name own, where units cost so much whose calls are of less depth
  module _ (depth r : ℕ) (inner : AllCosts depth r)
      (own : List ℕ) (present : Bool) (sh : Var → Shape) (level : ℕ) (shapes : ShapesFit (plan own) sh) (apart_vars : AreApart (vars own)) (w : Facts) (same_shadows : (x : Var) → w.marks.shadowed x ≡ (g own).facts.marks.shadowed x) (same_split : (i : ℕ) → w.marks.split i ≡ (g own).facts.marks.split i) where
    -- the call of a step
    step_costs : (name given : _) (at : ℕ) (s e : Scene ℤ) (k left : ℕ) → IsWithin inside ps (suc r) name → ((d a : List ℕ) → IsActual (g name).callee.dummies given d a → In (plain d) (g name).callee.shadowed → In (plain a) w.marks.shadowed) → CallFits ps (vars own) (arrays own) (g name) name given → (present ≡ true → answers name ≡ true) → (present ≡ true → carried name ≡ true) →
        calls_of ps (suc depth) (on_words (plainly sh) level) name (actuals_named given) at s k ≡ Done e left → FewIn sb lines reps e → (c : StepPrice) × StepCosts sb extra more reps inside ps qs (suc depth) lines (handed_back ps) g answers paired carried w present (vars own) (arrays own) sh level (cells_of sh (vars own)) shapes.scalars (rate_at (suc r)) (four_at_least (suc r)) name given at s e k left c
    step_costs name given line s e k left called shadows_there cf adj kept_in done few =
        let shadows_actual = λ (d a : List ℕ) (b : IsActual (g name).callee.dummies given d a) (n : In (plain d) (g name).callee.shadowed). sym (same_shadows (plain a)) ∙ shadows_there d a b n in
        let u = unit_cost depth r inner own present sh level shapes apart_vars name given line s e k left called shadows_actual cf true true (λ pr z. adj pr) (λ pr z. kept_in pr) done few in (
          record { price = u.price; most = (rate_at r) * u.price },
          record {
            least = u.least;
            pays = call_pays depth r inner own present sh level shapes apart_vars name given line s e k left called shadows_actual cf true true (λ pr z. adj pr) (λ pr z. kept_in pr) done few;
            fair = λ on. fair_step reps rt.more (rate_at r) u.price (rt.again on);
            again = λ pr base f t a e1 k1 left1 ran. plain_takes depth r inner own present sh level shapes apart_vars name given line s e k left called shadows_actual cf true true (λ pr z. adj pr) (λ pr z. kept_in pr) done few pr refl base f t a e1 k1 left1 ran;
            adjoint = λ pr base f t a e1 k1 left1 ran. adjoint_takes depth r inner own present sh level shapes apart_vars name given line s e k left called shadows_actual cf true true (λ pr z. adj pr) (λ pr z. kept_in pr) done few pr refl base f t a e1 k1 left1 ran;
          },
        )

    module _ (name : List ℕ) (given : List (List ℕ)) (i d line : ℕ) (s e : Scene ℤ) (k left : ℕ) (called : IsWithin inside ps (suc r) name) (no_split : w.marks.split i ≡ false) (laws : CallLaws w i (g name) given) (cf : CallFits ps (vars own) (arrays own) (g name) name given)
        (adj : present ≡ true → w.marks.adjointed i ≡ true → answers name ≡ true) (kept_in : present ≡ true → w.marks.kept i ≡ true → carried name ≡ true)
        (done : calls_of ps (suc depth) (on_words (plainly sh) level) name (actuals_named given) line s k ≡ Done e left) (few : FewIn sb lines reps e) where
      -- its shadows are the unit's
      shadows_actual : (d a : List ℕ) → IsActual (g name).callee.dummies given d a → In (plain d) (g name).callee.shadowed → In (plain a) (g own).facts.marks.shadowed
      shadows_actual d a b n = sym (same_shadows (plain a)) ∙ laws.shadows_actual d a b n

      abbrev unit_fits : UnitFitsBy sc lines ps g there answers paired carried name cf.unit (first name) (vars name) (arrays name)
      unit_fits = h.units name cf.unit cf.found called.0

      abbrev cells : List Key
      cells = cells_of sh (vars own)

      abbrev P : ℕ
      P = (unit_cost depth r inner own present sh level shapes apart_vars name given line s e k left called shadows_actual cf (w.marks.kept i) (w.marks.adjointed i) adj kept_in done few).price

      abbrev most : ℕ
      most = 4 * weight (call name (actuals_named given)) + (P + (rate_at r) * P)

      transposed_call : CallTransposed (calls_of qs (suc depth)) lines (calls_of ps (suc depth)) sh level cells (g name) given name line (w.marks.kept i) (w.marks.adjointed i) present s.store e.store
      transposed_call = swept_call (suc depth) own present sh level shapes apart_vars name given line s e k left (w.marks.kept i) (w.marks.adjointed i) called.0 shadows_actual cf adj kept_in done

      -- the sweeps, by whether the call is split and by the names of the actuals
      abbrev forth_row : Bool → List (List ℕ) → Code
      forth_row split l =
          code_if (is_emitted w.marks i)
          (if split then one line (call (g name).callee.forth (actuals_named given))
          else pushes (plan_of g w (arrays own)) line (save_group w.marks i (g name).callee l)
          +++ (code_if (w.marks.adjointed i) (pushes (plan_of g w (arrays own)) line (snapshot_group (g name).callee l))
          +++ code_if (w.marks.kept i) (one line (call name (actuals_named given)))))

      abbrev back_row : Bool → List (List ℕ) → Code
      back_row split l =
          code_if (is_emitted w.marks i)
          (if split then one line (call (g name).callee.back (with_shadows (g name).callee.shadowed (g name).callee.dummies (names_of (actuals_named given))))
          else code_if (w.marks.adjointed i) (pops (plan_of g w (arrays own)) line (snapshot_group (g name).callee l) +++ one line (adjoint_call (g name).callee l))
          +++ pops (plan_of g w (arrays own)) line (save_group w.marks i (g name).callee l))

      rows_are : statements_of (forth_row (w.marks.split i) (names_of (actuals_named given))) + statements_of (back_row (w.marks.split i) (names_of (actuals_named given))) ≡ statements_of (forth_row false given) + statements_of (back_row false given)
      rows_are = λ j. statements_of (forth_row (no_split j) (names_are given j)) + statements_of (back_row (no_split j) (names_are given j))

      few_statements : statements_of (forth_row false given) + statements_of (back_row false given) ≤ 4 * weight (call name (actuals_named given))
      few_statements =
          let l = subst (λ z. z ≤ 4 * weight (call name (actuals_named given)) + 0) rows_are (act_few (plan_of g w (arrays own)) i d line (call name (actuals_named given))) in
          omega (arith, l)

      sweeps_cost : present ≡ true → BothCost (calls_of qs (suc depth)) sh level (forward_act_with sc (plan_of g w (arrays own)) i d line (call name (actuals_named given))) (backward_act_with sc (plan_of g w (arrays own)) i d line (call name (actuals_named given))) (w.needed (point_before i)) (w.held (point_after i)) s.store most
      sweeps_cost pr =
          let A = (rate_at r) * P in
          let c = cost_call qs (suc depth) lines (calls_of ps (suc depth)) sh level cells (plan_of g w (arrays own)) shapes.scalars w i (g name) given unit_fits.dummies_apart cf.apart laws name line s.store e.store
          (subst (λ t. CallTransposed (calls_of qs (suc depth)) lines (calls_of ps (suc depth)) sh level cells (g name) given name line (w.marks.kept i) (w.marks.adjointed i) t s.store e.store) pr transposed_call) P A
          (λ kp base fs t a s1 k1 left1 ran. plain_takes depth r inner own present sh level shapes apart_vars name given line s e k left called shadows_actual cf (w.marks.kept i) (w.marks.adjointed i) adj kept_in done few pr kp base fs t a s1 k1 left1 ran)
          (λ ea base fs t a s1 k1 left1 ran. adjoint_takes depth r inner own present sh level shapes apart_vars name given line s e k left called shadows_actual cf (w.marks.kept i) (w.marks.adjointed i) adj kept_in done few pr ea base fs t a s1 k1 left1 ran)
          (w.marks.kept i) (w.marks.adjointed i) refl refl in
          subst (λ z. BothCost (calls_of qs (suc depth)) sh level (forth_row z (names_of (actuals_named given))) (back_row z (names_of (actuals_named given))) (w.needed (point_before i)) (w.held (point_after i)) s.store most) (sym no_split)
          (subst (λ l. BothCost (calls_of qs (suc depth)) sh level (forth_row false l) (back_row false l) (w.needed (point_before i)) (w.held (point_after i)) s.store most) (sym (names_are given))
          (cost_more qs (suc depth) sh level (forth_row false given) (back_row false given) (w.needed (point_before i)) (w.needed (point_before i)) (w.held (point_after i)) (w.held (point_after i)) s.store (statements_of (forth_row false given) + statements_of (back_row false given) + (P + A)) most (λ v z. z) (λ v z. z) (omega (arith, few_statements)) c))

      call_costs : ActCosts sb extra more reps inside ps qs (suc depth) lines (handed_back ps) g answers paired carried w present (vars own) (arrays own) sh level cells shapes.scalars (rate_at (suc r)) (four_at_least (suc r)) i d line (call name (actuals_named given)) s e k left
      call_costs =
          let u = unit_cost depth r inner own present sh level shapes apart_vars name given line s e k left called shadows_actual cf (w.marks.kept i) (w.marks.adjointed i) adj kept_in done few in
          record {
            price = u.price;
            least = u.least;
            pays = call_pays depth r inner own present sh level shapes apart_vars name given line s e k left called shadows_actual cf (w.marks.kept i) (w.marks.adjointed i) adj kept_in done few;
            most = most;
            fair = let z = more (call name (actuals_named given)) in fair_call rt.more (rate_at r) (weight (call name (actuals_named given))) (extra (call name (actuals_named given)) + 1) u.price rt.once (four_at_least r) (omega (arith, z));
            cost = sweeps_cost;
          }

    -- a call that is split
    module _ (name : List ℕ) (given : List (List ℕ)) (i d line : ℕ) (s e : Scene ℤ) (k left : ℕ) (called : IsWithin inside ps (suc r) name) (split_here : w.marks.split i ≡ true) (laws : SplitLaws w i (g name) given) (cf : CallFits ps (vars own) (arrays own) (g name) name given)
        (asked : present ≡ true → paired name ≡ true) (done : calls_of ps (suc depth) (on_words (plainly sh) level) name (actuals_named given) line s k ≡ Done e left) (few : FewIn sb lines reps e) where
      -- its shadows are the unit's
      split_shadows : (d a : List ℕ) → IsActual (g name).callee.dummies given d a → In (plain d) (g name).callee.shadowed → In (plain a) (g own).facts.marks.shadowed
      split_shadows d a b n = sym (same_shadows (plain a)) ∙ laws.call.shadows_actual d a b n

      abbrev also : Vars
      also = dummies_in (w.needed (point_before i)) (g name).callee.dummies given

      abbrev split_cells : List Key
      split_cells = cells_of sh (vars own)

      never : {X : Type 0} → present ≡ true → false ≡ true → X
      never pr h = absurd cc

      abbrev left_here : List (List ℕ)
      left_here = left_of (g name).callee.written (g name).callee.dummies (vars name)

      -- the sweeps, by whether the call is emitted and split, and by the names of the actuals
      abbrev forth_split : Bool → Bool → List (List ℕ) → Code
      forth_split em split l =
          code_if em
          (if split then one line (call (g name).callee.forth (actuals_named given))
          else pushes (plan_of g w (arrays own)) line (save_group w.marks i (g name).callee l)
          +++ (code_if (w.marks.adjointed i) (pushes (plan_of g w (arrays own)) line (snapshot_group (g name).callee l))
          +++ code_if (w.marks.kept i) (one line (call name (actuals_named given)))))

      abbrev back_split : Bool → Bool → List (List ℕ) → Code
      back_split em split l =
          code_if em
          (if split then one line (call (g name).callee.back (with_shadows (g name).callee.shadowed (g name).callee.dummies l))
          else code_if (w.marks.adjointed i) (pops (plan_of g w (arrays own)) line (snapshot_group (g name).callee l) +++ one line (adjoint_call (g name).callee l))
          +++ pops (plan_of g w (arrays own)) line (save_group w.marks i (g name).callee l))

      emitted_here : is_emitted w.marks i ≡ true
      emitted_here = ap (λ b. b || w.marks.adjointed i) laws.kept

      split_sweeps : (is : paired name ≡ true) →
          let P = (pair_cost depth r inner own present sh level shapes apart_vars name given line s e k left called split_shadows cf false false never never done few also is).price in
          BothCost (calls_of qs (suc depth)) sh level (forward_act_with sc (plan_of g w (arrays own)) i d line (call name (actuals_named given))) (backward_act_with sc (plan_of g w (arrays own)) i d line (call name (actuals_named given))) (w.needed (point_before i)) (w.held (point_after i)) s.store (2 + ((rate_at r) * P + 2 * length left_here))
      split_sweeps is =
          let P = (pair_cost depth r inner own present sh level shapes apart_vars name given line s e k left called split_shadows cf false false never never done few also is).price in
          let most = 2 + ((rate_at r) * P + 2 * length left_here) in
          let t = split_call depth r inner own present sh level shapes apart_vars name given line s e k left called split_shadows cf false false never never done few also is in
          let c = cost_split qs (suc depth) sh level split_cells w i (g name) given laws line s.store e.store (shadows_out (g name).callee.shadowed (g name).callee.dummies given t.call.change) t.call.loops (t.pair refl) ((rate_at r) * P + 2 * length left_here)
          (split_takes depth r inner own present sh level shapes apart_vars name given line s e k left called split_shadows cf false false never never done few also is) in
          subst (λ b. BothCost (calls_of qs (suc depth)) sh level (forth_split b (w.marks.split i) (names_of (actuals_named given))) (back_split b (w.marks.split i) (names_of (actuals_named given))) (w.needed (point_before i)) (w.held (point_after i)) s.store most) (sym emitted_here)
          (subst (λ z. BothCost (calls_of qs (suc depth)) sh level (forth_split true z (names_of (actuals_named given))) (back_split true z (names_of (actuals_named given))) (w.needed (point_before i)) (w.held (point_after i)) s.store most) (sym split_here)
          (subst (λ l. BothCost (calls_of qs (suc depth)) sh level (forth_split true true l) (back_split true true l) (w.needed (point_before i)) (w.held (point_after i)) s.store most) (sym (names_are given)) c))

      split_costs : ActCosts sb extra more reps inside ps qs (suc depth) lines (handed_back ps) g answers paired carried w present (vars own) (arrays own) sh level split_cells shapes.scalars (rate_at (suc r)) (four_at_least (suc r)) i d line (call name (actuals_named given)) s e k left
      split_costs = by (paired name) refl
        where
          by : (b : Bool) → paired name ≡ b → ActCosts sb extra more reps inside ps qs (suc depth) lines (handed_back ps) g answers paired carried w present (vars own) (arrays own) sh level split_cells shapes.scalars (rate_at (suc r)) (four_at_least (suc r)) i d line (call name (actuals_named given)) s e k left
          by true is =
              let u = pair_cost depth r inner own present sh level shapes apart_vars name given line s e k left called split_shadows cf false false never never done few also is in
              record {
                price = u.price;
                least = u.least;
                pays = split_pays depth r inner own present sh level shapes apart_vars name given line s e k left called split_shadows cf false false never never done few also is;
                most = 2 + ((rate_at r) * u.price + 2 * length left_here);
                fair = let many = room own i (sym (same_split i) ∙ split_here) name cf.unit cf.found called.0 given in
                    let few = left_few (g name).callee.written (g name).callee.dummies (vars name) in
                    fair_split rt.more (rate_at r) (extra (call name (actuals_named given))) u.price (length left_here) (four_at_least r) (omega (arith, many, few));
                cost = λ pr. split_sweeps is;
              }
          by false is =
              let u = unit_cost depth r inner own present sh level shapes apart_vars name given line s e k left called split_shadows cf false false never never done few in
              record {
                price = u.price;
                least = u.least;
                pays = call_pays depth r inner own present sh level shapes apart_vars name given line s e k left called split_shadows cf false false never never done few;
                most = 0;
                fair = omega arith;
                cost = λ pr. absurd (let z : true ≡ false = sym (asked pr) ∙ is in cc);
              }

  -- ---- units, called units first

  told : (depth : ℕ) → CallsTell {C = ℤ} sb lines reps IsInside (calls_of ps depth)
  told depth = calls_tell sb lines reps ps IsInside (λ name u ins found. let f = h.units name u found ins in bare_list sc lines ps g answers paired carried (there name) (g name).facts.marks (vars name) (arrays name) (handed_back ps) inside (first name) u.body f.code (h.closed name u found ins)) depth

  high_at : sb ≡ true → (r : ℕ) (n : List ℕ) → IsWithin inside ps r n → (v : Procedure) → find_unit ps n ≡ Some v → 17 + 2 * reps ≤ rate_at r
  high_at on zero n c v found = absurd (some_chain ps n v found c.1)
  high_at on (suc r) n c v found = let l = base_at_least rt.base rt.more r in let f = rt.high on in omega (arith, l, f)

  -- what lists transpose, by some facts
  lists_swept : (depth : ℕ) (name : List ℕ) (u : Procedure) → find_unit ps name ≡ Some u → IsTrue (inside name) → (w : Facts) (present : Bool) → ((x : Var) → w.marks.shadowed x ≡ (g name).facts.marks.shadowed x) → (sh : Var → Shape) (level : ℕ) → (shapes : ShapesFit (plan name) sh) → (c : Code) (i d from : ℕ) (s e : Scene ℤ) (k left : ℕ) → CallsInside inside c → FitsListBy sc lines ps g answers paired carried present w.marks (vars name) (arrays name) (handed_back ps) i c → ListLawsBy sc g w from i c →
      run (calls_of ps depth) (on_words (plainly sh) level) c s k ≡ Done e left → Transposed (calls_of qs depth) lines (calls_of ps depth) sh level (cells_of sh (vars name)) w d present (λ x. writes (handed_back ps) x c) (is_plain w.marks i c) from (last_point from i c) c (forward_with sc (plan_of g w (arrays name)) i d c) (backward_with sc (plan_of g w (arrays name)) i d c) s.store e.store
  lists_swept depth name u found ins w present same sh level shapes =
      let apart_vars = (h.units name u found ins).vars_apart in
      list_swept sb (calls_of ps depth) (calls_of qs depth) (at_any_line qs depth) lines (calls_of ps depth) ps (handed_back ps) g answers paired carried inside w present (vars name) (arrays name) apart_vars sh level shapes.scalars
      (λ n v o i. (h.units n v o i).shadowed) (λ n v o i. (h.units n v o i).dummies_apart) flags (λ n v o i. (h.units n v o i).laws.shadows) (λ n v o i. (h.units n v o i).laws.ends.tangents.shadows)
      (λ c s0 e0 k0 l0 done x n j. keeps_others ps depth (on_words (plainly sh) level) c s0 e0 k0 l0 done x n j)
      (λ n given line s0 e0 k0 l0 kept adjointed c sa cf adj kp done. swept_call depth name present sh level shapes apart_vars n given line s0 e0 k0 l0 kept adjointed c (λ d a b z. sym (same (plain a)) ∙ sa d a b z) cf adj kp done)
      (λ n given line s0 e0 k0 l0 also c sa cf asked done. swept_split depth name present sh level shapes apart_vars n given line s0 e0 k0 l0 also c (λ d a b z. sym (same (plain a)) ∙ sa d a b z) cf asked done)
      (λ x subs a i d line s0 e0 k0 l0 laws af done. assigned name w present sh level depth shapes.scalars (λ x z. shapes.shadows x (sym (same (plain x)) ∙ z)) apart_vars x subs a i d line s0 e0 k0 l0 laws af done)

  -- what the calls in a unit cost, in its sweeps by some facts: those that are split, the others, and those of steps
  record CallsCost (depth r : ℕ) (name : List ℕ) (w : Facts) (present : Bool) (sh : Var → Shape) (level : ℕ) (shapes : ShapesFit (plan name) sh) : Type 0 where
    split : (n : List ℕ) (given : List (List ℕ)) (i d line : ℕ) (s e : Scene ℤ) (k left : ℕ) → IsWithin inside ps r n → w.marks.split i ≡ true → SplitLaws w i (g n) given → CallFits ps (vars name) (arrays name) (g n) n given → (present ≡ true → paired n ≡ true) →
        calls_of ps depth (on_words (plainly sh) level) n (actuals_named given) line s k ≡ Done e left → FewIn sb lines reps e → ActCosts sb extra more reps inside ps qs depth lines (handed_back ps) g answers paired carried w present (vars name) (arrays name) sh level (cells_of sh (vars name)) shapes.scalars (rate_at r) (four_at_least r) i d line (call n (actuals_named given)) s e k left
    again : (n : List ℕ) (given : List (List ℕ)) (i d line : ℕ) (s e : Scene ℤ) (k left : ℕ) → IsWithin inside ps r n → w.marks.split i ≡ false → CallLaws w i (g n) given → CallFits ps (vars name) (arrays name) (g n) n given → (present ≡ true → w.marks.adjointed i ≡ true → answers n ≡ true) → (present ≡ true → w.marks.kept i ≡ true → carried n ≡ true) →
        calls_of ps depth (on_words (plainly sh) level) n (actuals_named given) line s k ≡ Done e left → FewIn sb lines reps e → ActCosts sb extra more reps inside ps qs depth lines (handed_back ps) g answers paired carried w present (vars name) (arrays name) sh level (cells_of sh (vars name)) shapes.scalars (rate_at r) (four_at_least r) i d line (call n (actuals_named given)) s e k left
    turn : (n : List ℕ) (given : List (List ℕ)) (at : ℕ) (s e : Scene ℤ) (k left : ℕ) → IsWithin inside ps r n → ((d a : List ℕ) → IsActual (g n).callee.dummies given d a → In (plain d) (g n).callee.shadowed → In (plain a) w.marks.shadowed) → CallFits ps (vars name) (arrays name) (g n) n given → (present ≡ true → answers n ≡ true) → (present ≡ true → carried n ≡ true) →
        calls_of ps depth (on_words (plainly sh) level) n (actuals_named given) at s k ≡ Done e left → FewIn sb lines reps e → (c : StepPrice) × StepCosts sb extra more reps inside ps qs depth lines (handed_back ps) g answers paired carried w present (vars name) (arrays name) sh level (cells_of sh (vars name)) shapes.scalars (rate_at r) (four_at_least r) n given at s e k left c

  unit_by : (depth r : ℕ) (name : List ℕ) (u : Procedure) → find_unit ps name ≡ Some u → IsTrue (inside name) → (w : Facts) (present : Bool) → ((x : Var) → w.marks.shadowed x ≡ (g name).facts.marks.shadowed x) → ListLawsBy sc g w (g name).entry (first name) u.body → WayLaws w (last_point (g name).entry (first name) u.body) (g name).end → FitsListBy sc lines ps g answers paired carried present w.marks (vars name) (arrays name) (handed_back ps) (first name) u.body →
      ((k : ℕ) → units_within ps k name ≤ suc r) → (sh : Var → Shape) (level : ℕ) → (shapes : ShapesFit (plan name) sh) → CallsCost depth r name w present sh level shapes → (s e : Scene ℤ) (k left : ℕ) → run (calls_of ps depth) (on_words (plainly sh) level) u.body s k ≡ Done e left → FewIn sb lines reps e → UnitCosts w present (rate_at r) depth name u sh level s e k left
  unit_by depth r name u found ins w present same laws ends code chains sh level shapes calls s e k left done few =
      let f = h.units name u found ins in
      let c = list_costs sb extra more reps inside ps qs depth lines (handed_back ps) g answers paired carried w present (vars name) (arrays name) sh level (cells_of sh (vars name)) shapes.scalars (rate_at r) (four_at_least r) (IsWithin inside ps r) (λ n c. c.0) (told depth)
      (λ c i d from s0 e0 k0 l0 each fits laws ran. lists_swept depth name u found ins w present same sh level shapes c i d from s0 e0 k0 l0 (each_inside (IsWithin inside ps r) inside (λ n c. c.0) c each) fits laws ran)
      (λ c s0 e0 k0 l0 done x n j. keeps_others ps depth (on_words (plainly sh) level) c s0 e0 k0 l0 done x n j)
      calls.split calls.again
      (reversed sb extra more reps inside ps qs depth lines (handed_back ps) g answers paired carried w present (vars name) (arrays name) sh level (cells_of sh (vars name)) shapes.scalars (rate_at r) (four_at_least r) more_steps (IsWithin inside ps r) (λ n c. c.0) (told depth) (λ on. high_at on r) (λ n v o i. (h.units n v o i).dummies_apart) flags
      (λ n given line s0 e0 k0 l0 kept adjointed c sa cf adj kp done. swept_call depth name present sh level shapes f.vars_apart n given line s0 e0 k0 l0 kept adjointed c (λ d a b z. sym (same (plain a)) ∙ sa d a b z) cf adj kp done) calls.turn)
      u.body (first name) 0 (g name).entry s e k left (unit_within inside ps r name u found (h.closed name u found ins) chains) code laws done few in
      record {
        price = c.price;
        least = c.least;
        pays = c.pays;
        cost = λ here.
            cost_more qs depth sh level (forward_with sc (plan_of g w (arrays name)) (first name) 0 u.body) (backward_with sc (plan_of g w (arrays name)) (first name) 0 u.body) (w.needed (g name).entry) (w.needed (g name).entry) (w.held (g name).end) (w.held (last_point (g name).entry (first name) u.body)) s.store c.most ((rate_at r) * c.price) (λ v z. z)
            (λ v o. ends.values.holds v (rw o refl)) c.fair (c.cost here);
      }

  all_by : (depth r : ℕ) → ((name : List ℕ) (u : Procedure) → find_unit ps name ≡ Some u → IsTrue (inside name) → (w : Facts) → ((x : Var) → w.marks.shadowed x ≡ (g name).facts.marks.shadowed x) → ((i : ℕ) → w.marks.split i ≡ (g name).facts.marks.split i) → (present : Bool) (sh : Var → Shape) (level : ℕ) → (shapes : ShapesFit (plan name) sh) → CallsCost depth r name w present sh level shapes) → AllCosts depth r
  all_by depth r calls = record {
    adjoint = λ name u found ins chains sh level shapes s e k left done few.
        let f = h.units name u found ins in
        let c = calls name u found ins (g name).facts (λ x. refl) (λ i. refl) (there name) sh level shapes in
        unit_by depth r name u found ins (g name).facts (there name) (λ x. refl) f.laws.laws f.laws.ends f.code chains sh level shapes c s e k left done few;
    pair = λ also name u found ins is chains sh level shapes s e k left done few.
        let f = h.units name u found ins in
        let l = unit_again sc g (looked_at ps) (g name) (first name) u.body also (λ d o x. f.reads d ∙ or_left (reads (looked_at ps) (plain d) u.body) (is_extent d u.declarations) x) (f.pair is).calls f.laws in
        let c = calls name u found ins (split_facts (g name) also) (λ x. refl) (λ i. refl) true sh level shapes in
        unit_by depth r name u found ins (split_facts (g name) also) true (λ x. refl) l.laws l.ends (f.pair is).code chains sh level shapes c s e k left done few;
  }

  -- units from which no chain of calls has more than r calls
  units_cost : (depth r : ℕ) → AllCosts depth r
  units_cost zero r = all_by zero r (λ name u found ins w same same_split present sh level shapes. record {
    split = λ n given i d line s e k left c is laws cf asked done few. absurd cc;
    again = λ n given i d line s e k left c is laws cf adj kept done few. absurd cc;
    turn = λ n given at s e k left c sa cf adj kept done few. absurd cc;
  })
  units_cost (suc depth) zero = all_by (suc depth) zero (λ name u found ins w same same_split present sh level shapes. record {
    split = λ n given i d line s e k left c is laws cf asked done few. absurd (some_chain ps n cf.unit cf.found c.1);
    again = λ n given i d line s e k left c is laws cf adj kept done few. absurd (some_chain ps n cf.unit cf.found c.1);
    turn = λ n given at s e k left c sa cf adj kept done few. absurd (some_chain ps n cf.unit cf.found c.1);
  })
  units_cost (suc depth) (suc r) = all_by (suc depth) (suc r) (λ name u found ins w same same_split present sh level shapes. record {
    split = λ n given i d line s e k left c is laws cf asked done few. split_costs depth r (units_cost depth r) name present sh level shapes (h.units name u found ins).vars_apart w same same_split n given i d line s e k left c is laws cf asked done few;
    again = λ n given i d line s e k left c is laws cf adj kept done few. call_costs depth r (units_cost depth r) name present sh level shapes (h.units name u found ins).vars_apart w same same_split n given i d line s e k left c is laws cf adj kept done few;
    turn = λ n given at s e k left c sa cf adj kept done few. step_costs depth r (units_cost depth r) name present sh level shapes (h.units name u found ins).vars_apart w same same_split n given at s e k left c sa cf adj kept done few;
  })

  pub unit_costs : (depth r : ℕ) (name : List ℕ) (u : Procedure) → find_unit ps name ≡ Some u → IsTrue (inside name) → ((k : ℕ) → units_within ps k name ≤ suc r) → (sh : Var → Shape) (level : ℕ) → ShapesFit (plan name) sh →
      (s e : Scene ℤ) (k left : ℕ) → run (calls_of ps depth) (on_words (plainly sh) level) u.body s k ≡ Done e left → FewIn sb lines reps e → UnitCosts (g name).facts (there name) (rate_at r) depth name u sh level s e k left
  unit_costs depth r name u found ins chains sh level shapes s e k left done few = (units_cost depth r).adjoint name u found ins chains sh level shapes s e k left done few
