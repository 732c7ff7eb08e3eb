-- What the run of the head's adjoint takes: what both sweeps do, and two statements for each dummy.
use Rattle.std.proofs.Common.{◌≡◌, ◌≤◌, ℕ, suc, ◌+◌, ◌-◌, ◌*◌, Bool, true, false, List, [], ◌∷◌, refl, sym, ap, ◌∙◌, subst, arith, if◌then◌else◌}
use Rattle.std.specs.Prelude.{ℤ, pos, length, reverse, ◌==◌, Some, None}
use Rattle.adj_tree.specs.Code.{Var, plain, shadow, var_eq, none, lit, Term, Mark, Act, assign, loop, call, runtime, zero_array, Code, Procedure}
use Rattle.adj_tree.proofs.Names.{nat_same, name_refl}
use Rattle.def_meaning.specs.Append.{◌+++◌, one}
use Rattle.def_meaning.specs.Padded.{own_nodes, padded, padded_program, padded_procedure}
use Rattle.def_meaning.specs.Trap.{schedule_trap}
use Rattle.def_meaning.specs.Numbers.{Numbers, words}
use Rattle.def_meaning.specs.Store.{Shape, scalar, Store}
use Rattle.def_meaning.specs.Value.{Setting}
use Rattle.def_meaning.specs.Scene.{Scene, stand, Outcome, Done, Trapped, then_do}
use Rattle.def_meaning.specs.Run.{Calls, run}
use Rattle.def_meaning.specs.Seen.{pulled, pulled_scene, pulled_setting, pulled_outcome}
use Rattle.def_meaning.specs.Written.{find_unit}
use Rattle.def_meaning.specs.Units.{Slot, Output, extents_of, shape_of, calls_of, input_store, fits, run_unit}
use Rattle.law_meaning.proofs.Costs.{run_later}
use Rattle.law_meaning.proofs.Inversions.{then_done, done_same}
use Rattle.law_meaning.proofs.Renamed.{run_renamed}
use Rattle.def_sweep.specs.Tangents.{AreAlike, Ends}
use Rattle.def_sweep.specs.Marked.{names_in}
use Rattle.def_sweep.specs.MarkedAdjoint.{shadow_flags, joined_by}
use Rattle.def_names.specs.Numbers.{Vars}
use Rattle.def_sweep.specs.Naming.{Named, naming}
use Rattle.def_sweep.specs.Facts.{Facts}
use Rattle.law_sweep.specs.Pairs.{on_words}
use Rattle.law_sweep.specs.Scenes.{Course, scene}
use Rattle.def_sweep.specs.Declared.{unmarked, unit_at}
use Rattle.law_sweep.proofs.ScalarUnits.{outside}
use Rattle.def_sweep.specs.Plan.{Plan, Schedules, actuals_named}
use Rattle.def_sweep.specs.Emission.{cleared, forward_with, backward_with, adjoint_body_with}
use Rattle.def_names.specs.Variables.{variables}
use Rattle.def_sweep.specs.Marking.{ProgramMarks, ProgramFacts, facts_in, callee_facts, callee_of, plan_in, first_statement, entry_point, end_point}
use Rattle.def_sweep.specs.Names.{adjoint_name}
use Rattle.law_sweep.specs.Passing.{plainly}
use Rattle.def_sweep.specs.Program.{has_adjoint, has_pair, answers, is_carried_with, all_units, adjoint_unit_with, emitted_adjoint_with, emitted_units_with, emitted_for_with, emitted_program_with}
use Rattle.law_sweep.specs.Runs.{SameOn}
use Rattle.law_sweep.specs.Source.{variables_of, arrays_in, SourceFitsWith}
use Rattle.law_sweep.specs.Theorem.{plan_of, ShapesFit}
use Rattle.def_sweep.specs.Schedules.{schedules_by}
use Rattle.law_sweep.proofs.Calls.{with_shadow_shapes}
use Rattle.law_sweep.proofs.Emitted as emitted
use Rattle.law_sweep.proofs.UnitLists.{found_there}
use Rattle.law_sweep.proofs.EmittedUnits.{head_there, adjoint_found}
use Rattle.law_sweep.proofs.Entry as entry
use Rattle.law_sweep.proofs.HeadRun as head
use Rattle.law_sweep.proofs.Heads.{zeroed, zeroed_plain, cleared_runs}
use Rattle.law_sweep.proofs.Made as made
use Rattle.law_sweep.proofs.UnitRuns.{kept_in, unit_setting, begin, output_from, unit_ends}
use Rattle.law_cost.specs.Along.{BothCost}
use Rattle.def_adjoint.specs.Calls.{CallsWithin}
use Rattle.def_adjoint.specs.Few.{AllFew}
use Rattle.law_cost.proofs.Few.{FewIn, few_reversed}
use Rattle.law_cost.proofs.Along.{kept_of}
use Rattle.law_cost.proofs.AlongUnits.{Rate, rate_of, unit_costs}
use Rattle.law_cost.proofs.Counting.{cleared_count}
use Rattle.law_cost.proofs.Runs.{one_end, left_same, append_done, IsStraight, straight_append, straight_cost}
use Rattle.def_sweep.specs.Reversals.{ReversedLines}

-- ---- counts

-- a set has no more names than there are
names_few : (f : Vars) (ns : List (List ℕ)) → length (names_in f ns) ≤ length ns
names_few f [] = omega arith
names_few f (x ∷ ns) = go (f (plain x)) (names_few f ns)
  where
    go : (b : Bool) → length (names_in f ns) ≤ length ns → length (if b then x ∷ names_in f ns else names_in f ns) ≤ suc (length ns)
    go true h = omega (arith, h)
    go false h = omega (arith, h)

unmarked_few : (ds : List (List ℕ)) (flags : List Bool) → length (unmarked ds flags) ≤ length ds
unmarked_few [] flags = omega arith
unmarked_few (d ∷ ds) [] = omega (arith, unmarked_few ds [])
unmarked_few (d ∷ ds) (true ∷ flags) = omega (arith, unmarked_few ds flags)
unmarked_few (d ∷ ds) (false ∷ flags) = omega (arith, unmarked_few ds flags)

-- shadows are cleared by straight code
straight_cleared : (p : Plan) (line : ℕ) (xs : List (List ℕ)) → IsStraight (cleared p line xs)
straight_cleared p line [] = tt
straight_cleared p line (x ∷ xs) = straight_append (if p.arrays (plain x) then one line (runtime (zero_array (shadow x))) else one line (assign (shadow x) none (lit (pos 0)))) (cleared p line xs) (go (p.arrays (plain x))) (straight_cleared p line xs)
  where
    go : (b : Bool) → IsStraight (if b then one line (runtime (zero_array (shadow x))) else one line (assign (shadow x) none (lit (pos 0))))
    go true = (tt, tt)
    go false = tt

-- ---- the body of a unit that was run

module _ {C : Type 0} (n : Numbers C) (ps : List Procedure) (u : Procedure) (input : List (Slot C)) where
  pub record UnitBody (k used : ℕ) (output : Output C) : Type 0 where
    pub end : Scene C
    pub left : ℕ
    pub is : run (calls_of ps k) (unit_setting n ps u input) u.body (begin n ps u input) k ≡ Done end left
    pub shut : end.opened ≡ 0
    pub told : output.events ≡ reverse end.events
    pub spent : used ≡ k - left

  pub unit_body : (k used : ℕ) (output : Output C) → run_unit n ps u input [] None k ≡ Done output used → UnitBody k used output
  unit_body k used output h =
      let p = then_done (then_do (run (calls_of ps k) (unit_setting n ps u input) u.body (begin n ps u input) k) close) out output used h in
      let q = then_done (run (calls_of ps k) (unit_setting n ps u input) u.body (begin n ps u input) k) close p.scene p.left p.first in
      let c = closed q.scene q.left p.scene p.left (q.scene.opened == 0) refl q.second in
      record { end = q.scene; left = q.left; is = q.first; shut = nat_same q.scene.opened 0 c.0; told = ap (λ (z : Output C). z.events) (sym (done_same (output_from n ps u input p.scene) output (k - p.left) used p.second)) ∙ ap (λ (z : Scene C). reverse z.events) (sym (done_same q.scene p.scene q.left p.left (closed_at q.scene q.left p.scene p.left (q.scene.opened == 0) q.second))); spent = sym (left_same (output_from n ps u input p.scene) output (k - p.left) used p.second) ∙ ap (λ l. k - l) (sym c.1) }
    where
      close : Scene C → ℕ → Outcome (Scene C)
      close s j = if s.opened == 0 then Done s j else Trapped schedule_trap u.line (stand (outside n) s)

      out : Scene C → ℕ → Outcome (Output C)
      out s left = Done (output_from n ps u input s) (k - left)

      closed : (a : Scene C) (i : ℕ) (b : Scene C) (j : ℕ) (f : Bool) → (a.opened == 0) ≡ f → (if f then Done a i else Trapped schedule_trap u.line (stand (outside n) a)) ≡ Done b j → ((a.opened == 0) ≡ true) × (i ≡ j)
      closed a i b j true is g = (is, left_same a b i j g)
      closed a i b j false is g = absurd cc

      closed_at : (a : Scene C) (i : ℕ) (b : Scene C) (j : ℕ) (f : Bool) → (if f then Done a i else Trapped schedule_trap u.line (stand (outside n) a)) ≡ Done b j → (let o : Outcome (Scene C) = Done a i in o ≡ Done b j)
      closed_at a i b j true g = g
      closed_at a i b j false g = absurd cc

-- ---- both sweeps, and what stands between and behind them

module _ (r : Schedules) (qs : List Procedure) (depth : ℕ) (sh : Var → Shape) (level : ℕ) (p : Plan) (i line : ℕ) (c : Code) (outs ins : List (List ℕ)) (needed held : Vars) (u : Store ℤ) (most : ℕ) (x : BothCost (calls_of qs depth) sh level (forward_with r p i 0 c) (backward_with r p i 0 c) needed held u most) where
  abbrev q : Calls ℤ
  q = calls_of qs depth

  abbrev n : Setting ℤ
  n = on_words sh level

  pub body_cost : (base : Course) (f : Store ℤ) (t : List ℤ) → SameOn sh needed u f → (e : Scene ℤ) (k left : ℕ) → run q n (adjoint_body_with r p i line c outs ins) (scene base f t) k ≡ Done e left → k ≤ left + most + length outs + length ins
  body_cost base f t same e k left h =
      let forth = forward_with r p i 0 c in let back = backward_with r p i 0 c in
      let turn1 = cleared p line outs in let end1 = cleared p line ins in
      let o1 = append_done q n forth (turn1 +++ (back +++ end1)) (scene base f t) e k left h in
      let o2 = append_done q n turn1 (back +++ end1) o1.scene e o1.left left o1.second in
      let z = zeroed p outs o1.scene.store in
      let r = cleared_runs q sh level p line outs (kept_of o1.scene) o1.scene.store o1.scene.tape in
      let is = one_end qs depth n turn1 o1.scene (scene r.later z o1.scene.tape) o2.scene o1.left o2.left r.runs o2.first in
      let n1 = straight_cost q n turn1 (straight_cleared p line outs) o1.scene o2.scene o1.left o2.left o2.first in
      let h2 : run q n (back +++ end1) (scene r.later z o1.scene.tape) o2.left ≡ Done e left = ap (λ s. run q n (back +++ end1) s o2.left) (sym is) ∙ o2.second in
      let o3 = append_done q n back end1 (scene r.later z o1.scene.tape) e o2.left left h2 in
      let n3 = straight_cost q n end1 (straight_cleared p line ins) o3.scene e o3.left left o3.second in
      let both = x.at base f t same o1.scene k o1.left o1.first r.later z (record { at = λ y j l o. zeroed_plain p outs o1.scene.store y j }) o3.scene o2.left o3.left o3.first in
      omega (arith, n1, n3, both, cleared_count p line outs, cleared_count p line ins)

-- ---- the head

-- What is proved of it: u ends with each statement paid at its price, and what was spent is at most so much to each unit of what that takes, and two
-- for each dummy. Whatever bounds the price of a run by its statements bounds this.
pub record SpendsPriced (extra : Act → ℕ) (ps : List Procedure) (u : Procedure) (input : List (Slot ℤ)) (rate used spent : ℕ) : Type 0 where
  pub weighed : Ends words (padded_program extra ps) (padded_procedure extra u) input
  pub most : spent ≤ rate * weighed.used + 2 * length u.dummies
  pub few : (times : ℕ) → ((depth : ℕ) (n : Setting ℤ) (s e : Scene ℤ) (k left price : ℕ) → run (calls_of ps depth) n u.body s k ≡ Done e left → ((j : ℕ) → run (calls_of (padded_program extra ps) depth) n (padded extra u.body) s (price + j) ≡ Done e j) → price ≤ times * (k - left)) → weighed.used ≤ times * used

module _ (extra : Act → ℕ) (more : (a : Act) → own_nodes a ≤ extra a)
    (sb : Bool) (more_steps : sb ≡ true → (x : List ℕ) (a b c : Term) (at : ℕ) (name : List ℕ) (given : List (List ℕ)) (mark : Mark) → own_nodes (loop (plain x) a b c (one at (call name (actuals_named given))) mark) + length given ≤ extra (loop (plain x) a b c (one at (call name (actuals_named given))) mark)) (reps : ℕ) (rt : Rate sb reps)
    (lines : ReversedLines) (w : ProgramFacts) (ps : List Procedure) (room : (i : ℕ) → w.marks.split i ≡ true → (name : List ℕ) (v : Procedure) → find_unit ps name ≡ Some v → (given : List (List ℕ)) → length (variables v) ≤ extra (call name (actuals_named given))) (u : Procedure) (vars outvars : List Bool) (good : SourceFitsWith sb lines w ps u) (input given : List (Slot ℤ)) (fit : fits words u input ≡ true) (alike : AreAlike input given) (k used : ℕ) (output : Output ℤ) (done : run_unit words ps u input [] None k ≡ Done output used) where
  abbrev m : ProgramMarks
  m = w.marks

  abbrev own : Facts
  own = facts_in w u.name

  abbrev ns : List Named
  ns = head.ns sb lines w ps u vars outvars good input given fit alike k used output done

  abbrev outs : List (List ℕ)
  outs = names_in (m.shadowed u.name) (unmarked u.dummies outvars)

  abbrev ins : List (List ℕ)
  ins = names_in (m.shadowed u.name) (unmarked u.dummies vars)

  abbrev a : Procedure
  a = adjoint_unit_with sb m ps (all_units m ps u) u outs ins

  abbrev qs : List Procedure
  qs = emitted.qs sb lines w ps u vars outvars good

  abbrev joined : List (Slot ℤ)
  joined = joined_by (shadow_flags (m.shadowed u.name) u.dummies) input given

  abbrev before : Store ℤ
  before = input_store words u input

  abbrev sh : Var → Shape
  sh = with_shadow_shapes (m.shadowed u.name) (λ x. shape_of (extents_of words u before x))

  abbrev p : Plan
  p = plan_in m ps u

  abbrev separates : (v w : Var) → var_eq (naming ns v) (naming ns w) ≡ var_eq v w
  separates = head.separates sb lines w ps u vars outvars good input given fit alike k used output done

  shapes_fit : ShapesFit p sh
  shapes_fit = record { scalars = head.knows sb lines w ps u vars outvars good input given fit alike k used output done; shadows = λ x h. ap (λ b. if b then sh (plain x) else scalar) h }

  seen_is : pulled_setting (naming ns) (unit_setting words qs a joined) ≡ on_words sh 1
  seen_is =
      let f = head.fitting sb lines w ps u vars outvars good input given fit alike k used output done in
      let d = made.declared_alike sb m ps (all_units m ps u) u f.vars_apart (good.inside u.name u good.there) (good.extents u.name u good.there) in
      entry.setting_seen u a ns separates (callee_of m ps u.name (Some u)) refl (record { plains = d.plains; shadows = d.shadows; helpers = d.helpers; extents = d.extents }) (made.own_dummy sb m ps (all_units m ps u) u f.vars_apart (good.inside u.name u good.there) (good.extents u.name u good.there)) refl input given fit alike

  abbrev sc : Schedules
  sc = schedules_by sb (callee_facts w ps)

  pub spends : (calls : ℕ) → CallsWithin ps u.name calls → (sb ≡ true → AllFew lines reps output.events) → (j spent : ℕ) (end : Output ℤ) → run_unit words qs a joined [] None j ≡ Done end spent → SpendsPriced extra ps u input (rate_of rt.base rt.more calls) used spent
  spends calls chains few j spent end h =
      let depth = k + j in
      let b = unit_body words ps u input k used output done in
      let c = unit_body words qs a joined j spent end h in
      let g = callee_facts w ps in
      let ran : run (calls_of ps depth) (on_words (plainly sh) 1) u.body (begin words ps u input) (k + 0) ≡ Done b.end (b.left + 0) =
      run_later ps k depth (omega arith) (on_words (plainly sh) 1) u.body (begin words ps u input) b.end k b.left 0 (ap (λ n. run (calls_of ps k) n u.body (begin words ps u input) k) (sym (head.setting_plain sb lines w ps u vars outvars good input given fit alike k used output done)) ∙ b.is) in
      let few_end : FewIn sb lines reps b.end = λ on. few_reversed lines reps b.end.events (subst (λ z. AllFew lines reps z) b.told (few on)) in
      let rate = rate_of rt.base rt.more calls in
      let x = unit_costs sb extra more more_steps reps rt lines ps qs g (has_adjoint m ps u) (answers m ps u) (has_pair m ps u) (is_carried_with sb m ps u) (first_statement ps) (emitted.vars_of sb lines w ps u vars outvars good) (emitted.arrays sb lines w ps u vars outvars good) (emitted.emitted_fits sb lines w ps u vars outvars good) (λ name i is n v found ins given. subst (λ o. length (variables_of o) ≤ extra (call n (actuals_named given))) (sym found) (room i is n v found given))
      depth calls u.name u good.there (emitted.head_within sb lines w ps u vars outvars good) chains (with_shadow_shapes (m.shadowed u.name) (λ x. shape_of (extents_of words u before x))) 1
      (subst (λ o. ShapesFit (plan_of g own (arrays_in o)) sh) (sym good.there) shapes_fit) (begin words ps u input) b.end (k + 0) (b.left + 0) ran few_end in
      let here = head_there sb m ps u vars outvars good.known (found_there ps u.name u good.there).0 in
      let F : Code = forward_with sc p (first_statement ps u.name) 0 u.body in
      let B : Code = backward_with sc p (first_statement ps u.name) 0 u.body in
      let sweeps : BothCost (calls_of qs depth) sh 1 F B (own.needed (entry_point ps u.name)) (own.held (end_point ps u.name)) before (rate * x.price) =
      subst (λ o. BothCost (calls_of qs depth) sh 1 (forward_with sc (plan_of g own (arrays_in o)) (first_statement ps u.name) 0 u.body) (backward_with sc (plan_of g own (arrays_in o)) (first_statement ps u.name) 0 u.body) (own.needed (entry_point ps u.name)) (own.held (end_point ps u.name)) before (rate * x.price)) good.there (x.cost here) in
      let code = adjoint_body_with sc p (first_statement ps u.name) u.line u.body outs ins in
      let kept = kept_in words qs a joined in
      let start : Store ℤ = pulled (naming ns) (input_store words a joined) in
      let turned : run (calls_of qs j) (on_words sh 1) code (scene kept start []) j ≡ Done (pulled_scene (naming ns) c.end) c.left =
      ap (λ n. run (calls_of qs j) n code (scene kept start []) j) (sym seen_is)
      ∙ sym (run_renamed (naming ns) (record { at = separates }) qs j (unit_setting words qs a joined) code (begin words qs a joined) j)
      ∙ ap (pulled_outcome (naming ns)) c.is in
      let deeper = run_later qs j depth (omega arith) (on_words sh 1) code (scene kept start []) (pulled_scene (naming ns) c.end) j c.left 0 turned in
      let few_all = body_cost sc qs depth sh 1 p (first_statement ps u.name) u.line u.body outs ins (own.needed (entry_point ps u.name)) (own.held (end_point ps u.name)) before (rate * x.price) sweeps kept start []
      (record { at = λ y i l o. head.same_plain sb lines w ps u vars outvars good input given fit alike k used output done y i }) (pulled_scene (naming ns) c.end) (j + 0) (c.left + 0) deeper in
      let spent_is = c.spent in
      let paid : run (calls_of (padded_program extra ps) depth) (unit_setting words (padded_program extra ps) (padded_procedure extra u) input) (padded extra u.body) (begin words (padded_program extra ps) (padded_procedure extra u) input) (x.price + 0) ≡ Done b.end 0 =
      ap (λ n. run (calls_of (padded_program extra ps) depth) n (padded extra u.body) (begin words ps u input) (x.price + 0)) (head.setting_plain sb lines w ps u vars outvars good input given fit alike k used output done) ∙ x.pays 0 in
      let price_is : x.price + 0 ≡ x.price = omega arith in
      record {
        weighed = unit_ends words (padded_program extra ps) (padded_procedure extra u) input depth (x.price + 0) b.end paid b.shut;
        most = subst (λ z. spent ≤ rate * z + 2 * length u.dummies) (sym price_is)
            (omega (arith, few_all, spent_is, names_few (m.shadowed u.name) (unmarked u.dummies outvars), names_few (m.shadowed u.name) (unmarked u.dummies vars), unmarked_few u.dummies outvars, unmarked_few u.dummies vars));
        few = λ times bounds.
            let used_is = b.spent in
            let l = bounds depth (on_words (plainly sh) 1) (begin words ps u input) b.end (k + 0) (b.left + 0) x.price ran x.pays in
            let same : k + 0 - (b.left + 0) ≡ used = omega (arith, used_is) in
            subst (λ z. z ≤ times * used) (sym price_is) (subst (λ z. x.price ≤ times * z) same l);
      }

-- in the program that is emitted
pub emitted_priced : (extra : Act → ℕ) → ((a : Act) → own_nodes a ≤ extra a) →
    (sb : Bool) → (sb ≡ true → (x : List ℕ) (a b c : Term) (at : ℕ) (name : List ℕ) (given : List (List ℕ)) (mark : Mark) → own_nodes (loop (plain x) a b c (one at (call name (actuals_named given))) mark) + length given ≤ extra (loop (plain x) a b c (one at (call name (actuals_named given))) mark)) → (reps : ℕ) (rt : Rate sb reps) →
    (lines : ReversedLines) (w : ProgramFacts) (ps : List Procedure) (head : ℕ) (vars outvars : List Bool) (u : Procedure) → unit_at head ps ≡ u ∷ [] → SourceFitsWith sb lines w ps u → ((i : ℕ) → w.marks.split i ≡ true → (name : List ℕ) (v : Procedure) → find_unit ps name ≡ Some v → (given : List (List ℕ)) → length (variables v) ≤ extra (call name (actuals_named given))) → (calls : ℕ) → CallsWithin ps u.name calls →
    (a : Procedure) → find_unit (emitted_program_with sb w.marks ps head vars outvars) (adjoint_name ps u) ≡ Some a →
    (input shadows : List (Slot ℤ)) → fits words u input ≡ true → AreAlike input shadows → (k used : ℕ) (output : Output ℤ) → run_unit words ps u input [] None k ≡ Done output used → (sb ≡ true → AllFew lines reps output.events) →
    (j spent : ℕ) (end : Output ℤ) → run_unit words (emitted_program_with sb w.marks ps head vars outvars) a (joined_by (shadow_flags (w.marks.shadowed u.name) u.dummies) input shadows) [] None j ≡ Done end spent →
    SpendsPriced extra ps u input (rate_of rt.base rt.more calls) used spent
emitted_priced extra more sb more_steps reps rt lines w ps head vars outvars u is good room calls chains a found input given fit alike k used output done few j spent end h =
    let it : emitted_adjoint_with sb w.marks ps u vars outvars u ≡ cleared = ap (λ b. if b then cleared else adjoint_unit_with sb w.marks ps (all_units w.marks ps u) u [] []) (name_refl u.name) in
    let there = adjoint_found sb w.marks ps u vars outvars u.name u good.there (head_there sb w.marks ps u vars outvars good.known (found_there ps u.name u good.there).0) ∙ ap Some it in
    let one : Some cleared ≡ Some a = sym there ∙ ap (λ qs. find_unit qs (adjoint_name ps u)) (sym program) ∙ found in
    let same : cleared ≡ a = cc in
    spends extra more sb more_steps reps rt lines w ps room u vars outvars good input given fit alike k used output done calls chains few j spent end
    (ap (λ qs. run_unit words qs cleared (joined_by (shadow_flags (w.marks.shadowed u.name) u.dummies) input given) [] None j) (sym program)
    ∙ ap (λ z. run_unit words (emitted_program_with sb w.marks ps head vars outvars) z (joined_by (shadow_flags (w.marks.shadowed u.name) u.dummies) input given) [] None j) same ∙ h)
  where
    cleared : Procedure
    cleared = adjoint_unit_with sb w.marks ps (all_units w.marks ps u) u (names_in (w.marks.shadowed u.name) (unmarked u.dummies outvars)) (names_in (w.marks.shadowed u.name) (unmarked u.dummies vars))

    program : emitted_program_with sb w.marks ps head vars outvars ≡ emitted_units_with sb w.marks ps u vars outvars ps
    program = ap (emitted_for_with sb w.marks ps vars outvars) is
