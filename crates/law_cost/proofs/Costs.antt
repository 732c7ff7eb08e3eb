-- What runs of both sweeps take, at the weights of statements where no loop is reversed by a schedule, and at the nodes of rows where some are: the
-- laws.
use Rattle.std.proofs.Common.{◌≡◌, ◌≤◌, ℕ, zero, suc, ◌+◌, ◌-◌, ◌*◌, Bool, true, false, List, [], ◌∷◌, sym, ◌∙◌, subst, arith, if◌then◌else◌}
use Rattle.std.specs.Prelude.{length, Some}
use Rattle.adj_tree.specs.Code.{name_eq, plain, Term, Mark, Act, assign, choose, loop, during, call, runtime, Procedure}
use Rattle.def_meaning.specs.Append.{one}
use Rattle.def_meaning.specs.Padded.{own_nodes}
use Rattle.def_meaning.specs.Units.{calls_of}
use Rattle.def_meaning.specs.Written.{find_unit}
use Rattle.def_names.specs.Variables.{variables}
use Rattle.def_kernel.specs.Weights.{WeighsAtMost}
use Rattle.def_adjoint.specs.KernelSpends.{HaveVariables}
use Rattle.def_sweep.specs.Marking.{ProgramMarks, SplitsNothing}
use Rattle.def_sweep.specs.Emission.{forward, backward}
use Rattle.def_sweep.specs.Plan.{actuals_named}
use Rattle.std.proofs.Math.Nat.{mul-le-mul_left}
use Rattle.law_sweep.specs.Theorem.{plan_of}
use Rattle.law_cost.specs.Along.{BothCost}
use Rattle.law_cost.specs.ScheduledRuns.{row_nodes, room_nodes, ScheduledCosts, SplitSpends}
use Rattle.law_cost.specs.RunTheorem.{RunsCost, EmittedCosts}
use Rattle.law_cost.proofs.AlongUnits.{Rate, rate_of, unit_costs}
use Rattle.law_cost.proofs.Bounded.{IsFew, list_few, room_few, each_few, each_found, price_few}
use Rattle.law_cost.proofs.Chains.{calls_within}
use Rattle.law_cost.proofs.Fair.{named_nodes}
use Rattle.law_cost.proofs.Heads.{emitted_priced}

-- ---- without schedules

absurd_on : {X : Type 0} → false ≡ true → X
absurd_on h = absurd cc

plain_rate : Rate false 0
plain_rate = record { base = 4; more = 1; four = omega arith; once = omega arith; high = λ on. absurd_on on; again = λ on. absurd_on on }

rate_is : (r : ℕ) → rate_of 4 1 r ≡ 4 + r
rate_is zero = omega arith
rate_is (suc r) = omega (arith, rate_is r)

own_more : (a : Act) → own_nodes a ≤ own_nodes a
own_more a = omega arith

-- no call is split
no_room : (extra : Act → ℕ) (m : ProgramMarks) → SplitsNothing m → (ps : List Procedure) → (i : ℕ) → m.split i ≡ true → (name : List ℕ) (v : Procedure) → find_unit ps name ≡ Some v → (given : List (List ℕ)) → length (variables v) ≤ extra (call name (actuals_named given))
no_room extra m unsplit ps i is name v found given = absurd (let z : true ≡ false = sym is ∙ unsplit i in cc)

pub runs_cost : RunsCost
unfolding plain_rate
runs_cost lines ps qs g there answers paired carried first vars arrays h unsplit depth calls name u found ins here chains sh level shapes s e k left done =
    let c = unit_costs false own_nodes own_more (λ on. absurd_on on) 0 plain_rate lines ps qs g there answers paired carried first vars arrays h (λ own i is n v found ins given. absurd (let z : true ≡ false = sym is ∙ unsplit own i in cc)) depth calls name u found ins (calls_within ps name calls chains) sh level shapes s e k left done (λ on. absurd_on on) in
    let w = (g name).facts in
    let p = plan_of g w (arrays name) in
    record { price = c.price; pays = c.pays; cost = subst (λ rate. BothCost (calls_of qs depth) sh level (forward p (first name) 0 u.body) (backward p (first name) 0 u.body) (w.needed (g name).entry) (w.held (g name).end) s.store (rate * c.price)) (rate_is calls) (c.cost here) }

pub emitted_costs : EmittedCosts
unfolding plain_rate
emitted_costs lines w ps head vars outvars u is good unsplit calls chains a found input given fit alike k used output done j spent end h =
    let x = emitted_priced own_nodes own_more false (λ on. absurd_on on) 0 plain_rate lines w ps head vars outvars u is good (no_room own_nodes w.marks unsplit ps) calls (calls_within ps u.name calls chains) a found input given fit alike k used output done (λ on. absurd_on on) j spent end h in
    record { weighed = x.weighed; most = subst (λ rate. spent ≤ rate * x.weighed.used + 2 * length u.dummies) (rate_is calls) x.most }

-- ---- with schedules

row_rate : (sb : Bool) (reps : ℕ) → Rate sb reps
row_rate sb reps = record { base = 16 + reps; more = suc reps; four = omega arith; once = omega arith; high = λ on. omega arith; again = λ on. omega arith }

row_rate_is : (reps r : ℕ) → rate_of (16 + reps) (suc reps) r ≡ 15 + suc r * suc reps
row_rate_is reps zero = omega arith
row_rate_is reps (suc r) =
    let h = row_rate_is reps r in
    let e : suc (suc r) * suc reps ≡ suc reps + suc r * suc reps = omega arith in
    omega (arith, h, e)

row_more : (a : Act) → own_nodes a ≤ row_nodes a
row_more (assign x subs e) = omega arith
row_more (choose c a b) = omega arith
row_more (loop x first last by body m) = omega arith
row_more (during c body) = omega arith
row_more (call name args) = omega arith
row_more (runtime r) = omega arith

row_steps : (x : List ℕ) (a b c : Term) (at : ℕ) (name : List ℕ) (given : List (List ℕ)) (mark : Mark) → own_nodes (loop (plain x) a b c (one at (call name (actuals_named given))) mark) + length given ≤ row_nodes (loop (plain x) a b c (one at (call name (actuals_named given))) mark)
row_steps x a b c at name given mark = let n = named_nodes given in omega (arith, n)

pub scheduled_costs : ScheduledCosts
unfolding row_rate
scheduled_costs sb lines w ps head vars outvars u is good unsplit calls reps chains a found input given fit alike k used output done few j spent end h =
    let x = emitted_priced row_nodes row_more sb (λ on. row_steps) reps (row_rate sb reps) lines w ps head vars outvars u is good (no_room row_nodes w.marks unsplit ps) calls chains a found input given fit alike k used output done (λ on. few) j spent end h in
    record {
      weighed = x.weighed;
      most = subst (λ rate. spent ≤ rate * x.weighed.used + 2 * length u.dummies) (row_rate_is reps calls) x.most;
      price_few = λ weight each. x.few (2 * weight) (λ depth n s e k left price ran pays. price_few row_nodes weight ps (each_few (WeighsAtMost weight) (IsFew row_nodes (2 * weight - 1)) (list_few weight) ps each) u.body (list_few weight u.body (each_found weight ps u.name u each good.there)) (λ z. subst (λ v. WeighsAtMost v u.body) z (each_found weight ps u.name u each good.there)) depth n s e e k left price ran pays);
    }

-- ---- where calls are split

room_more : (count : ℕ) (a : Act) → own_nodes a ≤ room_nodes count a
room_more count (assign x subs e) = omega arith
room_more count (choose c a b) = omega arith
room_more count (loop x first last by body m) = omega arith
room_more count (during c body) = omega arith
room_more count (call name args) = omega arith
room_more count (runtime r) = omega arith

room_steps : (count : ℕ) (x : List ℕ) (a b c : Term) (at : ℕ) (name : List ℕ) (given : List (List ℕ)) (mark : Mark) → own_nodes (loop (plain x) a b c (one at (call name (actuals_named given))) mark) + length given ≤ room_nodes count (loop (plain x) a b c (one at (call name (actuals_named given))) mark)
room_steps count x a b c at name given mark = let n = named_nodes given in omega (arith, n)

-- the unit that was found has no more variables
found_variables : (count : ℕ) (us : List Procedure) → HaveVariables count us → (name : List ℕ) (v : Procedure) → find_unit us name ≡ Some v → length (variables v) ≤ count
found_variables count [] h name v f = absurd cc
found_variables count (u ∷ us) h name v f = go (name_eq u.name name) f (found_variables count us h.1 name v)
  where
    go : (b : Bool) → (if b then Some u else find_unit us name) ≡ Some v → (find_unit us name ≡ Some v → length (variables v) ≤ count) → length (variables v) ≤ count
    go true f ih = let same : u ≡ v = cc in subst (λ z. length (variables z) ≤ count) same h.0
    go false f ih = ih f

room_for : (count : ℕ) (us : List Procedure) → HaveVariables count us → (name : List ℕ) (v : Procedure) → find_unit us name ≡ Some v → (given : List (List ℕ)) → length (variables v) ≤ room_nodes count (call name (actuals_named given))
room_for count us many name v there given = let l = found_variables count us many name v there in omega (arith, l)

pub split_spends : SplitSpends
unfolding row_rate
split_spends sb lines w ps head vars outvars u is good weight each count many calls reps chains a found input shadows fit alike k used output done few j spent end h =
    let x = emitted_priced (room_nodes count) (room_more count) sb (λ on. room_steps count) reps (row_rate sb reps) lines w ps head vars outvars u is good (λ i split name v there given. room_for count ps many name v there given) calls chains a found input shadows fit alike k used output done (λ on. few) j spent end h in
    let weighs = each_found weight ps u.name u each good.there in
    let price = x.few (2 * (weight + count)) (λ depth n s e k left price ran pays.
    price_few (room_nodes count) (weight + count) ps (each_few (WeighsAtMost weight) (IsFew (room_nodes count) (2 * (weight + count) - 1)) (room_few weight count) ps each) u.body (room_few weight count u.body weighs) (λ z. subst (λ v. WeighsAtMost v u.body) (let o : weight ≡ 0 = omega (arith, z) in o) weighs) depth n s e e k left price ran pays) in
    let most = subst (λ rate. spent ≤ rate * x.weighed.used + 2 * length u.dummies) (row_rate_is reps calls) x.most in
    let l = mul-le-mul_left (15 + suc calls * suc reps) price in
    omega (arith, most, l)
