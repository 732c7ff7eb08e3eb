-- What a run costs at a price is at most the greatest price times its statements.
use Rattle.std.proofs.Common.{◌≡◌, ◌≤◌, ℕ, zero, suc, ◌+◌, ◌-◌, ◌*◌, Bool, true, false, List, [], ◌∷◌, min, refl, sym, ap, ◌∙◌, subst, arith}
use Rattle.std.specs.Prelude.{ℤ, Some, if◌then◌else◌}
use Rattle.adj_tree.specs.Code.{name_eq, Act, assign, choose, loop, during, call, runtime, Code, stop, step, Procedure}
use Rattle.def_meaning.specs.Padded.{waiting, padded_act, padded, padded_program}
use Rattle.def_meaning.specs.Scene.{Scene, Done, IsMore}
use Rattle.def_meaning.specs.Run.{Calls, run}
use Rattle.def_meaning.specs.Value.{Setting}
use Rattle.def_meaning.specs.Written.{find_unit}
use Rattle.def_meaning.specs.Units.{calls_of}
use Rattle.law_meaning.specs.Follows.{Follows, both_more, both_done, both_trap, both_full}
use Rattle.law_meaning.proofs.PaddedPrograms.{runs_padded}
use Rattle.def_kernel.specs.Kernel.{EachUnit}
use Rattle.def_kernel.specs.Weights.{weight, ActWeighsAtMost, WeighsAtMost}
use Rattle.law_cost.proofs.Runs.{left_same}
use Rattle.law_cost.specs.ScheduledRuns.{step_nodes, row_nodes, room_nodes, BoundIsWithin}

-- ---- capped prices

module _ (extra : Act → ℕ) where
  -- the price, or m where that is less
  abbrev pub capped : ℕ → Act → ℕ
  capped m a = min (extra a) m

  -- no statement of the list costs more than m so, in bodies either
  abbrev mutual
    pub ActIsFew : ℕ → Act → Type 0
    ActIsFew m (assign x subs e) = extra (assign x subs e) ≤ m
    ActIsFew m (choose c a b) = (extra (choose c a b) ≤ m) × (IsFew m a × IsFew m b)
    ActIsFew m (loop x first last by body mark) = (extra (loop x first last by body mark) ≤ m) × IsFew m body
    ActIsFew m (during c body) = (extra (during c body) ≤ m) × IsFew m body
    ActIsFew m (call name args) = extra (call name args) ≤ m
    ActIsFew m (runtime r) = extra (runtime r) ≤ m

    pub IsFew : ℕ → Code → Type 0
    IsFew m stop = Unit {0}
    IsFew m (step line a rest) = ActIsFew m a × IsFew m rest

  own_few : (m : ℕ) (a : Act) → ActIsFew m a → extra a ≤ m
  own_few m (assign x subs e) h = h
  own_few m (choose c a b) h = h.0
  own_few m (loop x first last by body mark) h = h.0
  own_few m (during c body) h = h.0
  own_few m (call name args) h = h
  own_few m (runtime r) h = h

  capped_is : (m : ℕ) (a : Act) → ActIsFew m a → capped m a ≡ extra a
  capped_is m a h = let l = own_few m a h in omega (arith, l)

  mutual
    act_same : (m : ℕ) (a : Act) → ActIsFew m a → padded_act (capped m) a ≡ padded_act extra a
    act_same m (assign x subs e) h = refl
    act_same m (choose c a b) h = λ i. choose c (list_same m a h.1.0 i) (list_same m b h.1.1 i)
    act_same m (loop x first last by body mark) h = λ i. loop x first last by (list_same m body h.1 i) mark
    act_same m (during c body) h = λ i. during c (list_same m body h.1 i)
    act_same m (call name args) h = refl
    act_same m (runtime r) h = refl

    pub list_same : (m : ℕ) (c : Code) → IsFew m c → padded (capped m) c ≡ padded extra c
    list_same m stop h = refl
    list_same m (step line a rest) h = λ i. waiting (capped_is m a h.0 i) line (step line (act_same m a h.0 i) (list_same m rest h.1 i))

  units_same : (m : ℕ) (us : List Procedure) → EachUnit (λ v. IsFew m v.body) us → padded_program (capped m) us ≡ padded_program extra us
  units_same m [] h = refl
  units_same m (u ∷ us) h = λ i. record u { body = list_same m u.body h.0 i } ∷ units_same m us h.1 i

-- ---- weights

-- where no statement weighs more than w, none has 2 * w nodes so: a step call stands in its loop's body
step_few : (w : ℕ) (body : Code) → WeighsAtMost w body → step_nodes body ≤ w
step_few w stop h = omega arith
step_few w (step line (assign x subs e) rest) h = omega arith
step_few w (step line (choose c a b) rest) h = omega arith
step_few w (step line (loop x first last by body mark) rest) h = omega arith
step_few w (step line (during c body) rest) h = omega arith
step_few w (step line (runtime r) rest) h = omega arith
step_few w (step line (call name args) stop) h = let l = h.0 in omega (arith, l)
step_few w (step line (call name args) (step l a rest)) h = omega arith

mutual
  act_few : (w : ℕ) (a : Act) → ActWeighsAtMost w a → ActIsFew row_nodes (2 * w - 1) a
  act_few w (assign x subs e) h = omega (arith, h)
  act_few w (choose c a b) h = let l = h.0 in (omega (arith, l), (list_few w a h.1.0, list_few w b h.1.1))
  act_few w (loop x first last by body mark) h = let l = h.0 in let s = step_few w body h.1 in (omega (arith, l, s), list_few w body h.1)
  act_few w (during c body) h = let l = h.0 in (omega (arith, l), list_few w body h.1)
  act_few w (call name args) h = omega (arith, h)
  act_few w (runtime r) h = omega (arith, h)

  pub list_few : (w : ℕ) (c : Code) → WeighsAtMost w c → IsFew row_nodes (2 * w - 1) c
  list_few w stop h = tt
  list_few w (step line a rest) h = (act_few w a h.0, list_few w rest h.1)

-- so it is with room for so many variables
mutual
  room_act : (w count : ℕ) (a : Act) → ActWeighsAtMost w a → ActIsFew (room_nodes count) (2 * (w + count) - 1) a
  room_act w count (assign x subs e) h = omega (arith, h)
  room_act w count (choose c a b) h = let l = h.0 in (omega (arith, l), (room_few w count a h.1.0, room_few w count b h.1.1))
  room_act w count (loop x first last by body mark) h = let l = h.0 in let s = step_few w body h.1 in (omega (arith, l, s), room_few w count body h.1)
  room_act w count (during c body) h = let l = h.0 in (omega (arith, l), room_few w count body h.1)
  room_act w count (call name args) h = omega (arith, h)
  room_act w count (runtime r) h = omega (arith, h)

  pub room_few : (w count : ℕ) (c : Code) → WeighsAtMost w c → IsFew (room_nodes count) (2 * (w + count) - 1) c
  room_few w count stop h = tt
  room_few w count (step line a rest) h = (room_act w count a h.0, room_few w count rest h.1)

pub each_few : (P Q : Code → Type 0) → ((c : Code) → P c → Q c) → (us : List Procedure) → EachUnit (λ v. P v.body) us → EachUnit (λ v. Q v.body) us
each_few P Q f [] h = tt
each_few P Q f (u ∷ us) h = (f u.body h.0, each_few P Q f us h.1)

-- the unit that was found weighs no more
pub each_found : (w : ℕ) (us : List Procedure) (name : List ℕ) (u : Procedure) → EachUnit (λ v. WeighsAtMost w v.body) us → find_unit us name ≡ Some u → WeighsAtMost w u.body
each_found w [] name u h f = absurd cc
each_found w (v ∷ us) name u h f = go (name_eq v.name name) f (each_found w us name u h.1)
  where
    go : (b : Bool) → (if b then Some v else find_unit us name) ≡ Some u → (find_unit us name ≡ Some u → WeighsAtMost w u.body) → WeighsAtMost w u.body
    go true f ih = let same : v ≡ u = cc in subst (λ (z : Procedure). WeighsAtMost w z.body) same h.0
    go false f ih = ih f

-- what weighs nothing takes nothing
nothing_taken : (c : Code) → WeighsAtMost 0 c → {C : Type 0} (q : Calls C) (n : Setting C) (s e : Scene C) (k left : ℕ) → run q n c s k ≡ Done e left → k ≡ left
nothing_taken stop w q n s e k left h = left_same s e k left h
nothing_taken (step line a rest) w q n s e k left h = absurd (none a w.0)
  where
    none : (a : Act) → ActWeighsAtMost 0 a → ⊥
    none (assign x subs e) h = absurd (omega (arith, h))
    none (choose c a b) h = let l = h.0 in absurd (omega (arith, l))
    none (loop x first last by body mark) h = let l = h.0 in absurd (omega (arith, l))
    none (during c body) h = let l = h.0 in absurd (omega (arith, l))
    none (call name args) h = absurd (omega (arith, h))
    none (runtime r) h = absurd (omega (arith, h))

-- ---- the bound

-- A list that is done costs at most 2 * w for each statement, where no statement of it and of the units costs as much as 2 * w. Where w is 0 it takes none.
module _ (extra : Act → ℕ) (w : ℕ) (us : List Procedure) (each : EachUnit (λ v. IsFew extra (2 * w - 1) v.body) us) (c : Code) (few : IsFew extra (2 * w - 1) c) (nothing : w ≡ 0 → WeighsAtMost 0 c) (depth : ℕ) (n : Setting ℤ) (s e e1 : Scene ℤ) (k left price : ℕ) (done : run (calls_of us depth) n c s k ≡ Done e left) (pays : (j : ℕ) → run (calls_of (padded_program extra us) depth) n (padded extra c) s (price + j) ≡ Done e1 j) where
  m : ℕ
  m = 2 * w - 1

  priced_as : run (calls_of (padded_program (capped extra (2 * w - 1)) us) depth) n (padded (capped extra (2 * w - 1)) c) s ≡ run (calls_of (padded_program extra us) depth) n (padded extra c) s
  priced_as = λ i. run (calls_of (units_same extra (2 * w - 1) us each i) depth) n (list_same extra (2 * w - 1) c few i) s

  pub price_few : price ≤ 2 * w * (k - left)
  price_few = go (runs_padded us (capped extra (2 * w - 1)) (2 * w - 1 + 1) (λ a. omega arith) depth n c s k)
    where
      of_parts : (spent rest cost : ℕ) (first second : Scene ℤ) → k ≡ spent + rest → run (calls_of us depth) n c s k ≡ Done first rest → cost ≤ (2 * w - 1 + 1) * spent + 0 → ((j : ℕ) → run (calls_of (padded_program (capped extra (2 * w - 1)) us) depth) n (padded (capped extra (2 * w - 1)) c) s (cost + j) ≡ Done second j) → price ≤ 2 * w * (k - left)
      of_parts spent rest cost first second is run_is most by =
          let r = left_same e first left rest (sym done ∙ run_is) in
          let both : Done second price ≡ Done e1 cost = sym (by price) ∙ ap (λ f. f (cost + price)) priced_as ∙ (let z : cost + price ≡ price + cost = omega arith in ap (run (calls_of (padded_program extra us) depth) n (padded extra c) s) z) ∙ pays cost in
          let p = left_same second e1 price cost both in
          let spent_is : spent ≡ k - left = omega (arith, r, is) in
          last w refl spent_is (omega (arith, p, most))
        where
          last : (v : ℕ) → v ≡ w → spent ≡ k - left → price ≤ (2 * w - 1 + 1) * spent → price ≤ 2 * w * (k - left)
          last zero v spent_is l =
              let t = nothing_taken c (nothing (sym v)) (calls_of us depth) n s e k left done in
              let none : spent ≡ 0 = omega (arith, t, spent_is) in
              let f : (2 * w - 1 + 1) * spent ≡ 0 = ap (λ z. (2 * w - 1 + 1) * z) none ∙ (let g : (2 * w - 1 + 1) * 0 ≡ 0 = omega arith in g) in
              omega (arith, l, f)
          last (suc v) is_w spent_is l =
              let f : 2 * w - 1 + 1 ≡ 2 * w = omega (arith, is_w) in
              subst (λ z. price ≤ 2 * w * z) spent_is (subst (λ z. price ≤ z * spent) f l)

      go : Follows (λ (a b : Scene ℤ). a ≡ b) (2 * w - 1 + 1) 0 (run (calls_of us depth) n c s) (run (calls_of (padded_program (capped extra (2 * w - 1)) us) depth) n (padded (capped extra (2 * w - 1)) c) s) k → price ≤ 2 * w * (k - left)
      go (both_more more later) = absurd (subst IsMore done more)
      go (both_done d) = of_parts d.spent d.left d.cost d.first d.second d.is d.done d.most d.by
      go (both_trap d) = absurd (let x = sym done ∙ d.done in cc)
      go (both_full d) = absurd (let x = sym done ∙ d.done in cc)

pub bound_is_within : BoundIsWithin
bound_is_within weight calls reps used dummies variables = omega arith
