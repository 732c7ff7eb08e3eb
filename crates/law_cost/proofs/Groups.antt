-- Groups, and the number of snapshots before and behind a reversed loop, are straight code; how many statements they have.
use Rattle.std.proofs.Common.{◌≡◌, ◌≤◌, ℕ, suc, ◌+◌, Bool, true, false, List, [], ◌∷◌, length, refl, arith}
use Rattle.std.specs.Prelude.{◌&&◌, if◌then◌else◌}
use Rattle.adj_tree.specs.Code.{plain, none, Mark, unmarked, with_count, count_from, push_word, pop_word, push_array, pop_array, runtime, Code}
use Rattle.def_meaning.specs.Append.{◌+++◌, one}
use Rattle.def_names.specs.Numbers.{Vars}
use Rattle.def_sweep.specs.Plan.{Plan, group}
use Rattle.def_sweep.specs.Rows.{push, pop, pushes, pops}
use Rattle.def_sweep.specs.ReversalCode.{set_slots, push_slots, pop_slots}
use Rattle.law_cost.specs.Sweeps.{statements_of}
use Rattle.law_cost.proofs.Counting.{append_count}
use Rattle.law_cost.proofs.Runs.{IsStraight}

module _ (p : Plan) (line : ℕ) where
  push_count : (x : List ℕ) → statements_of (push p line x) ≡ 1
  push_count x = go (p.arrays (plain x))
    where
      go : (b : Bool) → statements_of (one line (runtime (if b then push_array (plain x) else push_word (plain x) none))) ≡ 1
      go true = refl
      go false = refl

  pop_count : (x : List ℕ) → statements_of (pop p line x) ≡ 1
  pop_count x = go (p.arrays (plain x))
    where
      go : (b : Bool) → statements_of (one line (runtime (if b then pop_array (plain x) else pop_word (plain x) none))) ≡ 1
      go true = refl
      go false = refl

  pub pushes_count : (xs : List (List ℕ)) → statements_of (pushes p line xs) ≡ length xs
  pushes_count [] = refl
  pushes_count (x ∷ xs) = omega (arith, append_count (push p line x) (pushes p line xs), push_count x, pushes_count xs)

  pub pops_count : (xs : List (List ℕ)) → statements_of (pops p line xs) ≡ length xs
  pops_count [] = refl
  pops_count (x ∷ xs) = omega (arith, append_count (pops p line xs) (pop p line x), pop_count x, pops_count xs)

-- a group has no more members than the call has actuals
pub group_few : (dummies actuals : Vars) (ds given : List (List ℕ)) → length (group dummies actuals ds given) ≤ length given
group_few dummies actuals [] given = omega arith
group_few dummies actuals (d ∷ ds) [] = omega arith
group_few dummies actuals (d ∷ ds) (a ∷ given) = go (dummies (plain d) && actuals (plain a)) (group_few dummies actuals ds given)
  where
    go : (b : Bool) → length (group dummies actuals ds given) ≤ length given → length (if b then a ∷ group dummies actuals ds given else group dummies actuals ds given) ≤ suc (length given)
    go true h = omega (arith, h)
    go false h = omega (arith, h)

-- ---- the number of snapshots

module _ (line d : ℕ) where
  pub set_slots_straight : (mark : Mark) (c : Code) → IsStraight c → IsStraight (set_slots line d mark c)
  set_slots_straight unmarked c i = i
  set_slots_straight (with_count n) c i = i
  set_slots_straight (count_from x) c i = i

  pub push_slots_straight : (mark : Mark) (c : Code) → IsStraight c → IsStraight (push_slots line d mark c)
  push_slots_straight unmarked c i = i
  push_slots_straight (with_count n) c i = i
  push_slots_straight (count_from x) c i = (tt, i)

  pub pop_slots_straight : (mark : Mark) (c : Code) → IsStraight c → IsStraight (pop_slots line d mark c)
  pop_slots_straight unmarked c i = i
  pop_slots_straight (with_count n) c i = i
  pop_slots_straight (count_from x) c i = (tt, i)

  pub set_slots_few : (mark : Mark) (c : Code) → statements_of (set_slots line d mark c) ≤ 1 + statements_of c
  set_slots_few unmarked c = omega arith
  set_slots_few (with_count n) c = omega arith
  set_slots_few (count_from x) c = omega arith

  pub push_slots_few : (mark : Mark) (c : Code) → statements_of (push_slots line d mark c) ≤ 1 + statements_of c
  push_slots_few unmarked c = omega arith
  push_slots_few (with_count n) c = omega arith
  push_slots_few (count_from x) c = omega arith

  pub pop_slots_few : (mark : Mark) (c : Code) → statements_of (pop_slots line d mark c) ≤ 1 + statements_of c
  pop_slots_few unmarked c = omega arith
  pop_slots_few (with_count n) c = omega arith
  pop_slots_few (count_from x) c = omega arith

  pub set_slots_append : (mark : Mark) (c e : Code) → set_slots line d mark (c +++ e) ≡ set_slots line d mark c +++ e
  set_slots_append unmarked c e = refl
  set_slots_append (with_count n) c e = refl
  set_slots_append (count_from x) c e = refl

  pub pop_slots_append : (mark : Mark) (c e : Code) → pop_slots line d mark (c +++ e) ≡ pop_slots line d mark c +++ e
  pop_slots_append unmarked c e = refl
  pop_slots_append (with_count n) c e = refl
  pop_slots_append (count_from x) c e = refl
