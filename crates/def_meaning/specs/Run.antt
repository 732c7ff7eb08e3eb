-- What statements do. (docs/RUNNING.md, "Statements")
use Rattle.std.specs.Prelude.{ℕ, zero, suc, nat_le, min, max, ℤ, pos, List, ◌∷◌, Bool, Result, Ok, Err, Option, Some, None, if◌then◌else◌}
use Rattle.std.specs.Ordering.{int_eq}
use Rattle.adj_tree.specs.Code.{Var, Terms, Mark, unmarked, with_count, count_from, Act, assign, choose, loop, during, call, runtime, Code, stop, step}
use Rattle.adj_word.specs.Word.{wrap, add, at_least_zero, trip_count}
use Rattle.def_meaning.specs.Trap.{Trap, step_trap}
use Rattle.def_meaning.specs.Store.{Store, set}
use Rattle.def_meaning.specs.Value.{Setting, value, target, holds}
use Rattle.def_meaning.specs.Event.{Marked}
use Rattle.def_meaning.specs.Scene.{Scene, Go, Done, Trapped, stand, then_do, with_value, counted}
use Rattle.def_meaning.specs.Runtime.{runtime_act}

-- what a call does: the unit's name and its actuals, in the caller's setting, at a line
abbrev pub Calls : Type 0 → Type 0
Calls C = Setting C → List ℕ → Terms → ℕ → Go C

-- ---- loops

-- the most turns of a DO: 2 ^ 40 where it is marked, else 2 ^ 63 - 1
abbrev pub most_turns : Mark → ℕ
most_turns unmarked = 9223372036854775807
most_turns (with_count m) = 1099511627776
most_turns (count_from x) = 1099511627776

-- how often a loop turns, from its first value, limit and step (ANSI X3.9-1978, 11.10.3)
abbrev pub trips : Mark → ℤ → ℤ → ℤ → Result ℕ Trap
trips mark a b c =
    if int_eq c (pos 0) then Err step_trap
    else (if nat_le (trip_count a b c) (most_turns mark) then Ok (trip_count a b c) else Err step_trap)

-- the scene with a loop's variable set: to a word, which has no tangent
abbrev pub with_turn : {C : Type 0} → Setting C → Var → ℤ → Scene C → Scene C
with_turn n x z s = record s { store = set s.store x 0 (n.numbers.of_word z) }

-- the step after a turn
abbrev pub stepped : {C : Type 0} → Setting C → Var → ℤ → Scene C → Scene C
stepped n x c s = with_turn n x (add (n.numbers.shown (s.store x 0)) c) s

-- some turns of a loop, each counted, with the step after each
abbrev pub turns : {C : Type 0} → Setting C → ℕ → Go C → (Scene C → Scene C) → Go C
turns n zero body after s k = Done s k
turns n (suc m) body after s k = counted (stand n s) k (λ j. then_do (body s j) (λ s1 i. turns n m body after (after s1) i))

-- a word as a number of snapshots: 1 where it is below 1, and 64 where it is above 64
abbrev pub from_1_to_64 : ℤ → ℕ
from_1_to_64 z = max 1 (min (at_least_zero z) 64)

-- the number of snapshots in force at the entry of a loop, where it is marked
abbrev pub in_force : {C : Type 0} → Setting C → Mark → Store C → Option ℕ
in_force n unmarked s = None
in_force n (with_count m) s = Some m
in_force n (count_from x) s = Some (from_1_to_64 (n.numbers.shown (s x 0)))

-- the end of a loop at a line after m turns, which is told where the loop is marked
abbrev pub after_loop : {C : Type 0} → ℕ → ℕ → Option ℕ → Scene C → Scene C
after_loop line m None s = s
after_loop line m (Some snapshots) s = record s { events = Marked line m snapshots ∷ s.events }

-- ---- DO WHILE

-- the turns after which a test must fail: 2 ^ 63 - 1. (It isn't an abbreviation, so that no comparison of two runs unrolls a DO WHILE.)
unfoldable pub most_tests : ℕ
most_tests = 9223372036854775807

-- a test that was counted, and where it holds a turn and the next test; after m turns more the test must fail
abbrev pub tests : {C : Type 0} → Setting C → ℕ → (Scene C → Result Bool Trap) → ℕ → Go C → Go C
tests n zero test line body s k = with_value (test s) line (stand n s) (λ p. if p then Trapped step_trap line (stand n s) else Done s k)
tests n (suc m) test line body s k =
    with_value (test s) line (stand n s) (λ p. if p then then_do (body s k) (λ s1 j. counted (stand n s1) j (λ i. tests n m test line body s1 i)) else Done s k)

-- ---- statements

abbrev mutual
  -- one statement, which was counted
  pub act : {C : Type 0} → Calls C → Setting C → Act → ℕ → Go C
  act calls n (assign x subs e) line s k =
      with_value (value n e s.store) line (stand n s) (λ c. with_value (target n x subs s.store) line (stand n s) (λ i. Done (record s { store = set s.store x i c }) k))
  act calls n (choose c a b) line s k = with_value (holds n c s.store) line (stand n s) (λ p. if p then run calls n a s k else run calls n b s k)
  act calls n (loop x first last by body mark) line s k =
      with_value (value n first s.store) line (stand n s) (λ a. with_value (value n last s.store) line (stand n s) (λ b. with_value (value n by s.store) line (stand n s) (λ c.
      with_value (trips mark (n.numbers.shown a) (n.numbers.shown b) (n.numbers.shown c)) line (stand n s) (λ m.
      then_do (turns n m (run calls n body) (stepped n x (n.numbers.shown c)) (with_turn n x (wrap (n.numbers.shown a)) s) k)
      (λ s1 j. Done (after_loop line m (in_force n mark s.store) s1) j)))))
  act calls n (during c body) line s k = tests n most_tests (λ s1. holds n c s1.store) line (run calls n body) s k
  act calls n (call name args) line s k = calls n name args line s k
  act calls n (runtime r) line s k = runtime_act n r line s k

  -- the statements of a list in order, each counted before it is done
  pub run : {C : Type 0} → Calls C → Setting C → Code → Go C
  run calls n stop s k = Done s k
  run calls n (step line a rest) s k = counted (stand n s) k (λ j. then_do (act calls n a line s j) (run calls n rest))
