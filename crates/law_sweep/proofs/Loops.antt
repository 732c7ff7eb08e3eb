-- A DO as a statement: its derivative and its sweeps.
use Rattle.std.proofs.Common.{◌≡◌, ◌<◌, ◌≤◌, ◌^◌, ℕ, Bool, true, false, List, ◌∷◌, refl, sym, ap, ◌∙◌, arith, rules, if◌then◌else◌, int_eq}
use Rattle.std.specs.Prelude.{ℤ, pos, negsuc, ◌-ℤ◌, nat_le, Result, Ok, Err, Some, None}
use Rattle.adj_tree.specs.Code.{Var, Term, Mark, unmarked, with_count, count_from, loop, Code}
use Rattle.adj_word.specs.Word.{wrap, sub, trip_count}
use Rattle.adj_word.proofs.Counting.{last_of, trips_down}
use Rattle.adj_word.proofs.Residues.{wrap_word}
use Rattle.def_meaning.specs.Trap.{Trap, step_trap}
use Rattle.def_meaning.specs.Event.{Marked}
use Rattle.def_meaning.specs.Store.{Store, set}
use Rattle.def_meaning.specs.Value.{Setting, value}
use Rattle.def_meaning.specs.Scene.{Done, then_do}
use Rattle.def_meaning.specs.Run.{Calls, trips, most_turns, in_force, from_1_to_64, after_loop}
use Rattle.law_sweep.specs.Scenes.{Course}
use Rattle.def_sweep.specs.MarkedUnits.{is_marked}
use Rattle.def_sweep.specs.Reversals.{Reversal, LoopRun, ReversedLines, StepUnits}
use Rattle.law_sweep.specs.Runs.{ActComes, ActPasses}
use Rattle.law_sweep.proofs.Told.{marks_other, marks_own}
use Rattle.law_sweep.proofs.Turns.{TurnsCome, TurnsPass}

-- ---- the run of a loop

-- a loop whose bounds have these values, where it isn't marked
pub loop_comes : {C : Type 0} {rs : List Reversal} (q : Calls C) (n : Setting C) (line : ℕ) (x : Var) (ea eb ec : Term) (body : Code) (base : Course) (s s' : Store C) (t t' : List C) (a b c : C) (m : ℕ) → value n ea s ≡ Ok a → value n eb s ≡ Ok b → value n ec s ≡ Ok c → trips unmarked (n.numbers.shown a) (n.numbers.shown b) (n.numbers.shown c) ≡ Ok m → TurnsCome q n m body x (n.numbers.shown c) base (set s x 0 (n.numbers.of_word (wrap (n.numbers.shown a)))) s' t t' rs → ActComes q n (loop x ea eb ec body unmarked) line base s s' t t' rs
loop_comes q n line x ea eb ec body base s s' t t' a b c m ha hb hc hm l = record {
  later = l.later;
  tells = l.tells;
  runs = record { cost = l.cost; by = λ k. rw (ha, hb, hc, hm) (ap (λ o. then_do o (λ s1 j. Done (after_loop line m None s1) j)) (l.by k)) };
}

-- a loop of the program, which isn't one of those that are to be reversed
pub loop_passes : {C : Type 0} (lines : ReversedLines) (loops : List LoopRun) (q : Calls C) (n : Setting C) (line : ℕ) (x : Var) (ea eb ec : Term) (body : Code) (mark : Mark) → (is_marked mark ≡ true → lines line ≡ None) → (base : Course) (s s' : Store C) (t : List C) (a b c : C) (m : ℕ) → value n ea s ≡ Ok a → value n eb s ≡ Ok b → value n ec s ≡ Ok c → trips mark (n.numbers.shown a) (n.numbers.shown b) (n.numbers.shown c) ≡ Ok m → TurnsPass lines q n m body x (n.numbers.shown c) base (set s x 0 (n.numbers.of_word (wrap (n.numbers.shown a)))) s' t loops → ActPasses lines q n (loop x ea eb ec body mark) line base s s' t loops
loop_passes lines loops q n line x ea eb ec body mark other base s s' t a b c m ha hb hc hm l = go mark other refl
  where
    told : (snapshots : ℕ) → in_force n mark s ≡ Some snapshots → lines line ≡ None → ActPasses lines q n (loop x ea eb ec body mark) line base s s' t loops
    told snapshots is o = record {
      later = record { opened = l.later.opened; events = Marked line m snapshots ∷ l.later.events };
      tells = marks_other lines n.level line m snapshots base l.later loops o l.tells;
      runs = record { cost = l.cost; by = λ k. rw (ha, hb, hc, hm, is) (ap (λ o. then_do o (λ s1 j. Done (after_loop line m (Some snapshots) s1) j)) (l.by k)) };
    }

    go : (mark1 : Mark) → (is_marked mark1 ≡ true → lines line ≡ None) → mark1 ≡ mark → ActPasses lines q n (loop x ea eb ec body mark) line base s s' t loops
    go unmarked o is = record {
      later = l.later;
      tells = l.tells;
      runs = record { cost = l.cost; by = λ k. let none : in_force n mark s ≡ None = ap (λ z. in_force n z s) (sym is) in rw (ha, hb, hc, hm, none) (ap (λ o. then_do o (λ s1 j. Done (after_loop line m None s1) j)) (l.by k)) };
    }
    go (with_count k) o is = told k (ap (λ z. in_force n z s) (sym is)) (o refl)
    go (count_from y) o is = told (from_1_to_64 (n.numbers.shown (s y 0))) (ap (λ z. in_force n z s) (sym is)) (o refl)

-- one of those that are to be reversed
pub loop_passes_own : {C : Type 0} (lines : ReversedLines) (loops : List LoopRun) (q : Calls C) (n : Setting C) (line : ℕ) (x : Var) (ea eb ec : Term) (body : Code) (mark : Mark) (snapshots : ℕ) (step : StepUnits) → lines line ≡ Some step → (base : Course) (s s' : Store C) → in_force n mark s ≡ Some snapshots → (t : List C) (a b c : C) (m : ℕ) → value n ea s ≡ Ok a → value n eb s ≡ Ok b → value n ec s ≡ Ok c → trips mark (n.numbers.shown a) (n.numbers.shown b) (n.numbers.shown c) ≡ Ok m → TurnsPass lines q n m body x (n.numbers.shown c) base (set s x 0 (n.numbers.of_word (wrap (n.numbers.shown a)))) s' t loops →
    let run : LoopRun = record { mark = record { line = line; turns = m; snapshots = snapshots }; step = step } in ActPasses lines q n (loop x ea eb ec body mark) line base s s' t (run ∷ loops)
loop_passes_own lines loops q n line x ea eb ec body mark snapshots step own base s s' is t a b c m ha hb hc hm l = record {
  later = record { opened = l.later.opened; events = Marked line m snapshots ∷ l.later.events };
  tells = marks_own lines n.level (record { mark = record { line = line; turns = m; snapshots = snapshots }; step = step }) base l.later loops own l.tells;
  runs = record { cost = l.cost; by = λ k. rw (ha, hb, hc, hm, is) (ap (λ o. then_do o (λ s1 j. Done (after_loop line m (Some snapshots) s1) j)) (l.by k)) };
}

-- ---- numbers of turns

-- a loop turns less than 2 ^ 63 times, and without its mark as often
pub record Turning (a b c : ℤ) (m : ℕ) : Type 0 where
  pub small : m < 2 ^ 63
  pub plainly : trips unmarked a b c ≡ Ok m

at_most : (n : ℕ) → n ≤ 9223372036854775807 → nat_le n 9223372036854775807 ≡ true
at_most n h = grind arith

pub turning : (mark : Mark) (a b c : ℤ) (m : ℕ) → trips mark a b c ≡ Ok m → Turning a b c m
turning mark a b c m h = go (int_eq c (pos 0)) refl h
  where
    go : (z : Bool) → int_eq c (pos 0) ≡ z → (let r : Result ℕ Trap = if z then Err step_trap else (if nat_le (trip_count a b c) (most_turns mark) then Ok (trip_count a b c) else Err step_trap) in r ≡ Ok m) → Turning a b c m
    go true e h = cc
    go false e h = here (nat_le (trip_count a b c) (most_turns mark)) refl h
      where
        most : (k : Mark) → most_turns k ≤ 9223372036854775807
        most unmarked = omega arith
        most (with_count k) = omega arith
        most (count_from y) = omega arith

        here : (n : Bool) → nat_le (trip_count a b c) (most_turns mark) ≡ n → (let r : Result ℕ Trap = if n then Ok (trip_count a b c) else Err step_trap in r ≡ Ok m) → Turning a b c m
        here true n h =
            let same : trip_count a b c ≡ m = cc in
            let le : trip_count a b c ≤ most_turns mark = grind arith in
            let top = most mark in
            let le2 : trip_count a b c ≤ 9223372036854775807 = omega arith in
            let ok : nat_le (trip_count a b c) 9223372036854775807 ≡ true = at_most (trip_count a b c) le2 in
            record { small = omega arith; plainly = rw (e, ok) (ap Ok same) }
        here false n h = cc

pub trips_back : (m : ℕ) → m < 2 ^ 63 → trips unmarked (sub (pos m) (pos 1)) (pos 0) (negsuc 0) ≡ Ok m
trips_back m h =
    let start : sub (pos m) (pos 1) ≡ pos m -ℤ pos 1 = last_of m (omega arith) in
    let n : trip_count (sub (pos m) (pos 1)) (pos 0) (negsuc 0) ≡ m = ap (λ z. trip_count z (pos 0) (negsuc 0)) start ∙ trips_down m in
    let ok : nat_le m 9223372036854775807 ≡ true = grind arith in
    rw n (rw ok refl)

-- the step of the turns that go back
pub step_back : wrap (negsuc 0) ≡ negsuc 0
step_back = wrap_word (negsuc 0) (search rules)
