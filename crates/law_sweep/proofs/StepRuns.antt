-- The steps of a marked loop that was run, and the numbers of its reversal.
use Rattle.std.proofs.Common.{◌≡◌, ◌≤◌, ◌<◌, ◌^◌, ℕ, zero, suc, Bool, true, false, length, refl, arith, int_eq, if◌then◌else◌}
use Rattle.std.specs.Prelude.{ℤ, pos, nat_le, Result, Ok, Err}
use Rattle.adj_tree.specs.Code.{Mark, unmarked, with_count, count_from}
use Rattle.adj_word.specs.Word.{trip_count}
use Rattle.adj_revolve.specs.Schedule.{schedule_of}
use Rattle.adj_revolve.proofs.ScheduleLemmas.{length-schedule_of}
use Rattle.def_meaning.specs.Trap.{Trap, step_trap}
use Rattle.def_meaning.specs.Value.{Setting}
use Rattle.def_meaning.specs.Scene.{Scene, stand, Go, Done, then_do}
use Rattle.def_meaning.specs.Run.{turns, trips}
use Rattle.def_meaning.specs.Runtime.{steps_of, snapshots_of}
use Rattle.def_sweep.specs.MarkedUnits.{is_marked}
use Rattle.law_meaning.proofs.Inversions.{then_done, count_done, done_same}
use Rattle.law_sweep.proofs.Runs.{left_same}

-- ---- numbers

-- what a reversal asks of the number of its steps and of its snapshots
pub record NumbersFit (l m : ℕ) : Type 0 where
  pub slot : 0 < m
  pub steps_fit : steps_of (pos l) ≡ Ok l
  pub snapshots_fit : snapshots_of (pos m) ≡ Ok m
  pub few : suc (suc (length (schedule_of 0 l m))) < 2 ^ 63
  pub small : suc l < 2 ^ 63

-- up to 2 ^ 40 steps with 1 to 64 snapshots have them
pub numbers_few : (l m : ℕ) → l ≤ 1099511627776 → 0 < m → m ≤ 64 → NumbersFit l m
numbers_few l m few slot most =
    let t1 : nat_le 0 l ≡ true = grind arith in
    let t2 : nat_le l 1099511627776 ≡ true = grind arith in
    let s1 : nat_le 1 m ≡ true = grind arith in
    let s2 : nat_le m 64 ≡ true = grind arith in
    record {
      slot = slot;
      steps_fit = rw (t1, t2) refl;
      snapshots_fit = rw (s1, s2) refl;
      few = omega (arith, length-schedule_of 0 l m slot);
      small = omega arith;
    }

-- a marked loop turns at most 2 ^ 40 times
abbrev turns_marked : ℤ → ℤ → ℤ → Result ℕ Trap
turns_marked a b c = if int_eq c (pos 0) then Err step_trap else (if nat_le (trip_count a b c) 1099511627776 then Ok (trip_count a b c) else Err step_trap)

marked_few : (a b c : ℤ) (l : ℕ) → turns_marked a b c ≡ Ok l → l ≤ 1099511627776
marked_few a b c l h = go (int_eq c (pos 0)) refl h
  where
    go : (z : Bool) → int_eq c (pos 0) ≡ z → (let r : Result ℕ Trap = if z then Err step_trap else (if nat_le (trip_count a b c) 1099511627776 then Ok (trip_count a b c) else Err step_trap) in r ≡ Ok l) → l ≤ 1099511627776
    go true e h = cc
    go false e h = here (nat_le (trip_count a b c) 1099511627776) refl h
      where
        here : (n : Bool) → nat_le (trip_count a b c) 1099511627776 ≡ n → (let r : Result ℕ Trap = if n then Ok (trip_count a b c) else Err step_trap in r ≡ Ok l) → l ≤ 1099511627776
        here true n h =
            let same : trip_count a b c ≡ l = cc in
            let le : trip_count a b c ≤ 1099511627776 = grind arith in
            omega arith
        here false n h = cc

pub turns_few : (mark : Mark) (a b c : ℤ) (l : ℕ) → is_marked mark ≡ true → trips mark a b c ≡ Ok l → l ≤ 1099511627776
turns_few unmarked a b c l marked h = cc
turns_few (with_count k) a b c l marked h = marked_few a b c l h
turns_few (count_from x) a b c l marked h = marked_few a b c l h

-- ---- steps

-- the first, and then the others
abbrev pub first_then : {A : Type 0} → A → (ℕ → A) → ℕ → A
first_then a f zero = a
first_then a f (suc i) = f i

-- m turns that are done, by the scenes before and after each, and the statements that were left there
pub record StepsRun {C : Type 0} (n : Setting C) (m : ℕ) (go : Go C) (after : Scene C → Scene C) (s e : Scene C) (k k' : ℕ) : Type 0 where
  pub before : ℕ → Scene C
  pub behind : ℕ → Scene C
  pub given : ℕ → ℕ
  pub left : ℕ → ℕ
  pub starts : before 0 ≡ s
  pub done : (i : ℕ) → i < m → go (before i) (given i) ≡ Done (behind i) (left i)
  pub next : (i : ℕ) → i < m → before (suc i) ≡ after (behind i)
  pub ends : before m ≡ e
  -- each turn takes a statement before its body
  pub counted : (i : ℕ) → i < m → first_then k left i ≡ suc (given i)
  pub counted_all : first_then k left m ≡ k'

pub steps_run : {C : Type 0} (n : Setting C) (m : ℕ) (go : Go C) (after : Scene C → Scene C) (s e : Scene C) (k k' : ℕ) → turns n m go after s k ≡ Done e k' → StepsRun n m go after s e k k'
steps_run n zero go after s e k k' h = record {
  before = λ i. s;
  behind = λ i. s;
  given = λ i. 0;
  left = λ i. 0;
  starts = refl;
  done = λ i less. absurd (omega arith);
  next = λ i less. absurd (omega arith);
  ends = done_same s e k k' h;
  counted = λ i less. absurd (omega arith);
  counted_all = left_same s e k k' h;
}
steps_run n (suc m) go after s e k k' h =
    let r = count_done (stand n s) k (λ j. then_do (go s j) (λ s1 i. turns n m go after (after s1) i)) e k' h in
    let o = then_done (go s r.left) (λ s1 i. turns n m go after (after s1) i) e k' r.goes in
    let rest = steps_run n m go after (after o.scene) e o.left k' o.second in
    record {
      before = first_then s rest.before;
      behind = first_then o.scene rest.behind;
      given = first_then r.left rest.given;
      left = first_then o.left rest.left;
      starts = refl;
      done = λ i less. each i less s o.scene r.left o.left rest.before rest.behind rest.given rest.left o.first rest.done;
      next = λ i less. between i less s o.scene rest.before rest.behind rest.starts rest.next;
      ends = rest.ends;
      counted = λ i less. counts i less k r.left o.left rest.given rest.left r.is rest.counted;
      counted_all = all_counted m k o.left rest.left rest.counted_all;
    }
  where
    each : (i : ℕ) → i < suc m → (a b : Scene _) (x y : ℕ) (f g : ℕ → Scene _) (p q : ℕ → ℕ) → go a x ≡ Done b y → ((i : ℕ) → i < m → go (f i) (p i) ≡ Done (g i) (q i)) → go (first_then a f i) (first_then x p i) ≡ Done (first_then b g i) (first_then y q i)
    each zero less a b x y f g p q first rest = first
    each (suc i) less a b x y f g p q first rest = rest i (omega arith)

    between : (i : ℕ) → i < suc m → (a b : Scene _) (f g : ℕ → Scene _) → f 0 ≡ after b → ((i : ℕ) → i < m → f (suc i) ≡ after (g i)) → first_then a f (suc i) ≡ after (first_then b g i)
    between zero less a b f g first rest = first
    between (suc i) less a b f g first rest = rest i (omega arith)

    counts : (i : ℕ) → i < suc m → (a x y : ℕ) (p q : ℕ → ℕ) → a ≡ suc x → ((i : ℕ) → i < m → first_then y q i ≡ suc (p i)) → first_then a (first_then y q) i ≡ suc (first_then x p i)
    counts zero less a x y p q first rest = first
    counts (suc i) less a x y p q first rest = rest i (omega arith)

    all_counted : (n a y : ℕ) (q : ℕ → ℕ) → first_then y q n ≡ k' → first_then a (first_then y q) (suc n) ≡ k'
    all_counted n a y q h = h

-- ---- something chosen for each step

pub record Chosen {A : Type 0} (P : ℕ → A → Type 0) (m : ℕ) : Type 0 where
  pub at : ℕ → A
  pub is : (i : ℕ) → i < m → P i (at i)

pub choose_each : {A : Type 0} (P : ℕ → A → Type 0) (other : A) (m : ℕ) → ((i : ℕ) → i < m → (a : A) × P i a) → Chosen P m
choose_each P other zero h = record { at = λ i. other; is = λ i less. absurd (omega arith) }
choose_each P other (suc m) h =
    let first = h 0 (omega arith) in
    let rest = choose_each (λ i a. P (suc i) a) other m (λ i less. h (suc i) (omega arith)) in
    record { at = first_then first.0 rest.at; is = λ i less. each i less first.0 rest.at first.1 rest.is }
  where
    each : (i : ℕ) → i < suc m → (a : _) (f : ℕ → _) → P 0 a → ((i : ℕ) → i < m → P (suc i) (f i)) → P i (first_then a f i)
    each zero less a f first rest = first
    each (suc i) less a f first rest = rest i (omega arith)
