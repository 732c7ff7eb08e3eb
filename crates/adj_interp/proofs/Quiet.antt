-- A run of a program in which no call of the runtime stands never finds the tape full.
use Rattle.std.proofs.Common.{◌≡◌, ◌<◌, ℕ, zero, suc, length, arith, Bool, true, false, List, [], ◌∷◌, ◌++◌, refl, subst, if◌then◌else◌}
use Rattle.std.specs.Prelude.{ℤ, ◌&&◌, not, ◌==◌, ◌-◌, flat_map, reverse, slice_get, Result, Ok, Err, Option, Some, None}
use Rattle.std.specs.List.{All}
use Rattle.std.proofs.lemmas.List.Elements.{All-nil, All-cons, All-head, All-tail}
use Rattle.adj_tree.specs.Code.{name_eq, Terms, Act, assign, choose, loop, during, call, runtime, Code, stop, step, Procedure}
use Rattle.def_meaning.specs.Trap.{Trap, shape_trap}
use Rattle.def_meaning.specs.Numbers.{Numbers, duals}
use Rattle.adj_word.specs.Word.{wrap}
use Rattle.def_meaning.specs.Store.{scalar, set}
use Rattle.def_meaning.specs.Value.{Setting, value, target, holds}
use Rattle.def_meaning.specs.Scene.{Scene, Stand, stand, Outcome, Done, Trapped, More, Full, Go, then_do, with_value, counted}
use Rattle.def_meaning.specs.Run.{Calls, act, run, trips, with_turn, stepped, turns, in_force, after_loop, most_tests, tests}
use Rattle.def_meaning.specs.Written.{find_unit, handed_back}
use Rattle.def_meaning.specs.Units.{Slot, Output, unit_run, actuals, call_in, calls_of, copied_out, entry_store, dummies_fit, input_store, setting_in, dummy_slots, run_unit}
use Rattle.def_names.specs.Statements.{At, inner, statements}
use Rattle.def_names.specs.Fault.{faults_if, source_rules, fault}
use Rattle.def_names.specs.NameFaults.{undeclared, declared_twice, misused, bad_extents, reserved_variables, calls_runtime, runtime_calls, too_many_variables, faults_of_names}
use Rattle.def_names.specs.Check.{IsSound}
use Rattle.def_names.proofs.Sound.{sound_has_none}
use Rattle.def_names.proofs.Faultless.{none_front, none_behind, none_if}
use Rattle.adj_interp.specs.Dually.{CallsNoRuntime, DualFull}

-- ---- members of lists

all_front : {A : Type 0} (P : A → Type 0) (xs ys : List A) → All P (xs ++ ys) → All P xs
all_front P [] ys h = All-nil P
all_front P (x ∷ xs) ys h = All-cons P x xs (All-head P x (xs ++ ys) h) (all_front P xs ys (All-tail P x (xs ++ ys) h))

all_behind : {A : Type 0} (P : A → Type 0) (xs ys : List A) → All P (xs ++ ys) → All P ys
all_behind P [] ys h = h
all_behind P (x ∷ xs) ys h = all_behind P xs ys (All-tail P x (xs ++ ys) h)

-- what holds of each unit holds of the one that is found
all_found : (P : Procedure → Type 0) (us : List Procedure) → All P us → (name : List ℕ) (u : Procedure) → find_unit us name ≡ Some u → P u
all_found P [] h name u f = absurd cc
all_found P (v ∷ us) h name u f = go (name_eq v.name name) f (all_found P us (All-tail P v us h) name u)
  where
    go : (b : Bool) → (if b then Some v else find_unit us name) ≡ Some u → (find_unit us name ≡ Some u → P u) → P u
    go true f later = let same : v ≡ u = cc in subst P same (All-head P v us h)
    go false f later = later f

-- ---- runs

-- a run doesn't find the tape full
abbrev Goes : {A : Type 0} → Outcome A → Type 0
Goes (Done a k) = Unit {0}
Goes (Trapped t line w) = Unit {0}
Goes (More w) = Unit {0}
Goes (Full w) = ⊥

record IsNotFull {A : Type 0} (o : Outcome A) : Type 0 where
  goes : Goes o

done_not : {A : Type 0} (a : A) (k : ℕ) → IsNotFull (Done a k)
done_not a k = record { goes = tt }

trapped_not : {A : Type 0} (t : Trap) (line : ℕ) (w : Stand) → IsNotFull {A = A} (Trapped t line w)
trapped_not t line w = record { goes = tt }

then_not : {A B : Type 0} (o : Outcome A) (go : A → ℕ → Outcome B) → IsNotFull o → ((a : A) (k : ℕ) → IsNotFull (go a k)) → IsNotFull (then_do o go)
then_not (Done a k) go h g = g a k
then_not (Trapped t line w) go h g = record { goes = tt }
then_not (More w) go h g = record { goes = tt }
then_not (Full w) go h g = absurd h.goes

value_not : {A B : Type 0} (r : Result A Trap) (line : ℕ) (w : Stand) (go : A → Outcome B) → ((a : A) → IsNotFull (go a)) → IsNotFull (with_value r line w go)
value_not (Ok a) line w go g = g a
value_not (Err t) line w go g = record { goes = tt }

counted_not : {B : Type 0} (w : Stand) (k : ℕ) (go : ℕ → Outcome B) → ((j : ℕ) → IsNotFull (go j)) → IsNotFull (counted w k go)
counted_not w zero go g = record { goes = tt }
counted_not w (suc k) go g = g k

either_not : {B : Type 0} (b : Bool) (o p : Outcome B) → IsNotFull o → IsNotFull p → IsNotFull (if b then o else p)
either_not true o p h g = h
either_not false o p h g = g

module _ {C : Type 0} where
  module _ (n : Setting C) (body : Go C) (each : (s : Scene C) (k : ℕ) → IsNotFull (body s k)) where
    turns_not : (m : ℕ) (after : Scene C → Scene C) (s : Scene C) (k : ℕ) → IsNotFull (turns n m body after s k)
    turns_not zero after s k = record { goes = tt }
    turns_not (suc m) after s k = counted_not (stand n s) k _ (λ j. then_not (body s j) _ (each s j) (λ s1 i. turns_not m after (after s1) i))

    tests_not : (m : ℕ) (test : Scene C → Result Bool Trap) (line : ℕ) (s : Scene C) (k : ℕ) → IsNotFull (tests n m test line body s k)
    tests_not zero test line s k = value_not (test s) line (stand n s) _ (λ p. either_not p _ _ (record { goes = tt }) (record { goes = tt }))
    tests_not (suc m) test line s k =
        value_not (test s) line (stand n s) _ (λ p. either_not p _ _ (then_not (body s k) _ (each s k) (λ s1 j. counted_not (stand n s1) j _ (λ i. tests_not m test line s1 i))) (record { goes = tt }))

  module _ (q : Calls C) (calls : (n : Setting C) (name : List ℕ) (args : Terms) (line : ℕ) (s : Scene C) (k : ℕ) → IsNotFull (q n name args line s k)) where
    mutual
      act_not : (n : Setting C) (a : Act) (line : ℕ) (s : Scene C) (k : ℕ) → calls_runtime a ≡ false → All (λ t. calls_runtime t.1 ≡ false) (inner a) → IsNotFull (act q n a line s k)
      act_not n (assign x subs e) line s k h g = value_not (value n e s.store) line (stand n s) _ (λ c. value_not (target n x subs s.store) line (stand n s) _ (λ i. done_not (record s { store = set s.store x i c }) k))
      act_not n (choose c a b) line s k h g =
          value_not (holds n c s.store) line (stand n s) _ (λ p. either_not p _ _ (run_not n a s k (all_front (λ t. calls_runtime t.1 ≡ false) (statements a) (statements b) g)) (run_not n b s k (all_behind (λ t. calls_runtime t.1 ≡ false) (statements a) (statements b) g)))
      act_not n (loop x first last by body mark) line s k h g =
          value_not (value n first s.store) line (stand n s) _ (λ a. value_not (value n last s.store) line (stand n s) _ (λ b. value_not (value n by s.store) line (stand n s) _ (λ c.
          value_not (trips mark (n.numbers.shown a) (n.numbers.shown b) (n.numbers.shown c)) line (stand n s) _ (λ m.
          then_not (turns n m (run q n body) (stepped n x (n.numbers.shown c)) (with_turn n x (wrap (n.numbers.shown a)) s) k) _ (turns_not n (run q n body) (λ s1 j. run_not n body s1 j g) m (stepped n x (n.numbers.shown c)) (with_turn n x (wrap (n.numbers.shown a)) s) k)
          (λ s1 j. done_not (after_loop line m (in_force n mark s.store) s1) j)))))
      act_not n (during c body) line s k h g = tests_not n (run q n body) (λ s1 j. run_not n body s1 j g) most_tests (λ s1. holds n c s1.store) line s k
      act_not n (call name args) line s k h g = calls n name args line s k
      act_not n (runtime r) line s k h g = absurd cc

      run_not : (n : Setting C) (c : Code) (s : Scene C) (k : ℕ) → All (λ t. calls_runtime t.1 ≡ false) (statements c) → IsNotFull (run q n c s k)
      run_not n stop s k h = record { goes = tt }
      run_not n (step line a rest) s k h =
          let later = All-tail (λ t. calls_runtime t.1 ≡ false) (line, a) (inner a ++ statements rest) h in
          counted_not (stand n s) k _ (λ j. then_not (act q n a line s j) _
          (act_not n a line s j (All-head (λ t. calls_runtime t.1 ≡ false) (line, a) (inner a ++ statements rest) h) (all_front (λ t. calls_runtime t.1 ≡ false) (inner a) (statements rest) later))
          (λ s1 i. run_not n rest s1 i (all_behind (λ t. calls_runtime t.1 ≡ false) (inner a) (statements rest) later)))

    -- a unit
    unit_not : (n : Setting C) (u : Procedure) (line : ℕ) (s : Scene C) (k : ℕ) → All (λ t. calls_runtime t.1 ≡ false) (statements u.body) → IsNotFull (unit_run q n u line s k)
    unit_not n u line s k h = then_not _ _ (run_not _ u.body _ k h) (λ s1 j. either_not (s1.opened == 0) _ _ (record { goes = tt }) (record { goes = tt }))

    -- a call of a unit that was looked for
    call_not : (n : Setting C) (ws : List Bool) (f : Option Procedure) (args : Terms) (line : ℕ) (s : Scene C) (k : ℕ) → ((u : Procedure) → f ≡ Some u → All (λ t. calls_runtime t.1 ≡ false) (statements u.body)) → IsNotFull (call_in q n ws f args line s k)
    call_not n ws None args line s k h = record { goes = tt }
    call_not n ws (Some u) args line s k h = value_not (actuals n args s.store) line (stand n s) _ (λ got. either_not (dummies_fit n.numbers u (entry_store n.numbers u.dummies got) u.dummies got) _ _
        (then_not (unit_run q n u line (record s { store = entry_store n.numbers u.dummies got }) k) _ (unit_not n u line (record s { store = entry_store n.numbers u.dummies got }) k (h u refl))
        (λ s1 j. done_not (record s { store = copied_out u.dummies ws got s1.store s.store; tape = s1.tape; events = s1.events }) j)) (trapped_not shape_trap line (stand n s)))

  module _ (units : List Procedure) (quiet : CallsNoRuntime units) where
    -- the calls of a program, called units first
    calls_not : (depth : ℕ) (n : Setting C) (name : List ℕ) (args : Terms) (line : ℕ) (s : Scene C) (k : ℕ) → IsNotFull (calls_of units depth n name args line s k)
    calls_not zero n name args line s k = record { goes = tt }
    calls_not (suc depth) n name args line s k =
        call_not (calls_of units depth) (calls_not depth) n (handed_back units name) (find_unit units name) args line s k
        (λ u f. all_found (λ u. All (λ t. calls_runtime t.1 ≡ false) (statements u.body)) units quiet name u f)

    -- the run of a unit
    run_unit_not : (numbers : Numbers C) (u : Procedure) (input : List (Slot C)) (tape : List C) (room : Option ℕ) (k : ℕ) → All (λ t. calls_runtime t.1 ≡ false) (statements u.body) → IsNotFull (run_unit numbers units u input tape room k)
    run_unit_not numbers u input tape room k h =
        let outside : Setting C = record { numbers = numbers; shape = λ x. scalar; room = room; level = 0 } in
        let start : Scene C = record { store = input_store numbers u input; tape = tape; opened = 0; events = [] } in
        then_not (unit_run (calls_of units k) outside u u.line start k) _ (unit_not (calls_of units k) (calls_not k) outside u u.line start k h)
        (λ s left. done_not (record { slots = dummy_slots (setting_in outside u start.store) u s.store; tape = s.tape; events = reverse s.events }) (k - left))

-- a dual run isn't
not_full : (o : Outcome (Output (ℤ × ℤ))) → IsNotFull o → DualFull o → ⊥
not_full (Done out used) h f = f
not_full (Trapped t line w) h f = f
not_full (More w) h f = f
not_full (Full w) h f = h.goes

pub dual_never_full : (units us : List Procedure) (i : ℕ) (input : List (Slot (ℤ × ℤ))) (k : ℕ) → CallsNoRuntime units → CallsNoRuntime us → i < length us → ((u : Procedure) → slice_get us i ≡ Some u → DualFull (run_unit duals units u input [] (Some 0) k)) → ⊥
dual_never_full units [] i input k quiet h there full = absurd (omega (arith, there))
dual_never_full units (u ∷ us) zero input k quiet h there full =
    not_full (run_unit duals units u input [] (Some 0) k) (run_unit_not units quiet duals u input [] (Some 0) k (All-head (λ v. All (λ t. calls_runtime t.1 ≡ false) (statements v.body)) u us h)) (full u refl)
dual_never_full units (u ∷ us) (suc i) input k quiet h there full = dual_never_full units us i input k quiet (All-tail (λ v. All (λ t. calls_runtime t.1 ≡ false) (statements v.body)) u us h) (omega (arith, there)) full

-- ---- source programs

-- in a unit without faults none stands
unit_quiet : (ss : List (At Act)) → flat_map (λ s. faults_if (not source_rules.takes_runtime && calls_runtime s.1) (fault 18 s.0)) ss ≡ [] → All (λ s. calls_runtime s.1 ≡ false) ss
unit_quiet [] h = All-nil (λ s. calls_runtime s.1 ≡ false)
unit_quiet (s ∷ ss) h =
    All-cons (λ s. calls_runtime s.1 ≡ false) s ss (none_if (calls_runtime s.1) (fault 18 s.0) (none_front (faults_if (calls_runtime s.1) (fault 18 s.0)) _ h)) (unit_quiet ss (none_behind (faults_if (calls_runtime s.1) (fault 18 s.0)) _ h))

units_quiet : (ps us : List Procedure) → flat_map (faults_of_names source_rules ps) us ≡ [] → CallsNoRuntime us
units_quiet ps [] h = All-nil (λ u. All (λ s. calls_runtime s.1 ≡ false) (statements u.body))
units_quiet ps (u ∷ us) h =
    let n0 = none_front (faults_of_names source_rules ps u) (flat_map (faults_of_names source_rules ps) us) h in
    let n1 = none_behind (undeclared u) (declared_twice u ++ (misused source_rules u ++ (bad_extents u ++ (reserved_variables ps u ++ (runtime_calls source_rules u ++ too_many_variables source_rules u))))) n0 in
    let n2 = none_behind (declared_twice u) (misused source_rules u ++ (bad_extents u ++ (reserved_variables ps u ++ (runtime_calls source_rules u ++ too_many_variables source_rules u)))) n1 in
    let n3 = none_behind (misused source_rules u) (bad_extents u ++ (reserved_variables ps u ++ (runtime_calls source_rules u ++ too_many_variables source_rules u))) n2 in
    let n4 = none_behind (bad_extents u) (reserved_variables ps u ++ (runtime_calls source_rules u ++ too_many_variables source_rules u)) n3 in
    let n5 = none_behind (reserved_variables ps u) (runtime_calls source_rules u ++ too_many_variables source_rules u) n4 in
    All-cons (λ u. All (λ s. calls_runtime s.1 ≡ false) (statements u.body)) u us (unit_quiet (statements u.body) (none_front (runtime_calls source_rules u) (too_many_variables source_rules u) n5))
    (units_quiet ps us (none_behind (faults_of_names source_rules ps u) (flat_map (faults_of_names source_rules ps) us) h))

-- a program that has no fault as a source calls no runtime
pub sources_quiet : (ps : List Procedure) → IsSound source_rules ps → CallsNoRuntime ps
sources_quiet ps h = let none = sound_has_none source_rules ps h in units_quiet ps ps none.names
