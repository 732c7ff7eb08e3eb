-- A unit runs alike in two programs that hold the same text of it and of all units that it calls.
use Rattle.std.proofs.Common.{◌≡◌, ℕ, zero, suc, ◌+◌, ◌-◌, Bool, false, List, [], refl, sym, ap, ◌∙◌, arith}
use Rattle.std.specs.Prelude.{Option, Some, None, IsTrue, ◌||◌, ◌==◌, map, reverse, if◌then◌else◌}
use Rattle.adj_tree.specs.Code.{Var, plain, var_eq, Terms, Act, assign, choose, loop, during, call, runtime, Code, stop, step, Procedure}
use Rattle.adj_word.specs.Word.{wrap}
use Rattle.def_meaning.specs.Trap.{shape_trap, schedule_trap}
use Rattle.def_meaning.specs.Store.{scalar}
use Rattle.def_meaning.specs.Value.{Setting, value, holds}
use Rattle.def_meaning.specs.Scene.{Scene, stand, Done, Trapped, then_do, with_value, counted}
use Rattle.def_meaning.specs.Run.{Calls, trips, turns, stepped, with_turn, most_tests, in_force, after_loop, tests, act, run}
use Rattle.def_meaning.specs.LeastSet.{Dummies, Rule, row_of, rounds, dummies_in_all, in_least}
use Rattle.def_meaning.specs.Written.{find_unit, is_handed_back, act_writes, writes, write_rule, handed_back}
use Rattle.def_meaning.specs.Units.{input_store, dummy_slots, actuals, dummies_fit, entry_store, copied_out, setting_in, entered, unit_run, call_in, calls_of}
use Rattle.law_meaning.specs.Common.{CallsInside', CallsInside, HaveInCommon}
use Rattle.law_meaning.specs.Laws.{ExtendsPrograms, ExtendsWritten}
use Rattle.def_meaning.proofs.LeastSets.{Rises, rounds_stay, of_found, row_map}
use Rattle.def_meaning.proofs.WritesMore.{write_rises}

-- ---- the dummies that units write

module _ (inside : List ℕ → Bool) (f g : List ℕ → List Bool) (h : (name : List ℕ) → IsTrue (inside name) → f name ≡ g name) (x : Var) where
  mutual
    act_writes_same : (a : Act) → CallsInside' inside a → act_writes f x a ≡ act_writes g x a
    act_writes_same (assign y subs e) c = refl
    act_writes_same (choose t a b) c = λ i. writes_same a c.0 i || writes_same b c.1 i
    act_writes_same (loop y first last by body m) c = ap (λ z. var_eq x y || z) (writes_same body c)
    act_writes_same (during t body) c = writes_same body c
    act_writes_same (call name args) c = ap (λ z. is_handed_back x z args) (h name c)
    act_writes_same (runtime r) c = refl

    -- a list may write the same variables where called units are known to write the same dummies
    pub writes_same : (b : Code) → CallsInside inside b → writes f x b ≡ writes g x b
    writes_same stop c = refl
    writes_same (step line a rest) c = λ i. act_writes_same a c.0 i || writes_same rest c.1 i

-- the rule looks at no units but those that are called
pub record LooksInside (rule : Rule) : Type 0 where
  pub by : (inside : List ℕ → Bool) (f g : Dummies) → ((name : List ℕ) → IsTrue (inside name) → f name ≡ g name) → (u : Procedure) → CallsInside inside u.body → (d : List ℕ) → rule f u d ≡ rule g u d

-- what the round after k finds in a unit
abbrev pub found_in : Rule → List Procedure → ℕ → Procedure → List Bool
found_in rule units k u = map (rule (row_of units (rounds rule units k)) u) u.dummies

module _ (inside : List ℕ → Bool) (units others : List Procedure) (common : HaveInCommon inside units others) where
  module _ (rule : Rule) (looks : LooksInside rule) where
    -- after as many rounds the same dummies are found in both programs
    rounds_same : (k : ℕ) (name : List ℕ) → IsTrue (inside name) → row_of units (rounds rule units k) name ≡ row_of others (rounds rule others k) name
    rounds_same zero name t =
        row_map (λ u. map (λ d. false) u.dummies) units name ∙ ap (of_found (λ u. map (λ d. false) u.dummies)) (common.same name t) ∙ sym (row_map (λ u. map (λ d. false) u.dummies) others name)
    rounds_same (suc k) name t =
        row_map (found_in rule units k) units name ∙ found (find_unit units name) refl (rounds_same k) ∙ ap (of_found (found_in rule others k)) (common.same name t) ∙ sym (row_map (found_in rule others k) others name)
      where
        found : (o : Option Procedure) → find_unit units name ≡ o → ((name : List ℕ) → IsTrue (inside name) → row_of units (rounds rule units k) name ≡ row_of others (rounds rule others k) name) → of_found (found_in rule units k) o ≡ of_found (found_in rule others k) o
        found None e ih = refl
        found (Some u) e ih = λ i. map (λ d. looks.by inside (row_of units (rounds rule units k)) (row_of others (rounds rule others k)) ih u (common.closed name u t e) d i) u.dummies

    -- so the least sets are the same there
    pub least_same : Rises rule → (name : List ℕ) → IsTrue (inside name) → in_least rule units name ≡ in_least rule others name
    least_same rises name t =
        let e : dummies_in_all units + dummies_in_all others ≡ dummies_in_all others + dummies_in_all units = omega arith in
        ap (λ z. row_of units z name) (sym (rounds_stay rule rises units (dummies_in_all others)))
        ∙ rounds_same (dummies_in_all units + dummies_in_all others) name t
        ∙ ap (λ z. row_of others (rounds rule others z) name) e
        ∙ ap (λ z. row_of others z name) (rounds_stay rule rises others (dummies_in_all units))

-- what a unit writes depends on no other units
pub write_looks : LooksInside write_rule
write_looks = record { by = λ inside f g h u c d. writes_same inside f g h (plain d) u.body c }

-- so the dummies that a unit writes are the same in both programs
pub extends_written : ExtendsWritten
extends_written inside units others common name t = least_same inside units others common write_rule write_looks write_rises name t

-- ---- runs

-- calls of units inside do the same
abbrev pub SameInside : {C : Type 0} → (List ℕ → Bool) → Calls C → Calls C → Type 0
SameInside inside q q' = (n : Setting _) (name : List ℕ) (args : Terms) (line : ℕ) → IsTrue (inside name) → (s : Scene _) (k : ℕ) → q n name args line s k ≡ q' n name args line s k

module _ {C : Type 0} (inside : List ℕ → Bool) (q q' : Calls C) (same : SameInside inside q q') (n : Setting C) where
  mutual
    -- a statement does the same
    act_same : (a : Act) (line : ℕ) → CallsInside' inside a → (s : Scene C) (k : ℕ) → act q n a line s k ≡ act q' n a line s k
    act_same (assign x subs e) line c s k = refl
    act_same (choose t a b) line c s k = λ i. with_value (holds n t s.store) line (stand n s) (λ p. if p then run_same a c.0 s k i else run_same b c.1 s k i)
    act_same (loop x first last by body mark) line c s k =
        λ i. with_value (value n first s.store) line (stand n s) (λ a. with_value (value n last s.store) line (stand n s) (λ b. with_value (value n by s.store) line (stand n s) (λ v.
        with_value (trips mark (n.numbers.shown a) (n.numbers.shown b) (n.numbers.shown v)) line (stand n s) (λ m.
        then_do (turns n m (λ s1 j. run_same body c s1 j i) (stepped n x (n.numbers.shown v)) (with_turn n x (wrap (n.numbers.shown a)) s) k)
        (λ s1 j. Done (after_loop line m (in_force n mark s.store) s1) j)))))
    act_same (during t body) line c s k = λ i. tests n most_tests (λ s1. holds n t s1.store) line (λ s1 j. run_same body c s1 j i) s k
    act_same (call name args) line c s k = same n name args line c s k
    act_same (runtime r) line c s k = refl

    -- and so does a list
    pub run_same : (b : Code) → CallsInside inside b → (s : Scene C) (k : ℕ) → run q n b s k ≡ run q' n b s k
    run_same stop c s k = refl
    run_same (step line a rest) c s k = λ i. counted (stand n s) k (λ j. then_do (act_same a line c.0 s j i) (λ s1 m. run_same rest c.1 s1 m i))

module _ {C : Type 0} (inside : List ℕ → Bool) (q q' : Calls C) (same : SameInside inside q q') (n : Setting C) where
  -- and a unit
  pub unit_same : (u : Procedure) → CallsInside inside u.body → (line : ℕ) (s : Scene C) (k : ℕ) → unit_run q n u line s k ≡ unit_run q' n u line s k
  unit_same u c line s k = λ i. then_do (run_same inside q q' same (setting_in n u s.store) u.body c (entered n u s) k i) (λ s1 j. if s1.opened == 0 then Done s1 j else Trapped schedule_trap line (stand n s1))

  -- and a call of a unit that was looked for
  call_same : (ws : List Bool) (o : Option Procedure) → ((u : Procedure) → o ≡ Some u → CallsInside inside u.body) → (args : Terms) (line : ℕ) (s : Scene C) (k : ℕ) → call_in q n ws o args line s k ≡ call_in q' n ws o args line s k
  call_same ws None c args line s k = refl
  call_same ws (Some u) c args line s k =
      λ i. with_value (actuals n args s.store) line (stand n s) (λ got.
      if dummies_fit n.numbers u (entry_store n.numbers u.dummies got) u.dummies got
      then then_do (unit_same u (c u refl) line (record s { store = entry_store n.numbers u.dummies got }) k i)
      (λ s1 j. Done (record s { store = copied_out u.dummies ws got s1.store s.store; tape = s1.tape; events = s1.events }) j)
      else Trapped shape_trap line (stand n s))

module _ {C : Type 0} (inside : List ℕ → Bool) (units others : List Procedure) (common : HaveInCommon inside units others) where
  -- by the depth of the calls
  pub calls_same : (depth : ℕ) → SameInside {C = C} inside (calls_of units depth) (calls_of others depth)
  calls_same zero n name args line t s k = refl
  calls_same (suc depth) n name args line t s k =
      call_same inside (calls_of units depth) (calls_of others depth) (calls_same depth) n (handed_back units name) (find_unit units name) (λ u e. common.closed name u t e) args line s k
      ∙ (λ i. call_in (calls_of others depth) n (extends_written inside units others common name t i) (common.same name t i) args line s k)

-- the run of a unit is the same in both programs
pub extends_programs : {C : Type 0} → ExtendsPrograms C
extends_programs inside units others common u c n input tape room k =
    let outside : Setting _ = record { numbers = n; shape = λ x. scalar; room = room; level = 0 } in
    let start : Scene _ = record { store = input_store n u input; tape = tape; opened = 0; events = [] } in
    λ i. then_do (unit_same inside (calls_of units k) (calls_of others k) (calls_same inside units others common k) outside u c u.line start k i) (λ s left.
    Done (record { slots = dummy_slots (setting_in outside u start.store) u s.store; tape = s.tape; events = reverse s.events }) (k - left))
