-- A run with slots that no call copies is the run of the program in which calls pass slots.
use Rattle.std.proofs.Common.{◌≡◌, ℕ, zero, suc, Bool, true, false, List, [], ◌∷◌, ◌++◌, map, refl, sym, ap, ◌∙◌, subst, arith, if◌then◌else◌}
use Rattle.std.proofs.lemmas.List.{length-map}
use Rattle.std.specs.Prelude.{ℤ, pos, length, ◌==◌, ◌-◌, reverse, ◌||◌, ◌&&◌, Result, Ok, Err, Option, Some, None}
use Rattle.adj_tree.specs.Code.{Var, plain, shadow, helper, name_eq, var_eq, Terms, none, more, Act, assign, choose, loop, during, call, runtime, Code, stop, step, fixed, Procedure}
use Rattle.adj_tree.proofs.Names.{name_refl, name_same}
use Rattle.adj_word.specs.Word.{wrap}
use Rattle.def_meaning.specs.Trap.{Trap, then_ok, shape_trap, schedule_trap}
use Rattle.def_meaning.specs.Numbers.{Numbers}
use Rattle.def_meaning.specs.Store.{scalar, Store}
use Rattle.def_meaning.specs.Value.{Setting, value, holds}
use Rattle.def_meaning.specs.Scene.{Scene, Stand, stand, Outcome, Done, Trapped, More, Full, then_do, with_value, counted}
use Rattle.def_meaning.specs.Run.{Calls, trips, turns, stepped, with_turn, most_tests, in_force, after_loop, tests, act, run}
use Rattle.def_meaning.specs.Apart.{has_name, is_named}
use Rattle.def_meaning.specs.Written.{find_unit, is_place_of, is_handed_back, handed_back, is_written}
use Rattle.def_meaning.specs.Units.{declared, extent_in, extents_of, shape_of, shape_fits, Place, whole, cell, nowhere, Actual, actual_of, actuals, put, entry_store, dummies_fit, copied_out, setting_in, entered, unit_run, call_in, calls_of, Slot, input_store, dummy_slots, run_unit}
use Rattle.def_meaning.proofs.Booleans.{or_false}
use Rattle.law_meaning.proofs.Inversions.{then_ok_is}
use Rattle.law_meaning.proofs.Frames.{is_in, place_in, keeps_dummies}
use Rattle.law_meaning.proofs.WriteSets.{handed_written}
use Rattle.def_names.specs.Standing.{count_of}
use Rattle.def_common.specs.Members.{is_slot}
use Rattle.def_common.specs.Slots.{with_slots, call_in_blocks, calls_with_blocks, run_in_slots}
use Rattle.def_common.specs.Lowering.{behind}
use Rattle.law_common.specs.Passing.{SlotsOf, passed_act, passed, passed_unit, passed_units, EachCall', EachCall, AllSlots, NoSlots, CallFits, HasSlots}
use Rattle.law_common.proofs.Written.{passed_found, find_passed, written_same}

-- ---- statements

-- a list does the same by calls that do the same
module _ {C : Type 0} (P : List ℕ → Terms → Type 0) (sl : SlotsOf) (q q' : Calls C) (n : Setting C) (same : (name : List ℕ) (args : Terms) (line : ℕ) → P name args → (s : Scene C) (k : ℕ) → q n name args line s k ≡ q' n name (behind args (sl name)) line s k) where
  mutual
    act_same : (a : Act) (line : ℕ) → EachCall' P a → (s : Scene C) (k : ℕ) → act q n a line s k ≡ act q' n (passed_act sl a) line s k
    act_same (assign x subs e) line c s k = refl
    act_same (choose t a b) line c s k = λ i. with_value (holds n t s.store) line (stand n s) (λ p. if p then run_same a c.0 s k i else run_same b c.1 s k i)
    act_same (loop x first last by body mark) line c s k =
        λ i. with_value (value n first s.store) line (stand n s) (λ a. with_value (value n last s.store) line (stand n s) (λ b. with_value (value n by s.store) line (stand n s) (λ v.
        with_value (trips mark (n.numbers.shown a) (n.numbers.shown b) (n.numbers.shown v)) line (stand n s) (λ m.
        then_do (turns n m (λ s1 j. run_same body c s1 j i) (stepped n x (n.numbers.shown v)) (with_turn n x (wrap (n.numbers.shown a)) s) k)
        (λ s1 j. Done (after_loop line m (in_force n mark s.store) s1) j)))))
    act_same (during t body) line c s k = λ i. tests n most_tests (λ s1. holds n t s1.store) line (λ s1 j. run_same body c s1 j i) s k
    act_same (call name args) line c s k = same name args line c s k
    act_same (runtime r) line c s k = refl

    pub run_same : (b : Code) → EachCall P b → (s : Scene C) (k : ℕ) → run q n b s k ≡ run q' n (passed sl b) s k
    run_same stop c s k = refl
    run_same (step line a rest) c s k = λ i. counted (stand n s) k (λ j. then_do (act_same a line c.0 s j i) (λ s1 m. run_same rest c.1 s1 m i))

-- ---- outcomes

-- the continuation of a value, where more values are carried along
with_beside : {A B D : Type 0} (v : Result A Trap) (line : ℕ) (w : Stand) (h : A → B) (f : A → Outcome D) (g : B → Outcome D) → ((a : A) → v ≡ Ok a → f a ≡ g (h a)) → with_value v line w f ≡ with_value (then_ok v (λ a. Ok (h a))) line w g
with_beside (Ok a) line w h f g e = e a refl
with_beside (Err t) line w h f g e = refl

then_same : {A B : Type 0} (o : Outcome A) (f g : A → ℕ → Outcome B) → ((a : A) (k : ℕ) → o ≡ Done a k → f a k ≡ g a k) → then_do o f ≡ then_do o g
then_same (Done a k) f g e = e a k refl
then_same (Trapped t line w) f g e = refl
then_same (More w) f g e = refl
then_same (Full w) f g e = refl

-- ---- actuals

-- some whole variables as actuals
abbrev wholes : {C : Type 0} → Setting C → Store C → List (List ℕ) → List (Actual C)
wholes n s [] = []
wholes n s (x ∷ xs) = record { shape = n.shape (plain x); cells = s (plain x); place = whole (plain x) } ∷ wholes n s xs

module _ {C : Type 0} (n : Setting C) (s : Store C) where
  those_alone : (sl : List (List ℕ)) → actuals n (behind none sl) s ≡ Ok (wholes n s sl)
  those_alone [] = refl
  those_alone (x ∷ sl) = ap (λ r. then_ok r (λ got. Ok (record { shape = n.shape (plain x); cells = s (plain x); place = whole (plain x) } ∷ got))) (those_alone sl)

  pub actuals_behind : (args : Terms) (sl : List (List ℕ)) → actuals n (behind args sl) s ≡ then_ok (actuals n args s) (λ got. Ok (got ++ wholes n s sl))
  actuals_behind none sl = those_alone sl
  actuals_behind (more e es) sl =
      (λ i. then_ok (actual_of n e s) (λ a. then_ok (actuals_behind es sl i) (λ got. Ok (a ∷ got)))) ∙ go (actual_of n e s) (actuals n es s)
    where
      go : (v : Result (Actual C) Trap) (w : Result (List (Actual C)) Trap) → then_ok v (λ a. then_ok (then_ok w (λ got. Ok (got ++ wholes n s sl))) (λ got. Ok (a ∷ got))) ≡ then_ok (then_ok v (λ a. then_ok w (λ got. Ok (a ∷ got)))) (λ got. Ok (got ++ wholes n s sl))
      go (Err t) w = refl
      go (Ok a) (Err t) = refl
      go (Ok a) (Ok got) = refl

-- one actual for each dummy; the actual of one that is written is in none of some variables
abbrev Placed : {C : Type 0} → (List ℕ → Bool) → List (List ℕ) → List (List ℕ) → List (Actual C) → Type 0
Placed w sl [] [] = Unit {0}
Placed w sl [] (a ∷ got) = ⊥
Placed w sl (d ∷ ds) [] = ⊥
Placed w sl (d ∷ ds) (a ∷ got) = ((x : List ℕ) → has_name x sl ≡ true → (w d && is_in (plain x) a.place) ≡ false) × Placed w sl ds got

placed : {C : Type 0} (n : Setting C) (s : Store C) (w : List ℕ → Bool) (rest sl : List (List ℕ)) (ds : List (List ℕ)) (args : Terms) (got : List (Actual C)) → count_of args ≡ length ds → ((x : List ℕ) → has_name x sl ≡ true → is_handed_back (plain x) (map w (ds ++ rest)) args ≡ false) → actuals n args s ≡ Ok got → Placed w sl ds got
placed n s w rest sl [] none [] c h e = tt
placed n s w rest sl [] none (a ∷ got) c h e = absurd (let z : Ok [] ≡ Ok (a ∷ got) = e in cc)
placed n s w rest sl [] (more e es) got c h q = absurd (let z : suc (count_of es) ≡ 0 = c in cc)
placed n s w rest sl (d ∷ ds) none got c h q = absurd (let z : 0 ≡ suc (length ds) = c in cc)
placed n s w rest sl (d ∷ ds) (more e es) [] c h q =
    let v = then_ok_is (actual_of n e s) (λ a. then_ok (actuals n es s) (λ got. Ok (a ∷ got))) [] q in
    let vs = then_ok_is (actuals n es s) (λ got. Ok (v.value ∷ got)) [] v.goes in
    absurd (let z : Ok (v.value ∷ vs.value) ≡ Ok [] = vs.goes in cc)
placed n s w rest sl (d ∷ ds) (more e es) (a ∷ got) c h q =
    let v = then_ok_is (actual_of n e s) (λ a. then_ok (actuals n es s) (λ got. Ok (a ∷ got))) (a ∷ got) q in
    let vs = then_ok_is (actuals n es s) (λ got. Ok (v.value ∷ got)) (a ∷ got) v.goes in
    let first : v.value ≡ a = cc in
    let others : vs.value ≡ got = cc in (
      (λ x k.
          ap (λ b. w d && b) (ap (λ (z : Actual _). is_in (plain x) z.place) (sym first) ∙ place_in n (plain x) e s v.value v.is) ∙ (or_false (w d && is_place_of (plain x) e) (is_handed_back (plain x) (map w (ds ++ rest)) es) (h x k)).0),
      placed n s w rest sl ds es got (let z : suc (count_of es) ≡ suc (length ds) = c in omega arith) (λ x k. (or_false (w d && is_place_of (plain x) e) (is_handed_back (plain x) (map w (ds ++ rest)) es) (h x k)).1) (vs.is ∙ ap Ok others),
    )

-- ---- slots among dummies

slot_in : (x : List ℕ) (own : List (List ℕ)) → NoSlots own → is_slot (plain x) ≡ true → has_name x own ≡ false
slot_in x [] o h = refl
slot_in x (d ∷ own) o h = go (name_eq x d) refl (slot_in x own o.1 h)
  where
    go : (b : Bool) → name_eq x d ≡ b → has_name x own ≡ false → (b || has_name x own) ≡ false
    go true e r = absurd (let z : true ≡ false = sym h ∙ ap (λ y. is_slot (plain y)) (name_same x d e) ∙ o.0 in cc)
    go false e r = r

among_slots : (x : List ℕ) (sl : List (List ℕ)) → AllSlots sl → has_name x sl ≡ true → is_slot (plain x) ≡ true
among_slots x [] a h = absurd cc
among_slots x (y ∷ sl) a h = go (name_eq x y) refl h (among_slots x sl a.1)
  where
    go : (b : Bool) → name_eq x y ≡ b → (b || has_name x sl) ≡ true → (has_name x sl ≡ true → is_slot (plain x) ≡ true) → is_slot (plain x) ≡ true
    go true e k r = ap (λ z. is_slot (plain z)) (name_same x y e) ∙ a.0
    go false e k r = r k

has_both : (x : List ℕ) (own sl : List (List ℕ)) → has_name x own ≡ false → has_name x (own ++ sl) ≡ has_name x sl
has_both x [] sl h = refl
has_both x (d ∷ own) sl h = let p = or_false (name_eq x d) (has_name x own) h in ap (λ b. b || has_name x (own ++ sl)) p.0 ∙ has_both x own sl p.1

slots_among : (own sl : List (List ℕ)) → NoSlots own → AllSlots sl → (x : Var) → (is_slot x && is_named (own ++ sl) x) ≡ is_named sl x
slots_among own sl o a (shadow x) = refl
slots_among own sl o a (helper r k) = refl
slots_among own sl o a (plain x) = go (is_slot (plain x)) refl
  where
    other : (b : Bool) → is_slot (plain x) ≡ false → has_name x sl ≡ b → false ≡ b
    other true h k = absurd (let z : false ≡ true = sym h ∙ among_slots x sl a k in cc)
    other false h k = refl

    go : (b : Bool) → is_slot (plain x) ≡ b → (b && has_name x (own ++ sl)) ≡ has_name x sl
    go true h = has_both x own sl (slot_in x own o h)
    go false h = other (has_name x sl) h refl

-- some variables from the one store, and all others from the other
abbrev mixed : {C : Type 0} → List (List ℕ) → Store C → Store C → Store C
mixed sl t s = λ x j. if is_named sl x then t x j else s x j

-- ---- a call

module _ {C : Type 0} (n : Setting C) where
  -- its store at entry
  entry_none : (sl : List (List ℕ)) (x : Var) (j : ℕ) → entry_store n.numbers sl [] x j ≡ n.numbers.of_word (pos 0)
  entry_none [] x j = refl
  entry_none (d ∷ sl) x j = refl

  entry_slots : (s : Store C) (sl : List (List ℕ)) (x : Var) (j : ℕ) → (if is_named sl x then s x j else n.numbers.of_word (pos 0)) ≡ entry_store n.numbers sl (wholes n s sl) x j
  entry_slots s [] (plain x) j = refl
  entry_slots s [] (shadow x) j = refl
  entry_slots s [] (helper r k) j = refl
  entry_slots s (d ∷ sl) (shadow x) j = entry_slots s sl (shadow x) j
  entry_slots s (d ∷ sl) (helper r k) j = entry_slots s sl (helper r k) j
  entry_slots s (d ∷ sl) (plain x) j = go (name_eq x d) refl (entry_slots s sl (plain x) j)
    where
      go : (b : Bool) → name_eq x d ≡ b → (if has_name x sl then s (plain x) j else n.numbers.of_word (pos 0)) ≡ entry_store n.numbers sl (wholes n s sl) (plain x) j → (if b || has_name x sl then s (plain x) j else n.numbers.of_word (pos 0)) ≡ (if b then s (plain d) j else entry_store n.numbers sl (wholes n s sl) (plain x) j)
      go true e r = ap (λ y. s (plain y) j) (name_same x d e)
      go false e r = r

  entry_same : (s : Store C) (w : List ℕ → Bool) (own sl : List (List ℕ)) (got : List (Actual C)) → NoSlots own → AllSlots sl → Placed w sl own got → (x : Var) (j : ℕ) → mixed sl s (entry_store n.numbers (own ++ sl) got) x j ≡ entry_store n.numbers (own ++ sl) (got ++ wholes n s sl) x j
  entry_same s w [] sl [] o a p x j = ap (λ c. if is_named sl x then s x j else c) (entry_none sl x j) ∙ entry_slots s sl x j
  entry_same s w [] sl (b ∷ got) o a p x j = absurd p
  entry_same s w (d ∷ own) sl [] o a p x j = absurd p
  entry_same s w (d ∷ own) sl (b ∷ got) o a p x j = go (var_eq x (plain d)) (is_named sl x) refl refl (entry_same s w own sl got o.1 a p.1 x j)
    where
      apart : (y : Var) → var_eq y (plain d) ≡ true → is_named sl y ≡ true → ⊥
      apart (shadow y) e h = cc
      apart (helper r k) e h = cc
      apart (plain y) e h = let z : true ≡ false = sym (among_slots y sl a h) ∙ ap (λ z. is_slot (plain z)) (name_same y d e) ∙ o.0 in cc

      go : (b1 b2 : Bool) → var_eq x (plain d) ≡ b1 → is_named sl x ≡ b2 → (if b2 then s x j else entry_store n.numbers (own ++ sl) got x j) ≡ entry_store n.numbers (own ++ sl) (got ++ wholes n s sl) x j →
          (if b2 then s x j else (if b1 then b.cells j else entry_store n.numbers (own ++ sl) got x j)) ≡ (if b1 then b.cells j else entry_store n.numbers (own ++ sl) (got ++ wholes n s sl) x j)
      go true true e h r = absurd (apart x e h)
      go true false e h r = refl
      go false b2 e h r = r

  -- its dummies fit in both
  fits_slots : (u : Procedure) (s start : Store C) (sl : List (List ℕ)) → ((x : List ℕ) → has_name x sl ≡ true → (length (declared u.declarations (plain x)) == 0 || shape_fits (extents_of n.numbers u start (plain x)) (n.shape (plain x))) ≡ true) → dummies_fit n.numbers u start sl (wholes n s sl) ≡ true
  fits_slots u s start [] h = refl
  fits_slots u s start (d ∷ sl) h =
      ap (λ b. b && dummies_fit n.numbers u start sl (wholes n s sl)) (h d (ap (λ b. b || has_name d sl) (name_refl d))) ∙ fits_slots u s start sl (λ x k. h x (go (name_eq x d) k))
    where
      go : {a : Bool} (b : Bool) → a ≡ true → (b || a) ≡ true
      go true k = refl
      go false k = k

  fits_none : (u : Procedure) (start : Store C) (sl : List (List ℕ)) → dummies_fit n.numbers u start sl [] ≡ true
  fits_none u start [] = refl
  fits_none u start (d ∷ sl) = refl

  fits_same : (u : Procedure) (s start : Store C) (w : List ℕ → Bool) (own sl : List (List ℕ)) (got : List (Actual C)) → Placed w sl own got → dummies_fit n.numbers u start sl (wholes n s sl) ≡ true → dummies_fit n.numbers u start (own ++ sl) got ≡ dummies_fit n.numbers u start (own ++ sl) (got ++ wholes n s sl)
  fits_same u s start w [] sl [] p h = fits_none u start sl ∙ sym h
  fits_same u s start w [] sl (b ∷ got) p h = absurd p
  fits_same u s start w (d ∷ own) sl [] p h = absurd p
  fits_same u s start w (d ∷ own) sl (b ∷ got) p h = ap (λ z. (length (declared u.declarations (plain d)) == 0 || shape_fits (extents_of n.numbers u start (plain d)) b.shape) && z) (fits_same u s start w own sl got p.1 h)

-- ---- what it hands back

module _ {C : Type 0} where
  -- slots are taken over, written or not: one that isn't written is as it was
  out_slots : (n : Setting C) (s0 : Store C) (w : List ℕ → Bool) (sl : List (List ℕ)) (t s : Store C) → ((x : List ℕ) → has_name x sl ≡ true → w x ≡ false → (j : ℕ) → t (plain x) j ≡ s (plain x) j) → (x : Var) (j : ℕ) → mixed sl t s x j ≡ copied_out sl (map w sl) (wholes n s0 sl) t s x j
  out_slots n s0 w [] t s h (plain x) j = refl
  out_slots n s0 w [] t s h (shadow x) j = refl
  out_slots n s0 w [] t s h (helper r k) j = refl
  out_slots n s0 w (d ∷ sl) t s h x j =
      at x ∙ out_slots n s0 w sl t now (λ y k f i. kept y k f i) x j
    where
      now : Store C
      now = if w d then put (whole (plain d)) (t (plain d)) s else s

      more_has : {a : Bool} (b : Bool) → a ≡ true → (b || a) ≡ true
      more_has true k = refl
      more_has false k = k

      kept : (y : List ℕ) → has_name y sl ≡ true → w y ≡ false → (i : ℕ) → t (plain y) i ≡ now (plain y) i
      kept y k f i = go (w d)
        where
          inside : (b : Bool) → name_eq y d ≡ b → t (plain y) i ≡ (if b then t (plain d) i else s (plain y) i)
          inside true e = ap (λ z. t (plain z) i) (name_same y d e)
          inside false e = h y (more_has (name_eq y d) k) f i

          go : (b : Bool) → t (plain y) i ≡ (if b then put (whole (plain d)) (t (plain d)) s else s) (plain y) i
          go true = inside (name_eq y d) refl
          go false = h y (more_has (name_eq y d) k) f i

      other : (b : Bool) (y : Var) → var_eq y (plain d) ≡ false → s y j ≡ (if b then put (whole (plain d)) (t (plain d)) s else s) y j
      other true y e = rw e refl
      other false y e = refl

      same : (b : Bool) → w d ≡ b → t (plain d) j ≡ (if b then put (whole (plain d)) (t (plain d)) s else s) (plain d) j
      same true e = rw (name_refl d) refl
      same false e = h d (ap (λ b. b || has_name d sl) (name_refl d)) e j

      at : (y : Var) → (if is_named (d ∷ sl) y then t y j else s y j) ≡ (if is_named sl y then t y j else now y j)
      at (shadow y) = other (w d) (shadow y) refl
      at (helper r k) = other (w d) (helper r k) refl
      at (plain y) = go (name_eq y d) refl (has_name y sl)
        where
          go : (b : Bool) → name_eq y d ≡ b → (b2 : Bool) → (if b || b2 then t (plain y) j else s (plain y) j) ≡ (if b2 then t (plain y) j else now (plain y) j)
          go true e true = refl
          go true e false = subst (λ z. t (plain z) j ≡ now (plain z) j) (sym (name_same y d e)) (same (w d) refl)
          go false e true = refl
          go false e false = other (w d) (plain y) e

  -- an own dummy that is written goes to a place that is no slot
  put_mixed : (sl : List (List ℕ)) (p : Place) (cs : ℕ → C) (t s : Store C) → ((x : List ℕ) → has_name x sl ≡ true → is_in (plain x) p ≡ false) → (x : Var) (j : ℕ) → put p cs (mixed sl t s) x j ≡ mixed sl t (put p cs s) x j
  put_mixed sl nowhere cs t s h x j = refl
  put_mixed sl (whole y) cs t s h x j = go x (var_eq x y) refl (is_named sl x) refl
    where
      apart : (x : Var) → is_named sl x ≡ true → var_eq x y ≡ false
      apart (plain x) k = h x k
      apart (shadow x) k = absurd cc
      apart (helper r m) k = absurd cc

      go : (x : Var) (b : Bool) → var_eq x y ≡ b → (b2 : Bool) → is_named sl x ≡ b2 → (if b then cs j else (if b2 then t x j else s x j)) ≡ (if b2 then t x j else (if b then cs j else s x j))
      go x true e true k = absurd (let z : true ≡ false = sym e ∙ apart x k in cc)
      go x true e false k = refl
      go x false e b2 k = refl
  put_mixed sl (cell y i) cs t s h x j = go x (var_eq x y) refl (is_named sl x) refl (j == i)
    where
      apart : (x : Var) → is_named sl x ≡ true → var_eq x y ≡ false
      apart (plain x) k = h x k
      apart (shadow x) k = absurd cc
      apart (helper r m) k = absurd cc

      go : (x : Var) (b : Bool) → var_eq x y ≡ b → (b2 : Bool) → is_named sl x ≡ b2 → (c : Bool) → (if b && c then cs 0 else (if b2 then t x j else s x j)) ≡ (if b2 then t x j else (if b && c then cs 0 else s x j))
      go x true e true k c = absurd (let z : true ≡ false = sym e ∙ apart x k in cc)
      go x true e false k c = refl
      go x false e b2 k c = refl

  out_none : (sl : List (List ℕ)) (ws : List Bool) (t s : Store C) → copied_out sl ws [] t s ≡ s
  out_none [] ws t s = refl
  out_none (d ∷ sl) [] t s = refl
  out_none (d ∷ sl) (w ∷ ws) t s = refl

  -- a place in none of the slots keeps them
  put_slots : (sl : List (List ℕ)) (p : Place) (cs : ℕ → C) (s : Store C) → ((x : List ℕ) → has_name x sl ≡ true → is_in (plain x) p ≡ false) → (x : List ℕ) → has_name x sl ≡ true → (j : ℕ) → put p cs s (plain x) j ≡ s (plain x) j
  put_slots sl nowhere cs s h x k j = refl
  put_slots sl (whole y) cs s h x k j = rw (h x k) refl
  put_slots sl (cell y i) cs s h x k j = rw (h x k) refl

  out_same : (n : Setting C) (s0 : Store C) (w w' : List ℕ → Bool) → ((d : List ℕ) → is_slot (plain d) ≡ false → w d ≡ w' d) → (own sl : List (List ℕ)) → NoSlots own → (got : List (Actual C)) → Placed w sl own got → (t s : Store C) → ((x : List ℕ) → has_name x sl ≡ true → w' x ≡ false → (j : ℕ) → t (plain x) j ≡ s (plain x) j) →
      copied_out (own ++ sl) (map w (own ++ sl)) got t (mixed sl t s) ≡ copied_out (own ++ sl) (map w' (own ++ sl)) (got ++ wholes n s0 sl) t s
  out_same n s0 w w' e [] sl o [] p t s h = out_none sl (map w sl) t (mixed sl t s) ∙ (λ i x j. out_slots n s0 w' sl t s h x j i)
  out_same n s0 w w' e [] sl o (b ∷ got) p t s h = absurd p
  out_same n s0 w w' e (d ∷ own) sl o [] p t s h = absurd p
  out_same n s0 w w' e (d ∷ own) sl o (b ∷ got) p t s h = go (w d) refl (w' d) (sym (e d o.0)) (λ z k. out_same n s0 w w' e own sl o.1 got p.1 t z k)
    where
      Rest : Type 0
      Rest = (z : Store C) → ((x : List ℕ) → has_name x sl ≡ true → w' x ≡ false → (j : ℕ) → t (plain x) j ≡ z (plain x) j) → copied_out (own ++ sl) (map w (own ++ sl)) got t (mixed sl t z) ≡ copied_out (own ++ sl) (map w' (own ++ sl)) (got ++ wholes n s0 sl) t z

      go : (c : Bool) → w d ≡ c → (c' : Bool) → c' ≡ w d → Rest → copied_out (own ++ sl) (map w (own ++ sl)) got t (if c then put b.place (t (plain d)) (mixed sl t s) else mixed sl t s) ≡ copied_out (own ++ sl) (map w' (own ++ sl)) (got ++ wholes n s0 sl) t (if c' then put b.place (t (plain d)) s else s)
      go true f true f' rest =
          let clear : (x : List ℕ) → has_name x sl ≡ true → is_in (plain x) b.place ≡ false = λ x k. ap (λ c. c && is_in (plain x) b.place) (sym f) ∙ p.0 x k in
          ap (copied_out (own ++ sl) (map w (own ++ sl)) got t) (λ i x j. put_mixed sl b.place (t (plain d)) t s clear x j i)
          ∙ rest (put b.place (t (plain d)) s) (λ x k m j. h x k m j ∙ sym (put_slots sl b.place (t (plain d)) s clear x k j))
      go false f false f' rest = rest s h
      go true f false f' rest = absurd (let z : false ≡ true = f' ∙ f in cc)
      go false f true f' rest = absurd (let z : true ≡ false = f' ∙ f in cc)

-- ---- calls, by their depth

none_fixed : (zs : List ℤ) → (length (map fixed zs) == 0) ≡ (length zs == 0)
none_fixed zs = ap (λ m. m == 0) (length-map zs fixed)

module _ {C : Type 0} (units : List Procedure) (own sl : SlotsOf) (extents : List ℕ → List ℤ) (has : HasSlots units own sl extents) where
  -- some slots have the shapes of their extents
  abbrev SlotShapes : List (List ℕ) → Setting C → Type 0
  SlotShapes slots n = (x : List ℕ) → has_name x slots ≡ true → n.shape (plain x) ≡ shape_of (extents x)

  fixed_words : (n : Numbers C) (s : Store C) (zs : List ℤ) → map (extent_in n s) (map fixed zs) ≡ zs
  fixed_words n s [] = refl
  fixed_words n s (z ∷ zs) = ap (λ l. z ∷ l) (fixed_words n s zs)

  extents_there : (n : Numbers C) (name : List ℕ) (u : Procedure) → find_unit units name ≡ Some u → (s : Store C) (x : List ℕ) → has_name x (sl name) ≡ true → extents_of n u s (plain x) ≡ extents x
  extents_there n name u e s x h = ap (map (extent_in n s)) (has.declares name u e x h) ∙ fixed_words n s (extents x)

  pub shapes_there : (n : Setting C) (name : List ℕ) (u : Procedure) → find_unit units name ≡ Some u → (s : Store C) → SlotShapes (sl name) (setting_in n u s)
  shapes_there n name u e s x h = ap shape_of (extents_there n.numbers name u e s x h)

  -- a unit does the same where calls do
  abbrev CallsSame : Calls C → Calls C → Type 0
  CallsSame q q' = (n : Setting C) (slots : List (List ℕ)) → SlotShapes slots n → (name : List ℕ) (args : Terms) (line : ℕ) → CallFits units own sl slots name args → (s : Scene C) (k : ℕ) → q n name args line s k ≡ q' n name (behind args (sl name)) line s k

  pub unit_same : (q q' : Calls C) → CallsSame q q' → (n : Setting C) (name : List ℕ) (u : Procedure) → find_unit units name ≡ Some u → (line : ℕ) (s : Scene C) (k : ℕ) → unit_run q n u line s k ≡ unit_run q' n (passed_unit sl u) line s k
  unit_same q q' same n name u e line s k =
      ap (λ o. then_do o (λ s1 j. if s1.opened == 0 then Done s1 j else Trapped schedule_trap line (stand n s1)))
      (run_same (CallFits units own sl (sl name)) sl q q' (setting_in n u s.store) (same (setting_in n u s.store) (sl name) (shapes_there n name u e s.store)) u.body (has.calls name u e) (entered n u s) k)

  call_same : (depth : ℕ) → CallsSame (calls_with_blocks units depth) (calls_of (passed_units sl units) depth) → (n : Setting C) (slots : List (List ℕ)) → SlotShapes slots n → (name : List ℕ) (args : Terms) (line : ℕ) → CallFits units own sl slots name args → (s : Scene C) (k : ℕ) (o : Option Procedure) → find_unit units name ≡ o →
      call_in_blocks (calls_with_blocks units depth) n (handed_back units name) o args line s k ≡ call_in (calls_of (passed_units sl units) depth) n (handed_back (passed_units sl units) name) (passed_found sl o) (behind args (sl name)) line s k
  call_same depth same n slots shapes name args line c s k None e = refl
  call_same depth same n slots shapes name args line c s k (Some u) e =
      with_beside (actuals n args s.store) line (stand n s) (λ got. got ++ wholes n s.store (sl name)) from to at ∙ ap (λ r. with_value r line (stand n s) to) (sym (actuals_behind n s.store args (sl name)))
    where
      v : Procedure
      v = passed_unit sl u

      w : List ℕ → Bool
      w = is_written units u

      w' : List ℕ → Bool
      w' = is_written (passed_units sl units) v

      found' : find_unit (passed_units sl units) name ≡ Some v
      found' = find_passed sl units name ∙ ap (passed_found sl) e

      -- what each does with the actuals
      from_with : Store C → List (Actual C) → Outcome (Scene C)
      from_with start got =
          if dummies_fit n.numbers u start u.dummies got
          then then_do (unit_run (calls_with_blocks units depth) n u line (record s { store = start }) k) (λ s1 j. Done (record s { store = copied_out u.dummies (handed_back units name) got s1.store (with_slots u s1.store s.store); tape = s1.tape; events = s1.events }) j)
          else Trapped shape_trap line (stand n s)

      from : List (Actual C) → Outcome (Scene C)
      from got = from_with (with_slots u s.store (entry_store n.numbers u.dummies got)) got

      to_with : Store C → List (Actual C) → Outcome (Scene C)
      to_with start got =
          if dummies_fit n.numbers v start v.dummies got
          then then_do (unit_run (calls_of (passed_units sl units) depth) n v line (record s { store = start }) k) (λ s1 j. Done (record s { store = copied_out v.dummies (handed_back (passed_units sl units) name) got s1.store s.store; tape = s1.tape; events = s1.events }) j)
          else Trapped shape_trap line (stand n s)

      to : List (Actual C) → Outcome (Scene C)
      to got = to_with (entry_store n.numbers v.dummies got) got

      parts : u.dummies ≡ own name ++ sl name
      parts = has.parts.dummies name u e

      slots_are : (t z : Store C) → with_slots u t z ≡ mixed (sl name) t z
      slots_are t z = λ i x j. if (ap (λ l. is_slot x && is_named l x) parts ∙ slots_among (own name) (sl name) (has.parts.owns name) (has.parts.slots name) x) i then t x j else z x j

      at : (got : List (Actual C)) → actuals n args s.store ≡ Ok got → from got ≡ to (got ++ wholes n s.store (sl name))
      at got q =
          ap (λ z. from_with z got) start_same ∙ (λ i. if fit_same i then body_same i else Trapped shape_trap line (stand n s))
        where
          back : handed_back units name ≡ map w (own name ++ sl name)
          back = handed_written units name u e ∙ ap (map w) parts

          back' : handed_back (passed_units sl units) name ≡ map w' (own name ++ sl name)
          back' = handed_written (passed_units sl units) name v found' ∙ ap (map w') parts

          is_placed : Placed w (sl name) (own name) got
          is_placed = placed n s.store w (sl name) (sl name) (own name) args got (c u e).0 (λ x h. ap (λ ws. is_handed_back (plain x) ws args) (sym back) ∙ ((c u e).1 x h).1) q

          start : Store C
          start = entry_store n.numbers u.dummies (got ++ wholes n s.store (sl name))

          start_same : with_slots u s.store (entry_store n.numbers u.dummies got) ≡ start
          start_same =
              slots_are s.store (entry_store n.numbers u.dummies got)
              ∙ ap (λ l. mixed (sl name) s.store (entry_store n.numbers l got)) parts
              ∙ (λ i x j. entry_same n s.store w (own name) (sl name) got (has.parts.owns name) (has.parts.slots name) is_placed x j i)
              ∙ ap (λ l. entry_store n.numbers l (got ++ wholes n s.store (sl name))) (sym parts)

          one_fits : (x : List ℕ) → has_name x (sl name) ≡ true → (length (declared u.declarations (plain x)) == 0 || shape_fits (extents_of n.numbers u start (plain x)) (n.shape (plain x))) ≡ true
          one_fits x h =
              (λ i. (ap (λ l. length l == 0) (has.declares name u e x h) ∙ none_fixed (extents x)) i || shape_fits (extents_there n.numbers name u e start x h i) (shapes x ((c u e).1 x h).0 i)) ∙ has.fit name u e x h

          fit_same : dummies_fit n.numbers u start u.dummies got ≡ dummies_fit n.numbers u start u.dummies (got ++ wholes n s.store (sl name))
          fit_same =
              ap (λ l. dummies_fit n.numbers u start l got) parts
              ∙ fits_same n u s.store start w (own name) (sl name) got is_placed (fits_slots n u s.store start (sl name) one_fits)
              ∙ ap (λ l. dummies_fit n.numbers u start l (got ++ wholes n s.store (sl name))) (sym parts)

          -- a slot that isn't written is as it was handed in
          handed_in : (x : List ℕ) → has_name x (sl name) ≡ true → (j : ℕ) → start (plain x) j ≡ s.store (plain x) j
          handed_in x h j =
              ap (λ (f : Store C). f (plain x) j) (sym start_same ∙ slots_are s.store (entry_store n.numbers u.dummies got)) ∙ ap (λ b. if b then s.store (plain x) j else entry_store n.numbers u.dummies got (plain x) j) h

          after_same : (s1 : Scene C) (j : ℕ) → unit_run (calls_of (passed_units sl units) depth) n v line (record s { store = start }) k ≡ Done s1 j → copied_out u.dummies (handed_back units name) got s1.store (with_slots u s1.store s.store) ≡ copied_out u.dummies (handed_back (passed_units sl units) name) (got ++ wholes n s.store (sl name)) s1.store s.store
          after_same s1 j d =
              (λ i. copied_out (parts i) (back i) got s1.store (slots_are s1.store s.store i))
              ∙ out_same n s.store w w' (written_same units own sl has.parts name u e) (own name) (sl name) (has.parts.owns name) got is_placed s1.store s.store
              (λ x h f m. keeps_dummies (passed_units sl units) v x f depth n line (record s { store = start }) s1 k j d m ∙ handed_in x h m)
              ∙ (λ i. copied_out (sym parts i) (sym back' i) (got ++ wholes n s.store (sl name)) s1.store s.store)

          body_same : then_do (unit_run (calls_with_blocks units depth) n u line (record s { store = start }) k) (λ s1 j. Done (record s { store = copied_out u.dummies (handed_back units name) got s1.store (with_slots u s1.store s.store); tape = s1.tape; events = s1.events }) j) ≡ then_do (unit_run (calls_of (passed_units sl units) depth) n v line (record s { store = start }) k) (λ s1 j. Done (record s { store = copied_out v.dummies (handed_back (passed_units sl units) name) (got ++ wholes n s.store (sl name)) s1.store s.store; tape = s1.tape; events = s1.events }) j)
          body_same =
              ap (λ o. then_do o (λ s1 j. Done (record s { store = copied_out u.dummies (handed_back units name) got s1.store (with_slots u s1.store s.store); tape = s1.tape; events = s1.events }) j)) (unit_same (calls_with_blocks units depth) (calls_of (passed_units sl units) depth) same n name u e line (record s { store = start }) k)
              ∙ then_same (unit_run (calls_of (passed_units sl units) depth) n v line (record s { store = start }) k) _ _ (λ s1 j d. ap (λ (z : Store C). Done (record s { store = z; tape = s1.tape; events = s1.events }) j) (after_same s1 j d))

  pub calls_same : (depth : ℕ) → CallsSame (calls_with_blocks units depth) (calls_of (passed_units sl units) depth)
  calls_same zero n slots shapes name args line c s k = refl
  calls_same (suc depth) n slots shapes name args line c s k =
      call_same depth (calls_same depth) n slots shapes name args line c s k (find_unit units name) refl ∙ ap (λ o. call_in (calls_of (passed_units sl units) depth) n (handed_back (passed_units sl units) name) o (behind args (sl name)) line s k) (sym (find_passed sl units name))

  -- so a run of a unit is the same
  pub run_passed : (n : Numbers C) (name : List ℕ) (u : Procedure) → find_unit units name ≡ Some u → (input : List (Slot C)) (tape : List C) (room : Option ℕ) (k : ℕ) → run_in_slots n units u input tape room k ≡ run_unit n (passed_units sl units) (passed_unit sl u) input tape room k
  run_passed n name u e input tape room k =
      let outside : Setting _ = record { numbers = n; shape = λ x. scalar; room = room; level = 0 } in
      let start : Scene _ = record { store = input_store n u input; tape = tape; opened = 0; events = [] } in
      ap (λ o. then_do o (λ s left. Done (record { slots = dummy_slots (setting_in outside u start.store) u s.store; tape = s.tape; events = reverse s.events }) (k - left)))
      (unit_same (calls_with_blocks units k) (calls_of (passed_units sl units) k) (calls_same k) outside name u e u.line start k)
