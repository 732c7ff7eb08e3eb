-- Stores at the actions of a reversal: what its calls of the runtime set, what the arms of an action keep, and what holds before each action.
use Rattle.std.proofs.Common.{◌≡◌, ◌<◌, ◌^◌, ℕ, zero, suc, ◌+◌, ◌-◌, Bool, true, false, List, [], ◌∷◌, length, Some, refl, ap, ◌∙◌, arith}
use Rattle.std.specs.Prelude.{ℤ, pos, ◌-ℤ◌, nat_le, slice_get, Ok, ◌==◌, ◌&&◌}
use Rattle.adj_tree.specs.Code.{Role, role_code, Var, plain, helper, first, stride, count, entry, entries, kind, lower, upper, slots, name_eq, Mark, unmarked}
use Rattle.adj_tree.proofs.Names.{nat_refl}
use Rattle.adj_word.specs.Word.{wrap, add, sub, mul, trip_count}
use Rattle.adj_word.proofs.Counting.{last_of, trips_up, trips_through}
use Rattle.adj_revolve.specs.declared.machine.Action.{Action}
use Rattle.def_meaning.specs.Store.{Shape, Store, set}
use Rattle.def_meaning.specs.Value.{value}
use Rattle.def_meaning.specs.Run.{trips}
use Rattle.def_meaning.specs.Runtime.{kind_of, lower_of, upper_of}
use Rattle.law_sweep.specs.Pairs.{on_words}
use Rattle.def_sweep.specs.ReversalCode.{slots_of}
use Rattle.law_sweep.proofs.Turns.{next_store}
use Rattle.law_sweep.proofs.Playing.{past}

-- ---- the k-th action

pub at_past : (k : ℕ) (list : List Action) (a : Action) (rest : List Action) → past k list ≡ a ∷ rest → slice_get list k ≡ Some a
at_past zero [] a rest h = cc
at_past zero (b ∷ list) a rest h = cc
at_past (suc k) [] a rest h = cc
at_past (suc k) (b ∷ list) a rest h = at_past k list a rest h

pub past_less : (k : ℕ) (list : List Action) (a : Action) (rest : List Action) → past k list ≡ a ∷ rest → k < length list
past_less zero [] a rest h = cc
past_less zero (b ∷ list) a rest h = omega arith
past_less (suc k) [] a rest h = cc
past_less (suc k) (b ∷ list) a rest h = let less = past_less k list a rest h in omega arith

-- ---- what stays

-- all helpers are as they were
pub record SameHelpers (f g : Store ℤ) : Type 0 where
  pub at : (r : Role) (k c : ℕ) → g (helper r k) c ≡ f (helper r k) c

-- what stays over the arms of an action of a loop of depth d
pub record SameFixed (d : ℕ) (f g : Store ℤ) : Type 0 where
  pub count_is : g (helper count d) 0 ≡ f (helper count d) 0
  pub first_is : g (helper first d) 0 ≡ f (helper first d) 0
  pub stride_is : g (helper stride d) 0 ≡ f (helper stride d) 0
  pub slots_is : g (helper slots d) 0 ≡ f (helper slots d) 0
  pub entry_is : g (helper entry d) 0 ≡ f (helper entry d) 0
  pub kind_is : g (helper kind d) 0 ≡ f (helper kind d) 0

pub fixed_none : (d : ℕ) (f : Store ℤ) → SameFixed d f f
fixed_none d f = record { count_is = refl; first_is = refl; stride_is = refl; slots_is = refl; entry_is = refl; kind_is = refl }

pub fixed_of : (d : ℕ) (f g : Store ℤ) → SameHelpers f g → SameFixed d f g
fixed_of d f g h = record { count_is = h.at count d 0; first_is = h.at first d 0; stride_is = h.at stride d 0; slots_is = h.at slots d 0; entry_is = h.at entry d 0; kind_is = h.at kind d 0 }

pub fixed_then : (d : ℕ) (f g h : Store ℤ) → SameFixed d f g → SameFixed d g h → SameFixed d f h
fixed_then d f g h a b = record { count_is = b.count_is ∙ a.count_is; first_is = b.first_is ∙ a.first_is; stride_is = b.stride_is ∙ a.stride_is; slots_is = b.slots_is ∙ a.slots_is; entry_is = b.entry_is ∙ a.entry_is; kind_is = b.kind_is ∙ a.kind_is }

-- ---- what the runtime tells

-- the action is known at a loop of depth d
abbrev pub told : ℕ → Action → Store ℤ → Store ℤ
told d a f = set (set (set f (helper kind d) 0 (pos (kind_of a))) (helper lower d) 0 (pos (lower_of a))) (helper upper d) 0 (pos (upper_of a))

pub told_kind : (d : ℕ) (a : Action) (f : Store ℤ) → told d a f (helper kind d) 0 ≡ pos (kind_of a)
told_kind d a f = rw (nat_refl d) refl

pub told_lower : (d : ℕ) (a : Action) (f : Store ℤ) → told d a f (helper lower d) 0 ≡ pos (lower_of a)
told_lower d a f = rw (nat_refl d) refl

pub told_upper : (d : ℕ) (a : Action) (f : Store ℤ) → told d a f (helper upper d) 0 ≡ pos (upper_of a)
told_upper d a f = rw (nat_refl d) refl

and_no : (b c : Bool) → c ≡ false → (b && c) ≡ false
and_no true c h = h
and_no false c h = refl

-- of a loop of depth d with the variable x
module _ (d : ℕ) (x : List ℕ) where
  -- the stores differ in the loop's variable, in shadows and in helpers of its depth alone
  pub record Beside (f g : Store ℤ) : Type 0 where
    pub plains : (y : List ℕ) (j : ℕ) → name_eq y x ≡ false → g (plain y) j ≡ f (plain y) j
    pub helpers : (r : Role) (k c : ℕ) → (k == d) ≡ false → g (helper r k) c ≡ f (helper r k) c

  -- a helper of this depth, or the loop's variable, is set
  pub own_set : (r0 : Role) (v : ℤ) (f : Store ℤ) → Beside f (set f (helper r0 d) 0 v)
  own_set r0 v f = record {
    plains = λ y j n. refl;
    helpers = λ r k c n. let e : ((role_code r == role_code r0) && (k == d)) ≡ false = and_no (role_code r == role_code r0) (k == d) n in rw e refl;
  }

  pub variable_set : (v : ℤ) (f : Store ℤ) → Beside f (set f (plain x) 0 v)
  variable_set v f = record { plains = λ y j n. rw n refl; helpers = λ r k c n. refl }

  pub beside_then : (f g h : Store ℤ) → Beside f g → Beside g h → Beside f h
  beside_then f g h a b = record { plains = λ y j n. b.plains y j n ∙ a.plains y j n; helpers = λ r k c n. b.helpers r k c n ∙ a.helpers r k c n }

  -- an action is told
  pub told_beside : (a : Action) (f : Store ℤ) → Beside f (told d a f)
  told_beside a f =
      let f1 = set f (helper kind d) 0 (pos (kind_of a)) in
      let f2 = set f1 (helper lower d) 0 (pos (lower_of a)) in
      beside_then f f2 (told d a f) (beside_then f f1 f2 (own_set kind (pos (kind_of a)) f) (own_set lower (pos (lower_of a)) f1)) (own_set upper (pos (upper_of a)) f2)

  -- the loop over the actions begins, and takes its step
  pub begun_beside : (n : ℕ) (f : Store ℤ) → Beside f (set (set f (helper entries d) 0 (pos n)) (helper entry d) 0 (wrap (pos 1)))
  begun_beside n f =
      let f1 = set f (helper entries d) 0 (pos n) in
      beside_then f f1 (set f1 (helper entry d) 0 (wrap (pos 1))) (own_set entries (pos n) f) (own_set entry (wrap (pos 1)) f1)

  pub next_beside : (sh : Var → Shape) (level : ℕ) (f : Store ℤ) → Beside f (next_store (on_words sh level) (helper entry d) (pos 1) f)
  next_beside sh level f = own_set entry (add (f (helper entry d) 0) (pos 1)) f

-- ---- values

-- the loop's variable has its value at step i
abbrev pub AtStep : List ℕ → ℤ → ℤ → ℕ → Store ℤ → Type 0
AtStep x a0 c0 i f = f (plain x) 0 ≡ add a0 (mul (pos i) c0)

-- before the k-th action of a loop of depth d and l turns with m snapshots; `a0` and `c0` are its first value and its step
pub record Ready (sh : Var → Shape) (level d l m : ℕ) (mark : Mark) (a0 c0 : ℤ) (k : ℕ) (f : Store ℤ) : Type 0 where
  pub count_is : f (helper count d) 0 ≡ pos l
  pub first_is : f (helper first d) 0 ≡ a0
  pub stride_is : f (helper stride d) 0 ≡ c0
  pub slots_is : value (on_words sh level) (slots_of d mark) f ≡ Ok (pos m)
  pub entry_is : f (helper entry d) 0 ≡ pos (suc k)

-- an advance from step i by n steps goes round its loop n times
pub trips_between : (l i n : ℕ) → suc l < 2 ^ 63 → i + n < l → trips unmarked (pos i) (sub (pos (i + n)) (pos 1)) (pos 1) ≡ Ok n
trips_between l i n small less =
    let last : sub (pos (i + n)) (pos 1) ≡ pos (i + n) -ℤ pos 1 = last_of (i + n) (omega arith) in
    let many : trip_count (pos i) (sub (pos (i + n)) (pos 1)) (pos 1) ≡ n = ap (λ z. trip_count (pos i) z (pos 1)) last ∙ trips_up i (i + n) ∙ (let e : i + n - i ≡ n = omega arith in e) in
    let ok : nat_le n 9223372036854775807 ≡ true = grind arith in
    rw many (rw ok refl)

-- and the loop over the actions as often as there are actions
pub trips_all : (n : ℕ) → suc (suc n) < 2 ^ 63 → trips unmarked (pos 1) (pos n) (pos 1) ≡ Ok n
trips_all n few = let ok : nat_le n 9223372036854775807 ≡ true = grind arith in rw (trips_through n) (rw ok refl)
