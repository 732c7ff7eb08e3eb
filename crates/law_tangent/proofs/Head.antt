-- The head first clears tangents, and then follows the dual run.
use Rattle.std.proofs.Common.{◌≡◌, ℕ, zero, suc, ◌+◌, Bool, true, false, List, [], ◌∷◌, refl, sym, ◌∙◌, subst, arith, if◌then◌else◌}
use Rattle.std.specs.Prelude.{ℤ, pos, length, ◌||◌, ◌==◌, ◌&&◌}
use Rattle.adj_tree.specs.Code.{Var, plain, shadow, name_eq, lit, none, assign, runtime, zero_array, Code, step}
use Rattle.adj_tree.proofs.Names.{name_same, name_refl}
use Rattle.def_meaning.specs.Append.{◌+++◌, one}
use Rattle.def_meaning.specs.Store.{Shape, Store, set, set_all}
use Rattle.def_meaning.specs.Scene.{Scene, stand}
use Rattle.def_meaning.specs.Run.{Calls, run}
use Rattle.law_meaning.specs.Follows.{Runs, Follows}
use Rattle.law_meaning.proofs.Following.{follows_extra}
use Rattle.law_meaning.proofs.Leadings.{with_store}
use Rattle.def_names.specs.Numbers.{Vars}
use Rattle.def_meaning.specs.Apart.{has_name}
use Rattle.law_sweep.specs.Pairs.{on_words}
use Rattle.def_names.proofs.Variables.{or_false}
use Rattle.def_tangent.specs.Program.{cleared}
use Rattle.def_tangent.specs.Forward.{tangents}
use Rattle.law_tangent.specs.Bears.{SceneBears}
use Rattle.law_tangent.specs.Units.{plan_of}
use Rattle.law_tangent.specs.Theorem.{HeadFollows}
use Rattle.law_tangent.proofs.Units.{units_follow}

module _ (arrays : Vars) where
  -- the store in which a tangent is cleared, and those of some variables
  abbrev zeroed_one : List ℕ → Store ℤ → Store ℤ
  zeroed_one x s = if arrays (plain x) then set_all s (shadow x) (λ j. pos 0) else set s (shadow x) 0 (pos 0)

  abbrev zeroed : List (List ℕ) → Store ℤ → Store ℤ
  zeroed [] s = s
  zeroed (x ∷ xs) s = zeroed xs (zeroed_one x s)

  one_plain : (x : List ℕ) (s : Store ℤ) (y : List ℕ) (j : ℕ) → zeroed_one x s (plain y) j ≡ s (plain y) j
  one_plain x s y j = go (arrays (plain x))
    where
      go : (b : Bool) → (if b then set_all s (shadow x) (λ j. pos 0) else set s (shadow x) 0 (pos 0)) (plain y) j ≡ s (plain y) j
      go true = refl
      go false = refl

  zeroed_plain : (xs : List (List ℕ)) (s : Store ℤ) (y : List ℕ) (j : ℕ) → zeroed xs s (plain y) j ≡ s (plain y) j
  zeroed_plain [] s y j = refl
  zeroed_plain (x ∷ xs) s y j = zeroed_plain xs (zeroed_one x s) y j ∙ one_plain x s y j

  -- another's tangent stays
  one_other : (x : List ℕ) (s : Store ℤ) (y : List ℕ) (j : ℕ) → name_eq y x ≡ false → zeroed_one x s (shadow y) j ≡ s (shadow y) j
  one_other x s y j n = go (arrays (plain x))
    where
      go : (b : Bool) → (if b then set_all s (shadow x) (λ j. pos 0) else set s (shadow x) 0 (pos 0)) (shadow y) j ≡ s (shadow y) j
      go true = rw n refl
      go false = rw n refl

  zeroed_other : (xs : List (List ℕ)) (s : Store ℤ) (y : List ℕ) (j : ℕ) → has_name y xs ≡ false → zeroed xs s (shadow y) j ≡ s (shadow y) j
  zeroed_other [] s y j n = refl
  zeroed_other (x ∷ xs) s y j n = let p = or_false (name_eq y x) (has_name y xs) n in zeroed_other xs (zeroed_one x s) y j p.1 ∙ one_other x s y j p.0

  -- what is 0 stays 0
  one_stays : (x : List ℕ) (s : Store ℤ) (y : List ℕ) (j : ℕ) → s (shadow y) j ≡ pos 0 → zeroed_one x s (shadow y) j ≡ pos 0
  one_stays x s y j h = go (arrays (plain x))
    where
      all : (b : Bool) → (if b then pos 0 else s (shadow y) j) ≡ pos 0
      all true = refl
      all false = h

      go : (b : Bool) → (if b then set_all s (shadow x) (λ j. pos 0) else set s (shadow x) 0 (pos 0)) (shadow y) j ≡ pos 0
      go true = all (name_eq y x)
      go false = all (name_eq y x && (j == 0))

  zeroed_stays : (xs : List (List ℕ)) (s : Store ℤ) (y : List ℕ) (j : ℕ) → s (shadow y) j ≡ pos 0 → zeroed xs s (shadow y) j ≡ pos 0
  zeroed_stays [] s y j h = h
  zeroed_stays (x ∷ xs) s y j h = zeroed_stays xs (zeroed_one x s) y j (one_stays x s y j h)

  -- those of the list are 0, where a scalar has nothing beyond its cell
  own_zero : (x : List ℕ) (s : Store ℤ) → (arrays (plain x) ≡ false → (j : ℕ) → s (shadow x) (suc j) ≡ pos 0) → (j : ℕ) → zeroed_one x s (shadow x) j ≡ pos 0
  own_zero x s h j = go (arrays (plain x)) refl j
    where
      go : (b : Bool) → arrays (plain x) ≡ b → (j : ℕ) → (if b then set_all s (shadow x) (λ j. pos 0) else set s (shadow x) 0 (pos 0)) (shadow x) j ≡ pos 0
      go true e j = let n = name_refl x in rw n refl
      go false e zero = let n = name_refl x in rw n refl
      go false e (suc j) = one_stays_at (name_eq x x && (suc j == 0)) (h e j)
        where
          one_stays_at : (t : Bool) → s (shadow x) (suc j) ≡ pos 0 → (if t then pos 0 else s (shadow x) (suc j)) ≡ pos 0
          one_stays_at true z = refl
          one_stays_at false z = z

  is_zeroed : (xs : List (List ℕ)) (s : Store ℤ) (y : List ℕ) → (arrays (plain y) ≡ false → (j : ℕ) → s (shadow y) (suc j) ≡ pos 0) → has_name y xs ≡ true → (j : ℕ) → zeroed xs s (shadow y) j ≡ pos 0
  is_zeroed [] s y h n j = absurd cc
  is_zeroed (x ∷ xs) s y h n j = go (name_eq y x) refl n (λ m. is_zeroed xs (zeroed_one x s) y (λ a i. one_stays x s y (suc i) (h a i)) m j)
    where
      go : (b : Bool) → name_eq y x ≡ b → (b || has_name y xs) ≡ true → (has_name y xs ≡ true → zeroed xs (zeroed_one x s) (shadow y) j ≡ pos 0) → zeroed xs (zeroed_one x s) (shadow y) j ≡ pos 0
      go true e m ih =
          let is : y ≡ x = name_same y x e in
          zeroed_stays xs (zeroed_one x s) y j (subst (λ z. zeroed_one z s (shadow y) j ≡ pos 0) is (own_zero y s h j))
      go false e m ih = ih m

  -- the code that clears them costs one statement for each
  module _ {A : Type 0} (q : Calls ℤ) (sh : Var → Shape) (level w line : ℕ) (R : A → Scene ℤ → Type 0) (o : Runs A) (rest : Code) where
    cleared_follows : (xs : List (List ℕ)) (s : Scene ℤ) (k : ℕ) → Follows R w 0 o (run q (on_words sh level) rest (with_store s (zeroed xs s.store))) k → Follows R w (length xs) o (run q (on_words sh level) (cleared arrays line xs +++ rest) s) k
    cleared_follows [] s k h = h
    cleared_follows (x ∷ xs) s k h = go (arrays (plain x)) (cleared_follows xs (with_store s (zeroed_one x s.store)) k h)
      where
        e : length xs + 1 ≡ suc (length xs)
        e = omega arith

        go : (b : Bool) → Follows R w (length xs) o (run q (on_words sh level) (cleared arrays line xs +++ rest) (with_store s (if b then set_all s.store (shadow x) (λ j. pos 0) else set s.store (shadow x) 0 (pos 0)))) k →
            Follows R w (suc (length xs)) o (run q (on_words sh level) (((if b then one line (runtime (zero_array (shadow x))) else one line (assign (shadow x) none (lit (pos 0)))) +++ cleared arrays line xs) +++ rest) s) k
        go true ih = subst (λ m. Follows R w m o (run q (on_words sh level) (step line (runtime (zero_array (shadow x))) (cleared arrays line xs +++ rest)) s) k) e (follows_extra w (length xs) R (stand (on_words sh level) s) o (run q (on_words sh level) (cleared arrays line xs +++ rest) (with_store s (set_all s.store (shadow x) (λ j. pos 0)))) k ih)
        go false ih = subst (λ m. Follows R w m o (run q (on_words sh level) (step line (assign (shadow x) none (lit (pos 0))) (cleared arrays line xs +++ rest)) s) k) e (follows_extra w (length xs) R (stand (on_words sh level) s) o (run q (on_words sh level) (cleared arrays line xs +++ rest) (with_store s (set s.store (shadow x) 0 (pos 0)))) k ih)

-- the law
pub head_follows : HeadFollows
head_follows ps qs w some reached called still g f first entry end vars arrays units plains depth name v found there sh level shapes at line d s h k =
    cleared_follows (arrays name) (Rattle.def_meaning.specs.Units.calls_of qs depth) sh level w line (SceneBears sh (g name).callee.carried (f (end name)))
    (run (Rattle.def_meaning.specs.Units.calls_of ps depth) (Rattle.law_sweep.specs.Pairs.on_duals (Rattle.law_sweep.specs.Passing.plainly sh) level) v.body d) (tangents (plan_of g name) v.body) at s k
    (units_follow ps qs w some reached called still g f first entry end vars arrays units plains depth name v found there sh level shapes d (with_store s (zeroed (arrays name) at s.store)) begins k)
  where
    begins : SceneBears sh (g name).callee.carried (f (entry name)) d (with_store s (zeroed (arrays name) at s.store))
    begins = record {
      values = h.values;
      tangents = h.tangents;
      is = h.is;
      bears = record {
        plains = record { at = λ x j. zeroed_plain (arrays name) at s.store x j ∙ h.plains.at x j };
        tangents = λ x j n. tangent x j n (has_name x at) refl;
        words = h.words;
        others = h.others;
        outside = h.outside;
      };
      opened = h.opened;
      tape = h.tape;
    }
      where
        tangent : (x : List ℕ) (j : ℕ) → (g name).callee.carried (plain x) ≡ true → (b : Bool) → has_name x at ≡ b → zeroed (arrays name) at s.store (shadow x) j ≡ h.tangents (x, j)
        tangent x j n true e = is_zeroed (arrays name) at s.store x (λ a i. h.scalar x n e a i) e j ∙ sym (h.cleared x n e j)
        tangent x j n false e = zeroed_other (arrays name) at s.store x j e ∙ h.given x n e j
