-- Stores of a unit with locals: which locals change, and what keeps its value.
use Rattle.std.proofs.Common.{◌≡◌, ℕ, ◌+◌, ◌<◌, ◌≤◌, Bool, true, false, refl, sym, ap, ◌∙◌, arith, subst}
use Rattle.std.specs.Prelude.{◌==◌, ◌&&◌, Result, Ok, Err, if◌then◌else◌}
use Rattle.adj_tree.specs.Code.{Var, var_eq}
use Rattle.adj_tree.proofs.Names.{nat_same}
use Rattle.def_meaning.specs.Trap.{Trap, then_ok}
use Rattle.def_meaning.specs.Store.{Store, set}
use Rattle.def_meaning.proofs.Variables.{var_refl, var_same}
use Rattle.law_kernel.specs.Apart.{AreLocals}

-- both have the same value, or both have none
abbrev pub SameOrNone : {A : Type 0} → Result A Trap → Result A Trap → Type 0
SameOrNone (Ok a) (Ok b) = a ≡ b
SameOrNone (Ok a) (Err t) = ⊥
SameOrNone (Err t) (Ok b) = ⊥
SameOrNone (Err t) (Err t') = Unit {0}

-- equal values are the same or none
pub same_or_none : {A : Type 0} (v w : Result A Trap) → v ≡ w → SameOrNone v w
same_or_none (Ok a) w e = subst (λ z. SameOrNone (Ok a) z) e refl
same_or_none (Err t) w e = subst (λ z. SameOrNone (Err t) z) e tt

-- what goes on from such values
pub same_then : {A B : Type 0} (v w : Result A Trap) (f g : A → Result B Trap) → SameOrNone v w → ((a : A) → SameOrNone (f a) (g a)) → SameOrNone (then_ok v f) (then_ok w g)
same_then (Ok a) (Ok b) f g e h = subst (λ z. SameOrNone (f a) (g z)) e (h a)
same_then (Ok a) (Err t) f g e h = absurd e
same_then (Err t) (Ok b) f g e h = absurd e
same_then (Err t) (Err t') f g e h = tt

-- and stay so where the second is replaced by an equal one
pub same_trans : {A : Type 0} (u v w : Result A Trap) → SameOrNone u v → v ≡ w → SameOrNone u w
same_trans u v w h e = subst (λ z. SameOrNone u z) e h

-- the numbers of m locals from the j-th on
abbrev pub Range : ℕ → ℕ → ℕ → Type 0
Range j m k = (j ≤ k) × (k < j + m)

-- a store is as it was, but for some locals
pub record Changes {C : Type 0} (inside : Var → Bool) (local : ℕ → Var) (may : ℕ → Type 0) (t t' : Store C) : Type 0 where
  pub within : (x : Var) (i : ℕ) → inside x ≡ true → t' x i ≡ t x i
  pub others : (k i : ℕ) → (may k → ⊥) → t' (local k) i ≡ t (local k) i

-- a variable inside is no local
pub not_local : (inside : Var → Bool) (local : ℕ → Var) → AreLocals inside local → (x : Var) (j : ℕ) → inside x ≡ true → var_eq x (local j) ≡ false
not_local inside local apart x j h = go (var_eq x (local j)) refl
  where
    go : (b : Bool) → var_eq x (local j) ≡ b → var_eq x (local j) ≡ false
    go true e = absurd (let f : true ≡ false = sym h ∙ ap inside (var_same x (local j) e) ∙ apart.outside j in cc)
    go false e = e

-- two locals are two variables
pub other_local : (inside : Var → Bool) (local : ℕ → Var) → AreLocals inside local → (k j : ℕ) → (k ≡ j → ⊥) → var_eq (local k) (local j) ≡ false
other_local inside local apart k j h = apart.apart k j ∙ go (k == j) refl
  where
    go : (b : Bool) → (k == j) ≡ b → (k == j) ≡ false
    go true e = absurd (h (nat_same k j e))
    go false e = e

module _ {C : Type 0} (inside : Var → Bool) (local : ℕ → Var) where
  -- nothing changes
  pub changes_none : (may : ℕ → Type 0) (t : Store C) → Changes inside local may t t
  changes_none may t = record { within = λ x i h. refl; others = λ k i h. refl }

  -- one change after another
  pub changes_both : (may may1 may2 : ℕ → Type 0) (t t1 t2 : Store C) → Changes inside local may1 t t1 → Changes inside local may2 t1 t2 → ((k : ℕ) → may1 k → may k) → ((k : ℕ) → may2 k → may k) → Changes inside local may t t2
  changes_both may may1 may2 t t1 t2 a b f g = record {
    within = λ x i h. b.within x i h ∙ a.within x i h;
    others = λ k i h. b.others k i (λ m. h (g k m)) ∙ a.others k i (λ m. h (f k m));
  }

  -- more locals may change
  pub changes_more : (may may1 : ℕ → Type 0) (t t1 : Store C) → Changes inside local may1 t t1 → ((k : ℕ) → may1 k → may k) → Changes inside local may t t1
  changes_more may may1 t t1 a f = record { within = a.within; others = λ k i h. a.others k i (λ m. h (f k m)) }

  module _ (apart : AreLocals inside local) where
    -- one local is set
    pub set_changes : (t : Store C) (j : ℕ) (c : C) → Changes inside local (Range j 1) t (set t (local j) 0 c)
    set_changes t j c = record {
      within = λ x i h. ap (λ b. if b && (i == 0) then c else t x i) (not_local inside local apart x j h);
      others = λ k i h. ap (λ b. if b && (i == 0) then c else t (local k) i) (other_local inside local apart k j (λ e. h (omega (arith, e), omega (arith, e))));
    }

    -- it holds what it was set to
    pub set_holds : (t : Store C) (j : ℕ) (c : C) → set t (local j) 0 c (local j) 0 ≡ c
    set_holds t j c = ap (λ b. if b && (0 == 0) then c else t (local j) 0) (var_refl (local j))
