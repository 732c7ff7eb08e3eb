-- What a run that is done says of its parts.
use Rattle.std.proofs.Common.{◌≡◌, ℕ, zero, suc, List, [], ◌∷◌, refl}
use Rattle.std.specs.Prelude.{Result, Ok, Err}
use Rattle.def_meaning.specs.Trap.{Trap, then_ok}
use Rattle.def_meaning.specs.Scene.{Stand, Outcome, Done, Trapped, More, Full, then_do, with_value, with_top, counted}

-- what came first was done, and what came after it
pub record Halves {A B : Type 0} (o : Outcome A) (go : A → ℕ → Outcome B) (b : B) (k : ℕ) : Type 0 where
  pub scene : A
  pub left : ℕ
  pub first : o ≡ Done scene left
  pub second : go scene left ≡ Done b k

-- so where two runs one after the other are done
pub then_done : {A B : Type 0} (o : Outcome A) (go : A → ℕ → Outcome B) (b : B) (k : ℕ) → then_do o go ≡ Done b k → Halves o go b k
then_done (Done a j) go b k h = record { scene = a; left = j; first = refl; second = h }
then_done (Trapped t line w) go b k h = cc
then_done (More w) go b k h = cc
then_done (Full w) go b k h = cc

-- there was a value
pub record Valued {A B : Type 0} (r : Result A Trap) (go : A → Outcome B) (b : B) (k : ℕ) : Type 0 where
  pub value : A
  pub is : r ≡ Ok value
  pub goes : go value ≡ Done b k

-- where what follows a value is done
pub value_done : {A B : Type 0} (r : Result A Trap) (line : ℕ) (w : Stand) (go : A → Outcome B) (b : B) (k : ℕ) → with_value r line w go ≡ Done b k → Valued r go b k
value_done (Ok a) line w go b k h = record { value = a; is = refl; goes = h }
value_done (Err t) line w go b k h = cc

-- there was a word on the tape
pub record Topped {B C : Type 0} (t : List C) (go : C → List C → Outcome B) (b : B) (k : ℕ) : Type 0 where
  pub top : C
  pub below : List C
  pub is : t ≡ top ∷ below
  pub goes : go top below ≡ Done b k

-- where what follows a pop is done
pub top_done : {B C : Type 0} (t : List C) (line : ℕ) (w : Stand) (go : C → List C → Outcome B) (b : B) (k : ℕ) → with_top t line w go ≡ Done b k → Topped t go b k
top_done [] line w go b k h = cc
top_done (c ∷ cs) line w go b k h = record { top = c; below = cs; is = refl; goes = h }

-- a statement was left to count
pub record Counted {B : Type 0} (m : ℕ) (go : ℕ → Outcome B) (b : B) (k : ℕ) : Type 0 where
  pub left : ℕ
  pub is : m ≡ suc left
  pub goes : go left ≡ Done b k

-- where what follows a count is done
pub count_done : {B : Type 0} (w : Stand) (m : ℕ) (go : ℕ → Outcome B) (b : B) (k : ℕ) → counted w m go ≡ Done b k → Counted m go b k
count_done w zero go b k h = cc
count_done w (suc m) go b k h = record { left = m; is = refl; goes = h }

-- two ways to be done are one
pub done_same : {B : Type 0} (b c : B) (j k : ℕ) → (let o : Outcome B = Done b j in o ≡ Done c k) → b ≡ c
done_same b c j k h = cc

-- a value that came after another
pub record Evaluated {A B : Type 0} (r : Result A Trap) (go : A → Result B Trap) (b : B) : Type 0 where
  pub value : A
  pub is : r ≡ Ok value
  pub goes : go value ≡ Ok b

-- where what follows a value has one
pub then_ok_is : {A B : Type 0} (r : Result A Trap) (go : A → Result B Trap) (b : B) → then_ok r go ≡ Ok b → Evaluated r go b
then_ok_is (Ok a) go b h = record { value = a; is = refl; goes = h }
then_ok_is (Err t) go b h = cc
