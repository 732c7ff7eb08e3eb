-- When a run of one program means what a run of another does, from the same input.
use Rattle.std.specs.Prelude.{◌≡◌, ℕ, ◌*◌, ◌≤◌}
use Rattle.def_meaning.specs.Trap.{Trap}
use Rattle.def_meaning.specs.Scene.{Stand, Done, Trapped}
use Rattle.law_meaning.specs.Follows.{Runs}

-- with enough statements it is done with this, after so many
pub record Ends {A : Type 0} (f : Runs A) (a : A) : Type 0 where
  pub used : ℕ
  pub enough : ℕ
  pub runs : (k : ℕ) → enough ≤ k → f k ≡ Done a used

-- with enough statements it traps at this line
pub record Traps {A : Type 0} (f : Runs A) (line : ℕ) : Type 0 where
  pub kind : Trap
  pub stands : Stand
  pub enough : ℕ
  pub runs : (k : ℕ) → enough ≤ k → f k ≡ Trapped kind line stands

-- with k statements it traps at this line
pub record TrapsAt {A : Type 0} (f : Runs A) (k line : ℕ) : Type 0 where
  pub kind : Trap
  pub stands : Stand
  pub is : f k ≡ Trapped kind line stands

-- it is done with what is related to a, after at least `used` statements and at most w times as many
pub record DoneToo {A : Type 0} (R : A → A → Type 0) (f : Runs A) (a : A) (w used : ℕ) : Type 0 where
  pub other : A
  pub ends : Ends f other
  pub least : used ≤ ends.used
  pub most : ends.used ≤ w * used
  pub related : R a other

-- it is done with what b is related to
pub record WasDone {A : Type 0} (R : A → A → Type 0) (f : Runs A) (b : A) : Type 0 where
  pub first : A
  pub ends : Ends f first
  pub related : R first b

-- the run g means what f means: it is done where f is, with results that are related, and traps where f traps; and both ways back
pub record MeansAlike {A : Type 0} (R : A → A → Type 0) (f g : Runs A) (w : ℕ) : Type 0 where
  pub done : (k used : ℕ) (a : A) → f k ≡ Done a used → DoneToo R g a w used
  -- perhaps by another kind
  pub traps : (k line : ℕ) (kind : Trap) (stands : Stand) → f k ≡ Trapped kind line stands → Traps g line
  pub done_back : (k used : ℕ) (b : A) → g k ≡ Done b used → WasDone R f b
  pub traps_back : (k line : ℕ) (kind : Trap) (stands : Stand) → g k ≡ Trapped kind line stands → TrapsAt f k line

-- the same, where the results are the very same
abbrev pub MeansTheSame : {A : Type 0} → Runs A → Runs A → ℕ → Type 0
MeansTheSame f g w = MeansAlike (λ a b. a ≡ b) f g w
