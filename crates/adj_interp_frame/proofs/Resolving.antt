-- What stands for a tree goes on standing for it when names come later.
use Rattle.std.proofs.Common.{◌≡◌, ℕ, ◌<◌, List, [], length, get_or, refl, ap, ◌∙◌, arith}
use Rattle.adj_tree.specs.Code.{plain}
use Rattle.adj_interp_frame.specs.Prepared.{var_at}
use Rattle.adj_interp_frame.specs.Instructed.{IsNumberBelow}
use Rattle.adj_interp_frame.specs.Numbered.{Extends, Resolves}

-- no names come later
pub extends_self : (ns : List (List ℕ)) → Extends ns ns
extends_self ns = record { keeps = λ i lt. refl; longer = omega arith }

-- names that come later than later ones come later
pub extends_on : (ns ms ls : List (List ℕ)) → Extends ns ms → Extends ms ls → Extends ns ls
extends_on ns ms ls e f = record { keeps = λ i lt. f.keeps i (let l = e.longer in omega (arith, l, lt)) ∙ e.keeps i lt; longer = (let a = e.longer in let b = f.longer in omega (arith, a, b)) }

module _ {P T : Type 0} (view : List (List ℕ) → P → T) (IsBelow : ℕ → P → Type 0) where
  -- so with later names it stands too
  pub resolves_on : (ns ms : List (List ℕ)) (p : P) (t : T) → Extends ns ms → Resolves view IsBelow ns p t → Resolves view IsBelow ms p t
  resolves_on ns ms p t e r = record { stands_for = λ ls f. r.stands_for ls (extends_on ns ms ls e f); below = λ ls f. r.below ls (extends_on ns ms ls e f) }

-- a number stands for the variable that has it
pub number_resolves : (ns : List (List ℕ)) (i : ℕ) (x : List ℕ) → i < length ns → get_or ns i [] ≡ x → Resolves var_at IsNumberBelow ns i (plain x)
number_resolves ns i x lt h = record { stands_for = λ ls f. ap plain (f.keeps i lt ∙ h); below = λ ls f. (let l = f.longer in omega (arith, lt, l)) }
