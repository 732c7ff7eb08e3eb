-- Runs that follow others are put together: values that are the same, turns of loops, tests of DO WHILE.
use Rattle.std.proofs.Common.{◌≡◌, ℕ, zero, suc, ◌+◌, ◌≤◌, Bool, refl, sym, ap, arith, subst}
use Rattle.std.specs.Prelude.{Result, Ok, Err, if◌then◌else◌}
use Rattle.def_meaning.specs.Trap.{Trap, step_trap}
use Rattle.def_meaning.specs.Value.{Setting}
use Rattle.def_meaning.specs.Scene.{Scene, Stand, stand, Go, Outcome, Done, Trapped, More, Full, then_do, with_value, counted}
use Rattle.def_meaning.specs.Run.{turns, tests}
use Rattle.law_meaning.specs.Follows.{Runs, Follows}
use Rattle.law_meaning.proofs.Following.{follows_done, follows_trap, follows_if, follows_then, follows_statement}

-- nothing comes after
pub then_nothing : {A : Type 0} (o : Outcome A) → then_do o (λ a k. Done a k) ≡ o
then_nothing (Done a k) = refl
then_nothing (Trapped t line w) = refl
then_nothing (More w) = refl
then_nothing (Full w) = refl

-- runs that are the same follow each other alike
pub follows_same : {A B : Type 0} (R : A → B → Type 0) (w slack : ℕ) (o o1 : Runs A) (p p1 : Runs B) (k : ℕ) → ((j : ℕ) → o1 j ≡ o j) → ((j : ℕ) → p1 j ≡ p j) → Follows R w slack o p k → Follows R w slack o1 p1 k
follows_same R w slack o o1 p p1 k e f h = subst (λ (z : Runs _). Follows R w slack z p1 k) (λ i j. sym (e j) i) (subst (λ (z : Runs _). Follows R w slack o z k) (λ i j. sym (f j) i) h)

-- what follows a value that is the same, where it is known which
pub follows_known_value : {A B D : Type 0} (R : A → B → Type 0) (w slack : ℕ) (v v1 : Result D Trap) (line : ℕ) (x y : Stand) (f : D → Runs A) (g : D → Runs B) (k : ℕ) → v ≡ v1 → ((d : D) → v ≡ Ok d → Follows R w slack (f d) (g d) k) →
    Follows R w slack (λ j. with_value v line x (λ d. f d j)) (λ j. with_value v1 line y (λ d. g d j)) k
follows_known_value R w slack (Ok d) v1 line x y f g k e h = subst (λ z. Follows R w slack (f d) (λ j. with_value z line y (λ d. g d j)) k) e (h d refl)
follows_known_value R w slack (Err t) v1 line x y f g k e h = subst (λ z. Follows R w slack (λ j. Trapped t line x) (λ j. with_value z line y (λ d. g d j)) k) e (follows_trap w slack R t t line x y k)

-- what follows a value that is the same
pub follows_value : {A B D : Type 0} (R : A → B → Type 0) (w slack : ℕ) (v v1 : Result D Trap) (line : ℕ) (x y : Stand) (f : D → Runs A) (g : D → Runs B) (k : ℕ) → v ≡ v1 → ((d : D) → Follows R w slack (f d) (g d) k) →
    Follows R w slack (λ j. with_value v line x (λ d. f d j)) (λ j. with_value v1 line y (λ d. g d j)) k
follows_value R w slack v v1 line x y f g k e h = follows_known_value R w slack v v1 line x y f g k e (λ d is. h d)

-- a statement is counted in both, and the second may cost some more
pub counted_both : {A B : Type 0} (R : A → B → Type 0) (w slack : ℕ) (x y : Stand) (o : Runs A) (p : Runs B) (k : ℕ) → 0 + 1 + slack ≤ w → ((j : ℕ) → k ≡ suc j → Follows R w slack o p j) → Follows R w 0 (λ j. counted x j o) (λ j. counted y j p) k
counted_both R w slack x y o p k few h =
    follows_statement w slack R o p (λ j. counted y j p) 0 (λ j lt. absurd (omega arith)) x y (λ j. let e : 0 + j ≡ j = omega arith in ap (λ z. counted y z p) e) few k h

module _ {C : Type 0} (n n' : Setting C) (R : Scene C → Scene C → Type 0) (w : ℕ) where
  -- the bodies follow, with so much slack, from related scenes and with at most so many statements
  abbrev BodiesFollow : ℕ → ℕ → Go C → Go C → Type 0
  BodiesFollow slack most f g = (s t : Scene C) → R s t → (k : ℕ) → k ≤ most → Follows R w slack (f s) (g t) k

  -- so do the turns of a loop
  pub turns_follow : (slack : ℕ) → 0 + 1 + (slack + 0) ≤ w → (most m : ℕ) (f g : Go C) (after after' : Scene C → Scene C) → BodiesFollow slack most f g → ((s t : Scene C) → R s t → R (after s) (after' t)) →
      (s t : Scene C) → R s t → (k : ℕ) → k ≤ most → Follows R w 0 (turns n m f after s) (turns n' m g after' t) k
  turns_follow slack few most zero f g after after' h d s t r k le = follows_done w 0 R s t k r
  turns_follow slack few most (suc m) f g after after' h d s t r k le =
      counted_both R w (slack + 0) (stand n s) (stand n' t) (λ j. then_do (f s j) (λ s1 i. turns n m f after (after s1) i)) (λ j. then_do (g t j) (λ t1 i. turns n' m g after' (after' t1) i)) k few
      (λ j e. follows_then w slack 0 R R (f s) (g t) (λ s1 i. turns n m f after (after s1) i) (λ t1 i. turns n' m g after' (after' t1) i) j (h s t r j (omega (arith, e, le)))
      (λ s1 t1 i l r1. turns_follow slack few most m f g after after' h d (after s1) (after' t1) (d s1 t1 r1) i (omega (arith, e, le, l))))

  -- and the tests and turns of a DO WHILE
  pub tests_follow : 1 ≤ w → (most m : ℕ) (test test' : Scene C → Result Bool Trap) (line : ℕ) (f g : Go C) → ((s t : Scene C) → R s t → test s ≡ test' t) → BodiesFollow 0 most f g →
      (s t : Scene C) → R s t → (k : ℕ) → k ≤ most → Follows R w 0 (tests n m test line f s) (tests n' m test' line g t) k
  tests_follow few most zero test test' line f g e h s t r k le =
      follows_value R w 0 (test s) (test' t) line (stand n s) (stand n' t) (λ p j. if p then Trapped step_trap line (stand n s) else Done s j) (λ p j. if p then Trapped step_trap line (stand n' t) else Done t j) k (e s t r)
      (λ p. follows_if w 0 R p (λ j. Trapped step_trap line (stand n s)) (λ j. Done s j) (λ j. Trapped step_trap line (stand n' t)) (λ j. Done t j) k (follows_trap w 0 R step_trap step_trap line (stand n s) (stand n' t) k) (follows_done w 0 R s t k r))
  tests_follow few most (suc m) test test' line f g e h s t r k le =
      let again : Go C = λ s1 j. counted (stand n s1) j (λ i. tests n m test line f s1 i) in
      let again' : Go C = λ s1 j. counted (stand n' s1) j (λ i. tests n' m test' line g s1 i) in
      follows_value R w 0 (test s) (test' t) line (stand n s) (stand n' t) (λ p j. if p then then_do (f s j) again else Done s j) (λ p j. if p then then_do (g t j) again' else Done t j) k (e s t r)
      (λ p. follows_if w 0 R p (λ j. then_do (f s j) again) (λ j. Done s j) (λ j. then_do (g t j) again') (λ j. Done t j) k
      (follows_then w 0 0 R R (f s) (g t) again again' k (h s t r k le)
      (λ s1 t1 i l r1. counted_both R w 0 (stand n s1) (stand n' t1) (tests n m test line f s1) (tests n' m test' line g t1) i (omega (arith, few)) (λ j d. tests_follow few most m test test' line f g e h s1 t1 r1 j (omega (arith, d, le, l)))))
      (follows_done w 0 R s t k r))
