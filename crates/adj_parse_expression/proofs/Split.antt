-- Split: an expression goes on above open parentheses as it does alone, until one of them is closed.
use Rattle.std.proofs.Common.{◌≡◌, ℕ, zero, suc, List, [], ◌∷◌, ◌++◌, length, Bool, true, false, cond, Option, Some, None, refl, sym, ap, ◌∙◌}
use Rattle.adj_tree.specs.Code.{Op, plus, minus, times, quot}
use Rattle.def_text.specs.declared.token.TokenKind.TheVariants.{Power, Star, Slash, Plus, Minus, Left, Right, Comma}
use Rattle.def_text.specs.Grammar.{takes}
use Rattle.def_text.specs.Machine.{Frame, Group, Called, Signed, Added, Multiplied, Base, Algebra, with_sign, close_product, close_sum, Nothing, Callee, Operand, State, having, begin_sign, begin, end_group, next_argument, add, multiply, go_on, behind_name, step, whole, finish, chosen}
use Rattle.def_text.specs.Lexeme.{Lexeme, Named, Digits, Mark}

-- so many open parentheses
abbrev pub groups : {X : Type 0} → ℕ → List (Frame X)
groups zero = []
groups (suc n) = Group ∷ groups n

-- a state above so many open parentheses
abbrev pub above : {X : Type 0} → ℕ → State X → State X
above n e = (e.0 ++ groups n, e.1)

-- a lexeme that doesn't go on with an expression alone closes the parenthesis below, where the expression is whole
abbrev pub closed : {X : Type 0} → Lexeme → Option X → ℕ → Option (State X)
closed (Mark Right) (Some x) (suc n) = Some (having (groups n) x)
closed _ _ _ = None

module _ {X : Type 0} (alg : Algebra X) where
  close_product-above : (frames : List (Frame X)) (x : X) (n : ℕ) → close_product alg (frames ++ groups n) x ≡ ((close_product alg frames x).0 ++ groups n, (close_product alg frames x).1)
  close_product-above [] x zero = refl
  close_product-above [] x (suc n) = refl
  close_product-above (Group ∷ frames) x n = refl
  close_product-above (Called text all ∷ frames) x n = refl
  close_product-above (Signed op ∷ frames) x n = refl
  close_product-above (Added op a ∷ frames) x n = refl
  close_product-above (Multiplied op a ∷ frames) x n = close_product-above frames (alg.combined op a x) n
  close_product-above (Base a ∷ frames) x n = close_product-above frames (alg.powered a x) n

  close_sum-above : (frames : List (Frame X)) (x : X) (n : ℕ) → close_sum alg (frames ++ groups n) x ≡ ((close_sum alg frames x).0 ++ groups n, (close_sum alg frames x).1)
  close_sum-above [] x zero = refl
  close_sum-above [] x (suc n) = refl
  close_sum-above (Group ∷ frames) x n = refl
  close_sum-above (Called text all ∷ frames) x n = refl
  close_sum-above (Signed op ∷ frames) x n = close_sum-above frames (with_sign alg op x) n
  close_sum-above (Added op a ∷ frames) x n = close_sum-above frames (alg.combined op a x) n
  close_sum-above (Multiplied op a ∷ frames) x n = close_sum-above frames (alg.combined op a x) n
  close_sum-above (Base a ∷ frames) x n = close_sum-above frames (alg.powered a x) n

  -- what a lexeme makes above open parentheses
  abbrev Above : Lexeme → ℕ → Option (State X) → Option X → Option (State X)
  Above w n taken found = chosen taken (λ t. Some (above n t)) (closed w found n)

  signs : (op : Op) (frames : List (Frame X)) (n : ℕ) → begin_sign op (frames ++ groups n) ≡ chosen (begin_sign op frames) (λ t. Some (above n t)) None
  signs op [] zero = refl
  signs op [] (suc n) = refl
  signs op (Group ∷ frames) n = refl
  signs op (Called text all ∷ frames) n = refl
  signs op (Signed p ∷ frames) n = refl
  signs op (Added p a ∷ frames) n = refl
  signs op (Multiplied p a ∷ frames) n = refl
  signs op (Base a ∷ frames) n = refl

  picked : (b : Bool) (n : ℕ) (frames : List (Frame X)) (x : X) → cond b (Some (having (frames ++ groups n) x)) None ≡ Above (Mark Right) n (cond b (Some (having frames x)) None) None
  picked true n frames x = refl
  picked false n frames x = refl

  ends_group : (frames : List (Frame X)) (x : X) (n : ℕ) → end_group alg (frames ++ groups n, x) ≡ Above (Mark Right) n (end_group alg (frames, x)) (whole (frames, x))
  ends_group [] x zero = refl
  ends_group [] x (suc n) = refl
  ends_group (Group ∷ frames) x n = refl
  ends_group (Called text all ∷ frames) x n = picked (takes text (length (all ++ x ∷ []))) n frames (alg.application text (all ++ x ∷ []))
  ends_group (Signed op ∷ frames) x n = refl
  ends_group (Added op a ∷ frames) x n = refl
  ends_group (Multiplied op a ∷ frames) x n = refl
  ends_group (Base a ∷ frames) x n = refl

  next_arrives : (frames : List (Frame X)) (x : X) (n : ℕ) → next_argument (frames ++ groups n, x) ≡ chosen (next_argument (frames, x)) (λ t. Some (above n t)) None
  next_arrives [] x zero = refl
  next_arrives [] x (suc n) = refl
  next_arrives (Group ∷ frames) x n = refl
  next_arrives (Called text all ∷ frames) x n = refl
  next_arrives (Signed op ∷ frames) x n = refl
  next_arrives (Added op a ∷ frames) x n = refl
  next_arrives (Multiplied op a ∷ frames) x n = refl
  next_arrives (Base a ∷ frames) x n = refl

  begins : (frames : List (Frame X)) (w : Lexeme) (n : ℕ) → begin alg (frames ++ groups n) w ≡ Above w n (begin alg frames w) None
  begins frames (Named text) n = refl
  begins frames (Digits digits) n = refl
  begins frames (Mark Left) n = refl
  begins frames (Mark Plus) n = signs plus frames n
  begins frames (Mark Minus) n = signs minus frames n
  begins frames (Mark _) n = refl

  goes_on : (frames : List (Frame X)) (x : X) (w : Lexeme) (n : ℕ) → go_on alg (frames ++ groups n) x w ≡ Above w n (go_on alg frames x w) (whole (close_sum alg frames x))
  goes_on frames x (Mark Plus) n = ap (λ c. Some (add plus c)) (close_sum-above frames x n)
  goes_on frames x (Mark Minus) n = ap (λ c. Some (add minus c)) (close_sum-above frames x n)
  goes_on frames x (Mark Star) n = ap (λ c. Some (multiply times c)) (close_product-above frames x n)
  goes_on frames x (Mark Slash) n = ap (λ c. Some (multiply quot c)) (close_product-above frames x n)
  goes_on frames x (Mark Power) n = refl
  goes_on frames x (Mark Right) n = ap (end_group alg) (close_sum-above frames x n) ∙ ends_group (close_sum alg frames x).0 (close_sum alg frames x).1 n
  goes_on frames x (Mark Comma) n = ap next_argument (close_sum-above frames x n) ∙ next_arrives (close_sum alg frames x).0 (close_sum alg frames x).1 n
  goes_on frames x (Named text) n = refl
  goes_on frames x (Digits digits) n = refl
  goes_on frames x (Mark _) n = refl

  behind_names : (frames : List (Frame X)) (text : List ℕ) (w : Lexeme) (n : ℕ) → behind_name alg (frames ++ groups n) text w ≡ Above w n (behind_name alg frames text w) (whole (close_sum alg frames (alg.name text)))
  behind_names frames text (Mark Left) n = refl
  behind_names frames text (Mark Plus) n = goes_on frames (alg.name text) (Mark Plus) n
  behind_names frames text (Mark Minus) n = goes_on frames (alg.name text) (Mark Minus) n
  behind_names frames text (Mark Star) n = goes_on frames (alg.name text) (Mark Star) n
  behind_names frames text (Mark Slash) n = goes_on frames (alg.name text) (Mark Slash) n
  behind_names frames text (Mark Right) n = goes_on frames (alg.name text) (Mark Right) n
  behind_names frames text (Mark Comma) n = goes_on frames (alg.name text) (Mark Comma) n
  behind_names frames text (Named other) n = refl
  behind_names frames text (Digits digits) n = refl
  behind_names frames text (Mark _) n = refl

  pub step-above : (e : State X) (w : Lexeme) (n : ℕ) → step alg (above n e) w ≡ chosen (step alg e w) (λ t. Some (above n t)) (closed w (finish alg e) n)
  step-above (frames, Nothing) w n = begins frames w n
  step-above (frames, Callee text) w n = behind_names frames text w n
  step-above (frames, Operand x) w n = goes_on frames x w n

  whole-above : (frames : List (Frame X)) (x y : X) (n : ℕ) → whole (frames ++ groups n, x) ≡ Some y → (n ≡ 0) × (whole (frames, x) ≡ Some y)
  whole-above [] x y zero h = (refl, h)
  whole-above [] x y (suc n) h = absurd cc
  whole-above (frame ∷ frames) x y n h = absurd cc

  -- what is whole above some open parentheses has none open
  pub finish-above : (e : State X) (x : X) (n : ℕ) → finish alg (above n e) ≡ Some x → (n ≡ 0) × (finish alg e ≡ Some x)
  finish-above (frames, Nothing) x n h = absurd cc
  finish-above (frames, Callee text) x n h = let c = close_sum alg frames (alg.name text) in whole-above c.0 c.1 x n (sym (ap whole (close_sum-above frames (alg.name text) n)) ∙ h)
  finish-above (frames, Operand y) x n h = let c = close_sum alg frames y in whole-above c.0 c.1 x n (sym (ap whole (close_sum-above frames y n)) ∙ h)
