-- Bound: an operand with the newest frame, closed.
use Rattle.std.proofs.Common.{◌≡◌, List, [], ◌∷◌, ◌++◌, true, false, refl, sym, ap, ◌∙◌}
use Rattle.def_text.specs.Machine.{Frame, Group, Called, Signed, Added, Multiplied, Base, Algebra, close_product, close_sum}
use Rattle.adj_parse_expression.specs.declared.frame as code
use Rattle.adj_parse_expression.specs.Partial.{Partial}
use Rattle.adj_parse_expression.specs.Stack.{frame_of, stack_of, is_open, is_tight, bound}
use Rattle.adj_parse_expression.proofs.StackLemmas.{stacked-pop}

module _ {X : Type 0} (alg : Algebra X) (frames : List (Frame X)) where
  sum_bound : (f : Frame X) (x : X) → is_open f ≡ false → close_sum alg frames (bound alg f x) ≡ close_sum alg (f ∷ frames) x
  sum_bound Group x h = absurd cc
  sum_bound (Called name all) x h = absurd cc
  sum_bound (Signed op) x h = refl
  sum_bound (Added op a) x h = refl
  sum_bound (Multiplied op a) x h = refl
  sum_bound (Base a) x h = refl

  sum_open : (f : Frame X) (x : X) → is_open f ≡ true → (f ∷ frames, x) ≡ close_sum alg (f ∷ frames) x
  sum_open Group x h = refl
  sum_open (Called name all) x h = refl
  sum_open (Signed op) x h = absurd cc
  sum_open (Added op a) x h = absurd cc
  sum_open (Multiplied op a) x h = absurd cc
  sum_open (Base a) x h = absurd cc

  product_bound : (f : Frame X) (x : X) → is_tight f ≡ true → close_product alg frames (bound alg f x) ≡ close_product alg (f ∷ frames) x
  product_bound Group x h = absurd cc
  product_bound (Called name all) x h = absurd cc
  product_bound (Signed op) x h = absurd cc
  product_bound (Added op a) x h = absurd cc
  product_bound (Multiplied op a) x h = refl
  product_bound (Base a) x h = refl

  product_open : (f : Frame X) (x : X) → is_tight f ≡ false → (f ∷ frames, x) ≡ close_product alg (f ∷ frames) x
  product_open Group x h = refl
  product_open (Called name all) x h = refl
  product_open (Signed op) x h = refl
  product_open (Added op a) x h = refl
  product_open (Multiplied op a) x h = absurd cc
  product_open (Base a) x h = absurd cc

module _ (alg : Algebra Partial) (items rest : List code.Frame.Frame) (frame : code.Frame.Frame) where
  -- the newest frame is closed
  pub sum-closes : (x y : Partial) → items ≡ rest ++ frame ∷ [] → is_open (frame_of frame) ≡ false → y ≡ bound alg (frame_of frame) x → close_sum alg (stack_of rest) y ≡ close_sum alg (stack_of items) x
  sum-closes x y popped closes is_y =
      ap (close_sum alg (stack_of rest)) is_y ∙ sum_bound alg (stack_of rest) (frame_of frame) x closes ∙ sym (ap (λ fs. close_sum alg fs x) (stacked-pop frame_of items rest frame popped))

  pub product-closes : (x y : Partial) → items ≡ rest ++ frame ∷ [] → is_tight (frame_of frame) ≡ true → y ≡ bound alg (frame_of frame) x → close_product alg (stack_of rest) y ≡ close_product alg (stack_of items) x
  product-closes x y popped closes is_y =
      ap (close_product alg (stack_of rest)) is_y ∙ product_bound alg (stack_of rest) (frame_of frame) x closes ∙ sym (ap (λ fs. close_product alg fs x) (stacked-pop frame_of items rest frame popped))

  -- the newest frame is left open
  pub sum-stays : (back : List code.Frame.Frame) (x : Partial) → items ≡ rest ++ frame ∷ [] → back ≡ rest ++ frame ∷ [] → is_open (frame_of frame) ≡ true → (stack_of back, x) ≡ close_sum alg (stack_of items) x
  sum-stays back x popped pushed stays =
      ap (λ fs. (fs, x)) (stacked-pop frame_of back rest frame pushed) ∙ sum_open alg (stack_of rest) (frame_of frame) x stays ∙ sym (ap (λ fs. close_sum alg fs x) (stacked-pop frame_of items rest frame popped))

  pub product-stays : (back : List code.Frame.Frame) (x : Partial) → items ≡ rest ++ frame ∷ [] → back ≡ rest ++ frame ∷ [] → is_tight (frame_of frame) ≡ false → (stack_of back, x) ≡ close_product alg (stack_of items) x
  product-stays back x popped pushed stays =
      ap (λ fs. (fs, x)) (stacked-pop frame_of back rest frame pushed) ∙ product_open alg (stack_of rest) (frame_of frame) x stays ∙ sym (ap (λ fs. close_product alg fs x) (stacked-pop frame_of items rest frame popped))
