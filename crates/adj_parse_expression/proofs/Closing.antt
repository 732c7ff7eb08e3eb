-- Closing: sums that are made stay as they are, so what a closed state comes to is known.
use Rattle.std.proofs.Common.{◌≡◌, ℕ, ◌+◌, List, [], ◌∷◌, ◌++◌, length, true, false, Option, Some, None, Result, refl, subst}
use Rattle.std.specs.Prelude.{map, IfOk}
use Rattle.std.proofs.lemmas.List.{length_push, length-map}
use Rattle.adj_tree.specs.declared.fault.Memory.{Memory}
use Rattle.def_text.specs.Grammar.{takes}
use Rattle.def_text.specs.Machine.{Frame, Group, Called, Signed, Added, Multiplied, Base, Algebra, State, having, close_sum, end_group, with_sign}
use Rattle.adj_parse_expression.specs.declared.frame as code
use Rattle.adj_parse_expression.specs.declared.machine.Stepped.{Stepped}
use Rattle.adj_parse_expression.specs.Partial.{Partial}
use Rattle.adj_parse_expression.specs.Stack.{Makes}

close_sum-close_sum : {X : Type 0} (alg : Algebra X) (frames : List (Frame X)) (x : X) → close_sum alg (close_sum alg frames x).0 (close_sum alg frames x).1 ≡ close_sum alg frames x
close_sum-close_sum alg [] x = refl
close_sum-close_sum alg (Group ∷ frames) x = refl
close_sum-close_sum alg (Called name all ∷ frames) x = refl
close_sum-close_sum alg (Signed op ∷ frames) x = close_sum-close_sum alg frames (with_sign alg op x)
close_sum-close_sum alg (Added op a ∷ frames) x = close_sum-close_sum alg frames (alg.combined op a x)
close_sum-close_sum alg (Multiplied op a ∷ frames) x = close_sum-close_sum alg frames (alg.combined op a x)
close_sum-close_sum alg (Base a ∷ frames) x = close_sum-close_sum alg frames (alg.powered a x)

-- what is made of the sum is made of the operands that come to it
pub behind_sum : (alg : Algebra Partial) (next : List (Frame Partial) × Partial → Option (State Partial)) (frames : List (Frame Partial)) (x : Partial) (sum : List (Frame Partial) × Partial) (made : List code.Frame.Frame) (r : Result Stepped Memory) → sum ≡ close_sum alg frames x → IfOk r (λ s. Makes alg (next sum) (Some (close_sum alg sum.0 sum.1)) made s) → IfOk r (λ s. Makes alg (next (close_sum alg frames x)) (Some (close_sum alg frames x)) made s)
behind_sum alg next frames x sum made r is h =
    let closed = close_sum alg frames x in
    let one = subst (λ (p : List (Frame Partial) × Partial). IfOk r (λ s. Makes alg (next p) (Some (close_sum alg p.0 p.1)) made s)) is h in
    subst (λ (p : List (Frame Partial) × Partial). IfOk r (λ s. Makes alg (next closed) (Some p) made s)) (close_sum-close_sum alg frames x) one

-- another number of arguments than the name takes
pub end_group-untaken : {A X : Type 0} (alg : Algebra X) (frames : List (Frame X)) (name : List ℕ) (f : A → X) (before : List A) (x : X) → takes name (length before + 1) ≡ false → end_group alg (Called name (map f before) ∷ frames, x) ≡ None
end_group-untaken alg frames name f before x h = rw (length_push (map f before) x, length-map before f, h) refl

-- as many as it takes
pub end_group-taken : {A X : Type 0} (alg : Algebra X) (frames : List (Frame X)) (name : List ℕ) (f : A → X) (before : List A) (x : X) → takes name (length before + 1) ≡ true → end_group alg (Called name (map f before) ∷ frames, x) ≡ Some (having frames (alg.application name (map f before ++ x ∷ [])))
end_group-taken alg frames name f before x h = rw (length_push (map f before) x, length-map before f, h) refl
