-- More units read more.
use Rattle.std.proofs.Common.{◌≡◌, ℕ, Bool, true, List, ◌∷◌}
use Rattle.std.specs.Prelude.{◌||◌, ◌&&◌, []}
use Rattle.adj_tree.specs.Code.{Var, plain, var_eq, Term, lit, var, elem, neg, bin, pow, power_of, abs, Terms, none, more, Act, assign, choose, loop, during, call, runtime, Code, stop, step}
use Rattle.def_meaning.specs.LeastSet.{Dummies, IsWithin}
use Rattle.def_meaning.specs.Read.{reads_term, reads_terms, reads_test, reads_mark, reads_actual, reads_actuals, act_reads, reads, is_extent, read_rule}
use Rattle.def_meaning.proofs.LeastSets.{Rises}
use Rattle.def_meaning.proofs.Booleans.{and_more, or_more}

-- a dummy that is read may be read by more
actual_more : (x : Var) (v w : Bool) → (v ≡ true → w ≡ true) → (e : Term) → reads_actual x v e ≡ true → reads_actual x w e ≡ true
actual_more x v w h (var y) t = and_more v w (var_eq x y) h t
actual_more x v w h (elem y subs) t = or_more (v && var_eq x y) (reads_terms x subs) (w && var_eq x y) (reads_terms x subs) (and_more v w (var_eq x y) h) (λ z. z) t
actual_more x v w h (lit z) t = t
actual_more x v w h (neg a) t = t
actual_more x v w h (bin op a b) t = t
actual_more x v w h (pow a k) t = t
actual_more x v w h (power_of a b) t = t
actual_more x v w h (abs a) t = t

-- and so for all actuals
actuals_more : (x : Var) (vs ws : List Bool) → IsWithin vs ws → (es : Terms) → reads_actuals x vs es ≡ true → reads_actuals x ws es ≡ true
actuals_more x vs ws h none t = t
actuals_more x [] [] h (more e es) t = t
actuals_more x [] (w ∷ ws) h (more e es) t = absurd h
actuals_more x (v ∷ vs) [] h (more e es) t = absurd h
actuals_more x (v ∷ vs) (w ∷ ws) h (more e es) t =
    or_more (reads_actual x v e) (reads_actuals x vs es) (reads_actual x w e) (reads_actuals x ws es) (actual_more x v w h.0 e) (actuals_more x vs ws h.1 es) t

module _ (f g : Dummies) (h : (name : List ℕ) → IsWithin (f name) (g name)) (x : Var) where
  mutual
    -- a statement reads more where more is known
    act_more : (a : Act) → act_reads f x a ≡ true → act_reads g x a ≡ true
    act_more (assign y subs e) t = t
    act_more (choose c a b) t =
        or_more (reads_test x c) (reads f x a || reads f x b) (reads_test x c) (reads g x a || reads g x b) (λ z. z) (or_more (reads f x a) (reads f x b) (reads g x a) (reads g x b) (reads_more a) (reads_more b)) t
    act_more (loop y first last by body m) t =
        or_more (reads_term x first || (reads_term x last || (reads_term x by || reads_mark x m))) (reads f x body) (reads_term x first || (reads_term x last || (reads_term x by || reads_mark x m))) (reads g x body) (λ z. z) (reads_more body) t
    act_more (during c body) t = or_more (reads_test x c) (reads f x body) (reads_test x c) (reads g x body) (λ z. z) (reads_more body) t
    act_more (call name args) t = actuals_more x (f name) (g name) (h name) args t
    act_more (runtime r) t = t

    reads_more : (c : Code) → reads f x c ≡ true → reads g x c ≡ true
    reads_more stop t = t
    reads_more (step line a rest) t = or_more (act_reads f x a) (reads f x rest) (act_reads g x a) (reads g x rest) (act_more a) (reads_more rest) t

-- what units read grows with what is known
pub read_rises : Rises read_rule
read_rises = record {
  by = λ f g h u d t.
      or_more (reads f (plain d) u.body) (is_extent d u.declarations) (reads g (plain d) u.body) (is_extent d u.declarations) (reads_more f g h (plain d) u.body) (λ z. z) t;
}
