-- More units write more.
use Rattle.std.proofs.Common.{◌≡◌, ℕ, Bool, true, List, ◌∷◌}
use Rattle.std.specs.Prelude.{◌&&◌, []}
use Rattle.adj_tree.specs.Code.{Var, plain, Terms, none, more, Act, assign, choose, loop, during, call, runtime, Code, stop, step}
use Rattle.def_meaning.specs.LeastSet.{Dummies, IsWithin}
use Rattle.def_meaning.specs.Written.{is_place_of, is_handed_back, act_writes, writes, write_rule}
use Rattle.def_meaning.proofs.Booleans.{and_more, or_more}
use Rattle.def_meaning.proofs.LeastSets.{Rises}

-- more is handed back where more is written
pub handed_more : (x : Var) (vs ws : List Bool) (args : Terms) → IsWithin vs ws → is_handed_back x vs args ≡ true → is_handed_back x ws args ≡ true
handed_more x [] ws args h e = cc
handed_more x (v ∷ vs) [] args h e = absurd h
handed_more x (v ∷ vs) (w ∷ ws) none h e = cc
handed_more x (v ∷ vs) (w ∷ ws) (more a args) h e =
    or_more (v && is_place_of x a) (is_handed_back x vs args) (w && is_place_of x a) (is_handed_back x ws args) (and_more v w (is_place_of x a) h.0) (handed_more x vs ws args h.1) e

module _ (f g : Dummies) (h : (name : List ℕ) → IsWithin (f name) (g name)) (x : Var) where
  mutual
    -- a statement may write more where more is known
    act_more : (a : Act) → act_writes f x a ≡ true → act_writes g x a ≡ true
    act_more (assign y subs e) t = t
    act_more (choose c a b) t = or_more (writes f x a) (writes f x b) (writes g x a) (writes g x b) (writes_more a) (writes_more b) t
    act_more (loop y first last by body m) t = or_more _ (writes f x body) _ (writes g x body) (λ z. z) (writes_more body) t
    act_more (during c body) t = writes_more body t
    act_more (call name args) t = handed_more x (f name) (g name) args (h name) t
    act_more (runtime r) t = t

    writes_more : (c : Code) → writes f x c ≡ true → writes g x c ≡ true
    writes_more stop t = t
    writes_more (step line a rest) t = or_more (act_writes f x a) (writes f x rest) (act_writes g x a) (writes g x rest) (act_more a) (writes_more rest) t

-- what units write grows with what is known
pub write_rises : Rises write_rule
write_rises = record { by = λ f g h u d t. writes_more f g h (plain d) u.body t }
