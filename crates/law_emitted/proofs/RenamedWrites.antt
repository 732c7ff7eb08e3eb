-- What code may write under other names, where these keep its variables apart.
use Rattle.std.proofs.Common.{◌≡◌, Bool, List, [], ◌∷◌, refl, ◌∙◌}
use Rattle.std.specs.Prelude.{◌&&◌, ◌||◌}
use Rattle.adj_tree.specs.Code.{Var, var_eq, Term, lit, var, elem, neg, bin, pow, power_of, abs, Terms, none, more, Runtime, push_word, pop_word, push_array, pop_array, push_control, pop_control, zero_array, begin_reversal, count_actions, give_action, end_reversal, Act, assign, choose, loop, during, call, runtime, Code, stop, step}
use Rattle.def_meaning.specs.LeastSet.{Dummies}
use Rattle.def_meaning.specs.Written.{is_place_of, is_handed_back, runtime_writes, act_writes, writes}
use Rattle.def_meaning.specs.Rename.{rename_term, rename_terms, rename_runtime, rename_act, rename}
use Rattle.law_kernel.proofs.Holding.{HoldsIn}
use Rattle.law_kernel.proofs.Sparing.{Spares, AreSpared}

module _ (f : Dummies) (r : Var → Var) (apart : (v w : Var) → var_eq (r v) (r w) ≡ var_eq v w) where
  renamed_place : (v : Var) (e : Term) → is_place_of (r v) (rename_term r e) ≡ is_place_of v e
  renamed_place v (var y) = apart v y
  renamed_place v (elem y s) = apart v y
  renamed_place v (lit z) = refl
  renamed_place v (neg a) = refl
  renamed_place v (bin op a b) = refl
  renamed_place v (pow a k) = refl
  renamed_place v (power_of a b) = refl
  renamed_place v (abs a) = refl

  renamed_back : (v : Var) (ws : List Bool) (args : Terms) → is_handed_back (r v) ws (rename_terms r args) ≡ is_handed_back v ws args
  renamed_back v [] args = refl
  renamed_back v (w ∷ ws) none = refl
  renamed_back v (w ∷ ws) (more e es) = λ i. (w && renamed_place v e i) || renamed_back v ws es i

  renamed_runtime : (v : Var) (c : Runtime) → runtime_writes (r v) (rename_runtime r c) ≡ runtime_writes v c
  renamed_runtime v (push_word y s) = refl
  renamed_runtime v (pop_word y s) = apart v y
  renamed_runtime v (push_array y) = refl
  renamed_runtime v (pop_array y) = apart v y
  renamed_runtime v (push_control e) = refl
  renamed_runtime v (pop_control y) = apart v y
  renamed_runtime v (zero_array y) = apart v y
  renamed_runtime v (begin_reversal l s) = refl
  renamed_runtime v (count_actions l s y) = apart v y
  renamed_runtime v (give_action l s e a b c) = λ i. apart v a i || (apart v b i || apart v c i)
  renamed_runtime v end_reversal = refl

  mutual
    renamed_act : (v : Var) (a : Act) → act_writes f (r v) (rename_act r a) ≡ act_writes f v a
    renamed_act v (assign y s e) = apart v y
    renamed_act v (choose c a b) = λ i. renamed_writes v a i || renamed_writes v b i
    renamed_act v (loop y a b c body m) = λ i. apart v y i || renamed_writes v body i
    renamed_act v (during c body) = renamed_writes v body
    renamed_act v (call name args) = renamed_back v (f name) args
    renamed_act v (runtime c) = renamed_runtime v c

    pub renamed_writes : (v : Var) (c : Code) → writes f (r v) (rename r c) ≡ writes f v c
    renamed_writes v stop = refl
    renamed_writes v (step line a rest) = λ i. renamed_act v a i || renamed_writes v rest i

  -- loops that don't write their variables
  renamed_spares : (a : Act) → Spares f a → Spares f (rename_act r a)
  renamed_spares (assign y s e) h = tt
  renamed_spares (choose c a b) h = tt
  renamed_spares (loop y a b c body m) h = renamed_writes y body ∙ h
  renamed_spares (during c body) h = tt
  renamed_spares (call name args) h = tt
  renamed_spares (runtime c) h = tt

  mutual
    renamed_inner : (a : Act) → HoldsIn (λ l b. Spares f b) a → HoldsIn (λ l b. Spares f b) (rename_act r a)
    renamed_inner (assign y s e) h = tt
    renamed_inner (choose c a b) h = (renamed_spared a h.0, renamed_spared b h.1)
    renamed_inner (loop y a b c body m) h = renamed_spared body h
    renamed_inner (during c body) h = renamed_spared body h
    renamed_inner (call name args) h = tt
    renamed_inner (runtime c) h = tt

    pub renamed_spared : (c : Code) → AreSpared f c → AreSpared f (rename r c)
    renamed_spared stop h = tt
    renamed_spared (step line a rest) h = (renamed_spares a h.0, (renamed_inner a h.1.0, renamed_spared rest h.1.1))
