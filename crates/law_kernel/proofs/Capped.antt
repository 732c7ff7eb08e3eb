-- Where no statement weighs more than m, padding by weights is padding by weights that are capped at m.
use Rattle.std.proofs.Common.{◌≡◌, ℕ, ◌+◌, ◌≤◌, List, [], ◌∷◌, refl, ap, arith}
use Rattle.adj_tree.specs.Code.{Act, assign, choose, loop, during, call, runtime, Code, stop, step, Procedure}
use Rattle.def_kernel.specs.Kernel.{EachUnit}
use Rattle.def_meaning.specs.Padded.{own_nodes, waiting, padded_act, padded, padded_program}
use Rattle.def_kernel.specs.Weights.{weight, ActWeighsAtMost, WeighsAtMost, capped}

module _ (m : ℕ) where
  -- what is known of the statement itself
  weight_first : (a : Act) → ActWeighsAtMost (m + 1) a → weight a ≤ m + 1
  weight_first (assign x subs e) h = h
  weight_first (choose c a b) h = h.0
  weight_first (loop x first last by body mark) h = h.0
  weight_first (during c body) h = h.0
  weight_first (call name args) h = h
  weight_first (runtime r) h = h

  -- a weight that is small enough is its cap
  same_price : (a : Act) → ActWeighsAtMost (m + 1) a → capped m a ≡ own_nodes a
  same_price a h = let l = weight_first a h in omega (arith, l)

  mutual
    act_capped : (a : Act) → ActWeighsAtMost (m + 1) a → padded_act (capped m) a ≡ padded_act own_nodes a
    act_capped (assign x subs e) h = refl
    act_capped (choose c a b) h = λ i. choose c (list_capped a h.1.0 i) (list_capped b h.1.1 i)
    act_capped (loop x first last by body mark) h = λ i. loop x first last by (list_capped body h.1 i) mark
    act_capped (during c body) h = ap (during c) (list_capped body h.1)
    act_capped (call name args) h = refl
    act_capped (runtime r) h = refl

    -- the list is padded alike
    pub list_capped : (c : Code) → WeighsAtMost (m + 1) c → padded (capped m) c ≡ padded own_nodes c
    list_capped stop h = refl
    list_capped (step line a rest) h = λ i. waiting (same_price a h.0 i) line (step line (act_capped a h.0 i) (list_capped rest h.1 i))

  -- and so is the program
  pub program_capped : (units : List Procedure) → EachUnit (λ u. WeighsAtMost (m + 1) u.body) units → padded_program (capped m) units ≡ padded_program own_nodes units
  program_capped [] h = refl
  program_capped (u ∷ us) h = λ i. record u { body = list_capped u.body h.0 i } ∷ program_capped us h.1 i
