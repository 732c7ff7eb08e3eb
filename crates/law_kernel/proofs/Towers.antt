-- Nine is the least constant: ABS in ABS comes as near to it as one wants.
use Rattle.std.proofs.Common.{◌≡◌, ℕ, zero, suc, ◌+◌, ◌*◌, refl, arith}
use Rattle.adj_tree.specs.Code.{Var, none, assign}
use Rattle.adj_tree.specs.Size.{term_nodes}
use Rattle.def_meaning.specs.Append.{one}
use Rattle.def_kernel.specs.Lowered.{locals_in, reduced, before, turned_up, lowered_assign}
use Rattle.def_kernel.specs.Weights.{weight, total_weight}
use Rattle.law_kernel.specs.WeighTheorem.{tower}
use Rattle.law_kernel.proofs.Weighing.{total_append}

module _ (local : ℕ → Var) (x : Var) where
  -- what stands in place of a tower is one node
  one_node : (j k : ℕ) → term_nodes (reduced local j (tower x k)) ≡ 1
  one_node j zero = refl
  one_node j (suc k) = refl

  -- each ABS costs nine
  nine_each : (line j k : ℕ) → total_weight (before local line j (tower x k)) ≡ 9 * k
  nine_each line j zero = refl
  nine_each line j (suc k) =
      let c = before local line j (tower x k) in
      let d = turned_up local line (j + locals_in (tower x k)) (reduced local j (tower x k)) in
      omega (arith, total_append c d, nine_each line j k, one_node j k)

  -- the nodes of a tower
  tower_nodes : (k : ℕ) → term_nodes (tower x k) ≡ k + 1
  tower_nodes zero = refl
  tower_nodes (suc k) = omega (arith, tower_nodes k)

  -- the weight of its assignment
  pub tower_weight : (y : Var) (k : ℕ) → weight (assign y none (tower x k)) ≡ k + 2
  tower_weight y k = omega (arith, tower_nodes k)

  -- what its kernel statements weigh
  pub tower_total : (line : ℕ) (y : Var) (k : ℕ) → total_weight (lowered_assign local line y none (tower x k)) ≡ 9 * k + 2
  tower_total line y k =
      omega (arith, total_append (before local line 0 (tower x k)) (one line (assign y none (reduced local 0 (tower x k)))), nine_each line 0 k, one_node 0 k)
