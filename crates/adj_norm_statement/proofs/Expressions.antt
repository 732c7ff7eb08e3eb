-- Expressions that are reduced, by their kinds.
use Rattle.std.proofs.Common.{◌≡◌, ◌⊎◌, inl, inr, ℕ, ◌+◌, refl, sym, subst, arith}
use Rattle.adj_tree.specs.Code as code
use Rattle.adj_tree.specs.Code.{Var, plus, minus, times, quot, modulo, greater, lesser, Term, Terms, lit, var, elem, bin, Code, stop}
use Rattle.adj_tree.specs.View.{op_of}
use Rattle.adj_tree.specs.declared.expr.Op.{Op}
use Rattle.adj_tree.specs.declared.expr.Op.TheVariants.{Add, Sub, Mul, Max, Min, Quot, Mod}
use Rattle.def_meaning.specs.Append.{◌+++◌}
use Rattle.def_meaning.proofs.Appends.{append_assoc, append-stop}
use Rattle.def_kernel.specs.Lowered.{locals_in, reduced, before}
use Rattle.adj_norm_statement.specs.Operations.{locals_by, combined, before_combined}

-- the operations with derivatives, each by itself
pub by_five : (P : code.Op → Type 0) → P plus → P minus → P times → P greater → P lesser → (op : Op) → (op ≡ Add) ⊎ ((op ≡ Sub) ⊎ ((op ≡ Mul) ⊎ ((op ≡ Max) ⊎ (op ≡ Min)))) → P (op_of op)
by_five P a b c d e op (inl h) = subst (λ o. P (op_of o)) (sym h) a
by_five P a b c d e op (inr (inl h)) = subst (λ o. P (op_of o)) (sym h) b
by_five P a b c d e op (inr (inr (inl h))) = subst (λ o. P (op_of o)) (sym h) c
by_five P a b c d e op (inr (inr (inr (inl h)))) = subst (λ o. P (op_of o)) (sym h) d
by_five P a b c d e op (inr (inr (inr (inr h)))) = subst (λ o. P (op_of o)) (sym h) e

-- those without
pub by_two : (P : code.Op → Type 0) → P quot → P modulo → (op : Op) → (op ≡ Quot) ⊎ (op ≡ Mod) → P (op_of op)
by_two P a b op (inl h) = subst (λ o. P (op_of o)) (sym h) a
by_two P a b op (inr h) = subst (λ o. P (op_of o)) (sym h) b

-- how many locals it takes
pub locals_parts : (a b : Term) (op : Op) → (op ≡ Add) ⊎ ((op ≡ Sub) ⊎ ((op ≡ Mul) ⊎ ((op ≡ Max) ⊎ (op ≡ Min)))) → locals_in (bin (op_of op) a b) ≡ locals_in a + locals_in b + locals_by (op_of op)
locals_parts a b = by_five (λ o. locals_in (bin o a b) ≡ locals_in a + locals_in b + locals_by o) (omega arith) (omega arith) (omega arith) refl refl

module _ (local : ℕ → Var) (j : ℕ) (a b : Term) where
  -- what stands in its place
  pub reduced_parts : (op : Op) → (op ≡ Add) ⊎ ((op ≡ Sub) ⊎ ((op ≡ Mul) ⊎ ((op ≡ Max) ⊎ (op ≡ Min)))) → reduced local j (bin (op_of op) a b) ≡ combined local (op_of op) (j + locals_in a + locals_in b) (reduced local j a) (reduced local (j + locals_in a) b)
  reduced_parts = by_five (λ o. reduced local j (bin o a b) ≡ combined local o (j + locals_in a + locals_in b) (reduced local j a) (reduced local (j + locals_in a) b)) refl refl refl refl refl

  -- what comes before
  pub before_parts : (line : ℕ) (op : Op) → (op ≡ Add) ⊎ ((op ≡ Sub) ⊎ ((op ≡ Mul) ⊎ ((op ≡ Max) ⊎ (op ≡ Min)))) → (before local line j a +++ before local line (j + locals_in a) b) +++ before_combined local line (op_of op) (j + locals_in a + locals_in b) (reduced local j a) (reduced local (j + locals_in a) b) ≡ before local line j (bin (op_of op) a b)
  before_parts line =
      let both = before local line j a +++ before local line (j + locals_in a) b in
      let split = λ (c : Code). append_assoc (before local line j a) (before local line (j + locals_in a) b) c in
      by_five (λ o. (before local line j a +++ before local line (j + locals_in a) b) +++ before_combined local line o (j + locals_in a + locals_in b) (reduced local j a) (reduced local (j + locals_in a) b) ≡ before local line j (bin o a b))
      (append-stop both) (append-stop both) (append-stop both) (split _) (split _)
