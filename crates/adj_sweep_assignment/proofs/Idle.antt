-- Terms of the program that have no derivative whatever their variables are.
use Rattle.std.proofs.Common.{◌≡◌, ◌⊎◌, inl, inr, ℤ, true, Box, Global, refl, sym, subst}
use Rattle.adj_tree.specs.Code.{Term, bin}
use Rattle.adj_tree.specs.declared.expr.Op.{Op}
use Rattle.adj_tree.specs.declared.expr.Op.TheVariants.{Quot, Mod, Max, Min}
use Rattle.adj_tree.specs.declared.expr.Expr.{Expr, Lit, Abs}
use Rattle.adj_tree.specs.View.{op_of, term_of}
use Rattle.adj_sweep_assignment.proofs.Values.{is_idle}

-- a literal and an absolute value
pub leaf_idle : (e : Expr) → ((x : ℤ) × (e ≡ Lit x)) ⊎ ((x : Box Expr Global) × (e ≡ Abs x)) → is_idle (term_of e) ≡ true
leaf_idle e (inl h) = subst (λ x. is_idle (term_of x) ≡ true) (sym h.1) refl
leaf_idle e (inr h) = subst (λ x. is_idle (term_of x) ≡ true) (sym h.1) refl

-- a quotient, a remainder, a maximum and a minimum
pub operation_idle : (op : Op) (a b : Term) → (op ≡ Quot) ⊎ ((op ≡ Mod) ⊎ ((op ≡ Max) ⊎ (op ≡ Min))) → is_idle (bin (op_of op) a b) ≡ true
operation_idle op a b (inl h) = subst (λ o. is_idle (bin (op_of o) a b) ≡ true) (sym h) refl
operation_idle op a b (inr (inl h)) = subst (λ o. is_idle (bin (op_of o) a b) ≡ true) (sym h) refl
operation_idle op a b (inr (inr (inl h))) = subst (λ o. is_idle (bin (op_of o) a b) ≡ true) (sym h) refl
operation_idle op a b (inr (inr (inr h))) = subst (λ o. is_idle (bin (op_of o) a b) ≡ true) (sym h) refl
