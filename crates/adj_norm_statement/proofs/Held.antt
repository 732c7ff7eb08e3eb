-- Locals of subscripts, one after another.
use Rattle.std.proofs.Common.{◌≡◌, ℕ, suc, ◌+◌, ap, arith}
use Rattle.adj_tree.specs.Code.{Var, Term, var, Terms, more}
use Rattle.def_meaning.specs.Append.{◌+++◌}
use Rattle.def_kernel.specs.Lowered.{locals_in, set_local, held, before_held}

module _ (local : ℕ → Var) where
  -- the local of one subscript, and then those of the others
  pub held_more : (own next : ℕ) (e : Term) (es : Terms) → next ≡ own + 1 + locals_in e → held local own (more e es) ≡ more (var (local own)) (held local next es)
  held_more own next e es h = let same : suc (own + locals_in e) ≡ next = omega (arith, h) in ap (λ k. more (var (local own)) (held local k es)) same

  -- what sets it, and then what sets the others
  pub before_held_more : (line own next : ℕ) (e : Term) (es : Terms) → next ≡ own + 1 + locals_in e → before_held local line own (more e es) ≡ set_local local line own (own + 1) e +++ before_held local line next es
  before_held_more line own next e es h =
      let same : suc (own + locals_in e) ≡ next = omega (arith, h) in
      let first : suc own ≡ own + 1 = omega arith in
      (λ i. set_local local line own (first i) e +++ before_held local line (same i) es)
