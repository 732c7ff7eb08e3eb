-- Subscripts of a target, one after another.
use Rattle.std.proofs.Common.{◌≡◌, ℕ, suc, ◌+◌, Bool, true, false, if◌then◌else◌, refl, sym, ap, ◌∙◌, arith, add-one}
use Rattle.adj_tree.specs.Code.{Var, Term, var, Terms, more}
use Rattle.def_meaning.specs.Append.{◌+++◌}
use Rattle.def_meaning.specs.Read.{reads_term}
use Rattle.def_kernel.specs.Lowered.{count_of, locals_in, locals_in_target, set_local, apart_from, before_target}
use Rattle.adj_norm_statement.specs.Targets.{kept_apart, before_kept, locals_kept}

-- how many locals are taken by one subscript, and then by the others
pub locals_more : (b : Bool) (x : Var) (e : Term) (es : Terms) → b ≡ reads_term x e → locals_in_target x (more e es) ≡ locals_kept b e + locals_in_target x es
locals_more b x e es h = ap (λ t. (if t then locals_in e else 0) + locals_in_target x es) (sym h) ∙ go b
  where
    go : (t : Bool) → (if t then locals_in e else 0) + locals_in_target x es ≡ locals_kept t e + locals_in_target x es
    go true = refl
    go false = refl

module _ (local : ℕ → Var) (x : Var) where
  -- what stands in its place, and then the others
  pub apart_more : (b : Bool) (own next : ℕ) (e : Term) (es : Terms) → b ≡ reads_term x e → next ≡ own + count_of b → apart_from local x own (more e es) ≡ more (kept_apart b (local own) e) (apart_from local x next es)
  apart_more b own next e es h n =
      ap (λ t. if t then more (var (local own)) (apart_from local x (suc own) es) else more e (apart_from local x own es)) (sym h) ∙ go b ∙ ap (λ k. more (kept_apart b (local own) e) (apart_from local x k es)) (sym n)
    where
      go : (t : Bool) → (if t then more (var (local own)) (apart_from local x (suc own) es) else more e (apart_from local x own es)) ≡ more (kept_apart t (local own) e) (apart_from local x (own + count_of t) es)
      go true = ap (λ k. more (var (local own)) (apart_from local x k es)) (sym (add-one own))
      go false = let zero_more : own ≡ own + 0 = omega arith in ap (λ k. more e (apart_from local x k es)) zero_more

  -- what sets its local, and then what sets those of the others
  pub target_more : (b : Bool) (line own next m k : ℕ) (e : Term) (es : Terms) → b ≡ reads_term x e → next ≡ own + count_of b → k ≡ m + locals_kept b e → before_target local line x own m (more e es) ≡ before_kept local b line own m e +++ before_target local line x next k es
  target_more b line own next m k e es h n l =
      ap (λ t. if t then set_local local line own m e +++ before_target local line x (suc own) (m + locals_in e) es else before_target local line x own m es) (sym h) ∙ go b
      ∙ (λ i. before_kept local b line own m e +++ before_target local line x (sym n i) (sym l i) es)
    where
      go : (t : Bool) → (if t then set_local local line own m e +++ before_target local line x (suc own) (m + locals_in e) es else before_target local line x own m es) ≡ before_kept local t line own m e +++ before_target local line x (own + count_of t) (m + locals_kept t e) es
      go true = ap (λ k. set_local local line own m e +++ before_target local line x k (m + locals_in e) es) (sym (add-one own))
      go false = let a : own ≡ own + 0 = omega arith in let b : m ≡ m + 0 = omega arith in (λ i. before_target local line x (a i) (b i) es)
