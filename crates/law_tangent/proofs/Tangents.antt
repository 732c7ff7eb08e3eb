-- Tangents of terms: they are words where those of the variables are, and 0 where no variable carries one.
use Rattle.std.proofs.Common.{◌≡◌, ℕ, zero, suc, Bool, true, false, refl, ap, ◌∙◌}
use Rattle.std.specs.Prelude.{ℤ, pos, ◌||◌}
use Rattle.adj_tree.specs.Code.{Var, plain, shadow, helper, var_eq, plus, minus, times, quot, modulo, greater, lesser, Term, lit, var, elem, neg, bin, pow, power_of, abs}
use Rattle.adj_word.specs.Word.{wrap, at_least_zero}
use Rattle.adj_word.proofs.Residues.{wrap-wrap, wrap-zero}
use Rattle.def_meaning.specs.Numbers.{power_tangent}
use Rattle.def_meaning.specs.Store.{Shape, Store, cell_of}
use Rattle.def_names.specs.Numbers.{Vars}
use Rattle.law_sweep.specs.Pairs.{Words, tangent_at}
use Rattle.def_names.proofs.Variables.{or_false}
use Rattle.def_meaning.proofs.Variables.{var_same}
use Rattle.def_sweep.specs.Occurrences.{is_active_where}
use Rattle.law_sweep.specs.Kernel.{AreTreated}
use Rattle.law_sweep.proofs.Terms.{num, nums, tan, cell_or, IsDefined}
use Rattle.law_sweep.proofs.TermTangents.{tan_none}
use Rattle.law_tangent.specs.Bears.{AreWords, OnlyOn}

-- where neither operand is active, a variable at an occurrence of one isn't in the set
either_inactive : (on : Vars) (a b : Term) (v : Var) → (is_active_where on a ≡ false → is_active_where (λ x. var_eq v x) a ≡ true → on v ≡ false) → (is_active_where on b ≡ false → is_active_where (λ x. var_eq v x) b ≡ true → on v ≡ false) → (is_active_where on a || is_active_where on b) ≡ false → (is_active_where (λ x. var_eq v x) a || is_active_where (λ x. var_eq v x) b) ≡ true → on v ≡ false
either_inactive on a b v first second h o = go (is_active_where (λ x. var_eq v x) a) refl o
  where
    go : (p : Bool) → is_active_where (λ x. var_eq v x) a ≡ p → (p || is_active_where (λ x. var_eq v x) b) ≡ true → on v ≡ false
    go true e n = first (or_false (is_active_where on a) (is_active_where on b) h).0 e
    go false e n = second (or_false (is_active_where on a) (is_active_where on b) h).1 n

-- the tangent of an occurrence is a word
tangent_at-word : (y : Words) → AreWords y → (v : Var) (i : ℕ) → wrap (tangent_at y v i) ≡ tangent_at y v i
tangent_at-word y h (plain x) i = h (x, i)
tangent_at-word y h (shadow x) i = wrap-zero
tangent_at-word y h (helper r k) i = wrap-zero

-- and so is that of a power
pub power_tangent-word : (u d : ℤ) (k : ℕ) → wrap (power_tangent u d k) ≡ power_tangent u d k
power_tangent-word u d zero = wrap-zero
power_tangent-word u d (suc k) = wrap-wrap _

module _ (sh : Var → Shape) (u : Store ℤ) (y : Words) (h : AreWords y) where
  pub tan-word : (e : Term) → AreTreated e → wrap (tan sh e u y) ≡ tan sh e u y
  tan-word (lit z) t = wrap-zero
  tan-word (var x) t = tangent_at-word y h x 0
  tan-word (elem x subs) t = tangent_at-word y h x (cell_or (cell_of (sh x) (nums sh subs u)))
  tan-word (neg a) t = wrap-wrap _
  tan-word (bin plus a b) t = wrap-wrap _
  tan-word (bin minus a b) t = wrap-wrap _
  tan-word (bin times a b) t = wrap-wrap _
  tan-word (bin quot a b) t = wrap-zero
  tan-word (bin modulo a b) t = wrap-zero
  tan-word (bin greater a b) t = absurd t
  tan-word (bin lesser a b) t = absurd t
  tan-word (pow a k) t = power_tangent-word (num sh a u) (tan sh a u y) k
  tan-word (power_of a b) t = power_tangent-word (num sh a u) (tan sh a u y) (at_least_zero (num sh b u))
  tan-word (abs a) t = absurd t

-- a variable at a differentiable occurrence of a term that isn't active isn't one of the set
occurring-inactive : (on : Vars) (e : Term) (v : Var) → is_active_where on e ≡ false → is_active_where (λ x. var_eq v x) e ≡ true → on v ≡ false
occurring-inactive on (lit z) v h o = absurd cc
occurring-inactive on (var x) v h o = ap on (var_same v x o) ∙ h
occurring-inactive on (elem x subs) v h o = ap on (var_same v x o) ∙ h
occurring-inactive on (neg a) v h o = occurring-inactive on a v h o
occurring-inactive on (bin plus a b) v h o = either_inactive on a b v (occurring-inactive on a v) (occurring-inactive on b v) h o
occurring-inactive on (bin minus a b) v h o = either_inactive on a b v (occurring-inactive on a v) (occurring-inactive on b v) h o
occurring-inactive on (bin times a b) v h o = either_inactive on a b v (occurring-inactive on a v) (occurring-inactive on b v) h o
occurring-inactive on (bin quot a b) v h o = absurd cc
occurring-inactive on (bin modulo a b) v h o = absurd cc
occurring-inactive on (bin greater a b) v h o = absurd cc
occurring-inactive on (bin lesser a b) v h o = absurd cc
occurring-inactive on (pow a zero) v h o = absurd cc
occurring-inactive on (pow a (suc k)) v h o = occurring-inactive on a v h o
occurring-inactive on (power_of a b) v h o = occurring-inactive on a v h o
occurring-inactive on (abs a) v h o = absurd cc

-- a term that isn't active has no tangent where only the variables of the set have one
pub tan-inactive : (sh : Var → Shape) (on : Vars) (u : Store ℤ) (y : Words) → OnlyOn sh on y → (e : Term) → AreTreated e → IsDefined sh e u → is_active_where on e ≡ false → tan sh e u y ≡ pos 0
tan-inactive sh on u y only e t d h = tan_none sh u y e t d (λ k c o. only k c (occurring-inactive on e (plain k.0) h o))
