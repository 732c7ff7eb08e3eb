-- Occurrences: what the adjoint of a right side reads stands in it.
use Rattle.std.proofs.Common.{◌≡◌, ℕ, zero, suc, Bool, true, false, refl}
use Rattle.std.specs.Prelude.{◌&&◌, ◌||◌}
use Rattle.adj_tree.specs.Code.{Var, var_eq, plus, minus, times, quot, modulo, greater, lesser, Term, lit, var, elem, neg, bin, pow, power_of, abs}
use Rattle.def_meaning.specs.Read.{reads_term, reads_terms}
use Rattle.def_names.specs.Numbers.{Vars}
use Rattle.def_names.proofs.Variables.{and_true, or_left, or_right}
use Rattle.def_sweep.specs.Occurrences.{is_active_where, adjoint_reads}

-- by cases on a truth value of two
pub either_of : (a b : Bool) (P : Type 0) → (a || b) ≡ true → (a ≡ true → P) → (b ≡ true → P) → P
either_of true b P h f g = f refl
either_of false b P h f g = g h

module _ (on : Vars) (v : Var) where
  pub reads_stand : (e : Term) → adjoint_reads on e v ≡ true → reads_term v e ≡ true
  reads_stand (lit z) h = absurd cc
  reads_stand (var x) h = absurd cc
  reads_stand (elem x subs) h = or_right (var_eq v x) (reads_terms v subs) (and_true (on x) (reads_terms v subs) h).1
  reads_stand (neg a) h = reads_stand a h
  reads_stand (bin plus a b) h = either_of (adjoint_reads on a v) (adjoint_reads on b v) _ h (λ e. or_left (reads_term v a) (reads_term v b) (reads_stand a e)) (λ e. or_right (reads_term v a) (reads_term v b) (reads_stand b e))
  reads_stand (bin minus a b) h = either_of (adjoint_reads on a v) (adjoint_reads on b v) _ h (λ e. or_left (reads_term v a) (reads_term v b) (reads_stand a e)) (λ e. or_right (reads_term v a) (reads_term v b) (reads_stand b e))
  reads_stand (bin times a b) h =
      either_of (is_active_where on a && reads_term v b) ((is_active_where on b && reads_term v a) || (adjoint_reads on a v || adjoint_reads on b v)) _ h
      (λ e. or_right (reads_term v a) (reads_term v b) (and_true (is_active_where on a) (reads_term v b) e).1)
      (λ k. either_of (is_active_where on b && reads_term v a) (adjoint_reads on a v || adjoint_reads on b v) _ k
      (λ e. or_left (reads_term v a) (reads_term v b) (and_true (is_active_where on b) (reads_term v a) e).1)
      (λ l. either_of (adjoint_reads on a v) (adjoint_reads on b v) _ l (λ e. or_left (reads_term v a) (reads_term v b) (reads_stand a e)) (λ e. or_right (reads_term v a) (reads_term v b) (reads_stand b e))))
  reads_stand (bin quot a b) h = absurd cc
  reads_stand (bin modulo a b) h = absurd cc
  reads_stand (bin greater a b) h = absurd cc
  reads_stand (bin lesser a b) h = absurd cc
  reads_stand (pow a zero) h = absurd cc
  reads_stand (pow a (suc zero)) h = reads_stand a h
  reads_stand (pow a (suc (suc k))) h = either_of (is_active_where on a && reads_term v a) (adjoint_reads on a v) _ h (λ e. (and_true (is_active_where on a) (reads_term v a) e).1) (λ e. reads_stand a e)
  reads_stand (power_of a b) h =
      either_of (is_active_where on a && (reads_term v a || reads_term v b)) (adjoint_reads on a v) _ h (λ e. (and_true (is_active_where on a) (reads_term v a || reads_term v b) e).1) (λ e. or_left (reads_term v a) (reads_term v b) (reads_stand a e))
  reads_stand (abs a) h = absurd cc
