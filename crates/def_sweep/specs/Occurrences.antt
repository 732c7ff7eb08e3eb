-- Occurrences: where the derivative of a right side goes, and what its adjoint reads. (docs/ANALYSES.md, "Flow", "Adjoint liveness")
use Rattle.std.specs.Prelude.{ℕ, zero, suc, Bool, false, ◌||◌, ◌&&◌}
use Rattle.adj_tree.specs.Code.{var_eq, plus, minus, times, Term, lit, var, elem, neg, bin, pow, power_of, abs, Terms}
use Rattle.def_meaning.specs.Read.{reads_term, reads_terms}
use Rattle.def_names.specs.Numbers.{Vars}
use Rattle.def_sweep.specs.Marks.{Marks, active_at}
use Rattle.def_sweep.specs.Facts.{joined, vars_if, in_terms}

-- a variable of the set stands at a differentiable occurrence: outside subscripts, quotients, MOD, exponents and bases of power 0;
-- in kernel form MAX, MIN and ABS have none
abbrev pub is_active_where : Vars → Term → Bool
is_active_where on (lit z) = false
is_active_where on (var x) = on x
is_active_where on (elem x subs) = on x
is_active_where on (neg a) = is_active_where on a
is_active_where on (bin plus a b) = is_active_where on a || is_active_where on b
is_active_where on (bin minus a b) = is_active_where on a || is_active_where on b
is_active_where on (bin times a b) = is_active_where on a || is_active_where on b
is_active_where on (bin _ a b) = false
is_active_where on (pow a zero) = false
is_active_where on (pow a (suc k)) = is_active_where on a
is_active_where on (power_of a b) = is_active_where on a
is_active_where on (abs a) = false

-- the variables at a differentiable occurrence
abbrev pub occurring : Term → Vars
occurring e = λ v. is_active_where (λ x. var_eq v x) e

-- the variables whose values the adjoint of a right side reads, where `on` are the active ones: those in the other factor of an active factor,
-- in the base of an active power of at least 2, in the base and the exponent of an active power by an expression, and in subscripts of active occurrences
abbrev pub adjoint_reads : Vars → Term → Vars
adjoint_reads on (elem x subs) v = on x && reads_terms v subs
adjoint_reads on (neg a) v = adjoint_reads on a v
adjoint_reads on (bin plus a b) v = adjoint_reads on a v || adjoint_reads on b v
adjoint_reads on (bin minus a b) v = adjoint_reads on a v || adjoint_reads on b v
adjoint_reads on (bin times a b) v =
    (is_active_where on a && reads_term v b) || ((is_active_where on b && reads_term v a) || (adjoint_reads on a v || adjoint_reads on b v))
adjoint_reads on (pow a (suc zero)) v = adjoint_reads on a v
adjoint_reads on (pow a (suc (suc k))) v = (is_active_where on a && reads_term v a) || adjoint_reads on a v
adjoint_reads on (power_of a b) v = (is_active_where on a && (reads_term v a || reads_term v b)) || adjoint_reads on a v
adjoint_reads on _ v = false

-- the adjoint reads of the i-th statement, an assignment to a place with these subscripts: what the sweeps read besides what is kept
abbrev pub reads_at : Marks → ℕ → Terms → Term → Vars
reads_at m i subs e = joined (vars_if (m.adjointed i) (adjoint_reads (active_at m i) e)) (vars_if (m.kept i || m.adjointed i) (in_terms subs))
