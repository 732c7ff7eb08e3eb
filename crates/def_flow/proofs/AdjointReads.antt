-- The lists of variables hold just what the sets do.
use Rattle.std.proofs.Common.{◌≡◌, zero, suc, ◌++◌, refl, ◌∙◌}
use Rattle.std.specs.Prelude.{Contains, ◌&&◌}
use Rattle.std.proofs.lemmas.List.Elements.{Contains-append_left}
use Rattle.adj_tree.specs.Code.{Var, var_eq, plus, minus, times, quot, modulo, greater, lesser, Term, lit, var, elem, neg, bin, pow, power_of, abs}
use Rattle.def_meaning.specs.Read.{reads_term}
use Rattle.def_names.specs.Numbers.{Vars}
use Rattle.def_sweep.specs.Occurrences.{is_active_where, adjoint_reads}
use Rattle.def_names.specs.VariableLists.{has, whole_or, vars_in, vars_in_terms, occurring_in}
use Rattle.def_flow.specs.AdjointReads.{adjoint_reads_in}
use Rattle.adj_reach.proofs.Members.{is_later, is_none}
use Rattle.def_names.proofs.Conditioned.{if_only}
use Rattle.def_names.proofs.VariableLists.{has_if, has_vars, has_vars_terms, has_whole, joint, single, turned_or, whole_stands, within}

-- ---- lists

-- ---- terms

pub has_occurring : (v : Var) (e : Term) → has (occurring_in e) v ≡ is_active_where (λ x. var_eq v x) e
has_occurring v (lit z) = refl
has_occurring v (var x) = single v x
has_occurring v (elem x subs) = single v x
has_occurring v (neg a) = has_occurring v a
has_occurring v (bin plus a b) = joint (occurring_in a) (occurring_in b) v (has_occurring v a) (has_occurring v b)
has_occurring v (bin minus a b) = joint (occurring_in a) (occurring_in b) v (has_occurring v a) (has_occurring v b)
has_occurring v (bin times a b) = joint (occurring_in a) (occurring_in b) v (has_occurring v a) (has_occurring v b)
has_occurring v (bin quot a b) = refl
has_occurring v (bin modulo a b) = refl
has_occurring v (bin greater a b) = refl
has_occurring v (bin lesser a b) = refl
has_occurring v (pow a zero) = refl
has_occurring v (pow a (suc k)) = has_occurring v a
has_occurring v (power_of a b) = has_occurring v a
has_occurring v (abs a) = refl

pub adjoint_reads_stand : (on : Vars) (v : Var) (e : Term) → Contains (adjoint_reads_in on e) v → Contains (vars_in e) v
adjoint_reads_stand on v (lit z) c = absurd (is_none v c)
adjoint_reads_stand on v (var x) c = absurd (is_none v c)
adjoint_reads_stand on v (elem x subs) c = is_later v x (vars_in_terms subs) (if_only (on x) (vars_in_terms subs) v c).1
adjoint_reads_stand on v (neg a) c = adjoint_reads_stand on v a c
adjoint_reads_stand on v (bin plus a b) c = within (adjoint_reads_in on a) (adjoint_reads_in on b) (vars_in a) (vars_in b) v (adjoint_reads_stand on v a) (adjoint_reads_stand on v b) c
adjoint_reads_stand on v (bin minus a b) c = within (adjoint_reads_in on a) (adjoint_reads_in on b) (vars_in a) (vars_in b) v (adjoint_reads_stand on v a) (adjoint_reads_stand on v b) c
adjoint_reads_stand on v (bin times a b) c =
    within (whole_or (is_active_where on b) (vars_in a) (adjoint_reads_in on a)) (whole_or (is_active_where on a) (vars_in b) (adjoint_reads_in on b)) (vars_in a) (vars_in b) v
    (whole_stands (is_active_where on b) (vars_in a) (adjoint_reads_in on a) v (adjoint_reads_stand on v a)) (whole_stands (is_active_where on a) (vars_in b) (adjoint_reads_in on b) v (adjoint_reads_stand on v b)) c
adjoint_reads_stand on v (bin quot a b) c = absurd (is_none v c)
adjoint_reads_stand on v (bin modulo a b) c = absurd (is_none v c)
adjoint_reads_stand on v (bin greater a b) c = absurd (is_none v c)
adjoint_reads_stand on v (bin lesser a b) c = absurd (is_none v c)
adjoint_reads_stand on v (pow a zero) c = absurd (is_none v c)
adjoint_reads_stand on v (pow a (suc zero)) c = adjoint_reads_stand on v a c
adjoint_reads_stand on v (pow a (suc (suc k))) c = whole_stands (is_active_where on a) (vars_in a) (adjoint_reads_in on a) v (adjoint_reads_stand on v a) c
adjoint_reads_stand on v (power_of a b) c = whole_stands (is_active_where on a) (vars_in a ++ vars_in b) (adjoint_reads_in on a) v (λ d. Contains-append_left (vars_in a) (vars_in b) v (adjoint_reads_stand on v a d)) c
adjoint_reads_stand on v (abs a) c = absurd (is_none v c)

pub has_adjoint_reads : (on : Vars) (v : Var) (e : Term) → has (adjoint_reads_in on e) v ≡ adjoint_reads on e v
has_adjoint_reads on v (lit z) = refl
has_adjoint_reads on v (var x) = refl
has_adjoint_reads on v (elem x subs) = has_if (on x) (vars_in_terms subs) v (has_vars_terms v subs)
has_adjoint_reads on v (neg a) = has_adjoint_reads on v a
has_adjoint_reads on v (bin plus a b) = joint (adjoint_reads_in on a) (adjoint_reads_in on b) v (has_adjoint_reads on v a) (has_adjoint_reads on v b)
has_adjoint_reads on v (bin minus a b) = joint (adjoint_reads_in on a) (adjoint_reads_in on b) v (has_adjoint_reads on v a) (has_adjoint_reads on v b)
has_adjoint_reads on v (bin times a b) =
    joint (whole_or (is_active_where on b) (vars_in a) (adjoint_reads_in on a)) (whole_or (is_active_where on a) (vars_in b) (adjoint_reads_in on b)) v
    (has_whole (is_active_where on b) (vars_in a) (adjoint_reads_in on a) v (has_vars v a) (has_adjoint_reads on v a) (adjoint_reads_stand on v a))
    (has_whole (is_active_where on a) (vars_in b) (adjoint_reads_in on b) v (has_vars v b) (has_adjoint_reads on v b) (adjoint_reads_stand on v b))
    ∙ turned_or (is_active_where on b && reads_term v a) (adjoint_reads on a v) (is_active_where on a && reads_term v b) (adjoint_reads on b v)
has_adjoint_reads on v (bin quot a b) = refl
has_adjoint_reads on v (bin modulo a b) = refl
has_adjoint_reads on v (bin greater a b) = refl
has_adjoint_reads on v (bin lesser a b) = refl
has_adjoint_reads on v (pow a zero) = refl
has_adjoint_reads on v (pow a (suc zero)) = has_adjoint_reads on v a
has_adjoint_reads on v (pow a (suc (suc k))) = has_whole (is_active_where on a) (vars_in a) (adjoint_reads_in on a) v (has_vars v a) (has_adjoint_reads on v a) (adjoint_reads_stand on v a)
has_adjoint_reads on v (power_of a b) =
    has_whole (is_active_where on a) (vars_in a ++ vars_in b) (adjoint_reads_in on a) v (joint (vars_in a) (vars_in b) v (has_vars v a) (has_vars v b)) (has_adjoint_reads on v a)
    (λ d. Contains-append_left (vars_in a) (vars_in b) v (adjoint_reads_stand on v a d))
has_adjoint_reads on v (abs a) = refl

-- ---- calls

-- ---- statements
