-- The variables of terms and statements as lists, in the order of the text.
use Rattle.std.specs.Prelude.{zero, suc, List, [], ◌++◌}
use Rattle.adj_tree.specs.Code.{Var, plus, minus, times, quot, modulo, greater, lesser, Term, lit, var, elem, neg, bin, pow, power_of, abs}
use Rattle.def_names.specs.Numbers.{Vars}
use Rattle.def_sweep.specs.Occurrences.{is_active_where}
use Rattle.def_names.specs.VariableLists.{list_if, vars_in, vars_in_terms, whole_or}

-- those whose values the adjoint of a right side reads, each occurrence once
abbrev pub adjoint_reads_in : Vars → Term → List Var
adjoint_reads_in on (lit z) = []
adjoint_reads_in on (var x) = []
adjoint_reads_in on (elem x subs) = list_if (on x) (vars_in_terms subs)
adjoint_reads_in on (neg a) = adjoint_reads_in on a
adjoint_reads_in on (bin plus a b) = adjoint_reads_in on a ++ adjoint_reads_in on b
adjoint_reads_in on (bin minus a b) = adjoint_reads_in on a ++ adjoint_reads_in on b
adjoint_reads_in on (bin times a b) = whole_or (is_active_where on b) (vars_in a) (adjoint_reads_in on a) ++ whole_or (is_active_where on a) (vars_in b) (adjoint_reads_in on b)
adjoint_reads_in on (bin quot a b) = []
adjoint_reads_in on (bin modulo a b) = []
adjoint_reads_in on (bin greater a b) = []
adjoint_reads_in on (bin lesser a b) = []
adjoint_reads_in on (pow a zero) = []
adjoint_reads_in on (pow a (suc zero)) = adjoint_reads_in on a
adjoint_reads_in on (pow a (suc (suc k))) = whole_or (is_active_where on a) (vars_in a) (adjoint_reads_in on a)
adjoint_reads_in on (power_of a b) = whole_or (is_active_where on a) (vars_in a ++ vars_in b) (adjoint_reads_in on a)
adjoint_reads_in on (abs a) = []

-- ---- calls: by which dummies of the unit are in a set

-- ---- statements
