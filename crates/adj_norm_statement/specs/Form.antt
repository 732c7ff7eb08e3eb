-- Whether a program is in kernel form, as it is tested. (docs/KERNEL.md)
use Rattle.std.specs.Prelude.{zero, suc, List, [], ◌∷◌, Bool, true, false, not, ◌&&◌}
use Rattle.adj_tree.specs.Code.{plus, minus, times, quot, modulo, greater, lesser, Term, lit, var, elem, neg, bin, pow, power_of, abs, Terms, none, more, Mark, unmarked, with_count, count_from, Act, assign, choose, loop, during, call, runtime, Code, stop, step, Procedure}
use Rattle.def_meaning.specs.Read.{reads_terms}
use Rattle.def_kernel.specs.Calls.{stands_whole}

-- whether no MAX, MIN or ABS stands at a differentiable occurrence
abbrev pub is_reduced : Term → Bool
is_reduced (lit z) = true
is_reduced (var x) = true
is_reduced (elem x subs) = true
is_reduced (neg a) = is_reduced a
is_reduced (bin plus a b) = is_reduced a && is_reduced b
is_reduced (bin minus a b) = is_reduced a && is_reduced b
is_reduced (bin times a b) = is_reduced a && is_reduced b
is_reduced (bin quot a b) = true
is_reduced (bin modulo a b) = true
is_reduced (bin greater a b) = false
is_reduced (bin lesser a b) = false
is_reduced (pow a zero) = true
is_reduced (pow a (suc k)) = is_reduced a
is_reduced (power_of a b) = is_reduced a
is_reduced (abs a) = false

-- whether the actuals are names, no two of them the same
abbrev pub are_distinct_names : Terms → Bool
are_distinct_names none = true
are_distinct_names (more (var x) es) = not (stands_whole x es) && are_distinct_names es
are_distinct_names (more (lit z) es) = false
are_distinct_names (more (elem x subs) es) = false
are_distinct_names (more (neg a) es) = false
are_distinct_names (more (bin op a b) es) = false
are_distinct_names (more (pow a k) es) = false
are_distinct_names (more (power_of a b) es) = false
are_distinct_names (more (abs a) es) = false

-- whether the list is one CALL of a unit
abbrev pub is_one_call : Code → Bool
is_one_call (step line (call name args) stop) = true
is_one_call _ = false

-- whether the loop isn't marked, or has a body that is one CALL
abbrev pub holds_one_call : Mark → Code → Bool
holds_one_call unmarked body = true
holds_one_call (with_count m) body = is_one_call body
holds_one_call (count_from x) body = is_one_call body

abbrev mutual
  -- whether a statement is one of a kernel
  pub is_kernel_act : Act → Bool
  is_kernel_act (assign x subs e) = not (reads_terms x subs) && is_reduced e
  is_kernel_act (choose c a b) = is_kernel_code a && is_kernel_code b
  is_kernel_act (loop x first last by body m) = holds_one_call m body && is_kernel_code body
  is_kernel_act (during c body) = is_kernel_code body
  is_kernel_act (call name args) = are_distinct_names args
  is_kernel_act (runtime r) = false

  pub is_kernel_code : Code → Bool
  is_kernel_code stop = true
  is_kernel_code (step line a rest) = is_kernel_act a && is_kernel_code rest

-- whether each body is one of a kernel
abbrev pub are_kernel_units : List Procedure → Bool
are_kernel_units [] = true
are_kernel_units (u ∷ us) = is_kernel_code u.body && are_kernel_units us
