-- The tests of kernel form find it exactly.
use Rattle.std.proofs.Common.{◌≡◌, zero, suc, Bool, true, false, List, [], ◌∷◌, refl}
use Rattle.std.specs.Prelude.{not, ◌&&◌}
use Rattle.adj_tree.specs.Code.{plus, minus, times, quot, modulo, greater, lesser, Term, lit, var, elem, neg, bin, pow, power_of, abs, Terms, none, more, Mark, unmarked, with_count, count_from, Act, assign, choose, loop, during, call, runtime, Code, stop, step, Procedure}
use Rattle.def_meaning.specs.Read.{reads_terms}
use Rattle.def_meaning.proofs.Booleans.{and_true}
use Rattle.def_kernel.specs.Calls.{stands_whole}
use Rattle.def_kernel.specs.Form.{IsReduced, AreDistinctNames, IsOneCall, WhereMarked, IsKernelAct, IsKernelCode, IsKernel}
use Rattle.adj_norm_statement.specs.Form.{is_reduced, are_distinct_names, is_one_call, holds_one_call, is_kernel_act, is_kernel_code, are_kernel_units}

-- both hold
both : (a b : Bool) → a ≡ true → b ≡ true → (a && b) ≡ true
both true b h g = g
both false b h g = absurd cc

-- what isn't doesn't hold
isn't : (a : Bool) → not a ≡ true → a ≡ false
isn't true h = absurd cc
isn't false h = refl

is : (a : Bool) → a ≡ false → not a ≡ true
is true h = absurd cc
is false h = refl

-- ---- expressions and actuals

reduced_found : (e : Term) → is_reduced e ≡ true → IsReduced e
reduced_found (lit z) h = tt
reduced_found (var x) h = tt
reduced_found (elem x subs) h = tt
reduced_found (neg a) h = reduced_found a h
reduced_found (bin plus a b) h = let p = and_true (is_reduced a) (is_reduced b) h in (reduced_found a p.0, reduced_found b p.1)
reduced_found (bin minus a b) h = let p = and_true (is_reduced a) (is_reduced b) h in (reduced_found a p.0, reduced_found b p.1)
reduced_found (bin times a b) h = let p = and_true (is_reduced a) (is_reduced b) h in (reduced_found a p.0, reduced_found b p.1)
reduced_found (bin quot a b) h = tt
reduced_found (bin modulo a b) h = tt
reduced_found (bin greater a b) h = absurd cc
reduced_found (bin lesser a b) h = absurd cc
reduced_found (pow a zero) h = tt
reduced_found (pow a (suc k)) h = reduced_found a h
reduced_found (power_of a b) h = reduced_found a h
reduced_found (abs a) h = absurd cc

reduced_told : (e : Term) → IsReduced e → is_reduced e ≡ true
reduced_told (lit z) h = refl
reduced_told (var x) h = refl
reduced_told (elem x subs) h = refl
reduced_told (neg a) h = reduced_told a h
reduced_told (bin plus a b) h = both (is_reduced a) (is_reduced b) (reduced_told a h.0) (reduced_told b h.1)
reduced_told (bin minus a b) h = both (is_reduced a) (is_reduced b) (reduced_told a h.0) (reduced_told b h.1)
reduced_told (bin times a b) h = both (is_reduced a) (is_reduced b) (reduced_told a h.0) (reduced_told b h.1)
reduced_told (bin quot a b) h = refl
reduced_told (bin modulo a b) h = refl
reduced_told (bin greater a b) h = absurd h
reduced_told (bin lesser a b) h = absurd h
reduced_told (pow a zero) h = refl
reduced_told (pow a (suc k)) h = reduced_told a h
reduced_told (power_of a b) h = reduced_told a h
reduced_told (abs a) h = absurd h

distinct_found : (es : Terms) → are_distinct_names es ≡ true → AreDistinctNames es
distinct_found none h = tt
distinct_found (more (var x) es) h = let p = and_true (not (stands_whole x es)) (are_distinct_names es) h in (isn't (stands_whole x es) p.0, distinct_found es p.1)
distinct_found (more (lit z) es) h = absurd cc
distinct_found (more (elem x subs) es) h = absurd cc
distinct_found (more (neg a) es) h = absurd cc
distinct_found (more (bin op a b) es) h = absurd cc
distinct_found (more (pow a k) es) h = absurd cc
distinct_found (more (power_of a b) es) h = absurd cc
distinct_found (more (abs a) es) h = absurd cc

distinct_told : (es : Terms) → AreDistinctNames es → are_distinct_names es ≡ true
distinct_told none h = refl
distinct_told (more (var x) es) h = both (not (stands_whole x es)) (are_distinct_names es) (is (stands_whole x es) h.0) (distinct_told es h.1)
distinct_told (more (lit z) es) h = absurd h
distinct_told (more (elem x subs) es) h = absurd h
distinct_told (more (neg a) es) h = absurd h
distinct_told (more (bin op a b) es) h = absurd h
distinct_told (more (pow a k) es) h = absurd h
distinct_told (more (power_of a b) es) h = absurd h
distinct_told (more (abs a) es) h = absurd h

-- ---- statements

call_found : (c : Code) → is_one_call c ≡ true → IsOneCall c
call_found stop h = absurd cc
call_found (step line (call name args) stop) h = tt
call_found (step line (call name args) (step l a c)) h = absurd cc
call_found (step line (assign x subs e) c) h = absurd cc
call_found (step line (choose t a b) c) h = absurd cc
call_found (step line (loop x first last by body m) c) h = absurd cc
call_found (step line (during t body) c) h = absurd cc
call_found (step line (runtime r) c) h = absurd cc

call_told : (c : Code) → IsOneCall c → is_one_call c ≡ true
call_told stop h = absurd h
call_told (step line (call name args) stop) h = refl
call_told (step line (call name args) (step l a c)) h = absurd h
call_told (step line (assign x subs e) c) h = absurd h
call_told (step line (choose t a b) c) h = absurd h
call_told (step line (loop x first last by body m) c) h = absurd h
call_told (step line (during t body) c) h = absurd h
call_told (step line (runtime r) c) h = absurd h

mark_found : (m : Mark) (c : Code) → holds_one_call m c ≡ true → WhereMarked m (IsOneCall c)
mark_found unmarked c h = tt
mark_found (with_count n) c h = call_found c h
mark_found (count_from x) c h = call_found c h

mark_told : (m : Mark) (c : Code) → WhereMarked m (IsOneCall c) → holds_one_call m c ≡ true
mark_told unmarked c h = refl
mark_told (with_count n) c h = call_told c h
mark_told (count_from x) c h = call_told c h

mutual
  act_found : (a : Act) → is_kernel_act a ≡ true → IsKernelAct a
  act_found (assign x subs e) h = let p = and_true (not (reads_terms x subs)) (is_reduced e) h in (isn't (reads_terms x subs) p.0, reduced_found e p.1)
  act_found (choose c a b) h = let p = and_true (is_kernel_code a) (is_kernel_code b) h in (code_found a p.0, code_found b p.1)
  act_found (loop x first last by body m) h = let p = and_true (holds_one_call m body) (is_kernel_code body) h in (mark_found m body p.0, code_found body p.1)
  act_found (during c body) h = code_found body h
  act_found (call name args) h = distinct_found args h
  act_found (runtime r) h = absurd cc

  code_found : (c : Code) → is_kernel_code c ≡ true → IsKernelCode c
  code_found stop h = tt
  code_found (step line a rest) h = let p = and_true (is_kernel_act a) (is_kernel_code rest) h in (act_found a p.0, code_found rest p.1)

mutual
  act_told : (a : Act) → IsKernelAct a → is_kernel_act a ≡ true
  act_told (assign x subs e) h = both (not (reads_terms x subs)) (is_reduced e) (is (reads_terms x subs) h.0) (reduced_told e h.1)
  act_told (choose c a b) h = both (is_kernel_code a) (is_kernel_code b) (code_told a h.0) (code_told b h.1)
  act_told (loop x first last by body m) h = both (holds_one_call m body) (is_kernel_code body) (mark_told m body h.0) (code_told body h.1)
  act_told (during c body) h = code_told body h
  act_told (call name args) h = distinct_told args h
  act_told (runtime r) h = absurd h

  code_told : (c : Code) → IsKernelCode c → is_kernel_code c ≡ true
  code_told stop h = refl
  code_told (step line a rest) h = both (is_kernel_act a) (is_kernel_code rest) (act_told a h.0) (code_told rest h.1)

-- ---- programs

pub units_found : (us : List Procedure) → are_kernel_units us ≡ true → IsKernel us
units_found [] h = tt
units_found (u ∷ us) h = let p = and_true (is_kernel_code u.body) (are_kernel_units us) h in (code_found u.body p.0, units_found us p.1)

pub units_told : (us : List Procedure) → IsKernel us → are_kernel_units us ≡ true
units_told [] h = refl
units_told (u ∷ us) h = both (is_kernel_code u.body) (are_kernel_units us) (code_told u.body h.0) (units_told us h.1)
