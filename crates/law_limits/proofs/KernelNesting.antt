-- The kernel of a program is nested at most one deeper than the program.
use Rattle.std.proofs.Common.{◌≤◌, ℕ, zero, suc, ◌+◌, max, Bool, true, false, List, [], ◌∷◌, ◌++◌, map, arith, if◌then◌else◌}
use Rattle.adj_tree.specs.Code.{Var, plus, minus, times, quot, modulo, greater, lesser, Term, Terms, lit, var, elem, neg, bin, pow, power_of, abs, none, more, unmarked, with_count, count_from, Act, Code, assign, choose, loop, during, call, runtime, stop, step, Procedure}
use Rattle.adj_tree.specs.Size.{act_depth, code_depth, IsNested}
use Rattle.def_meaning.specs.Append.{◌+++◌}
use Rattle.def_meaning.specs.LeastSet.{Dummies}
use Rattle.def_meaning.specs.Read.{reads_term}
use Rattle.def_kernel.specs.Lowered.{locals_in, mentions, locals_in_target, locals_in_all, first_flag, other_flags, Passing, stays, put_back, by_value, passing, locals_passing, before, set_local, before_target, lowered_assign, reduced_all, before_all, before_held, passed, before_passing, after_passing, before_passing_all, after_passing_all, lowered_call, lowered_act, lowered}
use Rattle.def_kernel.specs.Kernel.{lowered_unit, local_in}
use Rattle.def_meaning.specs.Written.{handed_back}
use Rattle.def_kernel.specs.Stepped.{marked_in, marked_in_act, cut_act, cut, step_units_in_act, step_units_in, stepped_unit, stepped_from, stepped_program, step_names, names_of_source}
use Rattle.law_limits.specs.Limits.{KernelKeepsNesting}

below_append : (n : ℕ) (c d : Code) → code_depth c ≤ n → code_depth d ≤ n → code_depth (c +++ d) ≤ n
below_append n stop d h g = g
below_append n (step line a c) d h g = let rest = below_append n c d (omega arith) g in omega arith

pub nested_append : (n : ℕ) (ps qs : List Procedure) → IsNested n ps → IsNested n qs → IsNested n (ps ++ qs)
nested_append n [] qs h g = g
nested_append n (p ∷ ps) qs h g = (h.0, nested_append n ps qs h.1 g)

-- ---- lowering

module _ (local : ℕ → Var) where
  before_flat : (line j : ℕ) (e : Term) → code_depth (before local line j e) ≤ 1
  before_flat line j (lit z) = omega arith
  before_flat line j (var x) = omega arith
  before_flat line j (elem x subs) = omega arith
  before_flat line j (neg a) = before_flat line j a
  before_flat line j (bin plus a b) = below_append 1 (before local line j a) _ (before_flat line j a) (before_flat line (j + locals_in a) b)
  before_flat line j (bin minus a b) = below_append 1 (before local line j a) _ (before_flat line j a) (before_flat line (j + locals_in a) b)
  before_flat line j (bin times a b) = below_append 1 (before local line j a) _ (before_flat line j a) (before_flat line (j + locals_in a) b)
  before_flat line j (bin quot a b) = omega arith
  before_flat line j (bin modulo a b) = omega arith
  before_flat line j (bin greater a b) = below_append 1 (before local line j a) _ (before_flat line j a) (below_append 1 (before local line (j + locals_in a) b) _ (before_flat line (j + locals_in a) b) (omega arith))
  before_flat line j (bin lesser a b) = below_append 1 (before local line j a) _ (before_flat line j a) (below_append 1 (before local line (j + locals_in a) b) _ (before_flat line (j + locals_in a) b) (omega arith))
  before_flat line j (pow a zero) = omega arith
  before_flat line j (pow a (suc k)) = before_flat line j a
  before_flat line j (power_of a b) = before_flat line j a
  before_flat line j (abs a) = below_append 1 (before local line j a) _ (before_flat line j a) (omega arith)

  set_flat : (line j m : ℕ) (e : Term) → code_depth (set_local local line j m e) ≤ 1
  set_flat line j m e = below_append 1 (before local line m e) _ (before_flat line m e) (omega arith)

  target_flat : (line : ℕ) (x : Var) (j m : ℕ) (es : Terms) → code_depth (before_target local line x j m es) ≤ 1
  target_flat line x j m none = omega arith
  target_flat line x j m (more e es) =
      elim (reads_term x e) as (λ b. code_depth (if b then set_local local line j m e +++ before_target local line x (suc j) (m + locals_in e) es else before_target local line x j m es) ≤ 1) [
        | true ↦ below_append 1 (set_local local line j m e) _ (set_flat line j m e) (target_flat line x (suc j) (m + locals_in e) es)
        | false ↦ target_flat line x j m es
      ]

  assign_flat : (line : ℕ) (x : Var) (subs : Terms) (e : Term) → code_depth (lowered_assign local line x subs e) ≤ 1
  assign_flat line x subs e =
      let m = mentions x subs in
      let k = m + locals_in_target x subs in
      below_append 1 (before_target local line x 0 m subs) _ (target_flat line x 0 m subs) (below_append 1 (before local line k e) _ (before_flat line k e) (omega arith))

  all_flat : (line j : ℕ) (es : Terms) → code_depth (before_all local line j es) ≤ 1
  all_flat line j none = omega arith
  all_flat line j (more e es) = below_append 1 (before local line j e) _ (before_flat line j e) (all_flat line (j + locals_in e) es)

  held_flat : (line j : ℕ) (es : Terms) → code_depth (before_held local line j es) ≤ 1
  held_flat line j none = omega arith
  held_flat line j (more e es) = below_append 1 (set_local local line j (suc j) e) _ (set_flat line j (suc j) e) (held_flat line (suc (j + locals_in e)) es)

  passing_flat : (line j : ℕ) (p : Passing) → code_depth (before_passing local line j p) ≤ 1
  passing_flat line j (stays x) = omega arith
  passing_flat line j (put_back x subs) = below_append 1 (before_held local line j subs) _ (held_flat line j subs) (omega arith)
  passing_flat line j (by_value e) = omega arith

  after_flat : (line j : ℕ) (p : Passing) → code_depth (after_passing local line j p) ≤ 1
  after_flat line j (stays x) = omega arith
  after_flat line j (put_back x subs) = omega arith
  after_flat line j (by_value e) = omega arith

  passing_all_flat : (line j : ℕ) (ws : List Bool) (earlier : List Var) (es : Terms) → code_depth (before_passing_all local line j ws earlier es) ≤ 1
  passing_all_flat line j ws earlier none = omega arith
  passing_all_flat line j ws earlier (more e es) =
      let p = passing (first_flag ws) earlier e in
      below_append 1 (before_passing local line j p) _ (passing_flat line j p) (passing_all_flat line (j + locals_passing p) (other_flags ws) (passed local j p ∷ earlier) es)

  after_all_flat : (line j : ℕ) (ws : List Bool) (earlier : List Var) (es : Terms) → code_depth (after_passing_all local line j ws earlier es) ≤ 1
  after_all_flat line j ws earlier none = omega arith
  after_all_flat line j ws earlier (more e es) =
      let p = passing (first_flag ws) earlier e in
      below_append 1 (after_passing local line j p) _ (after_flat line j p) (after_all_flat line (j + locals_passing p) (other_flags ws) (passed local j p ∷ earlier) es)

  call_flat : (line : ℕ) (ws : List Bool) (name : List ℕ) (args : Terms) → code_depth (lowered_call local line ws name args) ≤ 1
  call_flat line ws name args =
      let j = locals_in_all args in
      let es = reduced_all local 0 args in
      let behind = after_all_flat line j ws [] es in
      below_append 1 (before_all local line 0 args) _ (all_flat line 0 args) (below_append 1 (before_passing_all local line j ws [] es) _ (passing_all_flat line j ws [] es) (omega arith))

  module _ (handed : Dummies) where
    mutual
      act_lowered : (line : ℕ) (a : Act) → code_depth (lowered_act local handed line a) ≤ act_depth a + 1
      act_lowered line (assign x subs e) = assign_flat line x subs e
      act_lowered line (choose c a b) = let p = list_lowered a in let q = list_lowered b in omega arith
      act_lowered line (loop x first last by body m) = let p = list_lowered body in omega arith
      act_lowered line (during c body) = let p = list_lowered body in omega arith
      act_lowered line (call name args) = call_flat line (handed name) name args
      act_lowered line (runtime r) = omega arith

      list_lowered : (c : Code) → code_depth (lowered local handed c) ≤ code_depth c + 1
      list_lowered stop = omega arith
      list_lowered (step line a rest) =
          let p = act_lowered line a in
          let q = list_lowered rest in
          below_append (max (act_depth a) (code_depth rest) + 1) (lowered_act local handed line a) (lowered local handed rest) (omega arith) (omega arith)

-- ---- step units

module _ (taken : List (List ℕ)) (u : Procedure) where
  mutual
    act_cut : (k line : ℕ) (a : Act) → act_depth (cut_act taken u k line a) ≤ act_depth a
    act_cut k line (assign x subs e) = omega arith
    act_cut k line (choose c a b) = let p = list_cut k a in let q = list_cut (k + marked_in a) b in omega arith
    act_cut k line (loop x first last by body unmarked) = let p = list_cut k body in omega arith
    act_cut k line (loop x first last by body (with_count m)) = omega arith
    act_cut k line (loop x first last by body (count_from y)) = omega arith
    act_cut k line (during c body) = let p = list_cut k body in omega arith
    act_cut k line (call name args) = omega arith
    act_cut k line (runtime r) = omega arith

    list_cut : (k : ℕ) (c : Code) → code_depth (cut taken u k c) ≤ code_depth c
    list_cut k stop = omega arith
    list_cut k (step line a rest) = let p = act_cut k line a in let q = list_cut (k + marked_in_act a) rest in omega arith

  mutual
    act_units : (n k line : ℕ) (a : Act) → act_depth a ≤ n → IsNested n (step_units_in_act taken u k line a)
    act_units n k line (assign x subs e) h = tt
    act_units n k line (choose c a b) h = nested_append n (step_units_in taken u k a) _ (list_units n k a (omega arith)) (list_units n (k + marked_in a) b (omega arith))
    act_units n k line (loop x first last by body unmarked) h = list_units n k body (omega arith)
    act_units n k line (loop x first last by body (with_count m)) h = let p = list_cut (suc k) body in (omega arith, list_units n (suc k) body (omega arith))
    act_units n k line (loop x first last by body (count_from y)) h = let p = list_cut (suc k) body in (omega arith, list_units n (suc k) body (omega arith))
    act_units n k line (during c body) h = list_units n k body (omega arith)
    act_units n k line (call name args) h = tt
    act_units n k line (runtime r) h = tt

    list_units : (n k : ℕ) (c : Code) → code_depth c ≤ n → IsNested n (step_units_in taken u k c)
    list_units n k stop h = tt
    list_units n k (step line a rest) h = nested_append n (step_units_in_act taken u k line a) _ (act_units n k line a (omega arith)) (list_units n (k + marked_in_act a) rest (omega arith))

  unit_stepped : (n : ℕ) → code_depth u.body ≤ n → IsNested n (stepped_unit taken u)
  unit_stepped n h = let p = list_cut 0 u.body in (omega arith, list_units n 0 u.body h)

from_stepped : (n : ℕ) (taken : List (List ℕ)) (us : List Procedure) → IsNested n us → IsNested n (stepped_from taken us)
from_stepped n taken [] h = tt
from_stepped n taken (u ∷ us) h = nested_append n (stepped_unit taken u) _ (unit_stepped taken u n h.0) (from_stepped n (taken ++ step_names taken u.name (marked_in u.body)) us h.1)

all_lowered : (n : ℕ) (units us : List Procedure) → IsNested n us → IsNested (n + 1) (map (lowered_unit units) us)
all_lowered n units [] h = tt
all_lowered n units (u ∷ us) h = (lower u h.0, all_lowered n units us h.1)
  where
    lower : (u : Procedure) → code_depth u.body ≤ n → code_depth (lowered_unit units u).body ≤ n + 1
    lower u h = let p = list_lowered (local_in units u) (handed_back units) u.body in omega arith

pub kernel_nesting : KernelKeepsNesting
kernel_nesting n ps h = all_lowered n (stepped_program ps) (stepped_program ps) (from_stepped n (names_of_source ps) ps h)
