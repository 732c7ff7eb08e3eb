-- How many helpers the tangent of a unit takes: at most 2 to the depth of its expressions for parts, and as many for values.
use Rattle.std.proofs.Common.{◌≤◌, ◌^◌, ℕ, zero, suc, ◌+◌, max, arith}
use Rattle.std.specs.Prelude.{◌||◌, ◌&&◌}
use Rattle.adj_tree.specs.Code.{plus, minus, times, quot, modulo, greater, lesser, Term, lit, var, elem, neg, bin, pow, power_of, abs, Act, Code, assign, choose, loop, during, call, runtime, stop, step}
use Rattle.adj_tree.specs.Size.{term_depth}
use Rattle.def_names.specs.Numbers.{Vars}
use Rattle.def_sweep.specs.Marked.{count_of}
use Rattle.def_sweep.specs.Occurrences.{is_active_where}
use Rattle.def_sweep.specs.AdjointOf.{temps_in_where}
use Rattle.law_emitted.specs.Emitted.{act_deepest, deepest}
use Rattle.law_limits.proofs.HelperCounts.{works_if, grown, one_more, joined, raised, some, term_temps}
use Rattle.def_tangent.specs.TangentOf.{parts_in_where}
use Rattle.def_tangent.specs.Program.{parts_act, parts_used, temps_act, temps_used}

module _ (on : Vars) where
  -- a part is that of an operator
  term_parts : (e : Term) → parts_in_where on e + 2 ≤ 2 ^ term_depth e
  term_parts (lit z) = some 0
  term_parts (var x) = some 0
  term_parts (elem x subs) = some _
  term_parts (neg a) =
      let l = one_more (is_active_where on a) in
      let h = raised (term_depth a) (parts_in_where on a) (count_of (is_active_where on a)) (term_parts a) (omega arith) in
      omega arith
  term_parts (bin plus a b) =
      let l = one_more (is_active_where on a || is_active_where on b) in
      let h = joined (term_depth a) (term_depth b) (parts_in_where on a) (parts_in_where on b) (count_of (is_active_where on a || is_active_where on b)) (term_parts a) (term_parts b) (omega arith) in
      omega arith
  term_parts (bin minus a b) =
      let l = one_more (is_active_where on a || is_active_where on b) in
      let h = joined (term_depth a) (term_depth b) (parts_in_where on a) (parts_in_where on b) (count_of (is_active_where on a || is_active_where on b)) (term_parts a) (term_parts b) (omega arith) in
      omega arith
  term_parts (bin times a b) =
      let l = one_more (is_active_where on a || is_active_where on b) in
      let h = joined (term_depth a) (term_depth b) (parts_in_where on a) (parts_in_where on b) (count_of (is_active_where on a || is_active_where on b)) (term_parts a) (term_parts b) (omega arith) in
      omega arith
  term_parts (bin quot a b) = some _
  term_parts (bin modulo a b) = some _
  term_parts (bin greater a b) = some _
  term_parts (bin lesser a b) = some _
  term_parts (pow a zero) = some _
  term_parts (pow a (suc k)) =
      let l = one_more (is_active_where on a) in
      let h = raised (term_depth a) (parts_in_where on a) (count_of (is_active_where on a)) (term_parts a) (omega arith) in
      omega arith
  term_parts (power_of a b) =
      let l = one_more (is_active_where on a) in
      let h = raised (term_depth a) (parts_in_where on a) (count_of (is_active_where on a)) (term_parts a) (omega arith) in
      let g = grown (term_depth a + 1) (max (term_depth a) (term_depth b) + 1) (omega arith) in
      omega arith
  term_parts (abs a) = some _

module _ (on : Vars) (n : ℕ) where
  mutual
    act_parts : (a : Act) → act_deepest a ≤ n → parts_act on a ≤ 2 ^ n
    act_parts (assign x subs e) h = let l = term_parts on e in let g = grown (term_depth e) n (omega arith) in works_if (on x) (parts_in_where on e) (2 ^ n) (omega arith)
    act_parts (choose c a b) h = let l = list_parts a (omega arith) in let r = list_parts b (omega arith) in omega arith
    act_parts (loop x a b c body m) h = list_parts body (omega arith)
    act_parts (during c body) h = list_parts body (omega arith)
    act_parts (call name args) h = omega arith
    act_parts (runtime r) h = omega arith

    pub list_parts : (c : Code) → deepest c ≤ n → parts_used on c ≤ 2 ^ n
    list_parts stop h = omega arith
    list_parts (step line a rest) h = let l = act_parts a (omega arith) in let r = list_parts rest (omega arith) in omega arith

  mutual
    act_temps : (a : Act) → act_deepest a ≤ n → temps_act on a ≤ 2 ^ n
    act_temps (assign x subs e) h = let l = term_temps on e in let g = grown (term_depth e) n (omega arith) in works_if (on x && is_active_where on e) (temps_in_where on e) (2 ^ n) (omega arith)
    act_temps (choose c a b) h = let l = list_temps a (omega arith) in let r = list_temps b (omega arith) in omega arith
    act_temps (loop x a b c body m) h = list_temps body (omega arith)
    act_temps (during c body) h = list_temps body (omega arith)
    act_temps (call name args) h = omega arith
    act_temps (runtime r) h = omega arith

    pub list_temps : (c : Code) → deepest c ≤ n → temps_used on c ≤ 2 ^ n
    list_temps stop h = omega arith
    list_temps (step line a rest) h = let l = act_temps a (omega arith) in let r = list_temps rest (omega arith) in omega arith
