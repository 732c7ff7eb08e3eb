-- How many helpers the sweeps of a unit take.
use Rattle.std.proofs.Common.{◌≡◌, ◌≤◌, ◌^◌, ℕ, zero, suc, ◌+◌, ◌*◌, max, Bool, true, false, ap, ◌∙◌, arith, if◌then◌else◌, pow-suc, pow_mono}
use Rattle.std.specs.Prelude.{Option, Some, None}
use Rattle.adj_tree.specs.Code.{plus, minus, times, quot, modulo, greater, lesser, Term, lit, var, elem, neg, bin, pow, power_of, abs, Act, Code, assign, choose, loop, during, call, runtime, stop, step}
use Rattle.adj_tree.specs.Size.{term_depth, act_depth, code_depth}
use Rattle.def_names.specs.Numbers.{Vars, next, behind}
use Rattle.def_sweep.specs.Marks.{Marks, active_at}
use Rattle.def_sweep.specs.Marked.{count_of}
use Rattle.def_sweep.specs.AdjointOf.{has_own_where, works_in_where, temps_in_where}
use Rattle.def_sweep.specs.Plan.{Plan, found_or, Schedules, Step, reversed_by}
use Rattle.def_sweep.specs.Rows.{is_empty}
use Rattle.def_sweep.specs.Emission.{backward_with}
use Rattle.def_sweep.specs.Program.{works_act, works_used, temps_act, temps_used, depth_act_with, depth_used_with}
use Rattle.law_emitted.specs.Emitted.{act_deepest, deepest}

-- ---- loops

depth_if : (b : Bool) (d k m : ℕ) → suc d ≤ m → k ≤ m → (if b then 0 else max (suc d) k) ≤ m
depth_if true d k m h g = omega arith
depth_if false d k m h g = omega arith

depth_choice : (o : Option Step) (b : Bool) (d k m : ℕ) → suc d ≤ m → k ≤ m → found_or o (if b then 0 else max (suc d) k) (λ s. suc d) ≤ m
depth_choice None b d k m h g = depth_if b d k m h g
depth_choice (Some s) b d k m h g = h

module _ (sc : Schedules) (p : Plan) where
  mutual
    act_loops : (i d : ℕ) (a : Act) → depth_act_with sc p i d a ≤ d + act_depth a
    act_loops i d (assign x subs e) = omega arith
    act_loops i d (choose c a b) = let l = list_loops (suc i) d a in let r = list_loops (behind (suc i) a) d b in omega arith
    act_loops i d (loop x a b c body n) =
        let l = list_loops (suc i) (suc d) body in
        depth_choice (reversed_by sc p.marks.adjointed i body n) (is_empty (backward_with sc p (suc i) (suc d) body)) d (depth_used_with sc p (suc i) (suc d) body) (d + (code_depth body + 1)) (omega arith) (omega arith)
    act_loops i d (during c body) = let l = list_loops (suc i) (suc d) body in depth_if (is_empty (backward_with sc p (suc i) (suc d) body)) d (depth_used_with sc p (suc i) (suc d) body) (d + (code_depth body + 1)) (omega arith) (omega arith)
    act_loops i d (call name args) = omega arith
    act_loops i d (runtime r) = omega arith

    pub list_loops : (i d : ℕ) (c : Code) → depth_used_with sc p i d c ≤ d + code_depth c
    list_loops i d stop = omega arith
    list_loops i d (step line a rest) = let l = act_loops i d a in let r = list_loops (next i a) d rest in omega arith

-- ---- work variables

pub works_if : (b : Bool) (k m : ℕ) → k ≤ m → (if b then k else 0) ≤ m
works_if true k m h = h
works_if false k m h = omega arith

term_works : (on : Vars) (e : Term) (k : ℕ) → works_in_where on e k ≤ k + term_depth e
term_works on (lit z) k = omega arith
term_works on (var x) k = works_if (on x) k (k + 1) (omega arith)
term_works on (elem x subs) k = works_if (on x) k (k + term_depth (elem x subs)) (omega arith)
term_works on (neg a) k = let l = term_works on a (suc k) in omega arith
term_works on (bin plus a b) k = let l = term_works on a k in let r = term_works on b k in omega arith
term_works on (bin minus a b) k = let l = term_works on a k in let r = term_works on b (suc k) in omega arith
term_works on (bin times a b) k = let l = term_works on a (suc k) in let r = term_works on b (suc k) in omega arith
term_works on (bin quot a b) k = omega arith
term_works on (bin modulo a b) k = omega arith
term_works on (bin greater a b) k = omega arith
term_works on (bin lesser a b) k = omega arith
term_works on (pow a zero) k = omega arith
term_works on (pow a (suc zero)) k = let l = term_works on a k in omega arith
term_works on (pow a (suc (suc n))) k = let l = term_works on a (suc k) in omega arith
term_works on (power_of a b) k = let l = term_works on a (suc k) in omega arith
term_works on (abs a) k = omega arith

module _ (m : Marks) (n : ℕ) where
  mutual
    act_works : (i : ℕ) (a : Act) → act_deepest a ≤ n → works_act m i a ≤ 1 + n
    act_works i (assign x subs e) h = let l = term_works (active_at m i) e 1 in works_if (m.adjointed i) (works_in_where (active_at m i) e 1) (1 + n) (omega arith)
    act_works i (choose c a b) h = let l = list_works (suc i) a (omega arith) in let r = list_works (behind (suc i) a) b (omega arith) in omega arith
    act_works i (loop x a b c body k) h = list_works (suc i) body (omega arith)
    act_works i (during c body) h = list_works (suc i) body (omega arith)
    act_works i (call name args) h = omega arith
    act_works i (runtime r) h = omega arith

    pub list_works : (i : ℕ) (c : Code) → deepest c ≤ n → works_used m i c ≤ 1 + n
    list_works i stop h = omega arith
    list_works i (step line a rest) h = let l = act_works i a (omega arith) in let r = list_works (next i a) rest (omega arith) in omega arith

-- ---- temporaries

doubled : (k : ℕ) → 2 ^ (k + 1) ≡ 2 ^ k * 2
doubled k = let e : k + 1 ≡ suc k = omega arith in ap (λ j. 2 ^ j) e ∙ pow-suc 2 k

pub grown : (j k : ℕ) → j ≤ k → 2 ^ j ≤ 2 ^ k
grown j k h = pow_mono h

pub one_more : (b : Bool) → count_of b ≤ 1
one_more true = omega arith
one_more false = omega arith

-- what an operator adds to those of its operands
pub joined : (a b s t extra : ℕ) → s + 2 ≤ 2 ^ a → t + 2 ≤ 2 ^ b → extra ≤ 2 → s + t + extra + 2 ≤ 2 ^ (max a b + 1)
joined a b s t extra h g e = let p = grown a (max a b) (omega arith) in let q = grown b (max a b) (omega arith) in let r = doubled (max a b) in omega arith

pub raised : (a s extra : ℕ) → s + 2 ≤ 2 ^ a → extra ≤ 2 → s + extra + 2 ≤ 2 ^ (a + 1)
raised a s extra h e = let r = doubled a in omega arith

pub some : (k : ℕ) → 0 + 2 ≤ 2 ^ (k + 1)
some k = let p = grown 1 (k + 1) (omega arith) in omega arith

module _ (on : Vars) where
  pub term_temps : (e : Term) → temps_in_where on e + 2 ≤ 2 ^ term_depth e
  term_temps (lit z) = some 0
  term_temps (var x) = some 0
  term_temps (elem x subs) = some _
  term_temps (neg a) = let h = raised (term_depth a) (temps_in_where on a) 0 (term_temps a) (omega arith) in omega arith
  term_temps (bin plus a b) = let h = joined (term_depth a) (term_depth b) (temps_in_where on a) (temps_in_where on b) 0 (term_temps a) (term_temps b) (omega arith) in omega arith
  term_temps (bin minus a b) = let h = joined (term_depth a) (term_depth b) (temps_in_where on a) (temps_in_where on b) 0 (term_temps a) (term_temps b) (omega arith) in omega arith
  term_temps (bin times a b) =
      let l = one_more (has_own_where on a b) in
      let r = one_more (has_own_where on b a) in
      let h = joined (term_depth a) (term_depth b) (temps_in_where on a) (temps_in_where on b) (count_of (has_own_where on a b) + count_of (has_own_where on b a)) (term_temps a) (term_temps b) (omega arith) in
      omega arith
  term_temps (bin quot a b) = some _
  term_temps (bin modulo a b) = some _
  term_temps (bin greater a b) = some _
  term_temps (bin lesser a b) = some _
  term_temps (pow a zero) = some _
  term_temps (pow a (suc zero)) = let h = raised (term_depth a) (temps_in_where on a) 0 (term_temps a) (omega arith) in omega arith
  term_temps (pow a (suc (suc k))) = let l = one_more (has_own_where on a a) in let h = raised (term_depth a) (temps_in_where on a) (count_of (has_own_where on a a)) (term_temps a) (omega arith) in omega arith
  term_temps (power_of a b) =
      let l = one_more (has_own_where on a a) in
      let r = one_more (has_own_where on b a) in
      let h = raised (term_depth a) (temps_in_where on a) (count_of (has_own_where on a a) + count_of (has_own_where on b a)) (term_temps a) (omega arith) in
      let g = grown (term_depth a + 1) (max (term_depth a) (term_depth b) + 1) (omega arith) in
      omega arith
  term_temps (abs a) = some _

module _ (m : Marks) (n : ℕ) where
  mutual
    act_temps : (i : ℕ) (a : Act) → act_deepest a ≤ n → temps_act m i a ≤ 2 ^ n
    act_temps i (assign x subs e) h = let l = term_temps (active_at m i) e in let g = grown (term_depth e) n (omega arith) in works_if (m.adjointed i) (temps_in_where (active_at m i) e) (2 ^ n) (omega arith)
    act_temps i (choose c a b) h = let l = list_temps (suc i) a (omega arith) in let r = list_temps (behind (suc i) a) b (omega arith) in omega arith
    act_temps i (loop x a b c body k) h = list_temps (suc i) body (omega arith)
    act_temps i (during c body) h = list_temps (suc i) body (omega arith)
    act_temps i (call name args) h = omega arith
    act_temps i (runtime r) h = omega arith

    pub list_temps : (i : ℕ) (c : Code) → deepest c ≤ n → temps_used m i c ≤ 2 ^ n
    list_temps i stop h = omega arith
    list_temps i (step line a rest) h = let l = act_temps i a (omega arith) in let r = list_temps (next i a) rest (omega arith) in omega arith
