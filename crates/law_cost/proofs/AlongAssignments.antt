-- What both sweeps take of an assignment: they are straight code.
use Rattle.std.proofs.Common.{ℕ, zero, suc, ◌+◌, ◌*◌, Bool, true, false, List, arith}
use Rattle.std.specs.Prelude.{ℤ, pos, ◌&&◌}
use Rattle.adj_tree.specs.Code.{Var, plain, shadow, helper, work, plus, minus, times, quot, modulo, greater, lesser, Term, lit, var, elem, neg, bin, pow, power_of, abs, Terms, none, assign, runtime, push_word, pop_word, step, Procedure}
use Rattle.def_meaning.specs.Append.{◌+++◌, one}
use Rattle.def_meaning.specs.Store.{Shape, Store}
use Rattle.def_meaning.specs.Units.{calls_of}
use Rattle.def_names.specs.Numbers.{Vars}
use Rattle.def_sweep.specs.Marks.{active_at}
use Rattle.def_sweep.specs.Marked.{code_if, count_of, own_or, own_code, work_var, place}
use Rattle.def_kernel.specs.Weights.{weight}
use Rattle.def_sweep.specs.Plan.{Plan}
use Rattle.def_sweep.specs.Occurrences.{is_active_where}
use Rattle.def_sweep.specs.AdjointOf.{has_own_where, temps_in_where, shrunk_where, temps_where, back_where, times_power, adjoint_where}
use Rattle.def_sweep.specs.Emission.{forward_act, backward_act}
use Rattle.law_cost.specs.Sweeps.{act_sweeps}
use Rattle.law_cost.specs.Along.{BothCost}
use Rattle.law_cost.proofs.Counting.{act_few}
use Rattle.law_cost.proofs.Runs.{IsStraight, straight_append, straight_if}
use Rattle.law_cost.proofs.Along.{cost_straight, cost_more}

straight_own : (b : Bool) (line j : ℕ) (e : Term) → IsStraight (own_code b line j e)
straight_own true line j e = tt
straight_own false line j e = tt

module _ (on : Vars) where
  straight_temps : (e : Term) (j line : ℕ) → IsStraight (temps_where on e j line)
  straight_temps (lit z) j line = tt
  straight_temps (var x) j line = tt
  straight_temps (elem x subs) j line = tt
  straight_temps (neg a) j line = straight_temps a j line
  straight_temps (bin plus a b) j line = straight_append (temps_where on a j line) (temps_where on b (j + temps_in_where on a) line) (straight_temps a j line) (straight_temps b (j + temps_in_where on a) line)
  straight_temps (bin minus a b) j line = straight_append (temps_where on a j line) (temps_where on b (j + temps_in_where on a) line) (straight_temps a j line) (straight_temps b (j + temps_in_where on a) line)
  straight_temps (bin times a b) j line =
      let ja = j + temps_in_where on a in let i = ja + count_of (has_own_where on a b) in let jb = i + temps_in_where on b in
      let own1 = own_code (has_own_where on a b) line ja (shrunk_where on a j) in
      let own2 = own_code (has_own_where on b a) line jb (shrunk_where on b i) in
      straight_append (temps_where on a j line) (own1 +++ (temps_where on b i line +++ own2)) (straight_temps a j line)
      (straight_append own1 (temps_where on b i line +++ own2) (straight_own (has_own_where on a b) line ja (shrunk_where on a j))
      (straight_append (temps_where on b i line) own2 (straight_temps b i line) (straight_own (has_own_where on b a) line jb (shrunk_where on b i))))
  straight_temps (bin quot a b) j line = tt
  straight_temps (bin modulo a b) j line = tt
  straight_temps (bin greater a b) j line = tt
  straight_temps (bin lesser a b) j line = tt
  straight_temps (pow a zero) j line = tt
  straight_temps (pow a (suc zero)) j line = straight_temps a j line
  straight_temps (pow a (suc (suc k))) j line =
      let ja = j + temps_in_where on a in
      straight_append (temps_where on a j line) (own_code (has_own_where on a a) line ja (shrunk_where on a j)) (straight_temps a j line) (straight_own (has_own_where on a a) line ja (shrunk_where on a j))
  straight_temps (power_of a b) j line =
      let ja = j + temps_in_where on a in let jb = ja + count_of (has_own_where on a a) in
      let own1 = own_code (has_own_where on a a) line ja (shrunk_where on a j) in let own2 = own_code (has_own_where on b a) line jb b in
      straight_append (temps_where on a j line) (own1 +++ own2) (straight_temps a j line) (straight_append own1 own2 (straight_own (has_own_where on a a) line ja (shrunk_where on a j)) (straight_own (has_own_where on b a) line jb b))
  straight_temps (abs a) j line = tt

  straight_back : (e : Term) (k j line : ℕ) → IsStraight (back_where on e k j line)
  straight_back (lit z) k j line = tt
  straight_back (var (plain x)) k j line = tt
  straight_back (var (shadow x)) k j line = tt
  straight_back (var (helper r m)) k j line = tt
  straight_back (elem (plain x) subs) k j line = tt
  straight_back (elem (shadow x) subs) k j line = tt
  straight_back (elem (helper r m) subs) k j line = tt
  straight_back (neg a) k j line = straight_if (is_active_where on a) (step line (assign (helper work (suc k)) none (neg (work_var k))) (back_where on a (suc k) j line)) (straight_back a (suc k) j line)
  straight_back (bin plus a b) k j line =
      let i = j + temps_in_where on a in
      straight_append (code_if (is_active_where on a) (back_where on a k j line)) (code_if (is_active_where on b) (back_where on b k i line))
      (straight_if (is_active_where on a) (back_where on a k j line) (straight_back a k j line)) (straight_if (is_active_where on b) (back_where on b k i line) (straight_back b k i line))
  straight_back (bin minus a b) k j line =
      let i = j + temps_in_where on a in
      let back2 = step line (assign (helper work (suc k)) none (neg (work_var k))) (back_where on b (suc k) i line) in
      straight_append (code_if (is_active_where on a) (back_where on a k j line)) (code_if (is_active_where on b) back2)
      (straight_if (is_active_where on a) (back_where on a k j line) (straight_back a k j line)) (straight_if (is_active_where on b) back2 (straight_back b (suc k) i line))
  straight_back (bin times a b) k j line =
      let own_a = has_own_where on a b in let own_b = has_own_where on b a in
      let ja = j + temps_in_where on a in let i = ja + count_of own_a in let jb = i + temps_in_where on b in
      let back1 = step line (assign (helper work (suc k)) none (bin times (work_var k) (own_or own_b jb b))) (back_where on a (suc k) j line) in
      let back2 = step line (assign (helper work (suc k)) none (bin times (work_var k) (own_or own_a ja a))) (back_where on b (suc k) i line) in
      straight_append (code_if (is_active_where on a) back1) (code_if (is_active_where on b) back2)
      (straight_if (is_active_where on a) back1 (straight_back a (suc k) j line)) (straight_if (is_active_where on b) back2 (straight_back b (suc k) i line))
  straight_back (bin quot a b) k j line = tt
  straight_back (bin modulo a b) k j line = tt
  straight_back (bin greater a b) k j line = tt
  straight_back (bin lesser a b) k j line = tt
  straight_back (pow a zero) k j line = tt
  straight_back (pow a (suc zero)) k j line = straight_if (is_active_where on a) (back_where on a k j line) (straight_back a k j line)
  straight_back (pow a (suc (suc n))) k j line =
      let back1 = step line (assign (helper work (suc k)) none (bin times (bin times (work_var k) (lit (pos (suc (suc n))))) (pow (own_or (has_own_where on a a) (j + temps_in_where on a) a) (suc n)))) (back_where on a (suc k) j line) in
      straight_if (is_active_where on a) back1 (straight_back a (suc k) j line)
  straight_back (power_of a b) k j line =
      let own_a = has_own_where on a a in let own_b = has_own_where on b a in
      let ja = j + temps_in_where on a in let jb = ja + count_of own_a in
      let back1 = step line (assign (helper work (suc k)) none (times_power (work_var k) (own_or own_a ja a) (own_or own_b jb b))) (back_where on a (suc k) j line) in
      straight_if (is_active_where on a) back1 (straight_back a (suc k) j line)
  straight_back (abs a) k j line = tt

  straight_adjoint : (t : List ℕ) (subs : Terms) (e : Term) (line : ℕ) → IsStraight (adjoint_where on t subs e line)
  straight_adjoint t subs e line =
      let temps = temps_where on e 1 line in
      let start = one line (assign (helper work 1) none (place (shadow t) subs)) in
      let cut = one line (assign (shadow t) subs (lit (pos 0))) in
      let back = back_where on e 1 1 line in
      straight_append (code_if (is_active_where on e) (temps +++ start)) (cut +++ code_if (is_active_where on e) back)
      (straight_if (is_active_where on e) (temps +++ start) (straight_append temps start (straight_temps e 1 line) tt))
      (straight_append cut (code_if (is_active_where on e) back) tt (straight_if (is_active_where on e) back (straight_back e 1 1 line)))

module _ (p : Plan) (i d line : ℕ) (x : List ℕ) (subs : Terms) (e : Term) where
  straight_forth : IsStraight (forward_act p i d line (assign (plain x) subs e))
  straight_forth =
      let pushed = one line (runtime (push_word (plain x) subs)) in let again = one line (assign (plain x) subs e) in
      straight_if (p.marks.kept i) (code_if (p.marks.saved i (plain x)) pushed +++ again) (straight_append (code_if (p.marks.saved i (plain x)) pushed) again (straight_if (p.marks.saved i (plain x)) pushed (tt, tt)) tt)

  straight_backward : IsStraight (backward_act p i d line (assign (plain x) subs e))
  straight_backward =
      let popped = one line (runtime (pop_word (plain x) subs)) in let back = adjoint_where (active_at p.marks i) x subs e line in
      straight_append (code_if (p.marks.kept i && p.marks.saved i (plain x)) popped) (code_if (p.marks.adjointed i) back)
      (straight_if (p.marks.kept i && p.marks.saved i (plain x)) popped (tt, tt)) (straight_if (p.marks.adjointed i) back (straight_adjoint (active_at p.marks i) x subs e line))

  -- four to each unit of its weight
  pub cost_assign : (qs : List Procedure) (depth : ℕ) (sh : Var → Shape) (level : ℕ) (n h : Vars) (u : Store ℤ) → BothCost (calls_of qs depth) sh level (forward_act p i d line (assign (plain x) subs e)) (backward_act p i d line (assign (plain x) subs e)) n h u (4 * weight (assign (plain x) subs e))
  cost_assign qs depth sh level n h u =
      let forth = forward_act p i d line (assign (plain x) subs e) in let back = backward_act p i d line (assign (plain x) subs e) in
      let few = act_few p i d line (assign (plain x) subs e) in
      cost_more qs depth sh level forth back n n h h u (act_sweeps p i d line (assign (plain x) subs e)) (4 * weight (assign (plain x) subs e)) (λ v o. o) (λ v o. o) (omega (arith, few)) (cost_straight qs depth sh level forth back n h u straight_forth straight_backward)
