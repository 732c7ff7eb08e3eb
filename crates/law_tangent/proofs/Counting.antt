-- How many statements stand before an assignment.
use Rattle.std.proofs.Common.{◌≤◌, ℕ, zero, suc, ◌+◌, ◌*◌, Bool, true, false, List, arith, if◌then◌else◌}
use Rattle.std.specs.Prelude.{pos}
use Rattle.adj_tree.specs.Code.{plain, shadow, helper, plus, minus, times, quot, modulo, greater, lesser, Term, lit, var, elem, neg, bin, pow, power_of, abs, Terms, none, Act, assign, choose, loop, during, call, runtime, Code, stop, step}
use Rattle.adj_tree.specs.Size.{term_nodes, terms_nodes}
use Rattle.def_meaning.specs.Append.{◌+++◌, one}
use Rattle.def_names.specs.Numbers.{Vars}
use Rattle.def_sweep.specs.Marked.{code_if, count_of, own_code}
use Rattle.def_sweep.specs.Occurrences.{is_active_where}
use Rattle.def_sweep.specs.AdjointOf.{has_own_where, temps_in_where, shrunk_where, temps_where}
use Rattle.def_tangent.specs.TangentOf.{tangent_term, own_part, parts_where, before_assignment}
use Rattle.def_tangent.specs.Forward.{Plan}
use Rattle.law_tangent.specs.Counts.{size, IsFew, AreFew}
use Rattle.law_tangent.specs.Sizes.{IsLight, AreLight, TwiceTheWeight}
use Rattle.law_tangent.proofs.Straight.{size-append}

-- a temporary takes at most one statement, and so does a part's helper
own_size : (b : Bool) (line j : ℕ) (e : Term) → size (own_code b line j e) ≤ 1
own_size true line j e = omega arith
own_size false line j e = omega arith

part_size : (b : Bool) (line j : ℕ) (e : Term) → size (own_part b line j e) ≤ 1
part_size true line j e = omega arith
part_size false line j e = omega arith

-- a term has a node
some_nodes : (e : Term) → 1 ≤ term_nodes e
some_nodes (lit z) = omega arith
some_nodes (var x) = omega arith
some_nodes (elem x subs) = omega arith
some_nodes (neg a) = omega arith
some_nodes (bin op a b) = omega arith
some_nodes (pow a k) = omega arith
some_nodes (power_of a b) = omega arith
some_nodes (abs a) = omega arith

-- two lists together have no more statements than their bounds together
two : (c d : Code) (m n : ℕ) → size c ≤ m → size d ≤ n → size (c +++ d) ≤ m + n
two c d m n a b = let e = size-append c d in omega (arith, e, a, b)

module _ (on : Vars) (line : ℕ) where
  temps_size : (e : Term) (j : ℕ) → size (temps_where on e j line) + 1 ≤ term_nodes e
  temps_size (lit z) j = omega arith
  temps_size (var x) j = omega arith
  temps_size (elem x subs) j = omega arith
  temps_size (neg a) j = let h = temps_size a j in omega (arith, h)
  temps_size (bin plus a b) j =
      let ha = temps_size a j in
      let hb = temps_size b (j + temps_in_where on a) in
      let s = size-append (temps_where on a j line) (temps_where on b (j + temps_in_where on a) line) in
      omega (arith, ha, hb, s)
  temps_size (bin minus a b) j =
      let ha = temps_size a j in
      let hb = temps_size b (j + temps_in_where on a) in
      let s = size-append (temps_where on a j line) (temps_where on b (j + temps_in_where on a) line) in
      omega (arith, ha, hb, s)
  temps_size (bin times a b) j =
      let ja = j + temps_in_where on a in
      let l = ja + count_of (has_own_where on a b) in
      let A = temps_where on a j line in
      let B = temps_where on b l line in
      let ownA = own_code (has_own_where on a b) line ja (shrunk_where on a j) in
      let ownB = own_code (has_own_where on b a) line (l + temps_in_where on b) (shrunk_where on b l) in
      let ha = temps_size a j in
      let hb = temps_size b l in
      let oa = own_size (has_own_where on a b) line ja (shrunk_where on a j) in
      let ob = own_size (has_own_where on b a) line (l + temps_in_where on b) (shrunk_where on b l) in
      let s1 = size-append A (ownA +++ (B +++ ownB)) in
      let s2 = size-append ownA (B +++ ownB) in
      let s3 = size-append B ownB in
      omega (arith, ha, hb, oa, ob, s1, s2, s3)
  temps_size (bin quot a b) j = omega arith
  temps_size (bin modulo a b) j = omega arith
  temps_size (bin greater a b) j = omega arith
  temps_size (bin lesser a b) j = omega arith
  temps_size (pow a zero) j = omega arith
  temps_size (pow a (suc zero)) j = let h = temps_size a j in omega (arith, h)
  temps_size (pow a (suc (suc k))) j =
      let own = own_code (has_own_where on a a) line (j + temps_in_where on a) (shrunk_where on a j) in
      let ha = temps_size a j in
      let oa = own_size (has_own_where on a a) line (j + temps_in_where on a) (shrunk_where on a j) in
      let s = size-append (temps_where on a j line) own in
      omega (arith, ha, oa, s)
  temps_size (power_of a b) j =
      let l = j + temps_in_where on a + count_of (has_own_where on a a) in
      let own = own_code (has_own_where on a a) line (j + temps_in_where on a) (shrunk_where on a j) in
      let other = own_code (has_own_where on b a) line l b in
      let ha = temps_size a j in
      let hb = some_nodes b in
      let oa = own_size (has_own_where on a a) line (j + temps_in_where on a) (shrunk_where on a j) in
      let ob = own_size (has_own_where on b a) line l b in
      let s1 = size-append (temps_where on a j line) (own +++ other) in
      let s2 = size-append own other in
      omega (arith, ha, hb, oa, ob, s1, s2)
  temps_size (abs a) j = omega arith

  -- a part of one operand, and a part of two
  one_part : (c : Code) (b : Bool) (m n : ℕ) (e : Term) → size c ≤ n → size (c +++ own_part b line m e) ≤ n + 1
  one_part c b m n e h = two c (own_part b line m e) n 1 h (part_size b line m e)

  two_parts : (c d : Code) (b : Bool) (m n l : ℕ) (e : Term) → size c ≤ n → size d ≤ l → size (c +++ (d +++ own_part b line m e)) ≤ n + l + 1
  two_parts c d b m n l e h g = let t = two c (d +++ own_part b line m e) n (l + 1) h (one_part d b m l e g) in omega (arith, t)

  parts_size : (e : Term) (k j : ℕ) → size (parts_where on e k j line) ≤ term_nodes e
  parts_size (lit z) k j = omega arith
  parts_size (var x) k j = omega arith
  parts_size (elem x subs) k j = omega arith
  parts_size (neg a) k j = one_part (parts_where on a k j line) _ _ (term_nodes a) _ (parts_size a k j)
  parts_size (bin plus a b) k j = two_parts (parts_where on a k j line) _ _ _ (term_nodes a) (term_nodes b) _ (parts_size a k j) (parts_size b _ _)
  parts_size (bin minus a b) k j = two_parts (parts_where on a k j line) _ _ _ (term_nodes a) (term_nodes b) _ (parts_size a k j) (parts_size b _ _)
  parts_size (bin times a b) k j = two_parts (parts_where on a k j line) _ _ _ (term_nodes a) (term_nodes b) _ (parts_size a k j) (parts_size b _ _)
  parts_size (bin quot a b) k j = omega arith
  parts_size (bin modulo a b) k j = omega arith
  parts_size (bin greater a b) k j = omega arith
  parts_size (bin lesser a b) k j = omega arith
  parts_size (pow a zero) k j = omega arith
  parts_size (pow a (suc zero)) k j = one_part (parts_where on a k j line) _ _ (term_nodes a) _ (parts_size a k j)
  parts_size (pow a (suc (suc n))) k j = one_part (parts_where on a k j line) _ _ (term_nodes a) _ (parts_size a k j)
  parts_size (power_of a b) k j =
      let h : size (parts_where on (power_of a b) k j line) ≤ term_nodes a + 1 = one_part (parts_where on a k j line) _ _ (term_nodes a) _ (parts_size a k j) in omega (arith, h)
  parts_size (abs a) k j = omega arith

  before_size : (x : List ℕ) (subs : Terms) (e : Term) → size (before_assignment on x subs e line) + 1 ≤ 2 * (terms_nodes subs + term_nodes e + 1)
  before_size x subs e = go (is_active_where on e)
    where
      go : (b : Bool) → size (code_if b (temps_where on e 1 line +++ parts_where on e 1 1 line) +++ one line (assign (shadow x) subs (if b then tangent_term on e 1 else lit (pos 0)))) + 1 ≤ 2 * (terms_nodes subs + term_nodes e + 1)
      go true =
          let t = temps_size e 1 in
          let q = parts_size e 1 1 in
          let s1 = size-append (temps_where on e 1 line +++ parts_where on e 1 1 line) (one line (assign (shadow x) subs (tangent_term on e 1))) in
          let s2 = size-append (temps_where on e 1 line) (parts_where on e 1 1 line) in
          omega (arith, t, q, s1, s2)
      go false = let h = some_nodes e in omega (arith, h)

module _ (m : ℕ) (p : Plan) where
  mutual
    few_act : (line : ℕ) (a : Act) → IsLight m a → IsFew (2 * m) p line a
    few_act line (assign (plain x) subs e) h = go (p.carried (plain x))
      where
        go : (b : Bool) → size (code_if b (before_assignment p.carried x subs e line)) + 1 ≤ 2 * m
        go true = let t = before_size p.carried line x subs e in omega (arith, t, h)
        go false = omega (arith, h)
    few_act line (assign (shadow x) subs e) h = omega (arith, h)
    few_act line (assign (helper r k) subs e) h = omega (arith, h)
    few_act line (choose c a b) h = (few_list a h.0, few_list b h.1)
    few_act line (loop (plain x) a b c body n) h = (go (p.carried (plain x)), few_list body h.1)
      where
        go : (t : Bool) → size (code_if t (one line (assign (shadow x) none (lit (pos 0))))) + 1 ≤ 2 * m
        go true = let l = h.0 in omega (arith, l)
        go false = let l = h.0 in omega (arith, l)
    few_act line (loop (shadow x) a b c body n) h = let l = h.0 in (omega (arith, l), few_list body h.1)
    few_act line (loop (helper r k) a b c body n) h = let l = h.0 in (omega (arith, l), few_list body h.1)
    few_act line (during c body) h = few_list body h
    few_act line (call name args) h = tt
    few_act line (runtime r) h = tt

    few_list : (c : Code) → AreLight m c → AreFew (2 * m) p c
    few_list stop h = tt
    few_list (step line a rest) h = (few_act line a h.0, few_list rest h.1)

-- the law
pub twice_the_weight : TwiceTheWeight
twice_the_weight m p c h = few_list m p c h
