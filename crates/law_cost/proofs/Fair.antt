-- What a reversed loop takes is at most the rate times its price.
use Rattle.std.proofs.Common.{◌≡◌, ◌≤◌, ◌<◌, ℕ, zero, suc, ◌+◌, ◌*◌, List, [], ◌∷◌, length, refl, ap, ◌∙◌, arith}
use Rattle.adj_tree.specs.Size.{terms_nodes}
use Rattle.def_sweep.specs.Plan.{actuals_named}
use Rattle.law_cost.specs.Sums.{sum_of}
use Rattle.law_cost.specs.Rows.{row_takes}
use Rattle.law_cost.proofs.Sums.{times_sum, times_more}

-- names as actuals have a node each
pub named_nodes : (given : List (List ℕ)) → terms_nodes (actuals_named given) ≡ length given
named_nodes [] = refl
named_nodes (a ∷ given) = let r = named_nodes given in omega (arith, r)

-- z: what the step call costs besides itself; each step has its price P and its adjoint takes A
module _ (rate reps g z : ℕ) (P A : ℕ → ℕ) (high : 17 + 2 * reps ≤ rate) (many : g ≤ z) where
  abbrev pub turn_price : ℕ → ℕ
  turn_price i = z + 1 + P i + 0 + 1

  -- a step
  one_fair : (p a : ℕ) → a + suc reps * p ≤ rate * p → 30 + 2 * g + suc reps * (p + 3) + (a + 1) ≤ rate * (z + 1 + p + 0 + 1)
  one_fair p a h =
      let e1 : suc reps * (p + 3) ≡ suc reps * p + suc reps * 3 = times_sum (suc reps) p 3 in
      let e2 : suc reps * 3 ≡ 3 + 3 * reps = omega arith in
      let e3 : rate * ((z + 2) + p) ≡ rate * (z + 2) + rate * p = times_sum rate (z + 2) p in
      let e4 : rate * (z + 2) ≡ rate * z + rate * 2 = times_sum rate z 2 in
      let e5 : rate * 2 ≡ 2 * rate = omega arith in
      let l1 : 2 * z ≤ rate * z = times_more 2 rate z (omega (arith, high)) in
      let same : z + 1 + p + 0 + 1 ≡ (z + 2) + p = omega arith in
      let e6 = ap (λ v. rate * v) same in
      sums (suc reps * (p + 3)) (suc reps * p) (rate * (z + 1 + p + 0 + 1)) (rate * ((z + 2) + p)) (rate * (z + 2)) (rate * p) (rate * z) (e1 ∙ ap (λ v. suc reps * p + v) e2) e6 e3 (e4 ∙ ap (λ v. rate * z + v) e5) l1 h
    where
      sums : (rp3 rp whole two rz2 ratep ratez : ℕ) → rp3 ≡ rp + (3 + 3 * reps) → whole ≡ two → two ≡ rz2 + ratep → rz2 ≡ ratez + 2 * rate → 2 * z ≤ ratez → a + rp ≤ ratep → 30 + 2 * g + rp3 + (a + 1) ≤ whole
      sums rp3 rp whole two rz2 ratep ratez e1 e2 e3 e4 l1 h = omega (arith, e1, e2, e3, e4, l1, h, high, many)

  -- n steps from j on
  steps_fair : (n j l : ℕ) → j + n ≤ l → ((i : ℕ) → i < l → A i + suc reps * P i ≤ rate * P i) → (30 + 2 * g) * n + suc reps * sum_of (λ i. P i + 3) j n + sum_of (λ i. A i + 1) j n ≤ rate * sum_of turn_price j n
  steps_fair zero j l fits h = let e : (30 + 2 * g) * 0 ≡ 0 = omega arith in let f : suc reps * 0 ≡ 0 = omega arith in omega (arith, e, f)
  steps_fair (suc n) j l fits h =
      let r = steps_fair n (suc j) l (omega (arith, fits)) h in
      let o = one_fair (P j) (A j) (h j (omega (arith, fits))) in
      let e1 : (30 + 2 * g) * suc n ≡ (30 + 2 * g) + (30 + 2 * g) * n = omega arith in
      let e2 = times_sum (suc reps) (P j + 3) (sum_of (λ i. P i + 3) (suc j) n) in
      let e3 = times_sum rate (turn_price j) (sum_of turn_price (suc j) n) in
      sums ((30 + 2 * g) * suc n) ((30 + 2 * g) * n) (suc reps * (P j + 3 + sum_of (λ i. P i + 3) (suc j) n)) (suc reps * (P j + 3)) (suc reps * sum_of (λ i. P i + 3) (suc j) n) (sum_of (λ i. A i + 1) (suc j) n) (rate * (turn_price j + sum_of turn_price (suc j) n)) (rate * turn_price j) (rate * sum_of turn_price (suc j) n) (A j) e1 e2 e3 o r
    where
      sums : (kn1 kn pr p1 p2 sa whole w1 w2 a : ℕ) → kn1 ≡ (30 + 2 * g) + kn → pr ≡ p1 + p2 → whole ≡ w1 + w2 → 30 + 2 * g + p1 + (a + 1) ≤ w1 → kn + p2 + sa ≤ w2 → kn1 + pr + (a + 1 + sa) ≤ whole
      sums kn1 kn pr p1 p2 sa whole w1 w2 a e1 e2 e3 o r = omega (arith, e1, e2, e3, o, r)

  -- the loop, where it costs x besides its turns
  pub loop_fair : (l x : ℕ) → 4 + g ≤ x → ((i : ℕ) → i < l → A i + suc reps * P i ≤ rate * P i) → 3 + row_takes g P A l reps ≤ rate * (x + sum_of turn_price 0 l)
  loop_fair l x big h =
      let s = steps_fair l 0 l (omega arith) h in
      let e = times_sum rate x (sum_of turn_price 0 l) in
      let l1 : rate * (4 + g) ≤ rate * x = more (4 + g) x big in
      let e1 : rate * (4 + g) ≡ rate * 4 + rate * g = times_sum rate 4 g in
      let e2 : rate * 4 ≡ 4 * rate = omega arith in
      let l2 : 4 * g ≤ rate * g = times_more 4 rate g (omega (arith, high)) in
      sums ((30 + 2 * g) * l) (suc reps * sum_of (λ i. P i + 3) 0 l) (sum_of (λ i. A i + 1) 0 l) (rate * (x + sum_of turn_price 0 l)) (rate * x) (rate * sum_of turn_price 0 l) (rate * (4 + g)) (rate * g) s e l1 (e1 ∙ ap (λ v. v + rate * g) e2) l2
    where
      more : (a b : ℕ) → a ≤ b → rate * a ≤ rate * b
      more a b h = let l = times_more a b rate h in let e : a * rate ≡ rate * a = omega arith in let f : b * rate ≡ rate * b = omega arith in omega (arith, l, e, f)

      sums : (k p a whole rx rs r4g rg : ℕ) → k + p + a ≤ rs → whole ≡ rx + rs → r4g ≤ rx → r4g ≡ 4 * rate + rg → 4 * g ≤ rg → 3 + (17 + 4 * g + k + p + a) ≤ whole
      sums k p a whole rx rs r4g rg s e l1 e1 l2 = omega (arith, s, e, l1, e1, l2, high)
