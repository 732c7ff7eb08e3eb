-- Facts and their numbers: each fact that is known has one, and no two share one.
use Rattle.std.proofs.Common.{◌≡◌, ℕ, ◌+◌, ◌*◌, ◌/◌, ◌%◌, ◌<◌, ◌≤◌, List, [], ◌∷◌, length, refl, sym, ap, ◌∙◌, subst, arith}
use Rattle.std.specs.Prelude.{Contains, Some}
use Rattle.std.proofs.lemmas.Nat.{div-mul-add, mod-mul-add}
use Rattle.adj_tree.specs.Code.{Var, plain}
use Rattle.def_flow.specs.Parts.{Part}
use Rattle.def_flow.specs.Problem.{Problem, TakesPart}
use Rattle.def_flow.specs.Flow.{Node}
use Rattle.def_flow.specs.Activity.{IsPoint}
use Rattle.def_flow.specs.Live.{Fact, needed, kept, wanted}
use Rattle.def_flow.specs.Rules.{Scope, list_of}
use Rattle.def_flow.proofs.Points.{one_point}
use Rattle.adj_flow.specs.Nodes.{node_in, place_in, IsWide, IsNumbered, HasNode, HasVariable, linked}
use Rattle.adj_flow.proofs.Images.{Images, images_one}
use Rattle.adj_flow.proofs.Places.{place_range, number_is, one_number, own_number, here_has, has_here}
use Rattle.adj_flow.proofs.Telling.{one_unit}
use Rattle.adj_live.specs.Numbers.{kept_at, wanted_number, fact_at}

-- a number tells its row and its place there
split : (n p q j i : ℕ) → p * n + j ≡ q * n + i → j < n → i < n → (p ≡ q) × (j ≡ i)
split n p q j i e l k = (
  sym (div-mul-add p n j l) ∙ ap (λ m. m / n) e ∙ div-mul-add q n i k,
  sym (mod-mul-add p n j l) ∙ ap (λ m. m % n) e ∙ mod-mul-add q n i k,
)

-- a fact has this number
module _ (k : Problem) (o : Scope) (w : ℕ) where
  abbrev pub HasFact : Fact → ℕ → Type 0
  HasFact (needed p v) m = HasNode k o (w + 2) (p, v) m
  HasFact (kept i) m = kept_at w i ≡ m
  HasFact (wanted u d) m = (n : ℕ) × HasVariable k o w (u, plain d) n × (n * (w + 2) + (w + 1) ≡ m)

  -- a step has this edge
  abbrev pub HasStep : Fact × Fact → ℕ × ℕ → Type 0
  HasStep e f = HasFact e.0 f.0 × HasFact e.1 f.1

  -- a fact about a unit: one of its variables at one of its points, or one of its dummies
  abbrev pub IsOf : Part → Fact → Type 0
  IsOf g (needed p v) = IsPoint g p × Contains (o.variables g) v
  IsOf g (kept i) = Unit {0}
  IsOf g (wanted u d) = (g.number ≡ u) × Contains (o.variables g) (plain d)

  -- and of some unit that takes part
  abbrev pub IsKnown : Fact → Type 0
  IsKnown (needed p v) = (g : Part) × TakesPart k g × IsPoint g p × Contains (o.variables g) v
  IsKnown (kept i) = Unit {0}
  IsKnown (wanted u d) = (g : Part) × TakesPart k g × (g.number ≡ u) × Contains (o.variables g) (plain d)

module _ (k : Problem) (o : Scope) (w : ℕ) (wide : IsWide k o w) where
  wider : IsWide k o (w + 2)
  wider g t = let l : length (o.variables g) ≤ w = wide g t in omega arith

  -- ---- one number

  pub one_fact : (x : Fact) (m n : ℕ) → HasFact k o w x m → HasFact k o w x n → m ≡ n
  one_fact (needed p v) m n h q = one_number k o (w + 2) wider IsPoint (one_point k) (p, v) m n h q
  one_fact (kept i) m n h q = sym h ∙ q
  one_fact (wanted u d) m n h q = sym h.2 ∙ ap (λ z. z * (w + 2) + (w + 1)) (one_number k o w wide IsNumbered (one_unit k) (u, plain d) h.0 q.0 h.1 q.1) ∙ q.2

  -- ---- of its own

  -- a variable has a place below the width
  needed_number : (p : ℕ) (v : Var) (m : ℕ) → HasNode k o (w + 2) (p, v) m → (j : ℕ) × (j < w) × (m ≡ p * (w + 2) + j)
  needed_number p v m h =
      let a = number_is (w + 2) p (place_in 0 (o.variables h.unit) v) m h.number in
      let l : length (o.variables h.unit) ≤ w = wide h.unit h.takes in
      (a.0, omega (arith, (place_range 0 (o.variables h.unit) v a.0 a.1).1), a.2)

  not_kept : (p : ℕ) (v : Var) (i m : ℕ) → HasNode k o (w + 2) (p, v) m → kept_at w i ≡ m → ⊥
  not_kept p v i m h e =
      let j = needed_number p v m h in
      let s = split (w + 2) p i j.0 w (sym j.2 ∙ sym e) (omega (arith, j.1)) (omega arith) in
      omega (arith, j.1, s.1)

  not_wanted : (p : ℕ) (v : Var) (n m : ℕ) → HasNode k o (w + 2) (p, v) m → n * (w + 2) + (w + 1) ≡ m → ⊥
  not_wanted p v n m h e =
      let j = needed_number p v m h in
      let s = split (w + 2) p n j.0 (w + 1) (sym j.2 ∙ sym e) (omega (arith, j.1)) (omega arith) in
      omega (arith, j.1, s.1)

  kept_or_wanted : (i n m : ℕ) → kept_at w i ≡ m → n * (w + 2) + (w + 1) ≡ m → ⊥
  kept_or_wanted i n m h e = let s = split (w + 2) i n w (w + 1) (h ∙ sym e) (omega arith) (omega arith) in omega (arith, s.1)

  dummy_same : (d e : List ℕ) → plain d ≡ plain e → d ≡ e
  dummy_same d e h = cc

  pub own_fact : (x z : Fact) (m : ℕ) → HasFact k o w x m → HasFact k o w z m → x ≡ z
  own_fact (needed p v) (needed q u) m h r = ap (λ (n : Node). needed n.0 n.1) (own_number k o (w + 2) wider IsPoint (one_point k) (p, v) (q, u) m h r)
  own_fact (needed p v) (kept i) m h r = absurd (not_kept p v i m h r)
  own_fact (needed p v) (wanted u d) m h r = absurd (not_wanted p v r.0 m h r.2)
  own_fact (kept i) (needed p v) m h r = absurd (not_kept p v i m r h)
  own_fact (kept i) (kept j) m h r = ap (λ n. kept n) (split (w + 2) i j w w (h ∙ sym r) (omega arith) (omega arith)).0
  own_fact (kept i) (wanted u d) m h r = absurd (kept_or_wanted i r.0 m h r.2)
  own_fact (wanted u d) (needed p v) m h r = absurd (not_wanted p v h.0 m r h.2)
  own_fact (wanted u d) (kept i) m h r = absurd (kept_or_wanted i h.0 m r h.2)
  own_fact (wanted u d) (wanted t e) m h r =
      let s = split (w + 2) h.0 r.0 (w + 1) (w + 1) (h.2 ∙ sym r.2) (omega arith) (omega arith) in
      let n : Node = (u, plain d) in
      let q : n ≡ (t, plain e) = own_number k o w wide IsNumbered (one_unit k) (u, plain d) (t, plain e) r.0 (subst (λ z. HasVariable k o w (u, plain d) z) s.0 h.1) r.1 in
      let a : u ≡ t = ap (λ (z : Node). z.0) q in
      let b : d ≡ e = dummy_same d e (ap (λ (z : Node). z.1) q) in
      λ i. wanted (a i) (b i)

  -- ---- what is known has a number

  pub known_has : (x : Fact) → IsKnown k o w x → (m : ℕ) × HasFact k o w x m
  known_has (needed p v) h = here_has k o (w + 2) wider IsPoint (one_point k) (p, v) h
  known_has (kept i) h = (kept_at w i, refl)
  known_has (wanted u d) h = let q = here_has k o w wide IsNumbered (one_unit k) (u, plain d) h in (q.0 * (w + 2) + (w + 1), (q.0, q.1, refl))

  pub has_known : (x : Fact) (m : ℕ) → HasFact k o w x m → IsKnown k o w x
  has_known (needed p v) m h = has_here k o (w + 2) wider IsPoint (one_point k) (p, v) m h
  has_known (kept i) m h = tt
  has_known (wanted u d) m h = has_here k o w wide IsNumbered (one_unit k) (u, plain d) h.0 h.1

  -- that of a fact about a unit is told by the unit's variables
  number_of : (g : Part) → TakesPart k g → (x : Fact) → IsOf k o w g x → (m : ℕ) × (fact_at w (o.variables g) x ≡ Some m) × HasFact k o w x m
  number_of g t (needed p v) h =
      let q = here_has k o (w + 2) wider IsPoint (one_point k) (p, v) (g, t, h.0, h.1) in
      let e : q.1.unit ≡ g = one_point k q.1.unit g p q.1.takes t q.1.at h.0 in
      (q.0, ap (λ (z : Part). node_in (w + 2) (o.variables z) (p, v)) (sym e) ∙ q.1.number, q.1)
  number_of g t (kept i) h = (kept_at w i, refl, refl)
  number_of g t (wanted u d) h =
      let q = here_has k o w wide IsNumbered (one_unit k) (u, plain d) (g, t, h.0, h.1) in
      let e : q.1.unit ≡ g = one_unit k q.1.unit g u q.1.takes t q.1.at h.0 in
      (q.0 * (w + 2) + (w + 1), ap (wanted_number w) (ap (λ (z : Part). node_in w (o.variables z) (u, plain d)) (sym e) ∙ q.1.number), (q.0, q.1, refl))

  -- ---- a fact with its number, a step with its edge

  pub single : (g : Part) → TakesPart k g → (x : Fact) → IsOf k o w g x → Images (HasFact k o w) (x ∷ []) (list_of (fact_at w (o.variables g) x))
  single g t x h =
      let p = number_of g t x h in
      let i : Images (HasFact k o w) (x ∷ []) (list_of (Some p.0)) = images_one x p.0 p.2 (λ z r. one_fact x p.0 z p.2 r) in
      subst (λ u. Images (HasFact k o w) (x ∷ []) (list_of u)) (sym p.1) i

  pub link : (f g : Part) → TakesPart k f → TakesPart k g → (x z : Fact) → IsOf k o w f x → IsOf k o w g z → Images (HasStep k o w) ((x, z) ∷ []) (linked (fact_at w (o.variables f) x) (fact_at w (o.variables g) z))
  link f g t s x z h r =
      let p = number_of f t x h in
      let q = number_of g s z r in
      let i : Images (HasStep k o w) ((x, z) ∷ []) (linked (Some p.0) (Some q.0)) = images_one (x, z) (p.0, q.0) (p.2, q.2) (λ n l. λ j. (one_fact x p.0 n.0 p.2 l.0 j, one_fact z q.0 n.1 q.2 l.1 j)) in
      subst (λ u. Images (HasStep k o w) ((x, z) ∷ []) (linked u (fact_at w (o.variables g) z))) (sym p.1) (subst (λ u. Images (HasStep k o w) ((x, z) ∷ []) (linked (Some p.0) u)) (sym q.1) i)
