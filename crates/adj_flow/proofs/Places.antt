-- Places of variables and numbers of nodes: a variable has one place, a node one number, and no two share one.
use Rattle.std.proofs.Common.{◌≡◌, ◌⊎◌, inl, inr, ℕ, suc, ◌+◌, ◌*◌, ◌/◌, ◌%◌, ◌<◌, ◌≤◌, List, [], ◌∷◌, Bool, true, false, refl, sym, ap, ◌∙◌, subst, arith, length}
use Rattle.std.specs.Prelude.{Contains, Option, Some, None, if◌then◌else◌}
use Rattle.std.proofs.lemmas.Nat.{div-mul-add, mod-mul-add}
use Rattle.adj_tree.specs.Code.{Var, var_eq}
use Rattle.def_meaning.proofs.Variables.{var_refl, var_same}
use Rattle.def_flow.specs.Parts.{Part}
use Rattle.def_flow.specs.Problem.{Problem, TakesPart}
use Rattle.def_flow.specs.Flow.{Node}
use Rattle.def_flow.specs.Rules.{Scope, list_of}
use Rattle.adj_reach.proofs.Members.{is_first, is_later, is_among, is_none}
use Rattle.adj_flow.specs.Nodes.{place_in, number_at, node_in, IsWide, HasNumber, linked}
use Rattle.adj_flow.proofs.Images.{Images, images_one}

-- ---- places

pub place_range : (k : ℕ) (vs : List Var) (v : Var) (j : ℕ) → place_in k vs v ≡ Some j → (k ≤ j) × (j < k + length vs)
place_range k [] v j e = absurd cc
place_range k (x ∷ xs) v j e = go (var_eq v x) e (place_range (suc k) xs v j)
  where
    go : (b : Bool) → (if b then Some k else place_in (suc k) xs v) ≡ Some j → (place_in (suc k) xs v ≡ Some j → (suc k ≤ j) × (j < suc k + length xs)) → (k ≤ j) × (j < k + suc (length xs))
    go true f r = let h : k ≡ j = cc in (omega arith, omega arith)
    go false f r = let q = r f in (omega (arith, q.0), omega (arith, q.1))

pub place_own : (k : ℕ) (vs : List Var) (u v : Var) (j : ℕ) → place_in k vs u ≡ Some j → place_in k vs v ≡ Some j → u ≡ v
place_own k [] u v j e f = absurd cc
place_own k (x ∷ xs) u v j e f = go (var_eq u x) refl (var_eq v x) refl e f (place_own (suc k) xs u v j)
  where
    go : (a : Bool) → var_eq u x ≡ a → (b : Bool) → var_eq v x ≡ b → (if a then Some k else place_in (suc k) xs u) ≡ Some j → (if b then Some k else place_in (suc k) xs v) ≡ Some j →
        (place_in (suc k) xs u ≡ Some j → place_in (suc k) xs v ≡ Some j → u ≡ v) → u ≡ v
    go true p true q e f r = var_same u x p ∙ sym (var_same v x q)
    go true p false q e f r = let h : k ≡ j = cc in absurd (omega (arith, (place_range (suc k) xs v j f).0))
    go false p true q e f r = let h : k ≡ j = cc in absurd (omega (arith, (place_range (suc k) xs u j e).0))
    go false p false q e f r = r e f

pub place_has : (k : ℕ) (vs : List Var) (v : Var) → Contains vs v → (j : ℕ) × (place_in k vs v ≡ Some j)
place_has k [] v c = absurd (is_none v c)
place_has k (x ∷ xs) v c = go (var_eq v x) refl (is_among v x xs c) (place_has (suc k) xs v)
  where
    go : (b : Bool) → var_eq v x ≡ b → (x ≡ v) ⊎ Contains xs v → (Contains xs v → (j : ℕ) × (place_in (suc k) xs v ≡ Some j)) → (j : ℕ) × ((if b then Some k else place_in (suc k) xs v) ≡ Some j)
    go true p c r = (k, refl)
    go false p (inl e) r = absurd (let q : var_eq v x ≡ true = ap (λ z. var_eq v z) e ∙ var_refl v in cc)
    go false p (inr d) r = r d

pub place_only : (k : ℕ) (vs : List Var) (v : Var) (j : ℕ) → place_in k vs v ≡ Some j → Contains vs v
place_only k [] v j e = absurd cc
place_only k (x ∷ xs) v j e = go (var_eq v x) refl e (place_only (suc k) xs v j)
  where
    go : (b : Bool) → var_eq v x ≡ b → (if b then Some k else place_in (suc k) xs v) ≡ Some j → (place_in (suc k) xs v ≡ Some j → Contains xs v) → Contains (x ∷ xs) v
    go true p f r = is_first v x xs (sym (var_same v x p))
    go false p f r = is_later v x xs (r f)

-- ---- numbers

pub some_same : {X : Type 0} (a b : X) → Some a ≡ Some b → a ≡ b
some_same a b e = cc

pub number_is : (w p : ℕ) (o : Option ℕ) (m : ℕ) → number_at w p o ≡ Some m → (j : ℕ) × (o ≡ Some j) × (m ≡ p * w + j)
number_is w p None m e = absurd cc
number_is w p (Some j) m e = (j, refl, sym (some_same (p * w + j) m e))

-- a number tells its point and its place
decoded : (w p q j i : ℕ) → p * w + j ≡ q * w + i → j < w → i < w → (p ≡ q) × (j ≡ i)
decoded w p q j i e l k = (
  sym (div-mul-add p w j l) ∙ ap (λ n. n / w) e ∙ div-mul-add q w i k,
  sym (mod-mul-add p w j l) ∙ ap (λ n. n % w) e ∙ mod-mul-add q w i k,
)

module _ (k : Problem) (o : Scope) (w : ℕ) (wide : IsWide k o w) (At : Part → ℕ → Type 0) (sole : (f g : Part) (p : ℕ) → TakesPart k f → TakesPart k g → At f p → At g p → f ≡ g) where
  -- a variable of a unit at one of its places
  abbrev pub IsHere : Node → Type 0
  IsHere n = (g : Part) × TakesPart k g × At g n.0 × Contains (o.variables g) n.1

  -- two variables of units have one number only at one place
  number_own : (f g : Part) (n r : Node) (m : ℕ) → TakesPart k f → TakesPart k g → node_in w (o.variables f) n ≡ Some m → node_in w (o.variables g) r ≡ Some m →
      (n.0 ≡ r.0) × ((j : ℕ) × (place_in 0 (o.variables f) n.1 ≡ Some j) × (place_in 0 (o.variables g) r.1 ≡ Some j))
  number_own f g n r m t u e h =
      let a = number_is w n.0 (place_in 0 (o.variables f) n.1) m e in
      let b = number_is w r.0 (place_in 0 (o.variables g) r.1) m h in
      let la : length (o.variables f) ≤ w = wide f t in
      let lb : length (o.variables g) ≤ w = wide g u in
      let d = decoded w n.0 r.0 a.0 b.0 (sym a.2 ∙ b.2) (omega (arith, (place_range 0 (o.variables f) n.1 a.0 a.1).1)) (omega (arith, (place_range 0 (o.variables g) r.1 b.0 b.1).1)) in
      (d.0, (a.0, a.1, b.1 ∙ ap (λ j. Some j) (sym d.1)))

  pub one_number : (n : Node) (m r : ℕ) → HasNumber k o w At n m → HasNumber k o w At n r → m ≡ r
  one_number n m r h q =
      let e : h.unit ≡ q.unit = sole h.unit q.unit n.0 h.takes q.takes h.at q.at in
      some_same m r (sym h.number ∙ ap (λ g. node_in w (o.variables g) n) e ∙ q.number)

  pub own_number : (n r : Node) (m : ℕ) → HasNumber k o w At n m → HasNumber k o w At r m → n ≡ r
  own_number n r m h q =
      let d = number_own h.unit q.unit n r m h.takes q.takes h.number q.number in
      let u : h.unit ≡ q.unit = sole h.unit q.unit n.0 h.takes q.takes h.at (subst (λ p. At q.unit p) (sym d.0) q.at) in
      let e : place_in 0 (o.variables h.unit) r.1 ≡ Some d.1.0 = ap (λ g. place_in 0 (o.variables g) r.1) u ∙ d.1.2 in
      let v : n.1 ≡ r.1 = place_own 0 (o.variables h.unit) n.1 r.1 d.1.0 d.1.1 e in
      λ i. (d.0 i, v i)

  -- each variable of a unit has a number
  number_here : (n : Node) (h : IsHere n) → (m : ℕ) × (node_in w (o.variables h.0) n ≡ Some m)
  number_here n h = let j = place_has 0 (o.variables h.0) n.1 h.3 in (n.0 * w + j.0, ap (number_at w n.0) j.1)

  pub here_has : (n : Node) → IsHere n → (m : ℕ) × HasNumber k o w At n m
  here_has n h = let m = number_here n h in (m.0, record { unit = h.0; takes = h.1; at = h.2; number = m.1 })

  pub has_here : (n : Node) (m : ℕ) → HasNumber k o w At n m → IsHere n
  has_here n m h =
      let a = number_is w n.0 (place_in 0 (o.variables h.unit) n.1) m h.number in
      (h.unit, h.takes, h.at, place_only 0 (o.variables h.unit) n.1 a.0 a.1)

  -- ---- a step and its edge, a beginning and its number

  abbrev pub IsEdge : Node × Node → ℕ × ℕ → Type 0
  IsEdge e f = HasNumber k o w At e.0 f.0 × HasNumber k o w At e.1 f.1

  pub link : (n r : Node) (a : IsHere n) (b : IsHere r) → Images IsEdge ((n, r) ∷ []) (linked (node_in w (o.variables a.0) n) (node_in w (o.variables b.0) r))
  link n r a b =
      let p = number_here n a in
      let q = number_here r b in
      let hp : HasNumber k o w At n p.0 = record { unit = a.0; takes = a.1; at = a.2; number = p.1 } in
      let hq : HasNumber k o w At r q.0 = record { unit = b.0; takes = b.1; at = b.2; number = q.1 } in
      let i : Images IsEdge ((n, r) ∷ []) (linked (Some p.0) (Some q.0)) = images_one (n, r) (p.0, q.0) (hp, hq) (λ z h. λ j. (one_number n p.0 z.0 hp h.0 j, one_number r q.0 z.1 hq h.1 j)) in
      subst (λ u. Images IsEdge ((n, r) ∷ []) (linked u (node_in w (o.variables b.0) r))) (sym p.1) (subst (λ u. Images IsEdge ((n, r) ∷ []) (linked (Some p.0) u)) (sym q.1) i)

  pub single : (n : Node) (a : IsHere n) → Images (HasNumber k o w At) (n ∷ []) (list_of (node_in w (o.variables a.0) n))
  single n a =
      let p = number_here n a in
      let hp : HasNumber k o w At n p.0 = record { unit = a.0; takes = a.1; at = a.2; number = p.1 } in
      let i : Images (HasNumber k o w At) (n ∷ []) (list_of (Some p.0)) = images_one n p.0 hp (λ z h. one_number n p.0 z hp h) in
      subst (λ u. Images (HasNumber k o w At) (n ∷ []) (list_of u)) (sym p.1) i
