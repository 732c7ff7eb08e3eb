-- Paths in graphs by labels and roots.
use Rattle.std.proofs.Common.{◌≡◌, ℕ, ◌<◌, ◌≤◌, List, [], ◌∷◌, ◌++◌, length, Some, get_or, refl, sym, ap, ◌∙◌, subst, arith}
use Rattle.std.specs.Prelude.{slice_index}
use Rattle.std.specs.List.{All, Contains}
use Rattle.std.proofs.lemmas.List.Elements.{All-contains, All-push}
use Rattle.std.proofs.lemmas.Option.{slice_get-get_or}
use Rattle.adj_reach.specs.Reached.{begins, leads}
use Rattle.adj_reach.specs.Edges.{Edges, ReachedFrom, ReachedBack}
use Rattle.adj_symbols.specs.Graph.{AreSinking, root_at}

-- a list of one member has no other
pub one_member : (x y : ℕ) → Contains (x ∷ []) y → x ≡ y
one_member x y c = go c.0 c.1 c.2
  where
    go : (k : ℕ) → k < 1 → get_or (x ∷ []) k y ≡ y → x ≡ y
    go k lt e = let z : k ≡ 0 = omega arith in ap (λ n. get_or (x ∷ []) n y) (sym z) ∙ e

pub itself : (x : ℕ) → Contains (x ∷ []) x
itself x = (0, omega arith, refl)

-- along a path labels sink
pub sinks : (labels : List ℕ) (edges : Edges) → AreSinking labels edges → (x y : ℕ) → ReachedFrom edges (x ∷ []) y → slice_index labels y ≤ slice_index labels x
sinks labels edges h x y (begins c) = let e = ap (slice_index labels) (one_member x y c) in omega arith
sinks labels edges h x y (leads {x = z} r c) =
    let a = sinks labels edges h x z r in
    let b = All-contains (λ e. slice_index labels e.1 ≤ slice_index labels e.0) edges (z, y) h c in
    omega arith

-- a path behind a path
pub joined : (edges : Edges) (x y z : ℕ) → ReachedFrom edges (x ∷ []) y → ReachedFrom edges (y ∷ []) z → ReachedFrom edges (x ∷ []) z
joined edges x y z p (begins c) = subst (ReachedFrom edges (x ∷ [])) (one_member y z c) p
joined edges x y z p (leads {x = w} r c) = leads (joined edges x y w p r) c

-- an edge before a path
edge_first : (edges : Edges) (x y z : ℕ) → Contains edges (x, y) → ReachedFrom edges (y ∷ []) z → ReachedFrom edges (x ∷ []) z
edge_first edges x y z c p = joined edges x y z (leads (begins (itself x)) c) p

module _ (labels roots : List ℕ) (edges chosen : Edges) (starts : List ℕ) (own : All (λ x. root_at labels roots x ≡ x) starts) (same : All (λ e. slice_index labels e.0 ≡ slice_index labels e.1) chosen) (within : All (Contains edges) chosen) where
  -- what roots lead to within their labels, the root of the label leads to
  pub root_ahead : (x : ℕ) → ReachedFrom chosen starts x → ReachedFrom edges (root_at labels roots x ∷ []) x
  root_ahead x (begins c) =
      let e = All-contains (λ y. root_at labels roots y ≡ y) starts x own c in
      subst (λ r. ReachedFrom edges (r ∷ []) x) (sym e) (begins (itself x))
  root_ahead x (leads {x = y} r c) =
      let e = All-contains (λ d. slice_index labels d.0 ≡ slice_index labels d.1) chosen (y, x) same c in
      subst (λ l. ReachedFrom edges (slice_index roots l ∷ []) x) e (leads (root_ahead y r) (All-contains (Contains edges) chosen (y, x) within c))

  -- and what leads to roots within their labels leads to the root of the label
  pub root_behind : (x : ℕ) → ReachedBack chosen starts x → ReachedFrom edges (x ∷ []) (root_at labels roots x)
  root_behind x (begins c) =
      let e = All-contains (λ y. root_at labels roots y ≡ y) starts x own c in
      subst (ReachedFrom edges (x ∷ [])) (sym e) (begins (itself x))
  root_behind x (leads {x = y} r c) =
      let e = All-contains (λ d. slice_index labels d.0 ≡ slice_index labels d.1) chosen (x, y) same c in
      subst (λ l. ReachedFrom edges (x ∷ []) (slice_index roots l)) (sym e) (edge_first edges x y (root_at labels roots y) (All-contains (Contains edges) chosen (x, y) within c) (root_behind y r))

-- ---- lists of edges

-- one more member, of which the same holds
pub chosen_push : {X : Type 0} (P : X → Type 0) (old made : List X) (x : X) → made ≡ old ++ x ∷ [] → All P old → P x → All P made
chosen_push P old made x e h p = subst (All P) (sym e) (All-push P old x h p)

-- a member at a place
pub contains_at : {X : Type 0} (xs : List X) (i : ℕ) (d : X) → i < length xs → Contains xs (get_or xs i d)
contains_at {X} xs i d lt = (i, lt, unwrapped (get_or xs i (get_or xs i d)) (get_or xs i d) (sym (slice_get-get_or xs i (get_or xs i d) lt) ∙ slice_get-get_or xs i d lt))
  where
    unwrapped : (a b : X) → Some a ≡ Some b → a ≡ b
    unwrapped a b h = cc
