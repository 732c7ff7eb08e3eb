-- Dummies with their places are the dummies that are bound to actuals.
use Rattle.std.proofs.Common.{◌≡◌, ◌⊎◌, inl, inr, ℕ, suc, ◌+◌, List, [], ◌∷◌, map, refl, ap, arith}
use Rattle.std.specs.Prelude.{Contains, Option, Some, None, slice_get}
use Rattle.adj_tree.specs.Code.{Var, Terms, none, more}
use Rattle.def_flow.specs.Problem.{name_of, with_actual, bound}
use Rattle.adj_reach.proofs.Members.{is_among, is_none}
use Rattle.adj_tbr.specs.Bound.{Passed, with_place, bound_from}

-- without its place
abbrev pub pair : Passed → List ℕ × Var
pair b = (b.1, b.2)

pub pairs_bound : (k : ℕ) (ds : List (List ℕ)) (args : Terms) → map pair (bound_from k ds args) ≡ bound ds args
pairs_bound k [] args = refl
pairs_bound k (d ∷ ds) none = refl
pairs_bound k (d ∷ ds) (more e es) = go (name_of e) (pairs_bound (k + 1) ds es)
  where
    go : (o : Option Var) → map pair (bound_from (k + 1) ds es) ≡ bound ds es → map pair (with_place k d o (bound_from (k + 1) ds es)) ≡ with_actual d o (bound ds es)
    go None r = r
    go (Some v) r = ap (λ z. (d, v) ∷ z) r

-- each has the place of its dummy
pub bound_place : (k : ℕ) (ds : List (List ℕ)) (args : Terms) (b : Passed) → Contains (bound_from k ds args) b → (j : ℕ) × (b.0 ≡ k + j) × (slice_get ds j ≡ Some b.1)
bound_place k [] args b c = absurd (is_none b c)
bound_place k (d ∷ ds) none b c = absurd (is_none b c)
bound_place k (d ∷ ds) (more e es) b c = go (name_of e) c (bound_place (k + 1) ds es b)
  where
    later : (j : ℕ) × (b.0 ≡ k + 1 + j) × (slice_get ds j ≡ Some b.1) → (j : ℕ) × (b.0 ≡ k + j) × (slice_get (d ∷ ds) j ≡ Some b.1)
    later o = let h = o.1 in (suc o.0, omega arith, o.2)

    first : (v : Var) → ((k, d, v) ≡ b) ⊎ Contains (bound_from (k + 1) ds es) b → (Contains (bound_from (k + 1) ds es) b → (j : ℕ) × (b.0 ≡ k + 1 + j) × (slice_get ds j ≡ Some b.1)) → (j : ℕ) × (b.0 ≡ k + j) × (slice_get (d ∷ ds) j ≡ Some b.1)
    first v (inl q) r = let n : k ≡ b.0 = ap (λ (z : Passed). z.0) q in (0, omega arith, ap (λ (z : Passed). Some z.1) q)
    first v (inr m) r = later (r m)

    go : (o : Option Var) → Contains (with_place k d o (bound_from (k + 1) ds es)) b → (Contains (bound_from (k + 1) ds es) b → (j : ℕ) × (b.0 ≡ k + 1 + j) × (slice_get ds j ≡ Some b.1)) → (j : ℕ) × (b.0 ≡ k + j) × (slice_get (d ∷ ds) j ≡ Some b.1)
    go None m r = later (r m)
    go (Some v) m r = first v (is_among b (k, d, v) (bound_from (k + 1) ds es) m) r
