-- Which dummies of a unit are in a least set, by the number and by the name of the unit.
use Rattle.std.proofs.Common.{◌≡◌, ◌⊎◌, inl, inr, ℕ, zero, suc, ◌+◌, List, [], ◌∷◌, Bool, map, sym, ap, ◌∙◌, arith}
use Rattle.std.specs.Prelude.{Contains, Some, slice_get, slice_index_or}
use Rattle.adj_tree.specs.Code.{Procedure}
use Rattle.def_meaning.specs.LeastSet.{Rule, least_rows, in_least}
use Rattle.def_meaning.proofs.LeastSets.{Rises, is_least, least_row}
use Rattle.def_names.specs.Numbers.{behind}
use Rattle.def_flow.specs.Parts.{Part, part, parts, parts_from, find_part}
use Rattle.def_names.specs.StatementsIn.{statements_in}
use Rattle.adj_reach.proofs.Members.{is_among, is_none}
use Rattle.adj_reach.specs.Edges.{flag}
use Rattle.adj_flow.proofs.UnitFound.{unit_found}

-- what is made of the units stands at their numbers
row_there : (f : Procedure → List Bool) (t u i : ℕ) (ps : List Procedure) (g : Part) → Contains (parts_from t u i ps) g → (j : ℕ) × (g.number ≡ u + j) × (slice_index_or (map f ps) j [] ≡ f g.unit)
row_there f t u i [] g c = absurd (is_none g c)
row_there f t u i (p ∷ ps) g c = go (is_among g (part t u i p) (parts_from t (suc u) (behind i p.body) ps) c) (row_there f t (suc u) (behind i p.body) ps g)
  where
    go : (part t u i p ≡ g) ⊎ Contains (parts_from t (suc u) (behind i p.body) ps) g →
        (Contains (parts_from t (suc u) (behind i p.body) ps) g → (j : ℕ) × (g.number ≡ suc u + j) × (slice_index_or (map f ps) j [] ≡ f g.unit)) →
        (j : ℕ) × (g.number ≡ u + j) × (slice_index_or (map f (p ∷ ps)) j [] ≡ f g.unit)
    go (inl e) r =
        let n : u ≡ g.number = ap (λ (z : Part). z.number) e in
        (0, omega arith, ap (λ (z : Part). f z.unit) e)
    go (inr d) r = let o = r d in let h = o.1 in (suc o.0, omega arith, o.2)

-- what is made of the members stands at their places
flag_there : (f : List ℕ → Bool) (ds : List (List ℕ)) (j : ℕ) (d : List ℕ) → slice_get ds j ≡ Some d → flag (map f ds) j ≡ f d
flag_there f [] j d e = absurd cc
flag_there f (x ∷ xs) zero d e = let q : x ≡ d = cc in ap f q
flag_there f (x ∷ xs) (suc j) d e = flag_there f xs j d e

module _ (rule : Rule) (rises : Rises rule) (ps : List Procedure) where
  abbrev row : Part → List Bool
  row g = map (rule (in_least rule ps) g.unit) g.unit.dummies

  row_at : (g : Part) → Contains (parts ps) g → slice_index_or (least_rows rule ps) g.number [] ≡ row g
  row_at g c =
      let o = row_there (λ u. map (rule (in_least rule ps) u) u.dummies) (statements_in 0 ps) 0 0 ps g c in
      let h = o.1 in
      let e : g.number ≡ o.0 = omega arith in
      ap (λ z. slice_index_or z g.number []) (sym (is_least rule rises ps).closed) ∙ ap (λ j. slice_index_or (map (λ u. map (rule (in_least rule ps) u) u.dummies) ps) j []) e ∙ o.2

  -- of the unit of a name
  pub named_row : (name : List ℕ) (g : Part) → Contains (parts ps) g → find_part (parts ps) name ≡ Some g → in_least rule ps name ≡ slice_index_or (least_rows rule ps) g.number []
  named_row name g c e = least_row rule rises ps name g.unit (unit_found (statements_in 0 ps) 0 0 ps name g e) ∙ sym (row_at g c)

  -- of a dummy at its place
  pub dummy_flag : (g : Part) → Contains (parts ps) g → (j : ℕ) (d : List ℕ) → slice_get g.unit.dummies j ≡ Some d → flag (slice_index_or (least_rows rule ps) g.number []) j ≡ rule (in_least rule ps) g.unit d
  dummy_flag g c j d e = ap (λ z. flag z j) (row_at g c) ∙ flag_there (rule (in_least rule ps) g.unit) g.unit.dummies j d e
