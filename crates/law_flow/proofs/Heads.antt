-- The head's unit, and its dummies that are listed.
use Rattle.std.proofs.Common.{◌≡◌, ℕ, zero, suc, List, [], ◌∷◌, Bool, true, false, refl, sym, ap, ◌∙◌}
use Rattle.std.specs.Prelude.{Contains, Some, slice_get, ◌||◌}
use Rattle.adj_tree.specs.Code.{name_eq, Procedure}
use Rattle.adj_tree.proofs.Names.{name_same}
use Rattle.def_names.specs.Numbers.{behind}
use Rattle.def_meaning.specs.Apart.{has_name}
use Rattle.def_sweep.specs.Declared.{unit_at, unmarked}
use Rattle.def_sweep.specs.MarkedAdjoint.{IsMarked}
use Rattle.def_flow.specs.Parts.{Part, part, parts_from}
use Rattle.def_flow.specs.Problem.{flagged}
use Rattle.adj_reach.proofs.Members.{is_first, is_later}

-- a dummy that is marked is among those that are flagged
pub flagged_has : (ds : List (List ℕ)) (bs : List Bool) (x : List ℕ) → IsMarked ds bs x → Contains (flagged bs ds) x
flagged_has [] bs x m = absurd (let h : false ≡ true = m.0 in cc)
flagged_has (d ∷ ds) [] x m = absurd (let e : has_name x (d ∷ unmarked ds []) ≡ false = m.1 in let f : has_name x (d ∷ ds) ≡ true = m.0 in let g : unmarked ds [] ≡ ds = all_unmarked ds in let h : has_name x (d ∷ unmarked ds []) ≡ has_name x (d ∷ ds) = ap (λ zs. has_name x (d ∷ zs)) g in cc)
  where
    all_unmarked : (zs : List (List ℕ)) → unmarked zs [] ≡ zs
    all_unmarked [] = refl
    all_unmarked (z ∷ zs) = ap (λ ys. z ∷ ys) (all_unmarked zs)
flagged_has (d ∷ ds) (true ∷ bs) x m = go (name_eq x d) refl m.0 (λ h. flagged_has ds bs x (h, m.1))
  where
    go : (t : Bool) → name_eq x d ≡ t → (t || has_name x ds) ≡ true → (has_name x ds ≡ true → Contains (flagged bs ds) x) → Contains (d ∷ flagged bs ds) x
    go true e h r = is_first x d (flagged bs ds) (sym (name_same x d e))
    go false e h r = is_later x d (flagged bs ds) (r h)
flagged_has (d ∷ ds) (false ∷ bs) x m = go (name_eq x d) refl m.0 m.1 (λ h n. flagged_has ds bs x (h, n))
  where
    go : (t : Bool) → name_eq x d ≡ t → (t || has_name x ds) ≡ true → (name_eq x d || has_name x (unmarked ds bs)) ≡ false → (has_name x ds ≡ true → has_name x (unmarked ds bs) ≡ false → Contains (flagged bs ds) x) → Contains (flagged bs ds) x
    go true e h n r = absurd (let f : (true || has_name x (unmarked ds bs)) ≡ false = ap (λ b. b || has_name x (unmarked ds bs)) (sym e) ∙ n in cc)
    go false e h n r = r h (ap (λ b. b || has_name x (unmarked ds bs)) (sym e) ∙ n)

-- the unit of the head's number
pub head_part : (t u i : ℕ) (ps : List Procedure) (n : ℕ) (p : Procedure) → unit_at n ps ≡ p ∷ [] → (g : Part) × (slice_get (parts_from t u i ps) n ≡ Some g) × (g.unit ≡ p)
head_part t u i [] n p e = absurd cc
head_part t u i (q ∷ qs) zero p e = (part t u i q, refl, cc)
head_part t u i (q ∷ qs) (suc n) p e = head_part t (suc u) (behind i q.body) qs n p e
