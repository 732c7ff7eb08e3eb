-- What a forward unit leaves on the tape are all variables but the dummies that the unit doesn't write.
use Rattle.std.proofs.Common.{◌≡◌, ℕ, Bool, true, false, List, [], ◌∷◌, map, refl, sym, ap, ◌∙◌, if◌then◌else◌}
use Rattle.std.specs.Prelude.{◌||◌, ◌&&◌, not}
use Rattle.adj_tree.specs.Code.{name_eq, Procedure}
use Rattle.adj_tree.proofs.Names.{name_same}
use Rattle.def_meaning.specs.Apart.{has_name}
use Rattle.def_meaning.specs.Written.{is_written}
use Rattle.def_names.specs.Variables.{variables}
use Rattle.def_sweep.specs.Marking.{dummy_set}
use Rattle.def_sweep.specs.Program.{left_by}
use Rattle.def_sweep.specs.SplitRows.{left_of}
use Rattle.adj_naming.proofs.Added.{SameNames}
use Rattle.adj_weave.specs.Left.{read_only, unless_among}

module _ (w : List ℕ → Bool) where
  -- a dummy that isn't written is among these
  read_named : (x : List ℕ) (ds : List (List ℕ)) → has_name x (read_only ds (map w ds)) ≡ (has_name x ds && not (w x))
  read_named x [] = refl
  read_named x (d ∷ ds) = go (w d) refl (name_eq x d) refl (read_named x ds)
    where
      go : (b : Bool) → w d ≡ b → (e : Bool) → name_eq x d ≡ e → has_name x (read_only ds (map w ds)) ≡ (has_name x ds && not (w x)) →
          has_name x (read_only (d ∷ ds) (b ∷ map w ds)) ≡ ((e || has_name x ds) && not (w x))
      go true is true same ih = ih ∙ here (has_name x ds) ∙ sym none
        where
          none : not (w x) ≡ false
          none = ap (λ z. not (w z)) (name_same x d same) ∙ ap not is

          here : (h : Bool) → (h && not (w x)) ≡ false
          here true = none
          here false = refl
      go true is false same ih = ih
      go false is true same ih = ap (λ z. z || has_name x (read_only ds (map w ds))) same ∙ sym (ap (λ z. not (w z)) (name_same x d same) ∙ ap not is)
      go false is false same ih = ap (λ z. z || has_name x (read_only ds (map w ds))) same ∙ ih

  left_same : (ds xs : List (List ℕ)) → unless_among (read_only ds (map w ds)) xs ≡ left_of (dummy_set w) ds xs
  left_same ds [] = refl
  left_same ds (x ∷ xs) =
      ap (λ b. if b then unless_among (read_only ds (map w ds)) xs else x ∷ unless_among (read_only ds (map w ds)) xs) (read_named x ds)
      ∙ go (has_name x ds) (w x) (left_same ds xs)
    where
      go : (h b : Bool) → unless_among (read_only ds (map w ds)) xs ≡ left_of (dummy_set w) ds xs →
          (if h && not b then unless_among (read_only ds (map w ds)) xs else x ∷ unless_among (read_only ds (map w ds)) xs) ≡ (if not h || b then x ∷ left_of (dummy_set w) ds xs else left_of (dummy_set w) ds xs)
      go true true ih = ap (λ z. x ∷ z) ih
      go true false ih = ih
      go false b ih = ap (λ z. x ∷ z) ih

-- by the flags of a unit's dummies
pub left_is : (ps : List Procedure) (u : Procedure) → unless_among (read_only u.dummies (map (is_written ps u) u.dummies)) (variables u) ≡ left_by ps u
left_is ps u = left_same (is_written ps u) u.dummies (variables u)

-- by sets with the same names the same are left
pub unless_same : (xs ys vs : List (List ℕ)) → SameNames xs ys → unless_among xs vs ≡ unless_among ys vs
unless_same xs ys [] h = refl
unless_same xs ys (v ∷ vs) h = λ i. if h.at v i then unless_same xs ys vs h i else v ∷ unless_same xs ys vs h i
