-- Flagged names, one after the other.
use Rattle.std.proofs.Common.{◌≡◌, ℕ, zero, suc, ◌+◌, ◌<◌, ◌≤◌, List, [], ◌∷◌, ◌++◌, Bool, true, false, length, get_or, drop, refl, sym, ap, ◌∙◌, append_assoc, append-nil, arith}
use Rattle.std.specs.List.{flat_map}
use Rattle.std.proofs.lemmas.List.{drop_more, drop_all}
use Rattle.std.proofs.lemmas.List.Concat.{flat_map-cons}
use Rattle.def_names.specs.VariableLists.{list_if}
use Rattle.def_flow.specs.Problem.{flagged}
use Rattle.adj_reach.specs.Edges.{flag}

-- no names are flagged among none
none_flagged : (fs : List Bool) → flagged fs [] ≡ []
none_flagged [] = refl
none_flagged (true ∷ fs) = refl
none_flagged (false ∷ fs) = refl

-- what is made of the first name, if it is flagged, and of the others
flagged_first : {Z : Type 0} (f : List ℕ → List Z) (b : Bool) (fs : List Bool) (d : List ℕ) (ds : List (List ℕ)) → flat_map f (flagged (b ∷ fs) (d ∷ ds)) ≡ list_if b (f d) ++ flat_map f (flagged fs ds)
flagged_first f true fs d ds = flat_map-cons f d (flagged fs ds)
flagged_first f false fs d ds = refl

-- nothing is left of nothing
none_left : (n : ℕ) → drop {A = Bool} n [] ≡ []
none_left zero = refl
none_left (suc n) = refl

flagged_at : {Z : Type 0} (f : List ℕ → List Z) (fs : List Bool) (i : ℕ) (d : List ℕ) (ds : List (List ℕ)) → flat_map f (flagged (drop i fs) (d ∷ ds)) ≡ list_if (flag fs i) (f d) ++ flat_map f (flagged (drop (i + 1) fs) ds)
flagged_at f [] zero d ds = refl
flagged_at f [] (suc i) d ds = ap (λ z. flat_map f (flagged z ds)) (sym (none_left (suc i + 1)))
flagged_at f (b ∷ fs) zero d ds = flagged_first f b fs d ds
flagged_at f (b ∷ fs) (suc i) d ds = let e : suc i + 1 ≡ suc (i + 1) = omega arith in flagged_at f fs i d ds ∙ ap (λ n. list_if (flag fs i) (f d) ++ flat_map f (flagged (drop n (b ∷ fs)) ds)) (sym e)

-- one name more
pub flagged_more : {Z : Type 0} (f : List ℕ → List Z) (fs : List Bool) (ds : List (List ℕ)) (i : ℕ) (d : List ℕ) (made after : List Z) → i < length ds → d ≡ get_or ds i d → after ≡ made ++ list_if (flag fs i) (f d) →
    after ++ flat_map f (flagged (drop (i + 1) fs) (drop (i + 1) ds)) ≡ made ++ flat_map f (flagged (drop i fs) (drop i ds))
flagged_more f fs ds i d made after lt is e =
    ap (λ z. z ++ flat_map f (flagged (drop (i + 1) fs) (drop (i + 1) ds))) e
    ∙ append_assoc made (list_if (flag fs i) (f d)) (flat_map f (flagged (drop (i + 1) fs) (drop (i + 1) ds)))
    ∙ ap (λ z. made ++ z) (sym (flagged_at f fs i d (drop (i + 1) ds)) ∙ ap (λ z. flat_map f (flagged (drop i fs) z)) (sym (drop_more ds i d lt ∙ ap (λ z. z ∷ drop (i + 1) ds) (sym is))))

-- all names
pub flagged_end : {Z : Type 0} (f : List ℕ → List Z) (fs : List Bool) (ds : List (List ℕ)) (i : ℕ) (made all : List Z) → length ds ≤ i → made ++ flat_map f (flagged (drop i fs) (drop i ds)) ≡ all → made ≡ all
flagged_end f fs ds i made all past e = sym (append-nil made) ∙ ap (λ z. made ++ flat_map f z) (sym (ap (λ z. flagged (drop i fs) z) (drop_all i ds past) ∙ none_flagged (drop i fs))) ∙ e
