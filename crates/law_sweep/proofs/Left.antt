-- What the forward unit of a split call leaves on the tape.
use Rattle.std.proofs.Common.{◌≡◌, ℕ, Bool, true, false, List, [], ◌∷◌, refl, sym, ap, ◌∙◌, if◌then◌else◌}
use Rattle.std.specs.Prelude.{not, ◌||◌}
use Rattle.adj_tree.specs.Code.{plain, name_eq}
use Rattle.adj_tree.proofs.Names.{name_same}
use Rattle.def_names.specs.Numbers.{Vars}
use Rattle.def_meaning.specs.Apart.{has_name}
use Rattle.def_names.proofs.Variables.{or_left, or_right}
use Rattle.def_sweep.specs.SplitRows.{left_of}

module _ (written : Vars) (ds : List (List ℕ)) where
  -- a variable that is a local or is written is among them
  pub left_in : (vars : List (List ℕ)) (x : List ℕ) → has_name x vars ≡ true → (not (has_name x ds) || written (plain x)) ≡ true → has_name x (left_of written ds vars) ≡ true
  left_in [] x h w = absurd cc
  left_in (y ∷ ys) x h w = go (name_eq x y) refl h (left_in ys x)
    where
      later : (b : Bool) → has_name x (left_of written ds ys) ≡ true → has_name x (if b then y ∷ left_of written ds ys else left_of written ds ys) ≡ true
      later true e = or_right (name_eq x y) (has_name x (left_of written ds ys)) e
      later false e = e

      go : (b : Bool) → name_eq x y ≡ b → (b || has_name x ys) ≡ true → (has_name x ys ≡ true → (not (has_name x ds) || written (plain x)) ≡ true → has_name x (left_of written ds ys) ≡ true) → has_name x (left_of written ds (y ∷ ys)) ≡ true
      go true e h ih =
          let here : (not (has_name y ds) || written (plain y)) ≡ true = ap (λ z. not (has_name z ds) || written (plain z)) (sym (name_same x y e)) ∙ w in
          rw here (or_left (name_eq x y) (has_name x (left_of written ds ys)) e)
      go false e h ih = later (not (has_name y ds) || written (plain y)) (ih h w)

  -- what is among them is a local or is written
  pub left_has : (vars : List (List ℕ)) (x : List ℕ) → has_name x (left_of written ds vars) ≡ true → (not (has_name x ds) || written (plain x)) ≡ true
  left_has [] x h = absurd cc
  left_has (y ∷ ys) x h = go (not (has_name y ds) || written (plain y)) refl h (left_has ys x)
    where
      go : (b : Bool) → (not (has_name y ds) || written (plain y)) ≡ b → has_name x (if b then y ∷ left_of written ds ys else left_of written ds ys) ≡ true → (has_name x (left_of written ds ys) ≡ true → (not (has_name x ds) || written (plain x)) ≡ true) → (not (has_name x ds) || written (plain x)) ≡ true
      go true e h ih = here (name_eq x y) refl h
        where
          here : (t : Bool) → name_eq x y ≡ t → (t || has_name x (left_of written ds ys)) ≡ true → (not (has_name x ds) || written (plain x)) ≡ true
          here true n h = ap (λ z. not (has_name z ds) || written (plain z)) (name_same x y n) ∙ e
          here false n h = ih h
      go false e h ih = ih h
