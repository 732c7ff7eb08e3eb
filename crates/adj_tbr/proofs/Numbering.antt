-- The number of a variable at a place of its unit, where it has one, is its only image.
use Rattle.std.proofs.Common.{◌≡◌, ℕ, List, [], ◌∷◌, refl, sym, ap, ◌∙◌, subst}
use Rattle.std.specs.Prelude.{Contains, Option, Some, None, map}
use Rattle.def_flow.specs.Flow.{Node}
use Rattle.def_flow.specs.Parts.{Part}
use Rattle.def_flow.specs.Problem.{Problem, TakesPart}
use Rattle.def_flow.specs.Rules.{Scope, list_of}
use Rattle.adj_reach.proofs.Members.{is_first, is_none, is_only, map_has, map_only}
use Rattle.adj_flow.specs.Nodes.{node_in, HasNumber}
use Rattle.adj_flow.proofs.Images.{Images}

-- one thing with all its images
pub images_at : {A B : Type 0} {R : A → B → Type 0} (x : A) (ys : List B) → ((y : B) → R x y → Contains ys y) → ((y : B) → Contains ys y → R x y) → Images R (x ∷ []) ys
images_at {R = R} x ys has only = record {
  has = λ z y c r. has y (subst (λ t. R t y) (sym (is_only z x c)) r);
  only = λ y c. (x, is_first x x [] refl, only y c);
}

-- images of what a function makes of things
pub images_made : {A B C : Type 0} {R : C → B → Type 0} (f : A → C) (xs : List A) (ys : List B) → Images (λ x y. R (f x) y) xs ys → Images R (map f xs) ys
images_made {R = R} f xs ys i = record {
  has = λ z y c r. let x = map_only f xs z c in i.has x.0 y x.1 (subst (λ t. R t y) (sym x.2) r);
  only = λ y c. let x = i.only y c in (f x.0, map_has f xs x.0 x.1, x.2);
}

module _ (k : Problem) (o : Scope) (w : ℕ) (At : Part → ℕ → Type 0) (sole : (f g : Part) (p : ℕ) → TakesPart k f → TakesPart k g → At f p → At g p → f ≡ g) (g : Part) (t : TakesPart k g) (n : Node) (i : At g n.0) where
  pub number_has : (m : ℕ) → HasNumber k o w At n m → Contains (list_of (node_in w (o.variables g) n)) m
  number_has m h =
      let e : h.unit ≡ g = sole h.unit g n.0 h.takes t h.at i in
      let q : node_in w (o.variables g) n ≡ Some m = ap (λ z. node_in w (o.variables z) n) (sym e) ∙ h.number in
      subst (λ z. Contains (list_of z) m) (sym q) (is_first m m [] refl)

  pub number_only : (m : ℕ) → Contains (list_of (node_in w (o.variables g) n)) m → HasNumber k o w At n m
  number_only m c = record { unit = g; takes = t; at = i; number = of (node_in w (o.variables g) n) c }
    where
      of : (z : Option ℕ) → Contains (list_of z) m → z ≡ Some m
      of None d = absurd (is_none m d)
      of (Some j) d = ap (λ x. Some x) (is_only m j d)
