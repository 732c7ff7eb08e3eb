-- Names that are the same bytes.
use Rattle.std.proofs.Common.{◌≡◌, ℕ, Bool, true, false, List, refl, sym, ap, ◌∙◌}
use Rattle.std.specs.Prelude.{◌↔◌, IsTrue}
use Rattle.adj_tree.specs.Code.{name_eq}
use Rattle.adj_tree.proofs.Names.{name_refl, name_same}

-- what is true exactly where two names are the same is their test
pub name_test : (b : Bool) (x y : List ℕ) → (IsTrue b ↔ (x ≡ y)) → b ≡ name_eq x y
name_test true x y h = sym (ap (name_eq x) (sym (h.0 refl)) ∙ name_refl x)
name_test false x y h = go (name_eq x y) refl
  where
    go : (t : Bool) → name_eq x y ≡ t → false ≡ name_eq x y
    go true e = h.1 (name_same x y e) ∙ sym e
    go false e = sym e
