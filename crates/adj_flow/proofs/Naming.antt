-- Names as variables.
use Rattle.std.proofs.Common.{◌≡◌, ℕ, suc, List, [], ◌∷◌, Bool, true, map, refl, sym, ap, subst}
use Rattle.std.specs.Prelude.{◌↔◌, IsTrue, Some, if◌then◌else◌}
use Rattle.adj_tree.specs.Code.{plain, name_eq}
use Rattle.adj_tree.proofs.Names.{name_same, name_refl}
use Rattle.def_flow.proofs.Sets.{same_truth}
use Rattle.adj_symbols_writes.specs.Graph.{place_from}
use Rattle.adj_flow.specs.Nodes.{place_in}

-- the place of a name is that of its variable
pub placed : (k : ℕ) (ys : List (List ℕ)) (x : List ℕ) → place_in k (map (λ y. plain y) ys) (plain x) ≡ place_from k ys x
placed k [] x = refl
placed k (y ∷ ys) x = ap (λ z. if name_eq x y then Some k else z) (placed (suc k) ys x)

-- a test of sameness is that of the definitions
pub named : (b : Bool) (x y : List ℕ) → (IsTrue b ↔ (x ≡ y)) → b ≡ name_eq y x
named b x y e = same_truth b (name_eq y x) (λ h. subst (λ z. name_eq z x ≡ true) (e.0 h) (name_refl x)) (λ h. e.1 (sym (name_same y x h)))
