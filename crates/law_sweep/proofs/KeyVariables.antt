-- When variables, names and cells are the same.
use Rattle.std.proofs.Common.{◌≡◌, true}
use Rattle.std.specs.Prelude.{◌==◌}
use Rattle.adj_tree.specs.Code.{name_eq}
use Rattle.adj_tree.proofs.Names.{nat_same, name_same}
pub use Rattle.def_meaning.proofs.Variables.{name_comm, var_refl, var_same}
use Rattle.law_sweep.specs.Pairs.{Key, key_eq}
use Rattle.def_names.proofs.Variables.{and_true}

-- cells that count as the same are the same
pub key_same : (x y : Key) → key_eq x y ≡ true → x ≡ y
key_same x y h =
    let p = and_true (name_eq x.0 y.0) (x.1 == y.1) h in
    λ i. (name_same x.0 y.0 p.0 i, nat_same x.1 y.1 p.1 i)
