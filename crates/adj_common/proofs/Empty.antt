-- Units without COMMON statements.
use Rattle.std.proofs.Common.{◌≡◌, ℕ, true, false, List, [], ◌∷◌, ◌++◌, length, map, refl, sym, ◌∙◌}
use Rattle.std.specs.Prelude.{◌==◌}
use Rattle.std.proofs.Math.Dec.{eqb-suc-zero}
use Rattle.adj_tree.specs.Common.{Common}

pub none_here : (cs : List Common) (rest : List (List ℕ)) → (length cs == 0) ≡ true → map (λ c. c.block) cs ++ rest ≡ rest
none_here [] rest h = refl
none_here (c ∷ cs) rest h = absurd (let e : false ≡ true = sym (eqb-suc-zero (length cs)) ∙ h in cc)

pub some_here : (cs : List Common) (rest : List (List ℕ)) → (length cs == 0) ≡ false → map (λ c. c.block) cs ++ rest ≡ [] → ⊥
some_here [] rest h e = cc
some_here (c ∷ cs) rest h e = cc
