-- A body that puts the tangent after the assignment isn't a tangent, by the definition.
use Rattle.std.specs.Prelude.{ℕ, [], ◌∷◌, true, false, codes}
use Rattle.adj_tree.specs.Code.{plain, times, plus, var, none, bin, assign, step, stop, Procedure}
use Rattle.def_names.specs.Numbers.{everything}
use Rattle.def_tangent.specs.Program.{Carried}
use Rattle.law_tangent.specs.IsTangent.{IsTangent}

-- SUBROUTINE P(X); X=X*X
abbrev pub squares_itself : Procedure
squares_itself = record {
  line = 1;
  name = codes "P";
  dummies = codes "X" ∷ [];
  is_none = false;
  declarations = record { line = 2; name = codes "X"; extents = [] } ∷ [];
  body = step 3 (assign (plain (codes "X")) none (bin times (var (plain (codes "X"))) (var (plain (codes "X"))))) stop;
}

abbrev pub all_of_it : Carried
all_of_it name = everything

-- SUBROUTINE P_D(X,XD); X=X*X; ADY1=XD*X+X*XD; XD=ADY1
abbrev pub tangent_behind : Procedure
tangent_behind = record {
  line = 1;
  name = codes "P_D";
  dummies = codes "X" ∷ codes "XD" ∷ [];
  is_none = false;
  declarations = record { line = 2; name = codes "X"; extents = [] } ∷ record { line = 2; name = codes "XD"; extents = [] } ∷ record { line = 1; name = codes "ADY1"; extents = [] } ∷ [];
  body =
      step 3 (assign (plain (codes "X")) none (bin times (var (plain (codes "X"))) (var (plain (codes "X")))))
      (step 3 (assign (plain (codes "ADY1")) none (bin plus (bin times (var (plain (codes "XD"))) (var (plain (codes "X")))) (bin times (var (plain (codes "X"))) (var (plain (codes "XD"))))))
      (step 3 (assign (plain (codes "XD")) none (var (plain (codes "ADY1")))) stop));
}

-- for any bound on statements
abbrev pub BehindIsRefused : Type 0
BehindIsRefused = (w : ℕ) → IsTangent w all_of_it (squares_itself ∷ []) 0 (true ∷ []) (tangent_behind ∷ []) → ⊥
