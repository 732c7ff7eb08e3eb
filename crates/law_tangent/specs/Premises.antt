-- That what the law on units asks can be met: by the product, and by a program with a call. Each with the least w, 3, since two statements
-- stand before the product.
use Rattle.std.specs.Prelude.{if◌then◌else◌, ◌≡◌, ℕ, List, [], ◌∷◌, true, false, Some, IsTrue, codes}
use Rattle.adj_tree.specs.Code.{Procedure, plain, var, more, none, call, step, stop, name_eq}
use Rattle.def_meaning.specs.Written.{find_unit}
use Rattle.def_names.specs.Numbers.{Vars, everything}
use Rattle.law_tangent.specs.Laws.{CalleeFlow}
use Rattle.law_tangent.specs.Units.{UnitFits}
use Rattle.def_tangent.specs.Program.{tangent_program, Carried}
use Rattle.law_tangent.specs.Sizes.{AreLight}
use Rattle.law_tangent.specs.Emitted.{callee_of}
use Rattle.law_tangent.specs.Examples.{square, square_carried}

abbrev pub carried : Vars
carried = square_carried (codes "P")

abbrev pub its_flow : List ℕ → CalleeFlow
its_flow n = record { callee = record { tangent = codes "P_D"; dummies = codes "X" ∷ codes "Y" ∷ []; carried = carried }; entry = carried; end = carried }

abbrev pub no_arrays : Vars
no_arrays v = false

abbrev pub Unit' : List ℕ → Procedure → Type 0
Unit' name v = UnitFits 3 (square ∷ []) (tangent_program square_carried (square ∷ []) 0 (true ∷ false ∷ [])) (λ n. true) (λ n. false) (λ n. false) its_flow (λ p. carried) name v 0 3 4 (codes "X" ∷ codes "Y" ∷ []) no_arrays

abbrev pub UnitsFit : Type 0
UnitsFit = (name : List ℕ) (v : Procedure) → find_unit (square ∷ []) name ≡ Some v → IsTrue true → Unit' name v

-- the product has 3 nodes, so it is light for 4 and not for 3
abbrev pub ProductIsLight : Type 0
ProductIsLight = AreLight 4 square.body × (AreLight 3 square.body → ⊥)

-- ---- with a call, everything carried

-- SUBROUTINE Q(A,B); INTEGER*8 A,B; CALL P(A,B); END
abbrev pub caller : Procedure
caller = record {
  line = 5;
  name = codes "Q";
  dummies = codes "A" ∷ codes "B" ∷ [];
  is_none = false;
  declarations = record { line = 6; name = codes "A"; extents = [] } ∷ record { line = 6; name = codes "B"; extents = [] } ∷ [];
  body = step 7 (call (codes "P") (more (var (plain (codes "A"))) (more (var (plain (codes "B"))) none))) stop;
}

abbrev pub both : List Procedure
both = caller ∷ square ∷ []

abbrev pub all_carried : Carried
all_carried name = everything

abbrev pub flow_of : List ℕ → CalleeFlow
flow_of n = record { callee = if name_eq n (codes "P") then callee_of all_carried both square else callee_of all_carried both caller; entry = everything; end = everything }

-- P is called; Q is the head
abbrev pub Called' : List ℕ → Procedure → Type 0
Called' name v = UnitFits 3 both (tangent_program all_carried both 0 (true ∷ false ∷ [])) (λ n. true) (λ n. name_eq n (codes "P")) (λ n. false) flow_of (λ p. everything) name v 0 3 4 (codes "X" ∷ codes "Y" ∷ []) no_arrays

abbrev pub CalledFit : Type 0
CalledFit = (name : List ℕ) (v : Procedure) → find_unit both name ≡ Some v → IsTrue true → Called' name v
