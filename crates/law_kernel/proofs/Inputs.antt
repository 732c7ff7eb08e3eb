-- The same inputs fit a unit and its kernel.
use Rattle.std.proofs.Common.{◌≡◌, ℕ, List, [], ◌∷◌, map, refl}
use Rattle.std.specs.Prelude.{◌&&◌}
use Rattle.adj_tree.specs.Code.{plain, Procedure}
use Rattle.def_meaning.specs.Numbers.{Numbers}
use Rattle.def_meaning.specs.Store.{Store}
use Rattle.def_meaning.specs.Units.{Slot, extent_in, input_store, slot_fits, slots_fit, fits}
use Rattle.def_kernel.specs.Kernel.{lowered_unit}
use Rattle.law_kernel.proofs.Programs.{declares}

-- the same slots fit
slots_same : {C : Type 0} (n : Numbers C) (units : List Procedure) (u : Procedure) (s : Store C) (ds : List (List ℕ)) (vs : List (Slot C)) → slots_fit n (lowered_unit units u) s ds vs ≡ slots_fit n u s ds vs
slots_same n units u s [] [] = refl
slots_same n units u s [] (v ∷ vs) = refl
slots_same n units u s (d ∷ ds) [] = refl
slots_same n units u s (d ∷ ds) (v ∷ vs) = λ i. slot_fits (map (extent_in n s) (declares units u (plain d) i)) v && slots_same n units u s ds vs i

-- the same inputs fit
pub inputs_same : {C : Type 0} (n : Numbers C) (units : List Procedure) (u : Procedure) (input : List (Slot C)) → fits n (lowered_unit units u) input ≡ fits n u input
inputs_same n units u input = slots_same n units u (input_store n u input) u.dummies input
