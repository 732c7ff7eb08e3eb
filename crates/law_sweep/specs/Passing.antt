-- What a call hands to a unit and takes back.
use Rattle.std.specs.Prelude.{ℕ, [], ◌∷◌, if◌then◌else◌}
use Rattle.adj_tree.specs.Code.{Var, plain, shadow, helper}
use Rattle.def_meaning.specs.Store.{Shape, scalar, Store, set_all}
use Rattle.def_names.specs.Numbers.{Vars}
use Rattle.def_sweep.specs.Bindings.{Bindings}

-- the store at the unit's entry: z where nothing is handed in
abbrev pub passed_in : {C : Type 0} → C → Bindings → Store C → Store C
passed_in z [] s = λ x j. z
passed_in z (b ∷ bs) s = set_all (passed_in z bs s) b.0 (s b.1)

-- the caller's store where t is the unit's at its end, which hands back the variables that it writes
abbrev pub passed_out : {C : Type 0} → Vars → Bindings → Store C → Store C → Store C
passed_out written [] t s = s
passed_out written (b ∷ bs) t s = passed_out written bs t (if written b.0 then set_all s b.1 (t b.0) else s)

-- the shapes of the text's variables alone
abbrev pub plainly : (Var → Shape) → Var → Shape
plainly sh (plain x) = sh (plain x)
plainly sh (shadow x) = scalar
plainly sh (helper r k) = scalar
