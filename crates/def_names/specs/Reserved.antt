-- Reserved names: those of the intrinsics and of the calls of the runtime, which neither variables nor units have.
use Rattle.std.specs.Prelude.{ℕ, List, [], ◌∷◌, ◌++◌, Bool, codes}
use Rattle.def_meaning.specs.Apart.{has_name}

abbrev pub intrinsics : List (List ℕ)
intrinsics = codes "ABS" ∷ codes "IABS" ∷ codes "MAX" ∷ codes "MAX0" ∷ codes "MIN" ∷ codes "MIN0" ∷ codes "MOD" ∷ []

abbrev pub runtime_names : List (List ℕ)
runtime_names =
    codes "PUSHINTEGER8" ∷ codes "POPINTEGER8" ∷ codes "PUSHINTEGER8ARRAY" ∷ codes "POPINTEGER8ARRAY"
    ∷ codes "PUSHCONTROL1B" ∷ codes "POPCONTROL1B" ∷ codes "ADZERO8"
    ∷ codes "ADBEG" ∷ codes "ADEND" ∷ codes "ADACTN" ∷ codes "ADACT" ∷ []

abbrev pub reserved : List (List ℕ)
reserved = intrinsics ++ runtime_names

-- whether a call of the runtime has the name
abbrev pub is_runtime : List ℕ → Bool
is_runtime x = has_name x runtime_names

-- whether an intrinsic or a call of the runtime has it
abbrev pub is_reserved : List ℕ → Bool
is_reserved x = has_name x reserved
