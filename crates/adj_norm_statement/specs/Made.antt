-- Names of locals that were made.
use Rattle.std.specs.Prelude.{◌≡◌, ℕ, ◌-◌, List, ◌++◌, length, take}
use Rattle.def_kernel.specs.Kernel.{local_names}

-- of the names that are taken, those before the first local
abbrev pub outside : List (List ℕ) → List (List ℕ) → List (List ℕ)
outside taken names = take (length taken - length names) taken

-- behind these stand those of the first locals, in order
pub record AreMade (taken names : List (List ℕ)) : Type 0 where
  pub all : taken ≡ outside taken names ++ names
  pub locals : names ≡ local_names (outside taken names) (length names)
