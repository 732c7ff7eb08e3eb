-- The adjoint of a program by marks. The first statement of the head has the number i.
use Rattle.std.specs.Prelude.{ℕ, List, [], ◌∷◌, if◌then◌else◌}
use Rattle.adj_tree.specs.Code.{plain, shadow, Declaration, Procedure}
use Rattle.def_sweep.specs.Naming.{Named, name_in}
use Rattle.def_names.specs.Numbers.{Vars}
use Rattle.def_sweep.specs.Declared.{declaration}

-- each name followed by that of its shadow, if it has one
abbrev pub shadows_behind : Vars → List Named → List (List ℕ) → List (List ℕ)
shadows_behind a ns [] = []
shadows_behind a ns (x ∷ xs) = if a (plain x) then x ∷ name_in ns (shadow x) ∷ shadows_behind a ns xs else x ∷ shadows_behind a ns xs

-- the declaration of each followed by that of its shadow, which has its extents
abbrev pub declared_behind : Vars → List Named → Procedure → List (List ℕ) → List Declaration
declared_behind a ns p [] = []
declared_behind a ns p (x ∷ xs) =
    let d = declaration p.line p.declarations x in
    if a (plain x) then d ∷ record d { name = name_in ns (shadow x) } ∷ declared_behind a ns p xs else d ∷ declared_behind a ns p xs
