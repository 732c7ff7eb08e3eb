-- The names of the units that are made. (docs/EMITTED.md, "Fresh names")
use Rattle.std.specs.Prelude.{ℕ, List, [], ◌∷◌, ◌++◌, map, flat_map, if◌then◌else◌, codes}
use Rattle.adj_tree.specs.Code.{name_eq, Procedure}
use Rattle.def_names.specs.Fresh.{fresh}
use Rattle.def_sweep.specs.Declared.{unit_name}
use Rattle.def_names.specs.Variables.{variables}

-- the names of the source: those of units, and those of all variables, declared or not
abbrev pub source_names : List Procedure → List (List ℕ)
source_names ps = map unit_name ps ++ flat_map variables ps

-- the name that is made for the unit of a name, with these letters at its end, where units are named in order, each by a name that isn't taken
abbrev pub named_after : List ℕ → List (List ℕ) → List Procedure → List ℕ → List ℕ
named_after ending taken [] name = []
named_after ending taken (u ∷ us) name =
    let made = fresh (u.name ++ ending) taken in
    if name_eq u.name name then made else named_after ending (taken ++ (made ∷ [])) us name

-- all these names
abbrev pub named_list : List ℕ → List (List ℕ) → List Procedure → List (List ℕ)
named_list ending taken [] = []
named_list ending taken (u ∷ us) = let made = fresh (u.name ++ ending) taken in made ∷ named_list ending (taken ++ (made ∷ [])) us

-- the names of the adjoints
abbrev pub adjoint_after : List (List ℕ) → List Procedure → List ℕ → List ℕ
adjoint_after taken us name = named_after (codes "_B") taken us name

-- the name of the adjoint of a unit: no name of the source has it, and no adjoint of a unit before it
abbrev pub adjoint_name : List Procedure → Procedure → List ℕ
adjoint_name ps u = adjoint_after (source_names ps) ps u.name

-- what is taken when forward units are named, and when backward units are: no two names with these endings are the same anyway
abbrev pub taken_forth : List Procedure → List (List ℕ)
taken_forth ps = source_names ps ++ named_list (codes "_B") (source_names ps) ps

abbrev pub taken_back : List Procedure → List (List ℕ)
taken_back ps = taken_forth ps ++ named_list (codes "_FWD") (taken_forth ps) ps

abbrev pub forth_name : List Procedure → Procedure → List ℕ
forth_name ps u = named_after (codes "_FWD") (taken_forth ps) ps u.name

abbrev pub back_name : List Procedure → Procedure → List ℕ
back_name ps u = named_after (codes "_BWD") (taken_back ps) ps u.name
