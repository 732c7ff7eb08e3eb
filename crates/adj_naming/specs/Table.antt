-- The names of an emitted unit as a table.
use Rattle.std.specs.Prelude.{ℕ, List, [], ◌∷◌, ◌++◌, map}
use Rattle.adj_tree.specs.Code.{Var, plain, shadow, helper}
use Rattle.def_sweep.specs.Naming.{Named, own, naming}
use Rattle.adj_naming.specs.Roles.{variable_of}
use Rattle.adj_naming.specs.declared.names.Names.{Names}

-- variables and their names
abbrev pub paired : List Var → List (List ℕ) → List Named
paired [] ns = []
paired (v ∷ vs) [] = []
paired (v ∷ vs) (n ∷ ns) = record { variable = v; name = n } ∷ paired vs ns

-- all names of the unit: of its variables, of their shadows, and of the helpers
abbrev pub table_of : Names → List Named
table_of n = map own n.variables ++ (paired (map shadow n.shadowed) n.shadows ++ paired (map variable_of n.helpers) n.helper_names)

-- the variables under these names; those of the text keep theirs
abbrev pub named_by : Names → Var → Var
named_by n (plain x) = plain x
named_by n (shadow x) = naming (table_of n) (shadow x)
named_by n (helper r k) = naming (table_of n) (helper r k)
