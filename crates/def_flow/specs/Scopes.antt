-- The scope of a problem: its units, and which variables each has.
use Rattle.std.specs.Prelude.{ℕ, List, [], ◌∷◌, ◌++◌, map, flat_map, filter, Bool, ◌==◌, not}
use Rattle.adj_tree.specs.Code.{Var, plain, var_eq}
use Rattle.def_flow.specs.Parts.{Part, parts}
use Rattle.def_names.specs.VariableLists.{standing_in}
use Rattle.def_flow.specs.Problem.{Problem, statements_of}
use Rattle.def_flow.specs.Activity.{unit}
use Rattle.def_flow.specs.Rules.{Scope}
use Rattle.def_flow.specs.Closure.{is_in}

abbrev pub same_number : ℕ → ℕ → Bool
same_number m n = m == n

-- each once, where it first stands
abbrev pub distinct : List Var → List Var
distinct [] = []
distinct (x ∷ xs) = x ∷ filter (λ z. not (var_eq z x)) (distinct xs)

-- the dummies of a unit and what stands in its statements
abbrev pub variables_of : Part → List Var
variables_of g = distinct (map plain g.unit.dummies ++ flat_map (λ s. standing_in s.act) (statements_of g))

abbrev pub scope_of : Problem → List ℕ → Scope
scope_of k numbers = record { parts = filter (λ g. is_in same_number numbers g.number) (parts k.units); variables = variables_of }
