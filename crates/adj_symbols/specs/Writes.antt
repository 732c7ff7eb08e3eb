-- The names of the variables that statements may write, and which units write which of their dummies.
use Rattle.std.specs.Prelude.{ℕ, List, [], ◌∷◌, Bool, Option, Some, None, unwrap_or}
use Rattle.std.specs.List.{list_any, slice_get}
use Rattle.adj_tree.specs.Code.{Var, Act, assign, choose, loop, during, call, runtime}
use Rattle.def_meaning.specs.LeastSet.{Dummies}
use Rattle.def_meaning.specs.Apart.{has_name}
use Rattle.def_names.specs.Variables.{Name}
use Rattle.def_names.specs.VariableLists.{handed_in_actuals}
use Rattle.adj_symbols_writes.specs.Names.{names_among, changed_by}

-- what a statement may write itself, those in it left aside
abbrev pub written_in : Dummies → Act → List Var
written_in handed (assign x subs e) = x ∷ []
written_in handed (choose c a b) = []
written_in handed (loop x first last by body m) = x ∷ []
written_in handed (during c body) = []
written_in handed (call name args) = handed_in_actuals (handed name) args
written_in handed (runtime r) = changed_by r

abbrev pub written_names : Dummies → Act → List Name
written_names handed a = names_among (written_in handed a)

-- whether a statement may write one of some variables
abbrev pub writes_one : Dummies → List Name → Act → Bool
writes_one handed xs a = list_any (λ x. has_name x xs) (written_names handed a)

-- the row at a number, none where there is no number
abbrev pub row_at : List (List Bool) → Option ℕ → List Bool
row_at rows None = []
row_at rows (Some n) = unwrap_or (slice_get rows n) []
