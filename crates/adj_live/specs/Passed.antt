-- The variables that statements use, hand back and pass, where it is known which of their dummies units read and write.
use Rattle.std.specs.Prelude.{ℕ, List, [], ◌++◌, Bool}
use Rattle.adj_tree.specs.Code.{Var, Act, assign, choose, loop, during, call, runtime}
use Rattle.def_names.specs.VariableLists.{vars_in, vars_in_terms, vars_in_test, vars_in_mark, read_in_actuals, handed_in_actuals}
use Rattle.adj_flow.specs.Passed.{passed_in}

-- those that a kept statement uses
abbrev pub used_by : (List ℕ → List Bool) → Act → List Var
used_by read (assign x subs e) = vars_in e ++ vars_in_terms subs
used_by read (choose c a b) = vars_in_test c
used_by read (loop x first last by body m) = vars_in first ++ (vars_in last ++ (vars_in by ++ vars_in_mark m))
used_by read (during c body) = vars_in_test c
used_by read (call name args) = read_in_actuals (read name) args
used_by read (runtime r) = []

-- those that a call may write
abbrev pub handed_by : (List ℕ → List Bool) → Act → List Var
handed_by written (assign x subs e) = []
handed_by written (choose c a b) = []
handed_by written (loop x first last by body m) = []
handed_by written (during c body) = []
handed_by written (call name args) = handed_in_actuals (written name) args
handed_by written (runtime r) = []

-- those that a call passes to dummies that are read
abbrev pub passed_by : (List ℕ → List Bool) → Act → List Var
passed_by read (assign x subs e) = []
passed_by read (choose c a b) = []
passed_by read (loop x first last by body m) = []
passed_by read (during c body) = []
passed_by read (call name args) = passed_in (read name) args
passed_by read (runtime r) = []
