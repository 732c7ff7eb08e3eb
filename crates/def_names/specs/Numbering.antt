-- The numbers of statements, points and nodes of a program.
use Rattle.std.specs.Prelude.{ℕ, ◌+◌, ◌*◌, ◌^◌, max, nat_lt, List, [], ◌∷◌, length, flat_map, Bool, ◌&&◌}
use Rattle.std.specs.List.{list_all}
use Rattle.adj_tree.specs.Code.{Act, Procedure}
use Rattle.def_names.specs.Statements.{At, statements}
use Rattle.def_names.specs.Variables.{variables}

-- the statements of all units in text order, an outer one before those in it: the i-th, counted from 0, has the number i
abbrev pub all_statements : List Procedure → List (At Act)
all_statements ps = flat_map (λ u. statements u.body) ps

-- how many there are
abbrev pub statement_count : List Procedure → ℕ
statement_count ps = length (all_statements ps)

-- the greatest number of variables of a unit
abbrev pub width : List Procedure → ℕ
width [] = 0
width (u ∷ us) = max (length (variables u)) (width us)

-- ---- points

-- before, after and inside a statement
abbrev pub point_before : ℕ → ℕ
point_before i = 3 * i

abbrev pub point_after : ℕ → ℕ
point_after i = 3 * i + 1

abbrev pub point_inside : ℕ → ℕ
point_inside i = 3 * i + 2

-- at the entry and at the end of a unit, by its number
abbrev pub entry_point : List Procedure → ℕ → ℕ
entry_point ps u = 3 * statement_count ps + 2 * u

abbrev pub end_point : List Procedure → ℕ → ℕ
end_point ps u = 3 * statement_count ps + 2 * u + 1

abbrev pub point_count : List Procedure → ℕ
point_count ps = 3 * statement_count ps + 2 * length ps

-- ---- nodes

-- a point with a variable
abbrev pub node : List Procedure → ℕ → ℕ → ℕ
node ps point v = point * width ps + v

abbrev pub node_count : List Procedure → ℕ
node_count ps = point_count ps * width ps

-- fewer than 2^30 units, statements, and variables in each unit
abbrev pub is_small : List Procedure → Bool
is_small ps = nat_lt (length ps) (2 ^ 30) && (nat_lt (statement_count ps) (2 ^ 30) && list_all (λ u. nat_lt (length (variables u)) (2 ^ 30)) ps)
