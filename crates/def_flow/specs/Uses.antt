-- What statements read and write, for the analyses that go backward.
use Rattle.std.specs.Prelude.{ℕ, Bool, true, false}
use Rattle.adj_tree.specs.Code.{var_eq, Act, assign, choose, loop, during, call, runtime}
use Rattle.def_names.specs.Numbers.{Vars}
use Rattle.def_names.specs.Numbering.{point_before, point_inside}
use Rattle.def_flow.specs.Standing.{Place, outermost, part_of, turn_of}

-- the point at which it uses them: a DO WHILE at each test
abbrev pub use_point : ℕ → Act → ℕ
use_point i (assign x subs e) = point_before i
use_point i (choose c a b) = point_before i
use_point i (loop x first last by body m) = point_before i
use_point i (during c body) = point_inside i
use_point i (call name args) = point_before i
use_point i (runtime r) = point_before i

-- the statement at which a call does its work: itself, or the marked loop whose turns it makes, if it is adjointed
abbrev pub site : Bool → ℕ → Place → ℕ
site b n outermost = n
site b n (part_of i) = n
site true n (turn_of i x) = i
site false n (turn_of i x) = n

-- the variable of the marked loop whose turns a call makes
abbrev pub turned_by : Place → Vars
turned_by outermost v = false
turned_by (part_of i) v = false
turned_by (turn_of i x) v = var_eq v x

abbrev pub is_turn : Place → Bool
is_turn outermost = false
is_turn (part_of i) = false
is_turn (turn_of i x) = true
