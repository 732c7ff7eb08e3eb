-- Which variables the actuals of a CALL name, one after the other.
use Rattle.std.specs.Prelude.{List, [], ◌∷◌, Bool, false, ◌&&◌, ◌||◌, Option, Some, None, if◌then◌else◌}
use Rattle.adj_tree.specs.Code.{Var, Term, Terms, none, more, Procedure}
use Rattle.def_meaning.specs.Apart.{is_named, has_name}
use Rattle.def_meaning.specs.Written.{is_place_of}
use Rattle.def_names.specs.Variables.{Name}
use Rattle.def_names.specs.WriteFaults.{named_by, is_whole_array}
use Rattle.adj_sets.specs.Sets.{with_name}

-- the variables that are named so far, for dummies that are written, and as whole arrays
pub record Named : Type 0 where
  pub seen : List Name
  pub written : List Name
  pub arrays : List Name

abbrev pub and_named : Named → Name → Bool → Bool → Named
and_named n x w a = record { seen = with_name n.seen x; written = if w then with_name n.written x else n.written; arrays = if a then with_name n.arrays x else n.arrays }

-- whether an actual of that variable clashes with one that is named
abbrev pub is_met : Named → Name → Bool → Bool → Bool
is_met n x w a = (has_name x n.seen && w) || (has_name x n.written || (a && has_name x n.arrays))

-- the same as tests of variables
pub record Tests : Type 0 where
  pub seen : Var → Bool
  pub written : Var → Bool
  pub arrays : Var → Bool

abbrev pub tests_of : Named → Tests
tests_of n = record { seen = is_named n.seen; written = is_named n.written; arrays = is_named n.arrays }

-- one more actual, of which it is said whether its dummy is written
abbrev pub and_actual : Procedure → Tests → Bool → Term → Tests
and_actual u t w e = record {
  seen = λ x. is_place_of x e || t.seen x;
  written = λ x. (w && is_place_of x e) || t.written x;
  arrays = λ x. (is_whole_array u e && is_place_of x e) || t.arrays x;
}

abbrev pub meets_one : Procedure → Tests → Bool → Term → Option Var → Bool
meets_one u t w e None = false
meets_one u t w e (Some x) = (t.seen x && w) || (t.written x || (is_whole_array u e && t.arrays x))

-- whether it clashes with one before it
abbrev pub meets : Procedure → Tests → Bool → Term → Bool
meets u t w e = meets_one u t w e (named_by e)

-- whether some actual does
abbrev pub some_meets : Procedure → Tests → List Bool → Terms → Bool
some_meets u t [] es = false
some_meets u t (w ∷ ws) none = false
some_meets u t (w ∷ ws) (more e es) = meets u t w e || some_meets u (and_actual u t w e) ws es
