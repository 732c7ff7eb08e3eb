-- What patterns and groups say of dual runs.
use Rattle.std.specs.Prelude.{◌≡◌, ◌≢◌, ◌&&◌, ℕ, suc, ◌<◌, ℤ, pos, List, [], map, Bool, true, false, Option}
use Rattle.adj_tree.specs.Code.{Procedure}
use Rattle.def_meaning.specs.Numbers.{Numbers, words}
use Rattle.def_meaning.specs.Scene.{Done}
use Rattle.def_meaning.specs.Units.{Slot, Output, run_unit}
use Rattle.def_meaning.specs.Seen.{Projects, slot_seen, ending_seen}
use Rattle.def_jacobian.specs.Columns.{Columns, one_column, marked}
use Rattle.def_jacobian.specs.Inputs.{by_columns, in_direction, tangents, paired}
use Rattle.def_jacobian.specs.Patterns.{Task, pattern_run, dual_run, Place, columns_at, tangent_of, dense}
use Rattle.def_jacobian.specs.Groups.{share, in_group, count_of, HasColumn, AreLeastGroups, seed}
use Rattle.def_jacobian.specs.Recovered.{rows_at, columns_in, entries, found}

-- a pattern run without its columns is the run of its words: the same end, after as many statements, with the same events
abbrev pub ColumnsForgotten : Type 0
ColumnsForgotten = (units : List Procedure) (u : Procedure) (input : List (Slot (ℤ × Columns))) (tape : List (ℤ × Columns)) (room : Option ℕ) (k : ℕ) →
    ending_seen (λ a. a.0) (run_unit marked units u input tape room k) ≡ run_unit words units u (map (slot_seen (λ a. a.0)) input) (map (λ a. a.0) tape) room k

-- and it ends as the dual run in every direction
abbrev pub EndsAsDual : Type 0
EndsAsDual = (p : Task) (t : ℕ → ℤ) → ending_seen (λ a. a.0) (pattern_run p) ≡ ending_seen (λ a. a.0) (dual_run p t)

-- the input of a dual run in a direction is the input paired with tangents of the same extents
abbrev pub DirectionPaired : Type 0
DirectionPaired = (t : ℕ → ℤ) (vars : List Bool) (input : List (Slot ℤ)) → paired input (tangents t vars input) ≡ in_direction t vars input

-- directions that agree at the columns of a set
abbrev pub AgreeOver : Columns → (ℕ → ℤ) → (ℕ → ℤ) → Type 0
AgreeOver s t t' = (c : ℕ) → s c ≡ true → t c ≡ t' c

-- where a pattern run is done, the tangent of a cell depends on the tangents of its columns alone
abbrev pub TangentsByColumns : Type 0
TangentsByColumns = (p : Task) (out : Output (ℤ × Columns)) (used : ℕ) → pattern_run p ≡ Done out used → (t t' : ℕ → ℤ) (a : Place) →
    AgreeOver (columns_at out a) t t' → tangent_of (dual_run p t) a ≡ tangent_of (dual_run p t') a

-- so an entry of the dense derivative outside the pattern is 0
abbrev pub OutsideIsZero : Type 0
OutsideIsZero = (p : Task) (out : Output (ℤ × Columns)) (used : ℕ) → pattern_run p ≡ Done out used → (a : Place) (j : ℕ) → columns_at out a j ≡ false → dense p a j ≡ pos 0

-- two columns of a group share no row
abbrev pub SharesNone : Type 0
SharesNone = (rows : List (List ℕ)) (n : ℕ) (groups : List ℕ) → AreLeastGroups rows n groups → (g c d : ℕ) → in_group groups g c ≡ true → in_group groups g d ≡ true → c ≢ d → share rows c d ≡ false

-- there is one way to give least groups
abbrev pub OneGrouping : Type 0
OneGrouping = (rows : List (List ℕ)) (n : ℕ) (groups others : List ℕ) → AreLeastGroups rows n groups → AreLeastGroups rows n others → groups ≡ others

-- each group is below the count, and the one below it has a column
abbrev pub GroupsCounted : Type 0
GroupsCounted = (groups : List ℕ) (g : ℕ) → ((c : ℕ) → in_group groups g c ≡ true → g < count_of groups) × (count_of groups ≡ suc g → HasColumn groups g)

-- where a cell has one column of a group, its tangent in the dual run on the group's seeds is the dense entry for that column
abbrev pub GroupGivesEntry : Type 0
GroupGivesEntry = (p : Task) (out : Output (ℤ × Columns)) (used : ℕ) → pattern_run p ≡ Done out used → (a : Place) (groups : List ℕ) (g j : ℕ) → in_group groups g j ≡ true →
    ((c : ℕ) → columns_at out a c ≡ true → in_group groups g c ≡ true → c ≡ j) → tangent_of (dual_run p (seed groups g)) a ≡ dense p a j

-- each entry that is recovered from one dual run for each group is that of the dense derivative
abbrev pub RecoversDense : Type 0
RecoversDense = (p : Task) (out : Output (ℤ × Columns)) (used : ℕ) → pattern_run p ≡ Done out used → (cells : List Place) (n : ℕ) (groups : List ℕ) →
    AreLeastGroups (columns_in (rows_at out n cells)) n groups →
    entries (found groups (λ g. tangent_of (dual_run p (seed groups g)))) (rows_at out n cells) 0 ≡ entries (dense p) (rows_at out n cells) 0

-- a number with some of the columns alone
abbrev pub in_part : Columns → ℤ × Columns → ℤ × Columns
in_part inside a = (a.0, λ c. a.1 c && inside c)

-- a pattern can be found part by part: a run over numbers that are seen as words with some of the columns is the pattern run, seen with these
abbrev pub PatternByParts : Type 0 → Type 0
PatternByParts C = (inside : Columns) (h : C → ℤ × Columns) (n : Numbers C) → Projects h n marked → (own : ℤ → ℕ → C) → ((z : ℤ) (j : ℕ) → h (own z j) ≡ in_part inside (z, one_column j)) → (p : Task) →
    ending_seen h (run_unit n p.units p.unit (by_columns n.of_word own p.vars p.input 0) [] p.room p.budget) ≡ ending_seen (in_part inside) (pattern_run p)
