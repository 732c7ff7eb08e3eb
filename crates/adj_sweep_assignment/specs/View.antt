-- The marks that a marking stands for.
use Rattle.std.specs.Prelude.{ℕ, ◌+◌, ◌*◌, List, Bool, false, ◌&&◌, Option, Some, None}
use Rattle.adj_tree.specs.Code.{Var, plain}
use Rattle.def_sweep.specs.Marks.{Marks, full}
use Rattle.def_sweep.specs.SplitMarks.{split_marks}
use Rattle.def_sweep.specs.Callees.{nothing}
use Rattle.adj_reach.specs.Edges.{flag}
use Rattle.adj_symbols_writes.specs.Table.{value_of}
use Rattle.def_names.specs.Numbers.{Vars}
use Rattle.adj_sweep_assignment.specs.declared.marking.Found.{Found}
use Rattle.adj_sweep_assignment.specs.declared.marking.Carried.{Carried}
use Rattle.adj_sweep_assignment.specs.declared.marking.Marking as marking
use Rattle.adj_sweep_assignment.specs.declared.marking.Marking.TheVariants as from

-- the place of a variable of the source, by the numbers of its names
abbrev pub place_of : List (List ℕ × ℕ) → Var → Option ℕ
place_of es (plain x) = value_of x es
place_of es v = None

-- the flag of the variable at a place, where a point, a statement or a unit has a number
abbrev pub flag_of : List Bool → ℕ → ℕ → Option ℕ → Bool
flag_of flags w n None = false
flag_of flags w n (Some j) = flag flags (n * w + j)

-- the marks that analyses found, as a unit sees them: an adjointed call that is flagged is split
abbrev pub found_marks : Found → Marks
found_marks f = record {
  kept = flag f.marks.now.kept.kept;
  adjointed = λ i. flag f.marks.now.activity.adjointed i;
  split = λ i. flag f.split.now i && flag f.marks.now.activity.adjointed i;
  saved = λ i v. flag_of f.marks.now.saved.saved f.width i (place_of f.places.now v);
  varied = λ p v. flag_of f.marks.now.activity.varied f.width p (place_of f.places.now v);
  useful = λ p v. flag_of f.marks.now.activity.useful f.width p (place_of f.places.now v);
  shadowed = λ v. flag_of f.marks.now.activity.shadowed f.width f.unit (place_of f.places.now v);
}

-- the variables of a unit that carry a tangent, by flags
abbrev pub carried_by : Carried → Vars
carried_by c v = flag_of c.flags.now c.width c.unit (place_of c.places.now v)

-- everything is marked, but only these variables have a shadow
abbrev pub carried_marks : Vars → Marks
carried_marks on = record full { shadowed = on }

-- the marks that the theorem on sweeps speaks of
abbrev pub marks_of : marking.Marking → Marks
marks_of from.Full = full
marks_of (from.Found f) = found_marks f
marks_of (from.Pair f) = split_marks (found_marks f)
marks_of (from.Carried c) = carried_marks (carried_by c)
marks_of from.Bare = carried_marks nothing
