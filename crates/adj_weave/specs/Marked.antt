-- The marks by which a program's adjoint is emitted.
use Rattle.std.specs.Prelude.{◌≡◌, ℕ, ◌*◌, ◌≤◌, List, [], map, length, Bool, true, false, ◌&&◌, slice_index_or}
use Rattle.adj_tree.specs.Code.{plain, Procedure}
use Rattle.adj_tree.specs.declared.marks.Marks as flags
use Rattle.def_meaning.specs.Written.{find_unit}
use Rattle.def_names.specs.Numbers.{Vars}
use Rattle.def_sweep.specs.Marks.{Marks, full}
use Rattle.def_sweep.specs.Marking.{ProgramMarks, full_marks, dummy_set, place_from, read_by}
use Rattle.adj_reach.specs.Edges.{flag}
use Rattle.adj_flow.specs.declared.units.Flow.{Flow}
use Rattle.adj_flow.specs.Asked.{units_of, variables_of}
use Rattle.adj_flow.specs.Nodes.{node_in}
use Rattle.adj_flow.specs.Told.{flag_at, told_of}
use Rattle.adj_flow.specs.Marked.{activity_of, liveness_of, saved_of}
use Rattle.adj_sweep.specs.declared.callees.Dummy.{Dummy}
use Rattle.adj_weave_units.specs.Flowing.{scope_in, IsFlowOf}
use Rattle.adj_weave.specs.declared.marks.Marked as marked
use Rattle.adj_weave.specs.declared.marks.Marked.TheVariants as by

-- ---- what flags tell over the flow of a program

-- the marks of the program: an adjointed call that is flagged is split
abbrev pub marks_told : Flow → flags.Marks → ProgramMarks
marks_told f t =
    let a = activity_of f t.activity in
    let l = liveness_of (λ p v. false) f t.kept in
    record {
      kept = l.kept;
      adjointed = a.adjointed;
      split = λ i. flag f.split i && a.adjointed i;
      saved = saved_of f t.saved;
      varied = a.varied;
      useful = a.useful;
      shadowed = λ name. a.shadowed (place_from 0 (units_of f) name);
      members = λ name. dummy_set (l.wanted (place_from 0 (units_of f) name));
    }

-- the marks as the unit of a number sees them, by the places of its variables
abbrev pub marks_at : Flow → flags.Marks → ℕ → Marks
marks_at f t k =
    let vs = map plain (slice_index_or (variables_of f) k []) in
    record {
      kept = flag t.kept.kept;
      adjointed = λ i. flag t.activity.adjointed i;
      split = λ i. flag f.split i && flag t.activity.adjointed i;
      saved = λ i v. flag_at t.saved.saved (node_in f.width vs (i, v));
      varied = λ p v. flag_at t.activity.varied (node_in f.width vs (p, v));
      useful = λ p v. flag_at t.activity.useful (node_in f.width vs (p, v));
      shadowed = λ v. flag_at t.activity.shadowed (node_in f.width vs (k, v));
    }

-- what the sweeps of calls know of a dummy of the unit of a number
abbrev pub dummy_told : Flow → flags.Marks → ℕ → List ℕ → Bool → Dummy
dummy_told f t k d w = record {
  written = w;
  read = false;
  member = told_of t.kept.entry (scope_in f) f.width k (plain d);
  shadowed = told_of t.activity.shadowed (scope_in f) f.width k (plain d);
}

-- ---- all marks, or those

-- of the program
abbrev pub program_marks : marked.Marked → ProgramMarks
program_marks by.Full = full_marks
program_marks (by.Found g) = marks_told g.flow.now g.marks.now

-- as the unit of a number sees them
abbrev pub unit_marks : marked.Marked → ℕ → Marks
unit_marks by.Full k = full
unit_marks (by.Found g) k = marks_at g.flow.now g.marks.now k

-- of a dummy of that unit, which the unit writes or not
abbrev pub unit_dummy : marked.Marked → ℕ → List ℕ → Bool → Dummy
unit_dummy by.Full k d w = record { written = w; read = false; member = true; shadowed = true }
unit_dummy (by.Found g) k d w = dummy_told g.flow.now g.marks.now k d w

-- what the units of a program read
abbrev pub reads_in : List Procedure → List ℕ → Vars
reads_in ps name = dummy_set (read_by ps (find_unit ps name))

-- there are at least so many units
abbrev pub HasUnits : marked.Marked → ℕ → Type 0
HasUnits by.Full n = Unit {0}
HasUnits (by.Found g) n = n ≤ length g.flow.now.parts.items

-- what is found, is found over these units
abbrev pub KnowsUnits : marked.Marked → List Procedure → Type 0
KnowsUnits by.Full ps = Unit {0}
KnowsUnits (by.Found g) ps = units_of g.flow.now ≡ ps

-- what is found, is found over the flow of the program
abbrev pub IsOver : marked.Marked → List Procedure → ℕ → Type 0
IsOver by.Full ps h = Unit {0}
IsOver (by.Found g) ps h = IsFlowOf ps h g.flow.now
