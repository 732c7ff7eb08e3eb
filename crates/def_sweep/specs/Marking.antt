-- Marks of a whole program, and the numbers of its statements and points.
use Rattle.std.specs.Prelude.{◌≡◌, ℕ, suc, ◌+◌, ◌*◌, ◌==◌, length, List, [], ◌∷◌, Bool, true, false, not, Option, Some, None, if◌then◌else◌}
use Rattle.adj_tree.specs.Code.{plain, name_eq, Procedure}
use Rattle.def_meaning.specs.Written.{find_unit, is_written}
use Rattle.def_meaning.specs.Read.{is_read}
use Rattle.def_meaning.specs.Units.{declared}
use Rattle.def_names.specs.Numbers.{Vars, everything, behind}
use Rattle.def_sweep.specs.Marks.{Marks}
use Rattle.def_sweep.specs.Facts.{Facts}
use Rattle.def_sweep.specs.Names.{adjoint_name, forth_name, back_name}
use Rattle.def_sweep.specs.Plan.{Callee, Plan}
use Rattle.def_sweep.specs.Callees.{CalleeFacts, is_plain}

-- ---- numbers: the statements of all bodies in order, an outer one before those in it; then two points for each unit

-- the number of the first statement of the unit of a name, where that of the first unit is i
abbrev pub first_from : ℕ → List Procedure → List ℕ → ℕ
first_from i [] name = i
first_from i (u ∷ us) name = if name_eq u.name name then i else first_from (behind i u.body) us name

abbrev pub first_statement : List Procedure → List ℕ → ℕ
first_statement ps name = first_from 0 ps name

-- how many statements there are
abbrev pub statements_from : ℕ → List Procedure → ℕ
statements_from i [] = i
statements_from i (u ∷ us) = statements_from (behind i u.body) us

-- the place of the unit of a name
abbrev pub place_from : ℕ → List Procedure → List ℕ → ℕ
place_from k [] name = k
place_from k (u ∷ us) name = if name_eq u.name name then k else place_from (suc k) us name

abbrev pub entry_point : List Procedure → List ℕ → ℕ
entry_point ps name = 3 * statements_from 0 ps + 2 * place_from 0 ps name

abbrev pub end_point : List Procedure → List ℕ → ℕ
end_point ps name = suc (entry_point ps name)

-- ---- marks

pub record ProgramMarks : Type 0 where
  -- by the numbers of statements and points
  pub kept : ℕ → Bool
  pub adjointed : ℕ → Bool
  pub split : ℕ → Bool
  pub saved : ℕ → Vars
  pub varied : ℕ → Vars
  pub useful : ℕ → Vars
  -- by units: the variables that have a shadow, and the dummies that the unit's adjoint needs at its entry
  pub shadowed : List ℕ → Vars
  pub members : List ℕ → Vars

-- everything is marked
abbrev pub full_marks : ProgramMarks
full_marks = record {
  kept = λ i. true;
  adjointed = λ i. true;
  split = λ i. false;
  saved = λ i. everything;
  varied = λ p. everything;
  useful = λ p. everything;
  shadowed = λ name. everything;
  members = λ name. everything;
}

-- marks by which no call is split
abbrev pub SplitsNothing : ProgramMarks → Type 0
SplitsNothing m = (i : ℕ) → m.split i ≡ false

-- the marks as a unit sees them
abbrev pub marks_in : ProgramMarks → List ℕ → Marks
marks_in m name = record { kept = m.kept; adjointed = m.adjointed; split = m.split; saved = m.saved; varied = m.varied; useful = m.useful; shadowed = m.shadowed name }

-- ---- plans

-- the dummies of a unit of which a property holds
abbrev pub dummy_set : (List ℕ → Bool) → Vars
dummy_set f (plain d) = f d
dummy_set f v = false

abbrev pub callee_of : ProgramMarks → List Procedure → List ℕ → Option Procedure → Callee
callee_of m ps name None = record { adjoint = []; forth = []; back = []; dummies = []; written = dummy_set (λ d. false); members = m.members name; shadowed = m.shadowed name }
callee_of m ps name (Some u) = record { adjoint = adjoint_name ps u; forth = forth_name ps u; back = back_name ps u; dummies = u.dummies; written = dummy_set (is_written ps u); members = m.members name; shadowed = m.shadowed name }

-- what the sweeps of a call know of the unit of a name
abbrev pub callee_in : ProgramMarks → List Procedure → List ℕ → Callee
callee_in m ps name = callee_of m ps name (find_unit ps name)

-- the variables that a unit declares with extents
abbrev pub arrays_of : Procedure → Vars
arrays_of u x = not (length (declared u.declarations x) == 0)

abbrev pub plan_in : ProgramMarks → List Procedure → Procedure → Plan
plan_in m ps u = record { marks = marks_in m u.name; arrays = arrays_of u; callees = callee_in m ps }

-- ---- facts

-- marks with what is needed and held at the points of the program
pub record ProgramFacts : Type 0 where
  pub marks : ProgramMarks
  pub needed : ℕ → Vars
  pub held : ℕ → Vars

abbrev pub full_facts : ProgramFacts
full_facts = record { marks = full_marks; needed = λ p. everything; held = λ p. everything }

abbrev pub facts_in : ProgramFacts → List ℕ → Facts
facts_in w name = record { marks = marks_in w.marks name; needed = w.needed; held = w.held }

abbrev pub read_by : List Procedure → Option Procedure → List ℕ → Bool
read_by ps None d = false
read_by ps (Some u) d = is_read ps u d

abbrev pub plain_by : Marks → ℕ → Option Procedure → Bool
plain_by m i None = true
plain_by m i (Some u) = is_plain m i u.body

-- what the laws of calls know of the unit of a name
abbrev pub callee_facts : ProgramFacts → List Procedure → List ℕ → CalleeFacts
callee_facts w ps name = record {
  callee = callee_in w.marks ps name;
  facts = facts_in w name;
  entry = entry_point ps name;
  end = end_point ps name;
  read = dummy_set (read_by ps (find_unit ps name));
  plain_unit = plain_by (marks_in w.marks name) (first_statement ps name) (find_unit ps name);
}
