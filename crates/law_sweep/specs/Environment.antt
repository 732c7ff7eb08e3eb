-- What the theorem asks of a program, of the facts about its units, and of the program that is emitted for it.
use Rattle.std.specs.Prelude.{◌≡◌, ℕ, List, [], ◌∷◌, Bool, true, false, None}
use Rattle.adj_tree.specs.Code.{Var, plain, Procedure}
use Rattle.def_meaning.specs.Written.{handed_back, is_written, writes}
use Rattle.def_meaning.specs.Read.{is_read, is_extent, looked_at}
use Rattle.def_meaning.specs.Units.{declared}
use Rattle.def_names.specs.Numbers.{Vars}
use Rattle.def_sweep.specs.Facts.{In}
use Rattle.def_meaning.specs.Apart.{has_name, AreApart}
use Rattle.def_sweep.specs.Plan.{Schedules}
use Rattle.def_sweep.specs.Callees.{CalleeFacts, is_plain}
use Rattle.law_sweep.specs.Laws.{UnitLawsBy}
use Rattle.law_sweep.specs.Kernel.{FitsListBy}
use Rattle.def_sweep.specs.Reversals.{ReversedLines}
use Rattle.def_sweep.specs.SplitMarks.{split_marks, CallsRead}

-- what is asked besides of a unit that has a forward and a backward unit
pub record PairFits (r : Schedules) (lines : ReversedLines) (ps : List Procedure) (g : List ℕ → CalleeFacts) (answers paired carried : List ℕ → Bool) (name : List ℕ) (u : Procedure) (first : ℕ) (vars : List (List ℕ)) (arrays : Vars) : Type 0 where
  pub code : FitsListBy r lines ps g answers paired carried true (split_marks (g name).facts.marks) vars arrays (handed_back ps) first u.body
  -- the adjoints of the units that it calls need nothing at their entry but what these read
  pub calls : CallsRead g (looked_at ps) u.body
  -- what it writes is among its variables
  pub written : (x : List ℕ) → writes (handed_back ps) (plain x) u.body ≡ true → has_name x vars ≡ true
  -- it doesn't write extents
  pub extents : (d : List ℕ) → is_extent d u.declarations ≡ true → is_written ps u d ≡ false
  -- its names are of a text
  pub inside : (x : List ℕ) → declared u.declarations (plain (0 ∷ x)) ≡ []

-- a unit of the source, the facts about it, the number of its first statement, its variables and those that are arrays
pub record UnitFitsBy (r : Schedules) (lines : ReversedLines) (ps : List Procedure) (g : List ℕ → CalleeFacts) (there answers paired carried : List ℕ → Bool) (name : List ℕ) (u : Procedure) (first : ℕ) (vars : List (List ℕ)) (arrays : Vars) : Type 0 where
  pub dummies : u.dummies ≡ (g name).callee.dummies
  pub dummies_apart : AreApart (g name).callee.dummies
  pub vars_apart : AreApart vars
  pub dummies_among : (d : List ℕ) → has_name d (g name).callee.dummies ≡ true → has_name d vars ≡ true
  pub scalars : (x : List ℕ) → arrays (plain x) ≡ false → declared u.declarations (plain x) ≡ []
  -- its facts are about what it writes and reads, and about its own marks
  pub wrote : (d : List ℕ) → (g name).callee.written (plain d) ≡ is_written ps u d
  pub reads : (d : List ℕ) → (g name).read (plain d) ≡ is_read ps u d
  pub shadowed : (v : Var) → (g name).callee.shadowed v ≡ (g name).facts.marks.shadowed v
  pub inert : (g name).plain_unit ≡ true → is_plain (g name).facts.marks first u.body ≡ true
  pub laws : UnitLawsBy r g (g name) first u.body
  -- the extents of its arrays are among what its adjoint needs
  pub extents : (d : List ℕ) → is_extent d u.declarations ≡ true → In (plain d) (g name).callee.members
  pub code : FitsListBy r lines ps g answers paired carried (there name) (g name).facts.marks vars arrays (handed_back ps) first u.body
  pub pair : paired name ≡ true → PairFits r lines ps g answers paired carried name u first vars arrays

-- where no loop is reversed by a schedule
abbrev pub UnitFits : (lines : ReversedLines) (ps : List Procedure) (g : List ℕ → CalleeFacts) (there answers paired carried : List ℕ → Bool) (name : List ℕ) (u : Procedure) (first : ℕ) (vars : List (List ℕ)) (arrays : Vars) → Type 0
UnitFits lines ps g there answers paired carried name u first vars arrays = UnitFitsBy None lines ps g there answers paired carried name u first vars arrays
