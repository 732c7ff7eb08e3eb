-- Programs: what texts are as programs. (docs/REFUSALS.md)
use Rattle.std.specs.Prelude.{◌≡◌, ℕ, List, [], None, Some, Result, Ok, Err}
use Rattle.adj_tree.specs.Code.{Procedure}
use Rattle.adj_tree.specs.declared.fault.Fault.{Fault}
use Rattle.adj_tree.specs.declared.fault.Fault.TheVariants.{Memory, Refused}
use Rattle.adj_tree.specs.declared.fault.Refusal.{Refusal}
use Rattle.adj_tree.specs.Common.{Shared}
use Rattle.def_common.specs.Lowering.{lowered_program}
use Rattle.def_common.specs.Refused.{layout_refusal}
use Rattle.def_common.specs.Source.{ReadsLowered}
use Rattle.def_text.specs.Form.{Statement}
use Rattle.def_text.specs.Limits.{limits_of, no_limits}
use Rattle.def_text.specs.Lined.{Lines, lines_of}
use Rattle.def_text.specs.Reads.{ReadsAll}
use Rattle.def_text.specs.Stated.{statements_of}
use Rattle.def_text.specs.Unit.{ReadsUnits}
use Rattle.def_text.specs.declared.mode.Mode.{Mode}
use Rattle.def_text.specs.declared.stated.Stated.{Stated}
use Rattle.def_refused.specs.First.{IsFirst, AreFaultless, HasNone}
use Rattle.def_text.specs.Forming.{lines_in}
use Rattle.def_refused.specs.LineFaults.{LineFault}
use Rattle.def_refused.specs.Prefixes.{ReadsUpTo}
use Rattle.def_refused.specs.StatementFaults.{StatementFault}
use Rattle.def_refused.specs.TextFaults.{FirstFault}
use Rattle.def_refused.specs.TreeFaults.{TreeFault}

-- ---- statements

-- the first fault of the lines of a text, or of the statements that lines without a fault give
pub data FirstOfStatements (mode : Mode) (bytes : List ℕ) (r : Refusal) : Type 0 where
  of_lines : IsFirst (LineFault (limits_of mode)) [] (lines_in bytes) r → FirstOfStatements mode bytes r
  of_statements : (ss : List Lines) → lines_of (limits_of mode) bytes ≡ Ok ss → IsFirst (StatementFault (limits_of mode)) [] ss r → FirstOfStatements mode bytes r

-- what a text is as statements in a mode: refused by its first fault, and where it has none the statements of the text as such
abbrev pub AreStatements : Mode → List ℕ → Result (List Stated) Refusal → Type 0
AreStatements mode bytes (Ok stated) = HasNone (FirstOfStatements mode bytes) × (statements_of no_limits bytes ≡ Ok stated)
AreStatements mode bytes (Err r) = FirstOfStatements mode bytes r

-- these are the statements of a text
abbrev pub AreOfText : Mode → List Stated → Type 0
AreOfText mode stated = (bytes : List ℕ) × AreStatements mode bytes (Ok stated)

-- ---- units

-- the lexemes of statements derive these units, with their COMMON statements
pub record DeriveUnits (stated : List Stated) (units : List Shared) : Type 0 where
  pub statements : List Statement
  pub lexemes_derive : ReadsAll stated statements
  pub units_derive : ReadsUnits statements units

-- they derive units whose blocks are laid out alike, and this is the program of these units in which members of blocks are dummies
pub record DeriveProgram (stated : List Stated) (program : List Procedure) : Type 0 where
  pub units : List Shared
  pub derive : DeriveUnits stated units
  pub alike : layout_refusal units ≡ None
  pub is : program ≡ lowered_program units

-- the first fault of statements as units, up to which they read, or of the blocks of the units that statements without a fault derive
pub data FirstOfUnits (mode : Mode) (stated : List Stated) (r : Refusal) : Type 0 where
  of_trees : IsFirst (TreeFault mode) [] stated r → ReadsUpTo mode stated r → FirstOfUnits mode stated r
  of_blocks : (units : List Shared) → AreFaultless (TreeFault mode) [] stated → DeriveUnits stated units → layout_refusal units ≡ Some r → FirstOfUnits mode stated r

-- what statements are as a program in a mode: refused by their first fault, and where they have none the program that they derive
abbrev pub AreUnits : Mode → List Stated → Result (List Procedure) Refusal → Type 0
AreUnits mode stated (Ok program) = AreFaultless (TreeFault mode) [] stated × DeriveProgram stated program
AreUnits mode stated (Err r) = FirstOfUnits mode stated r

-- ---- programs

-- what a text is in a mode: refused by its first fault, and where it has none the program that it reads as, in which members of blocks are dummies
abbrev pub IsProgram : Mode → List ℕ → Result (List Procedure) Refusal → Type 0
IsProgram mode bytes (Ok program) = HasNone (FirstFault mode bytes) × ReadsLowered bytes program
IsProgram mode bytes (Err r) = FirstFault mode bytes r

-- what a text is in a mode is such
pub record TextIs (mode : Mode) (IsSuch : Result (List Procedure) Refusal → Type 0) (bytes : List ℕ) : Type 0 where
  pub found : Result (List Procedure) Refusal
  pub is : IsProgram mode bytes found
  pub such : IsSuch found

-- ---- what calls give of them

-- the refusal is such, unless memory ran out
abbrev pub Refuses : Fault → (Refusal → Type 0) → Type 0
Refuses Memory IsSuch = Unit {0}
Refuses (Refused r) IsSuch = IsSuch r

-- the answer is such, unless memory ran out
abbrev pub Tells : {X Y : Type 0} → (X → Y) → Result X Fault → (Result Y Refusal → Type 0) → Type 0
Tells view (Ok x) IsSuch = IsSuch (Ok (view x))
Tells view (Err e) IsSuch = Refuses e (λ r. IsSuch (Err r))
