-- Reads: what a text reads as.
use Rattle.std.specs.Prelude.{◌≡◌, ℕ, false, List, [], ◌∷◌, map, ◌⊎◌}
use Rattle.adj_tree.specs.Code.{Procedure}
use Rattle.adj_tree.specs.View.{mark_of}
use Rattle.adj_tree.specs.Common.{Shared, without_commons}
use Rattle.def_text.specs.Lexeme.{lexemes_of}
use Rattle.def_text.specs.Forming.{FormsText}
use Rattle.def_text.specs.Form.{Form, Statement, at, ReadsForm}
use Rattle.def_text.specs.Splits.{split_lines}
use Rattle.def_text.specs.Unit.{ReadsUnits}
use Rattle.def_text.specs.declared.stated.Kind.TheVariants.{Call}
use Rattle.def_text.specs.declared.stated.Stated.{Stated}

-- ReadsAll stated statements: each statement of a text, by its class and the lexemes behind its keyword, says what stands here; only a CALL is split
pub data ReadsAll : List Stated → List Statement → Type 0 where
  none : ReadsAll [] []
  more : {s : Stated} {ss : List Stated} {f : Form} {ts : List Statement} → (s.split ≡ false) ⊎ (s.kind ≡ Call) → ReadsForm (mark_of s.mark) s.kind (lexemes_of s.text s.tokens) f → ReadsAll ss ts → ReadsAll (s ∷ ss) (at s.line s.label f ∷ ts)

-- the lines of a text form statements, without any limit, and their lexemes derive the program with its COMMON statements
pub record ReadsShared (bytes : List ℕ) (program : List Shared) : Type 0 where
  pub stated : List Stated
  pub statements : List Statement
  pub lines_form : FormsText bytes stated
  pub lexemes_derive : ReadsAll stated statements
  pub units_derive : ReadsUnits statements program

-- the lines of a text form statements, and these are the lines of its CALLs that are split
pub record ReadsSplits (bytes : List ℕ) (lines : List ℕ) : Type 0 where
  pub stated : List Stated
  pub lines_form : FormsText bytes stated
  pub marked : lines ≡ split_lines stated

-- a text that has no COMMON statement reads as a program
abbrev pub Reads : List ℕ → List Procedure → Type 0
Reads bytes program = ReadsShared bytes (map without_commons program)
