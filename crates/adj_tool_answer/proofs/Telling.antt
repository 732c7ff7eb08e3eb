-- Telling: what the functions of the reader give is what a text is by its faults.
use Rattle.std.proofs.Common.{◌≡◌, ℕ, List, [], ◌∷◌, Option, Some, None, Result, Ok, Err, inl, inr, IfOk, refl, sym, ap, subst, ◌∙◌}
use Rattle.adj_tree.specs.Code.{Procedure}
use Rattle.adj_tree.specs.View.{procedures_of}
use Rattle.adj_tree.specs.declared.fault.Fault.{Fault}
use Rattle.adj_tree.specs.declared.fault.Fault.TheVariants.{Memory, Refused}
use Rattle.adj_tree.specs.declared.fault.Refusal.{Refusal}
use Rattle.adj_tree.specs.declared.unit.Program.{Program}
use Rattle.adj_tree.specs.Common.{Shared}
use Rattle.def_common.specs.Lowering.{lowered_program}
use Rattle.def_common.specs.Refused.{layout_refusal}
use Rattle.def_common.specs.Source.{without_blocks, or_refused, ReadsLowered}
use Rattle.def_text.specs.Limits.{limits_of, no_limits}
use Rattle.def_text.specs.Lined.{Lines, lines_of}
use Rattle.def_text.specs.Reads.{ReadsShared}
use Rattle.def_text.specs.Refused.{◌>>=◌, Fails, Gives}
use Rattle.def_text.specs.Stated.{all_stated, statements_of}
use Rattle.def_text.specs.Written.{AreWritten}
use Rattle.def_text.specs.declared.mode.Mode.{Mode}
use Rattle.def_text.specs.declared.stated.Stated.{Stated}
use Rattle.def_text.proofs.Cut.{forms_text}
use Rattle.def_text.proofs.Unlimited.{statements_follow}
use Rattle.adj_parse.specs.Trees.{trees_of}
use Rattle.adj_parse.proofs.TextReads.{derived, one_program}
use Rattle.def_refused.specs.First.{Faults, HasNone, AreFaultless, IsFirst, IsAnswer}
use Rattle.def_text.specs.Forming.{lines_in}
use Rattle.def_refused.specs.LineFaults.{LineFault}
use Rattle.def_refused.specs.Refusals.{LinesAnswer, LinesRefused, StatementsAnswer, StatementsRefused, TreesAnswer, TreesReadUpTo}
use Rattle.def_refused.specs.Scanned.{FirstScanned, in_lines, in_statements, in_trees}
use Rattle.def_refused.proofs.Scanned.{first_scanned, scanned_first}
use Rattle.def_refused.specs.StatementFaults.{StatementFault}
use Rattle.def_refused.specs.TextFaults as faults
use Rattle.def_refused.specs.TextFaults.{program_of, FirstOfText, FirstFault, TextRefused, TextFirst, TextAccepted}
use Rattle.def_refused.specs.TreeFaults.{TreeFault}
use Rattle.law_common.specs.LoweredTexts.{LoweredIsWritten}
use Rattle.adj_symbols.specs.Checked.{IsWrittenIfNamed}
use Rattle.adj_tool_answer.specs.declared.reading.Reading.{Reading}
use Rattle.adj_tool_answer.specs.Laws.{StatementsTold, StatementsOnly, UnitsTold, ProgramTold, ProgramOnly}
use Rattle.adj_tool_answer.specs.Programs as programs
use Rattle.adj_tool_answer.specs.Programs.{FirstOfStatements, of_lines, of_statements, AreStatements, DeriveUnits, DeriveProgram, AreUnits, IsProgram, Refuses, Tells}

-- the program of what is read
abbrev pub program_in : Reading → List Procedure
program_in r = procedures_of r.program

-- ---- answers

-- an answer with one is such, and so is a call's that gives it
pub tells : {X Y : Type 0} (view : X → Y) (result : Result X Fault) (spec : Result Y Refusal) (IsSuch : Result Y Refusal → Type 0) → Gives view result spec → IsSuch spec → Tells view result IsSuch
tells view (Ok x) spec IsSuch h such = subst IsSuch h such
tells view (Err Memory) spec IsSuch h such = tt
tells view (Err (Refused r)) spec IsSuch h such = subst IsSuch h such

-- where one answer alone is such, it is the call's
pub gives : {X Y : Type 0} (view : X → Y) (result : Result X Fault) (spec : Result Y Refusal) (IsSuch : Result Y Refusal → Type 0) → Tells view result IsSuch → ((found : Result Y Refusal) → IsSuch found → spec ≡ found) → Gives view result spec
gives view (Ok x) spec IsSuch h only = only (Ok (view x)) h
gives view (Err Memory) spec IsSuch h only = tt
gives view (Err (Refused r)) spec IsSuch h only = only (Err r) h

-- places without a fault have no first one
none_first : {A : Type 0} (Fault : Faults A) (before all : List A) (r : Refusal) → AreFaultless Fault before all → IsFirst Fault before all r → ⊥
none_first Fault before [] r h f = f
none_first Fault before (a ∷ after) r h (inl least) = h.0 r least.stands
none_first Fault before (a ∷ after) r h (inr behind) = none_first Fault (a ∷ before) after r h.1 behind.1

-- an answer isn't there and refused at once, and is one
not_both : {A B : Type 0} (x : A) (r : B) (found : Result A B) → found ≡ Ok x → found ≡ Err r → ⊥
not_both x r found e f = cc

same_found : {A B : Type 0} (x y : A) (found : Result A B) → found ≡ Ok x → found ≡ Ok y → x ≡ y
same_found x y found e f = cc

-- ---- statements

-- what a text gives in a mode, it gives as such
unlimited : (mode : Mode) (bytes : List ℕ) (stated : List Stated) → statements_of (limits_of mode) bytes ≡ Ok stated → statements_of no_limits bytes ≡ Ok stated
unlimited mode bytes stated e = rw e at (statements_follow (limits_of mode) bytes)

module _ (lines_answer : LinesAnswer) (statements_answer : StatementsAnswer) (mode : Mode) (bytes : List ℕ) where
  none_in : (ss : List Lines) (stated : List Stated) → lines_of (limits_of mode) bytes ≡ Ok ss → all_stated (limits_of mode) ss ≡ Ok stated → HasNone (FirstOfStatements mode bytes)
  none_in ss stated e f r (of_lines first) = none_first (LineFault (limits_of mode)) [] (lines_in bytes) r (subst (IsAnswer (LineFault (limits_of mode)) [] (lines_in bytes)) e (lines_answer (limits_of mode) bytes)) first
  none_in ss stated e f r (of_statements ts g first) =
      let same : ts ≡ ss = same_found ts ss (lines_of (limits_of mode) bytes) g e in
      none_first (StatementFault (limits_of mode)) [] ss r (subst (IsAnswer (StatementFault (limits_of mode)) [] ss) f (statements_answer (limits_of mode) ss)) (subst (λ us. IsFirst (StatementFault (limits_of mode)) [] us r) same first)

  by_statements : (ss : List Lines) → lines_of (limits_of mode) bytes ≡ Ok ss → (found : Result (List Stated) Refusal) → all_stated (limits_of mode) ss ≡ found → AreStatements mode bytes found
  by_statements ss e (Ok stated) f = (none_in ss stated e f, unlimited mode bytes stated (ap (λ ls. ls >>= all_stated (limits_of mode)) e ∙ f))
  by_statements ss e (Err r) f = of_statements ss e (subst (IsAnswer (StatementFault (limits_of mode)) [] ss) f (statements_answer (limits_of mode) ss))

  by_lines : (lines : Result (List Lines) Refusal) → lines_of (limits_of mode) bytes ≡ lines → AreStatements mode bytes (lines >>= all_stated (limits_of mode))
  by_lines (Ok ss) e = by_statements ss e (all_stated (limits_of mode) ss) refl
  by_lines (Err r) e = of_lines (subst (IsAnswer (LineFault (limits_of mode)) [] (lines_in bytes)) e (lines_answer (limits_of mode) bytes))

pub statements_told : LinesAnswer → StatementsAnswer → StatementsTold
statements_told lines_answer statements_answer mode bytes = by_lines lines_answer statements_answer mode bytes (lines_of (limits_of mode) bytes) refl

-- and nothing else is
pub statements_only : StatementsTold → LinesRefused → StatementsRefused → StatementsOnly
statements_only told lines_refused statements_refused mode bytes (Ok stated) h = by (statements_of (limits_of mode) bytes) refl
  where
    by : (found : Result (List Stated) Refusal) → statements_of (limits_of mode) bytes ≡ found → statements_of (limits_of mode) bytes ≡ Ok stated
    by (Ok others) e = let same : others ≡ stated = same_found others stated (statements_of no_limits bytes) (unlimited mode bytes others e) h.1 in e ∙ ap Ok same
    by (Err r) e = absurd (h.0 r (subst (AreStatements mode bytes) e (told mode bytes)))
statements_only told lines_refused statements_refused mode bytes (Err r) (of_lines f) = ap (λ ls. ls >>= all_stated (limits_of mode)) (lines_refused (limits_of mode) bytes r f)
statements_only told lines_refused statements_refused mode bytes (Err r) (of_statements ss e f) = ap (λ ls. ls >>= all_stated (limits_of mode)) e ∙ statements_refused (limits_of mode) ss r f

-- ---- blocks

-- units are a program without blocks, or refused for one
pub alike_units : (units : List Shared) (program : List Procedure) → without_blocks units ≡ Ok program → (layout_refusal units ≡ None) × (program ≡ lowered_program units)
alike_units units program h = by (layout_refusal units) refl h
  where
    by : (found : Option Refusal) → layout_refusal units ≡ found → or_refused found (lowered_program units) ≡ Ok program → (layout_refusal units ≡ None) × (program ≡ lowered_program units)
    by None e g = let same : lowered_program units ≡ program = cc in (e, sym same)
    by (Some r) e g = absurd cc

refused_units : (units : List Shared) (r : Refusal) → without_blocks units ≡ Err r → layout_refusal units ≡ Some r
refused_units units r h = by (layout_refusal units) refl h
  where
    by : (found : Option Refusal) → layout_refusal units ≡ found → or_refused found (lowered_program units) ≡ Err r → layout_refusal units ≡ Some r
    by None e g = absurd cc
    by (Some q) e g = let same : q ≡ r = cc in e ∙ ap Some same

-- ---- units

derive_units : (mode : Mode) (stated : List Stated) (units : List Shared) → trees_of mode stated ≡ Ok units → DeriveUnits stated units
derive_units mode stated units e = let d = derived mode stated units e in record { statements = d.0; lexemes_derive = d.1; units_derive = d.2 }

pub units_told : TreesAnswer → TreesReadUpTo → UnitsTold
units_told answer up_to mode stated = by (trees_of mode stated) refl
  where
    lowered : (units : List Shared) → AreFaultless (TreeFault mode) [] stated → DeriveUnits stated units → (found : Result (List Procedure) Refusal) → without_blocks units ≡ found → AreUnits mode stated found
    lowered units none d (Ok program) e = let a = alike_units units program e in (none, record { units = units; derive = d; alike = a.0; is = a.1 })
    lowered units none d (Err r) e = programs.of_blocks units none d (refused_units units r e)

    by : (found : Result (List Shared) Refusal) → trees_of mode stated ≡ found → AreUnits mode stated (found >>= without_blocks)
    by (Ok units) e = lowered units (subst (IsAnswer (TreeFault mode) [] stated) e (answer mode stated)) (derive_units mode stated units e) (without_blocks units) refl
    by (Err r) e = programs.of_trees (subst (IsAnswer (TreeFault mode) [] stated) e (answer mode stated)) (up_to mode stated r e)

-- ---- programs

-- statements that are refused are a text that is
refused_early : (mode : Mode) (bytes : List ℕ) (r : Refusal) → FirstOfStatements mode bytes r → FirstFault mode bytes r
refused_early mode bytes r (of_lines f) = faults.of_text (faults.of_lines f)
refused_early mode bytes r (of_statements ss e f) = faults.of_text (scanned_first mode bytes r (in_statements ss e f))

-- the units of a text's statements are those of the text
read_units : (bytes : List ℕ) (stated : List Stated) (units : List Shared) → statements_of no_limits bytes ≡ Ok stated → DeriveUnits stated units → ReadsShared bytes units
read_units bytes stated units e d = record { stated = stated; statements = d.statements; lines_form = forms_text bytes stated e; lexemes_derive = d.lexemes_derive; units_derive = d.units_derive }

-- where statements have no fault, nor has the text up to them
none_before : StatementsOnly → (mode : Mode) (bytes : List ℕ) (stated : List Stated) → AreStatements mode bytes (Ok stated) → AreFaultless (TreeFault mode) [] stated → HasNone (FirstOfText mode bytes)
none_before only mode bytes stated s none r found = by (first_scanned mode bytes r found)
  where
    by : FirstScanned mode bytes r → ⊥
    by (in_lines f) = s.0 r (of_lines f)
    by (in_statements ss e f) = s.0 r (of_statements ss e f)
    by (in_trees others e f) =
        let same : others ≡ stated = same_found others stated (statements_of (limits_of mode) bytes) e (only mode bytes (Ok stated) s) in
        none_first (TreeFault mode) [] stated r none (subst (λ ts. IsFirst (TreeFault mode) [] ts r) same f)

-- what the statements of a text are as units is what the text is
whole : StatementsOnly → (mode : Mode) (bytes : List ℕ) (stated : List Stated) → AreStatements mode bytes (Ok stated) → (found : Result (List Procedure) Refusal) → AreUnits mode stated found → IsProgram mode bytes found
whole only mode bytes stated s (Ok program) u = (none, record { shared = u.1.units; reads = reads; alike = u.1.alike; is = u.1.is })
  where
    reads : ReadsShared bytes u.1.units
    reads = read_units bytes stated u.1.units s.1 u.1.derive

    other : (r : Refusal) (a b : Option Refusal) → a ≡ b → a ≡ None → b ≡ Some r → ⊥
    other r a b e f g = cc

    none : HasNone (FirstFault mode bytes)
    none r (faults.of_text f) = none_before only mode bytes stated s u.0 r f
    none r (faults.of_blocks before units others f) = other r (layout_refusal u.1.units) (layout_refusal units) (ap layout_refusal (one_program bytes u.1.units units reads others)) u.1.alike f
whole only mode bytes stated s (Err r) (programs.of_trees f up) = faults.of_text (scanned_first mode bytes r (in_trees stated (only mode bytes (Ok stated) s) f))
whole only mode bytes stated s (Err r) (programs.of_blocks units none d f) = faults.of_blocks (none_before only mode bytes stated s none) units (read_units bytes stated units s.1 d) f

-- so a call that is handed a refusal of the statements, or what they are as units, answers for the text
pub early : (mode : Mode) (bytes : List ℕ) (e : Fault) → Refuses e (FirstOfStatements mode bytes) → Refuses e (FirstFault mode bytes)
early mode bytes Memory h = tt
early mode bytes (Refused r) h = refused_early mode bytes r h

pub late : StatementsOnly → (mode : Mode) (bytes : List ℕ) (stated : List Stated) → AreStatements mode bytes (Ok stated) → (result : Result Program Fault) → Tells procedures_of result (AreUnits mode stated) → Tells procedures_of result (IsProgram mode bytes)
late only mode bytes stated s (Ok p) h = whole only mode bytes stated s (Ok (procedures_of p)) h
late only mode bytes stated s (Err Memory) h = tt
late only mode bytes stated s (Err (Refused r)) h = whole only mode bytes stated s (Err r) h

bind_same : {A B C : Type 0} (x : Result A Refusal) (f : A → Result B Refusal) (g : B → Result C Refusal) → (x >>= λ a. f a >>= g) ≡ ((x >>= f) >>= g)
bind_same (Ok a) f g = refl
bind_same (Err e) f g = refl

pub program_told : StatementsTold → StatementsOnly → UnitsTold → ProgramTold
program_told told only units mode bytes =
    subst (IsProgram mode bytes) (bind_same (statements_of (limits_of mode) bytes) (trees_of mode) without_blocks) (by (statements_of (limits_of mode) bytes) refl)
  where
    by : (found : Result (List Stated) Refusal) → statements_of (limits_of mode) bytes ≡ found → IsProgram mode bytes (found >>= λ stated. trees_of mode stated >>= without_blocks)
    by (Ok stated) e = whole only mode bytes stated (subst (AreStatements mode bytes) e (told mode bytes)) (trees_of mode stated >>= without_blocks) (units mode stated)
    by (Err r) e = refused_early mode bytes r (subst (AreStatements mode bytes) e (told mode bytes))

-- a text has one program at most, in which members of blocks are dummies
one_lowered : (bytes : List ℕ) (ps qs : List Procedure) → ReadsLowered bytes ps → ReadsLowered bytes qs → ps ≡ qs
one_lowered bytes ps qs r q = r.is ∙ ap lowered_program (one_program bytes r.shared q.shared r.reads q.reads) ∙ sym q.is

pub program_only : ProgramTold → TextFirst → TextAccepted → ProgramOnly
program_only told first accepted mode bytes (Ok program) h =
    let found = accepted mode bytes h.0 in
    let others : IsProgram mode bytes (Ok found.0) = subst (IsProgram mode bytes) found.1 (told mode bytes) in
    found.1 ∙ ap Ok (one_lowered bytes found.0 program others.1 h.1)
program_only told first accepted mode bytes (Err r) h = first mode bytes r h

-- ---- what calls give

-- a call that refuses statements as units, and one that gives the program of units or refuses their blocks
pub fails_units : (mode : Mode) (stated : List Stated) (e : Fault) → UnitsTold → Fails e (trees_of mode stated) → Refuses e (λ r. AreUnits mode stated (Err r))
fails_units mode stated Memory told h = tt
fails_units mode stated (Refused r) told h = subst (AreUnits mode stated) (ap (λ x. x >>= without_blocks) h) (told mode stated)

pub gives_units : (mode : Mode) (stated : List Stated) (units : List Shared) (result : Result Program Fault) → UnitsTold → trees_of mode stated ≡ Ok units → Gives procedures_of result (without_blocks units) → Tells procedures_of result (AreUnits mode stated)
gives_units mode stated units result told e h = tells procedures_of result (without_blocks units) (AreUnits mode stated) h (subst (AreUnits mode stated) (ap (λ x. x >>= without_blocks) e) (told mode stated))

-- and what it gives is written, unless the names of units have a fault
pub lowered_named : LoweredIsWritten → (units : List Shared) → AreWritten units → (result : Result Program Fault) → Gives procedures_of result (without_blocks units) → IfOk result (λ p. IsWrittenIfNamed (procedures_of p))
lowered_named law units written (Ok p) h = let a = alike_units units (procedures_of p) h in subst IsWrittenIfNamed (sym a.1) (law units written)
lowered_named law units written (Err e) h = tt
