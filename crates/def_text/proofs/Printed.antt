-- Printed: statements that are printed one after another are read one after another.
use Rattle.std.proofs.Common.{◌≡◌, ℕ, false, List, [], ◌∷◌, ◌++◌, None, Ok, refl, sym, ap, ◌∙◌, append_assoc, append-nil}
use Rattle.adj_tree.specs.Code.{Mark, unmarked}
use Rattle.adj_tree.specs.View.{mark_of}
use Rattle.adj_tree.specs.Common.{Shared}
use Rattle.def_text.specs.Char.{is_blank, folded}
use Rattle.def_text.specs.Form.{Form, Statement, at}
use Rattle.def_text.specs.Limits.{no_limits}
use Rattle.def_text.specs.Line.{cut_lines, next_number}
use Rattle.def_text.specs.Lined.{Lines, Pass, flushed, directive_before, start, pass_over}
use Rattle.def_text.specs.Reads.{ReadsShared, ReadsSplits}
use Rattle.def_text.specs.Text.{directive, statement}
use Rattle.def_text.specs.Unit.{ReadsUnits}
use Rattle.def_text.proofs.Directives.{behind, HasLine, over_directive}
use Rattle.def_text.proofs.Joins.{AreAllowed, going}
use Rattle.def_text.proofs.Laying.{joins}
use Rattle.def_text.proofs.Said as said
use Rattle.def_text.proofs.Said.{Says, AllSay, reads_said, splits_said}

-- characters that say a form behind a directive with this mark, or without one
pub record SaysChars (mark : Mark) (chars : List ℕ) (f : Form) : Type 0 where
  pub first : ℕ
  pub others : List ℕ
  pub are : chars ≡ first ∷ others
  pub some : is_blank first ≡ false
  pub allowed : AreAllowed (first ∷ others)
  pub says : (s : Lines) → s.text ≡ folded chars → mark_of s.advice.mark ≡ mark → Says s f

-- a text of printed statements that say these forms
pub data Printed : List ℕ → List Form → Type 0 where
  none : Printed [] []
  more : {chars cs : List ℕ} {f : Form} {fs : List Form} → SaysChars unmarked chars f → Printed cs fs → Printed (statement chars ++ cs) (f ∷ fs)
  marked : {chars cs : List ℕ} {f : Form} {fs : List Form} {m : Mark} → HasLine m → SaysChars m chars f → Printed cs fs → Printed (directive m ++ (statement chars ++ cs)) (f ∷ fs)

-- statements without labels that say these forms, at whatever lines
pub data AreAt : List Statement → List Form → Type 0 where
  none : AreAt [] []
  more : {n : ℕ} {f : Form} {ts : List Statement} {fs : List Form} → AreAt ts fs → AreAt (at n 0 f ∷ ts) (f ∷ fs)

-- the statement that begins at line n behind what a pass has
abbrev begun : Pass → ℕ → List ℕ → Lines
begun p n text = record { line = n; label = 0; advice = (directive_before p.pending).advice; mark_line = (directive_before p.pending).line; text = text; room = None }

over_statement : (p : Pass) (n : ℕ) (mark : Mark) (chars cs : List ℕ) (f : Form) → SaysChars mark chars f → (m : ℕ) × (pass_over no_limits p n (cut_lines (statement chars ++ cs)) ≡ pass_over no_limits (going p n (folded chars)) m (cut_lines cs))
over_statement p n mark chars cs f h =
    let r = joins p n h.first h.others cs h.some h.allowed in
    (r.0, ap (λ xs. pass_over no_limits p n (cut_lines (statement xs ++ cs))) h.are ∙ r.1 ∙ ap (λ xs. pass_over no_limits (going p n (folded xs)) r.0 (cut_lines cs)) (sym h.are))

-- what a pass gives of a text: the statements that it has, and those of the text
pub record ReadsOn (p : Pass) (n : ℕ) (cs : List ℕ) (fs : List Form) : Type 0 where
  pub lines : List Lines
  pub statements : List Statement
  pub say : AllSay lines statements
  pub at_forms : AreAt statements fs
  pub passed : pass_over no_limits p n (cut_lines cs) ≡ Ok (flushed p ++ lines)

at_end : (p : Pass) (n : ℕ) → p.pending ≡ None → ReadsOn p n [] []
unfolding cut_lines pass_over
at_end p n h = record {
  lines = [];
  statements = [];
  say = said.AllSay.none;
  at_forms = none;
  passed = rw (h, append-nil (flushed p)) refl;
}

read_on : {cs : List ℕ} {fs : List Form} → Printed cs fs → (p : Pass) (n : ℕ) → p.pending ≡ None → ReadsOn p n cs fs
read_on none p n h = at_end p n h
read_on (more {chars = chars} {cs = cs} {f = f} {fs = fs} s rest) p n h =
    let text = folded chars in
    let over = over_statement p n unmarked chars cs f s in
    let r = read_on rest (going p n text) over.0 refl in
    record {
      lines = begun p n text ∷ r.lines;
      statements = at n 0 f ∷ r.statements;
      say = said.AllSay.more (s.says (begun p n text) refl (ap (λ o. mark_of (directive_before o).advice.mark) h)) (ap (λ o. (directive_before o).advice.split) h) r.say;
      at_forms = more r.at_forms;
      passed = over.1 ∙ r.passed ∙ ap Ok (append_assoc (flushed p) (begun p n text ∷ []) r.lines);
    }
read_on (marked {chars = chars} {cs = cs} {f = f} {fs = fs} {m = mark} w s rest) p n h =
    let text = folded chars in
    let line = over_directive p n mark (statement chars ++ cs) h w in
    let q = behind p n line.found in
    let m = next_number n in
    let over = over_statement q m mark chars cs f s in
    let r = read_on rest (going q m text) over.0 refl in
    let gathered : (flushed q ++ begun q m text ∷ []) ++ r.lines ≡ flushed p ++ begun q m text ∷ r.lines = append_assoc (flushed q) (begun q m text ∷ []) r.lines ∙ ap (λ ls. ls ++ begun q m text ∷ r.lines) (append-nil (flushed p)) in
    record {
      lines = begun q m text ∷ r.lines;
      statements = at m 0 f ∷ r.statements;
      say = said.AllSay.more (s.says (begun q m text) refl line.same) refl r.say;
      at_forms = more r.at_forms;
      passed = line.passed ∙ over.1 ∙ r.passed ∙ ap Ok gathered;
    }

-- what is printed reads as the units of its statements, at whatever lines these stand
pub printed_reads : (cs : List ℕ) (fs : List Form) → Printed cs fs → (ts : List Statement) × AreAt ts fs × ((ps : List Shared) → ReadsUnits ts ps → ReadsShared cs ps)
printed_reads cs fs h =
    let r = read_on h start 1 refl in
    (r.statements, r.at_forms, λ ps units. reads_said cs r.lines r.statements ps r.passed r.say units)

-- and none of its statements is split
pub printed_splits : (cs : List ℕ) (fs : List Form) → Printed cs fs → ReadsSplits cs []
printed_splits cs fs h = let r = read_on h start 1 refl in splits_said cs r.lines r.statements r.passed r.say
