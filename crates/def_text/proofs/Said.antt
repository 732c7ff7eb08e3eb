-- Said: a text reads as the units of what its statements say.
use Rattle.std.proofs.Common.{◌≡◌, ℕ, false, List, [], ◌∷◌, Ok, inl, refl, sym, ap, subst, ◌∙◌}
use Rattle.adj_tree.specs.Common.{Shared}
use Rattle.adj_tree.specs.View.{mark_of}
use Rattle.def_text.specs.declared.stated.Kind.{Kind}
use Rattle.def_text.specs.declared.stated.Stated.{Stated}
use Rattle.def_text.specs.Form.{Form, Statement, at, ReadsForm}
use Rattle.def_text.specs.Limits.{no_limits}
use Rattle.def_text.specs.Lined.{Lines, lines_of}
use Rattle.def_text.specs.Reads as texts
use Rattle.def_text.specs.Reads.{ReadsAll, ReadsShared, ReadsSplits}
use Rattle.def_text.specs.Refused.{◌>>=◌}
use Rattle.def_text.specs.Splits.{split_lines}
use Rattle.def_text.specs.Stated.{stated, all_stated}
use Rattle.def_text.specs.Unit.{ReadsUnits}
use Rattle.def_text.specs.Lexeme.{Lexeme, lexemes_of}
use Rattle.def_text.proofs.Cut.{forms_text}
use Rattle.def_text.proofs.Stating.{text_of, IsStatement, statement_of, states, lexemes_stand}

-- the lines of a statement that says this form
pub record Says (s : Lines) (f : Form) : Type 0 where
  pub found : Stated
  pub is_stated : stated no_limits s ≡ Ok found
  pub at_line : found.line ≡ s.line
  pub with_label : found.label ≡ s.label
  pub with_split : found.split ≡ s.advice.split
  pub form : ReadsForm (mark_of found.mark) found.kind (lexemes_of found.text found.tokens) f

-- lines whose characters are a keyword and lexemes that derive the form
pub says_statement : (s : Lines) (kind : Kind) (keyword : List ℕ) (ws : List Lexeme) (f : Form) → s.text ≡ text_of keyword ws → IsStatement kind keyword ws → ReadsForm (mark_of s.advice.mark) kind ws f → Says s f
says_statement s kind keyword ws f e h form =
    let P : List Lexeme → Type 0 = λ ws. ReadsForm (mark_of s.advice.mark) kind ws f in
    record {
      found = statement_of s kind keyword ws;
      is_stated = states s kind keyword ws e h;
      at_line = refl;
      with_label = refl;
      with_split = refl;
      form = subst P (sym (lexemes_stand s kind keyword ws e h)) form;
    }

-- statements that say these forms, none of them split
pub data AllSay : List Lines → List Statement → Type 0 where
  none : AllSay [] []
  more : {s : Lines} {ss : List Lines} {f : Form} {ts : List Statement} → Says s f → s.advice.split ≡ false → AllSay ss ts → AllSay (s ∷ ss) (at s.line s.label f ∷ ts)

none_stated : all_stated no_limits [] ≡ Ok []
unfolding all_stated
none_stated = refl

-- one statement more
one_stated : (s : Lines) (ss : List Lines) (x : Stated) (xs : List Stated) → stated no_limits s ≡ Ok x → all_stated no_limits ss ≡ Ok xs → all_stated no_limits (s ∷ ss) ≡ Ok (x ∷ xs)
unfolding all_stated
one_stated s ss x xs h g = rw (h, g) refl

-- statements that say forms are stated, and their lexemes derive the forms
all_say : {ls : List Lines} {ts : List Statement} → AllSay ls ts → (ss : List Stated) × (all_stated no_limits ls ≡ Ok ss) × ReadsAll ss ts × (split_lines ss ≡ [])
all_say none = ([], none_stated, texts.ReadsAll.none, refl)
all_say (more {s = s} {ss = ss} {f = f} {ts = ts} h split rest) =
    let r = all_say rest in
    let whole : h.found.split ≡ false = h.with_split ∙ split in
    let P : ℕ → Type 0 = λ n. ReadsAll (h.found ∷ r.0) (at n h.found.label f ∷ ts) in
    let Q : ℕ → Type 0 = λ l. ReadsAll (h.found ∷ r.0) (at s.line l f ∷ ts) in
    (h.found ∷ r.0, one_stated s ss h.found r.0 h.is_stated r.1, subst Q h.with_label (subst P h.at_line (texts.ReadsAll.more (inl whole) h.form r.2)), rw (whole, r.3) refl)

pub reads_said : (bytes : List ℕ) (ls : List Lines) (ts : List Statement) (ps : List Shared) → lines_of no_limits bytes ≡ Ok ls → AllSay ls ts → ReadsUnits ts ps → ReadsShared bytes ps
reads_said bytes ls ts ps h say units =
    let r = all_say say in
    record {
      stated = r.0;
      statements = ts;
      lines_form = forms_text bytes r.0 (ap (λ found. found >>= all_stated no_limits) h ∙ r.1);
      lexemes_derive = r.2;
      units_derive = units;
    }

pub splits_said : (bytes : List ℕ) (ls : List Lines) (ts : List Statement) → lines_of no_limits bytes ≡ Ok ls → AllSay ls ts → ReadsSplits bytes []
splits_said bytes ls ts h say =
    let r = all_say say in
    record { stated = r.0; lines_form = forms_text bytes r.0 (ap (λ found. found >>= all_stated no_limits) h ∙ r.1); marked = sym r.3 }
