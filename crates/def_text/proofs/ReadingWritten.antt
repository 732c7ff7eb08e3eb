-- ReadingWritten: what a text reads as is written, where its literals and extents are words.
use Rattle.std.proofs.Common.{◌≡◌, ℕ, zero, suc, ◌-◌, Bool, true, false, eqb, List, [], ◌∷◌, ◌++◌, length, take, drop, Option, Some, None, Result, Ok, Err, map, refl, sym, ap, subst, ◌∙◌, arith, inl, inr}
use Rattle.std.specs.Prelude.{◌||◌, if◌then◌else◌}
use Rattle.std.specs.List.{list_any}
use Rattle.std.proofs.lemmas.Bool.{cases_lt}
use Rattle.std.proofs.lemmas.List.{take-append-drop, length-take-le, drop_all}
use Rattle.adj_tree.specs.Code.{Procedure}
use Rattle.adj_tree.specs.declared.fault.Refusal.{Refusal}
use Rattle.adj_tree.specs.View.{mark_of}
use Rattle.adj_tree.specs.declared.stmt.Mark.{Mark}
use Rattle.adj_tree.specs.Common.{Shared, without_commons}
use Rattle.def_text.specs.Class.{class_of, is_matched}
use Rattle.def_text.specs.Form.{Statement}
use Rattle.def_text.specs.Limits.{no_limits}
use Rattle.def_text.specs.Lined.{Lines, lines_of}
use Rattle.def_text.specs.Reads as texts
use Rattle.def_text.specs.Reads.{ReadsAll, ReadsShared, Reads}
use Rattle.def_text.specs.Refused.{◌>>=◌}
use Rattle.def_text.specs.Stated.{keyword_len, ending_len, call_place, tokens_of, is_too_long, is_marked_long, with_tokens, with_class, stated, all_stated}
use Rattle.def_text.specs.Token.{tokens_from}
use Rattle.def_text.specs.Lexeme.{lexemes_of}
use Rattle.def_text.specs.Written.{IsWrittenMark, IsWrittenProcedure, IsWritten, IsWrittenShared, AreWritten}
use Rattle.def_text.specs.Fits.{FitsProcedure, Fits, FitsCommon, FitsShared, AllFit}
use Rattle.def_text.specs.declared.stated.Kind.{Kind}
use Rattle.def_text.specs.declared.stated.Stated.{Stated}
use Rattle.def_text.specs.declared.token.Token.{Token}
use Rattle.def_text.proofs.TermWritten.{AreLexemes}
use Rattle.def_text.proofs.TokensNamed.{tokens_named}
use Rattle.def_text.proofs.FormWritten.{all_nil, all_cons}
use Rattle.def_text.proofs.WrittenBack.{all_first, all_rest}
use Rattle.def_text.proofs.Cut.{text_forms}
use Rattle.def_text.proofs.LinesMarked.{AreMarked, bind_ok, lines_marked}
use Rattle.def_text.proofs.UnitWritten.{AreWrittenForms, form_written, units_written}

take_nil : (k : ℕ) → take {A = ℕ} k [] ≡ []
take_nil zero = refl
take_nil (suc k) = refl

no_tokens : (text : List ℕ) (call : Option ℕ) (k : ℕ) (ts : List Token) → tokens_from call 0 k [] ≡ Some ts → AreLexemes (lexemes_of text ts)
unfolding tokens_from
no_tokens text call k ts e = let P : List Token → Type 0 = λ us. AreLexemes (lexemes_of text us) in let q : [] ≡ ts = cc in subst P q tt

-- the tokens of a part of a text that begins at a place of the text
part_named : (text : List ℕ) (call : Option ℕ) (k n : ℕ) (ts : List Token) → tokens_from call 0 k (take n (drop k text)) ≡ Some ts → AreLexemes (lexemes_of text ts)
part_named text call k n ts e =
    elim (cases_lt (length text) k) [
      | inl lt ↦
          let past : take n (drop k text) ≡ [] = ap (take n) (drop_all k text (omega arith)) ∙ take_nil n in
          no_tokens text call k ts (sym (ap (tokens_from call 0 k) past) ∙ e)
      | inr le ↦
          let front = length-take-le k text le in
          let whole : take k text ++ (take n (drop k text) ++ drop n (drop k text)) ≡ text = ap (λ xs. take k text ++ xs) (take-append-drop n (drop k text)) ∙ take-append-drop k text in
          let P : List ℕ → Type 0 = λ xs. AreLexemes (lexemes_of xs ts) in
          subst P whole (tokens_named (take n (drop k text)) call 0 k (take k text) (drop n (drop k text)) ts front e)
    ]

-- a statement with its mark as the lines give it, whose names are names
record IsNamedStatement (l : Lines) (s : Stated) : Type 0 where
  mark : s.mark ≡ l.advice.mark
  lexemes : AreLexemes (lexemes_of s.text s.tokens)

-- a statement, if there is one, is such
abbrev NamedAs : Lines → Result Stated Refusal → Type 0
NamedAs l r = (s : Stated) → r ≡ Ok s → IsNamedStatement l s

named_err : (l : Lines) (e : Refusal) → NamedAs l (Err e)
named_err l e s h = absurd cc

named_if : (l : Lines) (b : Bool) (r q : Result Stated Refusal) → NamedAs l r → NamedAs l q → NamedAs l (if b then r else q)
named_if l true r q h g = h
named_if l false r q h g = g

abbrev record_of : Lines → Kind → List Token → Stated
record_of l kind ts = record { line = l.line; label = l.label; mark = l.advice.mark; split = l.advice.split; mark_line = l.mark_line; kind = kind; text = l.text; tokens = ts }

named_ok : (l : Lines) (kind : Kind) (ts : List Token) → AreLexemes (lexemes_of l.text ts) → NamedAs l (Ok (record_of l kind ts))
named_ok l kind ts w s e = let q : record_of l kind ts ≡ s = cc in let P : Stated → Type 0 = IsNamedStatement l in subst P q (record { mark = refl; lexemes = w })

named_tokens : (l : Lines) (kind : Kind) (o : Option (List Token)) → ((ts : List Token) → o ≡ Some ts → AreLexemes (lexemes_of l.text ts)) → NamedAs l (with_tokens no_limits l kind o)
named_tokens l kind None w = named_err l _
named_tokens l kind (Some ts) w = named_if l (list_any (is_too_long None) ts || is_marked_long None kind l.advice.mark) _ _ (named_err l _) (named_ok l kind ts (w ts refl))

kind_named : (l : Lines) (kind : Kind) (ts : List Token) → tokens_of kind l.text ≡ Some ts → AreLexemes (lexemes_of l.text ts)
kind_named l kind ts e = part_named l.text (call_place kind l.text) (keyword_len kind l.text) (length l.text - ending_len kind - keyword_len kind l.text) ts e

named_class : (l : Lines) (o : Option Kind) → NamedAs l (with_class no_limits l o)
named_class l None = named_err l _
named_class l (Some kind) = named_if l (is_matched 0 l.text) _ _ (named_tokens l kind (tokens_of kind l.text) (kind_named l kind)) (named_err l _)

named_stated : (l : Lines) → NamedAs l (stated no_limits l)
unfolding stated
named_stated l = named_if l (eqb (length l.text) 0) _ _ (named_err l _) (named_class l (class_of l.text))

-- each of some statements
abbrev AreNamedStatements : List Stated → Type 0
AreNamedStatements [] = Unit {0}
AreNamedStatements (s ∷ ss) = IsWrittenMark (mark_of s.mark) × AreLexemes (lexemes_of s.text s.tokens) × AreNamedStatements ss

all_named : (ls : List Lines) (ss : List Stated) → AreMarked ls → all_stated no_limits ls ≡ Ok ss → AreNamedStatements ss
unfolding all_stated
all_named [] ss m e = let q : [] ≡ ss = cc in subst AreNamedStatements q tt
all_named (l ∷ ls) ss m e =
    let a = bind_ok (stated no_limits l) (λ x. all_stated no_limits ls >>= λ xs. Ok (x ∷ xs)) ss e in
    let b = bind_ok (all_stated no_limits ls) (λ xs. Ok (a.0 ∷ xs)) ss a.2 in
    let n = named_stated l a.0 a.1 in
    let marked : IsWrittenMark (mark_of a.0.mark) = subst (λ (d : Mark). IsWrittenMark (mark_of d)) (sym n.mark) m.0 in
    let q : a.0 ∷ b.0 ≡ ss = cc in
    subst AreNamedStatements q (marked, n.lexemes, all_named ls b.0 m.1 b.1)

forms_written : {ss : List Stated} {ts : List Statement} → ReadsAll ss ts → AreNamedStatements ss → AreWrittenForms ts
forms_written texts.ReadsAll.none h = tt
forms_written (texts.ReadsAll.more split d rest) h = (form_written d h.1 h.0, forms_written rest h.2)

-- with its COMMON statements
pub shared_reading_written : (bytes : List ℕ) (ss : List Shared) → ReadsShared bytes ss → AllFit ss → AreWritten ss
shared_reading_written bytes ss r f =
    let a = bind_ok (lines_of no_limits bytes) (all_stated no_limits) r.stated (text_forms bytes r.stated r.lines_form) in
    units_written r.units_derive (forms_written r.lexemes_derive (all_named a.0 r.stated (lines_marked bytes a.0 a.1) a.2)) f

-- units without COMMON statements
pub all_fit : (ps : List Procedure) → Fits ps → AllFit (map without_commons ps)
all_fit [] f = all_nil FitsShared
all_fit (p ∷ ps) f =
    all_cons FitsShared (without_commons p) (map without_commons ps) (record { unit = all_first FitsProcedure p ps f; commons = all_nil FitsCommon }) (all_fit ps (all_rest FitsProcedure p ps f))

pub are_written : (ps : List Procedure) → AreWritten (map without_commons ps) → IsWritten ps
are_written [] w = all_nil IsWrittenProcedure
are_written (p ∷ ps) w =
    all_cons IsWrittenProcedure p ps (all_first IsWrittenShared (without_commons p) (map without_commons ps) w).unit (are_written ps (all_rest IsWrittenShared (without_commons p) (map without_commons ps) w))

pub reading_written : (bytes : List ℕ) (ps : List Procedure) → Reads bytes ps → Fits ps → IsWritten ps
reading_written bytes ps r f = are_written ps (shared_reading_written bytes (map without_commons ps) r (all_fit ps f))
