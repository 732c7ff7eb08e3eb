-- What a text gives without limits, it gives in Run mode, where its names have at most 63 characters; and the names of what it gives in Source mode have at most 31.
use Rattle.std.proofs.Common.{◌≡◌, ◌≤◌, ◌⊎◌, inl, inr, ℕ, ◌-◌, Bool, true, false, eqb, List, [], ◌∷◌, length, drop, Option, Some, None, Result, Ok, Err, refl, sym, ap, ap₂, ◌∙◌, arith, length-take, length-drop}
use Rattle.std.specs.Prelude.{◌||◌, ◌&&◌, not, nat_lt, if◌then◌else◌}
use Rattle.std.specs.List.{All, list_any}
use Rattle.std.proofs.lemmas.Bool.{and_parts, and_from, or_parts, or_from}
use Rattle.std.proofs.lemmas.Bool.Decides.{nat_tests}
use Rattle.adj_tree.specs.Code.{unmarked}
use Rattle.adj_tree.specs.Code as trees
use Rattle.adj_tree.specs.View.{mark_of}
use Rattle.adj_tree.specs.declared.fault.Refusal.{Refusal}
use Rattle.adj_tree.specs.declared.stmt.Mark.{Mark}
use Rattle.adj_tree.specs.declared.stmt.Mark.TheVariants.{Plain, Count, From}
use Rattle.def_text.specs.Class.{class_of, is_matched}
use Rattle.def_text.specs.Form as forms
use Rattle.def_text.specs.Form.{Form, Statement, ReadsForm}
use Rattle.def_text.specs.Limits.{Limits, no_limits, limits_of}
use Rattle.def_text.specs.Line.{cut_lines, without_cr, is_data, next_number}
use Rattle.def_text.specs.Lined.{Lines, Pass, start, with_line, pass_over, lines_of, ended}
use Rattle.def_text.specs.Reads as texts
use Rattle.def_text.specs.Reads.{ReadsAll}
use Rattle.def_text.specs.Refused.{◌>>=◌, refused}
use Rattle.def_text.specs.Stated.{keyword_len, ending_len, tokens_of, is_name, is_too_long, is_marked_long, with_tokens, with_class, stated, all_stated, statements_of, IsCovered}
use Rattle.def_text.specs.Token.{AreJoined}
use Rattle.def_text.specs.Lexeme.{Lexeme, lexeme, part, lexemes_of}
use Rattle.def_text.specs.declared.mode.Mode.TheVariants.{Source, Run}
use Rattle.def_text.specs.declared.stated.Kind.{Kind}
use Rattle.def_text.specs.declared.stated.Kind.TheVariants.{Do}
use Rattle.def_text.specs.declared.stated.Stated.{Stated}
use Rattle.def_text.specs.declared.token.Token.{Token}
use Rattle.def_text.specs.declared.token.TokenKind.{TokenKind}
use Rattle.def_text.specs.declared.token.TokenKind.TheVariants.{Name, Number, Power, Star, Slash, Plus, Minus, Left, Right, Comma, Equals, Lt, Le, Eq, Ne, Gt, Ge, Not, And, Or, Call}
use Rattle.def_text.proofs.Covering.{all_covered}
use Rattle.def_text.proofs.LinesMarked.{bind_ok}
use Rattle.def_text.proofs.WrittenBack.{all_first, all_rest}
use Rattle.adj_parse.proofs.Passing.{joined_ends}
use Rattle.law_limits.specs.Kept.{mark_short, short_names}
use Rattle.law_limits.proofs.Truths.{not_or, not_not, not_less}
use Rattle.law_limits.proofs.Keeping.{form_keeps, all_keep}
use Rattle.law_limits.proofs.ShortTerms.{lexemes_short}
use Rattle.law_limits.proofs.ShortForms.{form_short}

-- ---- lines: continuation lines have no limit in Run mode

line_same : (p : Pass) (n : ℕ) (l : List ℕ) → with_line (limits_of Run) p n l ≡ with_line no_limits p n l
unfolding with_line
line_same p n l = refl

bind_same : {A B : Type 0} (r : Result A Refusal) (f g : A → Result B Refusal) → ((x : A) → f x ≡ g x) → (r >>= f) ≡ (r >>= g)
bind_same (Ok x) f g h = h x
bind_same (Err e) f g h = refl

pass_same : (p : Pass) (n : ℕ) (ls : List (List ℕ)) → pass_over (limits_of Run) p n ls ≡ pass_over no_limits p n ls
unfolding pass_over
pass_same p n [] = refl
pass_same p n (l ∷ ls) =
    ap (λ r. if is_data (without_cr l) then ended p p.pending else r)
    (ap (λ r. r >>= λ q. pass_over (limits_of Run) q (next_number n) ls) (line_same p n (without_cr l))
    ∙ bind_same (with_line no_limits p n (without_cr l)) (λ q. pass_over (limits_of Run) q (next_number n) ls) (λ q. pass_over no_limits q (next_number n) ls) (λ q. pass_same q (next_number n) ls))

pub lines_same : (bytes : List ℕ) → lines_of (limits_of Run) bytes ≡ lines_of no_limits bytes
lines_same bytes = pass_same start 1 (cut_lines bytes)

-- ---- tokens and lexemes

module _ (n : ℕ) where
  -- a token is a name that isn't too long, or none
  lexeme_short : (k : TokenKind) (x : List ℕ) (ws : List Lexeme) → (not (is_name k && nat_lt n (length x)) && lexemes_short n ws) ≡ lexemes_short n (lexeme k x ∷ ws)
  lexeme_short Name x ws = ap (λ b. b && lexemes_short n ws) (not_less n (length x))
  lexeme_short Number x ws = refl
  lexeme_short Power x ws = refl
  lexeme_short Star x ws = refl
  lexeme_short Slash x ws = refl
  lexeme_short Plus x ws = refl
  lexeme_short Minus x ws = refl
  lexeme_short Left x ws = refl
  lexeme_short Right x ws = refl
  lexeme_short Comma x ws = refl
  lexeme_short Equals x ws = refl
  lexeme_short Lt x ws = refl
  lexeme_short Le x ws = refl
  lexeme_short Eq x ws = refl
  lexeme_short Ne x ws = refl
  lexeme_short Gt x ws = refl
  lexeme_short Ge x ws = refl
  lexeme_short Not x ws = refl
  lexeme_short And x ws = refl
  lexeme_short Or x ws = refl
  lexeme_short Call x ws = refl

  tokens_short : (text : List ℕ) (from to : ℕ) (ts : List Token) → AreJoined from to ts → to ≤ length text → not (list_any (is_too_long (Some n)) ts) ≡ lexemes_short n (lexemes_of text ts)
  tokens_short text from to [] h le = refl
  tokens_short text from to (t ∷ ts) h le =
      let below = joined_ends t.end to ts h.2 in
      let width : length (part text t.start t.end) ≡ t.end - t.start = omega (arith, length-take (t.end - t.start) (drop t.start text), length-drop t.start text) in
      not_or (is_name t.kind && nat_lt n (t.end - t.start)) (list_any (is_too_long (Some n)) ts)
      ∙ ap₂ (λ w b. not (is_name t.kind && nat_lt n w) && b) (sym width) (tokens_short text t.end to ts h.2 le)
      ∙ lexeme_short t.kind (part text t.start t.end) (lexemes_of text ts)

  -- the directive before a statement
  unmarked_short : (kind : Kind) → not (is_marked_long (Some n) kind Plain) ≡ true
  unmarked_short Do = refl
  unmarked_short kind = refl

  counted_short : (kind : Kind) (k : ℕ) → not (is_marked_long (Some n) kind (Count k)) ≡ true
  counted_short Do k = refl
  counted_short kind k = refl

  mark_limit : (kind : Kind) (m : Mark) → (mark_of m ≡ unmarked) ⊎ (kind ≡ Do) → not (is_marked_long (Some n) kind m) ≡ mark_short n (mark_of m)
  mark_limit kind Plain h = unmarked_short kind
  mark_limit kind (Count k) h = counted_short kind k
  mark_limit kind (From x) (inl e) = absurd cc
  mark_limit kind (From x) (inr e) = ap (λ k. not (is_marked_long (Some n) k (From x))) e ∙ not_less n (length x)

  -- whether a statement has a name that is too long
  abbrev pub is_long : Stated → Bool
  is_long s = list_any (is_too_long (Some n)) s.tokens || is_marked_long (Some n) s.kind s.mark

  abbrev pub none_long : List Stated → Bool
  none_long [] = true
  none_long (s ∷ ss) = not (is_long s) && none_long ss

led : {mark : trees.Mark} {kind : Kind} {ws : List Lexeme} {f : Form} → ReadsForm mark kind ws f → (mark ≡ unmarked) ⊎ (kind ≡ Do)
led (forms.ReadsForm.heading d) = inl refl
led forms.ReadsForm.implicit = inl refl
led (forms.ReadsForm.declaration d) = inl refl
led (forms.ReadsForm.shared d) = inl refl
led (forms.ReadsForm.assigned d) = inl refl
led (forms.ReadsForm.calls d) = inl refl
led (forms.ReadsForm.guarded d e) = inl refl
led (forms.ReadsForm.begins d) = inr refl
led (forms.ReadsForm.repeats d) = inl refl
led forms.ReadsForm.finished = inl refl
led forms.ReadsForm.continued = inl refl
led (forms.ReadsForm.tests d) = inl refl
led forms.ReadsForm.turns = inl refl
led (forms.ReadsForm.tests_again d) = inl refl
led forms.ReadsForm.closed = inl refl
led forms.ReadsForm.returned = inl refl
led forms.ReadsForm.ended = inl refl

-- statements have no name that is too long where what they say has none
pub long_forms : (n : ℕ) → 17 ≤ n → {ss : List Stated} {ts : List Statement} → ReadsAll ss ts → All IsCovered ss → none_long n ss ≡ all_keep (short_names n) ts
long_forms n wide texts.ReadsAll.none h = refl
long_forms n wide (texts.ReadsAll.more {s = s} {ss = ss} {f = f} split d rest) h =
    let inside : length s.text - ending_len s.kind ≤ length s.text = omega arith in
    let covered : IsCovered s = all_first IsCovered s ss h in
    let lexemes = tokens_short n s.text (keyword_len s.kind s.text) (length s.text - ending_len s.kind) s.tokens covered inside in
    let here : not (is_long n s) ≡ form_keeps (short_names n) f = not_or _ _ ∙ ap₂ (λ a b. a && b) lexemes (mark_limit n s.kind s.mark (led d)) ∙ form_short n wide d in
    ap₂ (λ a b. a && b) here (long_forms n wide rest (all_rest IsCovered s ss h))

-- ---- statements

abbrev record_of : Lines → Kind → List Token → Stated
record_of l kind ts = record { line = l.line; label = l.label; mark = l.advice.mark; split = l.advice.split; mark_line = l.mark_line; kind = kind; text = l.text; tokens = ts }

-- within a limit none is too long
module _ (continuations : Option ℕ) (n : ℕ) where
  abbrev bound : Limits
  bound = record { continuations = continuations; name = Some n }

  tokens_bound : (l : Lines) (kind : Kind) (o : Option (List Token)) (s : Stated) → with_tokens bound l kind o ≡ Ok s → is_long n s ≡ false
  tokens_bound l kind None s e = absurd cc
  tokens_bound l kind (Some ts) s e =
      elim (is_long n (record_of l kind ts)) as (λ b. is_long n (record_of l kind ts) ≡ b → (if b then refused 6 l.line else Ok (record_of l kind ts)) ≡ Ok s → is_long n s ≡ false) [
        | true ↦ λ h g. absurd cc
        | false ↦ λ h g. let q : record_of l kind ts ≡ s = cc in ap (is_long n) (sym q) ∙ h
      ] refl e

  class_bound : (l : Lines) (o : Option Kind) (s : Stated) → with_class bound l o ≡ Ok s → is_long n s ≡ false
  class_bound l None s e = absurd cc
  class_bound l (Some kind) s e =
      elim (is_matched 0 l.text) as (λ b. (if b then with_tokens bound l kind (tokens_of kind l.text) else refused 4 l.line) ≡ Ok s → is_long n s ≡ false) [
        | true ↦ λ g. tokens_bound l kind (tokens_of kind l.text) s g
        | false ↦ λ g. absurd cc
      ] e

  stated_bound : (l : Lines) (s : Stated) → stated bound l ≡ Ok s → is_long n s ≡ false
  unfolding stated
  stated_bound l s e =
      elim (eqb (length l.text) 0) as (λ b. (if b then refused 4 l.line else with_class bound l (class_of l.text)) ≡ Ok s → is_long n s ≡ false) [
        | true ↦ λ g. absurd cc
        | false ↦ λ g. class_bound l (class_of l.text) s g
      ] e

  pub all_bound : (ls : List Lines) (ss : List Stated) → all_stated bound ls ≡ Ok ss → none_long n ss ≡ true
  unfolding all_stated
  all_bound [] ss e = let q : [] ≡ ss = cc in ap (none_long n) (sym q)
  all_bound (l ∷ ls) ss e =
      let a = bind_ok (stated bound l) (λ x. all_stated bound ls >>= λ xs. Ok (x ∷ xs)) ss e in
      let b = bind_ok (all_stated bound ls) (λ xs. Ok (a.0 ∷ xs)) ss a.2 in
      let q : a.0 ∷ b.0 ≡ ss = cc in
      ap (none_long n) (sym q) ∙ ap₂ (λ x y. not x && y) (stated_bound l a.0 a.1) (all_bound ls b.0 b.1)

  -- and where none is, the limit changes nothing
  tokens_kept : (l : Lines) (kind : Kind) (o : Option (List Token)) (s : Stated) → with_tokens no_limits l kind o ≡ Ok s → is_long n s ≡ false → with_tokens bound l kind o ≡ Ok s
  tokens_kept l kind None s e h = absurd cc
  tokens_kept l kind (Some ts) s e h =
      elim (list_any (is_too_long None) ts || is_marked_long None kind l.advice.mark) as (λ b. (if b then refused 6 l.line else Ok (record_of l kind ts)) ≡ Ok s → with_tokens bound l kind (Some ts) ≡ Ok s) [
        | true ↦ λ g. absurd cc
        | false ↦ λ g. let q : record_of l kind ts ≡ s = cc in ap (λ b. if b then refused 6 l.line else Ok (record_of l kind ts)) (ap (is_long n) q ∙ h) ∙ ap Ok q
      ] e

  class_kept : (l : Lines) (o : Option Kind) (s : Stated) → with_class no_limits l o ≡ Ok s → is_long n s ≡ false → with_class bound l o ≡ Ok s
  class_kept l None s e h = absurd cc
  class_kept l (Some kind) s e h =
      elim (is_matched 0 l.text) as (λ b. (if b then with_tokens no_limits l kind (tokens_of kind l.text) else refused 4 l.line) ≡ Ok s → (if b then with_tokens bound l kind (tokens_of kind l.text) else refused 4 l.line) ≡ Ok s) [
        | true ↦ λ g. tokens_kept l kind (tokens_of kind l.text) s g h
        | false ↦ λ g. absurd cc
      ] e

  stated_kept : (l : Lines) (s : Stated) → stated no_limits l ≡ Ok s → is_long n s ≡ false → stated bound l ≡ Ok s
  unfolding stated
  stated_kept l s e h =
      elim (eqb (length l.text) 0) as (λ b. (if b then refused 4 l.line else with_class no_limits l (class_of l.text)) ≡ Ok s → (if b then refused 4 l.line else with_class bound l (class_of l.text)) ≡ Ok s) [
        | true ↦ λ g. absurd cc
        | false ↦ λ g. class_kept l (class_of l.text) s g h
      ] e

  pub all_kept : (ls : List Lines) (ss : List Stated) → all_stated no_limits ls ≡ Ok ss → none_long n ss ≡ true → all_stated bound ls ≡ Ok ss
  unfolding all_stated
  all_kept [] ss e h = e
  all_kept (l ∷ ls) ss e h =
      let a = bind_ok (stated no_limits l) (λ x. all_stated no_limits ls >>= λ xs. Ok (x ∷ xs)) ss e in
      let b = bind_ok (all_stated no_limits ls) (λ xs. Ok (a.0 ∷ xs)) ss a.2 in
      let q : a.0 ∷ b.0 ≡ ss = cc in
      let p = and_parts (not (is_long n a.0)) (none_long n b.0) (ap (none_long n) q ∙ h) in
      ap (λ r. r >>= λ x. all_stated bound ls >>= λ xs. Ok (x ∷ xs)) (stated_kept l a.0 a.1 (not_not (is_long n a.0) p.0))
      ∙ ap (λ r. r >>= λ xs. Ok (a.0 ∷ xs)) (all_kept ls b.0 b.1 p.1) ∙ ap Ok q

-- ---- texts

-- the statements of a text in Run mode are those without limits, where what they say has short names
pub statements_kept : (bytes : List ℕ) (ss : List Stated) (ts : List Statement) → statements_of no_limits bytes ≡ Ok ss → ReadsAll ss ts → all_keep (short_names 63) ts ≡ true → statements_of (limits_of Run) bytes ≡ Ok ss
statements_kept bytes ss ts e all h =
    let a = bind_ok (lines_of no_limits bytes) (all_stated no_limits) ss e in
    let covered : All IsCovered ss = rw a.2 at (all_covered no_limits a.0) in
    let wide : 17 ≤ 63 = omega arith in
    ap (λ r. r >>= all_stated (limits_of Run)) (lines_same bytes ∙ a.1) ∙ all_kept None 63 a.0 ss a.2 (long_forms 63 wide all covered ∙ h)

-- the names of what statements say that a text gives in Source mode have at most 31 characters
pub source_short : (bytes : List ℕ) (ss : List Stated) (ts : List Statement) → statements_of (limits_of Source) bytes ≡ Ok ss → ReadsAll ss ts → all_keep (short_names 31) ts ≡ true
source_short bytes ss ts e all =
    let a = bind_ok (lines_of (limits_of Source) bytes) (all_stated (limits_of Source)) ss e in
    let covered : All IsCovered ss = rw a.2 at (all_covered (limits_of Source) a.0) in
    let wide : 17 ≤ 31 = omega arith in
    sym (long_forms 31 wide all covered) ∙ all_bound (Some 19) 31 a.0 ss a.2

-- ---- what isn't too long for a limit isn't for a greater one

module _ (n k : ℕ) (le : n ≤ k) where
  less : (m : ℕ) → nat_lt n m ≡ false → nat_lt k m ≡ false
  less m h = grind (arith, nat_tests)

  token_less : (t : Token) → is_too_long (Some n) t ≡ false → is_too_long (Some k) t ≡ false
  token_less t h = go (is_name t.kind) h
    where
      go : (b : Bool) → (b && nat_lt n (t.end - t.start)) ≡ false → (b && nat_lt k (t.end - t.start)) ≡ false
      go true g = less (t.end - t.start) g
      go false g = refl

  tokens_less : (ts : List Token) → list_any (is_too_long (Some n)) ts ≡ false → list_any (is_too_long (Some k)) ts ≡ false
  tokens_less [] h = refl
  tokens_less (t ∷ ts) h = let p = or_parts (is_too_long (Some n) t) (list_any (is_too_long (Some n)) ts) h in or_from (is_too_long (Some k) t) (list_any (is_too_long (Some k)) ts) (token_less t p.0) (tokens_less ts p.1)

  mark_less : (kind : Kind) (m : Mark) → is_marked_long (Some n) kind m ≡ false → is_marked_long (Some k) kind m ≡ false
  mark_less Do (From x) h = less (length x) h
  mark_less Do m h = refl
  mark_less kind m h = refl

  long_less : (s : Stated) → is_long n s ≡ false → is_long k s ≡ false
  long_less s h =
      let p = or_parts (list_any (is_too_long (Some n)) s.tokens) (is_marked_long (Some n) s.kind s.mark) h in
      or_from (list_any (is_too_long (Some k)) s.tokens) (is_marked_long (Some k) s.kind s.mark) (tokens_less s.tokens p.0) (mark_less s.kind s.mark p.1)

  none_less : (ss : List Stated) → none_long n ss ≡ true → none_long k ss ≡ true
  none_less [] h = refl
  none_less (s ∷ ss) h =
      let p = and_parts (not (is_long n s)) (none_long n ss) h in
      and_from (not (is_long k s)) (none_long k ss) (ap not (long_less s (not_not (is_long n s) p.0))) (none_less ss p.1)

-- so they have at most 40, too
pub source_longer : (bytes : List ℕ) (ss : List Stated) (ts : List Statement) → statements_of (limits_of Source) bytes ≡ Ok ss → ReadsAll ss ts → all_keep (short_names 40) ts ≡ true
source_longer bytes ss ts e all =
    let a = bind_ok (lines_of (limits_of Source) bytes) (all_stated (limits_of Source)) ss e in
    let covered : All IsCovered ss = rw a.2 at (all_covered (limits_of Source) a.0) in
    let wide : 17 ≤ 40 = omega arith in
    let more : 31 ≤ 40 = omega arith in
    sym (long_forms 40 wide all covered) ∙ none_less 31 40 more ss (all_bound (Some 19) 31 a.0 ss a.2)
