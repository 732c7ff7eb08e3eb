-- ReadsBack: the canonical text of a program reads as it, where the characters of each statement say it.
use Rattle.std.proofs.Common.{ℕ, Bool, true, false, List, [], ◌∷◌, ◌++◌, map, None, refl, sym, subst, append_assoc}
use Rattle.std.specs.Prelude.{codes}
use Rattle.std.specs.List.{flat_map}
use Rattle.adj_tree.specs.Code.{plain, shadow, helper, Mark, unmarked, with_count, count_from, Act, Code, assign, choose, loop, during, call, runtime, stop, step, Declaration, Procedure}
use Rattle.adj_tree.specs.Common.{without_commons}
use Rattle.def_text.specs.declared.stated.Kind.TheVariants as classes
use Rattle.def_text.specs.Char.{comma, equals}
use Rattle.def_text.specs.Form.{Form, subroutine, implicit_none, integers, simple, opens_do, opens_while, end_do, opens_if, otherwise, end_if, ends, ReadsForm}
use Rattle.def_text.specs.Form as forms
use Rattle.def_text.specs.Reads.{ReadsSplits}
use Rattle.def_text.specs.ReadsAs.{ReadsAs}
use Rattle.def_text.specs.Text.{statement, bracketed, var_text, term_text, term_texts, place_text, test_text, runtime_name, runtime_actuals, directive, step_text, act_text, code_text, else_text, extent_text, declaration_text, implicit_text, procedure_text, text_of}
use Rattle.def_text.specs.Written.{IsWrittenMark}
use Rattle.def_text.proofs.Placed.{act_forms, code_forms, else_forms, item_of, declaration_forms, implicit_forms, procedure_forms, program_forms, program_back}
use Rattle.def_text.proofs.Plain.{is_end, is_end_if, is_end_do, is_else, is_implicit}
use Rattle.def_text.proofs.Printed as printed
use Rattle.def_text.proofs.Printed.{SaysChars, Printed, printed_reads, printed_splits}
use Rattle.def_text.proofs.Sayings.{says_lexemes}

-- the characters of each statement say it
abbrev mutual
  pub SaidAct : Act → Type 0
  SaidAct (assign x s e) = SaysChars unmarked (place_text x s ++ equals ∷ term_text e) (simple (assign x s e))
  SaidAct (choose c a b) = SaysChars unmarked (codes "IF (" ++ test_text c ++ codes ") THEN") (opens_if c) × SaidCode a × SaidCode b
  SaidAct (loop x a b c body m) = IsWrittenMark m × SaysChars m (codes "DO " ++ var_text x ++ equals ∷ term_text a ++ comma ∷ term_text b ++ step_text c) (opens_do None (record { counter = x; from = a; to = b; by = c }) m) × SaidCode body
  SaidAct (during c body) = SaysChars unmarked (codes "DO WHILE (" ++ test_text c ++ codes ")") (opens_while c) × SaidCode body
  SaidAct (call x es) = SaysChars unmarked (codes "CALL " ++ x ++ bracketed (term_texts es)) (simple (call x es))
  SaidAct (runtime r) = SaysChars unmarked (codes "CALL " ++ runtime_name r ++ bracketed (runtime_actuals r)) (simple (runtime r))

  pub SaidCode : Code → Type 0
  SaidCode stop = Unit {0}
  SaidCode (step line a rest) = SaidAct a × SaidCode rest

abbrev pub SaidDeclaration : Declaration → Type 0
SaidDeclaration d = SaysChars unmarked (codes "INTEGER*8 " ++ d.name ++ bracketed (map extent_text d.extents)) (integers (item_of d ∷ []))

abbrev pub SaidDeclarations : List Declaration → Type 0
SaidDeclarations [] = Unit {0}
SaidDeclarations (d ∷ ds) = SaidDeclaration d × SaidDeclarations ds

pub record SaidProcedure (p : Procedure) : Type 0 where
  pub heading : SaysChars unmarked (codes "SUBROUTINE " ++ p.name ++ bracketed p.dummies) (subroutine p.name p.dummies)
  pub declarations : SaidDeclarations p.declarations
  pub body : SaidCode p.body

abbrev pub SaidProgram : List Procedure → Type 0
SaidProgram [] = Unit {0}
SaidProgram (p ∷ ps) = SaidProcedure p × SaidProgram ps

-- statements that are one lexeme
says_end : SaysChars unmarked (codes "END") ends
says_end = says_lexemes unmarked classes.End 69 (codes "ND") (codes "END") [] (codes "END") ends refl refl refl refl is_end forms.ReadsForm.ended

says_end_if : SaysChars unmarked (codes "END IF") end_if
says_end_if = says_lexemes unmarked classes.EndIf 69 (codes "ND IF") (codes "ENDIF") [] (codes "END IF") end_if refl refl refl refl is_end_if forms.ReadsForm.closed

says_end_do : SaysChars unmarked (codes "END DO") end_do
says_end_do = says_lexemes unmarked classes.EndDo 69 (codes "ND DO") (codes "ENDDO") [] (codes "END DO") end_do refl refl refl refl is_end_do forms.ReadsForm.finished

says_else : SaysChars unmarked (codes "ELSE") otherwise
says_else = says_lexemes unmarked classes.Else 69 (codes "LSE") (codes "ELSE") [] (codes "ELSE") otherwise refl refl refl refl is_else forms.ReadsForm.turns

says_implicit : SaysChars unmarked (codes "IMPLICIT NONE") implicit_none
says_implicit = says_lexemes unmarked classes.ImplicitNone 73 (codes "MPLICIT NONE") (codes "IMPLICITNONE") [] (codes "IMPLICIT NONE") implicit_none refl refl refl refl is_implicit forms.ReadsForm.implicit

-- pieces in front of what is printed
module _ {fs : List Form} where
  apart : (xs ys cs : List ℕ) → Printed (xs ++ (ys ++ cs)) fs → Printed ((xs ++ ys) ++ cs) fs
  apart xs ys cs h = let P : List ℕ → Type 0 = λ zs. Printed zs fs in subst P (sym (append_assoc xs ys cs)) h

-- the other part of an IF, where its statements are printed
printed_else : (k : Code) (cs : List ℕ) (fs : List Form) → Printed (code_text k ++ (statement (codes "END IF") ++ cs)) (code_forms k (end_if ∷ fs)) → Printed (else_text k ++ (statement (codes "END IF") ++ cs)) (else_forms k fs)
printed_else stop cs fs inner = inner
printed_else (step n a k) cs fs inner =
    let behind = statement (codes "END IF") ++ cs in
    let P : List ℕ → Type 0 = λ zs. Printed (zs ++ behind) (else_forms (step n a k) fs) in
    subst P (sym (append_assoc (statement (codes "ELSE")) (act_text a) (code_text k))) (apart (statement (codes "ELSE")) (act_text a ++ code_text k) behind (printed.Printed.more says_else inner))

-- a statement behind its directive, or without one
printed_marked : (m : Mark) (chars cs : List ℕ) {f : Form} {fs : List Form} → IsWrittenMark m → SaysChars m chars f → Printed cs fs → Printed ((directive m ++ statement chars) ++ cs) (f ∷ fs)
printed_marked unmarked chars cs w h rest = printed.Printed.more h rest
printed_marked (with_count n) chars cs w h rest = apart (directive (with_count n)) (statement chars) cs (printed.Printed.marked w h rest)
printed_marked (count_from (plain x)) chars cs w h rest = apart (directive (count_from (plain x))) (statement chars) cs (printed.Printed.marked w h rest)
printed_marked (count_from (shadow x)) chars cs w h rest = absurd w
printed_marked (count_from (helper r k)) chars cs w h rest = absurd w

mutual
  printed_act : (a : Act) {cs : List ℕ} {fs : List Form} → SaidAct a → Printed cs fs → Printed (act_text a ++ cs) (act_forms a fs)
  printed_act (assign x s e) h rest = printed.Printed.more h rest
  printed_act (call x es) h rest = printed.Printed.more h rest
  printed_act (runtime r) h rest = printed.Printed.more h rest
  printed_act (choose c a b) {cs = cs} {fs = fs} h rest =
      let first = statement (codes "IF (" ++ test_text c ++ codes ") THEN") in
      let last = statement (codes "END IF") in
      let other = printed_else b cs fs (printed_code b h.2 (printed.Printed.more says_end_if rest)) in
      let inner = printed_code a h.1 other in
      apart (first ++ code_text a ++ else_text b) last cs (apart (first ++ code_text a) (else_text b) (last ++ cs) (apart first (code_text a) (else_text b ++ (last ++ cs)) (printed.Printed.more h.0 inner)))
  printed_act (during c body) {cs = cs} {fs = fs} h rest =
      let first = statement (codes "DO WHILE (" ++ test_text c ++ codes ")") in
      let last = statement (codes "END DO") in
      let inner = printed_code body h.1 (printed.Printed.more says_end_do rest) in
      apart (first ++ code_text body) last cs (apart first (code_text body) (last ++ cs) (printed.Printed.more h.0 inner))
  printed_act (loop x a b c body m) {cs = cs} {fs = fs} h rest =
      let first = statement (codes "DO " ++ var_text x ++ equals ∷ term_text a ++ comma ∷ term_text b ++ step_text c) in
      let last = statement (codes "END DO") in
      let inner = printed_code body h.2 (printed.Printed.more says_end_do rest) in
      apart (directive m ++ first ++ code_text body) last cs (apart (directive m ++ first) (code_text body) (last ++ cs) (printed_marked m _ _ h.0 h.1 inner))

  printed_code : (k : Code) {cs : List ℕ} {fs : List Form} → SaidCode k → Printed cs fs → Printed (code_text k ++ cs) (code_forms k fs)
  printed_code stop h rest = rest
  printed_code (step n a k) {cs = cs} h rest = apart (act_text a) (code_text k) cs (printed_act a h.0 (printed_code k h.1 rest))

printed_declarations : (ds : List Declaration) {cs : List ℕ} {fs : List Form} → SaidDeclarations ds → Printed cs fs → Printed (flat_map declaration_text ds ++ cs) (declaration_forms ds fs)
printed_declarations [] h rest = rest
printed_declarations (d ∷ ds) {cs = cs} h rest = apart (declaration_text d) (flat_map declaration_text ds) cs (printed.Printed.more h.0 (printed_declarations ds h.1 rest))

printed_implicit : (is_none : Bool) {cs : List ℕ} {fs : List Form} → Printed cs fs → Printed (implicit_text is_none ++ cs) (implicit_forms is_none fs)
printed_implicit true rest = printed.Printed.more says_implicit rest
printed_implicit false rest = rest

printed_unit : (p : Procedure) {cs : List ℕ} {fs : List Form} → SaidProcedure p → Printed cs fs → Printed (procedure_text p ++ cs) (procedure_forms p fs)
printed_unit p {cs = cs} h rest =
    let first = statement (codes "SUBROUTINE " ++ p.name ++ bracketed p.dummies) in
    let implicit = implicit_text p.is_none in
    let declared = flat_map declaration_text p.declarations in
    let last = statement (codes "END") in
    let inner = printed_implicit p.is_none (printed_declarations p.declarations h.declarations (printed_code p.body h.body (printed.Printed.more says_end rest))) in
    apart (first ++ implicit ++ declared ++ code_text p.body) last cs
    (apart (first ++ implicit ++ declared) (code_text p.body) (last ++ cs)
    (apart (first ++ implicit) declared (code_text p.body ++ (last ++ cs))
    (apart first implicit (declared ++ (code_text p.body ++ (last ++ cs))) (printed.Printed.more h.heading inner))))

printed_program : (ps : List Procedure) → SaidProgram ps → Printed (text_of ps) (program_forms ps)
printed_program [] h = printed.Printed.none
printed_program (p ∷ ps) h = printed_unit p h.0 (printed_program ps h.1)

-- then the text of a program reads as it
pub reads_back : (ps : List Procedure) → SaidProgram ps → ReadsAs (text_of ps) ps
reads_back ps h =
    let r = printed_reads (text_of ps) (program_forms ps) (printed_program ps h) in
    let b = program_back ps r.0 r.1 in
    (b.0, r.2 (map without_commons b.0) b.1, b.2)

-- and has no directive that splits a call
pub splits_back : (ps : List Procedure) → SaidProgram ps → ReadsSplits (text_of ps) []
splits_back ps h = printed_splits (text_of ps) (program_forms ps) (printed_program ps h)
