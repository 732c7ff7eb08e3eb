-- SaidForms: what a statement is found to say, in the lexemes of the grammar of texts.
use Rattle.std.proofs.Common.{◌≡◌, ◌⊎◌, inl, inr, ℕ, Bool, true, false, List, Option, Some, None, option_map, IfSome, Ok, Err, sym, ap, ◌∙◌, subst}
use Rattle.def_text.proofs.Parts.{map_some}
use Rattle.adj_tree.specs.Code.{Mark, unmarked}
use Rattle.def_text.specs.Form.{Form, ReadsForm}
use Rattle.def_text.specs.Lexeme.{Lexeme}
use Rattle.def_text.specs.declared.stated.Kind.{Kind}
use Rattle.def_text.specs.declared.stated.Kind.TheVariants.{Do}
use Rattle.adj_parse_expression.specs.Judged.{judged_by}
use Rattle.adj_parse_expression.specs.declared.flaw.Flaw.TheVariants.{Large, Deep}
use Rattle.adj_parse_statement.proofs.FormsFit.{judged_ok}
use Rattle.adj_parse_statement.specs.Phrase.{Phrase, Says}
use Rattle.adj_parse_statement.specs.Phrases.{phrase_of}
use Rattle.adj_parse_statement.specs.Said.{phrase_large, phrase_deep, form, judged_phrase, said}
use Rattle.adj_parse_statement.proofs.PhraseComplete.{phrase_read}
use Rattle.adj_parse_statement.proofs.PhraseSound.{phrase_said}
use Rattle.adj_parse_statement.proofs.PhraseForms.{form_reads}
use Rattle.adj_parse_statement.proofs.FormPhrases.{form_says}

pub phrase_found : (o : Option Phrase) (P : Phrase → Type 0) (p : Phrase) → o ≡ Some p → IfSome o P → P p
phrase_found None P p e h = absurd cc
phrase_found (Some q) P p e h = let k : q ≡ p = cc in subst P k h

-- a form that is found is one that the lexemes have
pub said_reads : (limit : ℕ) (mark : Mark) (kind : Kind) (lexemes : List Lexeme) (f : Form) → said limit mark kind lexemes ≡ Some (Ok f) → (mark ≡ unmarked) ⊎ (kind ≡ Do) → ReadsForm mark kind lexemes f
unfolding said
said_reads limit mark kind lexemes f h m =
    let k = map_some (judged_phrase limit mark) (phrase_of kind lexemes) (Ok f) h in
    form_reads (phrase_found (phrase_of kind lexemes) (Says kind lexemes) k.0 k.1 (phrase_said kind lexemes)) f (judged_ok (phrase_large k.0) (phrase_deep limit k.0) (form mark k.0) f k.2).2 m

-- a form that the lexemes have is found, but for a literal that is too large and for the depth
pub said_answers : (limit : ℕ) (mark : Mark) (kind : Kind) (lexemes : List Lexeme) (f : Form) → ReadsForm mark kind lexemes f → (said limit mark kind lexemes ≡ Some (Ok f)) ⊎ ((said limit mark kind lexemes ≡ Some (Err Large)) ⊎ (said limit mark kind lexemes ≡ Some (Err Deep)))
unfolding said
said_answers limit mark kind lexemes f h =
    let p = form_says h in
    let found = ap (option_map (judged_phrase limit mark)) (phrase_read p.1) ∙ ap (λ o. Some (judged_by (phrase_large p.0) (phrase_deep limit p.0) o)) p.2 in
    cases (phrase_large p.0) (phrase_deep limit p.0) found
  where
    cases : (large deep : Bool) → said limit mark kind lexemes ≡ Some (judged_by large deep (Some f)) → (said limit mark kind lexemes ≡ Some (Ok f)) ⊎ ((said limit mark kind lexemes ≡ Some (Err Large)) ⊎ (said limit mark kind lexemes ≡ Some (Err Deep)))
    cases true deep e = inr (inl e)
    cases false true e = inr (inr e)
    cases false false e = inl e

some_is : {A : Type 0} (p q : A) → Some p ≡ Some q → p ≡ q
some_is p q h = cc

-- and it is one form
pub one_form : (mark : Mark) (kind : Kind) (lexemes : List Lexeme) (f g : Form) → ReadsForm mark kind lexemes f → ReadsForm mark kind lexemes g → f ≡ g
one_form mark kind lexemes f g h k =
    let p = form_says h in
    let q = form_says k in
    let same = some_is p.0 q.0 (sym (phrase_read p.1) ∙ phrase_read q.1) in
    some_is f g (sym p.2 ∙ ap (form mark) same ∙ q.2)
