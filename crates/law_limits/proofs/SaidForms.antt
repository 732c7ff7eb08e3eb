-- What a statement is found to say within a depth.
use Rattle.std.proofs.Common.{◌≡◌, ◌≤◌, ℕ, true, false, List, Some, option_map, Ok, IfSome, sym, ap, ◌∙◌}
use Rattle.std.specs.Prelude.{not}
use Rattle.adj_tree.specs.Code.{Mark}
use Rattle.def_text.specs.Form.{Form, ReadsForm}
use Rattle.def_text.specs.Lexeme.{Lexeme}
use Rattle.def_text.specs.declared.stated.Kind.{Kind}
use Rattle.def_text.proofs.Parts.{map_some}
use Rattle.adj_parse_expression.specs.Judged.{judged_by}
use Rattle.adj_parse_statement.specs.Phrase.{Phrase, Says}
use Rattle.adj_parse_statement.specs.Phrases.{phrase_of}
use Rattle.adj_parse_statement.specs.Said.{phrase_large, phrase_deep, form, judged_phrase, said}
use Rattle.adj_parse_statement.proofs.FormsFit.{judged_ok}
use Rattle.adj_parse_statement.proofs.SaidForms.{phrase_found}
use Rattle.law_limits.specs.Kept.{shallow}
use Rattle.law_limits.proofs.Truths.{not_not}
use Rattle.law_limits.proofs.Keeping.{form_keeps}
use Rattle.law_limits.proofs.FittingTerms.{fitting}
use Rattle.law_limits.proofs.ShallowForms.{form_shallow}
use Rattle.law_limits.proofs.FittingForms.{form_small}

-- the laws on what statements say
pub record Laws : Type 0 where
  pub complete : (kind : Kind) (lexemes : List Lexeme) (p : Phrase) → Says kind lexemes p → phrase_of kind lexemes ≡ Some p
  pub sound : (kind : Kind) (lexemes : List Lexeme) → IfSome (phrase_of kind lexemes) (Says kind lexemes)
  pub phrases : (mark : Mark) (kind : Kind) (lexemes : List Lexeme) (f : Form) → ReadsForm mark kind lexemes f → (p : Phrase) × Says kind lexemes p × (form mark p ≡ Some f)

module _ (laws : Laws) (d : ℕ) (some : 1 ≤ d) where
  -- a form that is no deeper, and whose literals and extents are words, is found
  pub said_right : (mark : Mark) (kind : Kind) (lexemes : List Lexeme) (f : Form) → ReadsForm mark kind lexemes f → form_keeps (shallow d) f ≡ true → form_keeps fitting f ≡ true → said d mark kind lexemes ≡ Some (Ok f)
  unfolding said
  said_right mark kind lexemes f r h g =
      let p = laws.phrases mark kind lexemes f r in
      let deep : phrase_deep d p.0 ≡ false = not_not (phrase_deep d p.0) (sym (form_shallow d some p.1 mark f p.2) ∙ h) in
      let large = form_small p.1 mark f p.2 g in
      ap (option_map (judged_phrase d mark)) (laws.complete kind lexemes p.0 p.1) ∙ ap (λ o. Some (judged_by (phrase_large p.0) (phrase_deep d p.0) o)) p.2
      ∙ ap (λ b. Some (judged_by b (phrase_deep d p.0) (Some f))) large ∙ ap (λ b. Some (judged_by false b (Some f))) deep

  -- and what is found is no deeper
  pub said_shallow : (mark : Mark) (kind : Kind) (lexemes : List Lexeme) (f : Form) → said d mark kind lexemes ≡ Some (Ok f) → form_keeps (shallow d) f ≡ true
  unfolding said
  said_shallow mark kind lexemes f h =
      let k = map_some (judged_phrase d mark) (phrase_of kind lexemes) (Ok f) h in
      let says = phrase_found (phrase_of kind lexemes) (Says kind lexemes) k.0 k.1 (laws.sound kind lexemes) in
      let j = judged_ok (phrase_large k.0) (phrase_deep d k.0) (form mark k.0) f k.2 in
      form_shallow d some says mark f j.2 ∙ ap not j.1
