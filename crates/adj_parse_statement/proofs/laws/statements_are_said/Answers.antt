use Rattle.std.proofs.Common.{◌≡◌, Some, sym, ◌∙◌}
use Rattle.adj_parse_statement.specs.Phrase.{Phrase}
use Rattle.adj_parse_statement.proofs.PhraseComplete.{phrase_read}
use Rattle.adj_parse_statement.proofs.PhraseSound.{phrase_said}
use Rattle.adj_parse_statement.proofs.PhraseForms.{form_reads}
use Rattle.adj_parse_statement.proofs.FormPhrases.{form_says}
use Rattle.adj_parse_statement.proofs.laws.statements_are_said.Goals as goal

some_is : (p q : Phrase) → Some p ≡ Some q → p ≡ q
some_is p q h = cc

pub returns-clause-complete : goal.returns-clause-complete
returns-clause-complete c = λ kind lexemes p h. phrase_read h

pub returns-clause-sound : goal.returns-clause-sound
returns-clause-sound c = λ kind lexemes. phrase_said kind lexemes

pub returns-clause-one : goal.returns-clause-one
returns-clause-one c = λ kind lexemes p q h k. some_is p q (sym (phrase_read h) ∙ phrase_read k)

pub returns-clause-forms : goal.returns-clause-forms
returns-clause-forms c = λ mark kind lexemes p f h k m. form_reads h f k m

pub returns-clause-phrases : goal.returns-clause-phrases
returns-clause-phrases c = λ mark kind lexemes f h. form_says h
