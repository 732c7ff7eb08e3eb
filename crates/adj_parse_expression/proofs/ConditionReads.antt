-- ConditionReads: a reading of a condition over the tokens that are left.
use Rattle.std.proofs.Common.{◌≡◌, ℕ, List, [], ◌∷◌, length, Option, Some, None, option_map, Bor, refl, sym, ap, ◌∙◌, if◌then◌else◌, cond, Bool, true, false}
use Rattle.std.proofs.lemmas.List.{nil_from_length}
use Rattle.def_text.specs.declared.token.Token.{Token}
use Rattle.def_text.specs.declared.token.TokenKind.{TokenKind}
use Rattle.def_text.specs.declared.token.TokenKind.TheVariants.{Name, Number}
use Rattle.def_text.specs.Lexeme.{Lexeme, lexeme, lexeme_of, lexemes_of, part, Mark}
use Rattle.def_text.specs.Machine.{chosen}
use Rattle.adj_parse_expression.specs.declared.proposition.Proposition.{Proposition}
use Rattle.adj_parse_expression.specs.PartialCondition.{PartialTest, proposition_of}
use Rattle.std.specs.Prelude.{IfSome}
use Rattle.adj_parse_expression.specs.ConditionMachine.{TestAlgebra, TestState, advance, conclude, is_end, ended, read_test}

-- a name and a number end no condition
is_end-lexeme : (kind : TokenKind) (text : List ℕ) → is_end (lexeme kind text) ≡ is_end (Mark kind)
is_end-lexeme Name text = refl
is_end-lexeme Number text = refl
is_end-lexeme _ text = refl

module _ {X C : Type 0} (alg : TestAlgebra X C) (text : List ℕ) (s : TestState X C) (rest : List Token) (total : Option (C × List Lexeme)) where
  pub test_goes_on : (token : Token) (behind : List Token) (t : TestState X C) → rest ≡ token ∷ behind → advance alg s (lexeme_of text token) ≡ Some t → read_test alg s (lexemes_of text rest) ≡ total → read_test alg t (lexemes_of text behind) ≡ total
  unfolding read_test
  test_goes_on token behind t is h so_far =
      sym (ap (λ ts. read_test alg s (lexemes_of text ts)) is ∙ rw h refl) ∙ so_far

  test_stuck : (token : Token) (behind : List Token) (found : Option C) → rest ≡ token ∷ behind → advance alg s (lexeme_of text token) ≡ None → found ≡ conclude alg s → read_test alg s (lexemes_of text rest) ≡ total
      → (if is_end (Mark token.kind) then option_map (λ c. (c, lexemes_of text rest)) found else None) ≡ total
  unfolding read_test
  test_stuck token behind found is h end so_far =
      let w = lexeme_of text token in
      let stopped : Bool → Option C → List Lexeme → Option (C × List Lexeme) = λ b o ws. cond b (option_map (λ c. (c, ws)) o) None in
      ap (λ b. stopped b found (lexemes_of text rest)) (sym (is_end-lexeme token.kind (part text token.start token.end)))
      ∙ ap (λ o. stopped (is_end w) o (lexemes_of text rest)) end
      ∙ ap (λ ts. stopped (is_end w) (conclude alg s) (lexemes_of text ts)) is
      ∙ sym (ap (λ ts. read_test alg s (lexemes_of text ts)) is ∙ ap (λ o. chosen o (λ t. read_test alg t (lexemes_of text behind)) (ended w (lexemes_of text behind) (conclude alg s))) h)
      ∙ so_far

  -- the token ends the condition, or none is there
  pub test_ended : (token : Token) (behind : List Token) (found : Option C) → is_end (Mark token.kind) ≡ true → rest ≡ token ∷ behind → advance alg s (lexeme_of text token) ≡ None → found ≡ conclude alg s → read_test alg s (lexemes_of text rest) ≡ total → option_map (λ c. (c, lexemes_of text rest)) found ≡ total
  test_ended token behind found end is h whole so_far = ap (λ b. let o : Option (C × List Lexeme) = cond b (option_map (λ c. (c, lexemes_of text rest)) found) None in o) (sym end) ∙ test_stuck token behind found is h whole so_far

  pub test_refused : (token : Token) (behind : List Token) (found : Option C) → is_end (Mark token.kind) ≡ false → rest ≡ token ∷ behind → advance alg s (lexeme_of text token) ≡ None → found ≡ conclude alg s → read_test alg s (lexemes_of text rest) ≡ total → None ≡ total
  test_refused token behind found end is h whole so_far = ap (λ b. let o : Option (C × List Lexeme) = cond b (option_map (λ c. (c, lexemes_of text rest)) found) None in o) (sym end) ∙ test_stuck token behind found is h whole so_far

  pub test_ends : length rest ≡ 0 → read_test alg s (lexemes_of text rest) ≡ total → option_map (λ c. (c, lexemes_of text rest)) (conclude alg s) ≡ total
  unfolding read_test
  test_ends none so_far =
      let is : rest ≡ [] = nil_from_length rest none in
      let stopped : List Lexeme → Option (C × List Lexeme) = λ ws. option_map (λ c. (c, ws)) (conclude alg s) in
      ap (λ ts. stopped (lexemes_of text ts)) is ∙ sym (ap (λ ts. read_test alg s (lexemes_of text ts)) is) ∙ so_far

-- a condition with the tokens behind it
pub with_rest : (text : List ℕ) (found : Option (Proposition × Bor (List Token))) (whole : Option PartialTest) (rest : List Token) → option_map (λ f. proposition_of f.0) found ≡ whole → IfSome found (λ f. f.1.now ≡ rest)
    → option_map {U = PartialTest × List Lexeme} (λ f. (proposition_of f.0, lexemes_of text f.1.now)) found ≡ option_map (λ c. (c, lexemes_of text rest)) whole
with_rest text None whole rest is behind = let pair : PartialTest → PartialTest × List Lexeme = λ c. (c, lexemes_of text rest) in ap (option_map pair) is
with_rest text (Some f) whole rest is behind =
    let pair : List Token → PartialTest → PartialTest × List Lexeme = λ ts c. (c, lexemes_of text ts) in
    ap (λ ts. Some (pair ts (proposition_of f.0))) behind ∙ ap (option_map (pair rest)) is
