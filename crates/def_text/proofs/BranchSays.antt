-- BranchSays: the characters of a block IF with a written condition say it.
use Rattle.std.proofs.Common.{◌≡◌, ℕ, List, [], ◌∷◌, ◌++◌, refl, sym, ap, subst, ◌∙◌, append_assoc, append-nil}
use Rattle.std.specs.Prelude.{codes}
use Rattle.adj_tree.specs.Code.{Test, unmarked}
use Rattle.adj_tree.specs.Code as trees
use Rattle.adj_tree.specs.View.{mark_of}
use Rattle.def_text.specs.declared.stated.Kind.TheVariants as classes
use Rattle.def_text.specs.declared.token.TokenKind.TheVariants.{Right}
use Rattle.def_text.specs.Char.{folded}
use Rattle.def_text.specs.Form.{opens_if, ReadsForm}
use Rattle.def_text.specs.Form as forms
use Rattle.def_text.specs.Lined.{Lines}
use Rattle.def_text.specs.Statement as statements
use Rattle.def_text.specs.Text.{test_text}
use Rattle.def_text.specs.Lexeme.{Lexeme, Mark}
use Rattle.def_text.specs.Written.{IsWrittenTest}
use Rattle.def_text.proofs.Joins.{allowed-append, folded-append}
use Rattle.def_text.proofs.Opened.{guard_lexemes, if_chars, if_statement, states_if, if_lexemes}
use Rattle.def_text.proofs.Printed.{SaysChars}
use Rattle.def_text.proofs.Said.{Says}
use Rattle.def_text.proofs.Solid.{IsSolid, solid_lexemes}
use Rattle.def_text.proofs.TestDerived.{test_lexemes, reads_test}
use Rattle.def_text.proofs.TestSpelled.{test_spelled, test_spaced}

solid_test : (c : Test) → IsWrittenTest c → IsSolid (test_text c)
solid_test c h =
    let P : List ℕ → Type 0 = IsSolid in
    subst P (test_spelled c h [] ∙ append-nil (test_text c)) (solid_lexemes (test_lexemes c []) (test_spaced c h [] tt tt))

-- what a block IF's characters are without blanks
if_folded : (c : Test) → IsWrittenTest c → folded (codes "IF (" ++ test_text c ++ codes ") THEN") ≡ if_chars c
if_folded c h =
    ap (λ cs. codes "IF(" ++ cs) (folded-append (test_text c) (codes ") THEN") ∙ ap (λ cs. cs ++ codes ")THEN") (solid_test c h).0 ∙ sym (append_assoc (test_text c) (codes ")") (codes "THEN")))

if_reads : (s : Lines) (c : Test) → s.text ≡ if_chars c → mark_of s.advice.mark ≡ unmarked → IsWrittenTest c → Says s (opens_if c)
if_reads s c e m h =
    let form : ReadsForm unmarked classes.BlockIf (guard_lexemes c) (opens_if c) = forms.ReadsForm.tests (statements.ReadsGuard.guard (reads_test c (Mark Right ∷ []) h)) in
    let P : List Lexeme → Type 0 = λ ws. ReadsForm (mark_of s.advice.mark) classes.BlockIf ws (opens_if c) in
    let Q : trees.Mark → Type 0 = λ mark. ReadsForm mark classes.BlockIf (guard_lexemes c) (opens_if c) in
    record {
      found = if_statement s c;
      is_stated = states_if s c e h;
      at_line = refl;
      with_label = refl;
      with_split = refl;
      form = subst P (sym (if_lexemes s c e h)) (subst Q (sym m) form);
    }

pub says_if : (c : Test) → IsWrittenTest c → SaysChars unmarked (codes "IF (" ++ test_text c ++ codes ") THEN") (opens_if c)
says_if c h = record {
  first = 73;
  others = codes "F (" ++ test_text c ++ codes ") THEN";
  are = refl;
  some = refl;
  allowed = allowed-append (codes "IF (" ++ test_text c) (codes ") THEN") (solid_test c h).1 refl;
  says = λ s e m. if_reads s c (e ∙ if_folded c h) m h;
}
