-- Sayings: characters that are a keyword, blanks among it, and spelled lexemes say what the lexemes derive.
use Rattle.std.proofs.Common.{◌≡◌, ℕ, false, List, [], ◌∷◌, ◌++◌, refl, ap, ◌∙◌}
use Rattle.std.specs.List.{flat_map, list_all}
use Rattle.adj_tree.specs.Code as trees
use Rattle.def_text.specs.declared.stated.Kind.{Kind}
use Rattle.def_text.specs.Char.{is_blank, folded, is_name_char}
use Rattle.def_text.specs.Form.{Form, ReadsForm}
use Rattle.def_text.specs.Lexeme.{Lexeme, Named}
use Rattle.def_text.proofs.Classes.{name_chars}
use Rattle.def_text.proofs.Joins.{AreAllowed, allowed-append, folded-append}
use Rattle.def_text.proofs.Printed.{SaysChars}
use Rattle.def_text.proofs.Said.{says_statement}
use Rattle.def_text.proofs.Scans.{both_true}
use Rattle.def_text.proofs.Solid.{name_char_stays, solid_lexemes}
use Rattle.def_text.proofs.Spelled.{spelling}
use Rattle.def_text.proofs.Stating.{IsStatement}

-- a keyword with blanks among it, and lexemes behind it
pub says_lexemes : (mark : trees.Mark) (kind : Kind) (first : ℕ) (lead keyword : List ℕ) (ws : List Lexeme) (chars : List ℕ) (f : Form) → chars ≡ (first ∷ lead) ++ flat_map spelling ws → folded (first ∷ lead) ≡ keyword → is_blank first ≡ false → AreAllowed (first ∷ lead) → IsStatement kind keyword ws → ReadsForm mark kind ws f → SaysChars mark chars f
says_lexemes mark kind first lead keyword ws chars f are folds some allowed h form =
    let solid = solid_lexemes ws h.spaced in
    record {
      first = first;
      others = lead ++ flat_map spelling ws;
      are = are;
      some = some;
      allowed = allowed-append (first ∷ lead) (flat_map spelling ws) allowed solid.1;
      says = λ s e m. says_statement s kind keyword ws f (e ∙ ap folded are ∙ folded-append (first ∷ lead) (flat_map spelling ws) ∙ rw (folds, solid.0) refl) h (rw m form);
    }

-- a statement without a keyword: its first lexeme is a name
pub says_named : (mark : trees.Mark) (kind : Kind) (x : List ℕ) (ws : List Lexeme) (chars : List ℕ) (f : Form) → chars ≡ x ++ flat_map spelling ws → IsStatement kind [] (Named x ∷ ws) → ReadsForm mark kind (Named x ∷ ws) f → SaysChars mark chars f
says_named mark kind [] ws chars f are h form = absurd (cc (h.spaced.0))
says_named mark kind (c ∷ cs) ws chars f are h form =
    let solid = solid_lexemes (Named (c ∷ cs) ∷ ws) h.spaced in
    let chars_are = both_true (is_name_char c) (list_all is_name_char cs) (name_chars (c ∷ cs) h.spaced.0) in
    record {
      first = c;
      others = cs ++ flat_map spelling ws;
      are = are;
      some = (name_char_stays c chars_are.0).0;
      allowed = solid.1;
      says = λ s e m. says_statement s kind [] (Named (c ∷ cs) ∷ ws) f (e ∙ ap folded are ∙ solid.0) h (rw m form);
    }
