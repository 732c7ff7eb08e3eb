-- Repeated: a DO WHILE with a written condition is a statement of its class with its lexemes, and its characters say it.
use Rattle.std.proofs.Common.{◌≡◌, ℕ, ◌+◌, true, false, eqb, List, [], ◌∷◌, ◌++◌, length, Some, option_map, refl, sym, ap, ◌∙◌, arith, append-nil, length-append}
use Rattle.std.specs.Prelude.{codes, unwrap_or}
use Rattle.std.proofs.lemmas.Bool.{eq-eqb}
use Rattle.adj_tree.specs.Code.{Test, unmarked}
use Rattle.def_text.specs.declared.stated.Kind.TheVariants as classes
use Rattle.def_text.specs.declared.token.TokenKind.TheVariants.{Right}
use Rattle.def_text.specs.Char.{right, equals}
use Rattle.def_text.specs.Class.{has_open, is_matched, group_len, is_group, kind_of, class_of}
use Rattle.def_text.specs.Form.{opens_while}
use Rattle.def_text.specs.Form as forms
use Rattle.def_text.specs.Statement as statements
use Rattle.def_text.specs.Text.{test_text}
use Rattle.def_text.specs.Lexeme.{Mark}
use Rattle.def_text.specs.Written.{IsWrittenTest}
use Rattle.def_text.proofs.Assigned.{matches-nothing}
use Rattle.def_text.proofs.Balanced.{IsInner, grouped, opening-groups, closing-group, balanced-grouped}
use Rattle.def_text.proofs.TermBalanced.{balanced-plain, test_balanced}
use Rattle.def_text.proofs.Opened.{guard_lexemes, guard_spelled, guard_spaced}
use Rattle.def_text.proofs.Printed.{SaysChars}
use Rattle.def_text.proofs.Sayings.{says_lexemes}
use Rattle.def_text.proofs.Stating.{IsStatement}
use Rattle.def_text.proofs.TestDerived.{reads_test}

-- characters in parentheses end where their parenthesis closes
group_closed : (cs : List ℕ) → IsInner cs → is_group (grouped cs) ≡ true
group_closed cs h =
    let len : group_len 0 (grouped cs) ≡ Some (length (grouped cs)) =
    opening-groups 0 (cs ++ right ∷ [])
    ∙ ap (option_map (λ k. k + 1)) (h.groups 0 (right ∷ []) ∙ ap (option_map (λ k. k + length cs)) (closing-group []))
    ∙ ap Some (let e = length-append cs (right ∷ []) in omega arith) in
    ap (λ o. eqb (unwrap_or o 0) (length (grouped cs))) len ∙ eq-eqb (length (grouped cs)) (length (grouped cs)) refl

nothing_open : has_open equals 0 [] ≡ false
unfolding has_open
nothing_open = refl

-- no = stands open in it
no_assignment : (cs : List ℕ) → IsInner cs → has_open equals 0 (codes "DOWHILE" ++ grouped cs) ≡ false
no_assignment cs h =
    (balanced-plain (codes "DOWHILE") refl).assigns (grouped cs)
    ∙ ap (has_open equals 0) (sym (append-nil (grouped cs)))
    ∙ (balanced-grouped cs h).assigns []
    ∙ nothing_open

while_classed : (cs : List ℕ) → IsInner cs → class_of (codes "DOWHILE" ++ grouped cs) ≡ Some classes.DoWhile
unfolding kind_of
while_classed cs h = rw (no_assignment cs h, group_closed cs h) refl

while_matched : (cs : List ℕ) → IsInner cs → is_matched 0 (codes "DOWHILE" ++ grouped cs) ≡ true
while_matched cs h =
    (balanced-plain (codes "DOWHILE") refl).matches (grouped cs)
    ∙ ap (is_matched 0) (sym (append-nil (grouped cs)))
    ∙ (balanced-grouped cs h).matches []
    ∙ matches-nothing

-- it is a statement of its class with its lexemes
is_while : (c : Test) → IsWrittenTest c → IsStatement classes.DoWhile (codes "DOWHILE") (guard_lexemes c)
is_while c h =
    let spelled = guard_spelled c h in
    let inside = (test_balanced c h).inner in
    record {
      spaced = guard_spaced c h;
      some = omega arith;
      classed = ap (λ xs. class_of (codes "DOWHILE" ++ xs)) spelled ∙ while_classed (test_text c) inside;
      matched = ap (λ xs. is_matched 0 (codes "DOWHILE" ++ xs)) spelled ∙ while_matched (test_text c) inside;
      keyword_ends = refl;
      whole = refl;
      calls_none = refl;
    }

-- a DO WHILE
pub says_while : (c : Test) → IsWrittenTest c → SaysChars unmarked (codes "DO WHILE (" ++ test_text c ++ codes ")") (opens_while c)
says_while c h =
    says_lexemes unmarked classes.DoWhile 68 (codes "O WHILE ") (codes "DOWHILE") (guard_lexemes c) (codes "DO WHILE (" ++ test_text c ++ codes ")") (opens_while c) (ap (λ xs. codes "DO WHILE " ++ xs) (sym (guard_spelled c h))) refl refl refl (is_while c h) (forms.ReadsForm.repeats (statements.ReadsGuard.guard (reads_test c (Mark Right ∷ []) h)))
