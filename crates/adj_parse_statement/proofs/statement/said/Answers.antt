use Rattle.std.proofs.Common.{ℕ, List, map, Option, Vec, Box, Global, refl, ap, ◌∙◌}
use Rattle.adj_tree.specs.Code as code
use Rattle.adj_tree.specs.View.{mark_of, test_of, act_of}
use Rattle.adj_tree.specs.declared.expr.Cond.{Cond}
use Rattle.adj_tree.specs.declared.stmt.Act.{Act}
use Rattle.def_text.specs.Form.{integers, common, simple, logical, opens_do, opens_while, opens_if, otherwise_if}
use Rattle.def_text.specs.Lexeme.{lexemes_of}
use Rattle.def_text.specs.Statement as statement
use Rattle.def_text.specs.declared.stated.Kind.TheVariants as kind
use Rattle.adj_parse_statement.specs.View.{item_of, loop_seen, form_of}
use Rattle.adj_parse_statement.specs.LexemesView.{lexemes_in}
use Rattle.adj_parse_statement.specs.declared.content.Item.{Item}
use Rattle.adj_parse_statement.specs.declared.content.Range.{Range}
use Rattle.adj_parse_statement.specs.declared.content.Said.TheVariants as says
use Rattle.adj_parse_statement.specs.declared.label.Label.{Label}
use Rattle.adj_parse_statement.proofs.Phrased.{seen_found, ended_found, said_of, said_integer, said_common, said_assign, said_call, said_logical, said_do, said_do_while, said_block_if, said_else_if, said_implicit, said_end_do, said_continue, said_else, said_end_if, said_return, said_end}
use Rattle.adj_parse_statement.proofs.statement.said.Goals as goal

pub returns-in_ok-items-in-Integer : goal.returns-in_ok-items-in-Integer
returns-in_ok-items-in-Integer c =
    let s = c.args.stated.now in
    let mark = mark_of s.mark in
    let ws = lexemes_in c.new-lexemes.result in
    let same = c.new-lexemes.ensures ∙ ap (λ t. lexemes_of t c.as_slice-2.result.now) c.as_slice.ensures.members ∙ ap (lexemes_of s.text) c.as_slice-2.ensures.members in
    record { said = seen_found {A = Vec Item Global} {D = List statement.Item} (form_of mark) says.Integers (λ v. map item_of v.items) integers (λ a. refl) _ _ _ _ c.integers.ensures c.in_ok-items-in-Integer.ensures (said_of c.args.limit mark s.kind kind.Integer ws (lexemes_of s.text s.tokens) c.in-Integer.is same ∙ said_integer c.args.limit mark ws) }

pub returns-in_ok-shared-in-Common : goal.returns-in_ok-shared-in-Common
returns-in_ok-shared-in-Common c =
    let s = c.args.stated.now in
    let mark = mark_of s.mark in
    let ws = lexemes_in c.new-lexemes.result in
    let same = c.new-lexemes.ensures ∙ ap (λ t. lexemes_of t c.as_slice-2.result.now) c.as_slice.ensures.members ∙ ap (lexemes_of s.text) c.as_slice-2.ensures.members in
    record { said = seen_found {A = List ℕ × Vec Item Global} {D = List ℕ × List statement.Item} (form_of mark) (λ p. says.Common p.0 p.1) (λ p. (p.0, map item_of p.1.items)) (λ p. common p.0 p.1) (λ a. refl) _ _ _ _ c.in_block.ensures c.in_ok-shared-in-Common.ensures (said_of c.args.limit mark s.kind kind.Common ws (lexemes_of s.text s.tokens) c.in-Common.is same ∙ said_common c.args.limit mark ws) }

pub returns-in_ok-assignment-in-Assign : goal.returns-in_ok-assignment-in-Assign
returns-in_ok-assignment-in-Assign c =
    let s = c.args.stated.now in
    let mark = mark_of s.mark in
    let ws = lexemes_in c.new-lexemes.result in
    let same = c.new-lexemes.ensures ∙ ap (λ t. lexemes_of t c.as_slice-2.result.now) c.as_slice.ensures.members ∙ ap (lexemes_of s.text) c.as_slice-2.ensures.members in
    record { said = seen_found (form_of mark) says.Simple act_of simple (λ a. refl) _ _ _ _ c.simple.ensures c.in_ok-assignment-in-Assign.ensures (said_of c.args.limit mark s.kind kind.Assign ws (lexemes_of s.text s.tokens) c.in-Assign.is same ∙ said_assign c.args.limit mark ws) }

pub returns-in_ok-call-in-Call : goal.returns-in_ok-call-in-Call
returns-in_ok-call-in-Call c =
    let s = c.args.stated.now in
    let mark = mark_of s.mark in
    let ws = lexemes_in c.new-lexemes.result in
    let same = c.new-lexemes.ensures ∙ ap (λ t. lexemes_of t c.as_slice-2.result.now) c.as_slice.ensures.members ∙ ap (lexemes_of s.text) c.as_slice-2.ensures.members in
    record { said = seen_found (form_of mark) says.Simple act_of simple (λ a. refl) _ _ _ _ c.simple-in-Call.ensures c.in_ok-call-in-Call.ensures (said_of c.args.limit mark s.kind kind.Call ws (lexemes_of s.text s.tokens) c.in-Call.is same ∙ said_call c.args.limit mark ws) }

pub returns-in_ok-logical-in-LogicalIf : goal.returns-in_ok-logical-in-LogicalIf
returns-in_ok-logical-in-LogicalIf c =
    let s = c.args.stated.now in
    let mark = mark_of s.mark in
    let ws = lexemes_in c.new-lexemes.result in
    let same = c.new-lexemes.ensures ∙ ap (λ t. lexemes_of t c.as_slice-2.result.now) c.as_slice.ensures.members ∙ ap (lexemes_of s.text) c.as_slice-2.ensures.members in
    record { said = seen_found {A = Box Cond Global × Act} {D = code.Test × code.Act} (form_of mark) (λ p. says.Guarded p.0.value p.1) (λ p. (test_of p.0.value, act_of p.1)) (λ p. logical p.0 p.1) (λ a. refl) _ _ _ _ c.guards.ensures c.in_ok-logical-in-LogicalIf.ensures (said_of c.args.limit mark s.kind kind.LogicalIf ws (lexemes_of s.text s.tokens) c.in-LogicalIf.is same ∙ said_logical c.args.limit mark ws) }

pub returns-in_ok-looped-in-Do : goal.returns-in_ok-looped-in-Do
returns-in_ok-looped-in-Do c =
    let s = c.args.stated.now in
    let mark = mark_of s.mark in
    let ws = lexemes_in c.new-lexemes.result in
    let same = c.new-lexemes.ensures ∙ ap (λ t. lexemes_of t c.as_slice-2.result.now) c.as_slice.ensures.members ∙ ap (lexemes_of s.text) c.as_slice-2.ensures.members in
    record { said = seen_found {A = Option Label × Range} {D = Option ℕ × statement.Range} (form_of mark) (λ p. says.Do p.0 p.1) loop_seen (λ p. opens_do p.0 p.1 mark) (λ a. refl) _ _ _ _ c.repeats.ensures c.in_ok-looped-in-Do.ensures (said_of c.args.limit mark s.kind kind.Do ws (lexemes_of s.text s.tokens) c.in-Do.is same ∙ said_do c.args.limit mark ws) }

pub returns-in_ok-test-in-DoWhile : goal.returns-in_ok-test-in-DoWhile
returns-in_ok-test-in-DoWhile c =
    let s = c.args.stated.now in
    let mark = mark_of s.mark in
    let ws = lexemes_in c.new-lexemes.result in
    let same = c.new-lexemes.ensures ∙ ap (λ t. lexemes_of t c.as_slice-2.result.now) c.as_slice.ensures.members ∙ ap (lexemes_of s.text) c.as_slice-2.ensures.members in
    record { said = seen_found {A = Box Cond Global} {D = code.Test} (form_of mark) (λ b. says.While b.value) (λ b. test_of b.value) opens_while (λ a. refl) _ _ _ _ c.goes_while.ensures c.in_ok-test-in-DoWhile.ensures (said_of c.args.limit mark s.kind kind.DoWhile ws (lexemes_of s.text s.tokens) c.in-DoWhile.is same ∙ said_do_while c.args.limit mark ws) }

pub returns-in_ok-test-in-BlockIf : goal.returns-in_ok-test-in-BlockIf
returns-in_ok-test-in-BlockIf c =
    let s = c.args.stated.now in
    let mark = mark_of s.mark in
    let ws = lexemes_in c.new-lexemes.result in
    let same = c.new-lexemes.ensures ∙ ap (λ t. lexemes_of t c.as_slice-2.result.now) c.as_slice.ensures.members ∙ ap (lexemes_of s.text) c.as_slice-2.ensures.members in
    record { said = seen_found {A = Box Cond Global} {D = code.Test} (form_of mark) (λ b. says.If b.value) (λ b. test_of b.value) opens_if (λ a. refl) _ _ _ _ c.opens.ensures c.in_ok-test-in-BlockIf.ensures (said_of c.args.limit mark s.kind kind.BlockIf ws (lexemes_of s.text s.tokens) c.in-BlockIf.is same ∙ said_block_if c.args.limit mark ws) }

pub returns-in_ok-test-in-ElseIf : goal.returns-in_ok-test-in-ElseIf
returns-in_ok-test-in-ElseIf c =
    let s = c.args.stated.now in
    let mark = mark_of s.mark in
    let ws = lexemes_in c.new-lexemes.result in
    let same = c.new-lexemes.ensures ∙ ap (λ t. lexemes_of t c.as_slice-2.result.now) c.as_slice.ensures.members ∙ ap (lexemes_of s.text) c.as_slice-2.ensures.members in
    record { said = seen_found {A = Box Cond Global} {D = code.Test} (form_of mark) (λ b. says.ElseIf b.value) (λ b. test_of b.value) otherwise_if (λ a. refl) _ _ _ _ c.turns.ensures c.in_ok-test-in-ElseIf.ensures (said_of c.args.limit mark s.kind kind.ElseIf ws (lexemes_of s.text s.tokens) c.in-ElseIf.is same ∙ said_else_if c.args.limit mark ws) }

pub returns-in-ImplicitNone : goal.returns-in-ImplicitNone
returns-in-ImplicitNone c =
    let s = c.args.stated.now in
    let mark = mark_of s.mark in
    let ws = lexemes_in c.new-lexemes.result in
    let same = c.new-lexemes.ensures ∙ ap (λ t. lexemes_of t c.as_slice-2.result.now) c.as_slice.ensures.members ∙ ap (lexemes_of s.text) c.as_slice-2.ensures.members in
    record { said = ended_found (form_of mark) says.ImplicitNone ws _ _ c.alone.ensures (said_of c.args.limit mark s.kind kind.ImplicitNone ws (lexemes_of s.text s.tokens) c.in-ImplicitNone.is same ∙ said_implicit c.args.limit mark ws) }

pub returns-in-EndDo : goal.returns-in-EndDo
returns-in-EndDo c =
    let s = c.args.stated.now in
    let mark = mark_of s.mark in
    let ws = lexemes_in c.new-lexemes.result in
    let same = c.new-lexemes.ensures ∙ ap (λ t. lexemes_of t c.as_slice-2.result.now) c.as_slice.ensures.members ∙ ap (lexemes_of s.text) c.as_slice-2.ensures.members in
    record { said = ended_found (form_of mark) says.EndDo ws _ _ c.alone-in-EndDo.ensures (said_of c.args.limit mark s.kind kind.EndDo ws (lexemes_of s.text s.tokens) c.in-EndDo.is same ∙ said_end_do c.args.limit mark ws) }

pub returns-in-Continue : goal.returns-in-Continue
returns-in-Continue c =
    let s = c.args.stated.now in
    let mark = mark_of s.mark in
    let ws = lexemes_in c.new-lexemes.result in
    let same = c.new-lexemes.ensures ∙ ap (λ t. lexemes_of t c.as_slice-2.result.now) c.as_slice.ensures.members ∙ ap (lexemes_of s.text) c.as_slice-2.ensures.members in
    record { said = ended_found (form_of mark) says.Continue ws _ _ c.alone-in-Continue.ensures (said_of c.args.limit mark s.kind kind.Continue ws (lexemes_of s.text s.tokens) c.in-Continue.is same ∙ said_continue c.args.limit mark ws) }

pub returns-in-Else : goal.returns-in-Else
returns-in-Else c =
    let s = c.args.stated.now in
    let mark = mark_of s.mark in
    let ws = lexemes_in c.new-lexemes.result in
    let same = c.new-lexemes.ensures ∙ ap (λ t. lexemes_of t c.as_slice-2.result.now) c.as_slice.ensures.members ∙ ap (lexemes_of s.text) c.as_slice-2.ensures.members in
    record { said = ended_found (form_of mark) says.Else ws _ _ c.alone-in-Else.ensures (said_of c.args.limit mark s.kind kind.Else ws (lexemes_of s.text s.tokens) c.in-Else.is same ∙ said_else c.args.limit mark ws) }

pub returns-in-EndIf : goal.returns-in-EndIf
returns-in-EndIf c =
    let s = c.args.stated.now in
    let mark = mark_of s.mark in
    let ws = lexemes_in c.new-lexemes.result in
    let same = c.new-lexemes.ensures ∙ ap (λ t. lexemes_of t c.as_slice-2.result.now) c.as_slice.ensures.members ∙ ap (lexemes_of s.text) c.as_slice-2.ensures.members in
    record { said = ended_found (form_of mark) says.EndIf ws _ _ c.alone-in-EndIf.ensures (said_of c.args.limit mark s.kind kind.EndIf ws (lexemes_of s.text s.tokens) c.in-EndIf.is same ∙ said_end_if c.args.limit mark ws) }

pub returns-in-Return : goal.returns-in-Return
returns-in-Return c =
    let s = c.args.stated.now in
    let mark = mark_of s.mark in
    let ws = lexemes_in c.new-lexemes.result in
    let same = c.new-lexemes.ensures ∙ ap (λ t. lexemes_of t c.as_slice-2.result.now) c.as_slice.ensures.members ∙ ap (lexemes_of s.text) c.as_slice-2.ensures.members in
    record { said = ended_found (form_of mark) says.Return ws _ _ c.alone-in-Return.ensures (said_of c.args.limit mark s.kind kind.Return ws (lexemes_of s.text s.tokens) c.in-Return.is same ∙ said_return c.args.limit mark ws) }

pub returns-in-End : goal.returns-in-End
returns-in-End c =
    let s = c.args.stated.now in
    let mark = mark_of s.mark in
    let ws = lexemes_in c.new-lexemes.result in
    let same = c.new-lexemes.ensures ∙ ap (λ t. lexemes_of t c.as_slice-2.result.now) c.as_slice.ensures.members ∙ ap (lexemes_of s.text) c.as_slice-2.ensures.members in
    record { said = ended_found (form_of mark) says.End ws _ _ c.alone-in-End.ensures (said_of c.args.limit mark s.kind kind.End ws (lexemes_of s.text s.tokens) c.in-End.is same ∙ said_end c.args.limit mark ws) }
