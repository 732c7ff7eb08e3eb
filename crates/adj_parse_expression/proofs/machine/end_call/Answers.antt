use Rattle.std.proofs.Common.{◌≡◌, ℕ, List, length, ◌+◌, Some, ap, ap₂, sym, refl, arith, ◌∙◌}
use Rattle.def_text.specs.Grammar.{takes}
use Rattle.def_text.specs.Machine.{having}
use Rattle.adj_parse_expression.specs.Partial.{algebra, operand_of}
use Rattle.adj_parse_expression.specs.Stack.{stack_of}
use Rattle.adj_parse_expression.proofs.Closing.{end_group-taken, end_group-untaken}
use Rattle.adj_parse_expression.proofs.StackLemmas.{stacked-push}
use Rattle.adj_parse_expression.proofs.machine.end_call.Goals as goal

pub returns-then-not-takes : goal.returns-then-not-takes
returns-then-not-takes c =
    let count : length c.args.before.items ≡ c.len.result = omega (arith, c.args.before.ok.0) in
    let untaken = ap₂ (λ (x : List ℕ) (n : ℕ). takes x (n + 1)) (sym c.bytes.ensures.bytes) count ∙ sym c.takes.ensures ∙ c.if-not-takes.true in
    (end_group-untaken (algebra c.args.limit) (stack_of c.args.frames.now.items) c.args.name operand_of c.args.before.items (operand_of c.args.last) untaken, rw (c.in_ok-push.ensures.items, stacked-push) refl)

pub returns : goal.returns
returns c =
    let frames = stack_of c.args.frames.now.items in
    let count : length c.args.before.items ≡ c.len.result = omega (arith, c.args.before.ok.0) in
    let taken = ap₂ (λ (x : List ℕ) (n : ℕ). takes x (n + 1)) (sym c.bytes.ensures.bytes) count ∙ sym c.takes.ensures ∙ c.if-not-takes.false in
    end_group-taken (algebra c.args.limit) frames c.args.name operand_of c.args.before.items (operand_of c.args.last) taken ∙ ap (λ x. Some (having frames x)) (sym c.in_ok-applied.ensures)
