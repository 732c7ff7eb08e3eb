use Rattle.std.proofs.Common.{sym, ◌∙◌, arith, ap, ◌%◌}
use Rattle.std.specs.Prelude.{if◌then◌else◌}
use Rattle.adj_reach_rows.specs.Arcs.{is_left}
use Rattle.adj_reach_rows.proofs.Words.{ones_bit, but_one, other_word}
use Rattle.adj_reach_rows.proofs.arc.others.Goals as goal

pub returns-in-None : goal.returns-in-None
returns-in-None c = λ j e. ones_bit (j % 64) (omega arith) ∙ sym (ap (λ o. if is_left o j then 0 else 1) c.in-None.is)

pub returns-then-variable-word : goal.returns-then-variable-word
returns-then-variable-word c = λ j e. but_one c.in-Some.variable j (c.if-variable-word.true ∙ sym e) ∙ sym (ap (λ o. if is_left o j then 0 else 1) c.in-Some.is)

pub returns-else-variable-word : goal.returns-else-variable-word
returns-else-variable-word c =
    λ j e. ones_bit (j % 64) (omega arith) ∙ sym (ap (λ b. if b then 0 else 1) (other_word c.in-Some.variable j c.args.word c.if-variable-word.false e)) ∙ sym (ap (λ o. if is_left o j then 0 else 1) c.in-Some.is)
