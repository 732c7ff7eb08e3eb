use Rattle.std.proofs.Common.{ap₂, ◌∙◌}
use Rattle.clap.specs.Simple.{with_rule}
use Rattle.adj_tool.proofs.arguments.command_line.Goals as goal

pub returns : goal.returns
returns c =
    let one = c.in_ok-line.ensures ∙ ap₂ with_rule c.bare_line-line.ensures c.command_argument.ensures.rule in
    let two = c.in_ok-line-2.ensures ∙ ap₂ with_rule one c.numbers_argument.ensures.rule in
    let three = c.in_ok-line-3.ensures ∙ ap₂ with_rule two c.option.ensures.rule in
    let four = c.in_ok-line-4.ensures ∙ ap₂ with_rule three c.option-2.ensures.rule in
    let five = c.in_ok-line-5.ensures ∙ ap₂ with_rule four c.option-3.ensures.rule in
    let six = c.in_ok-line-6.ensures ∙ ap₂ with_rule five c.option-4.ensures.rule in
    c.in_ok-line-7.ensures ∙ ap₂ with_rule six c.option-5.ensures.rule
