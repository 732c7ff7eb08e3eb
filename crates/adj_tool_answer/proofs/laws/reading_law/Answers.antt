use Rattle.adj_tool_answer.proofs.Telling.{statements_told, statements_only, units_told, program_told, program_only}
use Rattle.adj_tool_answer.proofs.laws.reading_law.Goals as goal

pub returns : goal.returns
returns c =
    let lines = c.lines_law.ensures in
    let statements = c.statements_law.ensures in
    let trees = c.trees_law.ensures in
    let texts = c.text_law.ensures in
    let told = statements_told lines.answer statements.answer in
    let only = statements_only told lines.refused statements.refused in
    let units = units_told trees.answer trees.up_to in
    let program = program_told told only units in
    record { statements = told; only_statements = only; units = units; program = program; only_program = program_only program texts.first texts.accepted }
