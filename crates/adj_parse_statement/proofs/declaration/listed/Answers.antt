use Rattle.std.proofs.Common.{rules}
use Rattle.adj_parse_expression.specs.View.{seen}
use Rattle.adj_parse_statement.specs.Fronts.{front_item}
use Rattle.adj_parse_statement.specs.View.{item_of}
use Rattle.adj_parse_statement.specs.LexemesView.{lexemes_in}
use Rattle.adj_parse_statement.proofs.Members.{shorter_behind}
use Rattle.adj_parse_statement.proofs.Shorter.{front_item-shortens}
use Rattle.adj_parse_statement.proofs.declaration.listed.Goals as goal

pub loop-behind-smaller : goal.loop-behind-smaller
loop-behind-smaller c =
    let next = c.in-Some-2 in
    let comma = c.in-Some-behind in
    shorter_behind front_item front_item-shortens (lexemes_in c.loop-behind.rest) (lexemes_in comma.behind) (lexemes_in next.others) (seen item_of next.next) (search rules) (search rules)
