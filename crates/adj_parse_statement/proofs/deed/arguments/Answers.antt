use Rattle.std.proofs.Common.{rules}
use Rattle.adj_tree.specs.View.{term_of}
use Rattle.adj_parse_expression.specs.Front.{front_expression}
use Rattle.adj_parse_expression.specs.View.{seen}
use Rattle.adj_parse_statement.specs.LexemesView.{lexemes_in}
use Rattle.adj_parse_statement.proofs.Members.{shorter_behind}
use Rattle.adj_parse_statement.proofs.Shorter.{front_expression-shortens}
use Rattle.adj_parse_statement.proofs.deed.arguments.Goals as goal

pub loop-behind-smaller : goal.loop-behind-smaller
loop-behind-smaller c =
    let next = c.in-Some-2 in
    let comma = c.in-Some-behind in
    shorter_behind (front_expression c.args.limit) (front_expression-shortens c.args.limit) (lexemes_in c.loop-behind.rest) (lexemes_in comma.behind) (lexemes_in next.others) (seen (λ e. term_of e.value) next.next) (search rules) (search rules)
