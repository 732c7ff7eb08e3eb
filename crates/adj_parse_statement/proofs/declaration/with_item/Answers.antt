use Rattle.std.proofs.Common.{Vec, Global}
use Rattle.adj_parse_statement.specs.View.{item_of}
use Rattle.adj_parse_statement.specs.declared.content.Item.{Item}
use Rattle.adj_parse_statement.proofs.Judging.{with_part-found}
use Rattle.adj_parse_statement.proofs.declaration.with_item.Goals as goal

pub returns : goal.returns
returns c = with_part-found (λ (v : Vec Item Global). v.items) item_of c.with_part.result c.args.items c.args.next c.with_part.ensures
