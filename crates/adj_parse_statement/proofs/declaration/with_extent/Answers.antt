use Rattle.std.proofs.Common.{Vec, Global}
use Rattle.adj_tree.specs.View.{extent_of}
use Rattle.adj_tree.specs.declared.unit.Extent.{Extent}
use Rattle.adj_parse_statement.proofs.Judging.{with_part-found}
use Rattle.adj_parse_statement.proofs.declaration.with_extent.Goals as goal

pub returns : goal.returns
returns c = with_part-found (λ (v : Vec Extent Global). v.items) extent_of c.with_part.result c.args.extents c.args.next c.with_part.ensures
