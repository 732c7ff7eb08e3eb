use Rattle.std.proofs.Common.{◌≡◌, ◌+◌, ◌*◌, ◌/◌, ◌%◌, ◌^◌}
use Rattle.adj_reach_rows.specs.Searches.{Grown, IsMarked, place_of}
use Rattle.adj_reach_rows.proofs.Growing.{grown_as, on_ok}
use Rattle.adj_reach_rows.proofs.Columns.{one_to, one_from}
use Rattle.adj_reach_rows.proofs.search.Search.mark_node.Goals as goal

pub returns : goal.returns
returns c =
    let a = c.args.self.now in
    let b = c.mark.new.self in
    let first = c.args.node / c.args.width * a.words in
    let j = c.args.node % c.args.width in
    record {
      grown = on_ok (Grown (IsMarked (first + j / 64) (1 * 2 ^ (j % 64) % 2 ^ 64)) a b) (Grown (λ n. n ≡ place_of c.args.width a.words c.args.node) a b) c.mark.result
          (grown_as (IsMarked (first + j / 64) (1 * 2 ^ (j % 64) % 2 ^ 64)) (λ n. n ≡ place_of c.args.width a.words c.args.node) a b (one_to first j) (one_from first j)) c.mark.ensures.grown;
    }
