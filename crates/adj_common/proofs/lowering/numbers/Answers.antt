use Rattle.std.proofs.Common.{◌≡◌, [], map, sym, ap, ◌∙◌}
use Rattle.adj_common.specs.Views.{entry_of}
use Rattle.adj_common.specs.Members.{item_by}
use Rattle.adj_common.proofs.Stepped.{left_none}
use Rattle.adj_common.proofs.Itemed.{numbered, items_numbered}
use Rattle.adj_common.proofs.lowering.numbers.Goals as goal

pub returns : goal.returns
returns c =
    let ms = map entry_of c.args.members.now in
    let all : c.loop-place.numbers ≡ numbered [] 0 ms =
    ap (numbered c.loop-place.numbers c.loop-place.place) (sym (left_none entry_of c.args.members.now c.loop-place.place c.loop-place-test.false)) ∙ c.loop-place.invariant in
    record { numbers = ap (λ n. item_by n ms) all ∙ items_numbered ms }
