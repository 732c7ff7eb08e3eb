use Rattle.std.proofs.Common.{ap, ◌∙◌}
use Rattle.std.specs.Prelude.{not, ◌&&◌, ◌||◌}
use Rattle.adj_tree.specs.Code.{plain}
use Rattle.adj_flow.specs.Rows.{row_of}
use Rattle.adj_flow.specs.NodeView.{told_at}
use Rattle.adj_activity.proofs.adjointed.is_adjointed.Goals as goal

pub returns : goal.returns
returns c =
    let r = row_of c.args.part.now in
    let x = plain c.args.target.now.name in
    let n = c.has_shadow-has_shadow.ensures.has in
    let m = c.was_varied-was_varied.ensures.was in
    let p = c.told_by_bit-is_varied.ensures.told ∙ ap (λ q. told_at c.args.found.varied.now c.args.width r q x) c.number.ensures.number in
    let u = c.told_by_bit-is_useful.ensures.told ∙ ap (λ q. told_at c.args.found.useful.now c.args.width r q x) c.number.ensures.number in
    let w = c.is_whole-whole.ensures.whole in
    record { is = c.decided.ensures.decided ∙ (λ i. n i && ((p i && u i) || (w i && (m i && not (p i))))) }
