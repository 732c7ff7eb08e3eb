use Rattle.std.proofs.Common.{get_or, ap, sym, ◌∙◌}
use Rattle.adj_weave_units.proofs.Places.{At}
use Rattle.adj_tangent.proofs.Flagged.{flags_told}
use Rattle.adj_tangent.proofs.carried.Carried.of_unit.Goals as goal

pub returns : goal.returns
returns c =
    let f = c.args.self.now.flow.now in
    let u = c.args.unit in
    let p = c.index-parts-unit.result in
    let at : At f.parts.items u p = record { within = c.requires.unit; is = c.index-parts-unit.is ∙ ap (λ ps. get_or ps u p) c.as_slice-parts.ensures.value } in
    let there = get_or c.as_slice-parts.result.now u p in
    let told = flags_told f c.args.self.now.flags.now c.flags_of.result.now u p at there.places (ap (λ q. q.places) (sym c.index-parts-unit.is)) c.flags_of.ensures.flags in
    record { active = told; carried = told }
