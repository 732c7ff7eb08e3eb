use Rattle.std.proofs.Common.{get_or, ap, sym, ◌∙◌}
use Rattle.adj_weave_units.proofs.Places.{At}
use Rattle.adj_weave.proofs.Flagged.{marks_found}
use Rattle.adj_weave.proofs.marks.FoundMarks.of_unit.Goals as goal

pub returns : goal.returns
returns c =
    let f = c.args.self.now.flow.now in
    let k = c.args.unit in
    let p = c.index-parts-unit.result in
    let at : At f.parts.items k p = record { within = c.requires.unit; is = c.index-parts-unit.is ∙ ap (λ ps. get_or ps k p) c.as_slice-parts.ensures.value } in
    let there = get_or c.as_slice-parts.result.now k p in
    record { marks = marks_found f c.args.self.now.marks.now k p at there.places (ap (λ q. q.places) (sym c.index-parts-unit.is)) c.as_slice.result.now c.as_slice.ensures.members }
