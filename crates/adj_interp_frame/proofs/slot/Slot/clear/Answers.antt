use Rattle.std.proofs.Common.{rules, ◌≡◌, length, vec_len, ◌∙◌}
use Rattle.std.proofs.Math.ListN.{replicate}
use Rattle.adj_interp_frame.proofs.slot.Slot.clear.Goals as goal

pub fill-requires : goal.fill-requires
fill-requires g c = g.met.N.Number.never_fails c.of_word.result

pub returns-clause-cells : goal.returns-clause-cells
returns-clause-cells g c =
    let count : vec_len c.args.self.now.cells ≡ length c.args.self.now.cells.items = search rules in
    c.fill.ensures.items (λ y. g.met.N.Number.clones_equal c.of_word.result y)
    ∙ (λ k. replicate (count k) (c.of_word.ensures k))
