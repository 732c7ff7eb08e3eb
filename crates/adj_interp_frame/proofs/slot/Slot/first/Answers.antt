use Rattle.std.proofs.Common.{◌∙◌, arith}
use Rattle.std.proofs.lemmas.List.{get_or_default}
use Rattle.adj_interp_frame.specs.Framed.{zero_in}
use Rattle.adj_interp_frame.proofs.Reading.{has_first}
use Rattle.adj_interp_frame.proofs.slot.Slot.first.Goals as goal

pub index-requires : goal.index-requires
index-requires g c = let h = has_first c.args.self.now c.requires in let k = c.args.self.now.cells.ok in omega (arith, h, k)

pub returns : goal.returns
returns g c =
    c.index.ensures ∙ get_or_default c.args.self.now.cells.items 0 c.index.result.now (zero_in g.N.Number.numbers) (has_first c.args.self.now c.requires)
