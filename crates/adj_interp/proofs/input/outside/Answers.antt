use Rattle.std.proofs.Common.{map, refl}
use Rattle.adj_tree.specs.View.{procedure_of}
use Rattle.adj_interp.specs.Inputs.{entry_seen}
use Rattle.adj_interp.proofs.Inputting.{input_framed}
use Rattle.adj_interp.proofs.input.outside.Goals as goal

pub returns-clause-framed : goal.returns-clause-framed
returns-clause-framed g c = input_framed g.N.Number.numbers (procedure_of c.args.unit.now) (map entry_seen c.args.slots.items) c.args.slots.items c.requires.apart c.requires.fits refl
