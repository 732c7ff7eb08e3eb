use Rattle.std.proofs.Common.{◌<◌, [], length, ap, sym, ◌∙◌, arith}
use Rattle.std.proofs.lemmas.List.{get_or-map, length-map}
use Rattle.adj_tree.specs.declared.unit.Unit.{Unit}
use Rattle.adj_interp_frame.specs.Listed.{names_of}
use Rattle.adj_interp_frame.proofs.Listing.{next_count, next_first}
use Rattle.adj_interp_frame.proofs.directory.Directory.new.Goals as goal

pub loop-unit-preserved : goal.loop-unit-preserved
loop-unit-preserved c =
    let inv = c.loop-unit.invariant in
    let k = c.loop-unit.unit-index in
    let u = c.unit-item.result in
    let us = c.args.units.now in
    let n = c.in_ok-_number.ensures in
    let lt = c.loop-unit-test.true in
    let many = length-map us (λ (u : Unit). u.name) in
    let there : k < length (names_of us) = omega (arith, lt, many) in
    let at = get_or-map (λ (u : Unit). u.name) us k u [] lt ∙ ap (λ (z : Unit). z.name) (sym c.unit-item.is) in
    record {
      apart = n.apart inv.apart;
      count = next_count (names_of us) c.loop-unit.numbers c.number.new.self k c.in_ok-_number._number u.name c.requires there at inv.count inv.first n.extends n.within n.named n.few;
      first = next_first (names_of us) c.loop-unit.numbers c.number.new.self k c.in_ok-_number._number u.name c.requires there at inv.count inv.first n.extends n.within n.named n.few;
    }
