use Rattle.std.proofs.Common.{ap, sym, refl, map, ◌∙◌, ◌∷◌, ◌+◌, drop}
use Rattle.std.specs.Option.{option_or}
use Rattle.std.proofs.lemmas.List.{drop_more}
use Rattle.adj_tree.specs.View.{procedure_of}
use Rattle.adj_symbols_writes.specs.Graph.{number_from}
use Rattle.adj_symbols_writes.specs.Table.{value_of}
use Rattle.adj_symbols_writes.proofs.Numbers.{numbers_more, place_more}
use Rattle.adj_symbols_writes.proofs.table.unit_numbers.Goals as goal

pub loop-number-preserved : goal.loop-number-preserved
loop-number-preserved c x =
    let us = c.args.units.now in
    let i = c.loop-number.number in
    let u = c.index-units-number.result in
    let first = drop_more us i u c.loop-number-test.true ∙ ap (λ z. z ∷ drop (i + 1) us) (sym c.index-units-number.is) in
    let rest = map procedure_of (drop (i + 1) us) in
    numbers_more x c.loop-number.numbers c.add.new.self (number_from (i + 1) rest x) u.name i c.in_ok-add.ensures.added
    ∙ ap (option_or (value_of x c.loop-number.numbers)) (place_more i (i + 1) u.name (map (λ p. p.name) rest) x refl ∙ ap (λ z. number_from i (map procedure_of z) x) (sym first))
    ∙ c.loop-number.invariant x
