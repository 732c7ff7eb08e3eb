use Rattle.std.proofs.Common.{◌∷◌, [], ◌+◌, map, drop, ap, sym, ◌∙◌}
use Rattle.adj_tree.specs.View.{procedure_of}
use Rattle.adj_weave_units.specs.Calls.{numbers_from}
use Rattle.adj_weave_units.proofs.Walks.{walked_on}
use Rattle.adj_weave_units.proofs.numbers.first_statements.Goals as goal

pub loop-unit-preserved : goal.loop-unit-preserved
loop-unit-preserved c =
    let n = c.loop-unit.number in
    let rest = map procedure_of (drop (c.loop-unit.unit-index + 1) c.args.units.now) in
    walked_on procedure_of (numbers_from n) (numbers_from c.in_ok-number.number) c.args.units.now c.loop-unit.made.items c.push.new.self.items (n ∷ []) c.loop-unit.unit-index c.unit-item.result c.loop-unit-test.true c.unit-item.is c.in_ok-push.ensures.items
    (ap (λ k. n ∷ numbers_from k rest) (sym c.in_ok-number.ensures.behind))
    ∙ c.loop-unit.invariant
