use Rattle.std.proofs.Common.{◌≡◌, ◌++◌, ◌+◌, suc, map, drop, sym, ◌∙◌, arith}
use Rattle.adj_tree.specs.View.{procedure_of, code_of}
use Rattle.adj_weave_units.specs.Calls.{listed_in, listed_from}
use Rattle.adj_weave_units.proofs.Walks.{walked_on}
use Rattle.adj_weave_units.proofs.calls.listed_calls.Goals as goal

pub loop-place-preserved : goal.loop-place-preserved
loop-place-preserved c =
    let n = c.loop-place.place in
    let i = c.loop-place.number in
    let u = c.index-units-place.result in
    let names = c.args.names.now in
    let own = listed_in names n i (code_of u.body) in
    let rest = map procedure_of (drop (n + 1) c.args.units.now) in
    let up : suc n ≡ n + 1 = omega arith in
    walked_on procedure_of (listed_from names n i) (listed_from names (n + 1) c.in_ok-number.number) c.args.units.now c.loop-place.calls.items c.add_list.new.calls.items own n u c.loop-place-test.true c.index-units-place.is c.in_ok-number.ensures.calls
    (λ j. own ++ listed_from names (up j) (sym c.in_ok-number.ensures.behind j) rest)
    ∙ c.loop-place.invariant
