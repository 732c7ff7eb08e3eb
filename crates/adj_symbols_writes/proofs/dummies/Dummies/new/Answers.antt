use Rattle.std.proofs.Common.{◌≡◌, ap, sym, ◌∙◌, ◌∷◌, ◌+◌, length, length-append, drop, arith}
use Rattle.std.specs.Option.{option_or}
use Rattle.std.proofs.lemmas.List.{drop_more}
use Rattle.adj_symbols_writes.specs.Graph.{place_from}
use Rattle.adj_symbols_writes.specs.Table.{value_of, with_value}
use Rattle.adj_symbols_writes.proofs.Numbers.{numbers_more, place_more}
use Rattle.adj_symbols_writes.proofs.dummies.Dummies.new.Goals as goal

pub loop-name-preserved : goal.loop-name-preserved
loop-name-preserved c =
    let ds = c.as_slice-name-items.result.now in
    let i = c.loop-name.name-index in
    let d = c.name-item.result in
    let more : length c.push.new.self.items ≡ length c.loop-name.all.items + 1 = ap length c.in_ok-push.ensures.items ∙ length-append c.loop-name.all.items _ in
    let node : c.len.result ≡ length c.loop-name.all.items = omega arith in
    record {
      passed = omega (arith, c.loop-name.invariant.passed, more);
      known = λ x.
          let first = drop_more ds i d c.loop-name-test.true ∙ ap (λ z. z ∷ drop (i + 1) ds) (sym c.name-item.is) in
          let n = length c.loop-name.all.items in
          numbers_more x c.loop-name.nodes c.add.new.self (place_from (length c.push.new.self.items) (drop (i + 1) ds) x) d n (c.in_ok-add.ensures.added ∙ ap (with_value c.loop-name.nodes d) node)
          ∙ ap (option_or (value_of x c.loop-name.nodes)) (place_more n (length c.push.new.self.items) d (drop (i + 1) ds) x more ∙ ap (λ z. place_from n z x) (sym first))
          ∙ c.loop-name.invariant.known x;
    }
