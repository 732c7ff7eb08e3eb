use Rattle.std.proofs.Common.{sym, ap, ◌∙◌, length, arith}
use Rattle.std.proofs.lemmas.List.{length-map}
use Rattle.adj_common.specs.Tables.{add_at}
use Rattle.adj_common.proofs.Walked.{added_at, added_past}
use Rattle.adj_common.proofs.by_name.ByName.add_at.Goals as goal

pub returns-then-at-len : goal.returns-then-at-len
returns-then-at-len c =
    let t = c.args.self.now in
    let xs = c.self.inside.rows.items in
    let same = ap (λ z. length z.rows) c.self.view_is in
    record { added = λ j. record { names = t.names; rows = sym (added_past t.rows c.args.at c.args.place (omega (arith, same, length-map xs (λ l. l.items)))) j } }

pub returns : goal.returns
returns c =
    let xs = c.self.inside.rows.items in
    let i = c.args.at in
    let k = c.args.place in
    let rows = added_at (λ l. l.items) xs i k c.index_mut.result.now c.push.new.self (omega arith) c.index_mut.ensures.value c.in_ok-push.ensures.items in
    record { added = λ j. record { names = (c.self.view_is j).names; rows = (rows ∙ ap (λ t. add_at i k t.rows) c.self.view_is) j } }
