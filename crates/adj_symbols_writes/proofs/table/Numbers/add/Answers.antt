use Rattle.std.proofs.Common.{ap, sym, ◌∙◌}
use Rattle.std.specs.Prelude.{not}
use Rattle.adj_symbols_writes.specs.Table.{value_of, with_value}
use Rattle.adj_symbols_writes.proofs.Tables.{numbers_of, added_value}
use Rattle.adj_symbols_writes.proofs.table.Numbers.add.Goals as goal

pub returns-in_ok-insert-clause-added : goal.returns-in_ok-insert-clause-added
returns-in_ok-insert-clause-added c =
    ap numbers_of c.in_ok-insert.ensures.entries
    ∙ added_value c.bytes.result c.args.number c.self.inside.numbers.entries c.args.name.now c.get.result c.bytes.ensures.bytes (c.get.ensures.number ∙ ap (value_of c.args.name.now) (sym c.self.view_is)) (c.is_none.ensures ∙ ap not c.if-is_none.true)
    ∙ ap (λ es. with_value es c.args.name.now c.args.number) c.self.view_is
