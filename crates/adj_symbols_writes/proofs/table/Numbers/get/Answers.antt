use Rattle.std.proofs.Common.{ap₂, ◌∙◌}
use Rattle.adj_symbols_writes.specs.Table.{value_of}
use Rattle.adj_symbols_writes.proofs.Tables.{value_found}
use Rattle.adj_symbols_writes.proofs.table.Numbers.get.Goals as goal

pub returns : goal.returns
returns c = record { number = c.copied.ensures ∙ c.get.ensures.value ∙ value_found c.bytes.result.now c.self.inside.numbers.entries ∙ ap₂ value_of c.bytes.ensures.bytes c.self.view_is }
