use Rattle.std.proofs.Common.{rules}
use Rattle.adj_symbols.proofs.checked.Checked.new.Goals as goal

pub invariant_of-result : goal.invariant_of-result
invariant_of-result c = record {
  facts = record { written = c.requires.written; sound = c.requires.sound; variables = c.requires.variables; writes = c.requires.writes; reads = c.requires.reads };
  count_is = search rules;
  widest_is = search rules;
}
