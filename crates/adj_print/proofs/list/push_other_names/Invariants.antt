-- What was added and what is left are the names behind commas.
use Rattle.std.proofs.Common.{◌≡◌, ◌++◌, drop}
use Rattle.def_text.specs.Text.{behind_commas}
use Rattle.adj_print.proofs.list.push_other_names.Given as goal

abbrev pub invariant-loop-name : goal.invariant-loop-name
invariant-loop-name l = l.out.items ++ behind_commas (drop l.name-index l.names) ≡ l.fn.out.items ++ behind_commas l.names
