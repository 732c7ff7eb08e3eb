-- None of the names passed is chosen.
use Rattle.std.proofs.Common.{◌≡◌, drop}
use Rattle.std.specs.List.{list_any}
use Rattle.def_meaning.specs.Apart.{has_name}
use Rattle.adj_symbols_writes.specs.View.{names_seen}
use Rattle.adj_symbols.proofs.written.writes_one.Given as goal

abbrev pub invariant-loop-name : goal.invariant-loop-name
invariant-loop-name l = list_any (λ x. has_name x l.chosen) (names_seen (drop l.name-index l.name-items)) ≡ list_any (λ x. has_name x l.chosen) (names_seen l.name-items)
