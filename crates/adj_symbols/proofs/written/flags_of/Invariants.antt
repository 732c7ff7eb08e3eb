-- The names passed, and those that are left.
use Rattle.std.proofs.Common.{◌≡◌, ◌++◌, map, drop}
use Rattle.def_meaning.specs.Apart.{has_name}
use Rattle.adj_symbols.proofs.written.flags_of.Given as goal

abbrev pub invariant-loop-name : goal.invariant-loop-name
invariant-loop-name l = l.flags.items ++ map (λ x. has_name x l.chosen) (drop l.name-index l.names) ≡ map (λ x. has_name x l.chosen) l.names
