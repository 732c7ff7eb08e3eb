use Rattle.std.proofs.Common.{◌≡◌, ◌++◌, map, length}
use Rattle.std.specs.List.{list_all}
use Rattle.def_text.specs.Char.{upper}
use Rattle.adj_tool.specs.Arguments.{pieces, is_name_argument}
use Rattle.adj_tool.proofs.values.names_of.Given as goal

abbrev pub invariant-loop-piece : goal.invariant-loop-piece
invariant-loop-piece l = record {
  pass : list_all is_name_argument (pieces l.rest) ≡ list_all is_name_argument (pieces l.argument);
  named : l.names.items ++ map (map upper) (pieces l.rest) ≡ map (map upper) (pieces l.argument);
}

abbrev pub decreases-loop-piece : goal.decreases-loop-piece
decreases-loop-piece l = length l.rest
