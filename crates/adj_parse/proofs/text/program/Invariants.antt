use Rattle.std.proofs.Common.{◌≡◌, drop}
use Rattle.adj_parse.specs.CurrentView.{state_of}
use Rattle.adj_parse.specs.Trees.{trees_from, trees_of}
use Rattle.adj_parse.proofs.text.program.Given as goal

abbrev pub invariant-loop-index : goal.invariant-loop-index
invariant-loop-index l = trees_from l.mode (state_of l.parser) (drop l.index l.stated) ≡ trees_of l.mode l.stated
