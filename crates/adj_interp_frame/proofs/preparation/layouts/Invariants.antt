-- What is declared from the last declaration on has its layouts.
use Rattle.std.proofs.Common.{map, drop, ◌≤◌, length}
use Rattle.adj_tree.specs.View.{declaration_of}
use Rattle.def_meaning.specs.Apart.{AreApart}
use Rattle.adj_interp_frame.specs.Numbered.{Extends}
use Rattle.adj_interp_frame.specs.Declaring.{Declares}
use Rattle.adj_interp_frame.proofs.preparation.layouts.Given as goal

abbrev pub invariant-loop-remaining : goal.invariant-loop-remaining
invariant-loop-remaining l = record {
  within : l.remaining ≤ length l.decls;
  extends : Extends l.initial.names l.names;
  apart : AreApart l.names;
  declares : Declares (map declaration_of (drop l.remaining l.decls)) l.names l.found.items;
}

abbrev pub decreases-loop-remaining : goal.decreases-loop-remaining
decreases-loop-remaining l = l.remaining
