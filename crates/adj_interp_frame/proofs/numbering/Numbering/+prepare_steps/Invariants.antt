-- What was made is the first part of the list, turned round.
use Rattle.std.proofs.Common.{◌≡◌, ◌≤◌, map}
use Rattle.adj_tree.specs.declared.stmt.Stmts.{size-Stmts}
use Rattle.adj_tree.specs.View.{code_of, procedure_of}
use Rattle.adj_tree.specs.Listed.{code_turned}
use Rattle.adj_interp_frame.specs.Instructed.{steps_in, AreStepsBelow}
use Rattle.adj_interp_frame.specs.Linked.{AreLinked}
use Rattle.adj_interp_frame.specs.Listed.{IsDirectory}
use Rattle.adj_interp_frame.specs.Numbered.{Extends, Resolves}
use Rattle.adj_interp_frame.proofs.numbering.Numbering.+prepare_steps.Given as goal

abbrev pub invariant-steps-loop-current : goal.invariant-steps-loop-current
invariant-steps-loop-current l = record {
  no_deeper : size-Stmts l.current ≤ size-Stmts l.initial.current;
  units : l.units.units.now ≡ l.initial.units.units.now;
  directory : IsDirectory l.units;
  linked : AreLinked (map procedure_of l.initial.units.units.now) l.made;
  extends : Extends l.initial.self l.self;
  resolves : Resolves (λ names made. code_turned (steps_in names made) (code_of l.current)) AreStepsBelow l.self l.made (code_of l.initial.current);
}
