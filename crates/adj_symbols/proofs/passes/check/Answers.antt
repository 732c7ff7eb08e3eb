use Rattle.std.proofs.Common.{List, map, subst}
use Rattle.adj_tree.specs.Code.{Procedure}
use Rattle.adj_tree.specs.View.{procedure_of, procedures_of}
use Rattle.def_text.specs.Written.{IsWritten}
use Rattle.def_names.specs.Fault.{Rules}
use Rattle.def_names.specs.Check.{IsSound}
use Rattle.def_names.proofs.Sound.{sound_has_none}
use Rattle.adj_symbols.specs.Checked.{IsWrittenIfNamed}
use Rattle.adj_symbols.specs.Rules.{rules_for}
use Rattle.adj_symbols.proofs.Laxer.{sound_in_runs}
use Rattle.adj_symbols.proofs.passes.check.Goals as goal

-- a program without a fault is written, where it was said to be so if its units have no fault
named_written : (rules : Rules) (ps : List Procedure) → IsWrittenIfNamed ps → IsSound rules ps → IsWritten ps
named_written rules ps h sound = h (sound_has_none rules ps sound).units

pub new-requires-clause-written : goal.new-requires-clause-written
new-requires-clause-written c =
    let us = c.as_slice.result.now in
    named_written (rules_for c.args.mode) (procedures_of c.args.program) c.requires.written
    (subst (λ z. IsSound (rules_for c.args.mode) (map procedure_of z)) c.as_slice.ensures.members (subst (λ m. IsSound m (map procedure_of us)) c.new-rules.ensures.rules c.in_ok-facts.ensures.sound))

pub new-requires-clause-sound : goal.new-requires-clause-sound
new-requires-clause-sound c =
    let us = c.as_slice.result.now in
    sound_in_runs c.args.mode (procedures_of c.args.program)
    (subst (λ z. IsSound (rules_for c.args.mode) (map procedure_of z)) c.as_slice.ensures.members (subst (λ m. IsSound m (map procedure_of us)) c.new-rules.ensures.rules c.in_ok-facts.ensures.sound))

pub returns-clause-written : goal.returns-clause-written
returns-clause-written c =
    let us = c.as_slice.result.now in
    named_written (rules_for c.args.mode) (procedures_of c.args.program) c.requires.written
    (subst (λ z. IsSound (rules_for c.args.mode) (map procedure_of z)) c.as_slice.ensures.members (subst (λ m. IsSound m (map procedure_of us)) c.new-rules.ensures.rules c.in_ok-facts.ensures.sound))
