-- What is left to do is what the run from the start comes to.
use Rattle.std.proofs.Common.{◌≡◌, ◌+◌, ◌*◌, ◌≤◌, suc, length}
use Rattle.def_meaning.specs.Scene.{Scene}
use Rattle.def_meaning.specs.Value.{holds}
use Rattle.def_meaning.specs.Units.{calls_of}
use Rattle.def_meaning.specs.Run.{run, turns, stepped, tests}
use Rattle.adj_interp_frame.specs.declared.step.Steps.{size-Steps}
use Rattle.adj_interp_frame.specs.Prepared.{var_at, test_in}
use Rattle.adj_interp_frame.specs.Instructed.{steps_in, AreStepsBelow}
use Rattle.adj_interp_frame.specs.Linked.{AreLinked, units_in}
use Rattle.adj_interp_frame.specs.Framed.{IsFrame}
use Rattle.adj_interp_frame.specs.Suited.{AreSuited, counts_in}
use Rattle.adj_interp.specs.Held.{Entry, setting_at, Holds, OneCelled, Reaches}
use Rattle.adj_interp.proofs.Calling.{all_sizes}
use Rattle.adj_interp.proofs.machine.Machine.+run.Given as goal

abbrev pub invariant-run-loop-current : goal.invariant-run-loop-current
invariant-run-loop-current g l = record {
  room : l.self.tape.room ≡ l.initial.self.tape.room;
  no_deeper : size-Steps l.current ≤ size-Steps l.initial.current;
  names : l.self.frame.names.now ≡ l.initial.self.frame.names.now;
  framed : IsFrame l.initial.self.frame.names.now l.self.frame.slots.items;
  counts : counts_in l.self.frame.slots.items ≡ counts_in l.initial.self.frame.slots.items;
  below : AreStepsBelow (length l.initial.self.frame.names.now) l.current;
  linked : AreLinked (units_in l.program) l.current;
  suited : AreSuited (units_in l.program) (OneCelled l.initial.self) (steps_in l.initial.self.frame.names.now l.current);
  reached : (e : Entry g.N.Number.numbers) (s : Scene g.row.N.Denot) → Holds e l.initial.self s →
      Reaches e (run (calls_of (units_in l.program) l.depth) (setting_at e) (steps_in l.initial.self.frame.names.now l.initial.current) s) l.initial.self.left (run (calls_of (units_in l.program) l.depth) (setting_at e) (steps_in l.initial.self.frame.names.now l.current)) l.self;
}

abbrev pub invariant-turns-loop-remaining : goal.invariant-turns-loop-remaining
invariant-turns-loop-remaining g l = record {
  room : l.self.tape.room ≡ l.initial.self.tape.room;
  names : l.self.frame.names.now ≡ l.initial.self.frame.names.now;
  framed : IsFrame l.initial.self.frame.names.now l.self.frame.slots.items;
  counts : counts_in l.self.frame.slots.items ≡ counts_in l.initial.self.frame.slots.items;
  reached : (e : Entry g.N.Number.numbers) (s : Scene g.row.N.Denot) → Holds e l.initial.self s →
      Reaches e (turns (setting_at e) l.initial.remaining (run (calls_of (units_in l.program) l.depth) (setting_at e) (steps_in l.initial.self.frame.names.now l.body)) (stepped (setting_at e) (var_at l.initial.self.frame.names.now l.course.variable) l.course.by) s) l.initial.self.left
      (turns (setting_at e) l.remaining (run (calls_of (units_in l.program) l.depth) (setting_at e) (steps_in l.initial.self.frame.names.now l.body)) (stepped (setting_at e) (var_at l.initial.self.frame.names.now l.course.variable) l.course.by)) l.self;
}

abbrev pub decreases-turns-loop-remaining : goal.decreases-turns-loop-remaining
decreases-turns-loop-remaining g l = l.remaining

abbrev pub invariant-tests-loop-self : goal.invariant-tests-loop-self
invariant-tests-loop-self g l = record {
  room : l.self.tape.room ≡ l.initial.self.tape.room;
  names : l.self.frame.names.now ≡ l.initial.self.frame.names.now;
  framed : IsFrame l.initial.self.frame.names.now l.self.frame.slots.items;
  counts : counts_in l.self.frame.slots.items ≡ counts_in l.initial.self.frame.slots.items;
  reached : (e : Entry g.N.Number.numbers) (s : Scene g.row.N.Denot) → Holds e l.initial.self s →
      Reaches e (tests (setting_at e) l.initial.remaining (λ s1. holds (setting_at e) (test_in l.initial.self.frame.names.now l.test) s1.store) l.line (run (calls_of (units_in l.program) l.depth) (setting_at e) (steps_in l.initial.self.frame.names.now l.body)) s) l.initial.self.left
      (tests (setting_at e) l.remaining (λ s1. holds (setting_at e) (test_in l.initial.self.frame.names.now l.test) s1.store) l.line (run (calls_of (units_in l.program) l.depth) (setting_at e) (steps_in l.initial.self.frame.names.now l.body))) l.self;
}

abbrev pub decreases-tests-loop-self : goal.decreases-tests-loop-self
decreases-tests-loop-self g l = l.remaining

-- ---- calls in one another

-- a call goes one level less deep, where the unit's body is at most as long as all bodies are together; a statement is
-- shorter than its list, and what turns comes before its body
abbrev pub decreases-run : goal.decreases-run
decreases-run g l = l.depth * suc (2 * all_sizes l.program.now) + 2 * goal.size-run g l

abbrev pub decreases-perform : goal.decreases-perform
decreases-perform g l = l.depth * suc (2 * all_sizes l.program.now) + (2 * goal.size-perform g l + 2)

abbrev pub decreases-repeat : goal.decreases-repeat
decreases-repeat g l = l.depth * suc (2 * all_sizes l.program.now) + (2 * goal.size-repeat g l + 2)

abbrev pub decreases-turns : goal.decreases-turns
decreases-turns g l = l.depth * suc (2 * all_sizes l.program.now) + (2 * goal.size-turns g l + 1)

abbrev pub decreases-tests : goal.decreases-tests
decreases-tests g l = l.depth * suc (2 * all_sizes l.program.now) + (2 * goal.size-tests g l + 1)

abbrev pub decreases-call : goal.decreases-call
decreases-call g l = l.depth * suc (2 * all_sizes l.program.now) + 1

abbrev pub decreases-call_passed : goal.decreases-call_passed
decreases-call_passed g l = l.depth * suc (2 * all_sizes l.program.now)

abbrev pub decreases-call_given : goal.decreases-call_given
decreases-call_given g l = l.depth * suc (2 * all_sizes l.program.now)
