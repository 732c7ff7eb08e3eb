-- What is left to pop is what the pop of all comes to.
use Rattle.std.proofs.Common.{◌≡◌, ◌≤◌, length, get_or}
use Rattle.def_meaning.specs.Scene.{Scene, popped_all}
use Rattle.adj_interp_frame.specs.declared.slot.Slot.{Slot}
use Rattle.adj_interp_frame.specs.Prepared.{var_at}
use Rattle.adj_interp_frame.specs.Framed.{IsFrame}
use Rattle.adj_interp_frame.specs.Suited.{counts_in}
use Rattle.adj_interp.specs.Held.{Entry, setting_at, Holds, Reaches}
use Rattle.adj_interp.proofs.machine.Machine.pop_array.Given as goal

abbrev pub invariant-loop-remaining : goal.invariant-loop-remaining
invariant-loop-remaining g l = record {
  room : l.self.tape.room ≡ l.initial.self.tape.room;
  names : l.self.frame.names.now ≡ l.initial.self.frame.names.now;
  framed : IsFrame l.initial.self.frame.names.now l.self.frame.slots.items;
  counts : counts_in l.self.frame.slots.items ≡ counts_in l.initial.self.frame.slots.items;
  within : (d : Slot _) → l.remaining ≤ length (get_or l.self.frame.slots.items l.variable d).cells.items;
  reached : (e : Entry g.N.Number.numbers) (s : Scene g.row.N.Denot) → Holds e l.initial.self s →
      Reaches e (popped_all (setting_at e) (var_at l.initial.self.frame.names.now l.variable) l.initial.remaining l.line s) l.initial.self.left
      (popped_all (setting_at e) (var_at l.initial.self.frame.names.now l.variable) l.remaining l.line) l.self;
}

abbrev pub decreases-loop-remaining : goal.decreases-loop-remaining
decreases-loop-remaining g l = l.remaining
