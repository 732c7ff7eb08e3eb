-- What is left to push is what the push of all comes to.
use Rattle.std.proofs.Common.{◌≡◌, ◌-◌}
use Rattle.def_meaning.specs.Store.{cells_from}
use Rattle.def_meaning.specs.Scene.{Scene, pushed_all}
use Rattle.adj_interp_frame.specs.Prepared.{var_at}
use Rattle.adj_interp.specs.Held.{Entry, setting_at, Holds, Reaches}
use Rattle.adj_interp.proofs.machine.Machine.push_array.Given as goal

abbrev pub invariant-loop-cell : goal.invariant-loop-cell
invariant-loop-cell g l = record {
  room : l.self.tape.room ≡ l.initial.self.tape.room;
  frame : l.self.frame ≡ l.initial.self.frame;
  reached : (e : Entry g.N.Number.numbers) (s : Scene g.row.N.Denot) → Holds e l.initial.self s →
      Reaches e (pushed_all (setting_at e) (cells_from (s.store (var_at l.initial.self.frame.names.now l.variable)) 0 l.count) s) l.initial.self.left
      (pushed_all (setting_at e) (cells_from (s.store (var_at l.initial.self.frame.names.now l.variable)) l.cell (l.count - l.cell))) l.self;
}
