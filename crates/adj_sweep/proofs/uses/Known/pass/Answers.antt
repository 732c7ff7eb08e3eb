use Rattle.std.proofs.Common.{◌≤◌, length, sym, ap, ◌∙◌}
use Rattle.std.specs.Prelude.{◌||◌}
use Rattle.adj_tree.specs.Code.{more, plain}
use Rattle.adj_tree.specs.View.{term_of}
use Rattle.def_sweep.specs.Plan.{names_of}
use Rattle.adj_sweep_assignment.specs.View.{marks_of}
use Rattle.adj_sweep.proofs.Saved.{saves_past}
use Rattle.adj_sweep.proofs.uses.Known.pass.Goals as goal

pub returns-in-None : goal.returns-in-None
returns-in-None c =
    let ds = c.args.dummies.now in
    let n = c.args.search.passed in
    let past : length ds ≤ n = c.in-None.ensures.lookup.3 in
    record {
      found = λ others.
          ap (λ z. c.args.search.found || z)
          (saves_past (λ x. (marks_of c.args.self.now.marks.now).saved c.args.number (plain x)) ds n (names_of others) past
          ∙ sym (saves_past (λ x. (marks_of c.args.self.now.marks.now).saved c.args.number (plain x)) ds n (names_of (more (term_of c.args.e.now) others)) past));
    }
