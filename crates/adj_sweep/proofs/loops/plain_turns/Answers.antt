use Rattle.std.proofs.Common.{◌∙◌}
use Rattle.adj_tree.specs.Code.{plain, loop, unmarked}
use Rattle.adj_tree.specs.View.{term_of, code_of}
use Rattle.adj_sweep.specs.Swept.{in_order}
use Rattle.adj_sweep.proofs.Turned.{written_behind}
use Rattle.adj_sweep.proofs.loops.plain_turns.Goals as goal

pub returns : goal.returns
returns c =
    let b = c.args.bounds.now in
    let made = c.in_ok-turns.ensures in
    record {
      forward = written_behind (code_of c.args.turned) (code_of c.in_ok-code.code) c.in_ok-turns.turns c.args.line
          (loop (plain b.variable.now) (term_of b.first.now) (term_of b.limit.now) (term_of b.step.now) (in_order (code_of c.args.body)) unmarked)
          c.in_ok-code.ensures.step made.line
          (made.act ∙ (λ i. loop (plain (c.in_ok-variable.ensures.same i)) (c.in_ok-first.ensures.equal i) (c.in_ok-limit.ensures.equal i) (c.in_ok-step.ensures.equal i) (c.turned.ensures.turned i) unmarked));
    }
