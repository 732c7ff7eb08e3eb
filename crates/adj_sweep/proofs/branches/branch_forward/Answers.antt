use Rattle.adj_tree.specs.Code.{choose}
use Rattle.adj_tree.specs.View.{test_of, code_of}
use Rattle.def_sweep.specs.Rows.{told_forward}
use Rattle.adj_sweep.specs.Swept.{in_order}
use Rattle.adj_sweep.proofs.Turned.{put_behind}
use Rattle.adj_sweep.proofs.branches.branch_forward.Goals as goal

pub returns : goal.returns
returns c =
    let idle = c.args.idle in
    let line = c.args.line in
    record {
      forward = put_behind (code_of c.args.turned) (code_of c.in_ok-code.code) line _
          (choose (test_of c.args.c.now) (told_forward idle line (in_order (code_of c.args.first)) 1) (told_forward idle line (in_order (code_of c.args.second)) 0))
          c.in_ok-code.ensures.step (λ i. choose (c.in_ok-copy.ensures.equal i) (c.in_ok-first.ensures.told i) (c.in_ok-second.ensures.told i));
    }
