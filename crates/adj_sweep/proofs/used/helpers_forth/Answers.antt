use Rattle.std.proofs.Common.{◌∙◌}
use Rattle.adj_tree.specs.View.{code_of}
use Rattle.adj_sweep.specs.Uses.{plan_by, schedules_by}
use Rattle.adj_sweep.proofs.Among.{forth_known}
use Rattle.adj_sweep.proofs.used.helpers_forth.Goals as goal

pub returns : goal.returns
returns c = record {
  helpers = λ arrays callees reads k.
      c.in_ok-made.ensures.helpers
      ∙ forth_known (schedules_by c.args.known.now reads) (plan_by c.args.known.now arrays callees) c.args.number (code_of c.args.body.now) c.in_ok-used.used c.new-depths.result c.list.new.depths
      (c.in_ok-used.ensures.uses arrays callees reads k) (c.in_ok-used.ensures.adds arrays callees reads k) c.new-depths.ensures.dos c.new-depths.ensures.loops c.new-depths.ensures.slots;
}
