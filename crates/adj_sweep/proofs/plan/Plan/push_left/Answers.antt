use Rattle.std.proofs.Common.{◌∙◌, ap, if◌then◌else◌}
use Rattle.adj_tree.specs.Code.{plain, none, runtime, push_word, push_array}
use Rattle.adj_tree.specs.View.{code_of}
use Rattle.def_meaning.specs.Apart.{has_name}
use Rattle.adj_sweep.proofs.Turned.{put_behind}
use Rattle.adj_sweep.proofs.plan.Plan.push_left.Goals as goal

pub returns : goal.returns
returns c =
    let x = c.args.x.now in
    record {
      pushed = λ callees.
          put_behind (code_of c.args.turned) (code_of c.in_ok-code.code) c.args.line _ (runtime (if has_name x c.args.self.now.arrays.now then push_array (plain x) else push_word (plain x) none))
          c.in_ok-code.ensures.step (ap runtime (c.push_of.ensures.call ∙ ap (λ y. if has_name y c.args.self.now.arrays.now then push_array (plain y) else push_word (plain y) none) c.in_ok-name.ensures.same));
    }
