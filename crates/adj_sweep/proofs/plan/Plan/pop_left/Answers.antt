use Rattle.std.proofs.Common.{◌∙◌, ap, if◌then◌else◌}
use Rattle.adj_tree.specs.Code.{plain, none, runtime, pop_word, pop_array, step}
use Rattle.adj_tree.specs.View.{code_of}
use Rattle.def_meaning.specs.Apart.{has_name}
use Rattle.adj_sweep.proofs.plan.Plan.pop_left.Goals as goal

pub returns : goal.returns
returns c = record {
  popped = λ callees.
      c.in_ok-code.ensures.step
      ∙ ap (λ z. step c.args.line (runtime z) (code_of c.args.rest)) (c.pop_of.ensures.call ∙ ap (λ y. if has_name y c.args.self.now.arrays.now then pop_array (plain y) else pop_word (plain y) none) c.in_ok-name.ensures.same);
}
