use Rattle.std.proofs.Common.{◌∙◌, sym, ap}
use Rattle.adj_tree.specs.Code.{plain, helper, control, var, compare, is_same, choose, runtime, pop_control, step}
use Rattle.adj_tree.specs.View.{code_of}
use Rattle.def_meaning.specs.Append.{◌+++◌}
use Rattle.def_meaning.specs.Rename.{rename}
use Rattle.def_sweep.specs.Rows.{literal, told_backward}
use Rattle.adj_sweep.specs.Plans.{naming_in}
use Rattle.adj_sweep.proofs.plan.Plan.branch_backward.Goals as goal

pub returns-then-idle : goal.returns-then-idle
returns-then-idle c =
    record { backward = λ a b f g. ap (λ z. rename (naming_in c.args.self.now) (told_backward z c.args.line a b) +++ code_of c.args.rest) (sym c.if-idle.true) }

pub returns : goal.returns
returns c =
    let line = c.args.line in
    let rest = code_of c.args.rest in
    let word = c.in_ok-word.ensures.name in
    let r = naming_in c.args.self.now in
    record {
      backward = λ a b f g.
          c.in_ok-code.ensures.step
          ∙ (λ i. step line (runtime (pop_control (plain (word i)))) ((c.in_ok-parts.ensures.step ∙ (λ j. step line (choose (compare is_same (var (r (helper control 0))) (literal 1)) (f j) (g j)) rest)) i))
          ∙ ap (λ z. rename (naming_in c.args.self.now) (told_backward z line a b) +++ rest) (sym c.if-idle.false);
    }
