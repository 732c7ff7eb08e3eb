use Rattle.std.proofs.Common.{◌∙◌, ℕ, List, ap}
use Rattle.adj_tree.specs.Code.{plain, none, runtime, push_word}
use Rattle.adj_tree.specs.View.{code_of}
use Rattle.def_meaning.specs.Append.{◌+++◌, one}
use Rattle.def_sweep.specs.Marked.{code_if}
use Rattle.adj_sweep_assignment.specs.View.{marks_of}
use Rattle.adj_sweep.specs.Swept.{in_order}
use Rattle.adj_sweep.proofs.plan.Plan.push_variable.Goals as goal

pub returns : goal.returns
returns c =
    let at = c.args.at in
    let old = in_order (code_of c.args.turned) in
    let m = marks_of c.args.self.now.marks.now in
    let pushed = λ (x : List ℕ). code_if (m.saved at.number (plain x)) (one at.line (runtime (push_word (plain x) none))) in
    record { pushed = c.in_ok-code.ensures.pushed ∙ ap (λ x. old +++ pushed x) c.in_ok-name.ensures.same }
