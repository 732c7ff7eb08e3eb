use Rattle.std.proofs.Common.{◌∙◌, ℕ, List}
use Rattle.adj_tree.specs.Code.{plain, none, runtime, pop_word}
use Rattle.def_meaning.specs.Append.{◌+++◌, one}
use Rattle.def_sweep.specs.Marked.{code_if}
use Rattle.adj_sweep_assignment.specs.View.{marks_of}
use Rattle.adj_sweep.proofs.plan.Plan.pop_variable.Goals as goal

pub returns : goal.returns
returns c =
    let at = c.args.at in
    let m = marks_of c.args.self.now.marks.now in
    let popped = λ (y : List ℕ). code_if (m.saved at.number (plain y)) (one at.line (runtime (pop_word (plain y) none))) in
    record { popped = c.in_ok-code.ensures.popped ∙ (λ i. popped (c.in_ok-name.ensures.same i) +++ c.in_ok-cleared.ensures.reset i) }
