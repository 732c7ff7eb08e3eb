use Rattle.std.proofs.Common.{◌≡◌, ◌∙◌, refl, sym, ap}
use Rattle.std.specs.Prelude.{pos}
use Rattle.adj_tree.specs.Code.{plain, helper, first, stride, turn, lower, upper, plus, minus, times, var, lit, bin, none, assign, call, loop, unmarked, Code, step}
use Rattle.adj_tree.specs.View.{code_of}
use Rattle.def_meaning.specs.Append.{one}
use Rattle.def_meaning.specs.Rename.{rename}
use Rattle.adj_sweep.specs.Plans.{naming_in}
use Rattle.adj_sweep.specs.Steps.{plain_of}
use Rattle.adj_sweep.proofs.Reversals.{named_kept}
use Rattle.adj_sweep.proofs.plan.Plan.advance.Goals as goal

pub returns : goal.returns
returns c =
    let r = naming_in c.args.self.now in
    let line = c.args.at.line in
    let d = c.args.at.depth in
    let s = c.args.step.now in
    let called : code_of c.in_ok-call.call ≡ rename r (plain_of line s) = c.in_ok-call.ensures.call ∙ (λ i. one line (call s.name.now (sym (named_kept r (λ y. refl) s.given.now) i))) in
    let value = bin plus (var (r (helper first d))) (bin times (var (r (helper turn d))) (var (r (helper stride d)))) in
    let body = c.in_ok-body.ensures.step ∙ ap (step line (assign (plain c.args.variable.now) none value)) called in
    record {
      advance = c.in_ok-code.ensures.steps
          ∙ ap (λ (z : Code). one line (loop (r (helper turn d)) (var (r (helper lower d))) (bin minus (var (r (helper upper d))) (lit (pos 1))) (lit (pos 1)) z unmarked)) body;
    }
