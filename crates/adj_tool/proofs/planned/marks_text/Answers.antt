use Rattle.std.proofs.Common.{◌≡◌, ap, ◌∙◌, subst}
use Rattle.adj_reach.specs.Edges.{flag}
use Rattle.adj_plan.specs.Lines.{plan_lines, TellsPlan}
use Rattle.adj_plan.specs.View.{said_in}
use Rattle.adj_plan.proofs.Saying.{told}
use Rattle.adj_tree.specs.View.{procedures_of}
use Rattle.adj_flow.specs.Asked.{problem_of}
use Rattle.adj_tool.specs.Planned.{splits_for}
use Rattle.adj_tool.proofs.planned.marks_text.Goals as goal

pub returns : goal.returns
returns c =
    let f = c.args.found.now.flow in
    let t = c.args.found.now.marks in
    let h = c.args.head.now in
    record {
      text = λ lines splits. record {
        said = said_in f t;
        takes = flag f.taking;
        tells =
            let same : problem_of f h ≡ splits_for lines (procedures_of c.args.kernel.now.program) h = λ i. record { units = c.requires.units i; head = h.unit; vars = h.vars; outvars = h.outvars; split = λ n. splits n i } in
            subst (λ k. TellsPlan k (said_in f t) (flag f.taking)) same (told f h c.requires.flow t c.requires.plan);
        is_text = c.in_ok-text.ensures.text ∙ ap (plan_lines (said_in f t) (flag f.taking)) c.requires.units;
      };
    }
