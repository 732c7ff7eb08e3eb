use Rattle.std.proofs.Common.{◌≡◌, ◌∙◌, ap}
use Rattle.adj_tree.specs.View.{code_of}
use Rattle.def_meaning.specs.Append.{◌+++◌}
use Rattle.def_meaning.specs.Rename.{rename}
use Rattle.def_sweep.specs.Emission.{cleared, forward_with, backward_with}
use Rattle.adj_sweep.specs.Plans.{naming_in, plan_of, schedules_of}
use Rattle.adj_sweep.proofs.Cleared.{body_whole}
use Rattle.adj_sweep.proofs.plan.Plan.adjoint_body.Goals as goal

pub returns : goal.returns
returns c =
    let r = naming_in c.args.self.now in
    let b = c.args.body.now in
    let s = c.in_ok-sweeps.sweeps in
    let body = code_of b.statements.now in
    record {
      body = λ callees reads k.
          let p = plan_of c.args.self.now callees in
          let made = c.in_ok-sweeps.ensures.sweeps callees reads k in
          let c1 = cleared p b.line b.at_turn.now in
          let c2 = cleared p b.line b.at_end.now in
          let last : code_of c.turned-last.result ≡ rename r c2 = c.turned-last.ensures.turned ∙ c.in_ok-ended.ensures.clears callees in
          body_whole r (forward_with (schedules_of c.args.self.now reads) p b.number 0 body) c1 (backward_with (schedules_of c.args.self.now reads) p b.number 0 body) c2 (code_of c.in_ok-at_turn.at_turn) (code_of s.backward) (code_of c.turned_onto-code.result)
          c.turned_onto-code.ensures.turned
          (c.in_ok-at_turn.ensures.clears callees ∙ ap (λ z. z +++ rename r c1) made.forth)
          (made.back ∙ ap (λ z. rename r (backward_with (schedules_of c.args.self.now reads) p b.number 0 body) +++ z) last);
    }
