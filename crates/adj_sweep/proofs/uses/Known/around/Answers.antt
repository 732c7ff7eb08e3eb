use Rattle.std.proofs.Common.{◌≡◌, suc, sym, ap, ◌∙◌, arith}
use Rattle.adj_tree.specs.View.{code_of, mark_of}
use Rattle.adj_sweep.specs.HelperSteps.{step_of}
use Rattle.adj_sweep.specs.Uses.{plan_by, schedules_by}
use Rattle.adj_sweep.proofs.Added.{adds_do, adds_reversed}
use Rattle.adj_sweep.proofs.uses.Known.around.Goals as goal

pub returns-in_ok-add_reversed-in-Some : goal.returns-in_ok-add_reversed-in-Some
returns-in_ok-add_reversed-in-Some c =
    let body = code_of c.args.turns.now.body.now in
    let m = mark_of c.args.turns.now.mark.now in
    let x = c.args.turns.now.variable.now in
    let i = c.args.number in
    let call : c.in_ok-call.call ≡ suc i = omega arith in
    record {
      uses = λ arrays callees reads.
          let r = schedules_by c.args.self.now reads in
          let is = sym (c.step_call.ensures.step reads i call) ∙ ap (step_of reads) c.in-Some.is in
          c.reversed_loop.ensures.uses r arrays callees body m _ is;
      adds = λ arrays callees reads.
          let r = schedules_by c.args.self.now reads in
          let is = sym (c.step_call.ensures.step reads i call) ∙ ap (step_of reads) c.in-Some.is in
          let e = c.in_ok-add_reversed-in-Some.ensures in
          adds_reversed r (plan_by c.args.self.now arrays callees) c.args.depth i x body m _ c.args.inner.idle c.args.depths.now c.add_reversed.new.self is e.dos e.loops e.reversed e.slots;
    }

pub returns-in_ok-add_do-in-None : goal.returns-in_ok-add_do-in-None
returns-in_ok-add_do-in-None c =
    let body = code_of c.args.turns.now.body.now in
    let m = mark_of c.args.turns.now.mark.now in
    let x = c.args.turns.now.variable.now in
    let i = c.args.number in
    let call : c.in_ok-call.call ≡ suc i = omega arith in
    record {
      uses = λ arrays callees reads.
          let r = schedules_by c.args.self.now reads in
          let others = sym (c.step_call.ensures.step reads i call) ∙ ap (step_of reads) c.in-None.is in
          c.do_loop.ensures.uses r arrays callees body m others;
      adds = λ arrays callees reads.
          let r = schedules_by c.args.self.now reads in
          let others = sym (c.step_call.ensures.step reads i call) ∙ ap (step_of reads) c.in-None.is in
          let e = c.in_ok-add_do-in-None.ensures in
          adds_do r (plan_by c.args.self.now arrays callees) c.args.depth i x body m c.args.inner.idle c.args.depths.now c.add_do.new.self others e.dos e.loops e.reversed e.slots;
    }
