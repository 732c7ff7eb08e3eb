use Rattle.std.proofs.Common.{◌≡◌, ◌∙◌, arith, pos, w64, to_z, of_z, sym, ap}
use Rattle.std.proofs.lemmas.Int.{ints}
use Rattle.adj_tree.specs.Code.{runtime, push_control, lit}
use Rattle.adj_tree.specs.View.{code_of}
use Rattle.def_sweep.specs.Rows.{literal, told_forward}
use Rattle.adj_sweep.specs.Swept.{in_order}
use Rattle.adj_sweep.proofs.Turned.{put_behind}
use Rattle.adj_sweep.proofs.branches.told.Goals as goal

pub returns-then-idle : goal.returns-then-idle
returns-then-idle c =
    record { told = c.turned-only.ensures.turned ∙ ap (λ b. told_forward b c.args.line (in_order (code_of c.args.part)) c.args.word) (sym c.if-idle.true) }

pub returns : goal.returns
returns c =
    let part = code_of c.args.part in
    let word : to_z w64 (of_z w64 c.from.result) ≡ pos c.args.word = omega (arith, ints) in
    record {
      told = c.turned-all.ensures.turned
          ∙ put_behind part (code_of c.in_ok-telling.telling) c.args.line _ (runtime (push_control (literal c.args.word))) c.in_ok-telling.ensures.step (ap (λ z. runtime (push_control (lit z))) word)
          ∙ ap (λ b. told_forward b c.args.line (in_order part) c.args.word) (sym c.if-idle.false);
    }
