use Rattle.std.proofs.Common.{◌∙◌, sym, ap, ◌∷◌, []}
use Rattle.std.specs.Prelude.{if◌then◌else◌}
use Rattle.adj_tree.specs.Code.{plain, none, runtime, push_word, push_array}
use Rattle.adj_tree.specs.View.{code_of}
use Rattle.def_meaning.specs.Append.{◌+++◌}
use Rattle.def_meaning.proofs.Appends.{append-stop}
use Rattle.def_meaning.specs.Apart.{has_name}
use Rattle.def_sweep.specs.Rows.{pushes}
use Rattle.adj_sweep.specs.Plans.{plan_of}
use Rattle.adj_sweep.specs.Swept.{in_order}
use Rattle.adj_sweep.proofs.Turned.{put_behind}
use Rattle.adj_sweep.proofs.plan.Plan.push_actual.Goals as goal

pub returns-then-not-is_in : goal.returns-then-not-is_in
returns-then-not-is_in c =
    let a = c.args.actual.now in
    record {
      pushed = λ callees. sym (append-stop (in_order (code_of c.args.turned))) ∙ ap (λ b. in_order (code_of c.args.turned) +++ pushes (plan_of c.args.self.now callees) c.args.line (if b then a.name ∷ [] else [])) (sym (sym c.is_in.ensures.member ∙ c.if-not-is_in.true));
    }

pub returns : goal.returns
returns c =
    let a = c.args.actual.now in
    record {
      pushed = λ callees.
          put_behind (code_of c.args.turned) (code_of c.in_ok-code.code) c.args.line _ (runtime (if has_name a.name c.args.self.now.arrays.now then push_array (plain a.name) else push_word (plain a.name) none))
          c.in_ok-code.ensures.step (ap runtime (c.push_of.ensures.call ∙ ap (λ y. if has_name y c.args.self.now.arrays.now then push_array (plain y) else push_word (plain y) none) c.in_ok-name.ensures.same))
          ∙ ap (λ b. in_order (code_of c.args.turned) +++ pushes (plan_of c.args.self.now callees) c.args.line (if b then a.name ∷ [] else [])) (sym (sym c.is_in.ensures.member ∙ c.if-not-is_in.false));
    }
