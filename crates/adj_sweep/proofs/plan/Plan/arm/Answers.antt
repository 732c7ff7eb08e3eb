use Rattle.std.proofs.Common.{◌∙◌, sym, ap}
use Rattle.adj_tree.specs.Code.{helper, var, compare, is_same, choose, stop, step}
use Rattle.adj_tree.specs.View.{code_of}
use Rattle.def_meaning.specs.Rename.{rename}
use Rattle.def_meaning.proofs.Appends.{append-stop}
use Rattle.def_sweep.specs.Rows.{is_empty, literal}
use Rattle.adj_naming.specs.Roles.{role_of}
use Rattle.adj_sweep.specs.Plans.{naming_in}
use Rattle.adj_sweep.proofs.Emitted.{empty_renamed}
use Rattle.adj_sweep.proofs.Reversals.{arm_named, arm_left}
use Rattle.adj_sweep.proofs.plan.Plan.arm.Goals as goal

pub returns-then-is_empty : goal.returns-then-is_empty
returns-then-is_empty c =
    let r = naming_in c.args.self.now in
    record {
      arm = λ done h.
          arm_left r c.args.at.line c.args.at.depth c.args.code done (code_of c.args.rest)
          (sym (empty_renamed r done) ∙ ap is_empty (append-stop (rename r done)) ∙ ap is_empty (sym h) ∙ sym c.is_empty.ensures.empty ∙ c.if-is_empty.true);
    }

pub returns : goal.returns
returns c =
    let r = naming_in c.args.self.now in
    let line = c.args.at.line in
    let own = c.of_depth-own.ensures in
    record {
      arm = λ done h.
          c.in_ok-made.ensures.step
          ∙ (λ i. step line (choose (compare is_same (var (r (helper (role_of (own.role i)) (own.number i)))) (literal c.args.code)) (code_of c.args.inner) stop) (code_of c.args.rest))
          ∙ arm_named r line c.args.at.depth c.args.code done (code_of c.args.inner) (code_of c.args.rest)
          (sym (empty_renamed r done) ∙ ap is_empty (append-stop (rename r done)) ∙ ap is_empty (sym h) ∙ sym c.is_empty.ensures.empty ∙ c.if-is_empty.false) h;
    }
