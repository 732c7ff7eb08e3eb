use Rattle.std.proofs.Common.{◌≡◌, ◌∙◌, ◌<◌, ap, arith}
use Rattle.adj_tree.specs.Code.{call}
use Rattle.def_kernel.specs.Stepped.{as_actuals, step_name}
use Rattle.adj_norm.proofs.Cuts.{known_name}
use Rattle.adj_norm.proofs.cutting.step_call.Goals as goal

pub returns : goal.returns
returns c =
    let first = c.args.first in
    let within : first < _ = omega (arith, c.requires.enough) in
    record {
      call = λ taken u k.
          let name : c.in_ok-name.name ≡ step_name taken u.name first = c.in_ok-name.ensures.same ∙ c.index-names-first.is ∙ known_name c.args.source taken u first _ k within in
          λ i. call (name i) ((c.in_ok-actuals.ensures.actuals ∙ ap as_actuals (c.as_slice.ensures.value ∙ c.in_ok-dummies.ensures.dummies taken u k)) i);
    }
