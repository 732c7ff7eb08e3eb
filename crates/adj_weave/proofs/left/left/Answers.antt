use Rattle.std.proofs.Common.{◌∙◌, [], ap}
use Rattle.adj_sets.specs.Sets.{all_added}
use Rattle.adj_naming.proofs.Added.{once_same}
use Rattle.adj_weave.specs.Left.{read_only, unless_among}
use Rattle.adj_weave.proofs.Leaving.{unless_same}
use Rattle.adj_weave.proofs.left.left.Goals as goal

pub returns : goal.returns
returns c =
    let vs = c.args.variables.now in
    let kept = read_only c.args.dummies.now c.args.written.now in
    let set = c.in_ok-add_names.ensures.added ∙ ap (λ s. all_added s c.as_slice.result.now) c.in_ok-stays.ensures.empty ∙ ap (all_added []) (c.as_slice.ensures.value ∙ c.in_ok-kept.ensures.names) in
    record { left = c.in_ok-made.ensures.names ∙ ap (λ s. unless_among s vs) set ∙ unless_same (all_added [] kept) kept vs (once_same kept) }
