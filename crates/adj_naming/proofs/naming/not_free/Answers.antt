use Rattle.std.proofs.Common.{[], ap, sym, ◌∙◌}
use Rattle.def_names.specs.Reserved.{reserved}
use Rattle.adj_sets.specs.Sets.{all_added}
use Rattle.adj_naming.proofs.Added.{all_added-append}
use Rattle.adj_naming.proofs.naming.not_free.Goals as goal

pub returns : goal.returns
returns c =
    let units = c.args.units.now in
    record { names = c.in_ok-add_reserved.ensures.added ∙ ap (λ s. all_added s reserved) (c.in_ok-add_names.ensures.added ∙ ap (λ s. all_added s units) c.in_ok-set.ensures.empty) ∙ sym (all_added-append [] units reserved) }
