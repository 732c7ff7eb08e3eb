use Rattle.std.proofs.Common.{◌≡◌, ap, sym, subst, ◌∙◌}
use Rattle.def_meaning.specs.Apart.{AreApart}
use Rattle.adj_sets.specs.Sets.{all_added}
use Rattle.adj_naming.proofs.Added.{all_once}
use Rattle.adj_tangent.proofs.program.found_by_names.Goals as goal

pub found_units-requires : goal.found_units-requires
found_units-requires c =
    let names = c.args.names.now in
    let set : c.add_names.new.set ≡ c.args.names.now = c.in_ok-add_names.ensures.added ∙ ap (λ s. all_added s names) c.in_ok-set.ensures.empty ∙ all_once names c.requires.apart in
    record { head = c.requires.head; names = set ∙ c.requires.names; apart = subst AreApart (sym set) c.requires.apart }
