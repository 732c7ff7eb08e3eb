use Rattle.std.proofs.Common.{◌∙◌, ap, nat_eq}
use Rattle.std.specs.Cmp.Lexicographic.{pointwise}
use Rattle.std.specs.HashSet.{contains_by}
use Rattle.def_meaning.specs.Apart.{has_name}
use Rattle.adj_sets.proofs.NameSets.{pointwise_name, any_has}
use Rattle.adj_sets.proofs.name_set.NameSet.has.Goals as goal

pub returns : goal.returns
returns c =
    let x = c.args.name.now in
    record { found = c.contains.ensures ∙ ap (contains_by (λ k. pointwise nat_eq x k.items)) c.deref.ensures ∙ any_has (λ k. k.items) (pointwise nat_eq) pointwise_name x c.self.inside.texts.value.keys ∙ ap (has_name x) c.self.view_is }
