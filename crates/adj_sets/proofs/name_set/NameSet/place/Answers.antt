use Rattle.std.proofs.Common.{◌∙◌, ap, nat_eq}
use Rattle.std.specs.Cmp.Lexicographic.{pointwise}
use Rattle.std.specs.Prelude.{position}
use Rattle.adj_tree.specs.Code.{name_eq}
use Rattle.std.specs.HashSet.{contains_by}
use Rattle.def_meaning.specs.Apart.{has_name}
use Rattle.adj_sets.proofs.NameSets.{pointwise_name, any_has, position_named}
use Rattle.adj_sets.proofs.name_set.NameSet.place.Goals as goal

pub returns : goal.returns
returns c =
    let x = c.args.name.now in
    record {
      place = c.get_index_of.ensures.index ∙ ap (λ s. position (λ k. pointwise nat_eq x k.items) s.keys) c.deref.ensures ∙ position_named (λ k. k.items) (pointwise nat_eq) pointwise_name x c.self.inside.texts.value.keys ∙ ap (position (name_eq x)) c.self.view_is;
      found = c.get_index_of.ensures.found ∙ ap (contains_by (λ k. pointwise nat_eq x k.items)) c.deref.ensures ∙ any_has (λ k. k.items) (pointwise nat_eq) pointwise_name x c.self.inside.texts.value.keys ∙ ap (has_name x) c.self.view_is;
    }
