use Rattle.std.proofs.Common.{◌≡◌, ◌++◌, ap, sym, ◌∙◌, append_assoc}
use Rattle.std.specs.Prelude.{◌||◌}
use Rattle.adj_tree.specs.View.{procedure_of}
use Rattle.def_meaning.specs.Apart.{has_name}
use Rattle.adj_sets.proofs.NameSets.{has-behind}
use Rattle.adj_data.specs.Marked.{marked_names, tangent_mark, adjoint_mark}
use Rattle.adj_data.proofs.checking.titles.Goals as goal

pub returns : goal.returns
returns c = record {
  same = λ x.
      let dummies = (procedure_of c.args.unit.now).dummies in
      let tangents = marked_names tangent_mark dummies c.args.head.now.vars in
      let adjoints = marked_names adjoint_mark dummies c.args.head.now.outvars in
      let first : has_name x c.add_marked.new.set ≡ has_name x (dummies ++ tangents) =
      c.in_ok-add_marked.ensures.added x ∙ has-behind x c.in_ok-set.set tangents ∙ ap (λ b. b || has_name x tangents) (c.in_ok-set.ensures.same x) ∙ sym (has-behind x dummies tangents) in
      c.in_ok-add_marked-2.ensures.added x ∙ has-behind x c.add_marked.new.set adjoints ∙ ap (λ b. b || has_name x adjoints) first
      ∙ sym (has-behind x (dummies ++ tangents) adjoints) ∙ ap (has_name x) (append_assoc dummies tangents adjoints);
}
