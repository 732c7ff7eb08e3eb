use Rattle.std.proofs.Common.{◌≡◌, ◌∙◌, ◌++◌, ◌∷◌, [], map, ap, append_assoc}
use Rattle.std.proofs.lemmas.List.{map_push}
use Rattle.adj_tree.specs.View.{procedure_of}
use Rattle.def_kernel.specs.Stepped.{cut, step_units_in}
use Rattle.adj_norm.proofs.program.add_made.Goals as goal

pub returns : goal.returns
returns c =
    let u = procedure_of c.args.unit.now in
    let old = map procedure_of c.args.units.now.items in
    record {
      units = λ taken k.
          let others = step_units_in taken u 0 u.body in
          let whole : procedure_of c.in_ok-whole.whole ≡ record u { body = cut taken u 0 u.body } = c.in_ok-whole.ensures.unit ∙ ap (λ z. record u { body = z }) (c.in_ok-made.ensures.code taken u k) in
          c.in_ok-add_step_units.ensures.units taken u k ∙ ap (λ z. map procedure_of z ++ others) c.in_ok-push.ensures.items
          ∙ ap (λ z. z ++ others) (map_push procedure_of c.args.units.now.items c.in_ok-whole.whole ∙ ap (λ z. old ++ z ∷ []) whole)
          ∙ append_assoc old _ others;
    }
