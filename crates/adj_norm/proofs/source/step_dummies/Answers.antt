use Rattle.std.proofs.Common.{◌≡◌, ◌∷◌, [], ap, ◌∙◌}
use Rattle.adj_tree.specs.View.{code_of}
use Rattle.def_kernel.specs.Kernel.{names_in_code}
use Rattle.adj_sets.specs.Sets.{all_added}
use Rattle.adj_norm.specs.Source.{kept_among, all_extents_in}
use Rattle.adj_norm.proofs.Sources.{kept_are_used}
use Rattle.adj_norm.proofs.source.step_dummies.Goals as goal

pub returns : goal.returns
returns c =
    let names = c.args.x.now ∷ names_in_code (code_of c.args.body.now) in
    record {
      dummies = λ taken u k.
          let e : c.in_ok-extents.extents ≡ all_added [] (all_extents_in u.declarations (all_added [] names)) =
          c.in_ok-extents.ensures.names u.declarations k.declared ∙ ap (λ z. all_added [] (all_extents_in u.declarations z)) (c.as_slice.ensures.names ∙ c.in_ok-used.ensures.names) in
          c.in_ok-made.ensures.kept ∙ (λ i. kept_among (c.in_ok-used.ensures.names i) (e i) ((c.as_slice-2.ensures.names ∙ k.variables) i)) ∙ kept_are_used u.declarations names _;
    }
