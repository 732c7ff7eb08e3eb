use Rattle.std.proofs.Common.{◌≡◌, ◌∷◌, [], map, ap, ◌∙◌}
use Rattle.adj_tree.specs.Code.{plain, Declaration}
use Rattle.adj_tree.specs.View.{extent_of}
use Rattle.def_meaning.specs.Units.{declared}
use Rattle.adj_norm.proofs.Sources.{declared_extents}
use Rattle.adj_norm.proofs.source.step_declaration.Goals as goal

pub returns : goal.returns
returns c =
    let x = c.args.x.now in
    record {
      declaration = λ ds k.
          let here : map extent_of c.into_extents.result ≡ declared ds (plain x) = ap (map extent_of) c.into_extents.ensures.extents ∙ ap (λ (d : Declaration). d.extents) (c.in_ok-decl.ensures.declaration ∙ k c.args.line x) ∙ declared_extents c.args.line ds x in
          λ i. record { line = c.args.line; name = c.in_ok-name.ensures.same i; extents = here i } ∷ [];
    }
