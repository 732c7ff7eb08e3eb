use Rattle.std.proofs.Common.{◌∙◌, ap, sym}
use Rattle.std.specs.Prelude.{position, unwrap_or, slice_get}
use Rattle.adj_tree.specs.Code.{shadow, name_eq}
use Rattle.def_meaning.specs.Apart.{has_name}
use Rattle.def_sweep.specs.Naming.{outside}
use Rattle.adj_naming.proofs.Tables.{shadow_placed, shadow_absent}
use Rattle.adj_naming.proofs.names.Names.shadow.Goals as goal

pub returns-in_ok-name-in-Some : goal.returns-in_ok-name-in-Some
returns-in_ok-name-in-Some c =
    let n = c.args.self.now in
    let x = c.args.x.now in
    let i = c.in-Some.place in
    record {
      name = c.in_ok-name-in-Some.ensures.name ∙ ap (λ ns. unwrap_or (slice_get ns i) (outside (shadow x))) c.as_slice.ensures.members
          ∙ shadow_placed n x i (ap (λ z. position (name_eq z) n.shadowed) (sym c.bytes.ensures.bytes) ∙ sym c.in-Some.ensures.place);
    }

pub returns-in_ok-name-in-None : goal.returns-in_ok-name-in-None
returns-in_ok-name-in-None c =
    let n = c.args.self.now in
    record { name = c.in_ok-name-in-None.ensures.name ∙ shadow_absent n c.args.x.now (ap (λ z. has_name z n.shadowed) (sym c.bytes.ensures.bytes) ∙ sym c.in-None.ensures.found) }
