use Rattle.std.proofs.Common.{◌∙◌, ap, sym}
use Rattle.std.specs.Prelude.{unwrap_or, slice_get}
use Rattle.adj_tree.specs.Code.{helper}
use Rattle.def_sweep.specs.Naming.{outside}
use Rattle.adj_naming.specs.Roles.{role_of}
use Rattle.adj_naming.proofs.Tables.{helper_placed, helper_absent}
use Rattle.adj_naming.proofs.names.Names.helper.Goals as goal

pub returns-in_ok-name-in-Some : goal.returns-in_ok-name-in-Some
returns-in_ok-name-in-Some c =
    let n = c.args.self.now in
    let i = c.in-Some.place in
    record {
      name = c.in_ok-name-in-Some.ensures.name ∙ ap (λ ns. unwrap_or (slice_get ns i) (outside (helper (role_of c.args.role) c.args.number))) c.as_slice.ensures.members
          ∙ helper_placed n (record { role = c.args.role; number = c.args.number }) i (sym c.in-Some.ensures.place);
    }

pub returns-in_ok-name-in-None : goal.returns-in_ok-name-in-None
returns-in_ok-name-in-None c =
    record { name = c.in_ok-name-in-None.ensures.name ∙ helper_absent c.args.self.now (record { role = c.args.role; number = c.args.number }) (sym c.in-None.ensures.found) }
