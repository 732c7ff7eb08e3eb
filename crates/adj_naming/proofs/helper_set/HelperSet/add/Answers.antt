use Rattle.std.proofs.Common.{◌∙◌, ◌++◌, ◌∷◌, [], ap, map, if◌then◌else◌}
use Rattle.adj_naming.specs.Roles.{variable_of}
use Rattle.adj_naming.specs.Sets.{has_variable}
use Rattle.adj_naming.proofs.Helpers.{helper_same, added_variable}
use Rattle.adj_naming.proofs.helper_set.HelperSet.add.Goals as goal

pub returns : goal.returns
returns c =
    let h = c.args.helper in
    record {
      added = c.in_ok-insert.ensures.keys ∙ added_variable _ helper_same h c.self.inside.helpers.keys
          ∙ ap (λ hs. if has_variable (variable_of h) (map variable_of hs) then hs else hs ++ h ∷ []) c.self.view_is;
    }
