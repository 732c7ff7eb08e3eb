use Rattle.std.proofs.Common.{◌∙◌, ap, map}
use Rattle.std.specs.Prelude.{position}
use Rattle.adj_tree.specs.Code.{var_eq}
use Rattle.adj_naming.specs.Roles.{variable_of}
use Rattle.adj_naming.specs.Sets.{has_variable}
use Rattle.adj_naming.proofs.Helpers.{helper_same, any_variable, position_variable}
use Rattle.adj_naming.proofs.helper_set.HelperSet.place.Goals as goal

pub returns-clause-place : goal.returns-clause-place
returns-clause-place c =
    let v = variable_of c.args.helper in
    c.get_index_of.ensures.index ∙ position_variable _ helper_same c.args.helper c.self.inside.helpers.keys ∙ ap (λ hs. position (var_eq v) (map variable_of hs)) c.self.view_is

pub returns-clause-found : goal.returns-clause-found
returns-clause-found c =
    let v = variable_of c.args.helper in
    c.get_index_of.ensures.found ∙ any_variable _ helper_same c.args.helper c.self.inside.helpers.keys ∙ ap (λ hs. has_variable v (map variable_of hs)) c.self.view_is
