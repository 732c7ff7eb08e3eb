use Rattle.std.proofs.Common.{◌≡◌, ◌++◌, map, ap, ◌∙◌, List, ℕ}
use Rattle.adj_tree.specs.Code.{shadow}
use Rattle.def_sweep.specs.Naming.{own}
use Rattle.adj_naming.specs.Roles.{variable_of}
use Rattle.adj_sets.specs.Sets.{all_added}
use Rattle.adj_naming.specs.Texts.{derived_of}
use Rattle.adj_naming.specs.Table.{paired}
use Rattle.adj_naming.proofs.Added.{all_once}
use Rattle.adj_naming.proofs.Making.{names_table}
use Rattle.adj_naming.proofs.naming.names.Goals as goal

pub returns : goal.returns
returns c =
    let vs = c.args.variables.now in
    let xs = c.args.shadowed.now in
    let hs = c.args.helpers.now in
    let shadows = c.in_ok-shadows.shadows.items in
    let given = c.in_ok-given.given.items in
    let own_names = c.new-3.ensures.members ∙ c.in_ok-own.ensures.same in
    let places : c.add_names.new.set ≡ xs = c.in_ok-add_names.ensures.added ∙ ap (λ s. all_added s xs) c.in_ok-places.ensures.empty ∙ all_once xs c.requires.shadowed in
    record {
      names = λ (units : List (List ℕ)) h.
          (λ i. map own (own_names i) ++ (paired (map shadow (places i)) (c.new-4.ensures.members i) ++ paired (map variable_of (c.in_ok-helper_set.ensures.helpers i)) (c.new-5.ensures.members i)))
          ∙ names_table (derived_of c.args.derived) vs units (map shadow xs) (map variable_of hs) (paired (map shadow xs) shadows) (paired (map variable_of hs) given) c.args.taken.now c.in_ok-all.all c.shadow_names.new.taken c.helper_names.new.taken h c.in_ok-all.ensures.names c.in_ok-shadows.ensures.shadows c.in_ok-given.ensures.helpers;
    }
