use Rattle.std.proofs.Common.{◌≡◌, ◌++◌, ◌∙◌, [], ℕ, List, map, ap, subst, codes}
use Rattle.std.specs.Prelude.{flat_map}
use Rattle.adj_tree.specs.View.{procedure_of, procedures_of}
use Rattle.def_meaning.specs.Apart.{AreApart}
use Rattle.def_sweep.specs.Declared.{unit_name}
use Rattle.def_sweep.specs.Names.{named_list}
use Rattle.adj_sets.specs.Sets.{all_added}
use Rattle.adj_weave_units.proofs.Ordered.{made_list, all_joined}
use Rattle.adj_tangent.proofs.program.tangent_names.Goals as goal

pub returns : goal.returns
returns c =
    let ps = procedures_of c.args.checked.now.program in
    let facts = c.units_of-units.ensures.facts in
    let moved : map procedure_of c.units_of-units.result.now ≡ ps = ap (map procedure_of) c.units_of-units.ensures.units in
    let apart : AreApart (map unit_name ps) = subst AreApart c.requires.names c.requires.apart in
    let joined = λ (xss : List (List (List ℕ))). flat_map (λ (xs : List (List ℕ)). xs) xss in
    let source = c.in_ok-source.ensures.names ∙ (λ i. all_added [] (c.requires.names i ++ joined (facts.variables i))) ∙ ap (λ xs. all_added [] (map unit_name ps ++ xs)) (all_joined ps) in
    record { names = c.in_ok-made.ensures.names ∙ (λ i. named_list (codes "_D") (source i) (moved i)) ∙ made_list (codes "_D") ps apart }
