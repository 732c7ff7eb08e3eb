use Rattle.std.proofs.Common.{◌≡◌, ◌++◌, ◌∙◌, [], ℕ, List, map, ap, codes}
use Rattle.std.specs.Prelude.{flat_map}
use Rattle.adj_tree.specs.View.{procedure_of, procedures_of}
use Rattle.def_sweep.specs.Declared.{unit_name}
use Rattle.def_sweep.specs.Names.{named_list}
use Rattle.adj_sets.specs.Sets.{all_added}
use Rattle.adj_weave.specs.declared.made.MadeNames.{MadeNames}
use Rattle.adj_weave_units.proofs.Facts.{units_apart}
use Rattle.adj_weave_units.proofs.Ordered.{all_joined}
use Rattle.adj_weave.proofs.Ordered.{all_are_made}
use Rattle.adj_weave.proofs.made.all_made.Goals as goal

pub returns : goal.returns
returns c =
    let known = c.args.checked.now in
    let ps = procedures_of known.program in
    let facts = c.units_of-units.ensures.facts in
    let moved : map procedure_of c.units_of-units.result.now ≡ ps = ap (map procedure_of) c.units_of-units.ensures.units in
    let joined = λ (xss : List (List (List ℕ))). flat_map (λ (xs : List (List ℕ)). xs) xss in
    let source = c.in_ok-taken.taken in
    let is = c.in_ok-taken.ensures.names ∙ (λ i. all_added [] (c.requires.names i ++ joined (facts.variables i))) ∙ ap (λ xs. all_added [] (map unit_name ps ++ xs)) (all_joined ps) in
    let first = c.in_ok-add_names.ensures.added ∙ ap (all_added source) c.as_slice.ensures.value in
    let second = c.in_ok-add_names-2.ensures.added ∙ (λ i. all_added (first i) (c.as_slice-2.ensures.value i)) in
    let made : MadeNames = record { adjoints = c.in_ok-adjoints.adjoints; forths = c.in_ok-forths.forths; backs = c.in_ok-backs.backs } in
    record {
      made = all_are_made ps (units_apart known facts) source is made
          (c.in_ok-adjoints.ensures.names ∙ ap (named_list (codes "_B") source) moved)
          (c.in_ok-forths.ensures.names ∙ (λ i. named_list (codes "_FWD") (first i) (moved i)))
          (c.in_ok-backs.ensures.names ∙ (λ i. named_list (codes "_BWD") (second i) (moved i)));
    }
