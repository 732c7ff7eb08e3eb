use Rattle.std.proofs.Common.{◌≡◌, ◌∙◌, ◌+◌, ◌++◌, ◌∷◌, [], map, take, drop, ap, sym, arith, append-nil, append_assoc}
use Rattle.std.proofs.lemmas.List.{take_more, drop_all, map_push}
use Rattle.adj_tree.specs.View.{procedure_of}
use Rattle.def_meaning.specs.Apart.{has_name}
use Rattle.def_kernel.specs.Stepped.{names_of_source, stepped_from, stepped_unit}
use Rattle.adj_sets.specs.Sets.{all_added}
use Rattle.adj_naming.proofs.Added.{once_same}
use Rattle.adj_naming.proofs.Places.{from_here}
use Rattle.adj_norm.specs.Programs.{taken_after}
use Rattle.adj_norm.proofs.Programs.{taken_more}
use Rattle.adj_norm.proofs.program.stepped.Goals as goal

pub loop-unit-init : goal.loop-unit-init
loop-unit-init c =
    let source = names_of_source (map procedure_of c.args.units.now) in
    record {
      taken = λ x.
          ap (has_name x) (c.in_ok-taken.ensures.names ∙ (λ i. c.in_ok-nothing.ensures.empty i ++ all_added [] ((c.as_slice.ensures.names ∙ c.in_ok-known.ensures.names) i)))
          ∙ (once_same (all_added [] source)).at x ∙ (once_same source).at x;
      made = ap (λ z. map procedure_of z ++ stepped_from source (map procedure_of c.args.units.now)) c.new-made.ensures.items;
    }

pub loop-unit-preserved : goal.loop-unit-preserved
loop-unit-preserved c =
    let l = c.loop-unit in
    let items = c.args.units.now in
    let source = names_of_source (map procedure_of items) in
    let i = l.unit-index in
    let unit = c.unit-item.result in
    let u = procedure_of unit in
    let passed = taken_after source (map procedure_of (take i items)) in
    let here : map procedure_of (drop i items) ≡ u ∷ map procedure_of (drop (i + 1) items) = ap (map procedure_of) (from_here items i unit c.loop-unit-test.true c.unit-item.is) in
    let before : map procedure_of (take (i + 1) items) ≡ map procedure_of (take i items) ++ u ∷ [] =
    ap (map procedure_of) (take_more items i unit c.loop-unit-test.true ∙ ap (λ z. take i items ++ z ∷ []) (sym c.unit-item.is)) ∙ map_push procedure_of (take i items) unit in
    let after = ap (taken_after source) before ∙ taken_more (map procedure_of (take i items)) source u in
    let others = map procedure_of (drop (i + 1) items) in
    let made = map procedure_of l.made.items in
    let p = c.in_ok-add_stepped.ensures in
    record {
      taken = λ x. p.taken passed l.invariant.taken x ∙ ap (has_name x) (sym after);
      made =
          (λ j. p.units passed l.invariant.taken j ++ stepped_from (after j) others)
          ∙ append_assoc made (stepped_unit passed u) (stepped_from _ others)
          ∙ ap (λ z. made ++ stepped_from passed z) (sym here) ∙ l.invariant.made;
    }

pub returns : goal.returns
returns c =
    let l = c.loop-unit in
    let items = c.args.units.now in
    let source = names_of_source (map procedure_of items) in
    let passed = taken_after source (map procedure_of (take l.unit-index items)) in
    let made = map procedure_of l.made.items in
    let none_left : drop l.unit-index items ≡ [] = drop_all l.unit-index items (omega arith) in
    record { stepped = sym (append-nil made) ∙ ap (λ z. made ++ stepped_from passed (map procedure_of z)) (sym none_left) ∙ l.invariant.made }
