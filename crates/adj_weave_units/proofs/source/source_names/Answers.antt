use Rattle.std.proofs.Common.{◌≡◌, ◌<◌, ◌≤◌, [], ◌+◌, ℕ, List, length, drop, get_or, ap, sym, ◌∙◌, subst}
use Rattle.std.specs.Prelude.{flat_map}
use Rattle.std.proofs.lemmas.List.{drop_all}
use Rattle.adj_sets.specs.Sets.{all_added}
use Rattle.adj_naming.proofs.Added.{all_added-append}
use Rattle.adj_naming.proofs.Places.{from_here, get_or_any}
use Rattle.adj_weave_units.proofs.Facts.{variables_each}
use Rattle.adj_weave_units.proofs.source.source_names.Goals as goal

pub variables-requires : goal.variables-requires
variables-requires c =
    let k = c.args.checked.now in
    let many : length c.units_of-count.result.now ≡ length k.variables = ap length c.units_of-count.ensures.units ∙ sym (variables_each k c.units_of-count.ensures.facts) in
    record { unit = subst (λ n. c.loop-unit.unit < n) many c.loop-unit-test.true }

pub loop-unit-init : goal.loop-unit-init
loop-unit-init c =
    let joined = flat_map (λ (xs : List (List ℕ)). xs) c.args.checked.now.variables in
    ap (λ s. all_added s joined) (c.in_ok-add_names.ensures.added ∙ ap (λ s. all_added s c.args.units.now) c.in_ok-taken.ensures.empty)
    ∙ sym (all_added-append [] c.args.units.now joined)

pub loop-unit-preserved : goal.loop-unit-preserved
loop-unit-preserved c =
    let k = c.args.checked.now in
    let rows = k.variables in
    let i = c.loop-unit.unit in
    let many : length c.units_of-count.result.now ≡ length rows = ap length c.units_of-count.ensures.units ∙ sym (variables_each k c.units_of-count.ensures.facts) in
    let there : i < length rows = subst (λ n. i < n) many c.loop-unit-test.true in
    let taken = c.loop-unit.taken in
    let own = get_or rows i [] in
    let rest = flat_map (λ (xs : List (List ℕ)). xs) (drop (i + 1) rows) in
    ap (λ z. all_added z rest) (c.in_ok-add_names-2.ensures.added ∙ ap (all_added taken) (c.as_slice.ensures.members ∙ c.variables.ensures.variables)) ∙ sym (all_added-append taken own rest)
    ∙ ap (λ xss. all_added taken (flat_map (λ (xs : List (List ℕ)). xs) xss)) (sym (from_here rows i own there (get_or_any rows i [] own there)))
    ∙ c.loop-unit.invariant

pub returns : goal.returns
returns c =
    let k = c.args.checked.now in
    let rows = k.variables in
    let i = c.loop-unit.unit in
    let many : length c.units_of-count.result.now ≡ length rows = ap length c.units_of-count.ensures.units ∙ sym (variables_each k c.units_of-count.ensures.facts) in
    let past : length rows ≤ i = subst (λ n. n ≤ i) many c.loop-unit-test.false in
    record { names = sym (ap (λ xss. all_added c.loop-unit.taken (flat_map (λ (xs : List (List ℕ)). xs) xss)) (drop_all i rows past)) ∙ c.loop-unit.invariant }
