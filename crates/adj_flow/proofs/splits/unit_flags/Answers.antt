use Rattle.std.proofs.Common.{◌≤◌, ◌+◌, ◌++◌, ◌∷◌, length, map, drop, sym, ap, ◌∙◌, append-nil, append_assoc, subst}
use Rattle.std.proofs.lemmas.List.{drop-map, drop_more, drop_all, length-map}
use Rattle.std.proofs.lemmas.List.Concat.{flat_map-cons}
use Rattle.adj_tree.specs.View.{code_of, procedure_of}
use Rattle.adj_reach.specs.Edges.{flag}
use Rattle.adj_flow.specs.SplitFlags.{flags_of, all_flags}
use Rattle.adj_flow.proofs.splits.unit_flags.Goals as goal

pub loop-unit-preserved : goal.loop-unit-preserved
loop-unit-preserved c =
    let marked = flag c.args.lines.now in
    let us = c.args.units.now in
    let i = c.loop-unit.unit-index in
    let u = c.unit-item.result in
    let made = c.loop-unit.flags.items in
    let rest = drop (i + 1) (map procedure_of us) in
    let here = drop-map procedure_of i us ∙ ap (map procedure_of) (drop_more us i u c.loop-unit-test.true ∙ ap (λ z. z ∷ drop (i + 1) us) (sym c.unit-item.is)) ∙ ap (λ z. procedure_of u ∷ z) (sym (drop-map procedure_of (i + 1) us)) in
    ap (λ z. z ++ all_flags marked rest) c.in_ok-add_list.ensures.added
    ∙ append_assoc made (flags_of marked (code_of u.body)) (all_flags marked rest)
    ∙ ap (λ z. made ++ z) (sym (flat_map-cons (λ v. flags_of marked v.body) (procedure_of u) rest))
    ∙ ap (λ z. made ++ all_flags marked z) (sym here)
    ∙ c.loop-unit.invariant

pub returns : goal.returns
returns c =
    let marked = flag c.args.lines.now in
    let us = c.args.units.now in
    let i = c.loop-unit.unit-index in
    let made = c.loop-unit.flags.items in
    let past : length (map procedure_of us) ≤ i = subst (λ n. n ≤ i) (sym (length-map us procedure_of)) c.loop-unit-test.false in
    record { flags = sym (append-nil made) ∙ ap (λ z. made ++ all_flags marked z) (sym (drop_all i (map procedure_of us) past)) ∙ c.loop-unit.invariant }
