use Rattle.std.proofs.Common.{◌≡◌, ap, sym, ◌∙◌, map, min, length, arith}
use Rattle.std.proofs.lemmas.List.{length-map}
use Rattle.adj_tree.specs.View.{procedure_of}
use Rattle.def_names.specs.Calls.{chain_within}
use Rattle.adj_symbols.specs.Chain.{length_of, longer}
use Rattle.adj_symbols.proofs.Lengths.{no_lengths, round_more, rounds_enough}
use Rattle.adj_symbols.proofs.chains.all_lengths.Goals as goal

pub loop-step-init : goal.loop-step-init
loop-step-init c x =
    let ps = map procedure_of c.args.scope.now in
    ap (min c.args.limit) (no_lengths ps c.new-lengths.result.items x c.new-lengths.ensures.items)

pub loop-step-preserved : goal.loop-step-preserved
loop-step-preserved c =
    let ps = map procedure_of c.args.scope.now in
    round_more ps c.args.limit c.loop-step._step c.loop-step.lengths.items c.in_ok-lengths.lengths.items
    (c.in_ok-lengths.ensures ∙ ap (λ z. map (longer c.args.limit (length_of ps z)) ps) c.as_slice.ensures.value) c.loop-step.invariant

pub returns : goal.returns
returns c x =
    let ps = map procedure_of c.args.scope.now in
    let units : c.fewer-rounds.result ≡ min c.args.limit (length ps) = c.fewer-rounds.ensures ∙ ap (λ us. min c.args.limit (length us)) c.outlines.ensures.outlines ∙ ap (min c.args.limit) (sym (length-map c.args.scope.now procedure_of)) in
    let n : c.loop-step._step ≡ min c.args.limit (length ps) = omega (arith, units, c.loop-step.auto._step-end, c.loop-step-test.false) in
    c.loop-step.invariant x ∙ ap (λ k. min c.args.limit (chain_within ps k x)) n ∙ rounds_enough ps c.args.limit x
