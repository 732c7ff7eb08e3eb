use Rattle.std.proofs.Common.{◌≡◌, ◌<◌, ◌++◌, length, take, drop, ap, ◌∙◌, arith}
use Rattle.std.proofs.lemmas.List.{take_at}
use Rattle.adj_reach.specs.Edges.{flag}
use Rattle.adj_jacobian.proofs.Flagging.{one_flagged}
use Rattle.adj_jacobian.proofs.directions.flags_of.Goals as goal

pub loop-column-preserved : goal.loop-column-preserved
loop-column-preserved c =
    let flags = c.loop-column.flags.items in
    let new = c.flag_dummy.new.flags in
    let old = c.as_mut_slice.result.now in
    let same = c.as_mut_slice.ensures.value in
    let kept : take c.loop-column.flags.len (new ++ drop (length new) flags) ≡ new = take_at new (drop (length new) flags) c.loop-column.flags.len (c.flag_dummy.ensures.count ∙ c.as_mut_slice.ensures.len) in
    record {
      count = ap length kept ∙ c.flag_dummy.ensures.count ∙ ap length same ∙ c.loop-column.invariant.count;
      flagged = λ i lt.
          let within : i < length old = omega (arith, lt, ap length same, c.loop-column.invariant.count) in
          ap (λ fs. flag fs i) kept
          ∙ one_flagged c.args.columns.now c.loop-column.column-index i _ new old c.loop-column-test.true (c.flag_dummy.ensures.flagged i within) (ap (λ fs. flag fs i) same ∙ c.loop-column.invariant.flagged i lt);
    }
