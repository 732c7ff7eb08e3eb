use Rattle.std.proofs.Common.{◌≡◌, map, length, filter, ap, subst, ◌∙◌}
use Rattle.adj_tree.specs.View.{procedures_of}
use Rattle.def_jacobian.specs.Patterns.{pattern_run}
use Rattle.def_jacobian.specs.Recovered.{places}
use Rattle.adj_interp.specs.Concludes.{slot_seen}
use Rattle.adj_interp.specs.Inputs.{entry_seen}
use Rattle.adj_jacobian_groups.specs.View.{place_of, rows_of}
use Rattle.adj_jacobian.specs.Lists.{is_open, woven}
use Rattle.adj_jacobian.specs.Ends.{task_on, WholeRows}
use Rattle.adj_jacobian.proofs.Listing.{pattern_whole}
use Rattle.adj_jacobian.proofs.patterns.pattern.Goals as goal

pub returns : goal.returns
returns c = λ u at.
    let input = map slot_seen c.args.input.now in
    let outvars = c.args.head.now.outvars in
    let p = task_on (procedures_of c.args.program.now.program) u c.args.head.now.vars input c.args.budget in
    let total = length c.as_slice-columns.result.now in
    let slots = map entry_seen c.in_ok-slots.slots.items in
    let others = rows_of c.in_ok-others.others.items in
    let kept = c.as_slice-kept.ensures.value in
    let columns : map place_of c.in_ok-cols.cols ≡ places c.args.head.now.vars input 0 = c.in_ok-cols.ensures ∙ ap (λ fs. places fs input 0) c.as_slice-vars.ensures.members in
    let cells : map place_of c.as_slice-dependents.result.now ≡ places outvars input 0 =
    ap (map place_of) c.as_slice-dependents.ensures.members ∙ c.in_ok-cells.ensures ∙ ap (λ fs. places fs input 0) c.as_slice-outvars.ensures.members in
    let unlisted : map place_of c.as_slice-left.result.now ≡ filter (is_open slots) (places outvars input 0) =
    ap (map place_of) c.as_slice-left.ensures.value ∙ c.in_ok-unlisted.ensures ∙ (λ i. filter (is_open (map entry_seen (kept i))) (cells i)) in
    let rows : rows_of c.in_ok-rows.rows.items ≡ woven slots (places outvars input 0) others = c.in_ok-rows.ensures ∙ (λ i. woven (map entry_seen (kept i)) (cells i) others) in
    pattern_whole p outvars _ total slots others columns (ap length c.as_slice-columns.ensures.members) (c.in_ok-slots.ensures u at)
    (subst (λ cs. WholeRows total cs (pattern_run p) others) unlisted (c.in_ok-others.ensures u at))
    (ap rows_of c.new.ensures.members ∙ rows)
