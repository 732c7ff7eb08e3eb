use Rattle.std.proofs.Common.{◌≡◌, ◌+◌, ◌<◌, map, length, ap, ◌∙◌, arith}
use Rattle.std.proofs.lemmas.List.{length-map}
use Rattle.std.proofs.lemmas.Result.{IfOk-weaker}
use Rattle.def_jacobian.specs.Groups.{seed}
use Rattle.def_jacobian.specs.Inputs.{tangents}
use Rattle.def_jacobian.specs.Recovered.{places}
use Rattle.adj_interp.specs.Concludes.{slot_seen}
use Rattle.adj_jacobian_groups.specs.View.{place_of}
use Rattle.adj_jacobian.specs.Walks.{has_dummy, still_tangent}
use Rattle.adj_jacobian.proofs.Flagging.{same_flags}
use Rattle.adj_jacobian.proofs.directions.seeds.Goals as goal

pub returns : goal.returns
returns c =
    let input = map slot_seen c.args.input.now in
    let t = seed c.args.grouping.now.group c.args.group in
    IfOk-weaker c.directed.result (λ v. map slot_seen v ≡ tangents (seed c.as_slice-groups.result.now c.args.group) c.as_slice-vars.result.now input) _
    (λ v e vars at.
    e ∙ (λ i. tangents (seed (c.as_slice-groups.ensures.members i) c.args.group) (c.as_slice-vars.ensures.value i) input)
    ∙ same_flags still_tangent (λ z j. t j) input c.in_ok-flags.flags.items vars 0 0
    (λ d lt.
    c.in_ok-flags.ensures.flagged d (let few : d < length c.args.input.now = omega (arith, lt, length-map c.args.input.now slot_seen) in few)
    ∙ ap (λ cs. has_dummy (map place_of cs) d) c.as_slice-columns.ensures.members
    ∙ ap (λ ps. has_dummy ps d) at
    ∙ ap (has_dummy (places vars input 0)) (let e : d ≡ 0 + d = omega arith in e)))
    c.directed.ensures
