use Rattle.std.proofs.Common.{◌≡◌, List, [], Some, true, map, refl, sym, ap, subst, ◌∙◌}
use Rattle.std.specs.Prelude.{ℤ, Ok, Err}
use Rattle.std.proofs.lemmas.Result.{IfOk-weaker}
use Rattle.adj_tree.specs.View.{procedures_of}
use Rattle.def_meaning.specs.Log.{log_of}
use Rattle.def_meaning.specs.Numbers.{words, duals}
use Rattle.def_meaning.specs.Units.{Output, fits, run_unit}
use Rattle.def_sweep.specs.Tangents.{cells_of, with_direction}
use Rattle.adj_data.specs.Given.{slot_seen}
use Rattle.adj_interp.specs.Dually.{AreTangents, dual_slots}
use Rattle.adj_tool_answer.specs.Views.{answer_of}
use Rattle.adj_tool_answer.specs.EndingViews.{asked_of, stop_answer}
use Rattle.adj_tool_check.specs.Checking.{Sides, adjoint_run, adjoints_in, after, compared, dual_run, tangents_in}
use Rattle.adj_tool_check.specs.Ending.{EndsSo, TellsTangents}
use Rattle.adj_tool_check.specs.Ready.{SuitsHead, given_in, sides_of}
use Rattle.adj_tool_check.proofs.Duals.{are_tangents, duals_same}
use Rattle.adj_tool_check.proofs.Endings.{after_done, after_stop}
use Rattle.adj_tool_check.proofs.Heads.{unit_there}
use Rattle.adj_tool_check.proofs.checking.answer_dual.Goals as goal

pub run_dually-requires-clause-tangents : goal.run_dually-requires-clause-tangents
run_dually-requires-clause-tangents c =
    let ps = procedures_of c.args.original.program.now.program in
    let h = c.args.original.head.now in
    let u = unit_there ps h.unit c.requires.there in
    let p : Sides = record { source = ps; head = u.0; vars = h.vars; outvars = h.outvars; emitted = ps; adjoint = u.0; shadowed = h.vars } in
    let s = c.requires.suits p u.1 refl in
    subst (λ vs. AreTangents vs c.in_ok-tangents.tangents) (sym c.in_ok-inputs.ensures) (subst (AreTangents c.args.given.now.inputs) (sym c.in_ok-tangents.ensures) (are_tangents c.args.given.now.inputs c.args.given.now.tangents s.tangents))

pub run_dually-requires-clause-fits : goal.run_dually-requires-clause-fits
run_dually-requires-clause-fits c = λ u here.
    let ps = procedures_of c.args.original.program.now.program in
    let h = c.args.original.head.now in
    let p : Sides = record { source = ps; head = u; vars = h.vars; outvars = h.outvars; emitted = ps; adjoint = u; shadowed = h.vars } in
    ap (λ vs. fits words u (map slot_seen vs)) c.in_ok-inputs.ensures ∙ (c.requires.suits p here refl).fits

pub returns-in-Ok : goal.returns-in-Ok
returns-in-Ok c = λ u a here there.
    let r = asked_of c.args.request.now in
    let d = given_in c.args.given.now in
    let ps = procedures_of c.args.original.program.now.program in
    let p = sides_of ps u c.args.original.head.now c.args.emitted a in
    let outs = map slot_seen c.args.outputs.now in
    let input = (λ i. dual_slots (c.in_ok-inputs.ensures i) (c.in_ok-tangents.ensures i)) ∙ duals_same c.args.given.now.inputs c.args.given.now.tangents in
    let same : EndsSo TellsTangents r (dual_run r p d) (Ok c.in-Ok.ends) = subst (λ o. EndsSo TellsTangents r o (Ok c.in-Ok.ends)) (λ i. run_unit duals ps u (input i) [] (Some 0) r.budget) (c.in-Ok.ensures u here) in
    let last = λ (ts : List (List ℤ)) (back : Output ℤ). compared p d outs ts (adjoints_in p back) (log_of back.events).advances in
    let go = λ (dual : Output (ℤ × ℤ)). after r (adjoint_run r p d) (last (tangents_in dual)) in
    let given = λ (ts : List (List ℤ)). after r (adjoint_run r p d) (last ts) in
    IfOk-weaker c.answer_adjoint.result (λ x. answer_of x ≡ given (cells_of (map slot_seen c.as_slice.result.now))) (λ x. answer_of x ≡ after r (dual_run r p d) go)
    (λ x is. is ∙ (λ i. given (cells_of (map slot_seen (c.as_slice.ensures.members i)))) ∙ after_done TellsTangents r (dual_run r p d) c.in-Ok.ends same go (given (cells_of (map slot_seen c.in-Ok.ends))) (λ dual t. λ i. given (t i)))
    (c.answer_adjoint.ensures u a here there)

pub returns-in-Err : goal.returns-in-Err
returns-in-Err c = λ u a here there.
    let r = asked_of c.args.request.now in
    let d = given_in c.args.given.now in
    let ps = procedures_of c.args.original.program.now.program in
    let p = sides_of ps u c.args.original.head.now c.args.emitted a in
    let outs = map slot_seen c.args.outputs.now in
    let input = (λ i. dual_slots (c.in_ok-inputs.ensures i) (c.in_ok-tangents.ensures i)) ∙ duals_same c.args.given.now.inputs c.args.given.now.tangents in
    let same : EndsSo TellsTangents r (dual_run r p d) (Err c.in-Err.stop) = subst (λ o. EndsSo TellsTangents r o (Err c.in-Err.stop)) (λ i. run_unit duals ps u (input i) [] (Some 0) r.budget) (c.in-Err.ensures u here) in
    let go = λ (dual : Output (ℤ × ℤ)). after r (adjoint_run r p d) (λ (back : Output ℤ). compared p d outs (tangents_in dual) (adjoints_in p back) (log_of back.events).advances) in
    IfOk-weaker c.stopped.result (λ x. Some (answer_of x) ≡ stop_answer r c.in-Err.stop) (λ x. answer_of x ≡ after r (dual_run r p d) go)
    (λ x is. after_stop TellsTangents r (dual_run r p d) c.in-Err.stop same (answer_of x) is go) c.stopped.ensures
