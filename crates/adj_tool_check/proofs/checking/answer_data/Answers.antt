use Rattle.std.proofs.Common.{◌≡◌, List, [], Some, true, map, refl, sym, ap, subst, ◌∙◌}
use Rattle.std.specs.Prelude.{ℤ, is_some, Ok, Err}
use Rattle.std.proofs.lemmas.Result.{IfOk-weaker}
use Rattle.adj_tree.specs.View.{procedures_of}
use Rattle.def_meaning.specs.Log.{log_of}
use Rattle.def_meaning.specs.Numbers.{words}
use Rattle.def_meaning.specs.Units.{Slot, Output, fits, run_unit}
use Rattle.adj_data.specs.Given.{slot_seen}
use Rattle.adj_tool_answer.specs.Views.{answer_of}
use Rattle.adj_tool_answer.specs.EndingViews.{asked_of, stop_answer}
use Rattle.adj_tool_check.specs.Checking.{Sides, adjoint_run, adjoints_in, after, compared, dual_run, original_run, runs_answer, tangents_in}
use Rattle.adj_tool_check.specs.Ending.{EndsSo, TellsOutput}
use Rattle.adj_tool_check.specs.Ready.{SuitsHead, given_in, sides_of}
use Rattle.adj_tool_check.proofs.Agreeing.{balanced}
use Rattle.adj_tool_check.proofs.Endings.{after_done, after_stop, done_of}
use Rattle.adj_tool_check.proofs.Heads.{unit_there}
use Rattle.adj_tool_check.proofs.Readings.{adjoint_is, is_side}
use Rattle.adj_tool_check.proofs.checking.answer_data.Goals as goal

pub run_on-requires-clause-fits : goal.run_on-requires-clause-fits
run_on-requires-clause-fits c = λ u here.
    let ps = procedures_of c.args.original.program.now.program in
    let h = c.args.original.head.now in
    let p : Sides = record { source = ps; head = u; vars = h.vars; outvars = h.outvars; emitted = ps; adjoint = u; shadowed = h.vars } in
    ap (λ vs. fits words u (map slot_seen vs)) c.in_ok-inputs.ensures ∙ (c.requires.suits p here refl).fits

pub answer_dual-requires-clause-runnable : goal.answer_dual-requires-clause-runnable
answer_dual-requires-clause-runnable c =
    let u = unit_there (procedures_of c.args.original.program.now.program) c.args.original.head.now.unit c.requires.there in
    (c.requires.emitted u.0 u.1).runnable

pub answer_dual-requires-clause-adjoint : goal.answer_dual-requires-clause-adjoint
answer_dual-requires-clause-adjoint c =
    let ps = procedures_of c.args.original.program.now.program in
    let h = c.args.original.head.now in
    let u = unit_there ps h.unit c.requires.there in
    ap is_some (adjoint_is ps u.0 h c.args.emitted (c.requires.found u.0 u.1) (c.requires.emitted u.0 u.1))

pub answer_dual-requires-clause-fits : goal.answer_dual-requires-clause-fits
answer_dual-requires-clause-fits c = λ a there.
    let r = asked_of c.args.request.now in
    let d = given_in c.args.given.now in
    let ps = procedures_of c.args.original.program.now.program in
    let h = c.args.original.head.now in
    let u = unit_there ps h.unit c.requires.there in
    let p = sides_of ps u.0 h c.args.emitted a in
    let same : EndsSo TellsOutput r (original_run r p d) (Ok c.in-Ok.ended) = subst (λ o. EndsSo TellsOutput r o (Ok c.in-Ok.ended)) (λ i. run_unit words ps u.0 (map slot_seen (c.in_ok-inputs.ensures i)) [] (Some r.room) r.budget) (c.in-Ok.ensures u.0 u.1) in
    let done = done_of TellsOutput r (original_run r p d) c.in-Ok.ended same in
    (balanced p (is_side ps u.0 h c.args.emitted (c.requires.found u.0 u.1) (c.requires.emitted u.0 u.1) a there) d (c.requires.suits p u.1 refl) (Some r.room) r.budget done.1 done.0 done.2).fits

pub returns-in-Ok : goal.returns-in-Ok
returns-in-Ok c = λ u a here there.
    let r = asked_of c.args.request.now in
    let d = given_in c.args.given.now in
    let ps = procedures_of c.args.original.program.now.program in
    let p = sides_of ps u c.args.original.head.now c.args.emitted a in
    let same : EndsSo TellsOutput r (original_run r p d) (Ok c.in-Ok.ended) = subst (λ o. EndsSo TellsOutput r o (Ok c.in-Ok.ended)) (λ i. run_unit words ps u (map slot_seen (c.in_ok-inputs.ensures i)) [] (Some r.room) r.budget) (c.in-Ok.ensures u here) in
    let last = λ (outs : List (Slot ℤ)). after r (dual_run r p d) (λ dual. after r (adjoint_run r p d) (λ back. compared p d outs (tangents_in dual) (adjoints_in p back) (log_of back.events).advances)) in
    let outs : map slot_seen c.as_slice.result.now ≡ map slot_seen c.in-Ok.ended.values = ap (map slot_seen) c.as_slice.ensures.members in
    IfOk-weaker c.answer_dual.result (λ x. answer_of x ≡ last (map slot_seen c.as_slice.result.now)) (λ x. answer_of x ≡ runs_answer r p d)
    (λ x is. is ∙ ap last outs ∙ after_done TellsOutput r (original_run r p d) c.in-Ok.ended same (λ out. last out.slots) (last (map slot_seen c.in-Ok.ended.values)) (λ out t. ap last t.0))
    (c.answer_dual.ensures u a here there)

pub returns-in-Err : goal.returns-in-Err
returns-in-Err c = λ u a here there.
    let r = asked_of c.args.request.now in
    let d = given_in c.args.given.now in
    let ps = procedures_of c.args.original.program.now.program in
    let p = sides_of ps u c.args.original.head.now c.args.emitted a in
    let same : EndsSo TellsOutput r (original_run r p d) (Err c.in-Err.stop) = subst (λ o. EndsSo TellsOutput r o (Err c.in-Err.stop)) (λ i. run_unit words ps u (map slot_seen (c.in_ok-inputs.ensures i)) [] (Some r.room) r.budget) (c.in-Err.ensures u here) in
    let go = λ (out : Output ℤ). after r (dual_run r p d) (λ dual. after r (adjoint_run r p d) (λ back. compared p d out.slots (tangents_in dual) (adjoints_in p back) (log_of back.events).advances)) in
    IfOk-weaker c.stopped.result (λ x. Some (answer_of x) ≡ stop_answer r c.in-Err.stop) (λ x. answer_of x ≡ runs_answer r p d)
    (λ x is. after_stop TellsOutput r (original_run r p d) c.in-Err.stop same (answer_of x) is go) c.stopped.ensures
