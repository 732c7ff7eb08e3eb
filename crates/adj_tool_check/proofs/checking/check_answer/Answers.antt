use Rattle.std.proofs.Common.{◌≡◌, Some, None, map, refl, sym, ap, subst, ◌∙◌, slice_get, take, drop, length, ◌-◌}
use Rattle.std.proofs.lemmas.List.{take_rest}
use Rattle.std.proofs.lemmas.Result.{IfOk-weaker}
use Rattle.adj_tree.specs.Code.{Procedure}
use Rattle.adj_tree.specs.View.{procedure_of, procedures_of}
use Rattle.adj_data.specs.Given.{IsFirstFault, slot_seen}
use Rattle.adj_data.specs.Marked.{check_fault, inputs_given, tangents_given, adjoints_given}
use Rattle.adj_tool_answer.specs.Views.{answer_of}
use Rattle.adj_tool_answer.specs.EndingViews.{asked_of, error_answer}
use Rattle.adj_tool_answer.proofs.Heads.{stands_at}
use Rattle.adj_tool_answer.proofs.Sized.{sized}
use Rattle.adj_tool_check.specs.Checking.{Given, Sides, check_answer, given_by, runs_answer}
use Rattle.adj_tool_check.specs.Ready.{SuitsHead, sides_of}
use Rattle.adj_tool_check.proofs.Data.{bad_given, good_given}
use Rattle.adj_tool_check.proofs.Suits.{suits}
use Rattle.adj_tool_check.proofs.checking.check_answer.Goals as goal

pub check_values-requires-clause-vars : goal.check_values-requires-clause-vars
check_values-requires-clause-vars c =
    let ps = procedures_of c.args.program.now.program in
    let us = c.as_slice.result.now in
    let v = c.index-as_slice-head.result in
    let same : map procedure_of us ≡ ps = ap (map procedure_of) c.as_slice.ensures.members ∙ ap procedures_of c.program.ensures.program in
    c.requires.vars (procedure_of v) (stands_at ps us same c.args.head.now.unit v c.requires.there c.index-as_slice-head.is)

pub check_values-requires-clause-outvars : goal.check_values-requires-clause-outvars
check_values-requires-clause-outvars c =
    let ps = procedures_of c.args.program.now.program in
    let us = c.as_slice.result.now in
    let v = c.index-as_slice-head.result in
    let same : map procedure_of us ≡ ps = ap (map procedure_of) c.as_slice.ensures.members ∙ ap procedures_of c.program.ensures.program in
    c.requires.outvars (procedure_of v) (stands_at ps us same c.args.head.now.unit v c.requires.there c.index-as_slice-head.is)

pub answer_data-requires-clause-suits : goal.answer_data-requires-clause-suits
answer_data-requires-clause-suits c = λ p here vars.
    let ps = procedures_of c.args.program.now.program in
    let h = c.args.head.now in
    let us = c.as_slice.result.now in
    let v = c.index-as_slice-head.result in
    let line = c.data_part-start.result.1 in
    let given = take (length c.args.bytes.now - c.data_part-start.result.0) (drop c.data_part-start.result.0 c.args.bytes.now) in
    let same : map procedure_of us ≡ ps = ap (map procedure_of) c.as_slice.ensures.members ∙ ap procedures_of c.program.ensures.program in
    let both : Some (procedure_of v) ≡ Some p.head = sym (stands_at ps us same h.unit v c.requires.there c.index-as_slice-head.is) ∙ here in
    let is : procedure_of v ≡ p.head = cc in
    let q : Sides = record p { outvars = h.outvars } in
    let none : check_fault line given p.head p.vars h.outvars ≡ None = (λ i. check_fault line given (sym is i) (vars i) h.outvars) ∙ c.in-Ok.ensures.accepted in
    let s = suits q (sized ps c.program.ensures.facts.written c.program.ensures.facts.sound h.unit p.head here) (ap length vars ∙ c.requires.vars p.head here) (c.requires.outvars p.head here) line given none in
    let d : Given = record { inputs = map slot_seen c.in-Ok.inputs; tangents = map slot_seen c.in-Ok.tangents; adjoints = map slot_seen c.in-Ok.adjoints } in
    let moved : given_by q line given ≡ d = (λ i. record {
      inputs = (sym (c.in-Ok.ensures.inputs ∙ ap (inputs_given line given) is)) i;
      tangents = (sym (c.in-Ok.ensures.tangents ∙ (λ j. tangents_given line given (is j) (sym vars j)))) i;
      adjoints = (sym (c.in-Ok.ensures.adjoints ∙ ap (λ (w : Procedure). adjoints_given line given w h.outvars) is)) i;
    }) in
    let t = subst (SuitsHead q) moved s in
    record { fits = t.fits; adjoints = t.adjoints; tangents = t.tangents; along = t.along }

pub returns-in-Ok : goal.returns-in-Ok
returns-in-Ok c = record {
  answer = λ u a here there.
      let r = asked_of c.args.request.now in
      let ps = procedures_of c.args.program.now.program in
      let h = c.args.head.now in
      let p = sides_of ps u h c.args.emitted a in
      let us = c.as_slice.result.now in
      let v = c.index-as_slice-head.result in
      let line = c.data_part-start.result.1 in
      let given = take (length c.args.bytes.now - c.data_part-start.result.0) (drop c.data_part-start.result.0 c.args.bytes.now) in
      let same : map procedure_of us ≡ ps = ap (map procedure_of) c.as_slice.ensures.members ∙ ap procedures_of c.program.ensures.program in
      let both : Some (procedure_of v) ≡ Some u = sym (stands_at ps us same h.unit v c.requires.there c.index-as_slice-head.is) ∙ here in
      let is : procedure_of v ≡ u = cc in
      let d : Given = record { inputs = map slot_seen c.in-Ok.inputs; tangents = map slot_seen c.in-Ok.tangents; adjoints = map slot_seen c.in-Ok.adjoints } in
      let none : check_fault line given u h.vars h.outvars ≡ None = ap (λ w. check_fault line given w h.vars h.outvars) (sym is) ∙ c.in-Ok.ensures.accepted in
      let are : d ≡ given_by p line given = (λ i. record {
        inputs = (c.in-Ok.ensures.inputs ∙ ap (inputs_given line given) is) i;
        tangents = (c.in-Ok.ensures.tangents ∙ ap (λ (w : Procedure). tangents_given line given w h.vars) is) i;
        adjoints = (c.in-Ok.ensures.adjoints ∙ ap (λ (w : Procedure). adjoints_given line given w h.outvars) is) i;
      }) in
      let all = good_given r p c.args.bytes.now c.data_part-start.result c.data_part-start.ensures given (take_rest c.args.bytes.now c.data_part-start.result.0) d none are in
      IfOk-weaker c.answer_data.result (λ x. answer_of x ≡ runs_answer r p d) (λ x. answer_of x ≡ check_answer r p c.args.bytes.now) (λ x e. e ∙ all) (c.answer_data.ensures u a here there);
}

pub returns-in-Err : goal.returns-in-Err
returns-in-Err c = record {
  answer = λ u a here there.
      let r = asked_of c.args.request.now in
      let ps = procedures_of c.args.program.now.program in
      let h = c.args.head.now in
      let p = sides_of ps u h c.args.emitted a in
      let us = c.as_slice.result.now in
      let v = c.index-as_slice-head.result in
      let line = c.data_part-start.result.1 in
      let given = take (length c.args.bytes.now - c.data_part-start.result.0) (drop c.data_part-start.result.0 c.args.bytes.now) in
      let same : map procedure_of us ≡ ps = ap (map procedure_of) c.as_slice.ensures.members ∙ ap procedures_of c.program.ensures.program in
      let both : Some (procedure_of v) ≡ Some u = sym (stands_at ps us same h.unit v c.requires.there c.index-as_slice-head.is) ∙ here in
      let is : procedure_of v ≡ u = cc in
      let fault = subst (λ w. IsFirstFault c.in-Err.error (check_fault line given w h.vars h.outvars)) is c.in-Err.ensures.fault in
      IfOk-weaker c.no_input.result (λ x. Some (answer_of x) ≡ error_answer c.in-Err.error) (λ x. answer_of x ≡ check_answer r p c.args.bytes.now)
      (λ x e. bad_given r p c.args.bytes.now c.data_part-start.result c.data_part-start.ensures given (take_rest c.args.bytes.now c.data_part-start.result.0) c.in-Err.error fault (answer_of x) e) c.no_input.ensures;
}
