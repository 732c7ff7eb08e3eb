use Rattle.std.proofs.Common.{rules, ◌≡◌, true, false, sym, ap, ◌∙◌, subst}
use Rattle.std.specs.Prelude.{IfOk}
use Rattle.std.proofs.lemmas.Option.{slice_get_within}
use Rattle.std.proofs.lemmas.Result.{IfOk-weaker}
use Rattle.adj_tree.specs.View.{procedures_of}
use Rattle.def_names.specs.HeadFaults.{unit_number}
use Rattle.def_text.specs.declared.mode.Mode.TheVariants.{Source}
use Rattle.def_names.specs.Fault.{source_rules}
use Rattle.law_kernel.specs.Sound.{IsAccepted}
use Rattle.def_kernel.specs.Stepped.{kernel_of}
use Rattle.adj_symbols.specs.Numbers.{Fits}
use Rattle.adj_tool_answer.specs.Views.{answer_of}
use Rattle.adj_tool_answer.specs.EndingViews.{asked_of}
use Rattle.adj_tool_check.specs.Emitted.{IsEmittedFor}
use Rattle.adj_tool.specs.Check.{Fitted, IsChecked}
use Rattle.adj_tool.specs.Fitting.{kernel_fits}
use Rattle.adj_tool.specs.Planned.{IsKnownFor}
use Rattle.adj_tool_answer.proofs.BlocksKept.{blocks_kept}
use Rattle.adj_tool.proofs.Checks as checks
use Rattle.adj_tool.proofs.Heads.{lines_apart, head_there, kernel_head, in_kernel_form, for_kernel, fits_known}
use Rattle.adj_tool.proofs.checking.answer_head.Goals as goal

pub checked_kernel-requires : goal.checked_kernel-requires
checked_kernel-requires c =
    let moved = ap procedures_of c.program.ensures.program in
    record { accepted = subst IsAccepted (sym moved) (record { written = c.program.ensures.facts.written; sound = c.requires.sound }) }

pub known-requires-clause-head : goal.known-requires-clause-head
known-requires-clause-head c =
    let ps = procedures_of c.args.program.now.program in
    let r = c.args.request.now in
    let lowered = c.in_ok-kernel.ensures.kernel ∙ ap (λ q. kernel_of (procedures_of q)) c.program.ensures.program in
    kernel_head ps c.in_ok-kernel.kernel.program lowered r.run.head (head_there ps r.run.head r.vars r.outvars c.requires.sound_head) c.unit_number.result
    (c.unit_number.ensures ∙ ap (λ q. unit_number (procedures_of q) r.run.head) c.program-2.ensures.program)

pub known-requires-clause-kernel : goal.known-requires-clause-kernel
known-requires-clause-kernel c =
    let ps = procedures_of c.args.program.now.program in
    let lowered = c.in_ok-kernel.ensures.kernel ∙ ap (λ q. kernel_of (procedures_of q)) c.program.ensures.program in
    in_kernel_form ps c.in_ok-kernel.kernel.program lowered (record { written = c.program.ensures.facts.written; sound = c.requires.sound })

pub check_answer-requires-clause-there : goal.check_answer-requires-clause-there
check_answer-requires-clause-there c =
    let ps = procedures_of c.args.program.now.program in
    let r = c.args.request.now in
    let h = c.args.head in
    slice_get_within ps h.unit (head_there ps r.run.head r.vars r.outvars c.requires.sound_head).unit (checks.unit_at ps r.run.head r.vars r.outvars c.requires.sound_head h c.requires.head)

pub check_answer-requires-clause-vars : goal.check_answer-requires-clause-vars
check_answer-requires-clause-vars c = let r = c.args.request.now in checks.many_vars (procedures_of c.args.program.now.program) r.run.head r.vars r.outvars c.requires.sound_head c.args.head c.requires.head

pub check_answer-requires-clause-outvars : goal.check_answer-requires-clause-outvars
check_answer-requires-clause-outvars c = let r = c.args.request.now in checks.many_outvars (procedures_of c.args.program.now.program) r.run.head r.vars r.outvars c.requires.sound_head c.args.head c.requires.head

pub check_answer-requires-clause-found : goal.check_answer-requires-clause-found
check_answer-requires-clause-found c = let r = c.args.request.now in checks.named_there (procedures_of c.args.program.now.program) r.run.head r.vars r.outvars c.requires.sound_head c.args.head c.requires.head

pub check_answer-requires-clause-emitted : goal.check_answer-requires-clause-emitted
check_answer-requires-clause-emitted c = λ v at.
    let ps = procedures_of c.args.program.now.program in
    let r = c.args.request.now in
    let h = c.args.head in
    let accepted : IsAccepted ps = record { written = c.program.ensures.facts.written; sound = c.requires.sound } in
    let there = head_there ps r.run.head r.vars r.outvars c.requires.sound_head in
    let lowered = c.in_ok-kernel.ensures.kernel ∙ ap (λ q. kernel_of (procedures_of q)) c.program.ensures.program in
    let e = c.in_ok-emitted.emitted in
    let own = for_kernel ps c.in_ok-kernel.kernel.program lowered (λ us k. IsKnownFor c.args.splits.now us k (procedures_of e.program) e.adjoint e.shadowed) r.run.head c.unit_number.result
    (c.unit_number.ensures ∙ ap (λ q. unit_number (procedures_of q) r.run.head) c.program-2.ensures.program) h.vars h.outvars c.in_ok-emitted.ensures.known in
    let fits : kernel_fits (kernel_of ps) ≡ true = search rules in
    let x = checks.emitted_for c.args.splits.now ps r.run.head h accepted (procedures_of e.program) e.adjoint e.shadowed own (lines_apart c.args.bytes.now ps c.requires.few c.requires.reads) there.unit there.found c.emitted_law.ensures.reversed_runnable fits c.args.bytes.now c.requires.given in
    subst (λ n. IsEmittedFor ps n h.vars h.outvars (procedures_of e.program) e.adjoint e.shadowed) (sym (checks.name_is ps r.run.head r.vars r.outvars c.requires.sound_head h c.requires.head v at)) x

pub returns-then-not-fits-clause-answer : goal.returns-then-not-fits-clause-answer
returns-then-not-fits-clause-answer c =
    let ps = procedures_of c.args.program.now.program in
    let r = c.args.request.now in
    let large : kernel_fits (kernel_of ps) ≡ false = search rules in
    subst (λ b. IfOk c.too_large.result (λ a. Fitted b (IsChecked c.args.splits.now ps c.args.head (asked_of r.run) c.args.bytes.now (answer_of a)) (answer_of a))) (sym large) c.too_large.ensures

pub returns-then-not-fits-clause-written : goal.returns-then-not-fits-clause-written
returns-then-not-fits-clause-written c =
    let ps = procedures_of c.args.program.now.program in
    let large : kernel_fits (kernel_of ps) ≡ false = search rules in
    IfOk-weaker c.too_large.result _ _ (λ a is. λ fits. absurd (let both : false ≡ true = sym large ∙ fits in cc)) c.too_large.ensures

pub returns-clause-written : goal.returns-clause-written
returns-clause-written c = λ fits.
    let ps = procedures_of c.args.program.now.program in
    let r = c.args.request.now in
    let h = c.args.head in
    let accepted : IsAccepted ps = record { written = c.program.ensures.facts.written; sound = c.requires.sound } in
    let there = head_there ps r.run.head r.vars r.outvars c.requires.sound_head in
    let lowered = c.in_ok-kernel.ensures.kernel ∙ ap (λ q. kernel_of (procedures_of q)) c.program.ensures.program in
    let e = c.in_ok-emitted.emitted in
    let own = for_kernel ps c.in_ok-kernel.kernel.program lowered (λ us k. IsKnownFor c.args.splits.now us k (procedures_of e.program) e.adjoint e.shadowed) r.run.head c.unit_number.result
    (c.unit_number.ensures ∙ ap (λ q. unit_number (procedures_of q) r.run.head) c.program-2.ensures.program) h.vars h.outvars c.in_ok-emitted.ensures.known in
    let apart = lines_apart c.args.bytes.now ps c.requires.few c.requires.reads in
    let x = checks.emitted_for c.args.splits.now ps r.run.head h accepted (procedures_of e.program) e.adjoint e.shadowed own apart there.unit there.found c.emitted_law.ensures.reversed_runnable fits c.args.bytes.now c.requires.given in
    let is = c.in_ok-answer.ensures.answer there.unit _ (checks.unit_at ps r.run.head r.vars r.outvars c.requires.sound_head h c.requires.head)
    (checks.adjoint_there c.args.splits.now ps r.run.head h accepted (procedures_of e.program) e.adjoint e.shadowed own apart there.unit there.found x.runnable) in
    checks.runs_written (asked_of r.run) r.vars r.outvars c.args.splits.now ps accepted c.program.ensures.facts.sound apart c.requires.sound_head h c.requires.head (procedures_of e.program) e.adjoint e.shadowed own x.runnable c.check_law.ensures.traps c.reading_law.ensures.program c.args.bytes.now (answer_of c.in_ok-answer.answer) is

pub returns-clause-answer : goal.returns-clause-answer
returns-clause-answer c =
    let ps = procedures_of c.args.program.now.program in
    let lowered = c.in_ok-kernel.ensures.kernel ∙ ap (λ q. kernel_of (procedures_of q)) c.program.ensures.program in
    let few : Fits c.in_ok-kernel.kernel = search rules in
    let fits = fits_known c.in_ok-kernel.kernel (kernel_of ps) lowered c.program-2.ensures.facts few in
    subst (λ b. Fitted b (IsChecked c.args.splits.now ps c.args.head (asked_of c.args.request.now.run) c.args.bytes.now (answer_of c.in_ok-answer.answer)) (answer_of c.in_ok-answer.answer)) (sym fits) (returns-clause-written c fits).checked

pub returns-clause-compared : goal.returns-clause-compared
returns-clause-compared c =
    let ps = procedures_of c.args.program.now.program in
    let r = c.args.request.now in
    let h = c.args.head in
    let accepted : IsAccepted ps = record { written = c.program.ensures.facts.written; sound = c.requires.sound } in
    let there = head_there ps r.run.head r.vars r.outvars c.requires.sound_head in
    let lowered = c.in_ok-kernel.ensures.kernel ∙ ap (λ q. kernel_of (procedures_of q)) c.program.ensures.program in
    let e = c.in_ok-emitted.emitted in
    let own = for_kernel ps c.in_ok-kernel.kernel.program lowered (λ us k. IsKnownFor c.args.splits.now us k (procedures_of e.program) e.adjoint e.shadowed) r.run.head c.unit_number.result
    (c.unit_number.ensures ∙ ap (λ q. unit_number (procedures_of q) r.run.head) c.program-2.ensures.program) h.vars h.outvars c.in_ok-emitted.ensures.known in
    let few : Fits c.in_ok-kernel.kernel = search rules in
    let fits = fits_known c.in_ok-kernel.kernel (kernel_of ps) lowered c.program-2.ensures.facts few in
    let apart = lines_apart c.args.bytes.now ps c.requires.few c.requires.reads in
    let x = checks.emitted_for c.args.splits.now ps r.run.head h accepted (procedures_of e.program) e.adjoint e.shadowed own apart there.unit there.found c.emitted_law.ensures.reversed_runnable fits c.args.bytes.now c.requires.given in
    let is = c.in_ok-answer.ensures.answer there.unit _ (checks.unit_at ps r.run.head r.vars r.outvars c.requires.sound_head h c.requires.head)
    (checks.adjoint_there c.args.splits.now ps r.run.head h accepted (procedures_of e.program) e.adjoint e.shadowed own apart there.unit there.found x.runnable) in
    checks.is_compared (asked_of r.run) r.vars r.outvars c.args.splits.now ps accepted c.program.ensures.facts.sound apart c.requires.sound_head h c.requires.head (procedures_of e.program) e.adjoint e.shadowed own x.runnable c.check_law.ensures.agrees c.args.bytes.now c.requires.reads (blocks_kept source_rules Source c.args.bytes.now ps c.requires.given c.requires.sound c.requires.reads) c.requires.splits (answer_of c.in_ok-answer.answer) is
