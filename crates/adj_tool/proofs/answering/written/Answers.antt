use Rattle.std.proofs.Common.{rules, ◌≡◌, ◌∙◌, ap, sym, refl, subst, true, false}
use Rattle.std.specs.Prelude.{IfOk}
use Rattle.adj_tree.specs.View.{procedures_of}
use Rattle.def_names.specs.HeadFaults.{unit_number}
use Rattle.def_kernel.specs.Stepped.{kernel_of}
use Rattle.adj_tool_answer.specs.Answer.{Answer}
use Rattle.adj_tool_answer.specs.Views.{answer_of}
use Rattle.adj_tool.specs.Answer.{AnswersFitted}
use Rattle.adj_tool.specs.Fitting.{kernel_fits}
use Rattle.adj_tool.specs.Planned.{IsTextFor}
use Rattle.adj_tool.proofs.Heads.{kernel_head, in_kernel_form, for_kernel, text_given, text_reads}
use Rattle.adj_tool.proofs.answering.written.Goals as goal

pub text_wanted-requires-clause-head : goal.text_wanted-requires-clause-head
text_wanted-requires-clause-head c =
    kernel_head (procedures_of c.args.program.program) c.in_ok-kernel.kernel.program c.in_ok-kernel.ensures.kernel c.args.name.now c.requires.there c.unit_number-unit.result
    (c.unit_number-unit.ensures ∙ ap (λ q. unit_number (procedures_of q) c.args.name.now) c.program.ensures.program)

pub text_wanted-requires-clause-kernel : goal.text_wanted-requires-clause-kernel
text_wanted-requires-clause-kernel c = in_kernel_form (procedures_of c.args.program.program) c.in_ok-kernel.kernel.program c.in_ok-kernel.ensures.kernel c.requires.accepted

pub returns-then-not-fits-clause-answer : goal.returns-then-not-fits-clause-answer
returns-then-not-fits-clause-answer c =
    let ps = procedures_of c.args.program.program in
    let large : kernel_fits (kernel_of ps) ≡ false = search rules in
    subst (λ b. IfOk c.too_large.result (λ a. AnswersFitted b c.args.wanted c.args.splits.now ps c.args.name.now c.args.head (answer_of a))) (sym large) c.too_large.ensures

pub returns-clause-answer : goal.returns-clause-answer
returns-clause-answer c =
    let ps = procedures_of c.args.program.program in
    let h = c.args.head in
    let w = c.args.wanted in
    let text = c.in_ok-text.text.items in
    let is = c.unit_number-unit.ensures ∙ ap (λ q. unit_number (procedures_of q) c.args.name.now) c.program.ensures.program in
    let x = for_kernel ps c.in_ok-kernel.kernel.program c.in_ok-kernel.ensures.kernel (λ us k. IsTextFor w c.args.splits.now us k text) c.args.name.now c.unit_number-unit.result is h.vars h.outvars c.in_ok-text.ensures.text in
    let a : Answer = record { status = 0; text = c.in_ok-text.text.items } in
    let fits : kernel_fits (kernel_of ps) ≡ true = search rules in
    subst (λ b. AnswersFitted b w c.args.splits.now ps c.args.name.now h a) (sym fits) (text_given c.args.splits.now ps c.args.name.now h c.requires.accepted w text x a refl refl)

pub returns-clause-reads_back : goal.returns-clause-reads_back
returns-clause-reads_back c =
    let ps = procedures_of c.args.program.program in
    let h = c.args.head in
    let w = c.args.wanted in
    let text = c.in_ok-text.text.items in
    let is = c.unit_number-unit.ensures ∙ ap (λ q. unit_number (procedures_of q) c.args.name.now) c.program.ensures.program in
    let x = for_kernel ps c.in_ok-kernel.kernel.program c.in_ok-kernel.ensures.kernel (λ us k. IsTextFor w c.args.splits.now us k text) c.args.name.now c.unit_number-unit.result is h.vars h.outvars c.in_ok-text.ensures.text in
    let fits : kernel_fits (kernel_of ps) ≡ true = search rules in
    λ done. text_reads c.args.splits.now ps c.args.name.now h c.requires.accepted fits w text x
