use Rattle.std.proofs.Common.{◌≡◌, ◌<◌, length, sym, ap, subst, ◌∙◌, slice_get}
use Rattle.adj_tree.specs.View.{procedures_of}
use Rattle.adj_tree.specs.declared.marks.Head.{Head}
use Rattle.def_names.specs.HeadFaults.{unit_number}
use Rattle.adj_tool_jacobian.proofs.Heads.{located, inside}
use Rattle.adj_tool_jacobian.proofs.answering.answer_checked.Goals as goal

pub answer_head-requires-clause-is_head : goal.answer_head-requires-clause-is_head
answer_head-requires-clause-is_head c =
    let ps = procedures_of c.args.checked.now.program in
    let name = c.args.request.now.head in
    let number : c.in-Ok.head.unit ≡ unit_number ps name = ap (λ (h : Head). h.unit) c.in-Ok.ensures.head in
    located ps name c.as_slice.result.now c.as_slice-2.result.now c.in-Ok.ensures.none ∙ ap (slice_get ps) (sym number)

pub answer_head-requires-clause-there : goal.answer_head-requires-clause-there
answer_head-requires-clause-there c =
    let ps = procedures_of c.args.checked.now.program in
    let name = c.args.request.now.head in
    let number : c.in-Ok.head.unit ≡ unit_number ps name = ap (λ (h : Head). h.unit) c.in-Ok.ensures.head in
    subst (λ n. n < length ps) (sym number) (inside ps name c.as_slice.result.now c.as_slice-2.result.now c.in-Ok.ensures.none)
