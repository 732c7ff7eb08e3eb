use Rattle.std.proofs.Common.{◌≡◌, ◌<◌, length, sym, ap, subst, ◌∙◌, slice_get}
use Rattle.adj_tree.specs.View.{procedures_of}
use Rattle.adj_tree.specs.declared.marks.Head.{Head}
use Rattle.def_names.specs.HeadFaults.{unit_number}
use Rattle.adj_tool_answer.proofs.Heads.{located, inside}
use Rattle.adj_tool_check.proofs.emitted.number_of.Goals as goal

pub returns-in-Ok-clause-there : goal.returns-in-Ok-clause-there
returns-in-Ok-clause-there c =
    let ps = procedures_of c.args.program.now.program in
    let name = c.args.name.now in
    let number : c.in-Ok.found.unit ≡ unit_number ps name = ap (λ (h : Head). h.unit) c.in-Ok.ensures.head in
    subst (λ n. n < length ps) (sym number) (inside ps name c.requires)

pub returns-in-Ok-clause-found : goal.returns-in-Ok-clause-found
returns-in-Ok-clause-found c =
    let ps = procedures_of c.args.program.now.program in
    let name = c.args.name.now in
    let number : c.in-Ok.found.unit ≡ unit_number ps name = ap (λ (h : Head). h.unit) c.in-Ok.ensures.head in
    located ps name c.requires ∙ ap (slice_get ps) (sym number)
