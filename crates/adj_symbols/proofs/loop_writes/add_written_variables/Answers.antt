use Rattle.std.proofs.Common.{ap, ◌∙◌, map, []}
use Rattle.adj_tree.specs.View.{procedure_of, code_of}
use Rattle.def_meaning.specs.LeastSet.{row_of}
use Rattle.def_names.specs.Fault.{first_of, sooner}
use Rattle.adj_symbols.specs.Opening.{open_faults}
use Rattle.adj_symbols.specs.Writes.{writes_one}
use Rattle.adj_symbols.proofs.Meeting.{none_open}
use Rattle.adj_symbols.proofs.Opening.{none_listed}
use Rattle.adj_symbols.proofs.loop_writes.add_written_variables.Goals as goal

pub returns : goal.returns
returns c =
    let h = row_of (map procedure_of c.args.scope.now) c.args.written.now in
    let f0 = c.args.first.now in
    c.in_ok-add_list.ensures.faults
    ∙ (λ i. sooner f0 (first_of (open_faults h (writes_one h (c.in_ok-opened.ensures.empty i)) (code_of (c.unit.ensures.unit i).body))))
    ∙ ap (sooner f0) (none_listed h (writes_one h []) (none_open h) (code_of c.args.outline.now.body))
