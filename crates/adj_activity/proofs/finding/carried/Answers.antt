-- What the flags tell is what carries a tangent.
use Rattle.std.proofs.Common.{List, Bool, ◌≡◌, map, get_or, ap, ◌∙◌}
use Rattle.std.specs.Borrow.{Bor}
use Rattle.adj_flow.specs.Rows.{row_of}
use Rattle.adj_reach.specs.Edges.{flag}
use Rattle.adj_flow.specs.Asked.{units_of, variables_of, problem_of}
use Rattle.adj_flow.specs.Told.{told}
use Rattle.adj_flow.specs.Scoped.{scope_by}
use Rattle.adj_flow.proofs.UnitNumbers.{flow_numbered}
use Rattle.adj_activity.proofs.Answering.{same_lengths, row_there, told_carrying}
use Rattle.adj_activity.proofs.finding.carried.Goals as goal

pub steps_of_flow-requires : goal.steps_of_flow-requires
steps_of_flow-requires c = flow_numbered c.args.flow.now c.args.head.now.unit c.requires.flow

pub varied-requires-clause-flow : goal.varied-requires-clause-flow
varied-requires-clause-flow c = flow_numbered c.args.flow.now c.args.head.now.unit c.requires.flow

pub returns : goal.returns
returns c =
    let fl = c.args.flow.now in
    let hd = c.args.head.now in
    let is = c.requires.flow in
    let rs = map row_of fl.parts.items in
    let w = fl.width in
    let part = c.index-as_slice-head.result in
    let r = row_of part in
    let row : row_of c.index-as_slice-head.result ≡ get_or (map row_of c.args.flow.now.parts.items) c.args.head.now.unit (row_of c.index-as_slice-head.result) =
    row_there c.args.flow.now c.args.head.now.unit c.index-as_slice-head.result (c.index-as_slice-head.is ∙ ap (λ z. get_or z c.args.head.now.unit c.index-as_slice-head.result) c.as_slice.ensures.value) in
    let varied : Bor (List Bool) = record { ref_ptr = c.args.flow.ref_ptr; now = c.in_ok-varied.varied } in
    record {
      carried = record {
        varied = told c.in_ok-varied.varied (scope_by (variables_of fl) (flag fl.taking) (units_of fl)) w;
        carrying = told_carrying (problem_of fl hd) (variables_of fl) fl.numbers fl.taking w is.numbers is.taking (same_lengths fl) is.width is.variables rs is.rows r varied c.in_ok-carried.carried c.in_ok-varied.ensures.varied c.in_ok-carried.ensures.shadowed is.head row;
      };
    }
