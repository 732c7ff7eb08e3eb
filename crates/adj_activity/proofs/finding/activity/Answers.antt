-- What the flags tell is the activity.
use Rattle.std.proofs.Common.{◌≡◌, ◌+◌, ◌*◌, arith, ◌↔◌, ◌++◌, ℕ, map, get_or, sym, ap, subst, ◌∙◌}
use Rattle.std.specs.Prelude.{IsTrue, Some}
use Rattle.def_flow.specs.Activity.{IsActivity}
use Rattle.adj_flow.specs.Rows.{row_of}
use Rattle.adj_reach.specs.Edges.{ReachedFrom, flag}
use Rattle.adj_flow.specs.Asked.{units_of, variables_of, problem_of}
use Rattle.adj_flow.specs.Told.{told, told_of}
use Rattle.adj_flow.specs.Scoped.{scope_by}
use Rattle.adj_flow.proofs.UnitNumbers.{flow_numbered}
use Rattle.adj_activity.specs.View.{shadows_listed}
use Rattle.adj_activity.specs.Starts.{point_nodes, all_active}
use Rattle.adj_activity.specs.declared.found.Found.{Found}
use Rattle.adj_activity.proofs.Answering.{same_lengths, row_there, told_activity}
use Rattle.adj_activity.proofs.finding.activity.Goals as goal

-- where a statement of a number stands among what has an adjoint
twice : (n : ℕ) → 2 * n ≡ n * 2 + 0
twice n = omega arith

pub flowing-requires : goal.flowing-requires
flowing-requires c = flow_numbered c.args.flow.now c.args.head.now.unit c.requires.flow

pub returns : goal.returns
returns c =
    let fl = c.args.flow.now in
    let hd = c.args.head.now in
    let is = c.requires.flow in
    let rs = map row_of fl.parts.items in
    let w = fl.width in
    let part = c.index-as_slice-head.result in
    let r = row_of part in
    let row : row_of c.index-as_slice-head.result ≡ get_or (map row_of c.args.flow.now.parts.items) c.args.head.now.unit (row_of c.index-as_slice-head.result) =
    row_there c.args.flow.now c.args.head.now.unit c.index-as_slice-head.result (c.index-as_slice-head.is ∙ ap (λ z. get_or z c.args.head.now.unit c.index-as_slice-head.result) c.as_slice.ensures.value) in
    let o = scope_by (variables_of fl) (flag fl.taking) (units_of fl) in
    let varied = c.in_ok-varied.varied in
    let useful = c.in_ok-varied.useful in
    let f : Found = record { varied = record { ref_ptr = c.args.flow.ref_ptr; now = varied }; useful = record { ref_ptr = c.args.flow.ref_ptr; now = useful }; shadowed = c.as_slice-2.result } in
    let s = c.as_slice-2.ensures.members in
    let reached = c.in_ok-reached.reached in
    let adjointed = c.in_ok-adjointed.adjointed in
    let picked : (n : ℕ) → flag c.in_ok-reached.reached (2 * n) ≡ flag c.in_ok-adjointed.adjointed n = λ n. ap (flag c.in_ok-reached.reached) (twice n) ∙ sym (c.in_ok-adjointed.ensures.picked n) in
    let d = subst
    (λ z. (m : ℕ) → IsTrue (flag z m) ↔ ReachedFrom (shadows_listed f.varied rs fl.numbers fl.taking w) ((point_nodes w r r.part.number hd.vars ++ point_nodes w r r.part.number hd.outvars) ++ all_active f.varied.now (Some f.useful) rs fl.taking w) m)
    (sym s) c.in_ok-shadowed.ensures.shadowed in
    record {
      activity =
          subst (λ z. IsActivity (problem_of fl hd) z) (λ i. record { varied = told varied o w; useful = told useful o w; adjointed = λ n. picked n i; shadowed = told_of (s i) o w })
          (told_activity (problem_of fl hd) (variables_of fl) fl.numbers fl.taking w is.numbers is.taking (same_lengths fl) is.width is.variables rs is.rows r f reached c.in_ok-varied.ensures.varied c.in_ok-varied.ensures.useful d
          c.in_ok-reached.ensures.adjointed is.head row);
    }
