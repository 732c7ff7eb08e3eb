-- The statements of the unit are those that were added, and the ways are all that are there.
use Rattle.std.proofs.Common.{◌≡◌, ◌++◌, ℕ, drop, length, map, ap, ◌∙◌, arith}
use Rattle.std.proofs.lemmas.List.{take_rest}
use Rattle.adj_tree.specs.View.{code_of, procedure_of}
use Rattle.def_flow.specs.Standing.{standing, outermost}
use Rattle.def_flow.specs.Ways.{passing, ways}
use Rattle.adj_flow.specs.View.{standing_of}
use Rattle.adj_flow.specs.WayView.{way_of}
use Rattle.adj_flow.proofs.Numbering.{listed_length}
use Rattle.adj_flow.proofs.Stepping.{mapped_behind}
use Rattle.adj_flow.proofs.rows.part.Goals as goal

pub returns-clause-row : goal.returns-clause-row
returns-clause-row c =
    let old = c.args.outline.now.statements.items in
    let n : c.len-first.result ≡ length c.args.outline.now.statements.items = omega arith in
    let body = code_of c.args.unit.now.body in
    let s : map standing_of c.in_ok-statements.statements.items ≡ standing outermost (length c.args.outline.now.statements.items) (code_of c.args.unit.now.body) =
    ap (map standing_of) (c.in_ok-statements.ensures.same ∙ take_rest c.deref.result.now c.len-first.result) ∙ ap (λ (k : ℕ). map standing_of (drop k c.deref.result.now)) n ∙ ap (λ z. map standing_of (drop (length c.args.outline.now.statements.items) z)) c.deref.ensures.value
    ∙ mapped_behind standing_of old c.add_list.new.outline.statements.items (standing outermost (length old) body) c.in_ok-add_list.ensures.statements in
    let w : map way_of c.replace-ways.result.items ≡ ways (length c.args.outline.now.statements.items) c.ends-points.result.0 c.ends-points.result.1 passing (code_of c.args.unit.now.body) =
    ap (λ z. map way_of z.items) c.replace-ways.ensures.value ∙ c.in_ok-add_list.ensures.ways ∙ ap (λ z. map way_of z ++ ways (length c.args.outline.now.statements.items) c.ends-points.result.0 c.ends-points.result.1 passing (code_of c.args.unit.now.body)) c.requires.none in
    let e = c.ends-points.ensures.ends.0 in
    let f = c.ends-points.ensures.ends.1 in
    λ i. record {
      part = record { number = c.args.number; unit = procedure_of c.args.unit.now; first = n i; entry = e i; end = f i };
      statements = s i;
      ways = (w ∙ (λ j. ways (length c.args.outline.now.statements.items) (e j) (f j) passing (code_of c.args.unit.now.body))) i;
      variables = c.args.variables.now;
    }

pub returns-clause-statements : goal.returns-clause-statements
returns-clause-statements c = listed_length standing_of c.args.outline.now.statements.items c.add_list.new.outline.statements.items outermost (code_of c.args.unit.now.body) c.in_ok-add_list.ensures.statements
