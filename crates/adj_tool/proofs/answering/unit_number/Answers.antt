use Rattle.std.proofs.Common.{arith, ◌≡◌, ◌≤◌, refl, ap, ◌∙◌}
use Rattle.std.specs.Prelude.{length, map}
use Rattle.adj_tree.specs.View.{procedure_of}
use Rattle.def_names.specs.HeadFaults.{unit_number}
use Rattle.adj_tool.proofs.Numbers.{passed, found, none}
use Rattle.adj_tool.proofs.answering.unit_number.Goals as goal

pub returns-then-equals : goal.returns-then-equals
returns-then-equals c =
    found c.as_slice-units.result.now c.args.name.now c.loop-number.number c.index-units-number.result c.loop-number-test.true c.index-units-number.is (c.if-equals.ensures.equal.0 refl)
    ∙ c.loop-number.invariant ∙ ap (λ us. unit_number (map procedure_of us) c.args.name.now) c.as_slice-units.ensures.members

pub loop-number-preserved : goal.loop-number-preserved
loop-number-preserved c = passed c.as_slice-units.result.now c.args.name.now c.loop-number.number c.index-units-number.result c.loop-number-test.true c.index-units-number.is (λ same. c.if-equals.ensures.equal.1 same) ∙ c.loop-number.invariant

pub returns : goal.returns
returns c =
    let least : length c.as_slice-units.result.now ≤ c.loop-number.number = c.loop-number-test.false in
    let most : c.loop-number.number ≤ length c.as_slice-units.result.now = c.loop-number.auto.number-end in
    let all : length c.as_slice-units.result.now ≡ c.loop-number.number = omega (arith, least, most) in
    all ∙ none c.as_slice-units.result.now c.args.name.now c.loop-number.number least ∙ c.loop-number.invariant ∙ ap (λ us. unit_number (map procedure_of us) c.args.name.now) c.as_slice-units.ensures.members
