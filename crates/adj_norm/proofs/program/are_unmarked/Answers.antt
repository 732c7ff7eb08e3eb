use Rattle.std.proofs.Common.{◌≡◌, ◌∙◌, ◌+◌, ◌∷◌, [], map, drop, ap, sym, arith}
use Rattle.std.specs.Prelude.{◌&&◌}
use Rattle.std.proofs.lemmas.List.{drop_all}
use Rattle.std.proofs.lemmas.Bool.{ne_eqb, eq-eqb}
use Rattle.adj_tree.specs.View.{procedure_of}
use Rattle.adj_naming.proofs.Places.{from_here}
use Rattle.def_kernel.specs.Stepped.{marked_in}
use Rattle.adj_norm.specs.Programs.{are_unmarked}
use Rattle.adj_norm.proofs.program.are_unmarked.Goals as goal

pub loop-unit-preserved : goal.loop-unit-preserved
loop-unit-preserved c =
    let l = c.loop-unit in
    let items = c.args.units.now in
    let unit = c.unit-item.result in
    let others = map procedure_of (drop (l.unit-index + 1) items) in
    let here : map procedure_of (drop l.unit-index items) ≡ procedure_of unit ∷ others = ap (map procedure_of) (from_here items l.unit-index unit c.loop-unit-test.true c.unit-item.is) in
    ap (λ b. b && are_unmarked others) (sym (eq-eqb (marked_in (procedure_of unit).body) 0 (sym c.in_ok-count.ensures.count ∙ c.if-count-ne0.false))) ∙ ap are_unmarked (sym here) ∙ l.invariant

pub returns-then-count-ne0 : goal.returns-then-count-ne0
returns-then-count-ne0 c =
    let l = c.loop-unit in
    let items = c.args.units.now in
    let unit = c.unit-item.result in
    let others = map procedure_of (drop (l.unit-index + 1) items) in
    let here : map procedure_of (drop l.unit-index items) ≡ procedure_of unit ∷ others = ap (map procedure_of) (from_here items l.unit-index unit c.loop-unit-test.true c.unit-item.is) in
    record { unmarked = ap (λ b. b && are_unmarked others) (sym (ne_eqb (marked_in (procedure_of unit).body) 0 (λ e. c.if-count-ne0.true (c.in_ok-count.ensures.count ∙ e)))) ∙ ap are_unmarked (sym here) ∙ l.invariant }

pub returns : goal.returns
returns c =
    let l = c.loop-unit in
    let items = c.args.units.now in
    let none_left : drop l.unit-index items ≡ [] = drop_all l.unit-index items (omega arith) in
    record { unmarked = ap (λ z. are_unmarked (map procedure_of z)) (sym none_left) ∙ l.invariant }
