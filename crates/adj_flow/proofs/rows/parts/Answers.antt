-- A unit's row, and those of the units that are left.
use Rattle.std.proofs.Common.{◌≡◌, ◌+◌, ◌<◌, ◌^◌, ◌++◌, ◌∷◌, [], suc, drop, length, map, ap, sym, subst, ◌∙◌, arith}
use Rattle.std.specs.Prelude.{slice_index_or, Contains}
use Rattle.std.proofs.lemmas.List.Elements.{All-contains, Contains-get_or}
use Rattle.std.proofs.lemmas.List.{append_assoc, map-append, length-map, get_or_default}
use Rattle.std.proofs.Math.ListN.{get_or-map}
use Rattle.adj_tree.specs.View.{procedure_of, code_of}
use Rattle.def_names.specs.Numbers.{behind}
use Rattle.def_names.specs.StatementsIn.{statements_in}
use Rattle.def_flow.specs.Parts.{part, parts_from}
use Rattle.adj_flow.specs.Rows.{row_of, row_at, row_in}
use Rattle.adj_reach.proofs.Members.{map_has}
use Rattle.adj_flow.proofs.Room.{all_above}
use Rattle.adj_flow.proofs.Stepping.{drop_mapped}
use Rattle.adj_flow.proofs.rows.parts.Goals as goal

pub loop-number-preserved : goal.loop-number-preserved
loop-number-preserved c =
    let ps = map procedure_of c.args.units.now in
    let vs = c.args.variables.now in
    let vss = map (λ b. b.now) c.args.variables.now in
    let n = c.loop-number.number in
    let u = c.index-units-number.result in
    let i = length c.loop-number.outline.statements.items in
    let t = c.args.count in
    let g = part c.args.count c.loop-number.number (length c.loop-number.outline.statements.items) (procedure_of c.index-units-number.result) in
    let rest = drop (c.loop-number.number + 1) (map procedure_of c.args.units.now) in
    let d : drop c.loop-number.number (map procedure_of c.args.units.now) ≡ procedure_of c.index-units-number.result ∷ drop (c.loop-number.number + 1) (map procedure_of c.args.units.now) = drop_mapped procedure_of c.args.units.now n u c.loop-number-test.true c.index-units-number.is in
    let k : c.loop-number.number + 1 ≡ suc c.loop-number.number = omega arith in
    let v : c.index-variables-number.result.now ≡ slice_index_or (map (λ b. b.now) c.args.variables.now) c.loop-number.number [] =
    sym (get_or_default vss n [] c.index-variables-number.result.now (omega (arith, length-map vs (λ b. b.now), c.requires.variables, c.loop-number-test.true)) ∙ get_or-map (λ b. b.now) vs n c.index-variables-number.result ∙ ap (λ z. z.now) (sym c.index-variables-number.is)) in
    let r : row_of c.in_ok-part.part ≡ row_in (map (λ b. b.now) c.args.variables.now) (part c.args.count c.loop-number.number (length c.loop-number.outline.statements.items) (procedure_of c.index-units-number.result)) = c.in_ok-part.ensures.row ∙ ap (λ z. row_at z g) v in
    let p : map row_of c.push.new.self.items ≡ map row_of c.loop-number.parts.items ++ row_of c.in_ok-part.part ∷ [] = ap (map row_of) c.in_ok-push.ensures.items ∙ map-append row_of c.loop-number.parts.items (c.in_ok-part.part ∷ []) in
    record {
      none = c.in_ok-part.ensures.ways;
      counted = ap (λ z. statements_in z (drop (n + 1) ps)) c.in_ok-part.ensures.statements ∙ ap (statements_in i) (sym d) ∙ c.loop-number.invariant.counted;
      rows =
          (λ j. p j ++ map (row_in vss) (parts_from t (k j) (c.in_ok-part.ensures.statements j) rest))
          ∙ append_assoc (map row_of c.loop-number.parts.items) (row_of c.in_ok-part.part ∷ []) (map (row_in vss) (parts_from t (suc n) (behind i (code_of u.body)) rest))
          ∙ ap (λ z. map row_of c.loop-number.parts.items ++ z ∷ map (row_in vss) (parts_from t (suc n) (behind i (code_of u.body)) rest)) r
          ∙ ap (λ z. map row_of c.loop-number.parts.items ++ map (row_in vss) (parts_from t n i z)) (sym d)
          ∙ c.loop-number.invariant.rows;
    }

pub part-requires-clause-room : goal.part-requires-clause-room
part-requires-clause-room c =
    let ps = map procedure_of c.args.units.now in
    let n = c.loop-number.number in
    let u = procedure_of c.index-units-number.result in
    let i = length c.loop-number.outline.statements.items in
    let rest = drop (c.loop-number.number + 1) (map procedure_of c.args.units.now) in
    let d : drop c.loop-number.number (map procedure_of c.args.units.now) ≡ procedure_of c.index-units-number.result ∷ drop (c.loop-number.number + 1) (map procedure_of c.args.units.now) = drop_mapped procedure_of c.args.units.now n c.index-units-number.result c.loop-number-test.true c.index-units-number.is in
    let e : statements_in (behind (length c.loop-number.outline.statements.items) (code_of c.index-units-number.result.body)) (drop (c.loop-number.number + 1) (map procedure_of c.args.units.now)) ≡ statements_in 0 (map procedure_of c.args.units.now) = ap (statements_in i) (sym d) ∙ c.loop-number.invariant.counted in
    omega (arith, e, all_above (behind i u.body) rest, c.requires.few.statements)

pub part-requires-clause-narrow : goal.part-requires-clause-narrow
part-requires-clause-narrow c =
    let vs = c.args.variables.now in
    let v = c.index-variables-number.result in
    let l : c.loop-number.number < length c.args.variables.now = omega (arith, c.requires.variables, c.loop-number-test.true) in
    All-contains (λ vs. length vs < 2 ^ 30) (map (λ b. b.now) vs) v.now c.requires.few.variables
    (map_has (λ b. b.now) vs v (subst (λ z. Contains vs z) (sym c.index-variables-number.is) (Contains-get_or vs c.loop-number.number v l)))

pub part-requires-clause-number : goal.part-requires-clause-number
part-requires-clause-number c = omega (arith, c.loop-number-test.true, c.requires.few.units, length-map c.args.units.now procedure_of)
