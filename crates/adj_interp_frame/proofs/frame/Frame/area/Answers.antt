use Rattle.std.proofs.Common.{rules, FitsSigned, w64, map, ◌∷◌, [], ap, sym, ◌∙◌}
use Rattle.std.proofs.lemmas.Int.{to_z-of_z}
use Rattle.def_meaning.specs.Units.{extent_in}
use Rattle.adj_interp_frame.specs.Called.{actuals_in, extents_at, entered_with}
use Rattle.adj_interp_frame.proofs.frame.Frame.area.Goals as goal

pub returns-in-List : goal.returns-in-List
returns-in-List g c shape s h =
    let r = c.args.routine.now in
    let t = entered_with g.N.Number.numbers r (actuals_in c.args.self.now.names.now shape s c.args.actuals.now) in
    let declared = c.requires.laid.declares c.args.i c.index.result.now c.requires.there ∙ ap (extents_at r.names) (sym c.index.ensures ∙ c.in-List.is) in
    let fits : FitsSigned w64 c.extent.result = search rules in
    ap (λ z. z ∷ []) (to_z-of_z w64 c.extent.result fits ∙ c.extent.ensures shape s h)
    ∙ ap (map (extent_in g.N.Number.numbers t)) (sym declared)

pub returns-in-Table : goal.returns-in-Table
returns-in-Table g c shape s h =
    let r = c.args.routine.now in
    let t = entered_with g.N.Number.numbers r (actuals_in c.args.self.now.names.now shape s c.args.actuals.now) in
    let declared = c.requires.laid.declares c.args.i c.index.result.now c.requires.there ∙ ap (extents_at r.names) (sym c.index.ensures ∙ c.in-Table.is) in
    let fits1 : FitsSigned w64 c.extent-first.result = search rules in
    let fits2 : FitsSigned w64 c.extent-in-Table.result = search rules in
    let rows = to_z-of_z w64 c.extent-first.result fits1 ∙ c.extent-first.ensures shape s h in
    let cols = to_z-of_z w64 c.extent-in-Table.result fits2 ∙ c.extent-in-Table.ensures shape s h in
    (λ k. rows k ∷ cols k ∷ [])
    ∙ ap (map (extent_in g.N.Number.numbers t)) (sym declared)
