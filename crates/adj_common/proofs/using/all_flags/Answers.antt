use Rattle.std.proofs.Common.{ℕ, ◌++◌, ◌∷◌, [], map, take, sym, ap, ◌∙◌, subst}
use Rattle.std.specs.Prelude.{◌↔◌, IsTrue}
use Rattle.std.proofs.lemmas.List.{map_more}
use Rattle.adj_reach.specs.Edges.{ReachedBack, flag}
use Rattle.adj_common.specs.Layouts.{units_of_row}
use Rattle.adj_common.specs.Using.{AreReached}
use Rattle.adj_common.specs.Views.{text_of}
use Rattle.adj_common.proofs.Flagged.{reached_more}
use Rattle.adj_common.proofs.using.all_flags.Goals as goal

pub loop-row-preserved : goal.loop-row-preserved
loop-row-preserved c =
    let es = c.args.edges.now in
    let owners = (text_of c.args.blocks.now).owners in
    let rows = c.rows-row-items.result.now in
    let i = c.loop-row.row-index in
    let r = c.row-item.result in
    let f = c.in_ok-flags_of.field-0 in
    let all = c.loop-row.all.items in
    let passed = map (λ z. z.items) (take i rows) in
    let longer = map_more (λ z. z.items) rows i r c.loop-row-test.true ∙ ap (λ z. passed ++ z.items ∷ []) (sym c.row-item.is) in
    let reached = subst (λ z. (u : ℕ) → IsTrue (flag f u) ↔ ReachedBack es (units_of_row z r.items) u) c.owners.ensures.owners
    (subst (λ z. (u : ℕ) → IsTrue (flag f u) ↔ ReachedBack es (units_of_row c.owners.result.now z) u) c.as_slice.ensures.value c.in_ok-flags_of.ensures.reached) in
    subst (λ z. AreReached es owners z c.push.new.self.items) (sym longer)
    (subst (AreReached es owners (passed ++ r.items ∷ [])) (sym c.in_ok-push.ensures.items) (reached_more es owners passed all r.items f c.loop-row.invariant reached))
