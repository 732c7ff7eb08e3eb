use Rattle.std.proofs.Common.{rules, ◌≡◌, ◌+◌, ◌-◌, ◌∷◌, ◌++◌, true, false, length, take, drop, get_or, map, sym, ap, ◌∙◌, subst}
use Rattle.std.proofs.lemmas.List.{drop_more}
use Rattle.def_sweep.specs.Tangents.{cells_of}
use Rattle.def_sweep.specs.MarkedAdjoint.{shadow_cells}
use Rattle.adj_data.specs.Given.{slot_seen}
use Rattle.adj_tool_check.proofs.Walks.{nothing_left, no_values, first_rest, zeros_made, shadow_made}
use Rattle.adj_tool_check.proofs.shadows.shadows.Goals as goal

pub returns-in_default : goal.returns-in_default
returns-in_default c = nothing_left (cells_of (map slot_seen c.loop-flag.made.items)) _ _ (no_values (drop c.loop-flag.flag-index c.args.flags.now) c.loop-flag.rest.now c.in_default.len_below) c.loop-flag.invariant

pub loop-flag-preserved-then-not-flag : goal.loop-flag-preserved-then-not-flag
loop-flag-preserved-then-not-flag c =
    let flags = c.args.flags.now in
    let i = c.loop-flag.flag-index in
    let r = c.loop-flag.rest.now in
    let whole = shadow_cells flags (map slot_seen c.args.values.now) in
    let others = take (length r - 1) (drop 1 r) in
    let unset : get_or flags i false ≡ false = search rules in
    let flag = drop_more flags i false c.loop-flag-test.true ∙ ap (λ b. b ∷ drop (i + 1) flags) unset in
    let first = first_rest r c.slot-item.result c.slot-item.result c.in-len1-up.len_at_least c.slot-item.is in
    subst (λ made. cells_of (map slot_seen made) ++ shadow_cells (drop (i + 1) flags) (map slot_seen others) ≡ whole) (sym c.in_ok-push.ensures.items)
    (zeros_made c.loop-flag.made.items c.in_ok-zeros_like.field-0 c.slot-item.result (drop i flags) (drop (i + 1) flags) r others whole first c.loop-flag.invariant flag c.in_ok-zeros_like.ensures)

pub loop-flag-preserved : goal.loop-flag-preserved
loop-flag-preserved c =
    let flags = c.args.flags.now in
    let i = c.loop-flag.flag-index in
    let r = c.loop-flag.rest.now in
    let whole = shadow_cells flags (map slot_seen c.args.values.now) in
    let others = take (length r - 1) (drop 1 r) in
    let further = take (length others - 1) (drop 1 others) in
    let set : get_or flags i false ≡ true = search rules in
    let flag = drop_more flags i false c.loop-flag-test.true ∙ ap (λ b. b ∷ drop (i + 1) flags) set in
    let first = first_rest r c.slot-item.result c.slot-item.result c.in-len1-up.len_at_least c.slot-item.is in
    let second = first_rest others c.shadow-item.result c.shadow-item.result c.in-len1-up-behind.len_at_least c.shadow-item.is in
    subst (λ made. cells_of (map slot_seen made) ++ shadow_cells (drop (i + 1) flags) (map slot_seen further) ≡ whole) (sym c.in_ok-push-2.ensures.items)
    (shadow_made c.loop-flag.made.items c.in_ok-copied.field-0 c.slot-item.result (drop i flags) (drop (i + 1) flags) r others whole first c.loop-flag.invariant c.shadow-item.result further second flag c.in_ok-copied.ensures)
