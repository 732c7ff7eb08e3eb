use Rattle.std.proofs.Common.{◌≡◌, ◌++◌, ◌<◌, ◌≤◌, map, length, sym, ap, ap₂, ◌∙◌, arith}
use Rattle.std.specs.Prelude.{if◌then◌else◌}
use Rattle.adj_tree.specs.declared.value.Slot.{Slot as CodeSlot}
use Rattle.def_jacobian.specs.Recovered.{from}
use Rattle.adj_reach.specs.Edges.{flag}
use Rattle.adj_jacobian_groups.specs.View.{place_of}
use Rattle.adj_jacobian.proofs.Walking.{nothing_left}
use Rattle.adj_jacobian.proofs.Entering.{some_more}
use Rattle.adj_jacobian.proofs.Placing.{cell_of, place_turn, no_place}
use Rattle.adj_jacobian.proofs.cells.places.Goals as goal

pub loop-i-preserved : goal.loop-i-preserved
loop-i-preserved c =
    let fs = c.args.flags.now in
    let vs = c.args.values.now in
    let i = c.loop-i.i in
    let v = c.index-values-i.result in
    let test = c.loop-i-test.true in
    let lt : i < length vs = omega (arith, test) in
    let many : c.counted-count.result ≡ (if flag fs i then length v.cells else 0) =
    c.counted-count.ensures ∙ ap₂ (λ f n. if f then n else 0) c.flag_at-marked.ensures (ap length c.as_slice.ensures.members ∙ ap (λ (z : CodeSlot). length z.cells) (sym c.index-values-i.is)) in
    let new : map place_of c.add_cells.new.cells.items ≡ map place_of c.loop-i.cells.items ++ map (cell_of i) (from 0 (if flag fs i then length v.cells else 0)) =
    c.in_ok-add_cells.ensures ∙ ap₂ (λ d n. map place_of c.loop-i.cells.items ++ map (cell_of d) (from 0 n)) c.in_ok-dummy.ensures many in
    some_more (map place_of c.add_cells.new.cells.items) (map place_of c.loop-i.cells.items) _ _ _ _ new (place_turn fs vs i v lt c.index-values-i.is) c.loop-i.invariant

pub returns : goal.returns
returns c =
    let test = c.loop-i-test.false in
    let past : length c.args.values.now ≤ c.loop-i.i = omega (arith, test) in
    ap (map place_of) c.new.ensures.members ∙ nothing_left (map place_of c.loop-i.cells.items) _ _ (no_place c.args.flags.now c.args.values.now c.loop-i.i past) c.loop-i.invariant
