use Rattle.std.proofs.Common.{◌≡◌, ℕ, ◌+◌, ◌++◌, ◌∷◌, [], ◌<◌, ◌≤◌, map, drop, length, ap, ◌∙◌, arith}
use Rattle.std.specs.Prelude.{ℤ}
use Rattle.std.proofs.lemmas.List.{map_push}
use Rattle.def_meaning.specs.Units.{Slot}
use Rattle.def_jacobian.specs.Inputs.{by_columns}
use Rattle.def_jacobian.specs.Groups.{seed}
use Rattle.adj_reach.specs.Edges.{flag}
use Rattle.adj_interp.specs.Concludes.{slot_seen}
use Rattle.adj_jacobian.specs.Walks.{cells_by, next_column, still_tangent}
use Rattle.adj_jacobian.proofs.Walking.{one_more, nothing_left, dummy_turn, no_dummy}
use Rattle.adj_jacobian.proofs.directions.directed.Goals as goal

pub loop-i-preserved : goal.loop-i-preserved
loop-i-preserved c =
    let own : ℤ → ℕ → ℤ = λ z j. seed c.args.groups.now c.args.group j in
    let vars = c.args.vars.now in
    let vs = c.args.input.now in
    let slots = c.loop-i.slots.items in
    let i = c.loop-i.i in
    let first = c.loop-i.first in
    let v = c.index-input-i.result in
    let test = c.loop-i-test.true in
    let lt : i < length vs = omega (arith, test) in
    let x : Slot ℤ = record { shape = record { rows = v.rows; cols = v.cols }; cells = cells_by still_tangent own (flag vars i) v.cells first } in
    let slot : slot_seen c.in_ok-slot.slot ≡ x =
    c.in_ok-slot.ensures.slot ∙ ap (λ f. record { shape = record { rows = v.rows; cols = v.cols }; cells = cells_by still_tangent own f v.cells first }) c.flag_at-marked.ensures in
    let next : c.in_ok-slot.next ≡ next_column (flag vars i) first (length v.cells) =
    c.in_ok-slot.ensures.next ∙ ap (λ f. next_column f first (length v.cells)) c.flag_at-marked.ensures in
    let new : map slot_seen c.push.new.self.items ≡ map slot_seen slots ++ x ∷ [] =
    ap (map slot_seen) c.in_ok-push.ensures.items ∙ map_push slot_seen slots c.in_ok-slot.slot ∙ ap (λ z. map slot_seen slots ++ z ∷ []) slot in
    (λ k. new k ++ by_columns still_tangent own (drop (i + 1) vars) (map slot_seen (drop (i + 1) vs)) (next k))
    ∙ one_more (map slot_seen slots) x _ _ _ (dummy_turn still_tangent own vars vs i first v lt c.index-input-i.is) c.loop-i.invariant

pub returns : goal.returns
returns c =
    let own : ℤ → ℕ → ℤ = λ z j. seed c.args.groups.now c.args.group j in
    let test = c.loop-i-test.false in
    let past : length c.args.input.now ≤ c.loop-i.i = omega (arith, test) in
    ap (map slot_seen) c.new.ensures.members
    ∙ nothing_left (map slot_seen c.loop-i.slots.items) _ _ (no_dummy still_tangent own c.args.vars.now c.args.input.now c.loop-i.i c.loop-i.first past) c.loop-i.invariant
