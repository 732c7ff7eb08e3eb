use Rattle.std.proofs.Common.{drop, map, ap, ◌∙◌}
use Rattle.adj_data.specs.Given.{slot_seen}
use Rattle.adj_tool_check.proofs.Walks.{nothing_left, no_inputs, no_adjoints}
use Rattle.adj_tool_check.proofs.shadows.joined.Goals as goal

pub returns-in_default : goal.returns-in_default
returns-in_default c =
    ap (map slot_seen) c.new.ensures.members
    ∙ nothing_left (map slot_seen c.loop-flag.slots.items) _ _ (no_inputs (drop c.loop-flag.flag-index c.args.flags.now) c.loop-flag.unjoined.now (map slot_seen c.loop-flag.rest.now) c.in_default.len_below) c.loop-flag.invariant

pub returns-in_default-rest : goal.returns-in_default-rest
returns-in_default-rest c =
    ap (map slot_seen) c.new-in_default-rest.ensures.members
    ∙ nothing_left (map slot_seen c.loop-flag.slots.items) _ _ (no_adjoints (drop c.loop-flag.flag-index c.args.flags.now) (map slot_seen c.loop-flag.unjoined.now) c.loop-flag.rest.now c.in_default-rest.len_below) c.loop-flag.invariant
