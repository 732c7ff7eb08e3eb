-- The units and variables are those that it is made with.
use Rattle.std.proofs.Common.{◌<◌, ◌≤◌, map, length, sym, subst}
use Rattle.std.proofs.lemmas.List.{length-map}
use Rattle.std.proofs.lemmas.List.Elements.{All-map}
use Rattle.adj_tree.specs.View.{procedure_of}
use Rattle.adj_activity.proofs.Flowing.{units_are, flow_is}
use Rattle.adj_activity.proofs.program_flow.flow.Goals as goal

pub returns-clause-units : goal.returns-clause-units
returns-clause-units c = units_are c.in_ok-flow.flow c.args.head (map procedure_of c.args.units.now) (map (λ b. b.now) c.args.variables.now) c.requires.variables c.in_ok-flow.ensures.rows

pub returns-clause-flow : goal.returns-clause-flow
returns-clause-flow c =
    let us = c.args.units.now in
    let h = c.args.head in
    flow_is c.in_ok-flow.flow c.args.head (map procedure_of us) (map (λ b. b.now) c.args.variables.now) c.requires.variables c.in_ok-flow.ensures.rows c.requires.written
    (subst (λ n. h < n) (sym (length-map us procedure_of)) c.requires.head)
    c.in_ok-flow.ensures.numbers
    c.in_ok-flow.ensures.taking
    (All-map (λ vs. length vs ≤ c.in_ok-flow.flow.width) (λ b. b.now) c.args.variables.now c.in_ok-flow.ensures.width)
