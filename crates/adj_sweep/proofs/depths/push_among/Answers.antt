use Rattle.std.proofs.Common.{◌++◌, ◌+◌, map, ap, ◌∙◌, append_assoc}
use Rattle.def_sweep.specs.Program.{helpers_among}
use Rattle.adj_naming.specs.Roles.{role_of, variable_of}
use Rattle.adj_sweep.specs.Depths.{has_depth}
use Rattle.adj_sweep.proofs.Among.{among_next}
use Rattle.adj_sweep.proofs.depths.push_among.Goals as goal

pub loop-done-preserved : goal.loop-done-preserved
loop-done-preserved c =
    let f = has_depth c.args.flags.now in
    let r = role_of c.args.role in
    let old = map variable_of c.args.made.now.items in
    let done = c.loop-done.done in
    c.in_ok-push_at.ensures.helpers
    ∙ ap (λ z. z ++ helpers_among f r (done + 1) 1) c.loop-done.invariant
    ∙ append_assoc old (helpers_among f r 1 done) (helpers_among f r (done + 1) 1)
    ∙ ap (λ z. old ++ z) (among_next f r done)
