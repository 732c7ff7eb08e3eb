use Rattle.std.proofs.Common.{◌∙◌, ap, sym}
use Rattle.clap.specs.Simple.{is_simple}
use Rattle.clap.specs.Faults.{is_simple_and_free}
use Rattle.adj_tool.proofs.Taken.{program_is_simple, program_is_free, map_same, taken_ok, taken_none}
use Rattle.adj_tool.proofs.arguments.take.Goals as goal

pub returns-in-Ok : goal.returns-in-Ok
returns-in-Ok c =
    let line = c.in_ok-line.ensures in
    let none = c.in-Ok.ensures.kinds (ap is_simple_and_free line ∙ program_is_free) in
    let rows = (c.in-Ok.ensures.matches (ap is_simple line ∙ program_is_simple)).0 in
    record { taken = rw (taken_ok _ line _ _ (map_same c.args.arguments.now) none _ rows) c.task_asked.ensures }

pub returns : goal.returns
returns c =
    let line = c.in_ok-line.ensures in
    let failed = c.in-Err.ensures.kinds (ap is_simple_and_free line ∙ program_is_free) in
    record { taken = sym (taken_none _ line _ _ (map_same c.args.arguments.now) _ _ failed (λ e. c.in_default.not-OutOfMemory (c.kind.ensures ∙ e))) }
