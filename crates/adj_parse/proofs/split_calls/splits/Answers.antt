use Rattle.std.proofs.Common.{◌∙◌, ap, arith}
use Rattle.std.proofs.lemmas.List.{take_all}
use Rattle.def_text.specs.Splits.{split_lines}
use Rattle.adj_parse.proofs.SplitLines.{split_taken, whole_taken, splits_read}
use Rattle.adj_parse.proofs.split_calls.splits.Goals as goal
use Rattle.adj_parse.proofs.split_calls.splits.Goals.{then-statement+in_ok-push, else-statement}

pub loop-statement-preserved : goal.loop-statement-preserved
loop-statement-preserved c =
    elim c.if-statement.branch [
      | then-statement+in_ok-push w ↦ rw (w.lines-is, w.in_ok-push.ensures.items) (split_taken c.args.stated.now c.loop-statement.statement-index c.statement-item.result c.loop-statement-test.true c.statement-item.is w.if-statement.true _ c.loop-statement.invariant)
      | else-statement w ↦ rw (w.lines-is) (whole_taken c.args.stated.now c.loop-statement.statement-index c.statement-item.result c.loop-statement-test.true c.statement-item.is w.if-statement.false _ c.loop-statement.invariant)
    ]

pub returns-clause-exact : goal.returns-clause-exact
returns-clause-exact c =
    c.new.ensures.members ∙ c.loop-statement.invariant ∙ ap split_lines (take_all c.loop-statement.statement-index c.args.stated.now (omega (arith, c.loop-statement-test.false)))

pub returns-clause-reads : goal.returns-clause-reads
returns-clause-reads c = splits_read c.args.stated.now c.new.result (returns-clause-exact c)
