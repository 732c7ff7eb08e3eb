use Rattle.std.proofs.Common.{◌-◌, length, refl, sym, ap, ◌∙◌}
use Rattle.std.proofs.lemmas.Result.{err_from_is_err_and}
use Rattle.std.specs.Prelude.{Ok}
use Rattle.adj_parse.specs.CurrentView.{state_of}
use Rattle.adj_parse.proofs.Passing.{over_end, over_more, over_fails, text_slices}
use Rattle.adj_parse.proofs.TextReads.{gives_reads, gives_written}
use Rattle.adj_parse.proofs.text.program.Goals as goal

pub follow-requires : goal.follow-requires
follow-requires c = record { slices = text_slices c.args.mode c.args.stated.now c.requires.text c.loop-index.index c.index-stated-index.result c.loop-index-test.true c.index-stated-index.is }

pub returns-in_err-follow-clause-exact : goal.returns-in_err-follow-clause-exact
returns-in_err-follow-clause-exact c =
    let p = err_from_is_err_and c.from_residual.result c.from_residual.ensures.1 in
    rw (p.1, p.2) (over_fails c.args.mode (state_of c.loop-index.parser) c.args.stated.now c.loop-index.index _ c.loop-index.invariant c.index-stated-index.result c.loop-index-test.true c.index-stated-index.is (length c.args.stated.now - c.loop-index.index - 1) refl c.in_err-follow.field-0.0 c.in_err-follow.ensures)

pub loop-index-preserved : goal.loop-index-preserved
loop-index-preserved c = over_more c.args.mode (state_of c.loop-index.parser) c.args.stated.now c.loop-index.index _ c.loop-index.invariant c.index-stated-index.result c.loop-index-test.true c.index-stated-index.is (length c.args.stated.now - c.loop-index.index - 1) refl _ c.in_ok-follow.ensures

pub returns-clause-exact : goal.returns-clause-exact
returns-clause-exact c =
    sym (over_end c.args.mode (state_of c.loop-index.parser) c.args.stated.now c.loop-index.index _ c.loop-index.invariant c.loop-index-test.false) ∙ ap Ok (sym c.finish.ensures)

pub returns-clause-reads : goal.returns-clause-reads
returns-clause-reads c = gives_reads c.args.mode c.args.stated.now (Ok c.finish.result) (returns-clause-exact c)

pub returns-clause-written : goal.returns-clause-written
returns-clause-written c = gives_written c.args.mode c.args.stated.now (Ok c.finish.result) (returns-clause-exact c) c.requires.text
