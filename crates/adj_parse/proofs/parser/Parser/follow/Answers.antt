use Rattle.std.proofs.Common.{◌-◌, ◌∙◌, ap}
use Rattle.std.proofs.lemmas.Result.{err_from_is_err_and}
use Rattle.adj_parse.specs.CurrentView.{state_of}
use Rattle.adj_parse.proofs.Following.{follow_ok, follow_fails}
use Rattle.adj_parse.proofs.parser.Parser.follow.Goals as goal

pub returns-in_err-said : goal.returns-in_err-said
returns-in_err-said c =
    let p = err_from_is_err_and c.from_residual-in_err-said.result c.from_residual-in_err-said.ensures.1 in
    rw (p.1, p.2) (follow_fails c.args.mode c.of-bounds.result c.of-bounds.ensures (state_of c.args.self.now) c.args.stated.now c.args.left c.in_ok-found.found c.in_ok-found.ensures.said c.in_err-said.field-0.0 c.in_err-said.ensures)

pub returns : goal.returns
returns c =
    follow_ok c.args.mode c.of-bounds.result c.of-bounds.ensures (state_of c.args.self.now) c.args.stated.now c.args.left c.in_ok-found.found c.in_ok-found.ensures.said c.in_ok-said.said _ _ c.saturating_sub-self.result c.in_ok-mark.ensures.equal c.in_ok-said.ensures c.in_ok-place.ensures.placed (c.saturating_sub-self.ensures ∙ ap (λ n. n - 1) c.in_ok-place.ensures.room)
