use Rattle.std.proofs.Common.{sym, ap, ◌∙◌}
use Rattle.adj_jacobian_few.specs.declared.few.Few.{Few}
use Rattle.adj_jacobian_few.specs.Few.{few}
use Rattle.adj_jacobian.proofs.Holding.{nth_at, nth_past}
use Rattle.adj_jacobian.proofs.listed.kept_or_none.Goals as goal

pub returns-in-Some : goal.returns-in-Some
returns-in-Some c =
    let found = c.in-Some.ensures.lookup in
    ap (λ (b : Few). b.columns) (found.1 ∙ sym (nth_at few c.args.numbers.now c.args.place c.in-Some.number.now found.3.0))

pub returns-in-None : goal.returns-in-None
returns-in-None c = ap (λ (b : Few). b.columns) (sym (nth_past few c.args.numbers.now c.args.place c.in-None.ensures.lookup.3))
