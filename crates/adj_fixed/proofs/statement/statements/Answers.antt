use Rattle.std.proofs.Common.{◌≡◌, Ok, ap}
use Rattle.std.specs.Prelude.{All}
use Rattle.def_text.specs.Limits.{no_limits, limits_of}
use Rattle.def_text.specs.Refused.{◌>>=◌}
use Rattle.def_text.specs.Stated.{all_stated, statements_of, IsCovered}
use Rattle.def_text.proofs.Covering.{all_covered, if_gives}
use Rattle.def_text.proofs.Unlimited.{statements_follow}
use Rattle.adj_fixed.specs.View.{all_lines}
use Rattle.adj_fixed.proofs.statement.statements.Goals as goal

pub returns-clause-unlimited : goal.returns-clause-unlimited
returns-clause-unlimited c =
    let limits = limits_of c.args.mode in
    let bytes = c.args.bytes.now in
    let lines = all_lines c.in_ok-lines_of.field-0.items in
    let e : statements_of limits bytes ≡ all_stated limits lines = ap (λ r. r >>= all_stated limits) c.in_ok-lines_of.ensures in
    if_gives (λ v. v.items) (λ ss. statements_of no_limits bytes ≡ Ok ss) c.all_stated.result (all_stated limits lines) c.all_stated.ensures (rw e at (statements_follow limits bytes))

pub returns-clause-covered : goal.returns-clause-covered
returns-clause-covered c =
    let lines = all_lines c.in_ok-lines_of.field-0.items in
    if_gives (λ v. v.items) (All IsCovered) c.all_stated.result (all_stated (limits_of c.args.mode) lines) c.all_stated.ensures (all_covered (limits_of c.args.mode) lines)
