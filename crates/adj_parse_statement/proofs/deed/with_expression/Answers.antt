use Rattle.std.proofs.Common.{◌≡◌, Vec, Box, Global, Result, subst}
use Rattle.std.specs.Prelude.{map, IfOk}
use Rattle.adj_tree.specs.Code.{Term}
use Rattle.adj_tree.specs.View.{term_of}
use Rattle.adj_tree.specs.declared.expr.Expr.{Expr}
use Rattle.adj_parse_expression.specs.declared.flaw.Flaw.{Flaw}
use Rattle.adj_parse_expression.specs.View.{seen}
use Rattle.adj_parse_statement.specs.Flaws.{with_part}
use Rattle.adj_parse_statement.proofs.Judging.{seen-seen, with_part-found}
use Rattle.adj_parse_statement.proofs.deed.with_expression.Goals as goal

pub returns : goal.returns
returns c =
    subst (λ (t : Result Term Flaw). IfOk c.with_boxed.result (λ r. seen (λ v. map term_of v.items) r ≡ with_part (seen (λ v. map term_of v.items) c.args.all) t)) (seen-seen term_of (λ (b : Box Expr Global). b.value) c.args.next)
    (with_part-found (λ (v : Vec Expr Global). v.items) term_of c.with_boxed.result c.args.all (seen (λ (b : Box Expr Global). b.value) c.args.next) c.with_boxed.ensures)
