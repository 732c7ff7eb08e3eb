use Rattle.std.proofs.Common.{FitsSigned, rules, w64, take, ap, ◌∙◌}
use Rattle.std.proofs.lemmas.Int.{to_z-of_z}
use Rattle.adj_word.specs.Dot.{dot}
use Rattle.adj_tool_check.proofs.Dots.{dots_same}
use Rattle.adj_tool_check.proofs.products.product_of.Goals as goal

pub returns : goal.returns
returns c =
    let xs = c.args.xs.now in
    let ys = c.args.ys.now in
    let fits : FitsSigned w64 c.dot.result = search rules in
    to_z-of_z w64 c.dot.result fits ∙ c.dot.ensures ∙ ap (λ n. dot (take n xs) (take n ys)) c.min-count.ensures ∙ dots_same xs ys
