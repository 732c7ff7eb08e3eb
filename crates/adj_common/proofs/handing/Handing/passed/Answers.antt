use Rattle.std.proofs.Common.{sym, ap, ◌∙◌}
use Rattle.std.proofs.lemmas.List.{drop_all}
use Rattle.adj_tree.specs.Code.{none}
use Rattle.adj_tree.specs.Listed.{terms_turned}
use Rattle.adj_tree.specs.View.{terms_of}
use Rattle.def_common.specs.Lowering.{behind}
use Rattle.adj_common.specs.Handing.{turned_rows, names_of_row}
use Rattle.adj_common.specs.Views.{tables_of}
use Rattle.adj_common.proofs.Passed.{rows_behind}
use Rattle.adj_common.proofs.handing.Handing.passed.Goals as goal

pub returns : goal.returns
returns c =
    let t = tables_of c.args.self.now in
    let bs = c.row-block-items.result.now in
    let es = terms_of c.args.actuals.now in
    let made = terms_of c.loop-block.made in
    record {
      passed = c.turned.ensures.turned
          ∙ ap (λ z. terms_turned z none) (ap (λ l. turned_rows t l made) (sym (drop_all c.loop-block.block-index bs c.loop-block-test.false)) ∙ c.loop-block.invariant)
          ∙ rows_behind t bs es
          ∙ ap (λ l. behind es (names_of_row t l)) c.row-block-items.ensures.row;
    }
