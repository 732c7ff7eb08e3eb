use Rattle.std.proofs.Common.{ap, ◌∙◌, map, Some}
use Rattle.adj_tree.specs.View.{procedure_of}
use Rattle.adj_symbols.specs.Writes.{row_at}
use Rattle.adj_symbols.proofs.Rows.{row_found, row_read, row_missing}
use Rattle.adj_symbols.proofs.written.Written.row.Goals as goal

pub returns-in-Some-get : goal.returns-in-Some-get
returns-in-Some-get c =
    let rows = c.args.self.now in
    let n = c.in-Some.number in
    record {
      row =
          c.as_slice-in-Some-get.ensures.members
          ∙ row_read c.as_slice.result.now n c.in-Some-get.flags c.in-Some-get.ensures.lookup.0 c.in-Some-get.ensures.lookup.1
          ∙ ap (λ z. row_at z (Some n)) (c.as_slice.ensures.value ∙ c.self.view_is)
          ∙ ap (row_at rows) c.in-Some.ensures.number
          ∙ row_found (map procedure_of c.args.scope.now) rows c.args.name.now;
    }

pub returns-in-None-get : goal.returns-in-None-get
returns-in-None-get c =
    let rows = c.args.self.now in
    let n = c.in-Some.number in
    record {
      row =
          row_missing c.as_slice.result.now n c.in-None-get.ensures.lookup.0
          ∙ ap (λ z. row_at z (Some n)) (c.as_slice.ensures.value ∙ c.self.view_is)
          ∙ ap (row_at rows) c.in-Some.ensures.number
          ∙ row_found (map procedure_of c.args.scope.now) rows c.args.name.now;
    }

pub returns-in-None : goal.returns-in-None
returns-in-None c = record { row = ap (row_at c.args.self.now) c.in-None.ensures.number ∙ row_found (map procedure_of c.args.scope.now) c.args.self.now c.args.name.now }
