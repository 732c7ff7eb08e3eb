use Rattle.std.proofs.Common.{◌++◌, map, ap, ◌∙◌}
use Rattle.adj_tree.specs.CommonView.{common_of, shared_of}
use Rattle.adj_symbols_writes.specs.View.{names_seen}
use Rattle.adj_common.specs.Tables.{tabled}
use Rattle.adj_common.specs.Entries.{block_names, entries_of_row, line_of_row}
use Rattle.adj_common.specs.Views.{entry_of, firsts_of}
use Rattle.adj_common.proofs.Walked.{own_made}
use Rattle.adj_common.proofs.own.Own.new.Goals as goal

pub returns : goal.returns
returns c =
    let s = shared_of c.args.shared.now in
    let ds = firsts_of c.in_ok-declared.declared in
    let t = c.in_ok-table.table in
    let commons = ap (map common_of) c.as_slice-commons.ensures.members in
    let names = ap names_seen c.as_slice.ensures.value ∙ c.in_ok-add_blocks.ensures.added ∙ (λ i. names_seen (c.new-names.ensures.items i) ++ block_names (commons i)) in
    let groups = c.in_ok-groups.ensures.groups ∙ (λ i. map (entries_of_row ds (commons i)) (c.rows.ensures.rows i)) in
    let lines = c.in_ok-lines.ensures.lines ∙ (λ i. map (line_of_row s.unit.line (commons i)) (c.rows-2.ensures.rows i)) in
    record { own = own_made ds s t (map (λ g. map entry_of g.items) c.in_ok-groups.groups.items) c.in_ok-lines.lines.items (c.in_ok-table.ensures.table ∙ ap tabled names) groups lines c.in_ok-declared.ensures.same }
