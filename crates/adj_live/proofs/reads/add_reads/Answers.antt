use Rattle.std.proofs.Common.{◌≡◌, ◌++◌, OnOk, subst}
use Rattle.std.specs.Prelude.{◌&&◌}
use Rattle.adj_tree.specs.View.{term_of}
use Rattle.def_names.specs.Numbers.{Vars}
use Rattle.def_names.specs.Numbering.{point_before}
use Rattle.def_flow.specs.AdjointReads.{adjoint_reads_in}
use Rattle.adj_symbols_writes.specs.View.{vars_seen}
use Rattle.adj_flow.specs.NodeView.{told_at}
use Rattle.adj_flow.specs.Rows.{row_of}
use Rattle.adj_live.proofs.reads.add_reads.Goals as goal

pub returns : goal.returns
returns c =
    let s = c.args.site in
    let r = row_of s.part.now in
    record { added = subst (λ (z : Vars). OnOk c.add_reads.result (vars_seen c.add_reads.new.out.items ≡ vars_seen c.args.out.now.items ++ adjoint_reads_in z (term_of c.args.term.now))) (λ i v. told_at s.known.activity.now.varied s.known.width r (point_before c.args.statement) v && told_at (c.as_slice.ensures.members i) s.known.width r r.part.number v) c.add_reads.ensures.added }
