-- What a written program's text is, reads as the program.
use Rattle.std.proofs.Common.{ℕ, List, sym, subst}
use Rattle.adj_tree.specs.View.{procedures_of}
use Rattle.def_text.specs.ReadsAs.{ReadsAs}
use Rattle.def_text.proofs.WrittenBack.{written_reads_back}
use Rattle.adj_print.proofs.unit.text.Goals as goal

pub returns-clause-reads : goal.returns-clause-reads
returns-clause-reads c = λ w.
    let P : List ℕ → Type 0 = λ bs. ReadsAs bs (procedures_of c.args.p.now) in
    subst P (sym c.in_ok-bytes.ensures.text) (written_reads_back (procedures_of c.args.p.now) w)
