use Rattle.std.proofs.Common.{sym, subst}
use Rattle.adj_tree.specs.View.{procedures_of}
use Rattle.def_text.specs.ReadsAs.{ReadsAs}
use Rattle.def_text.proofs.WrittenBack.{written_reads_back}
use Rattle.adj_tool.proofs.planned.tangent_text.Goals as goal

pub returns : goal.returns
returns c =
    let ps = procedures_of c.in_ok-program.program in
    record {
      text = record {
        program = ps;
        emitted = c.in_ok-program.ensures.emitted;
        is_text = c.in_ok-text.ensures.text;
        reads = λ w. subst (λ bs. ReadsAs bs ps) (sym c.in_ok-text.ensures.text) (written_reads_back ps w);
      };
    }
