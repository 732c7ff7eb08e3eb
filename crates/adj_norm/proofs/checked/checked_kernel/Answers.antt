use Rattle.std.proofs.Common.{◌∙◌, map, ap, sym, subst}
use Rattle.adj_tree.specs.View.{procedure_of, procedures_of}
use Rattle.def_meaning.specs.LeastSet.{least_rows}
use Rattle.def_meaning.specs.Read.{read_rule}
use Rattle.def_meaning.specs.Written.{write_rule}
use Rattle.def_names.specs.Variables.{variables}
use Rattle.def_text.specs.Written.{IsWritten}
use Rattle.law_kernel.proofs.SoundPrograms.{sound_calls}
use Rattle.law_kernel.proofs.StepsWritten.{whole_kernel_written}
use Rattle.adj_norm.proofs.checked.checked_kernel.Goals as goal

pub new-requires : goal.new-requires
new-requires c =
    let ps = procedures_of c.args.program.now in
    let a = c.requires.accepted in
    let units = ap (map procedure_of) c.as_slice-units.ensures.members in
    record {
      written = subst IsWritten (sym c.in_ok-lowered.ensures.kernel) (whole_kernel_written ps a.written (sound_calls ps a.written a.sound));
      sound = c.in_ok-lowered.ensures.sound a;
      variables = c.in_ok-variables.ensures.variables ∙ ap (map variables) units;
      writes = c.in_ok-writes.ensures.written ∙ ap (least_rows write_rule) units;
      reads = c.in_ok-reads.ensures.read ∙ ap (least_rows read_rule) units;
    }
