-- What is known of a checked program.
use Rattle.std.proofs.Common.{◌≡◌, List, length, map, ap, ◌∙◌}
use Rattle.std.proofs.lemmas.List.{length-map}
use Rattle.adj_tree.specs.Code.{Procedure}
use Rattle.adj_tree.specs.View.{procedure_of, procedures_of}
use Rattle.def_meaning.specs.Read.{is_read}
use Rattle.def_meaning.specs.Written.{is_written}
use Rattle.adj_symbols.specs.Checked.{Known, AreFacts}
use Rattle.adj_weave.proofs.Known.{rows_written, rows_read}

module _ (k : Known) (facts : AreFacts k) where
  abbrev ps : List Procedure
  ps = procedures_of k.program

  -- each unit has a row of the dummies that it writes, and one of those that it reads
  pub writes_are : k.writes ≡ map (λ u. map (is_written ps u) u.dummies) ps
  writes_are = facts.writes ∙ rows_written ps

  pub reads_are : k.reads ≡ map (λ u. map (is_read ps u) u.dummies) ps
  reads_are = facts.reads ∙ rows_read ps

  pub writes_each : length k.writes ≡ length k.program.units
  writes_each = ap length writes_are ∙ length-map ps (λ (u : Procedure). map (is_written ps u) u.dummies) ∙ length-map k.program.units procedure_of

  pub reads_each : length k.reads ≡ length k.program.units
  reads_each = ap length reads_are ∙ length-map ps (λ (u : Procedure). map (is_read ps u) u.dummies) ∙ length-map k.program.units procedure_of
