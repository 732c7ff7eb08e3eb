-- Each unit has its variables, a row of dummies that it reads, and one of those that it writes.
use Rattle.std.proofs.Common.{◌≡◌, ℕ, zero, suc, false, length, map, ap, ◌∙◌}
use Rattle.std.specs.Prelude.{List}
use Rattle.std.proofs.lemmas.List.{length-map}
use Rattle.adj_tree.specs.Code.{Procedure}
use Rattle.adj_tree.specs.View.{procedure_of, procedures_of}
use Rattle.def_meaning.specs.LeastSet.{Rule, row_of, rounds, dummies_in_all, least_rows}
use Rattle.def_meaning.specs.Read.{read_rule}
use Rattle.def_meaning.specs.Written.{write_rule}
use Rattle.def_names.specs.Variables.{variables}
use Rattle.adj_symbols.specs.Checked.{Known, AreFacts}

rounds_each : (rule : Rule) (ps : List Procedure) (n : ℕ) → length (rounds rule ps n) ≡ length ps
rounds_each rule ps zero = length-map ps (λ u. map (λ d. false) u.dummies)
rounds_each rule ps (suc n) = length-map ps (λ u. map (rule (row_of ps (rounds rule ps n)) u) u.dummies)

rows_each : (rule : Rule) (ps : List Procedure) → length (least_rows rule ps) ≡ length ps
rows_each rule ps = rounds_each rule ps (dummies_in_all ps)

pub reads_each : (k : Known) → AreFacts k → length k.reads ≡ length k.program.units
reads_each k f = ap length f.reads ∙ rows_each read_rule (procedures_of k.program) ∙ length-map k.program.units procedure_of

pub writes_each : (k : Known) → AreFacts k → length k.writes ≡ length k.program.units
writes_each k f = ap length f.writes ∙ rows_each write_rule (procedures_of k.program) ∙ length-map k.program.units procedure_of

pub variables_each : (k : Known) → AreFacts k → length k.variables ≡ length k.program.units
variables_each k f = ap length f.variables ∙ length-map (procedures_of k.program) variables ∙ length-map k.program.units procedure_of
