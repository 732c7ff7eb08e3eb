-- Rules by the mode in which a text is read.
use Rattle.def_text.specs.declared.mode.Mode.{Mode}
use Rattle.def_text.specs.declared.mode.Mode.TheVariants as mode
use Rattle.def_names.specs.Fault as fault
use Rattle.adj_symbols.specs.declared.rules.Rules.{Rules}

abbrev pub rules_of : Rules → fault.Rules
rules_of r = record { takes_runtime = r.takes_runtime; variables = r.variables; chain = r.chain }

abbrev pub rules_for : Mode → fault.Rules
rules_for mode.Source = fault.source_rules
rules_for mode.Run = fault.run_rules
