use Rattle.std.proofs.Common.{ap, ap₂, ◌∙◌}
use Rattle.std.specs.Str.{bytes_eq}
use Rattle.std.specs.HashSet.{contains_by}
use Rattle.def_meaning.specs.Apart.{has_name}
use Rattle.adj_sets.proofs.NameSets.{bytes_name, any_has}
use Rattle.adj_sets.proofs.borrowed.BorrowedNames.contains.Goals as goal

pub returns : goal.returns
returns c = record { contains = c.contains.ensures ∙ ap (contains_by (λ k. bytes_eq c.bytes.result.now k.now)) c.deref.ensures ∙ any_has (λ k. k.now) bytes_eq bytes_name c.bytes.result.now c.self.inside.names.value.keys ∙ ap₂ has_name c.bytes.ensures.bytes c.self.view_is }
