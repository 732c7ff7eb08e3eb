use Rattle.std.proofs.Common.{ap, ap₂, ◌∙◌}
use Rattle.std.specs.Prelude.{position}
use Rattle.std.specs.Str.{bytes_eq}
use Rattle.adj_tree.specs.Code.{name_eq}
use Rattle.adj_sets.proofs.NameSets.{bytes_name, position_named}
use Rattle.adj_sets.proofs.borrowed.BorrowedNames.place.Goals as goal

pub returns : goal.returns
returns c = record { place = c.get_index_of.ensures.index ∙ ap (λ s. position (λ k. bytes_eq c.bytes.result.now k.now) s.keys) c.deref.ensures ∙ position_named (λ k. k.now) bytes_eq bytes_name c.bytes.result.now c.self.inside.names.value.keys ∙ ap₂ (λ x xs. position (name_eq x) xs) c.bytes.ensures.bytes c.self.view_is }
