use Rattle.std.proofs.Common.{ap, ap₂, map, ◌∙◌}
use Rattle.std.specs.Prelude.{not}
use Rattle.std.specs.Str.{bytes_eq}
use Rattle.def_meaning.specs.Apart.{has_name}
use Rattle.adj_sets.specs.Sets.{with_name}
use Rattle.adj_sets.proofs.NameSets.{bytes_name, any_has, added_named}
use Rattle.adj_sets.proofs.borrowed.BorrowedNames.insert.Goals as goal

pub returns-clause-added : goal.returns-clause-added
returns-clause-added c =
    c.in_ok-added.ensures.added ∙ ap not (any_has (λ k. k.now) bytes_eq bytes_name c.bytes.result.now c.deref_mut.result.now.keys ∙ ap₂ has_name c.bytes.ensures.bytes (ap (λ s. map (λ k. k.now) s.keys) c.deref_mut.ensures.value ∙ c.self.view_is))

pub returns-clause-names : goal.returns-clause-names
returns-clause-names c =
    ap (map (λ k. k.now)) c.in_ok-added.ensures.keys ∙ added_named (λ k. k.now) bytes_eq bytes_name c.args.name.now c.bytes.result c.deref_mut.result.now.keys c.bytes.ensures.bytes
    ∙ ap (λ xs. with_name xs c.args.name.now) (ap (λ s. map (λ k. k.now) s.keys) c.deref_mut.ensures.value ∙ c.self.view_is)
