use Rattle.std.proofs.Common.{◌∙◌, ap, sym}
use Rattle.std.specs.Prelude.{◌||◌}
use Rattle.def_meaning.specs.Apart.{has_name}
use Rattle.adj_sets.proofs.NameSets.{has-behind}
use Rattle.adj_naming.proofs.taken.Taken.has.Goals as goal

-- the name is in one of the sets, or in none
pub returns-then-has : goal.returns-then-has
returns-then-has c =
    let x = c.args.name.now in
    record { found = c.if-has.true ∙ ap (λ b. b || has_name x c.self.inside.own) (sym c.if-has.true ∙ c.has.ensures.found) ∙ sym (has-behind x c.self.inside.shared.now c.self.inside.own) ∙ ap (has_name x) c.self.view_is }

pub returns-else-has : goal.returns-else-has
returns-else-has c =
    let x = c.args.name.now in
    record { found = c.has-else-has.ensures.found ∙ ap (λ b. b || has_name x c.self.inside.own) (sym c.if-has.false ∙ c.has.ensures.found) ∙ sym (has-behind x c.self.inside.shared.now c.self.inside.own) ∙ ap (has_name x) c.self.view_is }
