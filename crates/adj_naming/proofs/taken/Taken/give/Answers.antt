use Rattle.std.proofs.Common.{◌≡◌, ◌++◌, ◌∷◌, [], ap, sym, ◌∙◌, append_assoc}
use Rattle.def_names.specs.Fresh.{fresh}
use Rattle.adj_sets.specs.Sets.{with_added}
use Rattle.adj_naming.proofs.Added.{fresh_behind}
use Rattle.adj_naming.proofs.taken.Taken.give.Goals as goal

pub returns-clause-taken : goal.returns-clause-taken
returns-clause-taken c =
    let shared = c.self.inside.shared.now in
    let own = c.self.inside.own in
    let name = c.in_ok-name.name in
    let is : name ≡ fresh c.args.base.now (shared ++ own) = c.in_ok-name.ensures.name ∙ ap (fresh c.args.base.now) (sym c.self.view_is) in
    ap (λ z. shared ++ z) (c.in_ok-add.ensures.added ∙ ap (λ z. with_added z own) c.bytes.ensures.bytes ∙ fresh_behind c.args.base.now name shared own is)
    ∙ sym (append_assoc shared own (name ∷ [])) ∙ ap (λ z. z ++ (name ∷ [])) c.self.view_is
