use Rattle.std.proofs.Common.{ap, sym, ◌∙◌}
use Rattle.adj_tree.specs.Code.{plain}
use Rattle.adj_tree.specs.View.{terms_of}
use Rattle.def_meaning.proofs.Variables.{var_refl}
use Rattle.def_sweep.specs.Facts.{whole}
use Rattle.adj_activity.proofs.adjointed.is_whole.Goals as goal

pub returns-in-Empty : goal.returns-in-Empty
returns-in-Empty c =
    let x = plain c.args.target.now.name in
    record { whole = sym (ap (λ s. whole x (terms_of s) x) c.in-Empty.is ∙ var_refl x) }
