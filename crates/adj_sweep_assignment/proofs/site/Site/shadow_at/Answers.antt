use Rattle.std.proofs.Common.{refl, rules}
use Rattle.adj_sweep_assignment.specs.Sites.{naming_of}
use Rattle.adj_sweep_assignment.proofs.Plain.{terms_kept}
use Rattle.adj_sweep_assignment.proofs.site.Site.shadow_at.Goals as goal

pub returns-in_ok-made-in-More : goal.returns-in_ok-made-in-More
returns-in_ok-made-in-More c = rw c.in-More.is (search (rules, terms_kept (naming_of c.args.self.now) (λ x. refl) c.in_ok-subs-in-More.subs.value))
