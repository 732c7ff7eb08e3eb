use Rattle.std.proofs.Common.{sym, subst}
use Rattle.def_meaning.specs.Rename.{rename}
use Rattle.def_tangent.specs.TangentOf.{own_part}
use Rattle.adj_sweep_assignment.specs.Sites.{naming_of}
use Rattle.adj_sweep_assignment.specs.Behind.{AreBehind}
use Rattle.adj_tangent.specs.Terms.{IsPart}
use Rattle.adj_tangent.proofs.Values.{some_value}
use Rattle.adj_tangent.proofs.terms.set_part.Goals as goal

pub returns-in_ok-made-in-Some : goal.returns-in_ok-made-in-Some
returns-in_ok-made-in-Some c =
    let r = naming_of c.args.site.now in
    let s0 = c.args.steps.now.items in
    let s1 = c.set_helper.new.steps.items in
    let made = c.in_ok-made-in-Some.ensures in
    record {
      tangent = λ b x h. subst (λ z. IsPart r z c.args.part c.args.temp c.in_ok-made-in-Some.made) (sym (some_value r b x c.args.value c.in-Some.x c.in-Some.is h).0) made.tangent;
      steps = λ b x h.
          let there = some_value r b x c.args.value c.in-Some.x c.in-Some.is h in
          subst (λ z. AreBehind (rename r (own_part z c.args.site.now.line c.args.part x)) s0 s1) (sym there.0) (made.steps x there.1);
    }
