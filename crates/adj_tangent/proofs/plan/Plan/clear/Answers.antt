use Rattle.std.proofs.Common.{◌≡◌, ◌∷◌, [], true, false, ◌∙◌, sym, subst, ap, if◌then◌else◌}
use Rattle.std.specs.Prelude.{pos}
use Rattle.adj_tree.specs.Code.{shadow, none, lit, assign, runtime, zero_array, stop}
use Rattle.def_meaning.specs.Apart.{has_name}
use Rattle.def_meaning.specs.Append.{◌+++◌, one}
use Rattle.def_meaning.specs.Rename.{rename}
use Rattle.adj_sweep_assignment.specs.Behind.{AreBehind}
use Rattle.adj_tangent.specs.Plans.{naming_in}
use Rattle.adj_tangent.proofs.plan.Plan.clear.Goals as goal

pub returns-then-has : goal.returns-then-has
returns-then-has c =
    let r = naming_in c.args.self.now in
    let x = c.args.x.now in
    let line = c.args.line in
    let there : has_name x c.args.arrays.now ≡ true = sym (c.has.ensures.found ∙ ap (λ z. has_name z c.args.arrays.now) c.bytes.ensures.bytes) ∙ c.if-has.true in
    record {
      steps = subst (λ b. AreBehind (rename r ((if b then one line (runtime (zero_array (shadow x))) else one line (assign (shadow x) none (lit (pos 0)))) +++ stop)) c.args.steps.now.items c.clear_array.new.steps.items) (sym there) c.in_ok-made.ensures.steps;
    }

pub returns : goal.returns
returns c =
    let r = naming_in c.args.self.now in
    let x = c.args.x.now in
    let line = c.args.line in
    let there : has_name x c.args.arrays.now ≡ false = sym (c.has.ensures.found ∙ ap (λ z. has_name z c.args.arrays.now) c.bytes.ensures.bytes) ∙ c.if-has.false in
    record {
      steps = subst (λ b. AreBehind (rename r ((if b then one line (runtime (zero_array (shadow x))) else one line (assign (shadow x) none (lit (pos 0)))) +++ stop)) c.args.steps.now.items c.clear_scalar.new.steps.items) (sym there) c.in_ok-made-2.ensures.steps;
    }
