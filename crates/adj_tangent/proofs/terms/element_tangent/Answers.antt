use Rattle.std.proofs.Common.{◌∙◌, refl, sym, ap, arith}
use Rattle.adj_tree.specs.Code.{plain, elem}
use Rattle.adj_sweep_assignment.specs.Sites.{naming_of}
use Rattle.adj_sweep_assignment.proofs.Plain.{terms_kept}
use Rattle.adj_tangent.proofs.terms.element_tangent.Goals as goal

pub returns : goal.returns
returns c =
    let r = naming_of c.args.site.now in
    record {
      tangent = record {
        part = omega arith;
        temp = omega arith;
        value = (sym c.is_active_name.ensures.active ∙ c.if-not-is_active_name.false, c.in_ok-value.ensures.element ∙ (λ i. elem (plain (c.in_ok-name.ensures.name i)) (sym (terms_kept r (λ x. refl) c.args.subs.now) i)));
      };
    }
