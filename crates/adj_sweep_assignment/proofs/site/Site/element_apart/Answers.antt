use Rattle.std.proofs.Common.{◌∙◌, refl, sym, ap}
use Rattle.adj_tree.specs.Code.{plain, elem}
use Rattle.adj_tree.specs.View.{term_of}
use Rattle.adj_sweep_assignment.specs.Sites.{naming_of, active_in}
use Rattle.adj_sweep_assignment.proofs.Elements.{element_passive, element_active}
use Rattle.adj_sweep_assignment.proofs.site.Site.element_apart.Goals as goal

pub returns-then-not-is_active_name : goal.returns-then-not-is_active_name
returns-then-not-is_active_name c =
    let site = c.args.self.now in
    record {
      parts = element_passive (naming_of site) (λ y. refl) (active_in site) site.line c.args.x.now c.args.subs.now c.args.first _
          (sym c.is_active_name.ensures.active ∙ c.if-not-is_active_name.true) refl refl (ap term_of c.in_ok-term.ensures.boxed ∙ (λ i. elem (plain (c.in_ok-name.ensures.same i)) (c.in_ok-subscripts.ensures.equal i))) c.in_ok-nothing.ensures.boxed;
    }

pub returns : goal.returns
returns c =
    let site = c.args.self.now in
    record {
      parts = element_active (naming_of site) (λ y. refl) (active_in site) site.line c.args.x.now c.args.subs.now c.args.first _ c.in_ok-shadow.shadow c.in_ok-places.places
          (sym c.is_active_name.ensures.active ∙ c.if-not-is_active_name.false) refl refl (ap term_of c.in_ok-term.ensures.boxed ∙ (λ i. elem (plain (c.in_ok-name.ensures.same i)) (c.in_ok-subscripts.ensures.equal i))) c.in_ok-share.ensures.boxed
          (ap plain c.in_ok-shadow.ensures.name) c.in_ok-places.ensures.equal;
    }
