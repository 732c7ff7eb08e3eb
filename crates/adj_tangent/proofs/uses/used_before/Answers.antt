use Rattle.std.proofs.Common.{◌∙◌, sym, refl}
use Rattle.adj_tree.specs.Code.{plain}
use Rattle.adj_tree.specs.View.{term_of, terms_of}
use Rattle.adj_tangent.specs.Plans.{active_by}
use Rattle.adj_tangent.proofs.Counting.{uses_active}
use Rattle.adj_tangent.proofs.uses.used_before.Goals as goal

pub returns : goal.returns
returns c =
    let counts = c.in_ok-counts.counts in
    record {
      used = uses_active (active_by c.args.marking.now) (plain c.args.target.now.name) (terms_of c.args.target.now.subs) (term_of c.args.e.now) counts (record { parts = counts.parts; temps = counts.temps })
          (sym c.active.ensures.active ∙ c.if-not-active.false) c.in_ok-counts.ensures.counts refl refl;
    }
