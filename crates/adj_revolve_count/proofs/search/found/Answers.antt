use Rattle.std.proofs.Common.{refl, sym, ◌∙◌, ap, subst, arith}
use Rattle.adj_revolve_count.specs.Rows.{IsSought, sought, search_steps}
use Rattle.adj_revolve_count.proofs.search.found.Goals as goal

pub each-init : goal.each-init
each-init c = record { sound = c.requires; same = refl }

pub returns-in-Found : goal.returns-in-Found
returns-in-Found c = sym (ap sought c.in-Found.is) ∙ c.each.invariant.same

pub shortened-requires-clause-row : goal.shortened-requires-clause-row
shortened-requires-clause-row c = (subst IsSought c.in-Within.is c.each.invariant.sound).0

pub shortened-requires-clause-left : goal.shortened-requires-clause-left
shortened-requires-clause-left c = (subst IsSought c.in-Within.is c.each.invariant.sound).2

pub in_row-search-requires-clause-some : goal.in_row-search-requires-clause-some
in_row-search-requires-clause-some c = (subst IsSought c.in-Within.is c.each.invariant.sound).1

pub each-preserved : goal.each-preserved
each-preserved c = record {
  sound = c.in_row-search.ensures.sound;
  same = c.in_row-search.ensures.sought ∙ (c.shortened.ensures.same ∙ (sym (ap sought c.in-Within.is) ∙ c.each.invariant.same));
}

pub each-smaller : goal.each-smaller
each-smaller c = omega (arith, c.in_row-search.ensures.less, c.shortened.ensures.steps, ap search_steps c.in-Within.is)
