-- What an assignment uses.
use Rattle.std.proofs.Common.{◌≡◌, Bool, true, false, refl, sym, ap, ◌∙◌, if◌then◌else◌}
use Rattle.std.specs.Prelude.{◌&&◌}
use Rattle.adj_tree.specs.Code.{Var, Term, Terms, assign}
use Rattle.def_names.specs.Numbers.{Vars}
use Rattle.def_sweep.specs.Occurrences.{is_active_where}
use Rattle.def_sweep.specs.AdjointOf.{temps_in_where}
use Rattle.def_tangent.specs.TangentOf.{parts_in_where}
use Rattle.adj_tangent.specs.declared.uses.Counts.{Counts}
use Rattle.adj_tangent.specs.declared.uses.Used.{Used}
use Rattle.adj_tangent.specs.Counts.{AreCounts, UsesAct}
use Rattle.adj_tangent.proofs.Passive.{passive}

-- a term that isn't active has no temporaries
only_active : (on : Vars) (e : Term) → temps_in_where on e ≡ (if is_active_where on e then temps_in_where on e else 0)
only_active on e = go (is_active_where on e) refl
  where
    go : (b : Bool) → is_active_where on e ≡ b → temps_in_where on e ≡ (if b then temps_in_where on e else 0)
    go true h = refl
    go false h = let p = passive on e h in p.temps

-- before an assignment to a variable that carries a tangent stands what its right side uses
pub uses_active : (on : Vars) (x : Var) (subs : Terms) (e : Term) (c : Counts) (u : Used) → on x ≡ true → AreCounts on e c → u.parts ≡ c.parts → u.temps ≡ c.temps → UsesAct on (assign x subs e) u
uses_active on x subs e c u h k p t = record {
  parts = p ∙ k.parts ∙ ap (λ b. if b then parts_in_where on e else 0) (sym h);
  temps = t ∙ k.temps ∙ only_active on e ∙ ap (λ b. if b && is_active_where on e then temps_in_where on e else 0) (sym h);
}
