-- What the analyses find meets the laws of a call.
use Rattle.std.proofs.Common.{◌≡◌, ◌⊎◌, inl, inr, ℕ, List, true, false, refl, sym, ap, subst}
use Rattle.std.specs.Prelude.{Contains}
use Rattle.adj_tree.specs.Code.{Var, plain, Terms}
use Rattle.def_meaning.specs.Read.{is_read}
use Rattle.def_names.specs.Numbers.{Vars}
use Rattle.def_names.specs.Numbering.{point_before, point_after}
use Rattle.def_sweep.specs.Facts.{In, Facts}
use Rattle.adj_reach.specs.Reached.{begins, leads}
use Rattle.def_flow.specs.Parts.{Part}
use Rattle.def_flow.specs.Standing.{Place, outermost, part_of, turn_of, Standing}
use Rattle.def_flow.specs.Problem.{Problem, CallsUnit, TakesPart, bound}
use Rattle.def_flow.specs.Uses.{site, turned_by, is_turn}
use Rattle.def_flow.specs.Flow as flow
use Rattle.def_flow.specs.Activity as activity
use Rattle.def_flow.specs.Live as live
use Rattle.def_flow.specs.Held as held
use Rattle.def_flow.specs.Analysed.{IsHeld}
use Rattle.law_flow.specs.Laws.{facts_of, AtCall}

-- the place of a turn
turn_place : (p : Place) → is_turn p ≡ true → (i : ℕ) × (x : Var) × (p ≡ turn_of i x)
turn_place outermost h = absurd cc
turn_place (part_of i) h = absurd cc
turn_place (turn_of i x) h = (i, x, refl)

module _ (k : Problem) (a : activity.Activity) (l : live.Liveness) (saved kept_held : ℕ → Vars) (isa : activity.IsActivity k a) (isl : live.IsLive k a l) (ish : IsHeld k a l kept_held) (iss : held.IsSaved k a l saved)
    (f g : Part) (part : TakesPart k f) (s : Standing) (args : Terms) (c : CallsUnit k f g s args) where
  abbrev w : Facts
  w = facts_of k a l saved kept_held f.number

  -- the unit that is called takes part
  called : TakesPart k g
  called = leads part (s, args, c)

  members : a.adjointed s.number ≡ true → (d : List ℕ) (v : Var) → Contains (bound g.unit.dummies args) (d, v) → turned_by s.place v ≡ false →
      (l.wanted g.number d ≡ true) ⊎ ((is_turn s.place ≡ true) × (is_read k.units g.unit d ≡ true)) → In v (l.needed (point_before (site true s.number s.place)))
  members h d v b t (inl e) = (isl.exact (live.needed (point_before (site true s.number s.place)) v)).1 (leads ((isl.exact (live.wanted g.number d)).0 e) (live.member part c h b t))
  members h d v b t (inr e) =
      let p = turn_place s.place e.0 in
      subst (λ n. In v (l.needed (point_before n))) (sym (ap (site true s.number) p.2)) ((isl.exact (live.needed (point_before p.0) v)).1 (begins (live.turns part c h p.2 b e.1 t)))

  pub at_call : AtCall k (l.wanted g.number) (a.shadowed g.number) w g s args
  at_call = record {
    keeps = λ v h n. (isl.exact (live.kept s.number)).1 (leads ((isl.exact (live.needed (point_after (site (a.adjointed s.number) s.number s.place)) v)).0 n) (live.handed part c h));
    members = members;
    enters = λ d v b h. (isa.varied g.entry (plain d)).1 (leads ((isa.varied (point_before s.number) v).0 h) (flow.passed part c b));
    leaves = λ d v b h. (isa.varied (point_after s.number) v).1 (leads ((isa.varied g.end (plain d)).0 h) (flow.handed part c b));
    asks = λ d v b h. (isa.useful g.end (plain d)).1 (leads ((isa.useful (point_after s.number) v).0 h) (flow.handed part c b));
    serves = λ d v b h. (isa.useful (point_before s.number) v).1 (leads ((isa.useful g.entry (plain d)).0 h) (flow.passed part c b));
    lends = λ d v b h. (isa.shadowed f.number v).1 (leads ((isa.shadowed g.number (plain d)).0 h) (activity.handed part c b));
    borrows = λ d v b h e. (isa.shadowed g.number (plain d)).1 (leads ((isa.shadowed f.number v).0 h) (activity.passed part c b e));
    adjoints = λ t m h. (isa.adjointed s.number).1 (leads (leads ((isa.adjointed t.number).0 h) (activity.inside called m)) (activity.called part c));
    holds = λ h d v b t r o e p x m from u. (ish.exact x.to v).1 (begins (held.read p m from (held.call part c h b t r o) u));
    splits = λ h. (isl.exact (live.kept s.number)).1 (begins (live.split part c.stands h));
    saves = λ h n v r e. (iss.exact (site (a.adjointed s.number) s.number s.place) v).1 (record { may = held.call part c h n r; held = inl ((ish.exact (point_before (site (a.adjointed s.number) s.number s.place)) v).0 e) });
  }
