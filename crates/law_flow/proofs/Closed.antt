-- What the analyses find meets the laws: most laws are a rule, seen through the exactness of the sets.
use Rattle.std.proofs.Common.{◌≡◌, ◌⊎◌, inl, inr, ℕ, List, true, refl, sym, ap, ◌∙◌}
use Rattle.std.specs.Prelude.{Contains}
use Rattle.adj_tree.specs.Code.{Var, plain, Terms, Term, Test, Code, Mark, assign, choose, loop, during, call}
use Rattle.def_names.specs.Numbers.{Vars}
use Rattle.def_names.specs.Numbering.{point_before, point_inside}
use Rattle.def_sweep.specs.Facts.{In, Facts}
use Rattle.adj_reach.specs.Reached.{begins, leads}
use Rattle.def_flow.specs.Parts.{Part}
use Rattle.def_flow.specs.Ways.{Way, assigned_on}
use Rattle.def_flow.specs.Standing.{Standing}
use Rattle.def_flow.specs.Problem.{Problem, statements_of, ways_of, TakesPart}
use Rattle.def_flow.specs.Activity as activity
use Rattle.def_flow.specs.Uses.{use_point}
use Rattle.def_flow.specs.Live as live
use Rattle.def_flow.specs.Held as held
use Rattle.def_flow.specs.Analysed.{IsHeld}
use Rattle.law_flow.specs.Laws.{facts_of, OnWay, AtHolder, AtKept, AtBranch, AtLoop, InUnit, OnEntry}
use Rattle.law_flow.proofs.Active.{varies_on, serves_on, shadows_in}
use Rattle.def_flow.proofs.Sets.{left_in, left_out, and_both}
use Rattle.def_flow.proofs.Numbers.{one_statement}

module _ (k : Problem) (a : activity.Activity) (l : live.Liveness) (saved kept_held : ℕ → Vars) (isa : activity.IsActivity k a) (isl : live.IsLive k a l) (ish : IsHeld k a l kept_held) (iss : held.IsSaved k a l saved) (g : Part) (part : TakesPart k g) where
  abbrev w : Facts
  w = facts_of k a l saved kept_held g.number

  pub on_way : (x : Way) → Contains (ways_of g) x → OnWay w x
  on_way x c = record {
    needs = λ v h. (isl.exact (live.needed x.from v)).1 (leads ((isl.exact (live.needed x.to v)).0 (left_in (l.needed x.to) (assigned_on x.deed) v h)) (live.stays part c (left_out (l.needed x.to) (assigned_on x.deed) v h)));
    holds = λ v h. (ish.exact x.to v).1 (leads ((ish.exact x.from v).0 (left_in (kept_held x.from) (held.replaced_on l.kept x.deed) v h)) (held.stays part c (left_out (kept_held x.from) (held.replaced_on l.kept x.deed) v h)));
    varies = varies_on k a isa g part x c;
    serves = serves_on k a isa g part x c;
  }

  pub at_holder : (s : Standing) → Contains (statements_of g) s → AtHolder w s
  at_holder s c = record { keeps = keeps; adjoints = λ i h e. (isa.adjointed i).1 (leads ((isa.adjointed s.number).0 e) (activity.held part c h)) }
    where
      keeps : (i : ℕ) → activity.Holds i s.place → (l.kept s.number ≡ true) ⊎ (a.adjointed s.number ≡ true) → l.kept i ≡ true
      keeps i h (inl e) = (isl.exact (live.kept i)).1 (leads ((isl.exact (live.kept s.number)).0 e) (live.held part c h))
      keeps i h (inr e) = (isl.exact (live.kept i)).1 (begins (live.holds part c e h))

  pub at_kept : (s : Standing) → Contains (statements_of g) s → AtKept k.units w s
  at_kept s c e v h = (isl.exact (live.needed (use_point s.number s.act) v)).1 (leads ((isl.exact (live.kept s.number)).0 e) (live.used part c h))

  -- what is varied at a point and useful at a point of the unit has a shadow
  pub shadows : (p q : ℕ) (v : Var) → activity.IsPoint g p → activity.IsPoint g q → In v (a.varied p) → In v (a.useful q) → In v (a.shadowed g.number)
  shadows = shadows_in k a isa g part

  pub in_unit : InUnit w g
  in_unit = record { shadows = shadows; ways = on_way; holders = at_holder }

  pub on_entry : OnEntry (l.wanted g.number) w g
  on_entry = record {
    enters = λ d c h. (isl.exact (live.wanted g.number d)).1 (leads ((isl.exact (live.needed g.entry (plain d))).0 h) (live.entered part c));
    extents = λ d c h. (isl.exact (live.wanted g.number d)).1 (begins (live.extents part c h));
  }

  -- ---- a DO

  -- an adjointed statement that holds others is kept: it holds an adjointed one, or resets a shadow
  module _ (s : Standing) (c : Contains (statements_of g) s) where
    adjointed_kept : (n : ℕ) → n ≡ s.number → ((x : Var) (subs : Terms) (e : Term) → s.act ≡ assign x subs e → ⊥) → ((name : List ℕ) (args : Terms) → s.act ≡ call name args → ⊥) → activity.Adjointed k a (activity.statement n) → l.kept n ≡ true
    adjointed_kept n e na nc (begins (activity.assignment {g = f} {s = t} p d ac h)) =
        absurd (let o = one_statement k f g t s p part d c e in na _ _ _ (ap (λ z. z.act) (sym o.1) ∙ ac))
    adjointed_kept n e na nc (begins (activity.reset {g = f} {s = t} p d ac h)) = (isl.exact (live.kept n)).1 (begins (live.counts p d ac h))
    adjointed_kept n e na nc (leads r (activity.held {g = f} {s = t} p d h)) = (isl.exact (live.kept n)).1 (begins (live.holds p d ((isa.adjointed t.number).1 r) h))
    adjointed_kept n e na nc (leads r (activity.called {f = f} {t = t} p d)) =
        absurd (let o = one_statement k f g t s p part d.stands c e in nc d.name _ (ap (λ z. z.act) (sym o.1) ∙ d.act))

    pub at_branch : (q : Test) (c1 c2 : Code) → s.act ≡ choose q c1 c2 → AtBranch w s.number
    at_branch q c1 c2 e = record { keeps = λ h. adjointed_kept s.number refl (λ x subs f i. let o : choose q c1 c2 ≡ assign x subs f = sym e ∙ i in cc) (λ n args i. let o : choose q c1 c2 ≡ call n args = sym e ∙ i in cc) ((isa.adjointed s.number).0 h) }

    pub at_while : (q : Test) (body : Code) → s.act ≡ during q body → AtBranch w s.number
    at_while q body e = record { keeps = λ h. adjointed_kept s.number refl (λ x subs f i. let o : during q body ≡ assign x subs f = sym e ∙ i in cc) (λ n args i. let o : during q body ≡ call n args = sym e ∙ i in cc) ((isa.adjointed s.number).0 h) }

    pub at_loop : (x : Var) (first last by : Term) (body : Code) (m : Mark) → s.act ≡ loop x first last by body m → AtLoop w s.number x
    at_loop x first last by body m e = record {
      keeps = λ h. (isl.exact (live.kept s.number)).1 (leads ((isl.exact (live.needed (point_inside s.number) x)).0 h) (live.indexed part c e));
      resets = λ h v. let r : activity.resets a g.number s.number x ≡ true = and_both h v in
          ((isa.adjointed s.number).1 (begins (activity.reset part c e r)), (isl.exact (live.kept s.number)).1 (begins (live.counts part c e r)));
      branch = record { keeps = λ h. adjointed_kept s.number refl (λ x' subs f i. let o : loop x first last by body m ≡ assign x' subs f = sym e ∙ i in cc) (λ n args i. let o : loop x first last by body m ≡ call n args = sym e ∙ i in cc) ((isa.adjointed s.number).0 h) };
      saves = λ h v. (iss.exact s.number x).1 (record { may = held.counter part c e h; held = inl ((ish.exact (point_before s.number) x).0 v) });
    }
