-- What the activity says meets the laws on derivatives, whatever is kept and saved.
use Rattle.std.proofs.Common.{◌≡◌, ℕ, [], true, false, refl, sym, ap, ◌∙◌}
use Rattle.std.specs.Prelude.{Contains}
use Rattle.adj_tree.specs.Code.{Var, Terms, none, more, Term, assign}
use Rattle.def_names.specs.Numbering.{point_before, point_after}
use Rattle.def_sweep.specs.Facts.{In, without, is_adjointed, Within}
use Rattle.adj_reach.specs.Reached.{begins, leads}
use Rattle.def_flow.specs.Parts.{Part}
use Rattle.def_flow.specs.Ways.{Deed, passing, assigning, Way, way, assigned_on, passed_on, act_ways}
use Rattle.def_flow.specs.Standing.{Place, Standing}
use Rattle.def_flow.specs.Problem.{Problem, statements_of, ways_of, TakesPart}
use Rattle.def_flow.specs.Flow as flow
use Rattle.def_flow.specs.Activity as activity
use Rattle.adj_reach.proofs.Members.{is_first}
use Rattle.def_flow.proofs.Sets.{left_in, left_out, same_truth}
use Rattle.def_flow.proofs.Numbers.{one_statement}
use Rattle.def_flow.proofs.Holders.{is_block, holder_of}
use Rattle.def_flow.proofs.Placed.{way_of_statement}
use Rattle.def_sweep.specs.Occurrences.{occurring}

-- what an assignment does on its way
abbrev pub deed_of : ℕ → Var → Terms → Deed
deed_of i x none = assigning i x
deed_of i x (more j js) = passing

module _ (k : Problem) (a : activity.Activity) (isa : activity.IsActivity k a) (g : Part) (part : TakesPart k g) where
  pub varies_on : (x : Way) → Contains (ways_of g) x → Within (without (without (a.varied x.from) (assigned_on x.deed)) (passed_on x.deed)) (a.varied x.to)
  varies_on x c v h = (isa.varied x.to v).1 (leads ((isa.varied x.from v).0 (left_in (a.varied x.from) (assigned_on x.deed) v (left_in (without (a.varied x.from) (assigned_on x.deed)) (passed_on x.deed) v h)))
      (flow.stays part c (left_out (a.varied x.from) (assigned_on x.deed) v (left_in (without (a.varied x.from) (assigned_on x.deed)) (passed_on x.deed) v h)) (left_out (without (a.varied x.from) (assigned_on x.deed)) (passed_on x.deed) v h)))

  pub serves_on : (x : Way) → Contains (ways_of g) x → Within (without (without (a.useful x.to) (assigned_on x.deed)) (passed_on x.deed)) (a.useful x.from)
  serves_on x c v h = (isa.useful x.from v).1 (leads ((isa.useful x.to v).0 (left_in (a.useful x.to) (assigned_on x.deed) v (left_in (without (a.useful x.to) (assigned_on x.deed)) (passed_on x.deed) v h)))
      (flow.stays part c (left_out (a.useful x.to) (assigned_on x.deed) v (left_in (without (a.useful x.to) (assigned_on x.deed)) (passed_on x.deed) v h)) (left_out (without (a.useful x.to) (assigned_on x.deed)) (passed_on x.deed) v h)))

  -- what is varied at a point and useful at a point of the unit has a shadow
  pub shadows_in : (p q : ℕ) (v : Var) → activity.IsPoint g p → activity.IsPoint g q → In v (a.varied p) → In v (a.useful q) → In v (a.shadowed g.number)
  shadows_in p q v x y f h = (isa.shadowed g.number v).1 (begins (activity.active part x y f h))

module _ (k : Problem) (a : activity.Activity) (isa : activity.IsActivity k a) (g : Part) (part : TakesPart k g) (i : ℕ) (at : Place) (x : Var) (subs : Terms) (e : Term) (c : Contains (statements_of g) (record { number = i; place = at; act = assign x subs e })) where
  abbrev s : Standing
  s = record { number = i; place = at; act = assign x subs e }

  abbrev here : Way
  here = way (point_before i) (point_after i) (deed_of i x subs)

  own_way : (subs : Terms) → Contains (act_ways i (assign x subs e)) (way (point_before i) (point_after i) (deed_of i x subs))
  own_way none = is_first (way (point_before i) (point_after i) (assigning i x)) (way (point_before i) (point_after i) (assigning i x)) [] refl
  own_way (more j js) = is_first (way (point_before i) (point_after i) passing) (way (point_before i) (point_after i) passing) [] refl

  pub is_way : Contains (ways_of g) (way (point_before i) (point_after i) (deed_of i x subs))
  is_way = way_of_statement g s here c (own_way subs)

  -- an assignment is adjointed for its own sake alone: it holds no statement, and isn't a call or a DO
  pub adjointed_test : (n : ℕ) → n ≡ i → activity.Adjointed k a (activity.statement n) → is_adjointed (activity.activity_marks a g.number) i x subs ≡ true
  adjointed_test n q (begins (activity.assignment {g = f} {s = t} {x = y} {subs = js} {e = r} p d ac h)) =
      let o : (f ≡ g) × (t ≡ s) = one_statement k f g t s p part d c q in
      let m : assign y js r ≡ assign x subs e = sym ac ∙ ap (λ (z : Standing). z.act) o.1 in
      let yx : y ≡ x = cc in
      let same : js ≡ subs = cc in
      sym (λ j. is_adjointed (activity.activity_marks a (o.0 j).number) (q j) (yx j) (same j)) ∙ h
  adjointed_test n q (begins (activity.reset {g = f} {s = t} p d ac h)) =
      absurd (let o : (f ≡ g) × (t ≡ s) = one_statement k f g t s p part d c q in let m = sym ac ∙ ap (λ (z : Standing). z.act) o.1 in cc)
  adjointed_test n q (leads r (activity.held {g = f} {s = t} p d h)) =
      absurd (let b = holder_of f t n d h in let o : (f ≡ g) × (b.0 ≡ s) = one_statement k f g b.0 s p part b.1 c (b.2 ∙ q) in let m : is_block b.0.act ≡ is_block s.act = ap (λ (z : Standing). is_block z.act) o.1 in let u : true ≡ false = sym b.3 ∙ m in cc)
  adjointed_test n q (leads r (activity.called {f = f} {t = t} p d)) =
      absurd (let o : (f ≡ g) × (t ≡ s) = one_statement k f g t s p part d.stands c q in let u = sym d.act ∙ ap (λ (z : Standing). z.act) o.1 in cc)

  pub adjoints_at : a.adjointed i ≡ is_adjointed (activity.activity_marks a g.number) i x subs
  adjoints_at = same_truth (a.adjointed i) (is_adjointed (activity.activity_marks a g.number) i x subs) (λ h. adjointed_test i refl ((isa.adjointed i).0 h)) (λ h. (isa.adjointed i).1 (begins (activity.assignment part c refl h)))

  pub target_varies : (v : Var) → In v (occurring e) → In v (a.varied (point_before i)) → In x (a.varied (point_after i))
  target_varies v o h = (isa.varied (point_after i) x).1 (leads ((isa.varied (point_before i) v).0 h) (flow.assigned part c refl o))

  pub target_serves : (v : Var) → In v (occurring e) → In x (a.useful (point_after i)) → In v (a.useful (point_before i))
  target_serves v o h = (isa.useful (point_before i) v).1 (leads ((isa.useful (point_after i) x).0 h) (flow.assigned part c refl o))
