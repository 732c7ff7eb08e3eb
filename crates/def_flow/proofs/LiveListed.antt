-- The lists have what is needed, kept and wanted by the activity, and what that makes so.
use Rattle.std.proofs.Common.{◌≡◌, ◌⊎◌, inl, inr, ℕ, List, [], ◌∷◌, ◌++◌, Bool, true, false, refl, sym, ap, ◌∙◌, subst}
use Rattle.std.specs.Prelude.{Contains, not, ◌&&◌, ◌||◌, map, flat_map, filter}
use Rattle.std.proofs.lemmas.List.Elements.{Contains-append_left, Contains-append_right, Contains-append_cases}
use Rattle.adj_tree.specs.Code.{Var, plain, var_eq, Terms, Term, Act, assign, choose, loop, during, call, runtime}
use Rattle.def_meaning.specs.Read.{is_extent, is_read}
use Rattle.def_meaning.specs.Written.{act_writes, handed_back}
use Rattle.def_names.specs.Numbering.{point_before, point_after, point_inside}
use Rattle.def_sweep.specs.Marks.{active_at}
use Rattle.def_sweep.specs.Facts.{In, joined, in_terms}
use Rattle.def_flow.specs.Parts.{Part, parts}
use Rattle.def_flow.specs.Ways.{assigned_on}
use Rattle.def_flow.specs.Standing.{Place, outermost, part_of, turn_of, Standing}
use Rattle.def_sweep.specs.Occurrences.{adjoint_reads}
use Rattle.def_names.specs.VariableLists.{list_if, vars_in, vars_in_terms, used_in, handed_in, standing_in}
use Rattle.def_flow.specs.AdjointReads.{adjoint_reads_in}
use Rattle.def_flow.specs.Problem.{Problem, statements_of, ways_of, CallsUnit, TakesPart, bound}
use Rattle.def_flow.specs.Activity.{Activity, activity_marks, Holds, resets, IsPoint}
use Rattle.def_flow.specs.Uses.{use_point, site, turned_by}
use Rattle.def_flow.specs.Live as live
use Rattle.def_flow.specs.Live.{Fact}
use Rattle.def_flow.specs.Rules.{Scope, Covers, called, at_actuals, holders, live_starts_by, live_turned, live_starts_at, live_starts, live_stays, live_assigned, live_member, live_called, live_steps_at, live_steps}
use Rattle.adj_reach.proofs.Members.{is_first, is_later, is_none, is_only, map_has, map_only, flat_has, flat_only, filter_has, filter_only}
use Rattle.def_names.proofs.Conditioned.{if_has, if_only}
use Rattle.def_flow.proofs.AsLists.{AreLists}
use Rattle.def_flow.proofs.Scoped.{called_has, called_only, actuals_have, actuals_only, holders_have, holders_only}
use Rattle.def_flow.proofs.Sets.{both, and_both, isnt}
use Rattle.def_names.proofs.VariableLists.{has_only, has_it, has_append, has_vars_terms, has_used, has_handed, used_stands}
use Rattle.def_flow.proofs.AdjointReads.{has_adjoint_reads, adjoint_reads_stand}
use Rattle.def_flow.proofs.Holders.{holder_of}
use Rattle.def_flow.proofs.OwnPoints.{own_before, use_is_point}
use Rattle.def_flow.proofs.FlowListed as flowing

module _ (k : Problem) (o : Scope) (y : Covers k o) (a : Activity) where
  -- a variable that is needed at a point is one of the unit there
  abbrev pub IsKnown : Fact → Type 0
  IsKnown (live.needed p v) = flowing.IsKnown k o y (p, v)
  IsKnown (live.kept i) = Unit {0}
  IsKnown (live.wanted u d) = Unit {0}

  -- ---- what the variables are

  reads_here : (g : Part) (i : ℕ) (subs : Terms) (e : Term) (v : Var) → In v (joined (adjoint_reads (active_at (activity_marks a g.number) i) e) (in_terms subs)) → Contains (adjoint_reads_in (active_at (activity_marks a g.number) i) e ++ vars_in_terms subs) v
  reads_here g i subs e v h =
      has_only (adjoint_reads_in (active_at (activity_marks a g.number) i) e ++ vars_in_terms subs) v
      (has_append (adjoint_reads_in (active_at (activity_marks a g.number) i) e) (vars_in_terms subs) v ∙ (λ j. has_adjoint_reads (active_at (activity_marks a g.number) i) v e j || has_vars_terms v subs j) ∙ h)

  reads_there : (g : Part) (i : ℕ) (subs : Terms) (e : Term) (v : Var) → Contains (adjoint_reads_in (active_at (activity_marks a g.number) i) e ++ vars_in_terms subs) v → In v (joined (adjoint_reads (active_at (activity_marks a g.number) i) e) (in_terms subs))
  reads_there g i subs e v c =
      sym (has_append (adjoint_reads_in (active_at (activity_marks a g.number) i) e) (vars_in_terms subs) v ∙ (λ j. has_adjoint_reads (active_at (activity_marks a g.number) i) v e j || has_vars_terms v subs j))
      ∙ has_it (adjoint_reads_in (active_at (activity_marks a g.number) i) e ++ vars_in_terms subs) v c

  reads_stand : (g : Part) (s : Standing) (x : Var) (subs : Terms) (e : Term) (v : Var) → TakesPart k g → Contains (statements_of g) s → s.act ≡ assign x subs e →
      Contains (adjoint_reads_in (active_at (activity_marks a g.number) s.number) e ++ vars_in_terms subs) v → Contains (o.variables g) v
  reads_stand g s x subs e v p c h m =
      y.standing g p s c v (subst (λ b. Contains (standing_in b) v) (sym h) (is_later v x (vars_in_terms subs ++ vars_in e) (go (Contains-append_cases (adjoint_reads_in (active_at (activity_marks a g.number) s.number) e) (vars_in_terms subs) v m))))
    where
      go : Contains (adjoint_reads_in (active_at (activity_marks a g.number) s.number) e) v ⊎ Contains (vars_in_terms subs) v → Contains (vars_in_terms subs ++ vars_in e) v
      go (inl d) = Contains-append_right (vars_in_terms subs) (vars_in e) v (adjoint_reads_stand (active_at (activity_marks a g.number) s.number) v e d)
      go (inr d) = Contains-append_left (vars_in_terms subs) (vars_in e) v d

  pub handed_here : (f g : Part) (s : Standing) (args : Terms) (v : Var) → CallsUnit k f g s args → act_writes (handed_back k.units) v s.act ≡ true → Contains (handed_in k.units s.act) v
  handed_here f g s args v c h =
      let w : act_writes (handed_back k.units) v (call c.name args) ≡ true = ap (λ b. act_writes (handed_back k.units) v b) (sym c.act) ∙ h in
      subst (λ b. Contains (handed_in k.units b) v) (sym c.act) (has_only (handed_in k.units (call c.name args)) v (has_handed v (handed_back k.units c.name) args ∙ w))

  pub handed_there : (f g : Part) (s : Standing) (args : Terms) (v : Var) → CallsUnit k f g s args → Contains (handed_in k.units s.act) v → act_writes (handed_back k.units) v s.act ≡ true
  handed_there f g s args v c m =
      let w : act_writes (handed_back k.units) v (call c.name args) ≡ true =
      sym (has_handed v (handed_back k.units c.name) args) ∙ has_it (handed_in k.units (call c.name args)) v (subst (λ b. Contains (handed_in k.units b) v) c.act m) in
      ap (λ b. act_writes (handed_back k.units) v b) c.act ∙ w

  -- before the statement at which a call does its work there is a point of its unit
  pub site_point : (f : Part) (s : Standing) (b : Bool) → Contains (statements_of f) s → IsPoint f (point_before (site b s.number s.place))
  site_point f s b c = go s.place refl b
    where
      go : (p : Place) → s.place ≡ p → (b : Bool) → IsPoint f (point_before (site b s.number p))
      go outermost e b = own_before f s c
      go (part_of i) e b = own_before f s c
      go (turn_of i x) e true = let u = holder_of f s i c (subst (λ q. Holds i q) (sym e) refl) in subst (λ n. IsPoint f (point_before n)) u.2 (own_before f u.0 u.1)
      go (turn_of i x) e false = own_before f s c

  -- ---- beginnings

  abbrev unit_starts : Part → List Fact
  unit_starts g = map (live.wanted g.number) (filter (λ d. is_extent d g.unit.declarations) g.unit.dummies)

  starts_in : (g : Part) (s : Standing) (x : Fact) → TakesPart k g → Contains (statements_of g) s → Contains (live_starts_at k a g.number s) x → Contains (live_starts k a o) x
  starts_in g s x p c m =
      flat_has (λ h. unit_starts h ++ flat_map (live_starts_at k a h.number) (statements_of h)) o.parts g x ((y.parts g).1 p)
      (Contains-append_right (unit_starts g) (flat_map (live_starts_at k a g.number) (statements_of g)) x (flat_has (live_starts_at k a g.number) (statements_of g) s x c m))

  abbrev later_starts : Standing → List Fact
  later_starts s = list_if (a.adjointed s.number) (list_if (k.split s.number) (live.kept s.number ∷ []) ++ (map live.kept (holders s.place) ++ flat_map (at_actuals (live_turned k s.place)) (called (parts k.units) s.act)))

  own_starts : (g : Part) (s : Standing) (x : Fact) (b : Act) → TakesPart k g → Contains (statements_of g) s → s.act ≡ b → Contains (live_starts_by a g.number s.number b) x → Contains (live_starts k a o) x
  own_starts g s x b p c h m = starts_in g s x p c (Contains-append_left (live_starts_by a g.number s.number s.act) (later_starts s) x (subst (λ z. Contains (live_starts_by a g.number s.number z) x) (sym h) m))

  more_starts : (g : Part) (s : Standing) (x : Fact) → TakesPart k g → Contains (statements_of g) s → a.adjointed s.number ≡ true → Contains (map live.kept (holders s.place) ++ flat_map (at_actuals (live_turned k s.place)) (called (parts k.units) s.act)) x → Contains (live_starts k a o) x
  more_starts g s x p c h m =
      starts_in g s x p c (Contains-append_right (live_starts_by a g.number s.number s.act) (later_starts s) x
      (if_has (a.adjointed s.number) (list_if (k.split s.number) (live.kept s.number ∷ []) ++ (map live.kept (holders s.place) ++ flat_map (at_actuals (live_turned k s.place)) (called (parts k.units) s.act))) x h (Contains-append_right (list_if (k.split s.number) (live.kept s.number ∷ [])) (map live.kept (holders s.place) ++ flat_map (at_actuals (live_turned k s.place)) (called (parts k.units) s.act)) x m)))

  begun : (x : Fact) → live.LiveBegins k a x → IsKnown x × Contains (live_starts k a o) x
  begun x (live.reads {g = g} {s = s} {x = t} {subs = subs} {e = e} {v = v} p c h j r) =
      let m : Contains (adjoint_reads_in (active_at (activity_marks a g.number) s.number) e ++ vars_in_terms subs) v = reads_here g s.number subs e v r in (
        (g, p, own_before g s c, reads_stand g s t subs e v p c h m),
        own_starts g s (live.needed (point_before s.number) v) (assign t subs e) p c h
            (if_has (a.adjointed s.number) (map (λ u. live.needed (point_before s.number) u) (adjoint_reads_in (active_at (activity_marks a g.number) s.number) e ++ vars_in_terms subs)) (live.needed (point_before s.number) v) j
            (map_has (λ u. live.needed (point_before s.number) u) (adjoint_reads_in (active_at (activity_marks a g.number) s.number) e ++ vars_in_terms subs) v m)),
      )
  begun x (live.turns {f = f} {g = g} {s = s} {args = args} {i = i} {x = t} {d = d} {v = v} p c j h b r n) =
      let z : Fact = live.needed (point_before i) v in
      let u = holder_of f s i c.stands (subst (λ q. Holds i q) (sym h) refl) in
      let n' : var_eq v t ≡ false = ap (λ q. turned_by q v) (sym h) ∙ n in
      let in_turn : Contains (live_turned k s.place g d v) z = subst (λ q. Contains (live_turned k q g d v) z) (sym h) (if_has (is_read k.units g.unit d && not (var_eq v t)) (z ∷ []) z (and_both r (ap not n')) (is_first z z [] refl)) in (
        (f, p, subst (λ m. IsPoint f (point_before m)) u.2 (own_before f u.0 u.1), flowing.actual_stands k o y f g s args d v p c b),
        more_starts f s z p c.stands j (Contains-append_right (map live.kept (holders s.place)) (flat_map (at_actuals (live_turned k s.place)) (called (parts k.units) s.act)) z
            (flat_has (at_actuals (live_turned k s.place)) (called (parts k.units) s.act) (g, args) z (called_has k f g s args c) (actuals_have (live_turned k s.place) g args d v z b in_turn))),
      )
  begun x (live.holds {g = g} {s = s} {i = i} p c j h) =
      (tt, more_starts g s (live.kept i) p c j (Contains-append_left (map live.kept (holders s.place)) (flat_map (at_actuals (live_turned k s.place)) (called (parts k.units) s.act)) (live.kept i) (map_has live.kept (holders s.place) i (holders_have i s.place h))))
  begun x (live.counts {g = g} {s = s} {x = t} {first = first} {last = last} {by = by} {body = body} {m = m} p c h r) =
      (tt, own_starts g s (live.kept s.number) (loop t first last by body m) p c h (if_has (resets a g.number s.number t) (live.kept s.number ∷ []) (live.kept s.number) r (is_first (live.kept s.number) (live.kept s.number) [] refl)))
  begun x (live.split {g = g} {s = s} p c h) =
      let b = both (k.split s.number) (a.adjointed s.number) h in (
        tt,
        starts_in g s x p c (Contains-append_right (live_starts_by a g.number s.number s.act) (later_starts s) x
            (if_has (a.adjointed s.number) (list_if (k.split s.number) (live.kept s.number ∷ []) ++ (map live.kept (holders s.place) ++ flat_map (at_actuals (live_turned k s.place)) (called (parts k.units) s.act))) x b.1 (Contains-append_left (list_if (k.split s.number) (live.kept s.number ∷ [])) (map live.kept (holders s.place) ++ flat_map (at_actuals (live_turned k s.place)) (called (parts k.units) s.act)) x (if_has (k.split s.number) (x ∷ []) x b.0 (is_first x x [] refl))))),
      )
  begun x (live.extents {g = g} {d = d} p c h) = (
    tt,
    flat_has (λ h. unit_starts h ++ flat_map (live_starts_at k a h.number) (statements_of h)) o.parts g (live.wanted g.number d) ((y.parts g).1 p)
        (Contains-append_left (unit_starts g) (flat_map (live_starts_at k a g.number) (statements_of g)) (live.wanted g.number d)
        (map_has (live.wanted g.number) (filter (λ z. is_extent z g.unit.declarations) g.unit.dummies) d (filter_has (λ z. is_extent z g.unit.declarations) g.unit.dummies d c h))),
  )

  only_begun : (x : Fact) → Contains (live_starts k a o) x → live.LiveBegins k a x
  only_begun x c = go (Contains-append_cases (unit_starts g.0) (flat_map (live_starts_at k a g.0.number) (statements_of g.0)) x g.2)
    where
      g : (h : Part) × Contains o.parts h × Contains (unit_starts h ++ flat_map (live_starts_at k a h.number) (statements_of h)) x
      g = flat_only (λ h. unit_starts h ++ flat_map (live_starts_at k a h.number) (statements_of h)) o.parts x c

      p : TakesPart k g.0
      p = (y.parts g.0).0 g.1

      own : (s : Standing) → Contains (statements_of g.0) s → (b : Act) → s.act ≡ b → Contains (live_starts_by a g.0.number s.number b) x → live.LiveBegins k a x
      own s d (assign t subs e) h m =
          let q = if_only (a.adjointed s.number) (map (λ u. live.needed (point_before s.number) u) (adjoint_reads_in (active_at (activity_marks a g.0.number) s.number) e ++ vars_in_terms subs)) x m in
          let v = map_only (λ u. live.needed (point_before s.number) u) (adjoint_reads_in (active_at (activity_marks a g.0.number) s.number) e ++ vars_in_terms subs) x q.1 in
          subst (λ z. live.LiveBegins k a z) v.2 (live.reads p d h q.0 (reads_there g.0 s.number subs e v.0 v.1))
      own s d (choose q b1 b2) h m = absurd (is_none x m)
      own s d (loop t first last by body n) h m =
          let q = if_only (resets a g.0.number s.number t) (live.kept s.number ∷ []) x m in
          subst (λ z. live.LiveBegins k a z) (is_only x (live.kept s.number) q.1) (live.counts p d h q.0)
      own s d (during q body) h m = absurd (is_none x m)
      own s d (call name args) h m = absurd (is_none x m)
      own s d (runtime r) h m = absurd (is_none x m)

      turned : (s : Standing) → Contains (statements_of g.0) s → a.adjointed s.number ≡ true → (f : Part) (args : Terms) → CallsUnit k g.0 f s args → (d : List ℕ) (v : Var) → Contains (bound f.unit.dummies args) (d, v) → (q : Place) → s.place ≡ q → Contains (live_turned k q f d v) x → live.LiveBegins k a x
      turned s m j f args u d v b outermost e n = absurd (is_none x n)
      turned s m j f args u d v b (part_of i) e n = absurd (is_none x n)
      turned s m j f args u d v b (turn_of i t) e n =
          let q = if_only (is_read k.units f.unit d && not (var_eq v t)) (live.needed (point_before i) v ∷ []) x n in
          let r = both (is_read k.units f.unit d) (not (var_eq v t)) q.0 in
          subst (λ z. live.LiveBegins k a z) (is_only x (live.needed (point_before i) v) q.1) (live.turns p u j e b r.0 (ap (λ z. turned_by z v) e ∙ isnt (var_eq v t) r.1))

      later : (s : Standing) → Contains (statements_of g.0) s → a.adjointed s.number ≡ true → Contains (map live.kept (holders s.place)) x ⊎ Contains (flat_map (at_actuals (live_turned k s.place)) (called (parts k.units) s.act)) x → live.LiveBegins k a x
      later s d j (inl m) = let i = map_only live.kept (holders s.place) x m in subst (λ z. live.LiveBegins k a z) i.2 (live.holds p d j (holders_only i.0 s.place i.1))
      later s d j (inr m) =
          let f = flat_only (at_actuals (live_turned k s.place)) (called (parts k.units) s.act) x m in
          let b = actuals_only (live_turned k s.place) f.0 x f.2 in
          turned s d j f.0.0 f.0.1 (called_only k g.0 s f.0 d f.1) b.0.0 b.0.1 b.1 s.place refl b.2

      split_or : (s : Standing) → Contains (statements_of g.0) s → a.adjointed s.number ≡ true → Contains (list_if (k.split s.number) (live.kept s.number ∷ [])) x ⊎ Contains (map live.kept (holders s.place) ++ flat_map (at_actuals (live_turned k s.place)) (called (parts k.units) s.act)) x → live.LiveBegins k a x
      split_or s d j (inl m) = let q = if_only (k.split s.number) (live.kept s.number ∷ []) x m in subst (λ z. live.LiveBegins k a z) (is_only x (live.kept s.number) q.1) (live.split p d (and_both q.0 j))
      split_or s d j (inr m) = later s d j (Contains-append_cases (map live.kept (holders s.place)) (flat_map (at_actuals (live_turned k s.place)) (called (parts k.units) s.act)) x m)

      at : (s : Standing) → Contains (statements_of g.0) s → Contains (live_starts_by a g.0.number s.number s.act) x ⊎ Contains (later_starts s) x → live.LiveBegins k a x
      at s d (inl m) = own s d s.act refl m
      at s d (inr m) =
          let q = if_only (a.adjointed s.number) (list_if (k.split s.number) (live.kept s.number ∷ []) ++ (map live.kept (holders s.place) ++ flat_map (at_actuals (live_turned k s.place)) (called (parts k.units) s.act))) x m in
          split_or s d q.0 (Contains-append_cases (list_if (k.split s.number) (live.kept s.number ∷ [])) (map live.kept (holders s.place) ++ flat_map (at_actuals (live_turned k s.place)) (called (parts k.units) s.act)) x q.1)

      go : Contains (unit_starts g.0) x ⊎ Contains (flat_map (live_starts_at k a g.0.number) (statements_of g.0)) x → live.LiveBegins k a x
      go (inl m) =
          let d = map_only (live.wanted g.0.number) (filter (λ z. is_extent z g.0.unit.declarations) g.0.unit.dummies) x m in
          let f = filter_only (λ z. is_extent z g.0.unit.declarations) g.0.unit.dummies d.0 d.1 in
          subst (λ z. live.LiveBegins k a z) d.2 (live.extents p f.0 f.1)
      go (inr m) =
          let s = flat_only (live_starts_at k a g.0.number) (statements_of g.0) x m in
          at s.0 s.1 (Contains-append_cases (live_starts_by a g.0.number s.0.number s.0.act) (later_starts s.0) x s.2)

  -- ---- steps

  abbrev entered : Part → List (Fact × Fact)
  entered g = map (λ d. (live.needed g.entry (plain d), live.wanted g.number d)) g.unit.dummies

  abbrev used : Standing → List (Fact × Fact)
  used s = map (λ v. (live.kept s.number, live.needed (use_point s.number s.act) v)) (used_in k.units s.act)

  abbrev held : Standing → List (Fact × Fact)
  held s = map (λ n. (live.kept s.number, live.kept n)) (holders s.place)

  abbrev calls : Standing → List (Fact × Fact)
  calls s = flat_map (live_called k a s) (called (parts k.units) s.act)

  steps_in : (g : Part) (e : Fact × Fact) → TakesPart k g → Contains (entered g ++ (flat_map (live_stays (o.variables g)) (ways_of g) ++ flat_map (live_steps_at k a) (statements_of g))) e → Contains (live_steps k a o) e
  steps_in g e p c = flat_has (λ h. entered h ++ (flat_map (live_stays (o.variables h)) (ways_of h) ++ flat_map (live_steps_at k a) (statements_of h))) o.parts g e ((y.parts g).1 p) c

  steps_at : (g : Part) (s : Standing) (e : Fact × Fact) → TakesPart k g → Contains (statements_of g) s → Contains (live_steps_at k a s) e → Contains (live_steps k a o) e
  steps_at g s e p c m =
      steps_in g e p (Contains-append_right (entered g) (flat_map (live_stays (o.variables g)) (ways_of g) ++ flat_map (live_steps_at k a) (statements_of g)) e
      (Contains-append_right (flat_map (live_stays (o.variables g)) (ways_of g)) (flat_map (live_steps_at k a) (statements_of g)) e (flat_has (live_steps_at k a) (statements_of g) s e c m)))

  assigned_in : (g : Part) (s : Standing) (e : Fact × Fact) (b : Act) → TakesPart k g → Contains (statements_of g) s → s.act ≡ b → Contains (live_assigned s.number b) e → Contains (live_steps k a o) e
  assigned_in g s e b p c h m =
      steps_at g s e p c (Contains-append_right (used s) (live_assigned s.number s.act ++ (held s ++ calls s)) e
      (Contains-append_left (live_assigned s.number s.act) (held s ++ calls s) e (subst (λ z. Contains (live_assigned s.number z) e) (sym h) m)))

  call_in : (f g : Part) (s : Standing) (args : Terms) (e : Fact × Fact) → TakesPart k f → CallsUnit k f g s args → Contains (live_called k a s (g, args)) e → Contains (live_steps k a o) e
  call_in f g s args e p c m =
      steps_at f s e p c.stands (Contains-append_right (used s) (live_assigned s.number s.act ++ (held s ++ calls s)) e
      (Contains-append_right (live_assigned s.number s.act) (held s ++ calls s) e
      (Contains-append_right (held s) (calls s) e (flat_has (live_called k a s) (called (parts k.units) s.act) (g, args) e (called_has k f g s args c) m))))

  abbrev handed : Standing → List (Fact × Fact)
  handed s = map (λ v. (live.needed (point_after (site (a.adjointed s.number) s.number s.place)) v, live.kept s.number)) (handed_in k.units s.act)

  led : (x z : Fact) → IsKnown x → live.LiveLeads k a x z → IsKnown z × Contains (live_steps k a o) (x, z)
  led x z q (live.stays {g = g} {w = w} {v = v} p c h) =
      let u : Contains (o.variables g) v = flowing.known_here k o y g w.to v p (w, c, inr refl) q in
      let e : Fact × Fact = (live.needed w.to v, live.needed w.from v) in (
        (g, p, (w, c, inl refl), u),
        steps_in g e p (Contains-append_right (entered g) (flat_map (live_stays (o.variables g)) (ways_of g) ++ flat_map (live_steps_at k a) (statements_of g)) e
            (Contains-append_left (flat_map (live_stays (o.variables g)) (ways_of g)) (flat_map (live_steps_at k a) (statements_of g)) e
            (flat_has (live_stays (o.variables g)) (ways_of g) w e c
            (flat_has (λ t. list_if (not (assigned_on w.deed t)) ((live.needed w.to t, live.needed w.from t) ∷ [])) (o.variables g) v e u (if_has (not (assigned_on w.deed v)) (e ∷ []) e (ap not h) (is_first e e [] refl)))))),
      )
  led x z q (live.used {g = g} {s = s} {v = v} p c h) =
      let m : Contains (used_in k.units s.act) v = has_only (used_in k.units s.act) v (has_used k.units v s.act ∙ h) in
      let e : Fact × Fact = (live.kept s.number, live.needed (use_point s.number s.act) v) in (
        (g, p, use_is_point g s c, y.standing g p s c v (used_stands k.units v s.act m)),
        steps_at g s e p c (Contains-append_left (used s) (live_assigned s.number s.act ++ (held s ++ calls s)) e (map_has (λ t. (live.kept s.number, live.needed (use_point s.number s.act) t)) (used_in k.units s.act) v m)),
      )
  led x z q (live.assigned {g = g} {s = s} {x = t} {subs = subs} {e = r} p c h) =
      let e : Fact × Fact = (live.needed (point_after s.number) t, live.kept s.number) in (tt, assigned_in g s e (assign t subs r) p c h (is_first e e [] refl))
  led x z q (live.handed {f = f} {g = g} {s = s} {args = args} {v = v} p c h) =
      let e : Fact × Fact = (live.needed (point_after (site (a.adjointed s.number) s.number s.place)) v, live.kept s.number) in (
        tt,
        call_in f g s args e p c (Contains-append_left (handed s) (at_actuals (live_member a s) (g, args)) e
            (map_has (λ t. (live.needed (point_after (site (a.adjointed s.number) s.number s.place)) t, live.kept s.number)) (handed_in k.units s.act) v (handed_here f g s args v c h))),
      )
  led x z q (live.indexed {g = g} {s = s} {x = t} {first = first} {last = last} {by = by} {body = body} {m = m} p c h) =
      let e : Fact × Fact = (live.needed (point_inside s.number) t, live.kept s.number) in (tt, assigned_in g s e (loop t first last by body m) p c h (is_first e e [] refl))
  led x z q (live.held {g = g} {s = s} {i = i} p c h) =
      let e : Fact × Fact = (live.kept s.number, live.kept i) in (
        tt,
        steps_at g s e p c (Contains-append_right (used s) (live_assigned s.number s.act ++ (held s ++ calls s)) e
            (Contains-append_right (live_assigned s.number s.act) (held s ++ calls s) e (Contains-append_left (held s) (calls s) e (map_has (λ n. (live.kept s.number, live.kept n)) (holders s.place) i (holders_have i s.place h))))),
      )
  led x z q (live.entered {g = g} {d = d} p c) =
      let e : Fact × Fact = (live.needed g.entry (plain d), live.wanted g.number d) in
      (tt, steps_in g e p (Contains-append_left (entered g) (flat_map (live_stays (o.variables g)) (ways_of g) ++ flat_map (live_steps_at k a) (statements_of g)) e (map_has (λ t. (live.needed g.entry (plain t), live.wanted g.number t)) g.unit.dummies d c)))
  led x z q (live.member {f = f} {g = g} {s = s} {args = args} {d = d} {v = v} p c j b n) =
      let e : Fact × Fact = (live.wanted g.number d, live.needed (point_before (site true s.number s.place)) v) in (
        (f, p, site_point f s true c.stands, flowing.actual_stands k o y f g s args d v p c b),
        call_in f g s args e p c (Contains-append_right (handed s) (at_actuals (live_member a s) (g, args)) e
            (actuals_have (live_member a s) g args d v e b (if_has (a.adjointed s.number && not (turned_by s.place v)) (e ∷ []) e (and_both j (ap not n)) (is_first e e [] refl)))),
      )

  stays_only : (g : Part) (e : Fact × Fact) → TakesPart k g → Contains (flat_map (live_stays (o.variables g)) (ways_of g)) e → live.LiveLeads k a e.0 e.1
  stays_only g e p c =
      let w = flat_only (live_stays (o.variables g)) (ways_of g) e c in
      let v = flat_only (λ t. list_if (not (assigned_on w.0.deed t)) ((live.needed w.0.to t, live.needed w.0.from t) ∷ [])) (o.variables g) e w.2 in
      let h = if_only (not (assigned_on w.0.deed v.0)) ((live.needed w.0.to v.0, live.needed w.0.from v.0) ∷ []) e v.2 in
      subst (λ z. live.LiveLeads k a z.0 z.1) (is_only e (live.needed w.0.to v.0, live.needed w.0.from v.0) h.1) (live.stays p w.1 (isnt (assigned_on w.0.deed v.0) h.0))

  assigned_only : (g : Part) (s : Standing) (e : Fact × Fact) → TakesPart k g → Contains (statements_of g) s → (b : Act) → s.act ≡ b → Contains (live_assigned s.number b) e → live.LiveLeads k a e.0 e.1
  assigned_only g s e p c (assign x subs r) h m = subst (λ z. live.LiveLeads k a z.0 z.1) (is_only e (live.needed (point_after s.number) x, live.kept s.number) m) (live.assigned p c h)
  assigned_only g s e p c (choose q b1 b2) h m = absurd (is_none e m)
  assigned_only g s e p c (loop x first last by body n) h m = subst (λ z. live.LiveLeads k a z.0 z.1) (is_only e (live.needed (point_inside s.number) x, live.kept s.number) m) (live.indexed p c h)
  assigned_only g s e p c (during q body) h m = absurd (is_none e m)
  assigned_only g s e p c (call name args) h m = absurd (is_none e m)
  assigned_only g s e p c (runtime r) h m = absurd (is_none e m)

  calls_only : (f : Part) (s : Standing) (e : Fact × Fact) → TakesPart k f → Contains (statements_of f) s → Contains (calls s) e → live.LiveLeads k a e.0 e.1
  calls_only f s e p c m = go (Contains-append_cases (handed s) (at_actuals (live_member a s) g.0) e g.2)
    where
      g : (x : Part × Terms) × Contains (called (parts k.units) s.act) x × Contains (live_called k a s x) e
      g = flat_only (live_called k a s) (called (parts k.units) s.act) e m

      u : CallsUnit k f g.0.0 s g.0.1
      u = called_only k f s g.0 c g.1

      go : Contains (handed s) e ⊎ Contains (at_actuals (live_member a s) g.0) e → live.LiveLeads k a e.0 e.1
      go (inl d) =
          let v = map_only (λ t. (live.needed (point_after (site (a.adjointed s.number) s.number s.place)) t, live.kept s.number)) (handed_in k.units s.act) e d in
          subst (λ z. live.LiveLeads k a z.0 z.1) v.2 (live.handed p u (handed_there f g.0.0 s g.0.1 v.0 u v.1))
      go (inr d) =
          let b = actuals_only (live_member a s) g.0 e d in
          let h = if_only (a.adjointed s.number && not (turned_by s.place b.0.1)) ((live.wanted g.0.0.number b.0.0, live.needed (point_before (site true s.number s.place)) b.0.1) ∷ []) e b.2 in
          let t = both (a.adjointed s.number) (not (turned_by s.place b.0.1)) h.0 in
          subst (λ z. live.LiveLeads k a z.0 z.1) (is_only e (live.wanted g.0.0.number b.0.0, live.needed (point_before (site true s.number s.place)) b.0.1) h.1) (live.member p u t.0 b.1 (isnt (turned_by s.place b.0.1) t.1))

  statement_only : (g : Part) (s : Standing) (e : Fact × Fact) → TakesPart k g → Contains (statements_of g) s → Contains (live_steps_at k a s) e → live.LiveLeads k a e.0 e.1
  statement_only g s e p c m = go (Contains-append_cases (used s) (live_assigned s.number s.act ++ (held s ++ calls s)) e m)
    where
      last : Contains (held s) e ⊎ Contains (calls s) e → live.LiveLeads k a e.0 e.1
      last (inl d) =
          let i = map_only (λ n. (live.kept s.number, live.kept n)) (holders s.place) e d in
          subst (λ z. live.LiveLeads k a z.0 z.1) i.2 (live.held p c (holders_only i.0 s.place i.1))
      last (inr d) = calls_only g s e p c d

      rest : Contains (live_assigned s.number s.act) e ⊎ Contains (held s ++ calls s) e → live.LiveLeads k a e.0 e.1
      rest (inl d) = assigned_only g s e p c s.act refl d
      rest (inr d) = last (Contains-append_cases (held s) (calls s) e d)

      go : Contains (used s) e ⊎ Contains (live_assigned s.number s.act ++ (held s ++ calls s)) e → live.LiveLeads k a e.0 e.1
      go (inl d) =
          let v = map_only (λ t. (live.kept s.number, live.needed (use_point s.number s.act) t)) (used_in k.units s.act) e d in
          subst (λ z. live.LiveLeads k a z.0 z.1) v.2 (live.used p c (sym (has_used k.units v.0 s.act) ∙ has_it (used_in k.units s.act) v.0 v.1))
      go (inr d) = rest (Contains-append_cases (live_assigned s.number s.act) (held s ++ calls s) e d)

  only_led : (e : Fact × Fact) → Contains (live_steps k a o) e → live.LiveLeads k a e.0 e.1
  only_led e c = go (Contains-append_cases (entered g.0) (flat_map (live_stays (o.variables g.0)) (ways_of g.0) ++ flat_map (live_steps_at k a) (statements_of g.0)) e g.2)
    where
      g : (h : Part) × Contains o.parts h × Contains (entered h ++ (flat_map (live_stays (o.variables h)) (ways_of h) ++ flat_map (live_steps_at k a) (statements_of h))) e
      g = flat_only (λ h. entered h ++ (flat_map (live_stays (o.variables h)) (ways_of h) ++ flat_map (live_steps_at k a) (statements_of h))) o.parts e c

      p : TakesPart k g.0
      p = (y.parts g.0).0 g.1

      rest : Contains (flat_map (live_stays (o.variables g.0)) (ways_of g.0)) e ⊎ Contains (flat_map (live_steps_at k a) (statements_of g.0)) e → live.LiveLeads k a e.0 e.1
      rest (inl d) = stays_only g.0 e p d
      rest (inr d) = let s = flat_only (live_steps_at k a) (statements_of g.0) e d in statement_only g.0 s.0 e p s.1 s.2

      go : Contains (entered g.0) e ⊎ Contains (flat_map (live_stays (o.variables g.0)) (ways_of g.0) ++ flat_map (live_steps_at k a) (statements_of g.0)) e → live.LiveLeads k a e.0 e.1
      go (inl d) =
          let t = map_only (λ z. (live.needed g.0.entry (plain z), live.wanted g.0.number z)) g.0.unit.dummies e d in
          subst (λ z. live.LiveLeads k a z.0 z.1) t.2 (live.entered p t.1)
      go (inr d) = rest (Contains-append_cases (flat_map (live_stays (o.variables g.0)) (ways_of g.0)) (flat_map (live_steps_at k a) (statements_of g.0)) e d)

  pub live_lists : AreLists (live.LiveBegins k a) (live.LiveLeads k a) IsKnown (live_starts k a o) (live_steps k a o)
  live_lists = record { begun = begun; led = led; only_begun = only_begun; only_led = λ x z c. only_led (x, z) c }
