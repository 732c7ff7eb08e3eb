-- The lists have what is held, and what may be saved.
use Rattle.std.proofs.Common.{◌≡◌, ◌⊎◌, inl, inr, ℕ, List, [], ◌∷◌, ◌++◌, Bool, true, refl, sym, ap, ◌∙◌, subst}
use Rattle.std.specs.Prelude.{Contains, not, ◌&&◌, ◌||◌, ◌==◌, map, flat_map}
use Rattle.std.proofs.lemmas.List.Elements.{Contains-append_left, Contains-append_right, Contains-append_cases}
use borrow.Author.Tests.{eq-eqb, eqb-true}
use Rattle.adj_tree.specs.Code.{Var, Terms, Term, Act, assign, choose, loop, during, call, runtime}
use Rattle.def_meaning.specs.Read.{is_read}
use Rattle.def_meaning.specs.Written.{is_written}
use Rattle.def_sweep.specs.Marks.{Marks, active_at}
use Rattle.def_names.specs.Numbers.{everything}
use Rattle.def_names.specs.Numbering.{point_before}
use Rattle.def_flow.specs.Parts.{Part, parts}
use Rattle.def_flow.specs.Ways.{Way}
use Rattle.def_flow.specs.Standing.{Standing}
use Rattle.def_sweep.specs.Occurrences.{reads_at}
use Rattle.def_names.specs.VariableLists.{has, list_if, vars_in, vars_in_terms, handed_in, standing_in}
use Rattle.def_flow.specs.AdjointReads.{adjoint_reads_in}
use Rattle.def_flow.specs.Problem.{Problem, statements_of, ways_of, TakesPart}
use Rattle.def_flow.specs.Flow.{Node}
use Rattle.def_flow.specs.Activity.{Activity, split_at}
use Rattle.def_flow.specs.Live.{Liveness}
use Rattle.def_flow.specs.Uses.{site, turned_by, is_turn}
use Rattle.def_flow.specs.Held as held
use Rattle.def_flow.specs.Held.{marks_of, replaced_on}
use Rattle.def_flow.specs.Rules.{Scope, Covers, called, at_actuals, reads_by, reads_called, reads_list, held_starts, held_stays, held_steps, may_save_by, may_save_called, may_save_list}
use Rattle.adj_reach.proofs.Members.{is_first, is_none, is_only, map_has, map_only, flat_has, flat_only}
use Rattle.def_names.proofs.Conditioned.{if_has, if_only}
use Rattle.def_flow.proofs.AsLists.{AreLists}
use Rattle.def_flow.proofs.Scoped.{called_has, called_only, actuals_have, actuals_only}
use Rattle.def_flow.proofs.Sets.{both, and_both, isnt}
use Rattle.def_names.proofs.VariableLists.{has_only, has_it, has_append, has_if, has_vars_terms}
use Rattle.def_flow.proofs.AdjointReads.{has_adjoint_reads, adjoint_reads_stand}
use Rattle.def_flow.proofs.OwnPoints.{own_before}
use Rattle.def_flow.proofs.FlowListed as flowing
use Rattle.def_flow.proofs.LiveListed.{site_point, handed_here, handed_there}

module _ (k : Problem) (o : Scope) (y : Covers k o) (a : Activity) (l : Liveness) where
  abbrev marks_in : Part → Marks
  marks_in g = marks_of a l (λ j. everything) g.number

  -- ---- adjoint reads

  abbrev own_reads : Part → ℕ → Terms → Term → List Var
  own_reads g i subs e = list_if (a.adjointed i) (adjoint_reads_in (active_at (marks_in g) i) e) ++ list_if (l.kept i || a.adjointed i) (vars_in_terms subs)

  has_reads : (g : Part) (i : ℕ) (subs : Terms) (e : Term) (v : Var) → has (own_reads g i subs e) v ≡ reads_at (marks_in g) i subs e v
  has_reads g i subs e v =
      has_append (list_if (a.adjointed i) (adjoint_reads_in (active_at (marks_in g) i) e)) (list_if (l.kept i || a.adjointed i) (vars_in_terms subs)) v
      ∙ (λ j. has_if (a.adjointed i) (adjoint_reads_in (active_at (marks_in g) i) e) v (has_adjoint_reads (active_at (marks_in g) i) v e) j || has_if (l.kept i || a.adjointed i) (vars_in_terms subs) v (has_vars_terms v subs) j)

  reads_stand : (g : Part) (s : Standing) (x : Var) (subs : Terms) (e : Term) (v : Var) → TakesPart k g → Contains (statements_of g) s → s.act ≡ assign x subs e → Contains (own_reads g s.number subs e) v → Contains (o.variables g) v
  reads_stand g s x subs e v p c h m =
      y.standing g p s c v (subst (λ b. Contains (standing_in b) v) (sym h) (later (Contains-append_cases (list_if (a.adjointed s.number) (adjoint_reads_in (active_at (marks_in g) s.number) e)) (list_if (l.kept s.number || a.adjointed s.number) (vars_in_terms subs)) v m)))
    where
      later : Contains (list_if (a.adjointed s.number) (adjoint_reads_in (active_at (marks_in g) s.number) e)) v ⊎ Contains (list_if (l.kept s.number || a.adjointed s.number) (vars_in_terms subs)) v → Contains (x ∷ (vars_in_terms subs ++ vars_in e)) v
      later (inl d) =
          Contains-append_right (x ∷ vars_in_terms subs) (vars_in e) v (adjoint_reads_stand (active_at (marks_in g) s.number) v e (if_only (a.adjointed s.number) (adjoint_reads_in (active_at (marks_in g) s.number) e) v d).1)
      later (inr d) = Contains-append_right (x ∷ []) (vars_in_terms subs ++ vars_in e) v (Contains-append_left (vars_in_terms subs) (vars_in e) v (if_only (l.kept s.number || a.adjointed s.number) (vars_in_terms subs) v d).1)

  abbrev called_reads : Standing → List (ℕ × Var)
  called_reads s = flat_map (at_actuals (reads_called k a l s)) (called (parts k.units) s.act)

  reads_in : (g : Part) (s : Standing) (r : ℕ × Var) → TakesPart k g → Contains (statements_of g) s → Contains (reads_by a l g.number s.number s.act ++ called_reads s) r → Contains (reads_list k a l o) r
  reads_in g s r p c m =
      flat_has (λ h. flat_map (λ t. reads_by a l h.number t.number t.act ++ called_reads t) (statements_of h)) o.parts g r ((y.parts g).1 p) (flat_has (λ t. reads_by a l g.number t.number t.act ++ called_reads t) (statements_of g) s r c m)

  -- whether an actual of a call is an adjoint read
  abbrev is_call_read : Standing → Part → List ℕ → Var → Bool
  is_call_read s g d v = a.adjointed s.number && (not (turned_by s.place v) && ((l.wanted g.number d || ((k.split s.number || is_turn s.place) && is_read k.units g.unit d)) && not (is_written k.units g.unit d)))

  -- an adjoint read is listed, and a variable of the unit at the point before its statement
  pub reads_have : (i : ℕ) (v : Var) → held.AdjointReads k a l i v → flowing.IsKnown k o y (point_before i, v) × Contains (reads_list k a l o) (i, v)
  reads_have i v (held.assignment {g = g} {s = s} {x = x} {subs = subs} {e = e} p c h r) =
      let m : Contains (own_reads g s.number subs e) v = has_only (own_reads g s.number subs e) v (has_reads g s.number subs e v ∙ r) in (
        (g, p, own_before g s c, reads_stand g s x subs e v p c h m),
        reads_in g s (s.number, v) p c (Contains-append_left (reads_by a l g.number s.number s.act) (called_reads s) (s.number, v)
            (subst (λ b. Contains {X = ℕ × Var} (reads_by a l g.number s.number b) (s.number, v)) (sym h) (map_has (λ u. (s.number, u)) (own_reads g s.number subs e) v m))),
      )
  reads_have i v (held.call {f = f} {g = g} {s = s} {args = args} {d = d} p c j b t r n) =
      let e : ℕ × Var = (site true s.number s.place, v) in (
        (f, p, site_point k o y a f s true c.stands, flowing.actual_stands k o y f g s args d v p c b),
        reads_in f s e p c.stands (Contains-append_right (reads_by a l f.number s.number s.act) (called_reads s) e
            (flat_has (at_actuals (reads_called k a l s)) (called (parts k.units) s.act) (g, args) e (called_has k f g s args c)
            (actuals_have (reads_called k a l s) g args d v e b (if_has (is_call_read s g d v) (e ∷ []) e (and_both j (and_both (ap not t) (and_both r (ap not n)))) (is_first e e [] refl))))),
      )

  pub reads_only : (r : ℕ × Var) → Contains (reads_list k a l o) r → held.AdjointReads k a l r.0 r.1
  reads_only r c = at s.0 s.1 (Contains-append_cases (reads_by a l g.0.number s.0.number s.0.act) (called_reads s.0) r s.2)
    where
      g : (h : Part) × Contains o.parts h × Contains (flat_map (λ t. reads_by a l h.number t.number t.act ++ called_reads t) (statements_of h)) r
      g = flat_only (λ h. flat_map (λ t. reads_by a l h.number t.number t.act ++ called_reads t) (statements_of h)) o.parts r c

      s : (t : Standing) × Contains (statements_of g.0) t × Contains (reads_by a l g.0.number t.number t.act ++ called_reads t) r
      s = flat_only (λ t. reads_by a l g.0.number t.number t.act ++ called_reads t) (statements_of g.0) r g.2

      p : TakesPart k g.0
      p = (y.parts g.0).0 g.1

      own : (s : Standing) → Contains (statements_of g.0) s → (b : Act) → s.act ≡ b → Contains (reads_by a l g.0.number s.number b) r → held.AdjointReads k a l r.0 r.1
      own s d (assign x subs e) h m =
          let v = map_only (λ u. (s.number, u)) (own_reads g.0 s.number subs e) r m in
          subst (λ z. held.AdjointReads k a l z.0 z.1) v.2 (held.assignment p d h (sym (has_reads g.0 s.number subs e v.0) ∙ has_it (own_reads g.0 s.number subs e) v.0 v.1))
      own s d (choose q b1 b2) h m = absurd (is_none r m)
      own s d (loop x first last by body n) h m = absurd (is_none r m)
      own s d (during q body) h m = absurd (is_none r m)
      own s d (call name args) h m = absurd (is_none r m)
      own s d (runtime t) h m = absurd (is_none r m)

      at : (s : Standing) → Contains (statements_of g.0) s → Contains (reads_by a l g.0.number s.number s.act) r ⊎ Contains (called_reads s) r → held.AdjointReads k a l r.0 r.1
      at s d (inl m) = own s d s.act refl m
      at s d (inr m) =
          let f = flat_only (at_actuals (reads_called k a l s)) (called (parts k.units) s.act) r m in
          let b = actuals_only (reads_called k a l s) f.0 r f.2 in
          let h = if_only (is_call_read s f.0.0 b.0.0 b.0.1) ((site true s.number s.place, b.0.1) ∷ []) r b.2 in
          let t1 = both (a.adjointed s.number) (not (turned_by s.place b.0.1) && ((l.wanted f.0.0.number b.0.0 || ((k.split s.number || is_turn s.place) && is_read k.units f.0.0.unit b.0.0)) && not (is_written k.units f.0.0.unit b.0.0))) h.0 in
          let t2 = both (not (turned_by s.place b.0.1)) ((l.wanted f.0.0.number b.0.0 || ((k.split s.number || is_turn s.place) && is_read k.units f.0.0.unit b.0.0)) && not (is_written k.units f.0.0.unit b.0.0)) t1.1 in
          let t3 = both (l.wanted f.0.0.number b.0.0 || ((k.split s.number || is_turn s.place) && is_read k.units f.0.0.unit b.0.0)) (not (is_written k.units f.0.0.unit b.0.0)) t2.1 in
          subst (λ z. held.AdjointReads k a l z.0 z.1) (is_only r (site true s.number s.place, b.0.1) h.1)
          (held.call p (called_only k g.0 s f.0 d f.1) t1.0 b.1 (isnt (turned_by s.place b.0.1) t2.0) t3.0 (isnt (is_written k.units f.0.0.unit b.0.0) t3.1))

  -- ---- held

  abbrev from_read : Way → ℕ × Var → List Node
  from_read w r = list_if ((w.from == point_before r.0) && not (replaced_on l.kept w.deed r.1)) ((w.to, r.1) ∷ [])

  begun : (n : Node) → held.HeldBegins k a l n → flowing.IsKnown k o y n × Contains (held_starts k a l o) n
  begun n (held.read {g = g} {w = w} {i = i} {v = v} p c e r h) =
      let q = reads_have i v r in
      let z : Node = (w.to, v) in
      let u : Contains (o.variables g) v = flowing.known_here k o y g (point_before i) v p (w, c, inl e) q.0 in (
        (g, p, (w, c, inr refl), u),
        flat_has (λ f. flat_map (λ x. flat_map (from_read x) (reads_list k a l o)) (ways_of f)) o.parts g z ((y.parts g).1 p)
            (flat_has (λ x. flat_map (from_read x) (reads_list k a l o)) (ways_of g) w z c
            (flat_has (from_read w) (reads_list k a l o) (i, v) z q.1
            (if_has ((w.from == point_before i) && not (replaced_on l.kept w.deed v)) (z ∷ []) z (and_both (eq-eqb w.from (point_before i) e) (ap not h)) (is_first z z [] refl)))),
      )

  only_begun : (n : Node) → Contains (held_starts k a l o) n → held.HeldBegins k a l n
  only_begun n c =
      let g = flat_only (λ f. flat_map (λ x. flat_map (from_read x) (reads_list k a l o)) (ways_of f)) o.parts n c in
      let w = flat_only (λ x. flat_map (from_read x) (reads_list k a l o)) (ways_of g.0) n g.2 in
      let r = flat_only (from_read w.0) (reads_list k a l o) n w.2 in
      let h = if_only ((w.0.from == point_before r.0.0) && not (replaced_on l.kept w.0.deed r.0.1)) ((w.0.to, r.0.1) ∷ []) n r.2 in
      let t = both (w.0.from == point_before r.0.0) (not (replaced_on l.kept w.0.deed r.0.1)) h.0 in
      subst (λ z. held.HeldBegins k a l z) (is_only n (w.0.to, r.0.1) h.1) (held.read ((y.parts g.0).0 g.1) w.1 (eqb-true w.0.from (point_before r.0.0) t.0) (reads_only r.0 r.1) (isnt (replaced_on l.kept w.0.deed r.0.1) t.1))

  led : (n m : Node) → flowing.IsKnown k o y n → held.HeldLeads k l n m → flowing.IsKnown k o y m × Contains (held_steps l o) (n, m)
  led n m q (held.stays {g = g} {w = w} {v = v} p c h) =
      let u : Contains (o.variables g) v = flowing.known_here k o y g w.from v p (w, c, inl refl) q in
      let e : Node × Node = ((w.from, v), (w.to, v)) in (
        (g, p, (w, c, inr refl), u),
        flat_has (λ f. flat_map (held_stays l (o.variables f)) (ways_of f)) o.parts g e ((y.parts g).1 p)
            (flat_has (held_stays l (o.variables g)) (ways_of g) w e c
            (flat_has (λ t. list_if (not (replaced_on l.kept w.deed t)) (((w.from, t), (w.to, t)) ∷ [])) (o.variables g) v e u (if_has (not (replaced_on l.kept w.deed v)) (e ∷ []) e (ap not h) (is_first e e [] refl)))),
      )

  only_led : (e : Node × Node) → Contains (held_steps l o) e → held.HeldLeads k l e.0 e.1
  only_led e c =
      let g = flat_only (λ f. flat_map (held_stays l (o.variables f)) (ways_of f)) o.parts e c in
      let w = flat_only (held_stays l (o.variables g.0)) (ways_of g.0) e g.2 in
      let v = flat_only (λ t. list_if (not (replaced_on l.kept w.0.deed t)) (((w.0.from, t), (w.0.to, t)) ∷ [])) (o.variables g.0) e w.2 in
      let h = if_only (not (replaced_on l.kept w.0.deed v.0)) (((w.0.from, v.0), (w.0.to, v.0)) ∷ []) e v.2 in
      let q : ((w.0.from, v.0), (w.0.to, v.0)) ≡ e = is_only e ((w.0.from, v.0), (w.0.to, v.0)) h.1 in
      subst (λ (z : Node × Node). held.HeldLeads k l z.0 z.1) q (held.stays {w = w.0} ((y.parts g.0).0 g.1) w.1 (isnt (replaced_on l.kept w.0.deed v.0) h.0))

  pub held_lists : AreLists (held.HeldBegins k a l) (held.HeldLeads k l) (flowing.IsKnown k o y) (held_starts k a l o) (held_steps l o)
  held_lists = record { begun = begun; led = led; only_begun = only_begun; only_led = λ n m c. only_led (n, m) c }

  -- ---- saved

  abbrev called_saves : Standing → List (ℕ × Var)
  called_saves s = flat_map (may_save_called k a l s) (called (parts k.units) s.act)

  saves_in : (g : Part) (s : Standing) (r : ℕ × Var) → TakesPart k g → Contains (statements_of g) s → Contains (may_save_by l s.number s.act ++ called_saves s) r → Contains (may_save_list k a l o) r
  saves_in g s r p c m =
      flat_has (λ h. flat_map (λ t. may_save_by l t.number t.act ++ called_saves t) (statements_of h)) o.parts g r ((y.parts g).1 p) (flat_has (λ t. may_save_by l t.number t.act ++ called_saves t) (statements_of g) s r c m)

  own_saves : (g : Part) (s : Standing) (r : ℕ × Var) (b : Act) → TakesPart k g → Contains (statements_of g) s → s.act ≡ b → Contains (may_save_by l s.number b) r → Contains (may_save_list k a l o) r
  own_saves g s r b p c h m = saves_in g s r p c (Contains-append_left (may_save_by l s.number s.act) (called_saves s) r (subst (λ z. Contains (may_save_by l s.number z) r) (sym h) m))

  pub saves_have : (i : ℕ) (v : Var) → held.MaySave k a l i v → Contains (may_save_list k a l o) (i, v)
  saves_have i v (held.assignment {g = g} {s = s} {x = x} {subs = subs} {e = e} p c h t) =
      let r : ℕ × Var = (s.number, x) in own_saves g s r (assign x subs e) p c h (if_has (l.kept s.number) (r ∷ []) r t (is_first r r [] refl))
  saves_have i v (held.counter {g = g} {s = s} {x = x} {first = first} {last = last} {by = by} {body = body} {m = m} p c h t) =
      let r : ℕ × Var = (s.number, x) in own_saves g s r (loop x first last by body m) p c h (if_has (l.kept s.number) (r ∷ []) r t (is_first r r [] refl))
  saves_have i v (held.call {f = f} {g = g} {s = s} {args = args} p c t n h) =
      let r : ℕ × Var = (site (a.adjointed s.number) s.number s.place, v) in
      saves_in f s r p c.stands (Contains-append_right (may_save_by l s.number s.act) (called_saves s) r
      (flat_has (may_save_called k a l s) (called (parts k.units) s.act) (g, args) r (called_has k f g s args c)
      (if_has (not (split_at k a s.number) && (l.kept s.number || a.adjointed s.number)) (map (λ u. (site (a.adjointed s.number) s.number s.place, u)) (handed_in k.units s.act)) r (and_both (ap not n) t)
      (map_has (λ u. (site (a.adjointed s.number) s.number s.place, u)) (handed_in k.units s.act) v (handed_here k o y a f g s args v c h)))))

  pub saves_only : (r : ℕ × Var) → Contains (may_save_list k a l o) r → held.MaySave k a l r.0 r.1
  saves_only r c = at s.0 s.1 (Contains-append_cases (may_save_by l s.0.number s.0.act) (called_saves s.0) r s.2)
    where
      g : (h : Part) × Contains o.parts h × Contains (flat_map (λ t. may_save_by l t.number t.act ++ called_saves t) (statements_of h)) r
      g = flat_only (λ h. flat_map (λ t. may_save_by l t.number t.act ++ called_saves t) (statements_of h)) o.parts r c

      s : (t : Standing) × Contains (statements_of g.0) t × Contains (may_save_by l t.number t.act ++ called_saves t) r
      s = flat_only (λ t. may_save_by l t.number t.act ++ called_saves t) (statements_of g.0) r g.2

      p : TakesPart k g.0
      p = (y.parts g.0).0 g.1

      own : (s : Standing) → Contains (statements_of g.0) s → (b : Act) → s.act ≡ b → Contains (may_save_by l s.number b) r → held.MaySave k a l r.0 r.1
      own s d (assign x subs e) h m =
          let q = if_only (l.kept s.number) ((s.number, x) ∷ []) r m in subst (λ z. held.MaySave k a l z.0 z.1) (is_only r (s.number, x) q.1) (held.assignment p d h q.0)
      own s d (choose q b1 b2) h m = absurd (is_none r m)
      own s d (loop x first last by body n) h m =
          let q = if_only (l.kept s.number) ((s.number, x) ∷ []) r m in subst (λ z. held.MaySave k a l z.0 z.1) (is_only r (s.number, x) q.1) (held.counter p d h q.0)
      own s d (during q body) h m = absurd (is_none r m)
      own s d (call name args) h m = absurd (is_none r m)
      own s d (runtime t) h m = absurd (is_none r m)

      at : (s : Standing) → Contains (statements_of g.0) s → Contains (may_save_by l s.number s.act) r ⊎ Contains (called_saves s) r → held.MaySave k a l r.0 r.1
      at s d (inl m) = own s d s.act refl m
      at s d (inr m) =
          let f = flat_only (may_save_called k a l s) (called (parts k.units) s.act) r m in
          let h = if_only (not (split_at k a s.number) && (l.kept s.number || a.adjointed s.number)) (map (λ u. (site (a.adjointed s.number) s.number s.place, u)) (handed_in k.units s.act)) r f.2 in
          let v = map_only (λ u. (site (a.adjointed s.number) s.number s.place, u)) (handed_in k.units s.act) r h.1 in
          let u = called_only k g.0 s f.0 d f.1 in
          subst (λ z. held.MaySave k a l z.0 z.1) v.2 (held.call p u (both (not (split_at k a s.number)) (l.kept s.number || a.adjointed s.number) h.0).1 (isnt (split_at k a s.number) (both (not (split_at k a s.number)) (l.kept s.number || a.adjointed s.number) h.0).0) (handed_there k o y a g.0 f.0.0 s f.0.1 v.0 u v.1))
