-- What the sweeps need of a unit's variables, the unit reads; so its entry set is within what it reads.
use Rattle.std.proofs.Common.{◌≡◌, ◌⊎◌, inl, inr, ℕ, zero, suc, Bool, true, false, List, [], ◌∷◌, ◌++◌, map, refl, sym, ap, ◌∙◌, subst, if◌then◌else◌}
use Rattle.std.specs.Prelude.{◌&&◌, ◌||◌, Some, Contains}
use Rattle.std.proofs.lemmas.List.Elements.{Contains-append_cases}
use Rattle.adj_tree.specs.Code.{name_eq, Var, plain, shadow, helper, var_eq, plus, minus, times, quot, modulo, greater, lesser, Term, lit, var, elem, neg, bin, pow, power_of, abs, Terms, none, more, Act, assign, choose, loop, during, call, runtime, Code, stop, step, Procedure}
use Rattle.def_meaning.specs.LeastSet.{Dummies}
use Rattle.def_meaning.specs.Read.{reads_term, reads_terms, reads_actuals, act_reads, reads, is_extent, read_rule, looked_at, is_read}
use Rattle.def_meaning.specs.Written.{find_unit}
use Rattle.def_meaning.proofs.LeastSets.{least_row}
use Rattle.def_meaning.proofs.ReadsMore.{read_rises}
use Rattle.def_meaning.proofs.Variables.{var_refl}
use Rattle.def_names.specs.Numbers.{Vars, next, behind}
use Rattle.def_names.specs.Numbering.{point_before}
use Rattle.def_sweep.specs.Marks.{active_at}
use Rattle.def_sweep.specs.Facts.{In, joined, in_terms}
use Rattle.def_names.proofs.Variables.{and_true, or_left, or_right}
use Rattle.def_sweep.proofs.Occurrences.{either_of, reads_stand}
use Rattle.adj_reach.specs.Reached.{leads}
use Rattle.def_flow.specs.Parts.{Part, part, parts_from, find_part}
use Rattle.def_flow.specs.Standing.{Place, outermost, part_of, turn_of, Standing, held_in, standing}
use Rattle.def_sweep.specs.Occurrences.{is_active_where, adjoint_reads}
use Rattle.def_flow.specs.Problem.{Problem, statements_of, CallsUnit, TakesPart, bound}
use Rattle.def_flow.specs.Activity.{Activity, activity_marks, Holds, IsPoint}
use Rattle.def_names.specs.Uses.{uses}
use Rattle.def_flow.specs.Uses.{use_point, site}
use Rattle.def_flow.specs.Live as live
use Rattle.def_flow.specs.Live.{Fact, needed, kept, wanted, LiveBegins, LiveLeads, Live}
use Rattle.adj_reach.proofs.Members.{is_among, is_none}
use Rattle.def_flow.proofs.Numbers.{part_is_there}
use Rattle.def_flow.proofs.OwnPoints.{entry_point, own_before, use_is_point}
use Rattle.def_flow.proofs.Points.{one_point}
use Rattle.def_flow.proofs.PartsListed.{part_own}
use Rattle.def_flow.proofs.Holders.{holder_of}
use Rattle.adj_reach.proofs.Reaching.{reached_least}

-- ---- what stands in statements is read

module _ (looked : Dummies) (v : Var) where
  mutual
    held_read : (i : ℕ) (a : Act) (s : Standing) → Contains (held_in i a) s → act_reads looked v s.act ≡ true → act_reads looked v a ≡ true
    held_read i (assign x subs e) s c h = absurd (is_none s c)
    held_read i (choose q a b) s c h =
        or_right _ (reads looked v a || reads looked v b) (go (Contains-append_cases (standing (part_of i) (suc i) a) (standing (part_of i) (behind (suc i) a) b) s c) (λ d. list_read (part_of i) (suc i) a s d h) (λ d. list_read (part_of i) (behind (suc i) a) b s d h))
      where
        go : Contains (standing (part_of i) (suc i) a) s ⊎ Contains (standing (part_of i) (behind (suc i) a) b) s → (Contains (standing (part_of i) (suc i) a) s → reads looked v a ≡ true) → (Contains (standing (part_of i) (behind (suc i) a) b) s → reads looked v b ≡ true) → (reads looked v a || reads looked v b) ≡ true
        go (inl d) f g = or_left (reads looked v a) (reads looked v b) (f d)
        go (inr d) f g = or_right (reads looked v a) (reads looked v b) (g d)
    held_read i (loop x first last by body m) s c h = or_right _ (reads looked v body) (list_read _ (suc i) body s c h)
    held_read i (during t body) s c h = or_right _ (reads looked v body) (list_read (part_of i) (suc i) body s c h)
    held_read i (call name args) s c h = absurd (is_none s c)
    held_read i (runtime r) s c h = absurd (is_none s c)

    list_read : (at : Place) (i : ℕ) (c : Code) (s : Standing) → Contains (standing at i c) s → act_reads looked v s.act ≡ true → reads looked v c ≡ true
    list_read at i stop s k h = absurd (is_none s k)
    list_read at i (step line a rest) s k h =
        go (is_among s (record { number = i; place = at; act = a }) (held_in i a ++ standing at (next i a) rest) k) (λ d. held_read i a s d h) (λ d. list_read at (next i a) rest s d h)
      where
        later : Contains (held_in i a) s ⊎ Contains (standing at (next i a) rest) s → (Contains (held_in i a) s → act_reads looked v a ≡ true) → (Contains (standing at (next i a) rest) s → reads looked v rest ≡ true) → (act_reads looked v a || reads looked v rest) ≡ true
        later (inl d) f g = or_left (act_reads looked v a) (reads looked v rest) (f d)
        later (inr d) f g = or_right (act_reads looked v a) (reads looked v rest) (g d)

        go : (record { number = i; place = at; act = a } ≡ s) ⊎ Contains (held_in i a ++ standing at (next i a) rest) s → (Contains (held_in i a) s → act_reads looked v a ≡ true) → (Contains (standing at (next i a) rest) s → reads looked v rest ≡ true) → (act_reads looked v a || reads looked v rest) ≡ true
        go (inl e) f g = or_left (act_reads looked v a) (reads looked v rest) (ap (λ (z : Standing). act_reads looked v z.act) e ∙ h)
        go (inr d) f g = later (Contains-append_cases (held_in i a) (standing at (next i a) rest) s d) f g

-- what a statement uses it reads
uses_read : (units : List Procedure) (v : Var) (a : Act) → uses units a v ≡ true → act_reads (looked_at units) v a ≡ true
uses_read units v (assign x subs e) h = h
uses_read units v (choose c a b) h = or_left _ (reads (looked_at units) v a || reads (looked_at units) v b) h
uses_read units v (loop x first last by body m) h = or_left _ (reads (looked_at units) v body) h
uses_read units v (during c body) h = or_left _ (reads (looked_at units) v body) h
uses_read units v (call name args) h = h
uses_read units v (runtime r) h = absurd cc

-- an actual of a dummy that is read is read
bound_read : (f : List ℕ → Bool) (ds : List (List ℕ)) (args : Terms) (d : List ℕ) (v : Var) → Contains (bound ds args) (d, v) → f d ≡ true → reads_actuals v (map f ds) args ≡ true
bound_read f [] args d v c r = absurd (is_none (d, v) c)
bound_read f (e ∷ ds) none d v c r = absurd (is_none (d, v) c)
bound_read f (e ∷ ds) (more (var y) es) d v c r = go (is_among (d, v) (e, y) (bound ds es) c) (λ k. bound_read f ds es d v k r)
  where
    go : (let p : List ℕ × Var = (e, y) in let q : List ℕ × Var = (d, v) in p ≡ q) ⊎ Contains (bound ds es) (d, v) → (Contains (bound ds es) (d, v) → reads_actuals v (map f ds) es ≡ true) → ((f e && var_eq v y) || reads_actuals v (map f ds) es) ≡ true
    go (inl h) g =
        let d_is : e ≡ d = ap (λ (z : List ℕ × Var). z.0) h in
        let v_is : y ≡ v = ap (λ (z : List ℕ × Var). z.1) h in
        let one : f e ≡ true = ap f d_is ∙ r in
        let two : var_eq v y ≡ true = ap (var_eq v) v_is ∙ var_refl v in
        rw (one, two) refl
    go (inr k) g = or_right (f e && var_eq v y) (reads_actuals v (map f ds) es) (g k)
bound_read f (e ∷ ds) (more (lit z) es) d v c r = bound_read f ds es d v c r
bound_read f (e ∷ ds) (more (elem y subs) es) d v c r = or_right _ _ (bound_read f ds es d v c r)
bound_read f (e ∷ ds) (more (neg a) es) d v c r = or_right _ _ (bound_read f ds es d v c r)
bound_read f (e ∷ ds) (more (bin op a b) es) d v c r = or_right _ _ (bound_read f ds es d v c r)
bound_read f (e ∷ ds) (more (pow a n) es) d v c r = or_right _ _ (bound_read f ds es d v c r)
bound_read f (e ∷ ds) (more (power_of a b) es) d v c r = or_right _ _ (bound_read f ds es d v c r)
bound_read f (e ∷ ds) (more (abs a) es) d v c r = or_right _ _ (bound_read f ds es d v c r)

-- a unit that is found by its number is found by its name
found_unit : (t u i : ℕ) (ps : List Procedure) (name : List ℕ) (g : Part) → find_part (parts_from t u i ps) name ≡ Some g → find_unit ps name ≡ Some g.unit
found_unit t u i [] name g h = absurd cc
found_unit t u i (p ∷ ps) name g h = go (name_eq p.name name) h (found_unit t (suc u) (behind i p.body) ps name g)
  where
    go : (b : Bool) → (if b then Some (part t u i p) else find_part (parts_from t (suc u) (behind i p.body) ps) name) ≡ Some g → (find_part (parts_from t (suc u) (behind i p.body) ps) name ≡ Some g → find_unit ps name ≡ Some g.unit) → (if b then Some p else find_unit ps name) ≡ Some g.unit
    go true h ih = let s : part t u i p ≡ g = cc in ap (λ (z : Part). Some z.unit) s
    go false h ih = ih h

-- ---- what is needed

module _ (k : Problem) (a : Activity) where
  -- the unit reads the variable, if that is of the text
  abbrev ReadBy : Part → Var → Type 0
  ReadBy g (plain d) = is_read k.units g.unit d ≡ true
  ReadBy g (shadow x) = Unit {0}
  ReadBy g (helper o n) = Unit {0}

  abbrev Says : Fact → Type 0
  Says (needed p v) = (g : Part) → TakesPart k g → IsPoint g p → ReadBy g v
  Says (kept i) = Unit {0}
  Says (wanted u d) = (g : Part) → TakesPart k g → g.number ≡ u → is_read k.units g.unit d ≡ true

  stands_read : (g : Part) (s : Standing) (v : Var) → Contains (statements_of g) s → act_reads (looked_at k.units) v s.act ≡ true → ReadBy g v
  stands_read g s (plain d) c h = or_left (reads (looked_at k.units) (plain d) g.unit.body) (is_extent d g.unit.declarations) (list_read (looked_at k.units) (plain d) outermost g.first g.unit.body s c h)
  stands_read g s (shadow x) c h = tt
  stands_read g s (helper o n) c h = tt

  -- an actual of a dummy that the unit called reads
  handed_read : (f g : Part) (s : Standing) (args : Terms) (d : List ℕ) (v : Var) → CallsUnit k f g s args → Contains (bound g.unit.dummies args) (d, v) → is_read k.units g.unit d ≡ true → ReadBy f v
  handed_read f g s args d v c b r =
      let row : looked_at k.units c.name ≡ map (is_read k.units g.unit) g.unit.dummies = least_row read_rule read_rises k.units c.name g.unit (found_unit _ 0 0 k.units c.name g c.finds) in
      stands_read f s v c.stands (ap (act_reads (looked_at k.units) v) c.act ∙ ap (λ ws. reads_actuals v ws args) row ∙ bound_read (is_read k.units g.unit) g.unit.dummies args d v b r)

  same : (f g : Part) (x : ℕ) (v : Var) → TakesPart k f → TakesPart k g → IsPoint f x → IsPoint g x → ReadBy f v → ReadBy g v
  same f g x v tf tg pf pg r = subst (λ z. ReadBy z v) (one_point k f g x tf tg pf pg) r

  -- the point where a call does its work is one of its unit
  site_point : (f : Part) (s : Standing) → Contains (statements_of f) s → IsPoint f (point_before (site true s.number s.place))
  site_point f s c = go s.place refl
    where
      go : (p : Place) → s.place ≡ p → IsPoint f (point_before (site true s.number p))
      go outermost e = own_before f s c
      go (part_of i) e = own_before f s c
      go (turn_of i x) e =
          let h : Holds i s.place = subst (λ z. Holds i z) (sym e) refl in
          let b = holder_of f s i c h in
          subst (λ n. IsPoint f (point_before n)) b.2 (own_before f b.0 b.1)

  -- what the adjoint of an assignment reads stands in it
  assigned_read : (g : Part) (s : Standing) (x : Var) (subs : Terms) (e : Term) (v : Var) → Contains (statements_of g) s → s.act ≡ assign x subs e → In v (joined (adjoint_reads (active_at (activity_marks a g.number) s.number) e) (in_terms subs)) → ReadBy g v
  assigned_read g s x subs e v c is r =
      stands_read g s v c (ap (act_reads (looked_at k.units) v) is
      ∙ either_of (adjoint_reads (active_at (activity_marks a g.number) s.number) e v) (reads_terms v subs) _ r (λ o. or_left (reads_term v e) (reads_terms v subs) (reads_stand (active_at (activity_marks a g.number) s.number) v e o)) (λ o. or_right (reads_term v e) (reads_terms v subs) o))

  -- the point before the loop whose turns a call makes
  turn_point : (f : Part) (s : Standing) (i : ℕ) (t : Var) → Contains (statements_of f) s → s.place ≡ turn_of i t → IsPoint f (point_before i)
  turn_point f s i t c e = let b = holder_of f s i c (subst (λ z. Holds i z) (sym e) refl) in subst (λ n. IsPoint f (point_before n)) b.2 (own_before f b.0 b.1)

  holds : (x : Fact) → LiveBegins k a x → Says x
  holds x (live.reads {g = g} {s = s} {x = t} {subs = subs} {e = e} {v = v} p c is j r) = λ h th ph. same g h (point_before s.number) v p th (own_before g s c) ph (assigned_read g s t subs e v c is r)
  holds x (live.turns {f = f} {g = g} {s = s} {args = args} {i = i} {x = t} {d = d} {v = v} p c j e b r n) = λ h th ph. same f h (point_before i) v p th (turn_point f s i t c.stands e) ph (handed_read f g s args d v c b r)
  holds x (live.holds {i = i} p c j h) = tt
  holds x (live.counts {s = s} p c is r) = tt
  holds x (live.split {s = s} p c h) = tt
  holds x (live.extents {g = g} {d = d} p c e) = λ h th n. subst (λ z. is_read k.units z.unit d ≡ true) (part_own _ 0 0 k.units g h (part_is_there k g p) (part_is_there k h th) (sym n)) (or_right (reads (looked_at k.units) (plain d) g.unit.body) (is_extent d g.unit.declarations) e)

  steps : (x y : Fact) → Says x → LiveLeads k a x y → Says y
  steps x y h (live.stays {g = g} {w = w} {v = v} p c n) = λ f tf pf. subst (λ z. ReadBy z v) (one_point k g f w.from p tf (w, c, inl refl) pf) (h g p (w, c, inr refl))
  steps x y h (live.used {g = g} {s = s} {v = v} p c u) = λ f tf pf. same g f (use_point s.number s.act) v p tf (use_is_point g s c) pf (stands_read g s v c (uses_read k.units v s.act u))
  steps x y h (live.assigned {s = s} p c is) = tt
  steps x y h (live.handed {s = s} p c w) = tt
  steps x y h (live.indexed {s = s} p c is) = tt
  steps x y h (live.held {i = i} p c o) = tt
  steps x y h (live.entered {g = g} {d = d} p c) = λ f tf n. subst (λ z. is_read k.units z.unit d ≡ true) (part_own _ 0 0 k.units g f (part_is_there k g p) (part_is_there k f tf) (sym n)) (h g p (entry_point g))
  steps x y h (live.member {f = f} {g = g} {s = s} {args = args} {d = d} {v = v} p c j b n) =
      λ o to po. same f o (point_before (site true s.number s.place)) v p to (site_point f s c.stands) po
      (handed_read f g s args d v c b (h g (leads p (s, args, c)) refl))

  -- the dummies that an adjoint needs at its entry are among those that the unit reads
  pub wanted_read : (g : Part) (d : List ℕ) → TakesPart k g → Live k a (wanted g.number d) → is_read k.units g.unit d ≡ true
  wanted_read g d t l = reached_least (record { holds = holds; steps = steps }) (wanted g.number d) l g t refl
