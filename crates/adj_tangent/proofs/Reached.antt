-- The units that are emitted are the nodes that paths along calls meet.
use Rattle.std.proofs.Common.{◌≡◌, ℕ, zero, suc, ◌<◌, ◌⊎◌, inl, inr, Bool, true, false, List, [], ◌∷◌, map, length, get_or, refl, sym, ap, ◌∙◌, subst, arith, if◌then◌else◌}
use Rattle.std.specs.Prelude.{◌↔◌, ◌&&◌, not, Contains, IsTrue}
use Rattle.std.proofs.lemmas.List.Elements.{Contains-get_or, All-contains}
use Rattle.adj_tree.specs.Code.{name_eq, Procedure}
use Rattle.adj_tree.proofs.Names.{name_refl, name_same}
use Rattle.def_meaning.specs.Apart.{AreApart}
use Rattle.def_names.proofs.Variables.{and_true}
use Rattle.def_sweep.specs.Declared.{unit_name, unit_at}
use Rattle.def_sweep.specs.Program.{calls_some}
use Rattle.law_sweep.specs.Source.{is_unit}
use Rattle.law_sweep.proofs.UnitLists.{found_there}
use Rattle.def_tangent.specs.Program.{Carried, takes, made_after, has_tangent, stays}
use Rattle.law_tangent.proofs.Taking.{taking_has, head_has}
use Rattle.adj_reach.specs.Reached.{begins, leads}
use Rattle.adj_reach.specs.Edges.{Edges, ReachedFrom, AreBelow, flag}
use Rattle.adj_reach.proofs.Members.{is_first, is_later, is_among, is_none, is_only}
use Rattle.adj_naming.proofs.Places.{get_or_any}
use Rattle.adj_weave_units.specs.Calls.{listed_from, edges_of, ends_of}
use Rattle.adj_weave_units.proofs.Calling.{some_same}
use Rattle.adj_weave_units.proofs.Edges.{either_of, from_one}
use Rattle.adj_weave_units.proofs.Places.{At, at_one, at_map, one_place, find_at, number_at, same_lists}
use Rattle.adj_weave_units.proofs.Reached.{ends_has, ends_only, step_of, comes, flags_are}
use Rattle.adj_tangent.specs.Known.{same_flag, leading}

-- ---- edges to nodes with a flag

flag_same : (a b : Bool) → same_flag a b ≡ true → a ≡ b
flag_same true true h = refl
flag_same true false h = absurd cc
flag_same false true h = absurd cc
flag_same false false h = refl

same_refl : (b : Bool) → same_flag b b ≡ true
same_refl true = refl
same_refl false = refl

pub leading_has : (flags : List Bool) (b : Bool) (es : Edges) (e : ℕ × ℕ) → Contains es e → flag flags e.1 ≡ b → Contains (leading flags b es) e
leading_has flags b [] e c f = absurd (is_none e c)
leading_has flags b (d ∷ es) e c f = go (is_among e d es c) (λ r. leading_has flags b es e r f)
  where
    later : (x : Bool) → Contains (leading flags b es) e → Contains (if x then d ∷ leading flags b es else leading flags b es) e
    later true r = is_later e d (leading flags b es) r
    later false r = r

    go : (d ≡ e) ⊎ Contains es e → (Contains es e → Contains (leading flags b es) e) → Contains (if same_flag (flag flags d.1) b then d ∷ leading flags b es else leading flags b es) e
    go (inl s) ih =
        let at : flag flags d.1 ≡ b = ap (λ z. flag flags z.1) s ∙ f in
        subst (λ x. Contains (if x then d ∷ leading flags b es else leading flags b es) e) (sym (ap (λ x. same_flag x b) at ∙ same_refl b)) (is_first e d (leading flags b es) s)
    go (inr r) ih = later (same_flag (flag flags d.1) b) (ih r)

pub leading_only : (flags : List Bool) (b : Bool) (es : Edges) (e : ℕ × ℕ) → Contains (leading flags b es) e → Contains es e × (flag flags e.1 ≡ b)
leading_only flags b [] e c = absurd (is_none e c)
leading_only flags b (d ∷ es) e c = go (same_flag (flag flags d.1) b) refl c (leading_only flags b es e)
  where
    go : (x : Bool) → same_flag (flag flags d.1) b ≡ x → Contains (if x then d ∷ leading flags b es else leading flags b es) e → (Contains (leading flags b es) e → Contains es e × (flag flags e.1 ≡ b)) → Contains (d ∷ es) e × (flag flags e.1 ≡ b)
    go true f m ih = pick (is_among e d (leading flags b es) m)
      where
        pick : (d ≡ e) ⊎ Contains (leading flags b es) e → Contains (d ∷ es) e × (flag flags e.1 ≡ b)
        pick (inl s) = (is_first e d es s, ap (λ z. flag flags z.1) (sym s) ∙ flag_same (flag flags d.1) b f)
        pick (inr r) = let o = ih r in (is_later e d es o.0, o.1)
    go false f m ih = let o = ih m in (is_later e d es o.0, o.1)

-- they are between the same nodes
pub leading_below : (n : ℕ) (flags : List Bool) (b : Bool) (es : Edges) → AreBelow n es → AreBelow n (leading flags b es)
leading_below n flags b es h k d lt =
    let o = leading_only flags b es (get_or (leading flags b es) k d) (Contains-get_or (leading flags b es) k d lt) in
    All-contains (λ (e : ℕ × ℕ). (e.0 < n) × (e.1 < n)) es (get_or (leading flags b es) k d) h o.0

-- ---- what is reached

both : (a b : Bool) → a ≡ true → b ≡ true → (a && b) ≡ true
both true b h g = g
both false b h g = absurd cc

not_false : (b : Bool) → not b ≡ true → b ≡ false
not_false true h = absurd cc
not_false false h = refl

-- what is true where the other is, and the other way round, is the same
same_truth : (a b : Bool) → (a ≡ true → b ≡ true) → (b ≡ true → a ≡ true) → a ≡ b
same_truth true b f g = sym (f refl)
same_truth false true f g = g refl
same_truth false false f g = refl

-- by flags that tell which units have a dummy that carries a tangent
module _ (ps : List Procedure) (apart : AreApart (map unit_name ps)) (c : Carried) (flags : List Bool) (told : flags ≡ map (λ u. takes c ps u.name) ps) (number : ℕ) (head : Procedure) (at : unit_at number ps ≡ head ∷ []) where
  abbrev every : ℕ → Bool
  every i = true

  abbrev each : ℕ → Bool → Bool
  each i turns = true

  -- all calls
  abbrev pub edges : Edges
  edges = edges_of (λ i turns. true) (listed_from (map unit_name ps) 0 0 ps)

  abbrev has : List ℕ → Bool
  has = has_tangent c ps head.name

  head_at : At ps number head
  head_at = number_at ps number head at

  there : (j : ℕ) (u : Procedure) → At ps j u → is_unit ps u.name ≡ true
  there j u h = let f = found_there ps u.name u (find_at ps j u apart h) in f.0

  -- what a flag says of the unit at its place
  flag_told : (f : List ℕ → Bool) (fs : List Bool) → fs ≡ map (λ u. f u.name) ps → (j : ℕ) (u : Procedure) → At ps j u → flag fs j ≡ f u.name
  flag_told f fs is j u h =
      let a = at_map (λ (u : Procedure). f u.name) ps j u h in
      ap (λ z. flag z j) is ∙ get_or_any (map (λ (u : Procedure). f u.name) ps) j false (f u.name) a.within ∙ sym a.is

  takes_told : (j : ℕ) (u : Procedure) → At ps j u → flag flags j ≡ takes c ps u.name
  takes_told j u h = flag_told (takes c ps) flags told j u h

  -- ---- tangents

  paths : (j : ℕ) → ReachedFrom (leading flags true edges) (number ∷ []) j → (u : Procedure) × At ps j u × (has u.name ≡ true)
  paths j (begins k) = let s : number ≡ j = is_only j number k in (head, subst (λ z. At ps z head) s head_at, head_has c ps head.name ps refl (there number head head_at))
  paths j (leads {x = i} r k) =
      let o : (u : Procedure) × At ps i u × (has u.name ≡ true) = paths i r in
      let l = leading_only flags true edges (i, j) k in
      let s = step_of ps apart each (i, j) l.0 in
      let same : o.0 ≡ s.from = at_one ps i o.0 s.from o.1 s.from_at in
      let inside : has s.from.name ≡ true = ap (λ (z : Procedure). has z.name) (sym same) ∙ o.2 in
      let called : calls_some has every s.to.name 0 ps ≡ true = sym (some_same every s.to.name has 0 ps) ∙ s.calls has inside in
      let takes_one : takes c ps s.to.name ≡ true = sym (takes_told j s.to s.to_at) ∙ l.1 in
      (s.to, s.to_at, taking_has c ps head.name s.to.name (there j s.to s.to_at) takes_one called)

  rounds : (k j : ℕ) (u : Procedure) → At ps j u → made_after c ps head.name k u.name ≡ true → ReachedFrom (leading flags true edges) (number ∷ []) j
  rounds zero j u h r = absurd cc
  rounds (suc k) j u h r =
      from_one (either_of (name_eq head.name u.name) (takes c ps u.name && calls_some (made_after c ps head.name k) every u.name 0 ps) r)
      (λ e.
      let same : head.name ≡ u.name = name_same head.name u.name e in
      let place : number ≡ j = one_place (map unit_name ps) number j u.name apart (subst (At (map unit_name ps) number) same (at_map unit_name ps number head head_at)) (at_map unit_name ps j u h) in
      begins (is_first j number [] place))
      (λ e.
      let p = and_true (takes c ps u.name) (calls_some (made_after c ps head.name k) every u.name 0 ps) e in
      let d = comes ps apart each (made_after c ps head.name k) j u h (some_same every u.name (made_after c ps head.name k) 0 ps ∙ p.1) in
      leads (rounds k d.place d.unit d.at d.inside) (leading_has flags true edges (d.place, j) d.edge (takes_told j u h ∙ p.0)))

  pub made_are : (made : List Bool) → length made ≡ length ps → ((x : ℕ) → IsTrue (flag made x) ↔ ReachedFrom (leading flags true edges) (number ∷ []) x) → made ≡ map (λ u. has_tangent c ps head.name u.name) ps
  made_are made many exact = same_lists (λ (u : Procedure). has u.name) ps made many one
    where
      one : (j : ℕ) (u : Procedure) (b : Bool) → At ps j u → At made j b → b ≡ has u.name
      one j u b h g = same_truth b (has u.name)
          (λ t. let o = paths j ((exact j).0 (sym seen ∙ t)) in let s : o.0 ≡ u = at_one ps j o.0 u o.1 h in ap (λ (z : Procedure). has z.name) (sym s) ∙ o.2)
          (λ t. seen ∙ (exact j).1 (rounds (length ps) j u h t))
        where
          seen : b ≡ flag made j
          seen = g.is ∙ get_or_any made j b false g.within

  -- ---- units that stay

  abbrev roots : List ℕ → Bool
  roots n = not (takes c ps n) && calls_some (has_tangent c ps head.name) (λ i. true) n 0 ps

  pub stays_are : (made stay : List Bool) → made ≡ map (λ u. has_tangent c ps head.name u.name) ps → length stay ≡ length ps → ((x : ℕ) → IsTrue (flag stay x) ↔ ReachedFrom edges (ends_of made (leading flags false edges)) x) → stay ≡ map (λ u. stays c ps head.name u.name) ps
  stays_are made stay is many exact =
      flags_are ps apart every roots (ends_of made (leading flags false edges))
      (λ j k.
      let o = ends_only made (leading flags false edges) j k in
      let l = leading_only flags false edges o.0 o.1 in
      let s = step_of ps apart each o.0 l.0 in
      let inside : has s.from.name ≡ true = sym (flag_told has made is (o.0).0 s.from s.from_at) ∙ o.3 in
      let called : calls_some has every s.to.name 0 ps ≡ true = sym (some_same every s.to.name has 0 ps) ∙ s.calls has inside in
      let other : takes c ps s.to.name ≡ false = sym (takes_told (o.0).1 s.to s.to_at) ∙ l.1 in
      (s.to, subst (λ z. At ps z s.to) o.2 s.to_at, both (not (takes c ps s.to.name)) (calls_some has every s.to.name 0 ps) (ap not other) called))
      (λ j u h e.
      let p = and_true (not (takes c ps u.name)) (calls_some has every u.name 0 ps) e in
      let d = comes ps apart each has j u h (some_same every u.name has 0 ps ∙ p.1) in
      ends_has made (leading flags false edges) (d.place, j) (leading_has flags false edges (d.place, j) d.edge (takes_told j u h ∙ not_false (takes c ps u.name) p.0)) (flag_told has made is d.place d.unit d.at ∙ d.inside))
      (stays c ps head.name) (λ n k. refl) stay many exact
