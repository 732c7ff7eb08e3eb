-- The units that are reached are the nodes that paths along calls meet.
use Rattle.std.proofs.Common.{◌≡◌, ℕ, zero, suc, ◌+◌, ◌<◌, ◌⊎◌, inl, inr, Bool, true, false, List, [], ◌∷◌, map, length, get_or, refl, sym, ap, ◌∙◌, subst, arith, if◌then◌else◌}
use Rattle.std.specs.Prelude.{◌↔◌, Contains, IsTrue}
use Rattle.std.specs.List.{All}
use Rattle.std.proofs.lemmas.List.{length-map}
use Rattle.std.proofs.lemmas.List.Elements.{Contains-get_or, All-contains}
use Rattle.adj_tree.specs.Code.{Procedure}
use Rattle.def_meaning.specs.Apart.{AreApart}
use Rattle.def_sweep.specs.Declared.{unit_name}
use Rattle.def_names.proofs.Variables.{or_right}
use Rattle.def_sweep.specs.Program.{calls_some, reached_after, is_reached}
use Rattle.law_sweep.specs.Source.{is_unit}
use Rattle.law_sweep.proofs.Rounds.{reached_last}
use Rattle.law_sweep.proofs.UnitLists.{found_there}
use Rattle.law_emitted.proofs.Callings.{roots_reached}
use Rattle.adj_reach.specs.Reached.{begins, leads}
use Rattle.adj_reach.proofs.Members.{is_first, is_later, is_among, is_none}
use Rattle.adj_reach.specs.Edges.{Edges, ReachedFrom, AreBelow, flag}
use Rattle.adj_naming.proofs.Places.{get_or_any}
use Rattle.adj_weave_units.specs.declared.calls.Call.{Call}
use Rattle.adj_weave_units.specs.Calls.{listed_from, edges_of, ends_of}
use Rattle.adj_weave_units.proofs.Calling.{has_some, some_same}
use Rattle.adj_weave_units.proofs.Places.{At, at_there, at_one, at_map, at_place, place_at, find_at, same_lists}
use Rattle.adj_weave_units.proofs.Edges.{call_by, either_of, from_one, some_listed, listed_only, edges_has, edges_only}

-- ---- the ends of edges from flagged nodes

pub ends_has : (flags : List Bool) (es : Edges) (e : ℕ × ℕ) → Contains es e → flag flags e.0 ≡ true → Contains (ends_of flags es) e.1
ends_has flags [] e c f = absurd (is_none e c)
ends_has flags (d ∷ es) e c f = go (is_among e d es c) (λ r. ends_has flags es e r f)
  where
    later : (b : Bool) → Contains (ends_of flags es) e.1 → Contains (if b then d.1 ∷ ends_of flags es else ends_of flags es) e.1
    later true r = is_later e.1 d.1 (ends_of flags es) r
    later false r = r

    go : (d ≡ e) ⊎ Contains es e → (Contains es e → Contains (ends_of flags es) e.1) → Contains (if flag flags d.0 then d.1 ∷ ends_of flags es else ends_of flags es) e.1
    go (inl s) ih = subst (λ b. Contains (if b then d.1 ∷ ends_of flags es else ends_of flags es) e.1) (sym (ap (λ z. flag flags z.0) s ∙ f)) (is_first e.1 d.1 (ends_of flags es) (ap (λ z. z.1) s))
    go (inr r) ih = later (flag flags d.0) (ih r)

pub ends_only : (flags : List Bool) (es : Edges) (j : ℕ) → Contains (ends_of flags es) j → (e : ℕ × ℕ) × Contains es e × (e.1 ≡ j) × (flag flags e.0 ≡ true)
ends_only flags [] j c = absurd (is_none j c)
ends_only flags (d ∷ es) j c = go (flag flags d.0) refl c (ends_only flags es j)
  where
    go : (b : Bool) → flag flags d.0 ≡ b → Contains (if b then d.1 ∷ ends_of flags es else ends_of flags es) j → (Contains (ends_of flags es) j → (e : ℕ × ℕ) × Contains es e × (e.1 ≡ j) × (flag flags e.0 ≡ true)) →
        (e : ℕ × ℕ) × Contains (d ∷ es) e × (e.1 ≡ j) × (flag flags e.0 ≡ true)
    go true f m ih = pick (is_among j d.1 (ends_of flags es) m)
      where
        pick : (d.1 ≡ j) ⊎ Contains (ends_of flags es) j → (e : ℕ × ℕ) × Contains (d ∷ es) e × (e.1 ≡ j) × (flag flags e.0 ≡ true)
        pick (inl s) = (d, is_first d d es refl, s, f)
        pick (inr r) = let o = ih r in (o.0, is_later o.0 d es o.1, o.2, o.3)
    go false f m ih = let o = ih m in (o.0, is_later o.0 d es o.1, o.2, o.3)

-- what is true where the other is, and the other way round, is the same
same_truth : (a b : Bool) → (a ≡ true → b ≡ true) → (b ≡ true → a ≡ true) → a ≡ b
same_truth true b f g = sym (f refl)
same_truth false true f g = g refl
same_truth false false f g = refl

-- ---- what is reached

module _ (ps : List Procedure) (apart : AreApart (map unit_name ps)) where
  abbrev names : List (List ℕ)
  names = map unit_name ps

  abbrev pub calls : List Call
  calls = listed_from (map unit_name ps) 0 0 ps

  -- along the calls in the statements of a set
  module _ (f : ℕ → Bool → Bool) where
    abbrev pub edges : Edges
    edges = edges_of f (listed_from (map unit_name ps) 0 0 ps)

    -- an edge leads from a unit to one that it calls
    pub record Step (e : ℕ × ℕ) : Type 0 where
      pub from : Procedure
      pub from_at : At ps e.0 from
      pub to : Procedure
      pub to_at : At ps e.1 to
      pub calls : (among : List ℕ → Bool) → among from.name ≡ true → has_some among f to.name 0 ps ≡ true

    pub step_of : (e : ℕ × ℕ) → Contains edges e → Step e
    step_of e c =
        let d = edges_only f calls e c in
        let o = listed_only names 0 0 ps d.0 d.1 in
        let from : (d.0).from ≡ e.0 = ap (λ z. z.0) d.2 in
        let to : (d.0).to ≡ e.1 = ap (λ z. z.1) d.2 in
        let same : o.place ≡ e.0 = let f = o.from in omega arith in
        let named : At names e.1 o.callee = subst (λ z. At names z o.callee) to (at_place names (d.0).to o.callee o.to) in
        let many : length names ≡ length ps = length-map ps unit_name in
        let inside : e.1 < length ps = let l = named.within in omega arith in
        let u = at_there ps e.1 inside in
        let called : o.callee ≡ (u.0).name = at_one names e.1 o.callee (u.0).name named (at_map unit_name ps e.1 u.0 u.1) in
        record {
          from = o.unit;
          from_at = subst (λ z. At ps z o.unit) same o.at;
          to = u.0;
          to_at = u.1;
          calls = λ among a. subst (λ z. has_some among f z 0 ps ≡ true) called (o.calls among f a d.3);
        }

    -- what a unit of a set calls is at the end of an edge from one
    pub record Comes (among : List ℕ → Bool) (j : ℕ) : Type 0 where
      pub place : ℕ
      pub unit : Procedure
      pub at : At ps place unit
      pub inside : among unit.name ≡ true
      pub edge : Contains edges (place, j)

    pub comes : (among : List ℕ → Bool) (j : ℕ) (u : Procedure) → At ps j u → has_some among f u.name 0 ps ≡ true → Comes among j
    comes among j u h c =
        let l = some_listed names among f u.name j (place_at names j u.name apart (at_map unit_name ps j u h)) 0 0 ps c in
        let same : 0 + l.place ≡ l.place = omega arith in
        let edge : Contains edges (0 + l.place, j) = edges_has f calls (call_by l.number (0 + l.place) j l.turns) l.listed l.counts in
        record { place = l.place; unit = l.unit; at = l.at; inside = l.inside; edge = subst (λ z. Contains edges (z, j)) same edge }

    -- each edge is between units
    pub edges_below : AreBelow (length ps) edges
    edges_below k d lt = let s = step_of (get_or edges k d) (Contains-get_or edges k d lt) in let a = s.from_at in let b = s.to_at in (a.within, b.within)

  -- what is reached along calls in the statements of a set
  module _ (f : ℕ → Bool) (roots : List ℕ → Bool) (start : List ℕ) (only : (j : ℕ) → Contains start j → (u : Procedure) × At ps j u × (roots u.name ≡ true)) (whole : (j : ℕ) (u : Procedure) → At ps j u → roots u.name ≡ true → Contains start j) where
    abbrev along : ℕ → Bool → Bool
    along i turns = f i

    abbrev after : ℕ → List ℕ → Bool
    after k = reached_after roots f ps k

    there : (j : ℕ) (u : Procedure) → At ps j u → is_unit ps u.name ≡ true
    there j u h = let f = found_there ps u.name u (find_at ps j u apart h) in f.0

    paths : (j : ℕ) → ReachedFrom (edges along) start j → (u : Procedure) × At ps j u × (after (length ps) u.name ≡ true)
    paths j (begins c) = let o = only j c in (o.0, o.1, roots_reached roots f ps (o.0).name o.0 (find_at ps j o.0 apart o.1) (o.0).name o.2)
    paths j (leads {x = i} r c) =
        let o : (u : Procedure) × At ps i u × (after (length ps) u.name ≡ true) = paths i r in
        let s = step_of along (i, j) c in
        let same : o.0 ≡ s.from = at_one ps i o.0 s.from o.1 s.from_at in
        let inside : after (length ps) s.from.name ≡ true = ap (λ (z : Procedure). after (length ps) z.name) (sym same) ∙ o.2 in
        (s.to, s.to_at, reached_last roots f ps s.to.name (there j s.to s.to_at) (or_right (roots s.to.name) (calls_some (after (length ps)) f s.to.name 0 ps) (sym (some_same f s.to.name (after (length ps)) 0 ps) ∙ s.calls (after (length ps)) inside)))

    rounds : (k j : ℕ) (u : Procedure) → At ps j u → after k u.name ≡ true → ReachedFrom (edges along) start j
    rounds zero j u h r = absurd cc
    rounds (suc k) j u h r =
        from_one (either_of (roots u.name) (calls_some (after k) f u.name 0 ps) r)
        (λ e. begins (whole j u h e))
        (λ e. let d = comes along (after k) j u h (some_same f u.name (after k) 0 ps ∙ e) in leads (rounds k d.place d.unit d.at d.inside) d.edge)

    -- flags that say of each node whether a path meets it say of each unit whether it is reached, or what is the same of units that are there
    pub flags_are : (told : List ℕ → Bool) → ((n : List ℕ) → is_unit ps n ≡ true → told n ≡ is_reached roots f ps n) → (flags : List Bool) → length flags ≡ length ps → ((x : ℕ) → IsTrue (flag flags x) ↔ ReachedFrom (edges along) start x) → flags ≡ map (λ u. told u.name) ps
    flags_are told same flags many exact = same_lists (λ (u : Procedure). told u.name) ps flags many (λ j u b h g. one j u b h g ∙ sym (same u.name (there j u h)))
      where
        one : (j : ℕ) (u : Procedure) (b : Bool) → At ps j u → At flags j b → b ≡ is_reached roots f ps u.name
        one j u b h g = same_truth b (after (length ps) u.name)
            (λ t. let o = paths j ((exact j).0 (sym seen ∙ t)) in let s : o.0 ≡ u = at_one ps j o.0 u o.1 h in ap (λ (z : Procedure). after (length ps) z.name) (sym s) ∙ o.2)
            (λ t. seen ∙ (exact j).1 (rounds (length ps) j u h t))
          where
            seen : b ≡ flag flags j
            seen = g.is ∙ get_or_any flags j b false g.within

-- the ends of edges are nodes
pub ends_below : (n : ℕ) (flags : List Bool) (es : Edges) → AreBelow n es → All (λ x. x < n) (ends_of flags es)
ends_below n flags es h k d lt =
    let o = ends_only flags es (get_or (ends_of flags es) k d) (Contains-get_or (ends_of flags es) k d lt) in
    let b = All-contains (λ (e : ℕ × ℕ). (e.0 < n) × (e.1 < n)) es o.0 h o.1 in
    subst (λ z. z < n) o.2 b.1
