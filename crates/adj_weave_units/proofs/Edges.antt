-- The calls that are listed are those of the units, and the edges those of the calls that count.
use Rattle.std.proofs.Common.{◌≡◌, ℕ, suc, ◌+◌, ◌⊎◌, inl, inr, Bool, true, false, List, [], ◌∷◌, ◌++◌, Some, None, refl, sym, ap, ◌∙◌, subst, arith, if◌then◌else◌}
use Rattle.std.specs.Prelude.{◌||◌, ◌&&◌, position, Option, Contains}
use Rattle.std.proofs.lemmas.List.Elements.{Contains-append_left, Contains-append_right, Contains-append_cases}
use Rattle.adj_tree.specs.Code.{name_eq, Act, assign, choose, loop, during, call, runtime, Code, stop, step, Procedure}
use Rattle.adj_tree.proofs.Names.{name_refl, name_same}
use Rattle.def_names.specs.Numbers.{next, behind}
use Rattle.def_names.proofs.Variables.{and_true, or_left, or_right}
use Rattle.def_sweep.specs.Plan.{found_or}
use Rattle.adj_reach.proofs.Members.{is_first, is_later, is_among, is_none, is_only}
use Rattle.adj_weave_units.specs.declared.calls.Call.{Call}
use Rattle.adj_weave_units.specs.Calls.{turned, call_to, listed_act, listed_in, listed_from, edges_of}
use Rattle.adj_weave_units.proofs.Calling.{has_act, has_in, has_some}
use Rattle.adj_weave_units.proofs.Places.{At, at_first, at_next}

pub either_of : (a b : Bool) → (a || b) ≡ true → (a ≡ true) ⊎ (b ≡ true)
either_of true b h = inl refl
either_of false b h = inr h

-- of one of two
pub from_one : {A B C : Type 0} → A ⊎ B → (A → C) → (B → C) → C
from_one (inl a) f g = f a
from_one (inr b) f g = g b

both : (a b : Bool) → a ≡ true → b ≡ true → (a && b) ≡ true
both true b h g = g
both false b h g = absurd cc

-- a call from a unit to another
abbrev pub call_by : ℕ → ℕ → ℕ → Bool → Call
call_by i k j t = record { number = i; from = k; to = j; turns = t }

-- ---- calls of one unit

-- a call from k to j is listed, in a statement of the set
record Lists (f : ℕ → Bool → Bool) (k : ℕ) (cs : List Call) (j : ℕ) : Type 0 where
  number : ℕ
  turns : Bool
  counts : f number turns ≡ true
  listed : Contains cs (call_by number k j turns)

in_first : (f : ℕ → Bool → Bool) (k : ℕ) (cs ds : List Call) (j : ℕ) → Lists f k cs j → Lists f k (cs ++ ds) j
in_first f k cs ds j l = record { number = l.number; turns = l.turns; counts = l.counts; listed = Contains-append_left cs ds (call_by l.number k j l.turns) l.listed }

in_other : (f : ℕ → Bool → Bool) (k : ℕ) (cs ds : List Call) (j : ℕ) → Lists f k ds j → Lists f k (cs ++ ds) j
in_other f k cs ds j l = record { number = l.number; turns = l.turns; counts = l.counts; listed = Contains-append_right cs ds (call_by l.number k j l.turns) l.listed }

module _ (names : List (List ℕ)) (k : ℕ) where
  module _ (f : ℕ → Bool → Bool) (n : List ℕ) (j : ℕ) (there : position (name_eq n) names ≡ Some j) where
    -- a call
    call_has : (i : ℕ) (t : Bool) (other : List ℕ) → (f i t && name_eq n other) ≡ true → Lists f k (call_to i k t (position (name_eq other) names)) j
    call_has i t other h =
        let p = and_true (f i t) (name_eq n other) h in
        let same : n ≡ other = name_same n other p.1 in
        let self : Contains (call_to i k t (Some j)) (call_by i k j t) = is_first (call_by i k j t) (call_by i k j t) [] refl in
        record { number = i; turns = t; counts = p.0; listed = subst (λ o. Contains (call_to i k t o) (call_by i k j t)) (sym there ∙ ap (λ z. position (name_eq z) names) same) self }

    -- the turns of a loop
    turns_have : (i : ℕ) (o : Option (List ℕ)) (x : Bool) (cs : List Call) → found_or o x (λ other. f i true && name_eq n other) ≡ true → (x ≡ true → Lists f k cs j) → Lists f k (found_or o cs (λ other. call_to i k true (position (name_eq other) names))) j
    turns_have i None x cs h inside = inside h
    turns_have i (Some other) x cs h inside = call_has i true other h

    mutual
      -- a call is listed
      act_has : (i : ℕ) (a : Act) → has_act f n i a ≡ true → Lists f k (listed_act names k i a) j
      act_has i (assign x subs e) h = absurd cc
      act_has i (choose c a b) h =
          let first = listed_in names k (suc i) a in
          let other = listed_in names k (behind (suc i) a) b in
          from_one (either_of (has_in f n (suc i) a) (has_in f n (behind (suc i) a) b) h)
          (λ e. in_first f k first other j (list_has (suc i) a e)) (λ e. in_other f k first other j (list_has (behind (suc i) a) b e))
      act_has i (loop x a b c body m) h = turns_have (suc i) (turned m body) (has_in f n (suc i) body) (listed_in names k (suc i) body) h (list_has (suc i) body)
      act_has i (during c body) h = list_has (suc i) body h
      act_has i (call other args) h = call_has i false other h
      act_has i (runtime r) h = absurd cc

      list_has : (i : ℕ) (c : Code) → has_in f n i c ≡ true → Lists f k (listed_in names k i c) j
      list_has i stop h = absurd cc
      list_has i (step line a rest) h =
          let first = listed_act names k i a in
          let other = listed_in names k (next i a) rest in
          from_one (either_of (has_act f n i a) (has_in f n (next i a) rest) h)
          (λ e. in_first f k first other j (act_has i a e)) (λ e. in_other f k first other j (list_has (next i a) rest e))

  -- a call that is listed comes from the unit
  abbrev OfAct : Call → ℕ → Act → Type 0
  OfAct d i a = (d.from ≡ k) × ((n : List ℕ) × (position (name_eq n) names ≡ Some d.to) × ((f : ℕ → Bool → Bool) → f d.number d.turns ≡ true → has_act f n i a ≡ true))

  abbrev OfCode : Call → ℕ → Code → Type 0
  OfCode d i c = (d.from ≡ k) × ((n : List ℕ) × (position (name_eq n) names ≡ Some d.to) × ((f : ℕ → Bool → Bool) → f d.number d.turns ≡ true → has_in f n i c ≡ true))

  -- a call
  abbrev OfCall' : Call → ℕ → Bool → List ℕ → Type 0
  OfCall' d i t other = (d.from ≡ k) × ((n : List ℕ) × (position (name_eq n) names ≡ Some d.to) × ((f : ℕ → Bool → Bool) → f d.number d.turns ≡ true → (f i t && name_eq n other) ≡ true))

  call_only : (d : Call) (i : ℕ) (t : Bool) (other : List ℕ) → Contains (call_to i k t (position (name_eq other) names)) d → OfCall' d i t other
  call_only d i t other h = go (position (name_eq other) names) refl h
    where
      go : (o : Option ℕ) → position (name_eq other) names ≡ o → Contains (call_to i k t o) d → OfCall' d i t other
      go None p e = absurd (is_none d e)
      go (Some j) p e =
          let s : call_by i k j t ≡ d = is_only d (call_by i k j t) e in
          (sym (ap (λ z. z.from) s), (other, p ∙ ap (λ z. Some z.to) s, λ f u. both (f i t) (name_eq other other) (ap (λ z. f z.number z.turns) s ∙ u) (name_refl other)))

  -- the turns of a loop
  turns_only : (d : Call) (i : ℕ) (body : Code) (o : Option (List ℕ)) → Contains (found_or o (listed_in names k i body) (λ other. call_to i k true (position (name_eq other) names))) d → (Contains (listed_in names k i body) d → OfCode d i body) →
      (d.from ≡ k) × ((n : List ℕ) × (position (name_eq n) names ≡ Some d.to) × ((f : ℕ → Bool → Bool) → f d.number d.turns ≡ true → found_or o (has_in f n i body) (λ other. f i true && name_eq n other) ≡ true))
  turns_only d i body None h inside = inside h
  turns_only d i body (Some other) h inside = call_only d i true other h

  mutual
    act_only : (d : Call) (i : ℕ) (a : Act) → Contains (listed_act names k i a) d → OfAct d i a
    act_only d i (assign x subs t) h = absurd (is_none d h)
    act_only d i (choose c a b) h =
        let j = behind (suc i) a in
        from_one (Contains-append_cases (listed_in names k (suc i) a) (listed_in names k j b) d h)
        (λ e. let r = list_only d (suc i) a e in (r.0, (r.1.0, r.1.1, λ f t. or_left (has_in f r.1.0 (suc i) a) (has_in f r.1.0 j b) (r.1.2 f t))))
        (λ e. let r = list_only d j b e in (r.0, (r.1.0, r.1.1, λ f t. or_right (has_in f r.1.0 (suc i) a) (has_in f r.1.0 j b) (r.1.2 f t))))
    act_only d i (loop x a b c body m) h = turns_only d (suc i) body (turned m body) h (list_only d (suc i) body)
    act_only d i (during c body) h = list_only d (suc i) body h
    act_only d i (call other args) h = call_only d i false other h
    act_only d i (runtime r) h = absurd (is_none d h)

    list_only : (d : Call) (i : ℕ) (c : Code) → Contains (listed_in names k i c) d → OfCode d i c
    list_only d i stop h = absurd (is_none d h)
    list_only d i (step line a rest) h =
        let j = next i a in
        from_one (Contains-append_cases (listed_act names k i a) (listed_in names k j rest) d h)
        (λ e. let r = act_only d i a e in (r.0, (r.1.0, r.1.1, λ f t. or_left (has_act f r.1.0 i a) (has_in f r.1.0 j rest) (r.1.2 f t))))
        (λ e. let r = list_only d j rest e in (r.0, (r.1.0, r.1.1, λ f t. or_right (has_act f r.1.0 i a) (has_in f r.1.0 j rest) (r.1.2 f t))))

-- ---- of all units, of which the first is the k-th and begins with the i-th statement

-- a unit of a set that calls another has its call listed
pub record SomeLists (names : List (List ℕ)) (among : List ℕ → Bool) (f : ℕ → Bool → Bool) (k i : ℕ) (us : List Procedure) (j : ℕ) : Type 0 where
  pub place : ℕ
  pub unit : Procedure
  pub at : At us place unit
  pub inside : among unit.name ≡ true
  pub number : ℕ
  pub turns : Bool
  pub counts : f number turns ≡ true
  pub listed : Contains (listed_from names k i us) (call_by number (k + place) j turns)

pub some_listed : (names : List (List ℕ)) (among : List ℕ → Bool) (f : ℕ → Bool → Bool) (n : List ℕ) (j : ℕ) → position (name_eq n) names ≡ Some j → (k i : ℕ) (us : List Procedure) → has_some among f n i us ≡ true → SomeLists names among f k i us j
some_listed names among f n j p k i [] h = absurd cc
some_listed names among f n j p k i (v ∷ us) h =
    from_one (either_of (among v.name && has_in f n i v.body) (has_some among f n (behind i v.body) us) h) here
    (λ e. later (some_listed names among f n j p (suc k) (behind i v.body) us e))
  where
    own : List Call
    own = listed_in names k i v.body

    here : (among v.name && has_in f n i v.body) ≡ true → SomeLists names among f k i (v ∷ us) j
    here e =
        let b = and_true (among v.name) (has_in f n i v.body) e in
        let l = list_has names k f n j p i v.body b.1 in
        let same : k ≡ k + 0 = omega arith in
        let there : Contains (listed_from names k i (v ∷ us)) (call_by l.number k j l.turns) = Contains-append_left (listed_in names k i v.body) (listed_from names (suc k) (behind i v.body) us) (call_by l.number k j l.turns) l.listed in
        record { place = 0; unit = v; at = at_first v us; inside = b.0; number = l.number; turns = l.turns; counts = l.counts; listed = subst (λ z. Contains (listed_from names k i (v ∷ us)) (call_by l.number z j l.turns)) same there }

    later : SomeLists names among f (suc k) (behind i v.body) us j → SomeLists names among f k i (v ∷ us) j
    later l =
        let same : suc k + l.place ≡ k + suc l.place = omega arith in
        let there : Contains (listed_from names k i (v ∷ us)) (call_by l.number (suc k + l.place) j l.turns) = Contains-append_right (listed_in names k i v.body) (listed_from names (suc k) (behind i v.body) us) (call_by l.number (suc k + l.place) j l.turns) l.listed in
        record {
          place = suc l.place;
          unit = l.unit;
          at = at_next v l.unit us l.place l.at;
          inside = l.inside;
          number = l.number;
          turns = l.turns;
          counts = l.counts;
          listed = subst (λ z. Contains (listed_from names k i (v ∷ us)) (call_by l.number z j l.turns)) same there;
        }

-- and each call that is listed is one of a unit
pub record OfCall (names : List (List ℕ)) (k i : ℕ) (us : List Procedure) (d : Call) : Type 0 where
  pub place : ℕ
  pub unit : Procedure
  pub at : At us place unit
  pub from : d.from ≡ k + place
  pub callee : List ℕ
  pub to : position (name_eq callee) names ≡ Some d.to
  pub calls : (among : List ℕ → Bool) (f : ℕ → Bool → Bool) → among unit.name ≡ true → f d.number d.turns ≡ true → has_some among f callee i us ≡ true

pub listed_only : (names : List (List ℕ)) (k i : ℕ) (us : List Procedure) (d : Call) → Contains (listed_from names k i us) d → OfCall names k i us d
listed_only names k i [] d h = absurd (is_none d h)
listed_only names k i (v ∷ us) d h =
    from_one (Contains-append_cases (listed_in names k i v.body) (listed_from names (suc k) (behind i v.body) us) d h) here (λ e. later (listed_only names (suc k) (behind i v.body) us d e))
  where
    here : Contains (listed_in names k i v.body) d → OfCall names k i (v ∷ us) d
    here e =
        let r = list_only names k d i v.body e in
        let f : d.from ≡ k = r.0 in
        record {
          place = 0;
          unit = v;
          at = at_first v us;
          from = omega arith;
          callee = r.1.0;
          to = r.1.1;
          calls = λ among f a t. or_left (among v.name && has_in f r.1.0 i v.body) (has_some among f r.1.0 (behind i v.body) us) (both (among v.name) (has_in f r.1.0 i v.body) a (r.1.2 f t));
        }

    later : OfCall names (suc k) (behind i v.body) us d → OfCall names k i (v ∷ us) d
    later r =
        let f : d.from ≡ suc k + r.place = r.from in
        record {
          place = suc r.place;
          unit = r.unit;
          at = at_next v r.unit us r.place r.at;
          from = omega arith;
          callee = r.callee;
          to = r.to;
          calls = λ among f a t. or_right (among v.name && has_in f r.callee i v.body) (has_some among f r.callee (behind i v.body) us) (r.calls among f a t);
        }

-- ---- edges

abbrev ends : Call → ℕ × ℕ
ends d = (d.from, d.to)

pub edges_has : (f : ℕ → Bool → Bool) (cs : List Call) (d : Call) → Contains cs d → f d.number d.turns ≡ true → Contains (edges_of f cs) (d.from, d.to)
edges_has f [] d c t = absurd (is_none d c)
edges_has f (b ∷ cs) d c t = go (is_among d b cs c) (λ r. edges_has f cs d r t)
  where
    later : (x : Bool) → Contains (edges_of f cs) (ends d) → Contains (if x then ends b ∷ edges_of f cs else edges_of f cs) (ends d)
    later true r = is_later (ends d) (ends b) (edges_of f cs) r
    later false r = r

    go : (b ≡ d) ⊎ Contains cs d → (Contains cs d → Contains (edges_of f cs) (ends d)) → Contains (if f b.number b.turns then ends b ∷ edges_of f cs else edges_of f cs) (ends d)
    go (inl s) ih = subst (λ x. Contains (if x then ends b ∷ edges_of f cs else edges_of f cs) (ends d)) (sym (ap (λ z. f z.number z.turns) s ∙ t)) (is_first (ends d) (ends b) (edges_of f cs) (ap ends s))
    go (inr r) ih = later (f b.number b.turns) (ih r)

pub edges_only : (f : ℕ → Bool → Bool) (cs : List Call) (e : ℕ × ℕ) → Contains (edges_of f cs) e → (d : Call) × Contains cs d × (ends d ≡ e) × (f d.number d.turns ≡ true)
edges_only f [] e c = absurd (is_none e c)
edges_only f (b ∷ cs) e c = go (f b.number b.turns) refl c (edges_only f cs e)
  where
    go : (x : Bool) → f b.number b.turns ≡ x → Contains (if x then ends b ∷ edges_of f cs else edges_of f cs) e → (Contains (edges_of f cs) e → (d : Call) × Contains cs d × (ends d ≡ e) × (f d.number d.turns ≡ true)) →
        (d : Call) × Contains (b ∷ cs) d × (ends d ≡ e) × (f d.number d.turns ≡ true)
    go true t m ih = pick (is_among e (ends b) (edges_of f cs) m)
      where
        pick : (ends b ≡ e) ⊎ Contains (edges_of f cs) e → (d : Call) × Contains (b ∷ cs) d × (ends d ≡ e) × (f d.number d.turns ≡ true)
        pick (inl s) = (b, is_first b b cs refl, s, t)
        pick (inr r) = let o = ih r in (o.0, is_later o.0 b cs o.1, o.2, o.3)
    go false t m ih = let o = ih m in (o.0, is_later o.0 b cs o.1, o.2, o.3)
