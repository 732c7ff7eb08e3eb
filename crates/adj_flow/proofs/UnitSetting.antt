-- The bits of the places of variables are set one after another.
use Rattle.std.proofs.Common.{◌≡◌, ◌⊎◌, inl, inr, ℕ, ◌+◌, ◌*◌, ◌<◌, ◌≤◌, List, [], ◌∷◌, ◌++◌, Bool, true, false, map, take, length, get_or, refl, sym, ap, ◌∙◌, subst, arith, eqb-true, eq-eqb}
use Rattle.std.specs.Prelude.{◌↔◌, Contains, Option, Some, None, IfSome, if◌then◌else◌, ◌==◌}
use Rattle.std.proofs.lemmas.List.{length-map, take_more, length_push, get_or_append_left, get_or_push, length-take-le, get_or_default}
use Rattle.std.proofs.lemmas.List.Elements.{Contains-append_left, Contains-push, Contains-push_cases, Contains-get_or}
use Rattle.std.proofs.lemmas.Bool.{cases_lt}
use Rattle.std.proofs.lemmas.Nat.{same_from_place}
use Rattle.adj_tree.specs.Code.{plain}
use Rattle.adj_reach.proofs.Members.{map_only}
use Rattle.adj_symbols_writes.specs.Graph.{place_from}
use Rattle.adj_flow.specs.Nodes.{place_in}
use Rattle.adj_flow.specs.NodeView.{vars_of}
use Rattle.adj_flow.specs.Rows.{Row}
use Rattle.adj_flow.proofs.Naming.{placed}
use Rattle.adj_flow.proofs.Places.{place_range, place_only}
use Rattle.adj_tree.specs.Bits.{bit}
use Rattle.adj_reach_rows.specs.declared.bits.Rows.{Rows}
use Rattle.adj_flow.specs.UnitRows.{IsPlace, HoldPlaces}

-- ---- one bit

pub set_one : (old new : List ℕ) (k : ℕ) → ((n : ℕ) → bit new n ≡ (if n == k then 1 else bit old n)) → (n : ℕ) → (bit new n ≡ 1) ↔ ((bit old n ≡ 1) ⊎ (n ≡ k))
set_one old new k h n = go (n == k) refl (h n)
  where
    go : (b : Bool) → (n == k) ≡ b → bit new n ≡ (if b then 1 else bit old n) → (bit new n ≡ 1) ↔ ((bit old n ≡ 1) ⊎ (n ≡ k))
    go true e q = (λ _. inr (eqb-true n k e), λ _. q)
    go false e q = (λ r. inl (sym q ∙ r), back)
      where
        back : (bit old n ≡ 1) ⊎ (n ≡ k) → bit new n ≡ 1
        back (inl r) = q ∙ r
        back (inr r) = absurd (let t : (n == k) ≡ true = eq-eqb n k r in cc)

-- a place, if there is one
pub set_some : (old new : List ℕ) (first j : ℕ) (o : Option ℕ) → o ≡ Some j → ((n : ℕ) → bit new n ≡ (if n == first + j then 1 else bit old n)) → (n : ℕ) → (bit new n ≡ 1) ↔ ((bit old n ≡ 1) ⊎ ((i : ℕ) × (o ≡ Some i) × (n ≡ first + i)))
set_some old new first j o e h n = (λ r. to ((set_one old new (first + j) h n).0 r), λ r. (set_one old new (first + j) h n).1 (from r))
  where
    to : (bit old n ≡ 1) ⊎ (n ≡ first + j) → (bit old n ≡ 1) ⊎ ((i : ℕ) × (o ≡ Some i) × (n ≡ first + i))
    to (inl r) = inl r
    to (inr r) = inr (j, e, r)

    from : (bit old n ≡ 1) ⊎ ((i : ℕ) × (o ≡ Some i) × (n ≡ first + i)) → (bit old n ≡ 1) ⊎ (n ≡ first + j)
    from (inl r) = inl r
    from (inr (i, p, r)) = let q : i ≡ j = cc in inr (r ∙ ap (λ z. first + z) q)

pub set_none : (old : List ℕ) (first : ℕ) (o : Option ℕ) → o ≡ None → (n : ℕ) → (bit old n ≡ 1) ↔ ((bit old n ≡ 1) ⊎ ((i : ℕ) × (o ≡ Some i) × (n ≡ first + i)))
set_none old first o e n = (λ r. inl r, back)
  where
    back : (bit old n ≡ 1) ⊎ ((i : ℕ) × (o ≡ Some i) × (n ≡ first + i)) → bit old n ≡ 1
    back (inl r) = r
    back (inr (i, p, r)) = absurd cc

-- ---- the variables of a unit

-- a place is below the number of names
pub place_below : (names : List (List ℕ)) (x : List ℕ) (most : ℕ) → length names ≤ most → IfSome (place_from 0 names x) (λ j. j < most)
place_below names x most l = go (place_from 0 names x) refl
  where
    go : (o : Option ℕ) → place_from 0 names x ≡ o → IfSome o (λ j. j < most)
    go None e = tt
    go (Some j) e = let r = place_range 0 (map (λ y. plain y) names) (plain x) j (placed 0 names x ∙ e) in omega (arith, r.1, l, length-map names (λ y. plain y))

-- of some of the names
pub record IsSet (names passed : List (List ℕ)) (first n : ℕ) : Type 0 where
  pub name : List ℕ
  pub place : ℕ
  pub among : Contains passed name
  pub is : place_from 0 names name ≡ Some place
  pub at : n ≡ first + place

pub set_more : (names items : List (List ℕ)) (i first : ℕ) (old cur new : List ℕ) → i < length items → ((n : ℕ) → (bit cur n ≡ 1) ↔ ((bit old n ≡ 1) ⊎ IsSet names (take i items) first n)) →
    ((n : ℕ) → (bit new n ≡ 1) ↔ ((bit cur n ≡ 1) ⊎ ((j : ℕ) × (place_from 0 names (get_or items i []) ≡ Some j) × (n ≡ first + j)))) → (n : ℕ) → (bit new n ≡ 1) ↔ ((bit old n ≡ 1) ⊎ IsSet names (take (i + 1) items) first n)
set_more names items i first old cur new l a b n = (λ r. to ((b n).0 r), λ r. (b n).1 (from r))
  where
    more : take (i + 1) items ≡ take i items ++ get_or items i [] ∷ []
    more = take_more items i [] l

    first_to : (bit old n ≡ 1) ⊎ IsSet names (take i items) first n → (bit old n ≡ 1) ⊎ IsSet names (take (i + 1) items) first n
    first_to (inl r) = inl r
    first_to (inr s) = inr (record { name = s.name; place = s.place; among = subst (λ z. Contains z s.name) (sym more) (Contains-append_left (take i items) (get_or items i [] ∷ []) s.name s.among); is = s.is; at = s.at })

    to : (bit cur n ≡ 1) ⊎ ((j : ℕ) × (place_from 0 names (get_or items i []) ≡ Some j) × (n ≡ first + j)) → (bit old n ≡ 1) ⊎ IsSet names (take (i + 1) items) first n
    to (inl r) = first_to ((a n).0 r)
    to (inr (j, e, r)) = inr (record { name = get_or items i []; place = j; among = subst (λ z. Contains z (get_or items i [])) (sym more) (Contains-push (take i items) (get_or items i [])); is = e; at = r })

    from : (bit old n ≡ 1) ⊎ IsSet names (take (i + 1) items) first n → (bit cur n ≡ 1) ⊎ ((j : ℕ) × (place_from 0 names (get_or items i []) ≡ Some j) × (n ≡ first + j))
    from (inl r) = inl ((a n).1 (inl r))
    from (inr s) = by (Contains-push_cases (take i items) (get_or items i []) s.name (subst (λ z. Contains z s.name) more s.among))
      where
        by : Contains (take i items) s.name ⊎ (get_or items i [] ≡ s.name) → (bit cur n ≡ 1) ⊎ ((j : ℕ) × (place_from 0 names (get_or items i []) ≡ Some j) × (n ≡ first + j))
        by (inl c) = inl ((a n).1 (inr (record { name = s.name; place = s.place; among = c; is = s.is; at = s.at })))
        by (inr e) = inr (s.place, ap (place_from 0 names) e ∙ s.is, s.at)

-- of all: the places of the variables
pub set_all : (names : List (List ℕ)) (first n : ℕ) → IsSet names names first n ↔ ((j : ℕ) × IsPlace (map (λ y. plain y) names) j × (n ≡ first + j))
set_all names first n = (to, from)
  where
    to : IsSet names names first n → (j : ℕ) × IsPlace (map (λ y. plain y) names) j × (n ≡ first + j)
    to s = (s.place, (plain s.name, placed 0 names s.name ∙ s.is), s.at)

    from : (j : ℕ) × IsPlace (map (λ y. plain y) names) j × (n ≡ first + j) → IsSet names names first n
    from (j, (v, e), r) =
        let c = map_only (λ y. plain y) names v (place_only 0 (map (λ y. plain y) names) v j e) in
        record { name = c.0; place = j; among = c.1; is = sym (placed 0 names c.0) ∙ ap (place_in 0 (map (λ y. plain y) names)) c.2 ∙ e; at = r }

-- ---- all units

-- of some units, in their rows
pub record IsHeld (gs : List Row) (words n : ℕ) : Type 0 where
  pub unit : Row
  pub row : ℕ
  pub place : ℕ
  pub within : row < length gs
  pub there : (d : Row) → get_or gs row d ≡ unit
  pub is : IsPlace (vars_of unit) place
  pub at : n ≡ row * words * 64 + place

pub held_more : (gs : List Row) (row words : ℕ) (d : Row) (old new : List ℕ) → row < length gs → ((n : ℕ) → (bit old n ≡ 1) ↔ IsHeld (take row gs) words n) →
    ((n : ℕ) → (bit new n ≡ 1) ↔ ((bit old n ≡ 1) ⊎ ((j : ℕ) × IsPlace (vars_of (get_or gs row d)) j × (n ≡ row * words * 64 + j)))) → (n : ℕ) → (bit new n ≡ 1) ↔ IsHeld (take (row + 1) gs) words n
held_more gs row words d old new l a b n = (λ r. to ((b n).0 r), λ r. (b n).1 (from r))
  where
    size : length (take row gs) ≡ row
    size = length-take-le row gs (omega (arith, l))

    more : take (row + 1) gs ≡ take row gs ++ get_or gs row d ∷ []
    more = take_more gs row d l

    to : (bit old n ≡ 1) ⊎ ((j : ℕ) × IsPlace (vars_of (get_or gs row d)) j × (n ≡ row * words * 64 + j)) → IsHeld (take (row + 1) gs) words n
    to (inl r) =
        let h = (a n).0 r in
        let k = h.within in
        record {
          unit = h.unit;
          row = h.row;
          place = h.place;
          within = let s : length (take (row + 1) gs) ≡ row + 1 = ap length more ∙ length_push (take row gs) (get_or gs row d) ∙ ap (λ z. z + 1) size in omega (arith, s, k, size);
          there = λ e. ap (λ z. get_or z h.row e) more ∙ get_or_append_left (take row gs) (get_or gs row d ∷ []) e h.row k ∙ h.there e;
          is = h.is;
          at = h.at;
        }
    to (inr (j, p, r)) =
        record {
          unit = get_or gs row d;
          row = row;
          place = j;
          within = let s : length (take (row + 1) gs) ≡ row + 1 = ap length more ∙ length_push (take row gs) (get_or gs row d) ∙ ap (λ z. z + 1) size in omega (arith, s);
          there = λ e. ap (λ z. get_or z row e) more ∙ get_or_push (take row gs) (get_or gs row d) e row size;
          is = p;
          at = r;
        }

    from : IsHeld (take (row + 1) gs) words n → (bit old n ≡ 1) ⊎ ((j : ℕ) × IsPlace (vars_of (get_or gs row d)) j × (n ≡ row * words * 64 + j))
    from h = by (cases_lt h.row row)
      where
        by : (h.row < row) ⊎ (row ≤ h.row) → (bit old n ≡ 1) ⊎ ((j : ℕ) × IsPlace (vars_of (get_or gs row d)) j × (n ≡ row * words * 64 + j))
        by (inl k) =
            let k' : h.row < length (take row gs) = omega (arith, k, size) in
            inl ((a n).1 (record { unit = h.unit; row = h.row; place = h.place; within = k'; there = λ e. sym (get_or_append_left (take row gs) (get_or gs row d ∷ []) e h.row k') ∙ ap (λ z. get_or z h.row e) (sym more) ∙ h.there e; is = h.is; at = h.at }))
        by (inr k) =
            let s : length (take (row + 1) gs) ≡ row + 1 = ap length more ∙ length_push (take row gs) (get_or gs row d) ∙ ap (λ z. z + 1) size in
            let w = h.within in
            let q : h.row ≡ row = omega (arith, k, s, w) in
            let u : h.unit ≡ get_or gs row d = sym (h.there d) ∙ ap (λ z. get_or z h.row d) more ∙ ap (λ z. get_or (take row gs ++ get_or gs row d ∷ []) z d) q ∙ get_or_push (take row gs) (get_or gs row d) d row size in
            inr (h.place, subst (λ g. IsPlace (vars_of g) h.place) u h.is, h.at ∙ ap (λ z. z * words * 64 + h.place) q)

pub held_none : (gs : List Row) (words : ℕ) (old : List ℕ) → ((n : ℕ) → bit old n ≡ 0) → (n : ℕ) → (bit old n ≡ 1) ↔ IsHeld (take 0 gs) words n
held_none gs words old h n = (λ r. absurd (let z = h n in omega (arith, r, z)), λ s. absurd (let w = s.within in omega (arith, w)))

-- at the start none is set
pub set_start : (names items : List (List ℕ)) (first : ℕ) (old : List ℕ) (n : ℕ) → (bit old n ≡ 1) ↔ ((bit old n ≡ 1) ⊎ IsSet names (take 0 items) first n)
set_start names items first old n = (λ r. inl r, back)
  where
    back : (bit old n ≡ 1) ⊎ IsSet names (take 0 items) first n → bit old n ≡ 1
    back (inl r) = r
    back (inr s) = let c = s.among in absurd (omega (arith, c.1))

-- at the end all are
pub set_end : (names passed : List (List ℕ)) (first : ℕ) (old cur : List ℕ) → passed ≡ names → ((n : ℕ) → (bit cur n ≡ 1) ↔ ((bit old n ≡ 1) ⊎ IsSet names passed first n)) →
    (n : ℕ) → (bit cur n ≡ 1) ↔ ((bit old n ≡ 1) ⊎ ((j : ℕ) × IsPlace (map (λ y. plain y) names) j × (n ≡ first + j)))
set_end names passed first old cur e h n = (λ r. to ((h n).0 r), λ r. (h n).1 (from r))
  where
    to : (bit old n ≡ 1) ⊎ IsSet names passed first n → (bit old n ≡ 1) ⊎ ((j : ℕ) × IsPlace (map (λ y. plain y) names) j × (n ≡ first + j))
    to (inl r) = inl r
    to (inr s) = inr ((set_all names first n).0 (subst (λ z. IsSet names z first n) e s))

    from : (bit old n ≡ 1) ⊎ ((j : ℕ) × IsPlace (map (λ y. plain y) names) j × (n ≡ first + j)) → (bit old n ≡ 1) ⊎ IsSet names passed first n
    from (inl r) = inl r
    from (inr p) = inr (subst (λ z. IsSet names z first n) (sym e) ((set_all names first n).1 p))

-- so each unit's row has the places of its variables
pub hold_places : (rows : Rows) (gs : List Row) (width : ℕ) → width < 64 * rows.words → ((i : ℕ) (d : Row) → i < length gs → (get_or gs i d).part.number ≡ i) → ((g : Row) → Contains gs g → length (vars_of g) ≤ width) →
    ((n : ℕ) → (bit rows.bits.items n ≡ 1) ↔ IsHeld gs rows.words n) → HoldPlaces rows gs
hold_places rows gs width wide numbers narrow held g c j l = (λ b. to ((held (g.part.number * rows.words * 64 + j)).0 b), λ p. (held (g.part.number * rows.words * 64 + j)).1 (from p))
  where
    at : get_or gs c.0 g ≡ g
    at = c.2

    number : g.part.number ≡ c.0
    number = sym (ap (λ (r : Row). r.part.number) at) ∙ numbers c.0 g c.1

    below : (h : IsHeld gs rows.words (g.part.number * rows.words * 64 + j)) → h.place < rows.words * 64
    below h =
        let p = h.is in
        let r = place_range 0 (vars_of h.unit) p.0 h.place p.1 in
        let n : length (vars_of h.unit) ≤ width = narrow h.unit (subst (λ u. Contains gs u) (h.there g) (Contains-get_or gs h.row g h.within)) in
        omega (arith, r.1, n, wide)

    to : IsHeld gs rows.words (g.part.number * rows.words * 64 + j) → IsPlace (vars_of g) j
    to h =
        let e : g.part.number * (rows.words * 64) + j ≡ h.row * (rows.words * 64) + h.place = let q = h.at in omega (arith, q) in
        let s = same_from_place g.part.number j h.row h.place (rows.words * 64) (omega (arith, l)) (below h) e in
        let u : h.unit ≡ g = sym (h.there g) ∙ ap (λ i. get_or gs i g) (sym s.0 ∙ number) ∙ at in
        subst (λ (z : Row × ℕ). IsPlace (vars_of z.0) z.1) (λ i. (u i, sym s.1 i)) h.is

    from : IsPlace (vars_of g) j → IsHeld gs rows.words (g.part.number * rows.words * 64 + j)
    from p = record { unit = g; row = c.0; place = j; within = c.1; there = λ d. get_or_default gs c.0 d g c.1 ∙ at; is = p; at = ap (λ k. k * rows.words * 64 + j) number }
