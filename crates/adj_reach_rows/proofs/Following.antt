-- What the nodes passed, and arcs and edges, add to what is seen.
use Rattle.std.proofs.Common.{◌≡◌, ℕ, ◌+◌, ◌*◌, ◌/◌, ◌%◌, ◌<◌, ◌≤◌, ◌⊎◌, inl, inr, min, Bool, true, false, List, map, length, get_or, take, bit_and, refl, sym, ap, ◌∙◌, subst, arith}
use Rattle.std.specs.Prelude.{Contains, if◌then◌else◌}
use Rattle.std.specs.Int.{bit_at}
use Rattle.std.proofs.lemmas.Bool.{cases_lt}
use Rattle.std.proofs.lemmas.List.{get_or-map, get_or_default, length-map}
use Rattle.std.proofs.lemmas.Nat.Bits.{bit_at-lt, bit_at_and}
use Rattle.adj_reach.specs.Edges.{Edges}
use Rattle.adj_tree.specs.Bits.{bit}
use Rattle.adj_reach_rows.specs.Arcs.{bit_in, is_left}
use Rattle.adj_reach_rows.specs.Chains.{last_of}
use Rattle.adj_reach_rows.specs.Searches.{Grown, IsMarked, IsCarried, IsFollowed, IsLed, place_of}
use Rattle.adj_reach_rows.specs.declared.arc.Arc.{Arc}
use Rattle.adj_reach_rows.specs.declared.bits.Rows.{Rows}
use Rattle.adj_reach_rows.specs.declared.search.Search.{Search}
use Rattle.adj_reach_rows.proofs.Columns.{column_at}
use Rattle.adj_reach_rows.proofs.Growing.{grown_then, grown_as}
use Rattle.adj_reach_rows.proofs.Listing.{passed_then, passed_or, last_none}

-- ---- nodes

abbrev pub IsPassed : ℕ → ℕ → List ℕ → ℕ → Type 0
IsPassed width words xs n = (x : ℕ) × Contains xs x × (n ≡ place_of width words x)

pub nodes_more : (width : ℕ) (xs : List ℕ) (i : ℕ) (a b c : Search) → i < length xs → Grown (IsPassed width a.words (take i xs)) a b → Grown (λ n. n ≡ place_of width b.words (get_or xs i 0)) b c → Grown (IsPassed width a.words (take (i + 1) xs)) a c
nodes_more width xs i a b c l g h =
    grown_as (λ n. IsPassed width a.words (take i xs) n ⊎ (n ≡ place_of width b.words (get_or xs i 0))) (IsPassed width a.words (take (i + 1) xs)) a c to from
    (grown_then (IsPassed width a.words (take i xs)) (λ n. n ≡ place_of width b.words (get_or xs i 0)) a b c g h)
  where
    to : (n : ℕ) → IsPassed width a.words (take i xs) n ⊎ (n ≡ place_of width b.words (get_or xs i 0)) → IsPassed width a.words (take (i + 1) xs) n
    to n (inl (x, d, e)) = (x, passed_then xs i 0 l x (inl d), e)
    to n (inr e) = (get_or xs i 0, passed_then xs i 0 l (get_or xs i 0) (inr refl), e ∙ ap (λ z. place_of width z (get_or xs i 0)) g.words)

    from : (n : ℕ) → IsPassed width a.words (take (i + 1) xs) n → IsPassed width a.words (take i xs) n ⊎ (n ≡ place_of width b.words (get_or xs i 0))
    from n (x, d, e) = go (passed_or xs i 0 l x d)
      where
        go : Contains (take i xs) x ⊎ (get_or xs i 0 ≡ x) → IsPassed width a.words (take i xs) n ⊎ (n ≡ place_of width b.words (get_or xs i 0))
        go (inl p) = inl (x, p, e)
        go (inr p) = inr (e ∙ (λ j. place_of width (sym g.words j) (sym p j)))

-- ---- the words of an arc

module _ (words : ℕ) (bits : List ℕ) (rows : Rows) (a : Arc) (place t r o : ℕ) (t_is : t ≡ get_or bits place 0) (r_is : r ≡ get_or rows.bits.items (a.kept * rows.words + place) 0)
    (o_is : (j : ℕ) → j / 64 ≡ place → bit_at o (j % 64) ≡ (if is_left a.left j then 0 else 1)) where
  -- the bits of a column in this word
  taken_bit : (j : ℕ) → j / 64 ≡ place → bit bits j ≡ bit_at t (j % 64)
  taken_bit j e = ap (λ z. bit_at (get_or bits z 0) (j % 64)) e ∙ ap (λ z. bit_at z (j % 64)) (sym t_is)

  kept_bit : (j : ℕ) → j / 64 ≡ place → bit_in rows a.kept j ≡ bit_at r (j % 64)
  kept_bit j e = column_at rows.bits.items rows.words a.kept j ∙ ap (λ z. bit_at (get_or rows.bits.items (a.kept * rows.words + z) 0) (j % 64)) e ∙ ap (λ z. bit_at z (j % 64)) (sym r_is)

  all_three : (k : ℕ) → bit_at (bit_and (bit_and t r) o) k ≡ 1 → (bit_at t k ≡ 1) × (bit_at r k ≡ 1) × (bit_at o k ≡ 1)
  all_three k h =
      let p : bit_at (bit_and (bit_and t r) o) k ≡ min (bit_at (bit_and t r) k) (bit_at o k) = bit_at_and (bit_and t r) o k in
      let q : bit_at (bit_and t r) k ≡ min (bit_at t k) (bit_at r k) = bit_at_and t r k in
      let x : bit_at t k < 2 = bit_at-lt t k in
      let y : bit_at r k < 2 = bit_at-lt r k in
      let z : bit_at o k < 2 = bit_at-lt o k in
      (omega (arith, h, p, q, x, y, z), omega (arith, h, p, q, x, y, z), omega (arith, h, p, q, x, y, z))

  from_three : (k : ℕ) → bit_at t k ≡ 1 → bit_at r k ≡ 1 → bit_at o k ≡ 1 → bit_at (bit_and (bit_and t r) o) k ≡ 1
  from_three k x y z =
      let p : bit_at (bit_and (bit_and t r) o) k ≡ min (bit_at (bit_and t r) k) (bit_at o k) = bit_at_and (bit_and t r) o k in
      let q : bit_at (bit_and t r) k ≡ min (bit_at t k) (bit_at r k) = bit_at_and t r k in
      omega (arith, p, q, x, y, z)

  stays_from : (j : ℕ) → j / 64 ≡ place → bit_at o (j % 64) ≡ 1 → is_left a.left j ≡ false
  stays_from j e h = go (is_left a.left j) (o_is j e)
    where
      go : (b : Bool) → bit_at o (j % 64) ≡ (if b then 0 else 1) → b ≡ false
      go true q = absurd (omega (arith, q, h))
      go false q = refl

  abbrev pub IsHere : ℕ → Type 0
  IsHere = IsMarked (a.to * words + place) (bit_and (bit_and t r) o)

  pub carried_then : (n : ℕ) → IsCarried words bits rows a place n ⊎ IsHere n → IsCarried words bits rows a (place + 1) n
  carried_then n (inl h) = record { variable = h.variable; within = omega (arith, h.within); taken = h.taken; kept = h.kept; stays = h.stays; place = h.place }
  carried_then n (inr h) =
      let k : n % 64 < 64 = omega arith in
      let j : ℕ = place * 64 + n % 64 in
      let p : (place * 64 + n % 64) / 64 ≡ place = omega arith in
      let q : (place * 64 + n % 64) % 64 ≡ n % 64 = omega arith in
      let s = all_three (n % 64) h.1 in
      let x = h.0 in
      record {
        variable = place * 64 + n % 64;
        within = omega (arith, k);
        taken = taken_bit j p ∙ ap (λ z. bit_at t z) q ∙ s.0;
        kept = kept_bit j p ∙ ap (λ z. bit_at r z) q ∙ s.1;
        stays = stays_from j p (ap (λ z. bit_at o z) q ∙ s.2);
        place = omega (arith, x);
      }

  pub carried_or : (n : ℕ) → IsCarried words bits rows a (place + 1) n → IsCarried words bits rows a place n ⊎ IsHere n
  carried_or n h = go (cases_lt h.variable (place * 64))
    where
      go : (h.variable < place * 64) ⊎ (place * 64 ≤ h.variable) → IsCarried words bits rows a place n ⊎ IsHere n
      go (inl l) = inl (record { variable = h.variable; within = l; taken = h.taken; kept = h.kept; stays = h.stays; place = h.place })
      go (inr l) =
          let p : h.variable / 64 ≡ place = omega (arith, l, h.within) in
          let q : n % 64 ≡ h.variable % 64 = omega (arith, h.place) in
          let w : n / 64 ≡ a.to * words + place = omega (arith, h.place, p) in
          let one : bit_at o (h.variable % 64) ≡ 1 = o_is h.variable p ∙ ap (λ b. if b then 0 else 1) h.stays in
          inr (w, ap (λ z. bit_at (bit_and (bit_and t r) o) z) q ∙ from_three (h.variable % 64) (sym (taken_bit h.variable p) ∙ h.taken) (sym (kept_bit h.variable p) ∙ h.kept) one)

  pub carried_more : (x y z : Search) → y.words ≡ words → Grown (IsCarried words bits rows a place) x y → Grown (IsMarked (a.to * y.words + place) (bit_and (bit_and t r) o)) y z → Grown (IsCarried words bits rows a (place + 1)) x z
  carried_more x y z e g h =
      grown_as (λ n. IsCarried words bits rows a place n ⊎ IsHere n) (IsCarried words bits rows a (place + 1)) x z carried_then carried_or
      (grown_then (IsCarried words bits rows a place) IsHere x y z g (subst (λ w. Grown (IsMarked (a.to * w + place) (bit_and (bit_and t r) o)) y z) e h))

-- ---- chains of arcs

-- behind the head of a chain there is none
pub followed_none : (words : ℕ) (bits : List ℕ) (rows : Rows) (arcs : List Arc) (head row n : ℕ) → head ≡ last_of row (map (λ (a : Arc). a.from) arcs) (length (map (λ (a : Arc). a.from) arcs)) → IsFollowed words bits rows arcs head row n → ⊥
followed_none words bits rows arcs head row n e h =
    last_none row (map (λ (a : Arc). a.from) arcs) (length (map (λ (a : Arc). a.from) arcs)) h.place (omega (arith, h.later, e)) (omega (arith, h.within, length-map arcs (λ (a : Arc). a.from)))
    (get_or-map (λ (a : Arc). a.from) arcs h.place h.arc 0 h.within ∙ ap (λ (a : Arc). a.from) (h.is h.arc) ∙ h.row_is)

module _ (words : ℕ) (bits : List ℕ) (rows : Rows) (arcs : List Arc) (row rest : ℕ) (inside : rest < length arcs) (here : get_or (map (λ (a : Arc). a.from) arcs) rest 0 ≡ row) where
  -- the next place of the chain
  abbrev next_arc : ℕ
  next_arc = last_of row (map (λ (a : Arc). a.from) arcs) rest

  pub followed_then : (next : ℕ) → next ≡ next_arc → next ≤ rest → (d : Arc) (n : ℕ) → IsFollowed words bits rows arcs (rest + 1) row n ⊎ IsCarried words bits rows (get_or arcs rest d) words n → IsFollowed words bits rows arcs next row n
  followed_then next e l d n (inl h) = record { arc = h.arc; place = h.place; later = omega (arith, h.later, l); within = h.within; is = h.is; row_is = h.row_is; carried = h.carried }
  followed_then next e l d n (inr h) =
      record {
        arc = get_or arcs rest d;
        place = rest;
        later = l;
        within = inside;
        is = λ f. get_or_default arcs rest f d inside;
        row_is = sym (get_or-map (λ (a : Arc). a.from) arcs rest d 0 inside) ∙ here;
        carried = h;
      }

  pub followed_or : (next : ℕ) → next ≡ next_arc → (d : Arc) (n : ℕ) → IsFollowed words bits rows arcs next row n → IsFollowed words bits rows arcs (rest + 1) row n ⊎ IsCarried words bits rows (get_or arcs rest d) words n
  followed_or next e d n h = go (cases_lt rest h.place)
    where
      last : rest ≡ h.place → IsCarried words bits rows (get_or arcs rest d) words n
      last p = subst (λ z. IsCarried words bits rows z words n) (sym (ap (λ z. get_or arcs z d) p ∙ h.is d)) h.carried

      go : (rest < h.place) ⊎ (h.place ≤ rest) → IsFollowed words bits rows arcs (rest + 1) row n ⊎ IsCarried words bits rows (get_or arcs rest d) words n
      go (inl l) = inl (record { arc = h.arc; place = h.place; later = omega (arith, l); within = h.within; is = h.is; row_is = h.row_is; carried = h.carried })
      go (inr l) = by (cases_lt h.place rest)
        where
          by : (h.place < rest) ⊎ (rest ≤ h.place) → IsFollowed words bits rows arcs (rest + 1) row n ⊎ IsCarried words bits rows (get_or arcs rest d) words n
          by (inl m) =
              absurd (last_none row (map (λ (a : Arc). a.from) arcs) rest h.place (omega (arith, h.later, e)) m (get_or-map (λ (a : Arc). a.from) arcs h.place d 0 h.within ∙ ap (λ (a : Arc). a.from) (h.is d) ∙ h.row_is))
          by (inr m) = inr (last (omega (arith, l, m)))

  pub followed_more : (next top : ℕ) (d : Arc) (x y z : Search) → next ≡ next_arc → next ≤ rest → top ≡ rest + 1 → y.words ≡ words → Grown (IsFollowed words bits rows arcs top row) x y → Grown (IsCarried y.words bits rows (get_or arcs rest d) y.words) y z → Grown (IsFollowed words bits rows arcs next row) x z
  followed_more next top d x y z e l t w g h =
      grown_as (λ n. IsFollowed words bits rows arcs (rest + 1) row n ⊎ IsCarried words bits rows (get_or arcs rest d) words n) (IsFollowed words bits rows arcs next row) x z (followed_then next e l d) (followed_or next e d)
      (grown_then (IsFollowed words bits rows arcs (rest + 1) row) (IsCarried words bits rows (get_or arcs rest d) words) x y z (subst (λ k. Grown (IsFollowed words bits rows arcs k row) x y) t g) (subst (λ k. Grown (IsCarried k bits rows (get_or arcs rest d) k) y z) w h))

-- ---- chains of edges

pub led_none : (width words : ℕ) (bits : List ℕ) (edges : Edges) (head row n : ℕ) → head ≡ last_of row (map (λ (e : ℕ × ℕ). e.0 / width) edges) (length (map (λ (e : ℕ × ℕ). e.0 / width) edges)) → IsLed width words bits edges head row n → ⊥
led_none width words bits edges head row n e h =
    last_none row (map (λ (e : ℕ × ℕ). e.0 / width) edges) (length (map (λ (e : ℕ × ℕ). e.0 / width) edges)) h.place (omega (arith, h.later, e)) (omega (arith, h.within, length-map edges (λ (e : ℕ × ℕ). e.0 / width)))
    (get_or-map (λ (e : ℕ × ℕ). e.0 / width) edges h.place h.edge 0 h.within ∙ ap (λ (e : ℕ × ℕ). e.0 / width) (h.is h.edge) ∙ h.row_is)

module _ (width words : ℕ) (bits : List ℕ) (edges : Edges) (row rest : ℕ) (inside : rest < length edges) (here : get_or (map (λ (e : ℕ × ℕ). e.0 / width) edges) rest 0 ≡ row) where
  abbrev next_edge : ℕ
  next_edge = last_of row (map (λ (e : ℕ × ℕ). e.0 / width) edges) rest

  abbrev pub IsLedBy : ℕ × ℕ → ℕ → Type 0
  IsLedBy e n = (bit bits (e.0 % width) ≡ 1) × (n ≡ place_of width words e.1)

  pub led_then : (next : ℕ) → next ≡ next_edge → next ≤ rest → (d : ℕ × ℕ) (n : ℕ) → IsLed width words bits edges (rest + 1) row n ⊎ IsLedBy (get_or edges rest d) n → IsLed width words bits edges next row n
  led_then next e l d n (inl h) = record { edge = h.edge; place = h.place; later = omega (arith, h.later, l); within = h.within; is = h.is; row_is = h.row_is; taken = h.taken; to = h.to }
  led_then next e l d n (inr h) =
      record {
        edge = get_or edges rest d;
        place = rest;
        later = l;
        within = inside;
        is = λ f. get_or_default edges rest f d inside;
        row_is = sym (get_or-map (λ (e : ℕ × ℕ). e.0 / width) edges rest d 0 inside) ∙ here;
        taken = h.0;
        to = h.1;
      }

  pub led_or : (next : ℕ) → next ≡ next_edge → (d : ℕ × ℕ) (n : ℕ) → IsLed width words bits edges next row n → IsLed width words bits edges (rest + 1) row n ⊎ IsLedBy (get_or edges rest d) n
  led_or next e d n h = go (cases_lt rest h.place)
    where
      last : rest ≡ h.place → IsLedBy (get_or edges rest d) n
      last p = subst (λ z. IsLedBy z n) (sym (ap (λ z. get_or edges z d) p ∙ h.is d)) (h.taken, h.to)

      go : (rest < h.place) ⊎ (h.place ≤ rest) → IsLed width words bits edges (rest + 1) row n ⊎ IsLedBy (get_or edges rest d) n
      go (inl l) = inl (record { edge = h.edge; place = h.place; later = omega (arith, l); within = h.within; is = h.is; row_is = h.row_is; taken = h.taken; to = h.to })
      go (inr l) = by (cases_lt h.place rest)
        where
          by : (h.place < rest) ⊎ (rest ≤ h.place) → IsLed width words bits edges (rest + 1) row n ⊎ IsLedBy (get_or edges rest d) n
          by (inl m) =
              absurd (last_none row (map (λ (e : ℕ × ℕ). e.0 / width) edges) rest h.place (omega (arith, h.later, e)) m (get_or-map (λ (e : ℕ × ℕ). e.0 / width) edges h.place d 0 h.within ∙ ap (λ (e : ℕ × ℕ). e.0 / width) (h.is d) ∙ h.row_is))
          by (inr m) = inr (last (omega (arith, l, m)))

  pub led_more : (next top : ℕ) (d : ℕ × ℕ) (x y z : Search) → next ≡ next_edge → next ≤ rest → top ≡ rest + 1 → y.words ≡ words → Grown (IsLed width words bits edges top row) x y →
      Grown (λ n. (bit bits ((get_or edges rest d).0 % width) ≡ 1) × (n ≡ place_of width y.words (get_or edges rest d).1)) y z → Grown (IsLed width words bits edges next row) x z
  led_more next top d x y z e l t w g h =
      grown_as (λ n. IsLed width words bits edges (rest + 1) row n ⊎ IsLedBy (get_or edges rest d) n) (IsLed width words bits edges next row) x z (led_then next e l d) (led_or next e d)
      (grown_then (IsLed width words bits edges (rest + 1) row) (IsLedBy (get_or edges rest d)) x y z (subst (λ k. Grown (IsLed width words bits edges k row) x y) t g)
      (subst (λ k. Grown (λ n. (bit bits ((get_or edges rest d).0 % width) ≡ 1) × (n ≡ place_of width k (get_or edges rest d).1)) y z) w h))
