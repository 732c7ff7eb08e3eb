-- A search that goes on from the rows that wait until none does has seen exactly what is reached.
use Rattle.std.proofs.Common.{◌≡◌, ℕ, ◌+◌, ◌*◌, ◌/◌, ◌%◌, ◌<◌, ◌≤◌, ◌⊎◌, inl, inr, Bool, true, false, List, [], ◌∷◌, ◌++◌, length, get_or, set, replicate, sym, ap, ◌∙◌, subst, arith, length-set, eqb-true}
use Rattle.std.specs.Prelude.{◌↔◌, All, Contains, IsTrue, Result, Ok, Err, IfOk, ◌==◌}
use Rattle.std.specs.Int.{bit_at}
use Rattle.std.proofs.lemmas.Bool.{cases_eq, cases_lt}
use Rattle.std.proofs.lemmas.Nat.{div-mul-add, div-add-mod', div_below, mul-add-lt}
use Rattle.std.proofs.lemmas.Nat.Bits.{bit_at-zero}
use Rattle.std.proofs.lemmas.List.{get_or-set_same, get_or-set_other, get_or-replicate, get_or_past, get_or_default, length_push, length-replicate}
use Rattle.std.proofs.lemmas.List.Elements.{Contains-get_or, Contains-push, Contains-push_cases, Contains-append_left, All-contains}
use Rattle.std.proofs.Math.Nat.{mod-lt}
use Rattle.adj_reach.specs.Edges.{Edges, flag}
use Rattle.adj_reach.specs.Reached.{begins, leads}
use Rattle.adj_reach.proofs.Reaching.{reached_least}
use Rattle.adj_tree.specs.Bits.{bit}
use Rattle.adj_reach_rows.specs.Arcs.{Leads, ReachedByRows}
use Rattle.adj_reach_rows.specs.Searches.{Fits, IsNew, IsAwake, Grown, Took, IsFollowed, IsLed, left_in, place_of}
use Rattle.adj_reach_rows.specs.declared.arc.Arc.{Arc}
use Rattle.adj_reach_rows.specs.declared.bits.Rows.{Rows}
use Rattle.adj_reach_rows.specs.declared.search.Search.{Search}
use Rattle.adj_reach_rows.proofs.Columns.{row_of_node, node_place, node_of_place, same_node}
use Rattle.adj_reach_rows.proofs.Following.{IsPassed}
use Rattle.adj_reach_rows.proofs.Growing.{grown_then}
use Rattle.adj_reach_rows.proofs.Words.{bit_within}

-- ---- a new search

zero_bit : (k n : ℕ) → bit (replicate k 0) n ≡ 0
zero_bit k n = ap (λ z. bit_at z (n % 64)) (go (cases_lt (n / 64) k)) ∙ bit_at-zero (n % 64)
  where
    go : (n / 64 < k) ⊎ (k ≤ n / 64) → let z : ℕ = get_or (replicate k 0) (n / 64) 0 in z ≡ 0
    go (inl l) = get_or-replicate k (n / 64) 0 0 l
    go (inr l) = get_or_past (replicate k 0) (n / 64) 0 (omega (arith, l, length-replicate {A = ℕ} k 0))

no_flag : (k p : ℕ) → flag (replicate k false) p ≡ true → ⊥
no_flag k p h = go (cases_lt p k)
  where
    go : (p < k) ⊎ (k ≤ p) → ⊥
    go (inl l) = let e : flag (replicate k false) p ≡ false = get_or-replicate k p false false l in cc
    go (inr l) = let e : flag (replicate k false) p ≡ false = get_or_past (replicate k false) p false (omega (arith, l, length-replicate k false)) in cc

pub fits_new : (rows words : ℕ) (s : Search) → 0 < words → IsNew rows words s → Fits s
fits_new rows words s some n = record {
  some = subst (λ z. 0 < z) (sym n.words) some;
  seen = ap length n.seen ∙ length-replicate (rows * words) 0 ∙ (λ i. sym rows_is i * sym n.words i);
  fresh = ap length n.fresh ∙ length-replicate (rows * words) 0 ∙ (λ i. sym rows_is i * sym n.words i);
  waiting = subst (λ ws. All (λ p. p < length s.waits.items) ws) (sym n.waiting) (λ k d l. absurd (omega (arith, l)));
}
  where
    rows_is : length s.waits.items ≡ rows
    rows_is = ap length n.waits ∙ length-replicate rows false

pub rows_new : (rows words : ℕ) (s : Search) → IsNew rows words s → length s.waits.items ≡ rows
rows_new rows words s n = ap length n.waits ∙ length-replicate rows false

awake_new : (rows words : ℕ) (s : Search) → IsNew rows words s → IsAwake s
awake_new rows words s n = record {
  fresh = λ k h. let z : bit s.fresh.items k ≡ 0 = ap (λ ws. bit ws k) n.fresh ∙ zero_bit (rows * words) k in absurd (omega (arith, h, z));
  waits = λ p h. absurd (no_flag rows p (sym (ap (λ ws. flag ws p) n.waits) ∙ h));
}

-- ---- a row is taken

-- of a list whose last is taken
pub next_fits : (a b : Search) (row : ℕ) → Fits a → b.words ≡ a.words → b.seen.items ≡ a.seen.items → b.fresh.items ≡ a.fresh.items → b.waits.items ≡ a.waits.items → a.waiting.items ≡ b.waiting.items ++ row ∷ [] → Fits b × (row < length b.waits.items)
next_fits a b row f words seen fresh waits waiting = (
  record {
    some = subst (λ z. 0 < z) (sym words) f.some;
    seen = ap length seen ∙ f.seen ∙ (λ i. length (sym waits i) * sym words i);
    fresh = ap length fresh ∙ f.fresh ∙ (λ i. length (sym waits i) * sym words i);
    waiting = λ k d l. All-contains (λ p. p < length b.waits.items) (b.waiting.items ++ row ∷ []) (get_or b.waiting.items k d) there (Contains-append_left b.waiting.items (row ∷ []) (get_or b.waiting.items k d) (Contains-get_or b.waiting.items k d l));
  },
  All-contains (λ p. p < length b.waits.items) (b.waiting.items ++ row ∷ []) row there (Contains-push b.waiting.items row),
)
  where
    there : All (λ p. p < length b.waits.items) (b.waiting.items ++ row ∷ [])
    there = subst (λ ws. All (λ p. p < length b.waits.items) ws) waiting (subst (λ z. All (λ p. p < length z) a.waiting.items) (sym waits) f.waiting)

pub took_fits : (row : ℕ) (a b : Search) (bits : List ℕ) → Fits a → Took row a b bits → Fits b
took_fits row a b bits f t = record {
  some = subst (λ z. 0 < z) (sym t.words) f.some;
  seen = ap length t.seen ∙ f.seen ∙ (λ i. sym rows i * sym t.words i);
  fresh = t.size ∙ f.fresh ∙ (λ i. sym rows i * sym t.words i);
  waiting = subst (λ z. All (λ p. p < z) b.waiting.items) (sym rows) (subst (λ ws. All (λ p. p < length a.waits.items) ws) (sym t.waiting) f.waiting);
}
  where
    rows : length b.waits.items ≡ length a.waits.items
    rows = ap length t.waits ∙ length-set a.waits.items row false

pub took_rows : (row : ℕ) (a b : Search) (bits : List ℕ) → Took row a b bits → length b.waits.items ≡ length a.waits.items
took_rows row a b bits t = ap length t.waits ∙ length-set a.waits.items row false

-- ---- what holds between the turns

module _ (width : ℕ) (rows : Rows) (arcs : List Arc) (edges : Edges) (start : List ℕ) where
  abbrev pub place : ℕ → ℕ
  place = place_of width rows.words

  abbrev pub IsReached : ℕ → Type 0
  IsReached = ReachedByRows width rows arcs edges start

  pub record Searching (count : ℕ) (s : Search) : Type 0 where
    pub fits : Fits s
    pub words : s.words ≡ rows.words
    pub rows_are : length s.waits.items ≡ count
    pub sound : (x : ℕ) → bit s.seen.items (place x) ≡ 1 → IsReached x
    pub begun : (x : ℕ) → Contains start x → bit s.seen.items (place x) ≡ 1
    pub known : (n : ℕ) → bit s.fresh.items n ≡ 1 → bit s.seen.items n ≡ 1
    pub gone : (x y : ℕ) → bit s.seen.items (place x) ≡ 1 → Leads width rows arcs edges x y → (bit s.fresh.items (place x) ≡ 1) ⊎ (bit s.seen.items (place y) ≡ 1)
    pub awake : IsAwake s

module _ (width : ℕ) (rows : Rows) (arcs : List Arc) (edges : Edges) (start : List ℕ) (some : 0 < width) (wide : width < 64 * rows.words) where
  abbrev at : ℕ → ℕ
  at = place_of width rows.words

  abbrev Goes : ℕ → Type 0
  Goes = ReachedByRows width rows arcs edges start

  abbrev Searches : ℕ → Search → Type 0
  Searches = Searching width rows arcs edges start

  -- at the start the nodes are seen from which the search begins
  pub searching_start : (count : ℕ) (a b : Search) → IsNew count rows.words a → Grown (IsPassed width a.words start) a b → Searches count b
  searching_start count a b n g = record {
    fits = g.fits;
    words = g.words ∙ n.words;
    rows_are = g.rows ∙ rows_new count rows.words a n;
    sound = λ x h. begins (passed x (seen (at x) (g.new (at x) h)).0);
    begun = λ x c. g.marked (at x) (x, c, ap (λ w. place_of width w x) (sym n.words));
    known = λ k h. known k (g.known k h);
    gone = λ x y h l. inl (seen (at x) (g.new (at x) h)).1;
    awake = g.awake (awake_new count rows.words a n);
  }
    where
      seen : (k : ℕ) → {V W : Type 0} → (bit a.seen.items k ≡ 1) ⊎ (V × W) → V × W
      seen k (inl h) = let z : bit a.seen.items k ≡ 0 = ap (λ ws. bit ws k) n.seen ∙ zero_bit (count * rows.words) k in absurd (omega (arith, h, z))
      seen k (inr h) = h

      known : (k : ℕ) → (bit a.fresh.items k ≡ 1) ⊎ (bit b.seen.items k ≡ 1) → bit b.seen.items k ≡ 1
      known k (inl h) = let z : bit a.fresh.items k ≡ 0 = ap (λ ws. bit ws k) n.fresh ∙ zero_bit (count * rows.words) k in absurd (omega (arith, h, z))
      known k (inr h) = h

      passed : (x : ℕ) → IsPassed width a.words start (at x) → Contains start x
      passed x (y, c, e) = subst (λ z. Contains start z) (sym (same_node width rows.words some wide x y (e ∙ ap (λ w. place_of width w y) n.words))) c

  -- when no row waits, what is reached was seen
  pub all_seen : (count : ℕ) (s : Search) → Searches count s → s.waiting.items ≡ [] → (x : ℕ) → Goes x → bit s.seen.items (at x) ≡ 1
  all_seen count s h e = reached_least (record { holds = h.begun; steps = λ x y k l. go x y (h.gone x y k l) })
    where
      go : (x y : ℕ) → (bit s.fresh.items (at x) ≡ 1) ⊎ (bit s.seen.items (at y) ≡ 1) → bit s.seen.items (at y) ≡ 1
      go x y (inl f) =
          let c : Contains [] (at x / 64 / s.words) = subst (λ ws. Contains ws (at x / 64 / s.words)) e (h.awake.waits (at x / 64 / s.words) (h.awake.fresh (at x) f)) in
          absurd (omega (arith, c.1))
      go x y (inr k) = k

  -- a turn takes a row that waits, and sees what arcs and edges lead to from its fresh nodes
  module _ (count : ℕ) (s t u v z : Search) (row : ℕ) (bits : List ℕ) (h : Searches count s) (words : t.words ≡ s.words) (seen : t.seen.items ≡ s.seen.items) (fresh : t.fresh.items ≡ s.fresh.items) (waits : t.waits.items ≡ s.waits.items)
      (waiting : s.waiting.items ≡ t.waiting.items ++ row ∷ []) (took : Took row t u bits) (along : Grown (IsFollowed u.words bits rows arcs 0 row) u v) (led : Grown (IsLed width v.words bits edges 0 row) v z) where
    same_words : u.words ≡ rows.words
    same_words = took.words ∙ words ∙ h.words

    led_words : v.words ≡ rows.words
    led_words = along.words ∙ same_words

    abbrev IsNext : ℕ → Type 0
    IsNext n = IsFollowed u.words bits rows arcs 0 row n ⊎ IsLed width v.words bits edges 0 row n

    all : Grown IsNext u z
    all = grown_then (IsFollowed u.words bits rows arcs 0 row) (IsLed width v.words bits edges 0 row) u v z along led

    -- the row of a node, by what the search knows
    row_is : (x : ℕ) → at x / 64 / t.words ≡ x / width
    row_is x = ap (λ w. at x / 64 / w) (words ∙ h.words) ∙ row_of_node width rows.words some wide x

    -- a bit that was taken is a fresh node
    taken_is : (j : ℕ) → j < width → bit bits j ≡ bit s.fresh.items (at (row * width + j))
    taken_is j l =
        let k : j < t.words * 64 = subst (λ w. j < w * 64) (sym (words ∙ h.words)) (omega (arith, l, wide)) in
        took.taken j k ∙ (λ i. bit (fresh i) (row * (words ∙ h.words) i * 64 + j)) ∙ ap (λ n. bit s.fresh.items n) (sym (node_place width rows.words some wide row j l))

    seen_still : (n : ℕ) → bit s.seen.items n ≡ 1 → bit z.seen.items n ≡ 1
    seen_still n k = all.seen n (ap (λ ws. bit ws n) (took.seen ∙ seen) ∙ k)

    seen_back : (n : ℕ) → bit u.seen.items n ≡ 1 → bit s.seen.items n ≡ 1
    seen_back n k = sym (ap (λ ws. bit ws n) (took.seen ∙ seen)) ∙ k

    -- what is fresh after it was taken was fresh, in another row
    fresh_back : (n : ℕ) → bit u.fresh.items n ≡ 1 → (bit s.fresh.items n ≡ 1) × (n / 64 / t.words ≡ row → ⊥)
    fresh_back n k = go (cases_eq (n / 64 / t.words) row)
      where
        go : (n / 64 / t.words ≡ row) ⊎ (n / 64 / t.words ≡ row → ⊥) → (bit s.fresh.items n ≡ 1) × (n / 64 / t.words ≡ row → ⊥)
        go (inl e) = let y : bit u.fresh.items n ≡ 0 = took.gone n e in absurd (omega (arith, k, y))
        go (inr f) = (sym (took.others n f ∙ ap (λ ws. bit ws n) fresh) ∙ k, f)

    -- ---- what is seen is reached

    by_arc : (x : ℕ) → IsFollowed u.words bits rows arcs 0 row (at x) → Goes x
    by_arc x f =
        let c = f.carried in
        let l : c.variable < rows.words * 64 = subst (λ w. c.variable < w * 64) same_words c.within in
        let p : at x ≡ f.arc.to * rows.words * 64 + c.variable = c.place ∙ ap (λ w. f.arc.to * w * 64 + c.variable) same_words in
        let q = node_of_place width rows.words some wide x f.arc.to c.variable l p in
        let m : x % width < width = mod-lt x some in
        let k : c.variable < width = subst (λ w. w < width) q.1 m in
        let e : x ≡ f.arc.to * width + c.variable = sym (div-add-mod' x width) ∙ (λ i. q.0 i * width + q.1 i) in
        leads {x = row * width + c.variable} (h.sound (row * width + c.variable) (h.known (at (row * width + c.variable)) (sym (taken_is c.variable k) ∙ c.taken)))
        (inr (f.arc, (f.place, f.within, f.is x_arc), record { variable = c.variable; within = k; kept = c.kept; stays = c.stays; from = ap (λ r. r * width + c.variable) (sym f.row_is); to = e }))
      where
        x_arc : Arc
        x_arc = f.arc

    by_edge : (x : ℕ) → IsLed width v.words bits edges 0 row (at x) → Goes x
    by_edge x f =
        let m : f.edge.0 % width < width = mod-lt f.edge.0 some in
        let e : x ≡ f.edge.1 = same_node width rows.words some wide x f.edge.1 (f.to ∙ ap (λ w. place_of width w f.edge.1) led_words) in
        let o : row * width + f.edge.0 % width ≡ f.edge.0 = ap (λ r. r * width + f.edge.0 % width) (sym f.row_is) ∙ div-add-mod' f.edge.0 width in
        let there : Contains edges f.edge = (f.place, f.within, f.is f.edge) in
        leads {x = f.edge.0} (h.sound f.edge.0 (h.known (at f.edge.0) (ap (λ n. bit s.fresh.items (at n)) (sym o) ∙ sym (taken_is (f.edge.0 % width) m) ∙ f.taken)))
        (inl (subst (λ y. Contains edges (f.edge.0, y)) (sym e) there))

    sound : (x : ℕ) → {W : Type 0} → (bit u.seen.items (at x) ≡ 1) ⊎ (IsNext (at x) × W) → Goes x
    sound x (inl k) = h.sound x (seen_back (at x) k)
    sound x (inr (inl f, w)) = by_arc x f
    sound x (inr (inr f, w)) = by_edge x f

    -- ---- what the fresh nodes lead to is seen

    by_lead : (x y : ℕ) → bit s.fresh.items (at x) ≡ 1 → x / width ≡ row → Leads width rows arcs edges x y → IsNext (at y)
    by_lead x y k r (inl c) =
        inr (record {
          edge = (x, y);
          place = c.0;
          later = omega arith;
          within = c.1;
          is = λ d. get_or_default edges c.0 d (x, y) c.1 ∙ c.2;
          row_is = r;
          taken = taken_is (x % width) (mod-lt x some) ∙ ap (λ n. bit s.fresh.items (at n)) (ap (λ p. p * width + x % width) (sym r) ∙ div-add-mod' x width) ∙ k;
          to = ap (λ w. place_of width w y) (sym led_words);
        })
    by_lead x y k r (inr (a, c, w)) =
        let f : a.from ≡ row = sym (div-mul-add a.from width w.variable w.within) ∙ ap (λ n. n / width) (sym w.from) ∙ r in
        let e : row * width + w.variable ≡ x = ap (λ p. p * width + w.variable) (sym f) ∙ sym w.from in
        inl (record {
          arc = a;
          place = c.0;
          later = omega arith;
          within = c.1;
          is = λ d. get_or_default arcs c.0 d a c.1 ∙ c.2;
          row_is = f;
          carried = record {
            variable = w.variable;
            within = subst (λ m. w.variable < m * 64) (sym same_words) (let l = w.within in omega (arith, l, wide));
            taken = taken_is w.variable w.within ∙ ap (λ n. bit s.fresh.items (at n)) e ∙ k;
            kept = w.kept;
            stays = w.stays;
            place = ap at w.to ∙ node_place width rows.words some wide a.to w.variable w.within ∙ ap (λ m. a.to * m * 64 + w.variable) (sym same_words);
          };
        })

    gone : (x y : ℕ) → {V : Type 0} → Leads width rows arcs edges x y → (bit u.seen.items (at x) ≡ 1) ⊎ (V × (bit z.fresh.items (at x) ≡ 1)) → (bit z.fresh.items (at x) ≡ 1) ⊎ (bit z.seen.items (at y) ≡ 1)
    gone x y l (inr k) = inl k.1
    gone x y l (inl k) = old (h.gone x y (seen_back (at x) k) l)
      where
        mine : bit s.fresh.items (at x) ≡ 1 → (x / width ≡ row) ⊎ (x / width ≡ row → ⊥) → (bit z.fresh.items (at x) ≡ 1) ⊎ (bit z.seen.items (at y) ≡ 1)
        mine f (inl r) = inr (all.marked (at y) (by_lead x y f r l))
        mine f (inr r) = inl (all.fresh (at x) (took.others (at x) (λ e. r (sym (row_is x) ∙ e)) ∙ ap (λ ws. bit ws (at x)) fresh ∙ f))

        old : (bit s.fresh.items (at x) ≡ 1) ⊎ (bit s.seen.items (at y) ≡ 1) → (bit z.fresh.items (at x) ≡ 1) ⊎ (bit z.seen.items (at y) ≡ 1)
        old (inl f) = mine f (cases_eq (x / width) row)
        old (inr f) = inr (seen_still (at y) f)

    -- ---- the rest

    known : (n : ℕ) → (bit u.fresh.items n ≡ 1) ⊎ (bit z.seen.items n ≡ 1) → bit z.seen.items n ≡ 1
    known n (inl k) = seen_still n (h.known n (fresh_back n k).0)
    known n (inr k) = k

    awake_taken : IsAwake u
    awake_taken = record { fresh = fresh_waits; waits = λ p k. one p (cases_eq p row) k }
      where
        fresh_waits : (n : ℕ) → bit u.fresh.items n ≡ 1 → flag u.waits.items (n / 64 / u.words) ≡ true
        fresh_waits n k =
            let b = fresh_back n k in
            let same : n / 64 / s.words ≡ n / 64 / t.words = ap (λ w. n / 64 / w) (sym words) in
            ap (λ w. flag u.waits.items (n / 64 / w)) took.words ∙ ap (λ ws. flag ws (n / 64 / t.words)) took.waits ∙ get_or-set_other t.waits.items row (n / 64 / t.words) false false b.1 ∙ ap (λ ws. flag ws (n / 64 / t.words)) waits
            ∙ ap (λ p. flag s.waits.items p) (sym same) ∙ h.awake.fresh n b.0

        rest : (p : ℕ) → (p ≡ row → ⊥) → Contains t.waiting.items p ⊎ (row ≡ p) → Contains u.waiting.items p
        rest p f (inl c) = subst (λ ws. Contains ws p) (sym took.waiting) c
        rest p f (inr e) = absurd (f (sym e))

        one : (p : ℕ) → (p ≡ row) ⊎ (p ≡ row → ⊥) → flag u.waits.items p ≡ true → Contains u.waiting.items p
        one p (inl e) k =
            let a : flag u.waits.items p ≡ flag (set t.waits.items row false) p = ap (λ ws. flag ws p) took.waits in
            let b : flag (set t.waits.items row false) p ≡ false = unset e in
            absurd cc
          where
            unset : p ≡ row → flag (set t.waits.items row false) p ≡ false
            unset e = ap (λ q. flag (set t.waits.items row false) q) e ∙ by (cases_lt row (length t.waits.items))
              where
                by : (row < length t.waits.items) ⊎ (length t.waits.items ≤ row) → flag (set t.waits.items row false) row ≡ false
                by (inl l) = get_or-set_same t.waits.items row false false l
                by (inr l) = get_or_past (set t.waits.items row false) row false (omega (arith, l, length-set t.waits.items row false))
        one p (inr f) k =
            let a : flag s.waits.items p ≡ true = sym (ap (λ ws. flag ws p) took.waits ∙ get_or-set_other t.waits.items row p false false f ∙ ap (λ ws. flag ws p) waits) ∙ k in
            rest p f (Contains-push_cases t.waiting.items row p (subst (λ ws. Contains ws p) waiting (h.awake.waits p a)))

    pub searching_turn : Searches count z
    searching_turn = record {
      fits = all.fits;
      words = all.words ∙ same_words;
      rows_are = all.rows ∙ took_rows row t u bits took ∙ ap length waits ∙ h.rows_are;
      sound = λ x k. sound x (all.new (at x) k);
      begun = λ x c. seen_still (at x) (h.begun x c);
      known = λ n k. known n (all.known n k);
      gone = λ x y k l. gone x y l (all.new (at x) k);
      awake = all.awake awake_taken;
    }

    -- and there is less to do
    pub turn_work : left_in z.seen.items + length z.waiting.items < left_in s.seen.items + length s.waiting.items
    turn_work =
        let a : left_in u.seen.items ≡ left_in s.seen.items = ap left_in (took.seen ∙ seen) in
        let b : length u.waiting.items ≡ length t.waiting.items = ap length took.waiting in
        let c : length s.waiting.items ≡ length (t.waiting.items ++ row ∷ []) = ap length waiting in
        omega (arith, all.work, a, b, c, length_push t.waiting.items row)

  -- ---- the flags

  pub finished : {E : Type 0} (count : ℕ) (s : Search) (seen : List ℕ) (r : Result (List Bool) E) → Searches count s → s.waiting.items ≡ [] → seen ≡ s.seen.items → IfOk r (λ f. (x : ℕ) → count * width ≤ x → flag f x ≡ false) →
      IfOk r (λ f. (x : ℕ) → x < count * width → flag f x ≡ (bit seen (place_of width rows.words x) == 1)) → IfOk r (λ f. (x : ℕ) → IsTrue (flag f x) ↔ ReachedByRows width rows arcs edges start x)
  finished count s seen (Err e) h w same past fs = tt
  finished count s seen (Ok f) h w same past fs = λ x. (to x, from x)
    where
      to : (x : ℕ) → flag f x ≡ true → Goes x
      to x t = go (cases_lt x (count * width))
        where
          go : (x < count * width) ⊎ (count * width ≤ x) → Goes x
          go (inl l) =
              let q : (bit seen (at x) == 1) ≡ true = sym (fs x l) ∙ t in
              h.sound x (sym (ap (λ ws. bit ws (at x)) same) ∙ eqb-true (bit seen (at x)) 1 q)
          go (inr l) = absurd (let e : flag f x ≡ false = past x l in cc)

      from : (x : ℕ) → Goes x → flag f x ≡ true
      from x r =
          let b : bit s.seen.items (at x) ≡ 1 = all_seen count s h w x r in
          let i : at x / 64 < length s.seen.items = bit_within s.seen.items (at x) b in
          let a : length s.seen.items ≡ count * rows.words = h.fits.seen ∙ (λ i. h.rows_are i * h.words i) in
          let some_words : 0 < rows.words = subst (λ z. 0 < z) h.words h.fits.some in
          let k : at x / 64 / rows.words < count = div_below (at x / 64) rows.words count some_words (subst (λ z. at x / 64 < z) a i) in
          let p : x / width < count = subst (λ z. z < count) (row_of_node width rows.words some wide x) k in
          let m : x % width < width = mod-lt x some in
          let d : x / width * width + x % width ≡ x = div-add-mod' x width in
          let l : x < count * width = omega (arith, mul-add-lt (x / width) width (x % width) count p m, d) in
          fs x l ∙ ap (λ ws. bit ws (at x) == 1) same ∙ ap (λ z. z == 1) b
