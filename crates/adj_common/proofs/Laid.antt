-- The refusal of layouts that is found by tables is that of the definition.
use Rattle.std.proofs.Common.{◌≡◌, ◌⊎◌, inl, inr, ℕ, suc, ◌+◌, ◌-◌, ◌<◌, Bool, true, false, not, nat_lt, List, [], ◌∷◌, ◌++◌, length, map, Option, Some, None, refl, sym, ap, ◌∙◌, subst, arith, append_assoc, append-nil, if◌then◌else◌}
use Rattle.std.specs.Prelude.{◌==◌, ◌||◌, ◌&&◌}
use Rattle.std.specs.List.{slice_get}
use Rattle.std.proofs.lemmas.Bool.{ltb-true, ltb-false, lt-ltb, le-ltb}
use Rattle.adj_tree.specs.Code.{name_eq, Declaration, Procedure}
use Rattle.adj_tree.proofs.Names.{nat_same, nat_refl}
use Rattle.def_meaning.specs.Apart.{has_name}
use Rattle.def_names.specs.Fault.{fault, earlier, first_of}
use Rattle.def_sweep.specs.Declared.{declaration}
use Rattle.adj_tree.specs.Common.{Common, Shared}
use Rattle.def_common.specs.Blocks.{items_of, declares, extents_in, layout, blocks, first_declaring}
use Rattle.def_common.specs.Refused.{is_same_layout, found_layout, first_layout, is_odd, find_odd, last_line, odd_fault, faults_in, layout_refusal}
use Rattle.adj_common.specs.Tables.{beside}
use Rattle.adj_common.specs.Entries.{Entry, or_else, item_entry, statement_entries, OwnBlocks, block_names, IsOwn, AreOwn}
use Rattle.adj_common.specs.Texts.{names_of_text, owners_from, text_blocks, at_place}
use Rattle.adj_common.specs.Layouts.{layout_of, are_alike, unless, with_unit, units_from, units_of_row, is_odd_own, odd_among, line_or, line_in, line_at, odd_line_from, odd_line, odd_line_of, earlier_line, earliest_from, refused_line}
use Rattle.adj_common.proofs.Tabled.{places_from, tabled_is}
use Rattle.adj_common.proofs.Owned.{name_turned, extents_declared, own_entries, at_end, longer, when, group_own, line_own, map_append}
use Rattle.adj_common.proofs.Blocked.{image, table_blocks, block_named}

-- ---- the units of a block in order

abbrev pub indices : ℕ → List ℕ → List Shared → List ℕ
indices i b [] = []
indices i b (s ∷ ss) = if declares b s then i ∷ indices (suc i) b ss else indices (suc i) b ss

last_of : List ℕ → Option ℕ
last_of us = slice_get us (length us - 1)

last_push : (us : List ℕ) (i : ℕ) → slice_get (us ++ i ∷ []) (length (us ++ i ∷ []) - 1) ≡ Some i
last_push us i =
    let l : length (us ++ i ∷ []) ≡ suc (length us) = longer us i in
    let e : length (us ++ i ∷ []) - 1 ≡ length us = omega (arith, l) in
    ap (slice_get (us ++ i ∷ [])) e ∙ at_end us i []

-- the last one is no other
seg_last : (b : List ℕ) (i : ℕ) (us front : List ℕ) (cs : List Common) (rest : List (List ℕ)) (after : List ℕ) → slice_get us (length us - 1) ≡ Some i →
    units_from us (front ++ (map (λ c. i) cs ++ after)) (places_from (length front) (block_names cs ++ rest) b) ≡ units_from us (front ++ (map (λ c. i) cs ++ after)) (places_from (length (front ++ map (λ c. i) cs)) rest b)
seg_last b i us front [] rest after h = ap (λ l. units_from us (front ++ after) (places_from (length l) rest b)) (sym (append-nil front))
seg_last b i us front (c ∷ cs) rest after h =
    go (name_eq c.block b)
    ((λ j. units_from us (sym (append_assoc front (i ∷ []) (map (λ c. i) cs ++ after)) j) (places_from (sym (longer front i) j) (block_names cs ++ rest) b))
    ∙ seg_last b i us (front ++ i ∷ []) cs rest after h
    ∙ (λ j. units_from us (append_assoc front (i ∷ []) (map (λ c. i) cs ++ after) j) (places_from (length (append_assoc front (i ∷ []) (map (λ c. i) cs) j)) rest b)))
  where
    all : List ℕ
    all = front ++ (i ∷ (map (λ c. i) cs ++ after))

    go : (p : Bool) → units_from us all (places_from (suc (length front)) (block_names cs ++ rest) b) ≡ units_from us all (places_from (length (front ++ (i ∷ map (λ c. i) cs))) rest b) →
        units_from us all (if p then length front ∷ places_from (suc (length front)) (block_names cs ++ rest) b else places_from (suc (length front)) (block_names cs ++ rest) b) ≡ units_from us all (places_from (length (front ++ (i ∷ map (λ c. i) cs))) rest b)
    go true r =
        ap (λ o. units_from (with_unit us o) all (places_from (suc (length front)) (block_names cs ++ rest) b)) (at_end front i (map (λ c. i) cs ++ after))
        ∙ ap (λ o. units_from (unless o us i) all (places_from (suc (length front)) (block_names cs ++ rest) b)) h
        ∙ ap (λ q. units_from (if q then us else us ++ i ∷ []) all (places_from (suc (length front)) (block_names cs ++ rest) b)) (nat_refl i)
        ∙ r
    go false r = r

-- the statements of a unit add it once, where it declares the block
seg_new : (b : List ℕ) (i : ℕ) (us front : List ℕ) (cs : List Common) (rest : List (List ℕ)) (after : List ℕ) → ((x : ℕ) → slice_get us (length us - 1) ≡ Some x → x < i) →
    units_from us (front ++ (map (λ c. i) cs ++ after)) (places_from (length front) (block_names cs ++ rest) b)
    ≡ units_from (if has_name b (block_names cs) then us ++ i ∷ [] else us) (front ++ (map (λ c. i) cs ++ after)) (places_from (length (front ++ map (λ c. i) cs)) rest b)
seg_new b i us front [] rest after h = ap (λ l. units_from us (front ++ after) (places_from (length l) rest b)) (sym (append-nil front))
seg_new b i us front (c ∷ cs) rest after h =
    go (name_eq c.block b) (name_turned b c.block)
    ((λ j. units_from us (sym (append_assoc front (i ∷ []) (map (λ c. i) cs ++ after)) j) (places_from (sym (longer front i) j) (block_names cs ++ rest) b))
    ∙ seg_new b i us (front ++ i ∷ []) cs rest after h
    ∙ (λ j. units_from (if has_name b (block_names cs) then us ++ i ∷ [] else us) (append_assoc front (i ∷ []) (map (λ c. i) cs ++ after) j) (places_from (length (append_assoc front (i ∷ []) (map (λ c. i) cs) j)) rest b)))
    ((λ j. units_from (us ++ i ∷ []) (sym (append_assoc front (i ∷ []) (map (λ c. i) cs ++ after)) j) (places_from (sym (longer front i) j) (block_names cs ++ rest) b))
    ∙ seg_last b i (us ++ i ∷ []) (front ++ i ∷ []) cs rest after (last_push us i)
    ∙ (λ j. units_from (us ++ i ∷ []) (append_assoc front (i ∷ []) (map (λ c. i) cs ++ after) j) (places_from (length (append_assoc front (i ∷ []) (map (λ c. i) cs) j)) rest b)))
  where
    all : List ℕ
    all = front ++ (i ∷ (map (λ c. i) cs ++ after))

    new : (o : Option ℕ) → slice_get us (length us - 1) ≡ o → unless o us i ≡ us ++ i ∷ []
    new None e = refl
    new (Some x) e = differs (x == i) refl
      where
        differs : (q : Bool) → (x == i) ≡ q → (if q then us else us ++ i ∷ []) ≡ us ++ i ∷ []
        differs true d = absurd (let l = h x e in let s : x ≡ i = nat_same x i d in omega (arith, l, s))
        differs false d = refl

    go : (p : Bool) → name_eq b c.block ≡ p →
        units_from us all (places_from (suc (length front)) (block_names cs ++ rest) b) ≡ units_from (if has_name b (block_names cs) then us ++ i ∷ [] else us) all (places_from (length (front ++ (i ∷ map (λ c. i) cs))) rest b) →
        units_from (us ++ i ∷ []) all (places_from (suc (length front)) (block_names cs ++ rest) b) ≡ units_from (us ++ i ∷ []) all (places_from (length (front ++ (i ∷ map (λ c. i) cs))) rest b) →
        units_from us all (if p then length front ∷ places_from (suc (length front)) (block_names cs ++ rest) b else places_from (suc (length front)) (block_names cs ++ rest) b)
        ≡ units_from (if name_eq b c.block || has_name b (block_names cs) then us ++ i ∷ [] else us) all (places_from (length (front ++ (i ∷ map (λ c. i) cs))) rest b)
    go true e r q =
        ap (λ o. units_from (with_unit us o) all (places_from (suc (length front)) (block_names cs ++ rest) b)) (at_end front i (map (λ c. i) cs ++ after))
        ∙ ap (λ l. units_from l all (places_from (suc (length front)) (block_names cs ++ rest) b)) (new (slice_get us (length us - 1)) refl)
        ∙ q ∙ ap (λ z. units_from (if z || has_name b (block_names cs) then us ++ i ∷ [] else us) all (places_from (length (front ++ (i ∷ map (λ c. i) cs))) rest b)) (sym e)
    go false e r q = r ∙ ap (λ z. units_from (if z || has_name b (block_names cs) then us ++ i ∷ [] else us) all (places_from (length (front ++ (i ∷ map (λ c. i) cs))) rest b)) (sym e)

text_units : (b : List ℕ) (i : ℕ) (us front : List ℕ) (ps : List Shared) → ((x : ℕ) → slice_get us (length us - 1) ≡ Some x → x < i) → units_from us (front ++ owners_from i ps) (places_from (length front) (names_of_text ps) b) ≡ us ++ indices i b ps
text_units b i us front [] h = sym (append-nil us)
text_units b i us front (s ∷ ps) h =
    seg_new b i us front s.commons (names_of_text ps) (owners_from (suc i) ps) h
    ∙ go (declares b s)
    (λ vs k. ap (λ l. units_from vs l (places_from (length (front ++ map (λ c. i) s.commons)) (names_of_text ps) b)) (sym (append_assoc front (map (λ c. i) s.commons) (owners_from (suc i) ps))) ∙ text_units b (suc i) vs (front ++ map (λ c. i) s.commons) ps k)
  where
    grown : (x : ℕ) → slice_get (us ++ i ∷ []) (length (us ++ i ∷ []) - 1) ≡ Some x → x < suc i
    grown x e = let same : i ≡ x = (let z : Some i ≡ Some x = sym (last_push us i) ∙ e in cc) in omega (arith, same)

    kept : (x : ℕ) → slice_get us (length us - 1) ≡ Some x → x < suc i
    kept x e = let l = h x e in omega (arith, l)

    go : (p : Bool) → ((vs : List ℕ) → ((x : ℕ) → slice_get vs (length vs - 1) ≡ Some x → x < suc i) → units_from vs (front ++ (map (λ c. i) s.commons ++ owners_from (suc i) ps)) (places_from (length (front ++ map (λ c. i) s.commons)) (names_of_text ps) b) ≡ vs ++ indices (suc i) b ps) →
        units_from (if p then us ++ i ∷ [] else us) (front ++ (map (λ c. i) s.commons ++ owners_from (suc i) ps)) (places_from (length (front ++ map (λ c. i) s.commons)) (names_of_text ps) b) ≡ us ++ (if p then i ∷ indices (suc i) b ps else indices (suc i) b ps)
    go true r = r (us ++ i ∷ []) grown ∙ append_assoc us (i ∷ []) (indices (suc i) b ps)
    go false r = r us kept

units_are : (b : List ℕ) (ps : List Shared) → units_of_row (owners_from 0 ps) (places_from 0 (names_of_text ps) b) ≡ indices 0 b ps
units_are b ps = text_units b 0 [] [] ps (λ x e. cc)

-- ---- layouts

layout_same : (ds : List Declaration) (u : Procedure) → ((line : ℕ) (x : List ℕ) → declaration line ds x ≡ declaration line u.declarations x) → (b : List ℕ) (cs : List Common) → layout_of (own_entries ds b cs) ≡ map (extents_in u) (items_of b cs)
layout_same ds u same b [] = refl
layout_same ds u same b (c ∷ cs) = go (name_eq c.block b) (layout_same ds u same b cs)
  where
    items : (line : ℕ) (l : List Declaration) → layout_of (map (item_entry ds line) l) ≡ map (extents_in u) l
    items line [] = refl
    items line (d ∷ l) = λ i. (ap (λ es. or_else es d.extents) (ap (λ z. z.extents) (same 0 d.name) ∙ extents_declared 0 u.declarations d.name)) i ∷ items line l i

    go : (p : Bool) → layout_of (own_entries ds b cs) ≡ map (extents_in u) (items_of b cs) → layout_of (if p then statement_entries ds c ++ own_entries ds b cs else own_entries ds b cs) ≡ map (extents_in u) (if p then c.items ++ items_of b cs else items_of b cs)
    go true h = map_append (λ (e : Entry). e.extents) (statement_entries ds c) (own_entries ds b cs) ∙ (λ i. items c.line c.items i ++ h i) ∙ sym (map_append (extents_in u) c.items (items_of b cs))
    go false h = h

-- ---- the first odd unit

-- what is known of the first unit that declares a block
record First (ps : List Shared) (b : List ℕ) (fo : OwnBlocks) : Type 0 where
  pub entries : List Entry
  pub group : beside fo.names fo.groups b ≡ Some entries
  pub laid : layout_of entries ≡ first_layout ps b

module _ (ps : List Shared) (b : List ℕ) (fo : OwnBlocks) (f : First ps b fo) where
  odd_same : (s : Shared) (o : OwnBlocks) → IsOwn s o → declares b s ≡ true → is_odd_own fo b (Some o) ≡ is_odd ps b s
  odd_same s o h d =
      ap not ((λ i. are_alike ((group_own s o h b ∙ ap (λ c. when c (own_entries o.declarations b s.commons)) d) i) (f.group i)) ∙ (λ i. is_same_layout (layout_same o.declarations s.unit h.1 b s.commons i) (f.laid i)))
      ∙ ap (λ c. c && not (is_same_layout (layout b s) (first_layout ps b))) (sym d)

  odd_lines : (front qs : List OwnBlocks) (ss : List Shared) → AreOwn ss qs → line_at (front ++ qs) b (odd_among (front ++ qs) fo b (indices (length front) b ss)) ≡ image (λ s. last_line b s.unit.line s.commons) (find_odd (is_odd ps b) ss)
  odd_lines front [] [] a = refl
  odd_lines front (q ∷ qs) [] a = absurd a
  odd_lines front [] (s ∷ ss) a = absurd a
  odd_lines front (q ∷ qs) (s ∷ ss) a =
      go (declares b s) refl
      (subst (λ l. line_at l b (odd_among l fo b (indices (suc (length front)) b ss)) ≡ image (λ s. last_line b s.unit.line s.commons) (find_odd (is_odd ps b) ss)) (append_assoc front (q ∷ []) qs)
      (subst (λ n. line_at ((front ++ q ∷ []) ++ qs) b (odd_among ((front ++ q ∷ []) ++ qs) fo b (indices n b ss)) ≡ image (λ s. last_line b s.unit.line s.commons) (find_odd (is_odd ps b) ss)) (longer front q) (odd_lines (front ++ q ∷ []) qs ss a.1)))
    where
      all : List OwnBlocks
      all = front ++ q ∷ qs

      rest : Option ℕ
      rest = odd_among all fo b (indices (suc (length front)) b ss)

      decide : declares b s ≡ true → (p : Bool) → is_odd ps b s ≡ p → line_at all b rest ≡ image (λ s. last_line b s.unit.line s.commons) (find_odd (is_odd ps b) ss) →
          line_at all b (if p then Some (length front) else rest) ≡ image (λ s. last_line b s.unit.line s.commons) (if p then Some s else find_odd (is_odd ps b) ss)
      decide d true e r = ap (λ o. Some (line_in b o)) (at_end front q qs) ∙ ap (λ o. Some (line_or o)) (line_own s q a.0 b ∙ ap (λ c. when c (last_line b s.unit.line s.commons)) d)
      decide d false e r = r

      go : (p : Bool) → declares b s ≡ p → line_at all b rest ≡ image (λ s. last_line b s.unit.line s.commons) (find_odd (is_odd ps b) ss) →
          line_at all b (odd_among all fo b (if p then length front ∷ indices (suc (length front)) b ss else indices (suc (length front)) b ss)) ≡ image (λ s. last_line b s.unit.line s.commons) (if is_odd ps b s then Some s else find_odd (is_odd ps b) ss)
      go true d r =
          ap (λ c. line_at all b (if c then Some (length front) else rest)) (ap (is_odd_own fo b) (at_end front q qs) ∙ odd_same s q a.0 d)
          ∙ decide d (is_odd ps b s) refl r
      go false d r = r ∙ ap (λ c. image (λ s. last_line b s.unit.line s.commons) (if c && not (is_same_layout (layout b s) (first_layout ps b)) then Some s else find_odd (is_odd ps b) ss)) (sym d)

-- where no unit declares a block, none is odd in it
none_odd : (ps : List Shared) (b : List ℕ) (ss : List Shared) → first_declaring b ss ≡ None → find_odd (is_odd ps b) ss ≡ None
none_odd ps b [] e = refl
none_odd ps b (s ∷ ss) e = go (declares b s) e (none_odd ps b ss)
  where
    go : (p : Bool) → (if p then Some s else first_declaring b ss) ≡ None → (first_declaring b ss ≡ None → find_odd (is_odd ps b) ss ≡ None) → (if p && not (is_same_layout (layout b s) (first_layout ps b)) then Some s else find_odd (is_odd ps b) ss) ≡ None
    go true k r = cc
    go false k r = r k

-- the first unit that declares a block, in the table
abbrev FirstIs : Option Shared → Option ℕ → List OwnBlocks → List ℕ → Type 0
FirstIs o u os b = ((o ≡ None) × (u ≡ None)) ⊎ ((t : Shared) × (q : OwnBlocks) × (o ≡ Some t) × (at_place os u ≡ Some q) × IsOwn t q × (declares b t ≡ true))

first_own : (b : List ℕ) (front qs : List OwnBlocks) (ss : List Shared) → AreOwn ss qs → FirstIs (first_declaring b ss) (slice_get (indices (length front) b ss) 0) (front ++ qs) b
first_own b front [] [] a = inl (refl, refl)
first_own b front (q ∷ qs) [] a = absurd a
first_own b front [] (s ∷ ss) a = absurd a
first_own b front (q ∷ qs) (s ∷ ss) a =
    go (declares b s) refl
    (subst (λ l. FirstIs (first_declaring b ss) (slice_get (indices (suc (length front)) b ss) 0) l b) (append_assoc front (q ∷ []) qs)
    (subst (λ n. FirstIs (first_declaring b ss) (slice_get (indices n b ss) 0) ((front ++ q ∷ []) ++ qs) b) (longer front q) (first_own b (front ++ q ∷ []) qs ss a.1)))
  where
    go : (p : Bool) → declares b s ≡ p → FirstIs (first_declaring b ss) (slice_get (indices (suc (length front)) b ss) 0) (front ++ q ∷ qs) b →
        FirstIs (if p then Some s else first_declaring b ss) (slice_get (if p then length front ∷ indices (suc (length front)) b ss else indices (suc (length front)) b ss) 0) (front ++ q ∷ qs) b
    go true e r = inr (s, q, refl, at_end front q qs, a.0, e)
    go false e r = r

-- the line of a block's refusal
block_line : (ps : List Shared) (os : List OwnBlocks) → AreOwn ps os → (b : List ℕ) → odd_line os b (indices 0 b ps) ≡ image (λ s. last_line b s.unit.line s.commons) (find_odd (is_odd ps b) ps)
block_line ps os a b = go (first_own b [] os ps a)
  where
    go : FirstIs (first_declaring b ps) (slice_get (indices 0 b ps) 0) os b → odd_line os b (indices 0 b ps) ≡ image (λ s. last_line b s.unit.line s.commons) (find_odd (is_odd ps b) ps)
    go (inl n) = ap (λ u. odd_line_from os b (indices 0 b ps) (at_place os u)) n.1 ∙ ap (image (λ s. last_line b s.unit.line s.commons)) (sym (none_odd ps b ps n.0))
    go (inr f) =
        let t = f.0 in
        let q = f.1 in
        let is = f.4 in
        ap (odd_line_from os b (indices 0 b ps)) f.3
        ∙ odd_lines ps b q (record { entries = own_entries q.declarations b t.commons; group = group_own t q is b ∙ ap (λ c. when c (own_entries q.declarations b t.commons)) f.5; laid = layout_same q.declarations t.unit is.1 b t.commons ∙ ap (found_layout b) (sym f.2) }) [] os ps a

-- ---- the first of all

abbrev earliest : List (Option ℕ) → Option ℕ
earliest [] = None
earliest (x ∷ xs) = earlier_line x (earliest xs)

earlier_assoc : (a b c : Option ℕ) → earlier_line (earlier_line a b) c ≡ earlier_line a (earlier_line b c)
earlier_assoc None b c = refl
earlier_assoc (Some n) None c = refl
earlier_assoc (Some n) (Some m) None = go (nat_lt m n)
  where
    go : (p : Bool) → earlier_line (if p then Some m else Some n) None ≡ (if p then Some m else Some n)
    go true = refl
    go false = refl
earlier_assoc (Some n) (Some m) (Some k) = go (nat_lt m n) refl (nat_lt k m) refl (nat_lt k n) refl
  where
    go : (p : Bool) → nat_lt m n ≡ p → (q : Bool) → nat_lt k m ≡ q → (r : Bool) → nat_lt k n ≡ r → earlier_line (if p then Some m else Some n) (Some k) ≡ earlier_line (Some n) (if q then Some k else Some m)
    go true e true f r g = ap (λ z. if z then Some k else Some m) f ∙ ap (λ z. if z then Some k else Some n) (sym (let x = ltb-true m n e in let y = ltb-true k m f in lt-ltb k n (omega (arith, x, y))))
    go true e false f r g = ap (λ z. if z then Some k else Some m) f ∙ ap (λ z. if z then Some m else Some n) (sym e)
    go false e true f r g = refl
    go false e false f r g = ap (λ z. if z then Some k else Some n) (let x = ltb-false m n e in let y = ltb-false k m f in le-ltb k n (omega (arith, x, y))) ∙ ap (λ z. if z then Some m else Some n) (sym e)

before_same : (m n : ℕ) → (nat_lt m n || ((m == n) && false)) ≡ nat_lt m n
before_same m n = go (nat_lt m n) (m == n)
  where
    go : (p q : Bool) → (p || (q && false)) ≡ p
    go true q = refl
    go false true = refl
    go false false = refl

earlier_fault : (n : ℕ) (r : Option ℕ) → earlier (fault 26 n) (image (fault 26) r) ≡ image (fault 26) (earlier_line (Some n) r)
earlier_fault n None = refl
earlier_fault n (Some m) = ap (λ z. if z then Some (fault 26 m) else Some (fault 26 n)) (before_same m n) ∙ go (nat_lt m n)
  where
    go : (p : Bool) → (if p then Some (fault 26 m) else Some (fault 26 n)) ≡ image (fault 26) (if p then Some m else Some n)
    go true = refl
    go false = refl

module _ (ps : List Shared) (os : List OwnBlocks) (a : AreOwn ps os) where
  abbrev line : List ℕ → Option ℕ
  line b = image (λ s. last_line b s.unit.line s.commons) (find_odd (is_odd ps b) ps)

  faults_earliest : (bs : List (List ℕ)) → first_of (faults_in ps bs) ≡ image (fault 26) (earliest (map line bs))
  faults_earliest [] = refl
  faults_earliest (b ∷ bs) = go (find_odd (is_odd ps b) ps) (faults_earliest bs)
    where
      go : (o : Option Shared) → first_of (faults_in ps bs) ≡ image (fault 26) (earliest (map line bs)) → first_of (odd_fault b o ++ faults_in ps bs) ≡ image (fault 26) (earlier_line (image (λ s. last_line b s.unit.line s.commons) o) (earliest (map line bs)))
      go None h = h
      go (Some s) h = ap (earlier (fault 26 (last_line b s.unit.line s.commons))) h ∙ earlier_fault (last_line b s.unit.line s.commons) (earliest (map line bs))

  rows_earliest : (front bs : List (List ℕ)) (acc : Option ℕ) → front ++ bs ≡ blocks ps → earliest_from os (text_blocks ps) (length front) (map (places_from 0 (names_of_text ps)) bs) acc ≡ earlier_line acc (earliest (map line bs))
  rows_earliest front [] None e = refl
  rows_earliest front [] (Some n) e = refl
  rows_earliest front (b ∷ bs) acc e =
      ap (λ o. earliest_from os (text_blocks ps) (length front + 1) (map (places_from 0 (names_of_text ps)) bs) (earlier_line acc (odd_line_of os (text_blocks ps) (places_from 0 (names_of_text ps) b) o))) (block_named ps (length front) ∙ ap (λ l. slice_get l (length front)) (sym e) ∙ at_end front b bs)
      ∙ ap (λ o. earliest_from os (text_blocks ps) (length front + 1) (map (places_from 0 (names_of_text ps)) bs) (earlier_line acc o)) (ap (odd_line os b) (units_are b ps) ∙ block_line ps os a b)
      ∙ ap (λ n. earliest_from os (text_blocks ps) n (map (places_from 0 (names_of_text ps)) bs) (earlier_line acc (line b))) (let q : length front + 1 ≡ suc (length front) = omega arith in q ∙ sym (longer front b))
      ∙ rows_earliest (front ++ b ∷ []) bs (earlier_line acc (line b)) (append_assoc front (b ∷ []) bs ∙ e)
      ∙ earlier_assoc acc (line b) (earliest (map line bs))

  -- the refusal that is found is the definition's
  pub refusal_same : layout_refusal ps ≡ image (fault 26) (refused_line os (text_blocks ps))
  refusal_same =
      faults_earliest (blocks ps)
      ∙ ap (image (fault 26)) (sym (ap (λ rows. earliest_from os (text_blocks ps) 0 rows None) ((tabled_is (names_of_text ps)).rows ∙ ap (map (places_from 0 (names_of_text ps))) (table_blocks ps)) ∙ rows_earliest [] (blocks ps) None refl))
