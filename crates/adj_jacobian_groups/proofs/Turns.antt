-- One column more gets the least group that is free.
use Rattle.std.proofs.Common.{◌≡◌, ◌≢◌, ℕ, zero, suc, max, ◌+◌, ◌<◌, ◌≤◌, ◌⊎◌, inl, inr, Bool, true, false, List, [], ◌∷◌, ◌++◌, length, get_or, take, refl, sym, ap, ◌∙◌, eqb-true, eq-eqb, arith}
use Rattle.std.specs.Prelude.{◌==◌, ◌&&◌, if◌then◌else◌}
use Rattle.std.proofs.lemmas.Bool.{cases_order, cases_Bool, both_ways, or_cases, or_left, or_right, and_parts, and_from}
use Rattle.std.proofs.lemmas.List.{length_push, length-take-le, get_or-take}
use Rattle.def_jacobian.specs.Groups.{has, share, in_group, TakenBefore, AreLeastGroups, count_of}
use Rattle.adj_jacobian_groups.specs.Listed.{list_at, any_in, any_row_in}
use Rattle.adj_jacobian_groups.proofs.Marking.{in_group_past, Stamped}

-- ---- columns that share a row

-- a row has both columns
record Shared (rows : List (List ℕ)) (c d : ℕ) : Type 0 where
  row : ℕ
  first : has (list_at rows row) c ≡ true
  second : has (list_at rows row) d ≡ true

-- columns of one row share it
share_from : (rows : List (List ℕ)) (r c d : ℕ) → has (list_at rows r) c ≡ true → has (list_at rows r) d ≡ true → share rows c d ≡ true
share_from [] r c d h k = h
share_from (x ∷ rows) zero c d h k = or_left (has x c && has x d) (share rows c d) (and_from (has x c) (has x d) h k)
share_from (x ∷ rows) (suc r) c d h k = or_right (has x c && has x d) (share rows c d) (share_from rows r c d h k)

-- and columns that share a row have one
shared_row : (rows : List (List ℕ)) (c d : ℕ) → share rows c d ≡ true → Shared rows c d
shared_row [] c d h = absurd (both_ways false refl h)
shared_row (x ∷ rows) c d h = by (or_cases (has x c && has x d) (share rows c d) h) (λ e. shared_row rows c d e)
  where
    by : ((has x c && has x d) ≡ true) ⊎ (share rows c d ≡ true) → (share rows c d ≡ true → Shared rows c d) → Shared (x ∷ rows) c d
    by (inl e) f = let both = and_parts (has x c) (has x d) e in record { row = 0; first = both.0; second = both.1 }
    by (inr e) f = let s = f e in record { row = suc s.row; first = s.first; second = s.second }

-- ---- columns that are in a group

-- a column of a list is in the group
record Found (gs cs : List ℕ) (g : ℕ) : Type 0 where
  column : ℕ
  is_in : in_group gs g column ≡ true
  member : has cs column ≡ true

-- the test on columns finds one, and finds each
found_in : (gs cs : List ℕ) (g : ℕ) → any_in gs cs g ≡ true → Found gs cs g
found_in gs [] g h = absurd (both_ways false refl h)
found_in gs (c ∷ cs) g h = by (or_cases (in_group gs g c) (any_in gs cs g) h) (λ e. found_in gs cs g e)
  where
    by : (in_group gs g c ≡ true) ⊎ (any_in gs cs g ≡ true) → (any_in gs cs g ≡ true → Found gs cs g) → Found gs (c ∷ cs) g
    by (inl e) rest = record { column = c; is_in = e; member = or_left (c == c) (has cs c) (eq-eqb c c refl) }
    by (inr e) rest = let f = rest e in record { column = f.column; is_in = f.is_in; member = or_right (f.column == c) (has cs f.column) f.member }

any_from : (gs cs : List ℕ) (g c : ℕ) → has cs c ≡ true → in_group gs g c ≡ true → any_in gs cs g ≡ true
any_from gs [] g c h k = h
any_from gs (d ∷ ds) g c h k = by (or_cases (c == d) (has ds c) h) (λ e. any_from gs ds g c e k)
  where
    by : ((c == d) ≡ true) ⊎ (has ds c ≡ true) → (has ds c ≡ true → any_in gs ds g ≡ true) → any_in gs (d ∷ ds) g ≡ true
    by (inl e) rest = or_left (in_group gs g d) (any_in gs ds g) (ap (in_group gs g) (sym (eqb-true c d e)) ∙ k)
    by (inr e) rest = or_right (in_group gs g d) (any_in gs ds g) (rest e)

-- a row of a list has a column in the group
record FoundRow (gs : List ℕ) (rows : List (List ℕ)) (rs : List ℕ) (g : ℕ) : Type 0 where
  row : ℕ
  listed : has rs row ≡ true
  found : any_in gs (list_at rows row) g ≡ true

-- the test on rows finds one, and finds each
found_row : (gs : List ℕ) (rows : List (List ℕ)) (rs : List ℕ) (g : ℕ) → any_row_in gs rows rs g ≡ true → FoundRow gs rows rs g
found_row gs rows [] g h = absurd (both_ways false refl h)
found_row gs rows (r ∷ rs) g h = by (or_cases (any_in gs (list_at rows r) g) (any_row_in gs rows rs g) h) (λ e. found_row gs rows rs g e)
  where
    by : (any_in gs (list_at rows r) g ≡ true) ⊎ (any_row_in gs rows rs g ≡ true) → (any_row_in gs rows rs g ≡ true → FoundRow gs rows rs g) → FoundRow gs rows (r ∷ rs) g
    by (inl e) rest = record { row = r; listed = or_left (r == r) (has rs r) (eq-eqb r r refl); found = e }
    by (inr e) rest = let f = rest e in record { row = f.row; listed = or_right (f.row == r) (has rs f.row) f.listed; found = f.found }

any_row_from : (gs : List ℕ) (rows : List (List ℕ)) (rs : List ℕ) (g r : ℕ) → has rs r ≡ true → any_in gs (list_at rows r) g ≡ true → any_row_in gs rows rs g ≡ true
any_row_from gs rows [] g r h k = h
any_row_from gs rows (q ∷ rs) g r h k = by (or_cases (r == q) (has rs r) h) (λ e. any_row_from gs rows rs g r e k)
  where
    by : ((r == q) ≡ true) ⊎ (has rs r ≡ true) → (has rs r ≡ true → any_row_in gs rows rs g ≡ true) → any_row_in gs rows (q ∷ rs) g ≡ true
    by (inl e) rest = or_left (any_in gs (list_at rows q) g) (any_row_in gs rows rs g) (ap (λ z. any_in gs (list_at rows z) g) (sym (eqb-true r q e)) ∙ k)
    by (inr e) rest = or_right (any_in gs (list_at rows q) g) (any_row_in gs rows rs g) (rest e)

-- ---- a group more

-- the columns before keep their groups, and the new one has the group
in_group_before : (gs : List ℕ) (x g c : ℕ) → c < length gs → in_group (gs ++ x ∷ []) g c ≡ in_group gs g c
in_group_before [] x g c h = absurd (omega (arith, h))
in_group_before (k ∷ ks) x g zero h = refl
in_group_before (k ∷ ks) x g (suc c) h = in_group_before ks x g c (omega (arith, h))

in_group_last : (gs : List ℕ) (x g c : ℕ) → c ≡ length gs → in_group (gs ++ x ∷ []) g c ≡ (x == g)
in_group_last [] x g c e = ap (in_group (x ∷ []) g) e
in_group_last (k ∷ ks) x g zero e = absurd (omega (arith, e))
in_group_last (k ∷ ks) x g (suc c) e = in_group_last ks x g c (omega (arith, e))

-- each group is below the count
below_count : (gs : List ℕ) (g c : ℕ) → in_group gs g c ≡ true → g < count_of gs
below_count [] g c h = absurd (both_ways false refl h)
below_count (k ∷ ks) g zero h = let q = eqb-true k g h in omega (arith, q)
below_count (k ∷ ks) g (suc c) h = let q = below_count ks g c h in omega (arith, q)

pub each_below : (gs : List ℕ) (i d : ℕ) → i < length gs → get_or gs i d < count_of gs
each_below [] i d h = absurd (omega (arith, h))
each_below (k ∷ ks) zero d h = omega arith
each_below (k ∷ ks) (suc i) d h = let q = each_below ks i d (omega (arith, h)) in omega (arith, q)

-- the count with one column more
count_more : (gs : List ℕ) (g : ℕ) → count_of (gs ++ g ∷ []) ≡ max (count_of gs) (suc g)
count_more [] g = omega arith
count_more (k ∷ ks) g = let q = count_more ks g in omega (arith, q)

-- ---- the loop

-- the columns below a number have their groups, of which there are so many; each stamp is a column's number at most
pub record Grouped (rows : List (List ℕ)) (columns column : ℕ) (groups stamps : List ℕ) (count : ℕ) : Type 0 where
  pub least : AreLeastGroups rows column groups
  pub counted : count_of groups ≡ count
  pub few : count ≤ column
  pub size : length stamps ≡ columns
  pub old : (g : ℕ) → g < columns → get_or stamps g 0 ≤ column

-- the first group with another stamp, or the number of the groups
pub record IsFirstOther (stamps : List ℕ) (stamp group : ℕ) : Type 0 where
  pub within : group ≤ length stamps
  pub taken : (g : ℕ) → g < group → get_or stamps g 0 ≡ stamp
  pub free : group < length stamps → get_or stamps group 0 ≢ stamp

-- what the turn for a column has found
pub record Turn (rows : List (List ℕ)) (columns column : ℕ) (groups stamps : List ℕ) (count : ℕ) (numbers marked : List ℕ) (group : ℕ) : Type 0 where
  pub so_far : Grouped rows columns column groups stamps count
  pub within : column < columns
  pub listed : (r : ℕ) → has numbers r ≡ has (list_at rows r) column
  pub same : length marked ≡ length stamps
  pub stamped : Stamped (any_row_in groups rows numbers) (column + 1) stamps marked
  pub first : IsFirstOther (take count marked) (column + 1) group

module _ {rows : List (List ℕ)} {columns column : ℕ} {groups stamps : List ℕ} {count : ℕ} {numbers marked : List ℕ} {group : ℕ} (t : Turn rows columns column groups stamps count numbers marked group) where
  each : length groups ≡ column
  each = t.so_far.least.each

  some : length (take count marked) ≡ count
  some = length-take-le count marked (omega (arith, t.so_far.few, t.within, t.same, t.so_far.size))

  few : group ≤ count
  few = omega (arith, t.first.within, some)

  taken : (g : ℕ) → g < group → get_or marked g 0 ≡ column + 1
  taken g l = sym (get_or-take count marked g 0 (omega (arith, l, few))) ∙ t.first.taken g l

  free : group < count → get_or marked group 0 ≢ column + 1
  free l e = t.first.free (omega (arith, l, some)) (get_or-take count marked group 0 l ∙ e)

  -- a group with the stamp has an earlier column that shares a row
  taken_before : (g : ℕ) → g < columns → get_or marked g 0 ≡ column + 1 → TakenBefore rows groups g column
  taken_before g l e = by (cases_Bool (any_row_in groups rows numbers g))
    where
      by : (any_row_in groups rows numbers g ≡ true) ⊎ (any_row_in groups rows numbers g ≡ false) → TakenBefore rows groups g column
      by (inl a) =
          let f = found_row groups rows numbers g a in
          let d = found_in groups (list_at rows f.row) g f.found in
          record {
            column = d.column;
            before = early d.column d.is_in;
            is_in = d.is_in;
            shares = share_from rows f.row d.column column d.member (sym (t.listed f.row) ∙ f.listed);
          }
        where
          early : (c : ℕ) → in_group groups g c ≡ true → c < column
          early c h = side (cases_order c column)
            where
              side : (c ≡ column) ⊎ ((c < column) ⊎ (column < c)) → c < column
              side (inl q) = absurd (both_ways (in_group groups g c) (in_group_past groups g c (omega (arith, q, each))) h)
              side (inr (inl q)) = q
              side (inr (inr q)) = absurd (both_ways (in_group groups g c) (in_group_past groups g c (omega (arith, q, each))) h)
      by (inr a) =
          let s = t.stamped g (omega (arith, l, t.so_far.size)) ∙ ap (λ b. if b then column + 1 else get_or stamps g 0) a in
          let o = t.so_far.old g l in
          absurd (omega (arith, s, o, e))

  -- and the other way round
  stamp_of_taken : (g : ℕ) → g < columns → TakenBefore rows groups g column → get_or marked g 0 ≡ column + 1
  stamp_of_taken g l b =
      let s = shared_row rows b.column column b.shares in
      t.stamped g (omega (arith, l, t.so_far.size))
      ∙ ap (λ z. if z then column + 1 else get_or stamps g 0) (any_row_from groups rows numbers g s.row (t.listed s.row ∙ s.second) (any_from groups (list_at rows s.row) g b.column s.first b.is_in))

  -- earlier columns keep their groups
  kept : (g c : ℕ) → c < column → in_group (groups ++ group ∷ []) g c ≡ in_group groups g c
  kept g c l = in_group_before groups group g c (omega (arith, l, each))

  own : (g c : ℕ) → c ≡ column → in_group (groups ++ group ∷ []) g c ≡ true → group ≡ g
  own g c e h = eqb-true group g (sym (in_group_last groups group g c (e ∙ sym each)) ∙ h)

  past : (g c : ℕ) → column < c → in_group (groups ++ group ∷ []) g c ≡ true → ⊥
  past g c l h = both_ways (in_group (groups ++ group ∷ []) g c) (in_group_past (groups ++ group ∷ []) g c (omega (arith, l, each, length_push groups group))) h

  narrowed : (g c : ℕ) → c ≤ column → TakenBefore rows (groups ++ group ∷ []) g c → TakenBefore rows groups g c
  narrowed g c l b = record { column = b.column; before = b.before; is_in = sym (kept g b.column (omega (arith, l, b.before))) ∙ b.is_in; shares = b.shares }

  widened : (g c : ℕ) → c ≤ column → TakenBefore rows groups g c → TakenBefore rows (groups ++ group ∷ []) g c
  widened g c l b = record { column = b.column; before = b.before; is_in = kept g b.column (omega (arith, l, b.before)) ∙ b.is_in; shares = b.shares }

  free_here : TakenBefore rows groups group column → ⊥
  free_here b =
      let l = below_count groups group b.column b.is_in in
      free (omega (arith, l, t.so_far.counted)) (stamp_of_taken group (omega (arith, few, t.so_far.few, t.within)) b)

  free_next : (g c : ℕ) → in_group (groups ++ group ∷ []) g c ≡ true → TakenBefore rows (groups ++ group ∷ []) g c → ⊥
  free_next g c h b = by (cases_order c column)
    where
      by : (c ≡ column) ⊎ ((c < column) ⊎ (column < c)) → ⊥
      by (inl e) =
          let q = own g c e h in
          let n = narrowed g c (omega (arith, e)) b in
          free_here (record { column = n.column; before = omega (arith, n.before, e); is_in = ap (λ z. in_group groups z n.column) q ∙ n.is_in; shares = ap (share rows n.column) (sym e) ∙ n.shares })
      by (inr (inl l)) = t.so_far.least.free g c (sym (kept g c l) ∙ h) (narrowed g c (omega (arith, l)) b)
      by (inr (inr l)) = past g c l h

  least_next : (g c : ℕ) → in_group (groups ++ group ∷ []) g c ≡ true → (h : ℕ) → h < g → TakenBefore rows (groups ++ group ∷ []) h c
  least_next g c i h l = by (cases_order c column)
    where
      by : (c ≡ column) ⊎ ((c < column) ⊎ (column < c)) → TakenBefore rows (groups ++ group ∷ []) h c
      by (inl e) =
          let q = own g c e i in
          let w = widened h column (omega arith) (taken_before h (omega (arith, l, q, few, t.so_far.few, t.within)) (taken h (omega (arith, l, q)))) in
          record { column = w.column; before = omega (arith, w.before, e); is_in = w.is_in; shares = ap (share rows w.column) e ∙ w.shares }
      by (inr (inl k)) = widened h c (omega (arith, k)) (t.so_far.least.least g c (sym (kept g c k) ∙ i) h l)
      by (inr (inr k)) = absurd (past g c k i)

  old_next : (g : ℕ) → g < columns → get_or marked g 0 ≤ column + 1
  old_next g l = by (any_row_in groups rows numbers g) (t.stamped g (omega (arith, l, t.so_far.size)))
    where
      by : (b : Bool) → get_or marked g 0 ≡ (if b then column + 1 else get_or stamps g 0) → get_or marked g 0 ≤ column + 1
      by true e = omega (arith, e)
      by false e = omega (arith, e, t.so_far.old g l)

  -- the columns with the next one have their groups
  pub grouped_next : Grouped rows columns (column + 1) (groups ++ group ∷ []) marked (max count (group + 1))
  grouped_next = record {
    least = record { each = length_push groups group ∙ ap (λ n. n + 1) each; free = free_next; least = least_next };
    counted = let q = count_more groups group in omega (arith, q, t.so_far.counted);
    few = omega (arith, few, t.so_far.few);
    size = t.same ∙ t.so_far.size;
    old = old_next;
  }
