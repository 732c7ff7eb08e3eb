-- Refusal 26 comes just where layouts differ.
use Rattle.std.proofs.Common.{◌≡◌, ◌⊎◌, inl, inr, ℕ, Bool, true, false, List, [], ◌∷◌, ◌++◌, refl, sym, ap, ◌∙◌, subst, if◌then◌else◌, arith}
use Rattle.std.specs.Prelude.{ℤ, pos, negsuc, not, ◌&&◌, ◌||◌, Option, Some, None}
use Rattle.std.specs.Ordering.{int_eq}
use Rattle.adj_tree.specs.Code.{name_eq, Extent, fixed, given}
use Rattle.adj_tree.specs.declared.fault.Refusal.{Refusal}
use Rattle.adj_tree.proofs.Names.{name_refl, name_same}
use Rattle.def_meaning.specs.Apart.{has_name}
use Rattle.def_meaning.proofs.Booleans.{and_true}
use Rattle.def_names.specs.Fault.{fault}
use Rattle.def_names.specs.Laws.{IsIn}
use Rattle.adj_tree.specs.Common.{Shared}
use Rattle.def_common.specs.Blocks.{declares, layout, blocks}
use Rattle.law_common.specs.Lowers.{Each}
use Rattle.def_common.specs.Refused.{is_same_extent, are_same_extents, is_same_layout, first_layout, is_odd, find_odd, last_line, odd_fault, faults_in, layout_faults}
use Rattle.law_common.specs.Refused.{RefusedAtPlaces, LaidAlike}
use Rattle.def_names.proofs.Order.{no_first}
use Rattle.law_common.proofs.Laying.{true_behind}

-- ---- in lists

in_front : {X : Type 0} (x : X) (l k : List X) → IsIn x l → IsIn x (l ++ k)
in_front x [] k h = absurd h
in_front x (y ∷ l) k (inl e) = inl e
in_front x (y ∷ l) k (inr h) = inr (in_front x l k h)

in_behind : {X : Type 0} (x : X) (l k : List X) → IsIn x k → IsIn x (l ++ k)
in_behind x [] k h = h
in_behind x (y ∷ l) k h = inr (in_behind x l k h)

in_either : {X : Type 0} (x : X) (l k : List X) → IsIn x (l ++ k) → IsIn x l ⊎ IsIn x k
in_either x [] k h = inr h
in_either x (y ∷ l) k (inl e) = inl (inl e)
in_either x (y ∷ l) k (inr h) = go (in_either x l k h)
  where
    go : IsIn x l ⊎ IsIn x k → IsIn x (y ∷ l) ⊎ IsIn x k
    go (inl a) = inl (inr a)
    go (inr b) = inr b

-- ---- the faults of some blocks

-- the block of a fault
record OfBlock (ps : List Shared) (bs : List (List ℕ)) (r : Refusal) : Type 0 where
  pub block : List ℕ
  pub unit : Shared
  pub among : has_name block bs ≡ true
  pub first : find_odd (is_odd ps block) ps ≡ Some unit
  pub is : r ≡ fault 26 (last_line block unit.unit.line unit.commons)

of_block : (ps : List Shared) (bs : List (List ℕ)) (r : Refusal) → IsIn r (faults_in ps bs) → OfBlock ps bs r
of_block ps [] r h = absurd h
of_block ps (b ∷ bs) r h = go (find_odd (is_odd ps b) ps) refl (in_either r (odd_fault b (find_odd (is_odd ps b) ps)) (faults_in ps bs) h) (of_block ps bs r)
  where
    go : (o : Option Shared) → find_odd (is_odd ps b) ps ≡ o → IsIn r (odd_fault b o) ⊎ IsIn r (faults_in ps bs) → (IsIn r (faults_in ps bs) → OfBlock ps bs r) → OfBlock ps (b ∷ bs) r
    go o e (inr k) f = let z = f k in record { block = z.block; unit = z.unit; among = true_behind (name_eq z.block b) z.among; first = z.first; is = z.is }
    go None e (inl k) f = absurd k
    go (Some s) e (inl (inl k)) f = record { block = b; unit = s; among = ap (λ c. c || has_name b bs) (name_refl b); first = e; is = k }
    go (Some s) e (inl (inr k)) f = absurd k

to_block : (ps : List Shared) (bs : List (List ℕ)) (r : Refusal) (b : List ℕ) (s : Shared) → has_name b bs ≡ true → find_odd (is_odd ps b) ps ≡ Some s → r ≡ fault 26 (last_line b s.unit.line s.commons) → IsIn r (faults_in ps bs)
to_block ps [] r b s h e k = absurd cc
to_block ps (c ∷ bs) r b s h e k = go (name_eq b c) refl h (λ i. to_block ps bs r b s i e k)
  where
    go : (p : Bool) → name_eq b c ≡ p → (p || has_name b bs) ≡ true → (has_name b bs ≡ true → IsIn r (faults_in ps bs)) → IsIn r (odd_fault c (find_odd (is_odd ps c) ps) ++ faults_in ps bs)
    go true q i f =
        subst (λ d. IsIn r (odd_fault d (find_odd (is_odd ps d) ps) ++ faults_in ps bs)) (name_same b c q)
        (in_front r (odd_fault b (find_odd (is_odd ps b) ps)) (faults_in ps bs) (subst (λ o. IsIn r (odd_fault b o)) (sym e) (inl k)))
    go false q i f = in_behind r (odd_fault c (find_odd (is_odd ps c) ps)) (faults_in ps bs) (f i)

pub refused_at_places : RefusedAtPlaces
refused_at_places ps r = (
  (λ h. let z = of_block ps (blocks ps) r h in record { block = z.block; unit = z.unit; among = z.among; first = z.first; is = z.is }),
  (λ p. to_block ps (blocks ps) r p.block p.unit p.among p.first p.is),
)

-- ---- where there is none

none_in : (ps : List Shared) (bs : List (List ℕ)) → faults_in ps bs ≡ [] → (b : List ℕ) → has_name b bs ≡ true → find_odd (is_odd ps b) ps ≡ None
none_in ps bs e b h = go (find_odd (is_odd ps b) ps) refl
  where
    go : (o : Option Shared) → find_odd (is_odd ps b) ps ≡ o → o ≡ None
    go None k = refl
    go (Some s) k = absurd (subst (IsIn (fault 26 (last_line b s.unit.line s.commons))) e (to_block ps bs (fault 26 (last_line b s.unit.line s.commons)) b s h k refl))

none_odd : (f : Shared → Bool) (ps : List Shared) → find_odd f ps ≡ None → Each (λ s. f s ≡ false) ps
none_odd f [] e = tt
none_odd f (s ∷ ps) e = go (f s) refl e (none_odd f ps)
  where
    go : (b : Bool) → f s ≡ b → (if b then Some s else find_odd f ps) ≡ None → (find_odd f ps ≡ None → Each (λ s. f s ≡ false) ps) → Each (λ s. f s ≡ false) (s ∷ ps)
    go true k e r = absurd (let z : Some s ≡ None = e in cc)
    go false k e r = (k, r e)

abbrev IsLiteral : Extent → Type 0
IsLiteral e = is_same_extent e e ≡ true

-- numbers that compare equal are equal
int_same : (a b : ℤ) → int_eq a b ≡ true → a ≡ b
int_same (pos m) (pos n) h = grind arith
int_same (pos m) (negsuc n) h = absurd cc
int_same (negsuc m) (pos n) h = absurd cc
int_same (negsuc m) (negsuc n) h = grind arith

same_extent : (d e : Extent) → is_same_extent d e ≡ true → (d ≡ e) × IsLiteral d
same_extent (fixed z) (fixed y) h = let p : z ≡ y = int_same z y h in (ap fixed p, ap (int_eq z) p ∙ h)
same_extent (fixed z) (given y) h = absurd cc
same_extent (given x) e h = absurd cc

same_extents : (ds es : List Extent) → are_same_extents ds es ≡ true → (ds ≡ es) × Each IsLiteral ds
same_extents [] [] h = (refl, tt)
same_extents [] (e ∷ es) h = absurd cc
same_extents (d ∷ ds) [] h = absurd cc
same_extents (d ∷ ds) (e ∷ es) h =
    let p = and_true (is_same_extent d e) (are_same_extents ds es) h in
    let q = same_extent d e p.0 in
    let r = same_extents ds es p.1 in
    ((λ i. q.0 i ∷ r.0 i), (q.1, r.1))

same_layout : (ds es : List (List Extent)) → is_same_layout ds es ≡ true → (ds ≡ es) × Each (Each IsLiteral) ds
same_layout [] [] h = (refl, tt)
same_layout [] (e ∷ es) h = absurd cc
same_layout (d ∷ ds) [] h = absurd cc
same_layout (d ∷ ds) (e ∷ es) h =
    let p = and_true (are_same_extents d e) (is_same_layout ds es) h in
    let q = same_extents d e p.0 in
    let r = same_layout ds es p.1 in
    ((λ i. q.0 i ∷ r.0 i), (q.1, r.1))

pub laid_alike : LaidAlike
laid_alike ps h b k = go ps (none_odd (is_odd ps b) ps (none_in ps (blocks ps) (no_first (layout_faults ps) h) b k))
  where
    even : (p q : Bool) → (p && not q) ≡ false → p ≡ true → q ≡ true
    even true true e f = refl
    even true false e f = absurd cc
    even false q e f = absurd cc

    go : (l : List Shared) → Each (λ s. is_odd ps b s ≡ false) l → Each (λ s. declares b s ≡ true → (layout b s ≡ first_layout ps b) × Each (Each IsLiteral) (layout b s)) l
    go [] e = tt
    go (s ∷ l) e = ((λ d. same_layout (layout b s) (first_layout ps b) (even (declares b s) (is_same_layout (layout b s) (first_layout ps b)) e.0 d)), go l e.1)
