-- Sums of products over the cells of two units, where some cells of the one stand for cells of the other.
use Rattle.std.proofs.Common.{◌≡◌, Bool, true, false, List, [], ◌∷◌, refl, sym, ap, ◌∙◌, if◌then◌else◌}
use Rattle.std.specs.Prelude.{pos, ◌||◌, Option, Some, None}
use Rattle.adj_word.specs.Word.{add, mul}
use Rattle.adj_word.specs.Pairing.{pairing, put, stands_in, IsApart}
use Rattle.adj_word.proofs.Residues.{add_assoc, add_comm, zero-mul, wrap-zero}
use Rattle.adj_word.proofs.Pairings.{pairing-apart, pairing-put_out}
use Rattle.law_sweep.specs.Pairs.{Key, key_eq, Words}
use Rattle.law_sweep.proofs.KeyVariables.{key_same}
use Rattle.def_names.proofs.Variables.{or_left, or_right}
use Rattle.adj_tree.proofs.Names.{nat_refl, name_refl}

pub key_refl : (k : Key) → key_eq k k ≡ true
key_refl k = rw (name_refl k.0) (nat_refl k.1)

-- sums whose products are the same at each key
pub pairing_terms : (ks : List Key) (f g y z : Words) → ((k : Key) → stands_in key_eq k ks ≡ true → mul (f k) (z k) ≡ mul (g k) (y k)) → pairing ks f z ≡ pairing ks g y
pairing_terms [] f g y z h = refl
pairing_terms (k ∷ ks) f g y z h =
    let here : stands_in key_eq k (k ∷ ks) ≡ true = rw (key_refl k) refl in
    λ i. add (h k here i) (pairing_terms ks f g y z (λ l o. h l (or_right (key_eq k l) (stands_in key_eq l ks) o)) i)

pairing_none : (ks : List Key) (s z : Words) → ((k : Key) → stands_in key_eq k ks ≡ true → mul (s k) (z k) ≡ pos 0) → pairing ks s z ≡ pos 0
pairing_none [] s z h = refl
pairing_none (k ∷ ks) s z h =
    let here : stands_in key_eq k (k ∷ ks) ≡ true = rw (key_refl k) refl in
    (λ i. add (h k here i) (pairing_none ks s z (λ l o. h l (or_right (key_eq k l) (stands_in key_eq l ks) o)) i)) ∙ wrap-zero

put_own : (z : Words) (k : Key) → put key_eq z k (z k) ≡ z
put_own z k = λ i l. go l (key_eq l k) refl i
  where
    go : (l : Key) (b : Bool) → key_eq l k ≡ b → (if b then z k else z l) ≡ z l
    go l true e = ap z (sym (key_same l k e))
    go l false e = refl

-- each key of the one list stands in the other
abbrev pub AllIn : List Key → List Key → Type 0
AllIn [] ks = Unit {0}
AllIn (l ∷ ls) ks = (stands_in key_eq l ks ≡ true) × AllIn ls ks

-- the sum over a list is that over some of its keys, where the other products are 0
pub pairing_some : (ks : List Key) → IsApart key_eq ks → (ls : List Key) → IsApart key_eq ls → AllIn ls ks → (s z : Words) → ((k : Key) → stands_in key_eq k ks ≡ true → stands_in key_eq k ls ≡ false → mul (s k) (z k) ≡ pos 0) → pairing ks s z ≡ pairing ls s z
pairing_some ks a [] b h s z off = pairing_none ks s z (λ k o. off k o refl)
pairing_some ks a (l ∷ ls) b h s z off =
    let s1 = put key_eq s l (pos 0) in
    let rest : pairing ks s1 z ≡ pairing ls s1 z = pairing_some ks a ls b.1 h.1 s1 z (λ k o n. go k o n (key_eq k l) refl) in
    ap (pairing ks s) (sym (put_own z l))
    ∙ sym (pairing-apart key_eq key_same ks s z l (z l) a h.0)
    ∙ ap (λ p. add p (mul (s l) (z l))) (rest ∙ pairing-put_out key_eq ls s z l (pos 0) b.0)
    ∙ add_comm (pairing ls s z) (mul (s l) (z l))
  where
    other : (k : Key) → key_eq k l ≡ false → key_eq l k ≡ false
    other k n = flip (key_eq l k) refl
      where
        flip : (b : Bool) → key_eq l k ≡ b → b ≡ false
        flip true e = absurd (let c : true ≡ false = sym (key_refl k) ∙ ap (key_eq k) (sym (key_same l k e)) ∙ n in cc)
        flip false e = refl

    go : (k : Key) → stands_in key_eq k ks ≡ true → stands_in key_eq k ls ≡ false → (t : Bool) → key_eq k l ≡ t → mul (if t then pos 0 else s k) (z k) ≡ pos 0
    go k o n true e = zero-mul (z k)
    go k o n false e = off k o (rw (other k e, n) refl)

-- ---- cells that stand for others

module _ (xs : List Key) (apart : IsApart key_eq xs) (ys : List Key) (apart' : IsApart key_eq ys) (to : Key → Option Key) (one : (k l m : Key) → to k ≡ Some m → to l ≡ Some m → k ≡ l) (into : (k m : Key) → stands_in key_eq k xs ≡ true → to k ≡ Some m → stands_in key_eq m ys ≡ true) where
  abbrev onto : Option Key → List Key → List Key
  onto None ms = ms
  onto (Some m) ms = m ∷ ms

  -- the cells of the second list for which a cell of these stands
  abbrev reached : List Key → List Key
  reached [] = []
  reached (k ∷ ks) = onto (to k) (reached ks)

  -- such a cell comes from where it is reached
  comes_from : (ks : List Key) (k m : Key) → to k ≡ Some m → stands_in key_eq m (reached ks) ≡ true → stands_in key_eq k ks ≡ true
  comes_from [] k m e h = cc
  comes_from (l ∷ ks) k m e h = go (comes_from ks k m e) (to l) refl h
    where
      go : (stands_in key_eq m (reached ks) ≡ true → stands_in key_eq k ks ≡ true) → (o : Option Key) → to l ≡ o → stands_in key_eq m (onto o (reached ks)) ≡ true → (key_eq l k || stands_in key_eq k ks) ≡ true
      go ih None w h = or_right (key_eq l k) (stands_in key_eq k ks) (ih h)
      go ih (Some n) w h = here (key_eq n m) refl h
        where
          here : (b : Bool) → key_eq n m ≡ b → (b || stands_in key_eq m (reached ks)) ≡ true → (key_eq l k || stands_in key_eq k ks) ≡ true
          here true v h =
              let same : l ≡ k = one l k m (w ∙ ap Some (key_same n m v)) e in
              or_left (key_eq l k) (stands_in key_eq k ks) (ap (key_eq l) (sym same) ∙ key_refl l)
          here false v h = or_right (key_eq l k) (stands_in key_eq k ks) (ih h)

  reached_apart : (ks : List Key) → IsApart key_eq ks → IsApart key_eq (reached ks)
  reached_apart [] a = tt
  reached_apart (k ∷ ks) a = go (to k) refl (reached_apart ks a.1)
    where
      go : (o : Option Key) → to k ≡ o → IsApart key_eq (reached ks) → IsApart key_eq (onto o (reached ks))
      go None e r = r
      go (Some m) e r = (new (stands_in key_eq m (reached ks)) refl, r)
        where
          new : (b : Bool) → stands_in key_eq m (reached ks) ≡ b → b ≡ false
          new true h = absurd (let c : true ≡ false = sym (comes_from ks k m e h) ∙ a.0 in cc)
          new false h = refl

  reached_in : (ks : List Key) → ((k : Key) → stands_in key_eq k ks ≡ true → stands_in key_eq k xs ≡ true) → AllIn (reached ks) ys
  reached_in [] h = tt
  reached_in (k ∷ ks) h = go (to k) refl (h k (rw (key_refl k) refl)) (reached_in ks (λ l o. h l (or_right (key_eq k l) (stands_in key_eq l ks) o)))
    where
      go : (o : Option Key) → to k ≡ o → stands_in key_eq k xs ≡ true → AllIn (reached ks) ys → AllIn (onto o (reached ks)) ys
      go None e i r = r
      go (Some m) e i r = (into k m i e, r)

  -- a cell that is reached is told by its own
  reaches : (ks : List Key) (k m : Key) → stands_in key_eq k ks ≡ true → to k ≡ Some m → stands_in key_eq m (reached ks) ≡ true
  reaches [] k m h e = cc
  reaches (l ∷ ks) k m h e = go (reaches ks k m) (key_eq l k) refl h
    where
      go : (stands_in key_eq k ks ≡ true → to k ≡ Some m → stands_in key_eq m (reached ks) ≡ true) → (b : Bool) → key_eq l k ≡ b → (b || stands_in key_eq k ks) ≡ true → stands_in key_eq m (onto (to l) (reached ks)) ≡ true
      go ih true v h = ap (λ o. stands_in key_eq m (onto o (reached ks))) (ap to (key_same l k v) ∙ e) ∙ ap (λ b. b || stands_in key_eq m (reached ks)) (key_refl m)
      go ih false v h = behind (to l) (ih h e)
        where
          behind : (o : Option Key) → stands_in key_eq m (reached ks) ≡ true → stands_in key_eq m (onto o (reached ks)) ≡ true
          behind None r = r
          behind (Some n) r = or_right (key_eq n m) (stands_in key_eq m (reached ks)) r

  -- the cells of which none is reached
  abbrev left_out : Option Key → Key → List Key → List Key
  left_out None k ks = k ∷ ks
  left_out (Some m) k ks = ks

  abbrev others : List Key → List Key
  others [] = []
  others (k ∷ ks) = left_out (to k) k (others ks)

  module _ (s z : Words) (t y : Words) where
    -- a sum over the first list, by what stands for cells of the second, and by the others
    split : (ks : List Key) → ((k m : Key) → stands_in key_eq k ks ≡ true → to k ≡ Some m → mul (s k) (z k) ≡ mul (t m) (y m)) → pairing ks s z ≡ add (pairing (reached ks) t y) (pairing (others ks) s z)
    split [] h = sym wrap-zero
    split (k ∷ ks) h = go (to k) refl (split ks (λ l m o e. h l m (or_right (key_eq k l) (stands_in key_eq l ks) o) e))
      where
        go : (o : Option Key) → to k ≡ o → pairing ks s z ≡ add (pairing (reached ks) t y) (pairing (others ks) s z) → add (mul (s k) (z k)) (pairing ks s z) ≡ add (pairing (onto o (reached ks)) t y) (pairing (left_out o k (others ks)) s z)
        go None e ih =
            let a = mul (s k) (z k) in
            let b = pairing (reached ks) t y in
            let c = pairing (others ks) s z in
            ap (add a) ih ∙ sym (add_assoc a b c) ∙ ap (λ v. add v c) (add_comm a b) ∙ add_assoc b a c
        go (Some m) e ih =
            let here : stands_in key_eq k (k ∷ ks) ≡ true = rw (key_refl k) refl in
            (λ i. add (h k m here e i) (ih i)) ∙ sym (add_assoc (mul (t m) (y m)) (pairing (reached ks) t y) (pairing (others ks) s z))

  others_alike : (s1 z1 s2 z2 : Words) (ks : List Key) → ((k : Key) → stands_in key_eq k ks ≡ true → to k ≡ None → mul (s1 k) (z1 k) ≡ mul (s2 k) (z2 k)) → pairing (others ks) s1 z1 ≡ pairing (others ks) s2 z2
  others_alike s1 z1 s2 z2 [] h = refl
  others_alike s1 z1 s2 z2 (k ∷ ks) h = go (to k) refl (others_alike s1 z1 s2 z2 ks (λ l o. h l (or_right (key_eq k l) (stands_in key_eq l ks) o)))
    where
      go : (o : Option Key) → to k ≡ o → pairing (others ks) s1 z1 ≡ pairing (others ks) s2 z2 → pairing (left_out o k (others ks)) s1 z1 ≡ pairing (left_out o k (others ks)) s2 z2
      go None e ih = let here : stands_in key_eq k (k ∷ ks) ≡ true = rw (key_refl k) refl in λ i. add (h k here e i) (ih i)
      go (Some m) e ih = ih

  -- a cell of the second list for which none of the first stands
  abbrev pub IsFree : Key → Type 0
  IsFree m = (k : Key) → stands_in key_eq k xs ≡ true → to k ≡ Some m → ⊥

  free_of : (m : Key) → stands_in key_eq m (reached xs) ≡ false → IsFree m
  free_of m n k o e = let c : true ≡ false = sym (reaches xs k m o e) ∙ n in cc

  -- where the sums over the second list are the same, so are those over the first
  pub pairing_carried : (s1 z1 s2 z2 t1 y1 t2 y2 : Words) →
      ((k m : Key) → stands_in key_eq k xs ≡ true → to k ≡ Some m → mul (s1 k) (z1 k) ≡ mul (t1 m) (y1 m)) →
      ((k m : Key) → stands_in key_eq k xs ≡ true → to k ≡ Some m → mul (s2 k) (z2 k) ≡ mul (t2 m) (y2 m)) →
      ((k : Key) → stands_in key_eq k xs ≡ true → to k ≡ None → mul (s1 k) (z1 k) ≡ mul (s2 k) (z2 k)) →
      ((m : Key) → stands_in key_eq m ys ≡ true → IsFree m → mul (t1 m) (y1 m) ≡ pos 0) →
      ((m : Key) → stands_in key_eq m ys ≡ true → IsFree m → mul (t2 m) (y2 m) ≡ pos 0) →
      pairing ys t1 y1 ≡ pairing ys t2 y2 → pairing xs s1 z1 ≡ pairing xs s2 z2
  pairing_carried s1 z1 s2 z2 t1 y1 t2 y2 h1 h2 h0 off1 off2 e =
      let ls = reached xs in
      let a = reached_apart xs apart in
      let i = reached_in xs (λ k o. o) in
      split s1 z1 t1 y1 xs h1
      ∙ (λ j. add
      ((sym (pairing_some ys apart' ls a i t1 y1 (λ k o n. off1 k o (free_of k n))) ∙ e ∙ pairing_some ys apart' ls a i t2 y2 (λ k o n. off2 k o (free_of k n))) j)
      (others_alike s1 z1 s2 z2 xs h0 j))
      ∙ sym (split s2 z2 t2 y2 xs h2)
