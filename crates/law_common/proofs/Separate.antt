-- Blocks, slots and names are apart.
use Rattle.std.proofs.Common.{◌≡◌, ℕ, zero, suc, ◌<◌, Bool, true, false, List, [], ◌∷◌, ◌++◌, refl, sym, ap, ◌∙◌, subst, arith, if◌then◌else◌}
use Rattle.std.specs.Prelude.{◌==◌, ◌||◌, ◌&&◌, length}
use Rattle.adj_tree.specs.Code.{plain, name_eq}
use Rattle.adj_tree.proofs.Names.{nat_same, name_refl, name_same}
use Rattle.def_meaning.specs.Apart.{has_name, AreApart}
use Rattle.def_meaning.proofs.Booleans.{and_true, or_false}
use Rattle.def_meaning.proofs.Variables.{name_comm}
use Rattle.adj_tree.specs.Common.{Shared}
use Rattle.def_common.specs.Blocks.{first_declaring, without_repeats, chosen}
use Rattle.def_common.specs.Members.{is_slot, slot_name, Member, member_names, member_slots, found_members, block_members, swapped}
use Rattle.law_common.specs.Passing.{NoSlots, AllSlots}
use Rattle.law_common.specs.Lowers.{Each}
use Rattle.def_common.specs.Refused.{found_layout}
use Rattle.law_common.proofs.Laying.{found_of_block, slot_of_block}
use Rattle.law_common.proofs.Slotted.{numbered, slots_append, first_slots}

-- ---- blocks are named once

seen_none : (seen bs : List (List ℕ)) (x : List ℕ) → has_name x seen ≡ true → has_name x (without_repeats seen bs) ≡ false
seen_none seen [] x h = refl
seen_none seen (b ∷ bs) x h = go (has_name b seen) refl (seen_none seen bs x h) (seen_none (b ∷ seen) bs x (more (name_eq x b) h))
  where
    more : {a : Bool} (c : Bool) → a ≡ true → (c || a) ≡ true
    more true e = refl
    more false e = e

    other : (c : Bool) → name_eq x b ≡ c → has_name b seen ≡ false → c ≡ false
    other true e k = absurd (let z : true ≡ false = sym h ∙ ap (λ y. has_name y seen) (name_same x b e) ∙ k in cc)
    other false e k = refl

    go : (c : Bool) → has_name b seen ≡ c → has_name x (without_repeats seen bs) ≡ false → has_name x (without_repeats (b ∷ seen) bs) ≡ false → has_name x (if c then without_repeats seen bs else b ∷ without_repeats (b ∷ seen) bs) ≡ false
    go true e r q = r
    go false e r q = ap (λ c. c || has_name x (without_repeats (b ∷ seen) bs)) (other (name_eq x b) refl e) ∙ q

pub repeats_apart : (seen bs : List (List ℕ)) → AreApart (without_repeats seen bs)
repeats_apart seen [] = tt
repeats_apart seen (b ∷ bs) = go (has_name b seen) (repeats_apart seen bs) (repeats_apart (b ∷ seen) bs)
  where
    go : (c : Bool) → AreApart (without_repeats seen bs) → AreApart (without_repeats (b ∷ seen) bs) → AreApart (if c then without_repeats seen bs else b ∷ without_repeats (b ∷ seen) bs)
    go true r q = r
    go false r q = (seen_none (b ∷ seen) bs b (ap (λ c. c || has_name b seen) (name_refl b)), q)

chosen_none : (f : List ℕ → Bool) (bs : List (List ℕ)) (x : List ℕ) → has_name x bs ≡ false → has_name x (chosen f bs) ≡ false
chosen_none f [] x h = refl
chosen_none f (b ∷ bs) x h = let p = or_false (name_eq x b) (has_name x bs) h in go (f b) p.0 (chosen_none f bs x p.1)
  where
    go : (c : Bool) → name_eq x b ≡ false → has_name x (chosen f bs) ≡ false → has_name x (if c then b ∷ chosen f bs else chosen f bs) ≡ false
    go true e r = ap (λ c. c || has_name x (chosen f bs)) e ∙ r
    go false e r = r

pub chosen_apart : (f : List ℕ → Bool) (bs : List (List ℕ)) → AreApart bs → AreApart (chosen f bs)
chosen_apart f [] h = tt
chosen_apart f (b ∷ bs) h = go (f b) (chosen_none f bs b h.0) (chosen_apart f bs h.1)
  where
    go : (c : Bool) → has_name b (chosen f bs) ≡ false → AreApart (chosen f bs) → AreApart (if c then b ∷ chosen f bs else chosen f bs)
    go true e r = (e, r)
    go false e r = r

-- ---- slots are apart

not_below : (b : List ℕ) (i j n : ℕ) → i < j → has_name (slot_name b i) (numbered b j n) ≡ false
not_below b i j zero h = refl
not_below b i j (suc n) h = ap (λ c. (c && name_eq b b) || has_name (slot_name b i) (numbered b (suc j) n)) (differ (i == j) refl) ∙ not_below b i (suc j) n (omega arith)
  where
    differ : (c : Bool) → (i == j) ≡ c → c ≡ false
    differ true e = absurd (let z : i ≡ j = nat_same i j e in omega arith)
    differ false e = refl

numbered_apart : (b : List ℕ) (i n : ℕ) → AreApart (numbered b i n)
numbered_apart b i zero = tt
numbered_apart b i (suc n) = (not_below b i (suc i) n (omega arith), numbered_apart b (suc i) n)

-- two lists that are apart, where the first has none of the second
pub append_apart : (xs ys : List (List ℕ)) → AreApart xs → AreApart ys → Each (λ x. has_name x ys ≡ false) xs → AreApart (xs ++ ys)
append_apart [] ys h k e = k
append_apart (x ∷ xs) ys h k e = (go xs h.0, append_apart xs ys h.1 k e.1)
  where
    go : (xs : List (List ℕ)) → has_name x xs ≡ false → has_name x (xs ++ ys) ≡ false
    go [] j = e.0
    go (z ∷ xs) j = let p = or_false (name_eq x z) (has_name x xs) j in ap (λ c. c || has_name x (xs ++ ys)) p.0 ∙ go xs p.1

-- a slot of one block is none of others
slot_parts : (b c : List ℕ) (i j : ℕ) → slot_name b i ≡ slot_name c j → name_eq b c ≡ true
slot_parts b c i j e =
    let same : name_eq (slot_name b i) (slot_name c j) ≡ true = ap (λ z. name_eq z (slot_name c j)) e ∙ name_refl (slot_name c j) in
    (and_true (i == j) (name_eq b c) same).1

not_other : (ps : List Shared) (b : List ℕ) (i : ℕ) (bs : List (List ℕ)) → has_name b bs ≡ false → has_name (slot_name b i) (member_slots (block_members ps bs)) ≡ false
not_other ps b i [] h = refl
not_other ps b i (c ∷ bs) h =
    let p = or_false (name_eq b c) (has_name b bs) h in
    ap (has_name (slot_name b i)) (slots_append (found_members c (first_declaring c ps)) (block_members ps bs))
    ∙ neither (member_slots (found_members c (first_declaring c ps))) (member_slots (block_members ps bs)) (none p.0 (has_name (slot_name b i) (member_slots (found_members c (first_declaring c ps)))) refl) (not_other ps b i bs p.1)
  where
    neither : (xs ys : List (List ℕ)) → has_name (slot_name b i) xs ≡ false → has_name (slot_name b i) ys ≡ false → has_name (slot_name b i) (xs ++ ys) ≡ false
    neither [] ys e f = f
    neither (x ∷ xs) ys e f = let p = or_false (name_eq (slot_name b i) x) (has_name (slot_name b i) xs) e in ap (λ c. c || has_name (slot_name b i) (xs ++ ys)) p.0 ∙ neither xs ys p.1 f

    none : name_eq b c ≡ false → (d : Bool) → has_name (slot_name b i) (member_slots (found_members c (first_declaring c ps))) ≡ d → d ≡ false
    none e false k = refl
    none e true k =
        let z = slot_of_block c (found_members c (first_declaring c ps)) (found_of_block c (first_declaring c ps)) (slot_name b i) k in
        sym (slot_parts b c i z.0 z.1) ∙ e

pub slots_apart : (ps : List Shared) (bs : List (List ℕ)) → AreApart bs → AreApart (member_slots (block_members ps bs))
slots_apart ps [] h = tt
slots_apart ps (b ∷ bs) h =
    subst AreApart (sym (slots_append (found_members b (first_declaring b ps)) (block_members ps bs) ∙ ap (λ l. l ++ member_slots (block_members ps bs)) (first_slots b (first_declaring b ps))))
    (append_apart (numbered b 1 n) (member_slots (block_members ps bs)) (numbered_apart b 1 n) (slots_apart ps bs h.1) (each 1 n))
  where
    n : ℕ
    n = length (found_layout b (first_declaring b ps))

    each : (i n : ℕ) → Each (λ x. has_name x (member_slots (block_members ps bs)) ≡ false) (numbered b i n)
    each i zero = tt
    each i (suc n) = (not_other ps b i bs h.0, each (suc i) n)

-- ---- names and slots

pub apart_behind : (xs ys : List (List ℕ)) → AreApart (xs ++ ys) → AreApart ys
apart_behind [] ys h = h
apart_behind (x ∷ xs) ys h = apart_behind xs ys h.1

pub none_behind : (xs ys : List (List ℕ)) → NoSlots (xs ++ ys) → NoSlots ys
none_behind [] ys h = h
none_behind (x ∷ xs) ys h = none_behind xs ys h.1

no_slot_among : (x : List ℕ) → is_slot (plain x) ≡ false → (ys : List (List ℕ)) → AllSlots ys → has_name x ys ≡ false
no_slot_among x h [] k = refl
no_slot_among x h (y ∷ ys) k = ap (λ c. c || has_name x ys) (go (name_eq x y) refl) ∙ no_slot_among x h ys k.1
  where
    go : (c : Bool) → name_eq x y ≡ c → c ≡ false
    go true e = sym k.0 ∙ ap (λ z. is_slot (plain z)) (sym (name_same x y e)) ∙ h
    go false e = refl

pub names_no_slots : (xs ys : List (List ℕ)) → NoSlots xs → AllSlots ys → Each (λ x. has_name x ys ≡ false) xs
names_no_slots [] ys h k = tt
names_no_slots (x ∷ xs) ys h k = (no_slot_among x h.0 ys k, names_no_slots xs ys h.1 k)

stays : (ms : List Member) (x : List ℕ) → has_name x (member_names ms) ≡ false → has_name x (member_slots ms) ≡ false → swapped ms x ≡ x
stays [] x h k = refl
stays (m ∷ ms) x h k =
    let p = or_false (name_eq x m.name) (has_name x (member_names ms)) h in
    let q = or_false (name_eq x m.slot) (has_name x (member_slots ms)) k in
    (λ i. if name_comm x m.name p.0 i then m.slot else (if name_comm x m.slot q.0 i then m.name else swapped ms x)) ∙ stays ms x p.1 q.1

pub own_stay : (ms : List Member) (own : List (List ℕ)) → AreApart (own ++ member_names ms) → NoSlots (own ++ member_names ms) → AllSlots (member_slots ms) → Each (λ d. (swapped ms d ≡ d) × (is_slot (plain d) ≡ false)) own
own_stay ms [] h k a = tt
own_stay ms (d ∷ own) h k a = ((stays ms d (later own h.0) (no_slot_among d k.0 (member_slots ms) a), k.0), own_stay ms own h.1 k.1 a)
  where
    later : (xs : List (List ℕ)) → has_name d (xs ++ member_names ms) ≡ false → has_name d (member_names ms) ≡ false
    later [] e = e
    later (x ∷ xs) e = later xs (or_false (name_eq d x) (has_name d (xs ++ member_names ms)) e).1
