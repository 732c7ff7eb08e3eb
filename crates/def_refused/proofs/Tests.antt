-- Faults of a place that are tested one after the other: the first that is there is the least.
use Rattle.std.proofs.Common.{◌≡◌, ℕ, suc, ◌≤◌, Bool, true, false, cond, List, [], ◌∷◌, Option, Some, None, Result, Ok, Err, ◌⊎◌, inl, inr, refl, sym, ap, subst, ◌∙◌, arith}
use Rattle.std.specs.Prelude.{◌&&◌, ◌||◌, not}
use Rattle.adj_tree.specs.declared.fault.Refusal.{Refusal}
use Rattle.def_text.specs.Refused.{◌>>=◌}
use Rattle.def_refused.specs.First.{rank, IsLeast, Faults, HasNone, AreFaultless, IsFirst, IsAnswer}

-- the first refusal that is there, or none
abbrev pub chosen : List (Option Refusal) → Result (Unit {0}) Refusal
chosen [] = Ok tt
chosen (None ∷ cs) = chosen cs
chosen (Some e ∷ cs) = Err e

-- an answer without what it gives
abbrev pub forgotten : {B : Type 0} → Result B Refusal → Result (Unit {0}) Refusal
forgotten (Ok x) = Ok tt
forgotten (Err e) = Err e

-- a refusal that is there where a test says so
abbrev pub when : Bool → Refusal → Option Refusal
when true e = Some e
when false e = None

-- one test more
pub test_more : {B : Type 0} (b : Bool) (e : Refusal) (cs : List (Option Refusal)) (x : Result B Refusal) → (b ≡ false → forgotten x ≡ chosen cs) → forgotten (cond b (Err e) x) ≡ chosen (when b e ∷ cs)
test_more true e cs x h = refl
test_more false e cs x h = h refl

abbrev pub Present : List (Option Refusal) → Refusal → Type 0
Present [] r = ⊥
Present (c ∷ cs) r = (c ≡ Some r) ⊎ Present cs r

-- the ranks of the refusals rise, from n on
abbrev pub AreRanked : ℕ → List (Option Refusal) → Type 0
AreRanked n [] = Unit {0}
AreRanked n (c ∷ cs) = (m : ℕ) × (n ≤ m) × ((r : Refusal) → c ≡ Some r → rank r ≡ m) × AreRanked (suc m) cs

pub when_ranked : (b : Bool) (e r : Refusal) → when b e ≡ Some r → rank r ≡ rank e
when_ranked true e r h = let same : e ≡ r = cc in ap rank (sym same)
when_ranked false e r h = absurd cc

pub when_true : (b : Bool) (e r : Refusal) → when b e ≡ Some r → (b ≡ true) × (e ≡ r)
when_true true e r h = (refl, cc)
when_true false e r h = absurd cc

pub true_when : (b : Bool) (e : Refusal) → b ≡ true → when b e ≡ Some e
true_when true e h = refl
true_when false e h = absurd cc

-- what stands where its test says so
pub only_where : (Fault : Refusal → Type 0) (b : Bool) (e : Refusal) → (b ≡ true → Fault e) → (r : Refusal) → when b e ≡ Some r → Fault r
only_where Fault b e f r h = let t = when_true b e r h in subst Fault t.1 (f t.0)

pub or_left : (a b : Bool) → a ≡ true → (a || b) ≡ true
or_left true b h = refl
or_left false b h = absurd cc

pub or_right : (a b : Bool) → b ≡ true → (a || b) ≡ true
or_right true b h = refl
or_right false b h = h

pub or_either : (a b : Bool) → (a || b) ≡ true → (a ≡ true) ⊎ (b ≡ true)
or_either true b h = inl refl
or_either false b h = inr h

pub and_both : (a b : Bool) → (a && b) ≡ true → (a ≡ true) × (b ≡ true)
and_both true b h = (refl, h)
and_both false b h = absurd cc

pub not_is : (b : Bool) → not b ≡ true → b ≡ false
not_is true h = absurd cc
not_is false h = refl

ranked_from : (n : ℕ) (cs : List (Option Refusal)) (r : Refusal) → AreRanked n cs → Present cs r → n ≤ rank r
ranked_from n [] r h p = absurd p
ranked_from n (c ∷ cs) r h p = elim p [
  | inl e ↦ omega (arith, h.1, h.2 r e)
  | inr q ↦ omega (arith, h.1, ranked_from (suc h.0) cs r h.3 q)
]

-- what is chosen stands, and nothing comes before it
chosen_stands : (cs : List (Option Refusal)) (r : Refusal) → chosen cs ≡ Err r → Present cs r
chosen_stands [] r h = absurd cc
chosen_stands (None ∷ cs) r h = inr (chosen_stands cs r h)
chosen_stands (Some e ∷ cs) r h = let same : e ≡ r = cc in inl (ap Some same)

chosen_least : (n : ℕ) (cs : List (Option Refusal)) (r q : Refusal) → AreRanked n cs → chosen cs ≡ Err r → Present cs q → rank r ≤ rank q
chosen_least n [] r q h e p = absurd p
chosen_least n (None ∷ cs) r q h e p = elim p [
  | inl f ↦ absurd cc
  | inr k ↦ chosen_least (suc h.0) cs r q h.3 e k
]
chosen_least n (Some d ∷ cs) r q h e p =
    let same : d ≡ r = cc in
    let mine : rank r ≡ h.0 = h.2 r (ap Some same) in
    elim p [
      | inl f ↦ omega (arith, mine, h.2 q f)
      | inr k ↦ omega (arith, mine, ranked_from (suc h.0) cs q h.3 k)
    ]

chosen_none : (cs : List (Option Refusal)) (r : Refusal) → chosen cs ≡ Ok tt → Present cs r → ⊥
chosen_none [] r h p = p
chosen_none (None ∷ cs) r h p = elim p [
  | inl f ↦ absurd cc
  | inr k ↦ chosen_none cs r h k
]
chosen_none (Some e ∷ cs) r h p = absurd cc

present_one : (n : ℕ) (cs : List (Option Refusal)) (r q : Refusal) → AreRanked n cs → Present cs r → Present cs q → rank r ≡ rank q → r ≡ q
present_one n [] r q h a b e = absurd a
present_one n (c ∷ cs) r q h a b e = elim a [
  | inl f ↦ elim b [
    | inl g ↦ some_same (sym f ∙ g)
    | inr k ↦ let never : ⊥ = omega (arith, h.2 r f, ranked_from (suc h.0) cs q h.3 k, e) in absurd never
  ]
  | inr k ↦ elim b [
    | inl g ↦ let never : ⊥ = omega (arith, h.2 q g, ranked_from (suc h.0) cs r h.3 k, e) in absurd never
    | inr i ↦ present_one (suc h.0) cs r q h.3 k i e
  ]
]
  where
    some_same : Some r ≡ Some q → r ≡ q
    some_same g = cc

-- the faults of a place are those of the tests
pub record AreTested (Fault : Refusal → Type 0) (cs : List (Option Refusal)) : Type 0 where
  pub ranked : AreRanked 0 cs
  pub present : (r : Refusal) → Fault r → Present cs r
  pub stand : (r : Refusal) → Present cs r → Fault r

-- an answer to one place: there is no fault, or it is the least
abbrev pub IsJudged : {B : Type 0} → (Refusal → Type 0) → Result B Refusal → Type 0
IsJudged Fault (Ok x) = HasNone Fault
IsJudged Fault (Err r) = IsLeast Fault r

pub tested : {B : Type 0} {Fault : Refusal → Type 0} (cs : List (Option Refusal)) (answer : Result B Refusal) → AreTested Fault cs → forgotten answer ≡ chosen cs → IsJudged Fault answer
tested cs (Ok x) t h = λ r f. chosen_none cs r (sym h) (t.present r f)
tested cs (Err r) t h = record { stands = t.stand r (chosen_stands cs r (sym h)); least = λ q f. chosen_least 0 cs r q t.ranked (sym h) (t.present q f) }

-- a place without a fault before others
pub answer_behind : {A B : Type 0} (Fault : Faults A) (before after : List A) (a : A) (r : Result B Refusal) → HasNone (Fault before a after) → IsAnswer Fault (a ∷ before) after r → IsAnswer Fault before (a ∷ after) r
answer_behind Fault before after a (Ok x) none h = (none, h)
answer_behind Fault before after a (Err e) none h = inr (none, h)

-- an answer to one place, and then one to the others
pub answer_more : {A B C : Type 0} (Fault : Faults A) (before after : List A) (a : A) (r : Result B Refusal) (next : B → Result C Refusal) → IsJudged (Fault before a after) r → ((x : B) → r ≡ Ok x → IsAnswer Fault (a ∷ before) after (next x)) → IsAnswer Fault before (a ∷ after) (r >>= next)
answer_more Fault before after a (Ok x) next here rest = answer_behind Fault before after a (next x) here (rest x refl)
answer_more Fault before after a (Err e) next here rest = inl here

-- the same of what an answer is made into
pub answer_mapped : {A B C : Type 0} (Fault : Faults A) (before all : List A) (r : Result B Refusal) (f : B → C) → IsAnswer Fault before all r → IsAnswer Fault before all (r >>= λ x. Ok (f x))
answer_mapped Fault before all (Ok x) f h = h
answer_mapped Fault before all (Err e) f h = h

-- faults of one place and one rank are one
abbrev pub AreOne : {A : Type 0} → Faults A → Type 0
AreOne {A} Fault = (before after : List A) (a : A) (r q : Refusal) → Fault before a after r → Fault before a after q → rank r ≡ rank q → r ≡ q

pub tested_one : {Fault : Refusal → Type 0} (cs : List (Option Refusal)) (r q : Refusal) → AreTested Fault cs → Fault r → Fault q → rank r ≡ rank q → r ≡ q
tested_one cs r q t f g e = present_one 0 cs r q t.ranked (t.present r f) (t.present q g) e

-- faults of one rank are one, at the places up to the first that has a fault
abbrev pub AreSingle : {A : Type 0} → Faults A → List A → List A → Type 0
AreSingle Fault before [] = Unit {0}
AreSingle Fault before (a ∷ after) = ((r q : Refusal) → Fault before a after r → Fault before a after q → rank r ≡ rank q → r ≡ q) × (HasNone (Fault before a after) → AreSingle Fault (a ∷ before) after)

pub all_single : {A : Type 0} (Fault : Faults A) → AreOne Fault → (before all : List A) → AreSingle Fault before all
all_single Fault one before [] = tt
all_single Fault one before (a ∷ after) = (λ r q f g e. one before after a r q f g e, λ none. all_single Fault one (a ∷ before) after)

-- there is one first fault
first_one : {A : Type 0} (Fault : Faults A) (before all : List A) → AreSingle Fault before all → (r q : Refusal) → IsFirst Fault before all r → IsFirst Fault before all q → r ≡ q
first_one Fault before [] one r q f g = absurd f
first_one Fault before (a ∷ after) one r q f g = elim f [
  | inl x ↦ elim g [
    | inl y ↦ one.0 r q x.stands y.stands (omega (arith, x.least q y.stands, y.least r x.stands))
    | inr y ↦ absurd (y.0 r x.stands)
  ]
  | inr x ↦ elim g [
    | inl y ↦ absurd (x.0 q y.stands)
    | inr y ↦ first_one Fault (a ∷ before) after (one.1 x.0) r q x.1 y.1
  ]
]

first_not_none : {A : Type 0} (Fault : Faults A) (before all : List A) (r : Refusal) → IsFirst Fault before all r → AreFaultless Fault before all → ⊥
first_not_none Fault before [] r f n = f
first_not_none Fault before (a ∷ after) r f n = elim f [
  | inl x ↦ n.0 r x.stands
  | inr x ↦ first_not_none Fault (a ∷ before) after r x.1 n.1
]

-- the first fault is the answer's refusal
pub first_refused : {A B : Type 0} (Fault : Faults A) (before all : List A) (answer : Result B Refusal) (r : Refusal) → AreSingle Fault before all → IsAnswer Fault before all answer → IsFirst Fault before all r → answer ≡ Err r
first_refused Fault before all (Ok x) r one h f = absurd (first_not_none Fault before all r f h)
first_refused Fault before all (Err q) r one h f = ap Err (first_one Fault before all one q r h f)

-- and where there is none there is an answer
pub none_answered : {A B : Type 0} (Fault : Faults A) (before all : List A) (answer : Result B Refusal) → IsAnswer Fault before all answer → AreFaultless Fault before all → (x : B) × (answer ≡ Ok x)
none_answered Fault before all (Ok x) h n = (x, refl)
none_answered Fault before all (Err q) h n = absurd (first_not_none Fault before all q h n)
