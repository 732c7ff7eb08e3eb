-- How long fresh names are.
use Rattle.std.proofs.Common.{◌≡◌, ◌≤◌, ◌<◌, ◌^◌, ℕ, zero, suc, ◌+◌, ◌/◌, ◌%◌, Bool, true, false, List, [], ◌∷◌, ◌++◌, length, refl, sym, ap, subst, ◌∙◌, arith, inl, inr, if◌then◌else◌, pow-suc, length-append, codes}
use Rattle.std.specs.Prelude.{◌||◌}
use Rattle.std.proofs.lemmas.Bool.{cases_lt}
use Rattle.adj_tree.specs.Code.{name_eq}
use Rattle.adj_tree.proofs.Names.{name_same}
use Rattle.def_meaning.specs.Apart.{has_name}
use Rattle.def_names.specs.Fresh.{digits, candidate, first_free, fresh}
use Rattle.def_names.proofs.Fresh.{digits-one, digits-last, candidates_apart}
use Rattle.law_limits.specs.Lengths.{FreshIsShort}

-- a number below a power of ten has so many digits at most
pub digits_short : (k n : ℕ) → n < 10 ^ suc k → length (digits n) ≤ suc k
digits_short zero n h = let one : length (digits n) ≡ 1 = ap length (digits-one n h) in omega arith
digits_short (suc k) n h =
    elim (cases_lt n 10) [
      | inl lt ↦ let one : length (digits n) ≡ 1 = ap length (digits-one n lt) in omega arith
      | inr le ↦
          let power = pow-suc 10 (suc k) in
          let front = digits_short k (n / 10) (omega arith) in
          let whole : length (digits n) ≡ length (digits (n / 10)) + 1 = ap length (digits-last n le) ∙ length-append (digits (n / 10)) ((48 + n % 10) ∷ []) in
          omega arith
    ]

candidate_short : (k : ℕ) (b : List ℕ) (j : ℕ) → j < 10 ^ suc k → length (candidate b j) ≤ length b + 1 + suc k
candidate_short k b zero h = omega arith
candidate_short k b (suc j) h =
    let front = length-append b (codes "_" ++ digits (suc j)) in
    let back = digits_short k (suc j) h in
    omega arith

-- ---- a list without a name

abbrev pub without : List ℕ → List (List ℕ) → List (List ℕ)
without x [] = []
without x (y ∷ ys) = if name_eq x y then without x ys else y ∷ without x ys

without-le : (x : List ℕ) (ys : List (List ℕ)) → length (without x ys) ≤ length ys
without-le x [] = omega arith
without-le x (y ∷ ys) =
    let rest = without-le x ys in
    elim (name_eq x y) as (λ b. length (if b then without x ys else y ∷ without x ys) ≤ length (y ∷ ys)) [ true ↦ omega arith | false ↦ omega arith ]

pub without-shorter : (x : List ℕ) (ys : List (List ℕ)) → has_name x ys ≡ true → length (without x ys) < length ys
without-shorter x [] h = absurd cc
without-shorter x (y ∷ ys) h =
    let rest = without-le x ys in
    elim (name_eq x y) as (λ b. (b || has_name x ys) ≡ true → length (if b then without x ys else y ∷ without x ys) < length (y ∷ ys)) [
      | true ↦ λ g. omega arith
      | false ↦ λ g. let p = without-shorter x ys g in omega arith
    ] h

pub not_so : (b : Bool) → (b ≡ true → ⊥) → b ≡ false
not_so true h = absurd (h refl)
not_so false h = refl

pub without-has : (x z : List ℕ) (ys : List (List ℕ)) → name_eq z x ≡ false → has_name z (without x ys) ≡ has_name z ys
without-has x z [] n = refl
without-has x z (y ∷ ys) n =
    elim (name_eq x y) as (λ b. name_eq x y ≡ b → has_name z (if b then without x ys else y ∷ without x ys) ≡ (name_eq z y || has_name z ys)) [
      | true ↦ λ e. let p : name_eq z y ≡ false = subst (λ w. name_eq z w ≡ false) (name_same x y e) n in without-has x z ys n ∙ ap (λ b. b || has_name z ys) (sym p)
      | false ↦ λ e. ap (λ b. name_eq z y || b) (without-has x z ys n)
    ] refl

-- ---- which candidate is free

-- the candidate that is taken, whose number is at most that of the taken candidates
record IsCandidate (i : ℕ) (b : List ℕ) (left : List (List ℕ)) (x : List ℕ) : Type 0 where
  number : ℕ
  low : number ≤ i + length left
  is : x ≡ candidate b number

first_found : (tries i : ℕ) (b : List ℕ) (left taken : List (List ℕ)) → ((j : ℕ) → i ≤ j → has_name (candidate b j) taken ≡ true → has_name (candidate b j) left ≡ true) → IsCandidate i b left (first_free tries i b taken)
first_found zero i b left taken same = record { number = i; low = omega arith; is = refl }
first_found (suc tries) i b left taken same =
    elim (has_name (candidate b i) taken) as (λ t. has_name (candidate b i) taken ≡ t → IsCandidate i b left (if t then first_free tries (suc i) b taken else candidate b i)) [
      | true ↦ λ e.
          let here : i ≤ i = omega arith in
          let shorter = without-shorter (candidate b i) left (same i here e) in
          let later = first_found tries (suc i) b (without (candidate b i) left) taken (λ j lt h.
          let apart : name_eq (candidate b j) (candidate b i) ≡ false = not_so _ (λ p. candidates_apart b i j lt (sym (name_same (candidate b j) (candidate b i) p))) in
          let le : i ≤ j = omega arith in
          without-has (candidate b i) (candidate b j) left apart ∙ same j le h) in
          let bound = later.low in
          record { number = later.number; low = omega arith; is = later.is }
      | false ↦ λ e. record { number = i; low = omega arith; is = refl }
    ] refl

pub fresh_short : FreshIsShort
fresh_short k b left taken same few =
    let found = first_found (length taken) 0 b left taken (λ j le. same j) in
    let low = found.low in
    let short = candidate_short k b found.number (omega arith) in
    let e = ap length found.is in
    omega arith

-- a fresh name is one of the candidates
pub fresh_candidate : (b : List ℕ) (taken : List (List ℕ)) → (j : ℕ) × (fresh b taken ≡ candidate b j)
fresh_candidate b taken = let found = first_found (length taken) 0 b taken taken (λ j le h. h) in (found.number, found.is)
