-- A fresh name isn't taken, and which one it is.
use Rattle.std.proofs.Common.{◌≡◌, ℕ, zero, suc, ◌+◌, ◌-◌, ◌/◌, ◌%◌, ◌^◌, ◌<◌, ◌≤◌, Bool, true, false, List, [], ◌∷◌, ◌++◌, map, length, refl, sym, ap, ◌∙◌, subst, arith, if◌then◌else◌}
use Rattle.std.specs.Prelude.{◌||◌}
use Rattle.std.specs.Fmt.{decimal}
use Rattle.std.specs.Int.Digits.{digits_of, number_from_digits, AllBelowBase}
use Rattle.std.specs.List.{list_all}
use Rattle.std.proofs.lemmas.Fmt.{decimal_by_steps_wide}
use Rattle.std.proofs.lemmas.Int.Digits.{digits_of_step, number_digits_of, all_below_base_digits_of}
use Rattle.std.proofs.lemmas.List.{map_push}
use Rattle.adj_tree.specs.Code.{name_eq}
use Rattle.def_meaning.specs.Apart.{has_name}
use Rattle.def_names.specs.Fresh.{digits, candidate, first_free, fresh}
use Rattle.adj_tree.proofs.Names.{name_same}
use Rattle.def_names.proofs.Lists.{not_true}

-- ---- digits

-- the characters of some digits
abbrev written : List ℕ → List ℕ
written = map (λ d. 48 + d)

digits-some : (n : ℕ) → 0 < n → digits n ≡ written (digits_of 10 n)
digits-some zero h = absurd (omega arith)
digits-some (suc n) h = refl

-- a number below 10 has one digit
pub digits-one : (n : ℕ) → n < 10 → digits n ≡ (48 + n) ∷ []
digits-one zero h = refl
digits-one (suc n) h =
    let front : suc n / 10 ≡ 0 = omega arith in
    let last : suc n % 10 ≡ suc n = omega arith in
    ap written (digits_of_step 10 (suc n) (omega arith) (omega arith) ∙ (λ i. digits_of 10 (front i) ++ (last i ∷ [])))

-- a greater one has those of its tenth, and a last one
pub digits-last : (n : ℕ) → 10 ≤ n → digits n ≡ digits (n / 10) ++ ((48 + n % 10) ∷ [])
digits-last n h =
    digits-some n (omega arith)
    ∙ ap written (digits_of_step 10 n (omega arith) (omega arith))
    ∙ map_push (λ d. 48 + d) (digits_of 10 (n / 10)) (n % 10)
    ∙ ap (λ ds. ds ++ ((48 + n % 10) ∷ [])) (sym (digits-some (n / 10) (omega arith)))

-- the number that digits write
abbrev read : List ℕ → ℕ
read ds = number_from_digits 10 (map (λ c. c - 48) ds)

written-read : (ds : List ℕ) → map (λ c. c - 48) (written ds) ≡ ds
written-read [] = refl
written-read (d ∷ ds) = let p : 48 + d - 48 ≡ d = omega arith in λ i. p i ∷ written-read ds i

read-digits : (n : ℕ) → read (digits n) ≡ n
read-digits zero = refl
read-digits (suc n) = ap (number_from_digits 10) (written-read (digits_of 10 (suc n))) ∙ number_digits_of 10 (suc n) (omega arith)

-- digits say of what number they are
pub digits_same : (m n : ℕ) → digits m ≡ digits n → m ≡ n
digits_same m n h = sym (read-digits m) ∙ ap read h ∙ read-digits n

-- what is so of ten characters is so of all digits
pub digits_pass : (test : ℕ → Bool) → ((d : ℕ) → d < 10 → test (48 + d) ≡ true) → (n : ℕ) → list_all test (digits n) ≡ true
digits_pass test h zero = rw (h 0 (omega arith)) refl
digits_pass test h (suc n) = go (digits_of 10 (suc n)) (all_below_base_digits_of 10 (suc n) (omega arith))
  where
    go : (ds : List ℕ) → AllBelowBase 10 ds → list_all test (written ds) ≡ true
    go [] e = refl
    go (d ∷ ds) e = rw (h d e.0) (go ds e.1)

-- they are what std writes, where that writes all digits
pub digits-decimal : (n : ℕ) → n < 10 ^ 64 → digits n ≡ decimal n
digits-decimal = decimal_by_steps_wide (λ m ds. digits m ≡ ds) digits-one (λ m ds le h. digits-last m le ∙ ap (λ x. x ++ ((48 + m % 10) ∷ [])) h)

-- ---- candidates are apart

-- what follows the same front is the same
behind_same : (b x y : List ℕ) → b ++ x ≡ b ++ y → x ≡ y
behind_same [] x y h = h
behind_same (a ∷ b) x y h = behind_same b x y (cc)

-- nothing but the front itself is as long as it
front_longer : (b : List ℕ) (d : ℕ) (x : List ℕ) → b ≡ b ++ (d ∷ x) → ⊥
front_longer [] d x h = cc
front_longer (a ∷ b) d x h = front_longer b d x (cc)

-- candidates of two numbers are two names
pub candidates_apart : (b : List ℕ) (i j : ℕ) → i < j → candidate b i ≡ candidate b j → ⊥
candidates_apart b i zero lt e = absurd (omega arith)
candidates_apart b zero (suc j) lt e = front_longer b 95 (digits (suc j)) e
candidates_apart b (suc i) (suc j) lt e =
    let p = behind_same b (95 ∷ digits (suc i)) (95 ∷ digits (suc j)) e in
    let q : digits (suc i) ≡ digits (suc j) = cc in
    let r = digits_same (suc i) (suc j) q in
    absurd (omega arith)

-- ---- one of them is free

-- the list without a name
abbrev without : List ℕ → List (List ℕ) → List (List ℕ)
without x [] = []
without x (y ∷ ys) = if name_eq x y then without x ys else y ∷ without x ys

without-le : (x : List ℕ) (ys : List (List ℕ)) → length (without x ys) ≤ length ys
without-le x [] = omega arith
without-le x (y ∷ ys) = go (name_eq x y) (without-le x ys)
  where
    go : (b : Bool) → length (without x ys) ≤ length ys → length (if b then without x ys else y ∷ without x ys) ≤ suc (length ys)
    go true h = omega arith
    go false h = omega arith

-- it is shorter where it had the name
without-shorter : (x : List ℕ) (ys : List (List ℕ)) → has_name x ys ≡ true → length (without x ys) < length ys
without-shorter x [] h = cc
without-shorter x (y ∷ ys) h = go (name_eq x y) h (without-le x ys) (without-shorter x ys)
  where
    go : (b : Bool) → (b || has_name x ys) ≡ true → length (without x ys) ≤ length ys → (has_name x ys ≡ true → length (without x ys) < length ys) → length (if b then without x ys else y ∷ without x ys) < suc (length ys)
    go true h le ih = omega arith
    go false h le ih = let p = ih h in omega arith

-- and has the other names as before
without-has : (x z : List ℕ) (ys : List (List ℕ)) → name_eq z x ≡ false → has_name z (without x ys) ≡ has_name z ys
without-has x z [] n = refl
without-has x z (y ∷ ys) n = go (name_eq x y) refl (without-has x z ys n)
  where
    go : (b : Bool) → name_eq x y ≡ b → has_name z (without x ys) ≡ has_name z ys → has_name z (if b then without x ys else y ∷ without x ys) ≡ (name_eq z y || has_name z ys)
    go true e ih =
        let p : name_eq z y ≡ false = subst (λ w. name_eq z w ≡ false) (name_same x y e) n in
        ih ∙ sym (ap (λ b. b || has_name z ys) p)
    go false e ih = ap (λ b. name_eq z y || b) ih

-- among more candidates than there are names left one is free
first_free-is_free : (tries i : ℕ) (b : List ℕ) (taken left : List (List ℕ)) → length left ≤ tries → ((j : ℕ) → i ≤ j → has_name (candidate b j) left ≡ has_name (candidate b j) taken) → has_name (first_free tries i b taken) taken ≡ false
first_free-is_free zero i b taken [] le same = sym (same i (omega arith))
first_free-is_free zero i b taken (x ∷ left) le same = absurd (omega arith)
first_free-is_free (suc tries) i b taken left le same = go (λ l h g. first_free-is_free tries (suc i) b taken l h g) (has_name (candidate b i) taken) refl
  where
    go : ((l : List (List ℕ)) → length l ≤ tries → ((j : ℕ) → suc i ≤ j → has_name (candidate b j) l ≡ has_name (candidate b j) taken) → has_name (first_free tries (suc i) b taken) taken ≡ false) → (t : Bool) → has_name (candidate b i) taken ≡ t → has_name (if t then first_free tries (suc i) b taken else candidate b i) taken ≡ false
    go ih false e = e
    go ih true e =
        let shorter = without-shorter (candidate b i) left (same i (omega arith) ∙ e) in
        ih (without (candidate b i) left) (omega arith)
        (λ j lt.
        let apart : name_eq (candidate b j) (candidate b i) ≡ false = not_true _ (λ p. candidates_apart b i j lt (sym (name_same (candidate b j) (candidate b i) p))) in
        without-has (candidate b i) (candidate b j) left apart ∙ same j (omega arith))

-- a fresh name isn't among the taken ones
pub fresh-is_free : (b : List ℕ) (taken : List (List ℕ)) → has_name (fresh b taken) taken ≡ false
fresh-is_free b taken = first_free-is_free (length taken) 0 b taken taken (omega arith) (λ j le. refl)

-- ---- which candidate it is

first_free-candidate : (tries i : ℕ) (b : List ℕ) (taken : List (List ℕ)) → (j : ℕ) × (first_free tries i b taken ≡ candidate b j)
first_free-candidate zero i b taken = (i, refl)
first_free-candidate (suc tries) i b taken = go (first_free-candidate tries (suc i) b taken) (has_name (candidate b i) taken)
  where
    go : ((j : ℕ) × (first_free tries (suc i) b taken ≡ candidate b j)) → (t : Bool) → (j : ℕ) × ((if t then first_free tries (suc i) b taken else candidate b i) ≡ candidate b j)
    go ih true = ih
    go ih false = (i, refl)

-- a fresh name is b, or b with a number behind it
pub fresh-candidate : (b : List ℕ) (taken : List (List ℕ)) → (j : ℕ) × (fresh b taken ≡ candidate b j)
fresh-candidate b taken = first_free-candidate (length taken) 0 b taken

first_free-as_wanted : (tries : ℕ) (b : List ℕ) (taken : List (List ℕ)) → has_name b taken ≡ false → first_free tries 0 b taken ≡ b
first_free-as_wanted zero b taken h = refl
first_free-as_wanted (suc tries) b taken h = rw h refl

-- a name that is free stays as it is
pub fresh-as_wanted : (b : List ℕ) (taken : List (List ℕ)) → has_name b taken ≡ false → fresh b taken ≡ b
fresh-as_wanted b taken h = first_free-as_wanted (length taken) b taken h
