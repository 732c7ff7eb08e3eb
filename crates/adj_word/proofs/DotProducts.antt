-- The dot product is symmetric and linear on both sides.
use Rattle.std.proofs.Common.{◌≡◌, ℕ, zero, suc, ◌<◌, List, [], ◌∷◌, ◌++◌, length, get_or, set, replicate, arith, refl, ap, ◌∙◌, sym, inl, inr, ◌⊎◌}
use Rattle.std.specs.Prelude.{ℤ, pos, ◌+ℤ◌, ◌*ℤ◌}
use Rattle.std.proofs.lemmas.Int.{ints}
use lib.IntN.{*ℤ_comm}
use Rattle.adj_word.specs.Word.{wrap, IsWord, add, sub, mul}
use Rattle.adj_word.specs.Dot.{sum_of_products, dot, added, scaled}
use Rattle.adj_word.proofs.Integers.{zero-mul_ℤ, sub-mul_ℤ, mul-sub_ℤ}
use Rattle.adj_word.proofs.Residues.{residues, held, held_word, add-zero_word, word-wrap, wrap-wrap, wrap-zero, wrap-mul_left, add-zero, zero-add, add-add, add_assoc, mul_comm, mul_assoc, mul-add, add-mul, mul-zero, zero-mul}

-- ---- one pair more

pub dot-nil : (ys : List ℤ) → dot [] ys ≡ pos 0
dot-nil ys = wrap-zero

pub dot-nil_right : (xs : List ℤ) → dot xs [] ≡ pos 0
dot-nil_right [] = wrap-zero
dot-nil_right (x ∷ xs) = wrap-zero

pub dot-cons : (x y : ℤ) (xs ys : List ℤ) → dot (x ∷ xs) (y ∷ ys) ≡ add (mul x y) (dot xs ys)
dot-cons x y xs ys = simp residues refl

-- a dot product is a word
pub word-dot : (xs ys : List ℤ) → IsWord (dot xs ys)
word-dot xs ys = word-wrap (sum_of_products xs ys)

pub wrap-dot : (xs ys : List ℤ) → wrap (dot xs ys) ≡ dot xs ys
wrap-dot xs ys = wrap-wrap (sum_of_products xs ys)

-- ---- a loop over both lists: what it has summed, and the dot product of the rest, make the whole

-- after the next pair, whose product it adds
pub dot_turn : (sum product next x y whole : ℤ) (xs ys xs' ys' : List ℤ) → IsWord x → IsWord y → product ≡ mul (held x) (held y) → next ≡ add sum (held product) → xs ≡ x ∷ xs' → ys ≡ y ∷ ys' → add sum (dot xs ys) ≡ whole → add (held next) (dot xs' ys') ≡ whole
dot_turn sum product next x y whole xs ys xs' ys' fx fy p n e f h =
    let this : held product ≡ mul x y = ap held (p ∙ (λ i. mul (held_word x fx i) (held_word y fy i))) ∙ held_word (mul x y) (word-wrap (x *ℤ y)) in
    let sum' : held next ≡ add sum (mul x y) = ap held (n ∙ ap (add sum) this) ∙ held_word _ (word-wrap (sum +ℤ mul x y)) in
    ap (λ z. add z (dot xs' ys')) sum' ∙ add_assoc sum (mul x y) (dot xs' ys') ∙ ap (add sum) (sym (dot-cons x y xs' ys')) ∙ ap (add sum) (λ i. dot (sym e i) (sym f i)) ∙ h

-- at the end of either list
pub dot_end : (sum whole : ℤ) (xs ys : List ℤ) → IsWord sum → (length xs ≡ 0) ⊎ (length ys ≡ 0) → add sum (dot xs ys) ≡ whole → sum ≡ whole
dot_end sum whole [] ys f o h = sym (ap (add sum) (dot-nil ys) ∙ add-zero_word sum f) ∙ h
dot_end sum whole (x ∷ xs) [] f o h = sym (ap (add sum) (dot-nil_right (x ∷ xs)) ∙ add-zero_word sum f) ∙ h
dot_end sum whole (x ∷ xs) (y ∷ ys) f o h = absurd (elim o [ inl e ↦ let none : suc (length xs) ≡ 0 = e in omega arith | inr e ↦ let none : suc (length ys) ≡ 0 = e in omega arith ])

-- ---- symmetry

pub dot_comm : (xs ys : List ℤ) → dot xs ys ≡ dot ys xs
dot_comm xs ys = ap wrap (same xs ys)
  where
    same : (xs ys : List ℤ) → sum_of_products xs ys ≡ sum_of_products ys xs
    same [] [] = refl
    same [] (y ∷ ys) = refl
    same (x ∷ xs) [] = refl
    same (x ∷ xs) (y ∷ ys) = λ i. *ℤ_comm x y i +ℤ same xs ys i

-- ---- linearity

-- sums
pub dot-added : (xs zs ys : List ℤ) → dot (added xs zs) ys ≡ add (dot xs ys) (dot zs ys)
dot-added [] zs ys = sym (ap (λ z. add z (dot zs ys)) (dot-nil ys) ∙ zero-add (dot zs ys) ∙ wrap-dot zs ys)
dot-added (x ∷ xs) [] ys = sym (ap (add (dot (x ∷ xs) ys)) (dot-nil ys) ∙ add-zero (dot (x ∷ xs) ys) ∙ wrap-dot (x ∷ xs) ys)
dot-added (x ∷ xs) (z ∷ zs) [] = wrap-zero ∙ sym (ap (λ a. add a a) wrap-zero ∙ wrap-zero)
dot-added (x ∷ xs) (z ∷ zs) (y ∷ ys) =
    dot-cons (add x z) y (added xs zs) ys
    ∙ (λ i. add (add-mul x z y i) (dot-added xs zs ys i))
    ∙ add-add (mul x y) (mul z y) (dot xs ys) (dot zs ys)
    ∙ (λ i. add (sym (dot-cons x y xs ys) i) (sym (dot-cons z y zs ys) i))

pub dot-added_right : (xs ys zs : List ℤ) → dot xs (added ys zs) ≡ add (dot xs ys) (dot xs zs)
dot-added_right xs ys zs = dot_comm xs (added ys zs) ∙ dot-added ys zs xs ∙ (λ i. add (dot_comm ys xs i) (dot_comm zs xs i))

-- multiples
pub dot-scaled : (c : ℤ) (xs ys : List ℤ) → dot (scaled c xs) ys ≡ mul c (dot xs ys)
dot-scaled c [] ys = dot-nil ys ∙ sym (ap (mul c) (dot-nil ys) ∙ mul-zero c)
dot-scaled c (x ∷ xs) [] = wrap-zero ∙ sym (ap (mul c) wrap-zero ∙ mul-zero c)
dot-scaled c (x ∷ xs) (y ∷ ys) =
    dot-cons (mul c x) y (scaled c xs) ys
    ∙ (λ i. add (mul_assoc c x y i) (dot-scaled c xs ys i))
    ∙ sym (mul-add c (mul x y) (dot xs ys))
    ∙ ap (mul c) (sym (dot-cons x y xs ys))

pub dot-scaled_right : (c : ℤ) (xs ys : List ℤ) → dot xs (scaled c ys) ≡ mul c (dot xs ys)
dot-scaled_right c xs ys = dot_comm xs (scaled c ys) ∙ dot-scaled c ys xs ∙ ap (mul c) (dot_comm ys xs)

-- ---- zeros

-- a list whose members are 0
pub dot-zero : (xs ys : List ℤ) → ((k : ℕ) → get_or xs k (pos 0) ≡ pos 0) → dot xs ys ≡ pos 0
dot-zero [] ys h = dot-nil ys
dot-zero (x ∷ xs) [] h = wrap-zero
dot-zero (x ∷ xs) (y ∷ ys) h =
    dot-cons x y xs ys ∙ (λ i. add (mul (h 0 i) y) (dot-zero xs ys (λ k. h (suc k)) i)) ∙ ap (λ z. add z (pos 0)) (zero-mul y) ∙ wrap-zero

pub dot-zero_right : (xs ys : List ℤ) → ((k : ℕ) → get_or ys k (pos 0) ≡ pos 0) → dot xs ys ≡ pos 0
dot-zero_right xs ys h = dot_comm xs ys ∙ dot-zero ys xs h

pub dot-replicate : (n : ℕ) (ys : List ℤ) → dot (replicate n (pos 0)) ys ≡ pos 0
dot-replicate zero ys = dot-nil ys
dot-replicate (suc n) [] = wrap-zero
dot-replicate (suc n) (y ∷ ys) = dot-cons (pos 0) y (replicate n (pos 0)) ys ∙ (λ i. add (zero-mul y i) (dot-replicate n ys i)) ∙ wrap-zero

-- ---- lists with the same residues

pub dot-same : (xs zs ys : List ℤ) → length xs ≡ length zs → ((k : ℕ) → wrap (get_or xs k (pos 0)) ≡ wrap (get_or zs k (pos 0))) → dot xs ys ≡ dot zs ys
dot-same [] [] ys l h = refl
dot-same [] (z ∷ zs) ys l h = cc
dot-same (x ∷ xs) [] ys l h = cc
dot-same (x ∷ xs) (z ∷ zs) [] l h = refl
dot-same (x ∷ xs) (z ∷ zs) (y ∷ ys) l h =
    let first : mul x y ≡ mul z y = sym (wrap-mul_left x y) ∙ ap (λ w. mul w y) (h 0) ∙ wrap-mul_left z y in
    let rest : length xs ≡ length zs = omega (arith, l) in
    dot-cons x y xs ys ∙ (λ i. add (first i) (dot-same xs zs ys rest (λ k. h (suc k)) i)) ∙ sym (dot-cons z y zs ys)

-- ---- lists one after the other

pub dot-append : (xs ys us vs : List ℤ) → length xs ≡ length ys → dot (xs ++ us) (ys ++ vs) ≡ add (dot xs ys) (dot us vs)
dot-append [] [] us vs h = sym (ap (λ z. add z (dot us vs)) wrap-zero ∙ zero-add (dot us vs) ∙ wrap-dot us vs)
dot-append [] (y ∷ ys) us vs h = cc
dot-append (x ∷ xs) [] us vs h = cc
dot-append (x ∷ xs) (y ∷ ys) us vs h =
    let rest : length xs ≡ length ys = omega (arith, h) in
    dot-cons x y (xs ++ us) (ys ++ vs)
    ∙ ap (add (mul x y)) (dot-append xs ys us vs rest)
    ∙ sym (add_assoc (mul x y) (dot xs ys) (dot us vs))
    ∙ ap (λ z. add z (dot us vs)) (sym (dot-cons x y xs ys))

-- ---- one member changed

-- where the other list is empty, nothing is added
nothing : (xs zs : List ℤ) (w : ℤ) → dot xs [] ≡ add (dot zs []) (mul w (pos 0))
nothing xs zs w = dot-nil_right xs ∙ sym ((λ i. add (dot-nil_right zs i) (mul-zero w i)) ∙ wrap-zero)

-- the sum changes by the change times the member at the same place
pub dot-set : (xs ys : List ℤ) (i : ℕ) (v : ℤ) → i < length xs → dot (set xs i v) ys ≡ add (dot xs ys) (mul (sub v (get_or xs i (pos 0))) (get_or ys i (pos 0)))
dot-set [] ys i v h = absurd (let x : i < 0 = h in omega arith)
dot-set (x ∷ xs) [] zero v h = nothing (v ∷ xs) (x ∷ xs) (sub v x)
dot-set (x ∷ xs) [] (suc i) v h = nothing (x ∷ set xs i v) (x ∷ xs) (sub v (get_or xs i (pos 0)))
dot-set (x ∷ xs) (y ∷ ys) zero v h =
    simp residues (ap wrap (rw sub-mul_ℤ (omega (arith, ints))))
dot-set (x ∷ xs) (y ∷ ys) (suc i) v h =
    dot-cons x y (set xs i v) ys
    ∙ ap (add (mul x y)) (dot-set xs ys i v (omega arith))
    ∙ sym (add_assoc (mul x y) (dot xs ys) (mul (sub v (get_or xs i (pos 0))) (get_or ys i (pos 0))))
    ∙ ap (λ z. add z (mul (sub v (get_or xs i (pos 0))) (get_or ys i (pos 0)))) (sym (dot-cons x y xs ys))

pub dot-set_right : (xs ys : List ℤ) (i : ℕ) (v : ℤ) → i < length ys → dot xs (set ys i v) ≡ add (dot xs ys) (mul (get_or xs i (pos 0)) (sub v (get_or ys i (pos 0))))
dot-set_right xs ys i v h =
    dot_comm xs (set ys i v) ∙ dot-set ys xs i v h ∙ (λ j. add (dot_comm ys xs j) (mul_comm (sub v (get_or ys i (pos 0))) (get_or xs i (pos 0)) j))

-- w more at a place
pub dot-set_more : (xs ys : List ℤ) (i : ℕ) (w : ℤ) → i < length xs → dot (set xs i (add (get_or xs i (pos 0)) w)) ys ≡ add (dot xs ys) (mul w (get_or ys i (pos 0)))
dot-set_more xs ys i w h =
    let x = get_or xs i (pos 0) in
    dot-set xs ys i (add x w) h ∙ ap (add (dot xs ys)) (change x w (get_or ys i (pos 0)))
  where
    change : (x w y : ℤ) → mul (sub (add x w) x) y ≡ mul w y
    change x w y = ap (λ z. mul z y) (let e : sub (add x w) x ≡ wrap w = simp residues (ap wrap (omega (arith, ints))) in e) ∙ wrap-mul_left w y

-- the product at a place, apart from the others
pub dot-set_apart : (xs ys : List ℤ) (i : ℕ) (w : ℤ) → i < length xs → i < length ys → add (dot (set xs i (pos 0)) ys) (mul (get_or xs i (pos 0)) w) ≡ dot xs (set ys i w)
dot-set_apart xs ys i w h g =
    let x = get_or xs i (pos 0) in
    let y = get_or ys i (pos 0) in
    ap (λ z. add z (mul x w)) (dot-set xs ys i (pos 0) h) ∙ regroup (dot xs ys) x y w ∙ sym (dot-set_right xs ys i w g)
  where
    regroup : (d x y w : ℤ) → add (add d (mul (sub (pos 0) x) y)) (mul x w) ≡ add d (mul x (sub w y))
    regroup d x y w = simp residues (ap wrap (rw (sub-mul_ℤ, mul-sub_ℤ) (omega (arith, ints, zero-mul_ℤ y))))
