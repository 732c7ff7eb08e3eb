-- Where a name stands among some, step by step.
use Rattle.std.proofs.Common.{◌≡◌, ℕ, suc, ◌+◌, Bool, true, false, nat_lt, List, [], ◌∷◌, length, Option, Some, None, refl, ap, ◌∙◌, arith, if◌then◌else◌}
use Rattle.std.specs.Prelude.{not, position}
use Rattle.std.specs.List.{prefix_len}
use Rattle.std.proofs.lemmas.Bool.{ltb-true, ltb-false, lt-ltb, le-ltb}
use Rattle.adj_tree.specs.Code.{name_eq}
use Rattle.adj_common.specs.Tables.{beside}
use Rattle.adj_common.specs.Texts.{at_place}

-- one place further
abbrev pub next : Option ℕ → Option ℕ
next None = None
next (Some n) = Some (suc n)

lt_step : (n m : ℕ) → nat_lt (suc n) (suc m) ≡ nat_lt n m
lt_step n m = go (nat_lt n m) refl
  where
    go : (b : Bool) → nat_lt n m ≡ b → nat_lt (suc n) (suc m) ≡ b
    go true e = let l = ltb-true n m e in lt-ltb (suc n) (suc m) (omega (arith, l))
    go false e = let l = ltb-false n m e in le-ltb (suc n) (suc m) (omega (arith, l))

pub position_step : (x y : List ℕ) (ys : List (List ℕ)) → position (name_eq x) (y ∷ ys) ≡ (if name_eq x y then Some 0 else next (position (name_eq x) ys))
position_step x y ys = go (name_eq x y)
  where
    n : ℕ
    n = prefix_len (λ z. not (name_eq x z)) ys

    one_more : 1 + n ≡ suc n
    one_more = omega arith

    later : (b : Bool) → (if b then Some (suc n) else None) ≡ next (if b then Some n else None)
    later true = refl
    later false = refl

    go : (b : Bool) → (if nat_lt (if not b then 1 + n else 0) (suc (length ys)) then Some (if not b then 1 + n else 0) else None) ≡ (if b then Some 0 else next (if nat_lt n (length ys) then Some n else None))
    go true = ap (λ c. if c then Some 0 else None) (lt-ltb 0 (suc (length ys)) (omega arith))
    go false = ap (λ k. if nat_lt k (suc (length ys)) then Some k else None) one_more ∙ ap (λ c. if c then Some (suc n) else None) (lt_step n (length ys)) ∙ later (nat_lt n (length ys))

at_next : {A : Type 0} (a : A) (l : List A) (o : Option ℕ) → at_place (a ∷ l) (next o) ≡ at_place l o
at_next a l None = refl
at_next a l (Some n) = refl

nothing_at : {A : Type 0} (o : Option ℕ) → at_place {A = A} [] o ≡ None
nothing_at None = refl
nothing_at (Some n) = refl

-- what stands beside a name is what stands at its place
pub beside_at : {A : Type 0} (ns : List (List ℕ)) (l : List A) (x : List ℕ) → at_place l (position (name_eq x) ns) ≡ beside ns l x
beside_at [] l x = refl
beside_at (n ∷ ns) [] x = nothing_at (position (name_eq x) (n ∷ ns))
beside_at (n ∷ ns) (a ∷ l) x = ap (at_place (a ∷ l)) (position_step x n ns) ∙ go (name_eq x n) (beside_at ns l x)
  where
    go : (b : Bool) → at_place l (position (name_eq x) ns) ≡ beside ns l x → at_place (a ∷ l) (if b then Some 0 else next (position (name_eq x) ns)) ≡ (if b then Some a else beside ns l x)
    go true h = refl
    go false h = at_next a l (position (name_eq x) ns) ∙ h
