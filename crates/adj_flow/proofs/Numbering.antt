-- Each statement bears the number of its place.
use Rattle.std.proofs.Common.{◌≡◌, ℕ, suc, ◌+◌, ◌++◌, List, [], ◌∷◌, ap, ◌∙◌, arith, length, map, length-append}
use Rattle.std.proofs.lemmas.List.{length-map, append_assoc}
use Rattle.adj_tree.specs.Code.{Test, Act, assign, choose, loop, during, call, runtime, Code, stop, step}
use Rattle.def_names.specs.Numbers.{next, behind}
use Rattle.def_names.specs.Numbering.{point_before, point_after}
use Rattle.def_flow.specs.Standing.{Place, part_of, body_of, Standing, held_in, standing}
use Rattle.def_flow.specs.Ways.{Deed, passing, Way, way, act_ways, ways}
use Rattle.adj_flow.specs.View.{statement_at}

mutual
  pub next_by_length : (i : ℕ) (a : Act) → next i a ≡ suc i + length (held_in i a)
  next_by_length i (assign x subs e) = omega arith
  next_by_length i (choose c a b) =
      let p : behind (suc i) a ≡ suc i + length (standing (part_of i) (suc i) a) = behind_by_length (part_of i) (suc i) a in
      let q : behind (behind (suc i) a) b ≡ behind (suc i) a + length (standing (part_of i) (behind (suc i) a) b) = behind_by_length (part_of i) (behind (suc i) a) b in
      omega (arith, length-append (standing (part_of i) (suc i) a) (standing (part_of i) (behind (suc i) a) b))
  next_by_length i (loop x first last by body m) = behind_by_length (body_of i x m) (suc i) body
  next_by_length i (during c body) = behind_by_length (part_of i) (suc i) body
  next_by_length i (call name args) = omega arith
  next_by_length i (runtime r) = omega arith

  pub behind_by_length : (at : Place) (i : ℕ) (c : Code) → behind i c ≡ i + length (standing at i c)
  behind_by_length at i stop = omega arith
  behind_by_length at i (step line a rest) =
      let p : next i a ≡ suc i + length (held_in i a) = next_by_length i a in
      let q : behind (next i a) rest ≡ next i a + length (standing at (next i a) rest) = behind_by_length at (next i a) rest in
      omega (arith, length-append (held_in i a) (standing at (next i a) rest))

-- a statement is added to a list, and the rest of the code behind it
pub added_step : {X : Type 0} (view : X → Standing) (old new : List X) (at : Place) (line : ℕ) (a : Act) (rest : Code) → map view new ≡ map view old ++ statement_at (length old) at a →
    map view new ++ standing at (length new) rest ≡ map view old ++ standing at (length old) (step line a rest)
added_step view old new at line a rest e =
    let n : length new ≡ next (length old) a =
    let l : length (map view new) ≡ length (map view old ++ statement_at (length old) at a) = ap length e in
    omega (arith, length-map new view, length-map old view, length-append (map view old) (statement_at (length old) at a), next_by_length (length old) a) in
    (λ i. e i ++ standing at (n i) rest) ∙ append_assoc (map view old) (statement_at (length old) at a) (standing at (next (length old) a) rest)

-- the two parts of an IF
pub added_branch : {X : Type 0} (view : X → Standing) (old one two three : List X) (at : Place) (q : Test) (a b : Code) →
    map view one ≡ map view old ++ record { number = length old; place = at; act = choose q a b } ∷ [] →
    map view two ≡ map view one ++ standing (part_of (length old)) (length one) a → map view three ≡ map view two ++ standing (part_of (length old)) (length two) b →
    map view three ≡ map view old ++ statement_at (length old) at (choose q a b)
added_branch view old one two three at q a b e f g =
    let n = length old in
    let p = part_of n in
    let l1 : length one ≡ suc n =
    let l : length (map view one) ≡ length (map view old ++ record { number = length old; place = at; act = choose q a b } ∷ []) = ap length e in
    omega (arith, length-map one view, length-map old view, length-append (map view old) (record { number = length old; place = at; act = choose q a b } ∷ [])) in
    let l2 : length two ≡ behind (suc n) a =
    let l : length (map view two) ≡ length (map view one ++ standing p (length one) a) = ap length f in
    omega (arith, length-map two view, length-map one view, length-append (map view one) (standing p (length one) a), behind_by_length p (length one) a, ap (λ z. behind z a) l1) in
    g
    ∙ (λ i. f i ++ standing p (l2 i) b)
    ∙ (λ i. (e i ++ standing p (l1 i) a) ++ standing p (behind (suc n) a) b)
    ∙ append_assoc (map view old ++ record { number = n; place = at; act = choose q a b } ∷ []) (standing p (suc n) a) (standing p (behind (suc n) a) b)
    ∙ append_assoc (map view old) (record { number = n; place = at; act = choose q a b } ∷ []) (standing p (suc n) a ++ standing p (behind (suc n) a) b)

-- ---- how long the list is then

pub added_length : {X : Type 0} (view : X → Standing) (old new : List X) (at : Place) (a : Act) → map view new ≡ map view old ++ statement_at (length old) at a → length new ≡ next (length old) a
added_length view old new at a e =
    let l : length (map view new) ≡ length (map view old ++ statement_at (length old) at a) = ap length e in
    omega (arith, length-map new view, length-map old view, length-append (map view old) (statement_at (length old) at a), next_by_length (length old) a)

pub pushed_length : {X : Type 0} (view : X → Standing) (old one : List X) (s : Standing) → map view one ≡ map view old ++ s ∷ [] → length one ≡ suc (length old)
pushed_length view old one s e =
    let l : length (map view one) ≡ length (map view old ++ s ∷ []) = ap length e in
    omega (arith, length-map one view, length-map old view, length-append (map view old) (s ∷ []))

pub listed_length : {X : Type 0} (view : X → Standing) (old new : List X) (at : Place) (c : Code) → map view new ≡ map view old ++ standing at (length old) c → length new ≡ behind (length old) c
listed_length view old new at c e =
    let l : length (map view new) ≡ length (map view old ++ standing at (length old) c) = ap length e in
    omega (arith, length-map new view, length-map old view, length-append (map view old) (standing at (length old) c), behind_by_length at (length old) c)

-- ---- ways

-- the way to a statement, its own ways, and those of the rest
pub ways_step : (old one two : List Way) (n k p q line : ℕ) (last : Deed) (a : Act) (rest : Code) → one ≡ old ++ way p (point_before n) passing ∷ [] → two ≡ one ++ act_ways n a → k ≡ next n a →
    two ++ ways k (point_after n) q last rest ≡ old ++ ways n p q last (step line a rest)
ways_step old one two n k p q line last a rest e f l =
    (λ i. f i ++ ways (l i) (point_after n) q last rest)
    ∙ (λ i. (e i ++ act_ways n a) ++ ways (next n a) (point_after n) q last rest)
    ∙ append_assoc (old ++ way p (point_before n) passing ∷ []) (act_ways n a) (ways (next n a) (point_after n) q last rest)
    ∙ append_assoc old (way p (point_before n) passing ∷ []) (act_ways n a ++ ways (next n a) (point_after n) q last rest)

-- the ways through the two parts of an IF
pub ways_branch : (old one two : List Way) (n j k : ℕ) (q : Test) (a b : Code) → j ≡ suc n → k ≡ behind j a →
    one ≡ old ++ ways j (point_before n) (point_after n) passing a → two ≡ one ++ ways k (point_before n) (point_after n) passing b → two ≡ old ++ act_ways n (choose q a b)
ways_branch old one two n j k q a b l m e f =
    let g : k ≡ behind (suc n) a = m ∙ ap (λ z. behind z a) l in
    f ∙ (λ i. e i ++ ways (g i) (point_before n) (point_after n) passing b)
    ∙ (λ i. (old ++ ways (l i) (point_before n) (point_after n) passing a) ++ ways (behind (suc n) a) (point_before n) (point_after n) passing b)
    ∙ append_assoc old (ways (suc n) (point_before n) (point_after n) passing a) (ways (behind (suc n) a) (point_before n) (point_after n) passing b)
