-- What holds a statement is an IF or a loop of its unit.
use Rattle.std.proofs.Common.{◌≡◌, ◌⊎◌, inl, inr, ℕ, suc, Bool, true, false, List, ◌∷◌, ◌++◌, refl, sym, subst}
use Rattle.std.specs.Prelude.{Contains}
use Rattle.std.proofs.lemmas.List.Elements.{Contains-append_left, Contains-append_right, Contains-append_cases}
use Rattle.adj_tree.specs.Code.{Mark, unmarked, with_count, count_from, Act, assign, choose, loop, during, call, runtime, Code, stop, step}
use Rattle.def_names.specs.Numbers.{next, behind}
use Rattle.def_flow.specs.Parts.{Part}
use Rattle.def_flow.specs.Standing.{Place, outermost, part_of, body_of, Standing, held_in, standing}
use Rattle.def_flow.specs.Problem.{statements_of}
use Rattle.def_flow.specs.Activity.{Holds}
use Rattle.adj_reach.proofs.Members.{is_first, is_later, is_among, is_none}

-- it holds others
abbrev pub is_block : Act → Bool
is_block (assign x subs e) = false
is_block (choose c a b) = true
is_block (loop x first last by body m) = true
is_block (during c body) = true
is_block (call name args) = false
is_block (runtime r) = false

-- the n-th statement is an IF or a loop among these
abbrev pub Block : ℕ → List Standing → Type 0
Block n ss = (u : Standing) × Contains ss u × (u.number ≡ n) × (is_block u.act ≡ true)

block_left : (n : ℕ) (xs ys : List Standing) → Block n xs → Block n (xs ++ ys)
block_left n xs ys b = (b.0, Contains-append_left xs ys b.0 b.1, b.2, b.3)

block_right : (n : ℕ) (xs ys : List Standing) → Block n ys → Block n (xs ++ ys)
block_right n xs ys b = (b.0, Contains-append_right xs ys b.0 b.1, b.2, b.3)

block_later : (n : ℕ) (x : Standing) (xs : List Standing) → Block n xs → Block n (x ∷ xs)
block_later n x xs b = (b.0, is_later b.0 x xs b.1, b.2, b.3)

mutual
  holder_in_act : (i : ℕ) (a : Act) (t : Standing) (n : ℕ) → Contains (held_in i a) t → Holds n t.place → ((n ≡ i) × (is_block a ≡ true)) ⊎ Block n (held_in i a)
  holder_in_act i (assign x subs e) t n c h = absurd (is_none t c)
  holder_in_act i (choose q a b) t n c h =
      go (Contains-append_cases (standing (part_of i) (suc i) a) (standing (part_of i) (behind (suc i) a) b) t c)
      (λ d. holder_in_list (part_of i) (suc i) a t n d h) (λ d. holder_in_list (part_of i) (behind (suc i) a) b t n d h)
    where
      own : Holds n (part_of i) → (n ≡ i) × (true ≡ true)
      own e = (e, refl)

      first : Holds n (part_of i) ⊎ Block n (standing (part_of i) (suc i) a) → ((n ≡ i) × (true ≡ true)) ⊎ Block n (standing (part_of i) (suc i) a ++ standing (part_of i) (behind (suc i) a) b)
      first (inl o) = inl (own o)
      first (inr d) = inr (block_left n (standing (part_of i) (suc i) a) (standing (part_of i) (behind (suc i) a) b) d)

      second : Holds n (part_of i) ⊎ Block n (standing (part_of i) (behind (suc i) a) b) → ((n ≡ i) × (true ≡ true)) ⊎ Block n (standing (part_of i) (suc i) a ++ standing (part_of i) (behind (suc i) a) b)
      second (inl o) = inl (own o)
      second (inr d) = inr (block_right n (standing (part_of i) (suc i) a) (standing (part_of i) (behind (suc i) a) b) d)

      go : Contains (standing (part_of i) (suc i) a) t ⊎ Contains (standing (part_of i) (behind (suc i) a) b) t →
          (Contains (standing (part_of i) (suc i) a) t → Holds n (part_of i) ⊎ Block n (standing (part_of i) (suc i) a)) → (Contains (standing (part_of i) (behind (suc i) a) b) t → Holds n (part_of i) ⊎ Block n (standing (part_of i) (behind (suc i) a) b)) →
          ((n ≡ i) × (true ≡ true)) ⊎ Block n (standing (part_of i) (suc i) a ++ standing (part_of i) (behind (suc i) a) b)
      go (inl d) f g = first (f d)
      go (inr d) f g = second (g d)
  holder_in_act i (loop x first last by body m) t n c h = go (holder_in_list (body_of i x m) (suc i) body t n c h)
    where
      own : (m : Mark) → Holds n (body_of i x m) → n ≡ i
      own unmarked e = e
      own (with_count k) e = e
      own (count_from y) e = e

      go : Holds n (body_of i x m) ⊎ Block n (standing (body_of i x m) (suc i) body) → ((n ≡ i) × (true ≡ true)) ⊎ Block n (standing (body_of i x m) (suc i) body)
      go (inl o) = inl (own m o, refl)
      go (inr d) = inr d
  holder_in_act i (during q body) t n c h = go (holder_in_list (part_of i) (suc i) body t n c h)
    where
      go : Holds n (part_of i) ⊎ Block n (standing (part_of i) (suc i) body) → ((n ≡ i) × (true ≡ true)) ⊎ Block n (standing (part_of i) (suc i) body)
      go (inl o) = inl (o, refl)
      go (inr d) = inr d
  holder_in_act i (call name args) t n c h = absurd (is_none t c)
  holder_in_act i (runtime r) t n c h = absurd (is_none t c)

  holder_in_list : (at : Place) (i : ℕ) (c : Code) (t : Standing) (n : ℕ) → Contains (standing at i c) t → Holds n t.place → Holds n at ⊎ Block n (standing at i c)
  holder_in_list at i stop t n d h = absurd (is_none t d)
  holder_in_list at i (step line a rest) t n d h =
      go (is_among t (record { number = i; place = at; act = a }) (held_in i a ++ standing at (next i a) rest) d) (λ e. holder_in_act i a t n e h) (λ e. holder_in_list at (next i a) rest t n e h)
    where
      self : Standing
      self = record { number = i; place = at; act = a }

      inner : ((n ≡ i) × (is_block a ≡ true)) ⊎ Block n (held_in i a) → Holds n at ⊎ Block n (self ∷ (held_in i a ++ standing at (next i a) rest))
      inner (inl o) = inr (self, is_first self self (held_in i a ++ standing at (next i a) rest) refl, sym o.0, o.1)
      inner (inr b) = inr (block_later n self (held_in i a ++ standing at (next i a) rest) (block_left n (held_in i a) (standing at (next i a) rest) b))

      outer : Holds n at ⊎ Block n (standing at (next i a) rest) → Holds n at ⊎ Block n (self ∷ (held_in i a ++ standing at (next i a) rest))
      outer (inl o) = inl o
      outer (inr b) = inr (block_later n self (held_in i a ++ standing at (next i a) rest) (block_right n (held_in i a) (standing at (next i a) rest) b))

      deeper : Contains (held_in i a) t ⊎ Contains (standing at (next i a) rest) t → (Contains (held_in i a) t → ((n ≡ i) × (is_block a ≡ true)) ⊎ Block n (held_in i a)) →
          (Contains (standing at (next i a) rest) t → Holds n at ⊎ Block n (standing at (next i a) rest)) → Holds n at ⊎ Block n (self ∷ (held_in i a ++ standing at (next i a) rest))
      deeper (inl e) f g = inner (f e)
      deeper (inr e) f g = outer (g e)

      go : (self ≡ t) ⊎ Contains (held_in i a ++ standing at (next i a) rest) t → (Contains (held_in i a) t → ((n ≡ i) × (is_block a ≡ true)) ⊎ Block n (held_in i a)) →
          (Contains (standing at (next i a) rest) t → Holds n at ⊎ Block n (standing at (next i a) rest)) → Holds n at ⊎ Block n (self ∷ (held_in i a ++ standing at (next i a) rest))
      go (inl e) f g = inl (subst (λ (z : Standing). Holds n z.place) (sym e) h)
      go (inr e) f g = deeper (Contains-append_cases (held_in i a) (standing at (next i a) rest) t e) f g

pub holder_of : (g : Part) (t : Standing) (n : ℕ) → Contains (statements_of g) t → Holds n t.place → Block n (statements_of g)
holder_of g t n c h = go (holder_in_list outermost g.first g.unit.body t n c h)
  where
    go : Holds n outermost ⊎ Block n (statements_of g) → Block n (statements_of g)
    go (inl o) = absurd o
    go (inr b) = b
