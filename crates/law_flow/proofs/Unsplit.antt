-- A call that the lines of directives mark is no step call of a marked loop.
use Rattle.std.proofs.Common.{◌≡◌, ◌⊎◌, inl, inr, ℕ, suc, ◌<◌, ◌≤◌, List, [], ◌∷◌, ◌++◌, Bool, true, false, refl, sym, ap, ◌∙◌, subst, arith}
use Rattle.std.specs.Prelude.{Contains, ◌||◌, ◌==◌}
use Rattle.std.proofs.lemmas.List.Elements.{Contains-append_cases}
use Rattle.adj_tree.specs.Code.{unmarked, with_count, count_from, Act, assign, choose, loop, during, call, runtime, Code, stop, step, Procedure}
use Rattle.adj_tree.proofs.Names.{nat_same}
use Rattle.def_names.specs.Numbers.{next, behind}
use Rattle.def_names.proofs.Variables.{and_true, not_true}
use Rattle.def_flow.specs.Parts.{Part, part, parts_from, parts}
use Rattle.def_names.specs.StatementsIn.{statements_in}
use Rattle.def_flow.specs.Standing.{Place, outermost, part_of, body_of, Standing, held_in, standing}
use Rattle.def_flow.specs.Problem.{statements_of}
use Rattle.def_flow.specs.Uses.{is_turn}
use Rattle.def_flow.specs.Splits.{marked_call, marked_calls, marked_from, split_calls}
use Rattle.adj_reach.proofs.Members.{is_among, is_none}
use Rattle.def_flow.proofs.Points.{next_above, behind_above}

one_of : (b c : Bool) → (b || c) ≡ true → (b ≡ true) ⊎ (c ≡ true)
one_of true c h = inl refl
one_of false c h = inr h

neither : (b c : Bool) → b ≡ false → c ≡ false → (b || c) ≡ false
neither true c e f = absurd cc
neither false c e f = f

-- ---- marked calls stand in their list

mutual
  call_within : (lines : ℕ → Bool) (n i line : ℕ) (a : Act) → marked_call lines n i line a ≡ true → (i ≤ n) × (n < next i a)
  call_within lines n i line (assign x subs e) h = absurd cc
  call_within lines n i line (choose c a b) h =
      go (one_of (marked_calls lines n (suc i) a) (marked_calls lines n (behind (suc i) a) b) h) (calls_within lines n (suc i) a) (calls_within lines n (behind (suc i) a) b)
    where
      go : (marked_calls lines n (suc i) a ≡ true) ⊎ (marked_calls lines n (behind (suc i) a) b ≡ true) → (marked_calls lines n (suc i) a ≡ true → (suc i ≤ n) × (n < behind (suc i) a)) →
          (marked_calls lines n (behind (suc i) a) b ≡ true → (behind (suc i) a ≤ n) × (n < behind (behind (suc i) a) b)) → (i ≤ n) × (n < behind (behind (suc i) a) b)
      go (inl e) f g = let r = f e in let l : behind (suc i) a ≤ behind (behind (suc i) a) b = behind_above (behind (suc i) a) b in (omega (arith, r.0), omega (arith, r.1))
      go (inr e) f g = let r = g e in let l : suc i ≤ behind (suc i) a = behind_above (suc i) a in (omega (arith, r.0), r.1)
  call_within lines n i line (loop x first last by body unmarked) h = let r = calls_within lines n (suc i) body h in (omega (arith, r.0), r.1)
  call_within lines n i line (loop x first last by body (with_count m)) h = absurd cc
  call_within lines n i line (loop x first last by body (count_from y)) h = absurd cc
  call_within lines n i line (during c body) h = let r = calls_within lines n (suc i) body h in (omega (arith, r.0), r.1)
  call_within lines n i line (call name args) h = let e : n ≡ i = nat_same n i (and_true (lines line) (n == i) h).1 in (omega arith, omega arith)
  call_within lines n i line (runtime r) h = absurd cc

  calls_within : (lines : ℕ → Bool) (n i : ℕ) (c : Code) → marked_calls lines n i c ≡ true → (i ≤ n) × (n < behind i c)
  calls_within lines n i stop h = absurd cc
  calls_within lines n i (step line a rest) h = go (one_of (marked_call lines n i line a) (marked_calls lines n (next i a) rest) h) (call_within lines n i line a) (calls_within lines n (next i a) rest)
    where
      go : (marked_call lines n i line a ≡ true) ⊎ (marked_calls lines n (next i a) rest ≡ true) → (marked_call lines n i line a ≡ true → (i ≤ n) × (n < next i a)) →
          (marked_calls lines n (next i a) rest ≡ true → (next i a ≤ n) × (n < behind (next i a) rest)) → (i ≤ n) × (n < behind (next i a) rest)
      go (inl e) f g = let r = f e in let l : next i a ≤ behind (next i a) rest = behind_above (next i a) rest in (r.0, omega (arith, r.1))
      go (inr e) f g = let r = g e in let l : suc i ≤ next i a = next_above i a in (omega (arith, r.0), r.1)

-- ---- so do statements

mutual
  held_bounds : (i : ℕ) (a : Act) (s : Standing) → Contains (held_in i a) s → (suc i ≤ s.number) × (s.number < next i a)
  held_bounds i (assign x subs e) s c = absurd (is_none s c)
  held_bounds i (choose q a b) s c =
      go (Contains-append_cases (standing (part_of i) (suc i) a) (standing (part_of i) (behind (suc i) a) b) s c) (list_bounds (part_of i) (suc i) a s) (list_bounds (part_of i) (behind (suc i) a) b s)
    where
      go : Contains (standing (part_of i) (suc i) a) s ⊎ Contains (standing (part_of i) (behind (suc i) a) b) s → (Contains (standing (part_of i) (suc i) a) s → (suc i ≤ s.number) × (s.number < behind (suc i) a)) →
          (Contains (standing (part_of i) (behind (suc i) a) b) s → (behind (suc i) a ≤ s.number) × (s.number < behind (behind (suc i) a) b)) → (suc i ≤ s.number) × (s.number < behind (behind (suc i) a) b)
      go (inl e) f g = let r = f e in let l : behind (suc i) a ≤ behind (behind (suc i) a) b = behind_above (behind (suc i) a) b in (r.0, omega (arith, r.1))
      go (inr e) f g = let r = g e in let l : suc i ≤ behind (suc i) a = behind_above (suc i) a in (omega (arith, r.0), r.1)
  held_bounds i (loop x first last by body m) s c = list_bounds (body_of i x m) (suc i) body s c
  held_bounds i (during q body) s c = list_bounds (part_of i) (suc i) body s c
  held_bounds i (call name args) s c = absurd (is_none s c)
  held_bounds i (runtime r) s c = absurd (is_none s c)

  list_bounds : (at : Place) (i : ℕ) (l : Code) (s : Standing) → Contains (standing at i l) s → (i ≤ s.number) × (s.number < behind i l)
  list_bounds at i stop s c = absurd (is_none s c)
  list_bounds at i (step line a rest) s c = go (is_among s (record { number = i; place = at; act = a }) (held_in i a ++ standing at (next i a) rest) c) (held_bounds i a s) (list_bounds at (next i a) rest s)
    where
      l : next i a ≤ behind (next i a) rest
      l = behind_above (next i a) rest

      k : suc i ≤ next i a
      k = next_above i a

      later : Contains (held_in i a) s ⊎ Contains (standing at (next i a) rest) s → (Contains (held_in i a) s → (suc i ≤ s.number) × (s.number < next i a)) →
          (Contains (standing at (next i a) rest) s → (next i a ≤ s.number) × (s.number < behind (next i a) rest)) → (i ≤ s.number) × (s.number < behind (next i a) rest)
      later (inl e) f g = let r = f e in (omega (arith, r.0), omega (arith, r.1, l))
      later (inr e) f g = let r = g e in (omega (arith, r.0, k), r.1)

      go : (let own : Standing = record { number = i; place = at; act = a } in own ≡ s) ⊎ Contains (held_in i a ++ standing at (next i a) rest) s → (Contains (held_in i a) s → (suc i ≤ s.number) × (s.number < next i a)) →
          (Contains (standing at (next i a) rest) s → (next i a ≤ s.number) × (s.number < behind (next i a) rest)) → (i ≤ s.number) × (s.number < behind (next i a) rest)
      go (inl e) f g = let n : i ≡ s.number = ap (λ z. z.number) e in (omega arith, omega (arith, k, l))
      go (inr d) f g = later (Contains-append_cases (held_in i a) (standing at (next i a) rest) s d) f g

-- ---- a step call isn't marked

mutual
  held_unsplit : (lines : ℕ → Bool) (line i : ℕ) (a : Act) (s : Standing) → is_turn s.place ≡ true → Contains (held_in i a) s → marked_call lines s.number i line a ≡ false
  held_unsplit lines line i (assign x subs e) s t c = refl
  held_unsplit lines line i (choose q a b) s t c =
      go (Contains-append_cases (standing (part_of i) (suc i) a) (standing (part_of i) (behind (suc i) a) b) s c) (list_unsplit lines (part_of i) refl (suc i) a s t) (list_unsplit lines (part_of i) refl (behind (suc i) a) b s t)
    where
      go : Contains (standing (part_of i) (suc i) a) s ⊎ Contains (standing (part_of i) (behind (suc i) a) b) s → (Contains (standing (part_of i) (suc i) a) s → marked_calls lines s.number (suc i) a ≡ false) →
          (Contains (standing (part_of i) (behind (suc i) a) b) s → marked_calls lines s.number (behind (suc i) a) b ≡ false) → (marked_calls lines s.number (suc i) a || marked_calls lines s.number (behind (suc i) a) b) ≡ false
      go (inl e) f g =
          neither (marked_calls lines s.number (suc i) a) (marked_calls lines s.number (behind (suc i) a) b) (f e)
          (not_true (marked_calls lines s.number (behind (suc i) a) b) (λ m. omega (arith, (list_bounds (part_of i) (suc i) a s e).1, (calls_within lines s.number (behind (suc i) a) b m).0)))
      go (inr e) f g =
          neither (marked_calls lines s.number (suc i) a) (marked_calls lines s.number (behind (suc i) a) b)
          (not_true (marked_calls lines s.number (suc i) a) (λ m. omega (arith, (list_bounds (part_of i) (behind (suc i) a) b s e).0, (calls_within lines s.number (suc i) a m).1))) (g e)
  held_unsplit lines line i (loop x first last by body unmarked) s t c = list_unsplit lines (part_of i) refl (suc i) body s t c
  held_unsplit lines line i (loop x first last by body (with_count m)) s t c = refl
  held_unsplit lines line i (loop x first last by body (count_from y)) s t c = refl
  held_unsplit lines line i (during q body) s t c = list_unsplit lines (part_of i) refl (suc i) body s t c
  held_unsplit lines line i (call name args) s t c = absurd (is_none s c)
  held_unsplit lines line i (runtime r) s t c = refl

  list_unsplit : (lines : ℕ → Bool) (at : Place) → is_turn at ≡ false → (i : ℕ) (l : Code) (s : Standing) → is_turn s.place ≡ true → Contains (standing at i l) s → marked_calls lines s.number i l ≡ false
  list_unsplit lines at o i stop s t c = refl
  list_unsplit lines at o i (step line a rest) s t c =
      go (is_among s (record { number = i; place = at; act = a }) (held_in i a ++ standing at (next i a) rest) c) (held_unsplit lines line i a s t) (list_unsplit lines at o (next i a) rest s t)
    where
      later : Contains (held_in i a) s ⊎ Contains (standing at (next i a) rest) s → (Contains (held_in i a) s → marked_call lines s.number i line a ≡ false) →
          (Contains (standing at (next i a) rest) s → marked_calls lines s.number (next i a) rest ≡ false) → (marked_call lines s.number i line a || marked_calls lines s.number (next i a) rest) ≡ false
      later (inl e) f g =
          neither (marked_call lines s.number i line a) (marked_calls lines s.number (next i a) rest) (f e)
          (not_true (marked_calls lines s.number (next i a) rest) (λ m. omega (arith, (held_bounds i a s e).1, (calls_within lines s.number (next i a) rest m).0)))
      later (inr e) f g =
          neither (marked_call lines s.number i line a) (marked_calls lines s.number (next i a) rest)
          (not_true (marked_call lines s.number i line a) (λ m. omega (arith, (list_bounds at (next i a) rest s e).0, (call_within lines s.number i line a m).1))) (g e)

      go : (let own : Standing = record { number = i; place = at; act = a } in own ≡ s) ⊎ Contains (held_in i a ++ standing at (next i a) rest) s → (Contains (held_in i a) s → marked_call lines s.number i line a ≡ false) →
          (Contains (standing at (next i a) rest) s → marked_calls lines s.number (next i a) rest ≡ false) → (marked_call lines s.number i line a || marked_calls lines s.number (next i a) rest) ≡ false
      go (inl e) f g = absurd (let p : is_turn at ≡ is_turn s.place = ap (λ z. is_turn z.place) e in let q : true ≡ false = sym t ∙ sym p ∙ o in cc)
      go (inr d) f g = later (Contains-append_cases (held_in i a) (standing at (next i a) rest) s d) f g

-- ---- over the units

from_within : (lines : ℕ → Bool) (n i : ℕ) (us : List Procedure) → marked_from lines n i us ≡ true → i ≤ n
from_within lines n i [] h = absurd cc
from_within lines n i (u ∷ us) h = go (one_of (marked_calls lines n i u.body) (marked_from lines n (behind i u.body) us) h) (from_within lines n (behind i u.body) us)
  where
    go : (marked_calls lines n i u.body ≡ true) ⊎ (marked_from lines n (behind i u.body) us ≡ true) → (marked_from lines n (behind i u.body) us ≡ true → behind i u.body ≤ n) → i ≤ n
    go (inl e) f = (calls_within lines n i u.body e).0
    go (inr e) f = let l : i ≤ behind i u.body = behind_above i u.body in omega (arith, f e)

part_first : (t u i : ℕ) (ps : List Procedure) (g : Part) → Contains (parts_from t u i ps) g → i ≤ g.first
part_first t u i [] g c = absurd (is_none g c)
part_first t u i (p ∷ ps) g c = go (is_among g (part t u i p) (parts_from t (suc u) (behind i p.body) ps) c) (part_first t (suc u) (behind i p.body) ps g)
  where
    go : (part t u i p ≡ g) ⊎ Contains (parts_from t (suc u) (behind i p.body) ps) g → (Contains (parts_from t (suc u) (behind i p.body) ps) g → behind i p.body ≤ g.first) → i ≤ g.first
    go (inl e) f = let n : i ≡ g.first = ap (λ z. z.first) e in omega arith
    go (inr d) f = let l : i ≤ behind i p.body = behind_above i p.body in omega (arith, f d)

units_unsplit : (lines : ℕ → Bool) (t u i : ℕ) (ps : List Procedure) (g : Part) → Contains (parts_from t u i ps) g → (s : Standing) → is_turn s.place ≡ true → Contains (statements_of g) s → marked_from lines s.number i ps ≡ false
units_unsplit lines t u i [] g c s b d = refl
units_unsplit lines t u i (p ∷ ps) g c s b d = go (is_among g (part t u i p) (parts_from t (suc u) (behind i p.body) ps) c) (λ e. units_unsplit lines t (suc u) (behind i p.body) ps g e s b d)
  where
    go : (part t u i p ≡ g) ⊎ Contains (parts_from t (suc u) (behind i p.body) ps) g → (Contains (parts_from t (suc u) (behind i p.body) ps) g → marked_from lines s.number (behind i p.body) ps ≡ false) →
        (marked_calls lines s.number i p.body || marked_from lines s.number (behind i p.body) ps) ≡ false
    go (inl e) f =
        let own : Contains (standing outermost i p.body) s = subst (λ z. Contains (statements_of z) s) (sym e) d in
        neither (marked_calls lines s.number i p.body) (marked_from lines s.number (behind i p.body) ps) (list_unsplit lines outermost refl i p.body s b own)
        (not_true (marked_from lines s.number (behind i p.body) ps) (λ m. omega (arith, (list_bounds outermost i p.body s own).1, from_within lines s.number (behind i p.body) ps m)))
    go (inr e) f =
        neither (marked_calls lines s.number i p.body) (marked_from lines s.number (behind i p.body) ps)
        (not_true (marked_calls lines s.number i p.body) (λ m. omega (arith, (calls_within lines s.number i p.body m).1, part_first t (suc u) (behind i p.body) ps g e, (list_bounds outermost g.first g.unit.body s d).0))) (f e)

-- no step call of a marked loop is among the calls that are to be split
pub step_unsplit : (lines : ℕ → Bool) (units : List Procedure) (g : Part) → Contains (parts units) g → (s : Standing) → is_turn s.place ≡ true → Contains (statements_of g) s → split_calls lines units s.number ≡ false
step_unsplit lines units g c s t d = units_unsplit lines (statements_in 0 units) 0 0 units g c s t d
