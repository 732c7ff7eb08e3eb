-- The units that are reached in rounds: after as many rounds as there are units no round finds more.
use Rattle.std.proofs.Common.{◌≡◌, ℕ, zero, suc, ◌<◌, ◌≤◌, ◌⊎◌, inl, inr, Bool, true, false, List, [], ◌∷◌, refl, sym, ap, ◌∙◌, arith}
use Rattle.std.specs.Prelude.{◌&&◌, ◌||◌, length, if◌then◌else◌}
use Rattle.adj_tree.specs.Code.{name_eq, Procedure}
use Rattle.adj_tree.proofs.Names.{name_refl, name_same}
use Rattle.def_names.specs.Numbers.{behind}
use Rattle.def_names.proofs.Variables.{and_true, or_left, or_right}
use Rattle.def_sweep.specs.Program.{calls_in, calls_some, reached_after}
use Rattle.law_sweep.specs.Source.{is_unit}

-- ---- more is found where more is known

pub either : (a b c : Bool) → (a || b) ≡ true → (a ≡ true → c ≡ true) → (b ≡ true → c ≡ true) → c ≡ true
either true b c h f g = f refl
either false b c h f g = g h

pub calls_rise : (f g : List ℕ → Bool) → ((n : List ℕ) → f n ≡ true → g n ≡ true) → (s : ℕ → Bool) (name : List ℕ) (i : ℕ) (us : List Procedure) → calls_some f s name i us ≡ true → calls_some g s name i us ≡ true
calls_rise f g w s name i [] h = absurd cc
calls_rise f g w s name i (u ∷ us) h =
    either (f u.name && calls_in s name i u.body) (calls_some f s name (behind i u.body) us) (calls_some g s name i (u ∷ us)) h
    (λ e. let p = and_true (f u.name) (calls_in s name i u.body) e in or_left (g u.name && calls_in s name i u.body) (calls_some g s name (behind i u.body) us) (rw (w u.name p.0, p.1) refl))
    (λ e. or_right (g u.name && calls_in s name i u.body) (calls_some g s name (behind i u.body) us) (calls_rise f g w s name (behind i u.body) us e))

-- ---- counting

abbrev pub how_many : (List ℕ → Bool) → List Procedure → ℕ
how_many f [] = 0
how_many f (u ∷ us) = if f u.name then suc (how_many f us) else how_many f us

pub many_most : (f : List ℕ → Bool) (us : List Procedure) → how_many f us ≤ length us
many_most f [] = omega arith
many_most f (u ∷ us) = go (f u.name) (many_most f us)
  where
    go : (b : Bool) → how_many f us ≤ length us → (if b then suc (how_many f us) else how_many f us) ≤ suc (length us)
    go true h = omega arith
    go false h = omega arith

-- a set of units within another is the same, or has fewer
same_or_fewer : (f g : List ℕ → Bool) → ((n : List ℕ) → f n ≡ true → g n ≡ true) → (us : List Procedure) → ((n : List ℕ) → is_unit us n ≡ true → g n ≡ true → f n ≡ true) ⊎ (how_many f us < how_many g us)
same_or_fewer f g w [] = inl (λ n h e. absurd cc)
same_or_fewer f g w (u ∷ us) = go (f u.name) refl (g u.name) refl (same_or_fewer f g w us)
  where
    here : (n : List ℕ) → f u.name ≡ true → name_eq u.name n ≡ true → f n ≡ true
    here n e s = ap f (sym (name_same u.name n s)) ∙ e

    none : (n : List ℕ) → g u.name ≡ false → name_eq u.name n ≡ true → g n ≡ true → f n ≡ true
    none n e s h = absurd (let p : true ≡ false = sym h ∙ ap g (sym (name_same u.name n s)) ∙ e in cc)

    go : (a : Bool) → f u.name ≡ a → (b : Bool) → g u.name ≡ b → ((n : List ℕ) → is_unit us n ≡ true → g n ≡ true → f n ≡ true) ⊎ (how_many f us < how_many g us) →
        ((n : List ℕ) → (name_eq u.name n || is_unit us n) ≡ true → g n ≡ true → f n ≡ true) ⊎ ((if a then suc (how_many f us) else how_many f us) < (if b then suc (how_many g us) else how_many g us))
    go true e true d (inl s) = inl (λ n h k. either (name_eq u.name n) (is_unit us n) (f n) h (here n e) (λ r. s n r k))
    go true e true d (inr l) = inr (omega arith)
    go true e false d s = absurd (let p : true ≡ false = sym (w u.name e) ∙ d in cc)
    go false e true d (inl s) = inr (fewer us s)
      where
        fewer : (vs : List Procedure) → ((n : List ℕ) → is_unit vs n ≡ true → g n ≡ true → f n ≡ true) → how_many f vs < suc (how_many g vs)
        fewer vs s = let l = at_most vs in omega arith
          where
            at_most : (vs : List Procedure) → how_many f vs ≤ how_many g vs
            at_most [] = omega arith
            at_most (v ∷ vs) = step_up (f v.name) refl (g v.name) refl (at_most vs)
              where
                step_up : (a : Bool) → f v.name ≡ a → (b : Bool) → g v.name ≡ b → how_many f vs ≤ how_many g vs → (if a then suc (how_many f vs) else how_many f vs) ≤ (if b then suc (how_many g vs) else how_many g vs)
                step_up true e true d l = omega arith
                step_up true e false d l = absurd (let p : true ≡ false = sym (w v.name e) ∙ d in cc)
                step_up false e true d l = omega arith
                step_up false e false d l = l
    go false e true d (inr l) = inr (omega arith)
    go false e false d (inl s) = inl (λ n h k. either (name_eq u.name n) (is_unit us n) (f n) h (λ r. none n d r k) (λ r. s n r k))
    go false e false d (inr l) = inr l

-- only units that are there count
pub calls_there : (f g : List ℕ → Bool) (s : ℕ → Bool) → (us : List Procedure) → ((n : List ℕ) → is_unit us n ≡ true → f n ≡ true → g n ≡ true) → (name : List ℕ) (i : ℕ) → calls_some f s name i us ≡ true → calls_some g s name i us ≡ true
calls_there f g s [] w name i h = absurd cc
calls_there f g s (u ∷ us) w name i h =
    either (f u.name && calls_in s name i u.body) (calls_some f s name (behind i u.body) us) (calls_some g s name i (u ∷ us)) h
    (λ e. let p = and_true (f u.name) (calls_in s name i u.body) e in or_left (g u.name && calls_in s name i u.body) (calls_some g s name (behind i u.body) us) (rw (w u.name (or_left (name_eq u.name u.name) (is_unit us u.name) (name_refl u.name)) p.0, p.1) refl))
    (λ e. or_right (g u.name && calls_in s name i u.body) (calls_some g s name (behind i u.body) us) (calls_there f g s us (λ n r. w n (or_right (name_eq u.name n) (is_unit us n) r)) name (behind i u.body) e))

-- ---- rounds

-- the round after finds no more
abbrev pub IsLast : List Procedure → (ℕ → List ℕ → Bool) → ℕ → Type 0
IsLast ps after k = (n : List ℕ) → is_unit ps n ≡ true → after (suc k) n ≡ true → after k n ≡ true

-- sets that grow, and stay the same once they did
module _ (ps : List Procedure) (after : ℕ → List ℕ → Bool) (rises : (k : ℕ) (n : List ℕ) → after k n ≡ true → after (suc k) n ≡ true)
    (still_last : (k : ℕ) → IsLast ps after k → IsLast ps after (suc k)) where
  last_or_many : (k : ℕ) → IsLast ps after k ⊎ (suc k ≤ how_many (after (suc k)) ps)
  last_or_many zero = go (same_or_fewer (after 0) (after 1) (rises 0) ps)
    where
      go : IsLast ps after 0 ⊎ (how_many (after 0) ps < how_many (after 1) ps) → IsLast ps after 0 ⊎ (1 ≤ how_many (after 1) ps)
      go (inl e) = inl e
      go (inr l) = inr (omega arith)
  last_or_many (suc k) = go (last_or_many k) (same_or_fewer (after (suc k)) (after (suc (suc k))) (rises (suc k)) ps)
    where
      go : IsLast ps after k ⊎ (suc k ≤ how_many (after (suc k)) ps) → IsLast ps after (suc k) ⊎ (how_many (after (suc k)) ps < how_many (after (suc (suc k))) ps) → IsLast ps after (suc k) ⊎ (suc (suc k) ≤ how_many (after (suc (suc k))) ps)
      go (inl e) b = inl (still_last k e)
      go (inr a) (inl e) = inl e
      go (inr a) (inr l) = inr (omega arith)

  -- after as many rounds as there are units no more is found
  pub rounds_last : IsLast ps after (length ps)
  rounds_last = go (last_or_many (length ps))
    where
      go : IsLast ps after (length ps) ⊎ (suc (length ps) ≤ how_many (after (suc (length ps))) ps) → IsLast ps after (length ps)
      go (inl e) = e
      go (inr l) = absurd (omega (arith, many_most (after (suc (length ps))) ps))

-- units that are reached by calls
module _ (roots : List ℕ → Bool) (s : ℕ → Bool) (ps : List Procedure) where
  abbrev after : ℕ → List ℕ → Bool
  after k = reached_after roots s ps k

  -- each round finds what the one before did
  pub rises : (k : ℕ) (n : List ℕ) → after k n ≡ true → after (suc k) n ≡ true
  rises zero n h = absurd cc
  rises (suc k) n h =
      either (roots n) (calls_some (after k) s n 0 ps) (after (suc (suc k)) n) h
      (or_left (roots n) (calls_some (after (suc k)) s n 0 ps))
      (λ e. or_right (roots n) (calls_some (after (suc k)) s n 0 ps) (calls_rise (after k) (after (suc k)) (rises k) s n 0 ps e))

  still_last : (k : ℕ) → IsLast ps after k → IsLast ps after (suc k)
  still_last k l n r h =
      either (roots n) (calls_some (after (suc k)) s n 0 ps) (after (suc k) n) h
      (or_left (roots n) (calls_some (after k) s n 0 ps))
      (λ e. or_right (roots n) (calls_some (after k) s n 0 ps) (calls_there (after (suc k)) (after k) s ps l n 0 e))

  -- after as many rounds as there are units no more is found
  pub reached_last : IsLast ps after (length ps)
  reached_last = rounds_last ps after rises still_last
