-- A point belongs to one unit.
use Rattle.std.proofs.Common.{◌≡◌, ◌⊎◌, inl, inr, ℕ, suc, ◌+◌, ◌*◌, ◌<◌, ◌≤◌, List, [], ◌∷◌, ◌++◌, refl, sym, ap, ◌∙◌, subst, arith}
use Rattle.std.specs.Prelude.{Contains}
use Rattle.std.proofs.lemmas.List.Elements.{Contains-append_cases}
use Rattle.adj_tree.specs.Code.{none, more, Act, assign, choose, loop, during, call, runtime, Code, stop, step, Procedure}
use Rattle.def_names.specs.Numbers.{next, behind}
use Rattle.def_names.specs.Numbering.{point_before, point_after, point_inside}
use Rattle.def_flow.specs.Parts.{Part, part, parts_from, parts}
use Rattle.def_names.specs.StatementsIn.{statements_in}
use Rattle.def_flow.specs.Ways.{Deed, passing, assigning, calling, Way, way, act_ways, ways}
use Rattle.def_flow.specs.Problem.{Problem, TakesPart}
use Rattle.def_flow.specs.Activity.{IsPoint}
use Rattle.adj_reach.proofs.Members.{is_among, is_none}
use Rattle.def_flow.proofs.Numbers.{part_is_there}

-- ---- numbers rise

mutual
  pub next_above : (i : ℕ) (a : Act) → suc i ≤ next i a
  next_above i (assign x subs e) = omega arith
  next_above i (choose c a b) = let h : suc i ≤ behind (suc i) a = behind_above (suc i) a in let k : behind (suc i) a ≤ behind (behind (suc i) a) b = behind_above (behind (suc i) a) b in omega arith
  next_above i (loop x first last by body m) = behind_above (suc i) body
  next_above i (during c body) = behind_above (suc i) body
  next_above i (call name args) = omega arith
  next_above i (runtime r) = omega arith

  pub behind_above : (i : ℕ) (c : Code) → i ≤ behind i c
  behind_above i stop = omega arith
  behind_above i (step line a rest) = let h : suc i ≤ next i a = next_above i a in let k : next i a ≤ behind (next i a) rest = behind_above (next i a) rest in omega arith

-- ---- where ways lead

-- a point of the statements from i on and below j
abbrev Inside : ℕ → ℕ → ℕ → Type 0
Inside i j x = (3 * i ≤ x) × (x < 3 * j)

-- that, or one of two others
abbrev Among : ℕ → ℕ → ℕ → ℕ → ℕ → Type 0
Among p q i j x = (x ≡ p) ⊎ ((x ≡ q) ⊎ Inside i j x)

abbrev BothIn : ℕ → ℕ → Way → Type 0
BothIn i j w = Inside i j w.from × Inside i j w.to

-- inside a statement's range, from its own points and those in it
inside_act : (p q i k j : ℕ) (x : ℕ) → Inside i j p → Inside i j q → i ≤ k → (m : ℕ) → m ≤ j → Among p q k m x → Inside i j x
inside_act p q i k j x a b l m n (inl e) = subst (λ z. Inside i j z) (sym e) a
inside_act p q i k j x a b l m n (inr (inl e)) = subst (λ z. Inside i j z) (sym e) b
inside_act p q i k j x a b l m n (inr (inr h)) = (omega (arith, h.0), omega (arith, h.1))

-- a way from before a statement to after it
one : (i : ℕ) (d : Deed) (w : Way) → (way (point_before i) (point_after i) d ≡ w) ⊎ Contains [] w → BothIn i (suc i) w
one i d w (inl e) = subst (λ z. BothIn i (suc i) z) e ((omega arith, omega arith), (omega arith, omega arith))
one i d w (inr c) = absurd (is_none w c)

mutual
  act_ends : (i : ℕ) (a : Act) (w : Way) → Contains (act_ways i a) w → BothIn i (next i a) w
  act_ends i (assign x none e) w c = one i (assigning i x) w (is_among w (way (point_before i) (point_after i) (assigning i x)) [] c)
  act_ends i (assign x (more j js) e) w c = one i passing w (is_among w (way (point_before i) (point_after i) passing) [] c)
  act_ends i (choose q a b) w c =
      go (Contains-append_cases (ways (suc i) (point_before i) (point_after i) passing a) (ways (behind (suc i) a) (point_before i) (point_after i) passing b) w c)
      (λ d. list_ends (suc i) (point_before i) (point_after i) passing a w d) (λ d. list_ends (behind (suc i) a) (point_before i) (point_after i) passing b w d)
    where
      j : ℕ
      j = behind (behind (suc i) a) b

      l : suc i ≤ behind (suc i) a
      l = behind_above (suc i) a

      m : behind (suc i) a ≤ behind (behind (suc i) a) b
      m = behind_above (behind (suc i) a) b

      before : Inside i (behind (behind (suc i) a) b) (point_before i)
      before = (omega arith, omega (arith, l, m))

      after : Inside i (behind (behind (suc i) a) b) (point_after i)
      after = (omega arith, omega (arith, l, m))

      go : Contains (ways (suc i) (point_before i) (point_after i) passing a) w ⊎ Contains (ways (behind (suc i) a) (point_before i) (point_after i) passing b) w →
          (Contains (ways (suc i) (point_before i) (point_after i) passing a) w → Among (point_before i) (point_after i) (suc i) (behind (suc i) a) w.from × Among (point_before i) (point_after i) (suc i) (behind (suc i) a) w.to) →
          (Contains (ways (behind (suc i) a) (point_before i) (point_after i) passing b) w → Among (point_before i) (point_after i) (behind (suc i) a) (behind (behind (suc i) a) b) w.from × Among (point_before i) (point_after i) (behind (suc i) a) (behind (behind (suc i) a) b) w.to) →
          BothIn i (behind (behind (suc i) a) b) w
      go (inl d) f g = let r = f d in
          (inside_act (point_before i) (point_after i) i (suc i) (behind (behind (suc i) a) b) w.from before after (omega arith) (behind (suc i) a) m r.0, inside_act (point_before i) (point_after i) i (suc i) (behind (behind (suc i) a) b) w.to before after (omega arith) (behind (suc i) a) m r.1)
      go (inr d) f g = let r = g d in
          (inside_act (point_before i) (point_after i) i (behind (suc i) a) (behind (behind (suc i) a) b) w.from before after (omega (arith, l)) (behind (behind (suc i) a) b) (omega arith) r.0, inside_act (point_before i) (point_after i) i (behind (suc i) a) (behind (behind (suc i) a) b) w.to before after (omega (arith, l)) (behind (behind (suc i) a) b) (omega arith) r.1)
  act_ends i (loop x first last by body k) w c =
      go (is_among w (way (point_before i) (point_inside i) (assigning i x)) (way (point_inside i) (point_after i) passing ∷ ways (suc i) (point_inside i) (point_inside i) (assigning i x) body) c)
      (λ d. list_ends (suc i) (point_inside i) (point_inside i) (assigning i x) body w d)
    where
      l : suc i ≤ behind (suc i) body
      l = behind_above (suc i) body

      own : (x : ℕ) → 3 * i ≤ x → x < 3 * i + 3 → Inside i (behind (suc i) body) x
      own x a b = (a, omega (arith, l))

      more_of : Contains (ways (suc i) (point_inside i) (point_inside i) (assigning i x) body) w →
          (Contains (ways (suc i) (point_inside i) (point_inside i) (assigning i x) body) w → Among (point_inside i) (point_inside i) (suc i) (behind (suc i) body) w.from × Among (point_inside i) (point_inside i) (suc i) (behind (suc i) body) w.to) → BothIn i (behind (suc i) body) w
      more_of d f =
          let r = f d in
          let p : Inside i (behind (suc i) body) (point_inside i) = own (point_inside i) (omega arith) (omega arith) in
          (inside_act (point_inside i) (point_inside i) i (suc i) (behind (suc i) body) w.from p p (omega arith) (behind (suc i) body) (omega arith) r.0, inside_act (point_inside i) (point_inside i) i (suc i) (behind (suc i) body) w.to p p (omega arith) (behind (suc i) body) (omega arith) r.1)

      next_of : (way (point_inside i) (point_after i) passing ≡ w) ⊎ Contains (ways (suc i) (point_inside i) (point_inside i) (assigning i x) body) w →
          (Contains (ways (suc i) (point_inside i) (point_inside i) (assigning i x) body) w → Among (point_inside i) (point_inside i) (suc i) (behind (suc i) body) w.from × Among (point_inside i) (point_inside i) (suc i) (behind (suc i) body) w.to) → BothIn i (behind (suc i) body) w
      next_of (inl e) f = subst (λ z. BothIn i (behind (suc i) body) z) e (own (point_inside i) (omega arith) (omega arith), own (point_after i) (omega arith) (omega arith))
      next_of (inr d) f = more_of d f

      go : (way (point_before i) (point_inside i) (assigning i x) ≡ w) ⊎ Contains (way (point_inside i) (point_after i) passing ∷ ways (suc i) (point_inside i) (point_inside i) (assigning i x) body) w →
          (Contains (ways (suc i) (point_inside i) (point_inside i) (assigning i x) body) w → Among (point_inside i) (point_inside i) (suc i) (behind (suc i) body) w.from × Among (point_inside i) (point_inside i) (suc i) (behind (suc i) body) w.to) → BothIn i (behind (suc i) body) w
      go (inl e) f = subst (λ z. BothIn i (behind (suc i) body) z) e (own (point_before i) (omega arith) (omega arith), own (point_inside i) (omega arith) (omega arith))
      go (inr d) f = next_of (is_among w (way (point_inside i) (point_after i) passing) (ways (suc i) (point_inside i) (point_inside i) (assigning i x) body) d) f
  act_ends i (during q body) w c =
      go (is_among w (way (point_before i) (point_inside i) passing) (way (point_inside i) (point_after i) passing ∷ ways (suc i) (point_inside i) (point_inside i) passing body) c)
      (λ d. list_ends (suc i) (point_inside i) (point_inside i) passing body w d)
    where
      l : suc i ≤ behind (suc i) body
      l = behind_above (suc i) body

      own : (x : ℕ) → 3 * i ≤ x → x < 3 * i + 3 → Inside i (behind (suc i) body) x
      own x a b = (a, omega (arith, l))

      more_of : Contains (ways (suc i) (point_inside i) (point_inside i) passing body) w →
          (Contains (ways (suc i) (point_inside i) (point_inside i) passing body) w → Among (point_inside i) (point_inside i) (suc i) (behind (suc i) body) w.from × Among (point_inside i) (point_inside i) (suc i) (behind (suc i) body) w.to) → BothIn i (behind (suc i) body) w
      more_of d f =
          let r = f d in
          let p : Inside i (behind (suc i) body) (point_inside i) = own (point_inside i) (omega arith) (omega arith) in
          (inside_act (point_inside i) (point_inside i) i (suc i) (behind (suc i) body) w.from p p (omega arith) (behind (suc i) body) (omega arith) r.0, inside_act (point_inside i) (point_inside i) i (suc i) (behind (suc i) body) w.to p p (omega arith) (behind (suc i) body) (omega arith) r.1)

      next_of : (way (point_inside i) (point_after i) passing ≡ w) ⊎ Contains (ways (suc i) (point_inside i) (point_inside i) passing body) w →
          (Contains (ways (suc i) (point_inside i) (point_inside i) passing body) w → Among (point_inside i) (point_inside i) (suc i) (behind (suc i) body) w.from × Among (point_inside i) (point_inside i) (suc i) (behind (suc i) body) w.to) → BothIn i (behind (suc i) body) w
      next_of (inl e) f = subst (λ z. BothIn i (behind (suc i) body) z) e (own (point_inside i) (omega arith) (omega arith), own (point_after i) (omega arith) (omega arith))
      next_of (inr d) f = more_of d f

      go : (way (point_before i) (point_inside i) passing ≡ w) ⊎ Contains (way (point_inside i) (point_after i) passing ∷ ways (suc i) (point_inside i) (point_inside i) passing body) w →
          (Contains (ways (suc i) (point_inside i) (point_inside i) passing body) w → Among (point_inside i) (point_inside i) (suc i) (behind (suc i) body) w.from × Among (point_inside i) (point_inside i) (suc i) (behind (suc i) body) w.to) → BothIn i (behind (suc i) body) w
      go (inl e) f = subst (λ z. BothIn i (behind (suc i) body) z) e (own (point_before i) (omega arith) (omega arith), own (point_inside i) (omega arith) (omega arith))
      go (inr d) f = next_of (is_among w (way (point_inside i) (point_after i) passing) (ways (suc i) (point_inside i) (point_inside i) passing body) d) f
  act_ends i (call name args) w c = one i (calling args) w (is_among w (way (point_before i) (point_after i) (calling args)) [] c)
  act_ends i (runtime r) w c = one i passing w (is_among w (way (point_before i) (point_after i) passing) [] c)

  list_ends : (i p q : ℕ) (last : Deed) (c : Code) (w : Way) → Contains (ways i p q last c) w → Among p q i (behind i c) w.from × Among p q i (behind i c) w.to
  list_ends i p q last stop w c = ends (is_among w (way p q last) [] c)
    where
      ends : (way p q last ≡ w) ⊎ Contains [] w → Among p q i i w.from × Among p q i i w.to
      ends (inl e) = (inl (sym (ap (λ z. z.from) e)), inr (inl (sym (ap (λ z. z.to) e))))
      ends (inr d) = absurd (is_none w d)
  list_ends i p q last (step line a rest) w c =
      go (is_among w (way p (point_before i) passing) (act_ways i a ++ ways (next i a) (point_after i) q last rest) c) (λ d. act_ends i a w d) (λ d. list_ends (next i a) (point_after i) q last rest w d)
    where
      n : suc i ≤ next i a
      n = next_above i a

      m : next i a ≤ behind (next i a) rest
      m = behind_above (next i a) rest

      wide : (x : ℕ) → Inside i (next i a) x → Among p q i (behind (next i a) rest) x
      wide x h = inr (inr (h.0, omega (arith, h.1, m)))

      later : (x : ℕ) → Among (point_after i) q (next i a) (behind (next i a) rest) x → Among p q i (behind (next i a) rest) x
      later x (inl e) = inr (inr (omega arith, omega (arith, n, m)))
      later x (inr (inl e)) = inr (inl e)
      later x (inr (inr h)) = inr (inr (omega (arith, h.0, n), h.1))

      deeper : Contains (act_ways i a) w ⊎ Contains (ways (next i a) (point_after i) q last rest) w → (Contains (act_ways i a) w → BothIn i (next i a) w) →
          (Contains (ways (next i a) (point_after i) q last rest) w → Among (point_after i) q (next i a) (behind (next i a) rest) w.from × Among (point_after i) q (next i a) (behind (next i a) rest) w.to) →
          Among p q i (behind (next i a) rest) w.from × Among p q i (behind (next i a) rest) w.to
      deeper (inl d) f g = let r = f d in (wide w.from r.0, wide w.to r.1)
      deeper (inr d) f g = let r = g d in (later w.from r.0, later w.to r.1)

      go : (way p (point_before i) passing ≡ w) ⊎ Contains (act_ways i a ++ ways (next i a) (point_after i) q last rest) w → (Contains (act_ways i a) w → BothIn i (next i a) w) →
          (Contains (ways (next i a) (point_after i) q last rest) w → Among (point_after i) q (next i a) (behind (next i a) rest) w.from × Among (point_after i) q (next i a) (behind (next i a) rest) w.to) →
          Among p q i (behind (next i a) rest) w.from × Among p q i (behind (next i a) rest) w.to
      go (inl e) f g = (inl (sym (ap (λ z. z.from) e)), (let h : point_before i ≡ w.to = ap (λ z. z.to) e in inr (inr (omega arith, omega (arith, n, m)))))
      go (inr d) f g = deeper (Contains-append_cases (act_ways i a) (ways (next i a) (point_after i) q last rest) w d) f g

-- ---- the points of a unit

pub point_where : (g : Part) (p : ℕ) → IsPoint g p → Among g.entry g.end g.first (behind g.first g.unit.body) p
point_where g p h = go h.2
  where
    r : Among g.entry g.end g.first (behind g.first g.unit.body) h.0.from × Among g.entry g.end g.first (behind g.first g.unit.body) h.0.to
    r = list_ends g.first g.entry g.end passing g.unit.body h.0 h.1

    go : (h.0.from ≡ p) ⊎ (h.0.to ≡ p) → Among g.entry g.end g.first (behind g.first g.unit.body) p
    go (inl e) = subst (λ z. Among g.entry g.end g.first (behind g.first g.unit.body) z) e r.0
    go (inr e) = subst (λ z. Among g.entry g.end g.first (behind g.first g.unit.body) z) e r.1

-- what is known of a unit among others
record Placed (t u i : ℕ) (ps : List Procedure) (g : Part) : Type 0 where
  number : u ≤ g.number
  first : i ≤ g.first
  behind_it : behind g.first g.unit.body ≤ statements_in i ps
  entry : g.entry ≡ 3 * t + 2 * g.number
  end : g.end ≡ 3 * t + 2 * g.number + 1

placed : (t u i : ℕ) (ps : List Procedure) (g : Part) → Contains (parts_from t u i ps) g → Placed t u i ps g
placed t u i [] g c = absurd (is_none g c)
placed t u i (p ∷ ps) g c = go (is_among g (part t u i p) (parts_from t (suc u) (behind i p.body) ps) c) (placed t (suc u) (behind i p.body) ps g)
  where
    total : (i : ℕ) (ps : List Procedure) → i ≤ statements_in i ps
    total i [] = omega arith
    total i (p ∷ ps) = let h : i ≤ behind i p.body = behind_above i p.body in let k : behind i p.body ≤ statements_in (behind i p.body) ps = total (behind i p.body) ps in omega arith

    go : (part t u i p ≡ g) ⊎ Contains (parts_from t (suc u) (behind i p.body) ps) g → (Contains (parts_from t (suc u) (behind i p.body) ps) g → Placed t (suc u) (behind i p.body) ps g) → Placed t u i (p ∷ ps) g
    go (inl e) r = subst (λ z. Placed t u i (p ∷ ps) z) e (record { number = omega arith; first = omega arith; behind_it = total (behind i p.body) ps; entry = refl; end = refl })
    go (inr d) r = let q = r d in record { number = omega (arith, q.number); first = omega (arith, q.first, behind_above i p.body); behind_it = q.behind_it; entry = q.entry; end = q.end }

-- two units that have a statement's point in common, or one number, are one
one_part : (t u i : ℕ) (ps : List Procedure) (f g : Part) (x : ℕ) → Contains (parts_from t u i ps) f → Contains (parts_from t u i ps) g →
    (f.number ≡ g.number) ⊎ (Inside f.first (behind f.first f.unit.body) x × Inside g.first (behind g.first g.unit.body) x) → f ≡ g
one_part t u i [] f g x c d e = absurd (is_none f c)
one_part t u i (p ∷ ps) f g x c d e =
    go (is_among f (part t u i p) rest c) (is_among g (part t u i p) rest d) (λ a b. one_part t (suc u) (behind i p.body) ps f g x a b e)
  where
    rest : List Part
    rest = parts_from t (suc u) (behind i p.body) ps

    apart : (h : Part) → Placed t (suc u) (behind i p.body) ps h → (u ≡ h.number) ⊎ (Inside i (behind i p.body) x × Inside h.first (behind h.first h.unit.body) x) → ⊥
    apart h q (inl e) = omega (arith, q.number)
    apart h q (inr k) = omega (arith, q.first, k.0.1, k.1.0)

    at_f : part t u i p ≡ f → (u ≡ g.number) ⊎ (Inside i (behind i p.body) x × Inside g.first (behind g.first g.unit.body) x)
    at_f a = subst (λ (z : Part). (z.number ≡ g.number) ⊎ (Inside z.first (behind z.first z.unit.body) x × Inside g.first (behind g.first g.unit.body) x)) (sym a) e

    turned : (f.number ≡ g.number) ⊎ (Inside f.first (behind f.first f.unit.body) x × Inside g.first (behind g.first g.unit.body) x) → (g.number ≡ f.number) ⊎ (Inside g.first (behind g.first g.unit.body) x × Inside f.first (behind f.first f.unit.body) x)
    turned (inl k) = inl (sym k)
    turned (inr k) = inr (k.1, k.0)

    at_g : part t u i p ≡ g → (u ≡ f.number) ⊎ (Inside i (behind i p.body) x × Inside f.first (behind f.first f.unit.body) x)
    at_g a = subst (λ (z : Part). (z.number ≡ f.number) ⊎ (Inside z.first (behind z.first z.unit.body) x × Inside f.first (behind f.first f.unit.body) x)) (sym a) (turned e)

    go : (part t u i p ≡ f) ⊎ Contains rest f → (part t u i p ≡ g) ⊎ Contains rest g → (Contains rest f → Contains rest g → f ≡ g) → f ≡ g
    go (inl a) (inl b) r = sym a ∙ b
    go (inl a) (inr b) r = absurd (apart g (placed t (suc u) (behind i p.body) ps g b) (at_f a))
    go (inr a) (inl b) r = absurd (apart f (placed t (suc u) (behind i p.body) ps f a) (at_g b))
    go (inr a) (inr b) r = r a b

-- a point belongs to one unit
pub one_point : (k : Problem) (f g : Part) (x : ℕ) → TakesPart k f → TakesPart k g → IsPoint f x → IsPoint g x → f ≡ g
one_point k f g x a b c d = one_part t 0 0 k.units f g x pf pg (common (point_where f x c) (point_where g x d))
  where
    t : ℕ
    t = statements_in 0 k.units

    pf : Contains (parts k.units) f
    pf = part_is_there k f a

    pg : Contains (parts k.units) g
    pg = part_is_there k g b

    qf : Placed (statements_in 0 k.units) 0 0 k.units f
    qf = placed (statements_in 0 k.units) 0 0 k.units f (part_is_there k f a)

    qg : Placed (statements_in 0 k.units) 0 0 k.units g
    qg = placed (statements_in 0 k.units) 0 0 k.units g (part_is_there k g b)

    common : Among f.entry f.end f.first (behind f.first f.unit.body) x → Among g.entry g.end g.first (behind g.first g.unit.body) x →
        (f.number ≡ g.number) ⊎ (Inside f.first (behind f.first f.unit.body) x × Inside g.first (behind g.first g.unit.body) x)
    common (inl e) (inl h) = inl (omega (arith, qf.entry, qg.entry))
    common (inl e) (inr (inl h)) = absurd (omega (arith, qf.entry, qg.end))
    common (inl e) (inr (inr h)) = absurd (omega (arith, qf.entry, qg.behind_it, h.1))
    common (inr (inl e)) (inl h) = absurd (omega (arith, qf.end, qg.entry))
    common (inr (inl e)) (inr (inl h)) = inl (omega (arith, qf.end, qg.end))
    common (inr (inl e)) (inr (inr h)) = absurd (omega (arith, qf.end, qg.behind_it, h.1))
    common (inr (inr e)) (inl h) = absurd (omega (arith, qg.entry, qf.behind_it, e.1))
    common (inr (inr e)) (inr (inl h)) = absurd (omega (arith, qg.end, qf.behind_it, e.1))
    common (inr (inr e)) (inr (inr h)) = inr (e, h)
