-- What the actions of a schedule take together, by its recursion.
use Rattle.std.proofs.Common.{◌≡◌, ◌≤◌, ◌<◌, ◌⊎◌, inl, inr, ℕ, zero, suc, ◌+◌, ◌-◌, ◌*◌, List, [], ◌∷◌, ◌++◌, length, refl, sym, ap, ◌∙◌, subst, arith, append_assoc}
use Rattle.std.specs.Prelude.{ℤ, pos}
use Rattle.std.proofs.lemmas.List.{append-nil, length-append}
use Rattle.adj_tree.specs.Code.{Var, Code}
use Rattle.adj_revolve.specs.Binomial.{beta}
use Rattle.adj_revolve.specs.declared.machine.Action.{Action}
use Rattle.adj_revolve.specs.declared.machine.Action.TheVariants.{Store as Put, Advance, Turn, Keep, Drop}
use Rattle.adj_revolve.specs.Schedule.{with_snapshot, from_snapshot, body, schedule_of}
use Rattle.adj_revolve.proofs.Induction.{HoldsOfSplits, body_has, with_snapshot_has, with_snapshot-none, from_snapshot_has}
use Rattle.def_meaning.specs.Store.{Shape, Store}
use Rattle.def_meaning.specs.Value.{Setting}
use Rattle.def_meaning.specs.Scene.{Scene}
use Rattle.def_meaning.specs.Run.{Calls, stepped}
use Rattle.law_sweep.specs.Pairs.{on_words}
use Rattle.law_sweep.specs.Scenes.{Course, scene}
use Rattle.law_sweep.proofs.Playing.{past, past_some}
use Rattle.law_cost.specs.Sums.{sum_of}
use Rattle.law_cost.proofs.Sums.{sum_join, times_sum, times_more, one_more}
use Rattle.law_cost.proofs.Takes.{TurnsTake, turns_take_none, turns_take_append, turns_take_as}

-- a snapshot is pushed, and popped, by at most W statements; the turn of an advance over step i takes Q i at most, and the adjoint of it A i
module _ (q : Calls ℤ) (sh : Var → Shape) (level : ℕ) (action : Code) (entry : Var) (W : ℕ) (Q A : ℕ → ℕ) (Ready : ℕ → Store ℤ → Type 0) where
  abbrev nw : Setting ℤ
  nw = on_words sh level

  abbrev after_each : Scene ℤ → Scene ℤ
  after_each = stepped nw entry (pos 1)

  -- n actions from the k-th on come from the store f and the tape t to a store of which `end` holds, and the tape t'
  pub record Played (n k : ℕ) (end : Store ℤ → Type 0) (most : ℕ) (base : Course) (f : Store ℤ) (t t' : List ℤ) : Type 0 where
    pub after : Store ℤ
    pub later : Course
    pub opened : later.opened ≡ base.opened
    pub takes : TurnsTake q nw n action after_each (scene base f t) (scene later after t') most
    pub ready : Ready (k + n) after
    pub ends : end after

  played_none : (k : ℕ) (end : Store ℤ → Type 0) (base : Course) (f : Store ℤ) (t : List ℤ) → Ready k f → end f → Played 0 k end 0 base f t t
  played_none k end base f t r e = record {
    after = f;
    later = base;
    opened = refl;
    takes = turns_take_none q nw action after_each (scene base f t);
    ready = let z : k + 0 ≡ k = omega arith in subst (λ m. Ready m f) (sym z) r;
    ends = e;
  }

  played_then : (n1 n2 k : ℕ) (e1 e2 : Store ℤ → Type 0) (m1 m2 : ℕ) (base : Course) (f : Store ℤ) (t t1 t2 : List ℤ) (p : Played n1 k e1 m1 base f t t1) → Played n2 (k + n1) e2 m2 p.later p.after t1 t2 → Played (n1 + n2) k e2 (m1 + m2) base f t t2
  played_then n1 n2 k e1 e2 m1 m2 base f t t1 t2 p r = record {
    after = r.after;
    later = r.later;
    opened = r.opened ∙ p.opened;
    takes = turns_take_append q nw action after_each n1 n2 (scene base f t) (scene p.later p.after t1) (scene r.later r.after t2) m1 m2 p.takes r.takes;
    ready = let z : k + n1 + n2 ≡ k + (n1 + n2) = omega arith in subst (λ m. Ready m r.after) z r.ready;
    ends = r.ends;
  }

  played_as : (n n' k : ℕ) (end : Store ℤ → Type 0) (m m' : ℕ) (base : Course) (f : Store ℤ) (t t' : List ℤ) → n ≡ n' → m ≤ m' → Played n k end m base f t t' → Played n' k end m' base f t t'
  played_as n n' k end m m' base f t t' en le p = record {
    after = p.after;
    later = p.later;
    opened = p.opened;
    takes = turns_take_as q nw action after_each n n' (scene base f t) (scene p.later p.after t') m m' en le p.takes;
    ready = subst (λ z. Ready (k + z) p.after) en p.ready;
    ends = p.ends;
  }

  -- `Standing i`: the program stands before step i; `Loose`: it stands before none; `Snap i`: the words are a snapshot of step i
  module _ (all : List Action) (l : ℕ) (Standing : ℕ → Store ℤ → Type 0) (Loose : Store ℤ → Type 0) (Snap : ℕ → List ℤ → Type 0) where
    pub record Taken (k i most : ℕ) (base : Course) (f : Store ℤ) (t t' : List ℤ) : Type 0 where
      pub snap : List ℤ
      pub is : Snap i snap
      pub played : Played 1 k (Standing i) most base f t (snap ++ t')

    -- what each action does and takes
    pub record Acts : Type 0 where
      pub puts : (k i : ℕ) (rest : List Action) (base : Course) (f : Store ℤ) (t : List ℤ) → past k all ≡ Put i ∷ rest → Ready k f → Standing i f → Taken k i (7 + W) base f t t
      pub advances : (k i n : ℕ) (rest : List Action) (base : Course) (f : Store ℤ) (t : List ℤ) → past k all ≡ Advance i (i + n) ∷ rest → i + n < l → Ready k f → Standing i f → Played 1 k (Standing (i + n)) (8 + sum_of Q i n) base f t t
      pub turns : (k i : ℕ) (rest : List Action) (base : Course) (f : Store ℤ) (t : List ℤ) → past k all ≡ Turn i ∷ rest → i < l → Ready k f → Standing i f → Played 1 k Loose (8 + A i) base f t t
      pub keeps : (k i : ℕ) (rest : List Action) (base : Course) (f : Store ℤ) (snap t : List ℤ) → past k all ≡ Keep i ∷ rest → Ready k f → Loose f → Snap i snap → Taken k i (7 + 2 * W) base f (snap ++ t) t
      pub drops : (k i : ℕ) (rest : List Action) (base : Course) (f : Store ℤ) (snap t : List ℤ) → past k all ≡ Drop i ∷ rest → Ready k f → Loose f → Snap i snap → Played 1 k (Standing i) (7 + W) base f (snap ++ t) t

    -- what an action takes besides steps, over all actions and for each step
    abbrev pub each : ℕ
    each = 30 + 2 * W

    -- so many actions from the k-th on, which turn n steps from lo on with r repetitions, take at most so much
    pub record PlayedWithin (count k spare lo n r : ℕ) (base : Course) (f : Store ℤ) (t t' : List ℤ) : Type 0 where
      pub most : ℕ
      pub played : Played count k Loose most base f t t'
      pub few : most + spare ≤ each * n + r * sum_of Q lo n + sum_of A lo n

    abbrev PlaysStored : ℕ → ℕ → ℕ → List Action → Type 0
    PlaysStored lo n s xs = (r : ℕ) → n ≤ beta s r → (k : ℕ) (rest : List Action) (base : Course) (f : Store ℤ) (snap t : List ℤ) → past k all ≡ xs ++ rest → lo + n ≤ l → Snap lo snap → Standing lo f → Ready k f → PlayedWithin (length xs) k (22 + 3 * W) lo n r base f (snap ++ t) t

    abbrev PlaysPart : ℕ → ℕ → ℕ → List Action → Type 0
    PlaysPart lo n s xs = (r : ℕ) → n ≤ beta s r → (k : ℕ) (rest : List Action) (base : Course) (f : Store ℤ) (t : List ℤ) → past k all ≡ xs ++ rest → lo + n ≤ l → Standing lo f → Ready k f → PlayedWithin (length xs) k (15 + 2 * W) lo n r base f t t

    abbrev PlaysBack : ℕ → ℕ → ℕ → List Action → Type 0
    PlaysBack lo n s xs = (r : ℕ) → n ≤ beta s r → (k : ℕ) (rest : List Action) (base : Course) (f : Store ℤ) (snap t : List ℤ) → past k all ≡ xs ++ rest → lo + n ≤ l → Snap lo snap → Loose f → Ready k f → PlayedWithin (length xs) k (15 + W) lo n r base f (snap ++ t) t

    module _ (acts : Acts) where
      -- one step: what its adjoint takes
      sum_one : (lo n : ℕ) → n ≡ 1 → sum_of A lo n ≡ A lo
      sum_one lo n one = ap (λ z. sum_of A lo z) one ∙ (let e : A lo + 0 ≡ A lo = omega arith in e)

      each_one : (n : ℕ) → n ≡ 1 → each * n ≡ 30 + 2 * W
      each_one n one = ap (λ z. each * z) one ∙ (let e : each * 1 ≡ 30 + 2 * W = omega arith in e)

      -- one turn
      turn_part : (lo n s : ℕ) → n ≡ 1 → PlaysPart lo n s (Turn lo ∷ [])
      turn_part lo n s one r enough k rest base f t at fits stands ready = record {
        most = 8 + A lo;
        played = acts.turns k lo rest base f t at (omega (arith, one, fits)) ready stands;
        few = let e = sum_one lo n one in let g = each_one n one in omega (arith, e, g);
      }

      -- a part: a turn, or a snapshot and what comes after it
      part_played : (lo n s : ℕ) (after : List Action) → 1 ≤ n → (2 ≤ n → PlaysStored lo n s after) → PlaysPart lo n s (with_snapshot lo n after)
      part_played lo n s after some more = with_snapshot_has (λ xs. PlaysPart lo n s xs) lo n after some (λ one. turn_part lo n s one)
          (λ two r enough k rest base f t at fits stands ready.
          let a = acts.puts k lo (after ++ rest) base f t at ready stands in
          let p = a.played in
          let at2 : past (k + 1) all ≡ after ++ rest = past_some (Put lo ∷ []) k all (after ++ rest) at in
          let z = more two r enough (k + 1) rest p.later p.after a.snap t at2 fits a.is p.ends p.ready in
          record {
            most = 7 + W + z.most;
            played = played_as (1 + length after) (length (Put lo ∷ after)) k Loose (7 + W + z.most) (7 + W + z.most) base f t t (omega arith) (omega arith) (played_then 1 (length after) k (Standing lo) Loose (7 + W) z.most base f t (a.snap ++ t) t p z.played);
            few = let h = z.few in omega (arith, h);
          })

      -- back to the snapshot
      back_played : (lo n s : ℕ) (again : List Action) → 1 ≤ n → (2 ≤ n → PlaysStored lo n s again) → PlaysBack lo n s (from_snapshot lo n again)
      back_played lo n s again some more = from_snapshot_has (λ xs. PlaysBack lo n s xs) lo n again some
          (λ one r enough k rest base f snap t at fits is loose ready.
          let p = acts.drops k lo (Turn lo ∷ rest) base f snap t at ready loose is in
          let at2 : past (k + 1) all ≡ (Turn lo ∷ []) ++ rest = past_some (Drop lo ∷ []) k all (Turn lo ∷ rest) at in
          let z = turn_part lo n s one r enough (k + 1) rest p.later p.after t at2 fits p.ends p.ready in
          record {
            most = 7 + W + (8 + A lo);
            played = played_as (1 + 1) (length (Drop lo ∷ Turn lo ∷ [])) k Loose (7 + W + (8 + A lo)) (7 + W + (8 + A lo)) base f (snap ++ t) t (omega arith) (omega arith) (played_then 1 1 k (Standing lo) Loose (7 + W) (8 + A lo) base f (snap ++ t) t t p (acts.turns (k + 1) lo rest p.later p.after t at2 (omega (arith, one, fits)) p.ready p.ends));
            few = let e = sum_one lo n one in let g = each_one n one in omega (arith, e, g);
          })
          (λ two r enough k rest base f snap t at fits is loose ready.
          let a = acts.keeps k lo (again ++ rest) base f snap t at ready loose is in
          let p = a.played in
          let at2 : past (k + 1) all ≡ again ++ rest = past_some (Keep lo ∷ []) k all (again ++ rest) at in
          let z = more two r enough (k + 1) rest p.later p.after a.snap t at2 fits a.is p.ends p.ready in
          record {
            most = 7 + 2 * W + z.most;
            played = played_as (1 + length again) (length (Keep lo ∷ again)) k Loose (7 + 2 * W + z.most) (7 + 2 * W + z.most) base f (snap ++ t) t (omega arith) (omega arith) (played_then 1 (length again) k (Standing lo) Loose (7 + 2 * W) z.most base f (snap ++ t) (a.snap ++ t) t p z.played);
            few = let h = z.few in omega (arith, h);
          })

      -- an advance to the split, both parts one after the other
      split_played : HoldsOfSplits (λ lo n s xs. PlaysStored lo n s xs)
      split_played lo n s c z upper lower some_slot is above below r enough k rest base f snap t at fits snap_is stands ready =
          let xs = with_snapshot (lo + c) (n - c) upper in
          let ys = from_snapshot lo c lower in
          let p1 = acts.advances k lo c ((xs ++ ys) ++ rest) base f (snap ++ t) at (omega (arith, is.less, fits)) ready stands in
          let at2 : past (k + 1) all ≡ xs ++ (ys ++ rest) = past_some (Advance lo (lo + c) ∷ []) k all ((xs ++ ys) ++ rest) at ∙ append_assoc xs ys rest in
          let w2 = part_played (lo + c) (n - c) (s - 1) upper (omega (arith, is.less)) above (suc z) is.upper.enough (k + 1) (ys ++ rest) p1.later p1.after (snap ++ t) at2 (omega (arith, is.less, fits)) p1.ends p1.ready in
          let p2 = w2.played in
          let at3 : past (k + 1 + length xs) all ≡ ys ++ rest = past_some xs (k + 1) all (ys ++ rest) at2 in
          let w3 = back_played lo c s lower is.some below z is.lower.enough (k + 1 + length xs) rest p2.later p2.after snap t at3 (omega (arith, is.less, fits)) snap_is p2.ends p2.ready in
          let p23 = played_then (length xs) (length ys) (k + 1) Loose Loose w2.most w3.most p1.later p1.after (snap ++ t) (snap ++ t) t p2 w3.played in
          let least : suc z ≤ r = needed (cases_lt z r) in
          let whole : c + (n - c) ≡ n = omega (arith, is.less) in
          let sq = sym (sum_join Q c lo (n - c)) ∙ ap (λ v. sum_of Q lo v) whole in
          let sa = sym (sum_join A c lo (n - c)) ∙ ap (λ v. sum_of A lo v) whole in
          let ks : each * (c + (n - c)) ≡ each * c + each * (n - c) = times_sum each c (n - c) in
          let kn = ap (λ v. each * v) whole in
          let rs : r * (sum_of Q lo c + sum_of Q (lo + c) (n - c)) ≡ r * sum_of Q lo c + r * sum_of Q (lo + c) (n - c) = times_sum r (sum_of Q lo c) (sum_of Q (lo + c) (n - c)) in
          let rn = ap (λ v. r * v) sq in
          let lo_more = times_more (suc z) r (sum_of Q lo c) least in
          let up_more = times_more (suc z) r (sum_of Q (lo + c) (n - c)) least in
          let lo_one = one_more z (sum_of Q lo c) in
          let f2 = w2.few in
          let f3 = w3.few in
          record {
            most = 8 + sum_of Q lo c + (w2.most + w3.most);
            played = played_as (1 + (length xs + length ys)) (length (Advance lo (lo + c) ∷ (xs ++ ys))) k Loose (8 + sum_of Q lo c + (w2.most + w3.most)) (8 + sum_of Q lo c + (w2.most + w3.most)) base f (snap ++ t) t (omega (arith, length-append xs ys)) (omega arith) (played_then 1 (length xs + length ys) k (Standing (lo + c)) Loose (8 + sum_of Q lo c) (w2.most + w3.most) base f (snap ++ t) (snap ++ t) t p1 p23);
            few = sums (each * c) (each * (n - c)) (each * n) (r * sum_of Q lo c) (r * sum_of Q (lo + c) (n - c)) (r * sum_of Q lo n) (suc z * sum_of Q lo c) (suc z * sum_of Q (lo + c) (n - c)) (z * sum_of Q lo c) (sum_of Q lo c) (sum_of A lo c) (sum_of A (lo + c) (n - c)) (sum_of A lo n) w2.most w3.most
                (sym ks ∙ kn) (sym rs ∙ rn) sa lo_more up_more lo_one f2 f3;
          }
        where
          cases_lt : (a b : ℕ) → (a < b) ⊎ (b ≤ a)
          cases_lt a zero = inr (omega arith)
          cases_lt zero (suc b) = inl (omega arith)
          cases_lt (suc a) (suc b) = go (cases_lt a b)
            where
              go : (a < b) ⊎ (b ≤ a) → (suc a < suc b) ⊎ (suc b ≤ suc a)
              go (inl h) = inl (omega (arith, h))
              go (inr h) = inr (omega (arith, h))

          needed : (z < r) ⊎ (r ≤ z) → suc z ≤ r
          needed (inl h) = omega (arith, h)
          needed (inr h) = absurd (omega (arith, is.least.fewer r (omega (arith, h)), enough))

          sums : (kc ku kn rc ru rn zc zu yc qc ac au an m2 m3 : ℕ) → kc + ku ≡ kn → rc + ru ≡ rn → ac + au ≡ an → zc ≤ rc → zu ≤ ru → zc ≡ qc + yc →
              m2 + (15 + 2 * W) ≤ ku + zu + au → m3 + (15 + W) ≤ kc + yc + ac → 8 + qc + (m2 + m3) + (22 + 3 * W) ≤ kn + rn + an
          sums kc ku kn rc ru rn zc zu yc qc ac au an m2 m3 e1 e2 e3 l1 l2 e4 f2 f3 = omega (arith, e1, e2, e3, l1, l2, e4, f2, f3)

      -- the whole schedule of l steps with s snapshots, where the program stands at step 0
      pub schedule_played : (s : ℕ) → 0 < s → all ≡ schedule_of 0 l s → (r : ℕ) → l ≤ beta s r → (base : Course) (f : Store ℤ) (t : List ℤ) → Standing 0 f → (Standing 0 f → Loose f) → Ready 0 f → Played (length all) 0 Loose (each * l + r * sum_of Q 0 l + sum_of A 0 l) base f t t
      schedule_played s some_slot is r enough base f t stands loosen ready = go l refl
        where
          total : ℕ
          total = each * l + r * sum_of Q 0 l + sum_of A 0 l

          go : (n : ℕ) → l ≡ n → Played (length all) 0 Loose (each * l + r * sum_of Q 0 l + sum_of A 0 l) base f t t
          go zero e =
              let none : all ≡ [] = is ∙ with_snapshot-none 0 l (body l 0 l s) e in
              played_as 0 (length all) 0 Loose 0 (each * l + r * sum_of Q 0 l + sum_of A 0 l) base f t t (ap length (sym none)) (omega arith) (played_none 0 Loose base f t ready (loosen stands))
          go (suc n) e =
              let at : past 0 all ≡ schedule_of 0 l s ++ [] = is ∙ sym (append-nil (schedule_of 0 l s)) in
              let p = part_played 0 l s (body l 0 l s) (omega (arith, e)) (λ two. body_has (λ lo n s xs. PlaysStored lo n s xs) split_played l 0 l s (omega arith) some_slot two) r enough 0 [] base f t at (omega arith) stands ready in
              let h = p.few in
              played_as (length (schedule_of 0 l s)) (length all) 0 Loose p.most (each * l + r * sum_of Q 0 l + sum_of A 0 l) base f t t (ap length (sym is)) (omega (arith, h)) p.played
