-- A schedule played action by action turns the shadows through its steps from the last to the first, by the recursion of the schedule.
use Rattle.std.proofs.Common.{◌≡◌, ◌≤◌, ◌<◌, ℕ, zero, suc, ◌+◌, ◌-◌, ◌*◌, List, [], ◌∷◌, ◌++◌, length, refl, sym, ap, ◌∙◌, subst, arith, append_assoc}
use Rattle.std.specs.Prelude.{ℤ, pos}
use Rattle.std.proofs.lemmas.List.{append-nil, length-append}
use Rattle.adj_tree.specs.Code.{Var, Code}
use Rattle.adj_word.specs.Pairing.{pairing}
use Rattle.adj_revolve.specs.declared.machine.Action.{Action}
use Rattle.adj_revolve.specs.declared.machine.Action.TheVariants.{Store as Put, Advance, Turn, Keep, Drop}
use Rattle.adj_revolve.specs.Machine.{total_cost}
use Rattle.adj_revolve.specs.Schedule.{with_snapshot, from_snapshot, body, schedule_of}
use Rattle.adj_revolve.specs.LeastCost.{least_cost}
use Rattle.adj_revolve.proofs.Induction.{HoldsOfSplits, body_has, with_snapshot_has, with_snapshot-none, from_snapshot_has}
use Rattle.adj_revolve.proofs.ScheduleLemmas.{schedule_cost}
use Rattle.def_meaning.specs.Store.{Shape, Store}
use Rattle.def_meaning.specs.Value.{Setting}
use Rattle.def_meaning.specs.Run.{Calls}
use Rattle.law_sweep.specs.Pairs.{Key, Words, shadows, on_words}
use Rattle.law_sweep.specs.Scenes.{Course}
use Rattle.def_sweep.specs.Reversals.{Called, Reversal, LoopRun, times, AreReversed}
pub use Rattle.law_sweep.specs.Steps.{changes, loops_of}
use Rattle.law_sweep.proofs.Told.{times-append, AreBetween, between_append, between_wider, reversed_append}
use Rattle.law_sweep.proofs.Goings.{TurnsGo, turns_go-none, turns_go-append}

-- the actions from the k-th on, counted from 0
abbrev pub past : ℕ → List Action → List Action
past zero list = list
past (suc k) [] = []
past (suc k) (a ∷ list) = past k list

pub past_one : (k : ℕ) (list : List Action) (a : Action) (rest : List Action) → past k list ≡ a ∷ rest → past (suc k) list ≡ rest
past_one zero [] a rest h = cc
past_one zero (b ∷ list) a rest h = cc
past_one (suc k) [] a rest h = cc
past_one (suc k) (b ∷ list) a rest h = past_one k list a rest h

pub past_some : (xs : List Action) (k : ℕ) (list rest : List Action) → past k list ≡ xs ++ rest → past (k + length xs) list ≡ rest
past_some [] k list rest h = let e : k + 0 ≡ k = omega arith in ap (λ z. past z list) e ∙ h
past_some (a ∷ xs) k list rest h = let e : k + suc (length xs) ≡ suc k + length xs = omega arith in ap (λ z. past z list) e ∙ past_some xs (suc k) list rest (past_one k list a (xs ++ rest) h)

cost-append : (xs ys : List Action) → total_cost (xs ++ ys) ≡ total_cost xs + total_cost ys
cost-append [] ys = omega arith
cost-append (x ∷ xs) ys = omega (arith, cost-append xs ys)

changes-join : (change : ℕ → Words → Words) (k lo n : ℕ) (y : Words) → changes change (lo + k) n (changes change lo k y) ≡ changes change lo (k + n) y
changes-join change zero lo n y = let e : lo + 0 ≡ lo = omega arith in let g : 0 + n ≡ n = omega arith in (λ i. changes change (e i) (sym g i) y)
changes-join change (suc k) lo n y = let e : lo + suc k ≡ suc lo + k = omega arith in ap (λ z. changes change z n (changes change (suc lo) k (change lo y))) e ∙ changes-join change k (suc lo) n (change lo y) ∙ (let g : suc (k + n) ≡ suc k + n = omega arith in ap (λ z. changes change lo z y) g)

loops-join : (loops : ℕ → List LoopRun) (k lo n : ℕ) → loops_of loops (lo + k) n ++ loops_of loops lo k ≡ loops_of loops lo (k + n)
loops-join loops zero lo n = let e : lo + 0 ≡ lo = omega arith in let g : n ≡ 0 + n = omega arith in append-nil (loops_of loops (lo + 0) n) ∙ ap (λ z. loops_of loops z n) e ∙ ap (λ z. loops_of loops lo z) g
loops-join loops (suc k) lo n =
    let e : lo + suc k ≡ suc lo + k = omega arith in
    sym (append_assoc (loops_of loops (lo + suc k) n) (loops_of loops (suc lo) k) (loops lo))
    ∙ ap (λ z. z ++ loops lo) (ap (λ z. loops_of loops z n ++ loops_of loops (suc lo) k) e ∙ loops-join loops k (suc lo) n) ∙ (let g : suc (k + n) ≡ suc k + n = omega arith in ap (λ z. loops_of loops lo z) g)

module _ (q : Calls ℤ) (sh : Var → Shape) (level : ℕ) (cells : List Key) (action : Code) (entry : Var) (unit adj : List ℕ) (Kind : Called → Type 0) (words : ℕ) (Ready : ℕ → Store ℤ → Type 0) where
  abbrev nw : Setting ℤ
  nw = on_words sh level

  -- n actions from the k-th on come from the store f and the tape t to a store of which `end` holds, and the tape t'
  pub record Played (n k : ℕ) (end : Store ℤ → Type 0) (change : Words → Words) (ls : List LoopRun) (advances turns low high : ℕ) (base : Course) (f : Store ℤ) (t t' : List ℤ) : Type 0 where
    pub after : Store ℤ
    pub calls : List Called
    pub rs : List Reversal
    pub runs : TurnsGo q nw n action entry (pos 1) base f after t t' calls rs
    pub ready : Ready (k + n) after
    pub ends : end after
    pub pairs : (y : Words) → pairing cells (shadows after) y ≡ pairing cells (shadows f) (change y)
    pub reversed : AreReversed ls rs
    pub advances_are : times unit calls ≡ advances
    pub turns_are : times adj calls ≡ turns
    pub within : AreBetween Kind low high calls

  pub played_none : (k : ℕ) (end : Store ℤ → Type 0) (low high : ℕ) (base : Course) (f : Store ℤ) (t : List ℤ) → Ready k f → end f → Played 0 k end (λ y. y) [] 0 0 low high base f t t
  played_none k end low high base f t r e = record {
    after = f;
    calls = [];
    rs = [];
    runs = turns_go-none q nw action entry (pos 1) base f t;
    ready = let z : k + 0 ≡ k = omega arith in subst (λ m. Ready m f) (sym z) r;
    ends = e;
    pairs = λ y. refl;
    reversed = tt;
    advances_are = refl;
    turns_are = refl;
    within = tt;
  }

  pub played_then : (n1 n2 k : ℕ) (e1 e2 : Store ℤ → Type 0) (c1 c2 : Words → Words) (l1 l2 : List LoopRun) (a1 a2 b1 b2 low high : ℕ) (base : Course) (f : Store ℤ) (t t1 t2 : List ℤ) (p : Played n1 k e1 c1 l1 a1 b1 low high base f t t1) → Played n2 (k + n1) e2 c2 l2 a2 b2 low high p.runs.later p.after t1 t2 → Played (n1 + n2) k e2 (λ y. c1 (c2 y)) (l1 ++ l2) (a1 + a2) (b1 + b2) low high base f t t2
  played_then n1 n2 k e1 e2 c1 c2 l1 l2 a1 a2 b1 b2 low high base f t t1 t2 p r = record {
    after = r.after;
    calls = p.calls ++ r.calls;
    rs = p.rs ++ r.rs;
    runs = turns_go-append q nw action entry (pos 1) n1 n2 base f p.after r.after t t1 t2 p.calls r.calls p.rs r.rs p.runs r.runs;
    ready = let z : k + n1 + n2 ≡ k + (n1 + n2) = omega arith in subst (λ m. Ready m r.after) z r.ready;
    ends = r.ends;
    pairs = λ y. r.pairs y ∙ p.pairs (c2 y);
    reversed = reversed_append l1 l2 p.rs r.rs p.reversed r.reversed;
    advances_are = omega (arith, times-append unit p.calls r.calls, p.advances_are, r.advances_are);
    turns_are = omega (arith, times-append adj p.calls r.calls, p.turns_are, r.turns_are);
    within = between_append Kind low high p.calls r.calls p.within r.within;
  }

  pub played_wider : (n k : ℕ) (end : Store ℤ → Type 0) (change : Words → Words) (ls : List LoopRun) (a b low high low' high' : ℕ) (base : Course) (f : Store ℤ) (t t' : List ℤ) → low' ≤ low → high ≤ high' → Played n k end change ls a b low high base f t t' → Played n k end change ls a b low' high' base f t t'
  played_wider n k end change ls a b low high low' high' base f t t' l h p = record {
    after = p.after;
    calls = p.calls;
    rs = p.rs;
    runs = p.runs;
    ready = p.ready;
    ends = p.ends;
    pairs = p.pairs;
    reversed = p.reversed;
    advances_are = p.advances_are;
    turns_are = p.turns_are;
    within = between_wider Kind low high low' high' p.calls l h p.within;
  }

  -- the same by equal numbers and maps
  pub played_as : (n n' k : ℕ) (end : Store ℤ → Type 0) (change change' : Words → Words) (ls ls' : List LoopRun) (a a' b b' low high : ℕ) (base : Course) (f : Store ℤ) (t t' : List ℤ) → n ≡ n' → ((y : Words) → change y ≡ change' y) → ls ≡ ls' → a ≡ a' → b ≡ b' → Played n k end change ls a b low high base f t t' → Played n' k end change' ls' a' b' low high base f t t'
  played_as n n' k end change change' ls ls' a a' b b' low high base f t t' en ec el ea eb p = record {
    after = p.after;
    calls = p.calls;
    rs = p.rs;
    runs = subst (λ z. TurnsGo q nw z action entry (pos 1) base f p.after t t' p.calls p.rs) en p.runs;
    ready = subst (λ z. Ready (k + z) p.after) en p.ready;
    ends = p.ends;
    pairs = λ y. p.pairs y ∙ ap (pairing cells (shadows f)) (ec y);
    reversed = subst (λ z. AreReversed z p.rs) el p.reversed;
    advances_are = p.advances_are ∙ ea;
    turns_are = p.turns_are ∙ eb;
    within = p.within;
  }

  -- `Standing i`: the store has what the step unit needs and reads as the program had it before step i, besides the loop's variable.
  -- `Loose`: it has so what the step unit doesn't write. `Snap i`: the words are a snapshot of step i.
  module _ (all : List Action) (l : ℕ) (Standing : ℕ → Store ℤ → Type 0) (Loose : Store ℤ → Type 0) (Snap : ℕ → List ℤ → Type 0) (change : ℕ → Words → Words) (loops : ℕ → List LoopRun) where
    pub record Taken (k i low high : ℕ) (base : Course) (f : Store ℤ) (t : List ℤ) : Type 0 where
      pub snap : List ℤ
      pub is : Snap i snap
      pub played : Played 1 k (Standing i) (λ y. y) [] 0 0 low high base f t (snap ++ t)

    pub record Renewed (k i low high : ℕ) (base : Course) (f : Store ℤ) (t t' : List ℤ) : Type 0 where
      pub snap : List ℤ
      pub is : Snap i snap
      pub played : Played 1 k (Standing i) (λ y. y) [] 0 0 low high base f t (snap ++ t')

    -- what each action does
    pub record Acts : Type 0 where
      pub snapshots : (i : ℕ) (snap : List ℤ) → Snap i snap → length snap ≡ words
      pub puts : (k i low high : ℕ) (rest : List Action) (base : Course) (f : Store ℤ) (t : List ℤ) → past k all ≡ Put i ∷ rest → Ready k f → Standing i f → Taken k i low high base f t
      pub advances : (k i n : ℕ) (rest : List Action) (base : Course) (f : Store ℤ) (t : List ℤ) → past k all ≡ Advance i (i + n) ∷ rest → i + n < l → Ready k f → Standing i f → Played 1 k (Standing (i + n)) (λ y. y) [] n 0 (length t) (length t) base f t t
      pub turns : (k i : ℕ) (rest : List Action) (base : Course) (f : Store ℤ) (t : List ℤ) → past k all ≡ Turn i ∷ rest → i < l → Ready k f → Standing i f → Played 1 k Loose (change i) (loops i) 0 1 (length t) (length t) base f t t
      pub keeps : (k i low high : ℕ) (rest : List Action) (base : Course) (f : Store ℤ) (snap t : List ℤ) → past k all ≡ Keep i ∷ rest → Ready k f → Loose f → Snap i snap → Renewed k i low high base f (snap ++ t) t
      pub drops : (k i low high : ℕ) (rest : List Action) (base : Course) (f : Store ℤ) (snap t : List ℤ) → past k all ≡ Drop i ∷ rest → Ready k f → Loose f → Snap i snap → Played 1 k (Standing i) (λ y. y) [] 0 0 low high base f (snap ++ t) t

    -- where lo is stored on top of the tape, and the program stands there
    abbrev PlaysStored : ℕ → ℕ → ℕ → List Action → Type 0
    PlaysStored lo n s xs = (k : ℕ) (rest : List Action) (base : Course) (f : Store ℤ) (snap t : List ℤ) → past k all ≡ xs ++ rest → lo + n ≤ l → Snap lo snap → Standing lo f → Ready k f → Played (length xs) k Loose (changes change lo n) (loops_of loops lo n) (total_cost xs) n (length t) (length t + s * words) base f (snap ++ t) t

    -- where it stands there and lo isn't stored yet
    abbrev PlaysPart : ℕ → ℕ → ℕ → List Action → Type 0
    PlaysPart lo n s xs = (k : ℕ) (rest : List Action) (base : Course) (f : Store ℤ) (t : List ℤ) → past k all ≡ xs ++ rest → lo + n ≤ l → Standing lo f → Ready k f → Played (length xs) k Loose (changes change lo n) (loops_of loops lo n) (total_cost xs) n (length t) (length t + s * words) base f t t

    -- where lo is stored and is to be gone back to
    abbrev PlaysBack : ℕ → ℕ → ℕ → List Action → Type 0
    PlaysBack lo n s xs = (k : ℕ) (rest : List Action) (base : Course) (f : Store ℤ) (snap t : List ℤ) → past k all ≡ xs ++ rest → lo + n ≤ l → Snap lo snap → Loose f → Ready k f → Played (length xs) k Loose (changes change lo n) (loops_of loops lo n) (total_cost xs) n (length t) (length t + s * words) base f (snap ++ t) t

    module _ (acts : Acts) where
      tops : (i : ℕ) (snap t : List ℤ) → Snap i snap → length (snap ++ t) ≡ words + length t
      tops i snap t h = length-append snap t ∙ ap (λ z. z + length t) (acts.snapshots i snap h)

      -- one turn
      turn_part : (lo n s : ℕ) → n ≡ 1 → PlaysPart lo n s (Turn lo ∷ [])
      turn_part lo n s one k rest base f t at fits stands ready =
          let p = acts.turns k lo rest base f t at (omega arith) ready stands in
          played_as 1 1 k Loose (change lo) (changes change lo n) (loops lo) (loops_of loops lo n) 0 (total_cost (Turn lo ∷ [])) 1 n (length t) (length t + s * words) base f t t
          refl (λ y. ap (λ z. changes change lo z y) (sym one)) (ap (λ z. loops_of loops lo z) (sym one)) (omega arith) (sym one)
          (played_wider 1 k Loose (change lo) (loops lo) 0 1 (length t) (length t) (length t) (length t + s * words) base f t t (omega arith) (omega arith) p)

      -- a part: a turn, or a snapshot and what comes after it
      part_played : (lo n s : ℕ) (after : List Action) → 1 ≤ n → (2 ≤ n → PlaysStored lo n s after) → PlaysPart lo n s (with_snapshot lo n after)
      part_played lo n s after some more = with_snapshot_has (λ xs. PlaysPart lo n s xs) lo n after some (λ one. turn_part lo n s one)
          (λ two k rest base f t at fits stands ready.
          let a = acts.puts k lo (length t) (length t + s * words) (after ++ rest) base f t at ready stands in
          let p = a.played in
          let at2 : past (k + 1) all ≡ after ++ rest = past_some (Put lo ∷ []) k all (after ++ rest) at in
          let r = more two (k + 1) rest p.runs.later p.after a.snap t at2 fits a.is p.ends p.ready in
          played_as (1 + length after) (length (Put lo ∷ after)) k Loose (changes change lo n) (changes change lo n) (loops_of loops lo n) (loops_of loops lo n) (0 + total_cost after) (total_cost (Put lo ∷ after)) (0 + n) n (length t) (length t + s * words) base f t t
          (omega arith) (λ y. refl) refl (omega arith) (omega arith)
          (played_then 1 (length after) k (Standing lo) Loose (λ y. y) (changes change lo n) [] (loops_of loops lo n) 0 (total_cost after) 0 n (length t) (length t + s * words) base f t (a.snap ++ t) t p r))

      -- back to the snapshot
      back_played : (lo n s : ℕ) (again : List Action) → 1 ≤ n → (2 ≤ n → PlaysStored lo n s again) → PlaysBack lo n s (from_snapshot lo n again)
      back_played lo n s again some more = from_snapshot_has (λ xs. PlaysBack lo n s xs) lo n again some
          (λ one k rest base f snap t at fits is loose ready.
          let p = acts.drops k lo (length t) (length t + s * words) (Turn lo ∷ rest) base f snap t at ready loose is in
          let at2 : past (k + 1) all ≡ (Turn lo ∷ []) ++ rest = past_some (Drop lo ∷ []) k all (Turn lo ∷ rest) at in
          let r = turn_part lo n s one (k + 1) rest p.runs.later p.after t at2 fits p.ends p.ready in
          played_as (1 + 1) (length (Drop lo ∷ Turn lo ∷ [])) k Loose (changes change lo n) (changes change lo n) (loops_of loops lo n) (loops_of loops lo n) (0 + total_cost (Turn lo ∷ [])) (total_cost (Drop lo ∷ Turn lo ∷ [])) (0 + n) n (length t) (length t + s * words) base f (snap ++ t) t
          (omega arith) (λ y. refl) refl (omega arith) (omega arith)
          (played_then 1 1 k (Standing lo) Loose (λ y. y) (changes change lo n) [] (loops_of loops lo n) 0 (total_cost (Turn lo ∷ [])) 0 n (length t) (length t + s * words) base f (snap ++ t) t t p r))
          (λ two k rest base f snap t at fits is loose ready.
          let a = acts.keeps k lo (length t) (length t + s * words) (again ++ rest) base f snap t at ready loose is in
          let p = a.played in
          let at2 : past (k + 1) all ≡ again ++ rest = past_some (Keep lo ∷ []) k all (again ++ rest) at in
          let r = more two (k + 1) rest p.runs.later p.after a.snap t at2 fits a.is p.ends p.ready in
          played_as (1 + length again) (length (Keep lo ∷ again)) k Loose (changes change lo n) (changes change lo n) (loops_of loops lo n) (loops_of loops lo n) (0 + total_cost again) (total_cost (Keep lo ∷ again)) (0 + n) n (length t) (length t + s * words) base f (snap ++ t) t
          (omega arith) (λ y. refl) refl (omega arith) (omega arith)
          (played_then 1 (length again) k (Standing lo) Loose (λ y. y) (changes change lo n) [] (loops_of loops lo n) 0 (total_cost again) 0 n (length t) (length t + s * words) base f (snap ++ t) (a.snap ++ t) t p r))

      -- an advance to the split, both parts one after the other
      split_played : HoldsOfSplits (λ lo n s xs. PlaysStored lo n s xs)
      split_played lo n s c z upper lower some_slot is above below k rest base f snap t at fits snap_is stands ready =
          let xs = with_snapshot (lo + c) (n - c) upper in
          let ys = from_snapshot lo c lower in
          let h = length t + s * words in
          let p1 = acts.advances k lo c ((xs ++ ys) ++ rest) base f (snap ++ t) at (omega (arith, is.less)) ready stands in
          let w1 = played_wider 1 k (Standing (lo + c)) (λ y. y) [] c 0 (length (snap ++ t)) (length (snap ++ t)) (length t) h base f (snap ++ t) (snap ++ t) (omega (arith, tops lo snap t snap_is)) (high_first lo s snap t some_slot snap_is) p1 in
          let at2 : past (k + 1) all ≡ xs ++ (ys ++ rest) = past_some (Advance lo (lo + c) ∷ []) k all ((xs ++ ys) ++ rest) at ∙ append_assoc xs ys rest in
          let p2 = part_played (lo + c) (n - c) (s - 1) upper (omega (arith, is.less)) above (k + 1) (ys ++ rest) w1.runs.later w1.after (snap ++ t) at2 (omega (arith, is.less, fits)) w1.ends w1.ready in
          let w2 = played_wider (length xs) (k + 1) Loose (changes change (lo + c) (n - c)) (loops_of loops (lo + c) (n - c)) (total_cost xs) (n - c) (length (snap ++ t)) (length (snap ++ t) + (s - 1) * words) (length t) h w1.runs.later w1.after (snap ++ t) (snap ++ t) (omega (arith, tops lo snap t snap_is)) (high_upper lo s snap t some_slot snap_is) p2 in
          let at3 : past (k + 1 + length xs) all ≡ ys ++ rest = past_some xs (k + 1) all (ys ++ rest) at2 in
          let p3 = back_played lo c s lower is.some below (k + 1 + length xs) rest w2.runs.later w2.after snap t at3 (omega (arith, is.less, fits)) snap_is w2.ends w2.ready in
          let p23 = played_then (length xs) (length ys) (k + 1) Loose Loose (changes change (lo + c) (n - c)) (changes change lo c) (loops_of loops (lo + c) (n - c)) (loops_of loops lo c) (total_cost xs) (total_cost ys) (n - c) c (length t) h w1.runs.later w1.after (snap ++ t) (snap ++ t) t w2 p3 in
          let whole : c + (n - c) ≡ n = omega (arith, is.less) in
          let advanced : lo + c - lo ≡ c = omega arith in
          played_as (1 + (length xs + length ys)) (length (Advance lo (lo + c) ∷ (xs ++ ys))) k Loose (λ y. changes change (lo + c) (n - c) (changes change lo c y)) (changes change lo n) ([] ++ (loops_of loops (lo + c) (n - c) ++ loops_of loops lo c)) (loops_of loops lo n) (c + (total_cost xs + total_cost ys)) (total_cost (Advance lo (lo + c) ∷ (xs ++ ys))) (0 + ((n - c) + c)) n (length t) h base f (snap ++ t) t
          (omega (arith, length-append xs ys)) (λ y. changes-join change c lo (n - c) y ∙ ap (λ z. changes change lo z y) whole) (loops-join loops c lo (n - c) ∙ ap (λ z. loops_of loops lo z) whole) (omega (arith, cost-append xs ys, advanced)) (omega (arith, is.less))
          (played_then 1 (length xs + length ys) k (Standing (lo + c)) Loose (λ y. y) (λ y. changes change (lo + c) (n - c) (changes change lo c y)) [] (loops_of loops (lo + c) (n - c) ++ loops_of loops lo c) c (total_cost xs + total_cost ys) 0 ((n - c) + c) (length t) h base f (snap ++ t) (snap ++ t) t w1 p23)
        where
          high_first : (lo s : ℕ) (snap t : List ℤ) → 0 < s → Snap lo snap → length (snap ++ t) ≤ length t + s * words
          high_first lo zero snap t some_slot is = absurd (omega arith)
          high_first lo (suc s) snap t some_slot is = omega (arith, tops lo snap t is)

          high_upper : (lo s : ℕ) (snap t : List ℤ) → 0 < s → Snap lo snap → length (snap ++ t) + (s - 1) * words ≤ length t + s * words
          high_upper lo zero snap t some_slot is = absurd (omega arith)
          high_upper lo (suc s) snap t some_slot is = let e : suc s - 1 ≡ s = omega arith in rw e (omega (arith, tops lo snap t is))

      -- the whole schedule of l steps with s snapshots, where the program stands at step 0
      pub schedule_played : (s : ℕ) → 0 < s → all ≡ schedule_of 0 l s → (base : Course) (f : Store ℤ) (t : List ℤ) → Standing 0 f → (Standing 0 f → Loose f) → Ready 0 f → Played (length all) 0 Loose (changes change 0 l) (loops_of loops 0 l) (least_cost l s) l (length t) (length t + s * words) base f t t
      schedule_played s some_slot is base f t stands loosen ready = go l refl
        where
          go : (n : ℕ) → l ≡ n → Played (length all) 0 Loose (changes change 0 l) (loops_of loops 0 l) (least_cost l s) l (length t) (length t + s * words) base f t t
          go zero e =
              let none : all ≡ [] = is ∙ with_snapshot-none 0 l (body l 0 l s) e in
              let cost : least_cost l s ≡ 0 = sym (schedule_cost 0 l s some_slot) ∙ ap total_cost (with_snapshot-none 0 l (body l 0 l s) e) in
              played_as 0 (length all) 0 Loose (λ y. y) (changes change 0 l) [] (loops_of loops 0 l) 0 (least_cost l s) 0 l (length t) (length t + s * words) base f t t
              (ap length (sym none)) (λ y. ap (λ z. changes change 0 z y) (sym e)) (ap (λ z. loops_of loops 0 z) (sym e)) (sym cost) (sym e)
              (played_none 0 Loose (length t) (length t + s * words) base f t ready (loosen stands))
          go (suc n) e =
              let at : past 0 all ≡ schedule_of 0 l s ++ [] = is ∙ sym (append-nil (schedule_of 0 l s)) in
              let p = part_played 0 l s (body l 0 l s) (omega arith) (λ two. body_has (λ lo n s xs. PlaysStored lo n s xs) split_played l 0 l s (omega arith) some_slot two) 0 [] base f t at (omega arith) stands ready in
              played_as (length (schedule_of 0 l s)) (length all) 0 Loose (changes change 0 l) (changes change 0 l) (loops_of loops 0 l) (loops_of loops 0 l) (total_cost (schedule_of 0 l s)) (least_cost l s) l l (length t) (length t + s * words) base f t t
              (ap length (sym is)) (λ y. refl) refl (schedule_cost 0 l s some_slot) refl p
