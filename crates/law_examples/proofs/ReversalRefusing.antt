-- What is no adjoint that reverses the loops at some lines: by one input and adjoints of the dependents at which it fails.
use Rattle.std.proofs.Common.{arith, ◌≡◌, inl, inr, ℕ, ◌+◌, ◌*◌, List, [], ◌∷◌, map, Bool, true, false, refl, sym, ap, ◌∙◌, subst}
use Rattle.std.specs.Prelude.{ℤ, ◌==◌, ◌&&◌, ◌||◌, All, length, reverse, Option, Some, None}
use Rattle.std.proofs.lemmas.List.Elements.{All-head, All-tail}
use Rattle.adj_tree.specs.Code.{name_eq, stop, Procedure}
use Rattle.adj_tree.proofs.Names.{nat_refl, name_refl}
use Rattle.adj_revolve.specs.LeastCost.{least_cost}
use Rattle.def_meaning.specs.Store.{scalar}
use Rattle.def_meaning.specs.Numbers.{words}
use Rattle.def_meaning.specs.Scene.{Outcome, Done, Trapped, More, Full, IsMore}
use Rattle.def_meaning.specs.Written.{find_unit}
use Rattle.def_meaning.specs.Units.{Slot, Output, fits, run_unit}
use Rattle.law_meaning.proofs.Costs.{one_end}
use Rattle.def_sweep.specs.Declared.{unit_at}
use Rattle.def_sweep.specs.MarkedAdjoint.{shadow_flags, joined_by}
use Rattle.def_sweep.specs.Tangents.{Ends, AreAlike}
use Rattle.def_sweep.specs.Marking.{ProgramMarks}
use Rattle.def_sweep.specs.Names.{adjoint_name}
use Rattle.def_sweep.specs.Adjoint.{TransposesBy, IsAdjointWith}
use Rattle.def_sweep.specs.Reversals.{Called, StepUnits, LoopRun, Reversal, ReversedLines, words_taken, IsOfStep, Reverses, AreReversed, times, runs_in, reversals_in}
use Rattle.law_sweep.proofs.Told.{IsBetween}

-- ---- runs that are computed

-- what a run gives, and how many statements it used
abbrev pub output_in : Outcome (Output ℤ) → Output ℤ
output_in (Done output used) = output
output_in (Trapped t line w) = record { slots = []; tape = []; events = [] }
output_in (More w) = record { slots = []; tape = []; events = [] }
output_in (Full w) = record { slots = []; tape = []; events = [] }

abbrev used_in : Outcome (Output ℤ) → ℕ
used_in (Done output used) = used
used_in (Trapped t line w) = 0
used_in (More w) = 0
used_in (Full w) = 0

-- whether a run is done
abbrev pub is_done : Outcome (Output ℤ) → Bool
is_done (Done a k) = true
is_done (Trapped t line w) = false
is_done (More w) = false
is_done (Full w) = false

-- it had enough statements
abbrev IsOver : List Procedure → Procedure → List (Slot ℤ) → ℕ → Type 0
IsOver ps u input least = IsMore (run_unit words ps u input [] None least) → ⊥

-- where a run ends, one that was computed and is over ends alike
ends_so : (ps : List Procedure) (u : Procedure) (input : List (Slot ℤ)) (least : ℕ) (e : Ends words ps u input) → IsOver ps u input least → run_unit words ps u input [] None least ≡ Done e.output e.used
ends_so ps u input least e over =
    let at_end = e.runs e.enough (omega arith) in
    one_end words ps u input [] None least e.enough over (λ h. subst IsMore at_end h) ∙ at_end

some_same : {A : Type 0} (a b : A) → (let o : Option A = Some a in o ≡ Some b) → a ≡ b
some_same a b h = cc

one_same : {A : Type 0} (a b : A) → a ∷ [] ≡ b ∷ [] → a ≡ b
one_same a b h = cc

abbrev pub is_none : {A : Type 0} → List A → Bool
is_none [] = true
is_none (x ∷ xs) = false

-- ---- reversals that are computed

-- whether a call is of one of the two units, by dummies that hold so many words of a snapshot
abbrev says : StepUnits → ℕ → Called → Bool
says step n c = (name_eq c.unit step.unit && (words_taken step.taken c.shapes == n)) || (name_eq c.unit step.adjoint && (words_taken step.taken_back c.shapes == n))

abbrev all_say : StepUnits → ℕ → List Called → Bool
all_say step n [] = true
all_say step n (c ∷ cs) = says step n c && all_say step n cs

-- whether all calls say one number, which is that of the first
abbrev are_even : StepUnits → List Called → Bool
are_even step [] = true
are_even step (c ∷ cs) = all_say step (words_taken step.taken c.shapes) (c ∷ cs) || all_say step (words_taken step.taken_back c.shapes) (c ∷ cs)

-- whether a reversal turns the steps of a run with its snapshots, by as few calls of the step unit as any schedule and one of its adjoint for each step,
-- which all say one number of words
abbrev is_right : LoopRun → Reversal → Bool
is_right run r = (r.steps == run.mark.turns) && ((r.snapshots == run.mark.snapshots) && ((times run.step.unit r.calls == least_cost r.steps r.snapshots) && ((times run.step.adjoint r.calls == r.steps) && are_even run.step r.calls)))

abbrev pub are_right : List LoopRun → List Reversal → Bool
are_right [] [] = true
are_right [] (r ∷ rs) = false
are_right (l ∷ ls) [] = false
are_right (l ∷ ls) (r ∷ rs) = is_right l r && are_right ls rs

same : (m n : ℕ) → m ≡ n → (m == n) ≡ true
same m n e = subst (λ k. (m == k) ≡ true) e (nat_refl m)

either : (a b : Bool) → b ≡ true → (a || b) ≡ true
either true b h = refl
either false b h = h

named : (x y : List ℕ) → x ≡ y → name_eq x y ≡ true
named x y e = subst (λ z. name_eq x z ≡ true) e (name_refl x)

said : (step : StepUnits) (n : ℕ) (c : Called) → IsOfStep step n c → says step n c ≡ true
said step n c (inl k) = λ i. (named c.unit step.unit k.0 i && same (words_taken step.taken c.shapes) n k.1 i) || (name_eq c.unit step.adjoint && (words_taken step.taken_back c.shapes == n))
said step n c (inr k) =
    either (name_eq c.unit step.unit && (words_taken step.taken c.shapes == n)) (name_eq c.unit step.adjoint && (words_taken step.taken_back c.shapes == n))
    (λ i. named c.unit step.adjoint k.0 i && same (words_taken step.taken_back c.shapes) n k.1 i)

all_said : (step : StepUnits) (n low high : ℕ) (cs : List Called) → All (IsBetween (IsOfStep step n) low high) cs → all_say step n cs ≡ true
all_said step n low high [] h = refl
all_said step n low high (c ∷ cs) h =
    λ i. said step n c (All-head (IsBetween (IsOfStep step n) low high) c cs h).0 i && all_said step n low high cs (All-tail (IsBetween (IsOfStep step n) low high) c cs h) i

even : (step : StepUnits) (n low high : ℕ) (cs : List Called) → All (IsBetween (IsOfStep step n) low high) cs → are_even step cs ≡ true
even step n low high [] h = refl
even step n low high (c ∷ cs) h = go (All-head (IsBetween (IsOfStep step n) low high) c cs h).0
  where
    go : IsOfStep step n c → are_even step (c ∷ cs) ≡ true
    go (inl k) = λ i. subst (λ w. all_say step w (c ∷ cs) ≡ true) (sym k.1) (all_said step n low high (c ∷ cs) h) i || all_say step (words_taken step.taken_back c.shapes) (c ∷ cs)
    go (inr k) = either (all_say step (words_taken step.taken c.shapes) (c ∷ cs)) (all_say step (words_taken step.taken_back c.shapes) (c ∷ cs)) (subst (λ w. all_say step w (c ∷ cs) ≡ true) (sym k.1) (all_said step n low high (c ∷ cs) h))

right : (l : LoopRun) (r : Reversal) → Reverses l r → is_right l r ≡ true
right l r h =
    λ i. same r.steps l.mark.turns h.steps i && (same r.snapshots l.mark.snapshots h.snapshots i && (same (times l.step.unit r.calls) (least_cost r.steps r.snapshots) h.advances i
    && (same (times l.step.adjoint r.calls) r.steps h.adjoints i && even l.step h.words r.start (r.start + r.snapshots * h.words) r.calls h.within i)))

all_right : (ls : List LoopRun) (rs : List Reversal) → AreReversed ls rs → are_right ls rs ≡ true
all_right [] [] h = refl
all_right [] (r ∷ rs) h = absurd h
all_right (l ∷ ls) [] h = absurd h
all_right (l ∷ ls) (r ∷ rs) h = λ i. right l r h.0 i && all_right ls rs h.1 i

-- ---- trials

abbrev pub word : ℤ → Slot ℤ
word z = record { shape = scalar; cells = z ∷ [] }

scalars_alike : (xs ys : List ℤ) → length xs ≡ length ys → AreAlike (map word xs) (map word ys)
scalars_alike [] [] h = tt
scalars_alike [] (y ∷ ys) h = absurd cc
scalars_alike (x ∷ xs) [] h = absurd cc
scalars_alike (x ∷ xs) (y ∷ ys) h = let e : length xs ≡ length ys = cc in (refl, (refl, scalars_alike xs ys e))

-- the adjoint of u that stands in a program
abbrev found_in : Option Procedure → Procedure
found_in None = record { line = 0; name = []; dummies = []; is_none = false; declarations = []; body = stop }
found_in (Some a) = a

abbrev pub adjoint_in : List Procedure → Procedure → List Procedure → Procedure
adjoint_in ps u qs = found_in (find_unit qs (adjoint_name ps u))

-- the program qs, in which a is the adjoint of the head u, tried on these words and shadows
module _ (lines : ReversedLines) (m : ProgramMarks) (ps : List Procedure) (head : ℕ) (vars outvars : List Bool) (qs : List Procedure) (u a : Procedure) (is_head : unit_at head ps ≡ u ∷ []) (there : find_unit qs (adjoint_name ps u) ≡ Some a)
    (xs shadows : List ℤ) (least : ℕ) (many : length xs ≡ length shadows) (fit : fits words u (map word xs) ≡ true) (done : is_done (run_unit words ps u (map word xs) [] None least) ≡ true) where
  abbrev flags_of : Procedure → List Bool
  flags_of v = shadow_flags (m.shadowed v.name) v.dummies

  abbrev own : Output ℤ
  own = output_in (run_unit words ps u (map word xs) [] None least)

  abbrev By : Procedure → Procedure → Type 0
  By v b = (input others : List (Slot ℤ)) → fits words v input ≡ true → AreAlike input others → (k used : ℕ) (output : Output ℤ) → run_unit words ps v input [] None k ≡ Done output used → TransposesBy lines (flags_of v) ps v vars outvars qs b input others output.events

  is_own : (o : Outcome (Output ℤ)) → is_done o ≡ true → o ≡ Done (output_in o) (used_in o)
  is_own (Done output used) h = refl
  is_own (Trapped t line w) h = absurd cc
  is_own (More w) h = absurd cc
  is_own (Full w) h = absurd cc

  transposed : IsAdjointWith true lines m ps head vars outvars qs → TransposesBy lines (flags_of u) ps u vars outvars qs a (map word xs) (map word shadows) own.events
  transposed h =
      let at_head : h.unit ≡ u = one_same h.unit u (sym h.is_head ∙ is_head) in
      let at_adjoint : h.adjoint ≡ a = some_same h.adjoint a (sym h.is_there ∙ ap (λ v. find_unit qs (adjoint_name ps v)) at_head ∙ there) in
      let always : By u a = subst (λ v. By v a) at_head (subst (λ b. By h.unit b) at_adjoint h.transposes) in
      always (map word xs) (map word shadows) fit (scalars_alike xs shadows many) least (used_in (run_unit words ps u (map word xs) [] None least)) own (is_own (run_unit words ps u (map word xs) [] None least) done)

  abbrev given : List (Slot ℤ)
  given = joined_by (flags_of u) (map word xs) (map word shadows)

  abbrev result : Output ℤ
  result = output_in (run_unit words qs a given [] None least)

  -- where its run is over and isn't done it is no adjoint
  pub stuck : IsOver qs a given least → is_done (run_unit words qs a given [] None least) ≡ false → IsAdjointWith true lines m ps head vars outvars qs → ⊥
  stuck over traps h =
      let r = transposed h in
      let p : is_done (run_unit words qs a given [] None least) ≡ true = ap is_done (ends_so qs a given least r.run over) in
      let c : true ≡ false = sym p ∙ traps in
      cc

  -- nor where words are left on its tape
  pub left : IsOver qs a given least → is_none result.tape ≡ false → IsAdjointWith true lines m ps head vars outvars qs → ⊥
  left over some h =
      let r = transposed h in
      let p : is_none result.tape ≡ true = ap (λ o. is_none (output_in o).tape) (ends_so qs a given least r.run over) ∙ ap is_none r.empties in
      let c : true ≡ false = sym p ∙ some in
      cc

  -- nor where its reversals aren't right
  pub wrong : IsOver qs a given least → are_right (runs_in lines (reverse own.events)) (reversals_in result.events) ≡ false → IsAdjointWith true lines m ps head vars outvars qs → ⊥
  wrong over apart h =
      let r = transposed h in
      let loops = runs_in lines (reverse own.events) in
      let p : are_right loops (reversals_in result.events) ≡ true = ap (λ o. are_right loops (reversals_in (output_in o).events)) (ends_so qs a given least r.run over) ∙ all_right loops (reversals_in r.run.output.events) r.reverses in
      let c : true ≡ false = sym p ∙ apart in
      cc
