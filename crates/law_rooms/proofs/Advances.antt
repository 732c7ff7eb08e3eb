-- The log of a run whose reversals are nested advances by the calls directly in them less their steps, and so by the least costs of right ones.
use Rattle.std.proofs.Common.{◌≡◌, ◌≤◌, ◌<◌, ℕ, zero, suc, ◌+◌, ◌-◌, Bool, true, false, List, [], ◌∷◌, ◌++◌, map, length, refl, sym, ap, ◌∙◌, subst, arith, if◌then◌else◌}
use Rattle.std.proofs.lemmas.Bool.Decides.{nat_tests}
use Rattle.std.specs.Prelude.{ℤ, ◌==◌, ◌&&◌, max, Option, Some, None, reverse}
use Rattle.std.proofs.lemmas.List.{append-nil}
use Rattle.adj_tree.specs.Code.{name_eq}
use Rattle.adj_tree.proofs.Names.{nat_refl, nat_same}
use Rattle.adj_revolve.specs.LeastCost.{least_cost}
use Rattle.def_meaning.specs.Numbers.{words}
use Rattle.def_meaning.specs.Event.{Event, Enter, Begin, End, Marked}
use Rattle.def_meaning.specs.Log.{Reversal as Open, Log, log_from, log_of}
use Rattle.def_meaning.specs.Scene.{Done}
use Rattle.def_meaning.specs.Store.{Shape}
use Rattle.def_meaning.specs.Units.{Output, run_unit}
use Rattle.def_sweep.specs.MarkedAdjoint.{shadow_flags, joined_by}
use Rattle.def_sweep.specs.Reversals.{Reversal, calls_after, reversals_in, MarkedRun, StepUnits, ReversedLines, LoopRun, with_run, runs_in, Reverses, AreReversed}
use Rattle.law_sweep.specs.Tells.{in_order}
use Rattle.law_sweep.proofs.Told.{in_order-reverse}
use Rattle.law_sweep.proofs.Logged.{reversal_adds}
use Rattle.def_adjoint.specs.LeastCosts.{least_costs}
use Rattle.law_rooms.specs.Advances.{AdjointsAdvance}
use Rattle.def_adjoint.specs.Adjoint.{HaveOwnNames}
use Rattle.law_rooms.proofs.Nested.{Below, AtMost, AreNested, events_nested}
use Rattle.law_rooms.proofs.Rooms.{room_is_enough}
use Rattle.law_rooms.proofs.Adjoints.{done_not_full, output_is}

-- ---- what the log of events adds

-- how many reversals of units of a level are open further in
abbrev Inner : Type 0
Inner = ℕ → ℕ

abbrev one_more : ℕ → Inner → Inner
one_more level f l = if level == l then suc (f l) else f l

-- what the open reversals will add, the innermost first
abbrev pending : Inner → List Open → List Event → ℕ
pending f [] es = 0
pending f (r ∷ rs) es = (r.calls + length (calls_after r.level (f r.level) es) - r.steps) + pending (one_more r.level f) rs es

abbrev added : List Reversal → ℕ
added [] = 0
added (r ∷ rs) = (length r.calls - r.steps) + added rs

pending_same : (f g : Inner) → ((l : ℕ) → f l ≡ g l) → (rs : List Open) (es : List Event) → pending f rs es ≡ pending g rs es
pending_same f g h [] es = refl
pending_same f g h (r ∷ rs) es = λ i. (r.calls + length (calls_after r.level (h r.level i) es) - r.steps) + pending_same (one_more r.level f) (one_more r.level g) (λ l j. if r.level == l then suc (h l j) else h l j) rs es i

turned_pair : (a b : ℕ) (f : Inner) (l : ℕ) → one_more a (one_more b f) l ≡ one_more b (one_more a f) l
turned_pair a b f l = go (a == l) (b == l)
  where
    go : (x y : Bool) → (if x then suc (if y then suc (f l) else f l) else (if y then suc (f l) else f l)) ≡ (if y then suc (if x then suc (f l) else f l) else (if x then suc (f l) else f l))
    go true true = refl
    go true false = refl
    go false true = refl
    go false false = refl

-- a reversal that begins is further in for all that are open
pending_begin : (steps snapshots level height : ℕ) (es : List Event) (f : Inner) (rs : List Open) → pending f rs (Begin steps snapshots level height ∷ es) ≡ pending (one_more level f) rs es
pending_begin steps snapshots level height es f [] = refl
pending_begin steps snapshots level height es f (r ∷ rs) =
    λ i. (r.calls + length (calls_after r.level (if level == r.level then suc (f r.level) else f r.level) es) - r.steps)
    + (pending_begin steps snapshots level height es (one_more r.level f) rs ∙ pending_same (one_more level (one_more r.level f)) (one_more r.level (one_more level f)) (turned_pair level r.level f) rs es) i

-- and where it ends it isn't any more
pending_end : (level : ℕ) (es : List Event) (f : Inner) (rs : List Open) → pending (one_more level f) rs (End level ∷ es) ≡ pending f rs es
pending_end level es f [] = refl
pending_end level es f (r ∷ rs) =
    λ i. (r.calls + length (here i) - r.steps)
    + (pending_same (one_more r.level (one_more level f)) (one_more level (one_more r.level f)) (turned_pair r.level level f) rs (End level ∷ es) ∙ pending_end level es (one_more r.level f) rs) i
  where
    go : (b : Bool) → (level == r.level) ≡ b → (m : ℕ) → calls_after r.level (if b then suc m else m) (End level ∷ es) ≡ calls_after r.level m es
    go true e m = ap (λ b. calls_after r.level (if b then m else suc m) es) e
    go false e zero = ap (λ b. if b then [] else calls_after r.level 0 es) e
    go false e (suc m) = ap (λ b. calls_after r.level (if b then m else suc m) es) e

    here : calls_after r.level (one_more level f r.level) (End level ∷ es) ≡ calls_after r.level (f r.level) es
    here = go (level == r.level) refl (f r.level)

pending_marked : (line turns snapshots : ℕ) (es : List Event) (f : Inner) (rs : List Open) → pending f rs (Marked line turns snapshots ∷ es) ≡ pending f rs es
pending_marked line turns snapshots es f [] = refl
pending_marked line turns snapshots es f (r ∷ rs) = λ i. (r.calls + length (here (f r.level) i) - r.steps) + pending_marked line turns snapshots es (one_more r.level f) rs i
  where
    here : (m : ℕ) → calls_after r.level m (Marked line turns snapshots ∷ es) ≡ calls_after r.level m es
    here zero = refl
    here (suc m) = refl

-- levels of open reversals fall
abbrev Fall : ℕ → List Open → Type 0
Fall top [] = Unit {0}
Fall top (r ∷ rs) = (r.level ≤ top) × Fall r.level rs

-- an entry is direct in none of which another of the same unit is open further in
pending_enter : (name : List ℕ) (level height : ℕ) (shapes : List Shape) (es : List Event) (f : Inner) (top : ℕ) (rs : List Open) → Fall top rs → ((l : ℕ) → level ≡ suc l → l ≤ top → 1 ≤ f l) → pending f rs (Enter name level height shapes ∷ es) ≡ pending f rs es
pending_enter name level height shapes es f top [] h direct = refl
pending_enter name level height shapes es f top (r ∷ rs) h direct =
    λ i. (r.calls + length (here i) - r.steps) + pending_enter name level height shapes es (one_more r.level f) r.level rs h.1 (λ l e le. more (r.level == l) (f l) (direct l e (omega (arith, le, h.0)))) i
  where
    more : (b : Bool) (m : ℕ) → 1 ≤ m → 1 ≤ (if b then suc m else m)
    more true m h = omega arith
    more false m h = h

    no_inner : (b : Bool) (m : ℕ) → (b ≡ true → 1 ≤ m) → (b && (m == 0)) ≡ false
    no_inner true zero h = absurd (omega (arith, h refl))
    no_inner true (suc m) h = let e : (suc m == 0) ≡ false = grind (arith, nat_tests) in e
    no_inner false m h = refl

    here : calls_after r.level (f r.level) (Enter name level height shapes ∷ es) ≡ calls_after r.level (f r.level) es
    here = ap (λ b. if b then record { unit = name; height = height; shapes = shapes } ∷ calls_after r.level (f r.level) es else calls_after r.level (f r.level) es) (no_inner (level == suc r.level) (f r.level) (λ e. direct r.level (nat_same level (suc r.level) e) h.0))

abbrev no_inner_yet : Inner
no_inner_yet l = 0

abbrev levels : List Open → List ℕ
levels [] = []
levels (r ∷ rs) = r.level ∷ levels rs

abbrev Falls : List Open → Type 0
Falls [] = Unit {0}
Falls (r ∷ rs) = Fall r.level rs

falls_more : (level : ℕ) (rs : List Open) → AtMost level (levels rs) → Falls rs → Fall level rs
falls_more level [] a h = tt
falls_more level (r ∷ rs) a h = (a, h)

falls_less : (level : ℕ) (rs : List Open) → Fall level rs → Falls rs
falls_less level [] h = tt
falls_less level (r ∷ rs) h = h.1

-- what an entry does to the innermost open reversal
enter_top : (name : List ℕ) (level height : ℕ) (shapes : List Shape) (es : List Event) (r : Open) →
    (if level == suc r.level then suc r.calls else r.calls) + length (calls_after r.level 0 es) - r.steps ≡ r.calls + length (calls_after r.level 0 (Enter name level height shapes ∷ es)) - r.steps
enter_top name level height shapes es r = go (level == suc r.level)
  where
    go : (b : Bool) → (if b then suc r.calls else r.calls) + length (calls_after r.level 0 es) - r.steps ≡ r.calls + length (if b && true then record { unit = name; height = height; shapes = shapes } ∷ calls_after r.level 0 es else calls_after r.level 0 es) - r.steps
    go true = let e : suc r.calls + length (calls_after r.level 0 es) ≡ r.calls + suc (length (calls_after r.level 0 es)) = omega arith in ap (λ z. z - r.steps) e
    go false = refl

only_top : (top level : ℕ) → top < level → (l : ℕ) → level ≡ suc l → l ≤ top → 1 ≤ one_more top no_inner_yet l
only_top top level b l e le =
    let same : top ≡ l = omega arith in
    subst (λ z. 1 ≤ (if z then suc 0 else 0)) (sym (nat_refl top) ∙ ap (λ z. top == z) same) (omega arith)

begin_same : (c steps a p r : ℕ) → a + ((0 + c - steps) + p) + r ≡ a + p + ((c - steps) + r)
begin_same c steps a p r = let e : 0 + c ≡ c = omega arith in ap (λ z. a + ((z - steps) + p) + r) e ∙ omega arith

grouped : (a b p r : ℕ) → (a + b) + p + r ≡ a + (b + p) + r
grouped a b p r = omega arith

-- the whole of an entry
enter_same : (name : List ℕ) (level height : ℕ) (shapes : List Shape) (es : List Event) (r : Open) (rs : List Open) → Fall r.level rs → r.level < level →
    pending no_inner_yet (record r { calls = if level == suc r.level then suc r.calls else r.calls } ∷ rs) es ≡ pending no_inner_yet (r ∷ rs) (Enter name level height shapes ∷ es)
enter_same name level height shapes es r rs f b =
    let others = pending_enter name level height shapes es (one_more r.level no_inner_yet) r.level rs f (only_top r.level level b) in
    λ i. enter_top name level height shapes es r i + sym others i

-- the end of the innermost one
end_same : (level : ℕ) (es : List Event) (r : Open) (rs : List Open) → r.level ≡ level → pending no_inner_yet (r ∷ rs) (End level ∷ es) ≡ (r.calls - r.steps) + pending no_inner_yet rs es
end_same level es r rs e =
    let d : (level == r.level) ≡ true = ap (λ z. level == z) e ∙ nat_refl level in
    let top : r.calls + length (calls_after r.level 0 (End level ∷ es)) ≡ r.calls = ap (λ b. r.calls + length (if b then [] else calls_after r.level 0 es)) d ∙ omega arith in
    let others : pending (one_more r.level no_inner_yet) rs (End level ∷ es) ≡ pending no_inner_yet rs es = ap (λ z. pending (one_more z no_inner_yet) rs (End level ∷ es)) e ∙ pending_end level es no_inner_yet rs in
    λ i. (top i - r.steps) + others i

log_adds : (rs : List Open) (log : Log) (es : List Event) → Falls rs → AreNested (levels rs) es → (log_from rs log es).advances ≡ log.advances + pending no_inner_yet rs es + added (reversals_in es)
log_adds [] log [] f h = omega arith
log_adds (r ∷ rs) log [] f h = absurd (let e : r.level ∷ levels rs ≡ [] = h in cc)
log_adds [] log (Enter name level height shapes ∷ es) f h = log_adds [] log es tt h.1
log_adds (r ∷ rs) log (Enter name level height shapes ∷ es) f h =
    log_adds (record r { calls = if level == suc r.level then suc r.calls else r.calls } ∷ rs) (record log { height = if level == suc r.level then max log.height (height - r.start) else log.height }) es f h.1
    ∙ ap (λ z. log.advances + z + added (reversals_in es)) (enter_same name level height shapes es r rs f h.0)
log_adds [] log (Begin steps snapshots level height ∷ es) f h =
    let ih = log_adds (record { level = level; steps = steps; start = height; calls = 0 } ∷ []) (record log { reversals = suc log.reversals }) es tt h.1 in
    ih ∙ begin_same (length (calls_after level 0 es)) steps log.advances 0 (added (reversals_in es))
log_adds (r ∷ rs) log (Begin steps snapshots level height ∷ es) f h =
    let ih = log_adds (record { level = level; steps = steps; start = height; calls = 0 } ∷ r ∷ rs) (record log { reversals = suc log.reversals }) es (falls_more level (r ∷ rs) h.0 f) h.1 in
    ih ∙ begin_same (length (calls_after level 0 es)) steps log.advances (pending (one_more level no_inner_yet) (r ∷ rs) es) (added (reversals_in es))
    ∙ ap (λ z. log.advances + z + (length (calls_after level 0 es) - steps + added (reversals_in es))) (sym (pending_begin steps snapshots level height es no_inner_yet (r ∷ rs)))
log_adds [] log (End level ∷ es) f h = absurd h
log_adds (r ∷ rs) log (End level ∷ es) f h =
    log_adds rs (record log { advances = log.advances + (r.calls - r.steps) }) es (falls_less r.level rs f) h.1
    ∙ grouped log.advances (r.calls - r.steps) (pending no_inner_yet rs es) (added (reversals_in es)) ∙ ap (λ z. log.advances + z + added (reversals_in es)) (sym (end_same level es r rs h.0))
log_adds [] log (Marked line turns snapshots ∷ es) f h = log_adds [] log es f h
log_adds (r ∷ rs) log (Marked line turns snapshots ∷ es) f h = log_adds (r ∷ rs) log es f h ∙ ap (λ z. log.advances + z + added (reversals_in es)) (sym (pending_marked line turns snapshots es no_inner_yet (r ∷ rs)))

pub log_advances : (es : List Event) → AreNested [] es → (log_of es).advances ≡ added (reversals_in es)
log_advances es h = let all = log_adds [] (record { reversals = 0; advances = 0; height = 0 }) es tt h in all ∙ omega arith

-- ---- right reversals add the least costs

-- the units of these runs have names of their own
abbrev AreOwn : List LoopRun → Type 0
AreOwn [] = Unit {0}
AreOwn (l ∷ ls) = ((name_eq l.step.unit l.step.adjoint ≡ false) × (name_eq l.step.adjoint l.step.unit ≡ false)) × AreOwn ls

runs_own : (lines : ReversedLines) → HaveOwnNames lines → (es : List Event) → AreOwn (runs_in lines es)
runs_own lines h [] = tt
runs_own lines h (Enter name level height shapes ∷ es) = runs_own lines h es
runs_own lines h (Begin steps snapshots level height ∷ es) = runs_own lines h es
runs_own lines h (End level ∷ es) = runs_own lines h es
runs_own lines h (Marked line turns snapshots ∷ es) = go (lines line) refl (runs_own lines h es)
  where
    go : (o : Option StepUnits) → lines line ≡ o → AreOwn (runs_in lines es) → AreOwn (with_run o (record { line = line; turns = turns; snapshots = snapshots }) (runs_in lines es))
    go None e ih = ih
    go (Some step) e ih = (h line step e, ih)

right_add : (ls : List LoopRun) (rs : List Reversal) → AreOwn ls → AreReversed ls rs → added rs ≡ least_costs ls
right_add [] [] o h = refl
right_add [] (r ∷ rs) o h = absurd h
right_add (l ∷ ls) [] o h = absurd h
right_add (l ∷ ls) (r ∷ rs) o h = λ i. reversal_adds l r o.0.0 o.0.1 h.0 i + right_add ls rs o.1 h.1 i

-- in whichever order
cost_of : ReversedLines → Event → ℕ
cost_of lines (Enter name level height shapes) = 0
cost_of lines (Begin steps snapshots level height) = 0
cost_of lines (End level) = 0
cost_of lines (Marked line turns snapshots) = least_costs (with_run (lines line) (record { line = line; turns = turns; snapshots = snapshots }) [])

cost_first : (lines : ReversedLines) (e : Event) (es : List Event) → least_costs (runs_in lines (e ∷ es)) ≡ cost_of lines e + least_costs (runs_in lines es)
unfolding cost_of
cost_first lines (Enter name level height shapes) es = omega arith
cost_first lines (Begin steps snapshots level height) es = omega arith
cost_first lines (End level) es = omega arith
cost_first lines (Marked line turns snapshots) es = go (lines line)
  where
    go : (o : Option StepUnits) → least_costs (with_run o (record { line = line; turns = turns; snapshots = snapshots }) (runs_in lines es)) ≡ least_costs (with_run o (record { line = line; turns = turns; snapshots = snapshots }) []) + least_costs (runs_in lines es)
    go None = omega arith
    go (Some step) = omega arith

costs_turned : (lines : ReversedLines) (es later : List Event) → least_costs (runs_in lines (in_order es later)) ≡ least_costs (runs_in lines es) + least_costs (runs_in lines later)
costs_turned lines [] later = omega arith
costs_turned lines (e ∷ es) later = omega (arith, costs_turned lines es (e ∷ later), cost_first lines e later, cost_first lines e es)

costs_reversed : (lines : ReversedLines) (es : List Event) → least_costs (runs_in lines (reverse es)) ≡ least_costs (runs_in lines es)
costs_reversed lines es = ap (λ z. least_costs (runs_in lines z)) (sym (append-nil (reverse es)) ∙ sym (in_order-reverse es [])) ∙ (let all = costs_turned lines es [] in all ∙ omega arith)

-- ---- runs of adjoints

pub adjoints_advance : AdjointsAdvance
adjoints_advance lines own m ps name vars outvars qs x input shadows fit alike room room' k k' used used' out back e e' =
    let wide = room_is_enough words ps x.unit input [] room k (done_not_full (run_unit words ps x.unit input [] room k) out used e) in
    let t = x.transposes input shadows fit alike k used out (sym wide ∙ e) in
    let joined = joined_by (shadow_flags (m.shadowed name) x.unit.dummies) input shadows in
    let same = output_is words qs x.adjoint joined t.run room' k' used' back e' in
    let right : added (reversals_in t.run.output.events) ≡ least_costs (runs_in lines (reverse out.events)) = right_add (runs_in lines (reverse out.events)) (reversals_in t.run.output.events) (runs_own lines own (reverse out.events)) t.reverses in
    log_advances back.events (events_nested words qs x.adjoint joined [] room' k' used' back e') ∙ ap (λ (z : Output ℤ). added (reversals_in z.events)) same ∙ right ∙ costs_reversed lines out.events
