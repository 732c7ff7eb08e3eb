-- The log of a run counts what its reversals are: the advances are the calls directly in them less their steps.
use Rattle.std.proofs.Common.{◌≡◌, ◌<◌, ◌⊎◌, inl, inr, ℕ, suc, ◌+◌, ◌-◌, ◌*◌, true, false, List, [], ◌∷◌, ◌++◌, length, refl, sym, ap, ◌∙◌, arith, if◌then◌else◌}
use Rattle.std.specs.Prelude.{◌==◌, max, All}
use Rattle.std.proofs.lemmas.List.Elements.{All-head, All-tail}
use Rattle.adj_tree.specs.Code.{name_eq}
use Rattle.adj_tree.proofs.Names.{nat_refl, name_refl}
use Rattle.adj_revolve.specs.LeastCost.{least_cost}
use Rattle.def_meaning.specs.Store.{Shape}
use Rattle.def_meaning.specs.Event.{Event, Enter, Begin, End}
use Rattle.def_meaning.specs.Log.{Reversal as Open, Log, log_from}
use Rattle.law_sweep.specs.Tells.{in_order}
use Rattle.def_sweep.specs.Reversals.{Called, Reversal, StepUnits, LoopRun, IsOfStep, Reverses, times}
use Rattle.law_sweep.proofs.Told.{in_order-append, IsBetween}

-- the innermost open reversal, if any, is of a unit that was entered at a lower level
abbrev pub BelowTop : ℕ → List Open → Type 0
BelowTop level [] = Unit {0}
BelowTop level (r ∷ rs) = r.level < level

-- events told at the level do this to a log, whatever comes later, and add so many advances
pub record IsLogged (level : ℕ) (told : List Event) (advances : ℕ) : Type 0 where
  pub change : Log → Log
  pub adds : (log : Log) → (change log).advances ≡ log.advances + advances
  pub outer : (rs : List Open) → BelowTop level rs → (log : Log) (later : List Event) → log_from rs log (in_order told later) ≡ log_from rs (change log) later

-- and where a reversal of the unit itself is open, so many calls are direct in it
pub record IsLoggedBy (level : ℕ) (told : List Event) (calls advances : ℕ) : Type 0 where
  pub logged : IsLogged level told advances
  pub within : Open → Log → Log
  pub adds_own : (r : Open) (log : Log) → (within r log).advances ≡ log.advances + advances
  pub own : (r : Open) (rs : List Open) → r.level ≡ level → (log : Log) (later : List Event) → log_from (r ∷ rs) log (in_order told later) ≡ log_from (record r { calls = calls + r.calls } ∷ rs) (within r log) later

pub logged_append : (level : ℕ) (a b : List Event) (m n : ℕ) → IsLogged level a m → IsLogged level b n → IsLogged level (b ++ a) (m + n)
logged_append level a b m n f g = record {
  change = λ log. g.change (f.change log);
  adds = λ log. omega (arith, f.adds log, g.adds (f.change log));
  outer = λ rs h log later. ap (log_from rs log) (in_order-append b a later) ∙ f.outer rs h log (in_order b later) ∙ g.outer rs h (f.change log) later;
}

pub logged_by_append : (level : ℕ) (a b : List Event) (c d m n : ℕ) → IsLoggedBy level a c m → IsLoggedBy level b d n → IsLoggedBy level (b ++ a) (c + d) (m + n)
logged_by_append level a b c d m n f g = record {
  logged = logged_append level a b m n f.logged g.logged;
  within = λ r log. g.within (record r { calls = c + r.calls }) (f.within r log);
  adds_own = λ r log. omega (arith, f.adds_own r log, g.adds_own (record r { calls = c + r.calls }) (f.within r log));
  own = λ r rs e log later.
      let sum : d + (c + r.calls) ≡ c + d + r.calls = omega arith in
      ap (log_from (r ∷ rs) log) (in_order-append b a later) ∙ f.own r rs e log (in_order b later) ∙ g.own (record r { calls = c + r.calls }) rs e (f.within r log) later
      ∙ ap (λ z. log_from (record r { calls = z } ∷ rs) (g.within (record r { calls = c + r.calls }) (f.within r log)) later) sum;
}

not_direct : (level l : ℕ) → l < level → (suc level == suc l) ≡ false
not_direct level l h = grind arith

-- a call: direct in a reversal of the unit itself, and in no other
pub logged_call : (level height : ℕ) (name : List ℕ) (shapes : List Shape) (body : List Event) (n : ℕ) → IsLogged (suc level) body n → IsLoggedBy level (body ++ (Enter name (suc level) height shapes ∷ [])) 1 n
logged_call level height name shapes body n f = record {
  logged = record { change = f.change; adds = f.adds; outer = λ rs h log later. ap (log_from rs log) (in_order-append body (Enter name (suc level) height shapes ∷ []) later) ∙ entered rs h log (in_order body later) ∙ f.outer rs (wider rs h) log later };
  within = λ r log. f.change (record log { height = max log.height (height - r.start) });
  adds_own = λ r log. f.adds (record log { height = max log.height (height - r.start) });
  own = λ r rs e log later.
      let d : (suc level == suc r.level) ≡ true = ap (λ z. suc level == suc z) e ∙ nat_refl (suc level) in
      let less : r.level < suc level = omega arith in
      let one : 1 + r.calls ≡ suc r.calls = omega arith in
      ap (log_from (r ∷ rs) log) (in_order-append body (Enter name (suc level) height shapes ∷ []) later)
      ∙ (λ i. log_from (record r { calls = if d i then suc r.calls else r.calls } ∷ rs) (record log { height = if d i then max log.height (height - r.start) else log.height }) (in_order body later))
      ∙ f.outer (record r { calls = suc r.calls } ∷ rs) less (record log { height = max log.height (height - r.start) }) later
      ∙ ap (λ z. log_from (record r { calls = z } ∷ rs) (f.change (record log { height = max log.height (height - r.start) })) later) (sym one);
}
  where
    wider : (rs : List Open) → BelowTop level rs → BelowTop (suc level) rs
    wider [] h = tt
    wider (r ∷ rs) h = omega arith

    entered : (rs : List Open) → BelowTop level rs → (log : Log) (es : List Event) → log_from rs log (Enter name (suc level) height shapes ∷ es) ≡ log_from rs log es
    entered [] h log es = refl
    entered (r ∷ rs) h log es =
        let d = not_direct level r.level h in
        λ i. log_from (record r { calls = if d i then suc r.calls else r.calls } ∷ rs) (record log { height = if d i then max log.height (height - r.start) else log.height }) es

-- a reversal: the calls directly in it less its steps, and what those within it add
pub logged_reversal : (level steps snapshots height : ℕ) (inner : List Event) (calls n : ℕ) → IsLoggedBy level inner calls n → IsLogged level (End level ∷ (inner ++ (Begin steps snapshots level height ∷ []))) (n + (calls - steps))
logged_reversal level steps snapshots height inner calls n f = record {
  change = λ log. record (f.within opened (started log)) { advances = (f.within opened (started log)).advances + (calls + 0 - steps) };
  adds = λ log. let e : calls + 0 ≡ calls = omega arith in ap (λ z. (f.within opened (started log)).advances + (z - steps)) e ∙ (let a = f.adds_own opened (started log) in omega (arith, a));
  outer = λ rs h log later.
      ap (log_from rs log) (in_order-append inner (Begin steps snapshots level height ∷ []) (End level ∷ later))
      ∙ begins rs log (in_order inner (End level ∷ later))
      ∙ f.own opened rs refl (started log) (End level ∷ later);
}
  where
    opened : Open
    opened = record { level = level; steps = steps; start = height; calls = 0 }

    started : Log → Log
    started log = record log { reversals = suc log.reversals }

    begins : (rs : List Open) (log : Log) (es : List Event) → log_from rs log (Begin steps snapshots level height ∷ es) ≡ log_from (opened ∷ rs) (started log) es
    begins [] log es = refl
    begins (r ∷ rs) log es = refl

-- ---- so a reversal that is right adds the least cost

calls_counted : (step : StepUnits) → name_eq step.unit step.adjoint ≡ false → name_eq step.adjoint step.unit ≡ false → (words low high : ℕ) (cs : List Called) → All (IsBetween (IsOfStep step words) low high) cs → length cs ≡ times step.unit cs + times step.adjoint cs
calls_counted step n o words low high [] h = omega arith
calls_counted step n o words low high (c ∷ cs) h =
    of_step (All-head (IsBetween (IsOfStep step words) low high) c cs h).0 (calls_counted step n o words low high cs (All-tail (IsBetween (IsOfStep step words) low high) c cs h))
  where
    go : (c.unit ≡ step.unit) ⊎ (c.unit ≡ step.adjoint) → length cs ≡ times step.unit cs + times step.adjoint cs → suc (length cs) ≡ ((if name_eq step.unit c.unit then 1 else 0) + times step.unit cs) + ((if name_eq step.adjoint c.unit then 1 else 0) + times step.adjoint cs)
    go (inl e) ih = rw (e, name_refl step.unit, o) (omega (arith, ih))
    go (inr e) ih = rw (e, name_refl step.adjoint, n) (omega (arith, ih))

    of_step : IsOfStep step words c → length cs ≡ times step.unit cs + times step.adjoint cs → suc (length cs) ≡ ((if name_eq step.unit c.unit then 1 else 0) + times step.unit cs) + ((if name_eq step.adjoint c.unit then 1 else 0) + times step.adjoint cs)
    of_step (inl e) ih = go (inl e.0) ih
    of_step (inr e) ih = go (inr e.0) ih

pub reversal_adds : (run : LoopRun) (r : Reversal) → name_eq run.step.unit run.step.adjoint ≡ false → name_eq run.step.adjoint run.step.unit ≡ false → Reverses run r → length r.calls - r.steps ≡ least_cost run.mark.turns run.mark.snapshots
reversal_adds run r n o h =
    let all = calls_counted run.step n o h.words r.start (r.start + r.snapshots * h.words) r.calls h.within in
    let advances = h.advances in
    let adjoints = h.adjoints in
    let e : length r.calls - r.steps ≡ least_cost r.steps r.snapshots = omega (arith, all, advances, adjoints) in
    e ∙ (λ i. least_cost (h.steps i) (h.snapshots i))
