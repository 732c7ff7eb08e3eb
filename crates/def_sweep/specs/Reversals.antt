-- The reversals that a run tells of, and what they are to be for the marked loops of a program. (docs/RUNNING.md, "Events")
use Rattle.std.specs.Prelude.{◌≡◌, ◌≤◌, ◌⊎◌, ℕ, zero, suc, ◌+◌, ◌*◌, ◌==◌, ◌&&◌, List, [], ◌∷◌, All, reverse, Bool, true, false, Option, Some, None, if◌then◌else◌}
use Rattle.adj_tree.specs.Code.{name_eq}
use Rattle.adj_revolve.specs.LeastCost.{least_cost}
use Rattle.adj_revolve.specs.Machine.{Plays, total_cost}
use Rattle.adj_revolve.specs.declared.machine.Action.{Action}
use Rattle.def_meaning.specs.Store.{Shape, size_of}
use Rattle.def_meaning.specs.Event.{Event, Enter, Begin, End, Marked}

-- ---- reversals by events alone

-- a call: the unit, how many words the tape held at its entry, and the shapes of its dummies
pub record Called : Type 0 where
  pub unit : List ℕ
  pub height : ℕ
  pub shapes : List Shape

-- a reversal: its steps and snapshots, the words on the tape at its begin, the calls directly in it, and whether it came to its end
pub record Reversal : Type 0 where
  pub steps : ℕ
  pub snapshots : ℕ
  pub start : ℕ
  pub calls : List Called
  pub ended : Bool

-- the calls directly in a reversal of a unit that was entered at the level, by what comes after its begin: the entries one level
-- above, while no other reversal of that entry is open within it; `inner` counts those that are
abbrev pub calls_after : ℕ → ℕ → List Event → List Called
calls_after level inner [] = []
calls_after level inner (Enter name l height shapes ∷ es) =
    if l == suc level && inner == 0 then record { unit = name; height = height; shapes = shapes } ∷ calls_after level inner es else calls_after level inner es
calls_after level inner (Begin steps snapshots l height ∷ es) = calls_after level (if l == level then suc inner else inner) es
calls_after level zero (End l ∷ es) = if l == level then [] else calls_after level 0 es
calls_after level (suc inner) (End l ∷ es) = calls_after level (if l == level then inner else suc inner) es
calls_after level inner (Marked line turns snapshots ∷ es) = calls_after level inner es

-- whether it comes to its end
abbrev pub ends_after : ℕ → ℕ → List Event → Bool
ends_after level inner [] = false
ends_after level inner (Enter name l height shapes ∷ es) = ends_after level inner es
ends_after level inner (Begin steps snapshots l height ∷ es) = ends_after level (if l == level then suc inner else inner) es
ends_after level zero (End l ∷ es) = if l == level then true else ends_after level 0 es
ends_after level (suc inner) (End l ∷ es) = ends_after level (if l == level then inner else suc inner) es
ends_after level inner (Marked line turns snapshots ∷ es) = ends_after level inner es

-- the reversals of a run with these events, in the order of their begins; events come in order of time
abbrev pub reversals_in : List Event → List Reversal
reversals_in [] = []
reversals_in (Enter name l height shapes ∷ es) = reversals_in es
reversals_in (Begin steps snapshots level height ∷ es) =
    record { steps = steps; snapshots = snapshots; start = height; calls = calls_after level 0 es; ended = ends_after level 0 es } ∷ reversals_in es
reversals_in (End l ∷ es) = reversals_in es
reversals_in (Marked line turns snapshots ∷ es) = reversals_in es

-- ---- marked loops by events alone

-- a marked loop that ended: the line of its DO, its turns and its snapshots
pub record MarkedRun : Type 0 where
  pub line : ℕ
  pub turns : ℕ
  pub snapshots : ℕ

-- ---- what a reversal is to be

-- what a marked loop calls that is reversed by a schedule: its step unit, and the adjoint of that; and which of the dummies of the one
-- and of the other are in the snapshot of a step
pub record StepUnits : Type 0 where
  pub unit : List ℕ
  pub adjoint : List ℕ
  pub taken : List Bool
  pub taken_back : List Bool

-- the marked loops that are reversed by a schedule, by the lines of their DOs
abbrev pub ReversedLines : Type 0
ReversedLines = ℕ → Option StepUnits

-- a run of such a loop
pub record LoopRun : Type 0 where
  pub mark : MarkedRun
  pub step : StepUnits

abbrev pub with_run : Option StepUnits → MarkedRun → List LoopRun → List LoopRun
with_run None mark runs = runs
with_run (Some step) mark runs = record { mark = mark; step = step } ∷ runs

-- those runs, in the order of the events
abbrev pub runs_in : ReversedLines → List Event → List LoopRun
runs_in lines [] = []
runs_in lines (Enter name l height shapes ∷ es) = runs_in lines es
runs_in lines (Begin steps snapshots level height ∷ es) = runs_in lines es
runs_in lines (End l ∷ es) = runs_in lines es
runs_in lines (Marked line turns snapshots ∷ es) = with_run (lines line) (record { line = line; turns = turns; snapshots = snapshots }) (runs_in lines es)

-- how often a unit is called
abbrev pub times : List ℕ → List Called → ℕ
times name [] = 0
times name (c ∷ cs) = (if name_eq name c.unit then 1 else 0) + times name cs

-- how many words the snapshot takes of dummies of these shapes
abbrev pub words_taken : List Bool → List Shape → ℕ
words_taken [] shapes = 0
words_taken (t ∷ ts) [] = 0
words_taken (t ∷ ts) (shape ∷ shapes) = (if t then size_of shape else 0) + words_taken ts shapes

-- the call is of one of the two units, and a snapshot has so many words by its dummies
abbrev pub IsOfStep : StepUnits → ℕ → Called → Type 0
IsOfStep step words c = ((c.unit ≡ step.unit) × (words_taken step.taken c.shapes ≡ words)) ⊎ ((c.unit ≡ step.adjoint) × (words_taken step.taken_back c.shapes ≡ words))

-- The reversal turns the run's steps with the run's snapshots, by as few calls of the step unit as any list of actions that does so on a machine with
-- as many slots for snapshots, and by one call of its adjoint for each step. It calls nothing else. By the dummies of each call a snapshot has the same
-- number of words, and the reversal holds no more such snapshots on the tape than the run has.
pub record Reverses (run : LoopRun) (r : Reversal) : Type 0 where
  pub steps : r.steps ≡ run.mark.turns
  pub snapshots : r.snapshots ≡ run.mark.snapshots
  pub ended : r.ended ≡ true
  -- no list of actions that turns these steps with these snapshots calls the step unit less often; one calls it as often; and their number has a closed form
  pub fewest : (actions : List Action) → Plays r.steps r.snapshots actions → times run.step.unit r.calls ≤ total_cost actions
  pub attained : (actions : List Action) × (Plays r.steps r.snapshots actions × (total_cost actions ≡ times run.step.unit r.calls))
  pub advances : times run.step.unit r.calls ≡ least_cost r.steps r.snapshots
  pub adjoints : times run.step.adjoint r.calls ≡ r.steps
  -- the words of a snapshot: one number for all calls, during which the tape is at most so many snapshots higher than at the start
  pub words : ℕ
  pub within : All (λ c. IsOfStep run.step words c × ((r.start ≤ c.height) × (c.height ≤ r.start + r.snapshots * words))) r.calls

-- one for the other, in order
abbrev pub AreReversed : List LoopRun → List Reversal → Type 0
AreReversed [] [] = Unit {0}
AreReversed [] (r ∷ rs) = ⊥
AreReversed (l ∷ ls) [] = ⊥
AreReversed (l ∷ ls) (r ∷ rs) = Reverses l r × AreReversed ls rs

-- What the program told in its run and its adjoint in its own, both in order of time: the reversals of the adjoint are those of the
-- program's runs of the loops at these lines, from the last to the first, and each is right.
abbrev pub ReversesLoops : ReversedLines → List Event → List Event → Type 0
ReversesLoops lines told told' = AreReversed (runs_in lines (reverse told)) (reversals_in told')

-- ---- runs within a unit
