-- What a schedule on its way still gives, by its frames and by what is pending.
use Rattle.std.specs.Prelude.{ℕ, ◌+◌, ◌-◌, ◌≤◌, ◌<◌, ◌^◌, List, [], ◌∷◌, ◌++◌, length}
use Rattle.adj_revolve.specs.declared.machine.Action.{Action}
use Rattle.adj_revolve.specs.declared.machine.Action.TheVariants.{Turn}
use Rattle.adj_revolve.specs.declared.frames.Frame.{Frame}
use Rattle.adj_revolve.specs.declared.frames.Pending.{Pending}
use Rattle.adj_revolve.specs.declared.frames.Pending.TheVariants.{Part, Body, LastTurn, Return}
use Rattle.adj_revolve.specs.Schedule.{schedule_of, body, from_snapshot}

-- what is pending gives these actions, with s slots
abbrev pub pending_actions : ℕ → Pending → List Action
pending_actions s (Part low steps) = schedule_of low steps s
pending_actions s (Body low steps) = body steps low steps s
pending_actions s (LastTurn low) = Turn low ∷ []
pending_actions s Return = []

-- what the frames give after that, the last one first, where the first has s slots
abbrev pub frames_actions : ℕ → List Frame → List Action
frames_actions s [] = []
frames_actions s (f ∷ fs) = frames_actions (s - 1) fs ++ from_snapshot f.low f.first (body f.first f.low f.first s)

-- all the actions that are left
abbrev pub remaining : ℕ → List Frame → Pending → List Action
remaining slots frames pending = pending_actions (slots - length frames) pending ++ frames_actions slots frames

-- the steps that are pending lie within the limit, and s slots serve them
abbrev pub PendingFits : ℕ → Pending → Type 0
PendingFits s (Part low steps) = (1 ≤ steps) × (low + steps ≤ 2 ^ 40) × (2 ≤ steps → 0 < s)
PendingFits s (Body low steps) = (2 ≤ steps) × (low + steps ≤ 2 ^ 40) × (0 < s)
PendingFits s (LastTurn low) = Unit {0}
PendingFits s Return = Unit {0}

-- the steps of each frame lie within the limit
abbrev pub FramesFit : List Frame → Type 0
FramesFit [] = Unit {0}
FramesFit (f ∷ fs) = (1 ≤ f.first) × (f.low + f.first ≤ 2 ^ 40) × FramesFit fs

-- no frame stands past the slots, and all that is left fits
pub record IsGoing (slots : ℕ) (frames : List Frame) (pending : Pending) : Type 0 where
  pub few : slots ≤ 64
  pub deep : length frames ≤ slots
  pub fit : FramesFit frames
  pub pending_fits : PendingFits (slots - length frames) pending
