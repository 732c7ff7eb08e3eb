-- How the frames of a schedule go on.
use Rattle.std.proofs.Common.{◌≡◌, ℕ, suc, ◌+◌, ◌-◌, ◌≤◌, ◌<◌, ◌^◌, List, [], ◌∷◌, ◌++◌, length, sym, ◌∙◌, ap, subst, arith}
use Rattle.std.proofs.lemmas.List.{append_assoc, append-nil, length-append}
use Rattle.adj_revolve.specs.Split.{split_of}
use Rattle.adj_revolve.specs.Schedule.{from_snapshot, body, schedule_of}
use Rattle.adj_revolve.specs.Frames.{frames_actions, remaining, FramesFit, IsGoing}
use Rattle.adj_revolve.specs.declared.machine.Action.{Action}
use Rattle.adj_revolve.specs.declared.machine.Action.TheVariants.{Advance, Keep, Drop}
use Rattle.adj_revolve.specs.declared.frames.Frame.{Frame}
use Rattle.adj_revolve.specs.declared.frames.Pending.TheVariants.{Part, Body, LastTurn, Return}
use Rattle.adj_revolve.proofs.Induction.{from_snapshot-one, from_snapshot-more}
use Rattle.adj_revolve.proofs.ScheduleLemmas.{body-unfold, upper_slot}

-- what a frame gives, where it has s slots
abbrev frame_actions : ℕ → Frame → List Action
frame_actions s f = from_snapshot f.low f.first (body f.first f.low f.first s)

-- one frame more gives its actions first
frames_actions-push : (s : ℕ) (fs : List Frame) (f : Frame) → frames_actions s (fs ++ f ∷ []) ≡ frame_actions (s - length fs) f ++ frames_actions s fs
frames_actions-push s [] f =
    let e : s ≡ s - 0 = omega arith in
    ap (λ z. frame_actions z f) e ∙ sym (append-nil (frame_actions (s - 0) f))
frames_actions-push s (g ∷ gs) f =
    let e : s - 1 - length gs ≡ s - suc (length gs) = omega arith in
    ap (λ xs. xs ++ frame_actions s g) (frames_actions-push (s - 1) gs f)
    ∙ (append_assoc (frame_actions (s - 1 - length gs) f) (frames_actions (s - 1) gs) (frame_actions s g)
    ∙ ap (λ z. frame_actions z f ++ (frames_actions (s - 1) gs ++ frame_actions s g)) e)

-- a frame that fits is added, and taken away
fit_push : (fs : List Frame) (f : Frame) → FramesFit fs → 1 ≤ f.first → f.low + f.first ≤ 2 ^ 40 → FramesFit (fs ++ f ∷ [])
fit_push [] f h some within = (some, within, tt)
fit_push (g ∷ gs) f h some within = (h.0, h.1, fit_push gs f h.2 some within)

fit_pop : (fs : List Frame) (f : Frame) → FramesFit (fs ++ f ∷ []) → FramesFit fs × (1 ≤ f.first) × (f.low + f.first ≤ 2 ^ 40)
fit_pop [] f h = (tt, h.0, h.1)
fit_pop (g ∷ gs) f h = let rest = fit_pop gs f h.2 in ((h.0, h.1, rest.0), rest.1, rest.2)

-- a body is split: its frame is pushed, and the steps above the split are pending
pub body_going : (slots : ℕ) (fs gs : List Frame) (low l k : ℕ) → IsGoing slots fs (Body low l) → k ≡ split_of l (slots - length fs) → 0 < k → k < l → gs ≡ fs ++ record { low = low; first = k } ∷ [] → IsGoing slots gs (Part (low + k) (l - k))
body_going slots fs gs low l k h e some less is = record {
  few = h.few;
  deep = omega (arith, ap length is, length-append fs (record { low = low; first = k } ∷ []), h.pending_fits.2);
  fit = subst FramesFit (sym is) (fit_push fs (record { low = low; first = k }) h.fit some (omega (arith, h.pending_fits.1)));
  pending_fits = (omega arith, omega (arith, h.pending_fits.1), λ two. slot two);
}
  where
    slot : 2 ≤ l - k → 0 < slots - length gs
    slot two =
        let more : 0 < slots - length fs - 1 = upper_slot l (slots - length fs) h.pending_fits.2 h.pending_fits.0 (subst (λ z. 2 ≤ l - z) e two) in
        omega (arith, ap length is, length-append fs (record { low = low; first = k } ∷ []))

-- the advance to the split is the first of its actions
pub body_remaining : (slots : ℕ) (fs gs : List Frame) (low l k : ℕ) → IsGoing slots fs (Body low l) → k ≡ split_of l (slots - length fs) → gs ≡ fs ++ record { low = low; first = k } ∷ [] → remaining slots fs (Body low l) ≡ Advance low (low + k) ∷ remaining slots gs (Part (low + k) (l - k))
body_remaining slots fs gs low l k h e is =
    ap (λ xs. xs ++ frames_actions slots fs) unfolded
    ∙ (append_assoc (Advance low (low + k) ∷ schedule_of (low + k) (l - k) (slots - length fs - 1)) back (frames_actions slots fs)
    ∙ (ap (λ xs. Advance low (low + k) ∷ (schedule_of (low + k) (l - k) (slots - length fs - 1) ++ xs)) framed
    ∙ ap (λ z. Advance low (low + k) ∷ (schedule_of (low + k) (l - k) z ++ frames_actions slots gs)) deeper))
  where
    back : List Action
    back = from_snapshot low k (body k low k (slots - length fs))

    unfolded : body l low l (slots - length fs) ≡ Advance low (low + k) ∷ (schedule_of (low + k) (l - k) (slots - length fs - 1) ++ back)
    unfolded = subst (λ z. body l low l (slots - length fs) ≡ Advance low (low + z) ∷ (schedule_of (low + z) (l - z) (slots - length fs - 1) ++ from_snapshot low z (body z low z (slots - length fs)))) (sym e) (body-unfold low l (slots - length fs) h.pending_fits.2 h.pending_fits.0)

    framed : back ++ frames_actions slots fs ≡ frames_actions slots gs
    framed = sym (ap (λ xs. frames_actions slots xs) is ∙ frames_actions-push slots fs (record { low = low; first = k }))

    deeper : slots - length fs - 1 ≡ slots - length gs
    deeper = omega (arith, ap length is, length-append fs (record { low = low; first = k } ∷ []))

-- the last frame has one step left: its snapshot is dropped, and the turn is pending
pub return_turn : (slots : ℕ) (fs gs : List Frame) (f : Frame) → IsGoing slots fs Return → fs ≡ gs ++ f ∷ [] → f.first ≡ 1 → IsGoing slots gs (LastTurn f.low) × (remaining slots fs Return ≡ Drop f.low ∷ remaining slots gs (LastTurn f.low))
return_turn slots fs gs f h is one = (
  record {
    few = h.few;
    deep = omega (arith, h.deep, ap length is, length-append gs (f ∷ []));
    fit = (fit_pop gs f (subst FramesFit is h.fit)).0;
    pending_fits = tt;
  },
  ap (λ xs. frames_actions slots xs) is ∙ (frames_actions-push slots gs f ∙ ap (λ xs. xs ++ frames_actions slots gs) (from_snapshot-one f.low f.first (body f.first f.low f.first (slots - length gs)) one)),
)

-- it has more: its snapshot is kept, and their body is pending
pub return_keep : (slots : ℕ) (fs gs : List Frame) (f : Frame) → IsGoing slots fs Return → fs ≡ gs ++ f ∷ [] → (f.first ≡ 1 → ⊥) → IsGoing slots gs (Body f.low f.first) × (remaining slots fs Return ≡ Keep f.low ∷ remaining slots gs (Body f.low f.first))
return_keep slots fs gs f h is more =
    let fits = fit_pop gs f (subst FramesFit is h.fit) in
    let two : 2 ≤ f.first = omega (arith, fits.1) in (
      record {
        few = h.few;
        deep = omega (arith, h.deep, ap length is, length-append gs (f ∷ []));
        fit = fits.0;
        pending_fits = (two, fits.2, omega (arith, h.deep, ap length is, length-append gs (f ∷ [])));
      },
      ap (λ xs. frames_actions slots xs) is ∙ (frames_actions-push slots gs f ∙ ap (λ xs. xs ++ frames_actions slots gs) (from_snapshot-more f.low f.first (body f.first f.low f.first (slots - length gs)) two)),
    )
