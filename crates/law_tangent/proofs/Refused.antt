-- On X=X*X a body that puts the tangent after the assignment is refused: with X 3 and tangent 2 the dual run gives 12, and it 36.
use Rattle.std.proofs.Common.{◌≡◌, ℕ, true, List, [], ◌∷◌, refl, sym, ap, ◌∙◌, subst, arith}
use Rattle.std.specs.Prelude.{ℤ, pos, None}
use Rattle.std.specs.Int.{int_wrap}
use Rattle.adj_word.specs.Word.{IsWord}
use Rattle.def_meaning.specs.Numbers.{words, duals}
use Rattle.def_meaning.specs.Store.{scalar}
use Rattle.def_meaning.specs.Scene.{IsMore, Outcome, Done, Trapped, More, Full}
use Rattle.def_meaning.specs.Units.{Slot, Output, run_unit}
use Rattle.law_meaning.proofs.Costs.{one_end}
use Rattle.def_sweep.specs.Tangents.{with_direction}
use Rattle.def_sweep.specs.MarkedAdjoint.{joined_by}
use Rattle.law_tangent.specs.IsTangent.{TangentDone}
use Rattle.law_tangent.specs.Refused.{squares_itself, tangent_behind, BehindIsRefused}

abbrev input : List (Slot ℤ)
input = record { shape = scalar; cells = pos 3 ∷ [] } ∷ []

abbrev given : List (Slot ℤ)
given = record { shape = scalar; cells = pos 2 ∷ [] } ∷ []

abbrev along : List (List ℤ)
along = (pos 2 ∷ []) ∷ []

abbrev ended : {C : Type 0} → Outcome (Output C) → Output C
ended (Done out used) = out
ended (Trapped t line x) = record { slots = []; tape = []; events = [] }
ended (More x) = record { slots = []; tape = []; events = [] }
ended (Full x) = record { slots = []; tape = []; events = [] }

abbrev out : Output (ℤ × ℤ)
out = ended (run_unit duals (squares_itself ∷ []) squares_itself (with_direction input along) [] None 5)

-- the tangent 2 is a word
two_word : IsWord (pos 2)
two_word = record { sfits = omega arith }

-- the second cell of some slots
abbrev second : List (Slot ℤ) → ℤ
second [] = pos 0
second (v ∷ []) = pos 0
second (v ∷ w ∷ vs) = first w.cells
  where
    first : List ℤ → ℤ
    first [] = pos 0
    first (z ∷ zs) = z

abbrev joined : List (Slot ℤ)
joined = joined_by (true ∷ []) input given

-- the run doesn't give what the definition asks
not_done : (w used : ℕ) → TangentDone w (true ∷ []) (tangent_behind ∷ []) tangent_behind joined out used 1 → ⊥
unfolding int_wrap
not_done w used t =
    let is = one_end words (tangent_behind ∷ []) tangent_behind joined [] None 9 t.enough (λ m. m) (λ m. subst IsMore (t.runs t.enough (omega arith)) m) ∙ t.runs t.enough (omega arith) in
    let same : ended (run_unit words (tangent_behind ∷ []) tangent_behind joined [] None 9) ≡ t.output = ap ended is in
    let two : pos 36 ≡ pos 12 = ap (λ (o : Output ℤ). second o.slots) same ∙ ap second t.slots in
    cc

-- so the body isn't a tangent
pub behind_is_refused : BehindIsRefused
behind_is_refused w h =
    let t = h squares_itself refl in
    let done = t.done input given along refl (refl, (refl, tt)) (record { tangents = (refl, tt); others = tt }) ((two_word, tt), tt) (refl, tt) 5 1 out refl in
    let same : tangent_behind ≡ t.unit = (let f = t.found in cc) in
    not_done w 1 (subst (λ a. TangentDone w (true ∷ []) (tangent_behind ∷ []) a joined out 1 1) (sym same) done)
