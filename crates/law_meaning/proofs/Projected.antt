-- A run of a unit over some numbers, seen over others; and dual runs without their tangents.
use Rattle.std.proofs.Common.{◌≡◌, ℕ, zero, suc, ◌-◌, List, ◌∷◌, refl, ap, ◌∙◌}
use Rattle.std.specs.Prelude.{pos, map, reverse, Option, []}
use Rattle.adj_tree.specs.Code.{Var, plain, Procedure}
use Rattle.def_meaning.specs.Numbers.{Numbers, words, duals}
use Rattle.def_meaning.specs.Store.{Shape, scalar, size_of, Store}
use Rattle.def_meaning.specs.Value.{Setting}
use Rattle.def_meaning.specs.Scene.{Scene, Done}
use Rattle.def_meaning.specs.Units.{Slot, calls_of, nth_cell, from_slot, slot_of, input_store, setting_in, unit_run, dummy_slots, run_unit}
use Rattle.def_meaning.specs.Seen.{Projects, seen, seen_setting, seen_scene, slot_seen, output_seen, ending_seen}
use Rattle.law_meaning.specs.Laws.{RunProjected, TangentsForgotten}
use Rattle.def_meaning.proofs.SeenValues.{cells_seen}
use Rattle.law_meaning.proofs.SeenRuns.{then_through}
use Rattle.def_meaning.proofs.EntriesSeen.{own_names, AlikeActuals, entry_seen}
use Rattle.law_meaning.proofs.SeenCalls.{setting_seen, unit_seen, calls_carry}
use Rattle.def_meaning.proofs.WithoutTangents.{without_tangents}

module _ {C D : Type 0} (h : C → D) (n : Numbers C) (m : Numbers D) (p : Projects h n m) where
  -- a cell of a slot
  nth_seen : (cs : List C) (j : ℕ) → h (nth_cell n cs j) ≡ nth_cell m (map h cs) j
  nth_seen [] j = p.of_word (pos 0)
  nth_seen (c ∷ cs) zero = refl
  nth_seen (c ∷ cs) (suc j) = nth_seen cs j

  -- what the dummies get
  slots_alike : (input : List (Slot C)) → AlikeActuals (λ x. x) h (map (from_slot n) input) (map (from_slot m) (map (slot_seen h) input))
  slots_alike [] = tt
  slots_alike (v ∷ vs) = (record { shape = refl; cells = λ i j. nth_seen v.cells j i; place = refl }, slots_alike vs)

  -- what the dummies give back
  dummies_seen : (sh : Var → Shape) (s : Store C) (ds : List (List ℕ)) → map (slot_seen h) (map (λ d. slot_of (sh (plain d)) (s (plain d))) ds) ≡ map (λ d. slot_of (sh (plain d)) (seen (λ x. x) h s (plain d))) ds
  dummies_seen sh s [] = refl
  dummies_seen sh s (d ∷ ds) =
      λ i. record { shape = sh (plain d); cells = cells_seen h (s (plain d)) 0 (size_of (sh (plain d))) i } ∷ dummies_seen sh s ds i

  module _ (units : List Procedure) (u : Procedure) (input : List (Slot C)) (tape : List C) (room : Option ℕ) where
    abbrev here : Setting C
    here = record { numbers = n; shape = λ x. scalar; room = room; level = 0 }

    abbrev there : Setting D
    there = record { numbers = m; shape = λ x. scalar; room = room; level = 0 }

    abbrev start : Scene C
    start = record { store = input_store n u input; tape = tape; opened = 0; events = [] }

    abbrev start' : Scene D
    start' = record { store = input_store m u (map (slot_seen h) input); tape = map h tape; opened = 0; events = [] }

    -- the scene at the start
    started : seen_scene (λ x. x) h start ≡ start'
    started = ap (λ (z : Store D). record start' { store = z }) (entry_seen h n m p (λ x. x) u.dummies (map (from_slot n) input) (map (from_slot m) (map (slot_seen h) input)) (slots_alike input))

    -- the setting within the unit
    inside_same : seen_setting (λ x. x) m (setting_in here u start.store) ≡ setting_in there u start'.store
    inside_same = setting_seen h here m p (λ x. x) u start.store ∙ ap (λ (z : Scene D). setting_in there u z.store) started

    -- the run of the unit
    run_projected_at : (k : ℕ) → ending_seen h (run_unit n units u input tape room k) ≡ run_unit m units u (map (slot_seen h) input) (map h tape) room k
    run_projected_at k =
        then_through (seen_scene (λ x. x) h) (output_seen h) (unit_run (calls_of units k) here u u.line start k) (unit_run (calls_of units k) there u u.line start' k) _ _
        (unit_seen h here m p (calls_of units k) (calls_of units k) (λ x. x) u start (calls_carry h units k m (λ x. x) own_names (setting_in here u start.store) p) u.line k
        ∙ ap (λ z. unit_run (calls_of units k) there u u.line z k) started)
        (λ s left. (λ i. Done (record { slots = dummies_seen (setting_in here u start.store).shape s.store u.dummies i; tape = map h s.tape; events = reverse s.events }) (k - left))
        ∙ ap (λ (w : Setting D). Done (record { slots = dummy_slots w u (seen (λ x. x) h s.store); tape = map h s.tape; events = reverse s.events }) (k - left)) inside_same)

-- a run over some numbers, seen over others that do alike
pub run_projected : {C D : Type 0} → RunProjected C D
run_projected h n m p units u input tape room k = run_projected_at h n m p units u input tape room k

-- a dual run without its tangents
pub tangents_forgotten : TangentsForgotten
tangents_forgotten units u input tape room k = run_projected (λ a. a.0) duals words without_tangents units u input tape room k
