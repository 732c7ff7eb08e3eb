-- The runs of a unit and of the unit that it becomes by the first step, from inputs.
use Rattle.std.proofs.Common.{◌≡◌, ℕ, ◌+◌, ◌≤◌, ◌⊎◌, inl, inr, true, List, [], ◌∷◌, ◌++◌, refl, sym, ap, ◌∙◌, arith}
use mathlib.Core.List.{reverse-cons}
use Rattle.std.proofs.lemmas.Bool.{or_cases}
use Rattle.std.specs.Prelude.{Option, Some, reverse, ◌==◌, length}
use Rattle.adj_tree.specs.Code.{plain, name_eq, Procedure}
use Rattle.adj_tree.proofs.Names.{name_same}
use Rattle.def_meaning.specs.Numbers.{Numbers}
use Rattle.def_meaning.specs.Event.{Event, Enter, Begin, End, Marked}
use Rattle.def_meaning.specs.Store.{Store, scalar, size_of}
use Rattle.def_meaning.specs.Value.{Setting}
use Rattle.def_meaning.specs.Scene.{Scene}
use Rattle.def_meaning.specs.Written.{find_unit, handed_back}
use Rattle.def_meaning.specs.Units.{Slot, Output, dummy_slots, input_store, declared, extents_of, shape_fits, slot_fits, slots_fit, fits, setting_in, unit_run, calls_of, run_unit}
use Rattle.def_meaning.proofs.Booleans.{and_true, or_second}
use Rattle.law_meaning.proofs.Verdicts.{Verdict}
use Rattle.law_meaning.proofs.Longer.{unit_verdict, calls_alike}
use Rattle.def_meaning.specs.Apart.{has_name}
use Rattle.law_meaning.specs.Follows.{Runs, Follows}
use Rattle.def_kernel.specs.Kernel.{names_of}
use Rattle.def_kernel.specs.Stepped.{cut}
use Rattle.law_kernel.specs.StepTheorem.{marked_of, fits_itself, StepFits}
use Rattle.law_kernel.specs.StepMeans.{SameButCalls}
use Rattle.law_kernel.proofs.Stepping.{Alike}
use Rattle.law_kernel.proofs.StepUnits.{fits_by, all_fit}
use Rattle.law_kernel.proofs.StepPrograms.{deep, units_step}
use Rattle.law_kernel.specs.Means.{MeansAlike}
use Rattle.law_kernel.proofs.Programs.{are_own}
use Rattle.law_kernel.proofs.Meanings.{slots_same}
use Rattle.law_kernel.proofs.Followed.{stays_ended, means_followed}

-- ---- events

-- marks of events one after another
marked_append : (xs ys : List Event) → marked_of (xs ++ ys) ≡ marked_of xs ++ marked_of ys
marked_append [] ys = refl
marked_append (Enter a b c d ∷ xs) ys = marked_append xs ys
marked_append (Begin a b c d ∷ xs) ys = marked_append xs ys
marked_append (End a ∷ xs) ys = marked_append xs ys
marked_append (Marked a b c ∷ xs) ys = ap (λ z. Marked a b c ∷ z) (marked_append xs ys)

nothing_behind : (xs : List Event) → xs ++ [] ≡ xs
nothing_behind [] = refl
nothing_behind (x ∷ xs) = ap (λ z. x ∷ z) (nothing_behind xs)

-- and in the other order
marked_reverse : (xs : List Event) → marked_of (reverse xs) ≡ reverse (marked_of xs)
marked_reverse [] = refl
marked_reverse (Enter a b c d ∷ xs) = ap marked_of (reverse-cons (Enter a b c d) xs) ∙ marked_append (reverse xs) (Enter a b c d ∷ []) ∙ nothing_behind (marked_of (reverse xs)) ∙ marked_reverse xs
marked_reverse (Begin a b c d ∷ xs) = ap marked_of (reverse-cons (Begin a b c d) xs) ∙ marked_append (reverse xs) (Begin a b c d ∷ []) ∙ nothing_behind (marked_of (reverse xs)) ∙ marked_reverse xs
marked_reverse (End a ∷ xs) = ap marked_of (reverse-cons (End a) xs) ∙ marked_append (reverse xs) (End a ∷ []) ∙ nothing_behind (marked_of (reverse xs)) ∙ marked_reverse xs
marked_reverse (Marked a b c ∷ xs) = ap marked_of (reverse-cons (Marked a b c) xs) ∙ marked_append (reverse xs) (Marked a b c ∷ []) ∙ ap (λ z. z ++ (Marked a b c ∷ [])) (marked_reverse xs) ∙ sym (reverse-cons (Marked a b c) (marked_of xs))

-- ---- inputs

-- each dummy array of an input that fits fits itself
input_fits : {C : Type 0} (n : Numbers C) (u : Procedure) (s : Store C) (ds : List (List ℕ)) (vs : List (Slot C)) (y : List ℕ) → slots_fit n u s ds vs ≡ true → has_name y ds ≡ true → fits_itself n u s (plain y) ≡ true
input_fits n u s [] vs y f h = absurd cc
input_fits n u s (d ∷ ds) [] y f h = absurd cc
input_fits n u s (d ∷ ds) (v ∷ vs) y f h = go (or_cases (name_eq y d) (has_name y ds) h) (λ k. input_fits n u s ds vs y p.1 k)
  where
    p : (slot_fits (extents_of n u s (plain d)) v ≡ true) × (slots_fit n u s ds vs ≡ true)
    p = and_true (slot_fits (extents_of n u s (plain d)) v) (slots_fit n u s ds vs) f

    q : (shape_fits (extents_of n u s (plain d)) v.shape ≡ true) × ((length v.cells == size_of v.shape) ≡ true)
    q = and_true (shape_fits (extents_of n u s (plain d)) v.shape) (length v.cells == size_of v.shape) p.0

    go : (name_eq y d ≡ true) ⊎ (has_name y ds ≡ true) → (has_name y ds ≡ true → fits_itself n u s (plain y) ≡ true) → fits_itself n u s (plain y) ≡ true
    go (inl e) ih = ap (λ z. fits_itself n u s (plain z)) (name_same y d e) ∙ fits_by n u s (plain d) v.shape (or_second (length (declared u.declarations (plain d)) == 0) (shape_fits (extents_of n u s (plain d)) v.shape) q.0)
    go (inr e) ih = ih e

module _ {C : Type 0} (n : Numbers C) (units units' : List Procedure) (most : ℕ) (fit : (name : List ℕ) (v : Procedure) → find_unit units name ≡ Some v → StepFits C units units' most name v)
    (same_written : (name : List ℕ) (v : Procedure) → find_unit units name ≡ Some v → handed_back units' name ≡ handed_back units name)
    (name : List ℕ) (u : Procedure) (found : find_unit units name ≡ Some u) (input : List (Slot C)) (input_is : fits n u input ≡ true) (tape : List C) (room : Option ℕ) where
  abbrev around : Setting C
  around = record { numbers = n; shape = λ x. scalar; room = room; level = 0 }

  abbrev u' : Procedure
  u' = record u { body = cut (fit name u found).stepped.taken u 0 u.body }

  abbrev start : Scene C
  start = record { store = input_store n u input; tape = tape; opened = 0; events = [] }

  abbrev here : Setting C
  here = setting_in around u start.store

  abbrev Related : Scene C → Scene C → Type 0
  Related = Alike (names_of u) 0 0

  abbrev far : ℕ → ℕ
  far k = deep n room units units' most fit same_written k

  abbrev of_source : ℕ → Runs (Scene C)
  of_source depth = unit_run (calls_of units depth) around u u.line start

  abbrev of_kernel : ℕ → Runs (Scene C)
  of_kernel depth = unit_run (calls_of units' depth) around u' u.line start

  kernel_verdict : (d d' : ℕ) → d ≤ d' → (k : ℕ) → Verdict (of_kernel d) (of_kernel d') k
  kernel_verdict d d' le k = unit_verdict (calls_of units' d) (calls_of units' d') (calls_alike units' d d' le) around u' u.line start k

  -- the stepped unit follows the unit
  follows : (k e : ℕ) → far k ≤ e → Follows Related 2 0 (of_source k) (of_kernel e) k
  follows k e le =
      units_step n room units units' most fit same_written k name u found (λ x. scalar) (λ x. scalar) 0 0 u.line start start refl refl refl
      (all_fit n units u start.store (fit name u found).extents (λ y h. input_fits n u start.store u.dummies input y input_is h)) e le k (omega arith)

  -- what they give
  abbrev source_output : Scene C → Output C
  source_output s = record { slots = dummy_slots here u s.store; tape = s.tape; events = reverse s.events }

  -- and gives the same, but for events of calls
  same_output : (s t : Scene C) → Related s t → SameButCalls (source_output s) (source_output t)
  same_output s t a = record {
    slots = slots_same here u s.store t.store u.dummies (are_own u u.dummies (λ y h. h)) (λ y h i l. a.store (plain y) i h);
    tape = a.tape;
    marked = marked_reverse s.events ∙ ap reverse a.events ∙ sym (marked_reverse t.events);
  }

  -- so it means the same, but for events of calls
  pub means_alike : MeansAlike SameButCalls (run_unit n units u input tape room) (run_unit n units' u' input tape room) 2
  means_alike =
      means_followed Related SameButCalls 2 of_source of_kernel source_output source_output (λ k. far k + k) (λ k. omega arith) kernel_verdict
      (λ k m le h. stays_ended n units u input tape room k m le h) (λ k m le h. stays_ended n units' u' input tape room k m le h) (λ k. follows k (far k + k) (omega arith)) same_output
