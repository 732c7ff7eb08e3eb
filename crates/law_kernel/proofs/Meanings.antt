-- The runs of a unit and of its kernel, from inputs.
use Rattle.std.proofs.Common.{◌≡◌, ℕ, zero, suc, ◌+◌, ◌*◌, ◌<◌, ◌≤◌, true, List, [], ◌∷◌, map, refl, sym, ◌∙◌, arith}
use Rattle.std.specs.Prelude.{Option, Some, reverse}
use Rattle.adj_tree.specs.Code.{plain, Act, Procedure}
use Rattle.def_meaning.specs.Numbers.{Numbers}
use Rattle.def_meaning.specs.Store.{Store, scalar, size_of, cells_from}
use Rattle.def_meaning.specs.Value.{Setting}
use Rattle.def_meaning.specs.Scene.{Scene}
use Rattle.law_meaning.specs.Agree.{AgreeOn}
use Rattle.def_meaning.specs.Written.{find_unit, handed_back}
use Rattle.def_meaning.specs.Units.{Slot, Output, slot_of, dummy_slots, input_store, extent_in, shape_of, setting_in, unit_run, calls_of, run_unit}
use Rattle.law_meaning.proofs.Verdicts.{Verdict}
use Rattle.law_meaning.proofs.Longer.{unit_verdict, calls_alike}
use Rattle.law_meaning.specs.Follows.{Runs, Follows}
use Rattle.law_kernel.specs.Apart.{ShowWords, CellsOf}
use Rattle.def_meaning.specs.Padded.{own_nodes, padded_procedure, padded_program}
use Rattle.def_kernel.specs.Weights.{WeighsAtMost}
use Rattle.law_kernel.specs.Fits.{is_of, IsFit}
use Rattle.def_kernel.specs.Kernel.{lowered_unit, lowered_program, EachUnit}
use Rattle.law_kernel.proofs.Returning.{AreDummies}
use Rattle.law_kernel.proofs.Programs.{declares, are_own, units_follow}
use Rattle.law_kernel.specs.Means.{MeansTheSame}
use Rattle.law_kernel.proofs.Followed.{stays_ended, means_followed}

-- ---- outputs

-- cells that agree are equal
cells_same : {C : Type 0} (f g : ℕ → C) (i m : ℕ) → ((j : ℕ) → j < i + m → f j ≡ g j) → cells_from f i m ≡ cells_from g i m
cells_same f g i zero h = refl
cells_same f g i (suc m) h = λ k. h i (omega arith) k ∷ cells_same f g (suc i) m (λ j l. h j (omega arith)) k

-- so are slots
pub slots_same : {C : Type 0} (n : Setting C) (u : Procedure) (f g : Store C) (ds : List (List ℕ)) → AreDummies (λ d. is_of u (plain d)) ds → ((d : List ℕ) → is_of u (plain d) ≡ true → (i : ℕ) → i < size_of (n.shape (plain d)) → f (plain d) i ≡ g (plain d) i) → map (λ d. slot_of (n.shape (plain d)) (f (plain d))) ds ≡ map (λ d. slot_of (n.shape (plain d)) (g (plain d))) ds
slots_same n u f g [] a h = refl
slots_same n u f g (d ∷ ds) a h =
    λ k. record { shape = n.shape (plain d); cells = cells_same (f (plain d)) (g (plain d)) 0 (size_of (n.shape (plain d))) (λ j l. h d a.0 j (omega (arith, l))) k } ∷ slots_same n u f g ds a.1 h k

module _ {C : Type 0} (n : Numbers C) (shows : ShowWords n) (extra : Act → ℕ) (cheap : (a : Act) → extra a ≤ own_nodes a) (units : List Procedure) (fit : IsFit units) (m : ℕ) (weighs : EachUnit (λ u. WeighsAtMost m u.body) units) (same_written : (name : List ℕ) → handed_back (lowered_program units) name ≡ handed_back units name)
    (name : List ℕ) (u : Procedure) (found : find_unit units name ≡ Some u) (input : List (Slot C)) (tape : List C) (room : Option ℕ) where
  abbrev around : Setting C
  around = record { numbers = n; shape = λ x. scalar; room = room; level = 0 }

  abbrev u' : Procedure
  u' = padded_procedure extra (lowered_unit units u)

  abbrev units' : List Procedure
  units' = padded_program extra (lowered_program units)

  abbrev w : ℕ
  w = 9 * m

  abbrev start : Scene C
  start = record { store = input_store n u input; tape = tape; opened = 0; events = [] }

  abbrev here : Setting C
  here = setting_in around u start.store

  setting_is : here ≡ setting_in around u' start.store
  setting_is = λ i. record { numbers = n; shape = λ x. shape_of (map (extent_in n start.store) (sym (declares units u x) i)); room = room; level = 1 }

  abbrev Alike : Scene C → Scene C → Type 0
  Alike = AgreeOn (CellsOf here (is_of u))

  -- the runs of the unit with calls to a depth
  abbrev of_source : ℕ → Runs (Scene C)
  of_source depth = unit_run (calls_of units depth) around u u.line start

  abbrev of_kernel : ℕ → Runs (Scene C)
  of_kernel depth = unit_run (calls_of units' depth) around u' u.line start

  kernel_verdict : (d d' : ℕ) → d ≤ d' → (k : ℕ) → Verdict (of_kernel d) (of_kernel d') k
  kernel_verdict d d' le k = unit_verdict (calls_of units' d) (calls_of units' d') (calls_alike units' d d' le) around u' u.line start k

  -- the kernel follows the unit
  follows : (k : ℕ) → Follows Alike w 0 (of_source k) (of_kernel k) k
  follows k = units_follow C extra cheap units fit m w (omega arith) weighs same_written k name u found around shows u.line start start k (omega arith) setting_is (record { store = λ x i h. refl; tape = refl; opened = refl; events = refl })

  -- what they give
  abbrev source_output : Scene C → Output C
  source_output s = record { slots = dummy_slots here u s.store; tape = s.tape; events = reverse s.events }

  abbrev kernel_output : Scene C → Output C
  kernel_output s = record { slots = dummy_slots (setting_in around u' start.store) u' s.store; tape = s.tape; events = reverse s.events }

  -- and gives the same
  same_output : (s t : Scene C) → Alike s t → source_output s ≡ kernel_output t
  same_output s t a =
      (λ i. record { slots = slots_same here u s.store t.store u.dummies (are_own u u.dummies (λ x h. h)) (λ d h j l. a.store (plain d) j (h, l)) i; tape = a.tape i; events = reverse (a.events i) })
      ∙ (λ i. record { slots = dummy_slots (setting_is i) u t.store; tape = t.tape; events = reverse t.events })

  -- so it means the same
  pub means_the_same : MeansTheSame (run_unit n units u input tape room) (run_unit n units' u' input tape room) w
  means_the_same =
      means_followed Alike (λ a b. a ≡ b) w of_source of_kernel source_output kernel_output (λ k. k) (λ k. omega arith) kernel_verdict
      (λ k m le h. stays_ended n units u input tape room k m le h) (λ k m le h. stays_ended n units' u' input tape room k m le h) follows same_output
