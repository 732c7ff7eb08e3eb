-- A run under new names is the run under the old ones.
use Rattle.std.proofs.Common.{◌≡◌, ℕ, List, refl, sym, ap, ◌∙◌}
use Rattle.std.proofs.lemmas.List.{map-id}
use Rattle.adj_tree.specs.Code.{Var, Terms, Code, Procedure}
use Rattle.def_meaning.specs.Numbers.{Numbers}
use Rattle.def_meaning.specs.Value.{Setting}
use Rattle.def_meaning.specs.Scene.{Scene, Outcome, Done, then_do}
use Rattle.def_meaning.specs.Run.{Calls, run}
use Rattle.def_meaning.specs.Units.{calls_of}
use Rattle.def_meaning.specs.Rename.{rename_terms, rename}
use Rattle.def_meaning.specs.Seen.{Separates, Projects, pulled, pulled_setting, pulled_scene, pulled_outcome, seen_scene, seen_outcome}
use Rattle.law_meaning.specs.Laws.{RunRenamed}
use Rattle.law_meaning.proofs.SeenRuns.{Carries, run_seen}
use Rattle.law_meaning.proofs.SeenCalls.{calls_carry}

-- numbers stay what they are
same_numbers : {C : Type 0} (n : Numbers C) → Projects (λ z. z) n n
same_numbers n = record { of_word = λ z. refl; shown = λ a. refl; negation = λ a. refl; sum = λ a b. refl; difference = λ a b. refl; product = λ a b. refl; raised_to = λ a k. refl }

-- a scene seen under other names and over the same numbers
scene_same : {C : Type 0} (r : Var → Var) (s : Scene C) → seen_scene r (λ z. z) s ≡ pulled_scene r s
scene_same r s = λ i. record { store = pulled r s.store; tape = map-id s.tape i; opened = s.opened; events = s.events }

-- the same of an outcome
outcome_same : {C : Type 0} (r : Var → Var) (o : Outcome (Scene C)) → seen_outcome r (λ z. z) o ≡ pulled_outcome r o
outcome_same r o = λ i. then_do o (λ s k. Done (scene_same r s i) k)

-- calls do the same under both sets of names
pub record CarriesNames {C : Type 0} (r : Var → Var) (n : Setting C) (q q' : Calls C) : Type 0 where
  pub by : (name : List ℕ) (args : Terms) (line : ℕ) (s : Scene C) (k : ℕ) → pulled_outcome r (q n name (rename_terms r args) line s k) ≡ q' (pulled_setting r n) name args line (pulled_scene r s) k

module _ {C : Type 0} (r : Var → Var) (sep : Separates r) (n : Setting C) where
  -- the same for any calls that carry the names
  pub run_renamed_by : (q q' : Calls C) → CarriesNames r n q q' → (c : Code) (s : Scene C) (k : ℕ) → pulled_outcome r (run q n (rename r c) s k) ≡ run q' (pulled_setting r n) c (pulled_scene r s) k
  run_renamed_by q q' carries c s k =
      sym (outcome_same r (run q n (rename r c) s k)) ∙ run_seen r sep (λ z. z) n n.numbers (same_numbers n.numbers) q q' carried c s k ∙ ap (λ z. run q' (pulled_setting r n) c z k) (scene_same r s)
    where
      carried : Carries r (λ z. z) n n.numbers q q'
      carried = record { by = λ name args line s k. outcome_same r (q n name (rename_terms r args) line s k) ∙ carries.by name args line s k ∙ ap (λ z. q' (pulled_setting r n) name args line z k) (sym (scene_same r s)) }

  -- the calls of a program carry them
  pub calls_renamed : (units : List Procedure) (depth : ℕ) → CarriesNames r n (calls_of units depth) (calls_of units depth)
  calls_renamed units depth = record {
    by = λ name args line s k.
        sym (outcome_same r (calls_of units depth n name (rename_terms r args) line s k))
        ∙ (calls_carry (λ z. z) units depth n.numbers r sep n (same_numbers n.numbers)).by name args line s k
        ∙ ap (λ z. calls_of units depth (pulled_setting r n) name args line z k) (scene_same r s);
  }

-- a run of the renamed list is the run of the list
pub run_renamed : {C : Type 0} → RunRenamed C
run_renamed r sep units depth n c s k = run_renamed_by r sep n (calls_of units depth) (calls_of units depth) (calls_renamed r sep n units depth) c s k
