-- A program without a fault in a text that a user writes has none where it is run: the rules of runs refuse less.
use Rattle.std.proofs.Common.{◌≡◌, ℕ, suc, nat_lt, Bool, true, false, List, [], ◌∷◌, ◌++◌, refl, ap, ap₂, ◌∙◌, arith, None}
use Rattle.std.specs.Prelude.{◌&&◌, not}
use Rattle.std.specs.List.{flat_map}
use Rattle.std.proofs.lemmas.Bool.Decides.{nat_tests}
use Rattle.adj_tree.specs.Code.{Act, assign, choose, loop, during, call, runtime, Procedure}
use Rattle.adj_tree.specs.declared.fault.Refusal.{Refusal}
use Rattle.def_names.specs.Calls.{act_chain, chain_from}
use Rattle.def_names.specs.CallFaults.{call_faults}
use Rattle.def_names.specs.ChainFaults.{begins_chain, cycles, long_chains, or_else, chain_faults}
use Rattle.def_names.specs.Check.{IsSound}
use Rattle.def_names.specs.Fault.{source_rules, run_rules, fault, passed, faults_if, first_of}
use Rattle.def_names.specs.NameFaults.{undeclared, declared_twice, taken_in, misused, has_rank, bad_extents, reserved_variables, calls_runtime, runtime_calls, faults_of_names, name_faults}
use Rattle.def_names.specs.Statements.{At, statements}
use Rattle.def_names.specs.UnitFaults.{unit_faults}
use Rattle.def_names.specs.WriteFaults.{write_faults}
use Rattle.def_names.proofs.Sound.{sound_has_none}
use Rattle.def_text.specs.declared.mode.Mode.{Mode}
use Rattle.def_text.specs.declared.mode.Mode.TheVariants as mode
use Rattle.adj_symbols.specs.Rules.{rules_for}
use Rattle.adj_symbols.proofs.Passing.{in_writes}

-- ---- lists that are empty

front_none : {X : Type 0} (xs ys : List X) → xs ++ ys ≡ [] → xs ≡ []
front_none [] ys h = refl
front_none (x ∷ xs) ys h = absurd cc

back_none : {X : Type 0} (xs ys : List X) → xs ++ ys ≡ [] → ys ≡ []
back_none [] ys h = h
back_none (x ∷ xs) ys h = absurd cc

-- where each of some things gives nothing, and what gives nothing by the one rule gives nothing by the other
none_more : {X Y : Type 0} (f g : X → List Y) → ((x : X) → f x ≡ [] → g x ≡ []) → (xs : List X) → flat_map f xs ≡ [] → flat_map g xs ≡ []
none_more f g k [] h = refl
none_more f g k (x ∷ xs) h = ap₂ (λ a b. a ++ b) (k x (front_none (f x) (flat_map f xs) h)) (none_more f g k xs (back_none (f x) (flat_map f xs) h))

if_false : (b : Bool) (r : Refusal) → faults_if b r ≡ [] → b ≡ false
if_false true r h = absurd cc
if_false false r h = refl

-- ---- names

module _ (u : Procedure) where
  abbrev ranks : Bool → At Act → List Refusal
  ranks b s = flat_map (λ n. faults_if (not (has_rank u n)) (fault 9 s.0)) (taken_in b s.1)

  abbrev runtime_at : Bool → At Act → List Refusal
  runtime_at b s = faults_if (not b && calls_runtime s.1) (fault 18 s.0)

  -- without calls of the runtime it doesn't matter how their arguments are looked at
  rank_more : (line : ℕ) (a : Act) → ranks false (line, a) ≡ [] → runtime_at false (line, a) ≡ [] → ranks true (line, a) ≡ []
  rank_more line (assign x subs e) h k = h
  rank_more line (choose c a b) h k = h
  rank_more line (loop x first last by body m) h k = h
  rank_more line (during c body) h k = h
  rank_more line (call name args) h k = h
  rank_more line (runtime r) h k = absurd cc

  ranks_more : (ss : List (At Act)) → flat_map (ranks false) ss ≡ [] → flat_map (runtime_at false) ss ≡ [] → flat_map (ranks true) ss ≡ []
  ranks_more [] h k = refl
  ranks_more (s ∷ ss) h k =
      ap₂ (λ a b. a ++ b)
      (rank_more s.0 s.1 (front_none (ranks false s) (flat_map (ranks false) ss) h) (front_none (runtime_at false s) (flat_map (runtime_at false) ss) k))
      (ranks_more ss (back_none (ranks false s) (flat_map (ranks false) ss) h) (back_none (runtime_at false s) (flat_map (runtime_at false) ss) k))

  runtime_taken : (ss : List (At Act)) → flat_map (runtime_at true) ss ≡ []
  runtime_taken [] = refl
  runtime_taken (s ∷ ss) = runtime_taken ss

  names_more : (ps : List Procedure) → faults_of_names source_rules ps u ≡ [] → faults_of_names run_rules ps u ≡ []
  names_more ps h =
      let m = source_rules in
      let h2 = back_none (undeclared u) _ h in
      let h3 = back_none (declared_twice u) _ h2 in
      let h4 = back_none (misused m u) _ h3 in
      let h5 = back_none (bad_extents u) _ h4 in
      let h6 = back_none (reserved_variables ps u) _ h5 in
      ap₂ (λ a b. a ++ b) (front_none (undeclared u) _ h)
      (ap₂ (λ a b. a ++ b) (front_none (declared_twice u) _ h2)
      (ap₂ (λ a b. a ++ b) (ranks_more (statements u.body) (front_none (misused m u) _ h3) (front_none (runtime_calls m u) _ h6))
      (ap₂ (λ a b. a ++ b) (front_none (bad_extents u) _ h4)
      (ap₂ (λ a b. a ++ b) (front_none (reserved_variables ps u) _ h5)
      (ap (λ a. a ++ []) (runtime_taken (statements u.body)))))))

all_names_more : (ps : List Procedure) → name_faults source_rules ps ≡ [] → name_faults run_rules ps ≡ []
all_names_more ps h = none_more (faults_of_names source_rules ps) (faults_of_names run_rules ps) (λ u k. names_more u ps k) ps h

-- ---- chains

or_else_none : (rs ss : List Refusal) → or_else rs ss ≡ [] → (rs ≡ []) × (ss ≡ [])
or_else_none [] ss h = (refl, h)
or_else_none (r ∷ rs) ss h = absurd cc

shorter : (n : ℕ) → nat_lt 40 n ≡ false → nat_lt 80 n ≡ false
shorter n h = grind (arith, nat_tests)

chain_more : (ps : List Procedure) (s : At Act) → faults_if (begins_chain s.1 && nat_lt 40 (suc (act_chain (chain_from ps) s.1))) (passed 40 s.0) ≡ [] → faults_if (begins_chain s.1 && nat_lt 80 (suc (act_chain (chain_from ps) s.1))) (passed 80 s.0) ≡ []
chain_more ps s h = go (begins_chain s.1) (if_false (begins_chain s.1 && nat_lt 40 (suc (act_chain (chain_from ps) s.1))) (passed 40 s.0) h)
  where
    go : (b : Bool) → (b && nat_lt 40 (suc (act_chain (chain_from ps) s.1))) ≡ false → faults_if (b && nat_lt 80 (suc (act_chain (chain_from ps) s.1))) (passed 80 s.0) ≡ []
    go true e = ap (λ b. faults_if b (passed 80 s.0)) (shorter (suc (act_chain (chain_from ps) s.1)) e)
    go false e = refl

chains_more : (ps : List Procedure) → chain_faults source_rules ps ≡ [] → chain_faults run_rules ps ≡ []
chains_more ps h =
    let o = or_else_none (cycles ps) (long_chains source_rules ps) h in
    ap (λ rs. or_else rs (long_chains run_rules ps)) o.0
    ∙ none_more (λ (u : Procedure). flat_map (λ (s : At Act). faults_if (begins_chain s.1 && nat_lt 40 (suc (act_chain (chain_from ps) s.1))) (passed 40 s.0)) (statements u.body))
    (λ (u : Procedure). flat_map (λ (s : At Act). faults_if (begins_chain s.1 && nat_lt 80 (suc (act_chain (chain_from ps) s.1))) (passed 80 s.0)) (statements u.body))
    (λ u k. none_more (λ (s : At Act). faults_if (begins_chain s.1 && nat_lt 40 (suc (act_chain (chain_from ps) s.1))) (passed 40 s.0)) (λ (s : At Act). faults_if (begins_chain s.1 && nat_lt 80 (suc (act_chain (chain_from ps) s.1))) (passed 80 s.0)) (chain_more ps) (statements u.body) k) ps o.1

-- ---- all

none_first : (rs : List Refusal) → rs ≡ [] → first_of rs ≡ None
none_first rs h = ap first_of h

pub sound_in_runs : (m : Mode) (ps : List Procedure) → IsSound (rules_for m) ps → IsSound run_rules ps
sound_in_runs mode.Source ps h =
    let n = sound_has_none source_rules ps h in
    in_writes run_rules ps (none_first (unit_faults ps) n.units) (none_first (name_faults run_rules ps) (all_names_more ps n.names)) (none_first (call_faults ps) n.calls) None
    (none_first (chain_faults run_rules ps) (chains_more ps n.chains)) (none_first (write_faults ps) n.writes)
sound_in_runs mode.Run ps h = h
