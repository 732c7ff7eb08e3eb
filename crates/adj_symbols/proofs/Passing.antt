-- The first fault of passes, one after the other.
use Rattle.std.proofs.Common.{◌≡◌, Bool, true, false, List, [], ◌∷◌, refl, ap, ◌∙◌, Option, Some, None, if◌then◌else◌}
use Rattle.std.specs.Option.{option_or}
use Rattle.adj_tree.specs.declared.fault.Refusal.{Refusal}
use Rattle.adj_tree.specs.declared.fault.Fault.{Fault}
use Rattle.adj_tree.specs.declared.fault.Fault.TheVariants.{Memory, Refused}
use Rattle.adj_tree.specs.Code.{Procedure}
use Rattle.def_names.specs.UnitFaults.{unit_faults}
use Rattle.def_names.specs.NameFaults.{name_faults}
use Rattle.def_names.specs.CallFaults.{call_faults}
use Rattle.def_names.specs.WriteFaults.{write_faults}
use Rattle.def_names.specs.Check.{first_fault}
use Rattle.adj_symbols.specs.Checked.{IfRefused}
use Rattle.def_names.specs.Fault.{Rules, is_before, earlier, first_of, first_in_passes}
use Rattle.def_names.specs.ChainFaults.{or_else, cycles, long_chains, chain_faults}

-- where there is a fault, nothing else is looked at
kept : (r : Refusal) (found other : Option Refusal) → earlier r found ≡ option_or (earlier r found) other
kept r None other = refl
kept r (Some s) other = go (is_before s r)
  where
    go : (b : Bool) → (if b then Some s else Some r) ≡ option_or (if b then Some s else Some r) other
    go true = refl
    go false = refl

or_else_first : (rs ss : List Refusal) → first_of (or_else rs ss) ≡ option_or (first_of rs) (first_of ss)
or_else_first [] ss = refl
or_else_first (r ∷ rs) ss = kept r (first_of rs) (first_of ss)

-- the first fault of chains: of the cycles where there is one, and else of the long chains
pub cycles_first : (m : Rules) (ps : List Procedure) (f : Refusal) → first_of (cycles ps) ≡ Some f → first_of (chain_faults m ps) ≡ Some f
cycles_first m ps f h = or_else_first (cycles ps) (long_chains m ps) ∙ ap (λ o. option_or o (first_of (long_chains m ps))) h

pub chains_first : (m : Rules) (ps : List Procedure) → first_of (cycles ps) ≡ None → first_of (chain_faults m ps) ≡ first_of (long_chains m ps)
chains_first m ps h = or_else_first (cycles ps) (long_chains m ps) ∙ ap (λ o. option_or o (first_of (long_chains m ps))) h

-- a pass without a fault, and one with a fault
pub next_pass : (rs : List Refusal) (later : List (List Refusal)) (f : Option Refusal) → first_of rs ≡ None → first_in_passes later ≡ f → first_in_passes (rs ∷ later) ≡ f
next_pass rs later f h e = ap (λ o. option_or o (first_in_passes later)) h ∙ e

pub last_pass : (rs : List Refusal) (later : List (List Refusal)) (f : Refusal) → first_of rs ≡ Some f → first_in_passes (rs ∷ later) ≡ Some f
last_pass rs later f h = ap (λ o. option_or o (first_in_passes later)) h

-- what holds of a refusal
pub refused_more : (f : Fault) (P Q : Refusal → Type 0) → ((r : Refusal) → P r → Q r) → IfRefused f P → IfRefused f Q
refused_more Memory P Q h p = tt
refused_more (Refused r) P Q h p = h r p

module _ (m : Rules) (ps : List Procedure) where
  abbrev later-1 : List (List Refusal)
  later-1 = name_faults m ps ∷ call_faults ps ∷ chain_faults m ps ∷ write_faults ps ∷ []

  abbrev later-2 : List (List Refusal)
  later-2 = call_faults ps ∷ chain_faults m ps ∷ write_faults ps ∷ []

  abbrev later-3 : List (List Refusal)
  later-3 = chain_faults m ps ∷ write_faults ps ∷ []

  -- the first fault, by the pass in which it is
  pub in_units : (f : Refusal) → first_of (unit_faults ps) ≡ Some f → first_fault m ps ≡ Some f
  in_units f h = last_pass (unit_faults ps) later-1 f h

  module _ (units : first_of (unit_faults ps) ≡ None) where
    pub in_names : (f : Refusal) → first_of (name_faults m ps) ≡ Some f → first_fault m ps ≡ Some f
    in_names f h = next_pass (unit_faults ps) later-1 (Some f) units (last_pass (name_faults m ps) later-2 f h)

    module _ (names : first_of (name_faults m ps) ≡ None) where
      pub in_calls : (f : Refusal) → first_of (call_faults ps) ≡ Some f → first_fault m ps ≡ Some f
      in_calls f h = next_pass (unit_faults ps) later-1 (Some f) units (next_pass (name_faults m ps) later-2 (Some f) names (last_pass (call_faults ps) later-3 f h))

      module _ (calls : first_of (call_faults ps) ≡ None) where
        pub in_chains : (f : Refusal) → first_of (chain_faults m ps) ≡ Some f → first_fault m ps ≡ Some f
        in_chains f h = next_pass (unit_faults ps) later-1 (Some f) units (next_pass (name_faults m ps) later-2 (Some f) names (next_pass (call_faults ps) later-3 (Some f) calls (last_pass (chain_faults m ps) (write_faults ps ∷ []) f h)))

        -- the last pass says the rest
        pub in_writes : (f : Option Refusal) → first_of (chain_faults m ps) ≡ None → first_of (write_faults ps) ≡ f → first_fault m ps ≡ f
        in_writes f chains h = next_pass (unit_faults ps) later-1 f units (next_pass (name_faults m ps) later-2 f names (next_pass (call_faults ps) later-3 f calls (next_pass (chain_faults m ps) (write_faults ps ∷ []) f chains (only (first_of (write_faults ps)) ∙ h))))
          where
            only : (o : Option Refusal) → option_or o None ≡ o
            only None = refl
            only (Some r) = refl
