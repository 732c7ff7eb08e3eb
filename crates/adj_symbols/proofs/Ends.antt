-- Loops that have passed all members of a list.
use Rattle.std.proofs.Common.{◌≡◌, ℕ, ◌≤◌, List, length, map, drop, sym, ap, ◌∙◌, Option}
use Rattle.std.specs.List.{flat_map}
use Rattle.std.proofs.lemmas.List.{drop_all}
use Rattle.adj_tree.specs.declared.fault.Refusal.{Refusal}
use Rattle.def_names.specs.Fault.{first_of, sooner}
use Rattle.def_names.proofs.Order.{sooner_none}

-- where all were looked at, the first of their faults is found
pub sooner_end : {X Y : Type 0} (view : X → Y) (f : Y → List Refusal) (xs : List X) (i : ℕ) (a b : Option Refusal) → length xs ≤ i → sooner a (first_of (flat_map f (map view (drop i xs)))) ≡ b → a ≡ b
sooner_end view f xs i a b past e = sym (sooner_none a) ∙ ap (λ z. sooner a (first_of (flat_map f (map view z)))) (sym (drop_all i xs past)) ∙ e
