-- A set that is reached by rules, where lists have what begins and the steps between the things that are known.
use Rattle.std.specs.Prelude.{List, Contains, ◌↔◌}
use Rattle.adj_reach.specs.Reached.{Reached, begins, leads}
use Rattle.adj_reach.proofs.Reaching.{reached_seen}

pub record AreLists {A : Type 0} (Begins : A → Type 0) (Leads : A → A → Type 0) (IsKnown : A → Type 0) (starts : List A) (steps : List (A × A)) : Type 0 where
  pub begun : (x : A) → Begins x → IsKnown x × Contains starts x
  pub led : (x y : A) → IsKnown x → Leads x y → IsKnown y × Contains steps (x, y)
  pub only_begun : (x : A) → Contains starts x → Begins x
  pub only_led : (x y : A) → Contains steps (x, y) → Leads x y

module _ {A : Type 0} {Begins : A → Type 0} {Leads : A → A → Type 0} {IsKnown : A → Type 0} {starts : List A} {steps : List (A × A)} (l : AreLists Begins Leads IsKnown starts steps) where
  -- what is reached is known, and reached along the lists
  pub reached_known : (x : A) → Reached Begins Leads x → IsKnown x × Reached (λ y. Contains starts y) (λ y z. Contains steps (y, z)) x
  reached_known x (begins b) = let o = l.begun x b in (o.0, begins o.1)
  reached_known x (leads {x = y} r h) =
      let p : IsKnown y × Reached (λ y. Contains starts y) (λ y z. Contains steps (y, z)) y = reached_known y r in
      let o = l.led y x p.0 h in
      (o.0, leads p.1 o.1)

  pub exact_by_lists : (x : A) → Reached Begins Leads x ↔ Reached (λ y. Contains starts y) (λ y z. Contains steps (y, z)) x
  exact_by_lists x = (λ r. (reached_known x r).1, reached_seen (λ y. y) (λ y c. l.only_begun y c) (λ y z c. l.only_led y z c) x)
