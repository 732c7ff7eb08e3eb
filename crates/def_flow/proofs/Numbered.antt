-- A set that is reached, told by others: where each thing has a number of its own, and beginnings and steps are those of the numbers, it is what the numbers reach.
use Rattle.std.proofs.Common.{◌≡◌, subst}
use Rattle.std.specs.Prelude.{◌↔◌}
use Rattle.adj_reach.specs.Reached.{Reached, begins, leads}

-- a thing has one number, and no other thing has it; what begins has a number, and so has all that a step leads to from what has one; nothing else begins and leads among numbers
pub record IsListed {A B : Type 0} (Begins : A → Type 0) (Leads : A → A → Type 0) (Has : A → B → Type 0) (Starts : B → Type 0) (Steps : B → B → Type 0) : Type 0 where
  pub one : (x : A) (m n : B) → Has x m → Has x n → m ≡ n
  pub own : (x y : A) (n : B) → Has x n → Has y n → x ≡ y
  pub begun : (x : A) → Begins x → (n : B) × Has x n × Starts n
  pub led : (x y : A) (m : B) → Has x m → Leads x y → (n : B) × Has y n × Steps m n
  pub only_begun : (n : B) → Starts n → (x : A) × Has x n × Begins x
  pub only_led : (x : A) (m n : B) → Has x m → Steps m n → (y : A) × Has y n × Leads x y

module _ {A B : Type 0} {Begins : A → Type 0} {Leads : A → A → Type 0} {Has : A → B → Type 0} {Starts : B → Type 0} {Steps : B → B → Type 0} (l : IsListed Begins Leads Has Starts Steps) where
  -- what is reached has a number, which is reached
  pub reached_has : (x : A) → Reached Begins Leads x → (n : B) × Has x n × Reached Starts Steps n
  reached_has x (begins b) = let o = l.begun x b in (o.0, o.1, begins o.2)
  reached_has x (leads {x = y} r h) =
      let p : (n : B) × Has y n × Reached Starts Steps n = reached_has y r in
      let o = l.led y x p.0 p.1 h in
      (o.0, o.1, leads p.2 o.2)

  -- and each number that is reached is that of a thing that is
  number_reached : (n : B) → Reached Starts Steps n → (x : A) × Has x n × Reached Begins Leads x
  number_reached n (begins s) = let o = l.only_begun n s in (o.0, o.1, begins o.2)
  number_reached n (leads {x = m} r s) =
      let p : (x : A) × Has x m × Reached Begins Leads x = number_reached m r in
      let o = l.only_led p.0 m n p.1 s in
      (o.0, o.1, leads p.2 o.2)

  -- so a thing is reached exactly where its number is
  pub exact_by_number : (x : A) (n : B) → Has x n → Reached Begins Leads x ↔ Reached Starts Steps n
  exact_by_number x n h = (
    λ r. let p : (m : B) × Has x m × Reached Starts Steps m = reached_has x r in subst (λ z. Reached Starts Steps z) (l.one x p.0 n p.1 h) p.2,
    λ r. let p : (y : A) × Has y n × Reached Begins Leads y = number_reached n r in subst (λ z. Reached Begins Leads z) (l.own p.0 x n p.1 h) p.2,
  )
