-- What is reached is the least closed set.
use Rattle.adj_reach.specs.Reached.{Reached, begins, leads, IsClosed}

pub reached_least : {A : Type 0} {Begins : A → Type 0} {Leads : A → A → Type 0} {In : A → Type 0} → IsClosed Begins Leads In → (x : A) → Reached Begins Leads x → In x
reached_least c x (begins b) = c.holds x b
reached_least c x (leads {x = y} r l) = c.steps y x (reached_least c y r) l

-- with more beginnings and more steps more is reached; things may be seen as others
pub reached_seen : {A B : Type 0} {Begins : A → Type 0} {Leads : A → A → Type 0} {Begins' : B → Type 0} {Leads' : B → B → Type 0} (f : A → B) →
    ((x : A) → Begins x → Begins' (f x)) → ((x y : A) → Leads x y → Leads' (f x) (f y)) → (x : A) → Reached Begins Leads x → Reached Begins' Leads' (f x)
reached_seen f b l x (begins h) = begins (b x h)
reached_seen f b l x (leads {x = y} r h) = leads (reached_seen f b l y r) (l y x h)
