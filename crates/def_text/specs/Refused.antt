-- Answers that may be a refusal, and what a call of the code gives of them.
use Rattle.std.specs.Prelude.{◌≡◌, ℕ, Result, Ok, Err}
use Rattle.adj_tree.specs.declared.fault.Fault.{Fault}
use Rattle.adj_tree.specs.declared.fault.Fault.TheVariants.{Memory, Refused}
use Rattle.adj_tree.specs.declared.fault.Refusal.{Refusal}

infixl 10 ◌>>=◌
-- goes on with what there is, or hands the refusal on
abbrev pub ◌>>=◌ : {A B : Type 0} → Result A Refusal → (A → Result B Refusal) → Result B Refusal
(Ok x) >>= f = f x
(Err e) >>= f = Err e

-- the refusal with a code, at a line
abbrev pub refused : {A : Type 0} → ℕ → ℕ → Result A Refusal
refused code line = Err (record { code = code; line = line; number = 0 })

-- the refusal of what passes a limit, at a line
abbrev pub limited : {A : Type 0} → ℕ → ℕ → Result A Refusal
limited limit line = Err (record { code = 21; line = line; number = limit })

-- a fault is out of memory, or the refusal of the definition
abbrev pub Fails : {Y : Type 0} → Fault → Result Y Refusal → Type 0
Fails Memory spec = Unit {0}
Fails (Refused r) spec = spec ≡ Err r

-- the result is the answer of the definition, unless memory ran out
abbrev pub Gives : {X Y : Type 0} → (X → Y) → Result X Fault → Result Y Refusal → Type 0
Gives view (Ok x) spec = spec ≡ Ok (view x)
Gives view (Err e) spec = Fails e spec
