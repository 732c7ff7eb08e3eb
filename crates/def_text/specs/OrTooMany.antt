-- What a text is where a count of its own may pass a limit.
use Rattle.std.specs.Prelude.{◌≡◌, ◌⊎◌, ℕ, Result, Ok}
use Rattle.adj_tree.specs.declared.fault.Refusal.{Refusal}
use Rattle.def_text.specs.Refused.{limited}

-- what is there is such, or the refusal is that of more statements than a run takes, at some line
abbrev pub OrTooMany : {A : Type 0} → (A → Type 0) → Result A Refusal → Type 0
OrTooMany {A} P r = ((x : A) × (r ≡ Ok x) × P x) ⊎ ((line : ℕ) × (r ≡ limited 4000000 line))
