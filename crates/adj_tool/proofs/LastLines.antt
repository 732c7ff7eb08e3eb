-- The last lines of a text.
use Rattle.std.proofs.Common.{◌≡◌, ℕ, List, [], ◌∷◌, true, refl, ap, if◌then◌else◌}
use Rattle.std.specs.Prelude.{nat_le}
use Rattle.adj_tool.specs.Sample.{line_ends, last_lines}

-- a text in which few lines end is its last lines
pub few_lines : (k : ℕ) (text : List ℕ) → nat_le (line_ends text) k ≡ true → last_lines k text ≡ text
few_lines k [] h = refl
few_lines k (c ∷ cs) h = ap (λ b. if b then c ∷ cs else last_lines k cs) h
