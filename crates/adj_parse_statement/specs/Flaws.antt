-- Flaws: what is wrong with several parts.
use Rattle.std.specs.Prelude.{List, [], ◌∷◌, ◌++◌, Result}
use Rattle.adj_parse_expression.specs.Flaws.{of_two}
use Rattle.adj_parse_expression.specs.declared.flaw.Flaw.{Flaw}

-- the parts with one more, or the first flaw of them
abbrev pub with_part : {A : Type 0} → Result (List A) Flaw → Result A Flaw → Result (List A) Flaw
with_part parts part = of_two (λ all a. all ++ a ∷ []) parts part
