-- Flaws: what is wrong with a whole, from what is wrong with its parts.
use Rattle.std.specs.Prelude.{Bool, true, false, Option, Some, None, Result, Ok, Err}
use Rattle.adj_parse_expression.specs.declared.flaw.Flaw.{Flaw}
use Rattle.adj_parse_expression.specs.declared.flaw.Flaw.TheVariants.{Large, Deep, Exponent}

-- the first of two flaws, in their order
abbrev pub first_of : Flaw → Flaw → Flaw
first_of Large g = Large
first_of Deep Large = Large
first_of Deep g = Deep
first_of Exponent g = g

-- what is made of one part, and of two
abbrev pub of_one : {A B : Type 0} → (A → B) → Result A Flaw → Result B Flaw
of_one f (Ok a) = Ok (f a)
of_one f (Err g) = Err g

abbrev pub of_two : {A B C : Type 0} → (A → B → C) → Result A Flaw → Result B Flaw → Result C Flaw
of_two f (Ok a) (Ok b) = Ok (f a b)
of_two f (Ok a) (Err g) = Err g
of_two f (Err g) (Ok b) = Err g
of_two f (Err g) (Err h) = Err (first_of g h)

-- both parts, or the first flaw of them
abbrev pub both : {A B : Type 0} → Result A Flaw → Result B Flaw → Result (A × B) Flaw
both found other = of_two (λ a b. (a, b)) found other

-- what isn't too deep is kept
abbrev pub kept : {A : Type 0} → Bool → Result A Flaw → Result A Flaw
kept false found = found
kept true (Ok a) = Err Deep
kept true (Err g) = Err (first_of g Deep)

-- a literal exponent keeps its value alone, and of its flaws the literal that is too large
abbrev pub as_power : {A B : Type 0} → Result A Flaw → Option B → Result B Flaw
as_power (Err Large) found = Err Large
as_power _ (Some k) = Ok k
as_power _ None = Err Exponent
