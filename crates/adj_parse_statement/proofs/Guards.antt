-- Guards: the statements with a condition are judged part by part.
use Rattle.std.proofs.Common.{◌≡◌, ℕ, List, [], ◌∷◌, Option, Some, None, option_map, refl}
use Rattle.def_text.specs.Condition.{Condition}
use Rattle.def_text.specs.Machine.{chosen}
use Rattle.def_text.specs.Lexeme.{Lexeme}
use Rattle.adj_parse_expression.specs.Front.{front_condition}
use Rattle.adj_parse_expression.specs.Judged.{judged_test}
use Rattle.adj_parse_expression.specs.Reading.{read_condition}
use Rattle.adj_parse_expression.specs.Flaws.{both}
use Rattle.adj_parse_statement.specs.Phrase.{Deed}
use Rattle.adj_parse_statement.specs.Phrases.{Read, read_as, ◌>>=◌, behind_left, behind_right, behind_call, ended, read_guard, read_test, guarded_behind, read_guarded, read_logical}
use Rattle.adj_parse_statement.specs.Fronts.{judged_deed, front_assignment, front_call, front_guard, front_test, front_guarded, judged_logical, front_logical}

-- a condition in parentheses
pub front_guard_on : (limit : ℕ) (ws : List Lexeme) → front_guard limit ws ≡ (behind_left ws >>= λ us. front_condition limit us >>= λ c. option_map (λ rest. (c.0, rest)) (behind_right c.1))
unfolding front_guard read_guard
front_guard_on limit ws = first (behind_left ws)
  where
    closed : (c : Condition) (o : Option (List Lexeme)) → read_as (judged_test limit) (o >>= λ rest. Some (c, rest)) ≡ option_map (λ rest. (judged_test limit c, rest)) o
    closed c None = refl
    closed c (Some rest) = refl

    inner : (o : Read Condition) → read_as (judged_test limit) (o >>= λ c. behind_right c.1 >>= λ rest. Some (c.0, rest)) ≡ (read_as (judged_test limit) o >>= λ c. option_map (λ rest. (c.0, rest)) (behind_right c.1))
    inner None = refl
    inner (Some c) = closed c.0 (behind_right c.1)

    first : (o : Option (List Lexeme)) → read_as (judged_test limit) (o >>= λ us. read_condition us >>= λ c. behind_right c.1 >>= λ rest. Some (c.0, rest)) ≡ (o >>= λ us. front_condition limit us >>= λ c. option_map (λ rest. (c.0, rest)) (behind_right c.1))
    first None = refl
    first (Some us) = inner (read_condition us)

-- a guard up to the end
pub front_test_on : (limit : ℕ) (ws : List Lexeme) → front_test limit ws ≡ (front_guard limit ws >>= λ c. ended c.0 c.1)
unfolding front_test front_guard read_test
front_test_on limit ws = first (read_guard ws)
  where
    whole : (c : Condition) (rest : List Lexeme) → option_map (judged_test limit) (ended c rest) ≡ ended (judged_test limit c) rest
    whole c [] = refl
    whole c (w ∷ rest) = refl

    first : (o : Read Condition) → option_map (judged_test limit) (o >>= λ c. ended c.0 c.1) ≡ (read_as (judged_test limit) o >>= λ c. ended c.0 c.1)
    first None = refl
    first (Some c) = whole c.0 c.1

-- an assignment, or a CALL behind its lexeme
pub front_guarded_on : (limit : ℕ) (ws : List Lexeme) → front_guarded limit ws ≡ chosen (behind_call ws) (λ us. front_call limit us) (front_assignment limit ws)
unfolding front_guarded front_call front_assignment read_guarded
front_guarded_on limit ws = first (behind_call ws)
  where
    first : (o : Option (List Lexeme)) → option_map (judged_deed limit) (guarded_behind ws o) ≡ chosen o (λ us. front_call limit us) (front_assignment limit ws)
    first None = refl
    first (Some us) = refl

-- a guard, and what it guards
pub front_logical_on : (limit : ℕ) (ws : List Lexeme) → front_logical limit ws ≡ (front_guard limit ws >>= λ c. option_map (both c.0) (front_guarded limit c.1))
unfolding front_logical front_guard front_guarded read_logical
front_logical_on limit ws = first (read_guard ws)
  where
    deed : (c : Condition) (o : Option Deed) → option_map (judged_logical limit) (o >>= λ d. Some (c, d)) ≡ option_map (both (judged_test limit c)) (option_map (judged_deed limit) o)
    deed c None = refl
    deed c (Some d) = refl

    first : (o : Read Condition) → option_map (judged_logical limit) (o >>= λ c. read_guarded c.1 >>= λ d. Some (c.0, d)) ≡ (read_as (judged_test limit) o >>= λ c. option_map (both c.0) (option_map (judged_deed limit) (read_guarded c.1)))
    first None = refl
    first (Some c) = deed c.0 (read_guarded c.1)
