-- Loops: the bounds of a loop are judged part by part.
use Rattle.std.proofs.Common.{◌≡◌, ℕ, pos, Bool, true, false, ◌||◌, cond, List, [], ◌∷◌, Option, Some, None, option_map, Result, Ok, refl, sym, ap, ◌∙◌}
use Rattle.adj_tree.specs.Code.{plain, Term, lit}
use Rattle.def_text.specs.Char.{number_of}
use Rattle.def_text.specs.Grammar.{Syntax, only, with_both, tree}
use Rattle.def_text.specs.Lexeme.{Lexeme}
use Rattle.adj_parse_expression.specs.Front.{front_expression}
use Rattle.adj_parse_expression.specs.Judged.{has_large, judged}
use Rattle.adj_parse_expression.specs.Reading.{read_expression}
use Rattle.adj_parse_expression.specs.View.{seen}
use Rattle.adj_parse_expression.specs.declared.flaw.Flaw.{Flaw}
use Rattle.adj_parse_expression.specs.Flaws.{both}
use Rattle.adj_parse_statement.specs.Phrase.{Bounds}
use Rattle.adj_parse_statement.specs.Phrases.{Read, read_as, ◌>>=◌, name_at, behind_comma, behind_equals, are_none, ended, step_behind, read_step, read_bounds, read_label, read_do}
use Rattle.adj_parse_statement.specs.Said.{any_deep, step_large, step_deep, step_tree}
use Rattle.adj_parse_statement.specs.Fronts.{judged_step, front_step, judged_bounds, front_bounds, front_label, judged_loop, front_do}
use Rattle.adj_parse_statement.proofs.Judging.{both-judged, joined-judged}

-- a step, or none
pub front_step_on : (limit : ℕ) (ws : List Lexeme) → front_step limit ws ≡ cond (are_none ws) (Some (Ok (lit (pos 1)))) (behind_comma ws >>= λ us. front_expression limit us >>= λ c. ended c.0 c.1)
unfolding front_step read_step
front_step_on limit ws = first (are_none ws)
  where
    whole : (c : Syntax) (rest : List Lexeme) → option_map (judged_step limit) (ended (Some c) rest) ≡ ended (judged limit c) rest
    whole c [] = refl
    whole c (w ∷ rest) = refl

    value : (o : Read Syntax) → option_map (judged_step limit) (o >>= λ c. ended (Some c.0) c.1) ≡ (read_as (judged limit) o >>= λ c. ended c.0 c.1)
    value None = refl
    value (Some c) = whole c.0 c.1

    behind : (o : Option (List Lexeme)) → option_map (judged_step limit) (o >>= λ us. read_expression us >>= λ c. ended (Some c.0) c.1) ≡ (o >>= λ us. front_expression limit us >>= λ c. ended c.0 c.1)
    behind None = refl
    behind (Some us) = value (read_expression us)

    first : (b : Bool) → option_map (judged_step limit) (cond b (Some None) (step_behind ws)) ≡ cond b (Some (Ok (lit (pos 1)))) (behind_comma ws >>= λ us. front_expression limit us >>= λ c. ended c.0 c.1)
    first true = refl
    first false = behind (behind_comma ws)

-- the bounds of these parts
bounds_judged : (limit : ℕ) (x : List ℕ) (a b : Syntax) (c : Option Syntax) → judged_bounds limit (record { counter = x; from = a; to = b; by = c }) ≡ seen (λ (q : (Term × Term) × Term). record { counter = plain x; from = q.0.0; to = q.0.1; by = q.1 }) (both (both (judged limit a) (judged limit b)) (judged_step limit c))
bounds_judged limit x a b c =
    sym (ap (λ (r : Result (Term × Term) Flaw). seen (λ (q : (Term × Term) × Term). record { counter = plain x; from = q.0.0; to = q.0.1; by = q.1 }) (both r (judged_step limit c))) (both-judged (has_large a) (any_deep limit (only a)) (tree a) (has_large b) (any_deep limit (only b)) (tree b))
    ∙ joined-judged (λ (ends : Term × Term) (t : Term). record { counter = plain x; from = ends.0; to = ends.1; by = t }) (has_large a || has_large b) (any_deep limit (only a) || any_deep limit (only b)) (with_both (λ from to. Some (from, to)) (tree a) (tree b)) (step_large c) (step_deep limit c) (step_tree c))

pub front_bounds_on : (limit : ℕ) (ws : List Lexeme) → front_bounds limit ws ≡ (name_at ws >>= λ x. behind_equals x.1 >>= λ us. front_expression limit us >>= λ a. behind_comma a.1 >>= λ vs. front_expression limit vs >>= λ b. option_map (λ c. seen (λ (q : (Term × Term) × Term). record { counter = plain x.0; from = q.0.0; to = q.0.1; by = q.1 }) (both (both a.0 b.0) c)) (front_step limit b.1))
unfolding front_bounds front_step read_bounds
front_bounds_on limit ws = first (name_at ws)
  where
    last : (x : List ℕ) (a b : Syntax) (o : Option (Option Syntax)) → option_map (judged_bounds limit) (o >>= λ c. Some (record { counter = x; from = a; to = b; by = c })) ≡ option_map (λ c. seen (λ (q : (Term × Term) × Term). record { counter = plain x; from = q.0.0; to = q.0.1; by = q.1 }) (both (both (judged limit a) (judged limit b)) c)) (option_map (judged_step limit) o)
    last x a b None = refl
    last x a b (Some c) = ap Some (bounds_judged limit x a b c)

    limited : (x : List ℕ) (a : Syntax) (o : Read Syntax) → option_map (judged_bounds limit) (o >>= λ b. read_step b.1 >>= λ c. Some (record { counter = x; from = a; to = b.0; by = c })) ≡ (read_as (judged limit) o >>= λ b. option_map (λ c. seen (λ (q : (Term × Term) × Term). record { counter = plain x; from = q.0.0; to = q.0.1; by = q.1 }) (both (both (judged limit a) b.0) c)) (option_map (judged_step limit) (read_step b.1)))
    limited x a None = refl
    limited x a (Some b) = last x a b.0 (read_step b.1)

    between : (x : List ℕ) (a : Syntax) (o : Option (List Lexeme)) → option_map (judged_bounds limit) (o >>= λ vs. read_expression vs >>= λ b. read_step b.1 >>= λ c. Some (record { counter = x; from = a; to = b.0; by = c })) ≡ (o >>= λ vs. front_expression limit vs >>= λ b. option_map (λ c. seen (λ (q : (Term × Term) × Term). record { counter = plain x; from = q.0.0; to = q.0.1; by = q.1 }) (both (both (judged limit a) b.0) c)) (option_map (judged_step limit) (read_step b.1)))
    between x a None = refl
    between x a (Some vs) = limited x a (read_expression vs)

    begun : (x : List ℕ) (o : Read Syntax) → option_map (judged_bounds limit) (o >>= λ a. behind_comma a.1 >>= λ vs. read_expression vs >>= λ b. read_step b.1 >>= λ c. Some (record { counter = x; from = a.0; to = b.0; by = c })) ≡ (read_as (judged limit) o >>= λ a. behind_comma a.1 >>= λ vs. front_expression limit vs >>= λ b. option_map (λ c. seen (λ (q : (Term × Term) × Term). record { counter = plain x; from = q.0.0; to = q.0.1; by = q.1 }) (both (both a.0 b.0) c)) (option_map (judged_step limit) (read_step b.1)))
    begun x None = refl
    begun x (Some a) = between x a.0 (behind_comma a.1)

    behind : (x : List ℕ) (o : Option (List Lexeme)) → option_map (judged_bounds limit) (o >>= λ us. read_expression us >>= λ a. behind_comma a.1 >>= λ vs. read_expression vs >>= λ b. read_step b.1 >>= λ c. Some (record { counter = x; from = a.0; to = b.0; by = c })) ≡ (o >>= λ us. front_expression limit us >>= λ a. behind_comma a.1 >>= λ vs. front_expression limit vs >>= λ b. option_map (λ c. seen (λ (q : (Term × Term) × Term). record { counter = plain x; from = q.0.0; to = q.0.1; by = q.1 }) (both (both a.0 b.0) c)) (option_map (judged_step limit) (read_step b.1)))
    behind x None = refl
    behind x (Some us) = begun x (read_expression us)

    first : (o : Read (List ℕ)) → option_map (judged_bounds limit) (o >>= λ x. behind_equals x.1 >>= λ us. read_expression us >>= λ a. behind_comma a.1 >>= λ vs. read_expression vs >>= λ b. read_step b.1 >>= λ c. Some (record { counter = x.0; from = a.0; to = b.0; by = c })) ≡ (o >>= λ x. behind_equals x.1 >>= λ us. front_expression limit us >>= λ a. behind_comma a.1 >>= λ vs. front_expression limit vs >>= λ b. option_map (λ c. seen (λ (q : (Term × Term) × Term). record { counter = plain x.0; from = q.0.0; to = q.0.1; by = q.1 }) (both (both a.0 b.0) c)) (option_map (judged_step limit) (read_step b.1)))
    first None = refl
    first (Some x) = behind x.0 (behind_equals x.1)

-- a label or none, and the bounds behind it
pub front_do_on : (limit : ℕ) (ws : List Lexeme) → front_do limit ws ≡ option_map (seen (λ r. ((front_label ws).0, r))) (front_bounds limit (front_label ws).1)
unfolding front_do front_label front_bounds read_do
front_do_on limit ws = go (read_label ws).0 (read_bounds (read_label ws).1)
  where
    go : (label : Option (List ℕ)) (o : Option Bounds) → option_map (judged_loop limit) (option_map (λ b. (label, b)) o) ≡ option_map (seen (λ r. (option_map number_of label, r))) (option_map (judged_bounds limit) o)
    go label None = refl
    go label (Some b) = refl
