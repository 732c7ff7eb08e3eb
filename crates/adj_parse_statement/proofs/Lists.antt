-- Lists: each list of a statement is read one member at a time.
use Rattle.std.proofs.Common.{◌≡◌, ℕ, List, [], ◌∷◌, ◌++◌, Some, Result}
use Rattle.adj_tree.specs.Code.{Term}
use Rattle.def_text.specs.Machine.{chosen}
use Rattle.def_text.specs.Statement.{Item}
use Rattle.def_text.specs.Lexeme.{Lexeme}
use Rattle.adj_parse_expression.specs.Front.{front_expression}
use Rattle.adj_parse_expression.specs.declared.flaw.Flaw.{Flaw}
use Rattle.adj_parse_statement.specs.Flaws.{with_part}
use Rattle.adj_parse_statement.specs.Fronts.{front_item}
use Rattle.adj_parse_statement.specs.Phrases.{◌>>=◌, behind_comma, name_at, members_behind, with_last}
use Rattle.adj_parse_statement.proofs.Members.{members_on}
use Rattle.adj_parse_statement.proofs.Shorter.{name_at-shortens, front_item-shortens, front_expression-shortens}

-- names
pub names_on : (before : List (List ℕ)) (ws : List Lexeme) → members_behind with_last name_at before ws ≡ chosen (behind_comma ws) (λ us. name_at us >>= λ x. members_behind with_last name_at (before ++ x.0 ∷ []) x.1) (Some (before, ws))
names_on before ws = members_on with_last name_at name_at-shortens before ws

-- the items of a declaration
pub items_on : (before : Result (List Item) Flaw) (ws : List Lexeme) → members_behind with_part front_item before ws ≡ chosen (behind_comma ws) (λ us. front_item us >>= λ i. members_behind with_part front_item (with_part before i.0) i.1) (Some (before, ws))
items_on before ws = members_on with_part front_item front_item-shortens before ws

-- expressions
pub expressions_on : (limit : ℕ) (before : Result (List Term) Flaw) (ws : List Lexeme) → members_behind with_part (front_expression limit) before ws ≡ chosen (behind_comma ws) (λ us. front_expression limit us >>= λ e. members_behind with_part (front_expression limit) (with_part before e.0) e.1) (Some (before, ws))
expressions_on limit before ws = members_on with_part (front_expression limit) (front_expression-shortens limit) before ws
