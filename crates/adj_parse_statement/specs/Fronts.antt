-- Fronts: what stands at the front of some lexemes, judged, and what stands behind it.
use Rattle.std.specs.Prelude.{ℕ, false, List, [], ◌∷◌, ◌++◌, map, Option, Some, None, option_map, Result, Ok}
use Rattle.std.specs.List.{list_any}
use Rattle.adj_tree.specs.Code.{Extent, Term, Terms, Test, Act}
use Rattle.def_text.specs.Char.{number_of}
use Rattle.def_text.specs.Condition.{Condition}
use Rattle.def_text.specs.Grammar.{Syntax, Arguments, only, beside, with_both, tree}
use Rattle.def_text.specs.Machine.{chosen}
use Rattle.def_text.specs.Statement.{Item, Range}
use Rattle.def_text.specs.Lexeme.{Lexeme}
use Rattle.adj_parse_expression.specs.Judged.{any_large, judged_by, judged_test}
use Rattle.adj_parse_expression.specs.View.{seen}
use Rattle.adj_parse_expression.specs.declared.flaw.Flaw.{Flaw}
use Rattle.adj_parse_expression.specs.Flaws.{both}
use Rattle.adj_parse_statement.specs.Flaws.{with_part}
use Rattle.adj_parse_statement.specs.Phrase.{Entry, Deed, Size, Declared, Bounds}
use Rattle.adj_parse_statement.specs.Phrases.{Read, read_as, ◌>>=◌, behind_left, behind_right, members_behind, size_at, read_sizes, read_item, read_subscripts, read_place, read_actuals, read_assignment, read_call, read_guard, read_test, read_guarded, read_logical, read_step, read_bounds, read_label, read_do}
use Rattle.adj_parse_statement.specs.Said.{size_large, item_large, extent, item, any_deep, list_large, list_deep, list_trees, deed_large, deed_deep, act, step_large, step_deep, step_tree, bounds_large, bounds_deep, range}

-- members separated by commas, each judged
unfoldable pub front_list : {A : Type 0} → (List Lexeme → Read (Result A Flaw)) → List Lexeme → Read (Result (List A) Flaw)
front_list front ws = front ws >>= λ m. members_behind with_part front (with_part (Ok []) m.0) m.1

-- an extent, the extents of an item, an item, and items, where their literals are words
abbrev pub judged_size : Size → Result Extent Flaw
judged_size s = judged_by (size_large s) false (Some (extent s))

abbrev pub judged_sizes : List Size → Result (List Extent) Flaw
judged_sizes ss = judged_by (list_any size_large ss) false (Some (map extent ss))

abbrev pub judged_item : Declared → Result Item Flaw
judged_item i = judged_by (item_large i) false (Some (item i))

abbrev pub judged_items : List Declared → Result (List Item) Flaw
judged_items is = judged_by (list_any item_large is) false (Some (map item is))

-- a block and its items, where their literals are words
abbrev pub judged_common : List ℕ × List Declared → Result (List ℕ × List Item) Flaw
judged_common p = seen (λ is. (p.0, is)) (judged_items p.1)

unfoldable pub front_size : List Lexeme → Read (Result Extent Flaw)
front_size ws = read_as judged_size (size_at ws)

unfoldable pub front_sizes : List Lexeme → Read (Result (List Extent) Flaw)
front_sizes ws = read_as judged_sizes (read_sizes ws)

-- the extents behind a name, none where there are no parentheses
unfoldable pub front_extents : List Lexeme → Read (Result (List Extent) Flaw)
front_extents ws = chosen (behind_left ws) (λ us. front_sizes us >>= λ s. option_map (λ rest. (s.0, rest)) (behind_right s.1)) (Some (Ok [], ws))

unfoldable pub front_item : List Lexeme → Read (Result Item Flaw)
front_item ws = read_as judged_item (read_item ws)

-- expressions beside one another, by their trees in order
abbrev pub terms : Arguments → Option (List Term)
terms (only s) = option_map (λ t. t ∷ []) (tree s)
terms (beside front s) = with_both (λ ts t. Some (ts ++ t ∷ [])) (terms front) (tree s)

abbrev pub judged_terms : ℕ → Arguments → Result (List Term) Flaw
judged_terms limit all = judged_by (any_large all) (any_deep limit all) (terms all)

unfoldable pub front_subscripts : ℕ → List Lexeme → Read (Result (List Term) Flaw)
front_subscripts limit ws = read_as (judged_terms limit) (read_subscripts ws)

-- the subscripts behind a name, none where there are no parentheses
unfoldable pub front_inner : ℕ → List Lexeme → Read (Result (List Term) Flaw)
front_inner limit ws = chosen (behind_left ws) (λ us. front_subscripts limit us >>= λ s. option_map (λ rest. (s.0, rest)) (behind_right s.1)) (Some (Ok [], ws))

-- a place with its subscripts
abbrev pub judged_place : ℕ → Entry → Result (List ℕ × Terms) Flaw
judged_place limit p = judged_by (list_large p.list) (list_deep limit p.list) (option_map (λ ts. (p.name, ts)) (list_trees p.list))

unfoldable pub front_place : ℕ → List Lexeme → Read (Result (List ℕ × Terms) Flaw)
front_place limit ws = read_as (judged_place limit) (read_place ws)

-- actuals, none where there are none
abbrev pub judged_actuals : ℕ → Option Arguments → Result (List Term) Flaw
judged_actuals limit None = Ok []
judged_actuals limit (Some all) = judged_terms limit all

unfoldable pub front_actuals : ℕ → List Lexeme → Option (Result (List Term) Flaw)
front_actuals limit ws = option_map (judged_actuals limit) (read_actuals ws)

-- an assignment or a CALL
abbrev pub judged_deed : ℕ → Deed → Result Act Flaw
judged_deed limit d = judged_by (deed_large d) (deed_deep limit d) (act d)

unfoldable pub front_assignment : ℕ → List Lexeme → Option (Result Act Flaw)
front_assignment limit ws = option_map (judged_deed limit) (read_assignment ws)

unfoldable pub front_call : ℕ → List Lexeme → Option (Result Act Flaw)
front_call limit ws = option_map (judged_deed limit) (read_call ws)

-- a guard, a guard up to the end, and the two parts of a logical IF
unfoldable pub front_guard : ℕ → List Lexeme → Read (Result Test Flaw)
front_guard limit ws = read_as (judged_test limit) (read_guard ws)

unfoldable pub front_test : ℕ → List Lexeme → Option (Result Test Flaw)
front_test limit ws = option_map (judged_test limit) (read_test ws)

unfoldable pub front_guarded : ℕ → List Lexeme → Option (Result Act Flaw)
front_guarded limit ws = option_map (judged_deed limit) (read_guarded ws)

abbrev pub judged_logical : ℕ → Condition × Deed → Result (Test × Act) Flaw
judged_logical limit p = both (judged_test limit p.0) (judged_deed limit p.1)

unfoldable pub front_logical : ℕ → List Lexeme → Option (Result (Test × Act) Flaw)
front_logical limit ws = option_map (judged_logical limit) (read_logical ws)

-- the step and the bounds of a loop, and its label with them
abbrev pub judged_step : ℕ → Option Syntax → Result Term Flaw
judged_step limit s = judged_by (step_large s) (step_deep limit s) (step_tree s)

unfoldable pub front_step : ℕ → List Lexeme → Option (Result Term Flaw)
front_step limit ws = option_map (judged_step limit) (read_step ws)

abbrev pub judged_bounds : ℕ → Bounds → Result Range Flaw
judged_bounds limit b = judged_by (bounds_large b) (bounds_deep limit b) (range b)

unfoldable pub front_bounds : ℕ → List Lexeme → Option (Result Range Flaw)
front_bounds limit ws = option_map (judged_bounds limit) (read_bounds ws)

unfoldable pub front_label : List Lexeme → Option ℕ × List Lexeme
front_label ws = let label = read_label ws in (option_map number_of label.0, label.1)

abbrev pub judged_loop : ℕ → Option (List ℕ) × Bounds → Result (Option ℕ × Range) Flaw
judged_loop limit p = seen (λ r. (option_map number_of p.0, r)) (judged_bounds limit p.1)

unfoldable pub front_do : ℕ → List Lexeme → Option (Result (Option ℕ × Range) Flaw)
front_do limit ws = option_map (judged_loop limit) (read_do ws)
