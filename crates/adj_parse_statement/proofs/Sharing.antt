-- Sharing: the items of a block have digits alone as extents where no name stands in parentheses.
use Rattle.std.proofs.Common.{◌≡◌, ℕ, Bool, true, false, cond, ◌&&◌, List, [], ◌∷◌, map, Option, Some, None, option_map, IfSome, Result, refl, sym, ap, ◌∙◌}
use Rattle.std.specs.Prelude.{not}
use Rattle.std.specs.List.{list_all}
use Rattle.def_text.specs.declared.token.TokenKind.TheVariants.{Right, Comma}
use Rattle.def_text.specs.Lexeme.{Lexeme, Named, Digits, Mark}
use Rattle.def_text.specs.Statement.{Item}
use Rattle.adj_parse_expression.specs.View.{seen}
use Rattle.adj_parse_expression.specs.declared.flaw.Flaw.{Flaw}
use Rattle.adj_parse_statement.specs.Phrase as says
use Rattle.adj_parse_statement.specs.Phrase.{Size, Declared, is_numbered, are_numbered, SaysSize, SaysItem, SaysItems}
use Rattle.adj_parse_statement.specs.Phrases.{Read, ◌>>=◌, read_items, block_at, sharing, read_common, kind_of, has_inner_name, have_inner_name}
use Rattle.adj_parse_statement.specs.Fronts.{judged_items, judged_common}
use Rattle.adj_parse_statement.proofs.PhraseSound.{items_said}

-- from an extent on
abbrev names_in : Bool → List Lexeme → Bool
names_in inside ws = has_inner_name inside (map kind_of ws)

size_names : {ts rest : List Lexeme} {s : Size} → SaysSize ts rest s → names_in true ts ≡ cond (is_numbered s) (names_in true rest) true
unfolding has_inner_name
size_names says.SaysSize.literal = refl
size_names says.SaysSize.name = refl

one_size : (m k : Bool) → cond m k true ≡ cond (m && true) k true
one_size true k = refl
one_size false k = refl

two_sizes : (m n k : Bool) → cond m (cond n k true) true ≡ cond (m && (n && true)) k true
two_sizes true true k = refl
two_sizes true false k = refl
two_sizes false n k = refl

-- from an item on
item_names : {ts rest : List Lexeme} {i : Declared} → SaysItem ts rest i → names_in false ts ≡ cond (list_all is_numbered i.sizes) (names_in false rest) true
unfolding has_inner_name
item_names says.SaysItem.scalar = refl
item_names (says.row {rest = rest} {a = a} d) = size_names d ∙ one_size (is_numbered a) (names_in false rest)
item_names (says.table {rest = rest} {a = a} {b = b} d e) =
    size_names d ∙ ap (λ (n : Bool). cond (is_numbered a) n true) (size_names e) ∙ two_sizes (is_numbered a) (is_numbered b) (names_in false rest)

last_item : (m : Bool) → cond m false true ≡ not (m && true)
last_item true = refl
last_item false = refl

another_item : (m n : Bool) → cond m (not n) true ≡ not (m && n)
another_item true n = refl
another_item false n = refl

-- a name stands in parentheses exactly where an extent is a name
items_names : {ts : List Lexeme} {is : List Declared} → SaysItems ts is → names_in false ts ≡ not (are_numbered is)
unfolding has_inner_name
items_names (says.SaysItems.last {i = i} d) = item_names d ∙ last_item (list_all is_numbered i.sizes)
items_names (says.SaysItems.another {i = i} {is = is} d e) =
    item_names d ∙ ap (λ (n : Bool). cond (list_all is_numbered i.sizes) n true) (items_names e) ∙ another_item (list_all is_numbered i.sizes) (are_numbered is)

both_same : {A : Type 0} (x : A) (n : Bool) → x ≡ cond n x x
both_same x true = refl
both_same x false = refl

-- so the items of a block are judged where no name stands in parentheses
pub judged_common_on : (ws : List Lexeme) → option_map judged_common (read_common ws) ≡ (block_at ws >>= λ b. cond (have_inner_name b.1) None (option_map (seen (λ is. (b.0, is))) (option_map judged_items (read_items b.1))))
unfolding read_common
judged_common_on ws = first (block_at ws)
  where
    chosen : (b : List ℕ) (is : List Declared) (n : Bool) → option_map judged_common (cond n (Some (b, is)) None) ≡ cond (not n) None (Some (judged_common (b, is)))
    chosen b is true = refl
    chosen b is false = refl

    all : (b : List ℕ) (ts : List Lexeme) (o : Option (List Declared)) → IfSome o (SaysItems ts) → option_map judged_common (o >>= sharing b) ≡ cond (names_in false ts) None (option_map (seen (λ is. (b, is))) (option_map judged_items o))
    all b ts None h = both_same None (names_in false ts)
    all b ts (Some is) h = chosen b is (are_numbered is) ∙ ap (λ (n : Bool). cond n None (Some (judged_common (b, is)))) (sym (items_names h))

    first : (o : Read (List ℕ)) → option_map judged_common (o >>= λ b. read_items b.1 >>= sharing b.0) ≡ (o >>= λ b. cond (have_inner_name b.1) None (option_map (seen (λ is. (b.0, is))) (option_map judged_items (read_items b.1))))
    first None = refl
    first (Some b) = all b.0 b.1 (read_items b.1) (items_said b.1)
