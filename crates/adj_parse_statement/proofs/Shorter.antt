-- Shorter: what is left behind what was read is no longer than what was there.
use Rattle.std.proofs.Common.{◌≤◌, ℕ, List, [], ◌∷◌, length, Bool, true, false, cond, Option, Some, None, option_map, IfSome, arith}
use Rattle.def_text.specs.Grammar.{Syntax}
use Rattle.def_text.specs.Machine.{State, step, finish, syntaxes, wanting, is_stop, chosen, stopped, read}
use Rattle.def_text.specs.Lexeme.{Lexeme, Named, Digits, Mark}
use Rattle.def_text.specs.declared.token.TokenKind.{TokenKind}
use Rattle.def_text.specs.declared.token.TokenKind.TheVariants.{Left, Right, Comma}
use Rattle.adj_parse_expression.specs.Judged.{judged}
use Rattle.adj_parse_expression.specs.Reading.{read_expression}
use Rattle.adj_parse_expression.specs.Front.{front_expression}
use Rattle.adj_parse_statement.specs.Fronts.{judged_item, front_item}
use Rattle.adj_parse_statement.specs.Phrase.{Size}
use Rattle.adj_parse_statement.specs.Phrases.{Read, read_as, ◌>>=◌, name_at, same_kind, kind_of, behind, behind_left, behind_right, behind_comma, size_at, second_size, read_sizes, item_behind, read_item}

-- what is left has at most so many lexemes
abbrev pub AtMost : {A : Type 0} → ℕ → Read A → Type 0
AtMost n o = IfSome o (λ r. length r.1 ≤ n)

abbrev pub Shortens : {A : Type 0} → (List Lexeme → Read A) → Type 0
Shortens reader = (ws : List Lexeme) → AtMost (length ws) (reader ws)

pub AtMost-more : {A : Type 0} (m n : ℕ) (o : Read A) → m ≤ n → AtMost m o → AtMost n o
AtMost-more m n None h k = tt
AtMost-more m n (Some r) h k = omega arith

pub AtMost-as : {A B : Type 0} (f : A → B) (n : ℕ) (o : Read A) → AtMost n o → AtMost n (read_as f o)
AtMost-as f n None h = tt
AtMost-as f n (Some r) h = h

-- and so have what is read next
then_at_most : {A B : Type 0} (n : ℕ) (o : Read A) (f : A × List Lexeme → Read B) → AtMost n o → ((r : A × List Lexeme) → AtMost (length r.1) (f r)) → AtMost n (o >>= f)
then_at_most n None f h k = tt
then_at_most n (Some r) f h k = AtMost-more (length r.1) n (f r) h (k r)

mark_at_most : {A : Type 0} (o : Option (List Lexeme)) (n : ℕ) (x : A) → IfSome o (λ us. length us ≤ n) → AtMost n (o >>= λ us. Some (x, us))
mark_at_most None n x h = tt
mark_at_most (Some us) n x h = h

behind-shortens : (kind : TokenKind) (ws : List Lexeme) → IfSome (behind kind ws) (λ us. length us ≤ length ws)
behind-shortens kind [] = tt
behind-shortens kind (w ∷ ws) =
    elim (same_kind (kind_of w) kind) as (λ b. IfSome (cond b (Some ws) None) (λ us. length us ≤ length (w ∷ ws))) [
      | true ↦ omega arith
      | false ↦ tt
    ]

pub name_at-shortens : Shortens name_at
name_at-shortens [] = tt
name_at-shortens (Named x ∷ ws) = omega arith
name_at-shortens (w ∷ ws) = tt

size_at-shortens : Shortens size_at
unfolding size_at
size_at-shortens [] = tt
size_at-shortens (Digits ds ∷ ws) = omega arith
size_at-shortens (Named x ∷ ws) = omega arith
size_at-shortens (Mark k ∷ ws) = tt

read_sizes-shortens : Shortens read_sizes
unfolding read_sizes
read_sizes-shortens ws = then_at_most (length ws) (size_at ws) (λ a. second_size a.0 a.1 (behind_comma a.1)) (size_at-shortens ws) (λ a. second a.0 a.1 (behind_comma a.1) (behind-shortens Comma a.1))
  where
    paired : (a : Size) (n : ℕ) (o : Read Size) → AtMost n o → AtMost n (option_map (λ b. (a ∷ b.0 ∷ [], b.1)) o)
    paired a n None h = tt
    paired a n (Some b) h = h

    second : (a : Size) (rest : List Lexeme) (o : Option (List Lexeme)) → IfSome o (λ us. length us ≤ length rest) → AtMost (length rest) (second_size a rest o)
    second a rest None h = omega arith
    second a rest (Some us) h = paired a (length rest) (size_at us) (AtMost-more (length us) (length rest) (size_at us) h (size_at-shortens us))

pub read_item-shortens : Shortens read_item
unfolding read_item
read_item-shortens ws = then_at_most (length ws) (name_at ws) (λ x. item_behind x.0 x.1 (behind_left x.1)) (name_at-shortens ws) (λ x. behind x.0 x.1 (behind_left x.1) (behind-shortens Left x.1))
  where
    behind : (x : List ℕ) (rest : List Lexeme) (o : Option (List Lexeme)) → IfSome o (λ us. length us ≤ length rest) → AtMost (length rest) (item_behind x rest o)
    behind x rest None h = omega arith
    behind x rest (Some us) h = then_at_most (length rest) (read_sizes us) (λ s. behind_right s.1 >>= λ vs. Some (record { name = x; sizes = s.0 }, vs)) (AtMost-more (length us) (length rest) (read_sizes us) h (read_sizes-shortens us)) (λ s. mark_at_most (behind_right s.1) (length s.1) (record { name = x; sizes = s.0 }) (behind-shortens Right s.1))

pub front_item-shortens : Shortens front_item
unfolding front_item
front_item-shortens ws = AtMost-as judged_item (length ws) (read_item ws) (read_item-shortens ws)

-- an expression at the front
read-shortens : (s : State Syntax) → Shortens (read syntaxes s)
unfolding read
read-shortens s [] = ends (finish syntaxes s)
  where
    ends : (o : Option Syntax) → AtMost 0 (option_map (λ x. (x, [])) o)
    ends None = tt
    ends (Some x) = omega arith
read-shortens s (w ∷ ws) = next (step syntaxes s w) (λ t. read-shortens t ws)
  where
    kept : (b : Bool) (o : Option Syntax) → AtMost (length (w ∷ ws)) (cond b (option_map (λ x. (x, w ∷ ws)) o) None)
    kept true None = tt
    kept true (Some x) = omega arith
    kept false o = tt

    next : (o : Option (State Syntax)) → ((t : State Syntax) → AtMost (length ws) (read syntaxes t ws)) → AtMost (length (w ∷ ws)) (chosen o (λ t. read syntaxes t ws) (stopped w ws (finish syntaxes s)))
    next None h = kept (is_stop w) (finish syntaxes s)
    next (Some t) h = AtMost-more (length ws) (length (w ∷ ws)) (read syntaxes t ws) (omega arith) (h t)

pub read_expression-shortens : Shortens read_expression
read_expression-shortens ws = read-shortens (wanting []) ws

pub front_expression-shortens : (limit : ℕ) → Shortens (front_expression limit)
front_expression-shortens limit ws = AtMost-as (judged limit) (length ws) (read_expression ws) (read_expression-shortens ws)
