-- Phrases: how the lexemes of a statement are read, from the front.
use Rattle.std.specs.Prelude.{if◌then◌else◌, ◌&&◌, Bool, true, false, ℕ, zero, suc, List, [], ◌∷◌, ◌++◌, map, length, Option, Some, None, option_map, option_and_then}
use denote.Enum.Bare.{sameb}
use Rattle.def_text.specs.Condition.{Condition}
use Rattle.def_text.specs.Form.{Form, subroutine, implicit_none, end_do, go_on, otherwise, end_if, leaves, ends}
use Rattle.def_text.specs.Grammar.{Syntax, Arguments, only, beside}
use Rattle.def_text.specs.Machine.{chosen}
use Rattle.def_text.specs.Lexeme.{Lexeme, Named, Digits, Mark}
use Rattle.def_text.specs.declared.stated.Kind.{Kind}
use Rattle.def_text.specs.declared.stated.Kind.TheVariants as kind
use Rattle.def_text.specs.contracts.token.TokenKind.{the_type}
use Rattle.def_text.specs.declared.token.TokenKind.{TokenKind}
use Rattle.def_text.specs.declared.token.TokenKind.TheVariants.{Name, Number, Slash, Left, Right, Comma, Equals, Call}
use Rattle.adj_parse_expression.specs.Reading.{read_expression, read_condition}
use Rattle.adj_parse_statement.specs.Phrase.{Entry, Deed, assigns, calls, Size, numbered, named, Declared, Bounds, are_numbered, Phrase, plainly, declares, shares, does, guards, repeats, goes_while, opens, turns}

-- what is read at the front of some lexemes, and the lexemes behind it
abbrev pub Read : Type 0 → Type 0
Read A = Option (A × List Lexeme)

-- what was read, in another form
abbrev pub read_as : {A B : Type 0} → (A → B) → Read A → Read B
read_as f r = option_map (λ m. (f m.0, m.1)) r

infixl 10 ◌>>=◌
abbrev pub ◌>>=◌ : {A B : Type 0} → Option A → (A → Option B) → Option B
o >>= f = option_and_then f o

abbrev pub name_at : List Lexeme → Read (List ℕ)
name_at (Named x ∷ ws) = Some (x, ws)
name_at ws = None

abbrev pub digits_at : List Lexeme → Read (List ℕ)
digits_at (Digits ds ∷ ws) = Some (ds, ws)
digits_at ws = None

-- `==` on kinds
abbrev pub same_kind : TokenKind → TokenKind → Bool
same_kind = sameb the_type

-- the kind of a lexeme
abbrev pub kind_of : Lexeme → TokenKind
kind_of (Named x) = Name
kind_of (Digits ds) = Number
kind_of (Mark kind) = kind

-- the lexemes behind one of a kind
abbrev pub behind : TokenKind → List Lexeme → Option (List Lexeme)
behind kind [] = None
behind kind (w ∷ ws) = if same_kind (kind_of w) kind then Some ws else None

-- those behind a mark
abbrev pub behind_slash : List Lexeme → Option (List Lexeme)
behind_slash ws = behind Slash ws

abbrev pub behind_left : List Lexeme → Option (List Lexeme)
behind_left ws = behind Left ws

abbrev pub behind_right : List Lexeme → Option (List Lexeme)
behind_right ws = behind Right ws

abbrev pub behind_comma : List Lexeme → Option (List Lexeme)
behind_comma ws = behind Comma ws

abbrev pub behind_equals : List Lexeme → Option (List Lexeme)
behind_equals ws = behind Equals ws

abbrev pub behind_call : List Lexeme → Option (List Lexeme)
behind_call ws = behind Call ws

abbrev pub are_none : List Lexeme → Bool
are_none [] = true
are_none (w ∷ ws) = false

-- what was read, where no lexeme is left
abbrev pub ended : {A : Type 0} → A → List Lexeme → Option A
ended x [] = Some x
ended x (w ∷ ws) = None

-- members separated by commas, behind some before them; at most so many
unfoldable pub members : {A B : Type 0} → (B → A → B) → (List Lexeme → Read A) → ℕ → B → List Lexeme → Read B
members push reader zero before ws = Some (before, ws)
members push reader (suc n) before ws = chosen (behind_comma ws) (λ us. reader us >>= λ m. members push reader n (push before m.0) m.1) (Some (before, ws))

-- all of them
unfoldable pub members_behind : {A B : Type 0} → (B → A → B) → (List Lexeme → Read A) → B → List Lexeme → Read B
members_behind push reader before ws = members push reader (length ws) before ws

abbrev pub with_last : {A : Type 0} → List A → A → List A
with_last xs x = xs ++ x ∷ []

unfoldable pub read_arguments : List Lexeme → Read Arguments
read_arguments ws = read_expression ws >>= λ s. members_behind beside read_expression (only s.0) s.1

-- one or two expressions
abbrev pub second_subscript : Syntax → List Lexeme → Option (List Lexeme) → Read Arguments
second_subscript a rest None = Some (only a, rest)
second_subscript a rest (Some ws) = option_map (λ b. (beside (only a) b.0, b.1)) (read_expression ws)

unfoldable pub read_subscripts : List Lexeme → Read Arguments
read_subscripts ws = read_expression ws >>= λ a. second_subscript a.0 a.1 (behind_comma a.1)

-- a place: its name is read, and this is what stands behind the name
abbrev pub place_behind : List ℕ → List Lexeme → Option (List Lexeme) → Read Entry
place_behind x rest None = Some (record { name = x; list = None }, rest)
place_behind x rest (Some ws) = do
  s ← read_subscripts ws
  us ← behind_right s.1
  Some (record { name = x; list = Some s.0 }, us)

unfoldable pub read_place : List Lexeme → Read Entry
read_place ws = name_at ws >>= λ x. place_behind x.0 x.1 (behind_left x.1)

unfoldable pub read_assignment : List Lexeme → Option Deed
read_assignment ws = do
  p ← read_place ws
  us ← behind_equals p.1
  e ← read_expression us
  ended (assigns p.0 e.0) e.1

-- actuals up to the end: none where there are no parentheses, or nothing in them
abbrev pub actuals_in : List Lexeme → Option (List Lexeme) → Option (Option Arguments)
actuals_in ws (Some rest) = ended None rest
actuals_in ws None = do
  all ← read_arguments ws
  rest ← behind_right all.1
  ended (Some all.0) rest

unfoldable pub read_actuals : List Lexeme → Option (Option Arguments)
read_actuals ws = if are_none ws then Some None else (behind_left ws >>= λ us. actuals_in us (behind_right us))

unfoldable pub read_call : List Lexeme → Option Deed
read_call ws = do
  x ← name_at ws
  list ← read_actuals x.1
  Some (calls (record { name = x.0; list = list }))

unfoldable pub read_names : List Lexeme → Read (List (List ℕ))
read_names ws = name_at ws >>= λ x. members_behind with_last name_at (x.0 ∷ []) x.1

-- dummies up to the end
abbrev pub dummies_in : List Lexeme → Option (List Lexeme) → Option (List (List ℕ))
dummies_in ws (Some rest) = ended [] rest
dummies_in ws None = do
  all ← read_names ws
  rest ← behind_right all.1
  ended all.0 rest

unfoldable pub read_dummies : List Lexeme → Option (List (List ℕ))
read_dummies ws = if are_none ws then Some [] else (behind_left ws >>= λ us. dummies_in us (behind_right us))

unfoldable pub read_head : List Lexeme → Option Form
read_head ws = do
  x ← name_at ws
  dummies ← read_dummies x.1
  Some (subroutine x.0 dummies)

unfoldable pub size_at : List Lexeme → Read Size
size_at ws = chosen (digits_at ws) (λ d. Some (numbered d.0, d.1)) (option_map (λ x. (named x.0, x.1)) (name_at ws))

abbrev pub second_size : Size → List Lexeme → Option (List Lexeme) → Read (List Size)
second_size a rest None = Some (a ∷ [], rest)
second_size a rest (Some ws) = option_map (λ b. (a ∷ b.0 ∷ [], b.1)) (size_at ws)

unfoldable pub read_sizes : List Lexeme → Read (List Size)
read_sizes ws = size_at ws >>= λ a. second_size a.0 a.1 (behind_comma a.1)

abbrev pub item_behind : List ℕ → List Lexeme → Option (List Lexeme) → Read Declared
item_behind x rest None = Some (record { name = x; sizes = [] }, rest)
item_behind x rest (Some ws) = do
  s ← read_sizes ws
  us ← behind_right s.1
  Some (record { name = x; sizes = s.0 }, us)

unfoldable pub read_item : List Lexeme → Read Declared
read_item ws = name_at ws >>= λ x. item_behind x.0 x.1 (behind_left x.1)

unfoldable pub read_items : List Lexeme → Option (List Declared)
read_items ws = do
  first ← read_item ws
  all ← members_behind with_last read_item (first.0 ∷ []) first.1
  ended all.0 all.1

-- the name of a block between slashes
abbrev pub block_at : List Lexeme → Read (List ℕ)
block_at ws = do
  us ← behind_slash ws
  b ← name_at us
  vs ← behind_slash b.1
  Some (b.0, vs)

-- items that share a block, where each of their extents is digits
abbrev pub sharing : List ℕ → List Declared → Option (List ℕ × List Declared)
sharing b is = if are_numbered is then Some (b, is) else None

unfoldable pub read_common : List Lexeme → Option (List ℕ × List Declared)
read_common ws = block_at ws >>= λ b. read_items b.1 >>= sharing b.0

-- whether what stands behind a lexeme of this kind stands in parentheses
abbrev pub inside_behind : Bool → TokenKind → Bool
inside_behind inside Left = true
inside_behind inside Right = false
inside_behind inside kind = inside

abbrev pub is_inner_name : Bool → TokenKind → Bool
is_inner_name inside kind = inside && same_kind kind Name

-- whether a name is among lexemes of these kinds that stands in parentheses
unfoldable pub has_inner_name : Bool → List TokenKind → Bool
has_inner_name inside [] = false
has_inner_name inside (k ∷ ks) = if is_inner_name inside k then true else has_inner_name (inside_behind inside k) ks

abbrev pub have_inner_name : List Lexeme → Bool
have_inner_name ws = has_inner_name false (map kind_of ws)

-- the step of a loop, where it has one
abbrev pub step_behind : List Lexeme → Option (Option Syntax)
step_behind ws = do
  us ← behind_comma ws
  c ← read_expression us
  ended (Some c.0) c.1

unfoldable pub read_step : List Lexeme → Option (Option Syntax)
read_step ws = if are_none ws then Some None else step_behind ws

unfoldable pub read_bounds : List Lexeme → Option Bounds
read_bounds ws = do
  x ← name_at ws
  us ← behind_equals x.1
  a ← read_expression us
  vs ← behind_comma a.1
  b ← read_expression vs
  c ← read_step b.1
  Some (record { counter = x.0; from = a.0; to = b.0; by = c })

-- the lexemes without a comma at their front
abbrev pub without_comma : List Lexeme → Option (List Lexeme) → List Lexeme
without_comma ws None = ws
without_comma ws (Some us) = us

-- the digits behind DO, where there are any, and what stands behind them and a comma
abbrev pub label_behind : List Lexeme → Read (List ℕ) → Option (List ℕ) × List Lexeme
label_behind ws None = (None, ws)
label_behind ws (Some label) = (Some label.0, without_comma label.1 (behind_comma label.1))

unfoldable pub read_label : List Lexeme → Option (List ℕ) × List Lexeme
read_label ws = label_behind ws (digits_at ws)

unfoldable pub read_do : List Lexeme → Option (Option (List ℕ) × Bounds)
read_do ws = let label = read_label ws in option_map (λ b. (label.0, b)) (read_bounds label.1)

unfoldable pub read_guard : List Lexeme → Read Condition
read_guard ws = do
  us ← behind_left ws
  c ← read_condition us
  rest ← behind_right c.1
  Some (c.0, rest)

abbrev pub guarded_behind : List Lexeme → Option (List Lexeme) → Option Deed
guarded_behind ws None = read_assignment ws
guarded_behind ws (Some us) = read_call us

unfoldable pub read_guarded : List Lexeme → Option Deed
read_guarded ws = guarded_behind ws (behind_call ws)

unfoldable pub read_logical : List Lexeme → Option (Condition × Deed)
read_logical ws = do
  c ← read_guard ws
  d ← read_guarded c.1
  Some (c.0, d)

-- a guard up to the end
unfoldable pub read_test : List Lexeme → Option Condition
read_test ws = read_guard ws >>= λ c. ended c.0 c.1

-- what a statement of a class with these lexemes behind its keyword says
abbrev pub phrase_of : Kind → List Lexeme → Option Phrase
phrase_of kind.Subroutine ws = option_map plainly (read_head ws)
phrase_of kind.Integer ws = option_map declares (read_items ws)
phrase_of kind.Common ws = option_map (λ p. shares p.0 p.1) (read_common ws)
phrase_of kind.Assign ws = option_map does (read_assignment ws)
phrase_of kind.Call ws = option_map does (read_call ws)
phrase_of kind.LogicalIf ws = option_map (λ p. guards p.0 p.1) (read_logical ws)
phrase_of kind.Do ws = option_map (λ p. repeats p.0 p.1) (read_do ws)
phrase_of kind.DoWhile ws = option_map goes_while (read_test ws)
phrase_of kind.BlockIf ws = option_map opens (read_test ws)
phrase_of kind.ElseIf ws = option_map turns (read_test ws)
phrase_of kind.ImplicitNone ws = ended (plainly implicit_none) ws
phrase_of kind.EndDo ws = ended (plainly end_do) ws
phrase_of kind.Continue ws = ended (plainly go_on) ws
phrase_of kind.Else ws = ended (plainly otherwise) ws
phrase_of kind.EndIf ws = ended (plainly end_if) ws
phrase_of kind.Return ws = ended (plainly leaves) ws
phrase_of kind.End ws = ended (plainly ends) ws
