-- Statement: which lexemes behind its keyword make a statement of each class.
use Rattle.std.specs.Prelude.{◌≡◌, ℕ, ◌≤◌, Bool, true, false, List, [], ◌∷◌, codes, Option, Some, None, pos, if◌then◌else◌}
use Rattle.std.specs.List.{list_all}
use Rattle.adj_tree.specs.Code.{Var, plain, Term, lit, var, elem, Terms, none, more, name_eq, Test, Runtime, push_word, pop_word, push_array, pop_array, push_control, pop_control, zero_array, begin_reversal, count_actions, give_action, end_reversal, Act, assign, call, runtime, Extent, fixed, given}
use Rattle.def_text.specs.declared.token.TokenKind.TheVariants.{Slash, Left, Right, Comma, Equals, Call}
use Rattle.def_text.specs.Char.{number_of}
use Rattle.def_text.specs.Lexeme.{Lexeme, Named, Digits, Mark}
use Rattle.def_text.specs.Grammar.{ReadsTerm, ReadsTerms}
use Rattle.def_text.specs.Condition.{ReadsTest}

-- the lexemes up to the rest are a variable, or one with one or two subscripts
pub data ReadsPlace : List Lexeme → List Lexeme → Var → Terms → Type 0 where
  scalar : {x : List ℕ} {rest : List Lexeme} → ReadsPlace (Named x ∷ rest) rest (plain x) none
  element : {x : List ℕ} {ts rest : List Lexeme} {n : ℕ} {subscripts : Terms} → ReadsTerms ts (Mark Right ∷ rest) n subscripts → n ≤ 2 → ReadsPlace (Named x ∷ Mark Left ∷ ts) rest (plain x) subscripts

pub data ReadsAssignment : List Lexeme → Act → Type 0 where
  assignment : {ts us : List Lexeme} {x : Var} {subscripts : Terms} {e : Term} → ReadsPlace ts (Mark Equals ∷ us) x subscripts → ReadsTerm us [] e → ReadsAssignment ts (assign x subscripts e)

-- names separated by commas
pub data ReadsNames : List Lexeme → List Lexeme → List (List ℕ) → Type 0 where
  last : {x : List ℕ} {rest : List Lexeme} → ReadsNames (Named x ∷ rest) rest (x ∷ [])
  another : {x : List ℕ} {ts rest : List Lexeme} {xs : List (List ℕ)} → ReadsNames ts rest xs → ReadsNames (Named x ∷ Mark Comma ∷ ts) rest (x ∷ xs)

-- behind SUBROUTINE: a name, and names in parentheses or none
pub data ReadsHead : List Lexeme → List ℕ → List (List ℕ) → Type 0 where
  alone : {x : List ℕ} → ReadsHead (Named x ∷ []) x []
  empty : {x : List ℕ} → ReadsHead (Named x ∷ Mark Left ∷ Mark Right ∷ []) x []
  dummies : {x : List ℕ} {ts : List Lexeme} {xs : List (List ℕ)} → ReadsNames ts (Mark Right ∷ []) xs → ReadsHead (Named x ∷ Mark Left ∷ ts) x xs

-- a declared name with its extents
pub record Item : Type 0 where
  pub name : List ℕ
  pub extents : List Extent

pub data ReadsExtent : List Lexeme → List Lexeme → Extent → Type 0 where
  literal : {digits : List ℕ} {rest : List Lexeme} → ReadsExtent (Digits digits ∷ rest) rest (fixed (pos (number_of digits)))
  name : {x : List ℕ} {rest : List Lexeme} → ReadsExtent (Named x ∷ rest) rest (given x)

pub data ReadsItem : List Lexeme → List Lexeme → Item → Type 0 where
  scalar : {x : List ℕ} {rest : List Lexeme} → ReadsItem (Named x ∷ rest) rest (record { name = x; extents = [] })
  row : {x : List ℕ} {ts rest : List Lexeme} {a : Extent} → ReadsExtent ts (Mark Right ∷ rest) a → ReadsItem (Named x ∷ Mark Left ∷ ts) rest (record { name = x; extents = a ∷ [] })
  table : {x : List ℕ} {ts us rest : List Lexeme} {a b : Extent} → ReadsExtent ts (Mark Comma ∷ us) a → ReadsExtent us (Mark Right ∷ rest) b → ReadsItem (Named x ∷ Mark Left ∷ ts) rest (record { name = x; extents = a ∷ b ∷ [] })

-- behind INTEGER: items separated by commas
pub data ReadsItems : List Lexeme → List Item → Type 0 where
  last : {ts : List Lexeme} {i : Item} → ReadsItem ts [] i → ReadsItems ts (i ∷ [])
  another : {ts us : List Lexeme} {i : Item} {is : List Item} → ReadsItem ts (Mark Comma ∷ us) i → ReadsItems us is → ReadsItems ts (i ∷ is)

abbrev pub is_literal_extent : Extent → Bool
is_literal_extent (fixed n) = true
is_literal_extent (given x) = false

-- whether each extent of each item is a literal
abbrev pub have_literals : List Item → Bool
have_literals is = list_all (λ i. list_all is_literal_extent i.extents) is

-- behind COMMON: the name of a block between slashes, and items separated by commas, whose extents are literals
pub data ReadsCommon : List Lexeme → List ℕ → List Item → Type 0 where
  block : {b : List ℕ} {ts : List Lexeme} {is : List Item} → ReadsItems ts is → have_literals is ≡ true → ReadsCommon (Mark Slash ∷ Named b ∷ Mark Slash ∷ ts) b is

-- an actual that is a place, and one that is a name
abbrev pub as_place : (Var → Terms → Runtime) → Terms → Option Runtime
as_place make (more (var x) none) = Some (make x none)
as_place make (more (elem x subscripts) none) = Some (make x subscripts)
as_place make _ = None

abbrev pub as_name : (Var → Runtime) → Terms → Option Runtime
as_name make (more (var x) none) = Some (make x)
as_name make _ = None

abbrev pub as_value : Terms → Option Runtime
as_value (more e none) = Some (push_control e)
as_value _ = None

abbrev pub as_beginning : Terms → Option Runtime
as_beginning (more l (more s none)) = Some (begin_reversal l s)
as_beginning _ = None

abbrev pub as_count : Terms → Option Runtime
as_count (more l (more s (more (var n) none))) = Some (count_actions l s n)
as_count _ = None

abbrev pub as_action : Terms → Option Runtime
as_action (more l (more s (more k (more (var a) (more (var f) (more (var t) none)))))) = Some (give_action l s k a f t)
as_action _ = None

abbrev pub as_nothing : Terms → Option Runtime
as_nothing none = Some end_reversal
as_nothing _ = None

-- the runtime call of a name with these actuals, where they have the number and form of the call's arguments
abbrev pub runtime_call : List ℕ → Terms → Option Runtime
runtime_call x actuals =
    if name_eq x (codes "PUSHINTEGER8") then as_place push_word actuals
    else (if name_eq x (codes "POPINTEGER8") then as_place pop_word actuals
    else (if name_eq x (codes "PUSHINTEGER8ARRAY") then as_name push_array actuals
    else (if name_eq x (codes "POPINTEGER8ARRAY") then as_name pop_array actuals
    else (if name_eq x (codes "PUSHCONTROL1B") then as_value actuals
    else (if name_eq x (codes "POPCONTROL1B") then as_name pop_control actuals
    else (if name_eq x (codes "ADZERO8") then as_name zero_array actuals
    else (if name_eq x (codes "ADBEG") then as_beginning actuals
    else (if name_eq x (codes "ADACTN") then as_count actuals
    else (if name_eq x (codes "ADACT") then as_action actuals
    else (if name_eq x (codes "ADEND") then as_nothing actuals
    else None))))))))))

-- any other CALL is one of a unit
abbrev pub called_as : List ℕ → Terms → Option Runtime → Act
called_as x actuals (Some r) = runtime r
called_as x actuals None = call x actuals

abbrev pub called : List ℕ → Terms → Act
called x actuals = called_as x actuals (runtime_call x actuals)

-- behind CALL: a name, and expressions in parentheses or none
pub data ReadsCall : List Lexeme → Act → Type 0 where
  alone : {x : List ℕ} → ReadsCall (Named x ∷ []) (called x none)
  empty : {x : List ℕ} → ReadsCall (Named x ∷ Mark Left ∷ Mark Right ∷ []) (called x none)
  actuals : {x : List ℕ} {ts : List Lexeme} {n : ℕ} {es : Terms} → ReadsTerms ts (Mark Right ∷ []) n es → ReadsCall (Named x ∷ Mark Left ∷ ts) (called x es)

-- a loop's variable, first value, limit and step
pub record Range : Type 0 where
  pub counter : Var
  pub from : Term
  pub to : Term
  pub by : Term

pub data ReadsRange : List Lexeme → Range → Type 0 where
  by_one : {x : List ℕ} {ts us : List Lexeme} {a b : Term} → ReadsTerm ts (Mark Comma ∷ us) a → ReadsTerm us [] b → ReadsRange (Named x ∷ Mark Equals ∷ ts) (record { counter = plain x; from = a; to = b; by = lit (pos 1) })
  by_step : {x : List ℕ} {ts us vs : List Lexeme} {a b c : Term} → ReadsTerm ts (Mark Comma ∷ us) a → ReadsTerm us (Mark Comma ∷ vs) b → ReadsTerm vs [] c → ReadsRange (Named x ∷ Mark Equals ∷ ts) (record { counter = plain x; from = a; to = b; by = c })

-- behind DO: the label where the loop has one, a comma or none, and the range
pub data ReadsDo : List Lexeme → Option ℕ → Range → Type 0 where
  unlabelled : {ts : List Lexeme} {r : Range} → ReadsRange ts r → ReadsDo ts None r
  labelled : {digits : List ℕ} {ts : List Lexeme} {r : Range} → ReadsRange ts r → ReadsDo (Digits digits ∷ ts) (Some (number_of digits)) r
  labelled_comma : {digits : List ℕ} {ts : List Lexeme} {r : Range} → ReadsRange ts r → ReadsDo (Digits digits ∷ Mark Comma ∷ ts) (Some (number_of digits)) r

-- behind IF or ELSE IF: a condition in parentheses
pub data ReadsGuard : List Lexeme → List Lexeme → Test → Type 0 where
  guard : {ts rest : List Lexeme} {c : Test} → ReadsTest ts (Mark Right ∷ rest) c → ReadsGuard (Mark Left ∷ ts) rest c

-- behind the condition of a logical IF: an assignment or a CALL
pub data ReadsGuarded : List Lexeme → Act → Type 0 where
  assigned : {ts : List Lexeme} {a : Act} → ReadsAssignment ts a → ReadsGuarded ts a
  calls : {ts : List Lexeme} {a : Act} → ReadsCall ts a → ReadsGuarded (Mark Call ∷ ts) a
