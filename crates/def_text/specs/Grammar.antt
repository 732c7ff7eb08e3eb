-- Grammar: which lexemes are an expression, and its tree.
use Rattle.std.specs.Prelude.{◌≡◌, ℕ, zero, suc, ◌+◌, ◌-◌, ◌^◌, Bool, true, false, ◌==◌, ◌&&◌, ◌||◌, nat_le, List, ◌∷◌, codes, Option, Some, None, option_map, option_and_then, ℤ, pos, negsuc, ◌+ℤ◌, ◌-ℤ◌, ◌*ℤ◌, neg_ℤ, int_le, int_lt, if◌then◌else◌}
use Rattle.adj_tree.specs.Code.{Op, plus, minus, times, quot, modulo, greater, lesser, Term, Terms, lit, var, elem, neg, bin, pow, power_of, abs, none, more, plain, name_eq}
use Rattle.def_text.specs.declared.token.TokenKind.{TokenKind}
use Rattle.def_text.specs.declared.token.TokenKind.TheVariants.{Power, Star, Slash, Plus, Minus, Left, Right, Comma}
use Rattle.def_text.specs.Char.{number_of}
use Rattle.def_text.specs.Lexeme.{Lexeme, Named, Digits, Mark}

-- an expression as it is written: numbers by their digits, exponents as expressions
mutual
  pub data Syntax : Type 0 where
    number : List ℕ → Syntax
    variable : List ℕ → Syntax
    negated : Syntax → Syntax
    joined : Op → Syntax → Syntax → Syntax
    raised : Syntax → Syntax → Syntax
    applied : List ℕ → Arguments → Syntax

  -- one or more, the last one last
  pub data Arguments : Type 0 where
    only : Syntax → Arguments
    beside : Arguments → Syntax → Arguments

abbrev pub count_of : Arguments → ℕ
count_of (only s) = 1
count_of (beside front s) = count_of front + 1

-- the intrinsics of one argument, and the operation of those of two
abbrev pub is_absolute : List ℕ → Bool
is_absolute x = name_eq x (codes "ABS") || name_eq x (codes "IABS")

abbrev pub operation_of : List ℕ → Option Op
operation_of x =
    if name_eq x (codes "MAX") || name_eq x (codes "MAX0") then Some greater
    else (if name_eq x (codes "MIN") || name_eq x (codes "MIN0") then Some lesser
    else (if name_eq x (codes "MOD") then Some modulo else None))

-- how many arguments may stand behind a name: those of the intrinsic, else one or two subscripts
abbrev pub takes_as : Option Op → Bool → ℕ → Bool
takes_as (Some op) absolute n = n == 2
takes_as None true n = n == 1
takes_as None false n = n == 1 || n == 2

abbrev pub takes : List ℕ → ℕ → Bool
takes x n = takes_as (operation_of x) (is_absolute x) n

pub data Symbol : Type 0 where
  Sum : Symbol
  Product : Symbol
  Factor : Symbol
  Primary : Symbol

pub data Adds : TokenKind → Op → Type 0 where
  adds : Adds Plus plus
  subtracts : Adds Minus minus

pub data Multiplies : TokenKind → Op → Type 0 where
  multiplies : Multiplies Star times
  divides : Multiplies Slash quot

-- what a sign makes of the first term
abbrev pub signed : Op → Syntax → Syntax
signed minus s = negated s
signed _ s = s

-- Derives symbol lexemes rest s: the lexemes up to the rest are derived from the symbol, as s
mutual
  pub data Derives : Symbol → List Lexeme → List Lexeme → Syntax → Type 0 where
    literal : {digits : List ℕ} {rest : List Lexeme} → Derives Primary (Digits digits ∷ rest) rest (number digits)
    name : {x : List ℕ} {rest : List Lexeme} → Derives Primary (Named x ∷ rest) rest (variable x)
    group : {ts rest : List Lexeme} {s : Syntax} → Derives Sum ts (Mark Right ∷ rest) s → Derives Primary (Mark Left ∷ ts) rest s
    -- an element, or an intrinsic with its arguments
    application : {x : List ℕ} {ts rest : List Lexeme} {all : Arguments} → DerivesAll ts (Mark Right ∷ rest) all → takes x (count_of all) ≡ true → Derives Primary (Named x ∷ Mark Left ∷ ts) rest (applied x all)
    primary : {ts rest : List Lexeme} {s : Syntax} → Derives Primary ts rest s → Derives Factor ts rest s
    -- powers join to the right
    power : {ts us rest : List Lexeme} {a b : Syntax} → Derives Primary ts (Mark Power ∷ us) a → Derives Factor us rest b → Derives Factor ts rest (raised a b)
    factor : {ts rest : List Lexeme} {s : Syntax} → Derives Factor ts rest s → Derives Product ts rest s
    -- products and quotients join to the left
    product : {ts us rest : List Lexeme} {a b : Syntax} {k : TokenKind} {op : Op} → Multiplies k op → Derives Product ts (Mark k ∷ us) a → Derives Factor us rest b → Derives Product ts rest (joined op a b)
    term : {ts rest : List Lexeme} {s : Syntax} → Derives Product ts rest s → Derives Sum ts rest s
    -- a leading sign applies to the first term
    sign : {ts rest : List Lexeme} {s : Syntax} {k : TokenKind} {op : Op} → Adds k op → Derives Product ts rest s → Derives Sum (Mark k ∷ ts) rest (signed op s)
    -- sums and differences join to the left
    sum : {ts us rest : List Lexeme} {a b : Syntax} {k : TokenKind} {op : Op} → Adds k op → Derives Sum ts (Mark k ∷ us) a → Derives Product us rest b → Derives Sum ts rest (joined op a b)

  -- expressions separated by commas
  pub data DerivesAll : List Lexeme → List Lexeme → Arguments → Type 0 where
    single : {ts rest : List Lexeme} {s : Syntax} → Derives Sum ts rest s → DerivesAll ts rest (only s)
    another : {ts us rest : List Lexeme} {front : Arguments} {s : Syntax} → DerivesAll ts (Mark Comma ∷ us) front → Derives Sum us rest s → DerivesAll ts rest (beside front s)

-- the operations of literals
abbrev pub joins_literals : Op → Bool
joins_literals plus = true
joins_literals minus = true
joins_literals times = true
joins_literals _ = false

-- whether only literals, signs, sums, differences, products and powers stand in an expression
abbrev pub is_literal : Syntax → Bool
is_literal (number digits) = true
is_literal (variable x) = false
is_literal (negated s) = is_literal s
is_literal (joined op a b) = joins_literals op && (is_literal a && is_literal b)
is_literal (raised a b) = is_literal a && is_literal b
is_literal (applied x all) = false

-- a value, where it is one of the lexemes from -2^63 to 2^63-1
abbrev pub in_words : ℤ → Option ℤ
in_words z = if int_le (negsuc (2 ^ 63 - 1)) z && int_lt z (pos (2 ^ 63)) then Some z else None

-- a power without wrapping
unfoldable pub to_power : ℤ → ℕ → ℤ
to_power z zero = pos 1
to_power z (suc k) = z *ℤ to_power z k

abbrev pub constant_power : ℤ → ℤ → Option ℤ
constant_power z (pos k) = in_words (to_power z k)
constant_power z (negsuc k) = None

abbrev pub constant_of : Op → ℤ → ℤ → Option ℤ
constant_of plus a b = in_words (a +ℤ b)
constant_of minus a b = in_words (a -ℤ b)
constant_of times a b = in_words (a *ℤ b)
constant_of _ a b = None

abbrev pub with_both : {A B C : Type 0} → (A → B → Option C) → Option A → Option B → Option C
with_both f (Some a) (Some b) = f a b
with_both f _ _ = None

-- the value of such an expression, where it and all its parts are words
abbrev pub constant : Syntax → Option ℤ
constant (number digits) = in_words (pos (number_of digits))
constant (variable x) = None
constant (negated s) = option_and_then (λ z. in_words (neg_ℤ z)) (constant s)
constant (joined op a b) = with_both (constant_of op) (constant a) (constant b)
constant (raised a b) = with_both constant_power (constant a) (constant b)
constant (applied x all) = None

-- a literal exponent is from 0 to 63
abbrev pub as_exponent : ℤ → Option ℕ
as_exponent (pos k) = if nat_le k 63 then Some k else None
as_exponent (negsuc k) = None

abbrev pub exponent : Syntax → Option ℕ
exponent s = option_and_then as_exponent (constant s)

-- a name with its arguments: an intrinsic, or an element
abbrev pub two_arguments : List ℕ → Option Op → Term → Term → Term
two_arguments x (Some op) a b = bin op a b
two_arguments x None a b = elem (plain x) (more a (more b none))

abbrev pub application_of : List ℕ → Terms → Term
application_of x (more a none) = if is_absolute x then abs a else elem (plain x) (more a none)
application_of x (more a (more b none)) = two_arguments x (operation_of x) a b
application_of x all = elem (plain x) all

-- the tree of an expression, where each literal exponent in it is one; the tree keeps the value of a literal exponent, and any other as it is
abbrev mutual
  pub tree : Syntax → Option Term
  tree (number digits) = Some (lit (pos (number_of digits)))
  tree (variable x) = Some (var (plain x))
  tree (negated s) = option_map neg (tree s)
  tree (joined op a b) = with_both (λ t u. Some (bin op t u)) (tree a) (tree b)
  tree (raised a b) = if is_literal b then with_both (λ t k. Some (pow t k)) (tree a) (exponent b) else with_both (λ t u. Some (power_of t u)) (tree a) (tree b)
  tree (applied x all) = option_map (application_of x) (trees_before all none)

  -- the trees of arguments, and those that follow
  pub trees_before : Arguments → Terms → Option Terms
  trees_before (only s) rest = option_map (λ t. more t rest) (tree s)
  trees_before (beside front s) rest = option_and_then (λ t. trees_before front (more t rest)) (tree s)

-- the lexemes up to the rest are an expression with this tree
abbrev pub ReadsTerm : List Lexeme → List Lexeme → Term → Type 0
ReadsTerm lexemes rest t = (s : Syntax) × Derives Sum lexemes rest s × (tree s ≡ Some t)

-- the lexemes up to the rest are so many expressions, separated by commas, with these trees
abbrev pub ReadsTerms : List Lexeme → List Lexeme → ℕ → Terms → Type 0
ReadsTerms lexemes rest n ts = (all : Arguments) × DerivesAll lexemes rest all × (count_of all ≡ n) × (trees_before all none ≡ Some ts)
