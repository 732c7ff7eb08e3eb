-- Derived: the lexemes of plain statements derive these.
use Rattle.std.proofs.Common.{ℕ, List, [], ◌∷◌, map, refl}
use Rattle.adj_tree.specs.Code.{times, Term, var, bin, none, plain, assign}
use Rattle.def_text.specs.declared.token.TokenKind.TheVariants.{Right, Equals, Star}
use Rattle.def_text.specs.Lexeme.{Lexeme, Named, Mark}
use Rattle.def_text.specs.Grammar.{variable, joined, multiplies, name, primary, factor, product, term, ReadsTerm}
use Rattle.def_text.specs.Statement as statements
use Rattle.def_text.specs.Statement.{Item, ReadsPlace, ReadsAssignment, ReadsNames, ReadsHead, ReadsItem, ReadsItems, ReadsCall, called, assignment}
use Rattle.def_text.proofs.Plain.{name_lexemes, head_lexemes}

-- a list of names
names_derived : (x : List ℕ) (xs : List (List ℕ)) (rest : List Lexeme) → ReadsNames (name_lexemes (x ∷ xs) rest) rest (x ∷ xs)
names_derived x [] rest = statements.ReadsNames.last
names_derived x (y ∷ ys) rest = statements.ReadsNames.another (names_derived y ys rest)

pub head_derived : (x : List ℕ) (ds : List (List ℕ)) → ReadsHead (head_lexemes x ds) x ds
head_derived x [] = statements.ReadsHead.alone
head_derived x (d ∷ ds) = statements.ReadsHead.dummies (names_derived d ds (Mark Right ∷ []))

-- names that are declared as scalars
abbrev pub as_scalar : List ℕ → Item
as_scalar x = record { name = x; extents = [] }

pub items_derived : (x : List ℕ) (xs : List (List ℕ)) → ReadsItems (name_lexemes (x ∷ xs) []) (map as_scalar (x ∷ xs))
items_derived x [] = statements.ReadsItems.last statements.ReadsItem.scalar
items_derived x (y ∷ ys) = statements.ReadsItems.another statements.ReadsItem.scalar (items_derived y ys)

-- two names that are multiplied
pub product_derived : (x y : List ℕ) (rest : List Lexeme) → ReadsTerm (Named x ∷ Mark Star ∷ Named y ∷ rest) rest (bin times (var (plain x)) (var (plain y)))
product_derived x y rest = (joined times (variable x) (variable y), term (product multiplies (factor (primary name)) (primary name)), refl)

-- an assignment to a name
pub assignment_derived : (x : List ℕ) (ws : List Lexeme) (t : Term) → ReadsTerm ws [] t → ReadsAssignment (Named x ∷ Mark Equals ∷ ws) (assign (plain x) none t)
assignment_derived x ws t h = assignment statements.ReadsPlace.scalar h
