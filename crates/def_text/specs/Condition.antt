-- Condition: which lexemes are a condition, and its tree.
use Rattle.std.specs.Prelude.{◌≡◌, List, ◌∷◌, Option, Some, option_map}
use Rattle.adj_tree.specs.Code.{Rel, is_less, is_most, is_same, is_other, is_greater, is_least, Test, compare, negation, conjunction, disjunction}
use Rattle.def_text.specs.declared.token.TokenKind.{TokenKind}
use Rattle.def_text.specs.declared.token.TokenKind.TheVariants.{Left, Right, Lt, Le, Eq, Ne, Gt, Ge, Not, And, Or}
use Rattle.def_text.specs.Lexeme.{Lexeme, Mark}
use Rattle.def_text.specs.Grammar.{Syntax, Sum, Derives, with_both, tree}

-- a condition as it is written
pub data Condition : Type 0 where
  compared : Rel → Syntax → Syntax → Condition
  denied : Condition → Condition
  both : Condition → Condition → Condition
  either : Condition → Condition → Condition

pub data Relates : TokenKind → Rel → Type 0 where
  less : Relates Lt is_less
  most : Relates Le is_most
  same : Relates Eq is_same
  other : Relates Ne is_other
  greater : Relates Gt is_greater
  least : Relates Ge is_least

pub data Part : Type 0 where
  Whole : Part
  Conjunction : Part
  Item : Part
  Plain : Part

-- DerivesCondition part lexemes rest c: the lexemes up to the rest are derived from the part, as c
pub data DerivesCondition : Part → List Lexeme → List Lexeme → Condition → Type 0 where
  comparison : {ts us rest : List Lexeme} {a b : Syntax} {k : TokenKind} {r : Rel} → Relates k r → Derives Sum ts (Mark k ∷ us) a → Derives Sum us rest b → DerivesCondition Plain ts rest (compared r a b)
  group : {ts rest : List Lexeme} {c : Condition} → DerivesCondition Whole ts (Mark Right ∷ rest) c → DerivesCondition Plain (Mark Left ∷ ts) rest c
  plain : {ts rest : List Lexeme} {c : Condition} → DerivesCondition Plain ts rest c → DerivesCondition Item ts rest c
  not : {ts rest : List Lexeme} {c : Condition} → DerivesCondition Plain ts rest c → DerivesCondition Item (Mark Not ∷ ts) rest (denied c)
  item : {ts rest : List Lexeme} {c : Condition} → DerivesCondition Item ts rest c → DerivesCondition Conjunction ts rest c
  -- `.AND.` and `.OR.` join to the left
  and : {ts us rest : List Lexeme} {c d : Condition} → DerivesCondition Conjunction ts (Mark And ∷ us) c → DerivesCondition Item us rest d → DerivesCondition Conjunction ts rest (both c d)
  whole : {ts rest : List Lexeme} {c : Condition} → DerivesCondition Conjunction ts rest c → DerivesCondition Whole ts rest c
  or : {ts us rest : List Lexeme} {c d : Condition} → DerivesCondition Whole ts (Mark Or ∷ us) c → DerivesCondition Conjunction us rest d → DerivesCondition Whole ts rest (either c d)

-- the tree of a condition
abbrev pub test : Condition → Option Test
test (compared r a b) = with_both (λ t u. Some (compare r t u)) (tree a) (tree b)
test (denied c) = option_map negation (test c)
test (both c d) = with_both (λ t u. Some (conjunction t u)) (test c) (test d)
test (either c d) = with_both (λ t u. Some (disjunction t u)) (test c) (test d)

-- the lexemes up to the rest are a condition with this tree
abbrev pub ReadsTest : List Lexeme → List Lexeme → Test → Type 0
ReadsTest lexemes rest t = (c : Condition) × DerivesCondition Whole lexemes rest c × (test c ≡ Some t)
