-- Sets of dummies of a program's units that are least by a rule.
use Rattle.std.specs.Prelude.{◌≡◌, ℕ, zero, suc, ◌+◌, List, [], ◌∷◌, map, length, Bool, true, false, if◌then◌else◌}
use Rattle.adj_tree.specs.Code.{name_eq, Procedure}

-- which dummies of the unit of a name are in a set, in order
abbrev pub Dummies : Type 0
Dummies = List ℕ → List Bool

-- whether the rule puts a dummy of a unit into a set, where it is known which dummies of called units are in it
abbrev pub Rule : Type 0
Rule = Dummies → Procedure → List ℕ → Bool

-- the row of the unit of a name, where there is a row of dummies for each unit
abbrev pub row_of : List Procedure → List (List Bool) → Dummies
row_of [] rows name = []
row_of (u ∷ us) [] name = []
row_of (u ∷ us) (ws ∷ rows) name = if name_eq u.name name then ws else row_of us rows name

-- no dummy of any unit
abbrev pub no_dummies : List Procedure → List (List Bool)
no_dummies units = map (λ u. map (λ d. false) u.dummies) units

-- what the rule puts into the set, where these rows are known to be in it
abbrev pub by_rule : Rule → List Procedure → List (List Bool) → List (List Bool)
by_rule rule units rows = map (λ u. map (rule (row_of units rows) u) u.dummies) units

-- what is found after some rounds, each of which looks at all units
abbrev pub rounds : Rule → List Procedure → ℕ → List (List Bool)
rounds rule units zero = no_dummies units
rounds rule units (suc k) = by_rule rule units (rounds rule units k)

abbrev pub dummies_in_all : List Procedure → ℕ
dummies_in_all [] = 0
dummies_in_all (u ∷ us) = length u.dummies + dummies_in_all us

-- the least set: a round that finds no more dummies is the last, so there are no more rounds than dummies
abbrev pub least_rows : Rule → List Procedure → List (List Bool)
least_rows rule units = rounds rule units (dummies_in_all units)

abbrev pub in_least : Rule → List Procedure → Dummies
in_least rule units name = row_of units (least_rows rule units) name

-- ---- comparing sets

-- each dummy of the one row is in the other
abbrev pub IsWithin : List Bool → List Bool → Type 0
IsWithin [] [] = Unit {0}
IsWithin [] (w ∷ ws) = ⊥
IsWithin (v ∷ vs) [] = ⊥
IsWithin (v ∷ vs) (w ∷ ws) = (v ≡ true → w ≡ true) × IsWithin vs ws

abbrev pub AreWithin : List (List Bool) → List (List Bool) → Type 0
AreWithin [] [] = Unit {0}
AreWithin [] (w ∷ ws) = ⊥
AreWithin (v ∷ vs) [] = ⊥
AreWithin (v ∷ vs) (w ∷ ws) = IsWithin v w × AreWithin vs ws

-- the rows hold just what the rule puts into them, and no rows hold less of which this is so
pub record IsLeast (rule : Rule) (units : List Procedure) (rows : List (List Bool)) : Type 0 where
  pub closed : by_rule rule units rows ≡ rows
  pub least : (others : List (List Bool)) → AreWithin (by_rule rule units others) others → AreWithin rows others
