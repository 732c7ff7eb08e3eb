-- The variables of a unit: each once, its dummies first, and just the names that stand in it.
use Rattle.std.proofs.Common.{◌≡◌, ℕ, Bool, true, false, List, [], ◌∷◌, ◌++◌, map, refl, sym, ap, ◌∙◌, if◌then◌else◌}
use Rattle.std.specs.Prelude.{◌||◌, not, filter}
use Rattle.adj_tree.specs.Code.{plain, name_eq, Declaration, Procedure}
use Rattle.adj_tree.proofs.Names.{name_same}
use Rattle.def_meaning.specs.Units.{declared}
use Rattle.def_names.specs.Statements.{At}
use Rattle.def_names.specs.Variables.{dummy_places, declared_places, statement_places, places, first_places, variables}
use Rattle.def_names.proofs.Lists.{names_at, first_places-apart, first_places-stand}
use Rattle.def_meaning.specs.Apart.{has_name, AreApart}
use Rattle.def_names.proofs.Variables.{or_assoc, or_false, or_left, or_right}
use Rattle.def_meaning.proofs.Variables.{name_comm}

-- ---- which names they are

pub variables_apart : (u : Procedure) → AreApart (variables u)
variables_apart u = first_places-apart (places u)

pub variables_stand : (u : Procedure) (x : List ℕ) → has_name x (variables u) ≡ has_name x (names_at (places u))
variables_stand u x = first_places-stand x (places u)

at-append : (x : List ℕ) (ps qs : List (At (List ℕ))) → has_name x (names_at (ps ++ qs)) ≡ (has_name x (names_at ps) || has_name x (names_at qs))
at-append x [] qs = refl
at-append x (p ∷ ps) qs = ap (λ b. name_eq x p.1 || b) (at-append x ps qs) ∙ sym (or_assoc (name_eq x p.1) (has_name x (names_at ps)) (has_name x (names_at qs)))

-- a dummy stands at its place
dummy_at : (line : ℕ) (x : List ℕ) (ds : List (List ℕ)) → has_name x (names_at (map (λ d. (line, d)) ds)) ≡ has_name x ds
dummy_at line x [] = refl
dummy_at line x (d ∷ ds) = ap (λ b. name_eq x d || b) (dummy_at line x ds)

-- dummies are among the variables
pub dummy_among : (u : Procedure) (d : List ℕ) → has_name d u.dummies ≡ true → has_name d (variables u) ≡ true
dummy_among u d h =
    let later = declared_places u ++ statement_places u in
    variables_stand u d ∙ (at-append d (dummy_places u) later ∙ or_left (has_name d (names_at (dummy_places u))) (has_name d (names_at later)) (dummy_at u.line d u.dummies ∙ h))

not_declared : (x : List ℕ) (ds : List Declaration) → has_name x (names_at (map (λ d. (d.line, d.name)) ds)) ≡ false → declared ds (plain x) ≡ []
not_declared x [] h = refl
not_declared x (d ∷ ds) h =
    let p = or_false (name_eq x d.name) (has_name x (names_at (map (λ d. (d.line, d.name)) ds))) h in
    ap (λ b. if b then d.extents else declared ds (plain x)) p.0 ∙ not_declared x ds p.1

-- what is no variable isn't declared
pub undeclared : (u : Procedure) (x : List ℕ) → has_name x (variables u) ≡ false → declared u.declarations (plain x) ≡ []
undeclared u x h =
    let later = declared_places u ++ statement_places u in
    let p = or_false (has_name x (names_at (dummy_places u))) (has_name x (names_at later)) (sym (at-append x (dummy_places u) later) ∙ (sym (variables_stand u x) ∙ h)) in
    let q = or_false (has_name x (names_at (declared_places u))) (has_name x (names_at (statement_places u))) (sym (at-append x (declared_places u) (statement_places u)) ∙ p.1) in
    not_declared x u.declarations q.0

-- ---- dummies, and the others behind them

-- what first stands behind some names
abbrev pub standing_behind : List (List ℕ) → List (At (List ℕ)) → List (At (List ℕ))
standing_behind [] ps = first_places ps
standing_behind (d ∷ ds) ps = filter (λ q. not (name_eq d q.1)) (standing_behind ds ps)

-- the variables that are no dummies
abbrev pub locals : Procedure → List (List ℕ)
locals u = names_at (standing_behind u.dummies (declared_places u ++ statement_places u))

-- where a name is taken out that isn't among some, these stay
others_kept : (line : ℕ) (x : List ℕ) (ds : List (List ℕ)) (ps : List (At (List ℕ))) → has_name x ds ≡ false → filter (λ q. not (name_eq x q.1)) (map (λ d. (line, d)) ds ++ ps) ≡ map (λ d. (line, d)) ds ++ filter (λ q. not (name_eq x q.1)) ps
others_kept line x [] ps h = refl
others_kept line x (d ∷ ds) ps h =
    let p = or_false (name_eq x d) (has_name x ds) h in
    let later = filter (λ (q : At (List ℕ)). not (name_eq x q.1)) (map (λ d. (line, d)) ds ++ ps) in
    ap (λ b. if not b then (line, d) ∷ later else later) p.0 ∙ ap (λ l. (line, d) ∷ l) (others_kept line x ds ps p.1)

first_places-front : (line : ℕ) (ds : List (List ℕ)) (ps : List (At (List ℕ))) → AreApart ds → first_places (map (λ d. (line, d)) ds ++ ps) ≡ map (λ d. (line, d)) ds ++ standing_behind ds ps
first_places-front line [] ps a = refl
first_places-front line (d ∷ ds) ps a =
    ap (λ l. (line, d) ∷ filter (λ q. not (name_eq d q.1)) l) (first_places-front line ds ps a.1)
    ∙ ap (λ l. (line, d) ∷ l) (others_kept line d ds (standing_behind ds ps) a.0)

names_front : (line : ℕ) (ds : List (List ℕ)) (ps : List (At (List ℕ))) → names_at (map (λ d. (line, d)) ds ++ ps) ≡ ds ++ names_at ps
names_front line [] ps = refl
names_front line (d ∷ ds) ps = ap (λ l. d ∷ l) (names_front line ds ps)

-- dummies that are apart come first
pub dummies_first : (u : Procedure) → AreApart u.dummies → variables u ≡ u.dummies ++ locals u
dummies_first u a =
    let later = declared_places u ++ statement_places u in
    ap names_at (first_places-front u.line u.dummies later a) ∙ names_front u.line u.dummies (standing_behind u.dummies later)

-- the name is another one, and stands at some places
abbrev IsOther : List ℕ → List ℕ → List (At (List ℕ)) → Type 0
IsOther y x ps = (name_eq y x ≡ false) × (has_name y (names_at ps) ≡ true)

-- what is left where a name is taken out is another one
left_over : (y x : List ℕ) (ps : List (At (List ℕ))) → has_name y (names_at (filter (λ q. not (name_eq x q.1)) ps)) ≡ true → IsOther y x ps
left_over y x [] h = absurd cc
left_over y x (q ∷ ps) h = go (name_eq x q.1) refl h (left_over y x ps)
  where
    here : name_eq x q.1 ≡ false → (b : Bool) → name_eq y q.1 ≡ b → (b || has_name y (names_at (filter (λ q. not (name_eq x q.1)) ps))) ≡ true → (has_name y (names_at (filter (λ q. not (name_eq x q.1)) ps)) ≡ true → IsOther y x ps) → IsOther y x (q ∷ ps)
    here n true e h ih = (ap (λ z. name_eq z x) (name_same y q.1 e) ∙ name_comm x q.1 n, or_left (name_eq y q.1) (has_name y (names_at ps)) e)
    here n false e h ih = let r = ih h in (r.0, or_right (name_eq y q.1) (has_name y (names_at ps)) r.1)

    go : (b : Bool) → name_eq x q.1 ≡ b → has_name y (names_at (if not b then q ∷ filter (λ q. not (name_eq x q.1)) ps else filter (λ q. not (name_eq x q.1)) ps)) ≡ true → (has_name y (names_at (filter (λ q. not (name_eq x q.1)) ps)) ≡ true → IsOther y x ps) → IsOther y x (q ∷ ps)
    go true e h ih = let r = ih h in (r.0, or_right (name_eq y q.1) (has_name y (names_at ps)) r.1)
    go false e h ih = here e (name_eq y q.1) refl h ih

behind_apart : (y : List ℕ) (ds : List (List ℕ)) (ps : List (At (List ℕ))) → has_name y (names_at (standing_behind ds ps)) ≡ true → has_name y ds ≡ false
behind_apart y [] ps h = refl
behind_apart y (d ∷ ds) ps h = let r = left_over y d (standing_behind ds ps) h in ap (λ b. b || has_name y ds) r.0 ∙ behind_apart y ds ps r.1

-- a local is no dummy
pub local_apart : (u : Procedure) (y : List ℕ) → has_name y (locals u) ≡ true → has_name y u.dummies ≡ false
local_apart u y h = behind_apart y u.dummies (declared_places u ++ statement_places u) h
