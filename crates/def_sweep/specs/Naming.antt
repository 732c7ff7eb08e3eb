-- The names that the variables of an emitted unit have.
use Rattle.std.specs.Prelude.{◌≡◌, ℕ, ◌==◌, Bool, false, List, [], ◌∷◌, ◌++◌, map, if◌then◌else◌, codes}
use Rattle.adj_tree.specs.Code.{Role, role_code, work, temp, control, first, stride, count, turn, entry, entries, kind, lower, upper, slots, Var, plain, shadow, helper, var_eq}
use Rattle.def_names.specs.Fresh.{digits, fresh}
use Rattle.def_names.specs.Reserved.{reserved}
pub use Rattle.def_names.specs.Laws.{AreApart}

-- the two texts that are made from a source, which differ in some letters of their names
pub data Derived : Type 0 where
  adjoint_text : Derived
  tangent_text : Derived

-- what follows a variable's name in that of its shadow: an adjoint or a tangent
abbrev pub mark_of : Derived → List ℕ
mark_of adjoint_text = codes "B"
mark_of tangent_text = codes "D"

-- how the names of the helpers of assignments begin
abbrev pub work_letters : Derived → List ℕ
work_letters adjoint_text = codes "ADW"
work_letters tangent_text = codes "ADY"

-- how the names of a role's helpers begin
abbrev pub letters_for : Derived → Role → List ℕ
letters_for o work = work_letters o
letters_for o temp = codes "ADZ"
letters_for o control = codes "ADC"
letters_for o first = codes "ADM"
letters_for o stride = codes "ADI"
letters_for o count = codes "ADL"
letters_for o turn = codes "ADJ"
letters_for o entry = codes "ADK"
letters_for o entries = codes "ADN"
letters_for o kind = codes "ADA"
letters_for o lower = codes "ADF"
letters_for o upper = codes "ADT"
letters_for o slots = codes "ADS"

-- the name that a variable gets where it is free; a unit has one control word
abbrev pub wanted_for : Derived → Var → List ℕ
wanted_for o (plain x) = x
wanted_for o (shadow x) = x ++ mark_of o
wanted_for o (helper control k) = letters_for o control
wanted_for o (helper r k) = letters_for o r ++ digits k

-- a variable and its name
pub record Named : Type 0 where
  pub variable : Var
  pub name : List ℕ

-- a variable of the text keeps its name
abbrev pub own : List ℕ → Named
own x = record { variable = plain x; name = x }

-- variables that are named in order, each by a name that isn't taken
abbrev pub named_for : Derived → List (List ℕ) → List Var → List Named
named_for o taken [] = []
named_for o taken (v ∷ vs) = record { variable = v; name = fresh (wanted_for o v) taken } ∷ named_for o (taken ++ (fresh (wanted_for o v) taken ∷ [])) vs

-- the names of a unit: those of its own variables, and those of the variables made for it, where `units` are all units' names
abbrev pub unit_names_for : Derived → List (List ℕ) → List (List ℕ) → List Var → List Named
unit_names_for o own_names units made = map own own_names ++ named_for o (own_names ++ (units ++ reserved)) made

-- ---- the same of adjoints

abbrev pub letters : Role → List ℕ
letters r = letters_for adjoint_text r

abbrev pub wanted : Var → List ℕ
wanted v = wanted_for adjoint_text v

abbrev pub named : List (List ℕ) → List Var → List Named
named taken vs = named_for adjoint_text taken vs

abbrev pub unit_names : List (List ℕ) → List (List ℕ) → List Var → List Named
unit_names own_names units made = unit_names_for adjoint_text own_names units made

-- ---- the table of a unit's names

-- a name that no text has, one for each variable
abbrev pub outside : Var → List ℕ
outside (plain x) = 0 ∷ 0 ∷ x
outside (shadow x) = 0 ∷ 1 ∷ x
outside (helper r k) = 0 ∷ 2 ∷ role_code r ∷ digits k

-- the name of a variable; one that has none is outside all texts
abbrev pub name_in : List Named → Var → List ℕ
name_in [] v = outside v
name_in (p ∷ ps) v = if var_eq v p.variable then p.name else name_in ps v

-- the variable under its name
abbrev pub naming : List Named → Var → Var
naming ps v = plain (name_in ps v)

-- ---- names that are of a text, and apart

-- whether a name begins with the byte 0, which no text has
abbrev pub begins_outside : List ℕ → Bool
begins_outside [] = false
begins_outside (a ∷ x) = a == 0

-- each name is of a text
abbrev pub AreInside : List (List ℕ) → Type 0
AreInside [] = Unit {0}
AreInside (x ∷ xs) = (begins_outside x ≡ false) × AreInside xs

-- the names that a table gives
abbrev pub names : List Named → List (List ℕ)
names [] = []
names (p ∷ ps) = p.name ∷ names ps
