-- Faults of the head and of the listed names. (docs/REFUSALS.md, "The head")
use Rattle.std.specs.Prelude.{ℕ, suc, List, [], ◌∷◌, ◌++◌, map, flat_map, Bool, not, Option, Some, None, if◌then◌else◌}
use Rattle.adj_tree.specs.Code.{name_eq, Procedure}
use Rattle.adj_tree.specs.declared.fault.Refusal.{Refusal}
use Rattle.adj_tree.specs.declared.marks.Head.{Head}
use Rattle.def_meaning.specs.Written.{find_unit}
use Rattle.def_meaning.specs.Apart.{has_name}
use Rattle.def_names.specs.Variables.{Name, is_dummy}
use Rattle.def_names.specs.Fault.{fault, faults_if, again, first_of}

-- 23: a listed name that isn't a dummy of the head, or stands twice in its list
abbrev pub listed_faults : Procedure → List Name → List Refusal
listed_faults u listed = flat_map (λ x. faults_if (not (is_dummy u x)) (fault 23 0)) listed ++ again 23 [] (map (λ x. (0, x)) listed)

-- 22: no unit has the head's name
abbrev pub faults_of_head : Option Procedure → List Name → List Name → List Refusal
faults_of_head None vars outvars = fault 22 0 ∷ []
faults_of_head (Some u) vars outvars = listed_faults u vars ++ listed_faults u outvars

abbrev pub head_faults : List Procedure → Name → List Name → List Name → List Refusal
head_faults ps head vars outvars = faults_of_head (find_unit ps head) vars outvars

abbrev pub first_head_fault : List Procedure → Name → List Name → List Name → Option Refusal
first_head_fault ps head vars outvars = first_of (head_faults ps head vars outvars)

-- ---- the head that is found

-- the number of the unit of a name
abbrev pub unit_number : List Procedure → Name → ℕ
unit_number [] name = 0
unit_number (u ∷ us) name = if name_eq u.name name then 0 else suc (unit_number us name)

-- which of a unit's dummies are listed
abbrev pub flags_found : Option Procedure → List Name → List Bool
flags_found None listed = []
flags_found (Some u) listed = map (λ d. has_name d listed) u.dummies

abbrev pub head_of : List Procedure → Name → List Name → List Name → Head
head_of ps head vars outvars = record { unit = unit_number ps head; vars = flags_found (find_unit ps head) vars; outvars = flags_found (find_unit ps head) outvars }
