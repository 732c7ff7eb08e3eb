-- Limits: texts at the limits of their mode, and one past each.
use Rattle.std.specs.Prelude.{◌≡◌, ℕ, zero, suc, false, List, [], ◌∷◌, ◌++◌, codes, Some, None}
use Rattle.adj_tree.specs.Code.{plain, Term, neg, none, assign, choose, Code, stop, step}
use Rattle.adj_tree.specs.declared.stmt.Mark.TheVariants.{Plain}
use Rattle.def_text.specs.Form.{go_on}
use Rattle.def_text.specs.Limits.{limits_of, no_limits}
use Rattle.def_text.specs.Line.{next_number}
use Rattle.def_text.specs.Text.{statement}
use Rattle.def_text.specs.declared.mode.Mode.TheVariants.{Source, Run}
use Rattle.def_text.specs.declared.stated.Kind.TheVariants.{Continue}
use Rattle.adj_parse.specs.Trees.{bounds_of, start, behind}
use Rattle.law_examples.specs.Texts.{use_of, literal, name_x, bare, above, Is}
use Rattle.law_examples.specs.Refusals.{within, Limited}

-- some texts so often, one behind another
abbrev pub often : {A : Type 0} → ℕ → List A → List A
often zero t = []
often (suc n) t = t ++ often n t

abbrev pub negations : ℕ → Term
negations zero = literal 1
negations (suc n) = neg (negations n)

-- a statement on lines of 66 characters; what is behind its line feed is a comment
abbrev pub on_lines : List ℕ → List ℕ
on_lines cs = statement cs ++ codes "C"

-- something behind so many signs
abbrev pub signed : ℕ → List ℕ → List ℕ
signed n cs = often n (codes "-(") ++ cs ++ often n (codes ")")

-- X is a literal behind so many signs
abbrev pub deep : ℕ → List (List ℕ)
deep n = on_lines (codes "X=" ++ signed n (codes "1")) ∷ []

-- IFs in one another, on lines from 2 on
abbrev pub ifs_open : ℕ → List (List ℕ)
ifs_open n = often n (codes "      IF(X.GT.1)THEN" ∷ [])

abbrev pub ifs : ℕ → List (List ℕ)
ifs n = ifs_open n ++ often n (codes "      END IF" ∷ [])

abbrev pub nested : ℕ → ℕ → Code
nested zero line = stop
nested (suc n) line = step line (choose (above (use_of name_x) 1) (nested n (suc line)) stop) stop

-- X=1 in so many continuation lines
abbrev pub long : ℕ → List (List ℕ)
long n = codes "      X=" ∷ often n (codes "     1" ∷ []) ++ codes "     11" ∷ []

abbrev pub Bounds : Type 0
Bounds =
    Is Source (within (ifs 30)) (bare [] (nested 30 2) ∷ [])
    × Limited Source (within (ifs 31)) 30 32
    × Limited Run (within (ifs 46)) 45 47
    × Is Source (within (deep 99)) (bare [] (step 2 (assign (plain name_x) none (negations 99)) stop) ∷ [])
    × Limited Source (within (deep 100)) 100 2
    × Limited Run (within (deep 120)) 120 2
    × Is Source (within (long 18)) (bare [] (step 2 (assign (plain name_x) none (literal 1)) stop) ∷ [])
    × Limited Source (within (long 19)) 19 22
    × Is Run (within (long 19)) (bare [] (step 2 (assign (plain name_x) none (literal 1)) stop) ∷ [])
    × (bounds_of Source ≡ record { units = Some 2000; statements = 200000; depth = 100; nesting = 30 })
    × (bounds_of Run ≡ record { units = None; statements = 4000000; depth = 120; nesting = 45 })
    × (limits_of Source ≡ record { continuations = Some 19; name = Some 31 })
    × (limits_of Run ≡ record { continuations = None; name = Some 63 })
    × (no_limits ≡ record { continuations = None; name = None })
    × (next_number 7 ≡ 8) × (next_number 4294967294 ≡ 4294967295) × (next_number 4294967295 ≡ 4294967295)
    × ((start Source).room ≡ 200000)
    × ((behind (start Source) (record { line = 3; label = 0; mark = Plain; split = false; mark_line = 0; kind = Continue; text = codes "CONTINUE"; tokens = [] }) go_on).room ≡ 199999)
