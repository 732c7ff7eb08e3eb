-- TermWritten: expressions that lexemes derive are written, where their literals fit.
use Rattle.std.proofs.Common.{◌≡◌, ℕ, suc, ◌+◌, ◌≤◌, ℤ, pos, negsuc, Bool, true, false, List, [], ◌∷◌, Option, Some, None, refl, sym, ap, subst, ◌∙◌, arith}
use Rattle.std.specs.Prelude.{nat_le, if◌then◌else◌}
use Rattle.std.proofs.lemmas.Bool.{ne_eqb, leb-true}
use Rattle.adj_tree.specs.Code.{Op, Term, Terms, lit, var, elem, neg, bin, pow, power_of, abs, none, more, plain}
use Rattle.def_text.specs.Grammar.{Syntax, number, variable, negated, joined, raised, applied, Arguments, only, beside, count_of, Symbol, adds, subtracts, Derives, DerivesAll, literal, name, group, application, primary, power, factor, product, term, sign, sum, single, another, constant, as_exponent, is_literal, exponent, with_both, tree, trees_before, operation_of, is_absolute, application_of, two_arguments, takes, takes_as, ReadsTerm, ReadsTerms}
use Rattle.def_text.specs.Char.{number_of}
use Rattle.def_text.specs.Lexeme.{Lexeme, Named, Digits, Mark}
use Rattle.def_text.specs.Written.{IsName, IsWrittenTerm, AreWrittenTerms}
use Rattle.def_text.specs.Fits.{FitsTerm, FitsTerms}
use Rattle.def_text.proofs.Literals.{literal_is}
use Rattle.def_text.proofs.Parts.{map_some, then_some, both_some}

-- the names among these lexemes are names
abbrev pub AreLexemes : List Lexeme → Type 0
AreLexemes [] = Unit {0}
AreLexemes (Named x ∷ ws) = IsName x × AreLexemes ws
AreLexemes (Digits ds ∷ ws) = AreLexemes ws
AreLexemes (Mark k ∷ ws) = AreLexemes ws

-- so are those of what they derive, and each has as many arguments as it takes
abbrev mutual
  pub IsNamed : Syntax → Type 0
  IsNamed (number ds) = Unit {0}
  IsNamed (variable x) = IsName x
  IsNamed (negated s) = IsNamed s
  IsNamed (joined op a b) = IsNamed a × IsNamed b
  IsNamed (raised a b) = IsNamed a × IsNamed b
  IsNamed (applied x all) = IsName x × (takes x (count_of all) ≡ true) × AreNamed all

  pub AreNamed : Arguments → Type 0
  AreNamed (only s) = IsNamed s
  AreNamed (beside front s) = AreNamed front × IsNamed s

mutual
  pub derived_named : {symbol : Symbol} {ts rest : List Lexeme} {s : Syntax} → Derives symbol ts rest s → AreLexemes ts → AreLexemes rest × IsNamed s
  derived_named literal h = (h, tt)
  derived_named name h = (h.1, h.0)
  derived_named (group d) h = derived_named d h
  derived_named (application ds e) h = let r = all_named ds h.1 in (r.0, (h.0, e, r.1))
  derived_named (primary d) h = derived_named d h
  derived_named (power d e) h = let r = derived_named d h in let q = derived_named e r.0 in (q.0, (r.1, q.1))
  derived_named (factor d) h = derived_named d h
  derived_named (product m d e) h = let r = derived_named d h in let q = derived_named e r.0 in (q.0, (r.1, q.1))
  derived_named (term d) h = derived_named d h
  derived_named (sign adds d) h = derived_named d h
  derived_named (sign subtracts d) h = derived_named d h
  derived_named (sum m d e) h = let r = derived_named d h in let q = derived_named e r.0 in (q.0, (r.1, q.1))

  all_named : {ts rest : List Lexeme} {all : Arguments} → DerivesAll ts rest all → AreLexemes ts → AreLexemes rest × AreNamed all
  all_named (single d) h = derived_named d h
  all_named (another ds d) h = let r = all_named ds h in let q = derived_named d r.0 in (q.0, (r.1, q.1))

small_exponent : (z : ℤ) (k : ℕ) → as_exponent z ≡ Some k → k ≤ 63
small_exponent (negsuc n) k e = absurd cc
small_exponent (pos n) k e =
    elim (nat_le n 63) as (λ b. nat_le n 63 ≡ b → (if b then Some n else None) ≡ Some k → k ≤ 63) [
      | true ↦ λ t g. let le : n ≤ 63 = leb-true n 63 t in let same : n ≡ k = cc in omega arith
      | false ↦ λ t g. absurd cc
    ] refl e

exponent_small : (s : Syntax) (k : ℕ) → exponent s ≡ Some k → k ≤ 63
exponent_small s k e = let r = then_some as_exponent (constant s) k e in small_exponent r.0 k r.2

-- written, where its literals fit
abbrev pub WhereFits : Term → Type 0
WhereFits t = FitsTerm t → IsWrittenTerm t

abbrev pub AllWhereFit : Terms → Type 0
AllWhereFit none = Unit {0}
AllWhereFit (more e rest) = WhereFits e × AllWhereFit rest

pub all_where_fit : (es : Terms) → AllWhereFit es → FitsTerms es → AreWrittenTerms es
all_where_fit none h f = tt
all_where_fit (more e rest) h f = (h.0 f.0, all_where_fit rest h.1 f.1)

abbrev pub terms_count : Terms → ℕ
terms_count none = 0
terms_count (more e rest) = suc (terms_count rest)

-- an intrinsic takes no number of arguments but its own
takes_at_most : (o : Option Op) (b : Bool) (n : ℕ) → takes_as o b (suc (suc (suc n))) ≡ false
takes_at_most (Some op) b n = ne_eqb (suc (suc (suc n))) 2 (λ e. absurd (omega arith))
takes_at_most None true n = ne_eqb (suc (suc (suc n))) 1 (λ e. absurd (omega arith))
takes_at_most None false n = rw (ne_eqb (suc (suc (suc n))) 1 (λ e. absurd (omega arith)), ne_eqb (suc (suc (suc n))) 2 (λ e. absurd (omega arith))) refl

applied_one : (x : List ℕ) (a : Term) (o : Option Op) (b : Bool) → operation_of x ≡ o → is_absolute x ≡ b → IsName x → takes_as o b 1 ≡ true → WhereFits a → WhereFits (if b then abs a else elem (plain x) (more a none))
applied_one x a (Some op) b e f n h w = absurd cc
applied_one x a None true e f n h w = w
applied_one x a None false e f n h w = λ fits. ((n, rw (f, e) refl), tt, (w fits.0, tt))

applied_two : (x : List ℕ) (a c : Term) (o : Option Op) (b : Bool) → operation_of x ≡ o → is_absolute x ≡ b → IsName x → takes_as o b 2 ≡ true → WhereFits a → WhereFits c → WhereFits (two_arguments x o a c)
applied_two x a c (Some op) b e f n h w v = λ fits. (w fits.0, v fits.1)
applied_two x a c None true e f n h w v = absurd cc
applied_two x a c None false e f n h w v = λ fits. ((n, rw (f, e) refl), tt, (w fits.0, (v fits.1.0, tt)))

takes_counted : (x : List ℕ) (n m : ℕ) → n ≡ m → takes x n ≡ true → takes_as (operation_of x) (is_absolute x) m ≡ true
takes_counted x n m e h = ap (takes_as (operation_of x) (is_absolute x)) (sym e) ∙ h

some_arguments : (all : Arguments) → count_of all ≡ 0 → ⊥
some_arguments (only s) e = absurd (omega arith)
some_arguments (beside front s) e = absurd (omega arith)

application_written : (x : List ℕ) (all : Arguments) (es : Terms) → IsName x → takes x (count_of all) ≡ true → terms_count es ≡ count_of all → AllWhereFit es → WhereFits (application_of x es)
application_written x all none n h c w = absurd (some_arguments all (sym c))
application_written x all (more a none) n h c w = applied_one x a (operation_of x) (is_absolute x) refl refl n (takes_counted x (count_of all) 1 (sym c) h) w.0
application_written x all (more a (more b none)) n h c w = applied_two x a b (operation_of x) (is_absolute x) refl refl n (takes_counted x (count_of all) 2 (sym c) h) w.0 w.1.0
application_written x all (more a (more b (more d es))) n h c w =
    let yes : takes_as (operation_of x) (is_absolute x) (suc (suc (suc (terms_count es)))) ≡ true = takes_counted x (count_of all) (suc (suc (suc (terms_count es)))) (sym c) h in
    let not_so = takes_at_most (operation_of x) (is_absolute x) (terms_count es) in
    absurd cc

number_is : (ds : List ℕ) (t : Term) → tree (number ds) ≡ Some t → lit (pos (number_of ds)) ≡ t
number_is ds t e = cc

variable_is : (x : List ℕ) (t : Term) → tree (variable x) ≡ Some t → var (plain x) ≡ t
variable_is x t e = cc

mutual
  pub tree_written : (s : Syntax) (t : Term) → IsNamed s → tree s ≡ Some t → WhereFits t
  tree_written (number ds) t h e = subst WhereFits (number_is ds t e) (λ fits. fits)
  tree_written (variable x) t h e = subst WhereFits (variable_is x t e) (λ fits. h)
  tree_written (negated s) t h e = let r = map_some neg (tree s) t e in subst WhereFits r.2 (tree_written s r.0 h r.1)
  tree_written (joined op a b) t h e = let r = both_some (bin op) (tree a) (tree b) t e in subst WhereFits r.4 (λ fits. (tree_written a r.0 h.0 r.2 fits.0, tree_written b r.1 h.1 r.3 fits.1))
  tree_written (raised a b) t h e =
      elim (is_literal b) as (λ l. is_literal b ≡ l → (if l then with_both (λ t k. Some (pow t k)) (tree a) (exponent b) else with_both (λ t u. Some (power_of t u)) (tree a) (tree b)) ≡ Some t → WhereFits t) [
        | true ↦ λ l g. let r = both_some pow (tree a) (exponent b) t g in subst WhereFits r.4 (λ fits. (tree_written a r.0 h.0 r.2 fits, exponent_small b r.1 r.3))
        | false ↦ λ l g. let r = both_some power_of (tree a) (tree b) t g in subst WhereFits r.4 (λ fits. (tree_written a r.0 h.0 r.2 fits.0, tree_written b r.1 h.1 r.3 fits.1, sym (literal_is b r.1 r.3) ∙ l))
      ] refl e
  tree_written (applied x all) t h e =
      let r = map_some (application_of x) (trees_before all none) t e in
      let w = arguments_written all none r.0 h.2 r.1 tt in
      subst WhereFits r.2 (application_written x all r.0 h.0 h.1 (w.1 ∙ omega arith) w.0)

  pub arguments_written : (all : Arguments) (rest es : Terms) → AreNamed all → trees_before all rest ≡ Some es → AllWhereFit rest → AllWhereFit es × (terms_count es ≡ count_of all + terms_count rest)
  arguments_written (only s) rest es h e w =
      let r = map_some (λ t. more t rest) (tree s) es e in
      let P : Terms → Type 0 = λ ts. AllWhereFit ts × (terms_count ts ≡ count_of (only s) + terms_count rest) in
      subst P r.2 ((tree_written s r.0 h r.1, w), omega arith)
  arguments_written (beside front s) rest es h e w =
      let r = then_some (λ t. trees_before front (more t rest)) (tree s) es e in
      let q = arguments_written front (more r.0 rest) es h.0 r.2 (tree_written s r.0 h.1 r.1, w) in
      (q.0, q.1 ∙ omega arith)

-- an expression that lexemes read as
pub read_written : (ts rest : List Lexeme) (t : Term) → ReadsTerm ts rest t → AreLexemes ts → AreLexemes rest × WhereFits t
read_written ts rest t d h = let r = derived_named d.1 h in (r.0, tree_written d.0 t r.1 d.2)

pub reads_written : (ts rest : List Lexeme) (n : ℕ) (es : Terms) → ReadsTerms ts rest n es → AreLexemes ts → AreLexemes rest × AllWhereFit es × (terms_count es ≡ n) × (n ≡ 0 → ⊥)
reads_written ts rest n es d h =
    let r = all_named d.1 h in
    let w = arguments_written d.0 none es r.1 d.3 tt in
    (r.0, w.0, w.1 ∙ (let e = d.2 in omega arith), λ e. some_arguments d.0 (d.2 ∙ e))
