-- Literals: an expression is literal exactly where its tree is.
use Rattle.std.proofs.Common.{◌≡◌, ◌&&◌, ℕ, pos, Bool, true, false, List, Option, Some, None, refl, sym, ap, ap₂, ◌∙◌}
use Rattle.std.specs.Prelude.{◌||◌, codes, if◌then◌else◌}
use Rattle.adj_tree.specs.Code.{Op, modulo, greater, lesser, Term, Terms, lit, var, elem, neg, bin, pow, power_of, abs, none, more, plain, name_eq}
use Rattle.def_text.specs.Char.{number_of}
use Rattle.def_text.specs.Grammar.{Syntax, number, variable, negated, joined, raised, applied, joins_literals, is_literal, exponent, with_both, tree, trees_before, operation_of, is_absolute, two_arguments, application_of}
use Rattle.def_text.specs.Written as trees
use Rattle.def_text.proofs.Parts.{map_some, both_some}

-- an intrinsic of two arguments is no operation of literals
abbrev NoLiterals : Option Op → Type 0
NoLiterals o = (op : Op) → o ≡ Some op → joins_literals op ≡ false

no_literals_if : (b : Bool) (o p : Option Op) → NoLiterals o → NoLiterals p → NoLiterals (if b then o else p)
no_literals_if true o p h g = h
no_literals_if false o p h g = g

no_literals_some : (op : Op) → joins_literals op ≡ false → NoLiterals (Some op)
no_literals_some op h k e = let q : op ≡ k = cc in ap joins_literals (sym q) ∙ h

intrinsic_joins : (x : List ℕ) → NoLiterals (operation_of x)
intrinsic_joins x =
    no_literals_if (name_eq x (codes "MAX") || name_eq x (codes "MAX0")) _ _ (no_literals_some greater refl)
    (no_literals_if (name_eq x (codes "MIN") || name_eq x (codes "MIN0")) _ _ (no_literals_some lesser refl)
    (no_literals_if (name_eq x (codes "MOD")) _ _ (no_literals_some modulo refl) (λ op e. absurd cc)))

two_not : (x : List ℕ) (o : Option Op) (a b : Term) → NoLiterals o → trees.is_literal (two_arguments x o a b) ≡ false
two_not x (Some op) a b h = rw (h op refl) refl
two_not x None a b h = refl

one_not : (x : List ℕ) (a : Term) (l : Bool) → trees.is_literal (if l then abs a else elem (plain x) (more a none)) ≡ false
one_not x a true = refl
one_not x a false = refl

-- a name with arguments isn't literal
application_not : (x : List ℕ) (es : Terms) → trees.is_literal (application_of x es) ≡ false
application_not x none = refl
application_not x (more a none) = one_not x a (is_absolute x)
application_not x (more a (more b none)) = two_not x (operation_of x) a b (intrinsic_joins x)
application_not x (more a (more b (more c es))) = refl

number_literal : (ds : List ℕ) (t : Term) → tree (number ds) ≡ Some t → true ≡ trees.is_literal t
number_literal ds t e = let q : lit (pos (number_of ds)) ≡ t = cc in ap trees.is_literal q

variable_literal : (x : List ℕ) (t : Term) → tree (variable x) ≡ Some t → false ≡ trees.is_literal t
variable_literal x t e = let q : var (plain x) ≡ t = cc in ap trees.is_literal q

and-true : (b : Bool) → b && true ≡ b
and-true true = refl
and-true false = refl

and-false : (b : Bool) → b && false ≡ false
and-false true = refl
and-false false = refl

pub literal_is : (s : Syntax) (t : Term) → tree s ≡ Some t → is_literal s ≡ trees.is_literal t
literal_is (number ds) t e = number_literal ds t e
literal_is (variable x) t e = variable_literal x t e
literal_is (negated s) t e = let r = map_some neg (tree s) t e in literal_is s r.0 r.1 ∙ ap trees.is_literal r.2
literal_is (joined op a b) t e = let r = both_some (bin op) (tree a) (tree b) t e in ap₂ (λ l m. joins_literals op && (l && m)) (literal_is a r.0 r.2) (literal_is b r.1 r.3) ∙ ap trees.is_literal r.4
literal_is (raised a b) t e =
    elim (is_literal b) as (λ l. is_literal b ≡ l → (if l then with_both (λ t k. Some (pow t k)) (tree a) (exponent b) else with_both (λ t u. Some (power_of t u)) (tree a) (tree b)) ≡ Some t → is_literal a && l ≡ trees.is_literal t) [
      | true ↦ λ l g. let r = both_some pow (tree a) (exponent b) t g in and-true (is_literal a) ∙ literal_is a r.0 r.2 ∙ ap trees.is_literal r.4
      | false ↦ λ l g.
          let r = both_some power_of (tree a) (tree b) t g in
          let no : trees.is_literal r.1 ≡ false = sym (literal_is b r.1 r.3) ∙ l in
          and-false (is_literal a) ∙ sym (and-false (trees.is_literal r.0)) ∙ ap (λ m. trees.is_literal r.0 && m) (sym no) ∙ ap trees.is_literal r.4
    ] refl e
literal_is (applied x all) t e = let r = map_some (application_of x) (trees_before all none) t e in sym (application_not x r.0) ∙ ap trees.is_literal r.2
