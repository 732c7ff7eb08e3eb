-- TermDerived: the lexemes of a written expression derive it.
use Rattle.std.proofs.Common.{◌≡◌, ℕ, zero, suc, ◌+◌, ◌-◌, ◌*◌, ◌/◌, ◌%◌, ◌<◌, ◌≤◌, ◌^◌, pos, negsuc, Bool, true, false, ltb, List, ◌∷◌, Option, Some, None, refl, ap, ◌∙◌, arith, inl, inr}
use Rattle.std.specs.Prelude.{codes, is_some, ◌||◌, option_and_then, option_map}
use Rattle.std.proofs.lemmas.Bool.{cases_lt, lt-ltb, le-ltb, le-leb}
use Rattle.std.specs.Fmt.{decimal}
use Rattle.std.proofs.lemmas.List.Sums.{fold_push}
use Rattle.std.proofs.lemmas.Fmt.{decimal_by_steps}
use Rattle.adj_tree.specs.Code.{Op, plus, minus, times, quot, modulo, greater, lesser, Term, Terms, lit, var, elem, neg, bin, pow, power_of, abs, none, more, plain, shadow, helper}
use Rattle.def_text.specs.declared.token.TokenKind.TheVariants.{Power, Star, Slash, Plus, Minus, Left, Right, Comma}
use Rattle.def_text.specs.Char.{number_of}
use Rattle.def_text.specs.Grammar.{Syntax, number, variable, negated, joined, raised, applied, Arguments, only, beside, Symbol, Sum, Product, Factor, Primary, adds, subtracts, multiplies, divides, Derives, DerivesAll, literal, name, group, application, primary, power, factor, product, term, sign, sum, single, another, exponent, with_both, tree, trees_before, operation_of, is_absolute, application_of, takes, count_of, ReadsTerm, ReadsTerms}
use Rattle.def_text.specs.Text.{term_level}
use Rattle.def_text.specs.Lexeme.{Lexeme, Named, Digits, Mark}
use Rattle.def_text.specs.Written as trees
use Rattle.def_text.specs.Written.{is_intrinsic, IsWrittenTerm, AreWrittenTerms}
use Rattle.def_text.proofs.Literals.{literal_is}
use Rattle.def_text.proofs.TermLexemes.{Lexemes, enclosed_lexemes, term_lexemes, comma_lexemes}

-- what derives an operand in a place of a level
abbrev pub place : ℕ → Symbol
place zero = Sum
place (suc zero) = Product
place (suc (suc zero)) = Factor
place (suc (suc (suc n))) = Primary

-- these lexemes, before any rest, are derived from the symbol, as this tree
abbrev pub Stands : Symbol → Lexemes → Term → Type 0
Stands symbol ws t = (s : Syntax) × (tree s ≡ Some t) × ((rest : List Lexeme) → Derives symbol (ws rest) rest s)

lift : (p : ℕ) (ws : Lexemes) (t : Term) → Stands Primary ws t → Stands (place p) ws t
lift zero ws t d = (d.0, d.1, λ rest. term (factor (primary (d.2 rest))))
lift (suc zero) ws t d = (d.0, d.1, λ rest. factor (primary (d.2 rest)))
lift (suc (suc zero)) ws t d = (d.0, d.1, λ rest. primary (d.2 rest))
lift (suc (suc (suc p))) ws t d = d

-- an operand whose level isn't below that of its place
lower : (l p : ℕ) (ws : Lexemes) (t : Term) → p ≤ l → Stands (place l) ws t → Stands (place p) ws t
lower zero zero ws t h d = d
lower zero (suc p) ws t h d = absurd (omega arith)
lower (suc zero) zero ws t h d = (d.0, d.1, λ rest. term (d.2 rest))
lower (suc zero) (suc zero) ws t h d = d
lower (suc zero) (suc (suc p)) ws t h d = absurd (omega arith)
lower (suc (suc zero)) zero ws t h d = (d.0, d.1, λ rest. term (factor (d.2 rest)))
lower (suc (suc zero)) (suc zero) ws t h d = (d.0, d.1, λ rest. factor (d.2 rest))
lower (suc (suc zero)) (suc (suc zero)) ws t h d = d
lower (suc (suc zero)) (suc (suc (suc p))) ws t h d = absurd (omega arith)
lower (suc (suc (suc l))) p ws t h d = lift p ws t d

in_parentheses : (l : ℕ) (ws : Lexemes) (t : Term) → Stands (place l) ws t → Stands Primary (enclosed_lexemes true ws) t
in_parentheses l ws t d = let e = lower l 0 ws t (omega arith) d in (e.0, e.1, λ rest. group (e.2 (Mark Right ∷ rest)))

-- an operand in its place
operand : (l p : ℕ) (ws : Lexemes) (t : Term) → Stands (place l) ws t → Stands (place p) (enclosed_lexemes (ltb l p) ws) t
operand l p ws t d =
    elim (cases_lt l p) [
      | inl lt ↦ rw (lt-ltb l p lt) (lift p (enclosed_lexemes true ws) t (in_parentheses l ws t d))
      | inr le ↦ rw (le-ltb l p le) (lower l p ws t le d)
    ]

last_digit : (n k : ℕ) → k ≡ n / 10 → k * 10 + (48 + n % 10 - 48) ≡ n
last_digit n k e = omega arith

-- digits that are printed have the value of their number
pub number_of-decimal : (n : ℕ) → n < 2 ^ 64 → number_of (decimal n) ≡ n
number_of-decimal = decimal_by_steps (λ n ds. number_of ds ≡ n) (λ n h. omega arith) (λ n ds h e. fold_push (λ k digit. k * 10 + (digit - 48)) 0 ds (48 + n % 10) ∙ last_digit n (number_of ds) e)

exponent_stands : (k : ℕ) → k ≤ 63 → exponent (number (decimal k)) ≡ Some k
exponent_stands k h =
    let e : number_of (decimal k) ≡ k = number_of-decimal k (omega arith) in
    let small : k < 2 ^ 63 = omega arith in
    rw (e, lt-ltb k (2 ^ 63) small, le-leb k 63 h) refl

both_false : (a b : Bool) → a || b ≡ false → (a ≡ false) × (b ≡ false)
both_false true b h = absurd cc
both_false false b h = (refl, h)

none_of : (o : Option Op) → is_some o ≡ false → o ≡ None
none_of None h = refl
none_of (Some x) h = absurd cc

-- a name that isn't one of an intrinsic stands before subscripts
no_intrinsic : (x : List ℕ) → is_intrinsic x ≡ false → (is_absolute x ≡ false) × (operation_of x ≡ None)
no_intrinsic x h = let b = both_false (is_absolute x) (is_some (operation_of x)) h in (b.0, none_of (operation_of x) b.1)

takes_one : (x : List ℕ) → is_intrinsic x ≡ false → takes x 1 ≡ true
takes_one x h = let i = no_intrinsic x h in rw (i.1, i.0) refl

takes_two : (x : List ℕ) → is_intrinsic x ≡ false → takes x 2 ≡ true
takes_two x h = let i = no_intrinsic x h in rw (i.1, i.0) refl

-- the tree of an operation of two arguments, and of an element
tree-joined : (op : Op) (s u : Syntax) (a b : Term) → tree s ≡ Some a → tree u ≡ Some b → tree (joined op s u) ≡ Some (bin op a b)
tree-joined op s u a b d e = rw (d, e) refl

tree-one : (x : List ℕ) (s : Syntax) (a : Term) → tree s ≡ Some a → tree (applied x (only s)) ≡ Some (application_of x (more a none))
tree-one x s a d = rw d refl

tree-two : (x : List ℕ) (s u : Syntax) (a b : Term) → tree s ≡ Some a → tree u ≡ Some b → tree (applied x (beside (only s) u)) ≡ Some (application_of x (more a (more b none)))
tree-two x s u a b d e = rw (e, d) refl

element-one : (x : List ℕ) (a : Term) → is_intrinsic x ≡ false → application_of x (more a none) ≡ elem (plain x) (more a none)
element-one x a h = rw (no_intrinsic x h).0 refl

element-two : (x : List ℕ) (a b : Term) → is_intrinsic x ≡ false → application_of x (more a (more b none)) ≡ elem (plain x) (more a (more b none))
element-two x a b h = rw (no_intrinsic x h).1 refl

-- two arguments in parentheses behind a name
two : (x : List ℕ) (ws vs : Lexemes) (s u : Syntax) → takes x 2 ≡ true → ((rest : List Lexeme) → Derives Sum (ws rest) rest s) → ((rest : List Lexeme) → Derives Sum (vs rest) rest u) →
    (rest : List Lexeme) → Derives Primary (Named x ∷ Mark Left ∷ ws (Mark Comma ∷ vs (Mark Right ∷ rest))) rest (applied x (beside (only s) u))
two x ws vs s u h d e rest = application (another (single (d (Mark Comma ∷ vs (Mark Right ∷ rest)))) (e (Mark Right ∷ rest))) h

-- one argument in parentheses behind a name
one : (x : List ℕ) (ws : Lexemes) (s : Syntax) → takes x 1 ≡ true → ((rest : List Lexeme) → Derives Sum (ws rest) rest s) →
    (rest : List Lexeme) → Derives Primary (Named x ∷ Mark Left ∷ ws (Mark Right ∷ rest)) rest (applied x (only s))
one x ws s h d rest = application (single (d (Mark Right ∷ rest))) h

-- an intrinsic of two arguments
intrinsic : (x : List ℕ) (op : Op) (ws vs : Lexemes) (a b : Term) → operation_of x ≡ Some op → Stands Sum ws a → Stands Sum vs b → Stands Primary (λ rest. Named x ∷ Mark Left ∷ ws (Mark Comma ∷ vs (Mark Right ∷ rest))) (bin op a b)
intrinsic x op ws vs a b h d e =
    let takes_both : takes x 2 ≡ true = rw h refl in
    let named : application_of x (more a (more b none)) ≡ bin op a b = rw h refl in
    (applied x (beside (only d.0) e.0), tree-two x d.0 e.0 a b d.1 e.1 ∙ ap Some named, two x ws vs d.0 e.0 takes_both d.2 e.2)

joined_by_plus : (ws vs : Lexemes) (a b : Term) → Stands Sum ws a → Stands Product vs b → Stands Sum (λ rest. ws (Mark Plus ∷ vs rest)) (bin plus a b)
joined_by_plus ws vs a b d e = (joined plus d.0 e.0, tree-joined plus d.0 e.0 a b d.1 e.1, λ rest. sum adds (d.2 (Mark Plus ∷ vs rest)) (e.2 rest))

joined_by_minus : (ws vs : Lexemes) (a b : Term) → Stands Sum ws a → Stands Product vs b → Stands Sum (λ rest. ws (Mark Minus ∷ vs rest)) (bin minus a b)
joined_by_minus ws vs a b d e = (joined minus d.0 e.0, tree-joined minus d.0 e.0 a b d.1 e.1, λ rest. sum subtracts (d.2 (Mark Minus ∷ vs rest)) (e.2 rest))

joined_by_star : (ws vs : Lexemes) (a b : Term) → Stands Product ws a → Stands Factor vs b → Stands Product (λ rest. ws (Mark Star ∷ vs rest)) (bin times a b)
joined_by_star ws vs a b d e = (joined times d.0 e.0, tree-joined times d.0 e.0 a b d.1 e.1, λ rest. product multiplies (d.2 (Mark Star ∷ vs rest)) (e.2 rest))

joined_by_slash : (ws vs : Lexemes) (a b : Term) → Stands Product ws a → Stands Factor vs b → Stands Product (λ rest. ws (Mark Slash ∷ vs rest)) (bin quot a b)
joined_by_slash ws vs a b d e = (joined quot d.0 e.0, tree-joined quot d.0 e.0 a b d.1 e.1, λ rest. product divides (d.2 (Mark Slash ∷ vs rest)) (e.2 rest))

raised_to : (ws : Lexemes) (a : Term) (k : ℕ) → k ≤ 63 → Stands Primary ws a → Stands Factor (λ rest. ws (Mark Power ∷ Digits (decimal k) ∷ rest)) (pow a k)
raised_to ws a k h d =
    let e : with_both (λ t j. Some (pow t j)) (tree d.0) (exponent (number (decimal k))) ≡ Some (pow a k) = rw (d.1, exponent_stands k h) refl in
    (raised d.0 (number (decimal k)), e, λ rest. power (d.2 (Mark Power ∷ Digits (decimal k) ∷ rest)) (primary literal))

raised_by : (ws vs : Lexemes) (a b : Term) → trees.is_literal b ≡ false → Stands Primary ws a → Stands Factor vs b → Stands Factor (λ rest. ws (Mark Power ∷ vs rest)) (power_of a b)
raised_by ws vs a b h d e =
    let kept : tree (raised d.0 e.0) ≡ Some (power_of a b) = rw (literal_is e.0 b e.1 ∙ h, d.1, e.1) refl in
    (raised d.0 e.0, kept, λ rest. power (d.2 (Mark Power ∷ vs rest)) (e.2 rest))

negative : (ws : Lexemes) (a : Term) → Stands Product ws a → Stands Sum (λ rest. Mark Minus ∷ ws rest) (neg a)
negative ws a d = (negated d.0, rw d.1 refl, λ rest. sign subtracts (d.2 rest))

absolute : (ws : Lexemes) (a : Term) → Stands Sum ws a → Stands Primary (λ rest. Named (codes "ABS") ∷ Mark Left ∷ ws (Mark Right ∷ rest)) (abs a)
absolute ws a d = (applied (codes "ABS") (only d.0), tree-one (codes "ABS") d.0 a d.1, one (codes "ABS") ws d.0 refl d.2)

element_of_one : (x : List ℕ) (ws : Lexemes) (a : Term) → is_intrinsic x ≡ false → Stands Sum ws a → Stands Primary (λ rest. Named x ∷ Mark Left ∷ ws (Mark Right ∷ rest)) (elem (plain x) (more a none))
element_of_one x ws a h d = (applied x (only d.0), tree-one x d.0 a d.1 ∙ ap Some (element-one x a h), one x ws d.0 (takes_one x h) d.2)

element_of_two : (x : List ℕ) (ws vs : Lexemes) (a b : Term) → is_intrinsic x ≡ false → Stands Sum ws a → Stands Sum vs b → Stands Primary (λ rest. Named x ∷ Mark Left ∷ ws (Mark Comma ∷ vs (Mark Right ∷ rest))) (elem (plain x) (more a (more b none)))
element_of_two x ws vs a b h d e = (applied x (beside (only d.0) e.0), tree-two x d.0 e.0 a b d.1 e.1 ∙ ap Some (element-two x a b h), two x ws vs d.0 e.0 (takes_two x h) d.2 e.2)

-- the lexemes of a written expression derive it, from the symbol of its level
pub derives : (t : Term) → IsWrittenTerm t → Stands (place (term_level t)) (term_lexemes t) t
derives (lit (pos n)) h = (number (decimal n), ap (λ k. Some (lit (pos k))) (number_of-decimal n (omega arith)), λ rest. literal)
derives (lit (negsuc n)) h = absurd h
derives (var (plain x)) h = (variable x, refl, λ rest. name)
derives (var (shadow x)) h = absurd h
derives (var (helper r k)) h = absurd h
derives (elem (plain x) none) h = absurd h.1
derives (elem (plain x) (more a none)) h = element_of_one x (term_lexemes a) a h.0.1 (lower (term_level a) 0 (term_lexemes a) a (omega arith) (derives a h.2.0))
derives (elem (plain x) (more a (more b none))) h = element_of_two x (term_lexemes a) (term_lexemes b) a b h.0.1 (lower (term_level a) 0 (term_lexemes a) a (omega arith) (derives a h.2.0)) (lower (term_level b) 0 (term_lexemes b) b (omega arith) (derives b h.2.1.0))
derives (elem (plain x) (more a (more b (more c s)))) h = absurd h.1
derives (elem (shadow x) s) h = absurd h.0
derives (elem (helper r k) s) h = absurd h.0
derives (neg a) h = negative (enclosed_lexemes (ltb (term_level a) 1) (term_lexemes a)) a (operand (term_level a) 1 (term_lexemes a) a (derives a h))
derives (bin plus a b) h = joined_by_plus (enclosed_lexemes (ltb (term_level a) 0) (term_lexemes a)) (enclosed_lexemes (ltb (term_level b) 1) (term_lexemes b)) a b (operand (term_level a) 0 (term_lexemes a) a (derives a h.0)) (operand (term_level b) 1 (term_lexemes b) b (derives b h.1))
derives (bin minus a b) h = joined_by_minus (enclosed_lexemes (ltb (term_level a) 0) (term_lexemes a)) (enclosed_lexemes (ltb (term_level b) 1) (term_lexemes b)) a b (operand (term_level a) 0 (term_lexemes a) a (derives a h.0)) (operand (term_level b) 1 (term_lexemes b) b (derives b h.1))
derives (bin times a b) h = joined_by_star (enclosed_lexemes (ltb (term_level a) 1) (term_lexemes a)) (enclosed_lexemes (ltb (term_level b) 2) (term_lexemes b)) a b (operand (term_level a) 1 (term_lexemes a) a (derives a h.0)) (operand (term_level b) 2 (term_lexemes b) b (derives b h.1))
derives (bin quot a b) h = joined_by_slash (enclosed_lexemes (ltb (term_level a) 1) (term_lexemes a)) (enclosed_lexemes (ltb (term_level b) 2) (term_lexemes b)) a b (operand (term_level a) 1 (term_lexemes a) a (derives a h.0)) (operand (term_level b) 2 (term_lexemes b) b (derives b h.1))
derives (bin modulo a b) h = intrinsic (codes "MOD") modulo (enclosed_lexemes (ltb (term_level a) 0) (term_lexemes a)) (enclosed_lexemes (ltb (term_level b) 0) (term_lexemes b)) a b refl (operand (term_level a) 0 (term_lexemes a) a (derives a h.0)) (operand (term_level b) 0 (term_lexemes b) b (derives b h.1))
derives (bin greater a b) h = intrinsic (codes "MAX") greater (enclosed_lexemes (ltb (term_level a) 0) (term_lexemes a)) (enclosed_lexemes (ltb (term_level b) 0) (term_lexemes b)) a b refl (operand (term_level a) 0 (term_lexemes a) a (derives a h.0)) (operand (term_level b) 0 (term_lexemes b) b (derives b h.1))
derives (bin lesser a b) h = intrinsic (codes "MIN") lesser (enclosed_lexemes (ltb (term_level a) 0) (term_lexemes a)) (enclosed_lexemes (ltb (term_level b) 0) (term_lexemes b)) a b refl (operand (term_level a) 0 (term_lexemes a) a (derives a h.0)) (operand (term_level b) 0 (term_lexemes b) b (derives b h.1))
derives (pow a k) h = raised_to (enclosed_lexemes (ltb (term_level a) 3) (term_lexemes a)) a k h.1 (operand (term_level a) 3 (term_lexemes a) a (derives a h.0))
derives (power_of a b) h = raised_by (enclosed_lexemes (ltb (term_level a) 3) (term_lexemes a)) (enclosed_lexemes (ltb (term_level b) 2) (term_lexemes b)) a b h.2 (operand (term_level a) 3 (term_lexemes a) a (derives a h.0)) (operand (term_level b) 2 (term_lexemes b) b (derives b h.1))
derives (abs a) h = absolute (term_lexemes a) a (lower (term_level a) 0 (term_lexemes a) a (omega arith) (derives a h))

-- in a place, in parentheses where its level is below that of the place
pub in_place : (p : ℕ) (t : Term) → IsWrittenTerm t → Stands (place p) (enclosed_lexemes (ltb (term_level t) p) (term_lexemes t)) t
in_place p t h = operand (term_level t) p (term_lexemes t) t (derives t h)

-- as a whole
pub as_whole : (t : Term) → IsWrittenTerm t → Stands Sum (term_lexemes t) t
as_whole t h = lower (term_level t) 0 (term_lexemes t) t (omega arith) (derives t h)

-- the lexemes of a written expression read as it
pub reads_term : (t : Term) (rest : List Lexeme) → IsWrittenTerm t → ReadsTerm (term_lexemes t rest) rest t
reads_term t rest h = let d = as_whole t h in (d.0, d.2 rest, d.1)

-- some expressions and then others
abbrev pub terms_before : Terms → Terms → Terms
terms_before none acc = acc
terms_before (more e others) acc = more e (terms_before others acc)

terms_before-none : (es : Terms) → terms_before es none ≡ es
terms_before-none none = refl
terms_before-none (more e others) = ap (more e) (terms_before-none others)

-- arguments with their trees before any others
abbrev AreTrees : Arguments → (Terms → Terms) → Type 0
AreTrees all f = (acc : Terms) → trees_before all acc ≡ Some (f acc)

-- what follows some arguments joins them
joins_front : (others : Terms) (front : Arguments) (f : Terms → Terms) (ts rest : List Lexeme) → AreWrittenTerms others → AreTrees front f → DerivesAll ts (comma_lexemes others rest) front →
    (all : Arguments) × DerivesAll ts (Mark Right ∷ rest) all × AreTrees all (λ acc. f (terms_before others acc))
joins_front none front f ts rest h e d = (front, d, e)
joins_front (more t others) front f ts rest h e d =
    let w = as_whole t h.0 in
    let trees : AreTrees (beside front w.0) (λ acc. f (more t acc)) = λ acc. ap (option_and_then (λ u. trees_before front (more u acc))) w.1 ∙ e (more t acc) in
    joins_front others (beside front w.0) (λ acc. f (more t acc)) ts rest h.1 trees (another d (w.2 (comma_lexemes others rest)))

-- the lexemes of one expression or more, behind an opening parenthesis, read as these
pub reads_terms : (t : Term) (others : Terms) (rest : List Lexeme) → AreWrittenTerms (more t others) → (n : ℕ) × ReadsTerms (term_lexemes t (comma_lexemes others rest)) (Mark Right ∷ rest) n (more t others)
reads_terms t others rest h =
    let w = as_whole t h.0 in
    let trees : AreTrees (only w.0) (more t) = λ acc. ap (option_map (λ u. more u acc)) w.1 in
    let all = joins_front others (only w.0) (more t) (term_lexemes t (comma_lexemes others rest)) rest h.1 trees (single (w.2 (comma_lexemes others rest))) in
    (count_of all.0, (all.0, all.1, refl, all.2 none ∙ ap (λ es. Some (more t es)) (terms_before-none others)))

-- one subscript, and two
pub reads_one : (a : Term) (rest : List Lexeme) → IsWrittenTerm a → ReadsTerms (term_lexemes a (Mark Right ∷ rest)) (Mark Right ∷ rest) 1 (more a none)
reads_one a rest h = let w = as_whole a h in (only w.0, single (w.2 (Mark Right ∷ rest)), refl, ap (option_map (λ t. more t none)) w.1)

pub reads_two : (a b : Term) (rest : List Lexeme) → IsWrittenTerm a → IsWrittenTerm b → ReadsTerms (term_lexemes a (Mark Comma ∷ term_lexemes b (Mark Right ∷ rest))) (Mark Right ∷ rest) 2 (more a (more b none))
reads_two a b rest h g =
    let w = as_whole a h in
    let v = as_whole b g in
    (beside (only w.0) v.0, another (single (w.2 (Mark Comma ∷ term_lexemes b (Mark Right ∷ rest)))) (v.2 (Mark Right ∷ rest)), refl, ap (option_and_then (λ t. trees_before (only w.0) (more t none))) v.1 ∙ ap (option_map (λ t. more t (more b none))) w.1)
