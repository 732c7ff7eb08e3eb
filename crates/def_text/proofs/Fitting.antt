-- The keyword and the final THEN of a statement stand in its text, one behind the other.
use Rattle.std.proofs.Common.{◌≡◌, ℕ, ◌+◌, ◌-◌, ◌≤◌, ◌&&◌, Bool, true, false, cond, List, [], ◌∷◌, ◌++◌, length, drop, Option, Some, None, refl, sym, ap, ◌∙◌, arith, length-append, length-drop, length-take}
use Rattle.std.specs.Prelude.{codes, bytes_eq, nat_eq, IfSome, unwrap_or, option_map, take_while, if◌then◌else◌, ◌==◌}
use Rattle.std.specs.List.{ends_with, prefix_len}
use Rattle.std.specs.Option.{option_or}
use Rattle.std.proofs.lemmas.Slice.Eq.{starts_is, bytes_eq-Decides}
use Rattle.std.proofs.Math.Dec.{eqb-suc-zero}
use Rattle.std.proofs.lemmas.Bool.Decides.{Decides-eqb}
use Rattle.std.proofs.lemmas.List.{drop_all}
use Rattle.def_text.specs.Char.{star, equals, is_digit}
use Rattle.def_text.specs.Class.{kind_of, is_do, is_if, if_kind, inner, group_len, has_open, whole, is_group, begun, is_integer}
use Rattle.def_text.specs.Stated.{keyword_len, ending_len}
use Rattle.def_text.specs.Token.{begins_with}
use Rattle.def_text.specs.declared.stated.Kind.{Kind}
use Rattle.def_text.specs.declared.stated.Kind.TheVariants.{BlockIf, LogicalIf}

-- what a text that begins with a lexeme is
pub begins_is : (text w : List ℕ) → begins_with text w ≡ true → text ≡ w ++ drop (length w) text
begins_is text w h = (starts_is Decides-eqb text w (begins_with text w) refl).0 h

-- a text is no shorter than a lexeme that it begins with
pub begins_fits : (text w : List ℕ) → begins_with text w ≡ true → length w ≤ length text
begins_fits text w h = omega (arith, ap length (begins_is text w h), length-append w (drop (length w) text))

-- a text that is a lexeme has its length
equal_fits : (text w : List ℕ) → bytes_eq text w ≡ true → length text ≡ length w
equal_fits text w h = ap length ((bytes_eq-Decides text w).0 h)

-- whether a class fits a text
abbrev Fits : List ℕ → Kind → Type 0
Fits text kind = keyword_len kind text + ending_len kind ≤ length text

-- what holds of both answers holds of the chosen one
pub if_some : {X : Type 0} (P : X → Type 0) (b : Bool) (x y : Option X) → (b ≡ true → IfSome x P) → (b ≡ false → IfSome y P) → IfSome (cond b x y) P
if_some P true x y first second = first refl
if_some P false x y first second = second refl

and_first : (a b : Bool) → (a && b) ≡ true → a ≡ true
and_first true b h = refl
and_first false b h = absurd (cc)

and_second : (a b : Bool) → (a && b) ≡ true → b ≡ true
and_second true b h = h
and_second false b h = absurd (cc)

-- ELSEIF( and )THEN don't overlap
else_if : (rest : List ℕ) → ends_with nat_eq (codes "ELSEIF(" ++ rest) (codes ")THEN") ≡ true → 3 ≤ length rest
else_if [] h = absurd (cc)
else_if (a ∷ []) h = absurd (cc)
else_if (a ∷ b ∷ []) h = absurd (cc)
else_if (a ∷ b ∷ c ∷ rest) h = omega arith

-- THEN stands behind the condition
then_fits : (text : List ℕ) (end : Option ℕ) → bytes_eq (drop (unwrap_or (option_map (λ n. n + 2) end) (length text)) text) (codes "THEN") ≡ true → 6 ≤ length text
then_fits text None h = absurd (omega (arith, equal_fits (drop (length text) text) (codes "THEN") h, ap length (drop_all (length text) text (omega arith))))
then_fits text (Some n) h = omega (arith, equal_fits (drop (n + 2) text) (codes "THEN") h, length-drop (n + 2) text)

else_if_fits : (text : List ℕ) → begins_with text (codes "ELSEIF(") ≡ true → ends_with nat_eq text (codes ")THEN") ≡ true → 10 ≤ length text
else_if_fits text begins ends =
    let is = begins_is text (codes "ELSEIF(") begins in
    omega (arith, ap length is, length-append (codes "ELSEIF(") (drop 7 text), else_if (drop 7 text) (sym (ap (λ t. ends_with nat_eq t (codes ")THEN")) is) ∙ ends))

do_fits : (text : List ℕ) → is_do text ≡ true → 2 ≤ length text
do_fits text h = begins_fits text (codes "DO") (and_first _ _ h)

if_fits : (text : List ℕ) → is_if text ≡ true → IfSome (Some (if_kind text)) (Fits text)
if_fits text h =
    let opens = begins_fits text (codes "IF(") (and_first _ _ h) in
    elim (bytes_eq (inner text) (codes "THEN")) as (λ b. bytes_eq (inner text) (codes "THEN") ≡ b → Fits text (cond b BlockIf LogicalIf))
    [ true ↦ λ e. then_fits text (group_len 0 (drop 2 text)) e | false ↦ λ e. omega arith ] refl

pub whole_fits : (text : List ℕ) → IfSome (whole text) (Fits text)
whole_fits text =
    if_some (Fits text) (bytes_eq text (codes "CONTINUE")) _ _ (λ h. omega (arith, equal_fits text (codes "CONTINUE") h)) (λ _.
    if_some (Fits text) (bytes_eq text (codes "RETURN")) _ _ (λ h. omega (arith, equal_fits text (codes "RETURN") h)) (λ _.
    if_some (Fits text) (bytes_eq text (codes "END")) _ _ (λ h. omega (arith, equal_fits text (codes "END") h)) (λ _.
    if_some (Fits text) (bytes_eq text (codes "ENDIF")) _ _ (λ h. omega (arith, equal_fits text (codes "ENDIF") h)) (λ _.
    if_some (Fits text) (bytes_eq text (codes "ENDDO")) _ _ (λ h. omega (arith, equal_fits text (codes "ENDDO") h)) (λ _.
    if_some (Fits text) (bytes_eq text (codes "ELSE")) _ _ (λ h. omega (arith, equal_fits text (codes "ELSE") h)) (λ _.
    if_some (Fits text) (bytes_eq text (codes "IMPLICITNONE")) _ _ (λ h. omega (arith, equal_fits text (codes "IMPLICITNONE") h)) (λ _. tt)))))))

-- a keyword INTEGER with these digits of a width behind its star
abbrev Fits-width : List ℕ → List ℕ → Type 0
Fits-width text ds = (if length ds == 0 then 7 else 8 + length ds) + 0 ≤ length text

width_of_some : (text ds : List ℕ) → 7 ≤ length text → length ds ≤ length text - 8 → Fits-width text ds
width_of_some text [] h within = omega arith
width_of_some text (d ∷ ds) h within =
    let some : (length (d ∷ ds) == 0) ≡ false = eqb-suc-zero (length ds) in
    rw some (omega arith)

-- the digits of the width stand behind INTEGER*
width_fits : (text : List ℕ) (starred : Bool) → 7 ≤ length text → Fits-width text (cond starred (take_while is_digit (drop 8 text)) [])
width_fits text true h = width_of_some text (take_while is_digit (drop 8 text)) h (omega (arith, length-take (prefix_len is_digit (drop 8 text)) (drop 8 text), length-drop 8 text))
width_fits text false h = h

pub begun_fits : (text : List ℕ) → IfSome (begun text) (Fits text)
begun_fits text =
    if_some (Fits text) (begins_with text (codes "ELSEIF(") && ends_with nat_eq text (codes ")THEN")) _ _ (λ h. else_if_fits text (and_first _ _ h) (and_second _ _ h)) (λ _.
    if_some (Fits text) (begins_with text (codes "DOWHILE(") && is_group (drop 7 text)) _ _ (λ h. omega (arith, begins_fits text (codes "DOWHILE(") (and_first _ _ h))) (λ _.
    if_some (Fits text) (begins_with text (codes "SUBROUTINE")) _ _ (λ h. omega (arith, begins_fits text (codes "SUBROUTINE") h)) (λ _.
    if_some (Fits text) (begins_with text (codes "INTEGER")) _ _ (λ h. if_some (Fits text) (is_integer text) _ _ (λ _. width_fits text (begins_with (drop 7 text) (star ∷ [])) (begins_fits text (codes "INTEGER") h)) (λ _. tt)) (λ _.
    if_some (Fits text) (begins_with text (codes "CALL")) _ _ (λ h. omega (arith, begins_fits text (codes "CALL") h)) (λ _.
    if_some (Fits text) (begins_with text (codes "COMMON/")) _ _ (λ h. omega (arith, begins_fits text (codes "COMMON/") h)) (λ _. tt))))))

pub or_fits : (P : Kind → Type 0) (x y : Option Kind) → IfSome x P → IfSome y P → IfSome (option_or x y) P
or_fits P None y first second = second
or_fits P (Some k) y first second = first

-- the keyword and the final THEN of a text's class stand in the text
pub kind_fits : (text : List ℕ) → IfSome (kind_of text) (λ kind. keyword_len kind text + ending_len kind ≤ length text)
unfolding kind_of
kind_fits text =
    if_some (Fits text) (is_do text) _ _ (λ h. omega (arith, do_fits text h)) (λ _.
    if_some (Fits text) (is_if text) _ _ (λ h. if_fits text h) (λ _.
    if_some (Fits text) (has_open equals 0 text) _ _ (λ _. omega arith) (λ _.
    or_fits (Fits text) (whole text) (begun text) (whole_fits text) (begun_fits text))))
