-- ConditionSteps: behind an operand that goes no further a lexeme does what it does behind the left operand, or behind the comparison.
use Rattle.std.proofs.Common.{◌≡◌, ℕ, List, Option, Some, None, option_and_then, Result, refl, sym, ap, subst, ◌∙◌}
use Rattle.std.specs.Prelude.{IfOk}
use Rattle.adj_tree.specs.Code.{Rel}
use Rattle.adj_tree.specs.declared.Memory.{Memory}
use Rattle.def_text.specs.declared.token.TokenKind.{TokenKind}
use Rattle.def_text.specs.declared.token.TokenKind.TheVariants.{Name, Number}
use Rattle.def_text.specs.Machine.{State, step, whole, finish, chosen}
use Rattle.def_text.specs.Lexeme.{lexeme, Mark}
use Rattle.adj_parse_expression.specs.declared.inside.Advanced.{Advanced}
use Rattle.adj_parse_expression.specs.declared.waiting.Waiting as code
use Rattle.adj_parse_expression.specs.ConditionMachine.{Waiting, First, Second, Made, TestState, behind_left, behind_condition, compare_with, advance, alone, close_all, conclude}
use Rattle.adj_parse_expression.specs.Partial.{Partial, algebra}
use Rattle.adj_parse_expression.specs.PartialCondition.{PartialTest, test_algebra}
use Rattle.adj_parse_expression.specs.Stack.{closed}
use Rattle.adj_parse_expression.specs.Waits.{Turns, Advances}
use Rattle.adj_parse_expression.proofs.Runs.{finish-closed}

-- a name and a number don't go on with a condition
behind_condition-lexeme : (limit : ℕ) (p : List (Waiting PartialTest) × PartialTest) (kind : TokenKind) (text : List ℕ) → behind_condition (test_algebra limit) p (Mark kind) ≡ behind_condition (test_algebra limit) p (lexeme kind text)
behind_condition-lexeme limit p Name text = refl
behind_condition-lexeme limit p Number text = refl
behind_condition-lexeme limit p _ text = refl

pub right_ends : (limit : ℕ) (waits : List (Waiting PartialTest)) (r : Rel) (a b : Partial) (e f : State Partial) (kind : TokenKind) (text : List ℕ) (p : List (Waiting PartialTest) × PartialTest) (left : List code.Waiting) (result : Result Advanced Memory)
    → step (algebra limit) e (lexeme kind text) ≡ None → closed (algebra limit) f ≡ closed (algebra limit) e → Some b ≡ finish (algebra limit) f
    → p ≡ compare_with (test_algebra limit) waits r a b
    → IfOk result (λ next. Advances limit (p.0, Made p.1) (Mark kind) left next) → IfOk result (λ next. Advances limit (waits, Second r a e) (lexeme kind text) left next)
right_ends limit waits r a b e f kind text p left result stays same is_b made behind =
    let found : finish (algebra limit) e ≡ Some b = finish-closed (algebra limit) e ∙ ap (option_and_then whole) (sym same) ∙ sym (finish-closed (algebra limit) f) ∙ sym is_b in
    let then : Option (State Partial) → Option Partial → Option (TestState Partial PartialTest) = λ taken found. chosen taken (λ t. Some (waits, Second r a t)) (option_and_then (λ b. behind_condition (test_algebra limit) (compare_with (test_algebra limit) waits r a b) (lexeme kind text)) found) in
    let goes : advance (test_algebra limit) (p.0, Made p.1) (Mark kind) ≡ advance (test_algebra limit) (waits, Second r a e) (lexeme kind text) =
    behind_condition-lexeme limit p kind text ∙ ap (λ q. behind_condition (test_algebra limit) q (lexeme kind text)) made ∙ sym (ap (λ o. then o (finish (algebra limit) e)) stays ∙ ap (then None) found) in
    let ends : conclude (test_algebra limit) (p.0, Made p.1) ≡ conclude (test_algebra limit) (waits, Second r a e) =
    ap (λ q. alone (close_all (test_algebra limit) q)) made ∙ sym (ap (option_and_then (λ b. alone (close_all (test_algebra limit) (compare_with (test_algebra limit) waits r a b)))) found) in
    let P : Option (TestState Partial PartialTest) → Type 0 = λ o. IfOk result (λ next. Turns o (conclude (test_algebra limit) (p.0, Made p.1)) left next) in
    let Q : Option PartialTest → Type 0 = λ o. IfOk result (λ next. Turns (advance (test_algebra limit) (waits, Second r a e) (lexeme kind text)) o left next) in
    subst Q ends (subst P goes behind)

-- nor with a comparison
behind_left-lexeme : (waits : List (Waiting PartialTest)) (a : Partial) (kind : TokenKind) (text : List ℕ) → behind_left waits (Mark kind) a ≡ behind_left waits (lexeme kind text) a
behind_left-lexeme waits a Name text = refl
behind_left-lexeme waits a Number text = refl
behind_left-lexeme waits a _ text = refl

pub left_ends : (limit : ℕ) (waits : List (Waiting PartialTest)) (a : Partial) (e f : State Partial) (kind : TokenKind) (text : List ℕ) (left : List code.Waiting) (result : Advanced)
    → step (algebra limit) e (lexeme kind text) ≡ None → closed (algebra limit) f ≡ closed (algebra limit) e → Some a ≡ finish (algebra limit) f
    → Turns (behind_left waits (Mark kind) a) None left result → Advances limit (waits, First e) (lexeme kind text) left result
left_ends limit waits a e f kind text left result stays same is_a behind =
    let found : finish (algebra limit) e ≡ Some a = finish-closed (algebra limit) e ∙ ap (option_and_then whole) (sym same) ∙ sym (finish-closed (algebra limit) f) ∙ sym is_a in
    let then : Option (State Partial) → Option Partial → Option (TestState Partial PartialTest) = λ taken found. chosen taken (λ t. Some (waits, First t)) (option_and_then (behind_left waits (lexeme kind text)) found) in
    let goes : behind_left waits (Mark kind) a ≡ advance (test_algebra limit) (waits, First e) (lexeme kind text) =
    behind_left-lexeme waits a kind text ∙ sym (ap (λ o. then o (finish (algebra limit) e)) stays ∙ ap (then None) found) in
    subst (λ o. Turns o None left result) goes behind
