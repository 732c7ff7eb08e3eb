-- Phrased: what a statement of each class says, judged by its parts.
use Rattle.std.proofs.Common.{◌≡◌, ℕ, false, List, [], ◌∷◌, map, Option, Some, None, option_map, Result, Ok, Err, refl, sym, ap, ◌∙◌}
use Rattle.std.specs.List.{list_any}
use Rattle.adj_tree.specs.Code.{Test, Mark, Act}
use Rattle.def_text.specs.Condition.{Condition, test}
use Rattle.def_text.specs.Form.{Form, implicit_none, integers, common, simple, logical, opens_do, opens_while, opens_if, otherwise, otherwise_if, end_do, go_on, end_if, leaves, ends}
use Rattle.def_text.specs.Statement.{Item, Range}
use Rattle.def_text.specs.Char.{number_of}
use Rattle.def_text.specs.Lexeme.{Lexeme}
use Rattle.def_text.specs.declared.stated.Kind.{Kind}
use Rattle.def_text.specs.declared.stated.Kind.TheVariants.{Do, BlockIf, LogicalIf, Assign, Continue, Return, End, EndIf, EndDo, Else, ImplicitNone, ElseIf, DoWhile, Subroutine, Integer, Call, Common}
use Rattle.adj_parse_expression.specs.Judged.{test_large, judged_test}
use Rattle.adj_parse_expression.specs.View.{seen}
use Rattle.adj_parse_expression.specs.declared.flaw.Flaw.{Flaw}
use Rattle.adj_parse_statement.specs.Phrase.{Deed, Declared, Bounds, plainly, declares, shares, does, guards, repeats, goes_while, opens, turns}
use Rattle.adj_parse_statement.specs.Phrases.{ended, read_head, read_items, read_common, read_assignment, read_call, read_logical, read_do, read_test}
use Rattle.adj_parse_statement.specs.Said.{item_large, item, deed_large, deed_deep, act, bounds_large, bounds_deep, range, test_deep, judged_phrase, said}
use Rattle.adj_parse_statement.specs.Fronts.{judged_items, judged_common, judged_deed, front_assignment, front_call, judged_logical, front_logical, judged_bounds, judged_loop, front_do, front_test}
use Rattle.adj_parse_statement.proofs.Judging.{seen-judged, seen-seen, joined-judged}

-- what a call found, seen through what it is made into
pub seen_found : {A B C D : Type 0} (view : B → C) (make : A → B) (f : A → D) (g : D → C) → ((a : A) → view (make a) ≡ g (f a)) → (o : Option (Result A Flaw)) (found : Option (Result B Flaw)) (front : Option (Result D Flaw)) (whole : Option (Result C Flaw)) → found ≡ option_map (seen make) o → option_map (seen f) o ≡ front → whole ≡ option_map (seen g) front → option_map (seen view) found ≡ whole
seen_found {A} {B} {C} {D} view make f g same o found front whole h i j = ap (option_map (seen view)) h ∙ go o ∙ ap (option_map (seen g)) i ∙ sym j
  where
    go : (o : Option (Result A Flaw)) → option_map (seen view) (option_map (seen make) o) ≡ option_map (seen g) (option_map (seen f) o)
    go None = refl
    go (Some (Ok a)) = ap (λ (c : C). Some (Ok c)) (same a)
    go (Some (Err e)) = refl

pub ended_found : {B C : Type 0} (view : B → C) (b : B) (ws : List Lexeme) (found : Option (Result B Flaw)) (whole : Option (Result C Flaw)) → found ≡ ended (Ok b) ws → whole ≡ ended (Ok (view b)) ws → option_map (seen view) found ≡ whole
ended_found {B} {C} view b ws found whole h j = ap (option_map (seen view)) h ∙ go ws ∙ sym j
  where
    go : (ws : List Lexeme) → option_map (seen view) (ended (Ok b) ws) ≡ ended (Ok (view b)) ws
    go [] = refl
    go (w ∷ ws) = refl

-- of the class and the lexemes that a statement has
pub said_of : (limit : ℕ) (mark : Mark) (kind k : Kind) (ws vs : List Lexeme) → kind ≡ k → ws ≡ vs → said limit mark kind vs ≡ said limit mark k ws
said_of limit mark kind k ws vs e h = ap (λ (j : Kind). said limit mark j vs) e ∙ ap (said limit mark k) (sym h)

-- what is judged again is judged at once
again : {A B C D : Type 0} (f : A → B) (g : B → C) (j : A → D) (k : D → C) → ((a : A) → g (f a) ≡ k (j a)) → (o : Option A) → option_map g (option_map f o) ≡ option_map k (option_map j o)
again f g j k same None = refl
again f g j k same (Some a) = ap Some (same a)

pub said_subroutine : (limit : ℕ) (mark : Mark) (ws : List Lexeme) → said limit mark Subroutine ws ≡ option_map Ok (read_head ws)
unfolding said
said_subroutine limit mark ws = go (read_head ws)
  where
    go : (o : Option Form) → option_map (judged_phrase limit mark) (option_map plainly o) ≡ option_map Ok o
    go None = refl
    go (Some f) = refl

pub said_integer : (limit : ℕ) (mark : Mark) (ws : List Lexeme) → said limit mark Integer ws ≡ option_map (seen integers) (option_map judged_items (read_items ws))
unfolding said
said_integer limit mark ws = again declares (judged_phrase limit mark) judged_items (seen integers) (λ is. sym (seen-judged integers (list_any item_large is) false (Some (map item is)))) (read_items ws)

pub said_common : (limit : ℕ) (mark : Mark) (ws : List Lexeme) → said limit mark Common ws ≡ option_map (seen (λ (p : List ℕ × List Item). common p.0 p.1)) (option_map judged_common (read_common ws))
unfolding said
said_common limit mark ws =
    again (λ (p : List ℕ × List Declared). shares p.0 p.1) (judged_phrase limit mark) judged_common (seen (λ (p : List ℕ × List Item). common p.0 p.1)) (λ (p : List ℕ × List Declared). sym (seen-seen (λ (q : List ℕ × List Item). common q.0 q.1) (λ (is : List Item). (p.0, is)) (judged_items p.1) ∙ seen-judged (λ (is : List Item). common p.0 is) (list_any item_large p.1) false (Some (map item p.1)))) (read_common ws)

deed_said : (limit : ℕ) (mark : Mark) (d : Deed) → judged_phrase limit mark (does d) ≡ seen simple (judged_deed limit d)
deed_said limit mark d = sym (seen-judged simple (deed_large d) (deed_deep limit d) (act d))

pub said_assign : (limit : ℕ) (mark : Mark) (ws : List Lexeme) → said limit mark Assign ws ≡ option_map (seen simple) (front_assignment limit ws)
unfolding said front_assignment
said_assign limit mark ws = again does (judged_phrase limit mark) (judged_deed limit) (seen simple) (deed_said limit mark) (read_assignment ws)

pub said_call : (limit : ℕ) (mark : Mark) (ws : List Lexeme) → said limit mark Call ws ≡ option_map (seen simple) (front_call limit ws)
unfolding said front_call
said_call limit mark ws = again does (judged_phrase limit mark) (judged_deed limit) (seen simple) (deed_said limit mark) (read_call ws)

pub said_logical : (limit : ℕ) (mark : Mark) (ws : List Lexeme) → said limit mark LogicalIf ws ≡ option_map (seen (λ (p : Test × Act). logical p.0 p.1)) (front_logical limit ws)
unfolding said front_logical
said_logical limit mark ws =
    again (λ (p : Condition × Deed). guards p.0 p.1) (judged_phrase limit mark) (judged_logical limit) (seen (λ (p : Test × Act). logical p.0 p.1)) (λ (p : Condition × Deed). sym (joined-judged logical (test_large p.0) (test_deep limit p.0) (test p.0) (deed_large p.1) (deed_deep limit p.1) (act p.1))) (read_logical ws)

pub said_do : (limit : ℕ) (mark : Mark) (ws : List Lexeme) → said limit mark Do ws ≡ option_map (seen (λ (p : Option ℕ × Range). opens_do p.0 p.1 mark)) (front_do limit ws)
unfolding said front_do
said_do limit mark ws =
    again (λ (p : Option (List ℕ) × Bounds). repeats p.0 p.1) (judged_phrase limit mark) (judged_loop limit) (seen (λ (p : Option ℕ × Range). opens_do p.0 p.1 mark)) (λ (p : Option (List ℕ) × Bounds). sym (seen-seen (λ (q : Option ℕ × Range). opens_do q.0 q.1 mark) (λ (r : Range). (option_map number_of p.0, r)) (judged_bounds limit p.1) ∙ seen-judged (λ (r : Range). opens_do (option_map number_of p.0) r mark) (bounds_large p.1) (bounds_deep limit p.1) (range p.1))) (read_do ws)

pub said_do_while : (limit : ℕ) (mark : Mark) (ws : List Lexeme) → said limit mark DoWhile ws ≡ option_map (seen opens_while) (front_test limit ws)
unfolding said front_test
said_do_while limit mark ws = again goes_while (judged_phrase limit mark) (judged_test limit) (seen opens_while) (λ c. sym (seen-judged opens_while (test_large c) (test_deep limit c) (test c))) (read_test ws)

pub said_block_if : (limit : ℕ) (mark : Mark) (ws : List Lexeme) → said limit mark BlockIf ws ≡ option_map (seen opens_if) (front_test limit ws)
unfolding said front_test
said_block_if limit mark ws = again opens (judged_phrase limit mark) (judged_test limit) (seen opens_if) (λ c. sym (seen-judged opens_if (test_large c) (test_deep limit c) (test c))) (read_test ws)

pub said_else_if : (limit : ℕ) (mark : Mark) (ws : List Lexeme) → said limit mark ElseIf ws ≡ option_map (seen otherwise_if) (front_test limit ws)
unfolding said front_test
said_else_if limit mark ws = again turns (judged_phrase limit mark) (judged_test limit) (seen otherwise_if) (λ c. sym (seen-judged otherwise_if (test_large c) (test_deep limit c) (test c))) (read_test ws)

-- the statements that are one lexeme
lexeme_said : (limit : ℕ) (mark : Mark) (f : Form) (ws : List Lexeme) → option_map (judged_phrase limit mark) (ended (plainly f) ws) ≡ ended (Ok f) ws
lexeme_said limit mark f [] = refl
lexeme_said limit mark f (w ∷ ws) = refl

pub said_implicit : (limit : ℕ) (mark : Mark) (ws : List Lexeme) → said limit mark ImplicitNone ws ≡ ended (Ok implicit_none) ws
unfolding said
said_implicit limit mark ws = lexeme_said limit mark implicit_none ws

pub said_end_do : (limit : ℕ) (mark : Mark) (ws : List Lexeme) → said limit mark EndDo ws ≡ ended (Ok end_do) ws
unfolding said
said_end_do limit mark ws = lexeme_said limit mark end_do ws

pub said_continue : (limit : ℕ) (mark : Mark) (ws : List Lexeme) → said limit mark Continue ws ≡ ended (Ok go_on) ws
unfolding said
said_continue limit mark ws = lexeme_said limit mark go_on ws

pub said_else : (limit : ℕ) (mark : Mark) (ws : List Lexeme) → said limit mark Else ws ≡ ended (Ok otherwise) ws
unfolding said
said_else limit mark ws = lexeme_said limit mark otherwise ws

pub said_end_if : (limit : ℕ) (mark : Mark) (ws : List Lexeme) → said limit mark EndIf ws ≡ ended (Ok end_if) ws
unfolding said
said_end_if limit mark ws = lexeme_said limit mark end_if ws

pub said_return : (limit : ℕ) (mark : Mark) (ws : List Lexeme) → said limit mark Return ws ≡ ended (Ok leaves) ws
unfolding said
said_return limit mark ws = lexeme_said limit mark leaves ws

pub said_end : (limit : ℕ) (mark : Mark) (ws : List Lexeme) → said limit mark End ws ≡ ended (Ok ends) ws
unfolding said
said_end limit mark ws = lexeme_said limit mark ends ws

pub ruleset classes = (said_subroutine, said_integer, said_common, said_assign, said_call, said_logical, said_do, said_do_while, said_block_if, said_else_if, said_implicit, said_end_do, said_continue, said_else, said_end_if, said_return, said_end)
