-- CallWritten: what the lexemes behind CALL say is written, where its literals fit.
use Rattle.std.proofs.Common.{◌≡◌, ℕ, Bool, true, false, List, [], ◌∷◌, Option, Some, None, refl, subst}
use Rattle.std.specs.Prelude.{codes, if◌then◌else◌}
use Rattle.adj_tree.specs.Code.{Var, Terms, lit, var, elem, neg, bin, pow, power_of, abs, none, more, name_eq, Runtime, push_word, pop_word, push_array, pop_array, push_control, pop_control, zero_array, begin_reversal, count_actions, give_action, end_reversal, Act}
use Rattle.def_text.specs.declared.token.TokenKind.TheVariants.{Right}
use Rattle.def_text.specs.Statement as statements
use Rattle.def_text.specs.Statement.{as_place, as_name, as_value, as_beginning, as_count, as_action, as_nothing, runtime_call, called, called_as, ReadsCall, ReadsGuarded}
use Rattle.def_text.specs.Lexeme.{Lexeme, Mark}
use Rattle.def_text.specs.Written.{IsName, IsVariable, IsActualPlace, IsWrittenTerm, IsWrittenRuntime}
use Rattle.def_text.specs.Fits.{FitsTerms, FitsRuntime}
use Rattle.def_text.proofs.TermWritten.{AreLexemes, AllWhereFit, all_where_fit, reads_written}
use Rattle.def_text.proofs.FormWritten.{ActWhereFits, assignment_written}

-- the runtime call, if there is one, is written where its literals fit
abbrev Good : Option Runtime → Type 0
Good o = (r : Runtime) → o ≡ Some r → FitsRuntime r → IsWrittenRuntime r

good_none : Good None
good_none r e = absurd cc

good_some : (s : Runtime) → (FitsRuntime s → IsWrittenRuntime s) → Good (Some s)
good_some s h r e = let P : Runtime → Type 0 = λ q. FitsRuntime q → IsWrittenRuntime q in let q : s ≡ r = cc in subst P q h

good_if : (b : Bool) (o p : Option Runtime) → Good o → Good p → Good (if b then o else p)
good_if true o p h g = h
good_if false o p h g = g

actual_place : (x : Var) (s : Terms) → IsWrittenTerm (elem x s) → IsActualPlace x s
actual_place x none h = absurd h.1
actual_place x (more a s) h = h

good_place : (make : Var → Terms → Runtime) → ((x : Var) (s : Terms) → IsActualPlace x s → IsWrittenRuntime (make x s)) → ((x : Var) (s : Terms) → FitsRuntime (make x s) → FitsTerms s) → (es : Terms) → AllWhereFit es → Good (as_place make es)
good_place make h f none w = good_none
good_place make h f (more (var x) none) w = good_some (make x none) (λ fits. h x none (w.0 tt))
good_place make h f (more (var x) (more b es)) w = good_none
good_place make h f (more (elem x s) none) w = good_some (make x s) (λ fits. h x s (actual_place x s (w.0 (f x s fits))))
good_place make h f (more (elem x s) (more b es)) w = good_none
good_place make h f (more (lit n) es) w = good_none
good_place make h f (more (neg a) es) w = good_none
good_place make h f (more (bin op a b) es) w = good_none
good_place make h f (more (pow a k) es) w = good_none
good_place make h f (more (power_of a c) es) w = good_none
good_place make h f (more (abs a) es) w = good_none

good_name : (make : Var → Runtime) → ((x : Var) → IsVariable x → IsWrittenRuntime (make x)) → (es : Terms) → AllWhereFit es → Good (as_name make es)
good_name make h none w = good_none
good_name make h (more (var x) none) w = good_some (make x) (λ fits. h x (w.0 tt))
good_name make h (more (var x) (more b es)) w = good_none
good_name make h (more (elem x s) es) w = good_none
good_name make h (more (lit n) es) w = good_none
good_name make h (more (neg a) es) w = good_none
good_name make h (more (bin op a b) es) w = good_none
good_name make h (more (pow a k) es) w = good_none
good_name make h (more (power_of a c) es) w = good_none
good_name make h (more (abs a) es) w = good_none

good_value : (es : Terms) → AllWhereFit es → Good (as_value es)
good_value none w = good_none
good_value (more e none) w = good_some (push_control e) w.0
good_value (more e (more b es)) w = good_none

good_beginning : (es : Terms) → AllWhereFit es → Good (as_beginning es)
good_beginning none w = good_none
good_beginning (more l none) w = good_none
good_beginning (more l (more s none)) w = good_some (begin_reversal l s) (λ f. (w.0 f.0, w.1.0 f.1))
good_beginning (more l (more s (more b es))) w = good_none

good_count : (es : Terms) → AllWhereFit es → Good (as_count es)
good_count none w = good_none
good_count (more l none) w = good_none
good_count (more l (more s none)) w = good_none
good_count (more l (more s (more (var n) none))) w = good_some (count_actions l s n) (λ f. (w.0 f.0, w.1.0 f.1, w.1.1.0 tt))
good_count (more l (more s (more (var n) (more b es)))) w = good_none
good_count (more l (more s (more (elem x t) es))) w = good_none
good_count (more l (more s (more (lit n) es))) w = good_none
good_count (more l (more s (more (neg a) es))) w = good_none
good_count (more l (more s (more (bin op a b) es))) w = good_none
good_count (more l (more s (more (pow a k) es))) w = good_none
good_count (more l (more s (more (power_of a c) es))) w = good_none
good_count (more l (more s (more (abs a) es))) w = good_none

-- of three variables, which follow three expressions
good_action : (es : Terms) → AllWhereFit es → Good (as_action es)
good_action none w = good_none
good_action (more l none) w = good_none
good_action (more l (more s none)) w = good_none
good_action (more l (more s (more k none))) w = good_none
good_action (more l (more s (more k (more (var a) none)))) w = good_none
good_action (more l (more s (more k (more (var a) (more (var f) none))))) w = good_none
good_action (more l (more s (more k (more (var a) (more (var f) (more (var t) none)))))) w = good_some (give_action l s k a f t) (λ z. (w.0 z.0, w.1.0 z.1, w.1.1.0 z.2, w.1.1.1.0 tt, w.1.1.1.1.0 tt, w.1.1.1.1.1.0 tt))
good_action (more l (more s (more k (more (var a) (more (var f) (more (var t) (more b es))))))) w = good_none
good_action (more l (more s (more k (more (var a) (more (var f) (more (elem x u) es)))))) w = good_none
good_action (more l (more s (more k (more (var a) (more (var f) (more (lit n) es)))))) w = good_none
good_action (more l (more s (more k (more (var a) (more (var f) (more (neg b) es)))))) w = good_none
good_action (more l (more s (more k (more (var a) (more (var f) (more (bin op b c) es)))))) w = good_none
good_action (more l (more s (more k (more (var a) (more (var f) (more (pow b n) es)))))) w = good_none
good_action (more l (more s (more k (more (var a) (more (var f) (more (power_of b c) es)))))) w = good_none
good_action (more l (more s (more k (more (var a) (more (var f) (more (abs b) es)))))) w = good_none
good_action (more l (more s (more k (more (var a) (more (elem x u) es))))) w = good_none
good_action (more l (more s (more k (more (var a) (more (lit n) es))))) w = good_none
good_action (more l (more s (more k (more (var a) (more (neg b) es))))) w = good_none
good_action (more l (more s (more k (more (var a) (more (bin op b c) es))))) w = good_none
good_action (more l (more s (more k (more (var a) (more (pow b n) es))))) w = good_none
good_action (more l (more s (more k (more (var a) (more (power_of b c) es))))) w = good_none
good_action (more l (more s (more k (more (var a) (more (abs b) es))))) w = good_none
good_action (more l (more s (more k (more (elem x u) es)))) w = good_none
good_action (more l (more s (more k (more (lit n) es)))) w = good_none
good_action (more l (more s (more k (more (neg b) es)))) w = good_none
good_action (more l (more s (more k (more (bin op b c) es)))) w = good_none
good_action (more l (more s (more k (more (pow b n) es)))) w = good_none
good_action (more l (more s (more k (more (power_of b c) es)))) w = good_none
good_action (more l (more s (more k (more (abs b) es)))) w = good_none

good_nothing : (es : Terms) → Good (as_nothing es)
good_nothing none = good_some end_reversal (λ f. tt)
good_nothing (more e es) = good_none

good_call : (x : List ℕ) (es : Terms) → AllWhereFit es → Good (runtime_call x es)
good_call x es w =
    good_if (name_eq x (codes "PUSHINTEGER8")) _ _ (good_place push_word (λ y s h. h) (λ y s f. f) es w)
    (good_if (name_eq x (codes "POPINTEGER8")) _ _ (good_place pop_word (λ y s h. h) (λ y s f. f) es w)
    (good_if (name_eq x (codes "PUSHINTEGER8ARRAY")) _ _ (good_name push_array (λ y h. h) es w)
    (good_if (name_eq x (codes "POPINTEGER8ARRAY")) _ _ (good_name pop_array (λ y h. h) es w)
    (good_if (name_eq x (codes "PUSHCONTROL1B")) _ _ (good_value es w)
    (good_if (name_eq x (codes "POPCONTROL1B")) _ _ (good_name pop_control (λ y h. h) es w)
    (good_if (name_eq x (codes "ADZERO8")) _ _ (good_name zero_array (λ y h. h) es w)
    (good_if (name_eq x (codes "ADBEG")) _ _ (good_beginning es w)
    (good_if (name_eq x (codes "ADACTN")) _ _ (good_count es w)
    (good_if (name_eq x (codes "ADACT")) _ _ (good_action es w)
    (good_if (name_eq x (codes "ADEND")) _ _ (good_nothing es) good_none))))))))))

as_written : (x : List ℕ) (es : Terms) (o : Option Runtime) → runtime_call x es ≡ o → IsName x → AllWhereFit es → Good o → ActWhereFits (called_as x es o)
as_written x es (Some r) e n w g = λ f. g r refl f
as_written x es None e n w g = λ f. (n, all_where_fit es w f, e)

called_written : (x : List ℕ) (es : Terms) → IsName x → AllWhereFit es → ActWhereFits (called x es)
called_written x es n w = as_written x es (runtime_call x es) refl n w (good_call x es w)

pub call_written : {ts : List Lexeme} {a : Act} → ReadsCall ts a → AreLexemes ts → ActWhereFits a
call_written (statements.ReadsCall.alone {x = x}) h = called_written x none h.0 tt
call_written (statements.ReadsCall.empty {x = x}) h = called_written x none h.0 tt
call_written (statements.ReadsCall.actuals {x = x} {ts = ts} {n = n} {es = es} d) h = called_written x es h.0 (reads_written ts (Mark Right ∷ []) n es d h.1).1

pub guarded_written : {ts : List Lexeme} {a : Act} → ReadsGuarded ts a → AreLexemes ts → ActWhereFits a
guarded_written (statements.ReadsGuarded.assigned d) h = assignment_written d h
guarded_written (statements.ReadsGuarded.calls d) h = call_written d h
