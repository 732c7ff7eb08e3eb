-- What a text gives within limits, it gives without them.
use Rattle.std.proofs.Common.{◌≡◌, ℕ, Bool, true, false, cond, eqb, List, [], ◌∷◌, ◌++◌, length, map, Option, Some, None, Result, Ok, Err, option_map, refl, sym, ap, ◌∙◌}
use Rattle.std.specs.Prelude.{IfOk, option_to_list, ◌||◌, ◌==◌, ◌&&◌, not}
use Rattle.std.specs.List.{list_all, list_any}
use Rattle.std.proofs.lemmas.List.{map-append}
use Rattle.adj_tree.specs.declared.fault.Refusal.{Refusal}
use Rattle.def_text.specs.Char.{blank, nought, is_between, is_allowed, folded}
use Rattle.def_text.specs.Class.{class_of, is_matched}
use Rattle.def_text.specs.Limits.{Limits, no_limits}
use Rattle.def_text.specs.Line.{cut_lines, column, body, without_cr, is_data, next_number, label_of, advice_of, is_directive, is_comment, is_continuation}
use Rattle.def_text.specs.Lined.{Lines, Directive, Pass, start, flushed, directive_before, has_room, with_directive, with_initial, with_continuation, behind_directive, with_line, ended, pass_over, lines_of}
use Rattle.def_text.specs.Refused.{◌>>=◌}
use Rattle.def_text.specs.Stated.{tokens_of, is_too_long, is_marked_long, with_tokens, with_class, stated, all_stated, statements_of}
use Rattle.def_text.specs.declared.stated.Advice.{Advice}
use Rattle.def_text.specs.declared.stated.Kind.{Kind}
use Rattle.def_text.specs.declared.token.Token.{Token}

-- a statement so far, with room for any number of lines
abbrev pub freed : Lines → Lines
freed s = record { line = s.line; label = s.label; advice = s.advice; mark_line = s.mark_line; text = s.text; room = None }

-- the same of all that is read so far
abbrev freed_pass : Pass → Pass
freed_pass p = record { done = map freed p.done; current = option_map freed p.current; pending = p.pending }

-- where there is an answer, the other is what a function makes of it
abbrev Follows : {X Y : Type 0} → (X → Y) → Result X Refusal → Result Y Refusal → Type 0
Follows f x y = IfOk x (λ q. y ≡ Ok (f q))

-- the same test refuses both, or neither
follows_if : {X Y : Type 0} (f : X → Y) (b : Bool) (e : Refusal) (x : Result X Refusal) (y : Result Y Refusal) → Follows f x y → Follows f (cond b (Err e) x) (cond b (Err e) y)
follows_if f true e x y h = tt
follows_if f false e x y h = h

-- both are chosen by the same test
follows_both : {X Y : Type 0} (f : X → Y) (b : Bool) (x u : Result X Refusal) (y v : Result Y Refusal) → Follows f x y → Follows f u v → Follows f (cond b x u) (cond b y v)
follows_both f true x u y v first second = first
follows_both f false x u y v first second = second

-- one answer after the other
follows_then : {X Y U V : Type 0} (f : X → Y) (g : U → V) (x : Result X Refusal) (y : Result Y Refusal) (a : X → Result U Refusal) (b : Y → Result V Refusal) → Follows f x y → ((q : X) → Follows g (a q) (b (f q))) → Follows g (x >>= a) (y >>= b)
follows_then f g (Ok q) y a b h next = rw h (next q)
follows_then f g (Err e) y a b h next = tt

flushed_freed : (p : Pass) → flushed (freed_pass p) ≡ map freed (flushed p)
flushed_freed p = ap (λ ss. map freed p.done ++ ss) (listed p.current) ∙ sym (map-append freed p.done (option_to_list p.current))
  where
    listed : (s : Option Lines) → option_to_list (option_map freed s) ≡ map freed (option_to_list s)
    listed None = refl
    listed (Some s) = refl

directive_follows : (p : Pass) (n : ℕ) (advice : Option Advice) → Follows freed_pass (with_directive p n advice) (with_directive (freed_pass p) n advice)
directive_follows p n None = tt
directive_follows p n (Some advice) = ap (λ ss. Ok (record { done = ss; current = None; pending = Some (record { advice = advice; line = n }) })) (flushed_freed p)

initial_follows : (limits : Limits) (p : Pass) (n : ℕ) (l : List ℕ) (label : Option ℕ) → Follows freed_pass (with_initial limits p n l label) (with_initial no_limits (freed_pass p) n l label)
initial_follows limits p n l None = tt
initial_follows limits p n l (Some label) =
    follows_if freed_pass (not (column l 6 == blank || column l 6 == nought)) _ _ _ (
    follows_if freed_pass (not (list_all is_allowed (body l))) _ _ _ (
    ap (λ ss. Ok (record { done = ss; current = Some (record { line = n; label = label; advice = (directive_before p.pending).advice; mark_line = (directive_before p.pending).line; text = folded (body l); room = None }); pending = None })) (flushed_freed p)))

-- a test that only one side makes
follows_alone : {X Y : Type 0} (f : X → Y) (b : Bool) (e : Refusal) (x : Result X Refusal) (y : Result Y Refusal) → Follows f x y → Follows f (cond b (Err e) x) y
follows_alone f true e x y h = tt
follows_alone f false e x y h = h

continuation_follows : (limits : Limits) (p : Pass) (n : ℕ) (l : List ℕ) (s : Option Lines) → Follows freed_pass (with_continuation limits p n l s) (with_continuation no_limits (freed_pass p) n l (option_map freed s))
continuation_follows limits p n l None = tt
continuation_follows limits p n l (Some s) =
    follows_if freed_pass (not (is_between 33 126 (column l 6) && list_all is_allowed (body l))) _ _ _ (
    follows_alone freed_pass (not (has_room s.room)) _ _ _ refl)

behind_follows : (pending : Option Directive) (x y : Result Pass Refusal) → Follows freed_pass x y → Follows freed_pass (behind_directive pending x) (behind_directive pending y)
behind_follows None x y h = h
behind_follows (Some d) x y h = tt

line_follows : (limits : Limits) (p : Pass) (n : ℕ) (l : List ℕ) → Follows freed_pass (with_line limits p n l) (with_line no_limits (freed_pass p) n l)
unfolding with_line
line_follows limits p n l =
    follows_both freed_pass (is_directive l) _ _ _ _ (behind_follows p.pending _ _ (directive_follows p n (advice_of l))) (
    follows_both freed_pass (is_comment l) _ _ _ _ refl (
    follows_both freed_pass (is_continuation l) _ _ _ _ (behind_follows p.pending _ _ (continuation_follows limits p n l p.current))
    (initial_follows limits p n l (label_of l))))

ended_follows : (p : Pass) (pending : Option Directive) → Follows (map freed) (ended p pending) (ended (freed_pass p) pending)
ended_follows p None = ap Ok (flushed_freed p)
ended_follows p (Some d) = tt

pass_follows : (limits : Limits) (p : Pass) (n : ℕ) (ls : List (List ℕ)) → Follows (map freed) (pass_over limits p n ls) (pass_over no_limits (freed_pass p) n ls)
unfolding pass_over
pass_follows limits p n [] = ended_follows p p.pending
pass_follows limits p n (l ∷ ls) =
    follows_both (map freed) (is_data (without_cr l)) _ _ _ _ (ended_follows p p.pending)
    (follows_then freed_pass (map freed) _ _ _ _ (line_follows limits p n (without_cr l)) (λ q. pass_follows limits q (next_number n) ls))

pub none_too_long : (tokens : List Token) → list_any (is_too_long None) tokens ≡ false
none_too_long [] = refl
none_too_long (t ∷ ts) = none_too_long ts

tokens_follow : (limits : Limits) (s : Lines) (kind : Kind) (tokens : Option (List Token)) → Follows (λ x. x) (with_tokens limits s kind tokens) (with_tokens no_limits (freed s) kind tokens)
tokens_follow limits s kind None = tt
tokens_follow limits s kind (Some tokens) = follows_alone (λ x. x) (list_any (is_too_long limits.name) tokens || is_marked_long limits.name kind s.advice.mark) _ _ _ (rw (none_too_long tokens) refl)

class_follows : (limits : Limits) (s : Lines) (class : Option Kind) → Follows (λ x. x) (with_class limits s class) (with_class no_limits (freed s) class)
class_follows limits s None = tt
class_follows limits s (Some kind) = follows_both (λ x. x) (is_matched 0 s.text) _ _ _ _ (tokens_follow limits s kind (tokens_of kind s.text)) tt

stated_follows : (limits : Limits) (s : Lines) → Follows (λ x. x) (stated limits s) (stated no_limits (freed s))
unfolding stated
stated_follows limits s = follows_both (λ x. x) (eqb (length s.text) 0) _ _ _ _ tt (class_follows limits s (class_of s.text))

pub all_follow : (limits : Limits) (ss : List Lines) → Follows (λ xs. xs) (all_stated limits ss) (all_stated no_limits (map freed ss))
unfolding all_stated
all_follow limits [] = refl
all_follow limits (s ∷ ss) =
    follows_then (λ x. x) (λ xs. xs) _ _ _ _ (stated_follows limits s) (λ x.
    follows_then (λ xs. xs) (λ xs. xs) _ _ _ _ (all_follow limits ss) (λ xs. refl))

-- the statements of a text within limits are its statements without limits
pub statements_follow : (limits : Limits) (bytes : List ℕ) → IfOk (statements_of limits bytes) (λ ss. statements_of no_limits bytes ≡ Ok ss)
statements_follow limits bytes = follows_then (map freed) (λ ss. ss) (lines_of limits bytes) (lines_of no_limits bytes) _ _ (pass_follows limits start 1 (cut_lines bytes)) (λ ls. all_follow limits ls)

-- its lines within limits form the same statements without limits
pub lines_follow : (limits : Limits) (bytes : List ℕ) → IfOk (lines_of limits bytes) (λ ss. lines_of no_limits bytes ≡ Ok (map freed ss))
lines_follow limits bytes = pass_follows limits start 1 (cut_lines bytes)
