-- The tokens of a statement cover its text behind the keyword, without the final THEN.
use Rattle.std.proofs.Common.{◌≡◌, ℕ, zero, suc, ◌+◌, ◌-◌, ◌<◌, ◌≤◌, Bool, true, false, cond, eqb, List, [], ◌∷◌, length, drop, Option, Some, None, Result, Ok, Err, option_map, option_and_then, refl, sym, subst, arith, length-take, length-drop}
use Rattle.std.specs.Prelude.{IfSome, IfOk, All, codes, unwrap_or, ◌||◌}
use Rattle.std.specs.List.{prefix_len, list_any}
use Rattle.std.proofs.lemmas.Bool.{eqb-true}
use Rattle.std.proofs.lemmas.List.Elements.{All-nil, All-cons}
use Rattle.adj_tree.specs.declared.fault.Refusal.{Refusal}
use Rattle.adj_tree.specs.declared.fault.Fault.{Fault}
use Rattle.def_text.specs.Class.{kind_of, class_of, with_inner, is_matched, condition_end, inner}
use Rattle.def_text.specs.Limits.{Limits}
use Rattle.def_text.specs.Lined.{Lines}
use Rattle.def_text.specs.Refused.{◌>>=◌, Gives}
use Rattle.def_text.specs.Stated.{keyword_len, ending_len, place_for, call_place, tokens_of, is_too_long, is_marked_long, with_tokens, with_class, stated, all_stated, IsCovered}
use Rattle.def_text.specs.Lexeme.{part}
use Rattle.def_text.specs.declared.stated.Kind.{Kind}
use Rattle.def_text.specs.declared.stated.Kind.TheVariants.{Do, BlockIf, LogicalIf, Assign, Continue, Return, End, EndIf, EndDo, Else, ImplicitNone, ElseIf, DoWhile, Subroutine, Integer, Call, Common}
use Rattle.def_text.specs.Char.{is_capital, is_digit, is_name_char, dot, star}
use Rattle.def_text.specs.Token.{begins_with, dotted, mark_of, stars, first_token, token_here, token_at, tokens_from, AreJoined}
use Rattle.def_text.specs.declared.token.Token.{Token}
use Rattle.def_text.specs.declared.token.TokenKind.{TokenKind}
use Rattle.def_text.specs.declared.token.TokenKind.TheVariants.{Power, Star, Lt, Le, Eq, Ne, Gt, Ge, Not, And, Or}
use Rattle.def_text.proofs.Fitting.{begins_fits, if_some, kind_fits}

-- a token's length: a character at least, and no more than there are
abbrev pub IsWithin : List ℕ → TokenKind × ℕ → Type 0
IsWithin text t = (0 < t.1) × (t.1 ≤ length text)

prefix_step : (b : Bool) (n m : ℕ) → n ≤ m → cond b (1 + n) 0 ≤ m + 1
prefix_step true n m h = omega arith
prefix_step false n m h = omega arith

prefix_within : (p : ℕ → Bool) (cs : List ℕ) → prefix_len p cs ≤ length cs
prefix_within p [] = omega arith
prefix_within p (c ∷ cs) = omega (arith, prefix_step (p c) (prefix_len p cs) (length cs) (prefix_within p cs))

dotted_one : (text w : List ℕ) (k : TokenKind) (rest : Option (TokenKind × ℕ)) → 0 < length w → IfSome rest (IsWithin text) → IfSome (cond (begins_with text w) (Some (k, length w)) rest) (IsWithin text)
dotted_one text w k rest some others = if_some (IsWithin text) (begins_with text w) _ rest (λ h. (some, begins_fits text w h)) (λ _. others)

dotted_within : (text : List ℕ) → IfSome (dotted text) (IsWithin text)
dotted_within text =
    dotted_one text (codes ".LT.") Lt _ (omega arith) (
    dotted_one text (codes ".LE.") Le _ (omega arith) (
    dotted_one text (codes ".EQ.") Eq _ (omega arith) (
    dotted_one text (codes ".NE.") Ne _ (omega arith) (
    dotted_one text (codes ".GT.") Gt _ (omega arith) (
    dotted_one text (codes ".GE.") Ge _ (omega arith) (
    dotted_one text (codes ".NOT.") Not _ (omega arith) (
    dotted_one text (codes ".AND.") And _ (omega arith) (
    dotted_one text (codes ".OR.") Or _ (omega arith) tt))))))))

stars_within : (c : ℕ) (cs : List ℕ) → IsWithin (c ∷ cs) (stars cs)
stars_within c cs = elim (begins_with cs (star ∷ [])) as (λ b. begins_with cs (star ∷ []) ≡ b → IsWithin (c ∷ cs) (cond b (Power, 2) (Star, 1))) [ true ↦ λ h. (omega arith, omega (arith, begins_fits cs (star ∷ []) h)) | false ↦ λ _. (omega arith, omega arith) ] refl

mark_within : (c : ℕ) (cs : List ℕ) (k : Option TokenKind) → IfSome (option_map (λ k. (k, 1)) k) (IsWithin (c ∷ cs))
mark_within c cs None = tt
mark_within c cs (Some k) = (omega arith, omega arith)

pub first_within : (text : List ℕ) → IfSome (first_token text) (IsWithin text)
first_within [] = tt
first_within (c ∷ cs) =
    if_some (IsWithin (c ∷ cs)) (is_capital c) _ _ (λ _. (omega arith, omega (arith, prefix_within is_name_char cs))) (λ _.
    if_some (IsWithin (c ∷ cs)) (is_digit c) _ _ (λ _. (omega arith, omega (arith, prefix_within is_digit cs))) (λ _.
    if_some (IsWithin (c ∷ cs)) (eqb c dot) _ _ (λ _. dotted_within (c ∷ cs)) (λ _.
    if_some (IsWithin (c ∷ cs)) (eqb c star) _ _ (λ _. stars_within c cs) (λ _. mark_within c cs (mark_of c)))))

-- the lexeme CALL stands whole in what is left
abbrev HasRoom : Option ℕ → ℕ → Type 0
HasRoom call end = IfSome call (λ place. place + 4 ≤ end)

here_within : (call : Option ℕ) (here : ℕ) (text : List ℕ) → HasRoom call (here + length text) → IfSome (token_here call here text) (IsWithin text)
here_within None here text room = first_within text
here_within (Some place) here text room = if_some (IsWithin text) (eqb here place) _ _ (λ h. (omega arith, omega (arith, eqb-true here place h))) (λ _. first_within text)

-- the answer of a scan from a place to another
abbrev Joins : ℕ → ℕ → Option (List Token) → Type 0
Joins from to found = IfSome found (AreJoined from to)

joins_more : (here to : ℕ) (t : TokenKind × ℕ) (found : Option (List Token)) → 0 < t.1 → Joins (here + t.1) to found → Joins here to (option_map (λ ts. token_at here t ∷ ts) found)
joins_more here to t None some others = tt
joins_more here to t (Some ts) some others = (refl, omega arith, others)

joins_first : (call : Option ℕ) (here : ℕ) (c : ℕ) (cs : List ℕ) (t : Option (TokenKind × ℕ)) → IfSome t (IsWithin (c ∷ cs)) → ((n : ℕ) → n ≤ length cs → Joins (here + 1 + n) (here + 1 + length cs) (tokens_from call n (here + 1) cs)) → Joins here (here + 1 + length cs) (option_and_then (λ u. option_map (λ ts. token_at here u ∷ ts) (tokens_from call (u.1 - 1) (here + 1) cs)) t)
joins_first call here c cs None within others = tt
joins_first call here c cs (Some t) within others =
    let place : here + 1 + (t.1 - 1) ≡ here + t.1 = omega (arith, within.0) in
    joins_more here (here + 1 + length cs) t (tokens_from call (t.1 - 1) (here + 1) cs) within.0 (subst (λ p. Joins p (here + 1 + length cs) (tokens_from call (t.1 - 1) (here + 1) cs)) place (others (t.1 - 1) (omega (arith, within.0, within.1))))

joins : (call : Option ℕ) (skip here : ℕ) (text : List ℕ) → skip ≤ length text → HasRoom call (here + length text) → Joins (here + skip) (here + length text) (tokens_from call skip here text)
unfolding tokens_from
joins call zero here [] h room = refl
joins call (suc skip) here [] h room = absurd (omega arith)
joins call (suc skip) here (c ∷ cs) h room =
    let from : here + 1 + skip ≡ here + suc skip = omega arith in
    let to : here + 1 + length cs ≡ here + suc (length cs) = omega arith in
    rw (sym from, sym to) (joins call skip (here + 1) cs (omega arith) (rw to room))
joins call zero here (c ∷ cs) h room =
    let to : here + 1 + length cs ≡ here + suc (length cs) = omega arith in
    let from : here ≡ here + 0 = omega arith in
    rw (sym from, sym to) (joins_first call here c cs (token_here call here (c ∷ cs)) (here_within call here (c ∷ cs) room) (λ n within. joins call n (here + 1) cs within (rw to room)))

-- whether the tokens of a class cover a text
abbrev Covers : List ℕ → Kind → List Token → Type 0
Covers text kind tokens = AreJoined (keyword_len kind text) (length text - ending_len kind) tokens

-- the lexeme CALL that a logical IF holds stands whole in its text
place_within : (text : List ℕ) (kind : Option Kind) (end : Option ℕ) → IfSome kind (λ k. keyword_len k (drop (unwrap_or end (length text)) text) + ending_len k ≤ length (drop (unwrap_or end (length text)) text)) → HasRoom (place_for kind end) (length text)
place_within text (Some Call) (Some place) fits = omega (arith, fits, length-drop place text)
place_within text (Some Call) None fits = tt
place_within text None end fits = tt
place_within text (Some Do) end fits = tt
place_within text (Some BlockIf) end fits = tt
place_within text (Some LogicalIf) end fits = tt
place_within text (Some Assign) end fits = tt
place_within text (Some Continue) end fits = tt
place_within text (Some Return) end fits = tt
place_within text (Some End) end fits = tt
place_within text (Some EndIf) end fits = tt
place_within text (Some EndDo) end fits = tt
place_within text (Some Else) end fits = tt
place_within text (Some ImplicitNone) end fits = tt
place_within text (Some ElseIf) end fits = tt
place_within text (Some DoWhile) end fits = tt
place_within text (Some Subroutine) end fits = tt
place_within text (Some Integer) end fits = tt
place_within text (Some Common) end fits = tt

call_within : (text : List ℕ) (kind : Kind) → HasRoom (call_place kind text) (length text - ending_len kind)
call_within text LogicalIf =
    let whole : length text - 0 ≡ length text = omega arith in
    rw whole (place_within text (kind_of (inner text)) (condition_end text) (kind_fits (inner text)))
call_within text kind = tt

part_len : (text : List ℕ) (from ending : ℕ) → from + ending ≤ length text → from + length (part text from (length text - ending)) ≡ length text - ending
part_len text from ending fits = omega (arith, length-take (length text - ending - from) (drop from text), length-drop from text)

-- the tokens of a text whose class fits it
tokens_covered : (text : List ℕ) (kind : Kind) → keyword_len kind text + ending_len kind ≤ length text → IfSome (tokens_of kind text) (Covers text kind)
tokens_covered text kind fits =
    let len = part_len text (keyword_len kind text) (ending_len kind) fits in
    let room : HasRoom (call_place kind text) (keyword_len kind text + length (part text (keyword_len kind text) (length text - ending_len kind))) = subst (HasRoom (call_place kind text)) (sym len) (call_within text kind) in
    let zero-more : keyword_len kind text + 0 ≡ keyword_len kind text = omega arith in
    rw (zero-more, len) at (joins (call_place kind text) 0 (keyword_len kind text) (part text (keyword_len kind text) (length text - ending_len kind)) (omega arith) room)

-- what holds of both answers holds of the chosen one
if_ok : {X : Type 0} (P : X → Type 0) (b : Bool) (x y : Result X Refusal) → (b ≡ true → IfOk x P) → (b ≡ false → IfOk y P) → IfOk (cond b x y) P
if_ok P true x y first second = first refl
if_ok P false x y first second = second refl

with_tokens_covered : (limits : Limits) (s : Lines) (kind : Kind) (found : Option (List Token)) → IfSome found (Covers s.text kind) → IfOk (with_tokens limits s kind found) IsCovered
with_tokens_covered limits s kind None covers = tt
with_tokens_covered limits s kind (Some tokens) covers = if_ok IsCovered (list_any (is_too_long limits.name) tokens || is_marked_long limits.name kind s.advice.mark) _ _ (λ _. tt) (λ _. covers)

with_class_covered : (limits : Limits) (s : Lines) (class : Option Kind) → IfSome class (λ kind. keyword_len kind s.text + ending_len kind ≤ length s.text) → IfOk (with_class limits s class) IsCovered
with_class_covered limits s None fits = tt
with_class_covered limits s (Some kind) fits = if_ok IsCovered (is_matched 0 s.text) _ _ (λ _. with_tokens_covered limits s kind (tokens_of kind s.text) (tokens_covered s.text kind fits)) (λ _. tt)

class_within : (text : List ℕ) (P : Kind → Type 0) (kind : Option Kind) → IfSome kind P → IfSome (option_and_then (with_inner text) kind) P
class_within text P None fits = tt
class_within text P (Some LogicalIf) fits = inner_within (kind_of (inner text))
  where
    inner_within : (found : Option Kind) → IfSome (option_map (λ _. LogicalIf) found) P
    inner_within None = tt
    inner_within (Some k) = fits
class_within text P (Some kind) fits = fits

stated_covered : (limits : Limits) (s : Lines) → IfOk (stated limits s) IsCovered
unfolding stated
stated_covered limits s = if_ok IsCovered (eqb (length s.text) 0) _ _ (λ _. tt) (λ _. with_class_covered limits s (class_of s.text) (class_within s.text (λ kind. keyword_len kind s.text + ending_len kind ≤ length s.text) (kind_of s.text) (kind_fits s.text)))

and_then : {X Y : Type 0} (P : X → Type 0) (Q : Y → Type 0) (r : Result X Refusal) (f : X → Result Y Refusal) → IfOk r P → ((x : X) → P x → IfOk (f x) Q) → IfOk (r >>= f) Q
and_then P Q (Ok x) f h next = next x h
and_then P Q (Err e) f h next = tt

-- the tokens of each statement cover it
pub all_covered : (limits : Limits) (ss : List Lines) → IfOk (all_stated limits ss) (All IsCovered)
unfolding all_stated
all_covered limits [] = All-nil IsCovered
all_covered limits (s ∷ ss) =
    and_then IsCovered (All IsCovered) (stated limits s) _ (stated_covered limits s) (λ x h.
    and_then (All IsCovered) (All IsCovered) (all_stated limits ss) _ (all_covered limits ss) (λ xs hs. All-cons IsCovered x xs h hs))

-- what a call gives has what its definition's answer has
pub if_gives : {X Y : Type 0} (view : X → Y) (P : Y → Type 0) (r : Result X Fault) (spec : Result Y Refusal) → Gives view r spec → IfOk spec P → IfOk r (λ x. P (view x))
if_gives view P (Ok x) spec gives h = rw gives at h
if_gives view P (Err e) spec gives h = tt
