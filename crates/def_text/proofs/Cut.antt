-- Cut: the scan of a statement gives just the tokens that its characters are cut into, and the scan of a text just the statements that its lines form.
use Rattle.std.proofs.Common.{◌≡◌, ℕ, zero, suc, ◌+◌, ◌-◌, ◌<◌, Bool, true, false, cond, eqb, List, [], ◌∷◌, length, drop, Option, Some, None, Result, Ok, Err, option_map, option_and_then, refl, sym, ap, subst, ◌∙◌, arith}
use Rattle.std.specs.Prelude.{IfSome, ◌||◌}
use Rattle.std.proofs.Math.Dec.{eqb-suc-zero}
use Rattle.std.specs.List.{list_any}
use Rattle.adj_tree.specs.declared.fault.Refusal.{Refusal}
use Rattle.def_text.specs.Char.{equals}
use Rattle.def_text.specs.Class.{has_open, kind_of, class_of, is_matched}
use Rattle.def_text.specs.Forming as forming
use Rattle.def_text.specs.Forming.{AreCut, IsStated, AreStated, FormsText}
use Rattle.def_text.specs.Lexeme.{part}
use Rattle.def_text.specs.Limits.{no_limits}
use Rattle.def_text.specs.Lined.{Lines, lines_of}
use Rattle.def_text.specs.Refused.{◌>>=◌}
use Rattle.def_text.specs.Stated.{keyword_len, ending_len, call_place, tokens_of, is_too_long, is_marked_long, with_tokens, with_class, stated, all_stated, statements_of}
use Rattle.def_text.specs.Token.{first_token, token_here, token_at, tokens_from}
use Rattle.def_text.specs.declared.stated.Kind.{Kind}
use Rattle.def_text.specs.declared.stated.Stated.{Stated}
use Rattle.def_text.specs.declared.token.Token.{Token}
use Rattle.def_text.specs.declared.token.TokenKind.{TokenKind}
use Rattle.def_text.specs.declared.token.TokenKind.TheVariants as kinds
use Rattle.def_text.proofs.Covering.{IsWithin, first_within}
use Rattle.def_text.proofs.Forming.{lines_formed, formed_lines}
use Rattle.def_text.proofs.LinesMarked.{bind_ok}
use Rattle.def_text.proofs.Parts.{then_some}
use Rattle.def_text.proofs.Unlimited.{none_too_long}

-- a token has a character at least
here_some : (call : Option ℕ) (here : ℕ) (text : List ℕ) (t : TokenKind × ℕ) → token_here call here text ≡ Some t → 0 < t.1
here_some None here text t h = by (first_token text) (first_within text) h
  where
    by : (found : Option (TokenKind × ℕ)) → IfSome found (IsWithin text) → found ≡ Some t → 0 < t.1
    by None within h = absurd cc
    by (Some u) within h = let same : u ≡ t = cc in subst (λ (v : TokenKind × ℕ). 0 < v.1) same within.0
here_some (Some place) here text t h = by (eqb here place) (first_token text) (first_within text) h
  where
    by : (b : Bool) (found : Option (TokenKind × ℕ)) → IfSome found (IsWithin text) → cond b (Some (kinds.Call, 4)) found ≡ Some t → 0 < t.1
    by true found within h = let same : ◌≡◌ {A = TokenKind × ℕ} (kinds.Call, 4) t = cc in subst (λ (v : TokenKind × ℕ). 0 < v.1) same (omega arith)
    by false None within h = absurd cc
    by false (Some u) within h = let same : u ≡ t = cc in subst (λ (v : TokenKind × ℕ). 0 < v.1) same within.0

drop_none : (n : ℕ) → ◌≡◌ {A = List ℕ} (drop n []) []
drop_none zero = refl
drop_none (suc n) = refl

drop_more : (n : ℕ) (c : ℕ) (cs : List ℕ) → 0 < n → drop n (c ∷ cs) ≡ drop (n - 1) cs
drop_more zero c cs h = absurd (omega arith)
drop_more (suc n) c cs h = let e : suc n - 1 ≡ n = omega arith in ap (λ k. drop k cs) (sym e)

-- where so many characters are passed over, the tokens are those of what is left
skipped : (call : Option ℕ) (skip here : ℕ) (text : List ℕ) → tokens_from call skip here text ≡ tokens_from call 0 (here + skip) (drop skip text)
unfolding tokens_from
skipped call zero here text = let e : here ≡ here + 0 = omega arith in ap (λ k. tokens_from call 0 k text) e
skipped call (suc skip) here [] = refl
skipped call (suc skip) here (c ∷ cs) = let e : here + 1 + skip ≡ here + suc skip = omega arith in skipped call skip (here + 1) cs ∙ ap (λ k. tokens_from call 0 k (drop skip cs)) e

map_some : {X Y : Type 0} (f : X → Y) (o : Option X) (y : Y) → option_map f o ≡ Some y → (x : X) × (o ≡ Some x) × (f x ≡ y)
map_some f None y h = absurd cc
map_some f (Some x) y h = (x, refl, cc)

-- a token at once, and those after it
scan_one : (call : Option ℕ) (here c : ℕ) (cs : List ℕ) → tokens_from call 0 here (c ∷ cs) ≡ option_and_then (λ t. option_map (λ ts. token_at here t ∷ ts) (tokens_from call (t.1 - 1) (here + 1) cs)) (token_here call here (c ∷ cs))
unfolding tokens_from
scan_one call here c cs = refl

scan_none : (call : Option ℕ) (skip here : ℕ) → tokens_from call skip here [] ≡ Some []
unfolding tokens_from
scan_none call zero here = refl
scan_none call (suc skip) here = refl

scan_skips : (call : Option ℕ) (skip here c : ℕ) (cs : List ℕ) → tokens_from call (suc skip) here (c ∷ cs) ≡ tokens_from call skip (here + 1) cs
unfolding tokens_from
scan_skips call skip here c cs = refl

are_cut : (call : Option ℕ) (text : List ℕ) (skip here : ℕ) (ts : List Token) → tokens_from call skip here text ≡ Some ts → AreCut call (here + skip) (drop skip text) ts
are_cut call [] skip here ts h =
    let same : [] ≡ ts = let e : ◌≡◌ {A = Option (List Token)} (Some []) (Some ts) = sym (scan_none call skip here) ∙ h in cc in
    subst (AreCut call (here + skip) (drop skip [])) same (subst (λ x. AreCut call (here + skip) x []) (sym (drop_none skip)) forming.AreCut.none)
are_cut call (c ∷ cs) (suc skip) here ts h =
    let e : here + 1 + skip ≡ here + suc skip = omega arith in
    subst (λ k. AreCut call k (drop skip cs) ts) e (are_cut call cs skip (here + 1) ts (sym (scan_skips call skip here c cs) ∙ h))
are_cut call (c ∷ cs) zero here ts h =
    let r = then_some (λ t. option_map (λ ts. token_at here t ∷ ts) (tokens_from call (t.1 - 1) (here + 1) cs)) (token_here call here (c ∷ cs)) ts (sym (scan_one call here c cs) ∙ h) in
    let t = r.0 in
    let m = map_some (λ ts. token_at here t ∷ ts) (tokens_from call (t.1 - 1) (here + 1) cs) ts r.2 in
    let some = here_some call here (c ∷ cs) t r.1 in
    let rest = are_cut call cs (t.1 - 1) (here + 1) m.0 m.1 in
    let e : here + 1 + (t.1 - 1) ≡ here + t.1 = omega (arith, some) in
    let f : here ≡ here + 0 = omega arith in
    let whole : AreCut call here (c ∷ cs) (token_at here t ∷ m.0) = forming.AreCut.one r.1 (subst (λ k. AreCut call k (drop t.1 (c ∷ cs)) m.0) e (subst (λ x. AreCut call (here + 1 + (t.1 - 1)) x m.0) (sym (drop_more t.1 c cs some)) rest)) in
    subst (λ k. AreCut call k (c ∷ cs) ts) f (subst (AreCut call here (c ∷ cs)) m.2 whole)

cut_tokens : (call : Option ℕ) (here : ℕ) (text : List ℕ) (ts : List Token) → AreCut call here text ts → tokens_from call 0 here text ≡ Some ts
cut_tokens call here _ _ forming.AreCut.none = scan_none call 0 here
cut_tokens call here _ _ (forming.AreCut.one {c = c} {cs = cs} {t = t} {ts = ts} h rest) =
    let some = here_some call here (c ∷ cs) t h in
    let e : here + 1 + (t.1 - 1) ≡ here + t.1 = omega (arith, some) in
    let others : tokens_from call (t.1 - 1) (here + 1) cs ≡ Some ts =
    skipped call (t.1 - 1) (here + 1) cs ∙ (ap (λ k. tokens_from call 0 k (drop (t.1 - 1) cs)) e ∙ (ap (tokens_from call 0 (here + t.1)) (sym (drop_more t.1 c cs some)) ∙ cut_tokens call (here + t.1) (drop t.1 (c ∷ cs)) ts rest)) in
    scan_one call here c cs ∙ rw (h, others) refl

-- ---- statements

chosen : {X : Type 0} (b : Bool) (e : Refusal) (x : Result X Refusal) (y : X) → cond b (Err e) x ≡ Ok y → (b ≡ false) × (x ≡ Ok y)
chosen true e x y h = absurd cc
chosen false e x y h = (refl, h)

matched_first : {X : Type 0} (b : Bool) (e : Refusal) (x : Result X Refusal) (y : X) → cond b x (Err e) ≡ Ok y → (b ≡ true) × (x ≡ Ok y)
matched_first true e x y h = (refl, h)
matched_first false e x y h = absurd cc

-- a statement with its class and its tokens
abbrev made : Lines → Kind → List Token → Stated
made s kind tokens = record { line = s.line; label = s.label; mark = s.advice.mark; split = s.advice.split; mark_line = s.mark_line; kind = kind; text = s.text; tokens = tokens }

is_stated : (s : Lines) (x : Stated) → stated no_limits s ≡ Ok x → IsStated s x
unfolding stated
is_stated s x h = by_class (class_of s.text) refl (chosen (eqb (length s.text) 0) _ (with_class no_limits s (class_of s.text)) x h).1
  where
    by_tokens : (kind : Kind) → class_of s.text ≡ Some kind → is_matched 0 s.text ≡ true → (tokens : Option (List Token)) → tokens_of kind s.text ≡ tokens → with_tokens no_limits s kind tokens ≡ Ok x → IsStated s x
    by_tokens kind e m None f h = absurd cc
    by_tokens kind e m (Some tokens) f h =
        let r = chosen (list_any (is_too_long None) tokens || is_marked_long None kind s.advice.mark) _ (Ok (made s kind tokens)) x h in
        let same : made s kind tokens ≡ x = let g = r.1 in cc in
        let text = part s.text (keyword_len kind s.text) (length s.text - ending_len kind) in
        let place : keyword_len kind s.text + 0 ≡ keyword_len kind s.text = omega arith in
        let cut : AreCut (call_place kind s.text) (keyword_len kind s.text) text tokens = subst (λ k. AreCut (call_place kind s.text) k text tokens) place (are_cut (call_place kind s.text) text 0 (keyword_len kind s.text) tokens f) in
        subst (IsStated s) same (record { class = e; matched = m; cut = cut; is = refl })

    by_class : (class : Option Kind) → class_of s.text ≡ class → with_class no_limits s class ≡ Ok x → IsStated s x
    by_class None e h = absurd cc
    by_class (Some kind) e h =
        let r = matched_first (is_matched 0 s.text) _ (with_tokens no_limits s kind (tokens_of kind s.text)) x h in
        by_tokens kind e r.0 (tokens_of kind s.text) refl r.1

-- nothing has no class
none_open : has_open equals 0 [] ≡ false
unfolding has_open
none_open = refl

unclassed : class_of [] ≡ None
unfolding kind_of
unclassed = rw none_open refl

stated_is : (s : Lines) (x : Stated) → IsStated s x → stated no_limits s ≡ Ok x
unfolding stated
stated_is s x h = by s.text refl
  where
    whole : with_class no_limits s (class_of s.text) ≡ Ok x
    whole = rw (h.class, h.matched, cut_tokens (call_place x.kind s.text) (keyword_len x.kind s.text) (part s.text (keyword_len x.kind s.text) (length s.text - ending_len x.kind)) x.tokens h.cut, none_too_long x.tokens) (ap Ok (sym h.is))

    by : (text : List ℕ) → s.text ≡ text → cond (eqb (length s.text) 0) (Err (record { code = 4; line = s.line; number = 0 })) (with_class no_limits s (class_of s.text)) ≡ Ok x
    by [] e = let never : None ≡ Some x.kind = sym unclassed ∙ (ap class_of (sym e) ∙ h.class) in absurd cc
    by (c ∷ cs) e = let some : eqb (length s.text) 0 ≡ false = ap (λ t. eqb (length t) 0) e ∙ eqb-suc-zero (length cs) in rw some whole

pub are_stated : (ss : List Lines) (xs : List Stated) → all_stated no_limits ss ≡ Ok xs → AreStated ss xs
unfolding all_stated
are_stated [] xs h = let same : [] ≡ xs = cc in subst (AreStated []) same forming.AreStated.none
are_stated (s ∷ ss) xs h =
    let a = bind_ok (stated no_limits s) (λ x. all_stated no_limits ss >>= λ xs. Ok (x ∷ xs)) xs h in
    let b = bind_ok (all_stated no_limits ss) (λ xs. Ok (a.0 ∷ xs)) xs a.2 in
    let same : a.0 ∷ b.0 ≡ xs = let g = b.2 in cc in
    subst (AreStated (s ∷ ss)) same (forming.AreStated.more (is_stated s a.0 a.1) (are_stated ss b.0 b.1))

pub stated_are : (ss : List Lines) (xs : List Stated) → AreStated ss xs → all_stated no_limits ss ≡ Ok xs
unfolding all_stated
stated_are _ _ forming.AreStated.none = refl
stated_are _ _ (forming.AreStated.more {s = s} {ss = ss} {x = x} {xs = xs} h rest) = rw (stated_is s x h, stated_are ss xs rest) refl

-- ---- texts

-- the scan of a text gives the statements that its lines form
pub forms_text : (bytes : List ℕ) (stated : List Stated) → statements_of no_limits bytes ≡ Ok stated → FormsText bytes stated
forms_text bytes stated h =
    let r = bind_ok (lines_of no_limits bytes) (all_stated no_limits) stated h in
    record { lines = r.0; form = lines_formed bytes r.0 r.1; are = are_stated r.0 stated r.2 }

-- and it gives no others
pub text_forms : (bytes : List ℕ) (stated : List Stated) → FormsText bytes stated → statements_of no_limits bytes ≡ Ok stated
text_forms bytes stated h = ap (λ x. x >>= all_stated no_limits) (formed_lines bytes h.lines h.form) ∙ stated_are h.lines stated h.are
