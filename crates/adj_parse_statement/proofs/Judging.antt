-- Judging: what is wrong with a whole is the least flaw of its parts.
use Rattle.std.proofs.Common.{◌≡◌, Bool, true, false, ◌||◌, List, [], ◌∷◌, ◌++◌, map, Option, Some, None, option_map, Result, Ok, Err, IfOk, refl, sym, ap, ◌∙◌}
use Rattle.std.proofs.lemmas.List.{map_push}
use Rattle.def_text.specs.Grammar.{with_both}
use Rattle.adj_parse_expression.specs.Judged.{judged_by}
use Rattle.adj_parse_expression.specs.View.{seen}
use Rattle.adj_parse_expression.specs.declared.flaw.Flaw.{Flaw}
use Rattle.adj_parse_expression.specs.Flaws.{both}
use Rattle.adj_parse_statement.specs.Flaws.{with_part}

-- of two parts
pub both-judged : {A B : Type 0} (l d : Bool) (m : Option A) (k e : Bool) (n : Option B) → both (judged_by l d m) (judged_by k e n) ≡ judged_by (l || k) (d || e) (with_both (λ a b. Some (a, b)) m n)
both-judged true d m true e n = refl
both-judged true d m false true n = refl
both-judged true d m false false None = refl
both-judged true d m false false (Some b) = refl
both-judged false true m true e n = refl
both-judged false true m false true n = refl
both-judged false true m false false None = refl
both-judged false true m false false (Some b) = refl
both-judged false false None true e n = refl
both-judged false false None false true n = refl
both-judged false false None false false None = refl
both-judged false false None false false (Some b) = refl
both-judged false false (Some a) true e n = refl
both-judged false false (Some a) false true n = refl
both-judged false false (Some a) false false None = refl
both-judged false false (Some a) false false (Some b) = refl

-- of one part, seen in another way
pub seen-judged : {A B : Type 0} (f : A → B) (l d : Bool) (m : Option A) → seen f (judged_by l d m) ≡ judged_by l d (option_map f m)
seen-judged f true d m = refl
seen-judged f false true m = refl
seen-judged f false false None = refl
seen-judged f false false (Some a) = refl

pub seen-seen : {A B C : Type 0} (g : B → C) (f : A → B) (r : Result A Flaw) → seen g (seen f r) ≡ seen (λ a. g (f a)) r
seen-seen g f (Ok a) = refl
seen-seen g f (Err e) = refl

pub both-seen : {A B C D : Type 0} (f : A → C) (g : B → D) (r : Result A Flaw) (s : Result B Flaw) → both (seen f r) (seen g s) ≡ seen (λ (p : A × B). (f p.0, g p.1)) (both r s)
both-seen f g (Ok a) (Ok b) = refl
both-seen f g (Ok a) (Err e) = refl
both-seen f g (Err e) (Ok b) = refl
both-seen f g (Err e) (Err h) = refl

-- two parts that are put together
pub joined-judged : {A B C : Type 0} (f : A → B → C) (l d : Bool) (m : Option A) (k e : Bool) (n : Option B) → seen (λ (p : A × B). f p.0 p.1) (both (judged_by l d m) (judged_by k e n)) ≡ judged_by (l || k) (d || e) (with_both (λ a b. Some (f a b)) m n)
joined-judged {A} {B} f l d m k e n =
    ap (seen (λ (p : A × B). f p.0 p.1)) (both-judged l d m k e n) ∙ seen-judged (λ (p : A × B). f p.0 p.1) (l || k) (d || e) (with_both (λ a b. Some (a, b)) m n) ∙ ap (judged_by (l || k) (d || e)) (after m n)
  where
    after : (m : Option A) (n : Option B) → option_map (λ (p : A × B). f p.0 p.1) (with_both (λ a b. Some (a, b)) m n) ≡ with_both (λ a b. Some (f a b)) m n
    after (Some a) (Some b) = refl
    after (Some a) None = refl
    after None (Some b) = refl
    after None None = refl

-- one more part of a list
with_part-both : {A : Type 0} (ps : Result (List A) Flaw) (p : Result A Flaw) → with_part ps p ≡ seen (λ (q : List A × A). q.0 ++ q.1 ∷ []) (both ps p)
with_part-both (Ok xs) (Ok x) = refl
with_part-both (Ok xs) (Err e) = refl
with_part-both (Err e) (Ok x) = refl
with_part-both (Err e) (Err f) = refl

pub with_part-judged : {A : Type 0} (l d : Bool) (m : Option (List A)) (k e : Bool) (n : Option A) → with_part (judged_by l d m) (judged_by k e n) ≡ judged_by (l || k) (d || e) (with_both (λ xs x. Some (xs ++ x ∷ [])) m n)
with_part-judged l d m k e n = with_part-both (judged_by l d m) (judged_by k e n) ∙ joined-judged (λ xs x. xs ++ x ∷ []) l d m k e n

-- and of a list that is seen through its members' view
pub with_part-seen : {S A B : Type 0} (items : S → List A) (f : A → B) (r ps : Result S Flaw) (p : Result A Flaw) → seen items r ≡ with_part (seen items ps) p → seen (λ v. map f (items v)) r ≡ with_part (seen (λ v. map f (items v)) ps) (seen f p)
with_part-seen {S} {A} {B} items f r ps p h = sym (seen-seen (map f) items r) ∙ ap (seen (map f)) h ∙ pushed ps p
  where
    pushed : (ps : Result S Flaw) (p : Result A Flaw) → seen (map f) (with_part (seen items ps) p) ≡ with_part (seen (λ v. map f (items v)) ps) (seen f p)
    pushed (Ok v) (Ok x) = ap Ok (map_push f (items v) x)
    pushed (Ok v) (Err e) = refl
    pushed (Err e) (Ok x) = refl
    pushed (Err e) (Err g) = refl

-- the same of what a call found
pub with_part-found : {S A B E : Type 0} (items : S → List A) (f : A → B) (found : Result (Result S Flaw) E) (ps : Result S Flaw) (p : Result A Flaw) → IfOk found (λ r. seen items r ≡ with_part (seen items ps) p) → IfOk found (λ r. seen (λ v. map f (items v)) r ≡ with_part (seen (λ v. map f (items v)) ps) (seen f p))
with_part-found items f (Ok r) ps p h = with_part-seen items f r ps p h
with_part-found items f (Err e) ps p h = tt
