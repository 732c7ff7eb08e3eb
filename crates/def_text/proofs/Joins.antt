-- Joins: how an initial line and its continuation lines are joined, where there is no limit.
use Rattle.std.proofs.Common.{◌≡◌, ℕ, zero, suc, ◌-◌, ◌<◌, ◌≤◌, true, false, eqb, List, [], ◌∷◌, ◌++◌, length, get_or, map, Some, None, Ok, refl, ap, ◌∙◌, arith}
use Rattle.std.specs.Prelude.{not}
use Rattle.std.specs.List.{list_all}
use Rattle.std.proofs.lemmas.Bool.{lt-ltb}
use Rattle.std.proofs.lemmas.Bool.Decides.{nat_tests}
use Rattle.std.proofs.lemmas.List.{take_all, map-append}
use Rattle.std.proofs.lemmas.List.Elements.{filter-append}
use Rattle.def_text.specs.Char.{is_blank, are_blank, is_allowed, upper, without_blanks, folded}
use Rattle.def_text.specs.Line.{cut_lines, without_cr, next_number, is_data, begins_in_either_case, is_directive}
use Rattle.def_text.specs.Limits.{no_limits}
use Rattle.def_text.specs.Lined.{Pass, flushed, directive_before, with_line, pass_over}
use Rattle.def_text.proofs.Scans.{both_true}

-- all characters may stand in a statement
abbrev pub AreAllowed : List ℕ → Type 0
AreAllowed cs = list_all is_allowed cs ≡ true

pub allowed-append : (xs ys : List ℕ) → AreAllowed xs → AreAllowed ys → AreAllowed (xs ++ ys)
allowed-append [] ys h g = g
allowed-append (x ∷ xs) ys h g = let k = both_true (is_allowed x) (list_all is_allowed xs) h in rw (k.0, allowed-append xs ys k.1 g) refl

allowed_no_lf : (c : ℕ) → is_allowed c ≡ true → eqb c 10 ≡ false
allowed_no_lf c h = grind (arith, nat_tests)

allowed_no_cr : (c : ℕ) → is_allowed c ≡ true → eqb c 13 ≡ false
allowed_no_cr c h = grind (arith, nat_tests)

allowed_at : (xs : List ℕ) (i : ℕ) → AreAllowed xs → i < length xs → is_allowed (get_or xs i 0) ≡ true
allowed_at [] i h lt = absurd (omega arith)
allowed_at (x ∷ xs) zero h lt = (both_true (is_allowed x) (list_all is_allowed xs) h).0
allowed_at (x ∷ xs) (suc i) h lt = allowed_at xs i (both_true (is_allowed x) (list_all is_allowed xs) h).1 (omega arith)

-- no carriage return stands at the end of such a line
pub stays : (xs : List ℕ) → AreAllowed xs → without_cr xs ≡ xs
stays [] h = refl
stays (x ∷ xs) h = rw (allowed_no_cr (get_or (x ∷ xs) (length (x ∷ xs) - 1) 0) (allowed_at (x ∷ xs) (length (x ∷ xs) - 1) h (omega arith)), lt-ltb 0 (length (x ∷ xs)) (omega arith)) refl

-- such a line ends at its line feed
pub cut_line : (xs ys : List ℕ) → AreAllowed xs → cut_lines (xs ++ 10 ∷ ys) ≡ xs ∷ cut_lines ys
unfolding cut_lines
cut_line [] ys h = refl
cut_line (x ∷ xs) ys h = let k = both_true (is_allowed x) (list_all is_allowed xs) h in rw (allowed_no_lf x k.0, cut_line xs ys k.1) refl

pub folded-append : (xs ys : List ℕ) → folded (xs ++ ys) ≡ folded xs ++ folded ys
folded-append xs ys = ap (map upper) (filter-append (λ c. not (is_blank c)) xs ys) ∙ map-append upper (without_blanks xs) (without_blanks ys)

-- columns 1 to 6 of an initial line without a label
abbrev pub indented : List ℕ → List ℕ
indented b = 32 ∷ 32 ∷ 32 ∷ 32 ∷ 32 ∷ 32 ∷ b

-- columns 1 to 6 of a continuation line
abbrev pub continued : List ℕ → List ℕ
continued b = 32 ∷ 32 ∷ 32 ∷ 32 ∷ 32 ∷ 43 ∷ b

-- a statement of this text begins at line n, behind what a pass has
abbrev pub going : Pass → ℕ → List ℕ → Pass
going p n text = record { done = flushed p; current = Some (record { line = n; label = 0; advice = (directive_before p.pending).advice; mark_line = (directive_before p.pending).line; text = text; room = None }); pending = None }

no_directive : (b : List ℕ) → is_directive (32 ∷ b) ≡ false
unfolding begins_in_either_case
no_directive b = refl

initial_line : (p : Pass) (n : ℕ) (b : List ℕ) → are_blank b ≡ false → AreAllowed b → length b ≤ 66 → with_line no_limits p n (indented b) ≡ Ok (going p n (folded b))
unfolding with_line
initial_line p n b some h le = rw (no_directive (32 ∷ 32 ∷ 32 ∷ 32 ∷ 32 ∷ b), take_all 66 b le, some, h) refl

continuation_line : (p : Pass) (n m : ℕ) (text b : List ℕ) → AreAllowed b → length b ≤ 66 → with_line no_limits (going p n text) m (continued b) ≡ Ok (going p n (text ++ folded b))
unfolding with_line
continuation_line p n m text b h le = rw (no_directive (32 ∷ 32 ∷ 32 ∷ 32 ∷ 43 ∷ b), take_all 66 b le, h) refl

-- one line is read
pub over_line : (p q : Pass) (n : ℕ) (l : List ℕ) (ls : List (List ℕ)) → without_cr l ≡ l → is_data l ≡ false → with_line no_limits p n l ≡ Ok q → pass_over no_limits p n (l ∷ ls) ≡ pass_over no_limits q (next_number n) ls
unfolding pass_over
over_line p q n l ls same no_data h = rw (same, no_data, h) refl

-- an initial line begins a statement
pub over_initial : (p : Pass) (n : ℕ) (b : List ℕ) (ls : List (List ℕ)) → are_blank b ≡ false → AreAllowed b → length b ≤ 66 → pass_over no_limits p n (indented b ∷ ls) ≡ pass_over no_limits (going p n (folded b)) (next_number n) ls
over_initial p n b ls some h le = over_line p (going p n (folded b)) n (indented b) ls (stays (indented b) h) refl (initial_line p n b some h le)

-- a continuation line goes on with it
pub over_continuation : (p : Pass) (n m : ℕ) (text b : List ℕ) (ls : List (List ℕ)) → AreAllowed b → length b ≤ 66 → pass_over no_limits (going p n text) m (continued b ∷ ls) ≡ pass_over no_limits (going p n (text ++ folded b)) (next_number m) ls
over_continuation p n m text b ls h le = over_line (going p n text) (going p n (text ++ folded b)) m (continued b) ls (stays (continued b) h) refl (continuation_line p n m text b h le)
