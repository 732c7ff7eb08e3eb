-- Directives: the line of a directive that is printed gives its mark.
use Rattle.std.proofs.Common.{◌≡◌, ℕ, zero, suc, ◌+◌, ◌-◌, ◌/◌, ◌%◌, ◌<◌, ◌≤◌, Bool, true, false, cond, eqb, ltb, List, [], ◌∷◌, ◌++◌, length, drop, Option, None, Some, Ok, option_map, refl, sym, ap, subst, ◌∙◌, arith, inl, inr, append_assoc}
use Rattle.std.specs.Prelude.{codes, not, ◌&&◌, get_or, take}
use Rattle.std.specs.Fmt.{decimal}
use Rattle.std.specs.List.{list_all, prefix_len}
use Rattle.std.proofs.lemmas.Bool.{eqb-true, cases_lt, lt-ltb, le-ltb}
use Rattle.std.proofs.lemmas.Bool.Decides.{nat_tests}
use Rattle.std.proofs.lemmas.Fmt.{decimal_digit, decimal_step}
use Rattle.std.proofs.lemmas.List.{take_all, drop_all}
use Rattle.adj_tree.specs.Code as trees
use Rattle.adj_tree.specs.Code.{unmarked, with_count, count_from, plain, shadow, helper}
use Rattle.adj_tree.specs.View.{mark_of}
use Rattle.adj_tree.specs.declared.stmt.Mark.{Mark}
use Rattle.adj_tree.specs.declared.stmt.Mark.TheVariants.{Plain, Count, From}
use Rattle.def_text.specs.Char.{is_capital, is_name_char, are_blank, folded, upper}
use Rattle.def_text.specs.Limits.{no_limits}
use Rattle.def_text.specs.Line.{cut_lines, without_cr, next_number, is_data, begins_in_either_case, is_directive, is_name_part, is_named, name_of, operand_of, by_mark, advice_of}
use Rattle.def_text.specs.Lined.{Pass, flushed, with_line, pass_over}
use Rattle.def_text.specs.Text.{directive}
use Rattle.def_text.specs.Written.{IsName}
use Rattle.def_text.proofs.Classes.{no_true, list_all-append, name_chars}
use Rattle.def_text.proofs.Joins.{over_line}
use Rattle.def_text.proofs.Scans.{both_true, capital_is_no_digit}
use Rattle.def_text.proofs.Solid.{name_char_stays, solid_chars}
use Rattle.def_text.proofs.TermSpaced.{is_name-name}

-- the line of a directive with this operand
abbrev line_with : List ℕ → List ℕ
line_with cs = codes "C$AD BINOMIAL-CKP " ++ cs

-- the line of a directive with this mark
record IsDirective (l : List ℕ) (m : Mark) : Type 0 where
  stays : without_cr l ≡ l
  no_data : is_data l ≡ false
  is_one : is_directive l ≡ true
  gives : advice_of l ≡ Some (by_mark m)
  ends : (rest : List ℕ) → cut_lines (l ++ 10 ∷ rest) ≡ l ∷ cut_lines rest

-- neither a line feed nor a carriage return
abbrev is_clean : ℕ → Bool
is_clean c = not (eqb c 10) && not (eqb c 13)

clean_char : (c : ℕ) → is_name_char c ≡ true → is_clean c ≡ true
clean_char c h = grind (arith, nat_tests)

clean_chars : (cs : List ℕ) → list_all is_name_char cs ≡ true → list_all is_clean cs ≡ true
clean_chars [] h = refl
clean_chars (c ∷ cs) h = let k = both_true (is_name_char c) (list_all is_name_char cs) h in rw (clean_char c k.0, clean_chars cs k.1) refl

cut_clean : (xs ys : List ℕ) → list_all is_clean xs ≡ true → cut_lines (xs ++ 10 ∷ ys) ≡ xs ∷ cut_lines ys
unfolding cut_lines
cut_clean [] ys h = refl
cut_clean (x ∷ xs) ys h =
    let k = both_true (is_clean x) (list_all is_clean xs) h in
    let feed = both_true (not (eqb x 10)) (not (eqb x 13)) k.0 in
    rw (no_true (eqb x 10) feed.0, cut_clean xs ys k.1) refl

clean_at : (xs : List ℕ) (i : ℕ) → list_all is_clean xs ≡ true → i < length xs → is_clean (get_or xs i 0) ≡ true
clean_at [] i h lt = absurd (omega arith)
clean_at (x ∷ xs) zero h lt = (both_true (is_clean x) (list_all is_clean xs) h).0
clean_at (x ∷ xs) (suc i) h lt = clean_at xs i (both_true (is_clean x) (list_all is_clean xs) h).1 (omega arith)

stays_clean : (xs : List ℕ) → list_all is_clean xs ≡ true → without_cr xs ≡ xs
stays_clean [] h = refl
stays_clean (x ∷ xs) h =
    let last = get_or (x ∷ xs) (length (x ∷ xs) - 1) 0 in
    let k = both_true (not (eqb last 10)) (not (eqb last 13)) (clean_at (x ∷ xs) (length (x ∷ xs) - 1) h (omega arith)) in
    rw (no_true (eqb last 13) k.1, lt-ltb 0 (length (x ∷ xs)) (omega arith)) refl

-- what a name may go on with, as an operand
directive_line : (cs : List ℕ) (m : Mark) → list_all is_name_char cs ≡ true → operand_of (line_with cs) ≡ Some m → IsDirective (line_with cs) m
unfolding begins_in_either_case
directive_line cs m h e =
    let clean = list_all-append is_clean (codes "C$AD BINOMIAL-CKP ") cs refl (clean_chars cs h) in
    record { stays = stays_clean (line_with cs) clean; no_data = refl; is_one = refl; gives = ap (option_map by_mark) e; ends = λ rest. cut_clean (line_with cs) rest clean }

-- a number: one digit or two
abbrev two_digits : ℕ → List ℕ
two_digits n = cond (ltb n 10) ((48 + n) ∷ []) ((48 + n / 10) ∷ (48 + n % 10) ∷ [])

few_digits : (n : ℕ) → n ≤ 64 → decimal n ≡ two_digits n
few_digits n h =
    elim (cases_lt n 10) [
      | inl lt ↦ rw (lt-ltb n 10 lt) (decimal_digit n lt)
      | inr ge ↦ rw (le-ltb n 10 ge) (decimal_step n ge (omega arith) ∙ ap (λ ds. ds ++ (48 + n % 10) ∷ []) (decimal_digit (n / 10) (omega arith)))
    ]

abbrev count_in : Option Mark → ℕ
count_in (Some (Count n)) = n
count_in _ = 0

-- what is asked of these digits of a number
abbrev is_operand : List ℕ → ℕ → Bool
is_operand ds n = list_all is_name_char ds && eqb (count_in (operand_of (line_with ds))) n

unfoldable all_good : ℕ → Bool
all_good zero = true
all_good (suc n) = is_operand (two_digits (suc n)) (suc n) && all_good n

all_64 : all_good 64 ≡ true
unfolding all_good begins_in_either_case
all_64 = refl

good_at : (k n : ℕ) → all_good k ≡ true → 0 < n → n ≤ k → is_operand (two_digits n) n ≡ true
unfolding all_good
good_at zero n h some le = absurd (omega arith)
good_at (suc k) n h some le =
    let p = both_true (is_operand (two_digits (suc k)) (suc k)) (all_good k) h in
    elim (cases_lt n (suc k)) [
      | inl lt ↦ good_at k n p.1 some (omega arith)
      | inr ge ↦ let e : suc k ≡ n = omega arith in ap (λ m. is_operand (two_digits m) m) (sym e) ∙ p.0
    ]

counted : (o : Option Mark) (n : ℕ) → 0 < n → eqb (count_in o) n ≡ true → o ≡ Some (Count n)
counted None n h e = absurd (omega (arith, eqb-true 0 n e))
counted (Some Plain) n h e = absurd (omega (arith, eqb-true 0 n e))
counted (Some (Count k)) n h e = ap (λ m. Some (Count m)) (eqb-true k n e)
counted (Some (From x)) n h e = absurd (omega (arith, eqb-true 0 n e))

number_line : (n : ℕ) → 0 < n → n ≤ 64 → IsDirective (line_with (decimal n)) (Count n)
number_line n some le =
    let p = both_true (list_all is_name_char (two_digits n)) (eqb (count_in (operand_of (line_with (two_digits n)))) n) (good_at 64 n all_64 some le) in
    let P : List ℕ → Type 0 = λ ds. IsDirective (line_with ds) (Count n) in
    subst P (sym (few_digits n le)) (directive_line (two_digits n) (Count n) p.0 (counted (operand_of (line_with (two_digits n))) n some p.1))

-- a name
part_of_name : (cs : List ℕ) → list_all is_name_char cs ≡ true → prefix_len is_name_part cs ≡ length cs
part_of_name [] h = refl
part_of_name (c ∷ cs) h =
    let k = both_true (is_name_char c) (list_all is_name_char cs) h in
    rw ((name_char_stays c k.0).1, k.0, part_of_name cs k.1) (omega arith)

named : (c : ℕ) (cs : List ℕ) → IsName (c ∷ cs) → name_of (c ∷ cs) ≡ Some (c ∷ cs)
named c cs h =
    let chars = name_chars (c ∷ cs) (is_name-name (c ∷ cs) h) in
    let here = both_true (is_name_char c) (list_all is_name_char cs) chars in
    let len = part_of_name (c ∷ cs) chars in
    let first : is_capital (upper c) ≡ true = ap is_capital (name_char_stays c here.0).1 ∙ h.0 in
    let behind : are_blank (drop (prefix_len is_name_part (c ∷ cs)) (c ∷ cs)) ≡ true = ap (λ k. are_blank (drop k (c ∷ cs))) len ∙ ap are_blank (drop_all (length (c ∷ cs)) (c ∷ cs) (omega arith)) in
    let name : folded (take (prefix_len is_name_part (c ∷ cs)) (c ∷ cs)) ≡ c ∷ cs = ap (λ k. folded (take k (c ∷ cs))) len ∙ ap folded (take_all (length (c ∷ cs)) (c ∷ cs) (omega arith)) ∙ (solid_chars (c ∷ cs) chars).0 in
    let is_one : is_named (c ∷ cs) ≡ true = ap (λ b. b && are_blank (drop (prefix_len is_name_part (c ∷ cs)) (c ∷ cs))) first ∙ behind in
    ap (λ b. cond b (Some (folded (take (prefix_len is_name_part (c ∷ cs)) (c ∷ cs)))) None) is_one ∙ ap Some name

name_operand : (c : ℕ) (cs : List ℕ) → IsName (c ∷ cs) → operand_of (line_with (c ∷ cs)) ≡ Some (From (c ∷ cs))
unfolding begins_in_either_case
name_operand c cs h =
    let here = both_true (is_name_char c) (list_all is_name_char cs) (name_chars (c ∷ cs) (is_name-name (c ∷ cs) h)) in
    rw ((name_char_stays c here.0).0, capital_is_no_digit c h.0, named c cs h) refl

name_line : (x : List ℕ) → IsName x → IsDirective (line_with x) (From x)
name_line [] h = absurd h
name_line (c ∷ cs) h = directive_line (c ∷ cs) (From (c ∷ cs)) (name_chars (c ∷ cs) (is_name-name (c ∷ cs) h)) (name_operand c cs h)

-- what a pass has behind the line of a directive
abbrev pub behind : Pass → ℕ → Mark → Pass
behind p k m = record { done = flushed p; current = None; pending = Some (record { advice = by_mark m; line = k }) }

with_one : (p : Pass) (k : ℕ) (m : Mark) (l : List ℕ) → p.pending ≡ None → IsDirective l m → with_line no_limits p k l ≡ Ok (behind p k m)
unfolding with_line
with_one p k m l h d = rw (d.is_one, h, d.gives) refl

over_one : (p : Pass) (k : ℕ) (m : Mark) (l rest : List ℕ) → p.pending ≡ None → IsDirective l m → pass_over no_limits p k (cut_lines ((l ++ 10 ∷ []) ++ rest)) ≡ pass_over no_limits (behind p k m) (next_number k) (cut_lines rest)
over_one p k m l rest h d =
    ap (λ cs. pass_over no_limits p k (cut_lines cs)) (append_assoc l (10 ∷ []) rest)
    ∙ ap (λ ls. pass_over no_limits p k ls) (d.ends rest)
    ∙ over_line p (behind p k m) k l (cut_lines rest) d.stays d.no_data (with_one p k m l h d)

-- what a pass has behind the printed line of a mark
pub record Marked (p : Pass) (k : ℕ) (m : trees.Mark) (rest : List ℕ) : Type 0 where
  pub found : Mark
  pub same : mark_of found ≡ m
  pub passed : pass_over no_limits p k (cut_lines (directive m ++ rest)) ≡ pass_over no_limits (behind p k found) (next_number k) (cut_lines rest)

-- a mark that is printed has a line
abbrev pub HasLine : trees.Mark → Type 0
HasLine unmarked = ⊥
HasLine (with_count n) = (0 < n) × (n ≤ 64)
HasLine (count_from (plain x)) = IsName x
HasLine (count_from (shadow x)) = ⊥
HasLine (count_from (helper r k)) = ⊥

-- the printed line of a directive is read as one
pub over_directive : (p : Pass) (k : ℕ) (m : trees.Mark) (rest : List ℕ) → p.pending ≡ None → HasLine m → Marked p k m rest
over_directive p k unmarked rest h w = absurd w
over_directive p k (with_count n) rest h w = record { found = Count n; same = refl; passed = over_one p k (Count n) (line_with (decimal n)) rest h (number_line n w.0 w.1) }
over_directive p k (count_from (plain x)) rest h w = record { found = From x; same = refl; passed = over_one p k (From x) (line_with x) rest h (name_line x w) }
over_directive p k (count_from (shadow x)) rest h w = absurd w
over_directive p k (count_from (helper r i)) rest h w = absurd w
