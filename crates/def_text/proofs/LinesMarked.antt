-- LinesMarked: what the directive before a statement of a text says is written.
use Rattle.std.proofs.Common.{◌≡◌, ℕ, suc, ◌+◌, ◌<◌, ◌≤◌, Bool, true, false, cond, List, [], ◌∷◌, ◌++◌, Option, Some, None, Result, Ok, Err, option_map, refl, sym, ap, subst, ◌∙◌, arith}
use Rattle.std.specs.Prelude.{◌&&◌, ◌||◌, ◌==◌, nat_le, not, if◌then◌else◌, option_to_list, take, take_while, drop}
use Rattle.std.specs.List.{list_all, prefix_len}
use Rattle.std.specs.Option.{option_or}
use Rattle.std.proofs.lemmas.Bool.{leb-true}
use Rattle.std.proofs.lemmas.Bool.Decides.{nat_tests}
use Rattle.adj_tree.specs.View.{mark_of}
use Rattle.adj_tree.specs.declared.fault.Refusal.{Refusal}
use Rattle.adj_tree.specs.declared.stmt.Mark.{Mark}
use Rattle.adj_tree.specs.declared.stmt.Mark.TheVariants.{Count, From}
use Rattle.def_text.specs.Char.{blank, nought, is_between, is_capital, is_digit, is_name_char, is_blank, are_blank, is_allowed, upper, folded, number_of}
use Rattle.def_text.specs.Limits.{no_limits}
use Rattle.def_text.specs.Line.{cut_lines, without_cr, next_number, is_data, column, is_directive, is_comment, is_continuation, body, label_of, snapshots_of, is_name_part, name_of, mark_in, operand, operand_of, splits_call, by_mark, by_split, advice_of}
use Rattle.def_text.specs.Lined.{Lines, Directive, Pass, start, flushed, with_directive, directive_before, with_initial, has_room, with_continuation, behind_directive, with_line, ended, pass_over, lines_of}
use Rattle.def_text.specs.Refused.{◌>>=◌}
use Rattle.def_text.specs.declared.stated.Advice.{Advice}
use Rattle.def_text.specs.Written.{IsName, IsWrittenMark}
use Rattle.def_text.proofs.Scans.{both_true}
use Rattle.def_text.proofs.Parts.{then_some}

-- the mark before each is written
abbrev pub AreMarked : List Lines → Type 0
AreMarked [] = Unit {0}
AreMarked (s ∷ ss) = IsWrittenMark (mark_of s.advice.mark) × AreMarked ss

abbrev CurrentMarked : Option Lines → Type 0
CurrentMarked None = Unit {0}
CurrentMarked (Some s) = IsWrittenMark (mark_of s.advice.mark)

abbrev PendingMarked : Option Directive → Type 0
PendingMarked None = Unit {0}
PendingMarked (Some d) = IsWrittenMark (mark_of d.advice.mark)

record IsMarked (p : Pass) : Type 0 where
  before : AreMarked p.done
  now : CurrentMarked p.current
  next : PendingMarked p.pending

marked-append : (xs ys : List Lines) → AreMarked xs → AreMarked ys → AreMarked (xs ++ ys)
marked-append [] ys h g = g
marked-append (x ∷ xs) ys h g = (h.0, marked-append xs ys h.1 g)

current_listed : (o : Option Lines) → CurrentMarked o → AreMarked (option_to_list o)
current_listed None h = tt
current_listed (Some s) h = (h, tt)

marked-flushed : (p : Pass) → IsMarked p → AreMarked (flushed p)
marked-flushed p h = marked-append p.done (option_to_list p.current) h.before (current_listed p.current h.now)

pending_mark : (o : Option Directive) → PendingMarked o → IsWrittenMark (mark_of (directive_before o).advice.mark)
pending_mark None h = tt
pending_mark (Some d) h = h

-- a pass, if there is one, is marked so
abbrev Keeps : Result Pass Refusal → Type 0
Keeps r = (q : Pass) → r ≡ Ok q → IsMarked q

keeps_err : (e : Refusal) → Keeps (Err e)
keeps_err e q h = absurd cc

keeps_ok : (p : Pass) → IsMarked p → Keeps (Ok p)
keeps_ok p h q e = let s : p ≡ q = cc in subst IsMarked s h

keeps_if : (b : Bool) (r s : Result Pass Refusal) → Keeps r → Keeps s → Keeps (if b then r else s)
keeps_if true r s h g = h
keeps_if false r s h g = g

few_snapshots : (cs : List ℕ) (k : ℕ) → snapshots_of cs ≡ Some k → (0 < k) × (k ≤ 64)
few_snapshots cs k e =
    let n = number_of (take_while is_digit cs) in
    elim (is_between 1 2 (prefix_len is_digit cs) && are_blank (drop (prefix_len is_digit cs) cs) && is_between 1 64 n) as (λ b. (is_between 1 2 (prefix_len is_digit cs) && are_blank (drop (prefix_len is_digit cs) cs) && is_between 1 64 n) ≡ b → (if b then Some n else None) ≡ Some k → (0 < k) × (k ≤ 64)) [
      | true ↦ λ h g.
          let a = both_true (is_between 1 2 (prefix_len is_digit cs) && are_blank (drop (prefix_len is_digit cs) cs)) (is_between 1 64 n) h in
          let b = both_true (nat_le 1 n) (nat_le n 64) a.1 in
          let some : 1 ≤ n = leb-true 1 n b.0 in
          let le : n ≤ 64 = leb-true n 64 b.1 in
          let same : n ≡ k = cc in (omega arith, omega arith)
      | false ↦ λ h g. absurd cc
    ] refl e

-- one character more in front
taken_more : (k c : ℕ) (cs : List ℕ) → take (1 + k) (c ∷ cs) ≡ c ∷ take k cs
taken_more k c cs = let e : 1 + k ≡ suc k = omega arith in ap (λ n. take n (c ∷ cs)) e

folded_more : (c : ℕ) (cs : List ℕ) → is_name_char (upper c) ≡ true → list_all is_name_char (folded cs) ≡ true → list_all is_name_char (folded (c ∷ cs)) ≡ true
folded_more c cs h g =
    elim (is_blank c) as (λ b. is_blank c ≡ b → list_all is_name_char (folded (c ∷ cs)) ≡ true) [
      | true ↦ λ e. rw e g
      | false ↦ λ e. rw (e, h) g
    ] refl

-- the characters of a name, in capitals
folded_part : (cs : List ℕ) → list_all is_name_char (folded (take_while is_name_part cs)) ≡ true
folded_part [] = refl
folded_part (c ∷ cs) =
    elim (is_name_char (upper c)) as (λ b. is_name_char (upper c) ≡ b → list_all is_name_char (folded (take (cond b (1 + prefix_len is_name_part cs) 0) (c ∷ cs))) ≡ true) [
      | true ↦ λ h. ap (λ xs. list_all is_name_char (folded xs)) (taken_more (prefix_len is_name_part cs) c cs) ∙ folded_more c (take_while is_name_part cs) h (folded_part cs)
      | false ↦ λ h. refl
    ] refl

capital_upper : (c : ℕ) → is_capital (upper c) ≡ true → (is_name_char (upper c) ≡ true) × (is_blank c ≡ false)
capital_upper c h = (rw h refl, grind (arith, nat_tests))

name_is : (cs x : List ℕ) → name_of cs ≡ Some x → IsName x
name_is [] x e = absurd cc
name_is (c ∷ cs) x e =
    let rest = are_blank (drop (prefix_len is_name_part (c ∷ cs)) (c ∷ cs)) in
    let name = folded (take_while is_name_part (c ∷ cs)) in
    elim (is_capital (upper c) && rest) as (λ b. is_capital (upper c) && rest ≡ b → (if b then Some name else None) ≡ Some x → IsName x) [
      | true ↦ λ h g.
          let capital = (both_true (is_capital (upper c)) rest h).0 in
          let k = capital_upper c capital in
          let are : name ≡ upper c ∷ folded (take_while is_name_part cs) = rw k.0 (ap folded (taken_more (prefix_len is_name_part cs) c cs) ∙ rw k.1 refl) in
          let same : name ≡ x = cc in
          subst IsName (sym are ∙ same) (capital, folded_part cs)
      | false ↦ λ h g. absurd cc
    ] refl e

mark_written : (cs : List ℕ) (n : Option ℕ) (x : Option (List ℕ)) (m : Mark) → ((k : ℕ) → n ≡ Some k → (0 < k) × (k ≤ 64)) → ((y : List ℕ) → x ≡ Some y → IsName y) → option_or (option_map Count n) (option_map From x) ≡ Some m → IsWrittenMark (mark_of m)
mark_written cs (Some k) x m few is e = let same : Count k ≡ m = cc in subst (λ (d : Mark). IsWrittenMark (mark_of d)) same (few k refl)
mark_written cs None (Some y) m few is e = let same : From y ≡ m = cc in subst (λ (d : Mark). IsWrittenMark (mark_of d)) same (is y refl)
mark_written cs None None m few is e = absurd cc

operand_written : (l : List ℕ) (m : Mark) → operand_of l ≡ Some m → IsWrittenMark (mark_of m)
operand_written l m e = let r = then_some mark_in (operand l) m e in mark_written r.0 (snapshots_of r.0) (name_of r.0) m (few_snapshots r.0) (name_is r.0) r.2

-- and so is the mark that a directive gives
advice_written : (l : List ℕ) (a : Advice) → advice_of l ≡ Some a → IsWrittenMark (mark_of a.mark)
advice_written l a e = by (splits_call l) (operand_of l) refl e
  where
    by : (b : Bool) (o : Option Mark) → operand_of l ≡ o → (if b then Some by_split else option_map by_mark o) ≡ Some a → IsWrittenMark (mark_of a.mark)
    by true o h e = let same : by_split ≡ a = cc in subst (λ (d : Advice). IsWrittenMark (mark_of d.mark)) same tt
    by false (Some m) h e = let same : by_mark m ≡ a = cc in subst (λ (d : Advice). IsWrittenMark (mark_of d.mark)) same (operand_written l m h)
    by false None h e = absurd cc

keeps_directive : (p : Pass) (n : ℕ) (o : Option Advice) → IsMarked p → ((a : Advice) → o ≡ Some a → IsWrittenMark (mark_of a.mark)) → Keeps (with_directive p n o)
keeps_directive p n None h few = keeps_err _
keeps_directive p n (Some a) h few = keeps_ok _ (record { before = marked-flushed p h; now = tt; next = few a refl })

keeps_behind : (o : Option Directive) (r : Result Pass Refusal) → Keeps r → Keeps (behind_directive o r)
keeps_behind None r h = h
keeps_behind (Some d) r h = keeps_err _

keeps_initial : (p : Pass) (n : ℕ) (l : List ℕ) (o : Option ℕ) → IsMarked p → Keeps (with_initial no_limits p n l o)
keeps_initial p n l None h = keeps_err _
keeps_initial p n l (Some label) h =
    keeps_if (not (column l 6 == blank || column l 6 == nought)) _ _ (keeps_err _)
    (keeps_if (not (list_all is_allowed (body l))) _ _ (keeps_err _) (keeps_ok _ (record { before = marked-flushed p h; now = pending_mark p.pending h.next; next = tt })))

keeps_continuation : (p : Pass) (n : ℕ) (l : List ℕ) (o : Option Lines) → IsMarked p → CurrentMarked o → Keeps (with_continuation no_limits p n l o)
keeps_continuation p n l None h c = keeps_err _
keeps_continuation p n l (Some s) h c =
    keeps_if (not (is_between 33 126 (column l 6) && list_all is_allowed (body l))) _ _ (keeps_err _)
    (keeps_if (not (has_room s.room)) _ _ (keeps_err _) (keeps_ok _ (record { before = h.before; now = c; next = tt })))

keeps_line : (p : Pass) (n : ℕ) (l : List ℕ) → IsMarked p → Keeps (with_line no_limits p n l)
unfolding with_line
keeps_line p n l h =
    keeps_if (is_directive l) _ _ (keeps_behind p.pending (with_directive p n (advice_of l)) (keeps_directive p n (advice_of l) h (advice_written l)))
    (keeps_if (is_comment l) _ _ (keeps_ok p h)
    (keeps_if (is_continuation l) _ _ (keeps_behind p.pending (with_continuation no_limits p n l p.current) (keeps_continuation p n l p.current h h.now))
    (keeps_initial p n l (label_of l) h)))

-- an answer that is there goes on
pub bind_ok : {A B : Type 0} (r : Result A Refusal) (f : A → Result B Refusal) (y : B) → r >>= f ≡ Ok y → (x : A) × (r ≡ Ok x) × (f x ≡ Ok y)
bind_ok (Ok x) f y e = (x, refl, e)
bind_ok (Err q) f y e = absurd cc

ended_marked : (p : Pass) (o : Option Directive) (ls : List Lines) → IsMarked p → ended p o ≡ Ok ls → AreMarked ls
ended_marked p None ls h e = let q : flushed p ≡ ls = cc in subst AreMarked q (marked-flushed p h)
ended_marked p (Some d) ls h e = absurd cc

passed_marked : (p : Pass) (n : ℕ) (ls : List (List ℕ)) (ss : List Lines) → IsMarked p → pass_over no_limits p n ls ≡ Ok ss → AreMarked ss
unfolding pass_over
passed_marked p n [] ss h e = ended_marked p p.pending ss h e
passed_marked p n (l ∷ ls) ss h e =
    elim (is_data (without_cr l)) as (λ b. (if b then ended p p.pending else (with_line no_limits p n (without_cr l) >>= λ q. pass_over no_limits q (next_number n) ls)) ≡ Ok ss → AreMarked ss) [
      | true ↦ λ g. ended_marked p p.pending ss h g
      | false ↦ λ g.
          let r = bind_ok (with_line no_limits p n (without_cr l)) (λ q. pass_over no_limits q (next_number n) ls) ss g in
          passed_marked r.0 (next_number n) ls ss (keeps_line p n (without_cr l) h r.0 r.1) r.2
    ] e

pub lines_marked : (bytes : List ℕ) (ss : List Lines) → lines_of no_limits bytes ≡ Ok ss → AreMarked ss
lines_marked bytes ss e = passed_marked start 1 (cut_lines bytes) ss (record { before = tt; now = tt; next = tt }) e
