-- No two marked loops of a program stand at one line that a text gives: each of its statements begins at a line of its own.
use Rattle.std.proofs.Common.{arith, ◌≡◌, ◌≤◌, ◌<◌, ℕ, suc, ◌+◌, List, [], ◌∷◌, ◌++◌, map, length, Bool, true, false, Option, Some, None, Result, Ok, Err, refl, sym, ap, ◌∙◌, subst, if◌then◌else◌}
use Rattle.std.specs.Prelude.{◌==◌, ◌&&◌, ◌||◌, not, option_to_list}
use Rattle.std.specs.List.{list_all, list_any}
use Rattle.adj_tree.specs.Code.{Mark as loop_mark, Terms, none, Runtime, Act, Code, Declaration}
use Rattle.adj_tree.specs.declared.fault.Refusal.{Refusal}
use Rattle.adj_tree.proofs.Names.{nat_same}
use Rattle.adj_tree.specs.Common.{Common, Shared}
use Rattle.def_text.specs.Block as blocks
use Rattle.def_text.specs.Block.{ReadsBody, ReadsAct, ReadsElse}
use Rattle.def_text.specs.Char.{blank, nought, line_feed, is_between, is_allowed}
use Rattle.def_text.specs.Class.{class_of, is_matched}
use Rattle.def_text.specs.Form as forms
use Rattle.def_text.specs.Form.{Form, subroutine, implicit_none, integers, common, simple, logical, opens_do, opens_while, end_do, go_on, opens_if, otherwise, otherwise_if, end_if, leaves, ends, Statement, at, ReadsForm}
use Rattle.def_text.specs.Limits.{no_limits}
use Rattle.def_text.specs.Line.{in_front, cut_lines, without_cr, next_number, is_data, column, is_directive, is_comment, is_continuation, body, label_of, advice_of}
use Rattle.def_text.specs.Lined.{Lines, Directive, Pass, start, flushed, with_directive, with_initial, has_room, with_continuation, behind_directive, with_line, ended, pass_over, lines_of}
use Rattle.def_text.specs.Reads as texts
use Rattle.def_text.specs.Reads.{ReadsAll}
use Rattle.def_text.specs.Refused.{◌>>=◌, refused}
use Rattle.def_text.specs.Stated.{tokens_of, is_too_long, is_marked_long, with_tokens, with_class, stated, all_stated}
use Rattle.def_text.specs.Statement as statements
use Rattle.def_text.specs.Statement.{ReadsAssignment, ReadsCall, ReadsGuarded, runtime_call, called_as}
use Rattle.def_text.specs.Unit as units
use Rattle.def_text.specs.Unit.{ReadsImplicit, ReadsDeclarations, ReadsEnd, ReadsUnit, ReadsUnits}
use Rattle.def_text.specs.Lexeme.{Lexeme}
use Rattle.def_text.specs.declared.stated.Advice.{Advice}
use Rattle.def_text.specs.declared.stated.Kind.{Kind}
use Rattle.def_text.specs.declared.stated.Stated.{Stated}
use Rattle.def_text.specs.declared.token.Token.{Token}
use Rattle.def_text.proofs.Cut.{text_forms}
use Rattle.def_text.proofs.LinesMarked.{bind_ok}
use Rattle.def_sweep.specs.MarkedUnits.{is_marked}
use Rattle.law_analysed.specs.MarkedLines.{marked_in, marked_lines, program_lines}
use Rattle.law_planned.specs.Planned.{ReadHaveLinesApart}
use Rattle.law_planned.proofs.MarkedLines.{once, tally, tally_append, are_apart}

-- ---- each statement begins at a line of its own

-- how many statements begin at a line
abbrev begun : ℕ → List Lines → ℕ
begun t [] = 0
begun t (s ∷ ss) = once (t == s.line) + begun t ss

begun_append : (t : ℕ) (xs ys : List Lines) → begun t (xs ++ ys) ≡ begun t xs + begun t ys
begun_append t [] ys = omega arith
begun_append t (x ∷ xs) ys = let rest = begun_append t xs ys in omega arith

-- at most one begins at each line, and none behind those that were passed
abbrev AreSpread : ℕ → List Lines → Type 0
AreSpread n ss = (t : ℕ) → (begun t ss ≤ 1) × (n ≤ t → begun t ss ≤ 0)

spread_on : (n : ℕ) (ss : List Lines) → AreSpread n ss → AreSpread (n + 1) ss
spread_on n ss h t = (let k = h t in k.0, λ le. let k = h t in k.1 (omega arith))

spread_more : (n : ℕ) (s : Lines) (ss : List Lines) → s.line ≡ n → AreSpread n ss → AreSpread (n + 1) (ss ++ s ∷ [])
spread_more n s ss here h t =
    let sum = begun_append t ss (s ∷ []) in
    let own : begun t (s ∷ []) ≡ once (t == n) = (λ i. once (t == here i) + 0) ∙ no_last (once (t == n)) in
    let k = go (t == n) refl in
    (let a = k.0 in omega arith, λ le. let b = k.1 le in omega arith)
  where
    no_last : (m : ℕ) → m + 0 ≡ m
    no_last m = omega arith

    go : (b : Bool) → (t == n) ≡ b → (begun t ss + once b ≤ 1) × (n + 1 ≤ t → begun t ss + once b ≤ 0)
    go true e =
        let same = nat_same t n e in
        let k = h t in
        let absent : begun t ss ≤ 0 = k.1 (omega arith) in
        (omega arith, λ le. omega arith)
    go false e =
        let k = h t in
        let few = k.0 in
        (omega arith, λ le. let absent : begun t ss ≤ 0 = k.1 (omega arith) in omega arith)

-- where another statement of the same line stands for the last
spread_again : (n : ℕ) (done : List Lines) (s r : Lines) → r.line ≡ s.line → AreSpread n (done ++ s ∷ []) → AreSpread (n + 1) (done ++ r ∷ [])
spread_again n done s r same h t =
    let old = begun_append t done (s ∷ []) in
    let new = begun_append t done (r ∷ []) in
    let here : once (t == r.line) ≡ once (t == s.line) = λ i. once (t == same i) in
    let k = spread_on n (done ++ s ∷ []) h t in
    (let few = k.0 in omega arith, λ le. let zero = k.1 le in omega arith)

-- a pass, if there is one, has them so
abbrev Spreads : ℕ → Result Pass Refusal → Type 0
Spreads n r = (q : Pass) → r ≡ Ok q → AreSpread n (flushed q)

spreads_err : (n : ℕ) (e : Refusal) → Spreads n (Err e)
spreads_err n e q h = absurd cc

spreads_ok : (n : ℕ) (p : Pass) → AreSpread n (flushed p) → Spreads n (Ok p)
spreads_ok n p h q e = let s : p ≡ q = cc in subst (λ z. AreSpread n (flushed z)) s h

spreads_if : (n : ℕ) (b : Bool) (r s : Result Pass Refusal) → Spreads n r → Spreads n s → Spreads n (if b then r else s)
spreads_if n true r s h g = h
spreads_if n false r s h g = g

spreads_behind : (n : ℕ) (o : Option Directive) (r : Result Pass Refusal) → Spreads n r → Spreads n (behind_directive o r)
spreads_behind n None r h = h
spreads_behind n (Some d) r h = spreads_err n _

spreads_directive : (p : Pass) (n : ℕ) (o : Option Advice) → AreSpread n (flushed p) → Spreads (n + 1) (with_directive p n o)
spreads_directive p n None h = spreads_err (n + 1) _
spreads_directive p n (Some m) h =
    spreads_ok (n + 1) _ (λ t.
    let sum = begun_append t (flushed p) [] in
    let k = spread_on n (flushed p) h t in
    (let few = k.0 in omega arith, λ le. let zero = k.1 le in omega arith))

spreads_initial : (p : Pass) (n : ℕ) (l : List ℕ) (o : Option ℕ) → AreSpread n (flushed p) → Spreads (n + 1) (with_initial no_limits p n l o)
spreads_initial p n l None h = spreads_err (n + 1) _
spreads_initial p n l (Some label) h =
    spreads_if (n + 1) (not (column l 6 == blank || column l 6 == nought)) _ _ (spreads_err (n + 1) _)
    (spreads_if (n + 1) (not (list_all is_allowed (body l))) _ _ (spreads_err (n + 1) _) (spreads_ok (n + 1) _ (spread_more n _ (flushed p) refl h)))

spreads_continuation : (p : Pass) (n : ℕ) (l : List ℕ) (o : Option Lines) → AreSpread n (p.done ++ option_to_list o) → Spreads (n + 1) (with_continuation no_limits p n l o)
spreads_continuation p n l None h = spreads_err (n + 1) _
spreads_continuation p n l (Some s) h =
    spreads_if (n + 1) (not (is_between 33 126 (column l 6) && list_all is_allowed (body l))) _ _ (spreads_err (n + 1) _)
    (spreads_if (n + 1) (not (has_room s.room)) _ _ (spreads_err (n + 1) _)
    (spreads_ok (n + 1) _ (spread_again n p.done s _ refl h)))

spreads_line : (p : Pass) (n : ℕ) (l : List ℕ) → AreSpread n (flushed p) → Spreads (n + 1) (with_line no_limits p n l)
unfolding with_line
spreads_line p n l h =
    spreads_if (n + 1) (is_directive l) _ _ (spreads_behind (n + 1) p.pending (with_directive p n (advice_of l)) (spreads_directive p n (advice_of l) h))
    (spreads_if (n + 1) (is_comment l) _ _ (spreads_ok (n + 1) p (spread_on n (flushed p) h))
    (spreads_if (n + 1) (is_continuation l) _ _ (spreads_behind (n + 1) p.pending (with_continuation no_limits p n l p.current) (spreads_continuation p n l p.current h))
    (spreads_initial p n l (label_of l) h)))

-- at most one begins at each line
abbrev IsSpread : List Lines → Type 0
IsSpread ss = (t : ℕ) → begun t ss ≤ 1

ended_spread : (p : Pass) (n : ℕ) (o : Option Directive) (ss : List Lines) → AreSpread n (flushed p) → ended p o ≡ Ok ss → IsSpread ss
ended_spread p n None ss h e t = let q : flushed p ≡ ss = cc in subst (λ z. begun t z ≤ 1) q (h t).0
ended_spread p n (Some d) ss h e t = absurd cc

next_is : (n k : ℕ) → n + suc k ≤ 4294967295 → next_number n ≡ n + 1
next_is n k h = omega arith

passed_spread : (p : Pass) (n : ℕ) (ls : List (List ℕ)) (ss : List Lines) → n + length ls ≤ 4294967295 → AreSpread n (flushed p) → pass_over no_limits p n ls ≡ Ok ss → IsSpread ss
unfolding pass_over
passed_spread p n [] ss few h e = ended_spread p n p.pending ss h e
passed_spread p n (l ∷ ls) ss few h e =
    elim (is_data (without_cr l)) as (λ b. (if b then ended p p.pending else (with_line no_limits p n (without_cr l) >>= λ q. pass_over no_limits q (next_number n) ls)) ≡ Ok ss → IsSpread ss) [
      | true ↦ λ g. ended_spread p n p.pending ss h g
      | false ↦ λ g.
          let r = bind_ok (with_line no_limits p n (without_cr l)) (λ q. pass_over no_limits q (next_number n) ls) ss g in
          let next = next_is n (length ls) (omega arith) in
          passed_spread r.0 (n + 1) ls ss (omega arith) (spreads_line p n (without_cr l) h r.0 r.1) (ap (λ k. pass_over no_limits r.0 k ls) (sym next) ∙ r.2)
    ] e

-- a text has no more lines than bytes
front_length : (c : ℕ) (ls : List (List ℕ)) → length (in_front c ls) ≤ 1 + length ls
front_length c [] = omega arith
front_length c (l ∷ ls) = omega arith

few_lines : (bytes : List ℕ) → length (cut_lines bytes) ≤ length bytes
unfolding cut_lines
few_lines [] = omega arith
few_lines (c ∷ cs) =
    let rest = few_lines cs in
    let front = front_length c (cut_lines cs) in
    elim (c == line_feed) as (λ b. length (if b then [] ∷ cut_lines cs else in_front c (cut_lines cs)) ≤ length (c ∷ cs)) [ true ↦ omega arith | false ↦ omega arith ]

all_spread : (bytes : List ℕ) (ss : List Lines) → length bytes < 4294967295 → lines_of no_limits bytes ≡ Ok ss → IsSpread ss
all_spread bytes ss few e = let lines = few_lines bytes in passed_spread start 1 (cut_lines bytes) ss (omega arith) (λ t. (omega arith, λ le. omega arith)) e

-- ---- statements with their classes stand at the same lines

abbrev classed : ℕ → List Stated → ℕ
classed t [] = 0
classed t (s ∷ ss) = once (t == s.line) + classed t ss

abbrev record_of : Lines → Kind → List Token → Stated
record_of l kind ts = record { line = l.line; label = l.label; mark = l.advice.mark; split = l.advice.split; mark_line = l.mark_line; kind = kind; text = l.text; tokens = ts }

tokens_line : (l : Lines) (kind : Kind) (o : Option (List Token)) (s : Stated) → with_tokens no_limits l kind o ≡ Ok s → s.line ≡ l.line
tokens_line l kind None s e = absurd cc
tokens_line l kind (Some ts) s e =
    elim (list_any (is_too_long None) ts || is_marked_long None kind l.advice.mark) as (λ b. (if b then refused 6 l.line else Ok (record_of l kind ts)) ≡ Ok s → s.line ≡ l.line) [
      | true ↦ λ g. absurd cc
      | false ↦ λ g. let q : record_of l kind ts ≡ s = cc in ap (λ (z : Stated). z.line) (sym q)
    ] e

class_line : (l : Lines) (o : Option Kind) (s : Stated) → with_class no_limits l o ≡ Ok s → s.line ≡ l.line
class_line l None s e = absurd cc
class_line l (Some kind) s e =
    elim (is_matched 0 l.text) as (λ b. (if b then with_tokens no_limits l kind (tokens_of kind l.text) else refused 4 l.line) ≡ Ok s → s.line ≡ l.line) [
      | true ↦ λ g. tokens_line l kind (tokens_of kind l.text) s g
      | false ↦ λ g. absurd cc
    ] e

stated_line : (l : Lines) (s : Stated) → stated no_limits l ≡ Ok s → s.line ≡ l.line
unfolding stated
stated_line l s e =
    elim (length l.text == 0) as (λ b. (if b then refused 4 l.line else with_class no_limits l (class_of l.text)) ≡ Ok s → s.line ≡ l.line) [
      | true ↦ λ g. absurd cc
      | false ↦ λ g. class_line l (class_of l.text) s g
    ] e

all_classed : (t : ℕ) (ls : List Lines) (ss : List Stated) → all_stated no_limits ls ≡ Ok ss → classed t ss ≡ begun t ls
unfolding all_stated
all_classed t [] ss e = let q : [] ≡ ss = cc in ap (classed t) (sym q)
all_classed t (l ∷ ls) ss e =
    let a = bind_ok (stated no_limits l) (λ x. all_stated no_limits ls >>= λ xs. Ok (x ∷ xs)) ss e in
    let b = bind_ok (all_stated no_limits ls) (λ xs. Ok (a.0 ∷ xs)) ss a.2 in
    let q : a.0 ∷ b.0 ≡ ss = cc in
    let here = stated_line l a.0 a.1 in
    let rest = all_classed t ls b.0 b.1 in
    ap (classed t) (sym q) ∙ (λ i. once (t == here i) + rest i)

-- ---- a statement marks a loop at its own line, or none

-- at which lines a statement marks loops, at most
abbrev form_lines : ℕ → Form → List ℕ
form_lines n (simple a) = marked_in n a
form_lines n (logical c a) = marked_in n a
form_lines n (opens_do l r m) = n ∷ []
form_lines n (subroutine x dummies) = []
form_lines n implicit_none = []
form_lines n (integers is) = []
form_lines n (common b is) = []
form_lines n (opens_while c) = []
form_lines n end_do = []
form_lines n go_on = []
form_lines n (opens_if c) = []
form_lines n otherwise = []
form_lines n (otherwise_if c) = []
form_lines n end_if = []
form_lines n leaves = []
form_lines n ends = []

module _ (t : ℕ) where
  -- how often they mark one at a line
  abbrev seen : List Statement → ℕ
  seen [] = 0
  seen (at n l f ∷ ts) = tally t (form_lines n f) + seen ts

  called_none : (n : ℕ) (x : List ℕ) (es : Terms) (o : Option Runtime) → tally t (marked_in n (called_as x es o)) ≤ 0
  called_none n x es None = omega arith
  called_none n x es (Some r) = omega arith

  assignment_none : (n : ℕ) {ts : List Lexeme} {a : Act} → ReadsAssignment ts a → tally t (marked_in n a) ≤ 0
  assignment_none n (statements.ReadsAssignment.assignment p e) = omega arith

  call_none : (n : ℕ) {ts : List Lexeme} {a : Act} → ReadsCall ts a → tally t (marked_in n a) ≤ 0
  call_none n (statements.ReadsCall.alone {x = x}) = called_none n x none (runtime_call x none)
  call_none n (statements.ReadsCall.empty {x = x}) = called_none n x none (runtime_call x none)
  call_none n (statements.ReadsCall.actuals {x = x} {es = es} d) = called_none n x es (runtime_call x es)

  guarded_none : (n : ℕ) {ts : List Lexeme} {a : Act} → ReadsGuarded ts a → tally t (marked_in n a) ≤ 0
  guarded_none n (statements.ReadsGuarded.assigned d) = assignment_none n d
  guarded_none n (statements.ReadsGuarded.calls d) = call_none n d

  form_own : (n : ℕ) {mark : loop_mark} {kind : Kind} {ws : List Lexeme} {f : Form} → ReadsForm mark kind ws f → tally t (form_lines n f) ≤ once (t == n)
  form_own n (forms.ReadsForm.heading d) = omega arith
  form_own n forms.ReadsForm.implicit = omega arith
  form_own n (forms.ReadsForm.declaration d) = omega arith
  form_own n (forms.ReadsForm.shared d) = omega arith
  form_own n (forms.ReadsForm.assigned d) = let zero = assignment_none n d in omega arith
  form_own n (forms.ReadsForm.calls d) = let zero = call_none n d in omega arith
  form_own n (forms.ReadsForm.guarded d e) = let zero = guarded_none n e in omega arith
  form_own n (forms.ReadsForm.begins d) = omega arith
  form_own n (forms.ReadsForm.repeats d) = omega arith
  form_own n forms.ReadsForm.finished = omega arith
  form_own n forms.ReadsForm.continued = omega arith
  form_own n (forms.ReadsForm.tests d) = omega arith
  form_own n forms.ReadsForm.turns = omega arith
  form_own n (forms.ReadsForm.tests_again d) = omega arith
  form_own n forms.ReadsForm.closed = omega arith
  form_own n forms.ReadsForm.returned = omega arith
  form_own n forms.ReadsForm.ended = omega arith

  all_seen : {ss : List Stated} {ts : List Statement} → ReadsAll ss ts → seen ts ≤ classed t ss
  all_seen texts.ReadsAll.none = omega arith
  all_seen (texts.ReadsAll.more {s = s} split d rest) = let here = form_own s.line d in let later = all_seen rest in omega arith

  -- ---- and so do the loops of units

  two : (a b : Code) → tally t (marked_lines a ++ marked_lines b) ≡ tally t (marked_lines a) + tally t (marked_lines b)
  two a b = tally_append t (marked_lines a) (marked_lines b)

  own : (n : ℕ) (b : Bool) → tally t (if b then n ∷ [] else []) ≤ tally t (n ∷ [])
  own n true = omega arith
  own n false = omega arith

  looped : (n : ℕ) (m : loop_mark) (c : Code) → tally t ((if is_marked m then n ∷ [] else []) ++ marked_lines c) ≤ tally t (n ∷ []) + tally t (marked_lines c)
  looped n m c = let sum = tally_append t (if is_marked m then n ∷ [] else []) (marked_lines c) in let few = own n (is_marked m) in omega arith

  alone : (xs : List ℕ) → tally t (xs ++ []) ≡ tally t xs
  alone xs = let sum = tally_append t xs [] in omega arith

  mutual
    body_lines : {ls : List ℕ} {ts rest : List Statement} {k : Code} → ReadsBody ls ts rest k → tally t (marked_lines k) + seen rest ≤ seen ts
    body_lines blocks.ReadsBody.empty = omega arith
    body_lines (blocks.ReadsBody.more {n = n} {a = a} {body = k} h q b) = let sum = tally_append t (marked_in n a) (marked_lines k) in let here = act_lines q in let later = body_lines b in omega arith
    body_lines (blocks.ReadsBody.skipped h b) = let later = body_lines b in omega arith

    act_lines : {ls : List ℕ} {n : ℕ} {f : Form} {ts rest : List Statement} {a : Act} → ReadsAct ls n f ts rest a → tally t (marked_in n a) + seen rest ≤ tally t (form_lines n f) + seen ts
    act_lines blocks.ReadsAct.simply = omega arith
    act_lines {n = n} (blocks.ReadsAct.guarded {a = a}) = let one = alone (marked_in n a) in let both = alone (marked_in n a ++ []) in omega arith
    act_lines (blocks.ReadsAct.branch {a = a} {b = b} p q) = let sum = two a b in let first = body_lines p in let second = else_lines q in omega arith
    act_lines {n = n} (blocks.ReadsAct.unlabelled {s = s} {body = k} p h) = let here = looped n s k in let inside = body_lines p in omega arith
    act_lines (blocks.ReadsAct.repeated p h) = let inside = body_lines p in omega arith
    act_lines {n = n} (blocks.ReadsAct.labelled {s = s} {body = k} h q p) = let here = looped n s k in let inside = body_lines p in omega arith
    act_lines {n = n} (blocks.ReadsAct.shared {s = s} {body = k} h q p) = let here = looped n s k in let inside = body_lines p in omega arith

    else_lines : {ls : List ℕ} {ts rest : List Statement} {k : Code} → ReadsElse ls ts rest k → tally t (marked_lines k) + seen rest ≤ seen ts
    else_lines (blocks.ReadsElse.nothing h) = omega arith
    else_lines (blocks.ReadsElse.part h p q) = let inside = body_lines p in omega arith
    else_lines (blocks.ReadsElse.chained {a = a} {b = b} h p q) = let sum = two a b in let one = alone (marked_lines a ++ marked_lines b) in let first = body_lines p in let second = else_lines q in omega arith

  implicit_lines : {ts rest : List Statement} {b : Bool} → ReadsImplicit ts rest b → seen rest ≤ seen ts
  implicit_lines units.ReadsImplicit.absent = omega arith
  implicit_lines units.ReadsImplicit.present = omega arith

  declared_lines : {ts rest : List Statement} {ds : List Declaration} {cs : List Common} → ReadsDeclarations ts rest ds cs → seen rest ≤ seen ts
  declared_lines units.ReadsDeclarations.none = omega arith
  declared_lines (units.ReadsDeclarations.shared d) = let later = declared_lines d in omega arith
  declared_lines (units.ReadsDeclarations.more d e) = let later = declared_lines d in omega arith

  end_lines : {ts rest : List Statement} → ReadsEnd ts rest → seen rest ≤ seen ts
  end_lines units.ReadsEnd.ended = omega arith
  end_lines units.ReadsEnd.returned = omega arith

  unit_lines : {ts rest : List Statement} {s : Shared} → ReadsUnit ts rest s → tally t (marked_lines s.unit.body) + seen rest ≤ seen ts
  unit_lines (units.ReadsUnit.unit i d b e) = let one = implicit_lines i in let some = declared_lines d in let inside = body_lines b in let last = end_lines e in omega arith

  units_lines : {ts : List Statement} {ss : List Shared} → ReadsUnits ts ss → tally t (program_lines (map (λ s. s.unit) ss)) ≤ seen ts
  units_lines units.ReadsUnits.none = omega arith
  units_lines (units.ReadsUnits.more {s = s} {ss = ss} u us) = let sum = tally_append t (marked_lines s.unit.body) (program_lines (map (λ s. s.unit) ss)) in let here = unit_lines u in let later = units_lines us in omega arith

pub read_apart : ReadHaveLinesApart
read_apart bytes ss r few = are_apart (program_lines (map (λ s. s.unit) ss)) (λ t. each t)
  where
    each : (t : ℕ) → tally t (program_lines (map (λ s. s.unit) ss)) ≤ 1
    each t =
        let a = bind_ok (lines_of no_limits bytes) (all_stated no_limits) r.stated (text_forms bytes r.stated r.lines_form) in
        let spread = all_spread bytes a.0 few a.1 t in
        let class = all_classed t a.0 r.stated a.2 in
        let says = all_seen t r.lexemes_derive in
        let units = units_lines t r.units_derive in
        omega arith
