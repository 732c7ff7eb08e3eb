-- UpTo: a refused text reads up to the refused statement.
use Rattle.std.proofs.Common.{◌≡◌, ℕ, Bool, true, false, List, [], ◌∷◌, ◌++◌, length, Option, Some, None, Result, Ok, Err, ◌⊎◌, inl, inr, refl, sym, ap, subst, ◌∙◌}
use Rattle.std.specs.Prelude.{◌==◌, ◌&&◌, not, is_none, option_map, reverse}
use Rattle.std.proofs.lemmas.Bool.{eqb-true}
use Rattle.std.proofs.lemmas.List.{reverse-append, append_assoc, nil_from_length}
use Rattle.adj_tree.specs.Code.{Mark}
use Rattle.adj_tree.specs.View.{mark_of}
use Rattle.adj_tree.specs.declared.fault.Refusal.{Refusal}
use Rattle.def_text.specs.Form.{Form, Statement, at, ReadsForm}
use Rattle.def_text.specs.Reads as texts
use Rattle.def_text.specs.Reads.{ReadsAll}
use Rattle.def_text.specs.Refused.{◌>>=◌}
use Rattle.def_text.specs.Lexeme.{Lexeme}
use Rattle.def_text.specs.declared.mode.Mode.{Mode}
use Rattle.def_text.specs.declared.stated.Kind.{Kind}
use Rattle.def_text.specs.declared.stated.Stated.{Stated}
use Rattle.adj_parse_statement.specs.Phrase.{Phrase, Says}
use Rattle.adj_parse_statement.specs.Phrases.{phrase_of}
use Rattle.adj_parse_statement.specs.Said.{form, said}
use Rattle.adj_parse.specs.Order.{is_end}
use Rattle.adj_parse.specs.Trees.{bounds_of, State, start, checked, behind, follow, trees_from}
use Rattle.def_refused.specs.First.{code_at, limit_at, IsLeast}
use Rattle.def_refused.specs.Following.{Continues}
use Rattle.def_refused.specs.Prefixes.{ReadsUpTo}
use Rattle.def_refused.specs.Refusals.{TreesReadUpTo}
use Rattle.def_refused.specs.TreeFaults.{lexemes, TreeFault}
use Rattle.def_refused.proofs.Tests.{when, when_true, or_either, Present, IsJudged}
use Rattle.def_refused.proofs.Places.{misplaced_at, broken_at, stands_at}
use Rattle.def_refused.proofs.Bridged.{place_of}
use Rattle.def_refused.proofs.Continuing.{continues, same_class, goes_on_stands}
use Rattle.adj_parse.proofs.TextReads.{one_all}
use Rattle.def_refused.proofs.TreeTests.{Laws, At, tests, ill, limit_test, are_tested, judged}
use Rattle.def_refused.proofs.TreeWalk.{form_class, next, at_start}

-- the last of some statements that say something
record Last (ts : List Stated) (t : Stated) (ss : List Statement) : Type 0 where
  front : List Statement
  says : Form
  parts : ss ≡ front ++ at t.line t.label says ∷ []
  front_says : ReadsAll ts front
  form : ReadsForm (mark_of t.mark) t.kind (lexemes t) says

reads_last : (ts : List Stated) (t : Stated) {ss : List Statement} → ReadsAll (ts ++ t ∷ []) ss → Last ts t ss
reads_last [] t (texts.ReadsAll.more {f = f} split d texts.ReadsAll.none) = record { front = []; says = f; parts = refl; front_says = texts.ReadsAll.none; form = d }
reads_last (u ∷ us) t (texts.ReadsAll.more {f = f} split d r) =
    let l = reads_last us t r in
    record { front = at u.line u.label f ∷ l.front; says = l.says; parts = ap (λ ss. at u.line u.label f ∷ ss) l.parts; front_says = texts.ReadsAll.more split d l.front_says; form = l.form }

-- that a form that lexemes have comes from a phrase
abbrev pub HavePhrases : Type 0
HavePhrases = (mark : Mark) (kind : Kind) (ws : List Lexeme) (f : Form) → ReadsForm mark kind ws f → (p : Phrase) × Says kind ws p × (form mark p ≡ Some f)

module _ (laws : Laws) (phrases : HavePhrases) (mode : Mode) (before : List Stated) (s : State) (t : Stated) (after : List Stated) (here : At mode before s) where
  -- those up to the statement go on only where it says something and stands
  stands_here : (others : List Statement) → ReadsAll (reverse (t ∷ before)) others → Continues others → (is_none (phrase_of t.kind (lexemes t)) ≡ false) × (stands_at t.kind t.label (place_of s.units.current) ≡ true)
  stands_here others r c =
      let l = reads_last (reverse before) t (subst (λ ts. ReadsAll ts others) (reverse-append (t ∷ []) before) r) in
      let same : l.front ≡ here.statements = one_all l.front_says here.say in
      let goes : Continues (here.statements ++ at t.line t.label l.says ∷ []) = subst Continues (l.parts ∙ ap (λ ss. ss ++ at t.line t.label l.says ∷ []) same) c in
      let p = phrases (mark_of t.mark) t.kind (lexemes t) l.says l.form in (
        ap is_none (laws.complete t.kind (lexemes t) p.0 p.1),
        same_class (form_class l.form) t.label (place_of s.units.current) ∙ goes_on_stands here.statements (place_of s.units.current) t.line t.label l.says here.leads goes,
      )

  both_not : (a b : Bool) → (not a && not b) ≡ true → (a ≡ false) × (b ≡ false)
  both_not true b h = absurd cc
  both_not false true h = absurd cc
  both_not false false h = (refl, refl)

  parts : (a b : Bool) → (a && not b) ≡ true → (a ≡ true) × (b ≡ false)
  parts true true g = absurd cc
  parts true false g = (refl, refl)
  parts false b g = absurd cc

  cut : (is_none (phrase_of t.kind (lexemes t)) ≡ false) → misplaced_at t.kind (place_of s.units.current) ≡ false → ill laws mode before s t after here (phrase_of t.kind (lexemes t)) ≡ true → (after ≡ []) × (is_end t.kind ≡ false)
  cut some stands h = elim (or_either (is_none (phrase_of t.kind (lexemes t))) _ h) [
    | inl e ↦ let never : true ≡ false = sym e ∙ some in absurd cc
    | inr g ↦ elim (or_either (misplaced_at t.kind (place_of s.units.current)) _ g) [
      | inl e ↦ let never : true ≡ false = sym e ∙ stands in absurd cc
      | inr i ↦ let b = parts (length after == 0) (is_end t.kind) i in (nil_from_length after (eqb-true (length after) 0 b.0), b.1)
    ]
  ]

  limit_code : (o : Option Phrase) (r : Refusal) → limit_test laws mode before s t after here o ≡ Some r → r.code ≡ 21
  limit_code None r h = absurd cc
  limit_code (Some p) r h = by _ h
    where
      by : (m : Option ℕ) → option_map (λ n. limit_at n t.line) m ≡ Some r → r.code ≡ 21
      by None g = absurd cc
      by (Some n) g = let same : limit_at n t.line ≡ r = cc in ap (λ (q : Refusal). q.code) (sym same)

  code_of : (b : Bool) (code line : ℕ) (r : Refusal) → when b (code_at code line) ≡ Some r → (b ≡ true) × (code ≡ r.code)
  code_of b code line r h = let t = when_true b (code_at code line) r h in (t.0, ap (λ (q : Refusal). q.code) t.1)

  up_to : (r : Refusal) → IsLeast (TreeFault mode before t after) r → (r.code ≡ 4) ⊎ (r.code ≡ 10) → (others : List Statement) → ReadsAll (reverse (t ∷ before)) others → Continues others → (after ≡ []) × (is_end t.kind ≡ false)
  up_to r least code others reads goes =
      let st = stands_here others reads goes in
      let bn = both_not (misplaced_at t.kind (place_of s.units.current)) (broken_at t.kind t.label (place_of s.units.current)) st.1 in
      by st.0 bn.0 bn.1 ((are_tested laws mode before s t after here).present r least.stands) code
    where
      other : (n : ℕ) → n ≡ r.code → (n ≡ 4 → ⊥) → (n ≡ 10 → ⊥) → (r.code ≡ 4) ⊎ (r.code ≡ 10) → ⊥
      other n e four ten (inl f) = four (e ∙ f)
      other n e four ten (inr f) = ten (e ∙ f)

      by : is_none (phrase_of t.kind (lexemes t)) ≡ false → misplaced_at t.kind (place_of s.units.current) ≡ false → broken_at t.kind t.label (place_of s.units.current) ≡ false → Present (tests laws mode before s t after here (phrase_of t.kind (lexemes t))) r → (r.code ≡ 4) ⊎ (r.code ≡ 10) → (after ≡ []) × (is_end t.kind ≡ false)
      by a b c (inl h) code = absurd (other 20 (code_of _ 20 t.mark_line r h).1 (λ e. absurd cc) (λ e. absurd cc) code)
      by a b c (inr (inl h)) code = cut a b (code_of _ 4 t.line r h).0
      by a b c (inr (inr (inl h))) code = absurd (other 5 (code_of _ 5 t.line r h).1 (λ e. absurd cc) (λ e. absurd cc) code)
      by a b c (inr (inr (inr (inl h)))) code = let never : true ≡ false = sym (code_of _ 10 t.line r h).0 ∙ c in absurd cc
      by a b c (inr (inr (inr (inr (inl h))))) code = absurd (other 21 (sym (limit_code _ r h)) (λ e. absurd cc) (λ e. absurd cc) code)
      by a b c (inr (inr (inr (inr (inr (inl h)))))) code = absurd (other 25 (code_of _ 25 t.line r h).1 (λ e. absurd cc) (λ e. absurd cc) code)
      by a b c (inr (inr (inr (inr (inr (inr h)))))) code = absurd h

  found_here : (r : Refusal) → IsLeast (TreeFault mode before t after) r → (stated : List Stated) → stated ≡ reverse before ++ t ∷ after → ReadsUpTo mode stated r
  found_here r least stated e = record {
    before = before;
    place = t;
    after = after;
    whole = e;
    fault = least;
    statements = here.statements;
    say = here.say;
    goes_on = continues here.statements (place_of s.units.current) here.leads;
    ends_here = up_to r least;
  }

walked : (laws : Laws) → HavePhrases → (mode : Mode) (ts before : List Stated) (s : State) → At mode before s → (stated : List Stated) → stated ≡ reverse before ++ ts → (r : Refusal) → trees_from mode s ts ≡ Err r → ReadsUpTo mode stated r
unfolding trees_from follow
walked laws phrases mode [] before s here stated e r h = absurd cc
walked laws phrases mode (t ∷ ts) before s here stated e r h =
    by (checked (bounds_of mode) s t (length ts) (said (bounds_of mode).depth (mark_of t.mark) t.kind (lexemes t))) refl (judged laws mode before s t ts here) h
    (λ f g k. walked laws phrases mode ts (t ∷ before) (behind s t f) (next laws mode before s t (length ts) f here g) stated (e ∙ sym (append_assoc (reverse before) (t ∷ []) ts) ∙ ap (λ us. us ++ ts) (sym (reverse-append (t ∷ []) before))) r k)
  where
    by : (found : Result Form Refusal) → checked (bounds_of mode) s t (length ts) (said (bounds_of mode).depth (mark_of t.mark) t.kind (lexemes t)) ≡ found → IsJudged (TreeFault mode before t ts) found → ((found >>= λ f. Ok (behind s t f)) >>= λ s. trees_from mode s ts) ≡ Err r →
        ((f : Form) → checked (bounds_of mode) s t (length ts) (said (bounds_of mode).depth (mark_of t.mark) t.kind (lexemes t)) ≡ Ok f → trees_from mode (behind s t f) ts ≡ Err r → ReadsUpTo mode stated r) → ReadsUpTo mode stated r
    by (Ok f) g j k rest = rest f g k
    by (Err q) g j k rest = let same : q ≡ r = cc in found_here laws phrases mode before s t ts here r (subst (IsLeast (TreeFault mode before t ts)) same j) stated e

pub trees_read_up_to : Laws → HavePhrases → TreesReadUpTo
trees_read_up_to laws phrases mode stated r h = walked laws phrases mode stated [] (start mode) (at_start laws mode) stated refl r h
