-- ConditionComplete: what the grammar derives as a condition at the front of some lexemes is what the machine reads there.
use Rattle.std.proofs.Common.{◌≡◌, ℕ, zero, suc, List, [], ◌∷◌, Bool, true, false, cond, Option, Some, None, option_map, option_and_then, refl, sym, ap, subst, ◌∙◌}
use Rattle.adj_tree.specs.Code.{Rel}
use Rattle.def_text.specs.declared.token.TokenKind.{TokenKind}
use Rattle.def_text.specs.declared.token.TokenKind.TheVariants.{Left, Right, Comma, Equals, Not, And, Or, Call}
use Rattle.def_text.specs.Condition.{Condition, Relates, less, most, same, other, greater, least, Part, Whole, Conjunction, Item, Plain, DerivesCondition, comparison, group, plain, not, item, and, whole, or}
use Rattle.def_text.specs.Machine.{value, State, wanting, having, step, finish, is_stop, Stops, chosen, stopped, read}
use Rattle.def_text.specs.Lexeme.{Lexeme, Named, Digits, Mark}
use Rattle.def_text.proofs.Complete.{reads}
use Rattle.adj_parse_expression.specs.ConditionMachine.{Waiting, Opened, Denied, Anded, Ored, TestAlgebra, test_value, First, Second, Made, TestState, beginning, made, deny, conjoin, disjoin, close_all, await_and, await_or, end_condition, behind_condition, behind_left, begin_not, compare_with, advance, alone, conclude, Ends, ended, read_test}
use Rattle.adj_parse_expression.proofs.Split.{groups, above, closed, step-above, finish-above}

-- no `.NOT.`, no `.AND.`, no `.OR.` waits on top, from the last on
pub data IsWholeStart {C : Type 0} : List (Waiting C) → Type 0 where
  whole_bottom : IsWholeStart []
  whole_in_group : {frames : List (Waiting C)} → IsWholeStart (Opened ∷ frames)

pub data IsConjunctionStart {C : Type 0} : List (Waiting C) → Type 0 where
  conjunction_at_whole : {frames : List (Waiting C)} → IsWholeStart frames → IsConjunctionStart frames
  conjunction_behind_or : {a : C} {frames : List (Waiting C)} → IsConjunctionStart (Ored a ∷ frames)

pub data IsItemStart {C : Type 0} : List (Waiting C) → Type 0 where
  item_at_conjunction : {frames : List (Waiting C)} → IsConjunctionStart frames → IsItemStart frames
  item_behind_and : {a : C} {frames : List (Waiting C)} → IsItemStart (Anded a ∷ frames)

-- so many open parentheses above these frames
abbrev pub opened : {C : Type 0} → ℕ → List (Waiting C) → List (Waiting C)
opened zero frames = frames
opened (suc n) frames = Opened ∷ opened n frames

pub some_same : {A : Type 0} (x y : A) → Some x ≡ Some y → x ≡ y
some_same x y h = cc

pub none_some : {A : Type 0} (x : A) → None ≡ Some x → ⊥
none_some x h = cc

-- where a reading of an expression stops
stops_at : {A : Type 0} (b : Bool) (w : Lexeme) (ws : List Lexeme) (found : Option A) (p : A × List Lexeme) → cond b (option_map (λ x. (x, w ∷ ws)) found) None ≡ Some p → (found ≡ Some p.0) × (p.1 ≡ w ∷ ws)
stops_at true w ws (Some x) p h = (ap (λ q. Some q.0) (some_same (x, w ∷ ws) p h), sym (ap (λ q. q.1) (some_same (x, w ∷ ws) p h)))
stops_at true w ws None p h = absurd (none_some p h)
stops_at false w ws found p h = absurd (none_some p h)

ends_at : {A : Type 0} (found : Option A) (p : A × List Lexeme) → option_map (λ x. (x, [])) found ≡ Some p → (found ≡ Some p.0) × (p.1 ≡ [])
ends_at (Some x) p h = (ap (λ q. Some q.0) (some_same (x, []) p h), sym (ap (λ q. q.1) (some_same (x, []) p h)))
ends_at None p h = absurd (none_some p h)

head_same : (v w : Lexeme) (vs ws : List Lexeme) → v ∷ vs ≡ w ∷ ws → w ≡ v
head_same v w vs ws h = cc

empty_cons : {A : Type 0} (w : Lexeme) (ws : List Lexeme) → w ∷ ws ≡ [] → A
empty_cons w ws h = absurd cc

-- where a choice is none, its first part is
pub not_taken : {A B : Type 0} (taken : Option A) (f : A → B) (instead : Option B) → chosen taken (λ t. Some (f t)) instead ≡ None → taken ≡ None
not_taken None f instead h = refl
not_taken (Some t) f instead h = absurd cc

pub relation_stops : {k : TokenKind} {r : Rel} → Relates k r → is_stop (Mark k) ≡ true
relation_stops less = refl
relation_stops most = refl
relation_stops same = refl
relation_stops other = refl
relation_stops greater = refl
relation_stops least = refl

-- what ends a condition ends an expression
pub stops-end : (rest : List Lexeme) → Ends rest → Stops rest
stops-end [] end = tt
stops-end (Mark Right ∷ ws) end = refl
stops-end (Mark Comma ∷ ws) end = refl
stops-end (Mark Equals ∷ ws) end = refl
stops-end (Mark Not ∷ ws) end = refl
stops-end (Mark Call ∷ ws) end = refl
stops-end (Named text ∷ ws) end = absurd cc
stops-end (Digits digits ∷ ws) end = absurd cc
stops-end (Mark _ ∷ ws) end = absurd cc

module _ {X C : Type 0} (alg : TestAlgebra X C) where
  pub deny-start : {frames : List (Waiting C)} (c : C) → IsItemStart frames → deny alg frames c ≡ (frames, c)
  deny-start c (item_at_conjunction (conjunction_at_whole whole_bottom)) = refl
  deny-start c (item_at_conjunction (conjunction_at_whole whole_in_group)) = refl
  deny-start c (item_at_conjunction conjunction_behind_or) = refl
  deny-start c item_behind_and = refl

  pub conjoin-start : {frames : List (Waiting C)} (c : C) → IsConjunctionStart frames → conjoin alg (frames, c) ≡ (frames, c)
  conjoin-start c (conjunction_at_whole whole_bottom) = refl
  conjoin-start c (conjunction_at_whole whole_in_group) = refl
  conjoin-start c conjunction_behind_or = refl

  pub disjoin-start : {frames : List (Waiting C)} (c : C) → IsWholeStart frames → disjoin alg (frames, c) ≡ (frames, c)
  disjoin-start c whole_bottom = refl
  disjoin-start c whole_in_group = refl

  begin_not-start : {frames : List (Waiting C)} → IsItemStart frames → begin_not {X = X} frames ≡ Some (beginning (Denied ∷ frames))
  begin_not-start (item_at_conjunction (conjunction_at_whole whole_bottom)) = refl
  begin_not-start (item_at_conjunction (conjunction_at_whole whole_in_group)) = refl
  begin_not-start (item_at_conjunction conjunction_behind_or) = refl
  begin_not-start item_behind_and = refl

  -- what one state and its lexemes answer, another and its lexemes do
  abbrev To : TestState X C → List Lexeme → TestState X C → List Lexeme → Type 0
  To s ts t us = (r : C × List Lexeme) → read_test alg t us ≡ Some r → read_test alg s ts ≡ Some r

  advances : (s t : TestState X C) (w : Lexeme) (ws : List Lexeme) → advance alg s w ≡ Some t → To s (w ∷ ws) t ws
  unfolding read_test
  advances s t w ws h r e = ap (λ o. chosen o (λ t. read_test alg t ws) (ended w ws (conclude alg s))) h ∙ e

  -- the states of this machine that a state of an expression may be: its lowest parentheses wait here
  data Stands (frames : List (Waiting C)) : TestState X C → State X → Type 0 where
    stands_fresh : (n : ℕ) → Stands frames (beginning (opened n frames)) (wanting (groups n))
    stands_first : (n : ℕ) (e : State X) → Stands frames (opened n frames, First e) (above n e)

  -- where an expression takes a lexeme, so does this machine
  abbrev Follows : List (Waiting C) → Option (TestState X C) → State X → Type 0
  Follows frames found e = (t : TestState X C) × (found ≡ Some t) × Stands frames t e

  first_taken : (frames : List (Waiting C)) (n : ℕ) (e t : State X) (w : Lexeme) (taken : Option (State X)) (found : Option X) → chosen taken (λ t. Some (above n t)) (closed w found n) ≡ Some t → Follows frames (chosen taken (λ t. Some (opened n frames, First t)) (option_and_then (behind_left (opened n frames) w) found)) t
  first_taken frames n e t w (Some u) found h = ((opened n frames, First u), refl, subst (Stands frames (opened n frames, First u)) (some_same (above n u) t h) (stands_first n u))
  first_taken frames (suc n) e t (Mark Right) None (Some x) h = ((opened n frames, First (having [] x)), refl, subst (Stands frames (opened n frames, First (having [] x))) (some_same (having (groups n) x) t h) (stands_first n (having [] x)))
  first_taken frames zero e t (Mark Right) None (Some x) h = absurd cc
  first_taken frames n e t (Mark Right) None None h = absurd cc
  first_taken frames n e t (Named text) None found h = absurd cc
  first_taken frames n e t (Digits digits) None found h = absurd cc
  first_taken frames n e t (Mark _) None found h = absurd cc

  fresh_taken : (frames : List (Waiting C)) (n : ℕ) (t : State X) (w : Lexeme) (taken : Option (State X)) → chosen taken (λ t. Some (above n t)) (closed w None n) ≡ Some t → Follows frames (option_map (λ e. (opened n frames, First e)) taken) t
  fresh_taken frames n t w (Some u) h = ((opened n frames, First u), refl, subst (Stands frames (opened n frames, First u)) (some_same (above n u) t h) (stands_first n u))
  fresh_taken frames n t (Mark Right) None h = absurd cc
  fresh_taken frames n t (Named text) None h = absurd cc
  fresh_taken frames n t (Digits digits) None h = absurd cc
  fresh_taken frames n t (Mark _) None h = absurd cc

  fresh_follows : (frames : List (Waiting C)) (n : ℕ) (t : State X) (w : Lexeme) → step alg.terms (wanting (groups n)) w ≡ Some t → Follows frames (advance alg (beginning (opened n frames)) w) t
  fresh_follows frames n t (Mark Left) h = (beginning (opened (suc n) frames), refl, subst (Stands frames (beginning (opened (suc n) frames))) (some_same (wanting (groups (suc n))) t h) (stands_fresh (suc n)))
  fresh_follows frames n t (Mark Not) h = absurd cc
  fresh_follows frames n t (Named text) h = fresh_taken frames n t (Named text) (step alg.terms (wanting []) (Named text)) (sym (step-above alg.terms (wanting []) (Named text) n) ∙ h)
  fresh_follows frames n t (Digits digits) h = fresh_taken frames n t (Digits digits) (step alg.terms (wanting []) (Digits digits)) (sym (step-above alg.terms (wanting []) (Digits digits) n) ∙ h)
  fresh_follows frames n t (Mark k) h = fresh_taken frames n t (Mark k) (step alg.terms (wanting []) (Mark k)) (sym (step-above alg.terms (wanting []) (Mark k) n) ∙ h)

  follows : {frames : List (Waiting C)} {s : TestState X C} {e : State X} (t : State X) (w : Lexeme) → Stands frames s e → step alg.terms e w ≡ Some t → Follows frames (advance alg s w) t
  follows {frames = frames} t w (stands_fresh n) h = fresh_follows frames n t w h
  follows {frames = frames} t w (stands_first n e) h = first_taken frames n e t w (step alg.terms e w) (finish alg.terms e) (sym (step-above alg.terms e w n) ∙ h)

  behind_left-relates : {k : TokenKind} {r : Rel} → Relates k r → (frames : List (Waiting C)) (x : X) → behind_left {C = C} frames (Mark k) x ≡ Some (frames, Second r x (wanting []))
  behind_left-relates less frames x = refl
  behind_left-relates most frames x = refl
  behind_left-relates same frames x = refl
  behind_left-relates other frames x = refl
  behind_left-relates greater frames x = refl
  behind_left-relates least frames x = refl

  left_ends : {frames : List (Waiting C)} {s : TestState X C} {e : State X} {k : TokenKind} {r : Rel} (x : X) → Stands frames s e → Relates k r → step alg.terms e (Mark k) ≡ None → finish alg.terms e ≡ Some x → advance alg s (Mark k) ≡ Some (frames, Second r x (wanting []))
  left_ends x (stands_fresh n) rel stays h = absurd (none_some x h)
  left_ends {frames = frames} {k = k} {r = r} x (stands_first n e) rel stays h =
      let p = finish-above alg.terms e x n h in
      let none : step alg.terms e (Mark k) ≡ None = not_taken (step alg.terms e (Mark k)) (above n) (closed (Mark k) (finish alg.terms e) n) (sym (step-above alg.terms e (Mark k) n) ∙ stays) in
      ap (λ o. chosen o (λ t. Some (opened n frames, First t)) (option_and_then (behind_left (opened n frames) (Mark k)) (finish alg.terms e))) none
      ∙ ap (λ o. option_and_then (behind_left (opened n frames) (Mark k)) o) p.1
      ∙ behind_left-relates rel (opened n frames) x
      ∙ ap (λ m. Some (opened m frames, Second r x (wanting []))) p.0

  -- the lexemes of the left operand, and the relation
  leads_left : (frames : List (Waiting C)) (ts : List Lexeme) (s : TestState X C) (e : State X) (x : X) {k : TokenKind} {r : Rel} (us : List Lexeme) → Stands frames s e → Relates k r → read alg.terms e ts ≡ Some (x, Mark k ∷ us) → To s ts (frames, Second r x (wanting [])) us
  unfolding read
  leads_left frames [] s e x {k = k} us at rel h = empty_cons (Mark k) us (ends_at (finish alg.terms e) (x, Mark k ∷ us) h).1
  leads_left frames (w ∷ ws) s e x {k = k} {r = r} us at rel h =
      elim (step alg.terms e w) as (λ o. step alg.terms e w ≡ o → chosen o (λ t. read alg.terms t ws) (stopped w ws (finish alg.terms e)) ≡ Some (x, Mark k ∷ us) → To s (w ∷ ws) (frames, Second r x (wanting [])) us) [
        | None ↦ λ stays g.
            let p = stops_at (is_stop w) w ws (finish alg.terms e) (x, Mark k ∷ us) g in
            let P : List Lexeme → Type 0 = λ lexemes. To s lexemes (frames, Second r x (wanting [])) us in
            let Q : Lexeme → Type 0 = λ v. step alg.terms e v ≡ None in
            subst P p.1 (advances s (frames, Second r x (wanting [])) (Mark k) us (left_ends x at rel (subst Q (head_same (Mark k) w us ws p.1) stays) p.0))
        | Some t ↦ λ go g res q.
            let f = follows t w at go in
            advances s f.0 w ws f.1 res (leads_left frames ws f.0 t x us f.2 rel g res q)
      ] refl h

  -- the lexemes of the right operand
  leads_right : (frames : List (Waiting C)) (r : Rel) (a : X) (ts : List Lexeme) (e : State X) (x : X) (rest : List Lexeme) → read alg.terms e ts ≡ Some (x, rest) → To (frames, Second r a e) ts (made (compare_with alg frames r a x)) rest
  unfolding read read_test
  leads_right frames r a [] e x rest h =
      let p = ends_at (finish alg.terms e) (x, rest) h in
      let P : List Lexeme → Type 0 = λ us. To (frames, Second r a e) [] (made (compare_with alg frames r a x)) us in
      subst P (sym p.1) (λ res q. ap (λ o. option_map (λ c. (c, [])) (option_and_then (λ b. alone (close_all alg (compare_with alg frames r a b))) o)) p.0 ∙ q)
  leads_right frames r a (w ∷ ws) e x rest h =
      elim (step alg.terms e w) as (λ o. step alg.terms e w ≡ o → chosen o (λ t. read alg.terms t ws) (stopped w ws (finish alg.terms e)) ≡ Some (x, rest) → To (frames, Second r a e) (w ∷ ws) (made (compare_with alg frames r a x)) rest) [
        | None ↦ λ stays g.
            let p = stops_at (is_stop w) w ws (finish alg.terms e) (x, rest) g in
            let P : List Lexeme → Type 0 = λ us. To (frames, Second r a e) (w ∷ ws) (made (compare_with alg frames r a x)) us in
            let then : Option (State X) → Option X → Option (C × List Lexeme) = λ o found. chosen (chosen o (λ t. Some (frames, Second r a t)) (option_and_then (λ b. behind_condition alg (compare_with alg frames r a b) w) found)) (λ t. read_test alg t ws) (ended w ws (option_and_then (λ b. alone (close_all alg (compare_with alg frames r a b))) found)) in
            subst P (sym p.1) (λ res q. ap (λ o. then o (finish alg.terms e)) stays ∙ ap (then None) p.0 ∙ q)
        | Some t ↦ λ go g res q.
            advances (frames, Second r a e) (frames, Second r a t) w ws (ap (λ o. chosen o (λ t. Some (frames, Second r a t)) (option_and_then (λ b. behind_condition alg (compare_with alg frames r a b) w) (finish alg.terms e))) go) res (leads_right frames r a ws t x rest g res q)
      ] refl h

  -- the states and lexemes after the lexemes of a part
  abbrev Leads : Part → List Lexeme → List Lexeme → C → Type 0
  Leads Plain ts rest c = (frames : List (Waiting C)) → To (beginning frames) ts (made (deny alg frames c)) rest
  Leads Item ts rest c = (frames : List (Waiting C)) → IsItemStart frames → To (beginning frames) ts (frames, Made c) rest
  Leads Conjunction ts rest c = (frames : List (Waiting C)) → IsConjunctionStart frames → (inner : List (Waiting C)) × (x : C) × To (beginning frames) ts (inner, Made x) rest × (conjoin alg (inner, x) ≡ (frames, c))
  Leads Whole ts rest c = (frames : List (Waiting C)) → IsWholeStart frames → (inner : List (Waiting C)) × (x : C) × To (beginning frames) ts (inner, Made x) rest × (close_all alg (inner, x) ≡ (frames, c))

  leads : {part : Part} {ts rest : List Lexeme} {c : Condition} → DerivesCondition part ts rest c → Stops rest → Leads part ts rest (test_value alg c)
  leads (comparison {ts = ts} {us = us} {rest = rest} {a = a} {b = b} {k = k} {r = r} rel p q) stop = λ frames res e.
      leads_left frames ts (beginning frames) (wanting []) (value alg.terms a) us (stands_fresh 0) rel (reads X alg.terms ts (Mark k ∷ us) a p (relation_stops rel)) res (
      leads_right frames r (value alg.terms a) us (wanting []) (value alg.terms b) rest (reads X alg.terms us rest b q stop) res e)
  leads (group {ts = ts} {rest = rest} {c = c} p) stop = λ frames res e.
      let h = leads p refl (Opened ∷ frames) whole_in_group in
      advances (beginning frames) (beginning (Opened ∷ frames)) (Mark Left) ts refl res (
      h.2 res (advances (h.0, Made h.1) (made (deny alg frames (test_value alg c))) (Mark Right) rest (ap (end_condition alg) h.3) res e))
  leads (plain {ts = ts} {rest = rest} {c = c} p) stop = λ frames start.
      let P : List (Waiting C) × C → Type 0 = λ d. To (beginning frames) ts (made d) rest in
      subst P (deny-start (test_value alg c) start) (leads p stop frames)
  leads (not {ts = ts} p) stop = λ frames start res e.
      advances (beginning frames) (beginning (Denied ∷ frames)) (Mark Not) ts (begin_not-start start) res (leads p stop (Denied ∷ frames) res e)
  leads (item {c = c} p) stop = λ frames start. (frames, test_value alg c, leads p stop frames (item_at_conjunction start), conjoin-start (test_value alg c) start)
  leads (and {us = us} {c = c} {d = d} p q) stop = λ frames start.
      let h = leads p refl frames start in
      let g = leads q stop (Anded (test_value alg c) ∷ frames) item_behind_and in
      (Anded (test_value alg c) ∷ frames, test_value alg d, (λ res e. h.2 res (advances (h.0, Made h.1) (beginning (Anded (test_value alg c) ∷ frames)) (Mark And) us (ap (λ p. Some (await_and p)) h.3) res (g res e))), refl)
  leads (whole {c = c} p) stop = λ frames start.
      let h = leads p stop frames (conjunction_at_whole start) in
      (h.0, h.1, h.2, ap (disjoin alg) h.3 ∙ disjoin-start (test_value alg c) start)
  leads (or {us = us} {c = c} {d = d} p q) stop = λ frames start.
      let h = leads p refl frames start in
      let g = leads q stop (Ored (test_value alg c) ∷ frames) conjunction_behind_or in
      (g.0, g.1, (λ res e. h.2 res (advances (h.0, Made h.1) (beginning (Ored (test_value alg c) ∷ frames)) (Mark Or) us (ap (λ p. Some (await_or p)) h.3) res (g.2 res e))), ap (disjoin alg) g.3)

  -- a condition ends before a lexeme that ends conditions
  ends : (inner : List (Waiting C)) (x c : C) (rest : List Lexeme) → close_all alg (inner, x) ≡ ([], c) → Ends rest → read_test alg (inner, Made x) rest ≡ Some (c, rest)
  unfolding read_test
  ends inner x c [] h end = ap (λ p. option_map (λ c. (c, [])) (alone p)) h
  ends inner x c (Mark Right ∷ ws) h end = ap (λ p. chosen (end_condition alg p) (λ t. read_test alg t ws) (ended (Mark Right) ws (alone p))) h
  ends inner x c (Mark Comma ∷ ws) h end = ap (λ p. ended (Mark Comma) ws (alone p)) h
  ends inner x c (Mark Equals ∷ ws) h end = ap (λ p. ended (Mark Equals) ws (alone p)) h
  ends inner x c (Mark Not ∷ ws) h end = ap (λ p. ended (Mark Not) ws (alone p)) h
  ends inner x c (Mark Call ∷ ws) h end = ap (λ p. ended (Mark Call) ws (alone p)) h
  ends inner x c (Named text ∷ ws) h end = absurd cc
  ends inner x c (Digits digits ∷ ws) h end = absurd cc
  ends inner x c (Mark _ ∷ ws) h end = absurd cc

  -- what is derived at the front is read
  pub reads_test : (ts rest : List Lexeme) (c : Condition) → DerivesCondition Whole ts rest c → Ends rest → read_test alg (beginning []) ts ≡ Some (test_value alg c, rest)
  reads_test ts rest c p end =
      let h = leads p (stops-end rest end) [] whole_bottom in
      h.2 (test_value alg c, rest) (ends h.0 h.1 (test_value alg c) rest h.3 end)
