-- ConditionSound: what the machine reads as a condition at the front of some lexemes is derived there.
use Rattle.std.proofs.Common.{◌≡◌, List, [], ◌∷◌, Bool, true, false, cond, Option, Some, None, option_map, option_and_then, refl, ap, subst, ◌∙◌}
use Rattle.std.specs.Prelude.{IfSome}
use Rattle.adj_tree.specs.Code.{Rel}
use Rattle.def_text.specs.declared.token.TokenKind.{TokenKind}
use Rattle.def_text.specs.declared.token.TokenKind.TheVariants.{Left, Right, Lt, Le, Eq, Ne, Gt, Ge, Not, And, Or}
use Rattle.def_text.specs.Grammar.{Syntax, Sum, Derives}
use Rattle.def_text.specs.Condition.{Condition, compared, denied, both, either, Relates, less, most, same, other, greater, least, Part, Whole, Conjunction, Item, Plain, DerivesCondition, comparison, group, plain, not, item, and, whole, or}
use Rattle.def_text.specs.Machine.{Algebra, value, State, wanting, having, step, finish, Stops, chosen, stopped, read}
use Rattle.def_text.specs.Lexeme.{Lexeme, Named, Digits, Mark}
use Rattle.def_text.proofs.Sound.{is_read}
use Rattle.adj_parse_expression.specs.ConditionMachine.{Waiting, Opened, Denied, Anded, Ored, TestAlgebra, test_value, Fresh, First, Second, Made, TestState, beginning, deny, conjoin, disjoin, close_all, end_condition, end_operand, behind_condition, behind_left, begin_not, begin_item, compare_with, advance, alone, conclude, is_end, Ends, ended, read_test}
use Rattle.adj_parse_expression.proofs.Split.{above, closed, step-above}
use Rattle.adj_parse_expression.proofs.ConditionComplete.{IsWholeStart, whole_bottom, whole_in_group, IsConjunctionStart, conjunction_at_whole, conjunction_behind_or, IsItemStart, item_at_conjunction, item_behind_and, not_taken, stops-end}

-- the lexemes from the start up to the rest lead an expression to a state
data Run {X : Type 0} (alg : Algebra X) (start : List Lexeme) : State X → List Lexeme → Type 0 where
  begun : Run alg start (wanting []) start
  goes : {s t : State X} {w : Lexeme} {ws : List Lexeme} → Run alg start s (w ∷ ws) → step alg s w ≡ Some t → Run alg start t ws

-- no lexeme that follows goes on with an expression
abbrev Stays : {X : Type 0} → Algebra X → State X → List Lexeme → Type 0
Stays alg e [] = Unit {0}
Stays alg e (w ∷ ws) = step alg e w ≡ None

-- an expression with this operand stands from the start up to the rest
abbrev Stands : {X : Type 0} → Algebra X → List Lexeme → List Lexeme → X → Type 0
Stands alg start rest x = (s : Syntax) × Derives Sum start rest s × (x ≡ value alg s)

module _ {X : Type 0} (alg : Algebra X) where
  run_reads : {start rest : List Lexeme} {e : State X} → Run alg start e rest → read alg (wanting []) start ≡ read alg e rest
  unfolding read
  run_reads begun = refl
  run_reads (goes {s = s} {w = w} {ws = ws} r h) = run_reads r ∙ ap (λ o. chosen o (λ t. read alg t ws) (stopped w ws (finish alg s))) h

  stays_reads : (e : State X) (x : X) (rest : List Lexeme) → Stays alg e rest → Stops rest → finish alg e ≡ Some x → read alg e rest ≡ Some (x, rest)
  unfolding read
  stays_reads e x [] stays stop h = ap (λ o. option_map (λ x. (x, [])) o) h
  stays_reads e x (w ∷ ws) stays stop h =
      ap (λ o. chosen o (λ t. read alg t ws) (stopped w ws (finish alg e))) stays
      ∙ ap (λ b. cond b (option_map (λ x. (x, w ∷ ws)) (finish alg e)) None) stop
      ∙ ap (λ o. option_map (λ x. (x, w ∷ ws)) o) h

  -- an expression that goes no further is derived
  stands : {start rest : List Lexeme} {e : State X} (x : X) → Run alg start e rest → Stays alg e rest → Stops rest → finish alg e ≡ Some x → Stands alg start rest x
  stands {start = start} {rest = rest} {e = e} x r stays stop h =
      let P : Option (X × List Lexeme) → Type 0 = λ o. IfSome o (λ f. Stands alg start f.1 f.0) in
      subst P (run_reads r ∙ stays_reads e x rest stays stop h) (is_read alg start)

  -- the same lexemes behind a parenthesis
  run_above : {start rest : List Lexeme} {e : State X} → Run alg start e rest → Run alg (Mark Left ∷ start) (above 1 e) rest
  run_above begun = goes begun refl
  run_above (goes {s = s} {w = w} r h) = goes (run_above r) (step-above alg s w 1 ∙ ap (λ o. chosen o (λ t. Some (above 1 t)) (closed w (finish alg s) 1)) h)

  -- an expression in parentheses is an operand
  run_closed : {start ws : List Lexeme} {e : State X} (x : X) → Run alg start e (Mark Right ∷ ws) → step alg e (Mark Right) ≡ None → finish alg e ≡ Some x → Run alg (Mark Left ∷ start) (having [] x) ws
  run_closed {e = e} x r stays h = goes (run_above r) (step-above alg e (Mark Right) 1 ∙ ap (λ o. chosen o (λ t. Some (above 1 t)) (closed (Mark Right) (finish alg e) 1)) stays ∙ ap (λ o. closed (Mark Right) o 1) h)

-- the lexemes before the rest lead to these frames
data Open {X C : Type 0} (alg : TestAlgebra X C) (total : List Lexeme) : List (Waiting C) → List Lexeme → Type 0 where
  at_start : Open alg total [] total
  in_group : {frames : List (Waiting C)} {ts : List Lexeme} → Open alg total frames (Mark Left ∷ ts) → Open alg total (Opened ∷ frames) ts
  behind_not : {frames : List (Waiting C)} {ts : List Lexeme} → IsItemStart frames → Open alg total frames (Mark Not ∷ ts) → Open alg total (Denied ∷ frames) ts
  behind_and : {frames : List (Waiting C)} {us ts : List Lexeme} {c : Condition} {x : C} → IsConjunctionStart frames → Open alg total frames us → DerivesCondition Conjunction us (Mark And ∷ ts) c → x ≡ test_value alg c → Open alg total (Anded x ∷ frames) ts
  behind_or : {frames : List (Waiting C)} {us ts : List Lexeme} {c : Condition} {x : C} → IsWholeStart frames → Open alg total frames us → DerivesCondition Whole us (Mark Or ∷ ts) c → x ≡ test_value alg c → Open alg total (Ored x ∷ frames) ts

-- the lexemes up to the rest lead to these frames and a condition
record Has {X C : Type 0} (alg : TestAlgebra X C) (total : List Lexeme) (part : Part) (p : List (Waiting C) × C) (rest : List Lexeme) : Type 0 where
  lexemes : List Lexeme
  condition : Condition
  open_at : Open alg total p.0 lexemes
  reads : DerivesCondition part lexemes rest condition
  value_is : p.1 ≡ test_value alg condition

-- they lead to the right operand of a comparison
record Compares {X C : Type 0} (alg : TestAlgebra X C) (total : List Lexeme) (frames : List (Waiting C)) (r : Rel) (a : X) (e : State X) (rest : List Lexeme) : Type 0 where
  lexemes : List Lexeme
  start : List Lexeme
  kind : TokenKind
  syntax : Syntax
  open_at : Open alg total frames lexemes
  relates : Relates kind r
  reads : Derives Sum lexemes (Mark kind ∷ start) syntax
  value_is : a ≡ value alg.terms syntax
  runs : Run alg.terms start e rest

module _ {X C : Type 0} (alg : TestAlgebra X C) (total : List Lexeme) where
  abbrev HasItem : List (Waiting C) × C → List Lexeme → Type 0
  HasItem p rest = Has alg total Item p rest × IsItemStart p.0

  abbrev HasConjunction : List (Waiting C) × C → List Lexeme → Type 0
  HasConjunction p rest = Has alg total Conjunction p rest × IsConjunctionStart p.0

  abbrev HasWhole : List (Waiting C) × C → List Lexeme → Type 0
  HasWhole p rest = Has alg total Whole p rest × IsWholeStart p.0

  as_item : {p : List (Waiting C) × C} {rest : List Lexeme} → Has alg total Plain p rest → Has alg total Item p rest
  as_item h = record { lexemes = h.lexemes; condition = h.condition; open_at = h.open_at; reads = plain h.reads; value_is = h.value_is }

  as_conjunction : {p : List (Waiting C) × C} {rest : List Lexeme} → Has alg total Item p rest → Has alg total Conjunction p rest
  as_conjunction h = record { lexemes = h.lexemes; condition = h.condition; open_at = h.open_at; reads = item h.reads; value_is = h.value_is }

  as_whole : {p : List (Waiting C) × C} {rest : List Lexeme} → Has alg total Conjunction p rest → Has alg total Whole p rest
  as_whole h = record { lexemes = h.lexemes; condition = h.condition; open_at = h.open_at; reads = whole h.reads; value_is = h.value_is }

  -- a comparison or a condition in parentheses, with the `.NOT.` before it
  has_item : (frames : List (Waiting C)) (x : C) (rest : List Lexeme) → Has alg total Plain (frames, x) rest → HasItem (deny alg frames x) rest
  has_item [] x rest h = (as_item h, item_at_conjunction (conjunction_at_whole whole_bottom))
  has_item (Opened ∷ frames) x rest h = (as_item h, item_at_conjunction (conjunction_at_whole whole_in_group))
  has_item (Denied ∷ frames) x rest h =
      elim h.open_at [
        | behind_not start o ↦ (record { lexemes = Mark Not ∷ h.lexemes; condition = denied h.condition; open_at = o; reads = not h.reads; value_is = ap alg.denies h.value_is }, start)
      ]
  has_item (Anded a ∷ frames) x rest h = (as_item h, item_behind_and)
  has_item (Ored a ∷ frames) x rest h = (as_item h, item_at_conjunction conjunction_behind_or)

  has_conjunction : (frames : List (Waiting C)) (x : C) (rest : List Lexeme) → HasItem (frames, x) rest → HasConjunction (conjoin alg (frames, x)) rest
  has_conjunction [] x rest h = (as_conjunction h.0, conjunction_at_whole whole_bottom)
  has_conjunction (Opened ∷ frames) x rest h = (as_conjunction h.0, conjunction_at_whole whole_in_group)
  has_conjunction (Denied ∷ frames) x rest h = elim h.1 [ item_at_conjunction start ↦ elim start [ conjunction_at_whole w ↦ elim w [ ] ] ]
  has_conjunction (Anded a ∷ frames) x rest h =
      elim h.0.open_at [
        | behind_and {us = us} {c = c} start o r e ↦ (record { lexemes = us; condition = both c h.0.condition; open_at = o; reads = and r h.0.reads; value_is = ap (λ y. alg.conjoins y x) e ∙ ap (alg.conjoins (test_value alg c)) h.0.value_is }, start)
      ]
  has_conjunction (Ored a ∷ frames) x rest h = (as_conjunction h.0, conjunction_behind_or)

  disjoined : (frames : List (Waiting C)) (x : C) (rest : List Lexeme) → HasConjunction (frames, x) rest → HasWhole (disjoin alg (frames, x)) rest
  disjoined [] x rest h = (as_whole h.0, whole_bottom)
  disjoined (Opened ∷ frames) x rest h = (as_whole h.0, whole_in_group)
  disjoined (Denied ∷ frames) x rest h = elim h.1 [ conjunction_at_whole w ↦ elim w [ ] ]
  disjoined (Anded a ∷ frames) x rest h = elim h.1 [ conjunction_at_whole w ↦ elim w [ ] ]
  disjoined (Ored a ∷ frames) x rest h =
      elim h.0.open_at [
        | behind_or {us = us} {c = c} start o r e ↦ (record { lexemes = us; condition = either c h.0.condition; open_at = o; reads = or r h.0.reads; value_is = ap (λ y. alg.disjoins y x) e ∙ ap (alg.disjoins (test_value alg c)) h.0.value_is }, start)
      ]

  has_whole : (p : List (Waiting C) × C) (rest : List Lexeme) → HasItem p rest → HasWhole (close_all alg p) rest
  has_whole p rest h = let q = conjoin alg p in disjoined q.0 q.1 rest (has_conjunction p.0 p.1 rest h)

  -- what is known before each lexeme
  abbrev Holds : TestState X C → List Lexeme → Type 0
  Holds (frames, Fresh) rest = Open alg total frames rest
  Holds (frames, First e) rest = (start : List Lexeme) × Open alg total frames start × Run alg.terms start e rest
  Holds (frames, Second r a e) rest = Compares alg total frames r a e rest
  Holds (frames, Made c) rest = HasItem (frames, c) rest

  ends_condition : (p : List (Waiting C) × C) (rest : List Lexeme) → HasWhole p (Mark Right ∷ rest) → IfSome (end_condition alg p) (λ n. Holds n rest)
  ends_condition ([], x) rest h = tt
  ends_condition (Opened ∷ frames, x) rest h =
      elim h.0.open_at [
        | in_group {ts = ts} o ↦ has_item frames x rest record { lexemes = Mark Left ∷ ts; condition = h.0.condition; open_at = o; reads = group h.0.reads; value_is = h.0.value_is }
      ]
  ends_condition (Denied ∷ frames, x) rest h = tt
  ends_condition (Anded a ∷ frames, x) rest h = tt
  ends_condition (Ored a ∷ frames, x) rest h = tt

  goes_behind : (p : List (Waiting C) × C) (w : Lexeme) (rest : List Lexeme) → HasItem p (w ∷ rest) → IfSome (behind_condition alg p w) (λ n. Holds n rest)
  goes_behind p (Mark And) rest h = let c = has_conjunction p.0 p.1 (Mark And ∷ rest) h in behind_and c.1 c.0.open_at c.0.reads c.0.value_is
  goes_behind p (Mark Or) rest h = let c = has_whole p (Mark Or ∷ rest) h in behind_or c.1 c.0.open_at c.0.reads c.0.value_is
  goes_behind p (Mark Right) rest h = ends_condition (close_all alg p) rest (has_whole p (Mark Right ∷ rest) h)
  goes_behind p (Named text) rest h = tt
  goes_behind p (Digits digits) rest h = tt
  goes_behind p (Mark _) rest h = tt

  -- a comparison whose right operand goes no further
  compares : {frames : List (Waiting C)} {r : Rel} {a : X} {e : State X} {rest : List Lexeme} (b : X) → Compares alg total frames r a e rest → Stays alg.terms e rest → Stops rest → finish alg.terms e ≡ Some b → HasItem (compare_with alg frames r a b) rest
  compares {frames = frames} {r = r} {a = a} {rest = rest} b h stays stop f =
      let s = stands alg.terms b h.runs stays stop f in
      has_item frames (alg.relates r a b) rest record { lexemes = h.lexemes; condition = compared r h.syntax s.0; open_at = h.open_at; reads = comparison h.relates h.reads s.1; value_is = ap (λ y. alg.relates r y b) h.value_is ∙ ap (alg.relates r (value alg.terms h.syntax)) s.2 }

  ends_operand : {start : List Lexeme} {e : State X} (frames : List (Waiting C)) (x : X) (rest : List Lexeme) → Open alg total frames start → Run alg.terms start e (Mark Right ∷ rest) → step alg.terms e (Mark Right) ≡ None → finish alg.terms e ≡ Some x → IfSome (end_operand {C = C} frames x) (λ n. Holds n rest)
  ends_operand [] x rest o r stays f = tt
  ends_operand {start = start} (Opened ∷ frames) x rest o r stays f =
      elim o [
        | in_group before ↦ (Mark Left ∷ start, before, run_closed alg.terms x r stays f)
      ]
  ends_operand (Denied ∷ frames) x rest o r stays f = tt
  ends_operand (Anded a ∷ frames) x rest o r stays f = tt
  ends_operand (Ored a ∷ frames) x rest o r stays f = tt

  relates : {start : List Lexeme} {k : TokenKind} {r : Rel} (frames : List (Waiting C)) (x : X) (rest : List Lexeme) → Relates k r → Open alg total frames start → Stands alg.terms start (Mark k ∷ rest) x → Compares alg total frames r x (wanting []) rest
  relates {start = start} {k = k} frames x rest rel o s = record { lexemes = start; start = rest; kind = k; syntax = s.0; open_at = o; relates = rel; reads = s.1; value_is = s.2; runs = begun }

  goes_left : {start : List Lexeme} {e : State X} (frames : List (Waiting C)) (x : X) (w : Lexeme) (rest : List Lexeme) → Open alg total frames start → Run alg.terms start e (w ∷ rest) → step alg.terms e w ≡ None → finish alg.terms e ≡ Some x → IfSome (behind_left {C = C} frames w x) (λ n. Holds n rest)
  goes_left frames x (Mark Right) rest o r stays f = ends_operand frames x rest o r stays f
  goes_left frames x (Mark Lt) rest o r stays f = relates frames x rest less o (stands alg.terms x r stays refl f)
  goes_left frames x (Mark Le) rest o r stays f = relates frames x rest most o (stands alg.terms x r stays refl f)
  goes_left frames x (Mark Eq) rest o r stays f = relates frames x rest same o (stands alg.terms x r stays refl f)
  goes_left frames x (Mark Ne) rest o r stays f = relates frames x rest other o (stands alg.terms x r stays refl f)
  goes_left frames x (Mark Gt) rest o r stays f = relates frames x rest greater o (stands alg.terms x r stays refl f)
  goes_left frames x (Mark Ge) rest o r stays f = relates frames x rest least o (stands alg.terms x r stays refl f)
  goes_left frames x (Named text) rest o r stays f = tt
  goes_left frames x (Digits digits) rest o r stays f = tt
  goes_left frames x (Mark _) rest o r stays f = tt

  denies : (frames : List (Waiting C)) (rest : List Lexeme) → Open alg total frames (Mark Not ∷ rest) → IfSome (begin_not {X = X} frames) (λ n. Holds n rest)
  denies [] rest o = behind_not (item_at_conjunction (conjunction_at_whole whole_bottom)) o
  denies (Opened ∷ frames) rest o = behind_not (item_at_conjunction (conjunction_at_whole whole_in_group)) o
  denies (Denied ∷ frames) rest o = tt
  denies (Anded a ∷ frames) rest o = behind_not item_behind_and o
  denies (Ored a ∷ frames) rest o = behind_not (item_at_conjunction conjunction_behind_or) o

  begins_first : (frames : List (Waiting C)) (w : Lexeme) (rest : List Lexeme) → Open alg total frames (w ∷ rest) → (taken : Option (State X)) → step alg.terms (wanting []) w ≡ taken → IfSome (option_map (λ e. (frames, First e)) taken) (λ n. Holds n rest)
  begins_first frames w rest o None h = tt
  begins_first frames w rest o (Some t) h = (w ∷ rest, o, goes begun h)

  begins : (frames : List (Waiting C)) (w : Lexeme) (rest : List Lexeme) → Open alg total frames (w ∷ rest) → IfSome (begin_item alg frames w) (λ n. Holds n rest)
  begins frames (Mark Left) rest o = in_group o
  begins frames (Mark Not) rest o = denies frames rest o
  begins frames (Named text) rest o = begins_first frames (Named text) rest o (step alg.terms (wanting []) (Named text)) refl
  begins frames (Digits digits) rest o = begins_first frames (Digits digits) rest o (step alg.terms (wanting []) (Digits digits)) refl
  begins frames (Mark k) rest o = begins_first frames (Mark k) rest o (step alg.terms (wanting []) (Mark k)) refl

  goes_first : {start : List Lexeme} {e : State X} (frames : List (Waiting C)) (w : Lexeme) (rest : List Lexeme) → Open alg total frames start → Run alg.terms start e (w ∷ rest) → (taken : Option (State X)) (found : Option X) → step alg.terms e w ≡ taken → finish alg.terms e ≡ found → IfSome (chosen taken (λ t. Some (frames, First t)) (option_and_then (behind_left frames w) found)) (λ n. Holds n rest)
  goes_first {start = start} frames w rest o r (Some t) found h f = (start, o, goes r h)
  goes_first frames w rest o r None (Some x) h f = goes_left frames x w rest o r h f
  goes_first frames w rest o r None None h f = tt

  ends_second : {frames : List (Waiting C)} {r : Rel} {a : X} {e : State X} (b : X) (w : Lexeme) (rest : List Lexeme) → Compares alg total frames r a e (w ∷ rest) → step alg.terms e w ≡ None → finish alg.terms e ≡ Some b → IfSome (behind_condition alg (compare_with alg frames r a b) w) (λ n. Holds n rest)
  ends_second {frames = frames} {r = r} {a = a} b (Mark And) rest h stays f = goes_behind (compare_with alg frames r a b) (Mark And) rest (compares b h stays refl f)
  ends_second {frames = frames} {r = r} {a = a} b (Mark Or) rest h stays f = goes_behind (compare_with alg frames r a b) (Mark Or) rest (compares b h stays refl f)
  ends_second {frames = frames} {r = r} {a = a} b (Mark Right) rest h stays f = goes_behind (compare_with alg frames r a b) (Mark Right) rest (compares b h stays refl f)
  ends_second b (Named text) rest h stays f = tt
  ends_second b (Digits digits) rest h stays f = tt
  ends_second b (Mark _) rest h stays f = tt

  goes_second : {frames : List (Waiting C)} {r : Rel} {a : X} {e : State X} (w : Lexeme) (rest : List Lexeme) → Compares alg total frames r a e (w ∷ rest) → (taken : Option (State X)) (found : Option X) → step alg.terms e w ≡ taken → finish alg.terms e ≡ found → IfSome (chosen taken (λ t. Some (frames, Second r a t)) (option_and_then (λ b. behind_condition alg (compare_with alg frames r a b) w) found)) (λ n. Holds n rest)
  goes_second w rest h (Some t) found g f = record { lexemes = h.lexemes; start = h.start; kind = h.kind; syntax = h.syntax; open_at = h.open_at; relates = h.relates; reads = h.reads; value_is = h.value_is; runs = goes h.runs g }
  goes_second w rest h None (Some b) g f = ends_second b w rest h g f
  goes_second w rest h None None g f = tt

  advances : (s : TestState X C) (w : Lexeme) (rest : List Lexeme) → Holds s (w ∷ rest) → IfSome (advance alg s w) (λ n. Holds n rest)
  advances (frames, Fresh) w rest h = begins frames w rest h
  advances (frames, First e) w rest h = goes_first frames w rest h.1 h.2 (step alg.terms e w) (finish alg.terms e) refl refl
  advances (frames, Second r a e) w rest h = goes_second w rest h (step alg.terms e w) (finish alg.terms e) refl refl
  advances (frames, Made c) w rest h = goes_behind (frames, c) w rest h

  abbrev IsRead : C × List Lexeme → Type 0
  IsRead r = (c : Condition) × DerivesCondition Whole total r.1 c × (r.0 ≡ test_value alg c) × Ends r.1

  from_start : {lexemes rest : List Lexeme} {c : Condition} → Open alg total [] lexemes → DerivesCondition Whole lexemes rest c → DerivesCondition Whole total rest c
  from_start at_start r = r

  is_alone : (p : List (Waiting C) × C) (rest : List Lexeme) → HasWhole p rest → Ends rest → IfSome (option_map (λ c. (c, rest)) (alone p)) IsRead
  is_alone ([], x) rest h end = (h.0.condition, from_start h.0.open_at h.0.reads, h.0.value_is, end)
  is_alone (frame ∷ frames, x) rest h end = tt

  -- no lexeme that follows goes on with the condition
  abbrev StaysTest : TestState X C → List Lexeme → Type 0
  StaysTest s [] = Unit {0}
  StaysTest s (w ∷ ws) = advance alg s w ≡ None

  stays_second : (frames : List (Waiting C)) (r : Rel) (a : X) (e : State X) (rest : List Lexeme) → StaysTest (frames, Second r a e) rest → Stays alg.terms e rest
  stays_second frames r a e [] stays = tt
  stays_second frames r a e (w ∷ ws) stays = not_taken (step alg.terms e w) (λ t. (frames, Second r a t)) (option_and_then (λ b. behind_condition alg (compare_with alg frames r a b) w) (finish alg.terms e)) stays

  second_alone : {frames : List (Waiting C)} {r : Rel} {a : X} {e : State X} (rest : List Lexeme) → Compares alg total frames r a e rest → Stays alg.terms e rest → Ends rest → (found : Option X) → finish alg.terms e ≡ found → IfSome (option_map (λ c. (c, rest)) (option_and_then (λ b. alone (close_all alg (compare_with alg frames r a b))) found)) IsRead
  second_alone rest h stays end None f = tt
  second_alone {frames = frames} {r = r} {a = a} rest h stays end (Some b) f =
      let p = compare_with alg frames r a b in
      is_alone (close_all alg p) rest (has_whole p rest (compares b h stays (stops-end rest end) f)) end

  finishes : (s : TestState X C) (rest : List Lexeme) → Holds s rest → StaysTest s rest → Ends rest → IfSome (option_map (λ c. (c, rest)) (conclude alg s)) IsRead
  finishes (frames, Fresh) rest h stays end = tt
  finishes (frames, First e) rest h stays end = tt
  finishes (frames, Second r a e) rest h stays end = second_alone rest h (stays_second frames r a e rest stays) end (finish alg.terms e) refl
  finishes (frames, Made c) rest h stays end = is_alone (close_all alg (frames, c)) rest (has_whole (frames, c) rest h) end

  ends_here : (b : Bool) (found : Option (C × List Lexeme)) → (b ≡ true → IfSome found IsRead) → IfSome (cond b found None) IsRead
  ends_here true found h = h refl
  ends_here false found h = tt

  reads_on : (ts : List Lexeme) (s : TestState X C) → Holds s ts → IfSome (read_test alg s ts) IsRead
  unfolding read_test
  reads_on [] s h = finishes s [] h tt tt
  reads_on (w ∷ ws) s h =
      elim (advance alg s w) as (λ o. advance alg s w ≡ o → IfSome o (λ n. Holds n ws) → IfSome (chosen o (λ t. read_test alg t ws) (ended w ws (conclude alg s))) IsRead) [
        | None ↦ λ stays g. ends_here (is_end w) (option_map (λ c. (c, w ∷ ws)) (conclude alg s)) (finishes s (w ∷ ws) h stays)
        | Some n ↦ λ goes g. reads_on ws n g
      ] refl (advances s w ws h)

-- what is read is derived at the front, up to what ends a condition
pub is_read_test : {X C : Type 0} (alg : TestAlgebra X C) (ts : List Lexeme) → IfSome (read_test alg (beginning []) ts) (λ r. (c : Condition) × DerivesCondition Whole ts r.1 c × (r.0 ≡ test_value alg c) × Ends r.1)
is_read_test alg ts = reads_on alg ts ts (beginning []) at_start
