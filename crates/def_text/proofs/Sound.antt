-- Sound: what the machine reads at the front of some lexemes is derived there.
use Rattle.std.proofs.Common.{◌≡◌, ℕ, List, [], ◌∷◌, ◌++◌, length, Bool, true, false, cond, Option, Some, None, option_map, refl, sym, ap, subst, ◌∙◌}
use Rattle.std.specs.Prelude.{IfSome}
use Rattle.adj_tree.specs.Code.{Op}
use Rattle.def_text.specs.declared.token.TokenKind.{TokenKind}
use Rattle.def_text.specs.declared.token.TokenKind.TheVariants.{Power, Star, Slash, Plus, Minus, Left, Right, Comma}
use Rattle.def_text.specs.Grammar.{Syntax, number, variable, joined, raised, applied, Arguments, only, beside, takes, Symbol, Sum, Product, Factor, Primary, Adds, adds, subtracts, Multiplies, multiplies, divides, signed, Derives, literal, name, group, application, primary, power, factor, product, term, sign, sum, DerivesAll, single, another}
use Rattle.def_text.specs.Machine.{Frame, Group, Called, Signed, Added, Multiplied, Base, Algebra, value, values, with_sign, close_product, close_sum, Nothing, Callee, Operand, State, wanting, having, begin_sign, begin, end_group, next_argument, go_on, behind_name, step, whole, finish, is_stop, chosen, stopped, read}
use Rattle.def_text.specs.Lexeme.{Lexeme, Named, Digits, Mark}
use Rattle.def_text.proofs.Complete.{IsProductStart, product_bottom, product_in_group, product_in_call, product_behind_sign, product_behind_sum, IsSumStart, sum_bottom, sum_in_group, sum_in_call, close_product-start, close_sum-start, close_sum-close_product, length-values}

-- the arguments before: none, or some and a comma
data Arrived {X : Type 0} (alg : Algebra X) : List Lexeme → List X → List Lexeme → Type 0 where
  nothing_yet : {ts : List Lexeme} → Arrived alg ts [] ts
  some_yet : {ts us : List Lexeme} {front : Arguments} {all : List X} → DerivesAll ts (Mark Comma ∷ us) front → all ≡ values alg front → Arrived alg ts all us

-- the lexemes before the rest lead to these frames
data Open {X : Type 0} (alg : Algebra X) (total : List Lexeme) : List (Frame X) → List Lexeme → Type 0 where
  at_start : Open alg total [] total
  in_group : {frames : List (Frame X)} {ts : List Lexeme} → Open alg total frames (Mark Left ∷ ts) → Open alg total (Group ∷ frames) ts
  in_call : {frames : List (Frame X)} {ts us : List Lexeme} {text : List ℕ} {all : List X} → Open alg total frames (Named text ∷ Mark Left ∷ ts) → Arrived alg ts all us → Open alg total (Called text all ∷ frames) us
  behind_sign : {frames : List (Frame X)} {ts : List Lexeme} {k : TokenKind} {op : Op} → IsSumStart frames → Adds k op → Open alg total frames (Mark k ∷ ts) → Open alg total (Signed op ∷ frames) ts
  behind_sum : {frames : List (Frame X)} {us ts : List Lexeme} {k : TokenKind} {op : Op} {a : Syntax} {x : X} → IsSumStart frames → Adds k op → Open alg total frames us → Derives Sum us (Mark k ∷ ts) a → x ≡ value alg a → Open alg total (Added op x ∷ frames) ts
  behind_product : {frames : List (Frame X)} {us ts : List Lexeme} {k : TokenKind} {op : Op} {a : Syntax} {x : X} → IsProductStart frames → Multiplies k op → Open alg total frames us → Derives Product us (Mark k ∷ ts) a → x ≡ value alg a → Open alg total (Multiplied op x ∷ frames) ts
  behind_base : {frames : List (Frame X)} {us ts : List Lexeme} {a : Syntax} {x : X} → Open alg total frames us → Derives Primary us (Mark Power ∷ ts) a → x ≡ value alg a → Open alg total (Base x ∷ frames) ts

-- the lexemes up to the rest lead to these frames and an operand
record Has {X : Type 0} (alg : Algebra X) (total : List Lexeme) (symbol : Symbol) (frames : List (Frame X)) (x : X) (rest : List Lexeme) : Type 0 where
  lexemes : List Lexeme
  syntax : Syntax
  open_at : Open alg total frames lexemes
  reads : Derives symbol lexemes rest syntax
  value_is : x ≡ value alg syntax

module _ {X : Type 0} (alg : Algebra X) (total : List Lexeme) where
  abbrev HasProduct : List (Frame X) × X → List Lexeme → Type 0
  HasProduct c rest = Has alg total Product c.0 c.1 rest × IsProductStart c.0

  abbrev HasSum : List (Frame X) × X → List Lexeme → Type 0
  HasSum c rest = Has alg total Sum c.0 c.1 rest × IsSumStart c.0

  as_product : {frames : List (Frame X)} {x : X} {rest : List Lexeme} → Has alg total Factor frames x rest → Has alg total Product frames x rest
  as_product h = record { lexemes = h.lexemes; syntax = h.syntax; open_at = h.open_at; reads = factor h.reads; value_is = h.value_is }

  as_sum : {frames : List (Frame X)} {x : X} {rest : List Lexeme} → Has alg total Product frames x rest → Has alg total Sum frames x rest
  as_sum h = record { lexemes = h.lexemes; syntax = h.syntax; open_at = h.open_at; reads = term h.reads; value_is = h.value_is }

  closed_factor : (frames : List (Frame X)) (x : X) (rest : List Lexeme) → Has alg total Factor frames x rest → HasProduct (close_product alg frames x) rest
  closed_factor [] x rest h = (as_product h, product_bottom)
  closed_factor (Group ∷ frames) x rest h = (as_product h, product_in_group)
  closed_factor (Called text all ∷ frames) x rest h = (as_product h, product_in_call)
  closed_factor (Signed op ∷ frames) x rest h = (as_product h, product_behind_sign)
  closed_factor (Added op a ∷ frames) x rest h = (as_product h, product_behind_sum)
  closed_factor (Multiplied op a ∷ frames) x rest h =
      elim h.open_at [
        | behind_product {us = us} {a = s} start m o r e ↦
            let v : Has alg total Product frames (alg.combined op a x) rest = record { lexemes = us; syntax = joined op s h.syntax; open_at = o; reads = product m r h.reads; value_is = ap (λ y. alg.combined op y x) e ∙ ap (alg.combined op (value alg s)) h.value_is } in
            subst (λ (c : List (Frame X) × X). HasProduct c rest) (sym (close_product-start alg (alg.combined op a x) start)) (v, start)
      ]
  closed_factor (Base a ∷ frames) x rest h =
      elim h.open_at [
        | behind_base {us = us} {a = s} o r e ↦
            closed_factor frames (alg.powered a x) rest record { lexemes = us; syntax = raised s h.syntax; open_at = o; reads = power r h.reads; value_is = ap (λ y. alg.powered y x) e ∙ ap (alg.powered (value alg s)) h.value_is }
      ]

  closed_product : (frames : List (Frame X)) (x : X) (rest : List Lexeme) → Has alg total Primary frames x rest → HasProduct (close_product alg frames x) rest
  closed_product frames x rest h = closed_factor frames x rest record { lexemes = h.lexemes; syntax = h.syntax; open_at = h.open_at; reads = primary h.reads; value_is = h.value_is }

  signed_is : {op : Op} {k : TokenKind} → Adds k op → (x : X) (s : Syntax) → x ≡ value alg s → with_sign alg op x ≡ value alg (signed op s)
  signed_is adds x s e = e
  signed_is subtracts x s e = ap alg.opposite e

  opened_sum : (frames : List (Frame X)) (x : X) (rest : List Lexeme) → Has alg total Product frames x rest → IsProductStart frames → HasSum (close_sum alg frames x) rest
  opened_sum [] x rest h start = (as_sum h, sum_bottom)
  opened_sum (Group ∷ frames) x rest h start = (as_sum h, sum_in_group)
  opened_sum (Called text all ∷ frames) x rest h start = (as_sum h, sum_in_call)
  opened_sum (Signed op ∷ frames) x rest h start =
      elim h.open_at [
        | behind_sign {k = k} start a o ↦
            let v : Has alg total Sum frames (with_sign alg op x) rest = record { lexemes = Mark k ∷ h.lexemes; syntax = signed op h.syntax; open_at = o; reads = sign a h.reads; value_is = signed_is a x h.syntax h.value_is } in
            subst (λ (c : List (Frame X) × X). HasSum c rest) (sym (close_sum-start alg (with_sign alg op x) start)) (v, start)
      ]
  opened_sum (Added op a ∷ frames) x rest h start =
      elim h.open_at [
        | behind_sum {us = us} {a = s} start m o r e ↦
            let v : Has alg total Sum frames (alg.combined op a x) rest = record { lexemes = us; syntax = joined op s h.syntax; open_at = o; reads = sum m r h.reads; value_is = ap (λ y. alg.combined op y x) e ∙ ap (alg.combined op (value alg s)) h.value_is } in
            subst (λ (c : List (Frame X) × X). HasSum c rest) (sym (close_sum-start alg (alg.combined op a x) start)) (v, start)
      ]
  opened_sum (Multiplied op a ∷ frames) x rest h start = elim start [ ]
  opened_sum (Base a ∷ frames) x rest h start = elim start [ ]

  closed_sum : (frames : List (Frame X)) (x : X) (rest : List Lexeme) → Has alg total Primary frames x rest → HasSum (close_sum alg frames x) rest
  closed_sum frames x rest h =
      let t = closed_product frames x rest h in
      let c = close_product alg frames x in
      subst (λ (c : List (Frame X) × X). HasSum c rest) (close_sum-close_product alg frames x) (opened_sum c.0 c.1 rest t.0 t.1)

  -- what is known before each lexeme
  abbrev Holds : State X → List Lexeme → Type 0
  Holds (frames, Nothing) rest = Open alg total frames rest
  Holds (frames, Callee text) rest = Open alg total frames (Named text ∷ rest)
  Holds (frames, Operand x) rest = Has alg total Primary frames x rest

  signs : {k : TokenKind} {op : Op} → Adds k op → (frames : List (Frame X)) (rest : List Lexeme) → Open alg total frames (Mark k ∷ rest) → IfSome (begin_sign op frames) (λ n. Holds n rest)
  signs a [] rest o = behind_sign sum_bottom a o
  signs a (Group ∷ frames) rest o = behind_sign sum_in_group a o
  signs a (Called text all ∷ frames) rest o = behind_sign sum_in_call a o
  signs a (Signed p ∷ frames) rest o = tt
  signs a (Added p x ∷ frames) rest o = tt
  signs a (Multiplied p x ∷ frames) rest o = tt
  signs a (Base x ∷ frames) rest o = tt

  begins : (frames : List (Frame X)) (w : Lexeme) (rest : List Lexeme) → Open alg total frames (w ∷ rest) → IfSome (begin alg frames w) (λ n. Holds n rest)
  begins frames (Named text) rest o = o
  begins frames (Digits digits) rest o = record { lexemes = Digits digits ∷ rest; syntax = number digits; open_at = o; reads = literal; value_is = refl }
  begins frames (Mark Left) rest o = in_group o
  begins frames (Mark Plus) rest o = signs adds frames rest o
  begins frames (Mark Minus) rest o = signs subtracts frames rest o
  begins frames (Mark _) rest o = tt

  -- the arguments, with the last single
  arrived : {ts us : List Lexeme} {all : List X} → Arrived alg ts all us → (rest : List Lexeme) (s : Syntax) (x : X) → Derives Sum us rest s → x ≡ value alg s → (front : Arguments) × DerivesAll ts rest front × (all ++ x ∷ [] ≡ values alg front)
  arrived nothing_yet rest s x r e = (only s, single r, ap (λ y. y ∷ []) e)
  arrived (some_yet {front = front} q g) rest s x r e = (beside front s, another q r, rw (g, e) refl)

  picked : {A : Type 0} (b : Bool) (y : A) (P : A → Type 0) → (b ≡ true → P y) → IfSome (cond b (Some y) None) P
  picked true y P h = h refl
  picked false y P h = tt

  ends_group : (c : List (Frame X) × X) (rest : List Lexeme) → HasSum c (Mark Right ∷ rest) → IfSome (end_group alg c) (λ n. Holds n rest)
  ends_group ([], x) rest h = tt
  ends_group (Group ∷ frames, x) rest h =
      elim h.0.open_at [
        | in_group {ts = ts} o ↦ record { lexemes = Mark Left ∷ ts; syntax = h.0.syntax; open_at = o; reads = group h.0.reads; value_is = h.0.value_is }
      ]
  ends_group (Called text all ∷ frames, x) rest h =
      elim h.0.open_at [
        | in_call {ts = ts} o a ↦
            let b = arrived a (Mark Right ∷ rest) h.0.syntax x h.0.reads h.0.value_is in
            picked (takes text (length (all ++ x ∷ []))) (having frames (alg.application text (all ++ x ∷ []))) (λ n. Holds n rest) (λ fits.
            record { lexemes = Named text ∷ Mark Left ∷ ts; syntax = applied text b.0; open_at = o; reads = application b.1 (ap (takes text) (sym (ap length b.2 ∙ length-values alg b.0)) ∙ fits); value_is = ap (alg.application text) b.2 })
      ]
  ends_group (Signed op ∷ frames, x) rest h = tt
  ends_group (Added op a ∷ frames, x) rest h = tt
  ends_group (Multiplied op a ∷ frames, x) rest h = tt
  ends_group (Base a ∷ frames, x) rest h = tt

  next_arrives : (c : List (Frame X) × X) (rest : List Lexeme) → HasSum c (Mark Comma ∷ rest) → IfSome (next_argument c) (λ n. Holds n rest)
  next_arrives (Called text all ∷ frames, x) rest h =
      elim h.0.open_at [
        | in_call {ts = ts} o a ↦
            let b = arrived a (Mark Comma ∷ rest) h.0.syntax x h.0.reads h.0.value_is in
            in_call o (some_yet b.1 b.2)
      ]
  next_arrives ([], x) rest h = tt
  next_arrives (Group ∷ frames, x) rest h = tt
  next_arrives (Signed op ∷ frames, x) rest h = tt
  next_arrives (Added op a ∷ frames, x) rest h = tt
  next_arrives (Multiplied op a ∷ frames, x) rest h = tt
  next_arrives (Base a ∷ frames, x) rest h = tt

  goes_on : (frames : List (Frame X)) (x : X) (w : Lexeme) (rest : List Lexeme) → Has alg total Primary frames x (w ∷ rest) → IfSome (go_on alg frames x w) (λ n. Holds n rest)
  goes_on frames x (Mark Plus) rest h = let c = closed_sum frames x (Mark Plus ∷ rest) h in behind_sum c.1 adds c.0.open_at c.0.reads c.0.value_is
  goes_on frames x (Mark Minus) rest h = let c = closed_sum frames x (Mark Minus ∷ rest) h in behind_sum c.1 subtracts c.0.open_at c.0.reads c.0.value_is
  goes_on frames x (Mark Star) rest h = let c = closed_product frames x (Mark Star ∷ rest) h in behind_product c.1 multiplies c.0.open_at c.0.reads c.0.value_is
  goes_on frames x (Mark Slash) rest h = let c = closed_product frames x (Mark Slash ∷ rest) h in behind_product c.1 divides c.0.open_at c.0.reads c.0.value_is
  goes_on frames x (Mark Power) rest h = behind_base h.open_at h.reads h.value_is
  goes_on frames x (Mark Right) rest h = ends_group (close_sum alg frames x) rest (closed_sum frames x (Mark Right ∷ rest) h)
  goes_on frames x (Mark Comma) rest h = next_arrives (close_sum alg frames x) rest (closed_sum frames x (Mark Comma ∷ rest) h)
  goes_on frames x (Mark Left) rest h = tt
  goes_on frames x (Named text) rest h = tt
  goes_on frames x (Digits digits) rest h = tt
  goes_on frames x (Mark _) rest h = tt

  variable_has : (frames : List (Frame X)) (text : List ℕ) (rest : List Lexeme) → Open alg total frames (Named text ∷ rest) → Has alg total Primary frames (alg.name text) rest
  variable_has frames text rest o = record { lexemes = Named text ∷ rest; syntax = variable text; open_at = o; reads = name; value_is = refl }

  behind_names : (frames : List (Frame X)) (text : List ℕ) (w : Lexeme) (rest : List Lexeme) → Open alg total frames (Named text ∷ w ∷ rest) → IfSome (behind_name alg frames text w) (λ n. Holds n rest)
  behind_names frames text (Mark Left) rest o = in_call o nothing_yet
  behind_names frames text (Mark Power) rest o = goes_on frames (alg.name text) (Mark Power) rest (variable_has frames text (Mark Power ∷ rest) o)
  behind_names frames text (Mark Star) rest o = goes_on frames (alg.name text) (Mark Star) rest (variable_has frames text (Mark Star ∷ rest) o)
  behind_names frames text (Mark Slash) rest o = goes_on frames (alg.name text) (Mark Slash) rest (variable_has frames text (Mark Slash ∷ rest) o)
  behind_names frames text (Mark Plus) rest o = goes_on frames (alg.name text) (Mark Plus) rest (variable_has frames text (Mark Plus ∷ rest) o)
  behind_names frames text (Mark Minus) rest o = goes_on frames (alg.name text) (Mark Minus) rest (variable_has frames text (Mark Minus ∷ rest) o)
  behind_names frames text (Mark Right) rest o = goes_on frames (alg.name text) (Mark Right) rest (variable_has frames text (Mark Right ∷ rest) o)
  behind_names frames text (Mark Comma) rest o = goes_on frames (alg.name text) (Mark Comma) rest (variable_has frames text (Mark Comma ∷ rest) o)
  behind_names frames text (Named other) rest o = tt
  behind_names frames text (Digits digits) rest o = tt
  behind_names frames text (Mark _) rest o = tt

  steps : (s : State X) (w : Lexeme) (rest : List Lexeme) → Holds s (w ∷ rest) → IfSome (step alg s w) (λ n. Holds n rest)
  steps (frames, Nothing) w rest h = begins frames w rest h
  steps (frames, Callee text) w rest h = behind_names frames text w rest h
  steps (frames, Operand x) w rest h = goes_on frames x w rest h

  abbrev IsRead : X × List Lexeme → Type 0
  IsRead r = (s : Syntax) × Derives Sum total r.1 s × (r.0 ≡ value alg s)

  from_start : (lexemes rest : List Lexeme) (s : Syntax) → Open alg total [] lexemes → Derives Sum lexemes rest s → Derives Sum total rest s
  from_start lexemes rest s at_start r = r

  is_whole : (c : List (Frame X) × X) (rest : List Lexeme) → HasSum c rest → IfSome (option_map (λ x. (x, rest)) (whole c)) IsRead
  is_whole ([], x) rest h = (h.0.syntax, from_start h.0.lexemes rest h.0.syntax h.0.open_at h.0.reads, h.0.value_is)
  is_whole (frame ∷ frames, x) rest h = tt

  finishes : (s : State X) (rest : List Lexeme) → Holds s rest → IfSome (option_map (λ x. (x, rest)) (finish alg s)) IsRead
  finishes (frames, Nothing) rest h = tt
  finishes (frames, Callee text) rest h = is_whole (close_sum alg frames (alg.name text)) rest (closed_sum frames (alg.name text) rest (variable_has frames text rest h))
  finishes (frames, Operand x) rest h = is_whole (close_sum alg frames x) rest (closed_sum frames x rest h)

  stops : (b : Bool) (found : Option (X × List Lexeme)) → IfSome found IsRead → IfSome (cond b found None) IsRead
  stops true found h = h
  stops false found h = tt

  runs : (ts : List Lexeme) (s : State X) → Holds s ts → IfSome (read alg s ts) IsRead
  unfolding read
  runs [] s h = finishes s [] h
  runs (w ∷ ws) s h =
      elim (step alg s w) as (λ o. IfSome o (λ n. Holds n ws) → IfSome (chosen o (λ t. read alg t ws) (stopped w ws (finish alg s))) IsRead) [
        | None ↦ λ g. stops (is_stop w) (option_map (λ x. (x, w ∷ ws)) (finish alg s)) (finishes s (w ∷ ws) h)
        | Some n ↦ λ g. runs ws n g
      ] (steps s w ws h)

-- what is read is derived at the front
pub is_read : {X : Type 0} (alg : Algebra X) (ts : List Lexeme) → IfSome (read alg (wanting []) ts) (λ r. (s : Syntax) × Derives Sum ts r.1 s × (r.0 ≡ value alg s))
is_read alg ts = runs alg ts ts (wanting []) at_start
