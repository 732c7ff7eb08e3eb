-- Complete: what the grammar derives at the front of some lexemes is what the machine reads there.
use Rattle.std.proofs.Common.{◌≡◌, ℕ, ◌+◌, List, [], ◌∷◌, ◌++◌, length, true, Some, None, option_map, refl, sym, ap, ◌∙◌}
use Rattle.std.proofs.lemmas.List.{length_push}
use Rattle.adj_tree.specs.Code.{Op, plus, minus, times, quot}
use Rattle.def_text.specs.declared.token.TokenKind.TheVariants.{Power, Star, Slash, Plus, Minus, Left, Right, Comma}
use Rattle.def_text.specs.Grammar.{Syntax, Arguments, only, beside, count_of, takes, Symbol, Sum, Product, Factor, Primary, adds, subtracts, multiplies, divides, Derives, literal, name, group, application, primary, power, factor, product, term, sign, sum, DerivesAll, single, another}
use Rattle.def_text.specs.Machine.{Frame, Group, Called, Signed, Added, Multiplied, Base, Algebra, value, values, close_factor, close_product, close_sum, Callee, State, wanting, having, begin_sign, end_group, next_argument, add, multiply, whole, Stops, chosen, stopped, read}
use Rattle.def_text.specs.Lexeme.{Lexeme, Named, Digits, Mark}

-- no product and no power waits on top
pub data IsProductStart {X : Type 0} : List (Frame X) → Type 0 where
  product_bottom : IsProductStart []
  product_in_group : {frames : List (Frame X)} → IsProductStart (Group ∷ frames)
  product_in_call : {text : List ℕ} {all : List X} {frames : List (Frame X)} → IsProductStart (Called text all ∷ frames)
  product_behind_sign : {op : Op} {frames : List (Frame X)} → IsProductStart (Signed op ∷ frames)
  product_behind_sum : {op : Op} {a : X} {frames : List (Frame X)} → IsProductStart (Added op a ∷ frames)

-- nothing of this sum waits on top
pub data IsSumStart {X : Type 0} : List (Frame X) → Type 0 where
  sum_bottom : IsSumStart []
  sum_in_group : {frames : List (Frame X)} → IsSumStart (Group ∷ frames)
  sum_in_call : {text : List ℕ} {all : List X} {frames : List (Frame X)} → IsSumStart (Called text all ∷ frames)

pub IsProductStart-from_sum : {X : Type 0} {frames : List (Frame X)} → IsSumStart frames → IsProductStart frames
IsProductStart-from_sum sum_bottom = product_bottom
IsProductStart-from_sum sum_in_group = product_in_group
IsProductStart-from_sum sum_in_call = product_in_call

pub close_product-start : {X : Type 0} (alg : Algebra X) {frames : List (Frame X)} (x : X) → IsProductStart frames → close_product alg frames x ≡ (frames, x)
close_product-start alg x product_bottom = refl
close_product-start alg x product_in_group = refl
close_product-start alg x product_in_call = refl
close_product-start alg x product_behind_sign = refl
close_product-start alg x product_behind_sum = refl

pub close_sum-start : {X : Type 0} (alg : Algebra X) {frames : List (Frame X)} (x : X) → IsSumStart frames → close_sum alg frames x ≡ (frames, x)
close_sum-start alg x sum_bottom = refl
close_sum-start alg x sum_in_group = refl
close_sum-start alg x sum_in_call = refl

pub begin_sign-start : {X : Type 0} (op : Op) {frames : List (Frame X)} → IsSumStart frames → begin_sign op frames ≡ Some (wanting (Signed op ∷ frames))
begin_sign-start op sum_bottom = refl
begin_sign-start op sum_in_group = refl
begin_sign-start op sum_in_call = refl

-- products are made after powers, and sums after products
pub close_product-close_factor : {X : Type 0} (alg : Algebra X) (frames : List (Frame X)) (x : X) → close_product alg (close_factor alg frames x).0 (close_factor alg frames x).1 ≡ close_product alg frames x
close_product-close_factor alg (Base a ∷ frames) x = close_product-close_factor alg frames (alg.powered a x)
close_product-close_factor alg _ x = refl

pub close_sum-close_product : {X : Type 0} (alg : Algebra X) (frames : List (Frame X)) (x : X) → close_sum alg (close_product alg frames x).0 (close_product alg frames x).1 ≡ close_sum alg frames x
close_sum-close_product alg (Base a ∷ frames) x = close_sum-close_product alg frames (alg.powered a x)
close_sum-close_product alg (Multiplied op a ∷ frames) x = close_sum-close_product alg frames (alg.combined op a x)
close_sum-close_product alg _ x = refl

-- what single state and its lexemes answer, another single and its lexemes do
abbrev To : {X : Type 0} → Algebra X → State X → List Lexeme → State X → List Lexeme → Type 0
To {X} alg s ts t us = (x : X × List Lexeme) → read alg t us ≡ Some x → read alg s ts ≡ Some x

-- the states and lexemes after the lexemes of a symbol
abbrev Leads : {X : Type 0} → Algebra X → Symbol → List Lexeme → List Lexeme → Syntax → Type 0
Leads {X} alg Primary ts rest s = (frames : List (Frame X)) → To alg (wanting frames) ts (having frames (value alg s)) rest
Leads {X} alg Factor ts rest s = (frames : List (Frame X)) → (inner : List (Frame X)) × (x : X) × To alg (wanting frames) ts (having inner x) rest × (close_factor alg inner x ≡ close_factor alg frames (value alg s))
Leads {X} alg Product ts rest s = (frames : List (Frame X)) → IsProductStart frames → (inner : List (Frame X)) × (x : X) × To alg (wanting frames) ts (having inner x) rest × (close_product alg inner x ≡ (frames, value alg s))
Leads {X} alg Sum ts rest s = (frames : List (Frame X)) → IsSumStart frames → (inner : List (Frame X)) × (x : X) × To alg (wanting frames) ts (having inner x) rest × (close_sum alg inner x ≡ (frames, value alg s))

abbrev LeadsAll : {X : Type 0} → Algebra X → List Lexeme → List Lexeme → Arguments → Type 0
LeadsAll {X} alg ts rest all = (text : List ℕ) (frames : List (Frame X)) → (inner : List (Frame X)) × (x : X) × (front : List X) × (last : X) × To alg (wanting (Called text [] ∷ frames)) ts (having inner x) rest × (close_sum alg inner x ≡ (Called text front ∷ frames, last)) × (front ++ last ∷ [] ≡ values alg all)

sum_closed : {X : Type 0} (alg : Algebra X) (inner frames : List (Frame X)) (x y : X) → close_product alg inner x ≡ (frames, y) → close_sum alg inner x ≡ close_sum alg frames y
sum_closed alg inner frames x y h = sym (close_sum-close_product alg inner x) ∙ ap (λ c. close_sum alg c.0 c.1) h

product_closed : {X : Type 0} (alg : Algebra X) (inner frames : List (Frame X)) (x y : X) → close_factor alg inner x ≡ close_factor alg frames y → close_product alg inner x ≡ close_product alg frames y
product_closed alg inner frames x y h = sym (close_product-close_factor alg inner x) ∙ ap (λ c. close_product alg c.0 c.1) h ∙ close_product-close_factor alg frames y

none_some : {A : Type 0} (x : A) → None ≡ Some x → ⊥
none_some x h = cc

-- a name that nothing opens behind is a variable
as_variable : {X : Type 0} (alg : Algebra X) (text : List ℕ) (frames : List (Frame X)) (rest : List Lexeme) → To alg (frames, Callee text) rest (having frames (alg.name text)) rest
unfolding read
as_variable alg text frames [] x h = h
as_variable alg text frames (Mark Left ∷ ws) x h = absurd (none_some x h)
as_variable alg text frames (Named other ∷ ws) x h = h
as_variable alg text frames (Digits digits ∷ ws) x h = h
as_variable alg text frames (Mark _ ∷ ws) x h = h

pub length-values : {X : Type 0} (alg : Algebra X) (all : Arguments) → length (values alg all) ≡ count_of all
length-values alg (only s) = refl
length-values alg (beside front s) = length_push (values alg front) (value alg s) ∙ ap (λ n. n + 1) (length-values alg front)

mutual
  unfolding read

  leads : {X : Type 0} (alg : Algebra X) {symbol : Symbol} {ts rest : List Lexeme} {s : Syntax} → Derives symbol ts rest s → Leads alg symbol ts rest s
  leads alg literal = λ frames x h. h
  leads alg (name {x = text} {rest = rest}) = λ frames. as_variable alg text frames rest
  leads alg (group {rest = rest} r) = λ frames x e.
      let h = leads alg r (Group ∷ frames) sum_in_group in
      h.2 x (ap (λ c. chosen (end_group alg c) (λ t. read alg t rest) (stopped (Mark Right) rest (whole c))) h.3 ∙ e)
  leads alg (application {x = text} {rest = rest} {all = all} r n) = λ frames x e.
      let h = leads_all alg r text frames in
      let count : takes text (length (h.2 ++ h.3 ∷ [])) ≡ true = ap (λ l. takes text (length l)) h.6 ∙ ap (takes text) (length-values alg all) ∙ n in
      h.4 x (ap (λ c. chosen (end_group alg c) (λ t. read alg t rest) (stopped (Mark Right) rest (whole c))) h.5 ∙ rw (count, h.6) e)
  leads alg (primary {s = s} r) = λ frames. (frames, value alg s, leads alg r frames, refl)
  leads alg (power {us = us} {a = a} r q) = λ frames.
      let g = leads alg q (Base (value alg a) ∷ frames) in
      (g.0, g.1, (λ x e. leads alg r frames x (g.2 x e)), g.3)
  leads alg (factor {s = s} r) = λ frames start.
      let h = leads alg r frames in
      (h.0, h.1, h.2, product_closed alg h.0 frames h.1 (value alg s) h.3 ∙ close_product-start alg (value alg s) start)
  leads alg (product {us = us} {a = a} {b = b} multiplies r q) = λ frames start.
      let h = leads alg r frames start in
      let g = leads alg q (Multiplied times (value alg a) ∷ frames) in
      (g.0, g.1, (λ x e. h.2 x (ap (λ c. read alg (multiply times c) us) h.3 ∙ g.2 x e)), product_closed alg g.0 (Multiplied times (value alg a) ∷ frames) g.1 (value alg b) g.3 ∙ close_product-start alg (alg.combined times (value alg a) (value alg b)) start)
  leads alg (product {us = us} {a = a} {b = b} divides r q) = λ frames start.
      let h = leads alg r frames start in
      let g = leads alg q (Multiplied quot (value alg a) ∷ frames) in
      (g.0, g.1, (λ x e. h.2 x (ap (λ c. read alg (multiply quot c) us) h.3 ∙ g.2 x e)), product_closed alg g.0 (Multiplied quot (value alg a) ∷ frames) g.1 (value alg b) g.3 ∙ close_product-start alg (alg.combined quot (value alg a) (value alg b)) start)
  leads alg (term {s = s} r) = λ frames start.
      let h = leads alg r frames (IsProductStart-from_sum start) in
      (h.0, h.1, h.2, sum_closed alg h.0 frames h.1 (value alg s) h.3 ∙ close_sum-start alg (value alg s) start)
  leads alg (sign {ts = ts} {s = s} adds r) = λ frames start.
      let h = leads alg r (Signed plus ∷ frames) product_behind_sign in
      (h.0, h.1, (λ x e. ap (λ o. chosen o (λ t. read alg t ts) None) (begin_sign-start plus start) ∙ h.2 x e), sum_closed alg h.0 (Signed plus ∷ frames) h.1 (value alg s) h.3 ∙ close_sum-start alg (value alg s) start)
  leads alg (sign {ts = ts} {s = s} subtracts r) = λ frames start.
      let h = leads alg r (Signed minus ∷ frames) product_behind_sign in
      (h.0, h.1, (λ x e. ap (λ o. chosen o (λ t. read alg t ts) None) (begin_sign-start minus start) ∙ h.2 x e), sum_closed alg h.0 (Signed minus ∷ frames) h.1 (value alg s) h.3 ∙ close_sum-start alg (alg.opposite (value alg s)) start)
  leads alg (sum {us = us} {a = a} {b = b} adds r q) = λ frames start.
      let h = leads alg r frames start in
      let g = leads alg q (Added plus (value alg a) ∷ frames) product_behind_sum in
      (g.0, g.1, (λ x e. h.2 x (ap (λ c. read alg (add plus c) us) h.3 ∙ g.2 x e)), sum_closed alg g.0 (Added plus (value alg a) ∷ frames) g.1 (value alg b) g.3 ∙ close_sum-start alg (alg.combined plus (value alg a) (value alg b)) start)
  leads alg (sum {us = us} {a = a} {b = b} subtracts r q) = λ frames start.
      let h = leads alg r frames start in
      let g = leads alg q (Added minus (value alg a) ∷ frames) product_behind_sum in
      (g.0, g.1, (λ x e. h.2 x (ap (λ c. read alg (add minus c) us) h.3 ∙ g.2 x e)), sum_closed alg g.0 (Added minus (value alg a) ∷ frames) g.1 (value alg b) g.3 ∙ close_sum-start alg (alg.combined minus (value alg a) (value alg b)) start)

  leads_all : {X : Type 0} (alg : Algebra X) {ts rest : List Lexeme} {all : Arguments} → DerivesAll ts rest all → LeadsAll alg ts rest all
  leads_all alg (single {s = s} r) = λ text frames.
      let h = leads alg r (Called text [] ∷ frames) sum_in_call in
      (h.0, h.1, [], value alg s, h.2, h.3, refl)
  leads_all alg (another {us = us} {front = front} {s = s} r q) = λ text frames.
      let h = leads_all alg r text frames in
      let g = leads alg q (Called text (h.2 ++ h.3 ∷ []) ∷ frames) sum_in_call in
      (g.0, g.1, h.2 ++ h.3 ∷ [], value alg s, (λ x e. h.4 x (ap (λ c. chosen (next_argument c) (λ t. read alg t us) (stopped (Mark Comma) us (whole c))) h.5 ∙ g.2 x e)), g.3, ap (λ l. l ++ value alg s ∷ []) h.6)

-- an operand ends before a lexeme that ends an expression
ends : {X : Type 0} (alg : Algebra X) (inner : List (Frame X)) (x y : X) (rest : List Lexeme) → close_sum alg inner x ≡ ([], y) → Stops rest → read alg (having inner x) rest ≡ Some (y, rest)
unfolding read
ends alg inner x y [] h stop = ap (λ c. option_map (λ z. (z, [])) (whole c)) h
ends alg inner x y (Mark Right ∷ ws) h stop = ap (λ c. chosen (end_group alg c) (λ t. read alg t ws) (stopped (Mark Right) ws (whole c))) h
ends alg inner x y (Mark Comma ∷ ws) h stop = ap (λ c. chosen (next_argument c) (λ t. read alg t ws) (stopped (Mark Comma) ws (whole c))) h
ends alg inner x y (Mark Power ∷ ws) h stop = absurd cc
ends alg inner x y (Mark Star ∷ ws) h stop = absurd cc
ends alg inner x y (Mark Slash ∷ ws) h stop = absurd cc
ends alg inner x y (Mark Plus ∷ ws) h stop = absurd cc
ends alg inner x y (Mark Minus ∷ ws) h stop = absurd cc
ends alg inner x y (Mark Left ∷ ws) h stop = absurd cc
ends alg inner x y (Named text ∷ ws) h stop = absurd cc
ends alg inner x y (Digits digits ∷ ws) h stop = absurd cc
ends alg inner x y (Mark k ∷ ws) h stop = ap (λ c. stopped (Mark k) ws (whole c)) h

-- what is derived at the front is read
pub reads : (X : Type 0) (alg : Algebra X) (ts rest : List Lexeme) (s : Syntax) → Derives Sum ts rest s → Stops rest → read alg (wanting []) ts ≡ Some (value alg s, rest)
reads X alg ts rest s r stop =
    let h = leads alg r [] sum_bottom in
    h.2 (value alg s, rest) (ends alg h.0 h.1 (value alg s) rest h.3 stop)
