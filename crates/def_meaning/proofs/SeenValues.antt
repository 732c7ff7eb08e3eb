-- Values seen under other names and over other numbers.
use Rattle.std.proofs.Common.{◌≡◌, ℕ, zero, suc, Bool, true, false, ◌∷◌, refl, sym, ap, ◌∙◌}
use Rattle.std.specs.Prelude.{ℤ, pos, int_lt, Result, Ok, Err, ◌&&◌, ◌||◌, ◌==◌, not, map, if◌then◌else◌}
use Rattle.std.specs.Ordering.{int_eq}
use Rattle.adj_tree.specs.Code.{Var, var_eq, Op, plus, minus, times, quot, modulo, greater, lesser, Term, lit, var, elem, neg, bin, pow, power_of, abs, Terms, none, more, Test, compare, negation, conjunction, disjunction}
use Rattle.adj_word.specs.Word.{quotient, remainder}
use Rattle.def_meaning.specs.Trap.{Trap, division, then_ok}
use Rattle.def_meaning.specs.Numbers.{Numbers, operation, absolute, compares}
use Rattle.def_meaning.specs.Store.{Store, set, set_all, cells_from}
use Rattle.def_meaning.specs.Value.{Setting, exponent_of, value, values, cell_at, target, holds}
use Rattle.def_meaning.specs.Rename.{rename_term, rename_terms, rename_test}
use Rattle.def_meaning.specs.Seen.{Separates, Projects, seen, seen_setting}

-- the value through h, or the trap
abbrev pub mapped : {A B : Type 0} → (A → B) → Result A Trap → Result B Trap
mapped h v = then_ok v (λ a. Ok (h a))

-- what goes on from a value may be seen part by part
pub then_mapped : {A B A' B' : Type 0} (h : A → A') (g : B → B') (v : Result A Trap) (w : Result A' Trap) (f : A → Result B Trap) (f' : A' → Result B' Trap) → mapped h v ≡ w → ((a : A) → mapped g (f a) ≡ f' (h a)) → mapped g (then_ok v f) ≡ then_ok w f'
then_mapped h g (Ok a) w f f' e d = d a ∙ ap (λ z. then_ok z f') e
then_mapped h g (Err t) w f f' e d = ap (λ z. then_ok z f') e

-- where the first value is the same
pub then_same : {A B B' : Type 0} (g : B → B') (v w : Result A Trap) (f : A → Result B Trap) (f' : A → Result B' Trap) → v ≡ w → ((a : A) → mapped g (f a) ≡ f' a) → mapped g (then_ok v f) ≡ then_ok w f'
then_same g (Ok a) w f f' e d = d a ∙ ap (λ z. then_ok z f') e
then_same g (Err t) w f f' e d = ap (λ z. then_ok z f') e

-- where the last is
pub then_into : {A A' B : Type 0} (h : A → A') (v : Result A Trap) (w : Result A' Trap) (f : A → Result B Trap) (f' : A' → Result B Trap) → mapped h v ≡ w → ((a : A) → f a ≡ f' (h a)) → then_ok v f ≡ then_ok w f'
then_into h (Ok a) w f f' e d = d a ∙ ap (λ z. then_ok z f') e
then_into h (Err t) w f f' e d = ap (λ z. then_ok z f') e

-- h of a choice is the choice of h
pub map_if : {A B : Type 0} (h : A → B) (p : Bool) (a b : A) → h (if p then a else b) ≡ (if p then h a else h b)
map_if h true a b = refl
map_if h false a b = refl

module _ {C D : Type 0} (h : C → D) (n : Numbers C) (m : Numbers D) (p : Projects h n m) where
  -- a trap for 0, or else a word
  divided : (e : Bool) (z : ℤ) → mapped h (if e then Err division else Ok (n.of_word z)) ≡ (if e then Err division else Ok (m.of_word z))
  divided true z = refl
  divided false z = ap Ok (p.of_word z)

  -- an operation
  pub operation_seen : (op : Op) (a b : C) → mapped h (operation n op a b) ≡ operation m op (h a) (h b)
  operation_seen plus a b = ap Ok (p.sum a b)
  operation_seen minus a b = ap Ok (p.difference a b)
  operation_seen times a b = ap Ok (p.product a b)
  operation_seen quot a b =
      divided (int_eq (n.shown b) (pos 0)) (quotient (n.shown a) (n.shown b))
      ∙ (λ i. if int_eq (sym (p.shown b) i) (pos 0) then Err division else Ok (m.of_word (quotient (sym (p.shown a) i) (sym (p.shown b) i))))
  operation_seen modulo a b =
      divided (int_eq (n.shown b) (pos 0)) (remainder (n.shown a) (n.shown b))
      ∙ (λ i. if int_eq (sym (p.shown b) i) (pos 0) then Err division else Ok (m.of_word (remainder (sym (p.shown a) i) (sym (p.shown b) i))))
  operation_seen greater a b = ap Ok (map_if h (int_lt (n.shown a) (n.shown b)) b a ∙ (λ i. if int_lt (sym (p.shown a) i) (sym (p.shown b) i) then h b else h a))
  operation_seen lesser a b = ap Ok (map_if h (int_lt (n.shown b) (n.shown a)) b a ∙ (λ i. if int_lt (sym (p.shown b) i) (sym (p.shown a) i) then h b else h a))

  -- the absolute value
  pub absolute_seen : (a : C) → h (absolute n a) ≡ absolute m (h a)
  absolute_seen a =
      map_if h (int_lt (n.shown a) (pos 0)) (n.negation a) a ∙ (λ i. if int_lt (sym (p.shown a) i) (pos 0) then p.negation a i else h a)

module _ {C D : Type 0} (r : Var → Var) (h : C → D) (n : Setting C) (m : Numbers D) (p : Projects h n.numbers m) where
  mutual
    -- an expression
    pub value_seen : (e : Term) (s : Store C) → mapped h (value n (rename_term r e) s) ≡ value (seen_setting r m n) e (seen r h s)
    value_seen (lit z) s = ap Ok (p.of_word z)
    value_seen (var x) s = refl
    value_seen (elem x subs) s =
        then_same h _ _ _ _ (values_seen subs s) (λ is. then_same h (cell_at n (r x) is) (cell_at n (r x) is) (λ i. Ok (s (r x) i)) (λ i. Ok (h (s (r x) i))) refl (λ i. refl))
    value_seen (neg a) s = then_mapped h h _ _ _ _ (value_seen a s) (λ u. ap Ok (p.negation u))
    value_seen (bin op a b) s =
        then_mapped h h _ _ _ _ (value_seen a s) (λ u. then_mapped h h (value n (rename_term r b) s) _ (λ v. operation n.numbers op u v) (λ v. operation m op (h u) v) (value_seen b s) (λ v. operation_seen h n.numbers m p op u v))
    value_seen (pow a k) s = then_mapped h h _ _ _ _ (value_seen a s) (λ u. ap Ok (p.raised_to u k))
    value_seen (power_of a b) s =
        then_mapped h h _ _ _ _ (value_seen a s) (λ u. then_mapped h h (value n (rename_term r b) s) _ (λ v. then_ok (exponent_of (n.numbers.shown v)) (λ k. Ok (n.numbers.raised_to u k))) (λ v. then_ok (exponent_of (m.shown v)) (λ k. Ok (m.raised_to (h u) k))) (value_seen b s)
        (λ v. then_same h (exponent_of (n.numbers.shown v)) (exponent_of (m.shown (h v))) (λ k. Ok (n.numbers.raised_to u k)) (λ k. Ok (m.raised_to (h u) k)) (ap exponent_of (sym (p.shown v))) (λ k. ap Ok (p.raised_to u k))))
    value_seen (abs a) s = then_mapped h h _ _ _ _ (value_seen a s) (λ u. ap Ok (absolute_seen h n.numbers m p u))

    pub values_seen : (es : Terms) (s : Store C) → values n (rename_terms r es) s ≡ values (seen_setting r m n) es (seen r h s)
    values_seen none s = refl
    values_seen (more e es) s =
        then_into h _ _ (λ u. then_ok (values n (rename_terms r es) s) (λ us. Ok (n.numbers.shown u ∷ us))) (λ u. then_ok (values (seen_setting r m n) es (seen r h s)) (λ us. Ok (m.shown u ∷ us))) (value_seen e s)
        (λ u i. then_ok (values_seen es s i) (λ us. Ok (sym (p.shown u) i ∷ us)))

  -- the cell of a target
  pub target_seen : (x : Var) (subs : Terms) (s : Store C) → target n (r x) (rename_terms r subs) s ≡ target (seen_setting r m n) x subs (seen r h s)
  target_seen x none s = refl
  target_seen x (more e es) s = ap (λ z. then_ok z (λ is. cell_at n (r x) is)) (values_seen (more e es) s)

  -- a condition
  pub holds_seen : (c : Test) (s : Store C) → holds n (rename_test r c) s ≡ holds (seen_setting r m n) c (seen r h s)
  holds_seen (compare o a b) s =
      then_into h _ _ (λ u. then_ok (value n (rename_term r b) s) (λ v. Ok (compares o (n.numbers.shown u) (n.numbers.shown v)))) (λ u. then_ok (value (seen_setting r m n) b (seen r h s)) (λ v. Ok (compares o (m.shown u) (m.shown v)))) (value_seen a s)
      (λ u. then_into h _ _ (λ v. Ok (compares o (n.numbers.shown u) (n.numbers.shown v))) (λ v. Ok (compares o (m.shown (h u)) (m.shown v))) (value_seen b s) (λ v i. Ok (compares o (sym (p.shown u) i) (sym (p.shown v) i))))
  holds_seen (negation c) s = ap (λ z. then_ok z (λ t. Ok (not t))) (holds_seen c s)
  holds_seen (conjunction c d) s = λ i. then_ok (holds_seen c s i) (λ t. then_ok (holds_seen d s i) (λ u. Ok (t && u)))
  holds_seen (disjunction c d) s = λ i. then_ok (holds_seen c s i) (λ t. then_ok (holds_seen d s i) (λ u. Ok (t || u)))

-- ---- stores

module _ {C D : Type 0} (r : Var → Var) (sep : Separates r) (h : C → D) where
  -- a cell that is set
  pub set_seen : (s : Store C) (x : Var) (i : ℕ) (c : C) → seen r h (set s (r x) i c) ≡ set (seen r h s) x i (h c)
  set_seen s x i c =
      (λ k y j. map_if h (var_eq (r y) (r x) && (j == i)) c (s (r y) j) k)
      ∙ (λ k y j. if sep.at y x k && (j == i) then h c else h (s (r y) j))

  -- a variable that is set whole
  pub set_all_seen : (s : Store C) (x : Var) (cs : ℕ → C) → seen r h (set_all s (r x) cs) ≡ set_all (seen r h s) x (λ j. h (cs j))
  set_all_seen s x cs =
      (λ k y j. map_if h (var_eq (r y) (r x)) (cs j) (s (r y) j) k)
      ∙ (λ k y j. if sep.at y x k then h (cs j) else h (s (r y) j))

-- the cells of a variable
pub cells_seen : {C D : Type 0} (h : C → D) (cs : ℕ → C) (i n : ℕ) → map h (cells_from cs i n) ≡ cells_from (λ j. h (cs j)) i n
cells_seen h cs i zero = refl
cells_seen h cs i (suc n) = ap (λ z. h (cs i) ∷ z) (cells_seen h cs (suc i) n)
