-- The value and the tangent of an expression as words, wherever it is evaluated, elements of arrays with the rest.
use Rattle.std.proofs.Common.{◌≡◌, ℕ, Bool, true, false, List, [], ◌∷◌, refl, sym, ap, ◌∙◌, subst, int_eq}
use Rattle.std.specs.Prelude.{ℤ, pos, negsuc, int_lt, nat_le, ◌&&◌, Result, Ok, Err, Option, Some, None, if◌then◌else◌}
use Rattle.adj_tree.specs.Code.{Var, Op, plus, minus, times, quot, modulo, greater, lesser, Term, lit, var, elem, neg, bin, pow, power_of, abs, Terms, none, more}
use Rattle.adj_word.specs.Word.{add, sub, mul, negated, power, quotient, remainder, at_least_zero}
use Rattle.def_meaning.specs.Trap.{Trap, division, index, power_trap, then_ok, or_trap}
use Rattle.def_meaning.specs.Numbers.{words, duals, power_tangent, operation, absolute}
use Rattle.def_meaning.specs.Store.{Shape, Store, cell_of}
use Rattle.def_meaning.specs.Value.{cell_at, exponent_of, value, values}
use Rattle.law_meaning.proofs.Inversions.{then_ok_is}
use Rattle.law_sweep.specs.Pairs.{Words, tangent_at, with_tangents, on_words, on_duals}

-- ---- values and tangents, traps aside

abbrev pub word_of : Op → ℤ → ℤ → ℤ
word_of plus a b = add a b
word_of minus a b = sub a b
word_of times a b = mul a b
word_of quot a b = quotient a b
word_of modulo a b = remainder a b
word_of greater a b = if int_lt a b then b else a
word_of lesser a b = if int_lt b a then b else a

-- a power whose exponent is a word
abbrev pub power_word : ℤ → ℤ → ℤ
power_word a z = power a (at_least_zero z)

-- the word is an exponent
abbrev pub IsExponent : ℤ → Type 0
IsExponent z = exponent_of z ≡ Ok (at_least_zero z)

abbrev pub cell_or : Option ℕ → ℕ
cell_or None = 0
cell_or (Some i) = i

abbrev mutual
  -- the value of a term
  pub num : (Var → Shape) → Term → Store ℤ → ℤ
  num sh (lit z) s = z
  num sh (var x) s = s x 0
  num sh (elem x subs) s = s x (cell_or (cell_of (sh x) (nums sh subs s)))
  num sh (neg a) s = negated (num sh a s)
  num sh (bin op a b) s = word_of op (num sh a s) (num sh b s)
  num sh (pow a k) s = power (num sh a s) k
  num sh (power_of a b) s = power_word (num sh a s) (num sh b s)
  num sh (abs a) s = absolute words (num sh a s)

  pub nums : (Var → Shape) → Terms → Store ℤ → List ℤ
  nums sh none s = []
  nums sh (more e es) s = num sh e s ∷ nums sh es s

-- the cell that subscripts name; that of a scalar where there are none
abbrev pub cell_in : (Var → Shape) → Var → Terms → Store ℤ → ℕ
cell_in sh x none s = 0
cell_in sh x (more e es) s = cell_or (cell_of (sh x) (nums sh (more e es) s))

abbrev pub tangent_of : Op → ℤ → ℤ → ℤ → ℤ → ℤ
tangent_of plus u v x y = add x y
tangent_of minus u v x y = sub x y
tangent_of times u v x y = add (mul x v) (mul u y)
tangent_of quot u v x y = pos 0
tangent_of modulo u v x y = pos 0
tangent_of greater u v x y = if int_lt u v then y else x
tangent_of lesser u v x y = if int_lt v u then y else x

-- the tangent of a term
abbrev pub tan : (Var → Shape) → Term → Store ℤ → Words → ℤ
tan sh (lit z) s d = pos 0
tan sh (var x) s d = tangent_at d x 0
tan sh (elem x subs) s d = tangent_at d x (cell_or (cell_of (sh x) (nums sh subs s)))
tan sh (neg a) s d = negated (tan sh a s d)
tan sh (bin op a b) s d = tangent_of op (num sh a s) (num sh b s) (tan sh a s d) (tan sh b s d)
tan sh (pow a k) s d = power_tangent (num sh a s) (tan sh a s d) k
tan sh (power_of a b) s d = power_tangent (num sh a s) (tan sh a s d) (at_least_zero (num sh b s))
tan sh (abs a) s d = if int_lt (num sh a s) (pos 0) then negated (tan sh a s d) else tan sh a s d

-- the operation doesn't trap
abbrev pub CanDo : Op → ℤ → Type 0
CanDo quot b = int_eq b (pos 0) ≡ false
CanDo modulo b = int_eq b (pos 0) ≡ false
CanDo _ b = Unit {0}

abbrev pub HasCell : Shape → List ℤ → Type 0
HasCell sh is = cell_of sh is ≡ Some (cell_or (cell_of sh is))

abbrev mutual
  -- no operation in the term traps, and all its subscripts lie within their extents
  pub IsDefined : (Var → Shape) → Term → Store ℤ → Type 0
  IsDefined sh (lit z) s = Unit {0}
  IsDefined sh (var x) s = Unit {0}
  IsDefined sh (elem x subs) s = AreDefined sh subs s × HasCell (sh x) (nums sh subs s)
  IsDefined sh (neg a) s = IsDefined sh a s
  IsDefined sh (bin op a b) s = CanDo op (num sh b s) × (IsDefined sh a s × IsDefined sh b s)
  IsDefined sh (pow a k) s = IsDefined sh a s
  IsDefined sh (power_of a b) s = IsExponent (num sh b s) × (IsDefined sh a s × IsDefined sh b s)
  IsDefined sh (abs a) s = IsDefined sh a s

  pub AreDefined : (Var → Shape) → Terms → Store ℤ → Type 0
  AreDefined sh none s = Unit {0}
  AreDefined sh (more e es) s = IsDefined sh e s × AreDefined sh es s

-- ---- they are what is evaluated

operation_words : (op : Op) (a b : ℤ) → CanDo op b → operation words op a b ≡ Ok (word_of op a b)
operation_words plus a b h = refl
operation_words minus a b h = refl
operation_words times a b h = refl
operation_words quot a b h = rw h refl
operation_words modulo a b h = rw h refl
operation_words greater a b h = refl
operation_words lesser a b h = refl

operation_duals : (op : Op) (u v x y : ℤ) → CanDo op v → operation duals op (u, x) (v, y) ≡ Ok (word_of op u v, tangent_of op u v x y)
operation_duals plus u v x y h = refl
operation_duals minus u v x y h = refl
operation_duals times u v x y h = refl
operation_duals quot u v x y h = rw h refl
operation_duals modulo u v x y h = rw h refl
operation_duals greater u v x y h = go (int_lt u v)
  where
    go : (b : Bool) → (let p : ℤ × ℤ = (u, x) in let r : ℤ × ℤ = (v, y) in let o : Result (ℤ × ℤ) Trap = Ok (if b then r else p) in o ≡ Ok ((if b then v else u), (if b then y else x)))
    go true = refl
    go false = refl
operation_duals lesser u v x y h = go (int_lt v u)
  where
    go : (b : Bool) → (let p : ℤ × ℤ = (u, x) in let r : ℤ × ℤ = (v, y) in let o : Result (ℤ × ℤ) Trap = Ok (if b then r else p) in o ≡ Ok ((if b then v else u), (if b then y else x)))
    go true = refl
    go false = refl

module _ (sh : Var → Shape) (level : ℕ) where
  cell_words : (x : Var) (is : List ℤ) → HasCell (sh x) is → cell_at (on_words sh level) x is ≡ Ok (cell_or (cell_of (sh x) is))
  cell_words x is h = ap (or_trap index) h

  mutual
    pub value_words : (e : Term) (s : Store ℤ) → IsDefined sh e s → value (on_words sh level) e s ≡ Ok (num sh e s)
    value_words (lit z) s h = refl
    value_words (var x) s h = refl
    value_words (elem x subs) s h =
        (λ i. then_ok (values_words subs s h.0 i) (λ is. then_ok (cell_at (on_words sh level) x is) (λ j. Ok (s x j)))) ∙ ap (λ r. then_ok r (λ j. Ok (s x j))) (cell_words x (nums sh subs s) h.1)
    value_words (neg a) s h = λ i. then_ok (value_words a s h i) (λ u. Ok (negated u))
    value_words (bin op a b) s h =
        (λ i. then_ok (value_words a s h.1.0 i) (λ u. then_ok (value_words b s h.1.1 i) (λ v. operation words op u v))) ∙ operation_words op (num sh a s) (num sh b s) h.0
    value_words (pow a k) s h = λ i. then_ok (value_words a s h i) (λ u. Ok (power u k))
    value_words (power_of a b) s h =
        (λ i. then_ok (value_words a s h.1.0 i) (λ u. then_ok (value_words b s h.1.1 i) (λ v. then_ok (exponent_of v) (λ k. Ok (power u k)))))
        ∙ ap (λ r. then_ok r (λ k. Ok (power (num sh a s) k))) h.0
    value_words (abs a) s h = λ i. then_ok (value_words a s h i) (λ u. Ok (absolute words u))

    pub values_words : (es : Terms) (s : Store ℤ) → AreDefined sh es s → values (on_words sh level) es s ≡ Ok (nums sh es s)
    values_words none s h = refl
    values_words (more e es) s h = λ i. then_ok (value_words e s h.0 i) (λ u. then_ok (values_words es s h.1 i) (λ us. Ok (u ∷ us)))

  mutual
    pub value_duals : (e : Term) (s : Store ℤ) (d : Words) → IsDefined sh e s → value (on_duals sh level) e (with_tangents s d) ≡ Ok (num sh e s, tan sh e s d)
    value_duals (lit z) s d h = refl
    value_duals (var x) s d h = refl
    value_duals (elem x subs) s d h =
        (λ i. then_ok (values_duals subs s d h.0 i) (λ is. then_ok (cell_at (on_duals sh level) x is) (λ j. Ok (with_tangents s d x j)))) ∙ ap (λ r. then_ok r (λ j. Ok (with_tangents s d x j))) (ap (or_trap index) h.1)
    value_duals (neg a) s d h = λ i. then_ok (value_duals a s d h i) (λ u. Ok (duals.negation u))
    value_duals (bin op a b) s d h =
        (λ i. then_ok (value_duals a s d h.1.0 i) (λ u. then_ok (value_duals b s d h.1.1 i) (λ v. operation duals op u v)))
        ∙ operation_duals op (num sh a s) (num sh b s) (tan sh a s d) (tan sh b s d) h.0
    value_duals (pow a k) s d h = λ i. then_ok (value_duals a s d h i) (λ u. Ok (duals.raised_to u k))
    value_duals (power_of a b) s d h =
        (λ i. then_ok (value_duals a s d h.1.0 i) (λ u. then_ok (value_duals b s d h.1.1 i) (λ v. then_ok (exponent_of (duals.shown v)) (λ k. Ok (duals.raised_to u k)))))
        ∙ ap (λ r. then_ok r (λ k. Ok (duals.raised_to (num sh a s, tan sh a s d) k))) h.0
    value_duals (abs a) s d h = (λ i. then_ok (value_duals a s d h i) (λ u. Ok (absolute duals u))) ∙ go (int_lt (num sh a s) (pos 0))
      where
        go : (b : Bool) → (let p : ℤ × ℤ = (num sh a s, tan sh a s d) in let n : ℤ × ℤ = (negated (num sh a s), negated (tan sh a s d)) in let o : Result (ℤ × ℤ) Trap = Ok (if b then n else p) in o ≡ Ok ((if b then negated (num sh a s) else num sh a s), (if b then negated (tan sh a s d) else tan sh a s d)))
        go true = refl
        go false = refl

    pub values_duals : (es : Terms) (s : Store ℤ) (d : Words) → AreDefined sh es s → values (on_duals sh level) es (with_tangents s d) ≡ Ok (nums sh es s)
    values_duals none s d h = refl
    values_duals (more e es) s d h = λ i. then_ok (value_duals e s d h.0 i) (λ u. then_ok (values_duals es s d h.1 i) (λ us. Ok (u.0 ∷ us)))

  -- ---- what a value that is no trap says

  ok_same : {C : Type 0} (a b : C) → (let r : Result C Trap = Ok a in r ≡ Ok b) → a ≡ b
  ok_same a b h = cc

  nonzero : (b : ℤ) (w v : ℤ) (t : Bool) → int_eq b (pos 0) ≡ t → (let r : Result ℤ Trap = if t then Err division else Ok w in r ≡ Ok v) → int_eq b (pos 0) ≡ false
  nonzero b w v true e h = cc
  nonzero b w v false e h = e

  can_do_of : (op : Op) (a b v : ℤ) → operation words op a b ≡ Ok v → CanDo op b
  can_do_of plus a b v h = tt
  can_do_of minus a b v h = tt
  can_do_of times a b v h = tt
  can_do_of quot a b v h = nonzero b (quotient a b) v (int_eq b (pos 0)) refl h
  can_do_of modulo a b v h = nonzero b (remainder a b) v (int_eq b (pos 0)) refl h
  can_do_of greater a b v h = tt
  can_do_of lesser a b v h = tt

  exponent_is : (z : ℤ) (k : ℕ) → exponent_of z ≡ Ok k → IsExponent z
  exponent_is (pos m) k h = go (nat_le 0 m && nat_le m 4294967295) refl h
    where
      go : (b : Bool) → (nat_le 0 m && nat_le m 4294967295) ≡ b → or_trap power_trap (if b then Some m else None) ≡ Ok k → exponent_of (pos m) ≡ Ok m
      go true e h = rw e refl
      go false e h = cc
  exponent_is (negsuc m) k h = cc

  has_cell : (sh : Shape) (is : List ℤ) (i : ℕ) → or_trap index (cell_of sh is) ≡ Ok i → HasCell sh is
  has_cell sh is i h = go (cell_of sh is) refl h
    where
      go : (o : Option ℕ) → cell_of sh is ≡ o → or_trap index o ≡ Ok i → o ≡ Some (cell_or o)
      go None e h = cc
      go (Some j) e h = refl

  mutual
    pub defined_of : (e : Term) (s : Store ℤ) (v : ℤ) → value (on_words sh level) e s ≡ Ok v → IsDefined sh e s
    defined_of (lit z) s v h = tt
    defined_of (var x) s v h = tt
    defined_of (elem x subs) s v h =
        let r = then_ok_is (values (on_words sh level) subs s) (λ is. then_ok (cell_at (on_words sh level) x is) (λ i. Ok (s x i))) v h in
        let o = then_ok_is (cell_at (on_words sh level) x r.value) (λ i. Ok (s x i)) v r.goes in
        let d = all_defined_of subs s r.value r.is in
        let same : r.value ≡ nums sh subs s = ok_same r.value (nums sh subs s) (sym r.is ∙ values_words subs s d) in
        (d, subst (HasCell (sh x)) same (has_cell (sh x) r.value o.value o.is))
    defined_of (neg a) s v h =
        let r = then_ok_is (value (on_words sh level) a s) (λ u. Ok (negated u)) v h in defined_of a s r.value r.is
    defined_of (bin op a b) s v h =
        let r = then_ok_is (value (on_words sh level) a s) (λ u. then_ok (value (on_words sh level) b s) (λ w. operation words op u w)) v h in
        let o = then_ok_is (value (on_words sh level) b s) (λ w. operation words op r.value w) v r.goes in
        let da = defined_of a s r.value r.is in
        let db = defined_of b s o.value o.is in
        let e : o.value ≡ num sh b s = ok_same o.value (num sh b s) (sym o.is ∙ value_words b s db) in
        (subst (CanDo op) e (can_do_of op r.value o.value v o.goes), (da, db))
    defined_of (pow a k) s v h =
        let r = then_ok_is (value (on_words sh level) a s) (λ u. Ok (power u k)) v h in defined_of a s r.value r.is
    defined_of (power_of a b) s v h =
        let r = then_ok_is (value (on_words sh level) a s) (λ u. then_ok (value (on_words sh level) b s) (λ w. then_ok (exponent_of w) (λ k. Ok (power u k)))) v h in
        let o = then_ok_is (value (on_words sh level) b s) (λ w. then_ok (exponent_of w) (λ k. Ok (power r.value k))) v r.goes in
        let p = then_ok_is (exponent_of o.value) (λ k. Ok (power r.value k)) v o.goes in
        let da = defined_of a s r.value r.is in
        let db = defined_of b s o.value o.is in
        let e : o.value ≡ num sh b s = ok_same o.value (num sh b s) (sym o.is ∙ value_words b s db) in
        (subst IsExponent e (exponent_is o.value p.value p.is), (da, db))
    defined_of (abs a) s v h =
        let r = then_ok_is (value (on_words sh level) a s) (λ u. Ok (absolute words u)) v h in defined_of a s r.value r.is

    pub all_defined_of : (es : Terms) (s : Store ℤ) (vs : List ℤ) → values (on_words sh level) es s ≡ Ok vs → AreDefined sh es s
    all_defined_of none s vs h = tt
    all_defined_of (more e es) s vs h =
        let r = then_ok_is (value (on_words sh level) e s) (λ u. then_ok (values (on_words sh level) es s) (λ us. Ok (u ∷ us))) vs h in
        let o = then_ok_is (values (on_words sh level) es s) (λ us. Ok (r.value ∷ us)) vs r.goes in
        (defined_of e s r.value r.is, all_defined_of es s o.value o.is)
