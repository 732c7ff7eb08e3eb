-- Sums of products over keys are symmetric and linear, and change with one key's word as dot products do.
use Rattle.std.proofs.Common.{◌≡◌, Bool, true, false, List, [], ◌∷◌, ◌++◌, map, arith, refl, sym, ap, ◌∙◌, subst}
use Rattle.std.specs.Prelude.{ℤ, pos, ◌||◌}
use Rattle.adj_word.specs.Word.{wrap, IsWord, add, mul}
use Rattle.adj_word.specs.Dot.{dot}
use Rattle.adj_word.specs.Pairing.{pairing, put, stands_in, IsApart, IsExact}
use Rattle.adj_word.proofs.Residues.{word-wrap, word-zero, wrap_word, wrap-zero, add_assoc, add_comm, add-add, add-mul, mul_assoc, mul-add, mul_comm, mul-zero, zero-mul, zero-add, wrap-wrap}
use Rattle.adj_word.proofs.Transposes.{more_of_one}
use Rattle.adj_word.proofs.DotProducts.{dot-cons}

-- it is the dot product of the words at the keys
pub pairing-dot : {K : Type 0} (ks : List K) (s d : K → ℤ) → pairing ks s d ≡ dot (map s ks) (map d ks)
pairing-dot [] s d = sym wrap-zero
pairing-dot (k ∷ ks) s d = ap (add (mul (s k) (d k))) (pairing-dot ks s d) ∙ sym (dot-cons (s k) (d k) (map s ks) (map d ks))

-- it is a word
pub word-pairing : {K : Type 0} (ks : List K) (s d : K → ℤ) → IsWord (pairing ks s d)
word-pairing [] s d = word-zero
word-pairing (k ∷ ks) s d = word-wrap _

pub wrap-pairing : {K : Type 0} (ks : List K) (s d : K → ℤ) → wrap (pairing ks s d) ≡ pairing ks s d
wrap-pairing ks s d = wrap_word (pairing ks s d) (word-pairing ks s d)

pub pairing_comm : {K : Type 0} (ks : List K) (s d : K → ℤ) → pairing ks s d ≡ pairing ks d s
pairing_comm [] s d = refl
pairing_comm (k ∷ ks) s d = λ i. add (mul_comm (s k) (d k) i) (pairing_comm ks s d i)

-- sums, multiples and zeros
pub pairing-add : {K : Type 0} (ks : List K) (s t d : K → ℤ) → pairing ks (λ k. add (s k) (t k)) d ≡ add (pairing ks s d) (pairing ks t d)
pairing-add [] s t d = sym wrap-zero
pairing-add (k ∷ ks) s t d =
    (λ i. add (add-mul (s k) (t k) (d k) i) (pairing-add ks s t d i)) ∙ add-add (mul (s k) (d k)) (mul (t k) (d k)) (pairing ks s d) (pairing ks t d)

pub pairing-mul : {K : Type 0} (ks : List K) (c : ℤ) (s d : K → ℤ) → pairing ks (λ k. mul c (s k)) d ≡ mul c (pairing ks s d)
pairing-mul [] c s d = sym (mul-zero c)
pairing-mul (k ∷ ks) c s d =
    (λ i. add (mul_assoc c (s k) (d k) i) (pairing-mul ks c s d i)) ∙ sym (mul-add c (mul (s k) (d k)) (pairing ks s d))

pub pairing-zero : {K : Type 0} (ks : List K) (d : K → ℤ) → pairing ks (λ k. pos 0) d ≡ pos 0
pairing-zero [] d = refl
pairing-zero (k ∷ ks) d = (λ i. add (zero-mul (d k) i) (pairing-zero ks d i)) ∙ wrap-zero

-- keys one after the other
pub pairing-append : {K : Type 0} (ks ls : List K) (s d : K → ℤ) → pairing (ks ++ ls) s d ≡ add (pairing ks s d) (pairing ls s d)
pairing-append [] ls s d = sym (zero-add (pairing ls s d) ∙ wrap-pairing ls s d)
pairing-append (k ∷ ks) ls s d = ap (add (mul (s k) (d k))) (pairing-append ks ls s d) ∙ sym (add_assoc (mul (s k) (d k)) (pairing ks s d) (pairing ls s d))

-- words that agree at the keys
pub pairing-same : {K : Type 0} (same : K → K → Bool) (refl_same : (k : K) → same k k ≡ true) (ks : List K) (s t d : K → ℤ) → ((k : K) → stands_in same k ks ≡ true → s k ≡ t k) → pairing ks s d ≡ pairing ks t d
pairing-same same refl_same [] s t d h = refl
pairing-same same refl_same (k ∷ ks) s t d h =
    λ i. add (mul (h k (rw (refl_same k) refl) i) (d k)) (pairing-same same refl_same ks s t d (λ l e. h l (rw e (grind arith))) i)

-- ---- one key's word changed

module _ {K : Type 0} (same : K → K → Bool) where
  -- a key that isn't in the list is no matter
  pub pairing-put_out : (ks : List K) (s d : K → ℤ) (x : K) (w : ℤ) → stands_in same x ks ≡ false → pairing ks (put same s x w) d ≡ pairing ks s d
  pairing-put_out [] s d x w h = refl
  pairing-put_out (k ∷ ks) s d x w h = go (pairing-put_out ks s d x w) (same k x) refl h
    where
      go : (stands_in same x ks ≡ false → pairing ks (put same s x w) d ≡ pairing ks s d) → (t : Bool) → same k x ≡ t → (t || stands_in same x ks) ≡ false → add (mul (put same s x w k) (d k)) (pairing ks (put same s x w) d) ≡ add (mul (s k) (d k)) (pairing ks s d)
      go ih true e h = cc
      go ih false e h = rw (e, ih h) refl

  pub pairing-put_out_right : (ks : List K) (s d : K → ℤ) (x : K) (w : ℤ) → stands_in same x ks ≡ false → pairing ks s (put same d x w) ≡ pairing ks s d
  pairing-put_out_right ks s d x w h = pairing_comm ks s (put same d x w) ∙ pairing-put_out ks d s x w h ∙ pairing_comm ks d s

  module _ (exact : IsExact same) where
    -- nor is one at which the other word is 0
    pub pairing-put_zero : (ks : List K) (s d : K → ℤ) (x : K) (w : ℤ) → d x ≡ pos 0 → pairing ks (put same s x w) d ≡ pairing ks s d
    pairing-put_zero [] s d x w z = refl
    pairing-put_zero (k ∷ ks) s d x w z = go (pairing-put_zero ks s d x w z) (same k x) refl
      where
        go : pairing ks (put same s x w) d ≡ pairing ks s d → (t : Bool) → same k x ≡ t → add (mul (put same s x w k) (d k)) (pairing ks (put same s x w) d) ≡ add (mul (s k) (d k)) (pairing ks s d)
        go ih true e =
            let zero_here : d k ≡ pos 0 = ap d (exact k x e) ∙ z in
            rw (e, ih, zero_here) (λ i. add ((mul-zero w ∙ sym (mul-zero (s k))) i) (pairing ks s d))
        go ih false e = rw (e, ih) refl

    -- w more at x
    pub pairing-more : (ks : List K) (s d : K → ℤ) (x : K) (w : ℤ) → IsApart same ks → stands_in same x ks ≡ true → pairing ks (put same s x (add (s x) w)) d ≡ add (pairing ks s d) (mul w (d x))
    pairing-more [] s d x w a h = cc
    pairing-more (k ∷ ks) s d x w a h = go (pairing-more ks s d x w a.1) (same k x) refl h
      where
        go : (stands_in same x ks ≡ true → pairing ks (put same s x (add (s x) w)) d ≡ add (pairing ks s d) (mul w (d x))) → (t : Bool) → same k x ≡ t → (t || stands_in same x ks) ≡ true → add (mul (put same s x (add (s x) w) k) (d k)) (pairing ks (put same s x (add (s x) w)) d) ≡ add (add (mul (s k) (d k)) (pairing ks s d)) (mul w (d x))
        go ih true e h =
            let p : k ≡ x = exact k x e in
            let out : stands_in same x ks ≡ false = subst (λ z. stands_in same z ks ≡ false) p a.0 in
            rw (e, pairing-put_out ks s d x (add (s x) w) out) (subst (λ z. add (mul (add (s z) w) (d k)) (pairing ks s d) ≡ add (add (mul (s k) (d k)) (pairing ks s d)) (mul w (d z))) p (more_of_one (s k) w (d k) (pairing ks s d)))
        go ih false e h = rw (e, ih h) (sym (add_assoc (mul (s k) (d k)) (pairing ks s d) (mul w (d x))))

    -- the product at x, apart from the others
    pub pairing-apart : (ks : List K) (s d : K → ℤ) (x : K) (w : ℤ) → IsApart same ks → stands_in same x ks ≡ true → add (pairing ks (put same s x (pos 0)) d) (mul (s x) w) ≡ pairing ks s (put same d x w)
    pairing-apart [] s d x w a h = cc
    pairing-apart (k ∷ ks) s d x w a h = go (pairing-apart ks s d x w a.1) (same k x) refl h
      where
        go : (stands_in same x ks ≡ true → add (pairing ks (put same s x (pos 0)) d) (mul (s x) w) ≡ pairing ks s (put same d x w)) → (t : Bool) → same k x ≡ t → (t || stands_in same x ks) ≡ true → add (add (mul (put same s x (pos 0) k) (d k)) (pairing ks (put same s x (pos 0)) d)) (mul (s x) w) ≡ add (mul (s k) (put same d x w k)) (pairing ks s (put same d x w))
        go ih true e h =
            let p : k ≡ x = exact k x e in
            let out : stands_in same x ks ≡ false = subst (λ z. stands_in same z ks ≡ false) p a.0 in
            let m = mul (s x) w in
            let r = pairing ks s d in
            let front : add (add (pos 0) r) m ≡ add m r = add_assoc (pos 0) r m ∙ zero-add (add r m) ∙ wrap-wrap _ ∙ add_comm r m in
            rw (e, pairing-put_out ks s d x (pos 0) out, pairing-put_out_right ks s d x w out, zero-mul (d k)) (front ∙ ap (λ z. add (mul (s z) w) r) (sym p))
        go ih false e h = rw (e, ← ih h) (add_assoc (mul (s k) (d k)) (pairing ks (put same s x (pos 0)) d) (mul (s x) w))
