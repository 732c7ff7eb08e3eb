-- Rows of steps: with fewer repetitions, and below their splits.
use Rattle.std.proofs.Common.{◌≡◌, ℕ, zero, suc, ◌+◌, ◌*◌, ◌-◌, ◌≤◌, ◌<◌, length, refl, sym, ◌∙◌, ap, subst, arith}
use Rattle.adj_revolve.specs.Binomial.{beta}
use Rattle.adj_revolve.specs.Split.{split_of}
use Rattle.adj_revolve.proofs.BinomialLemmas.{beta-zero_repetitions, beta-step, beta-pos, beta-slots, beta-mono}
use Rattle.adj_revolve_count.specs.declared.row.Row.{Row}
use Rattle.adj_revolve_count.specs.Rows.{from_end, returned, row_steps, row_actions, IsRow, IsEndOf}
use Rattle.adj_revolve_count.specs.Stores.{stores}
use Rattle.adj_revolve_count.proofs.Counts.{length-returned, stores-more, stores-few, stores-le}
use Rattle.adj_revolve_count.proofs.Returns.{ends-fewer, split-short, split-full}

-- ---- a new one

-- the numbers of a row that has l steps
pub record IsNew (l s q : ℕ) : Type 0 where
  pub fits : beta s q ≤ l
  pub again : beta (s - 1) q ≤ stores s l
  pub again_fits : beta (s - 1) q ≤ l
  pub short : l - beta s q < beta (s - 1) (q + 1)
  pub taken : stores s l - beta (s - 1) q ≡ stores (s - 1) (l - beta s q)

pub new_is : (l s q : ℕ) → 0 < s → 2 ≤ l → beta s q ≤ l → l < beta s (q + 1) → IsNew l s q
new_is l zero q pos two fits most = absurd (omega arith)
new_is l (suc t) q pos two fits most =
    let fewer : suc t - 1 ≡ t = omega arith in
    let next : q + 1 ≡ suc q = omega arith in
    let most' : l < beta (suc t) (suc q) = rw next at most in
    let more = stores-more t l q two fits (omega arith) in
    record {
      fits = fits;
      again = rw fewer (omega (arith, more));
      again_fits = rw fewer (omega (arith, beta-slots t q));
      short = rw (fewer, next) (omega (arith, beta-step t q));
      taken = rw fewer (omega (arith, more));
    }

-- what its actions are
pub row_actions_are : (r : Row) (lo l s : ℕ) → r.low ≡ lo → row_steps r ≡ l → r.snapshots ≡ s → row_actions r ≡ returned lo l s
row_actions_are r lo l s a b c = λ i. returned (a i) (b i) (c i)

-- ---- how long it is

-- the numbers that the code adds
pub record HasLength (lo s q e : ℕ) : Type 0 where
  pub steps : 1 ≤ beta s q + e
  pub again : beta (s - 1) q ≤ beta s q
  pub taken : stores (s - 1) e ≤ e + 2
  pub count : length (returned lo (beta s q + e) s) + 2 ≡ 3 * (beta s q + e) + (beta (s - 1) q + stores (s - 1) e)

has_length : (lo s q e : ℕ) → 0 < s → e < beta (s - 1) (q + 1) → HasLength lo s q e
has_length lo zero q e pos short = absurd (omega arith)
has_length lo (suc t) q e pos short =
    let fewer : suc t - 1 ≡ t = omega arith in
    let next : q + 1 ≡ suc q = omega arith in
    let short' : e < beta t (suc q) = rw (fewer, next) at short in
    let rest : beta (suc t) q + e - beta (suc t) q ≡ e = omega arith in
    let some : 1 ≤ beta (suc t) q + e = omega (arith, beta-pos (suc t) q) in
    let count = length-returned lo (beta (suc t) q + e) t q some (omega arith) (omega (arith, beta-step t q)) in
    record {
      steps = some;
      again = rw fewer (beta-slots t q);
      taken = rw fewer (stores-le t e);
      count = rw fewer (count ∙ ap (λ z. 3 * (beta (suc t) q + e) + (beta t q + stores t z)) rest);
    }

pub row_length : (r : Row) → IsRow r → HasLength r.low r.snapshots r.repetitions r.extra
row_length r is = has_length r.low r.snapshots r.repetitions r.extra is.some is.short

-- ---- with fewer repetitions

pub row_with : (r : Row) (q : ℕ) → IsRow r → q ≤ r.repetitions → r.extra < beta (r.snapshots - 1) (q + 1) → IsRow (record r { repetitions = q })
row_with r q is fewer short = record {
  some = is.some;
  few = is.few;
  short = short;
  taken = is.taken;
  within = omega (arith, is.within, beta-mono r.snapshots q r.repetitions fewer);
}

-- it ends as before
ends_with : (lo s e q r left : ℕ) → 0 < s → q ≤ r → e < beta (s - 1) (q + 1) → left ≤ length (returned lo (beta s q + e) s) → from_end (returned lo (beta s q + e) s) left ≡ from_end (returned lo (beta s r + e) s) left
ends_with lo zero e q r left pos fewer short h = absurd (omega arith)
ends_with lo (suc t) e q r left pos fewer short h =
    let one : suc t - 1 ≡ t = omega arith in
    let next : q + 1 ≡ suc q = omega arith in
    let short' : e < beta t (suc q) = rw (one, next) at short in
    let sum : q + (r - q) ≡ r = omega arith in
    let ends = ends-fewer lo t e q (r - q) left short' h in
    sym (subst (λ z. from_end (returned lo (beta (suc t) z + e) (suc t)) left ≡ from_end (returned lo (beta (suc t) q + e) (suc t)) left) sum ends.same)

pub row_ends : (r : Row) (q left : ℕ) → IsRow r → q ≤ r.repetitions → r.extra < beta (r.snapshots - 1) (q + 1) → left ≤ length (row_actions (record r { repetitions = q })) → IsEndOf (record r { repetitions = q }) r left
row_ends r q left is fewer short h = record {
  row = row_with r q is fewer short;
  steps = omega (arith, beta-mono r.snapshots q r.repetitions fewer);
  enough = h;
  same = ends_with r.low r.snapshots r.extra q r.repetitions left is.some fewer short h;
}

-- ---- below its split

-- where the extra steps are few, there is a repetition fewer
pub record IsShortLower (s q e : ℕ) : Type 0 where
  pub pos : 0 < q
  pub short : e < beta (s - 1) (q - 1 + 1)
  pub steps : beta s (q - 1) + e ≡ split_of (beta s q + e) s

pub short_lower : (s q e : ℕ) → 0 < s → 2 ≤ beta s q + e → e < beta (s - 1) q → IsShortLower s q e
short_lower zero q e pos two short = absurd (omega arith)
short_lower (suc t) zero e pos two short =
    let fewer : suc t - 1 ≡ t = omega arith in
    let short' : e < beta t 0 = rw fewer at short in
    absurd (omega (arith, beta-zero_repetitions t, beta-zero_repetitions (suc t)))
short_lower (suc t) (suc p) e pos two short =
    let fewer : suc t - 1 ≡ t = omega arith in
    let before : suc p - 1 ≡ p = omega arith in
    let next : p + 1 ≡ suc p = omega arith in
    let short' : e < beta t (suc p) = rw fewer at short in
    record {
      pos = omega arith;
      short = rw (fewer, before, next) short';
      steps = rw before (sym (split-short t p e (beta (suc t) (suc p) + e) refl short'));
    }

-- and where they are many, all are above it
pub full_lower : (s q e : ℕ) → 0 < s → 2 ≤ beta s q + e → e < beta (s - 1) (q + 1) → beta (s - 1) q ≤ e → beta s q + 0 ≡ split_of (beta s q + e) s
full_lower zero q e pos two short many = absurd (omega arith)
full_lower (suc t) q e pos two short many =
    let fewer : suc t - 1 ≡ t = omega arith in
    let next : q + 1 ≡ suc q = omega arith in
    let short' : e < beta t (suc q) = rw (fewer, next) at short in
    let many' : beta t q ≤ e = rw fewer at many in
    omega (arith, split-full t q e (beta (suc t) q + e) refl (omega (arith, beta-pos t q)) many' short')

-- a row without extra steps
pub row_full : (r : Row) → IsRow r → IsRow (record r { extra = 0; stores = 0 })
row_full r is = record {
  some = is.some;
  few = is.few;
  short = omega (arith, beta-pos (r.snapshots - 1) (r.repetitions + 1));
  taken = sym (stores-few (r.snapshots - 1) 0 (omega arith));
  within = omega (arith, is.within);
}
