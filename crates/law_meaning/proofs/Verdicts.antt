-- A run comes to the same end with more statements and with deeper calls, and to none with fewer than it costs.
use Rattle.std.proofs.Common.{◌≡◌, ℕ, zero, suc, ◌+◌, ◌-◌, ◌<◌, ◌≤◌, ◌⊎◌, inl, inr, Bool, true, false, List, [], ◌∷◌, refl, sym, ap, ◌∙◌, subst, arith}
use Rattle.std.proofs.lemmas.Bool.{cases_lt}
use Rattle.std.specs.Prelude.{Result, Ok, Err, if◌then◌else◌}
use Rattle.def_meaning.specs.Trap.{Trap}
use Rattle.def_meaning.specs.Scene.{Stand, IsMore, Outcome, Done, Trapped, More, Full, then_do, with_value, counted, with_top}

-- an end, whatever is left
pub data Ending (B : Type 0) : Type 0 where
  finished : B → Ending B
  stopped : Trap → ℕ → Stand → Ending B
  filled : Stand → Ending B

-- an end with so many statements left
abbrev pub with_left : {B : Type 0} → Ending B → ℕ → Outcome B
with_left (finished b) j = Done b j
with_left (stopped t line w) j = Trapped t line w
with_left (filled w) j = Full w

-- with k statements f comes to an end after some of them: to the same with any number that is left, and g comes to it too;
-- with fewer statements f has more to do
pub record Settled {B : Type 0} (f g : ℕ → Outcome B) (k : ℕ) : Type 0 where
  pub cost : ℕ
  pub rest : ℕ
  pub is : k ≡ cost + rest
  pub ending : Ending B
  pub early : (j : ℕ) → j < cost → IsMore (f j)
  pub same : (j : ℕ) → f (cost + j) ≡ with_left ending j
  pub later : (j : ℕ) → g (cost + j) ≡ with_left ending j

-- or f has more to do with k statements and with fewer
pub data Verdict {B : Type 0} (f g : ℕ → Outcome B) (k : ℕ) : Type 0 where
  goes_on : ((j : ℕ) → j ≤ k → IsMore (f j)) → Verdict f g k
  settled : Settled f g k → Verdict f g k

-- ---- the parts of a run

-- an end that costs nothing
at_once : {B : Type 0} (e : Ending B) (f g : ℕ → Outcome B) (k : ℕ) → ((j : ℕ) → f j ≡ with_left e j) → ((j : ℕ) → g j ≡ with_left e j) → Verdict f g k
at_once e f g k hf hg =
    let z : (j : ℕ) → 0 + j ≡ j = λ j. omega arith in
    settled (record { cost = 0; rest = k; is = omega arith; ending = e; early = λ j lt. absurd (omega arith); same = λ j. ap f (z j) ∙ hf j; later = λ j. ap g (z j) ∙ hg j })

-- a result
pub done_verdict : {B : Type 0} (b : B) (k : ℕ) → Verdict (λ j. Done b j) (λ j. Done b j) k
done_verdict b k = at_once (finished b) (λ j. Done b j) (λ j. Done b j) k (λ j. refl) (λ j. refl)

-- a trap
pub trapped_verdict : {B : Type 0} (t : Trap) (line : ℕ) (w : Stand) (k : ℕ) → Verdict {B = B} (λ j. Trapped t line w) (λ j. Trapped t line w) k
trapped_verdict t line w k = at_once (stopped t line w) (λ j. Trapped t line w) (λ j. Trapped t line w) k (λ j. refl) (λ j. refl)

-- a full tape
pub full_verdict : {B : Type 0} (w : Stand) (k : ℕ) → Verdict {B = B} (λ j. Full w) (λ j. Full w) k
full_verdict w k = at_once (filled w) (λ j. Full w) (λ j. Full w) k (λ j. refl) (λ j. refl)

-- what follows a value
pub value_verdict : {A B : Type 0} (v : Result A Trap) (line : ℕ) (w : Stand) (f g : A → ℕ → Outcome B) (k : ℕ) → ((a : A) → Verdict (f a) (g a) k) → Verdict (λ j. with_value v line w (λ a. f a j)) (λ j. with_value v line w (λ a. g a j)) k
value_verdict (Ok a) line w f g k h = h a
value_verdict (Err t) line w f g k h = trapped_verdict t line w k

-- what follows a pop
pub top_verdict : {B C : Type 0} (t : List C) (line : ℕ) (w : Stand) (f g : C → List C → ℕ → Outcome B) (k : ℕ) → ((c : C) (cs : List C) → Verdict (f c cs) (g c cs) k) → Verdict (λ j. with_top t line w (λ c cs. f c cs j)) (λ j. with_top t line w (λ c cs. g c cs j)) k
top_verdict [] line w f g k h = trapped_verdict _ line w k
top_verdict (c ∷ cs) line w f g k h = h c cs

-- one of two branches
pub if_verdict : {B : Type 0} (p : Bool) (f g f' g' : ℕ → Outcome B) (k : ℕ) → Verdict f f' k → Verdict g g' k → Verdict (λ j. if p then f j else g j) (λ j. if p then f' j else g' j) k
if_verdict true f g f' g' k a b = a
if_verdict false f g f' g' k a b = b

-- what follows a count
pub counted_verdict : {B : Type 0} (w : Stand) (f g : ℕ → Outcome B) (k : ℕ) → ((m : ℕ) → Verdict f g m) → Verdict (λ j. counted w j f) (λ j. counted w j g) k
counted_verdict w f g zero h = goes_on (λ j le. let e : 0 ≡ j = omega arith in subst (λ z. IsMore (counted w z f)) e tt)
counted_verdict w f g (suc k) h = go (h k)
  where
    more_below : ((j : ℕ) → j ≤ k → IsMore (f j)) → (j : ℕ) → j ≤ suc k → IsMore (counted w j f)
    more_below m zero le = tt
    more_below m (suc j) le = m j (omega arith)

    early_of : (cost : ℕ) → ((j : ℕ) → j < cost → IsMore (f j)) → (j : ℕ) → j < suc cost → IsMore (counted w j f)
    early_of cost m zero lt = tt
    early_of cost m (suc j) lt = m j (omega arith)

    go : Verdict f g k → Verdict (λ j. counted w j f) (λ j. counted w j g) (suc k)
    go (goes_on m) = goes_on (more_below m)
    go (settled s) =
        let e : (j : ℕ) → suc s.cost + j ≡ suc (s.cost + j) = λ j. omega arith in
        settled (record {
          cost = suc s.cost;
          rest = s.rest;
          is = omega (arith, s.is);
          ending = s.ending;
          early = early_of s.cost s.early;
          same = λ j. ap (λ z. counted w z f) (e j) ∙ s.same j;
          later = λ j. ap (λ z. counted w z g) (e j) ∙ s.later j;
        })

-- where there is more to do, what would come after isn't done
pub more_then : {A B : Type 0} (o : Outcome A) (go : A → ℕ → Outcome B) → IsMore o → IsMore (then_do o go)
more_then (Done a k) go h = absurd h
more_then (Trapped t line w) go h = absurd h
more_then (More w) go h = tt
more_then (Full w) go h = absurd h

module _ {A B : Type 0} (o p : ℕ → Outcome A) (go go' : A → ℕ → Outcome B) where
  -- an end that isn't a result is the end of what would go on
  after_end : (k : ℕ) (s : Settled o p k) (e : Ending B) → ((j : ℕ) → then_do (with_left s.ending j) go ≡ with_left e j) → ((j : ℕ) → then_do (with_left s.ending j) go' ≡ with_left e j) → Verdict (λ j. then_do (o j) go) (λ j. then_do (p j) go') k
  after_end k s e h h' =
      settled (record {
        cost = s.cost;
        rest = s.rest;
        is = s.is;
        ending = e;
        early = λ j lt. more_then (o j) go (s.early j lt);
        same = λ j. ap (λ z. then_do z go) (s.same j) ∙ h j;
        later = λ j. ap (λ z. then_do z go') (s.later j) ∙ h' j;
      })

  -- the first part came to a result, and the second went on with what was left
  after_result : (k : ℕ) (s : Settled o p k) (a : A) → ((j : ℕ) → with_left s.ending j ≡ Done a j) → Verdict (go a) (go' a) s.rest → Verdict (λ j. then_do (o j) go) (λ j. then_do (p j) go') k
  after_result k s a e v = second v
    where
      -- with what the first part costs and more, the second part runs
      past : (i : ℕ) → then_do (o (s.cost + i)) go ≡ go a i
      past i = ap (λ z. then_do z go) (s.same i ∙ e i)

      past' : (i : ℕ) → then_do (p (s.cost + i)) go' ≡ go' a i
      past' i = ap (λ z. then_do z go') (s.later i ∙ e i)

      -- so there is more to do wherever either part has more to do
      more_in : (j : ℕ) → (j < s.cost) ⊎ (s.cost ≤ j) → (s.cost ≤ j → IsMore (go a (j - s.cost))) → IsMore (then_do (o j) go)
      more_in j (inl lt) h = more_then (o j) go (s.early j lt)
      more_in j (inr le) h = let e1 : j ≡ s.cost + (j - s.cost) = omega arith in subst IsMore (sym (ap (λ z. then_do (o z) go) e1 ∙ past (j - s.cost))) (h le)

      second : Verdict (go a) (go' a) s.rest → Verdict (λ j. then_do (o j) go) (λ j. then_do (p j) go') k
      second (goes_on m) = goes_on (λ j le. more_in j (cases_lt j s.cost) (λ ge. m (j - s.cost) (omega (arith, s.is))))
      second (settled t) =
          let e1 : (j : ℕ) → s.cost + t.cost + j ≡ s.cost + (t.cost + j) = λ j. omega arith in
          settled (record {
            cost = s.cost + t.cost;
            rest = t.rest;
            is = omega (arith, s.is, t.is);
            ending = t.ending;
            early = λ j lt. more_in j (cases_lt j s.cost) (λ ge. t.early (j - s.cost) (omega arith));
            same = λ j. ap (λ z. then_do (o z) go) (e1 j) ∙ past (t.cost + j) ∙ t.same j;
            later = λ j. ap (λ z. then_do (p z) go') (e1 j) ∙ past' (t.cost + j) ∙ t.later j;
          })

  -- what goes on from an end
  then_settled : (k : ℕ) (s : Settled o p k) (e : Ending A) → s.ending ≡ e → ((a : A) (m : ℕ) → Verdict (go a) (go' a) m) → Verdict (λ j. then_do (o j) go) (λ j. then_do (p j) go') k
  then_settled k s (finished a) e h = after_result k s a (λ j. ap (λ z. with_left z j) e) (h a s.rest)
  then_settled k s (stopped t line w) e h = after_end k s (stopped t line w) (λ j. ap (λ z. then_do (with_left z j) go) e) (λ j. ap (λ z. then_do (with_left z j) go') e)
  then_settled k s (filled w) e h = after_end k s (filled w) (λ j. ap (λ z. then_do (with_left z j) go) e) (λ j. ap (λ z. then_do (with_left z j) go') e)

  -- one run after another
  pub then_verdict : (k : ℕ) → Verdict o p k → ((a : A) (m : ℕ) → Verdict (go a) (go' a) m) → Verdict (λ j. then_do (o j) go) (λ j. then_do (p j) go') k
  then_verdict k (goes_on m) h = goes_on (λ j le. more_then (o j) go (m j le))
  then_verdict k (settled s) h = then_settled k s s.ending refl h
