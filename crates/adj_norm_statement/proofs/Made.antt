-- Names of locals, made one after another.
use Rattle.std.proofs.Common.{◌≡◌, ◌⊎◌, inl, inr, Bool, true, false, nat_lt, ℕ, zero, suc, ◌+◌, ◌-◌, ◌<◌, ◌≤◌, List, [], ◌∷◌, ◌++◌, length, take, get_or, refl, sym, ap, subst, ◌∙◌, arith, append-nil, append_assoc, length-append, add-one}
use Rattle.std.proofs.lemmas.Bool.Decides.{nat_tests}
use Rattle.std.proofs.lemmas.List.{take-append-le, get_or_append_left}
use Rattle.std.proofs.Math.Seq.{get_or-append_seam, take-length}
use Rattle.adj_tree.specs.Code.{plain}
use Rattle.def_names.specs.Fresh.{fresh}
use Rattle.def_kernel.specs.Kernel.{wanted_local, local_names, local_of}
use Rattle.adj_norm_statement.specs.Made.{outside, AreMade}

length-local_names : (taken : List (List ℕ)) (k : ℕ) → length (local_names taken k) ≡ k
length-local_names taken zero = refl
length-local_names taken (suc k) = length-append (local_names taken k) (fresh (wanted_local k) (taken ++ local_names taken k) ∷ []) ∙ ap (λ n. n + 1) (length-local_names taken k) ∙ add-one k

-- below the next number, or the last one below it
below : (i k : ℕ) → i < suc k → (i < k) ⊎ (i ≡ k)
below i k h = go (nat_lt i k) refl
  where
    go : (b : Bool) → nat_lt i k ≡ b → (i < k) ⊎ (i ≡ k)
    go true e = let l : i < k = grind (arith, nat_tests) in inl l
    go false e = let l : k ≤ i = grind (arith, nat_tests) in let same : i ≡ k = omega arith in inr same

-- the name at a place is the fresh one of its number
local_at : (taken : List (List ℕ)) (k i : ℕ) (d : List ℕ) → i < k → get_or (local_names taken k) i d ≡ fresh (wanted_local i) (taken ++ local_names taken i)
local_at taken zero i d h = absurd (omega arith)
local_at taken (suc k) i d h = go (λ l. local_at taken k i d l) (below i k h)
  where
    last : List ℕ
    last = fresh (wanted_local k) (taken ++ local_names taken k)

    go : (i < k → get_or (local_names taken k) i d ≡ fresh (wanted_local i) (taken ++ local_names taken i)) → (i < k) ⊎ (i ≡ k) → get_or (local_names taken k ++ (last ∷ [])) i d ≡ fresh (wanted_local i) (taken ++ local_names taken i)
    go ih (inl l) = get_or_append_left (local_names taken k) (last ∷ []) d i (subst (λ n. i < n) (sym (length-local_names taken k)) l) ∙ ih l
    go ih (inr e) =
        ap (λ n. get_or (local_names taken k ++ (last ∷ [])) n d) (e ∙ sym (length-local_names taken k)) ∙ get_or-append_seam (local_names taken k) last [] d
        ∙ ap (λ n. fresh (wanted_local n) (taken ++ local_names taken n)) (sym e)

module _ (taken longer : List (List ℕ)) (names : List (List ℕ)) (name : List ℕ) (m : AreMade taken names) (e : name ≡ fresh (wanted_local (length names)) taken) (behind : longer ≡ taken ++ name ∷ []) (more : List (List ℕ)) (h : more ≡ names ++ name ∷ []) where
  one_longer : length longer ≡ suc (length taken)
  one_longer = ap length behind ∙ length-append taken (name ∷ []) ∙ add-one (length taken)

  one_more : length more ≡ suc (length names)
  one_more = ap length h ∙ length-append names (name ∷ []) ∙ add-one (length names)

  outside_same : outside longer more ≡ outside taken names
  outside_same =
      let n : length longer - length more ≡ length taken - length names = omega (arith, one_longer, one_more) in
      let within : length taken - length names ≤ length taken = omega arith in
      (λ i. take (n i) (behind i)) ∙ take-append-le (length taken - length names) taken (name ∷ []) within

  -- one more local gets its name
  pub one_made : AreMade longer more
  one_made =
      let before = outside taken names in
      let k = length names in
      let known : taken ≡ before ++ local_names before k = m.all ∙ ap (λ z. before ++ z) m.locals in
      let last : name ≡ fresh (wanted_local k) (before ++ local_names before k) = e ∙ ap (fresh (wanted_local k)) known in
      record {
        all = behind ∙ ap (λ z. z ++ name ∷ []) m.all ∙ append_assoc before names (name ∷ []) ∙ (λ i. sym outside_same i ++ sym h i);
        locals = h ∙ (λ i. m.locals i ++ last i ∷ []) ∙ (λ i. local_names (sym outside_same i) (sym one_more i));
      }

  -- and the locals stay
  pub same_made : local_of (outside longer more) ≡ local_of (outside taken names)
  same_made = ap local_of outside_same

-- a name that was made is that of its local
pub made_at : (taken names : List (List ℕ)) (number : ℕ) (d : List ℕ) → AreMade taken names → number < length names → plain (get_or names number d) ≡ local_of (outside taken names) number
made_at taken names number d m h = ap (λ z. plain (get_or z number d)) m.locals ∙ ap plain (local_at (outside taken names) (length names) number d h)

-- before the first local all that is taken stands outside
pub none_made : (taken : List (List ℕ)) → outside taken [] ≡ taken
none_made taken = let n : length taken - 0 ≡ length taken = omega arith in ap (λ k. take k taken) n ∙ take-length taken

pub made_none : (taken names : List (List ℕ)) → names ≡ [] → AreMade taken names
made_none taken names h = subst (AreMade taken) (sym h) (record { all = sym (append-nil (outside taken []) ∙ none_made taken); locals = refl })
