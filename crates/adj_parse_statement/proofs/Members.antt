-- Members: lists between commas are read one member at a time.
use Rattle.std.proofs.Common.{◌≡◌, ◌≤◌, ◌<◌, ℕ, zero, suc, List, [], ◌∷◌, length, Some, None, option_map, IfSome, refl, ap, ◌∙◌, arith}
use Rattle.def_text.specs.Machine.{chosen}
use Rattle.def_text.specs.Lexeme.{Lexeme, Mark}
use Rattle.def_text.specs.declared.token.TokenKind.TheVariants.{Comma}
use Rattle.adj_parse_statement.proofs.Shorter.{Shortens}
use Rattle.adj_parse_statement.specs.Phrases.{Read, ◌>>=◌, behind_comma, members, members_behind}

-- as many as there are lexemes are enough
enough : {A B : Type 0} (push : B → A → B) (reader : List Lexeme → Read A) → Shortens reader → (m n : ℕ) (before : B) (ws : List Lexeme) → length ws ≤ m → length ws ≤ n → members push reader m before ws ≡ members push reader n before ws
unfolding members
enough push reader short zero zero before ws h k = refl
enough push reader short zero (suc n) before [] h k = refl
enough push reader short zero (suc n) before (w ∷ ws) h k = absurd (omega arith)
enough push reader short (suc m) zero before [] h k = refl
enough push reader short (suc m) zero before (w ∷ ws) h k = absurd (omega arith)
enough push reader short (suc m) (suc n) before [] h k = refl
enough {A} push reader short (suc m) (suc n) before (Mark Comma ∷ us) h k =
    elim (reader us) as (λ o. IfSome o (λ r. length r.1 ≤ length us) → (o >>= λ r. members push reader m (push before r.0) r.1) ≡ (o >>= λ r. members push reader n (push before r.0) r.1)) [
      | None ↦ λ s. refl
      | Some r ↦ λ s. enough push reader short m n (push before r.0) r.1 (omega arith) (omega arith)
    ] (short us)
enough push reader short (suc m) (suc n) before (w ∷ ws) h k = refl

-- the members behind some are none, or the next one and those behind it
pub members_on : {A B : Type 0} (push : B → A → B) (reader : List Lexeme → Read A) → Shortens reader → (before : B) (ws : List Lexeme) → members_behind push reader before ws ≡ chosen (behind_comma ws) (λ us. reader us >>= λ r. members_behind push reader (push before r.0) r.1) (Some (before, ws))
unfolding members members_behind
members_on push reader short before [] = refl
members_on push reader short before (Mark Comma ∷ us) =
    elim (reader us) as (λ o. IfSome o (λ r. length r.1 ≤ length us) → (o >>= λ r. members push reader (length us) (push before r.0) r.1) ≡ (o >>= λ r. members push reader (length r.1) (push before r.0) r.1)) [
      | None ↦ λ s. refl
      | Some r ↦ λ s. enough push reader short (length us) (length r.1) (push before r.0) r.1 s (omega arith)
    ] (short us)
members_on push reader short before (w ∷ ws) = refl

-- what is read when each member and the list are seen in another way
pub members-seen : {A B C D : Type 0} (push : B → A → B) (other : D → C → D) (reader : List Lexeme → Read A) (j : A → C) (k : B → D) → ((b : B) (a : A) → other (k b) (j a) ≡ k (push b a)) → (n : ℕ) (before : B) (ws : List Lexeme) → members other (λ us. option_map (λ r. (j r.0, r.1)) (reader us)) n (k before) ws ≡ option_map (λ r. (k r.0, r.1)) (members push reader n before ws)
unfolding members
members-seen push other reader j k same zero before ws = refl
members-seen push other reader j k same (suc n) before [] = refl
members-seen {A} {B} {C} {D} push other reader j k same (suc n) before (Mark Comma ∷ us) =
    let seen : List Lexeme → Read C = λ vs. option_map (λ (r : A × List Lexeme). (j r.0, r.1)) (reader vs) in
    elim (reader us) as (λ (o : Read A). (option_map (λ (r : A × List Lexeme). (j r.0, r.1)) o >>= λ (r : C × List Lexeme). members other seen n (other (k before) r.0) r.1) ≡ option_map (λ (r : B × List Lexeme). (k r.0, r.1)) (o >>= λ (r : A × List Lexeme). members push reader n (push before r.0) r.1)) [
      | None ↦ refl
      | Some r ↦ ap (λ (b : D). members other seen n b r.1) (same before r.0) ∙ members-seen push other reader j k same n (push before r.0) r.1
    ]
members-seen push other reader j k same (suc n) before (w ∷ ws) = refl

-- behind a comma and a member less is left
pub shorter_behind : {A : Type 0} (reader : List Lexeme → Read A) → Shortens reader → (ws us vs : List Lexeme) (x : A) → Some us ≡ behind_comma ws → Some (x, vs) ≡ reader us → length vs < length ws
shorter_behind reader short [] us vs x h k = absurd cc
shorter_behind {A} reader short (Mark Comma ∷ ws) us vs x h k = let e : us ≡ ws = cc in let n = left (reader us) k (short us) in omega (arith, n, ap length e)
  where
    left : (o : Read A) → Some (x, vs) ≡ o → IfSome o (λ r. length r.1 ≤ length us) → length vs ≤ length us
    left None h k = absurd cc
    left (Some r) h k = let e : (x, vs) ≡ r = cc in omega (arith, ap (λ (p : A × List Lexeme). length p.1) e)
shorter_behind reader short (w ∷ ws) us vs x h k = absurd cc
