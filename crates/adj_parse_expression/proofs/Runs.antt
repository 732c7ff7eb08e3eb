-- Runs: a run of the machine over the tokens that are left.
use Rattle.std.proofs.Common.{◌≡◌, ℕ, suc, List, [], ◌∷◌, Option, Some, None, Result, Ok, Err, true, false, refl, sym, ap, subst, arith, ◌∙◌, Bor, Box, Global}
use Rattle.std.specs.Prelude.{option_map, option_and_then, IfOk}
use Rattle.adj_tree.specs.Code.{Term}
use Rattle.adj_tree.specs.View.{term_of}
use Rattle.adj_tree.specs.declared.expr.Expr.{Expr}
use Rattle.adj_tree.specs.declared.fault.Memory.{Memory}
use Rattle.def_text.specs.declared.token.Token.{Token}
use Rattle.def_text.specs.Machine.{Algebra, State, Nothing, Callee, Operand, wanting, is_stop, step, finish, whole, chosen, stopped, read}
use Rattle.def_text.specs.Lexeme.{Lexeme, lexemes_of}
use Rattle.adj_parse_expression.specs.declared.flaw.Flaw.{Flaw}
use Rattle.adj_parse_expression.specs.Front.{AreSlices, front_expression}
use Rattle.adj_parse_expression.specs.Partial.{Partial, algebra, ended}
use Rattle.adj_parse_expression.specs.Stack.{closed}
use Rattle.adj_parse_expression.specs.View.{seen}
use Rattle.adj_parse_expression.proofs.Front.{found_in, front_is}

module _ {X : Type 0} (alg : Algebra X) where
  pub finish-closed : (s : State X) → finish alg s ≡ option_and_then whole (closed alg s)
  finish-closed (frames, Nothing) = refl
  finish-closed (frames, Callee x) = refl
  finish-closed (frames, Operand x) = refl

  module _ (s : State X) (w : Lexeme) (ws lexemes : List Lexeme) (front : lexemes ≡ w ∷ ws) where
    -- the next lexeme is taken
    pub read_more : (t : State X) → step alg s w ≡ Some t → read alg s lexemes ≡ read alg t ws
    unfolding read
    read_more t h = ap (read alg s) front ∙ ap (λ o. chosen o (λ t. read alg t ws) (stopped w ws (finish alg s))) h

    stuck : step alg s w ≡ None → read alg s lexemes ≡ stopped w ws (finish alg s)
    unfolding read
    stuck h = ap (read alg s) front ∙ ap (λ o. chosen o (λ t. read alg t ws) (stopped w ws (finish alg s))) h

    -- the expression ends before the next lexeme
    pub read_ends : (t : State X) → step alg s w ≡ None → closed alg t ≡ closed alg s → is_stop w ≡ true → read alg s lexemes ≡ option_map (λ x. (x, lexemes)) (finish alg t)
    read_ends t h c stop =
        let same : finish alg s ≡ finish alg t = finish-closed s ∙ ap (option_and_then whole) (sym c) ∙ sym (finish-closed t) in
        stuck h ∙ rw stop refl ∙ ap (option_map (λ x. let r : X × List Lexeme = (x, w ∷ ws) in r)) same ∙ ap (λ us. option_map (λ x. let r : X × List Lexeme = (x, us) in r) (finish alg t)) (sym front)

    -- no expression stands here
    pub read_fails : step alg s w ≡ None → is_stop w ≡ false → read alg s lexemes ≡ None
    read_fails h stop = stuck h ∙ rw stop refl

  pub read_whole : (s : State X) (lexemes : List Lexeme) → lexemes ≡ [] → read alg s lexemes ≡ option_map (λ x. (x, lexemes)) (finish alg s)
  unfolding read
  read_whole s lexemes e = ap (read alg s) e ∙ ap (λ us. option_map (λ x. let r : X × List Lexeme = (x, us) in r) (finish alg s)) (sym e)

-- tokens behind the first
pub AreSlices-rest : (text : List ℕ) (tokens behind : List Token) (t : Token) → tokens ≡ t ∷ behind → AreSlices text tokens → AreSlices text behind
AreSlices-rest text tokens behind t e slices = λ k d h. subst (AreSlices text) e slices (suc k) d (omega arith)

module _ (limit : ℕ) (text : List ℕ) (tokens : List Token) where
  abbrev Answer : Type 0
  Answer = Option (Result (Box Expr Global) Flaw × Bor (List Token))

  abbrev with_lexemes : Result Term Flaw × List Token → Result Term Flaw × List Lexeme
  with_lexemes p = (p.0, lexemes_of text p.1)

  shown : (found : Answer) → option_map (λ f. (seen (λ e. term_of e.value) f.0, lexemes_of text f.1.now)) found ≡ option_map with_lexemes (option_map (λ f. (seen (λ e. term_of e.value) f.0, f.1.now)) found)
  shown None = refl
  shown (Some f) = refl

  ended-lexemes : (rest : List Token) (o : Option Partial) → option_map with_lexemes (ended rest o) ≡ option_map found_in (option_map (λ x. (x, lexemes_of text rest)) o)
  ended-lexemes rest None = refl
  ended-lexemes rest (Some x) = refl

  -- what is found at the end is what stands at the front
  pub ends_front : (rest : List Token) (o : Option Partial) (r : Result Answer Memory) → read (algebra limit) (wanting []) (lexemes_of text tokens) ≡ option_map (λ x. (x, lexemes_of text rest)) o → IfOk r (λ found. option_map (λ f. (seen (λ e. term_of e.value) f.0, f.1.now)) found ≡ ended rest o) → IfOk r (λ found. option_map (λ f. (seen (λ e. term_of e.value) f.0, lexemes_of text f.1.now)) found ≡ front_expression limit (lexemes_of text tokens))
  ends_front rest o (Err e) total h = tt
  ends_front rest o (Ok found) total h = shown found ∙ ap (option_map with_lexemes) h ∙ ended-lexemes rest o ∙ ap (option_map found_in) (sym total) ∙ front_is limit (lexemes_of text tokens)

  pub fails_front : read (algebra limit) (wanting []) (lexemes_of text tokens) ≡ None → None ≡ front_expression limit (lexemes_of text tokens)
  fails_front total = ap (option_map found_in) (sym total) ∙ front_is limit (lexemes_of text tokens)
