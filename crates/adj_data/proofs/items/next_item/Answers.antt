use Rattle.std.proofs.Common.{◌≡◌, ◌-◌, ◌∙◌, ◌∷◌, List, ℕ, length, take, drop, sym, ap, arith}
use Rattle.std.proofs.lemmas.List.{length-drop, take_rest}
use Rattle.std.specs.List.{prefix_len}
use Rattle.def_text.specs.Char.{is_blank}
use Rattle.adj_data.specs.Items.{texts_in}
use Rattle.adj_data.proofs.Cutting.{text_len, skipped, none_left, first_text}
use Rattle.adj_data.proofs.items.next_item.Goals as goal

-- what stands behind so many characters, as the code slices it
behind : (l : List ℕ) (n : ℕ) → take (length l - n) (drop n l) ≡ drop n l
behind l n = take_rest l n

pub returns-then-len-eq0 : goal.returns-then-len-eq0
returns-then-len-eq0 c =
    let line = c.args.line.now in
    let rest : take (length line - c.blanks.result) (drop c.blanks.result line) ≡ drop (prefix_len is_blank line) line = behind line c.blanks.result ∙ ap (λ n. drop n line) c.blanks.ensures.value in
    none_left line (ap text_len (sym rest) ∙ sym c.others-len.ensures.value ∙ c.if-len-eq0.true)

pub returns-else-len-eq0 : goal.returns-else-len-eq0
returns-else-len-eq0 c =
    let line = c.args.line.now in
    let r = drop (prefix_len is_blank line) line in
    let n = c.others-len.result in
    let t = take (length line - c.blanks.result) (drop c.blanks.result line) in
    let rest : t ≡ r = behind line c.blanks.result ∙ ap (λ k. drop k line) c.blanks.ensures.value in
    let len : n ≡ text_len t = c.others-len.ensures.value in
    let some : text_len r ≡ 0 → ⊥ = λ e. c.if-len-eq0.false (len ∙ ap text_len rest ∙ e) in
    let there : n ≡ text_len r = len ∙ ap text_len rest in (
      skipped line ∙ first_text r some ∙ ap (λ k. take k r ∷ texts_in (drop k r)) (sym there) ∙ ap (λ z. take n z ∷ texts_in (drop n z)) (sym rest) ∙ ap (λ z. take n t ∷ texts_in z) (sym (behind t n)),
      let shorter : length (take (length t - n) (drop n t)) ≡ length t - n = ap length (behind t n) ∙ length-drop n t in
          let small : length t ≡ length line - prefix_len is_blank line = ap length rest ∙ length-drop (prefix_len is_blank line) line in
          omega (arith, shorter, small, c.others-len.ensures.within, c.if-len-eq0.false, some),
    )
