-- What several calls write, one after the other.
-- Assumes nothing.
use Prim.Native.Nat.{ℕ, ◌+◌}
use mathlib.Core.Path.{◌≡◌, refl, ap, ◌∙◌}
use mathlib.Core.List.{List, [], ◌∷◌, ◌++◌}
use native.Mathlib.Omega.{arith}
use lib.ListN.{length, replicate}
use Rattle.table_layout.specs.Places.{rules_at, variables_at, constructs_at, terms_at, literals_at}
use Rattle.basis.specs.Limits.{table_words}
use Rattle.text_store.specs.Words.{kind_of, node_size}
use Rattle.text_encoding.specs.Lists.{flat, written}
use Rattle.text_encoding.specs.Numbers.{condition_length, condition_start}
use Rattle.text_encoding.specs.Encoded.{header_words, rule_words, variable_words, start_word, end_word, operands, kind_word, construct_words, lists_words, literal_words, encoded}
use Rattle.text_encoding.proofs.Writing.{written_next}
use Rattle.text_encoding.proofs.Sizes.{operands_length}

-- the operands of a kind
pub operands_written : (xs ns rs : List ℕ) (r i k kind : ℕ) (ws w : List ℕ) → kind ≡ kind_of ns i → w ≡ written ws k (operands xs ns rs r i kind) → w ≡ written ws k (operands xs ns rs r i (kind_of ns i))
operands_written xs ns rs r i k kind ws w e f = f ∙ ap (λ (n : ℕ). written ws k (operands xs ns rs r i n)) e

-- a construct: what it is, its operands, its condition
pub construct_written : (xs ns rs : List ℕ) (r i k : ℕ) (ws w v u : List ℕ)
    → w ≡ written ws k (kind_word xs ns i ∷ node_size ns i ∷ [])
    → v ≡ written w (k + 2) (operands xs ns rs r i (kind_of ns i))
    → u ≡ written v (k + 6) (start_word (condition_start ns i) (condition_length ns i) ∷ end_word (condition_start ns i) (condition_length ns i) ∷ [])
    → u ≡ written ws k (construct_words xs ns rs r i)
construct_written xs ns rs r i k ws w v u e f g =
    let head : List ℕ = kind_word xs ns i ∷ node_size ns i ∷ [] in
    let own : List ℕ = operands xs ns rs r i (kind_of ns i) in
    let last : List ℕ = start_word (condition_start ns i) (condition_length ns i) ∷ end_word (condition_start ns i) (condition_length ns i) ∷ [] in
    let l : length own ≡ 4 = operands_length xs ns rs r i (kind_of ns i) in
    written_next ws v u k (k + 6) (head ++ own) last (written_next ws w v k (k + 2) head own e refl f) (omega (arith, l)) g

-- the areas of a table
pub table_written : (xs ns ts rs : List ℕ) (n r : ℕ) (a b c d e f g : List ℕ)
    → a ≡ replicate table_words 0
    → b ≡ written a 0 (header_words ns n r)
    → c ≡ written b rules_at (flat r 0 (rule_words ns rs))
    → d ≡ written c variables_at (flat n 0 (variable_words xs ns))
    → e ≡ written d constructs_at (flat n 0 (construct_words xs ns rs r))
    → f ≡ written e terms_at (flat n 0 (lists_words xs ns ts rs r))
    → g ≡ written f literals_at (flat n 0 (literal_words xs ns))
    → g ≡ encoded xs ns ts rs n r
unfolding encoded
table_written xs ns ts rs n r a b c d e f g ea eb ec ed ee ef eg =
    eg
    ∙ ap (λ (l : List ℕ). written l literals_at (flat n 0 (literal_words xs ns)))
    (ef
    ∙ ap (λ (l : List ℕ). written l terms_at (flat n 0 (lists_words xs ns ts rs r)))
    (ee
    ∙ ap (λ (l : List ℕ). written l constructs_at (flat n 0 (construct_words xs ns rs r)))
    (ed
    ∙ ap (λ (l : List ℕ). written l variables_at (flat n 0 (variable_words xs ns)))
    (ec ∙ ap (λ (l : List ℕ). written l rules_at (flat r 0 (rule_words ns rs))) (eb ∙ ap (λ (l : List ℕ). written l 0 (header_words ns n r)) ea)))))
