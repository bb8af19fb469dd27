-- How many words each list of a table has.
-- Assumes nothing.
use Prim.Native.Nat.{ℕ, ◌+◌, ◌*◌}
use mathlib.Core.Path.{◌≡◌, refl, ap₂, ◌∙◌}
use mathlib.Core.Bool.{Bool, true, false, cond}
use mathlib.Core.List.{List, [], ◌∷◌}
use native.Mathlib.Omega.{arith}
use lib.Dec.{eqb}
use lib.ListN.{length, length-append}
use Rattle.text_store.specs.Words.{kind_of, own_from, condition_from, is_binder, term_tag, is_use}
use Rattle.text_encoding.specs.Numbers.{first_at, binds_one, condition_length, own_length, lists_length, condition_start, width_of, is_signed}
use Rattle.text_encoding.specs.Encoded.{start_word, end_word, variable_words, operands, construct_words, term_words, list_words, lists_words, literal_words}
use Rattle.text_encoding.proofs.Writing.{flat_length}

-- of two lists, both as long as n
either_length : (b : Bool) (xs ys : List ℕ) (n : ℕ) → length xs ≡ n → length ys ≡ n → length (cond b xs ys) ≡ n
either_length true xs ys n e f = e
either_length false xs ys n e f = f

-- a list, or none
maybe_length : (b : Bool) (xs : List ℕ) → length (cond b xs []) ≡ length xs * cond b 1 0
maybe_length true xs = omega arith
maybe_length false xs = omega arith

pub variable_length : (xs ns : List ℕ) (i : ℕ) → length (variable_words xs ns i) ≡ 4 * binds_one ns i
variable_length xs ns i = maybe_length (is_binder ns i) (i ∷ width_of xs ns i ∷ cond (is_signed xs ns i) 1 0 ∷ 0 ∷ [])

pub operands_length : (xs ns rs : List ℕ) (r i kind : ℕ) → length (operands xs ns rs r i kind) ≡ 4
operands_length xs ns rs r i kind =
    either_length (eqb kind 3) _ _ 4 refl
    (either_length (eqb kind 5) _ _ 4 refl
    (either_length (eqb kind 6) _ _ 4 refl (either_length (eqb kind 7) _ _ 4 refl (either_length (eqb kind 8) _ _ 4 refl refl))))

pub construct_length : (xs ns rs : List ℕ) (r i : ℕ) → length (construct_words xs ns rs r i) ≡ 8
construct_length xs ns rs r i =
    let h : List ℕ = operands xs ns rs r i (kind_of ns i) in
    let t : List ℕ = start_word (condition_start ns i) (condition_length ns i) ∷ end_word (condition_start ns i) (condition_length ns i) ∷ [] in
    omega (arith, operands_length xs ns rs r i (kind_of ns i), length-append h t)

pub term_length : (xs ns ts : List ℕ) (a i t : ℕ) → length (term_words xs ns ts a i t) ≡ 3
term_length xs ns ts a i t = either_length (is_use (term_tag ts t)) _ _ 3 refl refl

pub list_length : (xs ns ts : List ℕ) (a i t n : ℕ) → length (list_words xs ns ts a i t n) ≡ 3 * n
list_length xs ns ts a i t n = flat_length 3 n t (term_words xs ns ts a i) (term_length xs ns ts a i)

pub lists_words_length : (xs ns ts rs : List ℕ) (r i : ℕ) → length (lists_words xs ns ts rs r i) ≡ 3 * lists_length ns i
lists_words_length xs ns ts rs r i =
    let a : ℕ = first_at rs r i in
    let p : ℕ = condition_from ns i in
    let q : ℕ = own_from ns i in
    let m : ℕ = condition_length ns i in
    let n : ℕ = own_length ns i in
    length-append (list_words xs ns ts a i p m) (list_words xs ns ts a i q n) ∙ ap₂ ◌+◌ (list_length xs ns ts a i p m) (list_length xs ns ts a i q n)
    ∙ (let z : 3 * m + 3 * n ≡ 3 * (m + n) = omega arith in z)

pub literal_length : (xs ns : List ℕ) (i : ℕ) → length (literal_words xs ns i) ≡ 8
literal_length xs ns i = either_length (eqb (kind_of ns i) 6) _ _ 8 (flat_length 1 8 0 _ (λ j. refl)) refl
